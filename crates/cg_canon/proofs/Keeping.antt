-- What a work keeps from one call to the next.
use Rattle.std.proofs.Common.{refl, ℕ, ap, ◌∙◌}
use Rattle.cg_cells.specs.Store.{Spends, State}
use Rattle.cg_nodes.specs.Meant.{Meant}
use Rattle.cg_canon.specs.declared.rest.WorkRest.{WorkRest}
use Rattle.cg_canon.specs.Works.{Keeps}

pub keeps_all : {R : Type 0} (s : State Meant (WorkRest R)) → Keeps s s
keeps_all s = record {
  known = λ i x e. e;
  noted = λ x h. h;
  of_store = refl;
  name = refl;
  share = refl;
  start = refl;
  limit = refl;
}

pub keeps_then : {R : Type 0} (s t u : State Meant (WorkRest R)) → Keeps s t → Keeps t u → Keeps s u
keeps_then s t u a b = record {
  known = λ i x e. b.known i x (a.known i x e);
  noted = λ x h. b.noted x (a.noted x h);
  of_store = b.of_store ∙ a.of_store;
  name = b.name ∙ a.name;
  share = b.share ∙ a.share;
  start = b.start ∙ a.start;
  limit = b.limit ∙ a.limit;
}

-- a call of a store keeps all that a work keeps
pub spends_keeps : {R : Type 0} (n : ℕ) (s t : State Meant (WorkRest R)) → Spends n s t → Keeps s t
spends_keeps n s t k = record {
  known = k.known;
  noted = k.noted;
  of_store = ap (λ (r : WorkRest _). r.of_store) k.rest;
  name = ap (λ (r : WorkRest _). r.name) k.rest;
  share = ap (λ (r : WorkRest _). r.share) k.rest;
  start = ap (λ (r : WorkRest _). r.start) k.rest;
  limit = ap (λ (r : WorkRest _). r.limit) k.rest;
}
