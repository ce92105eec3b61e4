-- Items that are made one after another in a loop, as `?` hands a refusal on, with a table of their forms.
use Rattle.std.proofs.Common.{◌≡◌, ℕ, suc, ◌+◌, ◌*◌, ◌<◌, ◌≤◌, arith, refl, ap, sym, ◌∙◌, List, [], ◌∷◌, ◌++◌, map, take, drop, length, Result, Ok, Err}
use Rattle.std.specs.List.{flat_map}
use Rattle.std.specs.Result.{IsErrAnd}
use Rattle.std.proofs.Math.Nat.{suc-mul}
use Rattle.std.proofs.Math.Seq.{take-suc}
use Rattle.std.proofs.lemmas.Grind.{flat_map-append}
use Rattle.std.proofs.lemmas.List.{append-nil, map-append, take-append-drop}
use Rattle.std.proofs.lemmas.Result.{err_from_is_err_and}
use Rattle.cg_arena.specs.Arena.{game_of}
use Rattle.cg_canon.proofs.InternerSteps.{begins_none, begins_then}
use Rattle.cg_canon.proofs.Keeping.{keeps_then}
use Rattle.cg_canon.proofs.MadeSteps.{made_after, made_memory, made_none, stopped}
use Rattle.cg_canon.specs.Arena.{Begins}
use Rattle.cg_canon.specs.Items.{Item}
use Rattle.cg_canon.specs.Made.{ItemsMade}
use Rattle.cg_canon.specs.Works.{Keeps}
use Rattle.cg_canon.specs.declared.fault.ValueFault.{ValueFault}
use Rattle.cg_canon.specs.declared.fault.ValueFault.TheVariants.{Memory}
use Rattle.cg_canon.specs.declared.rest.WorkRest.{WorkRest}
use Rattle.cg_cells.specs.Store.{State}
use Rattle.cg_form.specs.Game.{Game, node}
use Rattle.cg_nodes.specs.Meant.{Meant}
use Rattle.cg_sum.specs.Progress.{FormMade, FormsMade, HoldsForms}
use Rattle.cg_sum.proofs.Tables.{holds_later, holds_more}

-- ---- the items of the first games of a list

module _ (gs : List Game) (i : ℕ) (within : i < length gs) where
  pub take_next : take (i + 1) gs ≡ take i gs ++ (game_of gs i ∷ [])
  take_next = ap (λ n. take n gs) (let n : i + 1 ≡ suc i = omega arith in n) ∙ take-suc gs i (node [] []) within

  take_split : gs ≡ (take i gs ++ (game_of gs i ∷ [])) ++ drop (i + 1) gs
  take_split = sym (take-append-drop (i + 1) gs) ∙ ap (λ z. z ++ drop (i + 1) gs) take_next

  pub map_next : (f : Game → Item) → map f (take (i + 1) gs) ≡ map f (take i gs) ++ (f (game_of gs i) ∷ [])
  map_next f = ap (map f) take_next ∙ map-append f (take i gs) (game_of gs i ∷ [])

  pub map_split : (f : Game → Item) → map f gs ≡ (map f (take i gs) ++ (f (game_of gs i) ∷ [])) ++ map f (drop (i + 1) gs)
  map_split f =
      ap (map f) take_split ∙ map-append f (take i gs ++ (game_of gs i ∷ [])) (drop (i + 1) gs)
      ∙ ap (λ z. z ++ map f (drop (i + 1) gs)) (map-append f (take i gs) (game_of gs i ∷ []))

  pub flat_next : (f : Game → List Item) → flat_map f (take (i + 1) gs) ≡ flat_map f (take i gs) ++ f (game_of gs i)
  flat_next f =
      ap (flat_map f) take_next ∙ flat_map-append f (take i gs) (game_of gs i ∷ [])
      ∙ ap (λ z. flat_map f (take i gs) ++ z) (append-nil (f (game_of gs i)))

  pub flat_split : (f : Game → List Item) → flat_map f gs ≡ (flat_map f (take i gs) ++ f (game_of gs i)) ++ flat_map f (drop (i + 1) gs)
  flat_split f =
      ap (flat_map f) take_split ∙ flat_map-append f (take i gs ++ (game_of gs i ∷ [])) (drop (i + 1) gs)
      ∙ ap (λ z. z ++ flat_map f (drop (i + 1) gs)) (flat_map-append f (take i gs) (game_of gs i ∷ [])
      ∙ ap (λ z. flat_map f (take i gs) ++ z) (append-nil (f (game_of gs i))))

pub next_row : (i n : ℕ) → i * n + n ≡ (i + 1) * n
next_row i n = sym (ap (λ z. z * n) (let e : i + 1 ≡ suc i = omega arith in e) ∙ suc-mul i n)

-- ---- forms

module _ {R : Type 0} {form : ℕ → Game} {least : ℕ} where
  -- nothing was made
  pub forms_none : {w : State Meant (WorkRest R)} {gs : List Game} {n : ℕ} {table : List ℕ} → HoldsForms gs form n table → least ≤ w.spare
      → FormsMade w w gs gs least [] form n table (Ok (tt {0}))
  forms_none {w = w} {gs = gs} h l = record { begins = begins_none gs; made = made_none w (tt {0}); spare = l; holds = h }

  module _ {T : Type 0} {w v x : State Meant (WorkRest R)} {fs gs hs : List Game} {xs all : List Item} {n : ℕ} {table : List ℕ} {t : T}
      (before : FormsMade w v fs gs least xs form n table (Ok t)) where
    -- items, and then more
    pub forms_next : {U : Type 0} {ys : List Item} {k m : ℕ} {more : List ℕ} {u : U} → FormsMade v x gs hs least ys form m more (Ok u) → all ≡ xs ++ ys → k ≡ m
        → FormsMade w x fs hs least all form k more (Ok (tt {0}))
    forms_next {ys = ys} {u = u} after e f =
        let made = made_after w v x xs ys (Ok t) t (Ok u) refl before.made after.made in
        rw (e, f) (record {
          begins = begins_then fs gs hs before.begins after.begins;
          made = record { charged = made.charged; refused = tt; keeps = made.keeps };
          spare = after.spare;
          holds = after.holds;
        })

    -- one form more, which is put in the table
    pub forms_put : {item : Item} {g : Game} {own k i : ℕ} {more : List ℕ} → least ≤ own → FormMade v x gs hs own item g (Ok i) → g ≡ form n
        → more ≡ table ++ (i ∷ []) → all ≡ xs ++ (item ∷ []) → k ≡ n + 1 → FormsMade w x fs hs least all form k more (Ok (tt {0}))
    forms_put {item = item} {i = i} l one is put e f =
        let made = made_after w v x xs (item ∷ []) (Ok t) t (Ok i) refl before.made one.made in
        rw e (record {
          begins = begins_then fs gs hs before.begins one.begins;
          made = record { charged = made.charged; refused = tt; keeps = made.keeps };
          spare = (let s = one.spare in omega (arith, l, s));
          holds = holds_more form hs n _ _ table _ (holds_later form gs hs one.begins n table before.holds) (rw (← is) one.at) put f;
        })

    -- a refusal of the later items, or want of memory
    pub forms_handed : {U V : Type 0} {ys : List Item} {q : Result V ValueFault} {f : ValueFault} {k : ℕ} {more : List ℕ} (back : List Item) → Begins gs hs
        → ItemsMade {T = U} v x ys (Err f) → least ≤ x.spare → IsErrAnd q (λ e. e ≡ f) → all ≡ (xs ++ ys) ++ back
        → FormsMade w x fs hs least all form k more q
    forms_handed {U = U} {ys = ys} {q = q} {f = f} back begins after spare a e =
        let p = err_from_is_err_and q a in
        rw (e, p.1 ∙ ap Err p.2) (record {
          begins = begins_then fs gs hs before.begins begins;
          made = stopped w x (xs ++ ys) back (Err f) (Err f) f refl refl (made_after {U = U} w v x xs ys (Ok t) t (Err f) refl before.made after);
          spare = spare;
          holds = tt;
        })

    pub forms_memory : {V : Type 0} {q : Result V ValueFault} {k : ℕ} {more : List ℕ} → Begins gs hs → Keeps v x → least ≤ x.spare
        → IsErrAnd q (λ e. e ≡ Memory) → FormsMade w x fs hs least all form k more q
    forms_memory {q = q} begins keeps spare a =
        let p = err_from_is_err_and q a in
        rw (p.1 ∙ ap Err p.2) (record {
          begins = begins_then fs gs hs before.begins begins;
          made = made_memory w x all (Err Memory) refl (keeps_then w v x before.made.keeps keeps);
          spare = spare;
          holds = tt;
        })

-- all of them
pub forms_all : {R T : Type 0} {w v : State Meant (WorkRest R)} {fs gs : List Game} {least n k : ℕ} {xs all : List Item} {form : ℕ → Game}
    {table : List ℕ} {r : Result T ValueFault} → FormsMade w v fs gs least xs form n table r → all ≡ xs → k ≡ n
    → FormsMade w v fs gs least all form k table r
forms_all made e f = rw (e, f) made
