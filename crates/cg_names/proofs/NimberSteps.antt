-- Nimbers, made one after another.
use Rattle.std.proofs.Common.{◌≡◌, refl, ap, sym, ◌∙◌, subst, ℕ, suc, ◌<◌, arith, List, [], ◌∷◌, ◌++◌, append_assoc, map, false, Result, Ok, Err}
use Rattle.std.specs.Result.{IsErrAnd}
use Rattle.cg_form.specs.Canonical.{Canonical}
use Rattle.cg_form.specs.Game.{Game, node}
use Rattle.cg_cells.specs.Store.{State}
use Rattle.cg_nodes.specs.Games.{StandFor, games_at}
use Rattle.cg_nodes.specs.Meant.{Meant}
use Rattle.cg_nodes.proofs.Later.{stand_later}
use Rattle.cg_canon.specs.declared.fault.ValueFault.{ValueFault}
use Rattle.cg_canon.specs.Made.{Gives}
use Rattle.cg_canon.specs.declared.rest.WorkRest.{WorkRest}
use Rattle.cg_canon.proofs.HandleLists.{stand_more}
use Rattle.cg_names.specs.Lists.{plain_item}
use Rattle.cg_names.specs.Named.{mirrored_if, nimber_form, nimbers_below, zero_form}
use Rattle.cg_nimbers.proofs.CanonicalNimbers.{nimber-canonical, nimbers_below-front}
use Rattle.cg_nimbers.proofs.NimberLists.{nimbers_below-next}
use Rattle.cg_names.proofs.NamedFormLists.{nimber_next}
use Rattle.cg_canon.proofs.MadeCalls.{given_handed, given_last}
use Rattle.cg_names.proofs.Steps.{plain_split}

-- the handles of 0, *1, .., *(i - 1), and that of *i, which was made last
pub record NimbersMade {R : Type 0} (w v : State Meant (WorkRest R)) (lesser : List ℕ) (last i : ℕ) : Type 0 where
  pub lesser_stand : StandFor v lesser (nimbers_below i)
  pub given : Gives w v (map plain_item (nimbers_below (suc i))) (nimber_form i) (Ok last)

first_only : (back : List Game) → nimbers_below 0 ++ (nimber_form 0 ∷ back) ≡ zero_form ∷ back
unfolding nimber_form nimbers_below
first_only back = refl

module _ {R : Type 0} (w v : State Meant (WorkRest R)) where
  pub nimbers_start : (lesser : List ℕ) (last : ℕ) → lesser ≡ [] → Gives w v (plain_item zero_form ∷ []) zero_form (Ok last)
      → NimbersMade w v lesser last 0
  unfolding nimber_form nimbers_below
  nimbers_start lesser last e m = rw e (record { lesser_stand = (tt, refl); given = m })

  -- with the last one the options of the next, which is what is made of them
  pub nimber_options : (lesser more : List ℕ) (last i : ℕ) → NimbersMade w v lesser last i → more ≡ lesser ++ (last ∷ [])
      → StandFor v more (nimbers_below (suc i))
  nimber_options lesser more last i n e =
      rw e (rw (nimbers_below-next i)
      (stand_more v lesser last (nimbers_below i) (nimber_form i) n.lesser_stand n.given.game))

  module _ (lesser ls rs : List ℕ) (last i : ℕ) (n : NimbersMade w v lesser last i) (e : ls ≡ lesser ++ (last ∷ []))
      (d : rs ≡ lesser ++ (last ∷ [])) where
    pub nimber_made : mirrored_if false (games_at v ls) (games_at v rs) ≡ nimber_form (suc i)
    nimber_made =
        ap (λ z. node z (games_at v rs)) (nimber_options lesser ls last i n e).1
        ∙ ap (λ z. node (nimbers_below (suc i)) z) (nimber_options lesser rs last i n d).1 ∙ sym (nimber_next i)

    pub nimber_made-canonical : Canonical (mirrored_if false (games_at v ls) (games_at v rs))
    nimber_made-canonical = let P : Game → Type 0 = λ z. Canonical z in subst P (sym nimber_made) (nimber-canonical (suc i))

  pub nimbers_all : (lesser : List ℕ) (last i count : ℕ) → NimbersMade w v lesser last i → i ≡ count
      → Gives w v (map plain_item (nimbers_below (suc count))) (nimber_form count) (Ok last)
  nimbers_all lesser last i count n e =
      rw (← e) n.given

-- ---- one nimber more

pub nimbers_first_refused : {R : Type 0} {w v : State Meant (WorkRest R)} (count : ℕ) {q : Result ℕ ValueFault} {x : ValueFault}
    → Gives w v (plain_item zero_form ∷ []) zero_form (Err x) → IsErrAnd q (λ e. e ≡ x)
    → Gives w v (map plain_item (nimbers_below (suc count))) (nimber_form count) q
nimbers_first_refused count m a =
    let (back, front) = nimbers_below-front 0 (suc count) (omega arith) in
    given_handed (map plain_item back) m a (ap (map plain_item) (front ∙ first_only back))

module _ {R : Type 0} {w v u : State Meant (WorkRest R)} where
  module _ {lesser : List ℕ} {last i : ℕ} (n : NimbersMade w v lesser last i) where
    one_more : {r : Result ℕ ValueFault} → Gives v u (plain_item (nimber_form (suc i)) ∷ []) (nimber_form (suc i)) r
        → Gives w u (map plain_item (nimbers_below (suc (suc i)))) (nimber_form (suc i)) r
    one_more m = given_last n.given m (plain_split _ _ (nimbers_below-next (suc i)))

    pub nimbers_next : {more : List ℕ} {next j : ℕ} → more ≡ lesser ++ (last ∷ [])
        → Gives v u (plain_item (nimber_form (suc i)) ∷ []) (nimber_form (suc i)) (Ok next) → j ≡ suc i → NimbersMade w u more next j
    nimbers_next {more = more} e m f =
        rw f (record {
          lesser_stand = stand_later v u m.made.keeps.known more (nimbers_below (suc i)) (nimber_options w v lesser more last i n e);
          given = one_more m;
        })

    pub nimbers_refused : {count : ℕ} {q : Result ℕ ValueFault} {x : ValueFault}
        → Gives v u (plain_item (nimber_form (suc i)) ∷ []) (nimber_form (suc i)) (Err x) → IsErrAnd q (λ e. e ≡ x) → i < count
        → Gives w u (map plain_item (nimbers_below (suc count))) (nimber_form count) q
    nimbers_refused {count = count} m a l =
        let (back, front) = nimbers_below-front (suc i) (suc count) (omega arith) in
        given_handed (map plain_item back) (one_more m) a
        (plain_split _ back (front ∙ sym (append_assoc (nimbers_below (suc i)) (nimber_form (suc i) ∷ []) back)
        ∙ ap (λ z. z ++ back) (sym (nimbers_below-next (suc i)))))
