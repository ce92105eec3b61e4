-- Where an answer leads: the option that stands in its place, beside the position that stays.
use Rattle.std.proofs.Common.{◌≡◌, refl, ap, sym, ◌∙◌, ℕ, zero, suc, ◌<◌, ◌^◌, arith, Bool, true}
use Rattle.std.proofs.Common.{false, Some, option_map, slice_get, get_or, List, [], ◌∷◌, length}
use Rattle.std.proofs.lemmas.List.{length-map}
use Rattle.cg_form.specs.Game.{Game, lefts, rights}
use Rattle.cg_form.specs.Side.{near}
use Rattle.cg_cert.specs.declared.position.Position.{Position}
use Rattle.cg_cert.specs.declared.stage.Stage.{Stage}
use Rattle.cg_cert.specs.Certificate.{answer_in}
use Rattle.cg_cert.specs.Pairs.{Pair, led, pair}
use Rattle.cg_cert.specs.Positions.{ArePositions, ArePositionsOf, IsPosition, IsStage, kept, moved, position_at, positions_at, stage_at, staged}
use Rattle.cg_cert.specs.Reads.{IsPlace, LeadsTo}

-- ---- on pairs of games

-- the option beside the other game
abbrev beside : Bool → Pair → Game → Pair
beside true m a = pair a m.second
beside false m b = pair m.first b

abbrev own_options : Bool → Pair → List Game
own_options true m = lefts m.first
own_options false m = rights m.second

led_in : (b : Bool) (m : Pair) (i : ℕ) → led (answer_in b i) m ≡ option_map (beside b m) (slice_get (own_options b m) i)
led_in true m i = refl
led_in false m i = refl

below_length : {A B : Type 0} (f : A → B) (xs : List A) (i : ℕ) (k : B) → option_map f (slice_get xs i) ≡ Some k
    → i < length xs
below_length f [] i k e = absurd (cc)
below_length f (x ∷ xs) zero k e = omega arith
below_length f (x ∷ xs) (suc i) k e = let l = below_length f xs i k e in omega arith

-- ---- on positions

in_place : (arena : List Game) (ps : List Position) (i : ℕ) (p : Position) → ArePositions arena ps → i < length ps
    → p ≡ get_or ps i p → IsPosition arena p × (slice_get (positions_at arena ps) i ≡ Some (position_at arena p))
in_place arena [] i p a l e = absurd (omega arith)
in_place arena (q ∷ ps) zero p a l e = rw e (a.0, refl)
in_place arena (q ∷ ps) (suc i) p a l e = in_place arena ps i p a.1 (omega arith) e

module _ (arena : List Game) (m : Stage) where
  own_is : (b : Bool) → near b (position_at arena (moved b m)) ≡ own_options b (stage_at arena m)
  own_is true = refl
  own_is false = refl

  staged_stands : (b : Bool) (p : Position) → IsStage arena m → IsPosition arena p → IsStage arena (staged b (kept b m) p)
  staged_stands true p i j = (j, i.1)
  staged_stands false p i j = (i.0, j)

  staged_at : (b : Bool) (p : Position) → beside b (stage_at arena m) (position_at arena p) ≡ stage_at arena (staged b (kept b m) p)
  staged_at true p = refl
  staged_at false p = refl

-- the options of the position that moves were listed
pub record Optioned (arena : List Game) (b : Bool) (m : Stage) (all : List Position) (count : ℕ) : Type 0 where
  pub stage : IsStage arena m
  pub are : ArePositionsOf arena all (near b (position_at arena (moved b m)))
  pub count_is : count ≡ length all
  pub small : count < 2 ^ 64

module _ (arena : List Game) (b : Bool) (m : Stage) (all : List Position) (count : ℕ) (o : Optioned arena b m all count) where
  below_count : (i : ℕ) (k : Pair) → led (answer_in b i) (stage_at arena m) ≡ Some k → i < count
  below_count i k e =
      let l = below_length (beside b (stage_at arena m)) (own_options b (stage_at arena m)) i k
      (sym (led_in b (stage_at arena m) i) ∙ e) in
      let n = ap length (o.are.1 ∙ own_is arena m b) in
      let d = length-map all (position_at arena) in
      let c = o.count_is in
      omega arith

  below_limit : (i : ℕ) (k : Pair) → led (answer_in b i) (stage_at arena m) ≡ Some k → i < 2 ^ 64
  below_limit i k e = let l = below_count i k e in let c = o.small in omega arith

  pub leads_to : (digits : List ℕ) (i : ℕ) (p q : Position) (r : Stage) → IsPlace count digits (Some i)
      → p ≡ get_or all i p → q ≡ kept b m → r ≡ staged b q p
      → IsStage arena r × LeadsTo (stage_at arena m) b digits (stage_at arena r)
  leads_to digits i p q r n e f g =
      let c = o.count_is in
      let l : i < count = n.0 in
      let there = in_place arena all i p o.are.0 (omega arith) e in
      let same : r ≡ staged b (kept b m) p = g ∙ ap (λ z. staged b z p) f in
      rw same (
        staged_stands arena m b p o.stage there.0,
        record {
          small = below_limit;
          place = i;
          spelled = n.1;
          leads = led_in b (stage_at arena m) i
              ∙ ap (λ z. option_map (beside b (stage_at arena m)) (slice_get z i)) (sym (o.are.1 ∙ own_is arena m b))
              ∙ ap (option_map (beside b (stage_at arena m))) there.1 ∙ ap Some (staged_at arena m b p);
        },
      )
