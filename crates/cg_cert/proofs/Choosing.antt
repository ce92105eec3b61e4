-- The search for the first option that is good enough.
use Rattle.std.proofs.Common.{◌≡◌, refl, ap, sym, ◌∙◌, ℕ, suc, ◌+◌, ◌≤◌, arith, Option, Some, None, option_map}
use Rattle.std.proofs.Common.{slice_get, List, [], ◌∷◌, length, Bool, true, false, if◌then◌else◌}
use Rattle.cg_form.specs.Game.{Game}
use Rattle.cg_form.specs.Side.{at_most}
use Rattle.cg_cert.specs.declared.position.Position.{Position}
use Rattle.cg_cert.specs.First.{first_place}
use Rattle.cg_cert.specs.Positions.{ArePositions, IsChoice, position_at, positions_at}

-- the options before the place, of so many, don't pass the test
pub record Searched (arena : List Game) (test : Game → Bool) (games : List Game) (rest : List Position) (place count : ℕ) :
    Type 0 where
  pub are : ArePositions arena rest
  pub same : first_place test games ≡ option_map (λ i. place + i) (first_place test (positions_at arena rest))
  pub behind : (i : ℕ) → slice_get games (place + i) ≡ slice_get (positions_at arena rest) i
  pub room : place + length rest ≤ count

plus_none : (o : Option ℕ) → o ≡ option_map (λ i. 0 + i) o
plus_none None = refl
plus_none (Some i) = ap Some (omega arith)

plus_more : (n : ℕ) (o : Option ℕ) → option_map (λ i. n + i) (option_map suc o) ≡ option_map (λ i. n + 1 + i) o
plus_more n None = refl
plus_more n (Some i) = ap Some (omega arith)

module _ (arena : List Game) (games : List Game) where
  pub searched_none : (test : Game → Bool) (all : List Position) → ArePositions arena all → positions_at arena all ≡ games
      → Searched arena test games all 0 (length all)
  searched_none test all a e = record {
    are = a;
    same = ap (first_place test) (sym e) ∙ plus_none (first_place test (positions_at arena all));
    behind = λ i. let n : 0 + i ≡ i = omega arith in ap (slice_get games) n ∙ ap (λ z. slice_get z i) (sym e);
    room = omega arith;
  }

  module _ (left : Bool) (x : Game) (others : List Position) (p : Position) (place count : ℕ)
      (h : Searched arena (at_most left x) games (p ∷ others) place count) where
    pub searched_more : at_most left x (position_at arena p) ≡ false
        → Searched arena (at_most left x) games others (place + 1) count
    searched_more f =
        let n = h.room in
        record {
          are = h.are.1;
          same = h.same ∙ ap (λ z. option_map (λ i. place + i) (if z then Some 0 else option_map suc
              (first_place (at_most left x) (positions_at arena others)))) f
              ∙ plus_more place (first_place (at_most left x) (positions_at arena others));
          behind = λ i. let d : place + 1 + i ≡ place + suc i = omega arith in ap (slice_get games) d ∙ h.behind (suc i);
          room = omega arith;
        }

    pub searched_found : at_most left x (position_at arena p) ≡ true
        → IsChoice arena left games x (Some (record { place = place; position = p }))
    searched_found f =
        let same : place + 0 ≡ place = omega arith in (
          h.same ∙ ap (λ z. option_map (λ i. place + i) (if z then Some 0 else option_map suc
              (first_place (at_most left x) (positions_at arena others)))) f ∙ ap Some same,
          ap (slice_get games) (sym same) ∙ h.behind 0,
          h.are.0,
        )

  pub searched_all : (left : Bool) (x : Game) (rest : List Position) (place count : ℕ)
      → Searched arena (at_most left x) games rest place count → length rest ≡ 0 → IsChoice arena left games x None
  searched_all left x [] place count h e = h.same
  searched_all left x (p ∷ ps) place count h e = absurd (omega arith)
