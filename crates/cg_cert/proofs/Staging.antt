-- Pairs of positions: Right's moves.
use Rattle.std.proofs.Common.{◌≡◌, refl, ap, ◌∙◌, List, [], ◌∷◌, ◌++◌, map, Bool, true, false, Result, Ok, Err, IfOk}
use Rattle.cg_form.specs.Game.{Game, lefts, rights}
use Rattle.cg_cert.specs.declared.position.Position.{Position}
use Rattle.cg_cert.specs.declared.stage.Stage.{Stage}
use Rattle.cg_cert.specs.Pairs.{moves, pair}
use Rattle.cg_cert.specs.Positions.{ArePositions, ArePositionsOf, AreStages, AreStagesOf, IsPosition}
use Rattle.cg_cert.specs.Positions.{IsStage, position_at, positions_at, stage_at, staged, stages_at}

module _ (arena : List Game) where
  are_staged : (b : Bool) (q : Position) (ps : List Position) → IsPosition arena q → ArePositions arena ps
      → AreStages arena (map (staged b q) ps)
  are_staged b q [] i a = tt
  are_staged true q (p ∷ ps) i a = ((a.0, i), are_staged true q ps i a.1)
  are_staged false q (p ∷ ps) i a = ((i, a.0), are_staged false q ps i a.1)

  are_stages-append : (ms ns : List Stage) → AreStages arena ms → AreStages arena ns → AreStages arena (ms ++ ns)
  are_stages-append [] ns a b = b
  are_stages-append (m ∷ ms) ns a b = (a.0, are_stages-append ms ns a.1 b)

  staged_first : (q : Position) (ps : List Position)
      → stages_at arena (map (staged true q) ps) ≡ map (λ b. pair b (position_at arena q)) (positions_at arena ps)
  staged_first q [] = refl
  staged_first q (p ∷ ps) = ap (λ z. pair (position_at arena p) (position_at arena q) ∷ z) (staged_first q ps)

  staged_second : (q : Position) (ps : List Position)
      → stages_at arena (map (staged false q) ps) ≡ map (λ a. pair (position_at arena q) a) (positions_at arena ps)
  staged_second q [] = refl
  staged_second q (p ∷ ps) = ap (λ z. pair (position_at arena q) (position_at arena p) ∷ z) (staged_second q ps)

  stages_at-append : (ms ns : List Stage) → stages_at arena (ms ++ ns) ≡ stages_at arena ms ++ stages_at arena ns
  stages_at-append [] ns = refl
  stages_at-append (m ∷ ms) ns = ap (λ z. stage_at arena m ∷ z) (stages_at-append ms ns)

  pub moves_made : {V E : Type 0} (m : Stage) (rs ls right_now left_now : List Position) (start mid : List Stage)
      (f : V → List Stage) (result : Result V E) → IsStage arena m
      → ArePositionsOf arena rs (rights (position_at arena m.first))
      → ArePositionsOf arena ls (lefts (position_at arena m.second)) → start ≡ [] → right_now ≡ rs → left_now ≡ ls
      → mid ≡ start ++ map (staged true m.second) right_now
      → IfOk result (λ v. f v ≡ mid ++ map (staged false m.first) left_now)
      → IfOk result (λ v. AreStagesOf arena (f v) (moves (stage_at arena m)))
  moves_made m rs ls rn ln start mid f (Err a) i r l e x y k h = tt
  moves_made m rs ls rn ln start mid f (Ok v) i r l e x y k h =
      let first = map (staged true m.second) rs in
      let second = map (staged false m.first) ls in
      let same : f v ≡ first ++ second = h ∙ ap (λ z. mid ++ map (staged false m.first) z) y ∙ ap (λ z. z ++ second) (k
      ∙ ap (λ z. z ++ map (staged true m.second) rn) e ∙ ap (map (staged true m.second)) x) in
      rw same (
        are_stages-append first second (are_staged true m.second rs i.1 r.0) (are_staged false m.first ls i.0 l.0),
        stages_at-append first second
            ∙ ap (λ z. z ++ stages_at arena second) (staged_first m.second rs ∙ ap (map (λ b. pair b (position_at arena m.second))) r.1)
            ∙ ap (λ z. map (λ b. pair b (position_at arena m.second)) (rights (position_at arena m.first)) ++ z)
            (staged_second m.first ls ∙ ap (map (λ a. pair (position_at arena m.first) a)) l.1),
      )
