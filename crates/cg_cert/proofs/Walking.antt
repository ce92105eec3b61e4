-- The pairs to which Right's moves lead, one after another.
use Rattle.std.proofs.Common.{◌≡◌, ◌<◌, List, ◌∷◌, false}
use Rattle.cg_form.specs.Game.{Game}
use Rattle.cg_cert.specs.declared.stage.Stage.{Stage}
use Rattle.cg_cert.specs.Pairs.{Pair, both_numbers, moves}
use Rattle.cg_cert.specs.Positions.{AreStages, stages_at}
use Rattle.cg_cert.proofs.Heights.{moves-lower, proof_height, reply_height}
use Rattle.cg_cert.proofs.Moves.{Each}

-- the pairs that are left, an answer to each of which is lower than the proof of the first one
pub record Walk (arena : List Game) (m : Pair) (rest : List Stage) : Type 0 where
  pub are : AreStages arena rest
  pub lower : Each (λ k. reply_height k < proof_height m) (stages_at arena rest)

pub walk_all : (arena : List Game) (m : Pair) (all : List Stage) → both_numbers m ≡ false → AreStages arena all
    → stages_at arena all ≡ moves m → Walk arena m all
walk_all arena m all b a e = record { are = a; lower = rw e (moves-lower m b) }

pub walk_more : (arena : List Game) (m : Pair) (others : List Stage) (p : Stage) → Walk arena m (p ∷ others)
    → Walk arena m others
walk_more arena m others p w = record { are = w.are.1; lower = w.lower.1 }
