-- What holds where a walk begins, and what comes next after a board.
use Rattle.std.proofs.Common.{◌≡◌, refl, ℕ, List, [], ◌∷◌, ap}
use Rattle.std.specs.List.{flat_map}
use Rattle.cg_moves.specs.declared.edges.Edges.{Edges}
use Rattle.cg_moves.specs.declared.edges.Edges.TheVariants.{Moves, Pieces}
use Rattle.cg_moves.specs.Grid.{Grid}
use Rattle.cg_moves.specs.Graph.{uncut}
use Rattle.cg_moves.specs.Kept.{kept}
use Rattle.cg_moves.specs.Plays.{next_of, parts_of}
use Rattle.cg_moves.specs.Rules.{GameRules, followers}
use Rattle.cg_moves.specs.Walking.{IsOnWalk, Walk, play}
use Rattle.cg_moves.specs.Walks.{AreStarts, entered}
use Rattle.cg_moves.proofs.Fresh.{open-entered}
use Rattle.cg_moves.proofs.TaskLemmas.{boards_left-entered, known-entered, ready-entered}

pub whole : (ps : List Grid) → ps ≡ flat_map uncut ps
whole [] = refl
whole (p ∷ ps) = ap (λ z. p ∷ z) (whole ps)

pub next-parts : (r : GameRules) (edges : Edges) (p : Grid) → next_of r edges p ≡ flat_map (parts_of r edges) (followers r p)
next-parts r Moves p = whole (followers r p)
next-parts r Pieces p = refl

pub begun : (w : Walk) → AreStarts (play w) w.starts → (counts : List ℕ) → IsOnWalk w [] [] counts [] (entered w.starts)
begun w h counts = record {
  walk = record {
    known = known-entered (play w) w.starts (λ p m. (h.known p m).1);
    closed = λ p m. absurd m;
    ready = ready-entered (play w) [] w.starts;
  };
  rest = ap (kept []) (boards_left-entered (play w) w.starts);
  next = tt;
  fresh = open-entered (play w) [] w.starts;
}
