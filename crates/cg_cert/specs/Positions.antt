-- Positions of a certificate, as games of an arena.
use Rattle.std.specs.Prelude.{◌≡◌, ℕ, Bool, true, false, not, Option, Some, None, List, [], ◌∷◌, map, slice_get}
use Rattle.cg_form.specs.Game as tree
use Rattle.cg_form.specs.Side.{at_most, near}
use Rattle.cg_arena.specs.Arena.{IsIndex, game_of}
use Rattle.cg_cert.specs.declared.position.Position.{Position}
use Rattle.cg_cert.specs.declared.stage.Stage.{Stage}
use Rattle.cg_cert.specs.declared.choice.Choice.{Choice}
use Rattle.cg_cert.specs.declared.choice.Move.{Move}
use Rattle.cg_cert.specs.First.{first_place}
use Rattle.cg_cert.specs.Pairs.{Pair, pair}
use Rattle.cg_cert.specs.declared.position.Position.TheVariants.{At, Number}

-- the game of the position
abbrev pub position_at : List tree.Game → Position → tree.Game
position_at arena (Number x) = tree.number x
position_at arena (At i) = game_of arena i

-- a number stands for itself; an index is one of the arena
abbrev pub IsPosition : List tree.Game → Position → Type 0
IsPosition arena (Number x) = Unit {0}
IsPosition arena (At i) = IsIndex arena i

abbrev pub ArePositions : List tree.Game → List Position → Type 0
ArePositions arena [] = Unit {0}
ArePositions arena (p ∷ ps) = IsPosition arena p × ArePositions arena ps

abbrev pub positions_at : List tree.Game → List Position → List tree.Game
positions_at arena ps = map (position_at arena) ps

-- the positions are those of the games, in their order
abbrev pub ArePositionsOf : List tree.Game → List Position → List tree.Game → Type 0
ArePositionsOf arena ps gs = ArePositions arena ps × (positions_at arena ps ≡ gs)

-- a pair of positions, as a pair of games
abbrev pub stage_at : List tree.Game → Stage → Pair
stage_at arena m = pair (position_at arena m.first) (position_at arena m.second)

abbrev pub IsStage : List tree.Game → Stage → Type 0
IsStage arena m = IsPosition arena m.first × IsPosition arena m.second

abbrev pub AreStages : List tree.Game → List Stage → Type 0
AreStages arena [] = Unit {0}
AreStages arena (m ∷ ms) = IsStage arena m × AreStages arena ms

abbrev pub stages_at : List tree.Game → List Stage → List Pair
stages_at arena ms = map (stage_at arena) ms

-- the pairs of positions are those of the pairs of games, in their order
abbrev pub AreStagesOf : List tree.Game → List Stage → List Pair → Type 0
AreStagesOf arena ms ps = AreStages arena ms × (stages_at arena ms ≡ ps)

-- the position as the first of a pair, or as the second
abbrev pub staged : Bool → Position → Position → Stage
staged true other p = record { first = p; second = other }
staged false other p = record { first = other; second = p }

-- the first position or the second, and the other one
abbrev pub moved : Bool → Stage → Position
moved true m = m.first
moved false m = m.second

abbrev pub kept : Bool → Stage → Position
kept true m = m.second
kept false m = m.first

-- the first of the games that is for the player at least as good as x, and its place; or there is none
abbrev pub IsChoice : List tree.Game → Bool → List tree.Game → tree.Game → Option Choice → Type 0
IsChoice arena left gs x None = first_place (at_most left x) gs ≡ None
IsChoice arena left gs x (Some c) = (first_place (at_most left x) gs ≡ Some c.place)
    × (slice_get gs c.place ≡ Some (position_at arena c.position)) × IsPosition arena c.position

-- the i-th option is the player's first that serves in a game of the pair, in the first or where it has none in the second, and
-- leads to the pair of g and h
abbrev pub IsFirst : Bool → Bool → ℕ → Pair → tree.Game → tree.Game → Type 0
IsFirst left true i m g h =
    (first_place (at_most left m.second) (near left m.first) ≡ Some i) × (slice_get (near left m.first) i ≡ Some g) × (h ≡ m.second)
IsFirst left false i m g h = (first_place (at_most left m.second) (near left m.first) ≡ None)
    × (first_place (at_most (not left) m.first) (near (not left) m.second) ≡ Some i)
    × (slice_get (near (not left) m.second) i ≡ Some h) × (g ≡ m.first)

-- the player's first move that serves, with the pair that it leads to; or there is none
abbrev pub IsMove : List tree.Game → Bool → Option Move → Pair → Type 0
IsMove arena left None m = (first_place (at_most left m.second) (near left m.first) ≡ None)
    × (first_place (at_most (not left) m.first) (near (not left) m.second) ≡ None)
IsMove arena left (Some r) m =
    IsFirst left r.is_first r.place m (position_at arena r.leads.first) (position_at arena r.leads.second) × IsStage arena r.leads
