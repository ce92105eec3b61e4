-- The pair of walls of a number, or that of a game from the pairs of walls of its options.
use Rattle.std.proofs.Common.{sym, ◌∙◌, subst, ℕ, ◌<◌, All, List, length, true, false}
use Rattle.std.specs.List.{slice_range}
use Rattle.cg_arena.specs.Arena.{game_of, games_of}
use Rattle.cg_canon.specs.Walk.{lefts_of, rights_of}
use Rattle.cg_dyadic.specs.Wide.{places}
use Rattle.cg_form.specs.Game.{Game, IsNode}
use Rattle.cg_thermo.specs.Progress.{HasWallPair, walked}
use Rattle.cg_thermo.specs.HighestWalls.{IsHighestWall}
use Rattle.cg_canon.proofs.WalkPositions.{at, canonical, is_node, place}
use Rattle.cg_thermo.proofs.WallPairSteps.{lefts_here, rights_here}
use Rattle.cg_thermo.proofs.Drawing.{HighestWalls, gap-start}
use Rattle.cg_thermo.proofs.Roughs.{joined-walls_paired, jump-rough}
use Rattle.cg_thermo.proofs.HighestSteps.{highest_of}
use Rattle.cg_thermo.proofs.pairing_walls.wall_pair_at.Given as given
use Rattle.cg_thermo.proofs.pairing_walls.wall_pair_at.Goals as goal
use Rattle.cg_thermo.proofs.pairing_walls.wall_pair_at.Goals.{In_ok-high-in-Options}

pub read-requires : goal.read-requires
read-requires g c = rw c.arena.ensures ((at _ _ _ c.requires.walk c.args.place _ c.requires.place c.index-position.ensures).within)

pub highest_wall-requires-in-Options-clause-places : goal.highest_wall-requires-in-Options-clause-places
highest_wall-requires-in-Options-clause-places g c =
    let b = (place _ _ _ c.requires.walk c.args.place _ c.requires.place c.index-position.ensures).rights_before in
    let P : ℕ → Type 0 = λ n. All (λ q. q < n) (rights_of c.args.walk.now.options.items c.index-position.result.now) in
    let D : List ℕ → Type 0 = λ z. All (λ q. q < length c.args.wall_pairs.now)
    (slice_range z c.index-position.result.now.rights c.index-position.result.now.end) in
    subst D (sym c.deref-in-Options.ensures.value) (subst P (sym c.requires.before) b)

-- the greatest of both sides
the_highest : (g : given.Over) (c : In_ok-high-in-Options g)
    → HighestWalls places (game_of (walked c.args.work.now.arena c.args.walk.now) c.args.place) c.in_ok-low-in-Options.low c.in_ok-high-in-Options.high
the_highest g c =
    let fs = walked c.args.work.now.arena c.args.walk.now in
    let options = c.args.walk.now.options.items in
    let p = c.index-position.result.now in
    let walk = c.requires.walk in
    let read = c.index-position.ensures in
    let lt = c.requires.place in
    let here = place _ _ _ walk c.args.place p lt read in
    let n : IsNode (game_of fs c.args.place) = is_node _ _ _ (sym (at _ _ _ walk c.args.place p lt read).is ∙ rw c.arena.ensures at c.in-Options.ensures.read.2) in
    let B : ℕ → List ℕ → Type 0 = λ k xs. All (λ q. q < k) xs in
    let L : List ℕ → Type 0 = λ z. IsHighestWall true (games_of fs (slice_range z p.lefts p.rights)) c.in_ok-low-in-Options.low in
    let R : List ℕ → Type 0 = λ z. IsHighestWall false (games_of fs (slice_range z p.rights p.end)) c.in_ok-high-in-Options.high in
    let P : ℕ → Type 0 = λ k. B k (lefts_of options p) in
    let Q : ℕ → Type 0 = λ k. B k (rights_of options p) in
    highest_of fs c.args.wall_pairs.now (game_of fs c.args.place) (lefts_of options p) (rights_of options p) _ _
    (canonical _ _ _ walk c.args.place p lt read) n (lefts_here _ _ _ walk c.args.place p lt read n)
    (rights_here _ _ _ walk c.args.place p lt read n) c.requires.wall_pairs
    (subst P (sym c.requires.before) here.lefts_before) (subst Q (sym c.requires.before) here.rights_before)
    c.in_ok-low-in-Options.ensures.wall c.in_ok-high-in-Options.ensures.wall
    (subst L c.deref.ensures.value (c.in_ok-low-in-Options.ensures.highest_wall fs c.requires.wall_pairs))
    (subst R c.deref-in-Options.ensures.value (c.in_ok-high-in-Options.ensures.highest_wall fs c.requires.wall_pairs))

pub joined-requires-clause-start : goal.joined-requires-clause-start
joined-requires-clause-start g c = gap-start _ _ _ _ (the_highest g (goal.at.joined-requires-clause-start g c).In_ok-high-in-Options)

pub returns-in-Number-clause-wall_pair : goal.returns-in-Number-clause-wall_pair
returns-in-Number-clause-wall_pair g c =
    let P : Game → Type 0 = λ z. HasWallPair z c.number_wall_pair.result in
    subst P (sym (rw c.arena.ensures at c.in-Number.ensures.read) ∙ (at _ _ _ c.requires.walk c.args.place _ c.requires.place c.index-position.ensures).is) c.number_wall_pair.ensures

pub returns-in_ok-high-in-Options-clause-wall_pair : goal.returns-in_ok-high-in-Options-clause-wall_pair
returns-in_ok-high-in-Options-clause-wall_pair g c =
    joined-walls_paired _ _ _ c.joined.result (the_highest g (goal.at.returns-in_ok-high-in-Options-clause-wall_pair g c).In_ok-high-in-Options)
    c.joined.ensures.joined

pub returns-in_ok-high-in-Options-clause-range : goal.returns-in_ok-high-in-Options-clause-range
returns-in_ok-high-in-Options-clause-range g c = λ e.
    jump-rough _ _ _ (the_highest g (goal.at.returns-in_ok-high-in-Options-clause-range g c).In_ok-high-in-Options) (c.joined.ensures.range e)
