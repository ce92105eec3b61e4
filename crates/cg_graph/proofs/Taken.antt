-- What one cut leaves.
use Rattle.std.proofs.Common.{◌≡◌, ℕ, ◌<◌, true, if◌then◌else◌, List, [], ◌∷◌, ◌++◌, length, map, ap, sym, ◌∙◌}
use Rattle.std.specs.Prelude.{slice_index, slice_set}
use Rattle.std.proofs.lemmas.List.{get_or_default}
use Rattle.cg_moves.specs.declared.player.Player.{Player}
use Rattle.cg_moves.specs.Grid.{Grid, with_cells}
use Rattle.cg_graph.specs.Hackenbush.{cut, cuts_at, may_cut}
use Rattle.cg_graph.specs.Paths.{Edge, colour, gone, settled}

pub cut_put : (edges : List Edge) (player : Player) (p after left : Grid) (k : ℕ) (old new : List Grid)
    → k < length p.cells → may_cut player (slice_index p.cells k) ≡ true → after ≡ with_cells p (slice_set p.cells k gone)
    → left ≡ with_cells after (settled edges after.cells) → new ≡ old ++ (left ∷ [])
    → new ≡ old ++ map (with_cells p) (cuts_at edges player p.cells k)
unfolding cut
cut_put edges player p after left k old new below may made same put =
    let e : colour p.cells k ≡ slice_index p.cells k = get_or_default p.cells k gone 0 below in
    put ∙ ap (λ (q : Grid). old ++ (q ∷ [])) (same ∙ ap (λ (q : Grid). with_cells q (settled edges q.cells)) made)
    ∙ ap (λ b. old ++ map (with_cells p) (if b then cut edges p.cells k ∷ [] else [])) (sym (ap (may_cut player) e ∙ may))
