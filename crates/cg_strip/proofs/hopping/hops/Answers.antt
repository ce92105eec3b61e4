use Rattle.std.proofs.Common.{◌≡◌, refl, ℕ, List, length, map, reverse, ap, ◌∙◌}
use Rattle.cg_moves.specs.Grid.{with_cells}
use Rattle.cg_moves.specs.declared.player.Player.{Player}
use Rattle.cg_moves.specs.declared.player.Player.TheVariants.{Left, Right}
use Rattle.cg_strip.specs.Hops.{hops_below, hops_made}
use Rattle.cg_strip.proofs.HopLemmas.{map_reversed}
use Rattle.cg_strip.proofs.hopping.hops.Goals as goal

pub returns-in-Left : goal.returns-in-Left
returns-in-Left c =
    let p = c.args.board.now in
    c.in_ok-hops_on.ensures ∙ rw c.in-Left.is (ap (map (with_cells p)) (left p.cells))
  where
    left : (row : List ℕ) → hops_below Left row (length row) ≡ hops_made Left row
    left row = refl

pub returns-in-Right : goal.returns-in-Right
returns-in-Right c =
    let p = c.args.board.now in
    c.reverse.ensures.items ∙ ap reverse c.in_ok-hops_on.ensures
    ∙ map_reversed (with_cells p) (hops_below c.args.player p.cells (length p.cells))
    ∙ rw c.in-Right.is (ap (map (with_cells p)) (right p.cells))
  where
    right : (row : List ℕ) → reverse (hops_below Right row (length row)) ≡ hops_made Right row
    right row = refl
