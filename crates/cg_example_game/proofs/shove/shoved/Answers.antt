use Rattle.std.proofs.Common.{◌≡◌, List, ℕ, ap, sym, ◌∙◌, subst}
use Rattle.std.specs.List.{insert, remove}
use Rattle.cg_moves.specs.Grid.{AreCells}
use Rattle.cg_example_game.specs.Shove.{empty, shoved}
use Rattle.cg_example_game.proofs.Shoving.{has-empty, shoved-cells}
use Rattle.cg_example_game.proofs.shove.shoved.Goals as goal

pub make-requires-clause-cells : goal.make-requires-clause-cells
make-requires-clause-cells c =
    let p = c.args.board.now in
    let P : List ℕ → List ℕ → Type 0 = λ symbols cells. AreCells symbols cells in
    let removed = c.remove.ensures.items ∙ ap (λ (z : List ℕ). remove z 0) (c.into_vec-cells.ensures ∙ c.in_ok-cells.ensures.value) in
    let e : c.deref.result.now ≡ shoved p.cells c.args.at = c.deref.ensures.value ∙ c.in_ok-insert.ensures.items
    ∙ ap (λ (z : List ℕ). insert z c.args.at empty) removed in
    let all = shoved-cells p.symbols p.cells c.args.at c.requires.at (has-empty p c.requires.has) c.rows.ensures.grid.cells in
    subst (P c.symbols.result.now) (sym e) (subst (λ s. P s (shoved p.cells c.args.at)) (sym c.symbols.ensures.value) all)
