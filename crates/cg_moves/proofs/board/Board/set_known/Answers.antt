use Rattle.std.proofs.Common.{ap, sym, ◌∙◌}
use Rattle.cg_moves.specs.Grid.{Grid}
use Rattle.cg_moves.specs.PlaneBits.{index_of}
use Rattle.cg_moves.proofs.PlaneLemmas.{set_by}
use Rattle.cg_moves.proofs.board.Board.set_known.Goals as goal

pub invariant_of-self : goal.invariant_of-self
invariant_of-self c =
    let at = c.requires.index ∙ sym (ap (λ (r : Grid). index_of r.symbols c.args.symbol) c.self.view_is) in
    let h = set_by _ _ _ _ _ c.args.self.now c.args.cell c.args.symbol c.self.view_is c.self.invariant.1 c.requires.cell
    c.requires.symbol (rw (← at) c.with_index-self-inside.ensures) in
    (c.self.invariant.0, h.grid)

pub returns : goal.returns
returns c =
    let at = c.requires.index ∙ sym (ap (λ (r : Grid). index_of r.symbols c.args.symbol) c.self.view_is) in
    let h = set_by _ _ _ _ _ c.args.self.now c.args.cell c.args.symbol c.self.view_is c.self.invariant.1 c.requires.cell
    c.requires.symbol (rw (← at) c.with_index-self-inside.ensures) in
    h.view
