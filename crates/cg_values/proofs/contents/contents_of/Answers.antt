use Rattle.std.proofs.Common.{List, ℕ, subst}
use Rattle.std.specs.Prelude.{IfOk}
use Rattle.cg_nodes.specs.Boards.{AreWritten}
use Rattle.cg_values.proofs.PlaceLemmas.{places-told}
use Rattle.cg_values.proofs.contents.contents_of.Goals as goal

pub returns-clause-written : goal.returns-clause-written
returns-clause-written c =
    let P : List ℕ → Type 0 = λ z. IfOk c.contents_in.result (λ all. AreWritten z all.items) in
    subst P (places-told c.args.board.now c.planes.result c.size.result c.requires c.planes.ensures.grid
    c.planes.ensures.planes c.size.ensures.value) c.contents_in.ensures.written
