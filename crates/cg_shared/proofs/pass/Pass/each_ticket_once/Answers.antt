use Rattle.std.proofs.Common.{◌≤◌, ℕ, subst}
use Rattle.std.specs.Prelude.{if◌then◌else◌, nat_lt}
use Rattle.cg_cells.specs.Table.{times}
use Rattle.cg_cells.proofs.Tickets.{few}
use Rattle.cg_shared.specs.Passes.{PassOf}
use Rattle.cg_shared.proofs.pass.Pass.each_ticket_once.Goals as goal

pub returns-clause-few : goal.returns-clause-few
returns-clause-few g c = few _ _
    (subst (λ (p : PassOf _). (k : ℕ) → times k p.sees.tickets ≤ (if nat_lt k p.sees.sizes.lines then 1 else 0)) c.self.view_is c.self.invariant.sure.once)
