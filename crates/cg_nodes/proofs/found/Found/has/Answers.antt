use Rattle.std.specs.HashSet.{contains}
use Rattle.std.specs.Bool.{◌==◌}
use Rattle.std.proofs.Common.{◌∙◌}
use Rattle.cg_nodes.proofs.Looked.{looked_up, searched}
use Rattle.cg_nodes.proofs.found.Found.has.Goals as goal

pub returns-then-self : goal.returns-then-self
returns-then-self c =
    looked_up (contains (λ a b. a == b) c.self.inside.ids) c.self.inside.handles.items c.args.self.now
    c.number.result c.args.handle c.contains.result
    c.contains.ensures (c.number.ensures.value ∙ c.id.ensures) c.self.view_is (c.self.invariant c.if-self.true)

pub returns-else-self : goal.returns-else-self
returns-else-self c =
    searched c.deref.result.now c.args.self.now c.args.handle c.contains-else-self.result
    c.contains-else-self.ensures.value (c.deref.ensures.value ∙ c.self.view_is)
