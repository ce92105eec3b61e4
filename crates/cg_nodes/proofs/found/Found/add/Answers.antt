use Rattle.std.specs.HashSet.{contains}
use Rattle.std.specs.Bool.{◌==◌}
use Rattle.std.proofs.Common.{◌≡◌, ◌∙◌, Err, Ok, OnOk, Result, false, is_err, sym}
use Rattle.cg_nodes.proofs.Looked.{looked_up-more}
use Rattle.cg_nodes.proofs.found.Found.add.Goals as goal

unfailed : {A E : Type 0} {P : Type 0} (r : Result A E) → is_err r ≡ false → OnOk r P → P
unfailed (Ok x) e h = h
unfailed (Err x) e h = absurd (cc)

pub invariant_of-self-then-self : goal.invariant_of-self-then-self
invariant_of-self-then-self c =
    λ _. looked_up-more (contains (λ a b. a == b) c.self.inside.ids) (contains (λ a b. a == b) c.insert.new.self)
    c.self.inside.handles.items c.push.new.self.items
    c.number.result c.args.handle (c.number.ensures.value ∙ c.id.ensures) c.in_ok-push.ensures.items
    (unfailed c.insert.result (sym c.is_err.ensures.value ∙ c.if-is_err.false) c.insert.ensures.updates).0
    (c.self.invariant c.if-self.true)
