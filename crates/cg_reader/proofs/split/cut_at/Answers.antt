use Rattle.std.proofs.Common.{Ok, ap}
use Rattle.cg_grammar.specs.Braces.{Cut}
use Rattle.cg_reader.proofs.Cutting.{cut_parts}
use Rattle.cg_reader.proofs.split.cut_at.Goals as goal

pub returns : goal.returns
returns c =
    ap (λ (z : Cut). Ok z) (cut_parts c.args.bars c.args.rows.items c.split_off.new.self.items c.remove-row-2.new.self.items c.in_ok-behind.behind.items
    c.in-Some.index c.remove-row-2.result
    (rw c.deref.ensures.value at c.in-Some.ensures.some) c.in_ok-behind.ensures.items c.in_ok-behind.ensures.tail c.remove-row-2.ensures.items
    c.remove-row-2.ensures.value)
