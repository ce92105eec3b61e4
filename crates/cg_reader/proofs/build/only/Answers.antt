use Rattle.std.proofs.Common.{rules, ◌≡◌, length, ap, ◌∙◌}
use Rattle.cg_query.specs.Trees.{trees_of}
use Rattle.cg_reader.proofs.OneRun.{only_empty}
use Rattle.cg_reader.proofs.build.only.Goals as goal

pub returns-then-is_empty : goal.returns-then-is_empty
returns-then-is_empty c =
    let none : length c.args.parts.items ≡ 0 = search rules in
    only_empty c.args.parts.items c.of-none.result c.of.result none (c.of-none.ensures ∙ ap trees_of c.new.ensures.items) (c.of.ensures ∙ ap trees_of
    c.new-then-is_empty.ensures.items)
