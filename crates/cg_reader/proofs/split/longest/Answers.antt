use Rattle.std.proofs.Common.{◌≡◌, List, [], ◌∙◌, rules, arith}
use Rattle.cg_grammar.specs.Braces.{cut_from, Whole}
use Rattle.cg_grammar.specs.Found.{Found}
use Rattle.cg_reader.specs.Views.{rows_of}
use Rattle.cg_grammar.proofs.Parts.{part_lower}
use Rattle.cg_reader.proofs.split.longest.Goals as goal

pub loop-bars-preserved : goal.loop-bars-preserved
loop-bars-preserved c =
    let rows = rows_of c.args.rows.now in
    let whole : cut_from [] c.loop-bars.bars rows ≡ Whole rows = search (rules, c.first_run.ensures.none, c.if-is_none.ensures) in
    record {
      within = omega (arith, c.loop-bars.invariant.within);
      same = λ (side : List Found). c.loop-bars.invariant.same side ∙ part_lower c.loop-bars.bars side rows c.loop-bars-test.true whole;
    }
