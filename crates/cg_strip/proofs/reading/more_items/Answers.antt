use Rattle.std.proofs.Common.{◌⊎◌, List, ap, sym, ◌∙◌, arith}
use Rattle.cg_reading.specs.Readers.{Read, ◌>>=◌, many_at}
use Rattle.cg_strip.specs.Grammar.{semicolon}
use Rattle.cg_reading.specs.Turns.{turns_behind}
use Rattle.cg_strip.specs.Reading.{turn_at, next_rule_at}
use Rattle.cg_strip.specs.Views.{item_of}
use Rattle.cg_strip.specs.declared.items.Item.{Item}
use Rattle.cg_strip.specs.declared.items.WeightItem.{WeightItem}
use Rattle.cg_strip.specs.declared.items.RuleItem.{RuleItem}
use Rattle.cg_reading.proofs.TurnsGathered.{behind_next, behind_turn}
use Rattle.cg_strip.proofs.WholeText.{turn_ok}
use Rattle.cg_strip.proofs.reading.more_items.Goals as goal

pub loop-first-preserved : goal.loop-first-preserved
loop-first-preserved c =
    let g = many_at semicolon next_rule_at in
    let front = c.loop-first.weights.items in
    let end = c.args.text_end in
    let after = c.in_ok-item.after.now in
    let e = behind_next _ turn_at g semicolon turn_ok.reads front end c.in-Some.first.now c.loop-first.rest.now c.in-Some.field-0-1.now
    c.in-Some.ensures.cases.0 (sym c.is_byte.ensures ∙ c.if-not-is_byte.false) (omega (arith, c.loop-first.invariant.shorter, c.requires)) in
    let next = ap (λ (z : Read (WeightItem ⊎ RuleItem)). z >>= behind_turn _ turn_at g semicolon turn_ok.reads front end) c.in_ok-item.ensures.read in
    let kind = ap (λ (i : Item). behind_turn _ turn_at g semicolon turn_ok.reads front end (item_of i, after)) c.in-Weighs.is in
    record {
      shorter = omega (arith, c.in_ok-item.ensures.shorter, c.loop-first.invariant.shorter);
      same = ap (λ (ts : List WeightItem). turns_behind semicolon turn_at g ts end after) c.in_ok-push-in-Weighs.ensures.items ∙ sym (e ∙ next ∙ kind)
          ∙ c.loop-first.invariant.same;
    }
