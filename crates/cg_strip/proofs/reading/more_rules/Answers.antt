use Rattle.std.proofs.Common.{List, [], ◌∷◌, ◌++◌, ap, sym, ◌∙◌, arith}
use Rattle.cg_reading.specs.Readers.{Read, ◌>>=◌, behind_these}
use Rattle.cg_reading.proofs.Gathered.{gathered_next}
use Rattle.cg_strip.specs.Grammar.{semicolon}
use Rattle.cg_strip.specs.Reading.{next_rule_at}
use Rattle.cg_strip.specs.declared.items.RuleItem.{RuleItem}
use Rattle.cg_strip.proofs.WholeText.{next_rule_ok}
use Rattle.cg_strip.proofs.reading.more_rules.Goals as goal

pub loop-first-preserved : goal.loop-first-preserved
loop-first-preserved c =
    let front = c.loop-first.rules.items in
    let end = c.args.text_end in
    let after = c.in_ok-next.after.now in
    let e = gathered_next _ next_rule_at semicolon next_rule_ok.reads front end c.in-Some.first.now c.loop-first.rest.now c.in-Some.field-0-1.now
    c.in-Some.ensures.cases.0 (sym c.is_byte.ensures ∙ c.if-not-is_byte.false) (omega (arith, c.loop-first.invariant.shorter, c.requires)) in
    let next = ap (λ (z : Read RuleItem). z >>= λ y. behind_these semicolon next_rule_at (front ++ y.0 ∷ []) end y.1) c.in_ok-next.ensures.read in
    record {
      shorter = omega (arith, c.in_ok-next.ensures.shorter, c.loop-first.invariant.shorter);
      same = ap (λ (ts : List RuleItem). behind_these semicolon next_rule_at ts end after) c.in_ok-push.ensures.items ∙ sym (e ∙ next)
          ∙ c.loop-first.invariant.same;
    }
