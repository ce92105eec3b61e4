use Rattle.std.proofs.Common.{rules, ◌≤◌, ◌+◌, ◌∙◌, arith, ap, sym, subst, ℕ, List, ◌∷◌, length}
use Rattle.std.proofs.lemmas.Bool.{eqb-true}
use Rattle.std.proofs.lemmas.List.{nil_from_length}
use Rattle.cg_syntax.specs.Bound.{IsSound}
use Rattle.cg_syntax.specs.SessionLines.{answered_from, lines_of}
use Rattle.cg_syntax.specs.declared.session.SessionLine.{SessionLine}
use Rattle.cg_syntax.specs.declared.sheet.Sheet.{Sheet}
use Rattle.cg_syntax.proofs.SessionSteps.{GoesOn, goes_beyond, goes_first, goes_last, goes_on, goes_past, one_longer}
use Rattle.cg_syntax.proofs.resolve.read_lines.Goals as goal
use Rattle.cg_syntax.proofs.resolve.read_lines.Goals.{then-is_first_answered+else-len-most+in_ok-put_line, else-is_first_answered}

pub loop-rest-init : goal.loop-rest-init
loop-rest-init c = record {
  bound = omega (arith, c.requires);
  within = omega (arith, ap length c.new-sheet.ensures.lines);
  sound = c.new-sheet.ensures.sound;
  goes_on = goes_first c.args.format c.args.first (lines_of c.args.text.now) c.new-sheet.result c.new-sheet.ensures.lines c.new-sheet.ensures.bindings;
}

pub loop-rest-preserved : goal.loop-rest-preserved
loop-rest-preserved c =
    let all = answered_from c.args.first (lines_of c.args.text.now) in
    let number = c.loop-rest.number in
    let old = c.loop-rest.sheet in
    let line = c.first_line.result.0.now in
    let left = lines_of c.first_line.result.1.now in
    let before : GoesOn c.args.format all number (line ∷ left) old =
    subst (λ (z : List (List ℕ)). GoesOn c.args.format all number z old) c.first_line.ensures.lines c.loop-rest.invariant.goes_on in
    let sound : IsSound c.if-is_first_answered.sheet = elim c.if-is_first_answered.branch [
      | then-is_first_answered+else-len-most+in_ok-put_line w ↦ subst IsSound (sym w.sheet-is) w.in_ok-put_line.ensures.sound
      | else-is_first_answered w ↦ subst IsSound (sym w.sheet-is) c.loop-rest.invariant.sound
    ] in
    let within : length c.if-is_first_answered.sheet.lines.items ≤ c.args.most = elim c.if-is_first_answered.branch [
      | then-is_first_answered+else-len-most+in_ok-put_line w ↦ subst (λ (z : Sheet). length z.lines.items ≤ c.args.most) (sym w.sheet-is)
          (one_longer number c.args.most w.in_ok-put_line.ensures.puts.made old w.put_line.new.sheet w.in_ok-put_line.ensures.puts.put (search rules))
      | else-is_first_answered w ↦ subst (λ (z : Sheet). length z.lines.items ≤ c.args.most) (sym w.sheet-is) c.loop-rest.invariant.within
    ] in
    let behind : GoesOn c.args.format all (number + 1) left c.if-is_first_answered.sheet = elim c.if-is_first_answered.branch [
      | then-is_first_answered+else-len-most+in_ok-put_line w ↦ subst (λ (z : Sheet). GoesOn c.args.format all (number + 1) left z) (sym w.sheet-is)
          (goes_on c.args.format all number line left old w.put_line.new.sheet
          (sym c.is_first_answered.ensures ∙ w.if-is_first_answered.true) w.in_ok-put_line.ensures.puts before)
      | else-is_first_answered w ↦ subst (λ (z : Sheet). GoesOn c.args.format all (number + 1) left z) (sym w.sheet-is)
          (goes_past c.args.format all number line left old (sym c.is_first_answered.ensures ∙ w.if-is_first_answered.false) before)
    ] in
    record {
      bound = omega (arith, c.loop-rest.invariant.bound, c.first_line.ensures.shorter);
      within = within;
      sound = sound;
      goes_on = behind;
    }

pub returns-then-len-most : goal.returns-then-len-most
returns-then-len-most c =
    let all = answered_from c.args.first (lines_of c.args.text.now) in
    let number = c.loop-rest.number in
    let old = c.loop-rest.sheet in
    let line = c.first_line.result.0.now in
    let left = lines_of c.first_line.result.1.now in
    let beyond = goes_beyond c.args.format all number line left old (sym c.is_first_answered.ensures ∙ c.if-is_first_answered.true)
    (subst (λ (z : List (List ℕ)). GoesOn c.args.format all number z old) c.first_line.ensures.lines c.loop-rest.invariant.goes_on) in
    search rules

pub returns : goal.returns
returns c =
    let all = answered_from c.args.first (lines_of c.args.text.now) in
    let none = nil_from_length c.loop-rest.rest.now (eqb-true (length c.loop-rest.rest.now) 0 (sym c.is_empty.ensures ∙ c.loop-rest-test.false)) in (
      goes_last c.args.format all c.loop-rest.number c.loop-rest.sheet c.into_lines.result c.into_lines.ensures
          (subst (λ (z : List ℕ). GoesOn c.args.format all c.loop-rest.number (lines_of z) c.loop-rest.sheet) none c.loop-rest.invariant.goes_on),
      subst (λ (z : List SessionLine). length z ≤ c.args.most) (sym c.into_lines.ensures) c.loop-rest.invariant.within,
    )
