use Rattle.std.proofs.Common.{ap, sym, ◌∙◌}
use Rattle.cg_syntax.specs.Bound.{bindings_in}
use Rattle.cg_syntax.specs.Session.{Asked_of}
use Rattle.cg_query.specs.Trees.{question_of}
use Rattle.cg_syntax.proofs.Resolving.{is_expanded, is_same, put_question}
use Rattle.cg_syntax.proofs.SessionSteps.{on_ok_both}
use Rattle.std.proofs.lemmas.Bool.{not-false, not-true}
use Rattle.cg_syntax.proofs.resolve.put_query.Goals as goal

pub returns-in-Ok-clause-puts : goal.returns-in-Ok-clause-puts
returns-in-Ok-clause-puts c =
    let bs = bindings_in c.args.sheet.now in
    let q = question_of c.args.query in
    on_ok_both c.push-in-Ok.result c.push-in-Ok.ensures.put c.push-in-Ok.ensures.bindings
    (λ p b. put_question c.args.number q (Asked_of q) c.args.sheet.now c.push-in-Ok.new.self
    (is_same bs q c.in-Ok.size c.in-Ok.ensures (not-true c.in-Ok.size.has_use c.if-not-size.true)) p b)

pub returns-in_ok-expanded-in-Ok-3-clause-puts : goal.returns-in_ok-expanded-in-Ok-3-clause-puts
returns-in_ok-expanded-in-Ok-3-clause-puts c =
    let bs = bindings_in c.args.sheet.now in
    let q = question_of c.args.query in
    let has = not-false c.in-Ok.size.has_use c.if-not-size.false in
    on_ok_both c.push-in-Ok-3.result c.push-in-Ok-3.ensures.put c.push-in-Ok-3.ensures.bindings
    (λ p b. put_question c.args.number q (Asked_of (question_of c.in_ok-expanded-in-Ok-3.expanded)) c.args.sheet.now c.push-in-Ok-3.new.self
    (is_expanded bs q c.in-Ok.size c.in-Ok.ensures has (sym c.is_too_large.ensures ∙ c.if-is_too_large.false)
    ∙ ap Asked_of (sym c.in_ok-expanded-in-Ok-3.ensures)) p b)
