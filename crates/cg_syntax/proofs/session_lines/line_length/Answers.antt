use Rattle.std.proofs.Common.{◌∙◌, sym, arith}
use Rattle.cg_syntax.proofs.FirstPlace.{first_of_places, no_places}
use Rattle.cg_syntax.proofs.session_lines.line_length.Goals as goal

pub returns-in-Some-clause-within : goal.returns-in-Some-clause-within
returns-in-Some-clause-within c =
    let first = first_of_places 10 c.args.text.now c.in-Some.end c.next.new.self (sym c.memchr_iter.ensures.value ∙ c.in-Some.ensures.steps) in
    omega (arith, first.within)

pub returns-in-Some-clause-before : goal.returns-in-Some-clause-before
returns-in-Some-clause-before c =
    let first = first_of_places 10 c.args.text.now c.in-Some.end c.next.new.self (sym c.memchr_iter.ensures.value ∙ c.in-Some.ensures.steps) in
    λ k h. first.before k (omega arith) h

pub returns-in-Some-clause-found : goal.returns-in-Some-clause-found
returns-in-Some-clause-found c =
    let first = first_of_places 10 c.args.text.now c.in-Some.end c.next.new.self (sym c.memchr_iter.ensures.value ∙ c.in-Some.ensures.steps) in
    λ _. first.at

pub returns-in-None-clause-before : goal.returns-in-None-clause-before
returns-in-None-clause-before c = no_places 10 c.args.text.now (sym c.memchr_iter.ensures.value ∙ c.in-None.ensures.steps.0)
