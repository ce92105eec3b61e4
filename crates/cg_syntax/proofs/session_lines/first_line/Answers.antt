use Rattle.std.proofs.Common.{◌≡◌, ◌+◌, [], length, drop, drop_of_length-le, arith}
use Rattle.std.proofs.lemmas.List.{take_rest}
use Rattle.cg_syntax.proofs.LineCuts.{lines_cut, lines_last}
use Rattle.cg_syntax.proofs.session_lines.first_line.Goals as goal

pub returns-then-end-text-clause-lines : goal.returns-then-end-text-clause-lines
returns-then-end-text-clause-lines c =
    let e = c.line_length-end.ensures in
    let xs = c.args.text.now in
    let n = c.line_length-end.result in
    rw (take_rest xs (n + 1)) (lines_cut xs n c.if-end-text.true e.before (e.found c.if-end-text.true))

pub returns-else-end-text-clause-lines : goal.returns-else-end-text-clause-lines
returns-else-end-text-clause-lines c =
    let e = c.line_length-end.ensures in
    let xs = c.args.text.now in
    let none : drop (length xs) xs ≡ [] = drop_of_length-le xs (omega arith) in
    rw (take_rest xs (length xs), none) (lines_last xs c.requires (λ k h. e.before k (omega arith)))
