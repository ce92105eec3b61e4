use Rattle.std.proofs.Common.{◌≡◌, ◌+◌, ap, sym, ◌∙◌, drop, [], ℕ}
use Rattle.std.specs.List.{fold}
use Rattle.std.proofs.Math.ListN.{drop_of_length-le}
use Rattle.std.proofs.lemmas.List.{drop_more}
use Rattle.cg_syntax.specs.Bound.{with_digit}
use Rattle.cg_syntax.proofs.sheet.number_of.Goals as goal

pub loop-byte-preserved : goal.loop-byte-preserved
loop-byte-preserved c =
    let name = c.args.name.now in
    let at = c.loop-byte.byte-index in
    ap (λ (byte : ℕ). fold with_digit (with_digit c.loop-byte.number byte) (drop (at + 1) name)) c.from.ensures
    ∙ sym (ap (fold with_digit c.loop-byte.number) (drop_more name at 0 c.loop-byte-test.true)) ∙ c.loop-byte.invariant

pub returns : goal.returns
returns c =
    let none : drop c.loop-byte.byte-index c.args.name.now ≡ [] = drop_of_length-le c.args.name.now c.loop-byte-test.false in
    sym (ap (fold with_digit c.loop-byte.number) none) ∙ c.loop-byte.invariant
