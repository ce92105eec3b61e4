use Rattle.std.proofs.Common.{List, ℕ, sym, subst, ◌∙◌, arith}
use Rattle.std.proofs.lemmas.List.{nil_from_length}
use Rattle.cg_reading.specs.Bytes.{Ends}
use Rattle.cg_reading.specs.Tokens.{digit}
use Rattle.cg_reading.proofs.DigitLemmas.{first_read, next_read, value_below, next_fits, shorter, read_whole, read_too_many}
use Rattle.cg_reading.proofs.tokens.few_digits.Goals as goal
use Rattle.cg_reading.proofs.tokens.few_digits.Goals.{in-Some-split_first+then-not-is_digit-2, in_default-split_first}

pub returns-then-room-eq0-clause-read : goal.returns-then-room-eq0-clause-read
returns-then-room-eq0-clause-read c =
    read_too_many c.loop-digit.invariant c.in-Some-split_first.digit.now c.in-Some-split_first.after.now c.in-Some-split_first.ensures.cases.0
    (sym c.is_digit-in-Some-split_first.ensures.test ∙ c.if-not-is_digit-2.false) c.if-room-eq0.true

pub overflow_mul-value : goal.overflow_mul-value
overflow_mul-value c = omega (arith, next_fits c.loop-digit.invariant (omega arith) c.requires.fits)

pub overflow_add-value : goal.overflow_add-value
overflow_add-value c =
    omega (arith, next_fits c.loop-digit.invariant (omega arith) c.requires.fits, c.is_digit-in-Some-split_first.ensures.range c.if-not-is_digit-2.false)

pub loop-digit-preserved : goal.loop-digit-preserved
loop-digit-preserved c =
    next_read c.loop-digit.invariant c.in-Some-split_first.digit.now c.from.result c.in-Some-split_first.after.now c.in-Some-split_first.ensures.cases.0
    (sym c.is_digit-in-Some-split_first.ensures.test ∙ c.if-not-is_digit-2.false) (omega arith) c.from.ensures

pub returns-clause-read : goal.returns-clause-read
returns-clause-read c =
    read_whole c.loop-digit.invariant (elim c.match-split_first-2.branch [
      | in-Some-split_first+then-not-is_digit-2 w ↦ subst (λ (z : List ℕ). Ends digit z) (sym w.in-Some-split_first.ensures.cases.0) (sym w.is_digit-in-Some-split_first.ensures.test ∙ w.if-not-is_digit-2.true)
      | in_default-split_first w ↦ subst (λ (z : List ℕ). Ends digit z) (sym (nil_from_length c.loop-digit.rest.now w.in_default-split_first.ensures.cases)) tt
    ])

pub loop-digit-init : goal.loop-digit-init
loop-digit-init c =
    first_read c.args.most c.from-value.result c.in-Some.first.now c.args.bytes.now c.in-Some.after.now c.in-Some.ensures.cases.0
    (sym c.is_digit.ensures.test ∙ c.if-not-is_digit.false) c.requires.some c.from-value.ensures

pub returns-clause-below : goal.returns-clause-below
returns-clause-below c = value_below c.loop-digit.invariant

pub returns-clause-shorter : goal.returns-clause-shorter
returns-clause-shorter c = shorter c.loop-digit.invariant
