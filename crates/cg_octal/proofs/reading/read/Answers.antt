use Rattle.std.proofs.Common.{◌+◌, inl, inr, refl, arith, rules}
use Rattle.cg_octal.proofs.Places.{read_code, read_digits, read_is_code, read_no_code}
use Rattle.cg_octal.proofs.reading.read.Goals as goal

pub returns-then-length-lt3-clause-read : goal.returns-then-length-lt3-clause-read
returns-then-length-lt3-clause-read c =
    let e = c.fit_length-length.ensures.count in
    let place = c.fit_length-length.result + 1 in
    elim c.then-length-lt3.either [
      | inl l ↦ read_no_code c.args.code.now place (inr (omega arith)) (omega arith)
      | inr m ↦ read_no_code c.args.code.now place (inl (omega arith)) (omega arith)
    ]

pub returns-then-heap-gt-MOST-clause-read : goal.returns-then-heap-gt-MOST-clause-read
returns-then-heap-gt-MOST-clause-read c =
    let e = c.fit_length-length.ensures.count in
    let l = c.if-length-code.false in
    let m = c.if-length-lt3.false in
    ((_, read_code c.args.code.now (omega arith) (omega arith)), c.if-heap-gt-MOST.true)

pub of-requires : goal.of-requires
of-requires c =
    let e = c.fit_length-length.ensures.count in
    let w = c.fit_length-length.ensures.within in
    let l = c.if-length-code.false in
    let m = c.if-length-lt3.false in
    let n = c.if-heap-gt-MOST.false in
    let digits = c.in_ok-digits.digits.items in
    let code = read_is_code c.args.code.now digits (omega arith) (omega arith)
    (read_digits c.args.code.now digits digits c.new.result.items (omega arith) c.new.ensures.items c.in_ok-digits.ensures refl) in
    record { octal = code.octal; some = code.some; few = code.few; heap = omega arith }

pub returns-clause-digits : goal.returns-clause-digits
returns-clause-digits c =
    let w = c.fit_length-length.ensures.within in
    let m = c.if-length-lt3.false in
    read_digits c.args.code.now c.of.result.digits c.in_ok-digits.digits.items c.new.result.items (omega arith)
    c.new.ensures.items c.in_ok-digits.ensures c.of.ensures.digits

pub returns-clause-read : goal.returns-clause-read
returns-clause-read c =
    let e = c.fit_length-length.ensures.count in
    let l = c.if-length-code.false in
    let m = c.if-length-lt3.false in
    let n = c.if-heap-gt-MOST.false in (
      read_is_code c.args.code.now c.of.result.digits (omega arith) (omega arith) (returns-clause-digits c),
      search (rules, c.of.ensures.heap),
      omega arith,
    )
