use Rattle.std.proofs.Common.{◌≡◌, to_z, of_z, ℤ, ◌<◌, ◌^◌, arith}
use Rattle.std.proofs.lemmas.Int.{to_z-of_z, fits_signed_from_abs}
use Rattle.std.specs.Prelude.{unsigned_abs}
use mir.Syntax.{w128}
use Rattle.cg_dyadic.specs.Cut.{in_gap}
use Rattle.cg_dyadic.proofs.Gap.{found_held, found_inside, gap_found, gap_nothing, lowest_found}
use Rattle.cg_dyadic.proofs.Truth.{differ}
use Rattle.cg_dyadic.proofs.search.simplest_in.Goals as goal

word : (n : ℤ) → unsigned_abs n < 2 ^ 64 → to_z w128 (of_z w128 n) ≡ n
word n h = to_z-of_z w128 n (fits_signed_from_abs w128 n (omega arith))

pub returns-then-crossed : goal.returns-then-crossed
returns-then-crossed c = gap_nothing c.args.low c.args.high _ _ _ c.first_unit-first.ensures.is c.last_unit-last.ensures.is c.first_unit-first.ensures.short c.last_unit-last.ensures.short c.crossed.ensures c.if-crossed.true

pub invariant_of-result : goal.invariant_of-result
invariant_of-result c =
    let (s, t) = c.is_in_range.ensures.0 c.if-is_in_range.true in
    lowest_found (in_gap c.args.low c.args.high) c.simplest_of-best.result.num _ c.simplest_of-best.result.exp (word c.simplest_of-best.result.num s)
    (gap_found c.args.low c.args.high _ _ _ _ c.first_unit-first.ensures.is c.last_unit-last.ensures.is c.first_unit-first.ensures.short c.last_unit-last.ensures.short c.simplest_of-best.ensures) s t

pub returns-then-is_in_range : goal.returns-then-is_in_range
returns-then-is_in_range c =
    let (s, t) = c.is_in_range.ensures.0 c.if-is_in_range.true in
    let f = gap_found c.args.low c.args.high _ _ _ _ c.first_unit-first.ensures.is c.last_unit-last.ensures.is c.first_unit-first.ensures.short c.last_unit-last.ensures.short c.simplest_of-best.ensures in
    found_inside (in_gap c.args.low c.args.high) c.simplest_of-best.result.num _ c.simplest_of-best.result.exp (word c.simplest_of-best.result.num s) f s t

pub returns : goal.returns
returns c =
    let f = gap_found c.args.low c.args.high _ _ _ _ c.first_unit-first.ensures.is c.last_unit-last.ensures.is c.first_unit-first.ensures.short c.last_unit-last.ensures.short c.simplest_of-best.ensures in
    found_held (in_gap c.args.low c.args.high) _ f (λ s. differ c.is_in_range.result (c.is_in_range.ensures.1 s) c.if-is_in_range.false)
