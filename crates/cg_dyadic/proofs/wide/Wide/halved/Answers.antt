use Rattle.std.proofs.Common.{◌≡◌, ◌∙◌, ap, sym, ◌<◌, ◌^◌, unsigned_abs, ℤ, ◌+ℤ◌}
use Rattle.cg_dyadic.specs.Number.{half, ratio}
use Rattle.cg_dyadic.specs.Wide.{places}
use Rattle.cg_dyadic.proofs.Wides.{half-none, half-small, half-some, no_true, plus_word, wide_word}
use Rattle.cg_dyadic.proofs.wide.Wide.halved.Goals as goal

small : (h u : ℤ) → h ≡ half u → unsigned_abs u < 2 ^ 126 → unsigned_abs h < 2 ^ 126
small h u e k = rw e (half-small u k)

pub returns-then-same : goal.returns-then-same
returns-then-same c =
    let u = c.units-units.result in let h = c.half_down-half.result in
    let s = c.units-units.ensures.small in
    let e : c.half_down-half.result ≡ half c.units-units.result = c.half_down-half.ensures ∙ ap half (wide_word u s) in
    let k = small h u e s in
    half-some c.args.self c.of_units.result u h c.units-units.ensures.in_range c.units-units.ensures.value
    (sym (plus_word h h k k) ∙ c.same.ensures.0 c.if-same.true ∙ wide_word u s) k
    (c.of_units.ensures ∙ ap (λ n. ratio n places) (wide_word h k))

pub returns-else-same : goal.returns-else-same
returns-else-same c =
    let u = c.units-units.result in let h = c.half_down-half.result in
    let s = c.units-units.ensures.small in
    let e : c.half_down-half.result ≡ half c.units-units.result = c.half_down-half.ensures ∙ ap half (wide_word u s) in
    let k = small h u e s in
    half-none c.args.self u c.units-units.ensures.in_range c.units-units.ensures.value
    (λ f. no_true c.same.result (c.same.ensures.1 (plus_word h h k k ∙ ap (λ n. n +ℤ n) e ∙ f ∙ sym (wide_word u s))) c.if-same.false)
