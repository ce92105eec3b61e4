use Rattle.std.proofs.Common.{◌≡◌, refl, ap, ◌∙◌, sym, subst, ℤ, neg_ℤ, ◌≤ℤ◌}
use Rattle.cg_dyadic.specs.Units.{units}
use Rattle.cg_dyadic.specs.Wide.{places}
use Rattle.cg_walls.specs.declared.TheConstants.{BOUND}
use Rattle.cg_thermo.proofs.Roughs.{bounds_of, number-walls_paired, word_plain, word_turned}
use Rattle.cg_thermo.proofs.pairing_walls.number_wall_pair.Goals as goal

low : (n m : ℤ) → n ≡ m → neg_ℤ BOUND ≤ℤ m → neg_ℤ BOUND ≤ℤ n
low n m e h = let P : ℤ → Type 0 = λ z. neg_ℤ BOUND ≤ℤ z in subst P (sym e) h

high : (n m : ℤ) → n ≡ m → m ≤ℤ BOUND → n ≤ℤ BOUND
high n m e h = let P : ℤ → Type 0 = λ z. z ≤ℤ BOUND in subst P (sym e) h

pub level-requires-clause-low : goal.level-requires-clause-low
level-requires-clause-low c =
    let u = c.units-units.result in let x = c.args.x in
    let e : c.units-units.result ≡ units places c.args.x = c.units-units.ensures.value ∙ ap (units places) c.of.ensures.same in
    let b = bounds_of x u e c.requires in low _ _ (word_turned x u e c.requires) b.2

pub level-requires-clause-high : goal.level-requires-clause-high
level-requires-clause-high c =
    let u = c.units-units.result in let x = c.args.x in
    let e : c.units-units.result ≡ units places c.args.x = c.units-units.ensures.value ∙ ap (units places) c.of.ensures.same in
    let b = bounds_of x u e c.requires in high _ _ (word_turned x u e c.requires) b.3

pub level-requires-2-clause-low : goal.level-requires-2-clause-low
level-requires-2-clause-low c =
    let u = c.units-units.result in let x = c.args.x in
    let e : c.units-units.result ≡ units places c.args.x = c.units-units.ensures.value ∙ ap (units places) c.of.ensures.same in
    let b = bounds_of x u e c.requires in low _ _ (word_plain x u e c.requires) b.0

pub level-requires-2-clause-high : goal.level-requires-2-clause-high
level-requires-2-clause-high c =
    let u = c.units-units.result in let x = c.args.x in
    let e : c.units-units.result ≡ units places c.args.x = c.units-units.ensures.value ∙ ap (units places) c.of.ensures.same in
    let b = bounds_of x u e c.requires in high _ _ (word_plain x u e c.requires) b.1

pub returns : goal.returns
returns c =
    let u = c.units-units.result in let x = c.args.x in
    let e : c.units-units.result ≡ units places c.args.x = c.units-units.ensures.value ∙ ap (units places) c.of.ensures.same in
    number-walls_paired x u (record { left = c.level.result; right = c.level-2.result; end = 0 }) c.requires e refl
    c.level.ensures.wall c.level-2.ensures.wall (λ t. c.level.ensures.value t ∙ word_turned x u e c.requires)
    (λ t. c.level-2.ensures.value t ∙ word_plain x u e c.requires)
