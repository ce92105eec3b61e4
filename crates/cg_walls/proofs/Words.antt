-- Starts and values of walls are words.
use Rattle.std.proofs.Common.{◌≡◌, ◌<◌, ◌^◌, ◌≤◌, ap, arith, unsigned_abs, ℤ, pos, neg_ℤ, ◌-ℤ◌, ◌∙◌, ◌≤ℤ◌, to_z, of_z}
use Rattle.std.proofs.lemmas.Int.{fits_signed_from_abs, ints, to_z-of_z}
use mir.Syntax.{w128}
use Rattle.cg_walls.specs.declared.TheConstants.{BOUND}
use Rattle.cg_walls.specs.declared.place.Place.{Place}
use Rattle.cg_walls.specs.declared.rise.Rise.{Rise}
use Rattle.cg_walls.specs.Places.{Within}
use Rattle.cg_walls.specs.Rises.{IsWall}
use Rattle.cg_walls.proofs.Rising.{value-zero}

size_small : (n : ℤ) → neg_ℤ (pos 21267647932558653966460912964485513216) ≤ℤ n → n ≤ℤ pos 21267647932558653966460912964485513216
    → unsigned_abs n < 2 ^ 127
size_small n h k = let s = size n h k in omega arith
  where
    size : (n : ℤ) → neg_ℤ (pos 21267647932558653966460912964485513216) ≤ℤ n → n ≤ℤ pos 21267647932558653966460912964485513216
        → unsigned_abs n ≤ 21267647932558653966460912964485513216
    size n h k = grind (arith, ints)

pub word : (n : ℤ) → neg_ℤ BOUND ≤ℤ n → n ≤ℤ BOUND → to_z w128 (of_z w128 n) ≡ n
word n h k = to_z-of_z w128 n (fits_signed_from_abs w128 n (size_small n h k))

pub start_word : (r : Rise) → IsWall r → to_z w128 (of_z w128 r.start) ≡ r.start
start_word r w = let h = w.high 0 in let z = value-zero r in word r.start w.low (omega (arith, ints))

pub value_word : (p : Place) → Within p → to_z w128 (of_z w128 p.value) ≡ p.value
value_word p w = word p.value w.low w.high

-- the negative of the start
pub negative_word : (r : Rise) → IsWall r → to_z w128 (of_z w128 (pos 0 -ℤ to_z w128 (of_z w128 r.start))) ≡ neg_ℤ r.start
negative_word r w =
    let h = w.high 0 in let z = value-zero r in let l = w.low in
    ap (λ n. to_z w128 (of_z w128 (pos 0 -ℤ n))) (start_word r w)
    ∙ word (pos 0 -ℤ r.start) (omega (arith, ints)) (omega (arith, ints)) ∙ minus r.start
  where
    minus : (n : ℤ) → pos 0 -ℤ n ≡ neg_ℤ n
    minus n = omega (arith, ints)
