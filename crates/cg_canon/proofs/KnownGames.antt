-- Sums of a number, of ups or downs, and of a nimber, by their parts.
use Rattle.std.proofs.Common.{◌≡◌, ◌∙◌, refl, Bool, true, ◌&&◌, nat_eq, eqb-true, arith, ℕ, ℤ, pos, ◌+ℤ◌, ◌-ℤ◌, ap, sym}
use Rattle.std.specs.Ordering.{int_eq}
use Rattle.std.proofs.lemmas.Int.{ints}
use Rattle.cg_dyadic.specs.Number.{Number, exp_of, num_of}
use Rattle.cg_dyadic.proofs.Truth.{and-split}
use Rattle.cg_form.specs.Game.{Game}
use Rattle.cg_form.specs.Order.{Equal}
use Rattle.cg_form.specs.Sum.{sum}
use Rattle.cg_nimbers.specs.NumberUpStar.{number_up_star}
use Rattle.cg_nimbers.proofs.NumberUpStars.{number_up_star-sum}
use Rattle.cg_nimbers.proofs.SameNumbers.{tells_same}
use Rattle.cg_canon.specs.declared.number_up_star.NumberUpStar.{NumberUpStar}
use Rattle.cg_canon.specs.NumberUpStars.{IsPlus, game_of}

-- with these parts
pub parts_game : (v : NumberUpStar) (x : Number) (n k m : ℕ) → v.number ≡ x → v.ups ≡ n → v.downs ≡ k → v.star ≡ m
    → game_of v ≡ number_up_star x (pos n -ℤ pos k) m
parts_game v x n k m number ups downs star =
    ap (λ z. number_up_star z (pos v.ups -ℤ pos v.downs) v.star) number
    ∙ ap (λ z. number_up_star x (pos z -ℤ pos v.downs) v.star) ups
    ∙ ap (λ z. number_up_star x (pos n -ℤ pos z) v.star) downs ∙ ap (number_up_star x (pos n -ℤ pos k)) star

-- the games of two such sums come to that of their sum
pub plus_equal : (v w u : NumberUpStar) → IsPlus v w u → Equal (sum (game_of v) (game_of w)) (game_of u)
plus_equal v w u p =
    let both : Game = sum (game_of v) (game_of w) in
    let n : ℤ = pos v.ups -ℤ pos v.downs in
    let k : ℤ = pos w.ups -ℤ pos w.downs in
    let ups : n +ℤ k ≡ pos u.ups -ℤ pos u.downs = let e = p.ups in omega (arith, ints) in
    rw (← p.star) (rw (← ups) (number_up_star-sum v.number w.number u.number n k v.star w.star p.number))

same_parts : (v w : NumberUpStar) → v.number ≡ w.number → v.ups ≡ w.ups → v.downs ≡ w.downs → v.star ≡ w.star → v ≡ w
same_parts v w number ups downs star =
    let R : Number → ℕ → ℕ → ℕ → NumberUpStar = λ x n k m. record { number = x; ups = n; downs = k; star = m } in
    ap (λ x. R x v.ups v.downs v.star) number ∙ (ap (λ n. R w.number n v.downs v.star) ups
    ∙ (ap (λ k. R w.number w.ups k v.star) downs ∙ ap (R w.number w.ups w.downs) star))

-- sums with the same parts are the same
pub same_sum : (v w : NumberUpStar) (b : Bool)
    → b ≡ ((int_eq (num_of v.number) (num_of w.number) && nat_eq (exp_of v.number) (exp_of w.number))
    && (nat_eq v.ups w.ups && (nat_eq v.downs w.downs && nat_eq v.star w.star))) → b ≡ true → v ≡ w
same_sum v w b e t =
    let (first, rest) = and-split _ (nat_eq v.ups w.ups && (nat_eq v.downs w.downs && nat_eq v.star w.star)) (sym e ∙ t) in
    let (ups, others) = and-split (nat_eq v.ups w.ups) (nat_eq v.downs w.downs && nat_eq v.star w.star) rest in
    let (downs, star) = and-split (nat_eq v.downs w.downs) (nat_eq v.star w.star) others in
    same_parts v w (tells_same v.number w.number true (sym first) refl) (eqb-true v.ups w.ups ups)
    (eqb-true v.downs w.downs downs) (eqb-true v.star w.star star)
