-- The options of a sum.
use Rattle.std.proofs.Common.{◌≡◌, ℕ, ◌+◌, ◌<◌, arith, zero, suc, ◌⊎◌, inl, inr, ap, ◌∙◌, ◌++◌, map}
use Rattle.cg_form.specs.Game.{Among, Game, lefts, node, rights}
use Rattle.cg_form.specs.Size.{size}
use Rattle.cg_form.specs.Sum.{sum, sum_within}
use Rattle.cg_form.proofs.Among.{among-append, among-append_left, among-append_right, among_map, among_mapped, map-agree, to_list-of_list}
use Rattle.cg_form.proofs.Size.{size-lefts, size-rights}

pub sum_within-any : (n m : ℕ) (g h : Game) → size g + size h < n → size g + size h < m
    → sum_within n g h ≡ sum_within m g h
unfolding sum_within
sum_within-any zero m g h p q = absurd (omega arith)
sum_within-any (suc n) zero g h p q = absurd (omega arith)
sum_within-any (suc n) (suc m) g h p q =
    let ll : map (λ a. sum_within n a h) (lefts g) ≡ map (λ a. sum_within m a h) (lefts g) =
    map-agree (λ a. sum_within n a h) (λ a. sum_within m a h) (lefts g)
    (λ a k. let s = size-lefts g a k in sum_within-any n m a h (omega arith) (omega arith)) in
    let lr : map (λ a. sum_within n g a) (lefts h) ≡ map (λ a. sum_within m g a) (lefts h) =
    map-agree (λ a. sum_within n g a) (λ a. sum_within m g a) (lefts h)
    (λ a k. let s = size-lefts h a k in sum_within-any n m g a (omega arith) (omega arith)) in
    let rl : map (λ a. sum_within n a h) (rights g) ≡ map (λ a. sum_within m a h) (rights g) =
    map-agree (λ a. sum_within n a h) (λ a. sum_within m a h) (rights g)
    (λ a k. let s = size-rights g a k in sum_within-any n m a h (omega arith) (omega arith)) in
    let rr : map (λ a. sum_within n g a) (rights h) ≡ map (λ a. sum_within m g a) (rights h) =
    map-agree (λ a. sum_within n g a) (λ a. sum_within m g a) (rights h)
    (λ a k. let s = size-rights h a k in sum_within-any n m g a (omega arith) (omega arith)) in
    cc

pub sum_within-sum : (n : ℕ) (g h : Game) → size g + size h < n → sum_within n g h ≡ sum g h
unfolding sum
sum_within-sum n g h p = sum_within-any n (suc (size g + size h)) g h p (omega arith)

-- the sum from the options
pub sum-options : (g h : Game) → sum g h ≡
    node (map (λ a. sum a h) (lefts g) ++ map (λ a. sum g a) (lefts h))
    (map (λ b. sum b h) (rights g) ++ map (λ b. sum g b) (rights h))
unfolding sum sum_within
sum-options g h =
    let n : ℕ = size g + size h in
    let ll : map (λ a. sum_within n a h) (lefts g) ≡ map (λ a. sum a h) (lefts g) =
    map-agree (λ a. sum_within n a h) (λ a. sum a h) (lefts g)
    (λ a k. let s = size-lefts g a k in sum_within-sum n a h (omega arith)) in
    let lr : map (λ a. sum_within n g a) (lefts h) ≡ map (λ a. sum g a) (lefts h) =
    map-agree (λ a. sum_within n g a) (λ a. sum g a) (lefts h)
    (λ a k. let s = size-lefts h a k in sum_within-sum n g a (omega arith)) in
    let rl : map (λ a. sum_within n a h) (rights g) ≡ map (λ a. sum a h) (rights g) =
    map-agree (λ a. sum_within n a h) (λ a. sum a h) (rights g)
    (λ a k. let s = size-rights g a k in sum_within-sum n a h (omega arith)) in
    let rr : map (λ a. sum_within n g a) (rights h) ≡ map (λ a. sum g a) (rights h) =
    map-agree (λ a. sum_within n g a) (λ a. sum g a) (rights h)
    (λ a k. let s = size-rights h a k in sum_within-sum n g a (omega arith)) in
    cc

pub lefts-sum : (g h : Game) → lefts (sum g h) ≡ map (λ a. sum a h) (lefts g) ++ map (λ a. sum g a) (lefts h)
lefts-sum g h = ap lefts (sum-options g h) ∙ to_list-of_list _

pub rights-sum : (g h : Game) → rights (sum g h) ≡ map (λ b. sum b h) (rights g) ++ map (λ b. sum g b) (rights h)
rights-sum g h = ap rights (sum-options g h) ∙ to_list-of_list _

pub sum-left_first : (g h a : Game) → Among a (lefts g) → Among (sum a h) (lefts (sum g h))
sum-left_first g h a m = rw lefts-sum (among-append_left _ _ _ (among_mapped (λ a. sum a h) a (lefts g) m))

pub sum-left_second : (g h a : Game) → Among a (lefts h) → Among (sum g a) (lefts (sum g h))
sum-left_second g h a m = rw lefts-sum (among-append_right _ _ _ (among_mapped (λ a. sum g a) a (lefts h) m))

pub sum-right_first : (g h b : Game) → Among b (rights g) → Among (sum b h) (rights (sum g h))
sum-right_first g h b m = rw rights-sum (among-append_left _ _ _ (among_mapped (λ a. sum a h) b (rights g) m))

pub sum-right_second : (g h b : Game) → Among b (rights h) → Among (sum g b) (rights (sum g h))
sum-right_second g h b m = rw rights-sum (among-append_right _ _ _ (among_mapped (λ a. sum g a) b (rights h) m))

pub sum-left_cases : (g h x : Game) → Among x (lefts (sum g h)) →
    ((a : Game) × Among a (lefts g) × (x ≡ sum a h)) ⊎ ((a : Game) × Among a (lefts h) × (x ≡ sum g a))
sum-left_cases g h x m =
    let k : Among x (map (λ a. sum a h) (lefts g) ++ map (λ a. sum g a) (lefts h)) = rw lefts-sum at m in
    elim (among-append x _ _ k) [
      | inl w ↦ inl (among_map (λ a. sum a h) x (lefts g) w)
      | inr w ↦ inr (among_map (λ a. sum g a) x (lefts h) w)
    ]

pub sum-right_cases : (g h x : Game) → Among x (rights (sum g h)) →
    ((a : Game) × Among a (rights g) × (x ≡ sum a h)) ⊎ ((a : Game) × Among a (rights h) × (x ≡ sum g a))
sum-right_cases g h x m =
    let k : Among x (map (λ a. sum a h) (rights g) ++ map (λ a. sum g a) (rights h)) = rw rights-sum at m in
    elim (among-append x _ _ k) [
      | inl w ↦ inl (among_map (λ a. sum a h) x (rights g) w)
      | inr w ↦ inr (among_map (λ a. sum g a) x (rights h) w)
    ]
