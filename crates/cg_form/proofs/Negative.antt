-- Negatives turn the order, and a game less itself equals 0.
use Rattle.std.proofs.Common.{◌≡◌, ℕ, ◌+◌, ◌<◌, arith, zero, suc, inl, inr, ap, ◌∙◌, map}
use Rattle.cg_form.specs.Game.{Among, Game, lefts, node, rights}
use Rattle.cg_form.specs.Order.{Equal, Le}
use Rattle.cg_form.specs.Size.{size}
use Rattle.cg_form.specs.Sum.{negative, negative_within, nothing, sum}
use Rattle.cg_form.proofs.Among.{among_map, among_mapped, map-agree, to_list-of_list}
use Rattle.cg_form.proofs.Order.{le-fold, le-unfold}
use Rattle.cg_form.proofs.Size.{size-lefts, size-rights}
use Rattle.cg_form.proofs.Sum.{sum-left_cases, sum-left_first, sum-left_second, sum-right_cases, sum-right_first, sum-right_second}

pub negative_within-any : (n m : ℕ) (g : Game) → size g < n → size g < m → negative_within n g ≡ negative_within m g
unfolding negative_within
negative_within-any zero m g p q = absurd (omega arith)
negative_within-any (suc n) zero g p q = absurd (omega arith)
negative_within-any (suc n) (suc m) g p q =
    let l : map (λ a. negative_within n a) (lefts g) ≡ map (λ a. negative_within m a) (lefts g) =
    map-agree (λ a. negative_within n a) (λ a. negative_within m a) (lefts g)
    (λ a k. let s = size-lefts g a k in negative_within-any n m a (omega arith) (omega arith)) in
    let r : map (λ a. negative_within n a) (rights g) ≡ map (λ a. negative_within m a) (rights g) =
    map-agree (λ a. negative_within n a) (λ a. negative_within m a) (rights g)
    (λ a k. let s = size-rights g a k in negative_within-any n m a (omega arith) (omega arith)) in
    cc

pub negative-options : (g : Game) → negative g ≡ node (map negative (rights g)) (map negative (lefts g))
unfolding negative negative_within
negative-options g =
    let n : ℕ = size g in
    let l : map (λ a. negative_within n a) (lefts g) ≡ map negative (lefts g) =
    map-agree (λ a. negative_within n a) negative (lefts g)
    (λ a k. let s = size-lefts g a k in negative_within-any n (suc (size a)) a (omega arith) (omega arith)) in
    let r : map (λ a. negative_within n a) (rights g) ≡ map negative (rights g) =
    map-agree (λ a. negative_within n a) negative (rights g)
    (λ a k. let s = size-rights g a k in negative_within-any n (suc (size a)) a (omega arith) (omega arith)) in
    cc

pub lefts-negative : (g : Game) → lefts (negative g) ≡ map negative (rights g)
lefts-negative g = ap lefts (negative-options g) ∙ to_list-of_list _

pub rights-negative : (g : Game) → rights (negative g) ≡ map negative (lefts g)
rights-negative g = ap rights (negative-options g) ∙ to_list-of_list _

pub negative-left : (g b : Game) → Among b (rights g) → Among (negative b) (lefts (negative g))
negative-left g b m = rw lefts-negative (among_mapped negative b (rights g) m)

pub negative-right : (g a : Game) → Among a (lefts g) → Among (negative a) (rights (negative g))
negative-right g a m = rw rights-negative (among_mapped negative a (lefts g) m)

pub negative-left_cases : (g x : Game) → Among x (lefts (negative g))
    → (b : Game) × Among b (rights g) × (x ≡ negative b)
negative-left_cases g x m = let k : Among x (map negative (rights g)) = rw lefts-negative at m in
    among_map negative x (rights g) k

pub negative-right_cases : (g x : Game) → Among x (rights (negative g))
    → (a : Game) × Among a (lefts g) × (x ≡ negative a)
negative-right_cases g x m = let k : Among x (map negative (lefts g)) = rw rights-negative at m in
    among_map negative x (lefts g) k

pub record Turned (g h : Game) : Type 0 where
  pub over : Le g h → Le (negative h) (negative g)
  pub back : Le (negative h) (negative g) → Le g h

pub negative-turned : (n : ℕ) (g h : Game) → size g + size h < n → Turned g h
negative-turned zero g h s = absurd (omega arith)
negative-turned (suc n) g h s = record {
  over = λ p. le-fold (negative h) (negative g) (record {
    on_left = λ x m k.
        let (b, w, e) = negative-left_cases h x m in
        let t = size-rights h b w in
        (le-unfold g h p).on_right b w ((negative-turned n b g (omega arith)).back (rw e at k));
    on_right = λ x m k.
        let (a, w, e) = negative-right_cases g x m in
        let t = size-lefts g a w in
        (le-unfold g h p).on_left a w ((negative-turned n h a (omega arith)).back (rw e at k));
  });
  back = λ p. le-fold g h (record {
    on_left = λ a w k.
        let t = size-lefts g a w in
        (le-unfold (negative h) (negative g) p).on_right (negative a) (negative-right g a w)
        ((negative-turned n h a (omega arith)).over k);
    on_right = λ b w k.
        let t = size-rights h b w in
        (le-unfold (negative h) (negative g) p).on_left (negative b) (negative-left h b w)
        ((negative-turned n b g (omega arith)).over k);
  });
}

pub negative-le : (g h : Game) → Le g h → Le (negative h) (negative g)
negative-le g h p = (negative-turned (suc (size g + size h)) g h (omega arith)).over p

pub le-negative : (g h : Game) → Le (negative h) (negative g) → Le g h
le-negative g h p = (negative-turned (suc (size g + size h)) g h (omega arith)).back p

pub sum-negative_le : (n : ℕ) (g : Game) → size g < n → Le (sum g (negative g)) nothing
sum-negative_le zero g s = absurd (omega arith)
sum-negative_le (suc n) g s = le-fold (sum g (negative g)) nothing (record {
  on_left = λ x m k. elim (sum-left_cases g (negative g) x m) [
    | inl (a, w, e) ↦
        let t = size-lefts g a w in
        (le-unfold nothing (sum a (negative g)) (rw e at k)).on_right (sum a (negative a))
        (sum-right_second a (negative g) (negative a) (negative-right g a w)) (sum-negative_le n a (omega arith))
    | inr (y, w, e) ↦
        let (b, v, f) = negative-left_cases g y w in
        let t = size-rights g b v in
        (le-unfold nothing (sum g (negative b)) (rw f at (rw e at k))).on_right (sum b (negative b))
        (sum-right_first g (negative b) b v) (sum-negative_le n b (omega arith))
  ];
  on_right = λ x m k. absurd m;
})

pub le-sum_negative : (n : ℕ) (g : Game) → size g < n → Le nothing (sum g (negative g))
le-sum_negative zero g s = absurd (omega arith)
le-sum_negative (suc n) g s = le-fold nothing (sum g (negative g)) (record {
  on_left = λ x m k. absurd m;
  on_right = λ x m k. elim (sum-right_cases g (negative g) x m) [
    | inl (b, w, e) ↦
        let t = size-rights g b w in
        (le-unfold (sum b (negative g)) nothing (rw e at k)).on_left (sum b (negative b))
        (sum-left_second b (negative g) (negative b) (negative-left g b w)) (le-sum_negative n b (omega arith))
    | inr (y, w, e) ↦
        let (a, v, f) = negative-right_cases g y w in
        let t = size-lefts g a v in
        (le-unfold (sum g (negative a)) nothing (rw f at (rw e at k))).on_left (sum a (negative a))
        (sum-left_first g (negative a) a v) (le-sum_negative n a (omega arith))
  ];
})

pub sum-negative : (g : Game) → Equal (sum g (negative g)) nothing
sum-negative g = (sum-negative_le (suc (size g)) g (omega arith), le-sum_negative (suc (size g)) g (omega arith))
