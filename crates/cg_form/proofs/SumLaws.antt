-- Sums commute and associate, and nothing is neutral, up to equality of games.
use Rattle.std.proofs.Common.{ℕ, ◌+◌, ◌<◌, arith, zero, suc, inl, inr, ap, ◌∙◌}
use Rattle.cg_form.specs.Game.{Game}
use Rattle.cg_form.specs.Order.{Equal, Le}
use Rattle.cg_form.specs.Size.{size}
use Rattle.cg_form.specs.Sum.{nothing, sum}
use Rattle.cg_form.proofs.Preorder.{le-cofinal, le_trans}
use Rattle.cg_form.proofs.Size.{size-lefts, size-rights}
use Rattle.cg_form.proofs.Sum.{sum-left_cases, sum-left_first, sum-left_second, sum-right_cases, sum-right_first, sum-right_second}
use Rattle.cg_form.proofs.SumOrder.{le-sum, sum-le}

pub sum_comm_within : (n : ℕ) (g h : Game) → size g + size h < n → Le (sum g h) (sum h g)
sum_comm_within zero g h s = absurd (omega arith)
sum_comm_within (suc n) g h s = le-cofinal (sum g h) (sum h g)
    (λ x m. elim (sum-left_cases g h x m) [
      | inl (a, w, e) ↦ let t = size-lefts g a w in
          (sum h a, sum-left_second h g a w, rw e (sum_comm_within n a h (omega arith)))
      | inr (a, w, e) ↦ let t = size-lefts h a w in
          (sum a g, sum-left_first h g a w, rw e (sum_comm_within n g a (omega arith)))
    ])
    (λ x m. elim (sum-right_cases h g x m) [
      | inl (b, w, e) ↦ let t = size-rights h b w in
          (sum g b, sum-right_second g h b w, rw e (sum_comm_within n g b (omega arith)))
      | inr (b, w, e) ↦ let t = size-rights g b w in
          (sum b h, sum-right_first g h b w, rw e (sum_comm_within n b h (omega arith)))
    ])

pub sum_comm : (g h : Game) → Le (sum g h) (sum h g)
sum_comm g h = sum_comm_within (suc (size g + size h)) g h (omega arith)

pub sum-le_second : (a b c : Game) → Le a b → Le (sum c a) (sum c b)
sum-le_second a b c p =
    le_trans (sum c a) (sum a c) (sum c b) (sum_comm c a)
    (le_trans (sum a c) (sum b c) (sum c b) (sum-le a b c p) (sum_comm b c))

pub le-sum_second : (a b c : Game) → Le (sum c a) (sum c b) → Le a b
le-sum_second a b c h = le-sum a b c (le_trans (sum a c) (sum c a) (sum b c) (sum_comm a c)
    (le_trans (sum c a) (sum c b) (sum b c) h (sum_comm c b)))

pub sum_assoc_within : (n : ℕ) (g h k : Game) → size g + size h + size k < n → Le (sum (sum g h) k) (sum g (sum h k))
sum_assoc_within zero g h k s = absurd (omega arith)
sum_assoc_within (suc n) g h k s = le-cofinal (sum (sum g h) k) (sum g (sum h k))
    (λ x m. elim (sum-left_cases (sum g h) k x m) [
      | inl (y, w, e) ↦ elim (sum-left_cases g h y w) [
        | inl (a, v, f) ↦ let t = size-lefts g a v in (
          sum a (sum h k),
          sum-left_first g (sum h k) a v,
          rw (e ∙ ap (λ z. sum z k) f) (sum_assoc_within n a h k (omega arith)),
        )
        | inr (a, v, f) ↦ let t = size-lefts h a v in (
          sum g (sum a k),
          sum-left_second g (sum h k) (sum a k) (sum-left_first h k a v),
          rw (e ∙ ap (λ z. sum z k) f) (sum_assoc_within n g a k (omega arith)),
        )
      ]
      | inr (a, w, e) ↦ let t = size-lefts k a w in (
        sum g (sum h a),
        sum-left_second g (sum h k) (sum h a) (sum-left_second h k a w),
        rw e (sum_assoc_within n g h a (omega arith)),
      )
    ])
    (λ x m. elim (sum-right_cases g (sum h k) x m) [
      | inl (b, w, e) ↦ let t = size-rights g b w in (
        sum (sum b h) k,
        sum-right_first (sum g h) k (sum b h) (sum-right_first g h b w),
        rw e (sum_assoc_within n b h k (omega arith)),
      )
      | inr (y, w, e) ↦ elim (sum-right_cases h k y w) [
        | inl (b, v, f) ↦ let t = size-rights h b v in (
          sum (sum g b) k,
          sum-right_first (sum g h) k (sum g b) (sum-right_second g h b v),
          rw (e ∙ ap (λ z. sum g z) f) (sum_assoc_within n g b k (omega arith)),
        )
        | inr (b, v, f) ↦ let t = size-rights k b v in (
          sum (sum g h) b,
          sum-right_second (sum g h) k b v,
          rw (e ∙ ap (λ z. sum g z) f) (sum_assoc_within n g h b (omega arith)),
        )
      ]
    ])

pub sum_assoc : (g h k : Game) → Le (sum (sum g h) k) (sum g (sum h k))
sum_assoc g h k = sum_assoc_within (suc (size g + size h + size k)) g h k (omega arith)

pub assoc_sum : (g h k : Game) → Le (sum g (sum h k)) (sum (sum g h) k)
assoc_sum g h k =
    le_trans (sum g (sum h k)) (sum (sum h k) g) _ (sum_comm g (sum h k))
    (le_trans (sum (sum h k) g) (sum h (sum k g)) _ (sum_assoc h k g)
    (le_trans (sum h (sum k g)) (sum (sum k g) h) _ (sum_comm h (sum k g))
    (le_trans (sum (sum k g) h) (sum k (sum g h)) _ (sum_assoc k g h) (sum_comm k (sum g h)))))

pub sum_nothing_within : (n : ℕ) (g : Game) → size g < n → Equal (sum g nothing) g
sum_nothing_within zero g s = absurd (omega arith)
sum_nothing_within (suc n) g s = (
  le-cofinal (sum g nothing) g
      (λ x m. elim (sum-left_cases g nothing x m) [
        | inl (a, w, e) ↦ let t = size-lefts g a w in
            (a, w, rw e ((sum_nothing_within n a (omega arith)).0))
        | inr (a, w, e) ↦ absurd w
      ])
      (λ b w. let t = size-rights g b w in
      (sum b nothing, sum-right_first g nothing b w, (sum_nothing_within n b (omega arith)).0)),
  le-cofinal g (sum g nothing)
      (λ a w. let t = size-lefts g a w in
      (sum a nothing, sum-left_first g nothing a w, (sum_nothing_within n a (omega arith)).1))
      (λ x m. elim (sum-right_cases g nothing x m) [
        | inl (b, w, e) ↦ let t = size-rights g b w in
            (b, w, rw e ((sum_nothing_within n b (omega arith)).1))
        | inr (b, w, e) ↦ absurd w
      ]),
)

pub sum_nothing : (g : Game) → Equal (sum g nothing) g
sum_nothing g = sum_nothing_within (suc (size g)) g (omega arith)
