-- The sum of two nimbers.
use Rattle.std.proofs.Common.{◌≡◌, ap, ◌∙◌, ℕ, zero, suc, ◌+◌, ◌<◌, arith, ◌⊎◌, inl, inr, Bool, true, false}
use Rattle.std.specs.Prelude.{bit_xor}
use Rattle.cg_form.specs.Game.{Among, Game}
use Rattle.cg_form.specs.Order.{Equal}
use Rattle.cg_form.specs.Side.{far, near}
use Rattle.cg_form.specs.Sum.{sum}
use Rattle.cg_form.proofs.Among.{carry}
use Rattle.cg_form.proofs.Sum.{sum-left_cases, sum-left_first, sum-left_second, sum-right_cases, sum-right_first, sum-right_second}
use Rattle.cg_nimbers.specs.Nimbers.{nimber_form, nimbers_below}
use Rattle.cg_nimbers.proofs.NimberLists.{among_nimbers, near-nimber, nimber_far}
use Rattle.cg_nimbers.proofs.LesserNimbers.{Has, IsOther, mex-equal}
use Rattle.std.proofs.lemmas.Nat.{xor_comm}
use Rattle.cg_nimbers.proofs.Xor.{xor-injective, xor-lesser}

-- an option of a sum is one of either game, with the other game
near_cases : (s : Bool) (g h x : Game) → Among x (near s (sum g h))
    → ((a : Game) × Among a (near s g) × (x ≡ sum a h)) ⊎ ((a : Game) × Among a (near s h) × (x ≡ sum g a))
near_cases true g h x m = sum-left_cases g h x m
near_cases false g h x m = sum-right_cases g h x m

far_first : (s : Bool) (g h a : Game) → Among a (far s g) → Among (sum a h) (far s (sum g h))
far_first true g h a m = sum-right_first g h a m
far_first false g h a m = sum-left_first g h a m

far_second : (s : Bool) (g h a : Game) → Among a (far s h) → Among (sum g a) (far s (sum g h))
far_second true g h a m = sum-right_second g h a m
far_second false g h a m = sum-left_second g h a m

-- what is known of the lesser sums
abbrev Known : ℕ → ℕ → Type 0
Known a b = ((i : ℕ) → i < a → Equal (sum (nimber_form i) (nimber_form b)) (nimber_form (bit_xor i b)))
    × ((j : ℕ) → j < b → Equal (sum (nimber_form a) (nimber_form j)) (nimber_form (bit_xor a j)))

sum_other : (a b : ℕ) → Known a b → (s : Bool) (x : Game) → Among x (near s (sum (nimber_form a) (nimber_form b)))
    → IsOther (bit_xor a b) x
sum_other a b known s x m =
    elim (near_cases s (nimber_form a) (nimber_form b) x m) [
      | inl (y, n, e) ↦
          let (i, l, f) = among_nimbers y a (carry y (near s (nimber_form a)) (nimbers_below a) (near-nimber s a) n) in
          rw (e ∙ ap (λ z. sum z (nimber_form b)) f) (record {
            value = bit_xor i b;
            other = λ z. let same : i ≡ a = xor-injective i a b z in omega arith;
            equal = known.0 i l;
          })
      | inr (y, n, e) ↦
          let (j, l, f) = among_nimbers y b (carry y (near s (nimber_form b)) (nimbers_below b) (near-nimber s b) n) in
          rw (e ∙ ap (λ z. sum (nimber_form a) z) f) (record {
            value = bit_xor a j;
            other = λ z.
                let same : j ≡ b = xor-injective j b a (xor_comm j a ∙ z ∙ xor_comm a b) in omega arith;
            equal = known.1 j l;
          })
    ]

sum_lesser : (a b : ℕ) → Known a b → (s : Bool) (c : ℕ) → c < bit_xor a b
    → Has (far s (sum (nimber_form a) (nimber_form b))) c
sum_lesser a b known s c l =
    elim (xor-lesser a b c l) [
      | inl p ↦
          record {
            game = sum (nimber_form p.partner) (nimber_form b);
            among = far_first s (nimber_form a) (nimber_form b) (nimber_form p.partner)
                (nimber_far s p.partner a p.lesser);
            equal = rw p.gives at (known.0 p.partner p.lesser);
          }
      | inr p ↦
          record {
            game = sum (nimber_form a) (nimber_form p.partner);
            among = far_second s (nimber_form a) (nimber_form b) (nimber_form p.partner)
                (nimber_far s p.partner b p.lesser);
            equal = rw (xor_comm a p.partner ∙ p.gives) at (known.1 p.partner p.lesser);
          }
    ]

pub nimber_sum-within : (n a b : ℕ) → a + b < n
    → Equal (sum (nimber_form a) (nimber_form b)) (nimber_form (bit_xor a b))
nimber_sum-within zero a b s = absurd (omega arith)
nimber_sum-within (suc n) a b s =
    let known : Known a b = (
      (λ i l. nimber_sum-within n i b (omega arith)),
      (λ j l. nimber_sum-within n a j (omega arith)),
    ) in
    mex-equal (sum (nimber_form a) (nimber_form b)) (bit_xor a b)
    (λ s'. record { others = sum_other a b known s'; lesser = sum_lesser a b known s' })

pub nimber_sum : (a b : ℕ) → Equal (sum (nimber_form a) (nimber_form b)) (nimber_form (bit_xor a b))
nimber_sum a b = nimber_sum-within (suc (a + b)) a b (omega arith)
