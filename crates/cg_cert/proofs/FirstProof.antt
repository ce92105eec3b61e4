-- The certificate of the first answers is a proof, and its rule.
use Rattle.std.proofs.Common.{◌≡◌, refl, ap, ◌∙◌, ℕ, zero, suc, ◌<◌, arith, inl, inr, List, [], ◌∷◌, Option, Some, None, option_map, if◌then◌else◌}
use Rattle.cg_dyadic.proofs.Truth.{differ, true_or_false}
use Rattle.cg_form.specs.Game.{lefts, rights}
use Rattle.cg_form.specs.Order.{le}
use Rattle.cg_form.proofs.Order.{le-unfold, not_le-breaks}
use Rattle.cg_form.proofs.Size.{size-lefts, size-rights}
use Rattle.cg_cert.specs.Certificate.{Answer, Answers, Certificate, answered, in_first, in_second, settled, with_answer}
use Rattle.cg_cert.specs.First.{first_answer, first_answers, first_of, first_place, first_proof, first_within, with_first, with_led}
use Rattle.cg_cert.specs.Pairs.{AtLeast, Pair, both_numbers, led, moves, pair, pair_size}
use Rattle.cg_cert.specs.Proves.{Proves, ProvesAll}
use Rattle.cg_cert.proofs.Moves.{Each, each_move, led-answered}
use Rattle.cg_cert.proofs.Places.{first_place-cases}
use Rattle.cg_cert.proofs.Sound.{Unbeaten}

-- ---- the first answer

-- an answer that leads to a pair with the first game at least the second
pub record Served (m : Pair) : Type 0 where
  pub answer : Answer
  pub is_first : first_answer m ≡ Some answer
  pub leads : Pair
  pub is_led : led answer m ≡ Some leads
  pub at_least : AtLeast leads

pub first_answer-served : (m : Pair) → Unbeaten m → Served m
unfolding first_answer
first_answer-served m u =
    elim (first_place-cases (λ a. le m.second a) (lefts m.first)) [
      | inl f ↦ record {
        answer = in_first f.place;
        is_first = ap (λ o. first_of o (first_place (λ b. le b m.first) (rights m.second))) f.is_first;
        leads = pair f.game m.second;
        is_led = ap (option_map (λ a. pair a m.second)) f.stands;
        at_least = f.passes;
      }
      | inr n ↦ elim (first_place-cases (λ b. le b m.first) (rights m.second)) [
        | inl f ↦ record {
          answer = in_second f.place;
          is_first = ap (λ o. first_of o (first_place (λ b. le b m.first) (rights m.second))) n.no_place
              ∙ ap (first_of None) f.is_first;
          leads = pair m.first f.game;
          is_led = ap (option_map (λ b. pair m.first b)) f.stands;
          at_least = f.passes;
        }
        | inr o ↦ elim ((not_le-breaks m.first m.second u).way) [
          | inl (a, k, l) ↦ absurd (differ (le m.second a) l (n.fails a k))
          | inr (b, k, l) ↦ absurd (differ (le b m.first) l (o.fails b k))
        ]
      ]
    ]

-- ---- it proves

-- a pair within reach of n moves of which Left can be first to answer
pub record Reached (n : ℕ) (m : Pair) : Type 0 where
  pub within : pair_size m < n
  pub unbeaten : Unbeaten m

pub all_reached : (n : ℕ) (m : Pair) → pair_size m < suc n → AtLeast m → Each (Reached n) (moves m)
all_reached n m s l =
    let f = le-unfold m.second m.first l in
    each_move (Reached n) m (record {
      in_rights = λ b k. let t = size-rights m.first b k in record { within = omega arith; unbeaten = f.on_right b k };
      in_lefts = λ a k. let t = size-lefts m.second a k in record { within = omega arith; unbeaten = f.on_left a k };
    })

-- the certificate of each pair that is smaller than n and has the first game at least the second
abbrev Serves : ℕ → (Pair → Certificate) → Type 0
Serves n proof = (k : Pair) → pair_size k < n → AtLeast k → Proves (proof k) k

pub first_answers-prove : (n : ℕ) (proof : Pair → Certificate) → Serves n proof → (ms : List Pair) → Each (Reached n) ms
    → ProvesAll (first_answers proof ms) ms
first_answers-prove n proof f [] e = tt
first_answers-prove n proof f (m ∷ ms) e =
    let s = first_answer-served m e.0.unbeaten in
    let t = (led-answered s.answer m s.leads s.is_led).smaller in
    let w = e.0.within in
    let rest = first_answers proof ms in
    let shape : with_first proof m (first_answer m) rest ≡ with_answer s.answer (proof s.leads) rest =
    ap (λ o. with_first proof m o rest) s.is_first ∙ ap (λ o. with_led proof s.answer o rest) s.is_led in
    rw shape ((s.leads, s.is_led, f s.leads (omega arith) s.at_least), first_answers-prove n proof f ms e.1)

pub first_within-proves : (n : ℕ) (m : Pair) → pair_size m < n → AtLeast m → Proves (first_within n m) m
unfolding first_within
first_within-proves zero m s l = absurd (omega arith)
first_within-proves (suc n) m s l = elim (true_or_false (both_numbers m)) [
  | inl t ↦ rw t (t, l)
  | inr f ↦ rw f (
    (λ t. differ (both_numbers m) t f),
    first_answers-prove n (λ k. first_within n k) (first_within-proves n) (moves m) (all_reached n m s l),
  )
]

pub first_proof-proves : (m : Pair) → AtLeast m → Proves (first_proof m) m
unfolding first_proof
first_proof-proves m l = first_within-proves (suc (pair_size m)) m (omega arith) l

-- ---- its rule

-- certificates that agree on the smaller pairs
with_led-agree : (f k : Pair → Certificate) (a : Answer) (o : Option Pair) (rest : Answers)
    → ((p : Pair) → o ≡ Some p → f p ≡ k p) → with_led f a o rest ≡ with_led k a o rest
with_led-agree f k a None rest h = refl
with_led-agree f k a (Some p) rest h = ap (λ z. with_answer a z rest) (h p refl)

with_first-agree : (f k : Pair → Certificate) (m : Pair) (o : Option Answer) (rest : Answers)
    → ((p : Pair) → pair_size p < pair_size m → f p ≡ k p) → with_first f m o rest ≡ with_first k m o rest
with_first-agree f k m None rest h = refl
with_first-agree f k m (Some a) rest h =
    with_led-agree f k a (led a m) rest (λ p e. h p ((led-answered a m p e).smaller))

pub first_answers-agree : (f k : Pair → Certificate) (n : ℕ) → ((p : Pair) → pair_size p < n → f p ≡ k p)
    → (ms : List Pair) → Each (λ m. pair_size m < n) ms → first_answers f ms ≡ first_answers k ms
first_answers-agree f k n h [] e = refl
first_answers-agree f k n h (m ∷ ms) e =
    let w = e.0 in
    with_first-agree f k m (first_answer m) (first_answers f ms) (λ p s. h p (omega arith))
    ∙ ap (λ z. with_first k m (first_answer m) z) (first_answers-agree f k n h ms e.1)

pub moves-smaller : (m : Pair) → Each (λ k. pair_size k < pair_size m) (moves m)
moves-smaller m = each_move (λ k. pair_size k < pair_size m) m (record {
  in_rights = λ b k. let t = size-rights m.first b k in omega arith;
  in_lefts = λ a k. let t = size-lefts m.second a k in omega arith;
})

-- beyond the size the bound does not matter
pub first_within-any : (n i : ℕ) (m : Pair) → pair_size m < n → pair_size m < i → first_within n m ≡ first_within i m
unfolding first_within
first_within-any zero i m p q = absurd (omega arith)
first_within-any (suc n) zero m p q = absurd (omega arith)
first_within-any (suc n) (suc i) m p q =
    ap (λ z. if both_numbers m then settled else answered z)
    (first_answers-agree (λ k. first_within n k) (λ k. first_within i k) (pair_size m)
    (λ k s. first_within-any n i k (omega arith) (omega arith)) (moves m) (moves-smaller m))

pub first_proof-options : (m : Pair) → first_proof m
    ≡ (if both_numbers m then settled else answered (first_answers first_proof (moves m)))
unfolding first_proof first_within
first_proof-options m =
    ap (λ z. if both_numbers m then settled else answered z)
    (first_answers-agree (λ k. first_within (pair_size m) k) first_proof (pair_size m)
    (λ k s. first_within-any (pair_size m) (suc (pair_size k)) k s (omega arith)) (moves m) (moves-smaller m))
