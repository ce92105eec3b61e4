-- Whether a text is a proof of order between two games is decided, and whether their proof is too long.
use Rattle.std.proofs.Common.{◌≡◌, refl, sym, ◌∙◌, subst, ℕ, zero, suc, ◌<◌, arith, ◌⊎◌, inl, inr, List, [], ◌∷◌, length, true, false, IsTrue, Option}
use Rattle.std.proofs.Common.{Some, None, option_map, slice_get}
use Rattle.std.specs.Prelude.{bytes_eq}
use Rattle.std.specs.Cmp.Lexicographic.{bytes_decides}
use Rattle.cg_dyadic.proofs.Truth.{true_or_false}
use Rattle.cg_form.specs.Game.{Game, lefts, rights}
use Rattle.cg_form.specs.Order.{Le, le}
use Rattle.cg_form.proofs.Size.{size-lefts, size-rights}
use Rattle.cg_cert.specs.Answer.{IsLong, answer_part}
use Rattle.cg_cert.specs.Certificate.{Answer, Answers, Certificate, answered, certificate_text, in_first, in_second, no_answers, settled, with_answer}
use Rattle.cg_cert.specs.Pairs.{AtLeast, Pair, both_numbers, led, moves, pair, pair_size}
use Rattle.cg_cert.specs.Proves.{IsProofOf, Proves, ProvesAll}
use Rattle.cg_cert.proofs.Moves.{Each, each_move, led-answered}
use Rattle.cg_eval.proofs.Below.{below_or_not}

abbrev Either : Type 0 → Type 0
Either P = P ⊎ (¬ P)

-- ---- some number below a bound

last_or_less : (i n : ℕ) → i < suc n → (i ≡ n) ⊎ (i < n)
last_or_less i n h = grind arith

below-some : (n : ℕ) (Q : ℕ → Type 0) → ((i : ℕ) → Either (Q i)) → Either ((i : ℕ) × (i < n) × Q i)
below-some zero Q d = inr (λ w. let h = w.1 in omega arith)
below-some (suc n) Q d = by (d n) (below-some n Q d)
  where
    by : Either (Q n) → Either ((i : ℕ) × (i < n) × Q i) → Either ((i : ℕ) × (i < suc n) × Q i)
    by (inl q) rest = inl (n, omega arith, q)
    by (inr never) (inl w) = inl (w.0, (let h = w.1 in omega arith), w.2)
    by (inr never) (inr none) = inr (λ w. elim (last_or_less w.0 n w.1) [
      | inl e ↦ never (subst Q e w.2)
      | inr l ↦ none (w.0, l, w.2)
    ])

-- ---- some answer of Left's, with the pair that it leads to

one-led : (m : Pair) (a : Answer) (Q : Pair → Type 0) → ((k : Pair) → led a m ≡ Some k → Either (Q k))
    → Either ((k : Pair) × (led a m ≡ Some k) × Q k)
one-led m a Q d = by (led a m) refl
  where
    at : (k : Pair) → led a m ≡ Some k → Either (Q k) → Either ((k : Pair) × (led a m ≡ Some k) × Q k)
    at k e (inl q) = inl (k, e, q)
    at k e (inr never) = inr (λ w. let same : w.0 ≡ k = (let x = sym w.1 ∙ e in cc) in never (subst Q same w.2))

    by : (o : Option Pair) → led a m ≡ o → Either ((k : Pair) × (led a m ≡ Some k) × Q k)
    by None e = inr (λ w. let x = sym e ∙ w.1 in cc)
    by (Some k) e = at k e (d k e)

get-below : (f : Game → Pair) (gs : List Game) (i : ℕ) (k : Pair) → option_map f (slice_get gs i) ≡ Some k → i < length gs
get-below f [] i k e = absurd (cc)
get-below f (g ∷ gs) zero k e = omega arith
get-below f (g ∷ gs) (suc i) k e = let h = get-below f gs i k e in omega arith

abbrev InFirst : Pair → (Answer → Pair → Type 0) → Type 0
InFirst m Q = (i : ℕ) × (i < length (lefts m.first)) × ((k : Pair) × (led (in_first i) m ≡ Some k) × Q (in_first i) k)

abbrev InSecond : Pair → (Answer → Pair → Type 0) → Type 0
InSecond m Q = (i : ℕ) × (i < length (rights m.second)) × ((k : Pair) × (led (in_second i) m ≡ Some k) × Q (in_second i) k)

abbrev Led : Pair → (Answer → Pair → Type 0) → Type 0
Led m Q = (a : Answer) × (k : Pair) × (led a m ≡ Some k) × Q a k

no-led : (m : Pair) (Q : Answer → Pair → Type 0) → ¬ InFirst m Q → ¬ InSecond m Q → (a : Answer) (k : Pair) → led a m ≡ Some k
    → Q a k → ⊥
no-led m Q f s (in_first i) k e q = f (i, get-below (λ z. pair z m.second) (lefts m.first) i k e, (k, e, q))
no-led m Q f s (in_second i) k e q = s (i, get-below (λ z. pair m.first z) (rights m.second) i k e, (k, e, q))

answer-some : (m : Pair) (Q : Answer → Pair → Type 0)
    → ((a : Answer) (k : Pair) → led a m ≡ Some k → Either (Q a k)) → Either (Led m Q)
answer-some m Q d = by
    (below-some (length (lefts m.first)) (λ i. (k : Pair) × (led (in_first i) m ≡ Some k) × Q (in_first i) k)
    (λ i. one-led m (in_first i) (Q (in_first i)) (d (in_first i))))
    (below-some (length (rights m.second)) (λ i. (k : Pair) × (led (in_second i) m ≡ Some k) × Q (in_second i) k)
    (λ i. one-led m (in_second i) (Q (in_second i)) (d (in_second i))))
  where
    by : Either (InFirst m Q) → Either (InSecond m Q) → Either (Led m Q)
    by (inl w) s = inl (in_first w.0, w.2.0, w.2.1, w.2.2)
    by (inr f) (inl w) = inl (in_second w.0, w.2.0, w.2.1, w.2.2)
    by (inr f) (inr s) = inr (λ w. no-led m Q f s w.0 w.1 w.2 w.3)

-- ---- some certificate of a pair

order-decided : (g h : Game) → Either (Le g h)
order-decided g h = elim (true_or_false (le g h)) [ inl t ↦ inl t | inr f ↦ inr (λ t. let x = sym f ∙ t in cc) ]

abbrev Answered : List Pair → (Answers → Type 0) → Type 0
Answered ms P = (given : Answers) × ProvesAll given ms × P given

abbrev Proved : Pair → (Certificate → Type 0) → Type 0
Proved m P = (c : Certificate) × Proves c m × P c

-- an answer's certificate, with answers for the further pairs
abbrev Further : List Pair → (Answers → Type 0) → Answer → Pair → Type 0
Further ms P a k = (c : Certificate) × Proves c k × ((rest : Answers) × ProvesAll rest ms × P (with_answer a c rest))

no-answers : (P : Answers → Type 0) → ¬ P no_answers → (given : Answers) → ProvesAll given [] → P given → ⊥
no-answers P never no_answers u p = never p
no-answers P never (with_answer a c rest) u p = u

no-answer : (m : Pair) (ms : List Pair) (P : Answers → Type 0) → ¬ Led m (Further ms P) → (given : Answers)
    → ProvesAll given (m ∷ ms) → P given → ⊥
no-answer m ms P never no_answers u p = u
no-answer m ms P never (with_answer a c rest) u p = never (a, u.0.0, u.0.1, (c, u.0.2, (rest, u.1, p)))

-- for each of the pairs an answer, where the certificates of smaller pairs are decided
answers-some : (n : ℕ) → ((k : Pair) → pair_size k < n → (P : Certificate → Type 0) → ((c : Certificate) → Either (P c))
    → Either (Proved k P))
    → (ms : List Pair) → Each (λ k. pair_size k < n) ms → (P : Answers → Type 0) → ((given : Answers) → Either (P given))
    → Either (Answered ms P)
answers-some n rec [] small P d = by (d no_answers)
  where
    by : Either (P no_answers) → Either (Answered [] P)
    by (inl p) = inl (no_answers, tt, p)
    by (inr never) = inr (λ w. no-answers P never w.0 w.1 w.2)
answers-some n rec (m ∷ ms) small P d = by (answer-some m (Further ms P) (λ a k e. rec k
    (let s = (led-answered a m k e).smaller in let t = small.0 in omega arith)
    (λ c. (rest : Answers) × ProvesAll rest ms × P (with_answer a c rest))
    (λ c. answers-some n rec ms small.1 (λ rest. P (with_answer a c rest)) (λ rest. d (with_answer a c rest)))))
  where
    by : Either (Led m (Further ms P)) → Either (Answered (m ∷ ms) P)
    by (inl w) = inl (with_answer w.0 w.3.0 w.3.2.0, ((w.1, w.2, w.3.1), w.3.2.1), w.3.2.2)
    by (inr never) = inr (λ w. no-answer m ms P never w.0 w.1 w.2)

settled-only : (m : Pair) (P : Certificate → Type 0) → IsTrue (both_numbers m) → (AtLeast m → P settled → ⊥)
    → (c : Certificate) → Proves c m → P c → ⊥
settled-only m P t never settled u p = never u.1 p
settled-only m P t never (answered given) u p = u.0 t

answered-only : (m : Pair) (P : Certificate → Type 0) → ¬ IsTrue (both_numbers m)
    → ¬ Answered (moves m) (λ given. P (answered given)) → (c : Certificate) → Proves c m → P c → ⊥
answered-only m P f never settled u p = f u.0
answered-only m P f never (answered given) u p = never (given, u.1, p)

moves-smaller : (n : ℕ) (m : Pair) → pair_size m < suc n → Each (λ k. pair_size k < n) (moves m)
moves-smaller n m small = each_move (λ k. pair_size k < n) m (record {
  in_rights = λ b i. let s = size-rights m.first b i in omega arith;
  in_lefts = λ a i. let s = size-lefts m.second a i in omega arith;
})

by_kind : (m : Pair) (P : Certificate → Type 0) → (both_numbers m ≡ true) ⊎ (both_numbers m ≡ false)
    → Either (Le m.second m.first) → Either (P settled) → Either (Answered (moves m) (λ given. P (answered given)))
    → Either (Proved m P)
by_kind m P (inl t) (inl l) (inl p) w = inl (settled, (t, l), p)
by_kind m P (inl t) (inr l) q w = inr (λ v. settled-only m P t (λ k p. l k) v.0 v.1 v.2)
by_kind m P (inl t) (inl l) (inr p) w = inr (λ v. settled-only m P t (λ k q. p q) v.0 v.1 v.2)
by_kind m P (inr f) l q (inl w) = inl (answered w.0, ((λ t. let x = sym f ∙ t in cc), w.1), w.2)
by_kind m P (inr f) l q (inr never) = inr (λ v. answered-only m P (λ t. let x = sym f ∙ t in cc) never v.0 v.1 v.2)

certificate-some : (n : ℕ) (m : Pair) → pair_size m < n → (P : Certificate → Type 0) → ((c : Certificate) → Either (P c))
    → Either (Proved m P)
certificate-some zero m small P d = absurd (omega arith)
certificate-some (suc n) m small P d = by_kind m P (true_or_false (both_numbers m)) (order-decided m.second m.first)
    (d settled) (answers-some n (certificate-some n) (moves m) (moves-smaller n m small) (λ given. P (answered given))
    (λ given. d (answered given)))

-- ---- texts

texts-same : (xs ys : List ℕ) → Either (xs ≡ ys)
texts-same xs ys = elim (true_or_false (bytes_eq xs ys)) [
  | inl t ↦ inl ((bytes_decides xs ys).0 t)
  | inr f ↦ inr (λ e. let x = sym f ∙ (bytes_decides xs ys).1 e in cc)
]

pub proof-or-not : (g h : Game) (bytes : List ℕ) → IsProofOf g h bytes ⊎ (¬ IsProofOf g h bytes)
proof-or-not g h bytes = by (certificate-some (suc (pair_size (pair g h))) (pair g h) (omega arith)
    (λ c. bytes ≡ certificate_text c) (λ c. texts-same bytes (certificate_text c)))
  where
    by : Either (Proved (pair g h) (λ c. bytes ≡ certificate_text c))
        → IsProofOf g h bytes ⊎ (¬ IsProofOf g h bytes)
    by (inl w) = inl (record { certificate = w.0; proves = w.1; spelled = w.2 })
    by (inr never) = inr (λ p. never (p.certificate, p.proves, p.spelled))

pub long-or-not : (g h : Game) → IsLong g h ⊎ (¬ IsLong g h)
long-or-not g h = elim (below_or_not 65536 (length (answer_part g h))) [
  | inl l ↦ inl l
  | inr m ↦ inr (λ l. absurd (omega arith))
]
