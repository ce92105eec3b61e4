-- A code and a heap are one heap of an octal game, or are refused for one cause.
use Rattle.std.proofs.Common.{◌≡◌, refl, ap, sym, ◌∙◌, subst, ℕ, ◌+◌, ◌<◌, ◌≤◌, arith, ◌⊎◌, inl, inr, Bool, true, false, Option, None, Result, Ok}
use Rattle.std.proofs.Common.{Err, List, [], ◌∷◌, map, length, nat_lt, if◌then◌else◌}
use Rattle.std.proofs.lemmas.Bool.Decides.{nat_tests}
use Rattle.cg_dyadic.proofs.Truth.{true_or_false}
use Rattle.cg_octal.specs.Codes.{IsCode, IsRead, NoCodeAt, OctalHeap, digits_of}
use Rattle.cg_octal.specs.Fitting.{fit_length}
use Rattle.cg_octal.specs.declared.fault.OctalFault.{OctalFault}
use Rattle.cg_octal.specs.declared.fault.OctalFault.TheVariants.{Code, Heap, Memory}
use Rattle.cg_octal.proofs.Places.{read_code, read_no_code}
use Rattle.cg_eval.specs.Octals.{heap_fault, octal_read, read_by}
use Rattle.cg_eval.specs.Parts.{IsHeapFault}
use Rattle.cg_eval.specs.declared.fault.GameFault.{GameFault}
use Rattle.cg_eval.proofs.Below.{below_or_not}

-- ---- what is computed is what is read

is_below : (a b : ℕ) → a < b → nat_lt a b ≡ true
is_below a b h = grind (arith, nat_tests)

not_below : (a b : ℕ) → b ≤ a → nat_lt a b ≡ false
not_below a b h = grind (arith, nat_tests)

pub read_short : (code : List ℕ) (tokens fit : ℕ) → (fit < length code) ⊎ (fit < 3) → read_by code tokens fit ≡ Err (Code (fit + 1))
read_short code tokens fit (inl h) = rw (is_below fit (length code) h) refl
read_short code tokens fit (inr h) = elim (true_or_false (nat_lt fit (length code))) [
  | inl t ↦ rw t refl
  | inr f ↦ rw (f, is_below fit 3 h) refl
]

pub read_long : (code : List ℕ) (tokens fit : ℕ) → length code ≤ fit → 3 ≤ fit → read_by code tokens fit
    ≡ (if nat_lt 1000 tokens then Err Heap else Ok (record { digits = digits_of code; heap = tokens }))
read_long code tokens fit a b = rw (not_below fit (length code) a, not_below fit 3 b) refl

-- by the length of the front, whether the tokens are too many
abbrev long_read : List ℕ → ℕ → Bool → Result OctalHeap OctalFault
long_read code tokens many = if many then Err Heap else Ok (record { digits = digits_of code; heap = tokens })

read_many : (code : List ℕ) (tokens fit : ℕ) → length code ≤ fit → 3 ≤ fit → 1000 < tokens
    → read_by code tokens fit ≡ Err Heap
read_many code tokens fit a b c = read_long code tokens fit a b ∙ ap (long_read code tokens) (is_below 1000 tokens c)

read_few : (code : List ℕ) (tokens fit : ℕ) → length code ≤ fit → 3 ≤ fit → tokens ≤ 1000
    → read_by code tokens fit ≡ Ok (record { digits = digits_of code; heap = tokens })
read_few code tokens fit a b c = read_long code tokens fit a b ∙ ap (long_read code tokens) (not_below 1000 tokens c)

is_read_by : (code : List ℕ) (tokens : ℕ) → (fit_length 0 code < length code) ⊎ (length code ≤ fit_length 0 code)
    → (fit_length 0 code < 3) ⊎ (3 ≤ fit_length 0 code) → (1000 < tokens) ⊎ (tokens ≤ 1000)
    → IsRead code tokens (read_by code tokens (fit_length 0 code))
is_read_by code tokens (inl a) b c =
    subst (IsRead code tokens) (sym (read_short code tokens (fit_length 0 code) (inl a)))
    (read_no_code code (fit_length 0 code + 1) (inl a) refl)
is_read_by code tokens (inr a) (inl b) c =
    subst (IsRead code tokens) (sym (read_short code tokens (fit_length 0 code) (inr b)))
    (read_no_code code (fit_length 0 code + 1) (inr b) refl)
is_read_by code tokens (inr a) (inr b) (inl c) =
    subst (IsRead code tokens) (sym (read_many code tokens (fit_length 0 code) a b c)) ((digits_of code, read_code code a b), c)
is_read_by code tokens (inr a) (inr b) (inr c) =
    subst (IsRead code tokens) (sym (read_few code tokens (fit_length 0 code) a b c)) (read_code code a b, refl, c)

pub octal-is_read : (code : List ℕ) (tokens : ℕ) → IsRead code tokens (octal_read code tokens)
unfolding octal_read
octal-is_read code tokens =
    is_read_by code tokens (below_or_not (fit_length 0 code) (length code)) (below_or_not (fit_length 0 code) 3) (below_or_not 1000 tokens)

-- ---- and nothing else is

same_digits : (ds es : List ℕ) → map (λ d. 48 + d) ds ≡ map (λ d. 48 + d) es → ds ≡ es
same_digits [] [] e = refl
same_digits [] (d ∷ es) e = absurd (cc)
same_digits (d ∷ ds) [] e = absurd (cc)
same_digits (d ∷ ds) (c ∷ es) e =
    let head : 48 + d ≡ 48 + c = cc in
    let rest : map (λ d. 48 + d) ds ≡ map (λ d. 48 + d) es = cc in
    let one : d ≡ c = omega (arith, head) in
    ap (λ z. z ∷ ds) one ∙ ap (λ z. c ∷ z) (same_digits ds es rest)

one_code : (code ds es : List ℕ) → IsCode code ds → IsCode code es → ds ≡ es
one_code code ds es a b = same_digits ds es (behind (map (λ d. 48 + d) ds) (map (λ d. 48 + d) es) (sym a.spelled ∙ b.spelled))
  where
    behind : (xs ys : List ℕ) → 48 ∷ (46 ∷ xs) ≡ 48 ∷ (46 ∷ ys) → xs ≡ ys
    behind xs ys e = cc

one_place : (code : List ℕ) (p q : ℕ) → NoCodeAt code p → NoCodeAt code q → p ≡ q
one_place code p q a b =
    let m = a.longest b.before b.behind b.cut b.begun in
    let n = b.longest a.before a.behind a.cut a.begun in
    omega (arith, m, n, a.place_is, b.place_is)

abbrev IsTold : Result OctalHeap OctalFault → Type 0
IsTold r = ¬ (r ≡ Err Memory)

one_read : (code : List ℕ) (tokens : ℕ) (r q : Result OctalHeap OctalFault) → IsTold r → IsTold q → IsRead code tokens r
    → IsRead code tokens q → r ≡ q
one_read code tokens (Err Memory) q t u a b = absurd (t refl)
one_read code tokens r (Err Memory) t u a b = absurd (u refl)
one_read code tokens (Ok o) (Ok p) t u a b =
    let d = one_code code o.digits p.digits a.0 b.0 in
    let n = a.1 ∙ sym b.1 in
    λ i. Ok (record { digits = d i; heap = n i })
one_read code tokens (Ok o) (Err (Code p)) t u a b = absurd (b.no_code o.digits a.0)
one_read code tokens (Ok o) (Err Heap) t u a b = let m = a.2 in let n = b.1 in absurd (omega arith)
one_read code tokens (Err (Code p)) (Ok o) t u a b = absurd (a.no_code o.digits b.0)
one_read code tokens (Err (Code p)) (Err (Code q)) t u a b = ap (λ z. Err (Code z)) (one_place code p q a b)
one_read code tokens (Err (Code p)) (Err Heap) t u a b = absurd (a.no_code b.0.0 b.0.1)
one_read code tokens (Err Heap) (Ok o) t u a b = let m = b.2 in let n = a.1 in absurd (omega arith)
one_read code tokens (Err Heap) (Err (Code p)) t u a b = absurd (b.no_code a.0.0 a.0.1)
one_read code tokens (Err Heap) (Err Heap) t u a b = refl

told_by : (code : List ℕ) (tokens fit : ℕ) → (fit < length code) ⊎ (length code ≤ fit) → (fit < 3) ⊎ (3 ≤ fit)
    → (1000 < tokens) ⊎ (tokens ≤ 1000) → IsTold (read_by code tokens fit)
told_by code tokens fit (inl a) b c e = let x = sym (read_short code tokens fit (inl a)) ∙ e in cc
told_by code tokens fit (inr a) (inl b) c e = let x = sym (read_short code tokens fit (inr b)) ∙ e in cc
told_by code tokens fit (inr a) (inr b) (inl c) e = let x = sym (read_many code tokens fit a b c) ∙ e in cc
told_by code tokens fit (inr a) (inr b) (inr c) e = let x = sym (read_few code tokens fit a b c) ∙ e in cc

octal-told : (code : List ℕ) (tokens : ℕ) → IsTold (octal_read code tokens)
unfolding octal_read
octal-told code tokens =
    told_by code tokens (fit_length 0 code) (below_or_not (fit_length 0 code) (length code)) (below_or_not (fit_length 0 code) 3)
    (below_or_not 1000 tokens)

pub octal-only : (code : List ℕ) (tokens : ℕ) (r : Result OctalHeap OctalFault) → IsRead code tokens r
    → ¬ (r ≡ Err Memory) → octal_read code tokens ≡ r
octal-only code tokens r is told = one_read code tokens (octal_read code tokens) r (octal-told code tokens) told
    (octal-is_read code tokens) is

-- ---- what the reading says

pub heap-read : (code : List ℕ) (tokens : ℕ) (o : OctalHeap) → IsRead code tokens (Ok o) → octal_read code tokens ≡ Ok o
heap-read code tokens o is = octal-only code tokens (Ok o) is (λ e. cc)

pub heap-refused : (code : List ℕ) (tokens : ℕ) (fault : OctalFault) → IsRead code tokens (Err fault) → ¬ (fault ≡ Memory)
    → octal_read code tokens ≡ Err fault
heap-refused code tokens fault is told = octal-only code tokens (Err fault) is (λ e. let x : fault ≡ Memory = cc in told x)

pub heap-fault_of : (code : List ℕ) (tokens : ℕ) (found : Result OctalHeap OctalFault) (o : Option GameFault)
    → IsRead code tokens found → IsHeapFault o found → o ≡ heap_fault (octal_read code tokens)
heap-fault_of code tokens (Ok h) o is e = e ∙ sym (ap heap_fault (heap-read code tokens h is))
heap-fault_of code tokens (Err Memory) o is e = absurd e
heap-fault_of code tokens (Err (Code place)) o is e =
    e ∙ sym (ap heap_fault (heap-refused code tokens (Code place) is (λ f. cc)))
heap-fault_of code tokens (Err Heap) o is e = e ∙ sym (ap heap_fault (heap-refused code tokens Heap is (λ f. cc)))
