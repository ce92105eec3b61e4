-- Where a pattern stands, in words.
use Rattle.std.proofs.Common.{◌≡◌, refl, ℕ, zero, suc, ◌+◌, ◌<◌, ◌≤◌, ◌==◌, ◌&&◌, inl, inr, Bool, true, false, cond, if◌then◌else◌, List, [], ◌∷◌}
use Rattle.std.proofs.Common.{◌++◌, length, map, take, drop, get_or, ap, sym, ◌∙◌, arith, append_assoc, bit_and, length-append, length-drop}
use Rattle.std.specs.Prelude.{Contains, nat_eq, nat_lt, slice_index}
use Rattle.std.specs.Int.{bit_at}
use Rattle.std.specs.List.{starts_with}
use Rattle.std.proofs.lemmas.Bool.{lt-ltb}
use Rattle.std.proofs.lemmas.Bool.Decides.{Decides-eqb, eqb_tells}
use Rattle.std.proofs.lemmas.List.{get_or-drop, get_or_default, map-append}
use Rattle.std.proofs.lemmas.Slice.Eq.{starts_is}
use Rattle.cg_moves.specs.Grid.{Grid, are_symbols}
use Rattle.cg_moves.specs.Words.{Marks}
use Rattle.cg_moves.proofs.GridFacts.{symbol-above}
use Rattle.cg_moves.proofs.WordBits.{marks_both, marks_same}
use Rattle.cg_strip.specs.Placing.{placed_at, placed_below, stands_at, written}

-- ---- one symbol more

pub either_way : (x p : ℕ) → (nat_eq p x && true) ≡ (x == p)
either_way x p = elim (eqb_tells x p) [
  | inl h ↦ grind (arith, h.0, h.1)
  | inr h ↦ grind (arith, h.0, h.1)
]

pub apart : (p : ℕ) → 0 < p → (0 == p) ≡ false
apart p some = elim (eqb_tells 0 p) [ inl h ↦ absurd (omega (arith, h.1)) | inr h ↦ h.0 ]

and_assoc : (a b c : Bool) → (a && (b && c)) ≡ ((a && b) && c)
and_assoc true b c = refl
and_assoc false b c = refl

-- the first k + 1 symbols stand at the head where the first k do, and the next one behind them
starts-next : (xs ps : List ℕ) (k : ℕ) → k < length ps → 0 < get_or ps k 0
    → starts_with nat_eq xs (take (suc k) ps) ≡ (starts_with nat_eq xs (take k ps) && (get_or xs k 0 == get_or ps k 0))
starts-next xs [] k l some = absurd (omega arith)
starts-next [] (p ∷ ps) zero l some = sym (apart p some)
starts-next [] (p ∷ ps) (suc k) l some = refl
starts-next (x ∷ xs) (p ∷ ps) zero l some = either_way x p
starts-next (x ∷ xs) (p ∷ ps) (suc k) l some =
    ap (λ t. nat_eq p x && t) (starts-next xs ps k (omega arith) some)
    ∙ and_assoc (nat_eq p x) (starts_with nat_eq xs (take k ps)) (get_or xs k 0 == get_or ps k 0)

-- ---- the word of the places

pub standing_more : (cells pattern : List ℕ) (places next moved k : ℕ) → k < length pattern → 0 < get_or pattern k 0
    → Marks places (stands_at cells (take k pattern)) → Marks next (λ i. slice_index cells i == get_or pattern k 0)
    → ((i : ℕ) → bit_at moved i ≡ bit_at next (i + k)) → Marks (bit_and places moved) (stands_at cells (take (k + 1) pattern))
standing_more cells pattern places next moved k l some so_far here back =
    marks_same (bit_and places moved)
    (λ i. stands_at cells (take k pattern) i && (slice_index cells (i + k) == get_or pattern k 0))
    (stands_at cells (take (k + 1) pattern)) same
    (marks_both places moved (stands_at cells (take k pattern)) (λ i. slice_index cells (i + k) == get_or pattern k 0) so_far
    (λ i. back i ∙ here (i + k)))
  where
    same : (i : ℕ) → (stands_at cells (take k pattern) i && (slice_index cells (i + k) == get_or pattern k 0))
        ≡ stands_at cells (take (k + 1) pattern) i
    same i =
        let inside = nat_lt i (length cells) in
        let done = starts_with nat_eq (drop i cells) (take k pattern) in
        let s = get_or pattern k 0 in
        let up : suc k ≡ k + 1 = omega arith in
        sym (and_assoc inside done (slice_index cells (i + k) == s))
        ∙ ap (λ z. inside && (done && (z == s))) (sym (get_or-drop i cells k 0))
        ∙ ap (λ t. inside && t) (sym (starts-next (drop i cells) pattern k l some))
        ∙ ap (λ n. inside && starts_with nat_eq (drop i cells) (take n pattern)) up

-- a symbol of a board isn't 0
pub some_symbol : (symbols : List ℕ) (s : ℕ) → are_symbols symbols ≡ true → Contains symbols s → 0 < s
some_symbol symbols s are is =
    let above = symbol-above symbols is.0 are is.1 in
    let e = get_or_default symbols is.0 s 0 is.1 in
    omega (arith, above, e, is.2)

-- ---- what is placed where the word has its bit

pub placed_marked : (cells pattern replacement : List ℕ) (places i : ℕ) → i < length cells
    → length pattern ≡ length replacement → Marks places (stands_at cells pattern)
    → cond (bit_at places i == 1) (written cells replacement i ∷ []) [] ≡ placed_at pattern replacement cells i
placed_marked cells pattern replacement places i below even are =
    let t = starts_with nat_eq (drop i cells) pattern in
    ap (λ b. cond (b == 1) (written cells replacement i ∷ []) [])
    (are i ∙ ap (λ b. if b && t then 1 else 0) (lt-ltb i (length cells) below))
    ∙ go t ∙ ap (λ n. cond t ((take i cells ++ (replacement ++ drop (i + n) cells)) ∷ []) []) (sym even)
  where
    go : (t : Bool) → cond ((if t then 1 else 0) == 1) (written cells replacement i ∷ []) [] ≡ cond t (written cells replacement i ∷ []) []
    go true = refl
    go false = refl

pub placed_next : (f : List ℕ → Grid) (cells pattern replacement : List ℕ) (places i : ℕ) (old now new : List Grid)
    → i < length cells → length pattern ≡ length replacement → Marks places (stands_at cells pattern)
    → now ≡ old ++ map f (placed_below pattern replacement cells i)
    → new ≡ now ++ map f (cond (bit_at places i == 1) (written cells replacement i ∷ []) [])
    → new ≡ old ++ map f (placed_below pattern replacement cells (i + 1))
placed_next f cells pattern replacement places i old now new below even are so_far put =
    let done = placed_below pattern replacement cells i in
    let here = placed_at pattern replacement cells i in
    let up : suc i ≡ i + 1 = omega arith in
    put ∙ ap (λ z. now ++ map f z) (placed_marked cells pattern replacement places i below even are)
    ∙ ap (λ z. z ++ map f here) so_far ∙ append_assoc old (map f done) (map f here)
    ∙ ap (λ z. old ++ z) (sym (map-append f done here))
    ∙ ap (λ n. old ++ map f (placed_below pattern replacement cells n)) up

-- where the pattern stands, it fits in the row
pub placed_fits : (cells pattern replacement : List ℕ) (places i : ℕ) → i < length cells → length pattern ≡ length replacement
    → Marks places (stands_at cells pattern) → bit_at places i ≡ 1 → i + length replacement ≤ length cells
placed_fits cells pattern replacement places i below even are one =
    by_test (nat_lt i (length cells)) (starts_with nat_eq (drop i cells) pattern) (bit_at places i) refl one (are i)
  where
    by_test : (b t : Bool) (n : ℕ) → starts_with nat_eq (drop i cells) pattern ≡ t → n ≡ 1 → n ≡ (if b && t then 1 else 0)
        → i + length replacement ≤ length cells
    by_test true true n e f g =
        let split = (starts_is Decides-eqb (drop i cells) pattern (starts_with nat_eq (drop i cells) pattern) refl).0 e in
        let a = length-append pattern (drop (length pattern) (drop i cells)) in
        let b = length-drop i cells in
        omega (arith, ap length split, a, b, even, below)
    by_test true false n e f g = absurd (omega (arith, f, g))
    by_test false t n e f g = absurd (omega (arith, f, g))
