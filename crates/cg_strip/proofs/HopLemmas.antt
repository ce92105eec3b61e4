-- The hops of toads and frogs, cell by cell.
use Rattle.std.proofs.Common.{◌≡◌, refl, ℕ, zero, suc, ◌+◌, ◌<◌, ◌==◌, ◌&&◌, inl, inr, cond, List, [], ◌∷◌, ◌++◌, length, map, drop, get_or, reverse}
use Rattle.std.proofs.Common.{Result, Ok, Err, ap, sym, subst, ◌∙◌, arith, append_assoc, bit_and, bit_or, max, w64, ◌≤◌, if◌then◌else◌, true, ◌-◌, ◌^◌}
use Rattle.std.specs.Prelude.{Contains, IfOk, nat_eq, slice_index}
use Rattle.std.specs.Int.{bit_at, trailing_zeros}
use Rattle.std.specs.List.{starts_with}
use Rattle.std.proofs.lemmas.Bool.{le-ltb, lt-ltb}
use Rattle.std.proofs.lemmas.Bool.Decides.{leb_tells}
use Rattle.std.proofs.lemmas.Grind.{reverse_onto}
use Rattle.std.proofs.lemmas.List.{append-nil, get_or-drop, get_or_past, map-append, reverse-reverse}
use Rattle.std.proofs.lemmas.Nat.Bits.{bit_at-trailing_zeros, bit_at-zero, bit_at_or}
use Rattle.cg_moves.specs.declared.player.Player.{Player}
use Rattle.cg_moves.specs.declared.player.Player.TheVariants.{Left, Right}
use Rattle.cg_moves.specs.Grid.{Grid, with_cells}
use Rattle.cg_moves.specs.PlaneBits.{index_of}
use Rattle.cg_moves.specs.Rising.{rising}
use Rattle.cg_moves.specs.Rules.{In}
use Rattle.cg_moves.specs.Words.{Marks}
use Rattle.cg_form.proofs.Firsts.{in-append, in-append_left, in-append_right}
use Rattle.cg_moves.proofs.Members.{carry, in_one}
use Rattle.cg_moves.proofs.SameMembers.{rising-same}
use Rattle.cg_moves.proofs.WordBits.{marks_same}
use Rattle.cg_strip.specs.declared.hopping.HopWords.{HopWords}
use Rattle.cg_strip.specs.Hops.{AreHopWords, hops_at, hops_below, hops_made, jumped, jumping, stepped, stepping}
use Rattle.cg_strip.specs.Placing.{placed_at, placed_below, stands_at, written}
use Rattle.cg_strip.specs.Toads.{empty, frog, hops, toad, toads_game, toads_moves}
use Rattle.cg_strip.proofs.Changes.{symbols_are}
use Rattle.cg_strip.proofs.Standing.{apart, either_way, placed_marked, standing_more}

-- ---- two symbols and three, in words

module _ (cells : List ℕ) where
  head_is : (s : ℕ) → 0 < s → (xs : List ℕ) → (get_or xs 0 0 == s) ≡ starts_with nat_eq xs (s ∷ [])
  head_is s some [] = apart s some
  head_is s some (x ∷ xs) = sym (either_way x s)

  one_stands : (s : ℕ) → 0 < s → (i : ℕ) → (slice_index cells i == s) ≡ stands_at cells (s ∷ []) i
  one_stands s some i =
      let here = starts_with nat_eq (drop i cells) (s ∷ []) in
      elim (leb_tells (length cells) i) [
        | inl h ↦ ap (λ z. z == s) (get_or_past cells i 0 h.1) ∙ apart s some
            ∙ sym (ap (λ t. t && here) (le-ltb i (length cells) h.1))
        | inr h ↦ (let same : i + 0 ≡ i = omega arith in
            ap (λ z. z == s) (sym (get_or-drop i cells 0 0 ∙ ap (λ n. get_or cells n 0) same))
            ∙ head_is s some (drop i cells) ∙ sym (ap (λ t. t && here) (lt-ltb i (length cells) h.1)))
      ]

  two_stand : (a b first second moved : ℕ) → 0 < a → 0 < b → Marks first (λ i. slice_index cells i == a)
      → Marks second (λ i. slice_index cells i == b) → ((i : ℕ) → bit_at moved i ≡ bit_at second (i + 1))
      → Marks (bit_and first moved) (stands_at cells (a ∷ b ∷ []))
  two_stand a b first second moved some more is next back =
      standing_more cells (a ∷ b ∷ []) first second moved 1 (omega arith) more
      (marks_same first (λ i. slice_index cells i == a) (stands_at cells (a ∷ [])) (one_stands a some) is) next back

  three_stand : (a b c first second third moved beyond : ℕ) → 0 < a → 0 < b → 0 < c
      → Marks first (λ i. slice_index cells i == a) → Marks second (λ i. slice_index cells i == b)
      → Marks third (λ i. slice_index cells i == c) → ((i : ℕ) → bit_at moved i ≡ bit_at second (i + 1))
      → ((i : ℕ) → bit_at beyond i ≡ bit_at third (i + 2))
      → Marks (bit_and (bit_and first moved) beyond) (stands_at cells (a ∷ b ∷ c ∷ []))
  three_stand a b c first second third moved beyond some more still is next last back far =
      standing_more cells (a ∷ b ∷ c ∷ []) (bit_and first moved) third beyond 2 (omega arith) still
      (two_stand a b first second moved some more is next back) last far

-- ---- the words of hops

module _ (cells : List ℕ) (toads frogs empties beside over beyond : ℕ) (are_toads : Marks toads (λ i. slice_index cells i == toad))
    (are_frogs : Marks frogs (λ i. slice_index cells i == frog)) (are_empty : Marks empties (λ i. slice_index cells i == empty)) where
  pub toad_words : ((i : ℕ) → bit_at beside i ≡ bit_at empties (i + 1)) → ((i : ℕ) → bit_at over i ≡ bit_at frogs (i + 1))
      → ((i : ℕ) → bit_at beyond i ≡ bit_at empties (i + 2))
      → AreHopWords Left cells (record { steps = bit_and toads beside; jumps = bit_and (bit_and toads over) beyond })
  toad_words one two three = record {
    steps = two_stand cells toad empty toads empties beside (omega arith) (omega arith) are_toads are_empty one;
    jumps = three_stand cells toad frog empty toads frogs empties over beyond (omega arith) (omega arith) (omega arith)
        are_toads are_frogs are_empty two three;
  }

  pub frog_words : ((i : ℕ) → bit_at beside i ≡ bit_at frogs (i + 1)) → ((i : ℕ) → bit_at over i ≡ bit_at toads (i + 1))
      → ((i : ℕ) → bit_at beyond i ≡ bit_at frogs (i + 2))
      → AreHopWords Right cells (record { steps = bit_and empties beside; jumps = bit_and (bit_and empties over) beyond })
  frog_words one two three = record {
    steps = two_stand cells empty frog empties frogs beside (omega arith) (omega arith) are_empty are_frogs one;
    jumps = three_stand cells empty toad frog empties toads frogs over beyond (omega arith) (omega arith) (omega arith)
        are_empty are_toads are_frogs two three;
  }

-- ---- hops put behind boards

even_steps : (player : Player) → length (stepping player) ≡ length (stepped player)
even_steps Left = refl
even_steps Right = refl

even_jumps : (player : Player) → length (jumping player) ≡ length (jumped player)
even_jumps Left = refl
even_jumps Right = refl

pub hops_put : (f : List ℕ → Grid) (player : Player) (cells : List ℕ) (words : HopWords) (i : ℕ) (old now new : List Grid)
    → i < length cells → AreHopWords player cells words
    → now ≡ old ++ map f (cond (bit_at words.steps i == 1) (written cells (stepped player) i ∷ []) [])
    → new ≡ now ++ map f (cond (bit_at words.jumps i == 1) (written cells (jumped player) i ∷ []) [])
    → new ≡ old ++ map f (hops_at player cells i)
hops_put f player cells words i old now new below are first second =
    let steps = placed_at (stepping player) (stepped player) cells i in
    let jumps = placed_at (jumping player) (jumped player) cells i in
    let one = placed_marked cells (stepping player) (stepped player) words.steps i below (even_steps player) are.steps in
    let two = placed_marked cells (jumping player) (jumped player) words.jumps i below (even_jumps player) are.jumps in
    second ∙ ap (λ z. now ++ map f z) two ∙ ap (λ z. z ++ map f jumps) (first ∙ ap (λ z. old ++ map f z) one)
    ∙ append_assoc old (map f steps) (map f jumps) ∙ ap (λ z. old ++ z) (sym (map-append f steps jumps))

pub ok_then : {X E : Type 0} (r : Result X E) (A B : Type 0) → (A → B) → IfOk r (λ x. A) → IfOk r (λ x. B)
ok_then (Ok x) A B f h = f h
ok_then (Err e) A B f h = tt

pub hops_next : (f : List ℕ → Grid) (player : Player) (cells : List ℕ) (i : ℕ) (now new : List Grid)
    → now ≡ map f (hops_below player cells i) → new ≡ now ++ map f (hops_at player cells i)
    → new ≡ map f (hops_below player cells (i + 1))
hops_next f player cells i now new so_far put =
    let up : suc i ≡ i + 1 = omega arith in
    put ∙ ap (λ z. z ++ map f (hops_at player cells i)) so_far
    ∙ sym (map-append f (hops_below player cells i) (hops_at player cells i)) ∙ ap (λ n. map f (hops_below player cells n)) up

-- ---- from hop to hop

module _ (player : Player) (cells : List ℕ) (words : HopWords) (are : AreHopWords player cells words) where
  hop_bits : (k : ℕ) → bit_at (bit_or words.steps words.jumps) k ≡ max (bit_at words.steps k) (bit_at words.jumps k)
  hop_bits k = bit_at_or words.steps words.jumps k

  -- a hop begins within the row
  pub hop_within : (k : ℕ) → bit_at (bit_or words.steps words.jumps) k ≡ 1 → k < length cells
  hop_within k one = elim (leb_tells (length cells) k) [
    | inl h ↦ (let past = le-ltb k (length cells) h.1 in
        let s = are.steps k ∙ ap (λ t. if t && starts_with nat_eq (drop k cells) (stepping player) then 1 else 0) past in
        let j = are.jumps k ∙ ap (λ t. if t && starts_with nat_eq (drop k cells) (jumping player) then 1 else 0) past in
        let m = hop_bits k in absurd (omega (arith, one, s, j, m)))
    | inr h ↦ h.1
  ]

  no_hops : (k : ℕ) → k < length cells → bit_at (bit_or words.steps words.jumps) k ≡ 0 → hops_at player cells k ≡ []
  no_hops k below none =
      let m = hop_bits k in
      let s : bit_at words.steps k ≡ 0 = omega (arith, none, m) in
      let j : bit_at words.jumps k ≡ 0 = omega (arith, none, m) in
      let one = placed_marked cells (stepping player) (stepped player) words.steps k below (even_steps player) are.steps in
      let two = placed_marked cells (jumping player) (jumped player) words.jumps k below (even_jumps player) are.jumps in
      ap (λ z. z ++ placed_at (jumping player) (jumped player) cells k)
      (sym one ∙ ap (λ b. cond (b == 1) (written cells (stepped player) k ∷ []) []) s)
      ∙ sym two ∙ ap (λ b. cond (b == 1) (written cells (jumped player) k ∷ []) []) j

  -- where no hop begins between two cells
  pub hops_skip : (n m : ℕ) → n ≤ m → m ≤ length cells
      → ((k : ℕ) → n ≤ k → k < m → bit_at (bit_or words.steps words.jumps) k ≡ 0)
      → hops_below player cells n ≡ hops_below player cells m
  hops_skip n zero l fits none = ap (hops_below player cells) (let e : n ≡ zero = omega arith in e)
  hops_skip n (suc m) l fits none = elim (leb_tells n m) [
    | inl h ↦ (let done = hops_below player cells m in
        hops_skip n m h.1 (omega (arith, fits)) (λ k a b. none k a (omega (arith, b)))
        ∙ sym (append-nil done) ∙ ap (λ z. done ++ z) (sym (no_hops m (omega (arith, fits)) (none m h.1 (omega arith)))))
    | inr h ↦ ap (hops_below player cells) (let e : n ≡ suc m = omega (arith, h.1, l) in e)
  ]

  module _ (f : List ℕ → Grid) (next left : ℕ) (fits : next ≤ length cells)
      (rest : (i : ℕ) → bit_at left i ≡ bit_at (bit_or words.steps words.jumps) (i + next)) where
    -- the first of the hops that are left
    pub next_within : 0 < left → left < 2 ^ 64 → next + trailing_zeros w64 left < length cells
    next_within some small =
        let h = bit_at-trailing_zeros w64 left some small in
        let up : trailing_zeros w64 left + next ≡ next + trailing_zeros w64 left = omega arith in
        hop_within (next + trailing_zeros w64 left)
        (ap (bit_at (bit_or words.steps words.jumps)) (sym up) ∙ sym (rest (trailing_zeros w64 left)) ∙ h.1)

    pub hops_up_to : (now new : List Grid) → 0 < left → left < 2 ^ 64 → now ≡ map f (hops_below player cells next)
        → new ≡ now ++ map f (hops_at player cells (next + trailing_zeros w64 left))
        → new ≡ map f (hops_below player cells (next + trailing_zeros w64 left + 1))
    hops_up_to now new some small so_far put =
        let h = bit_at-trailing_zeros w64 left some small in
        let cell = next + trailing_zeros w64 left in
        let below = next_within some small in
        hops_next f player cells cell now new (so_far ∙ ap (map f) (hops_skip next cell (omega arith) (omega (arith, below))
        (λ k a b. let back : k - next + next ≡ k = omega (arith, a) in
        ap (bit_at (bit_or words.steps words.jumps)) (sym back) ∙ sym (rest (k - next)) ∙ h.2 (k - next) (omega (arith, a, b))))) put

    pub hops_end : (now : List Grid) → left ≡ 0 → now ≡ map f (hops_below player cells next)
        → now ≡ map f (hops_below player cells (length cells))
    hops_end now none so_far =
        so_far ∙ ap (map f) (hops_skip next (length cells) fits (omega arith)
        (λ k a b. let back : k - next + next ≡ k = omega (arith, a) in
        ap (bit_at (bit_or words.steps words.jumps)) (sym back) ∙ sym (rest (k - next)) ∙ ap (λ z. bit_at z (k - next)) none
        ∙ bit_at-zero (k - next)))

-- ---- symbols of toads and frogs

pub known_symbol : (p : Grid) (s : ℕ) → toads_game.has p ≡ true → Contains p.symbols s → Contains (empty ∷ toad ∷ frog ∷ []) s
known_symbol p s has is = let P : List ℕ → Type 0 = λ z. Contains z s in subst P (symbols_are p has) is

pub known_index : (p after : Grid) (cells : List ℕ) (s index : ℕ) → toads_game.has p ≡ true → after ≡ with_cells p cells
    → index ≡ index_of (empty ∷ toad ∷ frog ∷ []) s → index ≡ index_of after.symbols s
known_index p after cells s index has same e =
    e ∙ ap (λ z. index_of z s) (sym (symbols_are p has)) ∙ sym (ap (λ (q : Grid). index_of q.symbols s) same)

pub map_reversed : (f : List ℕ → Grid) (xs : List (List ℕ)) → reverse (map f xs) ≡ map f (reverse xs)
map_reversed f [] = refl
map_reversed f (x ∷ xs) =
    reverse_onto (map f xs) (f x) [] ∙ ap (λ z. z ++ (f x ∷ [])) (map_reversed f xs)
    ∙ sym (map-append f (reverse xs) (x ∷ [])) ∙ ap (map f) (sym (reverse_onto xs x []))

-- ---- in whatever order, they are the moves

from_reverse : (z : List ℕ) (xs : List (List ℕ)) → In z (reverse xs) → In z xs
from_reverse z [] m = absurd m
from_reverse z (x ∷ xs) m = elim (in-append z (reverse xs) (x ∷ []) (carry z (reverse (x ∷ xs)) (reverse xs ++ (x ∷ []))
    (reverse_onto xs x []) m)) [ inl o ↦ inr (from_reverse z xs o) | inr o ↦ inl (in_one z x o) ]

in_reverse : (z : List ℕ) (xs : List (List ℕ)) → In z xs → In z (reverse xs)
in_reverse z xs m = from_reverse z (reverse xs) (carry z xs (reverse (reverse xs)) (sym (reverse-reverse xs)) m)

module _ (player : Player) (row z : List ℕ) where
  abbrev steps_below : ℕ → List (List ℕ)
  steps_below n = placed_below (stepping player) (stepped player) row n

  abbrev jumps_below : ℕ → List (List ℕ)
  jumps_below n = placed_below (jumping player) (jumped player) row n

  apart_below : (n : ℕ) → In z (hops_below player row n) → In z (steps_below n ++ jumps_below n)
  apart_below zero m = absurd m
  apart_below (suc n) m =
      let s = placed_at (stepping player) (stepped player) row n in
      let j = placed_at (jumping player) (jumped player) row n in
      elim (in-append z (hops_below player row n) (s ++ j) m) [
        | inl k ↦ elim (in-append z (steps_below n) (jumps_below n) (apart_below n k)) [
          | inl o ↦ in-append_left z (steps_below n ++ s) (jumps_below n ++ j) (in-append_left z (steps_below n) s o)
          | inr o ↦ in-append_right z (steps_below n ++ s) (jumps_below n ++ j) (in-append_left z (jumps_below n) j o)
        ]
        | inr k ↦ elim (in-append z s j k) [
          | inl o ↦ in-append_left z (steps_below n ++ s) (jumps_below n ++ j) (in-append_right z (steps_below n) s o)
          | inr o ↦ in-append_right z (steps_below n ++ s) (jumps_below n ++ j) (in-append_right z (jumps_below n) j o)
        ]
      ]

  steps_among : (n : ℕ) → In z (steps_below n) → In z (hops_below player row n)
  steps_among zero m = absurd m
  steps_among (suc n) m =
      let s = placed_at (stepping player) (stepped player) row n in
      let j = placed_at (jumping player) (jumped player) row n in
      elim (in-append z (steps_below n) s m) [
        | inl k ↦ in-append_left z (hops_below player row n) (s ++ j) (steps_among n k)
        | inr k ↦ in-append_right z (hops_below player row n) (s ++ j) (in-append_left z s j k)
      ]

  jumps_among : (n : ℕ) → In z (jumps_below n) → In z (hops_below player row n)
  jumps_among zero m = absurd m
  jumps_among (suc n) m =
      let s = placed_at (stepping player) (stepped player) row n in
      let j = placed_at (jumping player) (jumped player) row n in
      elim (in-append z (jumps_below n) j m) [
        | inl k ↦ in-append_left z (hops_below player row n) (s ++ j) (jumps_among n k)
        | inr k ↦ in-append_right z (hops_below player row n) (s ++ j) (in-append_right z s j k)
      ]

  joined_below : (n : ℕ) → In z (steps_below n ++ jumps_below n) → In z (hops_below player row n)
  joined_below n m = elim (in-append z (steps_below n) (jumps_below n) m) [
    | inl k ↦ steps_among n k
    | inr k ↦ jumps_among n k
  ]

pub hops_rise : (player : Player) (row : List ℕ) → rising (hops_made player row) ≡ toads_moves player row
hops_rise Left row =
    rising-same (hops_made Left row) (hops Left row) (λ z m. apart_below Left row z (length row) m)
    (λ z m. joined_below Left row z (length row) m)
hops_rise Right row =
    rising-same (hops_made Right row) (hops Right row)
    (λ z m. apart_below Right row z (length row) (from_reverse z (hops_below Right row (length row)) m))
    (λ z m. in_reverse z (hops_below Right row (length row)) (joined_below Right row z (length row) m))
