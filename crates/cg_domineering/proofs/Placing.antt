-- Dominoes that are placed.
use Rattle.std.proofs.Common.{◌≡◌, refl, ℕ, zero, suc, ◌+◌, ◌-◌, ◌*◌, ◌%◌, ◌<◌, ◌==◌, ◌&&◌, not, nat_lt, inl, inr, Bool, true, false, if◌then◌else◌}
use Rattle.std.proofs.Common.{List, [], ◌∷◌, ◌++◌, length, map, ap, sym, ◌∙◌, arith, bit_and, ◌^◌, length-set, get_or-set_same, get_or-set_other}
use Rattle.std.specs.Prelude.{Contains, codes, slice_index, slice_set}
use Rattle.std.specs.Int.{bit_at}
use Rattle.std.specs.List.{flat_map}
use Rattle.std.specs.Str.{bytes_eq}
use Rattle.std.specs.declared.cmp.Ordering.TheVariants.{Less}
use Rattle.std.proofs.lemmas.Bool.{eqb-true, le-ltb, lt-ltb, ltb-true}
use Rattle.std.proofs.lemmas.Bool.Decides.{leb_tells, nat_tests}
use Rattle.std.proofs.lemmas.List.{get_or_past}
use Rattle.cg_moves.specs.declared.player.Player.{Player}
use Rattle.cg_moves.specs.declared.player.Player.TheVariants.{Left, Right}
use Rattle.cg_moves.specs.Grid.{Grid, IsGrid, is_in_rows, with_cells}
use Rattle.cg_moves.specs.PlaneBits.{plane_bit}
use Rattle.cg_moves.specs.Rising.{IsRising, bytes_cmp, counted}
use Rattle.cg_moves.specs.Rules.{In}
use Rattle.cg_moves.specs.Words.{Marks}
use Rattle.cg_moves.proofs.Counted.{counted-from}
use Rattle.cg_moves.proofs.Members.{in-flat_map, in_one}
use Rattle.cg_moves.proofs.RisingLemmas.{first-less, rises-none, rises-on, rising-kept}
use Rattle.cg_moves.proofs.Same.{and-true, bytes_eq-back}
use Rattle.cg_moves.proofs.WordBits.{marks_both, marks_same, marks_without, row_end}
use Rattle.cg_pieces.proofs.SymbolWords.{Tells, symbol-marks}
use Rattle.cg_domineering.specs.Moves.{domineering, empty, filled, fits, has_other, is_empty, moves_at, moves_of, other_cell, with_domino}
use Rattle.cg_moves.proofs.SetBits.{AreListed, listed-all, listed-none}
use Rattle.cg_pieces.proofs.OpenWords.{marks-test, unmarked}

pub symbols-are : (p : Grid) → domineering.has p ≡ true → p.symbols ≡ codes ".#"
symbols-are p has = bytes_eq-back p.symbols (codes ".#") (and-true (is_in_rows p) (bytes_eq p.symbols (codes ".#")) has).1

pub has-filled : (p : Grid) → domineering.has p ≡ true → Contains p.symbols filled
has-filled p has =
    rw (symbols-are p has) (1, omega arith, refl)

pub wide : (p : Grid) → domineering.has p ≡ true → 0 < p.columns
wide p has =
    let a = and-true (is_in_rows p) (bytes_eq p.symbols (codes ".#")) has in
    ltb-true 0 p.columns (and-true (nat_lt 0 p.columns) (length p.cells == p.rows * p.columns) a.0).0

-- ---- the cells of a domino that fits

empty-inside : (cells : List ℕ) (i : ℕ) → is_empty cells i ≡ true → i < length cells
empty-inside cells i e = grind (arith, nat_tests, leb_tells, eqb-true, get_or_past)

record Placed (player : Player) (p : Grid) (i : ℕ) : Type 0 where
  first_empty : is_empty p.cells i ≡ true
  other_empty : is_empty p.cells (other_cell player p i) ≡ true

fits-placed : (player : Player) (p : Grid) (i : ℕ) → fits player p i ≡ true → Placed player p i
fits-placed player p i f =
    let a = and-true (has_other player p i && is_empty p.cells i) (is_empty p.cells (other_cell player p i)) f in
    record { first_empty = (and-true (has_other player p i) (is_empty p.cells i) a.0).1; other_empty = a.1 }

pub first-inside : (player : Player) (p : Grid) (i : ℕ) → fits player p i ≡ true → i < length p.cells
first-inside player p i f = empty-inside p.cells i (fits-placed player p i f).first_empty

pub other-inside : (player : Player) (p : Grid) (i : ℕ) → fits player p i ≡ true → other_cell player p i < length p.cells
other-inside player p i f = empty-inside p.cells (other_cell player p i) (fits-placed player p i f).other_empty

pub other-after : (player : Player) (p : Grid) (i : ℕ) → 0 < p.columns → i < other_cell player p i
other-after Left p i some = omega arith
other-after Right p i some = omega arith

-- ---- the moves rise by their first cells

domino-long : (player : Player) (p : Grid) (i : ℕ) → length (with_domino player p i) ≡ length p.cells
domino-long player p i =
    length-set (slice_set p.cells i filled) (other_cell player p i) filled ∙ length-set p.cells i filled

-- a cell before a domino is as it was
before-domino : (player : Player) (p : Grid) (i k : ℕ) → 0 < p.columns → k < i
    → slice_index (with_domino player p i) k ≡ slice_index p.cells k
before-domino player p i k some l =
    let o = other-after player p i some in
    get_or-set_other (slice_set p.cells i filled) (other_cell player p i) k filled 0 (omega arith)
    ∙ get_or-set_other p.cells i k filled 0 (omega arith)

at-domino : (player : Player) (p : Grid) (i : ℕ) → 0 < p.columns → i < length p.cells → slice_index (with_domino player p i) i ≡ filled
at-domino player p i some l =
    let o = other-after player p i some in
    get_or-set_other (slice_set p.cells i filled) (other_cell player p i) i filled 0 (omega arith)
    ∙ get_or-set_same p.cells i filled 0 l

domino-less : (player : Player) (p : Grid) (i j : ℕ) → 0 < p.columns → fits player p i ≡ true → i < j
    → bytes_cmp (with_domino player p i) (with_domino player p j) ≡ Less
domino-less player p i j some f l =
    let inside = first-inside player p i f in
    let a = domino-long player p i in
    let b = domino-long player p j in
    let here = at-domino player p i some inside in
    let there = before-domino player p j i some l in
    let was : slice_index p.cells i ≡ 46 = eqb-true (slice_index p.cells i) empty (fits-placed player p i f).first_empty in
    first-less (with_domino player p i) (with_domino player p j) i (omega arith) (omega arith)
    (λ k h. before-domino player p i k some h ∙ sym (before-domino player p j k some (omega arith)))
    (omega arith)

placed-in : (player : Player) (p : Grid) (j : ℕ) (z : List ℕ) → In z (moves_at player p j) → z ≡ with_domino player p j
placed-in player p j z m = grind (arith, nat_tests, in_one)

pub dominoes-rise : (player : Player) (p : Grid) (i n : ℕ) → 0 < p.columns → IsRising (flat_map (moves_at player p) (counted i n))
dominoes-rise player p i zero some = rises-none
dominoes-rise player p i (suc n) some = go (fits player p i) refl (dominoes-rise player p (suc i) n some)
  where
    below : fits player p i ≡ true → (z : List ℕ) → In z (flat_map (moves_at player p) (counted (suc i) n))
        → bytes_cmp (with_domino player p i) z ≡ Less
    below f z m =
        let (j, k, o) = in-flat_map (moves_at player p) z (counted (suc i) n) m in
        let l = counted-from (suc i) n j k in
        ap (bytes_cmp (with_domino player p i)) (placed-in player p j z o)
        ∙ domino-less player p i j some f (omega arith)

    go : (b : Bool) → fits player p i ≡ b → IsRising (flat_map (moves_at player p) (counted (suc i) n))
        → IsRising ((if b then with_domino player p i ∷ [] else []) ++ flat_map (moves_at player p) (counted (suc i) n))
    go true f rest = rises-on (with_domino player p i) (flat_map (moves_at player p) (counted (suc i) n)) (below f) rest
    go false f rest = rest

-- ---- the words

left-test : (s e f : Bool) → (f ≡ true → s ≡ true) → (e && f) ≡ (s && e && f)
left-test true true f h = refl
left-test true false f h = refl
left-test false e true h = grind (arith, nat_tests)
left-test false true false h = refl
left-test false false false h = refl

filled-tells : Tells (codes ".#") 0 filled
filled-tells c (zero, l, e) = rw (← e) refl
filled-tells c (suc zero, l, e) = rw (← e) refl
filled-tells c (suc (suc k), l, e) = absurd (omega (arith, l))

-- the cells that aren't filled
pub empty_marks : (p : Grid) (word all : ℕ) → p.symbols ≡ codes ".#" → IsGrid p → word < 2 ^ 64 → all < 2 ^ 64
    → ((i : ℕ) → bit_at word i ≡ plane_bit p.symbols p.cells 0 i) → Marks all (λ i. nat_lt i (length p.cells))
    → Marks (bit_and all (18446744073709551615 - word)) (λ i. is_empty p.cells i)
empty_marks p word all e g fits below are cells =
    marks_same (bit_and all (18446744073709551615 - word))
    (λ i. nat_lt i (length p.cells) && not (slice_index p.cells i == filled)) (λ i. is_empty p.cells i) same
    (marks_without all word (λ i. nat_lt i (length p.cells)) (λ i. slice_index p.cells i == filled) cells
    (symbol-marks p word 0 filled g (rw e filled-tells) (λ z. omega (arith, z)) are) below fits)
  where
    other : (c : ℕ) → Contains (codes ".#") c → not (c == filled) ≡ (c == empty)
    other c (zero, l, h) = rw (← h) refl
    other c (suc zero, l, h) = rw (← h) refl
    other c (suc (suc k), l, h) = absurd (omega (arith, l))

    same : (i : ℕ) → (nat_lt i (length p.cells) && not (slice_index p.cells i == filled)) ≡ is_empty p.cells i
    same i = elim (leb_tells (length p.cells) i) [
      | inl h ↦
          let none : (nat_lt i (length p.cells) && true) ≡ false = ap (λ t. t && true) (le-ltb i (length p.cells) h.1) in
          rw (get_or_past p.cells i 0 h.1) none
      | inr h ↦
          ap (λ t. t && not (slice_index p.cells i == filled)) (lt-ltb i (length p.cells) h.1)
          ∙ other (slice_index p.cells i) (rw e at (g.cells i h.1))
    ]

pub left_marks : (p : Grid) (word below : ℕ) → Marks word (λ i. is_empty p.cells i)
    → ((i : ℕ) → bit_at below i ≡ bit_at word (i + p.columns)) → Marks (bit_and word below) (fits Left p)
left_marks p word below are moved =
    marks_same (bit_and word below) (λ i. is_empty p.cells i && is_empty p.cells (i + p.columns)) (fits Left p)
    (λ i. left-test (has_other Left p i) (is_empty p.cells i) (is_empty p.cells (i + p.columns))
    (λ e. lt-ltb (i + p.columns) (length p.cells) (empty-inside p.cells (i + p.columns) e)))
    (marks_both word below (λ i. is_empty p.cells i) (λ i. is_empty p.cells (i + p.columns)) are
    (λ i. moved i ∙ are (i + p.columns)))

-- the next cell is inside where it is empty, and in the first column where this one is in the last
right-test : (e f s x l : Bool) → (f ≡ true → s ≡ true) → x ≡ not l → (e && (f && not (s && x))) ≡ (l && e && f)
right-test e true s x l h k = grind (arith, nat_tests)
right-test e false s x l h k = grind (arith, nat_tests)

pub right_marks : (p : Grid) (word first beside : ℕ) → 0 < p.columns → word < 2 ^ 64 → first < 2 ^ 64 → Marks word (λ i. is_empty p.cells i)
    → Marks first (λ i. nat_lt i (length p.cells) && (i % p.columns == 0))
    → ((i : ℕ) → bit_at beside i ≡ bit_at (bit_and word (18446744073709551615 - first)) (i + 1))
    → Marks (bit_and word beside) (fits Right p)
right_marks p word first beside some fit below are column moved =
    let inner = marks_without word first (λ i. is_empty p.cells i) (λ i. nat_lt i (length p.cells) && (i % p.columns == 0))
    are column fit below in
    marks_same (bit_and word beside) (λ i. is_empty p.cells i && (is_empty p.cells (i + 1) && not (nat_lt (i + 1)
    (length p.cells) && ((i + 1) % p.columns == 0)))) (fits Right p)
    (λ i. right-test (is_empty p.cells i) (is_empty p.cells (i + 1)) (nat_lt (i + 1) (length p.cells))
    ((i + 1) % p.columns == 0) (has_other Right p i)
    (λ e. lt-ltb (i + 1) (length p.cells) (empty-inside p.cells (i + 1) e)) (row_end p.columns i (omega (arith, some))))
    (marks_both word beside (λ i. is_empty p.cells i) (λ i. is_empty p.cells (i + 1) && not (nat_lt (i + 1)
    (length p.cells) && ((i + 1) % p.columns == 0))) are (λ i. moved i ∙ inner (i + 1)))

-- ---- what a bit of the word tells

pub dominoes_begun : (player : Player) (p : Grid) (spots : ℕ) (boards : List Grid) → boards ≡ [] → spots < 2 ^ 64
    → Marks spots (fits player p)
    → AreListed (with_cells p) (moves_at player p) (λ k. k) (length p.cells) (λ k. fits player p k ≡ true) spots [] boards
dominoes_begun player p spots boards none low are = grind (arith, nat_tests, listed-none, marks-test, unmarked)

pub one_listed : (player : Player) (p after : Grid) (i : ℕ) (old new : List Grid) → fits player p i ≡ true
    → after ≡ with_cells p (with_domino player p i) → new ≡ old ++ (after ∷ [])
    → new ≡ old ++ map (with_cells p) (moves_at player p i)
one_listed player p after i old new f is put =
    put ∙ ap (λ z. old ++ (z ∷ [])) is
    ∙ ap (λ b. old ++ map (with_cells p) (if b then with_domino player p i ∷ [] else [])) (sym f)

-- all of them
pub all_listed : (player : Player) (p : Grid) (left : ℕ) (boards : List Grid) → 0 < p.columns → left ≡ 0
    → AreListed (with_cells p) (moves_at player p) (λ k. k) (length p.cells) (λ k. fits player p k ≡ true) left [] boards
    → boards ≡ map (with_cells p) (moves_of player p)
all_listed player p left boards some none all =
    listed-all _ _ _ _ _ left [] boards none all
    ∙ ap (map (with_cells p)) (sym (rising-kept (flat_map (moves_at player p) (counted 0 (length p.cells)))
    (dominoes-rise player p 0 (length p.cells) some)))
