-- Words of one cell, and where its steps lead.
use Rattle.std.proofs.Common.{◌≡◌, refl, Bool, true, false, cond, not, ◌&&◌, ℕ, zero, suc, ◌+◌, ◌-◌, ◌*◌, ◌%◌, ◌^◌, ◌<◌, ◌≤◌}
use Rattle.std.proofs.Common.{◌==◌, ◌⊎◌, inl, inr, nat_lt, Option, Some, None, ap, sym, ◌∙◌, subst, arith, bit_and, bit_or}
use Rattle.std.specs.Prelude.{option_and_then, if◌then◌else◌}
use Rattle.std.specs.Int.{bit_at}
use Rattle.std.proofs.lemmas.Bool.{eq-eqb, eqb-false, lt-ltb, ltb-true}
use Rattle.std.proofs.lemmas.Bool.Decides.{eqb_tells, leb_tells}
use Rattle.std.proofs.lemmas.Nat.Bits.{bit_at-lt, bit_at-zero, bit_at_and, bit_at_or}
use Rattle.cg_moves.specs.Words.{IsWithBit, Marks}
use Rattle.cg_moves.proofs.MoveLemmas.{next_in_row}
use Rattle.cg_moves.proofs.Same.{and-true, both-true}
use Rattle.cg_moves.proofs.WordBits.{marks_same, marks_without, row_end}
use Rattle.cg_amazons.specs.Amazons.{up, down, back, forth, step}
use Rattle.cg_amazons.proofs.RayLaws.{if_false, if_true, some_before, two_steps, up_is}
use Rattle.cg_amazons.specs.Rays.{IsBelow, IsCell, is_inner}
use Rattle.cg_amazons.specs.declared.way.Way.{Way}
use Rattle.cg_amazons.specs.declared.way.Way.TheVariants.{UpBack, Up, UpForth, Back, Forth, DownBack, Down, DownForth}

-- ---- bits that are 1

pub and_is : (a b i : ℕ) → bit_at (bit_and a b) i ≡ 1 → (bit_at a i ≡ 1) × (bit_at b i ≡ 1)
and_is a b i e =
    let k = bit_at_and a b i in
    let x = bit_at-lt a i in
    let y = bit_at-lt b i in
    (omega arith, omega arith)

pub and_has : (a b i : ℕ) → bit_at a i ≡ 1 → bit_at b i ≡ 1 → bit_at (bit_and a b) i ≡ 1
and_has a b i e f = let k = bit_at_and a b i in omega arith

pub or_is : (a b i : ℕ) → bit_at (bit_or a b) i ≡ 1 → (bit_at a i ≡ 1) ⊎ (bit_at b i ≡ 1)
or_is a b i e = elim (eqb_tells (bit_at a i) 1) [
  | inl h ↦ inl h.1
  | inr h ↦ inr (let k = bit_at_or a b i in let x = bit_at-lt a i in let n = h.1 in omega arith)
]

pub or_left : (a b i : ℕ) → bit_at a i ≡ 1 → bit_at (bit_or a b) i ≡ 1
or_left a b i e = let k = bit_at_or a b i in let y = bit_at-lt b i in omega arith

pub or_right : (a b i : ℕ) → bit_at b i ≡ 1 → bit_at (bit_or a b) i ≡ 1
or_right a b i e = let k = bit_at_or a b i in let x = bit_at-lt a i in omega arith

pub mark_is : (word : ℕ) (test : ℕ → Bool) (i : ℕ) → Marks word test → bit_at word i ≡ 1 → test i ≡ true
mark_is word test i are e = go (test i) refl
  where
    go : (t : Bool) → test i ≡ t → test i ≡ true
    go true f = f
    go false f = absurd (let z : bit_at word i ≡ 0 = are i ∙ ap (λ t. if t then 1 else 0) f in omega arith)

pub mark_has : (word : ℕ) (test : ℕ → Bool) (i : ℕ) → Marks word test → test i ≡ true → bit_at word i ≡ 1
mark_has word test i are e = are i ∙ ap (λ t. if t then 1 else 0) e

-- ---- the words of a shape

pub wide : (rows columns : ℕ) → 1 ≤ rows * columns → 1 ≤ columns
wide rows zero h = absurd (let z : rows * 0 ≡ 0 = omega arith in omega arith)
wide rows (suc n) h = omega arith

pub inner_marks : (columns size all first : ℕ) → all < 2 ^ 64 → first < 2 ^ 64 → Marks all (λ i. nat_lt i size)
    → Marks first (λ i. nat_lt i size && (i % columns == 0))
    → Marks (bit_and all (18446744073709551615 - first)) (is_inner columns size)
inner_marks columns size all first fits below are column =
    marks_same (bit_and all (18446744073709551615 - first))
    (λ i. nat_lt i size && not (nat_lt i size && (i % columns == 0))) (is_inner columns size)
    (λ i. same (nat_lt i size) (i % columns == 0))
    (marks_without all first (λ i. nat_lt i size) (λ i. nat_lt i size && (i % columns == 0)) are column fits below)
  where
    same : (s x : Bool) → (s && not (s && x)) ≡ (s && not x)
    same true x = refl
    same false x = refl

-- ---- one cell

some_is : (a b : ℕ) → Some a ≡ Some b → a ≡ b
some_is a b e = cc

-- the word with the bit of this cell alone
pub one_cell : (word cell : ℕ) → IsWithBit 0 word cell 1 → IsCell word (Some cell)
one_cell word cell is i = (there, back)
  where
    there : bit_at word i ≡ 1 → Some cell ≡ Some i
    there e = elim (eqb_tells i cell) [
      | inl h ↦ ap Some (sym h.1)
      | inr h ↦ absurd (let z : bit_at word i ≡ 0 = is i ∙ ap (λ t. if t then 1 else bit_at 0 i) h.0 ∙ bit_at-zero i in omega arith)
    ]

    back : Some cell ≡ Some i → bit_at word i ≡ 1
    back e = is i ∙ ap (λ t. if t then 1 else bit_at 0 i) (eq-eqb i cell (sym (some_is cell i e)))

pub no_cell : (word : ℕ) (cell : Option ℕ) → IsCell word cell → word ≡ 0 → cell ≡ None
no_cell word None is e = refl
no_cell word (Some i) is e =
    absurd (let z : bit_at word i ≡ 0 = ap (λ w. bit_at w i) e ∙ bit_at-zero i in let o = (is i).1 refl in omega arith)

-- ---- steps

module _ (at moved by : ℕ) (first : (i : ℕ) → i < by → bit_at moved i ≡ 0) where
  past : (i : ℕ) → bit_at moved i ≡ 1 → by ≤ i
  past i e = elim (leb_tells (suc i) by) [
    | inl h ↦ absurd (let z = first i (omega (arith, h.1)) in omega arith)
    | inr h ↦ omega (arith, h.1)
  ]

pub down_cell : (columns size at moved all : ℕ) (cell : Option ℕ) → size ≤ 64 → Marks all (λ i. nat_lt i size)
    → ((i : ℕ) → i < columns → bit_at moved i ≡ 0)
    → ((i : ℕ) → columns ≤ i → i < 64 → bit_at moved i ≡ bit_at at (i - columns))
    → IsCell at cell → IsCell (bit_and moved all) (option_and_then (down columns size) cell)
down_cell columns size at moved all cell few are first others is i = (there, back)
  where
    there : bit_at (bit_and moved all) i ≡ 1 → option_and_then (down columns size) cell ≡ Some i
    there e =
        let p = and_is moved all i e in
        let l : i < size = ltb-true i size (mark_is all (λ i. nat_lt i size) i are p.1) in
        let c : columns ≤ i = past at moved columns first i p.0 in
        let k : i - columns + columns ≡ i = omega arith in
        ap (option_and_then (down columns size)) ((is (i - columns)).0 (sym (others i c (omega arith)) ∙ p.0))
        ∙ ap (λ z. cond (nat_lt z size) (Some z) None) k ∙ ap (λ t. cond t (Some i) None) (lt-ltb i size l)

    back : option_and_then (down columns size) cell ≡ Some i → bit_at (bit_and moved all) i ≡ 1
    back e =
        let (m, a, b) = two_steps (down columns size) cell i e in
        let p = if_true (nat_lt (m + columns) size) (m + columns) i b in
        let l = ltb-true (m + columns) size p.0 in
        let k = p.1 in
        let before : m ≡ i - columns = omega arith in
        and_has moved all i (others i (omega arith) (omega arith) ∙ (is (i - columns)).1 (a ∙ ap Some before))
        (mark_has all (λ i. nat_lt i size) i are (lt-ltb i size (omega arith)))

module _ (columns size inner : ℕ) (are : Marks inner (is_inner columns size)) where
  inner-is : (i : ℕ) → bit_at inner i ≡ 1 → (i < size) × ((i % columns == 0) ≡ false)
  inner-is i e =
      let p = and-true (nat_lt i size) (not (i % columns == 0)) (mark_is inner (is_inner columns size) i are e) in
      (ltb-true i size p.0, not-true (i % columns == 0) p.1)
    where
      not-true : (t : Bool) → not t ≡ true → t ≡ false
      not-true true e = cc
      not-true false e = refl

  inner-has : (i : ℕ) → i < size → (i % columns == 0) ≡ false → bit_at inner i ≡ 1
  inner-has i l e =
      mark_has inner (is_inner columns size) i are
      (both-true (nat_lt i size) (not (i % columns == 0)) (lt-ltb i size l) (ap not e))

pub back_cell : (columns size at inner result : ℕ) (cell : Option ℕ) → 1 ≤ columns → Marks inner (is_inner columns size)
    → ((i : ℕ) → bit_at result i ≡ bit_at (bit_and at inner) (i + 1)) → IsBelow size cell
    → IsCell at cell → IsCell result (option_and_then (back columns) cell)
back_cell columns size at inner result cell some are moved below is i = (there, before)
  where
    there : bit_at result i ≡ 1 → option_and_then (back columns) cell ≡ Some i
    there e =
        let p = and_is at inner (i + 1) (sym (moved i) ∙ e) in
        let q = inner-is columns size inner are (i + 1) p.1 in
        let k : i + 1 - 1 ≡ i = omega arith in
        ap (option_and_then (back columns)) ((is (i + 1)).0 p.0) ∙ ap (λ t. cond t None (Some (i + 1 - 1))) q.1 ∙ ap Some k

    before : option_and_then (back columns) cell ≡ Some i → bit_at result i ≡ 1
    before e =
        let (m, a, b) = two_steps (back columns) cell i e in
        let p = if_false (m % columns == 0) (m - 1) i b in
        let z = some_before columns m some (eqb-false (m % columns) 0 p.0) in
        let f = p.1 in
        let k : m ≡ i + 1 = omega arith in
        let l = below m a in
        moved i ∙ and_has at inner (i + 1) ((is (i + 1)).1 (a ∙ ap Some k))
        (inner-has columns size inner are (i + 1) (omega arith) (ap (λ z. z % columns == 0) (sym k) ∙ p.0))

pub forth_cell : (rows columns at moved inner : ℕ) (cell : Option ℕ) → 1 ≤ columns → rows * columns ≤ 64
    → Marks inner (is_inner columns (rows * columns))
    → ((i : ℕ) → i < 1 → bit_at moved i ≡ 0)
    → ((i : ℕ) → 1 ≤ i → i < 64 → bit_at moved i ≡ bit_at at (i - 1)) → IsBelow (rows * columns) cell
    → IsCell at cell → IsCell (bit_and moved inner) (option_and_then (forth columns) cell)
forth_cell rows columns at moved inner cell some few are first others below is i = (there, before)
  where
    not-not : (s t : Bool) → s ≡ not t → s ≡ false → t ≡ true
    not-not s true e f = refl
    not-not s false e f = absurd (no (sym e ∙ f))
      where
        no : true ≡ false → ⊥
        no g = cc

    there : bit_at (bit_and moved inner) i ≡ 1 → option_and_then (forth columns) cell ≡ Some i
    there e =
        let p = and_is moved inner i e in
        let q = inner-is columns (rows * columns) inner are i p.1 in
        let c : 1 ≤ i = past at moved 1 first i p.0 in
        let l = q.0 in
        let k : i - 1 + 1 ≡ i = omega arith in
        let t : nat_lt ((i - 1) % columns + 1) columns ≡ true = not-not ((i - 1 + 1) % columns == 0)
        (nat_lt ((i - 1) % columns + 1) columns) (row_end columns (i - 1) some)
        (ap (λ z. z % columns == 0) k ∙ q.1) in
        ap (option_and_then (forth columns)) ((is (i - 1)).0 (sym (others i c (omega arith)) ∙ p.0))
        ∙ ap (λ t. cond t (Some (i - 1 + 1)) None) t ∙ ap Some k

    before : option_and_then (forth columns) cell ≡ Some i → bit_at (bit_and moved inner) i ≡ 1
    before e =
        let (m, a, b) = two_steps (forth columns) cell i e in
        let p = if_true (nat_lt (m % columns + 1) columns) (m + 1) i b in
        let inside = next_in_row m rows columns (below m a) (ltb-true (m % columns + 1) columns p.0) in
        let k = p.1 in
        let f : m ≡ i - 1 = omega arith in
        and_has moved inner i (others i (omega arith) (omega arith) ∙ (is (i - 1)).1 (a ∙ ap Some f))
        (inner-has columns (rows * columns) inner are i (omega arith)
        (ap (λ z. z % columns == 0) (sym k) ∙ row_end columns m some ∙ ap not p.0))

-- ---- two steps, and where they stay

twice : (f g : ℕ → Option ℕ) (cell : Option ℕ)
    → option_and_then f (option_and_then g cell) ≡ option_and_then (λ i. option_and_then f (g i)) cell
twice f g None = refl
twice f g (Some i) = refl

-- a cell that is reached in two steps
pub then_cell : (f g : ℕ → Option ℕ) (cell : Option ℕ) (word : ℕ) → IsCell word (option_and_then f (option_and_then g cell))
    → IsCell word (option_and_then (λ i. option_and_then f (g i)) cell)
then_cell f g cell word is = subst (IsCell word) (twice f g cell) is

pub step_is : (columns n : ℕ) (way other : Way) (cell : Option ℕ) (word : ℕ) → way ≡ other
    → IsCell word (option_and_then (step columns n other) cell) → IsCell word (option_and_then (step columns n way) cell)
step_is columns n way other cell word e is =
    rw e is

pub up_below : (columns n : ℕ) (cell : Option ℕ) → IsBelow n cell → IsBelow n (option_and_then (up columns) cell)
up_below columns n cell below i e =
    let (m, a, b) = two_steps (up columns) cell i e in
    let l = below m a in
    let u = up_is columns m i b in
    omega (arith, u.1)

pub down_below : (columns n : ℕ) (cell : Option ℕ) → IsBelow n (option_and_then (down columns n) cell)
down_below columns n cell i e =
    let (m, a, b) = two_steps (down columns n) cell i e in
    let p = if_true (nat_lt (m + columns) n) (m + columns) i b in
    let l = ltb-true (m + columns) n p.0 in
    omega (arith, p.1)

back_below : (columns n : ℕ) (cell : Option ℕ) → IsBelow n cell → IsBelow n (option_and_then (back columns) cell)
back_below columns n cell below i e =
    let (m, a, b) = two_steps (back columns) cell i e in
    let p = if_false (m % columns == 0) (m - 1) i b in
    let l = below m a in
    omega (arith, p.1)

forth_below : (rows columns : ℕ) (cell : Option ℕ) → IsBelow (rows * columns) cell
    → IsBelow (rows * columns) (option_and_then (forth columns) cell)
forth_below rows columns cell below i e =
    let (m, a, b) = two_steps (forth columns) cell i e in
    let p = if_true (nat_lt (m % columns + 1) columns) (m + 1) i b in
    let l = next_in_row m rows columns (below m a) (ltb-true (m % columns + 1) columns p.0) in
    omega (arith, p.1)

pub step_below : (rows columns : ℕ) (way : Way) (i : ℕ) → i < rows * columns
    → IsBelow (rows * columns) (step columns (rows * columns) way i)
step_below rows columns way i l = go way
  where
    here : IsBelow (rows * columns) (Some i)
    here k e = let same = some_is i k e in omega arith

    go : (way : Way) → IsBelow (rows * columns) (step columns (rows * columns) way i)
    go UpBack = back_below columns (rows * columns) (up columns i) (up_below columns (rows * columns) (Some i) here)
    go Up = up_below columns (rows * columns) (Some i) here
    go UpForth = forth_below rows columns (up columns i) (up_below columns (rows * columns) (Some i) here)
    go Back = back_below columns (rows * columns) (Some i) here
    go Forth = forth_below rows columns (Some i) here
    go DownBack = back_below columns (rows * columns) (down columns (rows * columns) i) (down_below columns (rows * columns) (Some i))
    go Down = down_below columns (rows * columns) (Some i)
    go DownForth = forth_below rows columns (down columns (rows * columns) i) (down_below columns (rows * columns) (Some i))
