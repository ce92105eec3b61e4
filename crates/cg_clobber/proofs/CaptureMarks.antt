-- Captures in words.
use Rattle.std.proofs.Common.{◌≡◌, refl, ℕ, ◌+◌, ◌-◌, ◌*◌, ◌%◌, ◌^◌, ◌<◌, ◌≤◌, ◌==◌, ◌&&◌, not, nat_lt, Bool}
use Rattle.std.proofs.Common.{true, false, if◌then◌else◌, Option, Some, None, List, length, ◌∙◌, arith, bit_and}
use Rattle.std.specs.Prelude.{codes}
use Rattle.std.specs.Int.{bit_at}
use Rattle.std.specs.Str.{bytes_eq}
use Rattle.std.proofs.lemmas.Bool.{eqb-true, eq-eqb, lt-ltb, ltb-true}
use Rattle.std.proofs.lemmas.Bool.Decides.{leb_tells, nat_tests}
use Rattle.std.proofs.lemmas.List.{get_or_past}
use Rattle.std.proofs.lemmas.Nat.{and_le_l}
use Rattle.cg_moves.specs.declared.player.Player.{Player}
use Rattle.cg_moves.specs.declared.player.Player.TheVariants.{Left, Right}
use Rattle.cg_moves.specs.Grid.{Grid, is_in_rows}
use Rattle.cg_moves.specs.Words.{Marks}
use Rattle.cg_moves.proofs.Same.{and-true}
use Rattle.cg_moves.proofs.WordBits.{marks_both, marks_moved_on, marks_same, marks_without, row_end}
use Rattle.cg_clobber.specs.declared.way.Way.TheVariants.{Up, Down, Back, Forth}
use Rattle.cg_clobber.specs.Moves.{captures_onto, captures_that_way, clobber, has_stone, other, own}

-- ---- what boards of the game have

pub wide : (p : Grid) → clobber.has p ≡ true → 0 < p.columns
wide p has =
    let a = and-true (is_in_rows p) (bytes_eq p.symbols (codes ".xo")) has in
    ltb-true 0 p.columns (and-true (nat_lt 0 p.columns) (length p.cells == p.rows * p.columns) a.0).0

pub bit_and-below : (a b : ℕ) → a < 2 ^ 64 → bit_and a b < 2 ^ 64
bit_and-below a b l = let k = and_le_l a b in omega arith

-- ---- a stone stands inside

stone-inside : (cells : List ℕ) (i s : ℕ) → 0 < s → has_stone cells i s ≡ true → i < length cells
stone-inside cells i s some e = grind (arith, nat_tests, leb_tells, eqb-true, get_or_past)

own-some : (player : Player) → 0 < own player
own-some Left = omega arith
own-some Right = omega arith

pub own-stone-inside : (player : Player) (p : Grid) (i : ℕ) → has_stone p.cells i (own player) ≡ true → i < length p.cells
own-stone-inside player p i e = stone-inside p.cells i (own player) (own-some player) e

other-some : (player : Player) → 0 < other player
other-some Left = omega arith
other-some Right = omega arith

pub other-stone-inside : (player : Player) (p : Grid) (i : ℕ) → has_stone p.cells i (other player) ≡ true → i < length p.cells
other-stone-inside player p i e = stone-inside p.cells i (other player) (other-some player) e

-- a stone that captures stands inside
pub captures-inside : (player : Player) (p : Grid) (i : ℕ) (o : Option ℕ) → captures_onto player p i o ≡ true → i < length p.cells
captures-inside player p i None e = cc
captures-inside player p i (Some j) e =
    own-stone-inside player p i (and-true (has_stone p.cells i (own player)) (has_stone p.cells j (other player)) e).0

-- ---- the four ways

module _ (player : Player) (p : Grid) where
  abbrev stone_at : ℕ → Bool
  stone_at i = has_stone p.cells i (own player)

  abbrev other_at : ℕ → Bool
  other_at i = has_stone p.cells i (other player)

  -- up: there is a row above, and an opposing stone there
  up-test : (i : ℕ) (b s : Bool) → (stone_at i ≡ true → s ≡ true) → (stone_at i && (s && (not b && other_at (i - p.columns))))
      ≡ captures_onto player p i (if b then None else Some (i - p.columns))
  up-test i true s h = grind (arith, nat_tests)
  up-test i false s h = grind (arith, nat_tests)

  pub up_marks : (stones others moved : ℕ) → length p.cells ≤ 64 → moved < 2 ^ 64 → Marks stones stone_at
      → Marks others other_at → ((i : ℕ) → i < p.columns → bit_at moved i ≡ 0)
      → ((i : ℕ) → p.columns ≤ i → i < 64 → bit_at moved i ≡ bit_at others (i - p.columns))
      → Marks (bit_and stones moved) (captures_that_way player p Up)
  up_marks stones others moved few fits are opposing first rest =
      marks_same (bit_and stones moved)
      (λ i. stone_at i && (nat_lt i 64 && (not (nat_lt i p.columns) && other_at (i - p.columns))))
      (captures_that_way player p Up)
      (λ i. up-test i (nat_lt i p.columns) (nat_lt i 64) (λ e. lt-ltb i 64 (let l = stone-inside p.cells i (own player) (own-some player) e in omega arith)))
      (marks_both stones moved stone_at (λ i. nat_lt i 64 && (not (nat_lt i p.columns) && other_at (i - p.columns))) are
      (marks_moved_on others p.columns moved other_at fits opposing first rest))

  -- down: an opposing stone below
  down-test : (i : ℕ) (b : Bool) → (other_at (i + p.columns) ≡ true → b ≡ true)
      → (stone_at i && other_at (i + p.columns)) ≡ captures_onto player p i (if b then Some (i + p.columns) else None)
  down-test i true h = refl
  down-test i false h = grind (arith, nat_tests)

  pub down_marks : (stones others moved : ℕ) → Marks stones stone_at → Marks others other_at
      → ((i : ℕ) → bit_at moved i ≡ bit_at others (i + p.columns))
      → Marks (bit_and stones moved) (captures_that_way player p Down)
  down_marks stones others moved are opposing rest =
      marks_same (bit_and stones moved) (λ i. stone_at i && other_at (i + p.columns)) (captures_that_way player p Down)
      (λ i. down-test i (nat_lt (i + p.columns) (length p.cells)) (λ e. lt-ltb (i + p.columns) (length p.cells) (stone-inside p.cells (i + p.columns)
      (other player) (other-some player) e)))
      (marks_both stones moved stone_at (λ i. other_at (i + p.columns)) are (λ i. rest i ∙ opposing (i + p.columns)))

  -- back: not in the first column, and an opposing stone on the cell before
  back-test : (i : ℕ) (x s l b : Bool) → (stone_at i ≡ true → s ≡ true) → (stone_at i ≡ true → l ≡ true) → (x ≡ false → b ≡ false)
      → ((stone_at i && (s && (not b && other_at (i - 1)))) && not (l && x))
      ≡ captures_onto player p i (if x then None else Some (i - 1))
  back-test i true s l b hs hl hb = grind (arith, nat_tests)
  back-test i false s l b hs hl hb = grind (arith, nat_tests)

  pub back_marks : (stones others moved first : ℕ) → length p.cells ≤ 64 → stones < 2 ^ 64 → moved < 2 ^ 64
      → first < 2 ^ 64 → Marks stones stone_at → Marks others other_at
      → Marks first (λ i. nat_lt i (length p.cells) && (i % p.columns == 0))
      → ((i : ℕ) → i < 1 → bit_at moved i ≡ 0) → ((i : ℕ) → 1 ≤ i → i < 64 → bit_at moved i ≡ bit_at others (i - 1))
      → bit_and stones moved < 2 ^ 64
      → Marks (bit_and (bit_and stones moved) (18446744073709551615 - first)) (captures_that_way player p Back)
  back_marks stones others moved first few fits below under are opposing column start rest both =
      marks_same (bit_and (bit_and stones moved) (18446744073709551615 - first))
      (λ i. (stone_at i && (nat_lt i 64 && (not (nat_lt i 1) && other_at (i - 1)))) && not (nat_lt i (length p.cells) && (i % p.columns == 0)))
      (captures_that_way player p Back)
      (λ i. back-test i (i % p.columns == 0) (nat_lt i 64) (nat_lt i (length p.cells)) (nat_lt i 1)
      (λ e. lt-ltb i 64 (let l = inside i e in omega arith)) (λ e. lt-ltb i (length p.cells) (inside i e)) (later i))
      (marks_without (bit_and stones moved) first
      (λ i. stone_at i && (nat_lt i 64 && (not (nat_lt i 1) && other_at (i - 1))))
      (λ i. nat_lt i (length p.cells) && (i % p.columns == 0))
      (marks_both stones moved stone_at (λ i. nat_lt i 64 && (not (nat_lt i 1) && other_at (i - 1))) are
      (marks_moved_on others 1 moved other_at below opposing start rest)) column both under)
    where
      inside : (i : ℕ) → stone_at i ≡ true → i < length p.cells
      inside i e = stone-inside p.cells i (own player) (own-some player) e

      zero_first : (c : ℕ) → 0 % c ≡ 0
      zero_first c = omega arith

      later : (i : ℕ) → (i % p.columns == 0) ≡ false → nat_lt i 1 ≡ false
      later i e = grind (arith, nat_tests, leb_tells, eq-eqb, zero_first)

  -- forth: not in the last column, and an opposing stone on the next cell
  forth-test : (i : ℕ) (s x l : Bool) → (other_at (i + 1) ≡ true → s ≡ true) → x ≡ not l
      → (stone_at i && (other_at (i + 1) && not (s && x)))
      ≡ captures_onto player p i (if l then Some (i + 1) else None)
  forth-test i s x true h e = grind (arith, nat_tests)
  forth-test i s x false h e = grind (arith, nat_tests)

  pub forth_marks : (stones others moved first : ℕ) → 0 < p.columns → others < 2 ^ 64 → first < 2 ^ 64
      → Marks stones stone_at → Marks others other_at
      → Marks first (λ i. nat_lt i (length p.cells) && (i % p.columns == 0))
      → ((i : ℕ) → bit_at moved i ≡ bit_at (bit_and others (18446744073709551615 - first)) (i + 1))
      → Marks (bit_and stones moved) (captures_that_way player p Forth)
  forth_marks stones others moved first some fits under are opposing column rest =
      let inner = marks_without others first other_at (λ i. nat_lt i (length p.cells) && (i % p.columns == 0)) opposing column fits under in
      marks_same (bit_and stones moved)
      (λ i. stone_at i && (other_at (i + 1) && not (nat_lt (i + 1) (length p.cells) && ((i + 1) % p.columns == 0))))
      (captures_that_way player p Forth)
      (λ i. forth-test i (nat_lt (i + 1) (length p.cells)) ((i + 1) % p.columns == 0) (nat_lt (i % p.columns + 1) p.columns)
      (λ e. lt-ltb (i + 1) (length p.cells) (stone-inside p.cells (i + 1) (other player) (other-some player) e))
      (row_end p.columns i (omega (arith, some))))
      (marks_both stones moved stone_at
      (λ i. other_at (i + 1) && not (nat_lt (i + 1) (length p.cells) && ((i + 1) % p.columns == 0))) are
      (λ i. rest i ∙ inner (i + 1)))
