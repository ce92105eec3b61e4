-- Going over the cells with captures: from and onto the others no moves lead.
use Rattle.std.proofs.Common.{◌≡◌, refl, ℕ, ◌+◌, ◌-◌, ◌^◌, ◌<◌, inl, inr, false, if◌then◌else◌, Option}
use Rattle.std.proofs.Common.{Some, None, List, [], ◌∷◌, ◌++◌, length, map, ap, ◌∙◌, arith, bit_or, sym}
use Rattle.std.specs.Int.{bit_at}
use Rattle.std.proofs.lemmas.Nat.Bits.{bit_at-lt, bit_at_or, bit_at_ones}
use Rattle.cg_moves.specs.declared.player.Player.{Player}
use Rattle.cg_moves.specs.declared.player.Player.TheVariants.{Left, Right}
use Rattle.cg_moves.specs.Grid.{Grid, with_cells}
use Rattle.cg_moves.specs.Words.{IsWithBit}
use Rattle.cg_moves.proofs.SetBits.{AreListed, listed-more, listed-none, within-le}
use Rattle.cg_pieces.proofs.GrowingSets.{or-parts}
use Rattle.cg_pieces.proofs.OpenWords.{marks-test, unmarked}
use Rattle.cg_clobber.specs.declared.putting.CaptureWords.{CaptureWords}
use Rattle.cg_clobber.specs.declared.way.Way.TheVariants.{Up, Down, Back, Forth}
use Rattle.cg_clobber.specs.CaptureWords.{AreCaptureWords}
use Rattle.cg_clobber.specs.Moves.{captures_onto, captures_that_way, moves_onto, moves_that_way, next_cell, with_capture}
use Rattle.cg_clobber.specs.Pairs.{onward, paired, toward, toward_back}
use Rattle.cg_clobber.proofs.CaptureMarks.{captures-inside}

or-none : (a b i : ℕ) → bit_at (bit_or a b) i ≡ 0 → (bit_at a i ≡ 0) × (bit_at b i ≡ 0)
or-none a b i none =
    let h = bit_at_or a b i in
    let x = bit_at-lt a i in
    let y = bit_at-lt b i in
    (omega (arith, h, x, y, none), omega (arith, h, x, y, none))

none-onto : (player : Player) (p : Grid) (i : ℕ) (o : Option ℕ) → captures_onto player p i o ≡ false → moves_onto player p i o ≡ []
none-onto player p i None e = refl
none-onto player p i (Some j) e = ap (λ b. if b then with_capture player p i j ∷ [] else []) e

both-none : (xs ys : List (List ℕ)) → xs ≡ [] → ys ≡ [] → xs ++ ys ≡ []
both-none xs ys e f = ap (λ z. z ++ ys) e ∙ f

module _ (player : Player) (p : Grid) (words : CaptureWords) (are : AreCaptureWords player p words) where
  onward-none : (c : ℕ) → bit_at (bit_or words.down words.forth) c ≡ 0 → onward player p c ≡ []
  onward-none c e = go player down forth
    where
      off : (bit_at words.down c ≡ 0) × (bit_at words.forth c ≡ 0)
      off = or-none words.down words.forth c e

      down : moves_that_way player p c Down ≡ []
      down = none-onto player p c (next_cell Down p c) (unmarked words.down (captures_that_way player p Down) are.down c off.0)

      forth : moves_that_way player p c Forth ≡ []
      forth = none-onto player p c (next_cell Forth p c) (unmarked words.forth (captures_that_way player p Forth) are.forth c off.1)

      go : (q : Player) → moves_that_way q p c Down ≡ [] → moves_that_way q p c Forth ≡ [] → onward q p c ≡ []
      go Left d f = both-none _ _ d f
      go Right d f = both-none _ _ f d

  toward-none : (c : ℕ) → bit_at (bit_or words.from_below words.from_next) c ≡ 0 → toward player p c ≡ []
  toward-none c e =
      let off = or-none words.from_below words.from_next c e in
      both-none _ _ (none-onto player p (c + 1) (next_cell Back p (c + 1))
      (unmarked words.from_next (λ k. captures_that_way player p Back (k + 1)) are.from_next c off.1))
      (none-onto player p (c + p.columns) (next_cell Up p (c + p.columns))
      (unmarked words.from_below (λ k. captures_that_way player p Up (k + p.columns)) are.from_below c off.0))

  onward-inside : (c : ℕ) → bit_at (bit_or words.down words.forth) c ≡ 1 → c < length p.cells
  onward-inside c t = elim (or-parts words.down words.forth c t) [
    | inl x ↦ captures-inside player p c (next_cell Down p c) (marks-test words.down (captures_that_way player p Down) are.down c x)
    | inr x ↦ captures-inside player p c (next_cell Forth p c) (marks-test words.forth (captures_that_way player p Forth) are.forth c x)
  ]

  toward-inside : (c : ℕ) → bit_at (bit_or words.from_below words.from_next) c ≡ 1 → c < length p.cells
  toward-inside c t = elim (or-parts words.from_below words.from_next c t) [
    | inl x ↦ (let l = captures-inside player p (c + p.columns) (next_cell Up p (c + p.columns))
        (marks-test words.from_below (λ k. captures_that_way player p Up (k + p.columns)) are.from_below c x) in omega (arith, l))
    | inr x ↦ (let l = captures-inside player p (c + 1) (next_cell Back p (c + 1))
        (marks-test words.from_next (λ k. captures_that_way player p Back (k + 1)) are.from_next c x) in omega (arith, l))
  ]

  fits : (word : ℕ) → ((c : ℕ) → bit_at word c ≡ 1 → c < length p.cells) → word < 2 ^ 64
  fits word low =
      let few = are.few in
      let most = within-le word (2 ^ 64 - 1) (λ c t. bit_at_ones 64 c (let l = low c t in omega (arith, l, few))) in
      omega (arith, most)

  abbrev Begins : (ℕ → List (List ℕ)) → (ℕ → ℕ) → ℕ → List Grid → Type 0
  Begins moves place left boards =
      AreListed (with_cells p) moves place (length p.cells) (λ k. k < length p.cells) left boards boards

  pub onward_begun : (boards : List Grid) → Begins (onward player p) (λ k. k) (bit_or words.down words.forth) boards
  onward_begun boards = listed-none _ _ _ _ _ _ boards boards refl (fits _ onward-inside) onward-inside onward-none

  pub toward_begun : (boards : List Grid)
      → Begins (toward_back player p) (λ k. length p.cells - 1 - k) (bit_or words.from_below words.from_next) boards
  toward_begun boards =
      listed-none _ _ _ _ _ _ boards boards refl (fits _ toward-inside) toward-inside (λ j. toward-none (length p.cells - 1 - j))

  pub paired_begun : (boards : List Grid) → Begins (paired player p) (λ k. k)
      (bit_or (bit_or words.down words.forth) (bit_or words.from_below words.from_next)) boards
  paired_begun boards =
      let one = bit_or words.down words.forth in
      let other = bit_or words.from_below words.from_next in
      let inside : (c : ℕ) → bit_at (bit_or one other) c ≡ 1 → c < length p.cells = λ c t.
      elim (or-parts one other c t) [ inl x ↦ onward-inside c x | inr x ↦ toward-inside c x ] in
      listed-none _ _ _ _ _ _ boards boards refl (fits _ inside) inside
      (λ c e. let off = or-none one other c e in both-none _ _ (onward-none c off.0) (toward-none c off.1))

pub toward_more : (player : Player) (p : Grid) (left new cell : ℕ) (before now more : List Grid) → bit_at left cell ≡ 1
    → IsWithBit left new cell 0 → ((k : ℕ) → cell < k → bit_at left k ≡ 0) → new < 2 ^ 64
    → AreListed (with_cells p) (toward_back player p) (λ k. length p.cells - 1 - k) (length p.cells) (λ k. k < length p.cells) left before now
    → more ≡ now ++ map (with_cells p) (toward player p cell)
    → AreListed (with_cells p) (toward_back player p) (λ k. length p.cells - 1 - k) (length p.cells) (λ k. k < length p.cells) new before more
toward_more player p left new cell before now more here is past low old put =
    let inside = old.within cell here in
    let at : length p.cells - 1 - (length p.cells - 1 - cell) ≡ cell = omega (arith, inside) in
    listed-more _ _ _ _ _ left new (length p.cells - 1 - cell) cell before now more (omega (arith, inside)) at here is
    (λ j l. past (length p.cells - 1 - j) (omega (arith, l, inside))) (λ j other l e. other (omega (arith, e, l, inside))) low old
    (put ∙ ap (λ z. now ++ map (with_cells p) (toward player p z)) (sym at))
