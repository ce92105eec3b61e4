-- Clobber cuts boards into joined sets of stones. It stands here since the rules rest on it.
use Rattle.std.proofs.Common.{◌≡◌, refl, ℕ, ◌+◌, ◌-◌, ◌*◌, ◌%◌, ◌<◌, ◌≤◌, ◌==◌, ◌&&◌, ◌||◌, inl, inr, Bool, true, false, IsTrue, nat_lt}
use Rattle.std.proofs.Common.{if◌then◌else◌, Option, Some, None, List, [], ◌∷◌, length, slice_index, ap, sym, ◌∙◌, subst, arith}
use Rattle.std.specs.Prelude.{codes}
use Rattle.std.specs.Str.{bytes_eq}
use Rattle.std.proofs.lemmas.Bool.{eqb-true, eq-eqb, lt-ltb, ltb-true}
use Rattle.cg_dyadic.proofs.Truth.{and-both, and-split, differ, false-from}
use Rattle.cg_moves.specs.declared.player.Player.{Player}
use Rattle.cg_moves.specs.declared.player.Player.TheVariants.{Left, Right}
use Rattle.cg_moves.specs.Grid.{Grid, is_in_rows}
use Rattle.cg_moves.specs.Rules.{In}
use Rattle.cg_moves.proofs.ConnectedLemmas.{or-cases, or-first, or-second}
use Rattle.cg_moves.proofs.Members.{in_flat_mapped}
use Rattle.cg_moves.proofs.ForGames.{at-listed, board-wide, choice-in}
use Rattle.cg_pieces.specs.Neighbours.{CutsNeighbours, IsNeighbours, is_below, is_beside, is_next, may_move}
use Rattle.cg_pieces.proofs.Lines.{below-is, beside-inside, beside-is, before-beside, is-below, is-beside, second-column}
use Rattle.cg_pieces.proofs.NeighbourSets.{piece-cell-below}
use Rattle.cg_clobber.specs.declared.way.Way.{Way}
use Rattle.cg_clobber.specs.declared.way.Way.TheVariants.{Up, Down, Back, Forth}
use Rattle.cg_clobber.proofs.Capture.{is_capture}
use Rattle.cg_clobber.specs.Moves.{captures, clobber, has_stone, is_stone, moves_at, moves_onto, moves_that_way, next_cell, other, own, stones, with_capture}

pub stones-are : IsNeighbours stones
stones-are = record { blank = refl; past = refl }

pub own-is : (player : Player) (c : ℕ) → c ≡ own player → is_stone c ≡ true
own-is Left c e = ap is_stone e
own-is Right c e = ap is_stone e

pub other-is : (player : Player) (c : ℕ) → c ≡ other player → is_stone c ≡ true
other-is Left c e = ap is_stone e
other-is Right c e = ap is_stone e

-- ---- the next cell is adjacent, and each adjacent cell is the next one some way

pub unless-none : (b : Bool) (x j : ℕ) → (if b then None else Some x) ≡ Some j → (b ≡ false) × (x ≡ j)
unless-none true x j e = absurd (cc)
unless-none false x j e = (refl, cc)

pub if-some : (b : Bool) (x j : ℕ) → (if b then Some x else None) ≡ Some j → (b ≡ true) × (x ≡ j)
if-some true x j e = (refl, cc)
if-some false x j e = absurd (cc)

not_less : (a b : ℕ) → nat_lt a b ≡ false → b ≤ a
not_less a b e = let n : ¬ (a < b) = λ h. differ (nat_lt a b) (lt-ltb a b h) e in omega (arith, n)

module _ (p : Grid) (k l : ℕ) where
  abbrev w : ℕ
  w = p.columns

  by-below : IsTrue (is_below w k l) → is_next w k l ≡ true
  by-below h = or-first (is_below w k l || is_below w l k) (is_beside w k l || is_beside w l k)
      (or-first (is_below w k l) (is_below w l k) h)

  by-above : IsTrue (is_below w l k) → is_next w k l ≡ true
  by-above h = or-first (is_below w k l || is_below w l k) (is_beside w k l || is_beside w l k)
      (or-second (is_below w k l) (is_below w l k) h)

  by-forth : IsTrue (is_beside w k l) → is_next w k l ≡ true
  by-forth h = or-second (is_below w k l || is_below w l k) (is_beside w k l || is_beside w l k)
      (or-first (is_beside w k l) (is_beside w l k) h)

  by-back : IsTrue (is_beside w l k) → is_next w k l ≡ true
  by-back h = or-second (is_below w k l || is_below w l k) (is_beside w k l || is_beside w l k)
      (or-second (is_beside w k l) (is_beside w l k) h)

  way-next : (way : Way) → 0 < w → next_cell way p k ≡ Some l → is_next w k l ≡ true
  way-next Up wide e =
      let h = unless-none (nat_lt k w) (k - w) l e in
      let low = not_less k w h.0 in
      let f : l + w ≡ k = (let g = h.1 in omega (arith, g, low)) in
      let P : ℕ → Type 0 = λ z. IsTrue (is_below w l z) in
      by-above (subst P f (is-below w l wide))
  way-next Down wide e =
      let h = if-some (nat_lt (k + w) (length p.cells)) (k + w) l e in
      let P : ℕ → Type 0 = λ z. IsTrue (is_below w k z) in
      by-below (subst P h.1 (is-below w k wide))
  way-next Back wide e =
      let h = unless-none (k % w == 0) (k - 1) l e in
      let P : ℕ → Type 0 = λ z. IsTrue (is_beside w z k) in
      by-back (subst P h.1 (before-beside w k wide (λ z. differ (k % w == 0) (eq-eqb (k % w) 0 z) h.0)))
  way-next Forth wide e =
      let h = if-some (nat_lt (k % w + 1) w) (k + 1) l e in
      let P : ℕ → Type 0 = λ z. IsTrue (is_beside w k z) in
      by-forth (subst P h.1 (is-beside w k (ltb-true (k % w + 1) w h.0)))

  pub next-down : l < length p.cells → is_below w k l ≡ true → next_cell Down p k ≡ Some l
  next-down below a =
      let e = below-is w k l a in
      let t = lt-ltb (k + w) (length p.cells) (omega (arith, e, below)) in
      ap (λ b. if b then Some (k + w) else None) t ∙ ap Some (sym e)

  pub next-forth : 0 < w → is_beside w k l ≡ true → next_cell Forth p k ≡ Some l
  next-forth wide a =
      let e = beside-is w k l a in
      let t = lt-ltb (k % w + 1) w (beside-inside w k l wide a) in
      ap (λ b. if b then Some (k + 1) else None) t ∙ ap Some (sym e)

  -- the way to an adjacent cell
  record Toward : Type 0 where
    way : Way
    listed : In way (Up ∷ Down ∷ Back ∷ Forth ∷ [])
    is : next_cell way p k ≡ Some l

  next-way : 0 < w → l < length p.cells → is_next w k l ≡ true → Toward
  next-way wide below h =
      elim (or-cases (is_below w k l || is_below w l k) (is_beside w k l || is_beside w l k) h) [
        | inl x ↦ elim (or-cases (is_below w k l) (is_below w l k) x) [
          | inl a ↦ record { way = Down; listed = inr (inl refl); is = next-down below a }
          | inr a ↦
              let e = below-is w l k a in
              let f = false-from (nat_lt k w) (λ t. let g = ltb-true k w t in omega (arith, e, g)) in
              let d : k - w ≡ l = omega (arith, e) in record {
                way = Up;
                listed = inl refl;
                is = ap (λ b. if b then None else Some (k - w)) f ∙ ap Some d;
              }
        ]
        | inr y ↦ elim (or-cases (is_beside w k l) (is_beside w l k) y) [
          | inl a ↦ record { way = Forth; listed = inr (inr (inr (inl refl))); is = next-forth wide a }
          | inr a ↦
              let e = beside-is w l k a in
              let c = second-column w l k a in
              let f = false-from (k % w == 0) (λ t. let g = eqb-true (k % w) 0 t in omega (arith, c, g)) in
              let d : k - 1 ≡ l = omega (arith, e) in record {
                way = Back;
                listed = inr (inr (inl refl));
                is = ap (λ b. if b then None else Some (k - 1)) f ∙ ap Some d;
              }
        ]
      ]

-- a capture on the next cell some way is a move of the player
pub capture-may : (player : Player) (p : Grid) (k l : ℕ) (way : Way) → 0 < p.columns → next_cell way p k ≡ Some l
    → captures player p k l ≡ true → may_move stones player p k l ≡ true
capture-may player p k l way wide n t =
    let both = and-split (has_stone p.cells k (own player)) (has_stone p.cells l (other player)) t in
    let x = own-is player (slice_index p.cells k) (eqb-true (slice_index p.cells k) (own player) both.0) in
    let y = other-is player (slice_index p.cells l) (eqb-true (slice_index p.cells l) (other player) both.1) in
    and-both (is_stone (slice_index p.cells k) && is_stone (slice_index p.cells l)) (is_next p.columns k l && captures player p k l)
    (and-both (is_stone (slice_index p.cells k)) (is_stone (slice_index p.cells l)) x y)
    (and-both (is_next p.columns k l) (captures player p k l) (way-next p k l way wide n) t)

pub clobber_cuts : CutsNeighbours stones clobber
clobber_cuts = record {
  cut = refl;
  measure = λ p. refl;
  wide = board-wide (codes ".xo");
  has = λ p q has symbols wide size.
      let a = and-split (is_in_rows p) (bytes_eq p.symbols (codes ".xo")) has in
      let P : List ℕ → Type 0 = λ z. IsTrue (bytes_eq z (codes ".xo")) in
      and-both (is_in_rows q) (bytes_eq q.symbols (codes ".xo"))
      (and-both (nat_lt 0 q.columns) (length q.cells == q.rows * q.columns) (lt-ltb 0 q.columns wide)
      (eq-eqb (length q.cells) (q.rows * q.columns) size))
      (subst P (sym symbols) a.1);
  legal_move = λ player p cells has m.
      let (i, way, j, n, f, e) = is_capture player p cells m in record {
        one = i;
        other = j;
        legal = capture-may player p i j way (board-wide (codes ".xo") p has) n f;
        is = e;
      };
  move = λ player p k l has t.
      let both = and-split (is_stone (slice_index p.cells k) && is_stone (slice_index p.cells l)) (is_next p.columns k l && captures player p k l) t in
      let cells = and-split (is_stone (slice_index p.cells k)) (is_stone (slice_index p.cells l)) both.0 in
      let rest = and-split (is_next p.columns k l) (captures player p k l) both.1 in
      let w = next-way p k l (board-wide (codes ".xo") p has) (piece-cell-below stones stones-are p l cells.1) rest.0 in
      let P : Option ℕ → Type 0 = λ o. In (with_capture player p k l) (moves_onto player p k o) in
      at-listed (moves_at player p) (length p.cells) (with_capture player p k l) k
      (piece-cell-below stones stones-are p k cells.0)
      (in_flat_mapped (moves_that_way player p k) (with_capture player p k l) w.way (Up ∷ Down ∷ Back ∷ Forth ∷ []) w.listed
      (subst P (sym w.is) (choice-in (captures player p k l) (with_capture player p k l) rest.1)));
}
