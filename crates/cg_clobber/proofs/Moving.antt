-- The stones with captures, by the words of the captures on the cell below and on the next one in the row.
use Rattle.std.proofs.Common.{◌≡◌, refl, ℕ, ◌<◌, ◌&&◌, true, inl, inr, Option, Some, None, length, ap, ◌∙◌, bit_or}
use Rattle.std.specs.Int.{bit_at}
use Rattle.cg_dyadic.proofs.Truth.{and-both, and-split}
use Rattle.cg_moves.specs.declared.player.Player.{Player}
use Rattle.cg_moves.specs.declared.player.Player.TheVariants.{Left, Right}
use Rattle.cg_moves.specs.Grid.{Grid}
use Rattle.cg_moves.specs.Words.{Marks}
use Rattle.cg_moves.proofs.ConnectedLemmas.{or-cases}
use Rattle.cg_pieces.specs.Moving.{AreMoving, is_behind}
use Rattle.cg_pieces.specs.Neighbours.{is_below, is_beside, is_next, is_piece_cell, may_move}
use Rattle.cg_pieces.proofs.FirstCells.{moving-by}
use Rattle.cg_pieces.proofs.GrowingSets.{or-left, or-parts, or-right}
use Rattle.cg_pieces.proofs.NeighbourSets.{piece-cell-below}
use Rattle.cg_pieces.proofs.OpenWords.{marks-test, test-marks}
use Rattle.cg_clobber.specs.declared.way.Way.{Way}
use Rattle.cg_clobber.specs.declared.way.Way.TheVariants.{Down, Forth}
use Rattle.cg_clobber.proofs.Cuts.{capture-may, next-down, next-forth, stones-are}
use Rattle.cg_clobber.specs.Moves.{captures, captures_onto, captures_that_way, has_stone, next_cell, stones}

-- a capture as the other player's stones stand for one
other-captures : (player : Player) (p : Grid) (k l : ℕ) → captures player p l k ≡ true
    → (opponent : Player) × (captures opponent p k l ≡ true)
other-captures Left p k l t =
    let both = and-split (has_stone p.cells l 120) (has_stone p.cells k 111) t in
    (Right, and-both (has_stone p.cells k 111) (has_stone p.cells l 120) both.1 both.0)
other-captures Right p k l t =
    let both = and-split (has_stone p.cells l 111) (has_stone p.cells k 120) t in
    (Left, and-both (has_stone p.cells k 120) (has_stone p.cells l 111) both.1 both.0)

module _ (p : Grid) (wide : 0 < p.columns) where
  -- a player who may move
  abbrev May : ℕ → Type 0
  May k = (player : Player) × (l : ℕ) × (may_move stones player p k l ≡ true)

  may-at : (player : Player) (way : Way) (k : ℕ) → captures_that_way player p way k ≡ true → May k
  may-at player way k t = go (next_cell way p k) refl t
    where
      go : (o : Option ℕ) → next_cell way p k ≡ o → captures_onto player p k o ≡ true → May k
      go None e c = absurd cc
      go (Some l) e c = (player, l, capture-may player p k l way wide e c)

  record Captured (player : Player) (k l : ℕ) : Type 0 where
    first : k < length p.cells
    second : l < length p.cells
    captures : captures player p k l ≡ true

  may-captures : (player : Player) (k l : ℕ) → may_move stones player p k l ≡ true → Captured player k l
  may-captures player k l t =
      let both = and-split (is_piece_cell stones p k && is_piece_cell stones p l) (is_next p.columns k l && captures player p k l) t in
      let cells = and-split (is_piece_cell stones p k) (is_piece_cell stones p l) both.0 in record {
        first = piece-cell-below stones stones-are p k cells.0;
        second = piece-cell-below stones stones-are p l cells.1;
        captures = (and-split (is_next p.columns k l) (captures player p k l) both.1).1;
      }

  module _ (x_down o_down x_forth o_forth : ℕ) (xs_down : Marks x_down (captures_that_way Left p Down))
      (os_down : Marks o_down (captures_that_way Right p Down)) (xs_forth : Marks x_forth (captures_that_way Left p Forth))
      (os_forth : Marks o_forth (captures_that_way Right p Forth)) where
    abbrev word : ℕ
    word = bit_or (bit_or x_down o_down) (bit_or x_forth o_forth)

    down-bit : (player : Player) (k : ℕ) → captures_that_way player p Down k ≡ true → bit_at (bit_or x_down o_down) k ≡ 1
    down-bit Left k t = or-left x_down o_down k (test-marks x_down (captures_that_way Left p Down) xs_down k t)
    down-bit Right k t = or-right x_down o_down k (test-marks o_down (captures_that_way Right p Down) os_down k t)

    forth-bit : (player : Player) (k : ℕ) → captures_that_way player p Forth k ≡ true → bit_at (bit_or x_forth o_forth) k ≡ 1
    forth-bit Left k t = or-left x_forth o_forth k (test-marks x_forth (captures_that_way Left p Forth) xs_forth k t)
    forth-bit Right k t = or-right x_forth o_forth k (test-marks o_forth (captures_that_way Right p Forth) os_forth k t)

    spot : (player : Player) (k l : ℕ) → is_behind p k l ≡ true → l < length p.cells → captures player p k l ≡ true → bit_at word k ≡ 1
    spot player k l b below t = elim (or-cases (is_below p.columns k l) (is_beside p.columns k l) b) [
      | inl x ↦ or-left (bit_or x_down o_down) (bit_or x_forth o_forth) k
          (down-bit player k (ap (captures_onto player p k) (next-down p k l below x) ∙ t))
      | inr x ↦ or-right (bit_or x_down o_down) (bit_or x_forth o_forth) k
          (forth-bit player k (ap (captures_onto player p k) (next-forth p k l wide x) ∙ t))
    ]

    pub stones-moving : AreMoving stones p word
    stones-moving = moving-by stones stones-are p word
        (λ k t. elim (or-parts (bit_or x_down o_down) (bit_or x_forth o_forth) k t) [
          | inl a ↦ elim (or-parts x_down o_down k a) [
            | inl x ↦ may-at Left Down k (marks-test x_down (captures_that_way Left p Down) xs_down k x)
            | inr x ↦ may-at Right Down k (marks-test o_down (captures_that_way Right p Down) os_down k x)
          ]
          | inr a ↦ elim (or-parts x_forth o_forth k a) [
            | inl x ↦ may-at Left Forth k (marks-test x_forth (captures_that_way Left p Forth) xs_forth k x)
            | inr x ↦ may-at Right Forth k (marks-test o_forth (captures_that_way Right p Forth) os_forth k x)
          ]
        ])
        (λ player k l b m. let c = may-captures player k l m in spot player k l b c.second c.captures)
        (λ player k l b m.
        let c = may-captures player l k m in
        let (opponent, t) = other-captures player p k l c.captures in
        spot opponent k l b c.first t)
