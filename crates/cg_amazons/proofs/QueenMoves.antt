-- What queens and arrows make of the cells, by their words.
use Rattle.std.proofs.Common.{◌≡◌, ◌≢◌, ◌↔◌, true, false, ℕ, ◌*◌, ◌<◌, ◌==◌, inl, inr, List, length}
use Rattle.std.proofs.Common.{ap, sym, ◌∙◌, arith, get_or-set_other, get_or-set_same, length-set}
use Rattle.std.specs.Prelude.{if◌then◌else◌, slice_index, slice_set}
use Rattle.std.specs.Int.{bit_at}
use Rattle.std.proofs.lemmas.Bool.{eq-eqb, eqb-true}
use Rattle.std.proofs.lemmas.Bool.Decides.{eqb_tells}
use Rattle.cg_moves.specs.Grid.{Grid}
use Rattle.cg_moves.specs.Words.{IsWithBit, Marks}
use Rattle.cg_amazons.specs.Amazons.{Reaches, blocked, empty, is_empty, with_queen}
use Rattle.cg_amazons.proofs.RayLaws.{within}
use Rattle.cg_amazons.specs.MoveParts.{IsMoveBelow, IsQueenMove, IsShot}
use Rattle.cg_amazons.proofs.AmazonsLaw.{reach_within}
use Rattle.cg_amazons.specs.Rays.{AreQueenWords, cells_of}
use Rattle.cg_amazons.specs.Taking.{AnyMarked, Takes}
use Rattle.cg_amazons.specs.declared.queens.QueenWords.{QueenWords}
use Rattle.cg_amazons.proofs.CellBits.{mark_has, mark_is}
use Rattle.cg_amazons.proofs.RayLines.{free_has, free_is, long, reaches_same}
use Rattle.cg_amazons.proofs.Taken.{takes_same}

-- ---- shots

pub shots_taken : (p : Grid) (columns : ℕ) (cells : List ℕ) (free targets n from : ℕ) (old new : List Grid)
    → length cells ≡ n → Marks free (is_empty cells)
    → ((to : ℕ) → (bit_at targets to ≡ 1) ↔ Reaches columns (cells_of free n) from to)
    → Takes p old new (AnyMarked targets (λ place after. after ≡ slice_set cells place blocked) (length cells))
    → Takes p old new (IsShot columns cells from)
shots_taken p columns cells free targets n from old new size are reach t =
    takes_same p old new (AnyMarked targets (λ place after. after ≡ slice_set cells place blocked) (length cells))
    (IsShot columns cells from)
    (λ z k. record { target = k.place; shot = there k.place ((reach k.place).0 k.is.0); written = k.is.1 })
    (λ z s. record {
      place = s.target;
      below = reach_within columns cells from s.target s.shot;
      is = ((reach s.target).1 (back s.target s.shot), s.written);
    }) t
  where
    long-of : length (cells_of free n) ≡ length cells
    long-of = long free n ∙ sym size

    there : (to : ℕ) → Reaches columns (cells_of free n) from to → Reaches columns cells from to
    there to = reaches_same columns (cells_of free n) cells from to long-of
        (λ i e. mark_is free (is_empty cells) i are (free_is free n i e).1)

    back : (to : ℕ) → Reaches columns cells from to → Reaches columns (cells_of free n) from to
    back to = reaches_same columns cells (cells_of free n) from to (sym long-of)
        (λ i e. free_has free n i (let l = within cells i e in omega arith) (mark_has free (is_empty cells) i are e))

-- the empty cells after a queen's move
pub free_moved : (cells : List ℕ) (free left after from to q : ℕ) → from < length cells → to < length cells → q ≢ empty
    → Marks free (is_empty cells) → IsWithBit free left from 1 → IsWithBit left after to 0
    → Marks after (is_empty (with_queen cells from to q))
free_moved cells free left after from to q inside there other are first second i =
    second i ∙ elim (eqb_tells i to) [
      | inl h ↦ (let here : is_empty (with_queen cells from to q) i ≡ false = ap (is_empty (with_queen cells from to q)) h.1
          ∙ ap (λ s. s == empty) (get_or-set_same (slice_set cells from empty) to q 0 (let k = length-set cells from empty in omega arith))
          ∙ not_empty in
          ap (λ t. if t then 0 else bit_at left i) h.0 ∙ ap (λ t. if t then 1 else 0) (sym here))
      | inr h ↦ ap (λ t. if t then 0 else bit_at left i) h.0 ∙ first i
          ∙ elim (eqb_tells i from) [
            | inl k ↦ (let here : is_empty (with_queen cells from to q) i ≡ true = ap (λ s. s == empty)
                (get_or-set_other (slice_set cells from empty) to i q 0 h.1
                ∙ ap (slice_index (slice_set cells from empty)) k.1 ∙ get_or-set_same cells from empty 0 inside) in
                ap (λ t. if t then 1 else bit_at free i) k.0 ∙ ap (λ t. if t then 1 else 0) (sym here))
            | inr k ↦ (let same : is_empty (with_queen cells from to q) i ≡ is_empty cells i = ap (λ s. s == empty)
                (get_or-set_other (slice_set cells from empty) to i q 0 h.1 ∙ get_or-set_other cells from i empty 0 k.1) in
                ap (λ t. if t then 1 else bit_at free i) k.0 ∙ are i ∙ ap (λ t. if t then 1 else 0) (sym same))
          ]
    ]
  where
    not_empty : (q == empty) ≡ false
    not_empty = elim (eqb_tells q empty) [ inl h ↦ absurd (other h.1) | inr h ↦ h.0 ]

-- ---- one queen, and all

pub queen_taken : (p : Grid) (cells : List ℕ) (w : QueenWords) (places from : ℕ) (old new : List Grid) → AreQueenWords cells w
    → ((to : ℕ) → (bit_at places to ≡ 1) ↔ Reaches w.shape.columns (cells_of w.free (w.shape.rows * w.shape.columns)) from to)
    → Takes p old new (AnyMarked places
    (λ place. IsShot w.shape.columns (with_queen cells from place w.queen) place) (length cells))
    → Takes p old new (IsQueenMove w.shape.columns w.queen cells from)
queen_taken p cells w places from old new are reach t =
    takes_same p old new
    (AnyMarked places (λ place. IsShot w.shape.columns (with_queen cells from place w.queen) place) (length cells))
    (IsQueenMove w.shape.columns w.queen cells from)
    (λ z k. record { to = k.place; moved = there k.place ((reach k.place).0 k.is.0); shot = k.is.1 })
    (λ z s. record {
      place = s.to;
      below = reach_within w.shape.columns cells from s.to s.moved;
      is = ((reach s.to).1 (back s.to s.moved), s.shot);
    }) t
  where
    n : ℕ
    n = w.shape.rows * w.shape.columns

    long-of : length (cells_of w.free (w.shape.rows * w.shape.columns)) ≡ length cells
    long-of = long w.free (w.shape.rows * w.shape.columns) ∙ sym are.size

    there : (to : ℕ) → Reaches w.shape.columns (cells_of w.free (w.shape.rows * w.shape.columns)) from to
        → Reaches w.shape.columns cells from to
    there to = reaches_same w.shape.columns (cells_of w.free (w.shape.rows * w.shape.columns)) cells from to long-of
        (λ i e. mark_is w.free (is_empty cells) i are.free (free_is w.free (w.shape.rows * w.shape.columns) i e).1)

    below : (i : ℕ) → is_empty cells i ≡ true → i < w.shape.rows * w.shape.columns
    below i e = let l = within cells i e in let k = are.size in omega arith

    back : (to : ℕ) → Reaches w.shape.columns cells from to
        → Reaches w.shape.columns (cells_of w.free (w.shape.rows * w.shape.columns)) from to
    back to = reaches_same w.shape.columns cells (cells_of w.free (w.shape.rows * w.shape.columns)) from to (sym long-of)
        (λ i e. free_has w.free (w.shape.rows * w.shape.columns) i (below i e) (mark_has w.free (is_empty cells) i are.free e))

pub all_queens_taken : (p : Grid) (cells : List ℕ) (w : QueenWords) (old new : List Grid) → AreQueenWords cells w
    → Takes p old new (AnyMarked w.queens (IsQueenMove w.shape.columns w.queen cells) (length cells))
    → Takes p old new (IsMoveBelow w.shape.columns w.queen cells (length cells))
all_queens_taken p cells w old new are t =
    takes_same p old new (AnyMarked w.queens (IsQueenMove w.shape.columns w.queen cells) (length cells))
    (IsMoveBelow w.shape.columns w.queen cells (length cells))
    (λ z k. record {
      from = k.place;
      below = k.below;
      own = eqb-true (slice_index cells k.place) w.queen (mark_is w.queens (λ i. slice_index cells i == w.queen) k.place are.queens k.is.0);
      moves = k.is.1;
    })
    (λ z m. record {
      place = m.from;
      below = m.below;
      is = (
        mark_has w.queens (λ i. slice_index cells i == w.queen) m.from are.queens
            (eq-eqb (slice_index cells m.from) w.queen m.own),
        m.moves,
      );
    }) t
