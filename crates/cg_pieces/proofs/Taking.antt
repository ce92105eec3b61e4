-- The pieces of the sets that are taken already, from the first cell on.
use Rattle.std.proofs.Common.{◌≡◌, ◌≢◌, ◌↔◌, refl, ℕ, zero, suc, ◌+◌, ◌-◌, ◌*◌, ◌%◌, ◌<◌, ◌≤◌, ◌^◌, ◌==◌}
use Rattle.std.proofs.Common.{◌&&◌, nat_lt, sym, inl, inr, List, [], rules, ◌++◌, filter, length, map, ap, ◌∙◌, arith, bit_and}
use Rattle.std.specs.Int.{bit_at}
use Rattle.std.specs.Int.Count.{count_trailing_zeros}
use Rattle.std.proofs.lemmas.Bool.Decides.{leb_tells}
use Rattle.std.proofs.lemmas.Nat.{and_le_l}
use Rattle.cg_moves.specs.Grid.{Grid, IsGrid, IsLike}
use Rattle.cg_moves.specs.Rising.{counted}
use Rattle.cg_moves.specs.Words.{Marks}
use Rattle.cg_pieces.specs.declared.field.Field.{Field}
use Rattle.cg_pieces.specs.Boxes.{cropped}
use Rattle.cg_pieces.specs.Cells.Linked.{here}
use Rattle.cg_pieces.specs.Moving.{AreMoving, piece_at}
use Rattle.cg_pieces.specs.Neighbours.{IsNeighbours, Neighbours, are_joined, is_first, is_piece_cell}
use Rattle.cg_pieces.specs.Words.{AreLeft, IsFieldOf, IsTaken, JoinedIn}
use Rattle.cg_pieces.proofs.FirstCells.{none-more, one-more}
use Rattle.cg_pieces.proofs.GrowingSets.{and-parts, bit-below, not-zero, other_bits}
use Rattle.cg_pieces.proofs.LastBits.{first-first, first-one}
use Rattle.cg_pieces.proofs.NeighbourSets.{piece-cell-below, so-joined}
use Rattle.cg_pieces.proofs.TakenSets.{left-next, left-same, none-first, not-first, open-left, taken-set}

-- boards that differ in their cells alone have the same cells in the first column
pub alike-first : (p q : Grid) (word : ℕ) → IsLike p q → IsGrid p → IsGrid q
    → Marks word (λ i. nat_lt i (length p.cells) && (i % p.columns == 0))
    → Marks word (λ i. nat_lt i (length q.cells) && (i % q.columns == 0))
alike-first p q word like one other h i =
    let columns : q.columns ≡ p.columns = ap (λ z. z.columns) like in
    let size : length q.cells ≡ length p.cells = other.size ∙ ap (λ z. z.rows * z.columns) like ∙ sym one.size in
    rw columns (rw size (h i))

module _ (n : Neighbours) (p : Grid) where
  -- the pieces of the sets whose first cells come before this one
  abbrev pub pieces_before : ℕ → List Grid
  pieces_before end = map (λ k. cropped n.blank (are_joined n p k) p) (filter (is_first n p) (counted 0 end))

  -- the boards are these pieces, and the cells that are joined with none before it are left
  pub record IsTakenTo (boards : List Grid) (left end : ℕ) : Type 0 where
    pub boards_are : boards ≡ pieces_before end
    pub left_are : AreLeft n p end left

  -- so it is for some cell of the board, or its end
  pub record AreTaken (boards : List Grid) (left : ℕ) : Type 0 where
    pub end : ℕ
    pub inside : end ≤ length p.cells
    pub to : IsTakenTo boards left end

module _ (n : Neighbours) (laws : IsNeighbours n) (p : Grid) where
  -- where none is taken, all cells that form pieces are left
  pub taken-none : (cells : ℕ) → Marks cells (is_piece_cell n p) → AreTaken n p [] cells
  taken-none cells marks = record {
    end = 0;
    inside = omega arith;
    to = record { boards_are = refl; left_are = search rules };
  }

  -- cells that aren't left are passed over
  passed : (boards : List Grid) (left end : ℕ) → IsTakenTo n p boards left end → ¬ (bit_at left end ≡ 1) → IsTakenTo n p boards left (end + 1)
  passed boards left end is none = record {
    boards_are = none-more (is_first n p) (λ k. cropped n.blank (are_joined n p k) p) end boards
        (not-first n laws p end left is.left_are none) is.boards_are;
    left_are = left-same n laws p end left is.left_are none;
  }

  passed-all : (boards : List Grid) (left end gap : ℕ) → IsTakenTo n p boards left end
      → ((k : ℕ) → k < end + gap → ¬ (bit_at left k ≡ 1)) → IsTakenTo n p boards left (end + gap)
  passed-all boards left end zero is none =
      let e : end ≡ end + 0 = omega arith in rw (← e) is
  passed-all boards left end (suc gap) is none =
      let e : (end + gap) + 1 ≡ end + suc gap = omega arith in
      let below : end + gap < end + suc gap = omega arith in
      rw (← e) (passed boards left (end + gap)
      (passed-all boards left end gap is (λ k h. none k (omega (arith, h)))) (none (end + gap) below))

  -- the first cell that is left
  module _ (boards : List Grid) (left moving : ℕ) (test : bit_and left moving ≢ 0) (fits : left < 2 ^ 64) (taken : AreTaken n p boards left) where
    some : 0 < left
    some = let most = and_le_l left moving in omega (arith, test, most)

    abbrev cell : ℕ
    cell = count_trailing_zeros 64 left

    pub cell-left : bit_at left cell ≡ 1
    cell-left = first-one left some fits

    pub taken-to : IsTakenTo n p boards left cell
    taken-to = elim (leb_tells taken.end cell) [
      | inl h ↦
          let low = h.1 in
          let e : taken.end + (cell - taken.end) ≡ cell = omega (arith, low) in
          rw (← e) (passed-all boards left taken.end (cell - taken.end) taken.to
          (λ k below t. let first = first-first left some fits k t in omega (arith, first, below, low)))
      | inr h ↦
          absurd (taken.to.left_are.apart cell cell-left cell h.1 (so-joined n laws p cell cell (here cell refl)))
    ]

    module _ (f : Field) (is : IsFieldOf n p f) where
      pub cell-open : bit_at f.cells cell ≡ 1
      cell-open = open-left n laws p f is cell left taken-to.left_are cell-left

      module _ (set : ℕ) (set_fits : set < 2 ^ 64) (joined : (k : ℕ) → (bit_at set k ≡ 1) ↔ JoinedIn f cell k) where
        pub set-taken : IsTaken n p cell set
        set-taken = taken-set n laws p f is cell left set taken-to.left_are cell-left joined

        -- fewer cells are left behind the set
        pub left-less : bit_and left (other_bits set) < left
        left-less =
            let most = and_le_l left (other_bits set) in
            let other : bit_and left (other_bits set) ≢ left = λ e.
            not-zero set cell set_fits (bit-below left cell fits cell-left)
            (and-parts left (other_bits set) cell (ap (λ z. bit_at z cell) e ∙ cell-left)).1
            ((joined cell).1 (here cell refl)) in
            omega (arith, most, other)

        pub taken-more : (more : List Grid) → more ≡ boards ++ piece_at n p cell → AreTaken n p more (bit_and left (other_bits set))
        taken-more more put = record {
          end = cell + 1;
          inside = let below = piece-cell-below n laws p cell (taken-to.left_are.only cell cell-left) in omega (arith, below);
          to = record {
            boards_are = one-more (is_first n p) (λ k. cropped n.blank (are_joined n p k) p) cell boards more taken-to.boards_are put;
            left_are = left-next n laws p cell left set fits set_fits taken-to.left_are set-taken;
          };
        }

  -- where no cell with a move is left, all pieces are taken
  pub taken-all : (boards : List Grid) (left moving : ℕ) → bit_and left moving ≡ 0 → AreMoving n p moving
      → AreTaken n p boards left → boards ≡ pieces_before n p (length p.cells)
  taken-all boards left moving none are taken =
      let inside = taken.inside in
      let e : taken.end + (length p.cells - taken.end) ≡ length p.cells = omega (arith, inside) in
      more (length p.cells - taken.end) ∙ ap (pieces_before n p) e
    where
      more : (gap : ℕ) → boards ≡ pieces_before n p (taken.end + gap)
      more zero = let e : taken.end ≡ taken.end + 0 = omega arith in taken.to.boards_are ∙ ap (pieces_before n p) e
      more (suc gap) =
          let e : (taken.end + gap) + 1 ≡ taken.end + suc gap = omega arith in
          none-more (is_first n p) (λ k. cropped n.blank (are_joined n p k) p) (taken.end + gap) boards
          (none-first n laws p taken.end (taken.end + gap) left moving taken.to.left_are are none (omega arith)) (more gap)
          ∙ ap (pieces_before n p) e
