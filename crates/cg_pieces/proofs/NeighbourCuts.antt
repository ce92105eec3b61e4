-- Games on adjacent cells cut boards into their joined sets.
use Rattle.std.proofs.Common.{◌≡◌, refl, ℕ, ◌*◌, ◌<◌, ◌≤◌, Bool, true, filter, length, ap, sym, ◌∙◌, arith}
use Rattle.std.proofs.Common.{suc, ◌+◌, inl, inr, cond, if◌then◌else◌, List, [], ◌∷◌, slice_index}
use Rattle.std.specs.Prelude.{count_by}
use Rattle.cg_moves.specs.CutByMoves.{IsCutByMoves}
use Rattle.cg_moves.specs.Grid.{Grid}
use Rattle.cg_moves.specs.Lawful.{AreMoves, IsCut}
use Rattle.cg_moves.specs.Rising.{counted}
use Rattle.cg_moves.specs.Rules.{GameRules, In}
use Rattle.cg_pieces.specs.Boxes.{cropped, set_box, unboxed}
use Rattle.cg_pieces.specs.Cells.{CutsByCells}
use Rattle.cg_pieces.specs.Neighbours.{CutsNeighbours, IsNeighbours, Neighbours, are_joined, cell_game, is_piece_cell}
use Rattle.cg_moves.proofs.PieceSums.{cut-by-moves}
use Rattle.cg_pieces.proofs.Bounds.{filter-in, in-filter, set-bounds}
use Rattle.cg_pieces.proofs.Crops.{unplace}
use Rattle.cg_pieces.proofs.CutLaws.{by-cells}
use Rattle.cg_pieces.proofs.NeighbourSets.{at-cell, distinct-cells, joined-so, may-parts, neighbours-cell_game, so-joined}
use Rattle.cg_pieces.proofs.Sets.{legal-joined, open-along}
use Rattle.cg_pieces.proofs.Shown.{piece-length, self, within}
use Rattle.cg_pieces.proofs.ShownAfter.{changed-one_set, crop-placed, shown-one_set}
use Rattle.cg_moves.proofs.Middles.{no-more}
use Rattle.std.proofs.lemmas.List.Sums.{sum_by-cons}
use Rattle.cg_dyadic.proofs.Truth.{false-from, true-or-not}

abbrev one_if : Bool → ℕ
one_if b = if b then 1 else 0

-- the number of cells that pass a test is that of their places
count-places : (test : ℕ → Bool) (cells : List ℕ) (i : ℕ) (at : ℕ → Bool) → ((j : ℕ) → j < length cells → at (i + j) ≡ test (slice_index cells j))
    → length (filter at (counted i (length cells))) ≡ count_by test cells
count-places test [] i at same = refl
count-places test (c ∷ cs) i at same =
    let rest = count-places test cs (suc i) at
    (λ j h. let e : suc i + j ≡ i + suc j = omega arith in ap at e ∙ same (suc j) (omega arith)) in
    let first : at i ≡ test c = (let e : i ≡ i + 0 = omega arith in ap at e ∙ same 0 (omega arith)) in
    let sum = sum_by-cons (λ (z : ℕ). one_if (test z)) c cs in
    let others : List ℕ = filter at (counted (suc i) (length cs)) in
    elim (true-or-not (at i)) [
      | inl t ↦
          let a : length (cond (at i) (i ∷ others) others) ≡ suc (length others) =
          ap (λ b. length (cond b (i ∷ others) others)) t in
          let b : one_if (test c) ≡ 1 = ap one_if (sym first ∙ t) in
          omega (arith, a, b, rest, sum)
      | inr f ↦
          let n = false-from (at i) f in
          let a : length (cond (at i) (i ∷ others) others) ≡ length others =
          ap (λ b. length (cond b (i ∷ others) others)) n in
          let b : one_if (test c) ≡ 0 = ap one_if (sym first ∙ n) in
          omega (arith, a, b, rest, sum)
    ]

pub count-is : (test : ℕ → Bool) (cells : List ℕ) → length (filter (λ k. test (slice_index cells k)) (counted 0 (length cells))) ≡ count_by test cells
count-is test cells = count-places test cells 0 (λ k. test (slice_index cells k))
    (λ j h. let e : 0 + j ≡ j = omega arith in ap (λ z. test (slice_index cells z)) e)

module _ (n : Neighbours) (r : GameRules) (laws : IsNeighbours n) (cuts : CutsNeighbours n r) where
  first-open : (p : Grid) (s : ℕ) → In s ((cell_game n).firsts p) → is_piece_cell n p s ≡ true
  first-open p s i = (((neighbours-cell_game n laws).first p s).0 i).is_open

  -- ---- the board of a set

  abbrev piece : Grid → ℕ → Grid
  piece p s = cropped n.blank (are_joined n p s) p

  piece-symbols : (p : Grid) (s : ℕ) → (piece p s).symbols ≡ p.symbols
  unfolding cropped
  piece-symbols p s = refl

  piece-size : (p : Grid) (s : ℕ) → 0 < p.columns → is_piece_cell n p s ≡ true → length (piece p s).cells ≡ (piece p s).rows * (piece p s).columns
  unfolding cropped
  piece-size p s wide some = piece-length n laws p s wide some

  piece-wide : (p : Grid) (s : ℕ) → 0 < p.columns → is_piece_cell n p s ≡ true → 0 < (piece p s).columns
  unfolding cropped
  piece-wide p s wide some =
      let h = (set-bounds p (are_joined n p s) s (within n laws p s wide some) (self n laws p s wide some)).columns in
      let a = h.low s (self n laws p s wide some) in
      let b = h.high s (self n laws p s wide some) in
      omega (arith, a, b)

  -- each of its cells that form pieces is one of the board
  fewer-cells : (p : Grid) (s : ℕ) → 0 < p.columns → is_piece_cell n p s ≡ true
      → count_by n.forms_pieces (piece p s).cells ≤ count_by n.forms_pieces p.cells
  fewer-cells p s wide some =
      let q : Grid = piece p s in
      let set : ℕ → Bool = are_joined n p s in
      let w = within n laws p s wide some in
      let t = self n laws p s wide some in
      let back : ℕ → ℕ = unboxed (set_box set p) p.columns in
      let found : (m : ℕ) → In m (filter (is_piece_cell n q) (counted 0 (length q.cells)))
      → (k : ℕ) × (set k ≡ true) × (m ≡ (cell_game n).place p s k) = λ m i.
      crop-placed n laws p s wide some m (in-filter (is_piece_cell n q) m (counted 0 (length q.cells)) i).1 in
      let same : (m : ℕ) (k : ℕ) → set k ≡ true → m ≡ (cell_game n).place p s k → back m ≡ k = λ m k in_k e.
      ap back e ∙ unplace n.blank p set w s t wide k in_k in
      let h = no-more back (filter (is_piece_cell n q) (counted 0 (length q.cells)))
      (filter (is_piece_cell n p) (counted 0 (length p.cells))) (distinct-cells n laws q (is_piece_cell n q))
      (λ m i.
      let (k, in_k, e) = found m i in
      let k_open = open-along (cell_game n) (neighbours-cell_game n laws) p s k (joined-so n laws p s k in_k) some in
      rw (same m k in_k e) (filter-in (is_piece_cell n p) k (counted 0 (length p.cells)) (at-cell n laws p k k_open)
      k_open))
      (λ a b i j e.
      let (k, in_k, f) = found a i in
      let (l, in_l, g) = found b j in
      f ∙ ap ((cell_game n).place p s) (sym (same a k in_k f) ∙ e ∙ same b l in_l g) ∙ sym g) in
      let x = count-is n.forms_pieces q.cells in
      let y = count-is n.forms_pieces p.cells in
      omega (arith, h, x, y)

  cuts-by-cells : CutsByCells (cell_game n) r
  cuts-by-cells = record {
    cut = cuts.cut;
    has = λ p s has i.
        let wide = cuts.wide p has in
        let some = first-open p s i in
        cuts.has p (piece p s) has (piece-symbols p s) (piece-wide p s wide some) (piece-size p s wide some);
    symbols = λ p s has i. piece-symbols p s;
    measure = λ p s has i.
        let h = fewer-cells p s (cuts.wide p has) (first-open p s i) in
        let a = cuts.measure p in
        let b = cuts.measure (piece p s) in
        omega (arith, h, a, b);
    legal_move = cuts.legal_move;
    move = cuts.move;
    shown = λ p s has i. shown-one_set n laws p s (cuts.wide p has) (first-open p s i);
    shown_after = λ player p s one other has i legal j.
        let parts = may-parts n laws player p one other legal in
        let j_other = legal-joined (cell_game n) (neighbours-cell_game n laws) player p s one other legal j in
        changed-one_set n laws p s (cuts.wide p has) (first-open p s i) one other (n.first_after player) (n.second_after player)
        (so-joined n laws p s one j) (so-joined n laws p s other j_other) parts.0 parts.1;
  }

  pub neighbours-moves : IsCutByMoves r
  neighbours-moves = by-cells (cell_game n) r (neighbours-cell_game n laws) cuts-by-cells

  pub neighbours-cut : AreMoves r → IsCut r
  neighbours-cut moves = cut-by-moves r moves neighbours-moves
