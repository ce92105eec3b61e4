-- The board of a joined set shows the set, before and after a move in it.
use Rattle.std.proofs.Common.{◌≡◌, refl, ℕ, ◌+◌, ◌-◌, ◌*◌, ◌<◌, ◌≤◌, ◌==◌, ◌&&◌, ◌||◌, ◌⊎◌, ◌↔◌, inl, inr, Bool, true, length, ap, ◌∙◌, arith}
use Rattle.std.proofs.Math.Nat.{mod-lt, mul-le-mul_left}
use Rattle.std.proofs.lemmas.Bool.{eqb-true, eq-eqb}
use Rattle.cg_form.proofs.Cut.{same_when}
use Rattle.cg_moves.specs.Grid.{Grid}
use Rattle.cg_moves.specs.Rising.{counted}
use Rattle.cg_pieces.specs.Boxes.{Box, boxed, cell_at, column_of, cropped, row_of, set_box}
use Rattle.cg_pieces.specs.Cells.{CellGame, IsCellGame}
use Rattle.cg_pieces.specs.Cells.Linked.{here}
use Rattle.cg_pieces.specs.Neighbours.{IsNeighbours, Neighbours, are_joined, cell_game, is_below, is_beside, is_next, is_piece_cell}
use Rattle.cg_pieces.proofs.Bounds.{cell-of, set-bounds}
use Rattle.cg_pieces.proofs.Crops.{column-low, place-column, place-row, row-low}
use Rattle.cg_pieces.proofs.NeighbourSets.{joined-so, neighbours-cell_game, piece-cell-below, so-joined}
use Rattle.cg_pieces.proofs.Sets.{open-along}
use Rattle.std.proofs.lemmas.List.{length-map}
use Rattle.cg_moves.proofs.Counted.{counted-length, same-or-not}
use Rattle.std.proofs.lemmas.Bool.Decides.{leb_tells, nat_tests}

-- ---- places in rows and columns

-- lines that are moved by as many lines keep whether one follows another
moved-equal : (a b t : ℕ) → t ≤ a → t ≤ b → (a - t == b - t) ≡ (a == b)
moved-equal a b t la lb = grind (arith, nat_tests, same_when, eqb-true, eq-eqb)

moved-next : (a b t : ℕ) → t ≤ a → t ≤ b → ((a - t) + 1 == b - t) ≡ (a + 1 == b)
moved-next a b t la lb = grind (arith, nat_tests, same_when, eqb-true, eq-eqb)

-- the order of cells is that of their rows, and in a row that of their columns
order-by-lines : (w a b c d : ℕ) → b < w → d < w → (cell_at w a b ≤ cell_at w c d) → (a < c) ⊎ ((a ≡ c) × (b ≤ d))
order-by-lines w a b c d hb hd h = elim (leb_tells c a) [
  | inr l ↦ inl l.1
  | inl k ↦ elim (same-or-not a c) [
    | inl e ↦
        let l : cell_at w a b ≤ cell_at w a d = rw (← e) at h in inr (e, omega arith)
    | inr other ↦
        let m : w * (c + 1) ≤ w * a = mul-le-mul_left w (omega (arith, k.1, other)) in
        let x : w * (c + 1) ≡ w * c + w = omega arith in
        absurd (omega (arith, m, x, h))
  ]
]

lines-order : (w a b c d : ℕ) → b < w → (a < c) ⊎ ((a ≡ c) × (b ≤ d)) → cell_at w a b ≤ cell_at w c d
lines-order w a b c d hb (inl l) =
    let m : w * (a + 1) ≤ w * c = mul-le-mul_left w (omega arith) in
    let x : w * (a + 1) ≡ w * a + w = omega arith in
    omega (arith, m, x)
lines-order w a b c d hb (inr (e, l)) =
    rw (← e) (omega arith)

module _ (n : Neighbours) (laws : IsNeighbours n) (p : Grid) (s : ℕ) (wide : 0 < p.columns)
    (some : is_piece_cell n p s ≡ true) where
  abbrev game : CellGame
  game = cell_game n

  pub game-laws : IsCellGame game
  game-laws = neighbours-cell_game n laws

  abbrev set : ℕ → Bool
  set = are_joined n p s

  abbrev box : Box
  box = set_box set p

  abbrev piece : Grid
  piece = cropped n.blank set p

  abbrev place : ℕ → ℕ
  place k = boxed box p.columns k

  pub within : (k : ℕ) → set k ≡ true → k < length p.cells
  within k t = piece-cell-below n laws p k (open-along game game-laws p s k (joined-so n laws p s k t) some)

  pub self : set s ≡ true
  self = so-joined n laws p s s (here s refl)

  pub piece-length : length piece.cells ≡ box.rows * box.columns
  unfolding cropped
  piece-length = length-map (counted 0 (box.rows * box.columns)) _ ∙ counted-length 0 (box.rows * box.columns)

  -- ---- adjacent in the piece as on the board

  pub below-placed : (k l : ℕ) → set k ≡ true → set l ≡ true → is_below piece.columns (place k) (place l) ≡ is_below p.columns k l
  unfolding cropped
  below-placed k l tk tl =
      let rk = place-row n.blank p set within s self wide k tk in
      let rl = place-row n.blank p set within s self wide l tl in
      let ck = place-column n.blank p set within s self wide k tk in
      let cl = place-column n.blank p set within s self wide l tl in
      (λ i. (rk i + 1 == rl i) && (ck i == cl i))
      ∙ ap (λ z. z && (column_of p.columns k - box.left == column_of p.columns l - box.left))
      (moved-next (row_of p.columns k) (row_of p.columns l) box.top (row-low n.blank p set within s self wide k tk)
      (row-low n.blank p set within s self wide l tl))
      ∙ ap (λ z. (row_of p.columns k + 1 == row_of p.columns l) && z)
      (moved-equal (column_of p.columns k) (column_of p.columns l) box.left
      (column-low n.blank p set within s self wide k tk) (column-low n.blank p set within s self wide l tl))

  pub beside-placed : (k l : ℕ) → set k ≡ true → set l ≡ true → is_beside piece.columns (place k) (place l) ≡ is_beside p.columns k l
  unfolding cropped
  beside-placed k l tk tl =
      let rk = place-row n.blank p set within s self wide k tk in
      let rl = place-row n.blank p set within s self wide l tl in
      let ck = place-column n.blank p set within s self wide k tk in
      let cl = place-column n.blank p set within s self wide l tl in
      (λ i. (rk i == rl i) && (ck i + 1 == cl i))
      ∙ ap (λ z. z && ((column_of p.columns k - box.left) + 1 == column_of p.columns l - box.left))
      (moved-equal (row_of p.columns k) (row_of p.columns l) box.top (row-low n.blank p set within s self wide k tk)
      (row-low n.blank p set within s self wide l tl))
      ∙ ap (λ z. (row_of p.columns k == row_of p.columns l) && z)
      (moved-next (column_of p.columns k) (column_of p.columns l) box.left
      (column-low n.blank p set within s self wide k tk) (column-low n.blank p set within s self wide l tl))

  pub next-placed : (k l : ℕ) → set k ≡ true → set l ≡ true → is_next piece.columns (place k) (place l) ≡ is_next p.columns k l
  next-placed k l tk tl =
      let a = below-placed k l tk tl in
      let b = below-placed l k tl tk in
      let c = beside-placed k l tk tl in
      let d = beside-placed l k tl tk in
      λ i. (a i || b i) || (c i || d i)

  pub order-placed : (k l : ℕ) → set k ≡ true → set l ≡ true → (k ≤ l) ↔ (place k ≤ place l)
  order-placed k l tk tl =
      let w : ℕ = p.columns in
      let ra = row-low n.blank p set within s self wide k tk in
      let rb = row-low n.blank p set within s self wide l tl in
      let ca = column-low n.blank p set within s self wide k tk in
      let cb = column-low n.blank p set within s self wide l tl in
      let k_below = mod-lt k wide in
      let l_below = mod-lt l wide in
      let k_high = (set-bounds p set s within self).columns.high k tk in
      let l_high = (set-bounds p set s within self).columns.high l tl in
      let ek = cell-of w k in
      let el = cell-of w l in (
        λ h. let h2 : cell_at w (row_of w k) (column_of w k) ≤ cell_at w (row_of w l) (column_of w l) =
            omega (arith, h, ek, el) in
            lines-order box.columns (row_of w k - box.top) (column_of w k - box.left) (row_of w l - box.top)
            (column_of w l - box.left) (omega arith)
            (elim (order-by-lines w (row_of w k) (column_of w k) (row_of w l) (column_of w l) k_below l_below h2) [
              | inl x ↦ inl (omega arith)
              | inr (e, x) ↦ inr (ap (λ z. z - box.top) e, omega arith)
            ]),
        λ h. let h2 : cell_at w (row_of w k) (column_of w k) ≤ cell_at w (row_of w l) (column_of w l) =
            lines-order w (row_of w k) (column_of w k) (row_of w l) (column_of w l) k_below
            (elim (order-by-lines box.columns (row_of w k - box.top) (column_of w k - box.left) (row_of w l - box.top)
            (column_of w l - box.left) (omega arith) (omega arith) h) [
              | inl x ↦ inl (omega arith)
              | inr (e, x) ↦ inr (omega (arith, e), omega arith)
            ]) in
            omega (arith, h2, ek, el),
      )
