-- A move in a joined set, on the board and on the set's board: it changes two cells alike on both.
use Rattle.std.proofs.Common.{◌≡◌, refl, ℕ, ◌<◌, ◌&&◌, ◌⊎◌, ◌↔◌, inl, inr, Bool, true, List, length, slice_index}
use Rattle.std.proofs.Common.{ap, sym, ◌∙◌, arith, ◌≢◌, slice_set, get_or-set_other, get_or-set_same, length-set}
use Rattle.cg_dyadic.proofs.Truth.{differ}
use Rattle.cg_form.proofs.Cut.{same_when}
use Rattle.cg_moves.specs.declared.player.Player.{Player}
use Rattle.cg_moves.specs.Grid.{Grid, with_cells}
use Rattle.cg_pieces.specs.Boxes.{Box, boxed, cropped, set_box, unboxed}
use Rattle.cg_pieces.specs.Cells.{CellGame, Joined, OneSet}
use Rattle.cg_pieces.specs.Cells.Linked.{here, step}
use Rattle.cg_pieces.specs.Neighbours.{IsNeighbours, Neighbours, are_joined, cell_game, is_below, is_beside, is_next, is_piece_cell, may_move}
use Rattle.cg_pieces.proofs.Crops.{crop-back, crop-symbol, place-below, unplace}
use Rattle.cg_pieces.proofs.NeighbourSets.{joined-so, neighbours-cell_game, piece-cell-below, so-joined}
use Rattle.cg_pieces.proofs.Parts.{PartShown, crop-part, crop-same}
use Rattle.cg_pieces.proofs.Sets.{joined-sym, joined-trans, linked-along}
use Rattle.cg_pieces.proofs.Shown.{below-placed, beside-placed, next-placed, order-placed, piece-length, self, within}
use Rattle.std.proofs.lemmas.Bool.Decides.{nat_tests}
use Rattle.cg_moves.proofs.Counted.{same-or-not}

-- two cells are changed, one after the other
abbrev pub two_set : List ℕ → ℕ → ℕ → ℕ → ℕ → List ℕ
two_set cells k x l y = slice_set (slice_set cells k x) l y

two-second : (cells : List ℕ) (k x l y : ℕ) → l < length cells → slice_index (two_set cells k x l y) l ≡ y
two-second cells k x l y h =
    get_or-set_same (slice_set cells k x) l y 0 (let e = length-set cells k x in omega (arith, e, h))

two-first : (cells : List ℕ) (k x l y : ℕ) → k < length cells → k ≢ l → slice_index (two_set cells k x l y) k ≡ x
two-first cells k x l y h n = get_or-set_other (slice_set cells k x) l k y 0 n ∙ get_or-set_same cells k x 0 h

two-other : (cells : List ℕ) (k x l y m : ℕ) → m ≢ k → m ≢ l → slice_index (two_set cells k x l y) m ≡ slice_index cells m
two-other cells k x l y m a b = get_or-set_other (slice_set cells k x) l m y 0 b ∙ get_or-set_other cells k m x 0 a

two-long : (cells : List ℕ) (k x l y : ℕ) → length (two_set cells k x l y) ≡ length cells
two-long cells k x l y = length-set (slice_set cells k x) l y ∙ length-set cells k x

module _ (n : Neighbours) (laws : IsNeighbours n) (p : Grid) (s : ℕ) (wide : 0 < p.columns)
    (some : is_piece_cell n p s ≡ true) where
  abbrev game : CellGame
  game = cell_game n

  abbrev set : ℕ → Bool
  set = are_joined n p s

  abbrev box : Box
  box = set_box set p

  abbrev piece : Grid
  piece = cropped n.blank set p

  abbrev place : ℕ → ℕ
  place k = boxed box p.columns k

  -- other cells of the board and of the piece: alike in the set, as before outside of it, and none there forms pieces that
  -- formed none
  pub record Alike (cells shown : List ℕ) : Type 0 where
    pub long : length cells ≡ length p.cells
    pub shown_long : length shown ≡ length piece.cells
    pub fewer : (k : ℕ) → n.forms_pieces (slice_index cells k) ≡ true → is_piece_cell n p k ≡ true
    pub apart : (k : ℕ) → ¬ (set k ≡ true) → slice_index cells k ≡ slice_index p.cells k
    pub same : (k : ℕ) → set k ≡ true → slice_index shown (place k) ≡ slice_index cells k
    pub placed : (m : ℕ) → n.forms_pieces (slice_index shown m) ≡ true → (k : ℕ) × (set k ≡ true) × (m ≡ place k)

  module _ (cells shown : List ℕ) (a : Alike cells shown) where
    abbrev after : Grid
    after = with_cells p cells

    abbrev small : Grid
    small = with_cells piece shown

    in-set : (k : ℕ) → Joined game p s k → set k ≡ true
    in-set k j = so-joined n laws p s k j

    -- joined cells were joined before
    before : (k l : ℕ) → Joined game after k l → Joined game p k l
    before = linked-along (is_piece_cell n after) (is_piece_cell n p) (is_next p.columns) (is_next p.columns) a.fewer (λ x m t. t)

    apart-piece : (k : ℕ) → ¬ Joined game p s k → ((l : ℕ) → Joined game after k l ↔ Joined game p k l)
        → cropped n.blank (are_joined n after k) after ≡ cropped n.blank (are_joined n p k) p
    apart-piece k out alike = crop-same n.blank p cells (are_joined n p k) (are_joined n after k) a.long
        (λ l. same_when (are_joined n after k l) (are_joined n p k l)
        (λ t. so-joined n laws p k l ((alike l).0 (joined-so n laws after k l t)))
        (λ t. so-joined n laws after k l ((alike l).1 (joined-so n laws p k l t))))
        (λ l t. a.apart l (λ i. out (joined-trans game (neighbours-cell_game n laws) p s l k (joined-so n laws p s l i)
        (joined-sym game (neighbours-cell_game n laws) p k l (joined-so n laws p k l t)))))

    -- the end of a row of cells is its start or forms pieces
    end-of : (q : Grid) (k l : ℕ) → Joined game q k l → (k ≡ l) ⊎ (is_piece_cell n q l ≡ true)
    end-of q k l (here m e) = inl e
    end-of q k l (step x m b x_open m_open next) = inr m_open

    part-shown : (k : ℕ) → Joined game p s k → ((l : ℕ) → Joined game p s l → Joined game after k l ↔ Joined game small (place k) (place l))
        → PartShown n.blank p set (within n laws p s wide some) s (self n laws p s wide some) wide (are_joined n after k) cells
        (are_joined n small (place k)) shown
    part-shown k j alike =
        let in_k = in-set k j in
        let back : (m : ℕ) → are_joined n small (place k) m ≡ true → (l : ℕ) × (set l ≡ true) × (m ≡ place l) = λ m t.
        elim (end-of small (place k) m (joined-so n laws small (place k) m t)) [
          | inl e ↦ (k, in_k, sym e)
          | inr m_open ↦ a.placed m m_open
        ] in record {
          long = a.long;
          inside = λ l t. in-set l (joined-trans game (neighbours-cell_game n laws) p s k l j (before k l (joined-so n laws after k l t)));
          member = k;
          member_in = so-joined n laws after k k (here k refl);
          same = λ l t. let j_l = joined-so n laws p s l t in
              same_when (are_joined n small (place k) (place l)) (are_joined n after k l)
              (λ u. so-joined n laws after k l ((alike l j_l).1 (joined-so n laws small (place k) (place l) u)))
              (λ u. so-joined n laws small (place k) (place l) ((alike l j_l).0 (joined-so n laws after k l u)));
          back = back;
          below = λ m t. let (l, in_l, e) = back m t in
              let b = place-below n.blank p set (within n laws p s wide some) s (self n laws p s wide some) wide l in_l in
              let c = piece-length n laws p s wide some in
              let d = a.shown_long in
              omega (arith, b, c, d, e);
          symbol = a.same;
        }

    place-piece : (k : ℕ) → Joined game p s k → ((l : ℕ) → Joined game p s l → Joined game after k l ↔ Joined game small (place k) (place l))
        → cropped n.blank (are_joined n small (place k)) small ≡ cropped n.blank (are_joined n after k) after
    place-piece k j alike =
        crop-part n.blank p set (within n laws p s wide some) s (self n laws p s wide some) wide (are_joined n after k) cells
        (are_joined n small (place k)) shown (part-shown k j alike)

    legal-placed : (player : Player) (k l : ℕ) → set k ≡ true → set l ≡ true
        → may_move n player small (place k) (place l) ≡ may_move n player after k l
    legal-placed player k l tk tl =
        let x = a.same k tk in
        let y = a.same l tl in
        let b = below-placed n laws p s wide some k l tk tl in
        let c = beside-placed n laws p s wide some k l tk tl in
        let d = next-placed n laws p s wide some k l tk tl in
        λ i. (n.forms_pieces (x i) && n.forms_pieces (y i)) && (d i && n.allowed player (b i) (c i) (x i) (y i))

    pub alike-one_set : OneSet game p s after small
    alike-one_set = record {
      fewer = a.fewer;
      adjacent = λ k l. refl;
      apart_open = λ k out. ap n.forms_pieces (a.apart k (λ t. out (joined-so n laws p s k t)));
      apart_legal = λ player k l out_k out_l.
          let x = a.apart k (λ t. out_k (joined-so n laws p s k t)) in
          let y = a.apart l (λ t. out_l (joined-so n laws p s l t)) in
          λ i. (n.forms_pieces (x i) && n.forms_pieces (y i)) && (is_next p.columns k l && n.allowed player (is_below p.columns k l) (is_beside p.columns k l) (x i) (y i));
      apart_piece = apart-piece;
      place_order = λ k l j_k j_l. order-placed n laws p s wide some k l (in-set k j_k) (in-set l j_l);
      place_open = λ k j. ap n.forms_pieces (a.same k (in-set k j));
      place_adjacent = λ k l j_k j_l. next-placed n laws p s wide some k l (in-set k j_k) (in-set l j_l);
      place_legal = λ player k l j_k j_l. legal-placed player k l (in-set k j_k) (in-set l j_l);
      placed = λ m m_open. let (k, t, e) = a.placed m m_open in (k, joined-so n laws p s k t, e);
      place_piece = place-piece;
    }

  -- ---- without a move

  pub crop-placed : (m : ℕ) → n.forms_pieces (slice_index piece.cells m) ≡ true → (k : ℕ) × (set k ≡ true) × (m ≡ place k)
  crop-placed m t =
      let b = piece-cell-below n laws piece m t in
      let c = piece-length n laws p s wide some in
      crop-back n.blank p set (within n laws p s wide some) s (self n laws p s wide some) wide m (omega (arith, b, c))
      (λ e. differ (n.forms_pieces n.blank) (ap n.forms_pieces (sym e) ∙ t) laws.blank)

  alike-self : Alike p.cells piece.cells
  alike-self = record {
    long = refl;
    shown_long = refl;
    fewer = λ k t. t;
    apart = λ k out. refl;
    same = λ k t. crop-symbol n.blank p set (within n laws p s wide some) s (self n laws p s wide some) wide k t;
    placed = crop-placed;
  }

  pub shown-one_set : OneSet game p s p piece
  shown-one_set = alike-one_set p.cells piece.cells alike-self

  -- ---- two cells of the set are changed, one after the other

  module _ (k l x y : ℕ) (in_k : set k ≡ true) (in_l : set l ≡ true) (open_k : is_piece_cell n p k ≡ true)
      (open_l : is_piece_cell n p l ≡ true) where
    abbrev cells : List ℕ
    cells = two_set p.cells k x l y

    abbrev shown : List ℕ
    shown = two_set piece.cells (place k) x (place l) y

    place-apart : (a b : ℕ) → set a ≡ true → set b ≡ true → a ≢ b → place a ≢ place b
    place-apart a b ta tb apart e =
        apart (sym (unplace n.blank p set (within n laws p s wide some) s (self n laws p s wide some) wide a ta)
        ∙ ap (unboxed box p.columns) e
        ∙ unplace n.blank p set (within n laws p s wide some) s (self n laws p s wide some) wide b tb)

    piece-below : (a : ℕ) → set a ≡ true → place a < length piece.cells
    piece-below a t =
        let b = place-below n.blank p set (within n laws p s wide some) s (self n laws p s wide some) wide a t in
        let c = piece-length n laws p s wide some in
        omega (arith, b, c)

    not-in : (m a : ℕ) → ¬ (set m ≡ true) → set a ≡ true → m ≢ a
    not-in m a out t e = out (rw e t)

    fewer : (m : ℕ) → n.forms_pieces (slice_index cells m) ≡ true → is_piece_cell n p m ≡ true
    fewer m t = grind (arith, nat_tests, same-or-not, two-other)

    same : (m : ℕ) → set m ≡ true → slice_index shown (place m) ≡ slice_index cells m
    same m t = elim (same-or-not m l) [
      | inl e ↦
          rw e (two-second piece.cells (place k) x (place l) y (piece-below l in_l)
          ∙ sym (two-second p.cells k x l y (piece-cell-below n laws p l open_l)))
      | inr a ↦ elim (same-or-not m k) [
        | inl e ↦
            let apart : k ≢ l = λ f. a (e ∙ f) in
            rw e (two-first piece.cells (place k) x (place l) y (piece-below k in_k)
            (place-apart k l in_k in_l apart)
            ∙ sym (two-first p.cells k x l y (piece-cell-below n laws p k open_k) apart))
        | inr b ↦
            two-other piece.cells (place k) x (place l) y (place m) (place-apart m k t in_k b) (place-apart m l t in_l a)
            ∙ crop-symbol n.blank p set (within n laws p s wide some) s (self n laws p s wide some) wide m t
            ∙ sym (two-other p.cells k x l y m b a)
      ]
    ]

    placed : (m : ℕ) → n.forms_pieces (slice_index shown m) ≡ true → (a : ℕ) × (set a ≡ true) × (m ≡ place a)
    placed m t = elim (same-or-not m (place l)) [
      | inl e ↦ (l, in_l, e)
      | inr a ↦ elim (same-or-not m (place k)) [
        | inl e ↦ (k, in_k, e)
        | inr b ↦ crop-placed m
            (ap n.forms_pieces (sym (two-other piece.cells (place k) x (place l) y m b a)) ∙ t)
      ]
    ]

    changed-alike : Alike cells shown
    changed-alike = record {
      long = two-long p.cells k x l y;
      shown_long = two-long piece.cells (place k) x (place l) y;
      fewer = fewer;
      apart = λ m out. two-other p.cells k x l y m (not-in m k out in_k) (not-in m l out in_l);
      same = same;
      placed = placed;
    }

    pub changed-one_set : OneSet game p s (with_cells p cells) (with_cells piece shown)
    changed-one_set = alike-one_set cells shown changed-alike
