-- Joined sets in words, taken from the cells that are left, one after another.
use Rattle.std.proofs.Common.{◌≡◌, ◌≢◌, ◌↔◌, refl, ℕ, ◌+◌, ◌<◌, ◌≤◌, ◌^◌, ◌&&◌, ◌||◌, inl, inr, Bool, true, false, not, nat_le}
use Rattle.std.proofs.Common.{if◌then◌else◌, IsTrue, List, [], ◌∷◌, ◌++◌, length, ap, sym, ◌∙◌, subst, arith, bit_and, w64, ◌==◌}
use Rattle.std.specs.Int.{bit_at, trailing_zeros}
use Rattle.std.proofs.lemmas.Bool.{eq-eqb, eqb-true, le-leb, leb-true}
use Rattle.std.proofs.lemmas.Bool.Decides.{leb_tells, nat_tests}
use Rattle.std.proofs.lemmas.List.{append-nil}
use Rattle.std.proofs.lemmas.Nat.Bits.{bit_at-lt, bit_at-trailing_zeros, bit_at-zero}
use Rattle.std.proofs.lemmas.Nat.{and_le_l}
use Rattle.cg_dyadic.proofs.Truth.{and-both, and-split, false-from, not_true, true_not}
use Rattle.cg_moves.specs.Grid.{Grid}
use Rattle.cg_moves.specs.Rising.{counted}
use Rattle.cg_moves.proofs.ConnectedLemmas.{or-cases, or-first, or-second}
use Rattle.cg_moves.proofs.Counted.{in_counted, same-or-not}
use Rattle.cg_pieces.specs.declared.field.Field.{Field}
use Rattle.cg_pieces.specs.Boxes.{cropped}
use Rattle.cg_pieces.specs.Cells.{Joined}
use Rattle.cg_pieces.specs.Cells.Linked.{here}
use Rattle.cg_pieces.specs.Moving.{AreMoving, piece_at}
use Rattle.cg_pieces.specs.Neighbours.{IsNeighbours, Neighbours, are_joined, cell_game, has_move, is_first, is_least, is_next, is_piece_cell}
use Rattle.cg_pieces.specs.Words.{AreLeft, IsFieldOf, IsSetFrom, IsTaken, JoinedIn, in_word}
use Rattle.cg_pieces.proofs.FirstCells.{joined-move, move-joined}
use Rattle.cg_pieces.proofs.GrowingSets.{and-one, and-parts, bit-below, not-one, not-zero, other_bits}
use Rattle.cg_pieces.proofs.NeighbourSets.{all-each, each-all, joined-so, neighbours-cell_game, piece-cell-below, so-joined}
use Rattle.cg_pieces.proofs.OpenWords.{marks-test, test-marks}
use Rattle.cg_pieces.proofs.Sets.{joined-sym, joined-trans, open-along, linked-along}

same-tests : (a b : Bool) → (IsTrue a → IsTrue b) → (IsTrue b → IsTrue a) → a ≡ b
same-tests true b forth back = sym (forth refl)
same-tests false b forth back = sym (false-from b (λ t. let h = back t in cc))

module _ (n : Neighbours) (laws : IsNeighbours n) (p : Grid) where
  flipped : (k l : ℕ) → are_joined n p k l ≡ true → are_joined n p l k ≡ true
  flipped k l t =
      so-joined n laws p l k (joined-sym (cell_game n) (neighbours-cell_game n laws) p k l (joined-so n laws p k l t))

  over : (k l m : ℕ) → are_joined n p k l ≡ true → are_joined n p l m ≡ true → are_joined n p k m ≡ true
  over k l m s t =
      so-joined n laws p k m (joined-trans (cell_game n) (neighbours-cell_game n laws) p k l m (joined-so n laws p k l s)
      (joined-so n laws p l m t))

  open-too : (k l : ℕ) → are_joined n p k l ≡ true → is_piece_cell n p k ≡ true → is_piece_cell n p l ≡ true
  open-too k l t = open-along (cell_game n) (neighbours-cell_game n laws) p k l (joined-so n laws p k l t)

  -- ---- cells that no cell before them is joined with

  least-of : (k : ℕ) → ((l : ℕ) → l < k → are_joined n p l k ≡ true → ⊥) → is_least n p k ≡ true
  least-of k none = grind (arith, nat_tests, each-all, leb_tells, or-second, le-leb, or-first, true_not, flipped)

  of-least : (k : ℕ) → is_piece_cell n p k ≡ true → is_least n p k ≡ true → (l : ℕ) → are_joined n p k l ≡ true → k ≤ l
  of-least k some least l t =
      let below = piece-cell-below n laws p l (open-too k l t some) in
      elim (or-cases (not (are_joined n p k l)) (nat_le k l)
      (all-each (λ l. not (are_joined n p k l) || nat_le k l) (counted 0 (length p.cells)) least l
      (in_counted 0 (length p.cells) l (omega arith) (omega (arith, below))))) [
        | inl x ↦ absurd (not_true (are_joined n p k l) x t)
        | inr y ↦ leb-true k l y
      ]

  pub left-next : (cell left set : ℕ) → left < 2 ^ 64 → set < 2 ^ 64 → AreLeft n p cell left → IsTaken n p cell set
      → AreLeft n p (cell + 1) (bit_and left (other_bits set))
  left-next cell left set left_fits set_fits old taken = record {
    only = λ k t. old.only k (and-parts left (other_bits set) k t).0;
    apart = λ k t l h j.
        let both = and-parts left (other_bits set) k t in
        elim (same-or-not l cell) [
          | inl same ↦ (let to_k = rw same at j in
              let some = open-too k cell (flipped cell k to_k) (old.only k both.0) in
              let least = least-of cell (λ m below t_m. old.apart k both.0 m below (over m cell k t_m to_k)) in
              not-zero set k set_fits (bit-below left k left_fits both.0) both.1 (taken.all k some least to_k))
          | inr other ↦ old.apart k both.0 l (omega (arith, h, other)) j
        ];
    all = λ k some none.
        let at = old.all k some (λ l h. none l (omega (arith, h))) in
        let other : ¬ (bit_at set k ≡ 1) = λ t. none cell (omega arith) (taken.only k t).2 in
        let low = bit_at-lt set k in
        and-one left (other_bits set) k at (not-one set k set_fits (bit-below left k left_fits at) (omega (arith, other, low)));
  }

  -- a cell that isn't left is joined with one before it, or forms no pieces
  pub left-same : (cell left : ℕ) → AreLeft n p cell left → ¬ (bit_at left cell ≡ 1) → AreLeft n p (cell + 1) left
  left-same cell left old other = record {
    only = old.only;
    apart = λ k t l h j. elim (same-or-not l cell) [
      | inl same ↦ (let to_k = rw same at j in
          other (old.all cell (open-too k cell (flipped cell k to_k) (old.only k t))
          (λ m below to_cell. old.apart k t m below (over m cell k to_cell to_k))))
      | inr differs ↦ old.apart k t l (omega (arith, h, differs)) j
    ];
    all = λ k some none. old.all k some (λ l h. none l (omega (arith, h)));
  }

  pub not-first : (cell left : ℕ) → AreLeft n p cell left → ¬ (bit_at left cell ≡ 1) → is_first n p cell ≡ false
  not-first cell left are other = grind (arith, nat_tests, false-from, and-split, of-least, flipped)

  -- where no cell with a move is left, none is the first of a set with a move
  pub none-first : (end cell left moving : ℕ) → AreLeft n p end left → AreMoving n p moving → bit_and left moving ≡ 0
      → end ≤ cell → is_first n p cell ≡ false
  none-first end cell left moving are moves none late = false-from (is_first n p cell) (λ t.
      let a = and-split (is_piece_cell n p cell) (is_least n p cell && has_move n p cell) t in
      let b = and-split (is_least n p cell) (has_move n p cell) a.1 in
      move-joined n laws p cell b.1 (λ k l j behind m.
      let to_k = so-joined n laws p cell k j in
      let here = are.all k (open-too cell k to_k a.0) (λ l h s.
      let low = of-least cell a.0 b.0 l (flipped l cell (over l k cell s (flipped cell k to_k))) in omega (arith, low, h, late)) in
      let one = and-one left moving k here (moves.all k l behind m) in
      let zero = ap (λ z. bit_at z k) none ∙ bit_at-zero k in omega (arith, one, zero)))

  -- ---- the set of a cell

  module _ (f : Field) (is : IsFieldOf n p f) where
    in-field : (cell k : ℕ) → JoinedIn f cell k → Joined (cell_game n) p cell k
    in-field = linked-along (λ m. bit_at f.cells m == 1) (is_piece_cell n p) (is_next f.columns) (is_next p.columns)
        (λ m t. marks-test f.cells (is_piece_cell n p) is.cells m (eqb-true (bit_at f.cells m) 1 t))
        (λ m k t. subst (λ (w : ℕ). is_next w m k ≡ true) is.columns t)

    to-field : (cell k : ℕ) → Joined (cell_game n) p cell k → JoinedIn f cell k
    to-field = linked-along (is_piece_cell n p) (λ m. bit_at f.cells m == 1) (is_next p.columns) (is_next f.columns)
        (λ m t. eq-eqb (bit_at f.cells m) 1 (test-marks f.cells (is_piece_cell n p) is.cells m t))
        (λ m k t. subst (λ (w : ℕ). is_next w m k ≡ true) (sym is.columns) t)

    pub open-left : (cell left : ℕ) → AreLeft n p cell left → bit_at left cell ≡ 1 → bit_at f.cells cell ≡ 1
    open-left cell left are t = test-marks f.cells (is_piece_cell n p) is.cells cell (are.only cell t)

    pub taken-set : (cell left set : ℕ) → AreLeft n p cell left → bit_at left cell ≡ 1
        → ((k : ℕ) → (bit_at set k ≡ 1) ↔ JoinedIn f cell k) → IsTaken n p cell set
    taken-set cell left set are t joined = record {
      only = λ k s. (
        are.only cell t,
        least-of cell (are.apart cell t),
        so-joined n laws p cell k
            (in-field cell k ((joined k).0 s)),
      );
      all = λ k some least j. (joined k).1 (to-field cell k (joined-so n laws p cell k j));
    }

  -- ---- the piece of a set

  module _ (cell set moving : ℕ) (taken : IsTaken n p cell set) (are : AreMoving n p moving) where
    -- a cell of the set on which some player has a move
    some-bit : bit_and set moving ≢ 0 → set < 2 ^ 64 → (k : ℕ) × (bit_at (bit_and set moving) k ≡ 1)
    some-bit some fits =
        let h = bit_at-trailing_zeros w64 (bit_and set moving) (omega (arith, some)) (omega (arith, and_le_l set moving, fits)) in
        (trailing_zeros w64 (bit_and set moving), h.1)

    pub record IsPiece : Type 0 where
      pub from : IsSetFrom p set cell
      pub first : is_first n p cell ≡ true
      pub same : (k : ℕ) → in_word set k ≡ are_joined n p cell k

    pub piece-is : bit_and set moving ≢ 0 → set < 2 ^ 64 → IsPiece
    piece-is some fits =
        let (k, t) = some-bit some fits in
        let both = and-parts set moving k t in
        let (inside, least, joined) = taken.only k both.0 in
        let moves = joined-move n laws p cell k (joined-so n laws p cell k joined) (are.only k both.1) in
        record {
          from = record {
            here = taken.all cell inside least (so-joined n laws p cell cell (here cell refl));
            least = λ l s. of-least cell inside least l (taken.only l s).2;
            below = λ l s. piece-cell-below n laws p l (open-too cell l (taken.only l s).2 inside);
          };
          first = and-both (is_piece_cell n p cell) (is_least n p cell && has_move n p cell) inside
              (and-both (is_least n p cell) (has_move n p cell) least moves);
          same = λ l. same-tests (in_word set l) (are_joined n p cell l) (λ s. (taken.only l (eqb-true (bit_at set l) 1 s)).2)
              (λ j. eq-eqb (bit_at set l) 1 (taken.all l inside least j));
        }

    pub piece-at : (boards : List Grid) (blank : ℕ) (piece : Grid) → IsPiece → blank ≡ n.blank
        → piece ≡ cropped blank (in_word set) p → boards ++ (piece ∷ []) ≡ boards ++ piece_at n p cell
    piece-at boards blank piece is b e =
        ap (λ z. boards ++ (z ∷ [])) (e ∙ ap (λ z. cropped z (in_word set) p) b ∙ (λ i. cropped n.blank (λ l. is.same l i) p))
        ∙ ap (λ t. boards ++ (if t then cropped n.blank (are_joined n p cell) p ∷ [] else [])) (sym is.first)

    pub no-piece-at : (boards : List Grid) → bit_and set moving ≡ 0 → boards ≡ boards ++ piece_at n p cell
    no-piece-at boards none =
        sym (append-nil boards)
        ∙ ap (λ t. boards ++ (if t then cropped n.blank (are_joined n p cell) p ∷ [] else [])) (sym not_first)
      where
        no-first : is_first n p cell ≡ true → ⊥
        no-first t =
            let a = and-split (is_piece_cell n p cell) (is_least n p cell && has_move n p cell) t in
            let b = and-split (is_least n p cell) (has_move n p cell) a.1 in
            move-joined n laws p cell b.1 (λ k l j behind moves.
            let one = and-one set moving k (taken.all k a.0 b.0 (so-joined n laws p cell k j)) (are.all k l behind moves) in
            let zero = ap (λ z. bit_at z k) none ∙ bit_at-zero k in omega (arith, one, zero))

        not_first : is_first n p cell ≡ false
        not_first = false-from (is_first n p cell) no-first
