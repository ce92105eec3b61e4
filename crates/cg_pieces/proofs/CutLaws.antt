-- Rules that cut boards into the sets of joined cells.
use Rattle.std.proofs.Common.{◌≡◌, refl, ℕ, zero, suc, ◌<◌, ◌≤◌, ◌⊎◌, inl, inr, true, List, [], ◌∷◌, ◌++◌, map, ap, sym, ◌∙◌, subst, arith}
use Rattle.cg_moves.specs.declared.player.Player.{Player}
use Rattle.cg_moves.specs.CutByMoves.{IsCutByMoves, MoveInPiece, MoveOfBoard, IsSameMove}
use Rattle.cg_moves.specs.Grid.{Grid, with_cells}
use Rattle.cg_moves.specs.Rules.{GameRules, In, followers, pieces, pieces_by}
use Rattle.cg_form.proofs.Firsts.{in-append_left, in-append_right}
use Rattle.cg_moves.proofs.Members.{in-map, in_mapped}
use Rattle.cg_pieces.specs.Cells.{CellGame, CutsByCells, Distinct, First, IsCellGame, Joined, pieces_of}
use Rattle.cg_pieces.specs.Cells.Linked.{here}
use Rattle.cg_pieces.proofs.OneMove.{pieces-after}
use Rattle.cg_pieces.proofs.Sets.{first-placed, joined-sym, joined-trans, legal-joined, open-along, placed-first, placed-piece}
use Rattle.std.proofs.lemmas.List.{map-append}
use Rattle.std.proofs.lemmas.Bool.Decides.{leb_tells, nat_tests}
use Rattle.cg_moves.proofs.Middles.{in-middle}

-- a list of mapped cells that is cut is cut at a cell
record MappedCut {Y : Type 0} (f : ℕ → Y) (ks : List ℕ) (us : List Y) (y : Y) (vs : List Y) : Type 0 where
  before : List ℕ
  cell : ℕ
  behind : List ℕ
  cut : ks ≡ before ++ (cell ∷ behind)
  left : us ≡ map f before
  middle : y ≡ f cell
  right : vs ≡ map f behind

mapped-cut : {Y : Type 0} (f : ℕ → Y) (ks : List ℕ) (us : List Y) (y : Y) (vs : List Y) → map f ks ≡ us ++ (y ∷ vs) → MappedCut f ks us y vs
mapped-cut {Y} f [] [] y vs e = absurd (cc)
mapped-cut {Y} f [] (u ∷ us) y vs e = absurd (cc)
mapped-cut {Y} f (k ∷ ks) [] y vs e = record {
  before = [];
  cell = k;
  behind = ks;
  cut = refl;
  left = refl;
  middle = cc;
  right = cc;
}
mapped-cut {Y} f (k ∷ ks) (u ∷ us) y vs e =
    let head : u ≡ f k = cc in
    let tail : map f ks ≡ us ++ (y ∷ vs) = cc in
    let w = mapped-cut f ks us y vs tail in record {
      before = k ∷ w.before;
      cell = w.cell;
      behind = w.behind;
      cut = ap (λ z. k ∷ z) w.cut;
      left = ap (λ z. z ∷ us) head ∙ ap (λ z. f k ∷ z) w.left;
      middle = w.middle;
      right = w.right;
    }

module _ (g : CellGame) (r : GameRules) (laws : IsCellGame g) (cuts : CutsByCells g r) where
  pieces-are : (p : Grid) → pieces r p ≡ pieces_of g p
  pieces-are p = ap (λ cut. pieces_by cut p) cuts.cut

  -- ---- the first cell of a set

  record Least (p : Grid) (k : ℕ) : Type 0 where
    cell : ℕ
    joined : Joined g p cell k
    least : (m : ℕ) → Joined g p m k → cell ≤ m

  least-below : (p : Grid) (k n : ℕ) → Least p k ⊎ ((m : ℕ) → m < n → ¬ Joined g p m k)
  least-below p k zero = inr (λ m h. absurd (omega arith))
  least-below p k (suc n) = elim (least-below p k n) [
    | inl w ↦ inl w
    | inr none ↦ elim (laws.decided p n k) [
      | inl j ↦ inl (record {
        cell = n;
        joined = j;
        least = λ m i. elim (leb_tells n m) [ inl h ↦ h.1 | inr h ↦ absurd (none m h.1 i) ];
      })
      | inr out ↦ inr (λ m h i. elim (leb_tells n m) [
        | inl b ↦ (let e : m ≡ n = omega (arith, h, b.1) in out (subst (λ (z : ℕ). Joined g p z k) e i))
        | inr b ↦ none m b.1 i
      ])
    ]
  ]

  least-of : (p : Grid) (k : ℕ) → Least p k
  least-of p k = elim (least-below p k (suc k)) [
    | inl w ↦ w
    | inr none ↦ absurd (none k (omega arith) (here k refl))
  ]

  -- the set of a move has a first cell
  first-of-move : (player : Player) (p : Grid) (one other : ℕ) → g.legal player p one other ≡ true → (s : ℕ) × In s (g.firsts p) × Joined g p s one
  first-of-move player p one other legal =
      let w = least-of p one in
      let first : First g p w.cell = record {
        is_open = open-along g laws p one w.cell (joined-sym g laws p w.cell one w.joined) (laws.legal_open player p one other legal).0;
        least = λ l j. w.least l (joined-trans g laws p l w.cell one (joined-sym g laws p w.cell l j) w.joined);
        player = player;
        one = one;
        other = other;
        legal = legal;
        joined = w.joined;
      } in
      (w.cell, (laws.first p w.cell).1 first, w.joined)

  -- ---- the same move on the board and in the piece

  same_move : (player : Player) (p : Grid) (before : List ℕ) (s : ℕ) (behind : List ℕ) (one other : ℕ) → r.has p ≡ true
      → g.firsts p ≡ before ++ (s ∷ behind) → g.legal player p one other ≡ true → Joined g p s one
      → IsSameMove r p (g.after player p one other) (map (g.piece p) before) (g.piece p s)
      (g.after player (g.piece p s) (g.place p s one) (g.place p s other)) (map (g.piece p) behind)
  same_move player p before s behind one other has cut legal j =
      let among : In s (g.firsts p) = rw cut (in-append_right s before (s ∷ behind) (inl refl)) in
      let after : Grid = with_cells p (g.after player p one other) in
      let small : Grid = with_cells (g.piece p s) (g.after player (g.piece p s) (g.place p s one) (g.place p s other)) in
      let o = cuts.shown_after player p s one other has among legal j in
      record {
        cut = pieces-are p ∙ ap (map (g.piece p)) cut ∙ map-append (g.piece p) before (s ∷ behind);
        others = rw (pieces-are after) (rw (pieces-are small) (pieces-after g laws p before s behind after small cut o));
      }

  piece-legal : (player : Player) (p : Grid) (s one other : ℕ) → r.has p ≡ true → In s (g.firsts p)
      → g.legal player p one other ≡ true → Joined g p s one
      → g.legal player (g.piece p s) (g.place p s one) (g.place p s other) ≡ true
  piece-legal player p s one other has among legal j =
      (cuts.shown p s has among).place_legal player one other j (legal-joined g laws player p s one other legal j) ∙ legal

  in-piece : (player : Player) (p : Grid) (cells : List ℕ) → r.has p ≡ true → In cells (r.moves player p) → MoveInPiece r player p cells
  in-piece player p cells has m =
      let w = cuts.legal_move player p cells has m in
      let (s, among, j) = first-of-move player p w.one w.other w.legal in
      let c = in-middle s (g.firsts p) among in
      let moved : List ℕ = g.after player (g.piece p s) (g.place p s w.one) (g.place p s w.other) in
      let P : List ℕ → Type 0 = λ z. IsSameMove r p z (map (g.piece p) c.before) (g.piece p s) moved (map (g.piece p)
      c.behind) in record {
        before = map (g.piece p) c.before;
        piece = g.piece p s;
        behind = map (g.piece p) c.behind;
        moved = moved;
        is_move = cuts.move player (g.piece p s) (g.place p s w.one) (g.place p s w.other) (cuts.has p s has among)
            (piece-legal player p s w.one w.other has among w.legal j);
        same_move = subst P (sym w.is) (same_move player p c.before s c.behind w.one w.other has c.cut w.legal j);
      }

  of-cell : (player : Player) (p : Grid) (before : List ℕ) (s : ℕ) (behind : List ℕ) (moved : List ℕ) → r.has p ≡ true
      → g.firsts p ≡ before ++ (s ∷ behind) → In moved (r.moves player (g.piece p s))
      → MoveOfBoard r player p (map (g.piece p) before) (g.piece p s) moved (map (g.piece p) behind)
  of-cell player p before s behind moved has cut m =
      let P : List ℕ → Type 0 = λ z. In s z in
      let among : In s (g.firsts p) = subst P (sym cut) (in-append_right s before (s ∷ behind) (inl refl)) in
      let o = cuts.shown p s has among in
      let w = cuts.legal_move player (g.piece p s) moved (cuts.has p s has among) m in
      let (a, b, next) = laws.legal_open player (g.piece p s) w.one w.other w.legal in
      let (k, j_k, e) = o.placed w.one a in
      let (l, j_l, f) = o.placed w.other b in
      let First_legal : ℕ → Type 0 = λ z. g.legal player (g.piece p s) z w.other ≡ true in
      let Second_legal : ℕ → Type 0 = λ z. g.legal player (g.piece p s) (g.place p s k) z ≡ true in
      let legal : g.legal player p k l ≡ true =
      sym (o.place_legal player k l j_k j_l) ∙ subst Second_legal f (subst First_legal e w.legal) in
      let is : moved ≡ g.after player (g.piece p s) (g.place p s k) (g.place p s l) =
      w.is ∙ ap (λ z. g.after player (g.piece p s) z w.other) e ∙ ap (g.after player (g.piece p s) (g.place p s k)) f in
      let Q : List ℕ → Type 0 = λ z. IsSameMove r p (g.after player p k l) (map (g.piece p) before) (g.piece p s) z (map
      (g.piece p) behind) in record {
        cells = g.after player p k l;
        is_move = cuts.move player p k l has legal;
        same_move = subst Q (sym is) (same_move player p before s behind k l has cut legal j_k);
      }

  of-board : (player : Player) (p : Grid) (before : List Grid) (q : Grid) (behind : List Grid) (moved : List ℕ)
      → r.has p ≡ true → pieces r p ≡ before ++ (q ∷ behind) → In moved (r.moves player q)
      → MoveOfBoard r player p before q moved behind
  of-board player p before q behind moved has cut m =
      let w = mapped-cut (g.piece p) (g.firsts p) before q behind (sym (pieces-are p) ∙ cut) in
      let Move : Grid → Type 0 = λ z. In moved (r.moves player z) in
      let P : List Grid → Type 0 = λ z. MoveOfBoard r player p z q moved behind in
      let Q : Grid → Type 0 = λ z. MoveOfBoard r player p (map (g.piece p) w.before) z moved behind in
      let R : List Grid → Type 0 = λ z. MoveOfBoard r player p (map (g.piece p) w.before) (g.piece p w.cell) moved z in
      subst P (sym w.left) (subst Q (sym w.middle) (subst R (sym w.right)
      (of-cell player p w.before w.cell w.behind moved has w.cut (subst Move w.middle m))))

  -- ---- a piece is its own only piece

  only : (k : ℕ) (ks : List ℕ) → Distinct g ks → In k ks → ((l : ℕ) → In l ks → l ≡ k) → ks ≡ k ∷ []
  only k [] d m same = absurd m
  only k (l ∷ []) d m same = ap (λ z. z ∷ []) (same l (inl refl))
  only k (l ∷ (n ∷ ks)) d m same =
      let e : l ≡ n = same l (inl refl) ∙ sym (same n (inr (inl refl))) in
      absurd (d.0 (inl e))

  uncut : (p : Grid) (s : ℕ) → r.has p ≡ true → In s (g.firsts p) → pieces r (g.piece p s) ≡ g.piece p s ∷ []
  uncut p s has among =
      let o = cuts.shown p s has among in
      let first_s = (laws.first p s).0 among in
      let self : Joined g p s s = here s refl in
      let one : g.firsts (g.piece p s) ≡ g.place p s s ∷ [] =
      only (g.place p s s) (g.firsts (g.piece p s)) (laws.distinct (g.piece p s))
      ((laws.first (g.piece p s) (g.place p s s)).1 (first-placed g laws p s p (g.piece p s) o s self first_s))
      (λ m i. let first_m = (laws.first (g.piece p s) m).0 i in
      let (k, j, e) = o.placed m first_m.is_open in
      let first_k = placed-first g laws p s p (g.piece p s) o k j (subst (First g (g.piece p s)) e first_m) in
      let a = first_s.least k j in
      let b = first_k.least s (joined-sym g laws p s k j) in
      let f : k ≡ s = omega arith in
      e ∙ ap (g.place p s) f) in
      pieces-are (g.piece p s) ∙ ap (map (g.piece (g.piece p s))) one
      ∙ ap (λ z. z ∷ []) (placed-piece g laws p s p (g.piece p s) o s self)

  a-move : (player : Player) (q : Grid) (cells : List ℕ) → In cells (r.moves player q) → ¬ (followers r q ≡ [])
  a-move player q cells m e = grind (arith, nat_tests, in-append_left, in_mapped, in-append_right)

  some-move : (p : Grid) (s : ℕ) → r.has p ≡ true → In s (g.firsts p) → ¬ (followers r (g.piece p s) ≡ [])
  some-move p s has among =
      let f = (laws.first p s).0 among in
      a-move f.player (g.piece p s) (g.after f.player (g.piece p s) (g.place p s f.one) (g.place p s f.other))
      (cuts.move f.player (g.piece p s) (g.place p s f.one) (g.place p s f.other) (cuts.has p s has among)
      (piece-legal f.player p s f.one f.other has among f.legal f.joined))

  -- what holds of the board of each first cell holds of each piece
  each-piece : (P : Grid → Type 0) (p q : Grid) → ((s : ℕ) → In s (g.firsts p) → P (g.piece p s)) → In q (pieces r p) → P q
  each-piece P p q each m =
      let (s, i, e) = in-map (g.piece p) q (g.firsts p) (rw (← (pieces-are p)) m) in
      subst P (sym e) (each s i)

  pub by-cells : IsCutByMoves r
  by-cells = record {
    each = record {
      has = λ p q has m. each-piece (λ z. r.has z ≡ true) p q (λ s i. cuts.has p s has i) m;
      symbols = λ p q has m. each-piece (λ z. z.symbols ≡ p.symbols) p q (λ s i. cuts.symbols p s has i) m;
      some_move = λ p q has m. each-piece (λ z. ¬ (followers r z ≡ [])) p q (λ s i. some-move p s has i) m;
      uncut = λ p q has m. each-piece (λ z. pieces r z ≡ z ∷ []) p q (λ s i. uncut p s has i) m;
      measure = λ p q has m. each-piece (λ z. r.measure z ≤ r.measure p) p q (λ s i. cuts.measure p s has i) m;
    };
    in_piece = in-piece;
    of_board = of-board;
  }
