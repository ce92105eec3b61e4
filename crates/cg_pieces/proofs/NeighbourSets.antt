-- Joined sets of adjacent cells: what is computed is what is so.
use Rattle.std.proofs.lemmas.Bool.Decides.{nat_tests}
use Rattle.std.proofs.Common.{◌≡◌, refl, ℕ, zero, suc, ◌<◌, ◌≤◌, ◌&&◌, ◌||◌, ◌⊎◌, inl, inr, Bool, true}
use Rattle.std.proofs.Common.{not, IsTrue, nat_le, List, [], ◌∷◌, filter, length, slice_index, arith}
use Rattle.std.specs.List.{flat_map, list_all, list_any}
use Rattle.std.proofs.lemmas.Bool.{le-leb, leb-true}
use Rattle.cg_dyadic.proofs.Truth.{and-both, and-split, false-from, not_true, true-or-not, true_not}
use Rattle.cg_moves.specs.declared.player.Player.{Player}
use Rattle.cg_moves.specs.declared.player.Player.TheVariants.{Left, Right}
use Rattle.cg_moves.specs.Connected.{Edge}
use Rattle.cg_moves.specs.Grid.{Grid}
use Rattle.cg_moves.specs.Rising.{counted}
use Rattle.cg_moves.specs.Rules.{In}
use Rattle.cg_moves.proofs.ConnectedLemmas.{connected-closed, connected-refl, connected-trans, connected_along, or-cases, or-first, or-second}
use Rattle.cg_moves.proofs.ForGames.{choice-in, in-choice, inside}
use Rattle.cg_moves.proofs.Members.{in-flat_map, in_flat_mapped}
use Rattle.cg_pieces.specs.Cells.{CellGame, Distinct, First, IsCellGame, Joined}
use Rattle.cg_pieces.specs.Cells.Linked.{here, step}
use Rattle.cg_pieces.specs.Neighbours.{IsNeighbours, Neighbours, are_joined, are_linked, cell_game, has_move, has_move_at}
use Rattle.cg_pieces.specs.Neighbours.{is_below, is_beside, is_first, is_least, is_next, is_piece_cell, link, links, may_move}
use Rattle.cg_moves.proofs.Counted.{counted-from, in_counted}
use Rattle.cg_pieces.proofs.Bounds.{filter-in, in-filter}

pub swap-or : (a b : Bool) → IsTrue (a || b) → IsTrue (b || a)
swap-or a b h = elim (or-cases a b h) [ inl x ↦ or-second b a x | inr y ↦ or-first b a y ]

pub next-sym : (w k l : ℕ) → is_next w k l ≡ true → is_next w l k ≡ true
next-sym w k l h = grind (arith, nat_tests, or-cases, or-first, swap-or, or-second)

-- ---- tests of lists

pub all-each : (test : ℕ → Bool) (ks : List ℕ) → IsTrue (list_all test ks) → (k : ℕ) → In k ks → IsTrue (test k)
all-each test [] h k m = absurd m
all-each test (l ∷ ks) h k (inl e) =
    rw e (and-split (test l) (list_all test ks) h).0
all-each test (l ∷ ks) h k (inr m) = all-each test ks (and-split (test l) (list_all test ks) h).1 k m

pub each-all : (test : ℕ → Bool) (ks : List ℕ) → ((k : ℕ) → In k ks → IsTrue (test k)) → IsTrue (list_all test ks)
each-all test [] h = refl
each-all test (l ∷ ks) h = and-both (test l) (list_all test ks) (h l (inl refl)) (each-all test ks (λ k m. h k (inr m)))

pub any-one : (test : ℕ → Bool) (ks : List ℕ) → IsTrue (list_any test ks) → (k : ℕ) × In k ks × IsTrue (test k)
any-one test [] h = absurd (cc)
any-one test (l ∷ ks) h = elim (or-cases (test l) (list_any test ks) h) [
  | inl t ↦ (l, inl refl, t)
  | inr r ↦ (let (k, m, t) = any-one test ks r in (k, inr m, t))
]

pub one-any : (test : ℕ → Bool) (k : ℕ) (ks : List ℕ) → In k ks → IsTrue (test k) → IsTrue (list_any test ks)
one-any test k [] m t = absurd m
one-any test k (l ∷ ks) (inl e) t =
    or-first (test l) (list_any test ks) (rw (← e) t)
one-any test k (l ∷ ks) (inr m) t = or-second (test l) (list_any test ks) (one-any test k ks m t)

distinct-counted : (g : CellGame) (i n : ℕ) → Distinct g (counted i n)
distinct-counted g i zero = tt
distinct-counted g i (suc n) = (λ m. let h = counted-from (suc i) n i m in omega (arith, h), distinct-counted g (suc i) n)

distinct-filter : (g : CellGame) (test : ℕ → Bool) (ks : List ℕ) → Distinct g ks → Distinct g (filter test ks)
distinct-filter g test [] d = tt
distinct-filter g test (k ∷ ks) d =
    let rest = distinct-filter g test ks d.1 in
    elim (true-or-not (test k)) [
      | inl t ↦ rw t (λ m. d.0 (in-filter test k ks m).0, rest)
      | inr f ↦ rw (false-from (test k) f) rest
    ]

module _ (n : Neighbours) (laws : IsNeighbours n) where
  -- cells past the end form no pieces
  pub piece-cell-below : (p : Grid) (k : ℕ) → is_piece_cell n p k ≡ true → k < length p.cells
  piece-cell-below p k t = inside n.forms_pieces 0 p.cells k laws.past t

  pub at-cell : (p : Grid) (k : ℕ) → is_piece_cell n p k ≡ true → In k (counted 0 (length p.cells))
  at-cell p k t = let h = piece-cell-below p k t in in_counted 0 (length p.cells) k (omega arith) (omega (arith, h))

  -- ---- joined cells

  in-links : (p : Grid) (e : Edge) → In e (links n p) → are_linked n p e.one e.other ≡ true
  in-links p e m =
      let (k, i, a) = in-flat_map (λ k. flat_map (link n p k) (counted 0 (length p.cells))) e (counted 0 (length p.cells)) m in
      let (l, j, b) = in-flat_map (link n p k) e (counted 0 (length p.cells)) a in
      let (t, same) = in-choice (are_linked n p k l) e (record { one = k; other = l }) b in
      rw same t

  links-in : (p : Grid) (k l : ℕ) → are_linked n p k l ≡ true → In (record { one = k; other = l }) (links n p)
  links-in p k l t =
      let both = and-split (is_piece_cell n p k && is_piece_cell n p l) (is_next p.columns k l) t in
      let cells = and-split (is_piece_cell n p k) (is_piece_cell n p l) both.0 in
      in_flat_mapped (λ k. flat_map (link n p k) (counted 0 (length p.cells))) (record { one = k; other = l }) k
      (counted 0 (length p.cells)) (at-cell p k cells.0)
      (in_flat_mapped (link n p k) (record { one = k; other = l }) l (counted 0 (length p.cells)) (at-cell p l cells.1)
      (choice-in (are_linked n p k l) (record { one = k; other = l }) t))

  pub joined-so : (p : Grid) (k l : ℕ) → are_joined n p k l ≡ true → Joined (cell_game n) p k l
  unfolding are_joined
  joined-so p k l h = connected-closed (Joined (cell_game n) p k) (links n p) (λ e m.
      let t = in-links p e m in
      let both = and-split (is_piece_cell n p e.one && is_piece_cell n p e.other) (is_next p.columns e.one e.other) t in
      let cells = and-split (is_piece_cell n p e.one) (is_piece_cell n p e.other) both.0 in (
        λ r. step e.one e.other r cells.0 cells.1 both.1,
        λ r. step e.other e.one r cells.1 cells.0 (next-sym p.columns e.one e.other both.1),
      ))
      k l h (here k refl)

  pub so-joined : (p : Grid) (k l : ℕ) → Joined (cell_game n) p k l → are_joined n p k l ≡ true
  unfolding are_joined
  so-joined p k l (here m e) =
      rw (← e) (connected-refl (links n p) k)
  so-joined p k l (step x m r x_open m_open next) =
      connected-trans (links n p) k x m (so-joined p k x r)
      (connected_along (record { one = x; other = m }) (links n p)
      (links-in p x m (and-both (is_piece_cell n p x && is_piece_cell n p m) (is_next p.columns x m)
      (and-both (is_piece_cell n p x) (is_piece_cell n p m) x_open m_open) next))).0

  pub joined-decided : (p : Grid) (k l : ℕ) → Joined (cell_game n) p k l ⊎ (¬ Joined (cell_game n) p k l)
  joined-decided p k l = elim (true-or-not (are_joined n p k l)) [
    | inl t ↦ inl (joined-so p k l t)
    | inr f ↦ inr (λ j. f (so-joined p k l j))
  ]

  -- ---- moves

  pub may-parts : (player : Player) (p : Grid) (k l : ℕ) → may_move n player p k l ≡ true
      → (is_piece_cell n p k ≡ true) × (is_piece_cell n p l ≡ true) × (is_next p.columns k l ≡ true)
  may-parts player p k l t =
      let rule : Bool = n.allowed player (is_below p.columns k l) (is_beside p.columns k l) (slice_index p.cells k) (slice_index
      p.cells l) in
      let both = and-split (is_piece_cell n p k && is_piece_cell n p l) (is_next p.columns k l && rule) t in
      let cells = and-split (is_piece_cell n p k) (is_piece_cell n p l) both.0 in
      let next = and-split (is_next p.columns k l) rule both.1 in
      (cells.0, cells.1, next.0)

  -- ---- first cells

  end-open : (p : Grid) (k l : ℕ) → Joined (cell_game n) p k l → is_piece_cell n p k ≡ true → is_piece_cell n p l ≡ true
  end-open p k l (here m e) t = rw (← e) t
  end-open p k l (step x m r x_open m_open next) t = m_open

  first-so : (p : Grid) (k : ℕ) → is_first n p k ≡ true → First (cell_game n) p k
  first-so p k t =
      let a = and-split (is_piece_cell n p k) (is_least n p k && has_move n p k) t in
      let b = and-split (is_least n p k) (has_move n p k) a.1 in
      let (one, i, c) = any-one (λ l. are_joined n p k l && has_move_at n p l) (counted 0 (length p.cells)) b.1 in
      let d = and-split (are_joined n p k one) (has_move_at n p one) c in
      let (other, j, e) = any-one (λ l. may_move n Left p one l || may_move n Right p one l) (counted 0 (length p.cells)) d.1 in
      let least : (l : ℕ) → Joined (cell_game n) p k l → k ≤ l = λ l r.
      (let f = all-each (λ l. not (are_joined n p k l) || nat_le k l) (counted 0 (length p.cells)) b.0 l
      (at-cell p l (end-open p k l r a.0)) in
      elim (or-cases (not (are_joined n p k l)) (nat_le k l) f) [
        | inl x ↦ absurd (not_true (are_joined n p k l) x (so-joined p k l r))
        | inr y ↦ leb-true k l y
      ]) in
      elim (or-cases (may_move n Left p one other) (may_move n Right p one other) e) [
        | inl x ↦ record {
          is_open = a.0;
          least = least;
          player = Left;
          one = one;
          other = other;
          legal = x;
          joined = joined-so p k one d.0;
        }
        | inr y ↦ record {
          is_open = a.0;
          least = least;
          player = Right;
          one = one;
          other = other;
          legal = y;
          joined = joined-so p k one d.0;
        }
      ]

  pub either : (player : Player) (p : Grid) (k l : ℕ) → may_move n player p k l ≡ true → IsTrue (may_move n Left p k l || may_move n Right p k l)
  either Left p k l t = or-first (may_move n Left p k l) (may_move n Right p k l) t
  either Right p k l t = or-second (may_move n Left p k l) (may_move n Right p k l) t

  so-first : (p : Grid) (k : ℕ) → First (cell_game n) p k → is_first n p k ≡ true
  so-first p k f =
      let parts = may-parts f.player p f.one f.other f.legal in
      let least : IsTrue (is_least n p k) =
      each-all (λ l. not (are_joined n p k l) || nat_le k l) (counted 0 (length p.cells))
      (λ l m. elim (true-or-not (are_joined n p k l)) [
        | inl t ↦ or-second (not (are_joined n p k l)) (nat_le k l) (le-leb k l (f.least l (joined-so p k l t)))
        | inr o ↦ or-first (not (are_joined n p k l)) (nat_le k l) (true_not (are_joined n p k l) o)
      ]) in
      let moves : IsTrue (has_move_at n p f.one) =
      one-any (λ l. may_move n Left p f.one l || may_move n Right p f.one l) f.other (counted 0 (length p.cells))
      (at-cell p f.other parts.1) (either f.player p f.one f.other f.legal) in
      let some : IsTrue (has_move n p k) =
      one-any (λ l. are_joined n p k l && has_move_at n p l) f.one (counted 0 (length p.cells)) (at-cell p f.one parts.0)
      (and-both (are_joined n p k f.one) (has_move_at n p f.one) (so-joined p k f.one f.joined) moves) in
      and-both (is_piece_cell n p k) (is_least n p k && has_move n p k) f.is_open
      (and-both (is_least n p k) (has_move n p k) least some)

  pub distinct-cells : (p : Grid) (test : ℕ → Bool) → Distinct (cell_game n) (filter test (counted 0 (length p.cells)))
  distinct-cells p test = distinct-filter (cell_game n) test (counted 0 (length p.cells)) (distinct-counted (cell_game n) 0 (length p.cells))

  pub neighbours-cell_game : IsCellGame (cell_game n)
  neighbours-cell_game = record {
    symmetric = λ p k l t. next-sym p.columns k l t;
    legal_open = may-parts;
    decided = joined-decided;
    distinct = λ p. distinct-cells p (is_first n p);
    first = λ p k. (
      λ m. first-so p k (in-filter (is_first n p) k (counted 0 (length p.cells)) m).1,
      λ f. filter-in (is_first n p) k (counted 0 (length p.cells)) (at-cell p k f.is_open) (so-first p k f),
    );
  }
