-- Joined sets in which some player has a move, and what is taken of their first cells.
use Rattle.std.proofs.lemmas.Bool.Decides.{nat_tests}
use Rattle.std.proofs.Common.{◌≡◌, refl, ℕ, suc, ◌+◌, ◌<◌, ◌&&◌, ◌||◌, ◌⊎◌, inl, inr, Bool, true, false}
use Rattle.std.proofs.Common.{if◌then◌else◌, IsTrue, List, [], ◌∷◌, ◌++◌, filter, length, map, ap, sym, ◌∙◌, arith}
use Rattle.std.specs.Int.{bit_at}
use Rattle.std.proofs.lemmas.List.{append-nil, map-append}
use Rattle.cg_dyadic.proofs.Truth.{and-both, and-split}
use Rattle.cg_moves.specs.declared.player.Player.{Player}
use Rattle.cg_moves.specs.declared.player.Player.TheVariants.{Left, Right}
use Rattle.cg_moves.specs.Grid.{Grid}
use Rattle.cg_moves.specs.Rising.{counted}
use Rattle.cg_moves.proofs.ConnectedLemmas.{or-cases, or-first, or-second}
use Rattle.cg_moves.proofs.Counted.{counted-next}
use Rattle.cg_pieces.specs.Cells.{Joined}
use Rattle.cg_pieces.specs.Cells.Linked.{step}
use Rattle.cg_pieces.specs.Moving.{AreMoving, MovesWith, is_behind, moves_between}
use Rattle.cg_pieces.specs.Neighbours.{IsNeighbours, Neighbours, are_joined, cell_game, has_move, has_move_at, is_below, is_beside, may_move}
use Rattle.cg_pieces.proofs.NeighbourSets.{any-one, at-cell, either, joined-so, may-parts, next-sym, one-any, piece-cell-below, so-joined}

module _ (n : Neighbours) (laws : IsNeighbours n) (p : Grid) where
  -- a move on two cells that some player has, of which this is the one
  record SomeMove (k l : ℕ) : Type 0 where
    player : Player
    one : ℕ
    other : ℕ
    legal : may_move n player p one other ≡ true
    cells : ((one ≡ k) × (other ≡ l)) ⊎ ((one ≡ l) × (other ≡ k))

  some-move : (k l : ℕ) → moves_between n p k l ≡ true → SomeMove k l
  some-move k l t = elim (or-cases (may_move n Left p k l || may_move n Right p k l)
      (may_move n Left p l k || may_move n Right p l k) t) [
        | inl x ↦ elim (or-cases (may_move n Left p k l) (may_move n Right p k l) x) [
          | inl a ↦ record { player = Left; one = k; other = l; legal = a; cells = inl (refl, refl) }
          | inr a ↦ record { player = Right; one = k; other = l; legal = a; cells = inl (refl, refl) }
        ]
        | inr y ↦ elim (or-cases (may_move n Left p l k) (may_move n Right p l k) y) [
          | inl a ↦ record { player = Left; one = l; other = k; legal = a; cells = inr (refl, refl) }
          | inr a ↦ record { player = Right; one = l; other = k; legal = a; cells = inr (refl, refl) }
        ]
      ]

  -- the word of the cells with moves, by the players' moves between a cell and one behind it
  pub moving-by : (word : ℕ) → ((k : ℕ) → bit_at word k ≡ 1 → (player : Player) × (l : ℕ) × (may_move n player p k l ≡ true))
      → ((player : Player) (k l : ℕ) → is_behind p k l ≡ true → may_move n player p k l ≡ true → bit_at word k ≡ 1)
      → ((player : Player) (k l : ℕ) → is_behind p k l ≡ true → may_move n player p l k ≡ true → bit_at word k ≡ 1)
      → AreMoving n p word
  moving-by word some forth back = record {
    only = λ k t.
        let (player, l, m) = some k t in record {
          other = l;
          inside = piece-cell-below n laws p l (may-parts n laws player p k l m).1;
          move = or-first (may_move n Left p k l || may_move n Right p k l) (may_move n Left p l k || may_move n Right p l k)
              (either n laws player p k l m);
        };
    all = λ k l b t.
        let s = some-move k l t in
        elim s.cells [
          | inl same ↦ forth s.player k l b (rw same.1 at (rw same.0 at s.legal))
          | inr same ↦ back s.player k l b (rw same.1 at (rw same.0 at s.legal))
        ];
  }

  -- a player who may move on two adjacent cells, of which one is behind the other
  record Behind (one other : ℕ) : Type 0 where
    first : ℕ
    second : ℕ
    behind : is_behind p first second ≡ true
    moves : moves_between n p first second ≡ true
    cells : (first ≡ one) ⊎ (first ≡ other)
    inside : second < length p.cells

  behind-of : (player : Player) (one other : ℕ) → may_move n player p one other ≡ true → Behind one other
  behind-of player one other legal =
      let parts = may-parts n laws player p one other legal in
      let w = p.columns in
      let here_first = or-first (may_move n Left p one other || may_move n Right p one other)
      (may_move n Left p other one || may_move n Right p other one) (either n laws player p one other legal) in
      let here_second = or-second (may_move n Left p other one || may_move n Right p other one)
      (may_move n Left p one other || may_move n Right p one other) (either n laws player p one other legal) in
      let below_one = piece-cell-below n laws p one parts.0 in
      let below_other = piece-cell-below n laws p other parts.1 in
      let forth : is_behind p one other ≡ true → Behind one other = λ b. record {
        first = one;
        second = other;
        behind = b;
        moves = here_first;
        cells = inl refl;
        inside = below_other;
      } in
      let back : is_behind p other one ≡ true → Behind one other = λ b. record {
        first = other;
        second = one;
        behind = b;
        moves = here_second;
        cells = inr refl;
        inside = below_one;
      } in
      elim (or-cases (is_below w one other || is_below w other one) (is_beside w one other || is_beside w other one) parts.2) [
        | inl x ↦ elim (or-cases (is_below w one other) (is_below w other one) x) [
          | inl a ↦ forth (or-first (is_below w one other) (is_beside w one other) a)
          | inr a ↦ back (or-first (is_below w other one) (is_beside w other one) a)
        ]
        | inr y ↦ elim (or-cases (is_beside w one other) (is_beside w other one) y) [
          | inl a ↦ forth (or-second (is_below w one other) (is_beside w one other) a)
          | inr a ↦ back (or-second (is_below w other one) (is_beside w other one) a)
        ]
      ]

  module _ (first : ℕ) where
    -- a move with a cell that is joined with this one is one in its set
    pub joined-move : (k : ℕ) → Joined (cell_game n) p first k → MovesWith n p k → has_move n p first ≡ true
    joined-move k to_k m =
        let s = some-move k m.other m.move in
        let parts = may-parts n laws s.player p s.one s.other s.legal in
        let to_one : Joined (cell_game n) p first s.one = elim s.cells [
          | inl same ↦ rw same.0 to_k
          | inr same ↦ step s.other s.one (rw same.1 to_k) parts.1 parts.0 (next-sym p.columns s.one s.other parts.2)
        ] in
        let at_one : IsTrue (has_move_at n p s.one) =
        one-any (λ l. may_move n Left p s.one l || may_move n Right p s.one l) s.other (counted 0 (length p.cells))
        (at-cell n laws p s.other parts.1) (either n laws s.player p s.one s.other s.legal) in
        one-any (λ l. are_joined n p first l && has_move_at n p l) s.one (counted 0 (length p.cells))
        (at-cell n laws p s.one parts.0)
        (and-both (are_joined n p first s.one) (has_move_at n p s.one) (so-joined n laws p first s.one to_one) at_one)

    -- where there is one in the set, it is one with a cell that is joined with this one
    pub move-joined : has_move n p first ≡ true → ((k l : ℕ) → Joined (cell_game n) p first k → is_behind p k l ≡ true
        → moves_between n p k l ≡ true → ⊥) → ⊥
    move-joined h none =
        let (one, i, c) = any-one (λ l. are_joined n p first l && has_move_at n p l) (counted 0 (length p.cells)) h in
        let d = and-split (are_joined n p first one) (has_move_at n p one) c in
        let (other, j, e) = any-one (λ l. may_move n Left p one l || may_move n Right p one l) (counted 0 (length p.cells)) d.1 in
        elim (or-cases (may_move n Left p one other) (may_move n Right p one other) e) [
          | inl x ↦ go Left one other (joined-so n laws p first one d.0) x
          | inr x ↦ go Right one other (joined-so n laws p first one d.0) x
        ]
      where
        go : (player : Player) (one other : ℕ) → Joined (cell_game n) p first one → may_move n player p one other ≡ true → ⊥
        go player one other to_one legal =
            let parts = may-parts n laws player p one other legal in
            let b = behind-of player one other legal in
            elim b.cells [
              | inl same ↦ none b.first b.second (rw same to_one) b.behind b.moves
              | inr same ↦ none b.first b.second (rw same (step one other to_one parts.0 parts.1 parts.2))
                  b.behind b.moves
            ]

-- ---- one cell after another

counted-to : (n : ℕ) → counted 0 (n + 1) ≡ counted 0 n ++ (n ∷ [])
counted-to n = let up : n + 1 ≡ suc n = omega arith in ap (counted 0) up ∙ counted-next n

filter-append : (test : ℕ → Bool) (xs ys : List ℕ) → filter test (xs ++ ys) ≡ filter test xs ++ filter test ys
filter-append test [] ys = refl
filter-append test (x ∷ xs) ys = grind (arith, nat_tests, filter-append test xs ys)

-- what is taken of one number more
pub one-more : (test : ℕ → Bool) (f : ℕ → Grid) (k : ℕ) (old new : List Grid) → old ≡ map f (filter test (counted 0 k))
    → new ≡ old ++ (if test k then f k ∷ [] else []) → new ≡ map f (filter test (counted 0 (k + 1)))
one-more test f k old new e h = grind (arith, nat_tests, counted-to, filter-append, map-append)

pub none-more : (test : ℕ → Bool) (f : ℕ → Grid) (k : ℕ) (old : List Grid) → test k ≡ false
    → old ≡ map f (filter test (counted 0 k)) → old ≡ map f (filter test (counted 0 (k + 1)))
none-more test f k old none e =
    one-more test f k old old e (sym (append-nil old) ∙ ap (λ t. old ++ (if t then f k ∷ [] else [])) (sym none))
