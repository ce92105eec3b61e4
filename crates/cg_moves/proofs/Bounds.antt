-- The tree of moves and the boards that are reached, also piece by piece, don't depend on the bound that they are defined by.
use Rattle.std.proofs.lemmas.Bool.Decides.{nat_tests}
use Rattle.std.proofs.Common.{◌≡◌, ℕ, zero, suc, ◌<◌, true, [], ◌∷◌, ◌++◌, map, ap, ◌∙◌, arith, List}
use Rattle.cg_form.specs.Game.{node, Game}
use Rattle.cg_moves.specs.declared.player.Player.{Player}
use Rattle.cg_moves.specs.declared.player.Player.TheVariants.{Left, Right}
use Rattle.cg_moves.specs.Grid.{Grid}
use Rattle.cg_moves.specs.Rules.{GameRules, In, boards_after, followers, pieces}
use Rattle.cg_moves.specs.Lawful.{AreMoves, ArePieces}
use Rattle.cg_moves.specs.Raw.{IsTreeOfMoves, raw, raw_within}
use Rattle.cg_moves.specs.Reach.{IsListOfReached, all_reached, reached_within}
use Rattle.cg_form.proofs.Firsts.{in-append}
use Rattle.cg_moves.proofs.Members.{flat_map-agree, in-map, map-agree}
use Rattle.std.specs.List.{flat_map}
use Rattle.cg_moves.specs.PieceReach.{IsListOfPieceReached, all_piece_reached, piece_reached_within}

module _ (r : GameRules) (moves : AreMoves r) where
  -- a board that a move leads to is one of the game, with a lower measure
  pub after-has : (player : Player) (p q : Grid) → r.has p ≡ true → In q (boards_after r player p) → r.has q ≡ true
  after-has player p q has m = grind (arith, nat_tests, in-map)

  pub after-lowers : (player : Player) (p q : Grid) → r.has p ≡ true → In q (boards_after r player p) → r.measure q < r.measure p
  after-lowers player p q has m = grind (arith, nat_tests, in-map)

  pub follower-has : (p q : Grid) → r.has p ≡ true → In q (followers r p) → r.has q ≡ true
  follower-has p q has m = grind (arith, nat_tests, in-append, after-has)

  pub follower-lowers : (p q : Grid) → r.has p ≡ true → In q (followers r p) → r.measure q < r.measure p
  follower-lowers p q has m = grind (arith, nat_tests, in-append, after-lowers)

  -- ---- the tree

  -- trees that agree on the boards that moves lead to
  trees-agree : (f k : Grid → Game) (p : Grid) → ((player : Player) (q : Grid) → In q (boards_after r player p) → f q ≡ k q)
      → node (map f (boards_after r Left p)) (map f (boards_after r Right p))
      ≡ node (map k (boards_after r Left p)) (map k (boards_after r Right p))
  trees-agree f k p same =
      ap (λ z. node z (map f (boards_after r Right p))) (map-agree f k (boards_after r Left p) (same Left))
      ∙ ap (node (map k (boards_after r Left p))) (map-agree f k (boards_after r Right p) (same Right))

  raw_within-bound : (n m : ℕ) (p : Grid) → r.has p ≡ true → r.measure p < n → r.measure p < m → raw_within r n p ≡ raw_within r m p
  unfolding raw_within
  raw_within-bound zero m p has n_is m_is = absurd (omega arith)
  raw_within-bound (suc n) zero p has n_is m_is = absurd (omega arith)
  raw_within-bound (suc n) (suc m) p has n_is m_is = trees-agree (λ q. raw_within r n q) (λ q. raw_within r m q) p
      (λ player q k. let l = after-lowers player p q has k in
      raw_within-bound n m q (after-has player p q has k) (omega arith) (omega arith))

  raw-within : (n : ℕ) (p : Grid) → r.has p ≡ true → r.measure p < n → raw_within r n p ≡ raw r p
  unfolding raw
  raw-within n p has below = raw_within-bound n (suc (r.measure p)) p has below (omega arith)

  pub raw-moves : (p : Grid) → r.has p ≡ true → IsTreeOfMoves r p
  unfolding raw raw_within
  raw-moves p has = trees-agree (λ q. raw_within r (r.measure p) q) (raw r) p
      (λ player q k. raw-within (r.measure p) q (after-has player p q has k) (after-lowers player p q has k))

  -- ---- the boards that are reached

  reached_within-bound : (n m : ℕ) (p : Grid) → r.has p ≡ true → r.measure p < n → r.measure p < m
      → reached_within r n p ≡ reached_within r m p
  unfolding reached_within
  reached_within-bound zero m p has n_is m_is = absurd (omega arith)
  reached_within-bound (suc n) zero p has n_is m_is = absurd (omega arith)
  reached_within-bound (suc n) (suc m) p has n_is m_is =
      ap (λ z. z ++ (p ∷ []))
      (flat_map-agree (λ q. reached_within r n q) (λ q. reached_within r m q) (followers r p)
      (λ q k. let l = follower-lowers p q has k in
      reached_within-bound n m q (follower-has p q has k) (omega arith) (omega arith)))

  reached-within : (n : ℕ) (p : Grid) → r.has p ≡ true → r.measure p < n → reached_within r n p ≡ all_reached r p
  unfolding all_reached
  reached-within n p has below = reached_within-bound n (suc (r.measure p)) p has below (omega arith)

  pub reached-moves : (p : Grid) → r.has p ≡ true → IsListOfReached r p
  unfolding all_reached reached_within
  reached-moves p has =
      ap (λ z. z ++ (p ∷ []))
      (flat_map-agree (λ q. reached_within r (r.measure p) q) (all_reached r) (followers r p)
      (λ q k. reached-within (r.measure p) q (follower-has p q has k) (follower-lowers p q has k)))

module _ (r : GameRules) (moves : AreMoves r) (each : ArePieces r) where
  -- lists that agree on the boards that moves on pieces lead to
  pieces-agree : (f k : Grid → List Grid) (p : Grid) → r.has p ≡ true
      → ((s : Grid) → r.has s ≡ true → r.measure s < r.measure p → f s ≡ k s)
      → flat_map (λ q. flat_map f (followers r q) ++ (q ∷ [])) (pieces r p)
      ≡ flat_map (λ q. flat_map k (followers r q) ++ (q ∷ [])) (pieces r p)
  pieces-agree f k p has same =
      flat_map-agree (λ q. flat_map f (followers r q) ++ (q ∷ [])) (λ q. flat_map k (followers r q) ++ (q ∷ [])) (pieces r p)
      (λ q i. let has_q = each.has p q has i in let low = each.measure p q has i in
      ap (λ z. z ++ (q ∷ [])) (flat_map-agree f k (followers r q)
      (λ s j. let l = follower-lowers r moves q s has_q j in
      same s (follower-has r moves q s has_q j) (omega (arith, l, low)))))

  piece_reached-bound : (n m : ℕ) (p : Grid) → r.has p ≡ true → r.measure p < n → r.measure p < m
      → piece_reached_within r n p ≡ piece_reached_within r m p
  unfolding piece_reached_within
  piece_reached-bound zero m p has n_is m_is = absurd (omega arith)
  piece_reached-bound (suc n) zero p has n_is m_is = absurd (omega arith)
  piece_reached-bound (suc n) (suc m) p has n_is m_is =
      pieces-agree (λ s. piece_reached_within r n s) (λ s. piece_reached_within r m s) p has
      (λ s has_s low. piece_reached-bound n m s has_s (omega (arith, low, n_is)) (omega (arith, low, m_is)))

  pub piece_reached-moves : (p : Grid) → r.has p ≡ true → IsListOfPieceReached r p
  unfolding all_piece_reached piece_reached_within
  piece_reached-moves p has =
      pieces-agree (λ s. piece_reached_within r (r.measure p) s) (all_piece_reached r) p has
      (λ s has_s low. piece_reached-bound (r.measure p) (suc (r.measure s)) s has_s low (omega arith))
