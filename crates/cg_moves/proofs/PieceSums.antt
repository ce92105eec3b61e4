-- The options of the tree of a board are the trees of the boards that its moves lead to, and a board is the sum of its pieces.
use Rattle.std.proofs.Common.{◌≡◌, ℕ, zero, suc, ◌<◌, true, List, ◌∷◌, ◌++◌, map, ap, ◌∙◌, arith, inl, refl}
use Rattle.cg_form.specs.Game.{Among, Game}
use Rattle.cg_form.specs.Order.{Equal}
use Rattle.cg_form.proofs.Preorder.{equal_trans, le-cofinal}
use Rattle.cg_moves.specs.declared.player.Player.{Player}
use Rattle.cg_moves.specs.declared.player.Player.TheVariants.{Left, Right}
use Rattle.cg_moves.specs.Grid.{Grid, with_cells}
use Rattle.cg_moves.specs.Rules.{GameRules, In, pieces, boards_after}
use Rattle.cg_moves.specs.CutByMoves.{IsCutByMoves, IsSameMove}
use Rattle.cg_moves.specs.Lawful.{AreMoves, IsCut}
use Rattle.cg_moves.specs.Raw.{IsSumOfPieces, raw}
use Rattle.cg_moves.specs.Total.{total}
use Rattle.cg_form.proofs.Firsts.{in-append_right}
use Rattle.cg_moves.proofs.Totals.{equal_back, equal_of, options_of, total-cases, total-in_place, total-option, total-reordered}
use Rattle.std.proofs.lemmas.List.{map-append}
use Rattle.cg_form.proofs.Among.{lefts-node, rights-node}
use Rattle.cg_moves.proofs.Bounds.{raw-moves}
use Rattle.cg_moves.proofs.Members.{in-map, in_mapped}

module _ (r : GameRules) (moves : AreMoves r) where
  -- the options are the trees of the moves
  pub options-raw : (player : Player) (p : Grid) → r.has p ≡ true → options_of player (raw r p) ≡ map (raw r) (boards_after r player p)
  options-raw Left p has = ap (options_of Left) (raw-moves r moves p has)
      ∙ lefts-node (map (raw r) (boards_after r Left p)) (map (raw r) (boards_after r Right p))
  options-raw Right p has = ap (options_of Right) (raw-moves r moves p has)
      ∙ rights-node (map (raw r) (boards_after r Left p)) (map (raw r) (boards_after r Right p))

  pub raw_option : (player : Player) (p : Grid) (cells : List ℕ) → r.has p ≡ true → In cells (r.moves player p)
      → Among (raw r (with_cells p cells)) (options_of player (raw r p))
  raw_option player p cells has m =
      rw (options-raw player p has)
      (in_mapped (raw r) (with_cells p cells) (boards_after r player p) (in_mapped (with_cells p) cells (r.moves player p) m))

  pub option_raw : (player : Player) (p : Grid) (g : Game) → r.has p ≡ true → Among g (options_of player (raw r p))
      → (cells : List ℕ) × In cells (r.moves player p) × (g ≡ raw r (with_cells p cells))
  option_raw player p g has m =
      let (q, k, e) = in-map (raw r) g (boards_after r player p) (rw (← (options-raw player p has)) m) in
      let (cells, n, f) = in-map (with_cells p) q (r.moves player p) k in
      (cells, n, e ∙ ap (raw r) f)

middle_in : {X : Type 0} (x : X) (us vs : List X) (xs : List X) → xs ≡ us ++ (x ∷ vs) → In x xs
middle_in {X} x us vs xs e =
    rw e (in-append_right x us (x ∷ vs) (inl refl))

module _ (r : GameRules) (moves : AreMoves r) (cut : IsCutByMoves r) where
  -- the same move on the board and in the piece
  moved-equal : (n : ℕ) → ((p : Grid) → r.has p ≡ true → r.measure p < n → IsSumOfPieces r p)
      → (player : Player) (p : Grid) (cells : List ℕ) (us : List Grid) (q : Grid) (moved : List ℕ) (vs : List Grid)
      → r.has p ≡ true → r.measure p < suc n → In cells (r.moves player p) → In moved (r.moves player q)
      → IsSameMove r p cells us q moved vs
      → Equal (raw r (with_cells p cells)) (total (map (raw r) us ++ (raw r (with_cells q moved) ∷ map (raw r) vs)))
  moved-equal n shown player p cells us q moved vs has below m k same_move =
      let in_p = middle_in q us vs (pieces r p) same_move.cut in
      let has_q = cut.each.has p q has in_p in
      let a = moves.lowers player p cells has m in
      let b = moves.lowers player q moved has_q k in
      let c = cut.each.measure p q has in_p in
      let next : Grid = with_cells p cells in
      let piece : Grid = with_cells q moved in
      let whole : Equal (raw r next) (total (map (raw r) (pieces r next))) =
      shown next (moves.stays player p cells has m) (omega arith) in
      let part : Equal (raw r piece) (total (map (raw r) (pieces r piece))) =
      shown piece (moves.stays player q moved has_q k) (omega arith) in
      let split : total (map (raw r) (us ++ (pieces r piece ++ vs)))
      ≡ total (map (raw r) us ++ (map (raw r) (pieces r piece) ++ map (raw r) vs)) =
      ap total (map-append (raw r) us (pieces r piece ++ vs)
      ∙ ap (λ z. map (raw r) us ++ z) (map-append (raw r) (pieces r piece) vs)) in
      equal_trans _ _ _ whole
      (equal_trans _ _ _ (total-reordered (raw r) (pieces r next) (us ++ (pieces r piece ++ vs)) same_move.others)
      (equal_trans _ _ _ (equal_of _ _ split) (equal_back _ _
      (total-in_place (map (raw r) us) (raw r piece) (map (raw r) (pieces r piece)) (map (raw r) vs) part))))

  -- each option of the board equals one of the sum, and each of the sum one of the board
  forth : (n : ℕ) → ((p : Grid) → r.has p ≡ true → r.measure p < n → IsSumOfPieces r p)
      → (player : Player) (p : Grid) (g : Game) → r.has p ≡ true → r.measure p < suc n
      → Among g (options_of player (raw r p))
      → (h : Game) × Among h (options_of player (total (map (raw r) (pieces r p)))) × Equal g h
  forth n shown player p g has below m =
      let (cells, k, e) = option_raw r moves player p g has m in
      let w = cut.in_piece player p cells has k in
      let in_p = middle_in w.piece w.before w.behind (pieces r p) w.same_move.cut in
      let h : Game = total (map (raw r) w.before ++ (raw r (with_cells w.piece w.moved) ∷ map (raw r) w.behind)) in (
        h,
        rw w.same_move.cut (total-option (raw r) player w.before w.piece w.behind (raw r (with_cells w.piece
            w.moved)) (raw_option r moves player w.piece w.moved (cut.each.has p w.piece has in_p) w.is_move)),
        equal_trans _ _ _ (equal_of _ _ e) (moved-equal n shown player p cells w.before w.piece w.moved w.behind has below
            k w.is_move w.same_move),
      )

  back : (n : ℕ) → ((p : Grid) → r.has p ≡ true → r.measure p < n → IsSumOfPieces r p)
      → (player : Player) (p : Grid) (h : Game) → r.has p ≡ true → r.measure p < suc n
      → Among h (options_of player (total (map (raw r) (pieces r p))))
      → (g : Game) × Among g (options_of player (raw r p)) × Equal h g
  back n shown player p h has below m =
      let o = total-cases (raw r) player (pieces r p) h m in
      let in_p = middle_in o.one o.before o.behind (pieces r p) o.cut in
      let has_q = cut.each.has p o.one has in_p in
      let (moved, k, e) = option_raw r moves player o.one o.option has_q o.is_option in
      let w = cut.of_board player p o.before o.one o.behind moved has o.cut k in
      let same : h ≡ total (map (raw r) o.before ++ (raw r (with_cells o.one moved) ∷ map (raw r) o.behind)) =
      o.is ∙ ap (λ z. total (map (raw r) o.before ++ (z ∷ map (raw r) o.behind))) e in (
        raw r (with_cells p w.cells),
        raw_option r moves player p w.cells has w.is_move,
        equal_trans _ _ _ (equal_of _ _ same) (equal_back _ _ (moved-equal n shown player p w.cells o.before o.one moved
            o.behind has below w.is_move k w.same_move)),
      )

  pieces-sum_within : (n : ℕ) (p : Grid) → r.has p ≡ true → r.measure p < n → IsSumOfPieces r p
  pieces-sum_within zero p has below = absurd (omega arith)
  pieces-sum_within (suc n) p has below =
      let shown = pieces-sum_within n in (
        le-cofinal (raw r p) (total (map (raw r) (pieces r p)))
            (λ a m. let (c, k, e) = forth n shown Left p a has below m in (c, k, e.0))
            (λ b m. let (d, k, e) = back n shown Right p b has below m in (d, k, e.1)),
        le-cofinal (total (map (raw r) (pieces r p))) (raw r p)
            (λ a m. let (c, k, e) = back n shown Left p a has below m in (c, k, e.0))
            (λ b m. let (d, k, e) = forth n shown Right p b has below m in (d, k, e.1)),
      )

  pub cut-by-moves : IsCut r
  cut-by-moves = record {
    each = cut.each;
    sum = λ p has. pieces-sum_within (suc (r.measure p)) p has (omega arith);
  }
