-- The last item of a board by rules that cut is its value.
use Rattle.std.proofs.Common.{◌≡◌, refl, ap, sym, ◌∙◌, ℕ, true, List, [], ◌∷◌, ◌++◌, map}
use Rattle.std.specs.List.{flat_map}
use Rattle.std.proofs.lemmas.Grind.{flat_map-append}
use Rattle.std.proofs.lemmas.List.{append-nil}
use Rattle.cg_canon.specs.Items.{Item, made}
use Rattle.cg_canon.specs.SumItems.{sum_items}
use Rattle.cg_form.specs.Game.{Game}
use Rattle.cg_form.specs.Sum.{nothing, sum}
use Rattle.cg_nodes.specs.Can.{can}
use Rattle.cg_moves.specs.Grid.{Grid}
use Rattle.cg_moves.specs.PieceReach.{piece_reach_of}
use Rattle.cg_moves.specs.Raw.{raw}
use Rattle.cg_moves.specs.Lawful.{IsCut, IsLawful}
use Rattle.cg_moves.specs.Rules.{GameRules, followers, pieces}
use Rattle.cg_values.specs.Items.{added, added_items, joining_items, piece_items, sum_up, sum_up_items, value_item}
use Rattle.cg_values.proofs.GiveSteps.{can-sum_forms}
use Rattle.cg_values.proofs.LastPiece.{last-piece}
use Rattle.cg_values.proofs.SumUp.{board-sum}
use Rattle.cg_eval.proofs.Lasts.{AreMade, EndsIn, are_made-back, are_made-front, ends-as, ends-back, ends-sum}

ends-added : (limit : ℕ) (g h : Game) (hs : List Game) → AreMade (added_items limit g (h ∷ hs))
    → EndsIn (can (added g (h ∷ hs))) (added_items limit g (h ∷ hs))
ends-added limit g h [] m =
    let xs = sum_items limit (can g) (can h) in
    rw (append-nil xs) (ends-as (can (sum (can g) (can h))) (can (sum g h)) xs (can-sum_forms g h)
    (ends-sum limit (can g) (can h) (are_made-front xs [] m)))
ends-added limit g h (k ∷ ks) m =
    let xs = sum_items limit (can g) (can h) in
    ends-back (can (added (sum g h) (k ∷ ks))) xs (added_items limit (sum g h) (k ∷ ks))
    (ends-added limit (sum g h) k ks (are_made-back xs (added_items limit (sum g h) (k ∷ ks)) m))

module _ (limit : ℕ) (r : GameRules) where
  -- the items of a piece end in its value
  ends-piece : (q : Grid) (front qs : List Grid) → qs ≡ front ++ (q ∷ [])
      → EndsIn (can (raw r q)) (flat_map (piece_items limit r) qs)
  ends-piece q front qs e =
      let own = flat_map (joining_items limit r) (followers r q) in
      rw (ap (flat_map (piece_items limit r)) e ∙ flat_map-append (piece_items limit r) front (q ∷ [])
      ∙ ap (λ z. flat_map (piece_items limit r) front ++ z) (append-nil (piece_items limit r q)))
      (ends-back (can (raw r q)) (flat_map (piece_items limit r) front) (own ++ (value_item r q ∷ []))
      (record { front = own; extra = 8; split = refl }))

  module _ (lawful : IsLawful r) (cut : IsCut r) (p : Grid) (has : r.has p ≡ true) where
    -- the board's value is the sum of those of its pieces
    sum-of_pieces : (qs : List Grid) → pieces r p ≡ qs → can (sum_up (map (raw r) qs)) ≡ can (raw r p)
    sum-of_pieces qs e = ap (λ z. can (sum_up (map (raw r) z))) (sym e) ∙ board-sum r cut p has

    ends-pieces : (qs : List Grid) → pieces r p ≡ qs
        → AreMade (flat_map (piece_items limit r) (piece_reach_of r p) ++ sum_up_items limit (map (raw r) qs))
        → EndsIn (can (raw r p)) (flat_map (piece_items limit r) (piece_reach_of r p) ++ sum_up_items limit (map (raw r) qs))
    ends-pieces [] e m =
        let xs = flat_map (piece_items limit r) (piece_reach_of r p) in
        ends-back (can (raw r p)) xs (made (can nothing) 0 ∷ [])
        (record { front = []; extra = 0; split = ap (λ z. made z 0 ∷ []) (sum-of_pieces [] e) })
    ends-pieces (q ∷ []) e m =
        let xs = flat_map (piece_items limit r) (piece_reach_of r p) in
        let (front, last) = last-piece r lawful cut.each p q has e in
        rw (append-nil xs) (ends-as (can (raw r q)) (can (raw r p)) xs (sum-of_pieces (q ∷ []) e)
        (ends-piece q front (piece_reach_of r p) last))
    ends-pieces (q ∷ s ∷ qs) e m =
        let xs = flat_map (piece_items limit r) (piece_reach_of r p) in
        let gs = map (raw r) qs in
        let ys = added_items limit (raw r q) (raw r s ∷ gs) in
        ends-back (can (raw r p)) xs ys (ends-as (can (added (raw r q) (raw r s ∷ gs))) (can (raw r p)) ys
        (sum-of_pieces (q ∷ s ∷ qs) e) (ends-added limit (raw r q) (raw r s) gs (are_made-back xs ys m)))

    pub ends-cut : AreMade (flat_map (piece_items limit r) (piece_reach_of r p) ++ joining_items limit r p)
        → EndsIn (can (raw r p)) (flat_map (piece_items limit r) (piece_reach_of r p) ++ joining_items limit r p)
    ends-cut m = ends-pieces (pieces r p) refl m
