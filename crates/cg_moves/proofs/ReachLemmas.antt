-- The boards that play can come to: all are boards of the game, and the board itself is the last.
use Rattle.std.proofs.Common.{◌≡◌, suc, ◌<◌, true, inl, inr, [], ◌∷◌, ◌++◌, ap, ◌∙◌, arith}
use Rattle.std.specs.List.{flat_map}
use Rattle.cg_moves.specs.Grid.{Grid}
use Rattle.cg_moves.specs.Lawful.{IsLawful}
use Rattle.cg_moves.specs.Rules.{GameRules, In, followers}
use Rattle.cg_moves.specs.declared.edges.Edges.TheVariants.{Moves}
use Rattle.cg_moves.specs.Kept.{kept}
use Rattle.cg_moves.specs.Plays.{Play, play_of}
use Rattle.cg_moves.specs.Reach.{all_reached, reach_of}
use Rattle.cg_moves.proofs.Bounds.{follower-has, follower-lowers, reached-moves}
use Rattle.cg_form.proofs.Firsts.{extended-among, extended-append, once-extended, one_more-new}
use Rattle.cg_moves.proofs.Same.{boards}
use Rattle.cg_moves.proofs.Members.{carry, in-flat_map}
use Rattle.cg_moves.proofs.PlayLemmas.{by-moves}
use Rattle.cg_moves.proofs.PlayOrder.{all-each}

module _ (r : GameRules) where
  pub reach-kept : (p : Grid) → reach_of r p ≡ kept [] (all_reached r p)
  unfolding reach_of
  reach-kept p = once-extended boards (all_reached r p)

  module _ (lawful : IsLawful r) where
    abbrev w : Play
    w = play_of r Moves

    -- what holds of a board, and with each board of those that its moves lead to, holds of all that play can come to
    each-reached : (P : Grid → Type 0) → ((q s : Grid) → r.has q ≡ true → P q → In s (followers r q) → P s) → (p : Grid)
        → r.has p ≡ true → P p → (q : Grid) → In q (all_reached r p) → P q
    each-reached P step p has base q m =
        all-each w (by-moves r lawful) P step (suc (r.measure p)) p (omega arith) has base q m

    -- ---- the boards that play can come to, each once

    in-reach : (p q : Grid) → In q (reach_of r p) → In q (all_reached r p)
    in-reach p q m = elim (extended-among boards [] (all_reached r p) q (carry q (reach_of r p) (kept [] (all_reached r p))
        (reach-kept p) m)) [
          | inl nothing ↦ absurd nothing
          | inr n ↦ n
        ]

    pub reach-has : (p q : Grid) → r.has p ≡ true → In q (reach_of r p) → r.has q ≡ true
    reach-has p q has m = each-reached (λ z. r.has z ≡ true) (λ s t h k l. follower-has r lawful.moves s t h l) p has has q (in-reach p q m)

    before-lower : (p q : Grid) → r.has p ≡ true → In q (flat_map (all_reached r) (followers r p)) → r.measure q < r.measure p
    before-lower p q has m =
        let (s, l, o) = in-flat_map (all_reached r) q (followers r p) m in
        let shas = follower-has r lawful.moves p s has l in
        let both = each-reached (λ z. (r.measure z < r.measure p) × (r.has z ≡ true))
        (λ u v h k n. let low = follower-lowers r lawful.moves u v h n in let b = k.0 in (
          omega arith,
          follower-has r lawful.moves u v h n,
        )) s shas (follower-lowers r lawful.moves p s has l, shas) q o in
        both.0

    -- the board itself is the last
    pub reach-last : (p : Grid) → r.has p ≡ true → reach_of r p ≡ kept [] (flat_map (all_reached r) (followers r p)) ++ (p ∷ [])
    reach-last p has =
        let before = flat_map (all_reached r) (followers r p) in
        reach-kept p ∙ ap (kept []) (reached-moves r lawful.moves p has) ∙ extended-append boards [] before (p ∷ [])
        ∙ one_more-new boards (kept [] before) p (λ m. elim (extended-among boards [] before p m) [
          | inl nothing ↦ nothing
          | inr n ↦ (let low = before-lower p p has n in absurd (omega arith))
        ])
