-- Where a board has one piece, that piece is the last that play can come to.
use Rattle.std.proofs.Common.{◌≡◌, refl, suc, ◌<◌, true, inl, inr, List, [], ◌∷◌, ◌++◌, ap, sym, ◌∙◌, arith}
use Rattle.std.specs.List.{flat_map}
use Rattle.std.proofs.lemmas.List.{append-nil}
use Rattle.cg_form.proofs.Firsts.{extended-among, extended-append, one_more-new}
use Rattle.cg_moves.proofs.Same.{boards}
use Rattle.cg_moves.proofs.Members.{carry, in-flat_map}
use Rattle.cg_moves.proofs.PlayLemmas.{by-pieces, piece_reach-kept}
use Rattle.cg_moves.proofs.PlayOrder.{all-each}
use Rattle.cg_moves.specs.Grid.{Grid}
use Rattle.cg_moves.specs.Kept.{kept}
use Rattle.cg_moves.specs.PieceReach.{piece_reach_of}
use Rattle.cg_moves.specs.Plays.{IsPlay, Play, next_pieces, pieces_after}
use Rattle.cg_moves.specs.Lawful.{ArePieces, IsLawful}
use Rattle.cg_moves.specs.Rules.{GameRules, In, pieces}

module _ (w : Play) (lawful : IsPlay w) where
  after-lower : (p q : Grid) → w.has p ≡ true → In q (flat_map w.all (w.next p)) → w.measure q < w.measure p
  after-lower p q has m =
      let (s, l, o) = in-flat_map w.all q (w.next p) m in
      let there = lawful.has p s has l in
      let both = all-each w lawful (λ z. (w.measure z < w.measure p) × (w.has z ≡ true))
      (λ u v h k n. let low = lawful.lowers u v h n in let b = k.0 in (omega (arith, low, b), lawful.has u v h n))
      (suc (w.measure s)) s (omega arith) there (lawful.lowers p s has l, there) q o in
      both.0

  -- each board is the last of those that come after it, with itself
  last-of_all : (p : Grid) → w.has p ≡ true → kept [] (w.all p) ≡ kept [] (flat_map w.all (w.next p)) ++ (p ∷ [])
  last-of_all p has =
      let before = flat_map w.all (w.next p) in
      ap (kept []) (lawful.all p has) ∙ extended-append boards [] before (p ∷ [])
      ∙ one_more-new boards (kept [] before) p (λ m. elim (extended-among boards [] before p m) [
        | inl nothing ↦ nothing
        | inr n ↦ (let low = after-lower p p has n in absurd (omega (arith, low)))
      ])

pub last-piece : (r : GameRules) (lawful : IsLawful r) (each : ArePieces r) (p q : Grid) → r.has p ≡ true → pieces r p ≡ q ∷ []
    → (front : List Grid) × (piece_reach_of r p ≡ front ++ (q ∷ []))
last-piece r lawful each p q has one =
    let there : r.has q ≡ true = each.has p q has (carry q (q ∷ []) (pieces r p) (sym one) (inl refl)) in (
      kept [] (flat_map (pieces_after r) (next_pieces r q)),
      piece_reach-kept r lawful each p has ∙ ap (λ z. kept [] (flat_map (pieces_after r) z)) one
          ∙ ap (kept []) (append-nil (pieces_after r q)) ∙ last-of_all _ (by-pieces r lawful each) q there,
    )
