-- Games that one move leads to.
use Rattle.std.proofs.Common.{◌≡◌, ℕ, sym, ◌∙◌, ap, List, eqb, false, true}
use Rattle.std.specs.List.{list_any}
use Rattle.std.proofs.lemmas.Bool.Decides.{Decides-eqb}
use Rattle.std.proofs.lemmas.List.{get_or_default}
use Rattle.std.proofs.lemmas.List.Folds.{Any-from_list_any}
use Rattle.cg_dyadic.proofs.Truth.{false-from}
use Rattle.cg_form.specs.Game.{Among, Game, lefts, node, rights}
use Rattle.cg_form.specs.Order.{le}
use Rattle.cg_form.proofs.Among.{lefts-node, rights-node}
use Rattle.cg_form.proofs.Preorder.{not_le-left, not_le-right}
use Rattle.cg_arena.specs.Arena.{game_of, games_of}
use Rattle.cg_arena.proofs.Slices.{item_among}

-- an index that a search finds
found_among : (gs : List Game) (ps : List ℕ) (k : ℕ) → list_any (λ y. eqb y k) ps ≡ true → Among (game_of gs k) (games_of gs ps)
found_among gs ps k e =
    let h = Any-from_list_any (λ y. eqb y k) ps e in
    let same : h.1 ≡ k = (Decides-eqb h.1 k).0 h.4 in
    item_among gs ps h.0 k h.2 (sym same ∙ sym h.3 ∙ get_or_default ps h.0 h.1 0 h.2)

-- no game is at most one that Left's move from it leads to
pub past_left : (gs : List Game) (g : Game) (ls rs : List ℕ) (k : ℕ) → g ≡ node (games_of gs ls) (games_of gs rs)
    → list_any (λ y. eqb y k) ls ≡ true → le g (game_of gs k) ≡ false
past_left gs g ls rs k same e =
    let there : Among (game_of gs k) (lefts g) = rw (ap lefts same ∙ lefts-node (games_of gs ls) (games_of gs rs)) (found_among gs ls k e) in
    false-from (le g (game_of gs k)) (not_le-left g (game_of gs k) there)

-- no game is at least one that Right's move from it leads to
pub past_right : (gs : List Game) (h : Game) (ls rs : List ℕ) (k : ℕ) → h ≡ node (games_of gs ls) (games_of gs rs)
    → list_any (λ y. eqb y k) rs ≡ true → le (game_of gs k) h ≡ false
past_right gs h ls rs k same e =
    let there : Among (game_of gs k) (rights h) = rw (ap rights same ∙ rights-node (games_of gs ls) (games_of gs rs)) (found_among gs rs k e) in
    false-from (le (game_of gs k) h) (not_le-right h (game_of gs k) there)
