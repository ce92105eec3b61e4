-- The positions of a walk that was found, at their places and at their indexes.
use Rattle.std.proofs.Common.{◌≡◌, ℕ, ◌<◌, arith, ap, sym, ◌∙◌, subst, List, [], get_or, length, true, false}
use Rattle.std.proofs.lemmas.List.{get_or-map, length-map}
use Rattle.std.proofs.lemmas.List.Elements.{All-get_or}
use Rattle.cg_dyadic.specs.Number.{Number}
use Rattle.cg_form.specs.Canonical.{Canonical}
use Rattle.cg_form.specs.Game.{Game, IsNode, node, number}
use Rattle.cg_arena.specs.Arena.{IsIndex, game_of}
use Rattle.cg_canon.specs.Arena.{Begins, IsAt}
use Rattle.cg_canon.specs.Walk.{IsPlace, IsWalk, indexes_of}
use Rattle.cg_canon.specs.declared.walk.Position.{Position}
use Rattle.cg_canon.specs.declared.walk.Walk.{Walk}
use Rattle.cg_canon.proofs.InternerSteps.{stand_begins}

pub walk_later : (gs hs : List Game) → Begins gs hs → (w : Walk) (fs : List Game) → IsWalk gs w fs → IsWalk hs w fs
walk_later gs hs b w fs is = record {
  at = stand_begins gs hs (indexes_of w.positions.items) fs b is.at;
  canonical = is.canonical;
  places = is.places;
}

pub walk_as : (gs : List Game) (w : Walk) (fs hs : List Game) → fs ≡ hs → IsWalk gs w fs → IsWalk gs w hs
walk_as gs w fs hs e is = rw (← e) is

pub is_node : (g : Game) (ls rs : List Game) → g ≡ node ls rs → IsNode g
is_node g ls rs e = rw e tt

module _ (gs : List Game) (w : Walk) (fs : List Game) (is : IsWalk gs w fs) where
  pub count : length w.positions.items ≡ length fs
  count =
      sym (length-map w.positions.items (λ p. p.game)) ∙ sym (length-map (indexes_of w.positions.items) (game_of gs))
      ∙ ap length is.at.1

  -- a number below that of the positions
  pub inside_walk : (i n : ℕ) → n ≡ w.positions.len → i < n → i < length fs
  inside_walk i n e l = let k = w.positions.ok.0 in let c = count in omega (arith, e, k, c, l)

  module _ (i : ℕ) (p : Position) (within : i < length fs) (read : p ≡ get_or w.positions.items i p) where
    pub inside : i < length w.positions.items
    inside = let P : ℕ → Type 0 = λ z. i < z in subst P (sym count) within

    pub place : IsPlace w.options.items fs i p
    place = is.places i p inside read

    pub canonical : Canonical (game_of fs i)
    canonical = All-get_or (λ z. Canonical z) fs i (node [] []) within is.canonical

    -- it stands at its index
    pub at : IsAt gs p.game (game_of fs i)
    at =
        let ps = indexes_of w.positions.items in
        let l : i < length ps = (let n = length-map w.positions.items (λ p. p.game) in let h = inside in omega arith) in
        let own : get_or ps i 0 ≡ p.game = get_or-map (λ p. p.game) w.positions.items i p 0 inside ∙ ap (λ z. z.game) (sym read) in
        rw (← own) (record {
          within = All-get_or (λ z. IsIndex gs z) ps i 0 l is.at.0;
          is = sym (get_or-map (game_of gs) ps i 0 (node [] []) l) ∙ ap (λ z. game_of z i) is.at.1;
        })

    pub number_at_index : p.is_number ≡ true → (x : Number) × (game_of gs p.game ≡ number x)
    number_at_index e = let n = place.as_number e in (n.x, at.is ∙ n.is)

    pub node_of_place : p.is_number ≡ false → IsNode (game_of fs i)
    node_of_place e = is_node (game_of fs i) _ _ (place.as_node e)
