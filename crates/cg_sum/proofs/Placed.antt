-- Two positions whose sum is made, at their indexes.
use Rattle.std.proofs.Common.{◌≡◌, ◌⊎◌, inl, inr, ℕ, ◌+◌, ◌*◌, ap, sym, ◌∙◌, subst, List, Option, Some, get_or, length, true}
use Rattle.std.specs.Prelude.{IfSome}
use Rattle.cg_arena.specs.Arena.{game_of}
use Rattle.cg_canon.specs.Arena.{Begins, IsAt}
use Rattle.cg_canon.specs.declared.walk.Position.{Position}
use Rattle.cg_dyadic.specs.Number.{Number}
use Rattle.cg_form.specs.Game.{Game, number}
use Rattle.cg_form.specs.Sum.{sum}
use Rattle.cg_nodes.specs.Can.{can}
use Rattle.cg_sum.specs.Progress.{ArePlaced, IsReady, sum_at_place}
use Rattle.cg_sum.specs.declared.terms.Terms.{Terms}
use Rattle.cg_sum.proofs.Sums.{IsNumber, can-sum_comm, can-sum_zero}
use Rattle.cg_sum.proofs.Tables.{holds_later}
use Rattle.cg_canon.proofs.WalkPositions as walks

pub placed_later : (gs hs : List Game) → Begins gs hs → (terms : Terms) (games : List Game × List Game) (row column : ℕ)
    → ArePlaced gs terms games row column → ArePlaced hs terms games row column
placed_later gs hs b terms games row column placed = record {
  firsts = walks.walk_later gs hs b terms.firsts games.0 placed.firsts;
  seconds = walks.walk_later gs hs b terms.seconds games.1 placed.seconds;
  within_rows = placed.within_rows;
  within_columns = placed.within_columns;
}

pub ready_later : (gs hs : List Game) → Begins gs hs → (terms : Terms) (games : List Game × List Game) (row column : ℕ) (table : List ℕ)
    → IsReady gs terms games row column table → IsReady hs terms games row column table
ready_later gs hs b terms games row column table ready = record {
  placed = placed_later gs hs b terms games row column ready.placed;
  holds = holds_later (sum_at_place games) gs hs b (row * length games.1 + column) table ready.holds;
}

pub at_as : (gs : List Game) (i : ℕ) (g h : Game) → g ≡ h → IsAt gs i g → IsAt gs i h
at_as gs i g h e a = rw (← e) a

pub some_at : (gs : List Game) (o : Option ℕ) (i : ℕ) (g : Game) → o ≡ Some i → IfSome o (λ k. IsAt gs k g) → IsAt gs i g
some_at gs o i g e a = let P : Option ℕ → Type 0 = λ z. IfSome z (λ k. IsAt gs k g) in subst P e a

pub begins_as : (fs gs hs : List Game) → gs ≡ fs → Begins gs hs → Begins fs hs
begins_as fs gs hs e b = rw (← e) b

module _ (gs : List Game) (terms : Terms) (games : List Game × List Game) (row column : ℕ)
    (placed : ArePlaced gs terms games row column) (f k : Position) (isf : f ≡ get_or terms.firsts.positions.items row f)
    (isk : k ≡ get_or terms.seconds.positions.items column k) where
  abbrev g : Game
  g = game_of games.0 row

  abbrev h : Game
  h = game_of games.1 column

  pub first_at : IsAt gs f.game g
  first_at = walks.at gs terms.firsts games.0 placed.firsts row f placed.within_rows isf

  pub second_at : IsAt gs k.game h
  second_at = walks.at gs terms.seconds games.1 placed.seconds column k placed.within_columns isk

  -- ---- the sum of 0 and a game

  pub zero_first : f.is_zero ≡ true → IsAt gs k.game (can (sum g h))
  zero_first e =
      let P : Game → Type 0 = λ z. IsAt gs k.game z in
      subst P (sym (ap (λ z. can (sum z h)) ((walks.place gs terms.firsts games.0 placed.firsts row f placed.within_rows isf).as_zero e)
      ∙ can-sum_zero h (walks.canonical gs terms.seconds games.1 placed.seconds column k placed.within_columns isk))) second_at

  pub zero_second : k.is_zero ≡ true → IsAt gs f.game (can (sum g h))
  zero_second e =
      let P : Game → Type 0 = λ z. IsAt gs f.game z in
      subst P (sym (can-sum_comm g h
      ∙ ap (λ z. can (sum z g)) ((walks.place gs terms.seconds games.1 placed.seconds column k placed.within_columns isk).as_zero e)
      ∙ can-sum_zero g (walks.canonical gs terms.firsts games.0 placed.firsts row f placed.within_rows isf))) first_at

  -- ---- the sum of the games at the two indexes

  pub same_sum : can (sum (game_of gs f.game) (game_of gs k.game)) ≡ can (sum g h)
  same_sum = ap (λ z. can (sum z (game_of gs k.game))) first_at.is ∙ ap (λ z. can (sum g z)) second_at.is

  pub sum_found : (o : Option ℕ) → IfSome o (λ i. IsAt gs i (can (sum (game_of gs f.game) (game_of gs k.game))))
      → IfSome o (λ i. IsAt gs i (can (sum g h)))
  sum_found o a = let P : Game → Type 0 = λ z. IfSome o (λ i. IsAt gs i z) in subst P same_sum a

  pub sum_at_indexes : (i : ℕ) → IsAt gs i (can (sum g h)) → IsAt gs i (can (sum (game_of gs f.game) (game_of gs k.game)))
  sum_at_indexes i a = at_as gs i _ _ (sym same_sum) a

  -- ---- numbers

  pub first_number : f.is_number ≡ true → (x : Number) × (game_of gs f.game ≡ number x)
  first_number e = walks.number_at_index gs terms.firsts games.0 placed.firsts row f placed.within_rows isf e

  pub second_number : k.is_number ≡ true → (x : Number) × (game_of gs k.game ≡ number x)
  second_number e = walks.number_at_index gs terms.seconds games.1 placed.seconds column k placed.within_columns isk e

  pub first_is : (x : Number) → game_of gs f.game ≡ number x → g ≡ number x
  first_is x e = sym first_at.is ∙ e

  pub second_is : (x : Number) → game_of gs k.game ≡ number x → h ≡ number x
  second_is x e = sym second_at.is ∙ e

  is_number : (z : Game) (x : Number) → z ≡ number x → IsNumber z
  is_number z x e = rw e tt

  pub one_first : f.is_number ≡ true → IsNumber g ⊎ IsNumber h
  one_first e = let (x, is) = first_number e in inl (is_number g x (first_is x is))

  pub one_second : k.is_number ≡ true → IsNumber g ⊎ IsNumber h
  one_second e = let (x, is) = second_number e in inr (is_number h x (second_is x is))
