-- What is known stays known.
use Rattle.std.proofs.Common.{◌≡◌, ℕ, ◌+◌, Option, Some, None, List, [], ◌∷◌, arith, ap, sym, refl, ◌∙◌}
use Rattle.cg_form.specs.Game.{Game}
use Rattle.cg_cells.specs.Meaning.{Grows}
use Rattle.cg_cells.specs.Store.{State, Spends, thing_at}
use Rattle.cg_nodes.specs.Meant.{Meant, form, list}
use Rattle.cg_nodes.specs.Games.{IsGame, StandsFor, StandFor, game_at, game_in, ListsAs, listed, list_in_or, IsList, AreGames, games_at}

-- ---- two states

pub stands_game : {R : Type 0} (s : State Meant R) (h : ℕ) (g : Game) → StandsFor s h g → game_at s h ≡ g
stands_game s h g e = ap game_in e

pub stands_is_game : {R : Type 0} (s : State Meant R) (h : ℕ) (g : Game) → StandsFor s h g → IsGame s h
stands_is_game s h g e = e ∙ ap (λ k. Some (form k)) (sym (stands_game s h g e))

module _ {R Q : Type 0} (s : State Meant R) (t : State Meant Q) (grows : Grows (thing_at s) (thing_at t)) where
  pub stands_later : (h : ℕ) (g : Game) → StandsFor s h g → StandsFor t h g
  stands_later h g e = grows h (form g) e

  pub game_later : (h : ℕ) → IsGame s h → game_at t h ≡ game_at s h
  game_later h g = ap game_in (grows h (form (game_at s h)) g)

  pub is_game_later : (h : ℕ) → IsGame s h → IsGame t h
  is_game_later h g = stands_is_game t h (game_at s h) (grows h (form (game_at s h)) g)

  pub are_games_later : (hs : List ℕ) → AreGames s hs → AreGames t hs
  are_games_later [] a = tt
  are_games_later (h ∷ hs) a = (is_game_later h a.0, are_games_later hs a.1)

  pub games_later : (hs : List ℕ) → AreGames s hs → games_at t hs ≡ games_at s hs
  games_later [] a = refl
  games_later (h ∷ hs) a =
      ap (λ g. g ∷ games_at t hs) (game_later h a.0) ∙ ap (λ gs. game_at s h ∷ gs) (games_later hs a.1)

  pub stand_later : (hs : List ℕ) (gs : List Game) → StandFor s hs gs → StandFor t hs gs
  stand_later hs gs a = (are_games_later hs a.0, games_later hs a.0 ∙ a.1)

  pub lists_later : (o : Option ℕ) (gs : List Game) → ListsAs s o gs → ListsAs t o gs
  lists_later None gs l = l
  lists_later (Some i) [] l = absurd l
  lists_later (Some i) (g ∷ gs) l = grows i (list (g ∷ gs)) l

pub listed_as : {R : Type 0} (s : State Meant R) (o : Option ℕ) (gs : List Game) → ListsAs s o gs → listed s o ≡ gs
listed_as s None gs l = sym l
listed_as s (Some i) [] l = absurd l
listed_as s (Some i) (g ∷ gs) l = ap list_in_or l

pub is_list_as : {R : Type 0} (s : State Meant R) (o : Option ℕ) (gs : List Game) → ListsAs s o gs → IsList s o
is_list_as s o gs l = rw (listed_as s o gs l) l

module _ {R Q : Type 0} (s : State Meant R) (t : State Meant Q) (grows : Grows (thing_at s) (thing_at t)) where
  pub listed_later : (o : Option ℕ) → IsList s o → listed t o ≡ listed s o
  listed_later o l = listed_as t o (listed s o) (lists_later s t grows o (listed s o) l)

  pub is_list_later : (o : Option ℕ) → IsList s o → IsList t o
  is_list_later o l =
      rw (listed_later o l) (lists_later s t grows o (listed s o) l)

-- ---- what a call spends

pub nothing_spent : {R : Type 0} (s : State Meant R) → Spends 0 s s
nothing_spent s = record { known = λ i x e. e; noted = λ x h. h; spare = omega arith; rest = refl }

pub spends_then : {R : Type 0} (n m : ℕ) (s t u : State Meant R) → Spends n s t → Spends m t u → Spends (n + m) s u
spends_then n m s t u a b = record {
  known = λ i x e. b.known i x (a.known i x e);
  noted = λ x h. b.noted x (a.noted x h);
  spare = omega arith;
  rest = b.rest ∙ a.rest;
}
