-- Members of lists of handles, and of the games that they stand for.
use Rattle.std.proofs.Common.{◌≡◌, ℕ, suc, refl, inl, inr, sym, ap, List, [], ◌∷◌, length}
use Rattle.cg_cells.specs.Meaning.{Has}
use Rattle.cg_cells.specs.Store.{State}
use Rattle.cg_form.specs.Game.{Among, Game}
use Rattle.cg_nodes.specs.Games.{AreGames, IsGame, StandsFor, games_at, game_at}
use Rattle.cg_nodes.specs.Meant.{Meant}

module _ {R : Type 0} (s : State Meant R) where
  pub length_games : (hs : List ℕ) → length (games_at s hs) ≡ length hs
  length_games [] = refl
  length_games (h ∷ hs) = ap suc (length_games hs)

  pub has_game : (hs : List ℕ) (h : ℕ) → AreGames s hs → Has hs h → IsGame s h
  has_game [] h a m = absurd m
  has_game (k ∷ hs) h a (inl e) = rw e at a.0
  has_game (k ∷ hs) h a (inr m) = has_game hs h a.1 m

  pub has_among : (hs : List ℕ) (h : ℕ) → Has hs h → Among (game_at s h) (games_at s hs)
  has_among [] h m = absurd m
  has_among (k ∷ hs) h (inl e) = inl (ap (game_at s) (sym e))
  has_among (k ∷ hs) h (inr m) = inr (has_among hs h m)

  -- some handle of the list stands for each game of its games
  pub among_has : (hs : List ℕ) (a : Game) → AreGames s hs → Among a (games_at s hs)
      → (p : ℕ) × Has hs p × StandsFor s p a
  among_has [] a g m = absurd m
  among_has (h ∷ hs) a g (inl e) =
      (h, inl refl, rw e g.0)
  among_has (h ∷ hs) a g (inr m) = let (p, k, e) = among_has hs a g.1 m in (p, inr k, e)
