-- The games of a list of handles, up to one of them.
use Rattle.std.proofs.Common.{◌≡◌, ◌∙◌, refl, ℕ, zero, ◌+◌, ◌≤◌, ◌<◌, arith, suc, ap, sym, subst, List, [], ◌∷◌, ◌++◌, take, get_or, length}
use Rattle.std.proofs.Math.Seq.{take-suc}
use Rattle.std.proofs.lemmas.List.{length_push, take_all}
use Rattle.cg_cells.specs.Store.{State}
use Rattle.cg_form.specs.Game.{Game}
use Rattle.cg_arena.specs.Arena.{game_of, games_of}
use Rattle.cg_arena.proofs.Slices as arena
use Rattle.cg_nodes.proofs.Later.{stands_game, stands_is_game}
use Rattle.cg_nodes.specs.Games.{AreGames, IsGame, StandFor, StandsFor, game_at, games_at}
use Rattle.cg_nodes.specs.Meant.{Meant}

pub game_of_item : {R : Type 0} (s : State Meant R) (hs : List ℕ) (i d : ℕ) → AreGames s hs → i < length hs
    → IsGame s (get_or hs i d)
game_of_item s [] i d a h = absurd (omega arith)
game_of_item s (k ∷ hs) zero d a h = a.0
game_of_item s (k ∷ hs) (suc i) d a h = game_of_item s hs i d a.1 (omega arith)

-- ---- one handle more

pub are_games_pushed : {R : Type 0} (s : State Meant R) (hs : List ℕ) (h : ℕ) → AreGames s hs → IsGame s h → AreGames s (hs ++ (h ∷ []))
are_games_pushed s [] h a g = (g, tt)
are_games_pushed s (k ∷ hs) h a g = (a.0, are_games_pushed s hs h a.1 g)

pub games_at_pushed : {R : Type 0} (s : State Meant R) (hs : List ℕ) (h : ℕ) → games_at s (hs ++ (h ∷ [])) ≡ games_at s hs ++ (game_at s h ∷ [])
games_at_pushed s [] h = refl
games_at_pushed s (k ∷ hs) h = ap (λ z. game_at s k ∷ z) (games_at_pushed s hs h)

pub stand_more : {R : Type 0} (s : State Meant R) (hs : List ℕ) (h : ℕ) (gs : List Game) (g : Game) → StandFor s hs gs
    → StandsFor s h g → StandFor s (hs ++ (h ∷ [])) (gs ++ (g ∷ []))
stand_more s hs h gs g a b = (
  are_games_pushed s hs h a.0 (stands_is_game s h g b),
  games_at_pushed s hs h ∙ ap (λ z. z ++ (game_at s h ∷ [])) a.1 ∙ ap (λ z. gs ++ (z ∷ [])) (stands_game s h g b),
)

-- ---- the first handles

pub games_take_suc : {R : Type 0} (s : State Meant R) (hs : List ℕ) (i d : ℕ) → i < length hs
    → games_at s (take (suc i) hs) ≡ games_at s (take i hs) ++ game_at s (get_or hs i d) ∷ []
games_take_suc s hs i d h = ap (games_at s) (take-suc hs i d h) ∙ games_at_pushed s (take i hs) (get_or hs i d)

pub games_take_all : {R : Type 0} (s : State Meant R) (hs : List ℕ) (i : ℕ) → length hs ≤ i
    → games_at s (take i hs) ≡ games_at s hs
games_take_all s hs i h = ap (games_at s) (take_all i hs h)

-- there is one more of them
pub pushed_count : {A : Type 0} (xs ys : List A) (x : A) (n : ℕ) → length xs ≡ n → ys ≡ xs ++ (x ∷ []) → length ys ≡ n + 1
pushed_count xs ys x n count e = ap length e ∙ length_push xs x ∙ ap (λ z. z + 1) count

-- ---- the handles of the games at indexes

module _ {R : Type 0} (s : State Meant R) (gs : List Game) where
  pub stand_none : (hs ps : List ℕ) → hs ≡ [] → StandFor s hs (games_of gs (take 0 ps))
  stand_none hs ps e = let P : List ℕ → Type 0 = λ z. StandFor s z [] in subst P (sym e) (tt, refl)

  pub stand_next : (hs more ps : List ℕ) (i h : ℕ) → StandFor s hs (games_of gs (take i ps)) → i < length ps
      → StandsFor s h (game_of gs (get_or ps i 0)) → more ≡ hs ++ (h ∷ []) → StandFor s more (games_of gs (take (i + 1) ps))
  stand_next hs more ps i h so_far less is e =
      let P : List ℕ → List Game → Type 0 = λ z k. StandFor s z k in
      let one : i + 1 ≡ suc i = omega arith in
      let all = ap (λ z. games_of gs (take z ps)) one ∙ arena.games_take_suc gs ps i 0 less in
      subst (λ z. P z (games_of gs (take (i + 1) ps))) (sym e) (subst (P (hs ++ (h ∷ []))) (sym all) (stand_more s hs h _ _ so_far is))
