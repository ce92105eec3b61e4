-- The least natural number that a list hasn't, and games that equal nimbers.
-- Siegel, Combinatorial Game Theory (2013), IV.1: the minimal excluded value.
use Rattle.std.specs.Prelude.{ℕ, ◌<◌, ◌≡◌, ◌⊎◌, ◌↔◌, List, [], ◌∷◌}
use Rattle.cg_form.specs.Game.{Among, Game, lefts, rights}
use Rattle.cg_form.specs.Order.{Equal}
use Rattle.cg_nimbers.specs.Nimbers.{nimber_form}

-- the number is in the list
abbrev pub Listed : ℕ → List ℕ → Type 0
Listed i [] = ⊥
Listed i (k ∷ ks) = (i ≡ k) ⊎ Listed i ks

-- the list has each lesser number, and hasn't this one
pub record IsLeastMissing (ks : List ℕ) (k : ℕ) : Type 0 where
  pub missing : ¬ Listed k ks
  pub least : (i : ℕ) → i < k → Listed i ks

-- the game has the same options on both sides
abbrev pub SameOptions : Game → Type 0
SameOptions g = (a : Game) → Among a (lefts g) ↔ Among a (rights g)

-- each game of the list equals the nimber of the number in its place
abbrev pub AreNimbers : List Game → List ℕ → Type 0
AreNimbers [] [] = Unit {0}
AreNimbers [] (k ∷ ks) = ⊥
AreNimbers (g ∷ gs) [] = ⊥
AreNimbers (g ∷ gs) (k ∷ ks) = Equal g (nimber_form k) × AreNimbers gs ks
