-- A game is stored as a list of signs, from which it can be built again.
use Rattle.std.specs.Prelude.{ℕ, zero, suc, ℤ, ◌⊎◌, ◌≡◌, List, [], ◌∷◌, refl}
use Rattle.std.specs.Coded.{Coded, code_by, coded_ℕ, coded_ℤ, coded_list, coded×, coded⊎}
use mathlib.Core.Logic.{inl, inr}
use mathlib.Core.Path.{ap, ◌∙◌}
use Rattle.cg_dyadic.specs.Number.{Number, between, whole}
use Rattle.cg_form.specs.Game.{Game, Games, more, none, number, options}

abbrev number_parts : Number → ℤ ⊎ (ℤ × ℕ)
number_parts (whole n) = inl n
number_parts (between n k) = inr (n, k)

abbrev number_from : ℤ ⊎ (ℤ × ℕ) → Number
number_from (inl n) = whole n
number_from (inr p) = between p.0 p.1

abbrev number_again : (x : Number) → number_from (number_parts x) ≡ x
number_again (whole n) = refl
number_again (between n k) = refl

abbrev number_code : Coded Number
number_code = code_by (ℤ ⊎ (ℤ × ℕ)) (coded⊎ coded_ℤ (coded× coded_ℤ coded_ℕ)) number_parts number_from number_again

-- 0 for the end of a list, 1 for an option before a list, 2 for a game of two lists
abbrev Sign : Type 0
Sign = Number ⊎ ℕ

abbrev mutual
  signs : Game → List Sign → List Sign
  signs (number x) k = inl x ∷ k
  signs (options ls rs) k = list_signs ls (list_signs rs (inr 2 ∷ k))

  list_signs : Games → List Sign → List Sign
  list_signs none k = inr 0 ∷ k
  list_signs (more g gs) k = signs g (list_signs gs (inr 1 ∷ k))

abbrev left_list : Game → Games
left_list (number x) = none
left_list (options ls rs) = ls

abbrev apply_sign : Sign → List Game → List Game
apply_sign (inl x) st = number x ∷ st
apply_sign (inr zero) st = options none none ∷ st
apply_sign (inr (suc zero)) (l ∷ (g ∷ st)) = options (more g (left_list l)) none ∷ st
apply_sign (inr (suc (suc n))) (r ∷ (l ∷ st)) = options (left_list l) (left_list r) ∷ st
apply_sign _ _ = []

abbrev built : List Sign → List Game → List Game
built [] st = st
built (s ∷ ss) st = built ss (apply_sign s st)

abbrev first_game : List Game → Game
first_game [] = options none none
first_game (g ∷ gs) = g

abbrev mutual
  built-signs : (g : Game) (k : List Sign) (st : List Game) → built (signs g k) st ≡ built k (g ∷ st)
  built-signs (number x) k st = refl
  built-signs (options ls rs) k st =
      built-list_signs ls (list_signs rs (inr 2 ∷ k)) st ∙ built-list_signs rs (inr 2 ∷ k) (options ls none ∷ st)

  built-list_signs : (gs : Games) (k : List Sign) (st : List Game) → built (list_signs gs k) st ≡ built k (options gs none ∷ st)
  built-list_signs none k st = refl
  built-list_signs (more g gs) k st =
      built-signs g (list_signs gs (inr 1 ∷ k)) st ∙ built-list_signs gs (inr 1 ∷ k) (g ∷ st)

abbrev pub game_code : Coded Game
game_code = code_by (List Sign) (coded_list (coded⊎ number_code coded_ℕ)) (λ g. signs g []) (λ ss. first_game (built ss [])) (λ g. ap first_game (built-signs g
    [] []))
