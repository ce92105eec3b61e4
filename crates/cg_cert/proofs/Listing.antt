-- The options of a position, as positions.
use Rattle.std.proofs.Common.{◌≡◌, refl, ap, sym, ◌∙◌, ℕ, suc, arith, List, [], ◌∷◌, map, Result, Ok, Err, IfOk, Bool, true, false, cond}
use Rattle.cg_dyadic.specs.Number as dyadic
use Rattle.cg_dyadic.specs.Number.{number_lefts, number_rights}
use Rattle.cg_form.specs.Game.{Game, node, number}
use Rattle.cg_form.specs.Side.{near}
use Rattle.cg_form.proofs.Among.{lefts-node, rights-node}
use Rattle.cg_arena.specs.Arena.{AreIndexes, game_of, games_of}
use Rattle.cg_cert.specs.declared.position.Position.{Position}
use Rattle.cg_cert.specs.declared.position.Position.TheVariants.{At, Number}
use Rattle.cg_cert.specs.Positions.{ArePositions, ArePositionsOf, positions_at}

module _ (arena : List Game) where
  -- ---- the positions at indexes

  are_at : (is : List ℕ) → AreIndexes arena is → ArePositions arena (map At is)
  are_at [] a = tt
  are_at (i ∷ is) a = (a 0 i (omega arith), are_at is (λ k d l. a (suc k) d (omega arith)))

  games_at : (is : List ℕ) → positions_at arena (map At is) ≡ games_of arena is
  games_at [] = refl
  games_at (i ∷ is) = ap (λ z. game_of arena i ∷ z) (games_at is)

  -- ---- the options of a number

  are_numbers : (xs : List dyadic.Number) → ArePositions arena (map Number xs)
  are_numbers [] = tt
  are_numbers (x ∷ xs) = (tt, are_numbers xs)

  numbers_at : (xs : List dyadic.Number) → positions_at arena (map Number xs) ≡ map number xs
  numbers_at [] = refl
  numbers_at (x ∷ xs) = ap (λ z. number x ∷ z) (numbers_at xs)

  own_numbers : (left : Bool) (x : dyadic.Number)
      → map number (cond left (number_lefts x) (number_rights x)) ≡ near left (number x)
  own_numbers true x = refl
  own_numbers false x = refl

  pub numbered : {V E : Type 0} (left : Bool) (x : dyadic.Number) (g : Game) (f : V → List Position) (result : Result V E)
      → g ≡ number x → IfOk result (λ v. f v ≡ map Number (cond left (number_lefts x) (number_rights x)))
      → IfOk result (λ v. ArePositionsOf arena (f v) (near left g))
  numbered left x g f (Ok v) k e = let xs = cond left (number_lefts x) (number_rights x) in
      rw e (rw k (are_numbers xs, numbers_at xs ∙ own_numbers left x))
  numbered left x g f (Err a) k e = tt

  -- ---- the options at the indexes of the player's own list

  own_games : (left : Bool) (ls rs : List ℕ) → games_of arena (cond left ls rs) ≡ near left (node (games_of arena ls) (games_of arena rs))
  own_games true ls rs = sym (lefts-node (games_of arena ls) (games_of arena rs))
  own_games false ls rs = sym (rights-node (games_of arena ls) (games_of arena rs))

  own_indexes : (left : Bool) (ls rs : List ℕ) → AreIndexes arena ls → AreIndexes arena rs → AreIndexes arena (cond left ls rs)
  own_indexes true ls rs a b = a
  own_indexes false ls rs a b = b

  pub listed : {V E : Type 0} (left : Bool) (g : Game) (ls rs now : List ℕ) (f : V → List Position) (result : Result V E)
      → AreIndexes arena ls × AreIndexes arena rs × (g ≡ node (games_of arena ls) (games_of arena rs))
      → now ≡ cond left ls rs → IfOk result (λ v. f v ≡ map At now) → IfOk result (λ v. ArePositionsOf arena (f v) (near left g))
  listed left g ls rs now f (Ok v) (a, b, k) n e = let own = cond left ls rs in
      rw (e, n) (rw k (are_at own (own_indexes left ls rs a b), games_at own ∙ own_games left ls rs))
  listed left g ls rs now f (Err a) k n e = tt
