-- Positions are no larger than their game, so a game is no position of its options.
use Rattle.std.proofs.Common.{◌≤◌, arith, inl, inr, ap, ◌≡◌, [], ◌∷◌, ◌++◌, Bool}
use Rattle.cg_form.specs.Game.{Among, Game, Games, more, none, number, options}
use Rattle.cg_form.specs.Side.{far}
use Rattle.cg_form.specs.Size.{size, sizes}
use Rattle.cg_form.proofs.Among.{among-append}
use Rattle.cg_form.proofs.Sides.{size-far}
use Rattle.cg_form.specs.Positions.{all_positions, positions_in}

mutual
  pub position-size : (g x : Game) → Among x (all_positions g) → size x ≤ size g
  position-size (number y) x (inl e) = let s : size x ≡ size (number y) = ap size e in omega arith
  position-size (number y) x (inr m) = absurd m
  position-size (options ls rs) x m = elim (among-append x (positions_in ls ++ positions_in rs) (options ls rs ∷ [])
      m) [
        | inl n ↦ elim (among-append x (positions_in ls) (positions_in rs) n) [
          | inl k ↦ let s = positions-size ls x k in omega arith
          | inr k ↦ let s = positions-size rs x k in omega arith
        ]
        | inr (inl e) ↦ let s : size x ≡ size (options ls rs) = ap size e in omega arith
        | inr (inr k) ↦ absurd k
      ]

  positions-size : (gs : Games) (x : Game) → Among x (positions_in gs) → size x ≤ sizes gs
  positions-size none x m = absurd m
  positions-size (more g gs) x m = elim (among-append x (all_positions g) (positions_in gs) m) [
    | inl n ↦ let s = position-size g x n in omega arith
    | inr n ↦ let s = positions-size gs x n in omega arith
  ]

pub not_position-far : (s : Bool) (g u : Game) → Among u (far s g) → ¬ Among g (all_positions u)
not_position-far s g u m n = absurd (let a = size-far s g u m in let b = position-size u g n in omega arith)
