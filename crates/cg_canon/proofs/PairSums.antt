-- Sums of two games in either order.
use Rattle.std.proofs.Common.{◌≡◌, ℕ, ◌⊎◌, inl, inr, ap, ◌∙◌, subst, Option, Some, None, List}
use Rattle.std.specs.Prelude.{IfSome}
use Rattle.cg_form.specs.Game.{Game}
use Rattle.cg_form.specs.Sum.{sum}
use Rattle.cg_form.proofs.SumLaws.{sum_comm}
use Rattle.cg_nodes.specs.Can.{can}
use Rattle.cg_nodes.proofs.Forms.{can-same}
use Rattle.cg_arena.specs.Arena.{IsIndex, game_of}
use Rattle.cg_canon.specs.declared.kept_sums.KeptSums.{KeptSums}
use Rattle.cg_canon.specs.Arena.{IsAt}
use Rattle.cg_canon.specs.KeptSums.{IsKeptSum, SumStands, SumsStand, kept_of}
use Rattle.cg_canon.proofs.InternerSteps.{sum_stands}

pub can-sum_comm : (g h : Game) → can (sum g h) ≡ can (sum h g)
can-sum_comm g h = can-same (sum g h) (sum h g) (sum_comm g h, sum_comm h g)

module _ (gs : List Game) (a b low high : ℕ) (order : ((low ≡ a) × (high ≡ b)) ⊎ ((low ≡ b) × (high ≡ a))) where
  one_sum : can (sum (game_of gs low) (game_of gs high)) ≡ can (sum (game_of gs a) (game_of gs b))
  one_sum = elim order [
    | inl e ↦ ap (λ z. can (sum (game_of gs z) (game_of gs high))) e.0 ∙ ap (λ z. can (sum (game_of gs a) (game_of gs z))) e.1
    | inr e ↦ ap (λ z. can (sum (game_of gs z) (game_of gs high))) e.0 ∙ ap (λ z. can (sum (game_of gs b) (game_of gs z))) e.1
        ∙ can-sum_comm (game_of gs b) (game_of gs a)
  ]

  pub pair_found : (t : KeptSums) (r : Option ℕ) → SumsStand gs t → IfSome r (IsKeptSum t low high)
      → IfSome r (λ i. IsAt gs i (can (sum (game_of gs a) (game_of gs b))))
  pair_found t (Some i) all k = let P : Game → Type 0 = λ z. IsAt gs i z in subst P one_sum (sum_stands gs t low high i all k).is
  pair_found t None all k = tt

  pub pair_kept : (i : ℕ) → IsIndex gs a → IsIndex gs b → IsAt gs i (can (sum (game_of gs a) (game_of gs b)))
      → SumStands gs (kept_of low high i)
  pair_kept i p q h =
      record {
        low = elim order [ inl e ↦ rw e.0 p | inr e ↦ rw e.0 q ];
        high = elim order [ inl e ↦ rw e.1 q | inr e ↦ rw e.1 p ];
        is = rw one_sum h;
      }
