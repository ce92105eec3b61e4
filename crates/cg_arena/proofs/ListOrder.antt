-- The structural order of two lists of indexes, entry by entry.
use Rattle.std.proofs.Common.{◌≡◌, refl, ℕ, zero, suc, ◌+◌, ◌≤◌, ◌<◌, arith, ap, sym, ◌∙◌, List, [], ◌∷◌, drop, get_or, length}
use Rattle.std.specs.declared.cmp.Ordering.TheVariants.{Less, Greater}
use Rattle.std.proofs.Math.Seq.{drop-cons}
use Rattle.cg_form.specs.Game.{Game}
use Rattle.cg_form.specs.Structure.{order_of_lists}
use Rattle.cg_arena.specs.Arena.{game_of, games_of}

-- what is left from i on decides the order
pub record Passed (gs : List Game) (ps qs : List ℕ) (i : ℕ) : Type 0 where
  pub order : order_of_lists (games_of gs ps) (games_of gs qs) ≡ order_of_lists (games_of gs (drop i ps)) (games_of gs (drop i qs))
  pub within : i ≤ length qs

from_item : (gs : List Game) (ps : List ℕ) (i : ℕ) → i < length ps
    → games_of gs (drop i ps) ≡ game_of gs (get_or ps i 0) ∷ games_of gs (drop (i + 1) ps)
from_item gs ps i l =
    let one : suc i ≡ i + 1 = omega arith in
    ap (games_of gs) (drop-cons ps i 0 l) ∙ ap (λ z. game_of gs (get_or ps i 0) ∷ games_of gs (drop z ps)) one

none_left : (gs : List Game) (ps : List ℕ) (i : ℕ) → length ps ≤ i → games_of gs (drop i ps) ≡ []
none_left gs [] zero l = refl
none_left gs [] (suc i) l = refl
none_left gs (p ∷ ps) zero l = absurd (omega arith)
none_left gs (p ∷ ps) (suc i) l = none_left gs ps i (omega arith)

-- the second list ends first
pub passed_longer : (gs : List Game) (ps qs : List ℕ) (i : ℕ) → Passed gs ps qs i → i < length ps → length qs ≤ i
    → Greater ≡ order_of_lists (games_of gs ps) (games_of gs qs)
passed_longer gs ps qs i h l k =
    sym (h.order ∙ ap (λ z. order_of_lists z (games_of gs (drop i qs))) (from_item gs ps i l)
    ∙ ap (λ z. order_of_lists (game_of gs (get_or ps i 0) ∷ games_of gs (drop (i + 1) ps)) z) (none_left gs qs i k))

-- the first list ends first
pub passed_shorter : (gs : List Game) (ps qs : List ℕ) (i : ℕ) → Passed gs ps qs i → length ps ≤ i → i < length qs
    → Less ≡ order_of_lists (games_of gs ps) (games_of gs qs)
passed_shorter gs ps qs i h l k =
    sym (h.order ∙ ap (λ z. order_of_lists z (games_of gs (drop i qs))) (none_left gs ps i l)
    ∙ ap (order_of_lists []) (from_item gs qs i k))
