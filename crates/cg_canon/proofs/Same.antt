-- Handles of equal games are one.
use Rattle.std.proofs.Common.{◌≡◌, ℕ, ap, sym, ◌∙◌, List, Some, Bool, IsTrue}
use Rattle.std.specs.Prelude.{◌↔◌}
use Rattle.cg_form.specs.Game.{Game}
use Rattle.cg_form.specs.Order.{Equal}
use Rattle.cg_form.proofs.Preorder.{equal_refl}
use Rattle.cg_form.proofs.Unique.{canonical_same}
use Rattle.cg_cells.specs.Meaning.{IsReal}
use Rattle.cg_cells.specs.Store.{State, thing_at}
use Rattle.cg_nodes.specs.Games.{IsGame, game_at, game_in}
use Rattle.cg_nodes.specs.Meant.{Meant, form}
use Rattle.cg_nodes.specs.Spelled.{game_meaning}
use Rattle.cg_nodes.proofs.Levels.{real-canonical}

same_or_equal : {R : Type 0} (raw : ℕ → ℕ → ℕ → List ℕ → Game) (s : State Meant R) (a b : ℕ) (t : Bool)
    → IsGame s a → IsGame s b → IsTrue t ↔ (thing_at s a ≡ thing_at s b)
    → IsReal (game_meaning raw) (thing_at s a) → IsReal (game_meaning raw) (thing_at s b)
    → IsTrue t ↔ Equal (game_at s a) (game_at s b)
same_or_equal raw s a b t ga gb e ra rb = (
  λ k. rw (← (ap game_in (e.0 k))) (equal_refl (game_at s a)),
  λ k. e.1 (ga ∙ ap (λ z. Some (form z)) (canonical_same (game_at s a) (game_at s b) (real-canonical raw s a ra ga)
      (real-canonical raw s b rb gb) k) ∙ sym gb),
)

pub one_handle : {R : Type 0} (raw : ℕ → ℕ → ℕ → List ℕ → Game) (s : State Meant R) (a b i j : ℕ) (t : Bool) → i ≡ a → j ≡ b
    → IsGame s a → IsGame s b → IsTrue t ↔ (thing_at s i ≡ thing_at s j)
    → IsReal (game_meaning raw) (thing_at s i) → IsReal (game_meaning raw) (thing_at s j)
    → IsTrue t ↔ Equal (game_at s a) (game_at s b)
one_handle raw s a b i j t p q ga gb e ri rj =
    same_or_equal raw s a b t ga gb (rw (← q) (rw (← p) e)) (rw (← p) ri) (rw (← q) rj)
