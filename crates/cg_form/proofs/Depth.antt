-- Depths of forms.
use Rattle.std.proofs.Common.{◌≡◌, ℕ, ◌≤◌, ◌<◌, arith, zero, suc, List, [], ◌∷◌}
use Rattle.std.proofs.Common.{get_or, take, length, max}
use Rattle.cg_form.specs.declared.form.Form.{Form}
use Rattle.cg_form.specs.Depth.{deepest, depth_of}
use Rattle.cg_form.specs.Forms.{game_of, games_of}

pub depth_le_deepest : (fs : List Form) (i : ℕ) (d : Form) → i < length fs
    → depth_of (game_of (get_or fs i d)) ≤ deepest (games_of fs)
depth_le_deepest [] i d h = absurd (omega arith)
depth_le_deepest (f ∷ fs) zero d h = omega arith
depth_le_deepest (f ∷ fs) (suc i) d h = let ih = depth_le_deepest fs i d (omega arith) in omega arith

pub deepest_take_suc : (fs : List Form) (i : ℕ) (d : Form) → i < length fs →
    deepest (games_of (take (suc i) fs)) ≡ max (deepest (games_of (take i fs))) (depth_of (game_of (get_or fs i d)))
deepest_take_suc [] i d h = absurd (omega arith)
deepest_take_suc (f ∷ fs) zero d h = omega arith
deepest_take_suc (f ∷ fs) (suc i) d h = let ih = deepest_take_suc fs i d (omega arith) in omega arith
