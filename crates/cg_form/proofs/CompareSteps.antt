-- The steps of the code that compares forms by structure.
use Rattle.std.proofs.Common.{◌≡◌, refl, ℕ, ◌<◌, ◌≤◌, arith, zero, suc, ap, sym, ◌∙◌, List, [], ◌∷◌, drop, length, Bool, true, false, not}
use Rattle.std.specs.Prelude.{◌==◌}
use Rattle.std.specs.Ordering.{ordering_index}
use Rattle.std.specs.declared.cmp.Ordering.{Ordering}
use Rattle.std.specs.declared.cmp.Ordering.TheVariants.{Less, Equal, Greater}
use Rattle.cg_form.specs.declared.form.Form.{Form}
use Rattle.cg_form.specs.declared.form.Form.TheVariants.{Node}
use Rattle.cg_form.specs.Forms.{game_of, games_of}
use Rattle.cg_form.specs.Game.{Game, node}
use Rattle.cg_form.specs.Structure.{and_then, game_cmp, order_of_lists}

shorter_none : (ks : List Form) (i : ℕ) → i < length ks → order_of_lists [] (games_of (drop i ks)) ≡ Less
shorter_none [] i h = absurd (omega arith)
shorter_none (f ∷ fs) zero h = refl
shorter_none (f ∷ fs) (suc i) h = shorter_none fs i (omega arith)

pub first_shorter : (fs ks : List Form) (i : ℕ) → length fs ≤ i → i < length ks
    → order_of_lists (games_of (drop i fs)) (games_of (drop i ks)) ≡ Less
first_shorter fs [] i h k = absurd (omega arith)
first_shorter [] (g ∷ ks) zero h k = refl
first_shorter [] (g ∷ ks) (suc i) h k = shorter_none ks i (omega arith)
first_shorter (f ∷ fs) (g ∷ ks) zero h k = absurd (omega arith)
first_shorter (f ∷ fs) (g ∷ ks) (suc i) h k = first_shorter fs ks i (omega arith) (omega arith)

decided : (o p : Ordering) → ¬ (o ≡ Equal) → o ≡ and_then o p
decided Less p h = refl
decided Equal p h = absurd (h refl)
decided Greater p h = refl

pub nodes_compared : (al ar bl br : List Game)
    → game_cmp (node al ar) (node bl br) ≡ and_then (order_of_lists al bl) (order_of_lists ar br)
nodes_compared al ar bl br = refl

pub lefts_decide : (f g : Form) (al ar bl br : List Game) (r : Ordering) → f ≡ Node al ar → g ≡ Node bl br
    → r ≡ order_of_lists al bl → ¬ (r ≡ Equal) → r ≡ game_cmp (game_of f) (game_of g)
lefts_decide f g al ar bl br r e h p n =
    decided r (order_of_lists ar br) n ∙ ap (λ o. and_then o (order_of_lists ar br)) p
    ∙ sym (nodes_compared al ar bl br)
    ∙ ap (λ z. game_cmp (game_of z) (node bl br)) (sym e) ∙ ap (λ z. game_cmp (game_of f) (game_of z)) (sym h)

pub rights_decide : (f g : Form) (al ar bl br : List Game) (r s : Ordering) → f ≡ Node al ar → g ≡ Node bl br
    → r ≡ order_of_lists al bl → r ≡ Equal → s ≡ order_of_lists ar br → s ≡ game_cmp (game_of f) (game_of g)
rights_decide f g al ar bl br r s e h p n q =
    q ∙ ap (λ o. and_then o (order_of_lists ar br)) (sym n ∙ p) ∙ sym (nodes_compared al ar bl br)
    ∙ ap (λ z. game_cmp (game_of z) (node bl br)) (sym e) ∙ ap (λ z. game_cmp (game_of f) (game_of z)) (sym h)

pub is_unequal : (r : Ordering) (b : Bool) → b ≡ not (ordering_index r == 1) → b ≡ true → ¬ (r ≡ Equal)
is_unequal Less b e h k = cc
is_unequal Equal b e h k = absurd (no (sym e ∙ h))
  where
    no : false ≡ true → ⊥
    no e = cc
is_unequal Greater b e h k = cc

pub is_equal : (r : Ordering) (b : Bool) → b ≡ not (ordering_index r == 1) → b ≡ false → r ≡ Equal
is_equal Less b e h = absurd (no (sym e ∙ h))
  where
    no : true ≡ false → ⊥
    no e = cc
is_equal Equal b e h = refl
is_equal Greater b e h = absurd (no (sym e ∙ h))
  where
    no : true ≡ false → ⊥
    no e = cc

pub shorter_returns : (fs ks : List Form) (us vs : List Game) (i : ℕ)
    → order_of_lists us vs ≡ order_of_lists (games_of (drop i fs)) (games_of (drop i ks)) → length fs ≤ i
    → i ≤ length fs → length fs < length ks → Less ≡ order_of_lists us vs
shorter_returns fs ks us vs i e h j k = sym (first_shorter fs ks i h (omega arith)) ∙ sym e
