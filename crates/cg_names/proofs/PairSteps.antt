-- Two numbers and the game of both, made one after another.
use Rattle.std.proofs.Common.{◌≡◌, ap, sym, ◌∙◌, ℕ, ◌+◌, List, [], ◌∷◌, ◌++◌}
use Rattle.std.proofs.Common.{length, length-append, Bool, true, false}
use Rattle.std.specs.Prelude.{cond}
use Rattle.cg_dyadic.specs.Number.{Number, NumberLe}
use Rattle.cg_form.specs.Canonical.{Canonical}
use Rattle.cg_form.specs.Game.{Game, number}
use Rattle.cg_cells.specs.Store.{State}
use Rattle.cg_nodes.specs.Games.{StandsFor, game_at, games_at}
use Rattle.cg_nodes.specs.Meant.{Meant}
use Rattle.cg_form.specs.Positions.{positions_of}
use Rattle.cg_nodes.proofs.Later.{stands_game}
use Rattle.cg_dyadic.specs.Exact.{number_negative}
use Rattle.cg_names.specs.Named.{first_number, mirrored_if, other_numbers, pair_form, pair_positions}
use Rattle.cg_names.specs.Named.{second_number, switch_form, tiny_form, tiny_part, zero_form, zero_number}
use Rattle.cg_names.proofs.SwitchForms.{switch-canonical, tiny_part-canonical}
use Rattle.cg_names.proofs.SwitchPositions.{other_none, other_one, switch-positions, tiny-positions}

-- ---- how many

pub pair_count-same : (x y : Number) → x ≡ y → 2 ≡ length (pair_positions x y)
pair_count-same x y e = ap (λ z. length (number x ∷ (z ++ (pair_form x y ∷ [])))) (sym (other_none x y e))

pub pair_count-other : (x y : Number) → ¬ (x ≡ y) → 3 ≡ length (pair_positions x y)
pair_count-other x y n = ap (λ z. length (number x ∷ (z ++ (pair_form x y ∷ [])))) (sym (other_one x y n))

pub length-one_more : (gs : List Game) (g : Game) (n : ℕ) → n ≡ length gs → length (gs ++ (g ∷ [])) ≡ n + 1
length-one_more gs g n e = length-append gs (g ∷ []) ∙ ap (λ (k : ℕ). k + 1) (sym e)

-- the positions of the switch, and of Tiny or Miny, by the numbers that are made
pub switch_positions : (x y : Number) → y ≡ number_negative x → positions_of (switch_form x) ≡ pair_positions x y
switch_positions x y e = switch-positions x ∙ ap (pair_positions x) (sym e)

pub tiny_positions : (miny : Bool) (x a b : Number) → a ≡ first_number miny x → b ≡ second_number miny x
    → positions_of (tiny_form miny x) ≡ pair_positions a b ++ (tiny_form miny x ∷ [])
tiny_positions miny x a b e f =
    let last : List Game = tiny_form miny x ∷ [] in
    tiny-positions miny x ∙ ap (λ z. pair_positions z (second_number miny x) ++ last) (sym e)
    ∙ ap (λ z. pair_positions a z ++ last) (sym f)

-- ---- two numbers

pub switch_pair : (x y : Number) → y ≡ number_negative x → NumberLe zero_number x → Canonical (pair_form x y)
switch_pair x y e l = rw e (switch-canonical x l)

pub tiny_pair-is : (miny : Bool) (x a b : Number) → a ≡ first_number miny x → b ≡ second_number miny x → pair_form a b
    ≡ tiny_part miny x
tiny_pair-is miny x a b e f = ap (λ z. pair_form z b) e ∙ ap (λ z. pair_form (first_number miny x) z) f

pub tiny_pair : (miny : Bool) (x a b : Number) → a ≡ first_number miny x → b ≡ second_number miny x → NumberLe
    zero_number x
    → Canonical (pair_form a b)
tiny_pair miny x a b e f l = rw (tiny_pair-is miny x a b e f) (tiny_part-canonical miny x l)

module _ {R : Type 0} (v : State Meant R) where
  pub pair_made : (x y : Number) (a b : ℕ) → StandsFor v a (number x) → StandsFor v b (number y)
      → mirrored_if false (games_at v (a ∷ [])) (games_at v (b ∷ [])) ≡ pair_form x y
  pair_made x y a b s t =
      ap (λ g. mirrored_if false (g ∷ []) (game_at v b ∷ [])) (stands_game v a (number x) s)
      ∙ ap (λ g. mirrored_if false (number x ∷ []) (g ∷ [])) (stands_game v b (number y) t)

  -- the handle of 0 of Tiny, or Miny
  pub tiny_zero : (miny : Bool) (x a b : Number) (first second z : ℕ) → StandsFor v first (number a)
      → StandsFor v second (number b) → a ≡ first_number miny x → b ≡ second_number miny x
      → z ≡ cond miny second first → StandsFor v z zero_form
  tiny_zero false x a b first second z s t e f d =
      rw d (rw (← e) s)
  tiny_zero true x a b first second z s t e f d =
      rw d (rw (← f) t)

  pub tiny_made : (miny : Bool) (x a b : Number) (z part : ℕ) → StandsFor v z zero_form
      → StandsFor v part (pair_form a b) → a ≡ first_number miny x → b ≡ second_number miny x
      → mirrored_if miny (games_at v (z ∷ [])) (games_at v (part ∷ [])) ≡ tiny_form miny x
  tiny_made miny x a b z part s t e f =
      ap (λ g. mirrored_if miny (g ∷ []) (game_at v part ∷ [])) (stands_game v z zero_form s)
      ∙ ap (λ g. mirrored_if miny (zero_form ∷ []) (g ∷ [])) (stands_game v part (pair_form a b) t
      ∙ tiny_pair-is miny x a b e f)
