-- A store of four words, of which the first is the key of the number 0.
use Rattle.std.proofs.Common.{◌≡◌, ◌≢◌, ℕ, ◌∙◌, List, [], ◌∷◌, Some, arith, ap, pos, refl, sym, subst}
use Rattle.std.specs.FinMap as map
use Rattle.cg_dyadic.specs.Number.{whole}
use Rattle.cg_form.specs.Game.{Game, number}
use Rattle.cg_cells.specs.Parts.{parts_of}
use Rattle.cg_cells.specs.declared.key.KeyParts.TheVariants.{Number}
use Rattle.cg_cells.specs.Words.{IsStore, Words, empty_words, things_of}
use Rattle.cg_cells.proofs.Claims.{zeros}
use Rattle.cg_cells.proofs.Plains.{empty_sound, plain_sound}
use Rattle.cg_nodes.specs.KeysLaw.{lawful}
use Rattle.cg_nodes.specs.Meant.{form}
use Rattle.cg_nodes.specs.Spelled.{game_meaning, spelled}

module _ (raw : ℕ → ℕ → ℕ → List ℕ → Game) (key : ℕ) (there : key ≢ 0) (parts : parts_of key ≡ Some (Number (pos 0) 0)) where
  four_words : IsStore (game_meaning raw) (record { keys = key ∷ 0 ∷ 0 ∷ 0 ∷ []; values = 0 ∷ 0 ∷ 0 ∷ 0 ∷ []; spare = 3 })
  four_words = plain_sound (game_meaning raw) (lawful raw) (empty_words 4) (empty_sound (game_meaning raw) 4 (omega arith) (omega arith)) key
      (form (number (whole (pos 0)))) there (ap (λ p. spelled p (map.get (things_of (game_meaning raw) (empty_words 4).keys))) parts) 0
      (omega arith) refl (λ i e. there (sym e ∙ zeros 4 i)) (omega arith)

  pub is_store : (word : ℕ) (keys values : List ℕ) → word ≡ key → keys ≡ word ∷ 0 ∷ 0 ∷ 0 ∷ [] → values ≡ 0 ∷ 0 ∷ 0 ∷ 0 ∷ []
      → IsStore (game_meaning raw) (record { keys = keys; values = values; spare = 3 })
  is_store word keys values is_key are_keys are_values = let Is : Words → Type 0 = λ w. IsStore (game_meaning raw) w in
      subst (λ ks. Is (record { keys = ks; values = values; spare = 3 })) (sym are_keys)
      (subst (λ vs. Is (record { keys = word ∷ 0 ∷ 0 ∷ 0 ∷ []; values = vs; spare = 3 })) (sym are_values)
      (subst (λ k. Is (record { keys = k ∷ 0 ∷ 0 ∷ 0 ∷ []; values = 0 ∷ 0 ∷ 0 ∷ 0 ∷ []; spare = 3 })) (sym is_key) four_words))
