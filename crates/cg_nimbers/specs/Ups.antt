-- Ups and downs, with and without a star.
-- Siegel, Combinatorial Game Theory (2013), II.1 and II.4.
use Rattle.std.specs.Prelude.{ℕ, zero, suc, Bool, true, false, not, List, [], ◌∷◌, ◌++◌}
use Rattle.cg_form.specs.Game.{Game, node}
use Rattle.cg_nimbers.specs.Nimbers.{zero_form}

-- * = {0|0}
abbrev pub star_form : Game
star_form = node (zero_form ∷ []) (zero_form ∷ [])

-- {ls|rs}, or the same with the sides exchanged
abbrev pub mirrored_if : Bool → List Game → List Game → Game
mirrored_if false ls rs = node ls rs
mirrored_if true ls rs = node rs ls

-- n.^, or n.^* where it is starred: ^ = {0|*} and ^* = {0,*|0}; for n >= 2, n.^ = {0|(n - 1).^*} and
-- n.^* = {0|(n - 1).^}. Downs are their negatives, with the sides exchanged at every position; 0.^ is 0, and 0.^* is *.
unfoldable pub ups_of : Bool → Bool → ℕ → Game
ups_of down false zero = zero_form
ups_of down true zero = star_form
ups_of down false (suc zero) = mirrored_if down (zero_form ∷ []) (star_form ∷ [])
ups_of down true (suc zero) = mirrored_if down (zero_form ∷ (star_form ∷ [])) (zero_form ∷ [])
ups_of down starred (suc (suc n)) = mirrored_if down (zero_form ∷ []) (ups_of down (not starred) (suc n) ∷ [])

abbrev pub ups_form : Bool → ℕ → Game
ups_form down n = ups_of down false n

-- 0, *, and then the ups or downs, each of which is an option of the next one, up to the n-th
unfoldable pub ups_chain : Bool → Bool → ℕ → List Game
ups_chain down starred zero = zero_form ∷ (star_form ∷ [])
ups_chain down starred (suc n) = ups_chain down (not starred) n ++ (ups_of down starred (suc n) ∷ [])

-- the last game of that chain
abbrev pub ups_last : Bool → Bool → ℕ → Game
ups_last down starred zero = star_form
ups_last down starred (suc n) = ups_of down starred (suc n)
