-- Whether words are accepted is decided.
use Rattle.std.proofs.Common.{◌≡◌, ◌⊎◌, inl, inr, Bool, true, false, List, refl}
use Rattle.clap.specs.Words.{Text, takes}
use Rattle.cg_words.specs.Accepted.{IsAccepted, cg_command}

is_or_not : (b : Bool) → (b ≡ true) ⊎ (¬ (b ≡ true))
is_or_not true = inl refl
is_or_not false = inr (λ e. cc)

pub accepted_or_not : (words : List Text) → IsAccepted words ⊎ (¬ IsAccepted words)
unfolding IsAccepted
accepted_or_not words = is_or_not (takes cg_command words)
