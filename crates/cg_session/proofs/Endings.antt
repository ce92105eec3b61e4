-- How a session ends.
use Rattle.std.proofs.Common.{◌≡◌, inl, inr, ℕ, List, Option}
use Rattle.std.specs.Io.KnownBytes.{Keeps}
use Rattle.cg_words.proofs.Decided.{accepted_or_not}
use Rattle.cg_session.specs.declared.status.Status.TheVariants as status
use Rattle.cg_session.specs.Ends.{Writes}

-- ---- what holds of the text holds of the session's text

-- ---- words

-- where memory was wanting before anything was read
pub lacks_memory : (words : List (List ℕ)) (input left before now : Option (List ℕ)) → Keeps before now
    → Writes status.Memory words input left before now
lacks_memory words input left before now keeps = elim (accepted_or_not words) [
  | inl accepted ↦ inl (accepted, keeps)
  | inr refused ↦ inr (refused, keeps)
]
