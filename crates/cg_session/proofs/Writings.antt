-- What is written of an output.
use Rattle.std.proofs.Common.{◌≡◌, ℕ, zero, suc, refl}
use Rattle.cg_session.specs.Output.{Output, summary, written_of}

pub written_whole : (sample : ℕ) (out : Output) → sample ≡ 0 → out ≡ written_of sample out
written_whole zero out none = refl
written_whole (suc n) out none = absurd cc

pub written_summary : (sample : ℕ) (out : Output) → ¬ (sample ≡ 0) → summary sample out ≡ written_of sample out
written_summary zero out some = absurd (some refl)
written_summary (suc n) out some = refl
