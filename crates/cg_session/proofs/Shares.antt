-- The share of a line.
use Rattle.std.proofs.Common.{◌≡◌, ℕ, zero, suc, ◌<◌, ◌/◌, refl, arith}
use Rattle.cg_session.specs.Settings.{share_of}

pub share_is : (cells count : ℕ) → 0 < count → share_of cells count ≡ cells / count
share_is cells zero some = absurd (omega arith)
share_is cells (suc n) some = refl
