-- Pieces that are put behind a text.
use Rattle.std.specs.Prelude.{◌≡◌, ℕ, ◌<◌, ◌≤◌, List, ◌++◌, length, Result, Ok, Err}
use Rattle.cg_cert.specs.declared.fault.CertFault.{CertFault}
use Rattle.cg_cert.specs.declared.fault.CertFault.TheVariants.{Long, Memory}

-- the piece was put behind the text, or would bring it above the limit; want of memory has no cause here
abbrev pub Wrote : Result (Unit {0}) CertFault → ℕ → List ℕ → List ℕ → List ℕ → Type 0
Wrote (Ok u) limit before after piece = (after ≡ before ++ piece) × (length after ≤ limit)
Wrote (Err Long) limit before after piece = limit < length (before ++ piece)
Wrote (Err Memory) limit before after piece = Unit {0}
