-- The symbols in front, as a part of the bytes.
use Rattle.std.proofs.Common.{◌≡◌, ℕ, ◌-◌, List, ◌∷◌, length, take}
use Rattle.cg_reading.specs.Readers.{taken, skipped}
use Rattle.cg_reading.proofs.Skip.{one_and_taken}
use Rattle.cg_strip.specs.Grammar.{symbol}

-- a symbol and all symbols behind it are what stands before what is skipped to
pub symbols_take : (b : ℕ) (bytes rest : List ℕ) → bytes ≡ b ∷ rest
    → take (length bytes - length (skipped symbol rest)) bytes ≡ b ∷ taken symbol rest
symbols_take b bytes rest e = one_and_taken symbol b bytes rest e
