-- Which bytes may stand where in a code.
use Rattle.std.specs.Prelude.{ℕ, suc, ◌==◌, ◌&&◌, nat_lt, nat_le, Bool, if◌then◌else◌, List, [], ◌∷◌}

-- the byte may stand at this place of a code, counted from 0
abbrev pub fits : ℕ → ℕ → Bool
fits at byte = if at == 0 then byte == 48
    else (if at == 1 then byte == 46 else (nat_lt at 18 && (nat_le 48 byte && nat_lt byte 56)))

-- how many bytes in front may stand where they stand, from this place on
unfoldable pub fit_length : ℕ → List ℕ → ℕ
fit_length at [] = 0
fit_length at (byte ∷ bytes) = if fits at byte then suc (fit_length (suc at) bytes) else 0
