-- A source in memory that fails when it is told to, as its callers see it.
use Rattle.std.specs.Prelude.{ℕ, List, length, drop, min}
use Rattle.cg_io.specs.Faults.{one_more}

-- The bytes that are left, the most bytes that it gives in a call, the numbers of the calls at which it fails, how many
-- calls there were, and how many of them failed.
pub record Supply : Type 0 where
  pub bytes : List ℕ
  pub most : ℕ
  pub fails : List ℕ
  pub calls : ℕ
  pub faults : ℕ

-- before the first call
abbrev pub fresh_supply : List ℕ → ℕ → List ℕ → Supply
fresh_supply bytes most fails = record { bytes = bytes; most = most; fails = fails; calls = 0; faults = 0 }

-- how many bytes a call gives into a buffer of this length where it doesn't fail
abbrev pub given_len : Supply → ℕ → ℕ
given_len s room = min (min (length s.bytes) room) s.most

-- after a call that gave n bytes
abbrev pub after_giving : Supply → ℕ → Supply
after_giving s n = record s { bytes = drop n s.bytes; calls = one_more s.calls }

-- after a call that failed
abbrev pub after_refusing : Supply → Supply
after_refusing s = record s { calls = one_more s.calls; faults = one_more s.faults }
