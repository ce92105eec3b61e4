-- A sink in memory, as its callers see it.
use Rattle.std.specs.Prelude.{ℕ, ◌-◌, ◌≤◌, ◌++◌, ◌⊎◌, List, [], length, take, min, Contains}
use Rattle.cg_io.specs.Faults.{one_more}

-- What it took, its room in bytes, the most bytes that it takes in a call, the numbers of the calls at which it fails,
-- how many calls there were, and how many of them failed.
pub record Memory : Type 0 where
  pub bytes : List ℕ
  pub room : ℕ
  pub most : ℕ
  pub fails : List ℕ
  pub calls : ℕ
  pub faults : ℕ

-- before the first call
abbrev pub fresh_memory : ℕ → ℕ → List ℕ → Memory
fresh_memory room most fails = record { bytes = []; room = room; most = most; fails = fails; calls = 0; faults = 0 }

-- The next call fails: its number is named, or no room is left.
abbrev pub FailsNext : Memory → Type 0
FailsNext m = Contains m.fails (one_more m.calls) ⊎ (m.room ≤ length m.bytes)

-- how many bytes of the piece a call takes where it doesn't fail
abbrev pub taken_len : Memory → List ℕ → ℕ
taken_len m piece = min (min (length piece) m.most) (m.room - length m.bytes)

-- after a call that took the first n bytes of the piece
abbrev pub after_taking : Memory → List ℕ → ℕ → Memory
after_taking m piece n = record m { bytes = m.bytes ++ take n piece; calls = one_more m.calls }

-- after a call that failed
abbrev pub after_failing : Memory → Memory
after_failing m = record m { calls = one_more m.calls; faults = one_more m.faults }
