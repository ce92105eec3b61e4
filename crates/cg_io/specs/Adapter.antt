-- A source over a reader of std, and a sink over a writer, as their callers see them.
use Rattle.std.specs.Prelude.{ℕ, List, Option}

-- What the reader has left, where std knows it, and how many calls failed.
pub record Adapter : Type 0 where
  pub bytes : Option (List ℕ)
  pub faults : ℕ

-- What the writer has taken, where std knows it, how many bytes it took, as far as they were counted, and how many calls failed.
pub record OutAdapter : Type 0 where
  pub bytes : Option (List ℕ)
  pub counted : Option ℕ
  pub faults : ℕ
