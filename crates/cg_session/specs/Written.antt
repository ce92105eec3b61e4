-- What a sink took of a text, where it tells its bytes.
use Rattle.std.specs.Prelude.{ℕ, ◌≡◌, ◌<◌, ◌++◌, List, Option, length}
use Rattle.std.specs.Io.KnownBytes.{Appends}

-- a front of the text was appended, and not the whole of it
pub record AppendsFront (text : List ℕ) (before now : Option (List ℕ)) : Type 0 where
  pub front : List ℕ
  pub rest : List ℕ
  pub split : text ≡ front ++ rest
  pub some_left : 0 < length rest
  pub appended : Appends before now front
