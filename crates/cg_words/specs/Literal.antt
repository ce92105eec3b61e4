-- What the command makes of words that are written out.
use Rattle.std.specs.Prelude.{◌≡◌, ℕ, List, [], ◌∷◌, false}
use Rattle.clap.specs.Words.{Text, fault_of, takes}
use Rattle.clap.specs.declared.error.kind.ErrorKind.{ErrorKind}
use Rattle.cg_words.specs.Accepted.{Accepted, cg_command}

-- the command refuses the words, for this reason
pub record Refuses (words : List Text) (why : ErrorKind) : Type 0 where
  pub refused : takes cg_command words ≡ false
  pub reason : fault_of cg_command words ≡ why ∷ []

-- the words are accepted, and give these settings
abbrev pub Gives : List Text → (workers cells positions sample : ℕ) → Type 0
Gives words workers cells positions sample =
    Accepted words (record { workers = workers; cells = cells; positions = positions; sample = sample })

abbrev pub one : Text → List Text
one word = word ∷ []

abbrev pub two : Text → Text → List Text
two first second = first ∷ second ∷ []
