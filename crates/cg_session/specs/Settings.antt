-- What the settings of a session decide: its text, its limits, and each line's share of the cells.
use Rattle.std.specs.Prelude.{ℕ, zero, suc, ◌/◌, ◌≤◌, ◌^◌, List, Option, Some, length}
use Rattle.cg_words.specs.declared.settings.Settings.{Settings}
use Rattle.cg_sample.specs.SampleText.{sample_text}
use Rattle.cg_syntax.specs.Session.{answered_lines}

-- the share of so many cells for each of so many answered lines
abbrev pub share_of : ℕ → ℕ → ℕ
share_of cells zero = 0
share_of cells (suc n) = cells / suc n

-- The text of a session: the sample of so many lines, and the input where none is asked for.
abbrev pub text_by : ℕ → Option (List ℕ) → Option (List ℕ)
text_by zero input = input
text_by (suc n) input = Some (sample_text (suc n))

abbrev pub session_text : Settings → Option (List ℕ) → Option (List ℕ)
session_text s input = text_by s.sample input

-- sessions of at most 1,048,576 bytes
abbrev pub IsWithinBytes : List ℕ → Type 0
IsWithinBytes text = length text ≤ 2 ^ 20

-- sessions of at most 1,048,576 bytes and at most 4,096 answered lines, each of which has a cell
pub record IsWithinLimits (s : Settings) (text : List ℕ) : Type 0 where
  pub bytes : IsWithinBytes text
  pub lines : length (answered_lines text) ≤ 4096
  pub cells : length (answered_lines text) ≤ s.cells
