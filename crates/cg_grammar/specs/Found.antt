-- What a text spells, with the first place at which a run of bars repeats an earlier one.
use Rattle.std.specs.Prelude.{ℕ, Option, Some, None}
use Rattle.cg_query.specs.Tree.{Tree, Question, Statement}

-- a tree, and the column of the first run of bars in its text that repeats an earlier run of its brace
pub record Found : Type 0 where
  pub tree : Tree
  pub fault : Option ℕ

-- a question, and the first such column in its text
pub record Asked : Type 0 where
  pub question : Question
  pub fault : Option ℕ

-- what a line states, and the first such column in its text
pub record Stated : Type 0 where
  pub statement : Statement
  pub fault : Option ℕ

-- the first of two columns, where columns are met in the order of the text
abbrev pub first : Option ℕ → Option ℕ → Option ℕ
first (Some c) other = Some c
first None other = other
