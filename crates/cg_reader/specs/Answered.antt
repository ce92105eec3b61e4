-- What comes of a line that was read, by the first fault in it.
use Rattle.std.specs.Prelude.{ℕ, ◌≡◌, Option, Some, None, Result, Ok, Err}
use Rattle.cg_query.specs.Tree.{Statement}
use Rattle.cg_query.specs.Trees.{statement_of}
use Rattle.cg_query.specs.declared.query.Statement as code
use Rattle.cg_query.specs.declared.query.SyntaxFault.{SyntaxFault}
use Rattle.cg_query.specs.declared.query.SyntaxFault.TheVariants as faults

-- the statement where there is no fault, and else the column of the fault
abbrev pub IsFaultless : Statement → Option ℕ → Result code.Statement SyntaxFault → Type 0
IsFaultless s None (Ok t) = statement_of t ≡ s
IsFaultless s None (Err e) = ⊥
IsFaultless s (Some column) (Ok t) = ⊥
IsFaultless s (Some column) (Err faults.Memory) = ⊥
IsFaultless s (Some column) (Err (faults.Syntax c)) = c ≡ column
