-- Boards of strip games, and why a text is none.
use Rattle.std.specs.Prelude.{ℕ, ◌≡◌, true, List, length, Ok, Err}
use Rattle.cg_moves.specs.declared.fault.BoardFault.{BoardFault}
use Rattle.cg_moves.specs.declared.fault.BoardFault.TheVariants as faults
use Rattle.cg_moves.specs.Grid.{Grid}
use Rattle.cg_moves.specs.Texts.{read_of}
use Rattle.cg_strip.specs.Rulebook.{Rulebook, symbols_of}
use Rattle.cg_strip.specs.StripGame.{is_strip_board}
use Rattle.cg_strip.specs.Weighing.{IsFirstRising}

-- the text reads as this row of the symbols with a weight, and every rule lowers the sum of the weights
pub record IsBoardOf (book : Rulebook) (text : List ℕ) (p : Grid) : Type 0 where
  pub read : read_of (symbols_of book.weights) true text ≡ Ok p
  pub lowered : is_strip_board book p ≡ true

-- the text is refused as one row; or it is one, and the k-th rule is the first that doesn't lower the sum
abbrev pub IsBoardRefused : Rulebook → List ℕ → BoardFault → Type 0
IsBoardRefused book text faults.Memory = Unit {0}
IsBoardRefused book text (faults.Lowering k) = (p : Grid) × (read_of (symbols_of book.weights) true text ≡ Ok p) × IsFirstRising book (length p.cells) k
IsBoardRefused book text fault = read_of (symbols_of book.weights) true text ≡ Err fault
