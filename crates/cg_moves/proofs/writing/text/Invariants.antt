use Rattle.std.proofs.Common.{◌≡◌}
use Rattle.std.specs.String.{string_bytes}
use Rattle.cg_moves.specs.Texts.{in_rows, joined}
use Rattle.cg_moves.proofs.writing.text.Given as goal

abbrev pub invariant-loop-row : goal.invariant-loop-row
invariant-loop-row l = string_bytes l.text ≡ joined (in_rows l.row l.board.columns l.board.cells)
