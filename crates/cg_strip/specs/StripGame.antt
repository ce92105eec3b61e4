-- What a strip game is as a game on boards.
use Rattle.std.specs.Prelude.{◌==◌, ◌&&◌, Bool, length, None}
use Rattle.std.specs.List.{list_all}
use Rattle.std.specs.Str.{bytes_eq}
use Rattle.cg_moves.specs.Grid.{Grid}
use Rattle.cg_moves.specs.Rules.{GameRules}
use Rattle.cg_strip.specs.Rulebook.{Rulebook, symbols_of}
use Rattle.cg_strip.specs.Placing.{moves_by}
use Rattle.cg_strip.specs.Weighing.{row_weight, do_all_lower}
use Rattle.cg_strip.specs.declared.rule.Rule.{Rule}

-- the replacement is as long as the pattern
abbrev pub is_even : Rule → Bool
is_even r = length r.pattern == length r.replacement

-- one row of the game's symbols, of a length at which every rule lowers the sum of the weights
abbrev pub is_strip_board : Rulebook → Grid → Bool
is_strip_board book p = (p.rows == 1) && bytes_eq p.symbols (symbols_of book.weights) && list_all is_even book.rules && do_all_lower book.weights
    (length p.cells) book.rules

abbrev pub strip_game : Rulebook → GameRules
strip_game book = record {
  has = is_strip_board book;
  moves = λ player p. moves_by book.rules player p.cells;
  measure = λ p. row_weight book.weights p.cells;
  number = 0;
  cut = None;
}
