use Rattle.std.proofs.Common.{◌∙◌}
use Rattle.cg_strip.proofs.BoardLemmas.{board_is, board_rising}
use Rattle.cg_strip.proofs.strip.Strip.board.Goals as goal

pub returns-clause-read : goal.returns-clause-read
returns-clause-read c =
    board_is c.args.self.now c.deref.result.now c.args.text.now c.weights.result.now c.from.result c.rules.result.now c.in_ok-board.board
    c.weights.ensures.sound (c.deref.ensures.value ∙ c.in_ok-symbols.ensures.value) c.in_ok-board.ensures.read c.in_ok-board.ensures.symbols
    c.weights.ensures.value (c.from.ensures ∙ c.size.ensures.value) c.rules.ensures.value c.in-None.ensures

pub returns-in-Some-clause-refused : goal.returns-in-Some-clause-refused
returns-in-Some-clause-refused c =
    board_rising c.args.self.now c.deref.result.now c.args.text.now c.weights.result.now c.from.result c.rules.result.now c.in_ok-board.board c.in-Some.number
    c.weights.ensures.sound (c.deref.ensures.value ∙ c.in_ok-symbols.ensures.value) c.in_ok-board.ensures.read c.weights.ensures.value (c.from.ensures
    ∙ c.size.ensures.value) c.rules.ensures.value c.in-Some.ensures
