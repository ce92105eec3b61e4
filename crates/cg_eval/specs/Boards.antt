-- What board expressions are.
use Rattle.std.specs.Prelude.{◌≡◌, ℕ, suc, ◌-◌, true, false, Option, Some, None, Result, Ok, Err, List, codes, length}
use Rattle.cg_form.specs.Game.{Game}
use Rattle.cg_canon.specs.Items.{Item}
use Rattle.cg_reading.specs.Readers.{whole_at}
use Rattle.cg_moves.specs.declared.fault.BoardFault.{BoardFault}
use Rattle.cg_moves.specs.declared.fault.BoardFault.TheVariants.{Rules, Lowering}
use Rattle.cg_moves.specs.Grid.{Grid}
use Rattle.cg_moves.specs.Raw.{raw}
use Rattle.cg_moves.specs.Rules.{GameRules}
use Rattle.cg_moves.specs.Texts.{read_of}
use Rattle.cg_domineering.specs.Moves.{domineering}
use Rattle.cg_clobber.specs.Moves.{clobber}
use Rattle.cg_amazons.specs.Amazons.{amazons}
use Rattle.cg_graph.specs.ColouredGraphs.{ColouredGraph, coloured_graph_read, coloured_graph_rules, coloured_graph_start}
use Rattle.cg_graph.specs.Drawings.{drawing_read, drawing_rules, drawing_start}
use Rattle.cg_graph.specs.declared.edge.ColouredEdge.{ColouredEdge}
use Rattle.cg_graph.specs.declared.fault.GraphFault.{GraphFault}
use Rattle.cg_strip.specs.Toads.{toads_game}
use Rattle.cg_strip.specs.Boards.{IsBoardOf}
use Rattle.cg_strip.specs.Faults.{fault_of}
use Rattle.cg_strip.specs.Grammar.{Items}
use Rattle.cg_strip.specs.Reading.{rules_text_at}
use Rattle.cg_strip.specs.RuleFaults.{IsReadAs, IsRulesPlace, book_of}
use Rattle.cg_strip.specs.Rulebook.{Rulebook, symbols_of}
use Rattle.cg_strip.specs.StripGame.{strip_game}
use Rattle.cg_strip.specs.Weighing.{IsFirstRising, first_rising}
use Rattle.cg_values.specs.Items.{board_items}
use Rattle.cg_query.specs.declared.kind.GameKind.{GameKind}
use Rattle.cg_query.specs.declared.kind.GameKind.TheVariants.{Domineering, Clobber, Amazons, Toads, Strip, Hackenbush, Col, Snort}
use Rattle.cg_eval.specs.Zero.{zero_form, zero_items}
use Rattle.cg_eval.specs.declared.fault.GameFault.{GameFault}
use Rattle.cg_eval.specs.declared.fault.GameFault.TheVariants as by

-- a board of a game with these rules, or why a text is none
pub data Position : Type 0 where
  board : GameRules → Grid → Position
  faulty : GameFault → Position

abbrev pub position_by : GameRules → Result Grid BoardFault → Position
position_by r (Ok p) = board r p
position_by r (Err fault) = faulty (by.Board fault)

-- ---- strip games, whose rules are read before the row

-- What a rules text and a row are: the board of the game of these rules; or the rules are refused; or they are rules, and the
-- row is refused; or it is a row, and some rule, of which the k-th is the first, doesn't lower the sum of the weights
pub data IsStrip (rules row : List ℕ) : Position → Type 0 where
  strip_board : (book : Rulebook) (p : Grid) → IsReadAs rules book → IsBoardOf book row p
      → IsStrip rules row (board (strip_game book) p)
  no_rules : (place : ℕ) → IsRulesPlace rules place → IsStrip rules row (faulty (by.Board (Rules place)))
  no_row : (book : Rulebook) (fault : BoardFault) → IsReadAs rules book
      → read_of (symbols_of book.weights) true row ≡ Err fault → IsStrip rules row (faulty (by.Board fault))
  not_lowered : (book : Rulebook) (p : Grid) (k : ℕ) → IsReadAs rules book
      → read_of (symbols_of book.weights) true row ≡ Ok p → IsFirstRising book (length p.cells) k
      → IsStrip rules row (faulty (by.Board (Lowering k)))

-- The same, computed. The law function `strip_boards` says that it is the one position that the two texts are

abbrev pub lowered : Rulebook → Grid → Option ℕ → Position
lowered book p None = board (strip_game book) p
lowered book p (Some k) = faulty (by.Board (Lowering k))

abbrev pub strip_row : Rulebook → Result Grid BoardFault → Position
strip_row book (Ok p) = lowered book p (first_rising book.weights (length p.cells) 0 book.rules)
strip_row book (Err fault) = faulty (by.Board fault)

abbrev pub strip_of_items : Items → List ℕ → Option ℕ → Position
strip_of_items t row None = strip_row (book_of t) (read_of (symbols_of (book_of t).weights) true row)
strip_of_items t row (Some place) = faulty (by.Board (Rules place))

abbrev pub strip_of : List ℕ → List ℕ → Result Items ℕ → Position
strip_of rules row (Ok t) = strip_of_items t row (fault_of t)
strip_of rules row (Err left) = faulty (by.Board (Rules (suc (length rules) - left)))

unfoldable pub strip_position : List ℕ → List ℕ → Position
strip_position rules row = strip_of rules row (whole_at rules_text_at rules)

-- ---- games on graphs

abbrev pub position_drawn : Result (List ColouredEdge) GraphFault → Position
position_drawn (Ok drawing) = board (drawing_rules drawing) (drawing_start drawing)
position_drawn (Err fault) = faulty (by.Graph fault)

abbrev pub position_coloured : Result ColouredGraph GraphFault → Position
position_coloured (Ok coloured_graph) = board (coloured_graph_rules coloured_graph) (coloured_graph_start coloured_graph)
position_coloured (Err fault) = faulty (by.Graph fault)

-- ---- all games

-- What the text of a game's rules and that of its board are. The edges of a graph are its rules, and the vertices of Col and
-- Snort the board
abbrev pub position_of : GameKind → List ℕ → List ℕ → Position
position_of Domineering rules text = position_by domineering (read_of (codes ".#") false text)
position_of Clobber rules text = position_by clobber (read_of (codes ".xo") false text)
position_of Amazons rules text = position_by amazons (read_of (codes ".xo#") false text)
position_of Toads rules text = position_by toads_game (read_of (codes ".TF") true text)
position_of Strip rules text = strip_position rules text
position_of Hackenbush rules text = position_drawn (drawing_read rules)
position_of Col rules text = position_coloured (coloured_graph_read false text rules)
position_of Snort rules text = position_coloured (coloured_graph_read true text rules)

-- the tree of all moves from the board. A question that has what is no board is refused, whatever that means: here 0
abbrev pub position_form : Position → Game
position_form (board r p) = raw r p
position_form (faulty fault) = zero_form

abbrev pub position_items : ℕ → Position → List Item
position_items limit (board r p) = board_items limit r p
position_items limit (faulty fault) = zero_items

-- why the text is ill-formed, if it is
abbrev pub position_fault : Position → Option GameFault
position_fault (board r p) = None
position_fault (faulty fault) = Some fault
