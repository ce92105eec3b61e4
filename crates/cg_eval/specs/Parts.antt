-- What private contracts say of boards that were read and of what is shown.
use Rattle.std.specs.Prelude.{◌≡◌, ◌⊎◌, ◌<◌, ℕ, Bool, List, Option, Some, None, Result, Ok, Err, true, false, codes, if◌then◌else◌, String, string_bytes}
use Rattle.cg_dyadic.specs.Wide.{places}
use Rattle.cg_form.specs.Depth.{depth_of}
use Rattle.cg_form.specs.Game.{Game}
use Rattle.cg_form.specs.Order.{le}
use Rattle.cg_nodes.specs.Can.{can}
use Rattle.cg_domineering.specs.Moves.{domineering}
use Rattle.cg_clobber.specs.Moves.{clobber}
use Rattle.cg_amazons.specs.Amazons.{amazons}
use Rattle.cg_graph.specs.ColouredGraphs.{coloured_graph_rules}
use Rattle.cg_graph.specs.Drawings.{drawing_rules}
use Rattle.cg_strip.specs.Toads.{toads_game}
use Rattle.cg_strip.specs.StripGame.{strip_game}
use Rattle.cg_thermo.specs.declared.thermo.Walls.{Walls}
use Rattle.cg_thermo.specs.Thermal.{NeedsMore}
use Rattle.cg_thermo.specs.Thermographs.{IsThermograph}
use Rattle.cg_thermo.specs.declared.winner.Outcome.{Outcome}
use Rattle.cg_thermo.specs.declared.winner.Outcome.TheVariants.{L, R, P, N}
use Rattle.cg_query.specs.Tree.{Question, Tree, value, compare, outcome, stops, mean, temp, thermo, proof, check}
use Rattle.cg_eval.specs.Boards.{Position, board, faulty}
use Rattle.cg_eval.specs.Pictures.{mean_text, temp_text, thermograph_text}
use Rattle.cg_eval.specs.Meaning.{meaning}
use Rattle.cg_eval.specs.Reply.{IsAnswerTo, IsChecked, IsProofTold, Piece, answer, comparison}
use Rattle.cg_eval.specs.Shown.{IsDeep, shown}
use Rattle.cg_eval.specs.declared.answered.Answered.{Answered}
use Rattle.cg_eval.specs.IllFormed.{is_memory}
use Rattle.cg_octal.specs.Codes.{OctalHeap}
use Rattle.cg_octal.specs.declared.fault.OctalFault.{OctalFault}
use Rattle.cg_octal.specs.declared.fault.OctalFault.TheVariants as octal
use Rattle.cg_eval.specs.declared.fault.GameFault.{GameFault}
use Rattle.cg_eval.specs.declared.fault.GameFault.TheVariants as by
use Rattle.cg_eval.specs.declared.fault.NoValue.{NoValue}
use Rattle.cg_eval.specs.declared.fault.NoValue.TheVariants.{Refused}
use Rattle.cg_canon.specs.declared.fault.ValueFault.{ValueFault}
use Rattle.cg_eval.specs.declared.boards.GameBoard.{GameBoard}
use Rattle.cg_eval.specs.declared.boards.GameBoard.TheVariants as boards
use Rattle.cg_eval.specs.declared.pictures.Part.{Part}
use Rattle.cg_eval.specs.declared.pictures.Part.TheVariants as parts
use Rattle.cg_eval.specs.declared.telling.Asked.{Asked}
use Rattle.cg_eval.specs.declared.telling.Asked.TheVariants as asking
use Rattle.cg_eval.specs.declared.telling.AskedOfTwo.{AskedOfTwo}
use Rattle.cg_eval.specs.declared.telling.AskedOfTwo.TheVariants.{Order, Proof, Check}

-- ---- why there is no value

-- the fault of an item as the cause
abbrev pub widened : Result ℕ ValueFault → Result ℕ NoValue
widened (Ok h) = Ok h
widened (Err fault) = Err (Refused fault)

-- ---- boards

-- the board of its game
abbrev pub set_up : GameBoard → Position
set_up (boards.Domineering p) = board domineering p
set_up (boards.Clobber p) = board clobber p
set_up (boards.Amazons p) = board amazons p
set_up (boards.Toads p) = board toads_game p
set_up (boards.Strip book p) = board (strip_game book) p
set_up (boards.Hackenbush drawing p) = board (drawing_rules drawing) p
set_up (boards.Colouring coloured_graph p) = board (coloured_graph_rules coloured_graph) p

-- it is a board of its game
abbrev pub IsSound : Position → Type 0
IsSound (board r p) = r.has p ≡ true
IsSound (faulty fault) = Unit {0}

-- want of memory, or why the position is ill-formed
abbrev pub IsFaulty : Position → GameFault → Type 0
IsFaulty q fault = (is_memory fault ≡ true) ⊎ (q ≡ faulty fault)

-- the fault of a reading: none of a board, and none is told of want of memory
abbrev pub IsFaultOf : Option GameFault → Result GameBoard GameFault → Type 0
IsFaultOf fault (Ok p) = fault ≡ None
IsFaultOf fault (Err cause) = (is_memory cause ≡ false) × (fault ≡ Some cause)

-- the fault of the reading of a code and a heap: none of a heap, and none is told of want of memory
abbrev pub IsHeapFault : Option GameFault → Result OctalHeap OctalFault → Type 0
IsHeapFault fault (Ok o) = fault ≡ None
IsHeapFault fault (Err octal.Memory) = ⊥
IsHeapFault fault (Err (octal.Code place)) = fault ≡ Some (by.Octal (octal.Code place))
IsHeapFault fault (Err octal.Heap) = fault ≡ Some (by.Octal octal.Heap)

-- ---- thermographs

-- the text of this part
abbrev pub part_text : Part → Walls → List ℕ
part_text parts.Mean w = mean_text w
part_text parts.Temp w = temp_text w
part_text parts.Whole w = thermograph_text w

-- the question that asks for this part
abbrev pub part_asked : Part → Tree → Question
part_asked parts.Mean t = mean t
part_asked parts.Temp t = temp t
part_asked parts.Whole t = thermo t

-- the text of this part of the thermograph; or none, where a position needs too many binary places, and the game is deep
abbrev pub IsDrawn : {A : Type 0} → Part → Game → Option (String A) → Type 0
IsDrawn {A} part g None = NeedsMore places g × (20 < depth_of g)
IsDrawn {A} part g (Some text) =
    (¬ NeedsMore places g) × ((w : Walls) × IsThermograph g w × (string_bytes text ≡ part_text part w))

-- ---- what is told of a game

-- the question
abbrev pub asked_of : Asked → Tree → Question
asked_of asking.Value t = value t
asked_of asking.Outcome t = outcome t
asked_of asking.Stops t = stops t
asked_of (asking.Picture part) t = part_asked part t

-- the question about two expressions
abbrev pub asked_of_two : AskedOfTwo → Tree → Tree → Question
asked_of_two Order a b = compare a b
asked_of_two Proof a b = proof a b
asked_of_two (Check text) a b = check a b text.now

-- the letter of who wins
abbrev pub winner_of : Outcome → List ℕ
winner_of L = codes "L"
winner_of R = codes "R"
winner_of P = codes "P"
winner_of N = codes "N"

-- the answer to the question for the game, with its handle unless it is a refusal
pub record Tells (g : Game) (h : ℕ) (asked : Asked) (a : Answered) : Type 0 where
  pub text : (t : Tree) → g ≡ can (meaning t) → IsAnswerTo (asked_of asked t) (shown a)
  pub deep : (t : Tree) → g ≡ can (meaning t) → IsDeep (asked_of asked t)
  pub handle : a.handle ≡ (if a.refused then None else Some h)

-- the answer to a question about two games, with the first one's handle unless it is a refusal
pub record TellsTwo (h : ℕ) (Is : Piece → Type 0) (a : Answered) : Type 0 where
  pub text : Is (shown a)
  pub handle : a.handle ≡ (if a.refused then None else Some h)

-- how the two compare
abbrev pub IsCompared : Game → Game → Piece → Type 0
IsCompared g h reply = reply ≡ answer (comparison (le g h) (le h g))

-- what is told of two games
abbrev pub IsToldOfTwo : AskedOfTwo → Game → Game → Piece → Type 0
IsToldOfTwo Order g h reply = IsCompared g h reply
IsToldOfTwo Proof g h reply = IsProofTold g h reply
IsToldOfTwo (Check text) g h reply = IsChecked g h text.now reply

-- whether a text is a proof
abbrev pub yes_or_no : Bool → List ℕ
yes_or_no true = codes "yes"
yes_or_no false = codes "no"
