-- Positions from what the readers of boards say.
use Rattle.std.proofs.Common.{◌≡◌, refl, ap, sym, ◌∙◌, ◌⊎◌, inl, inr, ℕ, List, Bool, true, false, Option, Some, None, Result, Ok, Err, IfErr, IfOk}
use Rattle.std.specs.Prelude.{codes}
use Rattle.cg_moves.specs.declared.fault.BoardFault.{BoardFault}
use Rattle.cg_moves.specs.declared.fault.BoardFault.TheVariants.{Symbol, Empty, Ragged, Large, Rules, Lowering, Memory}
use Rattle.cg_moves.specs.Grid.{Grid}
use Rattle.cg_moves.specs.Rules.{GameRules}
use Rattle.cg_moves.specs.Texts.{read_of}
use Rattle.cg_amazons.specs.Amazons.{amazons}
use Rattle.cg_amazons.specs.Boards.{IsNoAmazonsBoard}
use Rattle.cg_strip.specs.Boards.{IsBoardOf, IsBoardRefused}
use Rattle.cg_strip.specs.RuleFaults.{IsReadAs, IsRefused}
use Rattle.cg_strip.specs.Rulebook.{Rulebook, symbols_of}
use Rattle.cg_strip.specs.StripGame.{strip_game}
use Rattle.cg_strip.specs.Toads.{toads_game}
use Rattle.cg_strip.specs.ToadsBoards.{IsNoToadsBoard}
use Rattle.cg_graph.specs.ColouredGraphs.{ColouredGraph, coloured_graph_read, coloured_graph_rules, coloured_graph_start}
use Rattle.cg_graph.specs.Drawings.{drawing_read, drawing_rules, drawing_start}
use Rattle.cg_graph.specs.declared.edge.ColouredEdge.{ColouredEdge}
use Rattle.cg_graph.specs.declared.fault.GraphFault.{GraphFault}
use Rattle.cg_graph.specs.declared.fault.GraphFault.TheVariants as graph
use Rattle.cg_eval.specs.Boards.{Position, board, faulty, no_row, no_rules, not_lowered, position_by, position_coloured, position_drawn}
use Rattle.cg_eval.specs.Boards.{position_fault, strip_board, strip_position}
use Rattle.cg_eval.specs.IllFormed.{is_memory}
use Rattle.cg_eval.specs.Parts.{IsFaultOf, IsFaulty, set_up}
use Rattle.cg_eval.specs.declared.fault.GameFault.{GameFault}
use Rattle.cg_eval.specs.declared.fault.GameFault.TheVariants as by
use Rattle.cg_eval.specs.declared.boards.GameBoard.{GameBoard}
use Rattle.cg_eval.specs.declared.boards.GameBoard.TheVariants as boards
use Rattle.cg_eval.proofs.StripReadings.{strip-only}

pub read-faulty : (r : GameRules) (read : Result Grid BoardFault) (fault : BoardFault)
    → (fault ≡ Memory) ⊎ (read ≡ Err fault) → IsFaulty (position_by r read) (by.Board fault)
read-faulty r read fault (inl e) = inl (ap (λ z. is_memory (by.Board z)) e)
read-faulty r read fault (inr e) = inr (ap (position_by r) e)

pub amazons-faulty : (text : List ℕ) (fault : BoardFault) → IsNoAmazonsBoard text fault
    → IsFaulty (position_by amazons (read_of (codes ".xo#") false text)) (by.Board fault)
amazons-faulty text Memory h = inl refl
amazons-faulty text (Symbol k) h = inr (ap (position_by amazons) h)
amazons-faulty text (Empty k) h = inr (ap (position_by amazons) h)
amazons-faulty text (Ragged k) h = inr (ap (position_by amazons) h)
amazons-faulty text (Large k) h = inr (ap (position_by amazons) h)
amazons-faulty text (Rules k) h = inr (ap (position_by amazons) h)
amazons-faulty text (Lowering k) h = inr (ap (position_by amazons) h)

pub toads-faulty : (text : List ℕ) (fault : BoardFault) → IsNoToadsBoard text fault
    → IsFaulty (position_by toads_game (read_of (codes ".TF") true text)) (by.Board fault)
toads-faulty text Memory h = inl refl
toads-faulty text (Symbol k) h = inr (ap (position_by toads_game) h)
toads-faulty text (Empty k) h = inr (ap (position_by toads_game) h)
toads-faulty text (Ragged k) h = inr (ap (position_by toads_game) h)
toads-faulty text (Large k) h = inr (ap (position_by toads_game) h)
toads-faulty text (Rules k) h = inr (ap (position_by toads_game) h)
toads-faulty text (Lowering k) h = inr (ap (position_by toads_game) h)

-- ---- strip games

pub rules-faulty : (rules row : List ℕ) (fault : BoardFault) → IsRefused rules fault
    → IsFaulty (strip_position rules row) (by.Board fault)
rules-faulty rules row Memory h = inl refl
rules-faulty rules row (Rules place) h = inr (strip-only rules row (faulty (by.Board (Rules place))) (no_rules place h))
rules-faulty rules row (Symbol k) h = absurd h
rules-faulty rules row (Empty k) h = absurd h
rules-faulty rules row (Ragged k) h = absurd h
rules-faulty rules row (Large k) h = absurd h
rules-faulty rules row (Lowering k) h = absurd h

row-fault : (rules row : List ℕ) (book : Rulebook) (fault : BoardFault) → IsReadAs rules book
    → read_of (symbols_of book.weights) true row ≡ Err fault → IsFaulty (strip_position rules row) (by.Board fault)
row-fault rules row book fault a e = inr (strip-only rules row (faulty (by.Board fault)) (no_row book fault a e))

pub row-faulty : (rules row : List ℕ) (book : Rulebook) (fault : BoardFault) → IsReadAs rules book
    → IsBoardRefused book row fault → IsFaulty (strip_position rules row) (by.Board fault)
row-faulty rules row book Memory a h = inl refl
row-faulty rules row book (Lowering k) a (p, e, r) =
    inr (strip-only rules row (faulty (by.Board (Lowering k))) (not_lowered book p k a e r))
row-faulty rules row book (Symbol k) a h = row-fault rules row book (Symbol k) a h
row-faulty rules row book (Empty k) a h = row-fault rules row book (Empty k) a h
row-faulty rules row book (Ragged k) a h = row-fault rules row book (Ragged k) a h
row-faulty rules row book (Large k) a h = row-fault rules row book (Large k) a h
row-faulty rules row book (Rules k) a h = row-fault rules row book (Rules k) a h

pub strip-set_up : (rules row : List ℕ) (book : Rulebook) (p : Grid) → IsReadAs rules book → IsBoardOf book row p
    → strip_position rules row ≡ set_up (boards.Strip book p)
strip-set_up rules row book p a b = strip-only rules row (board (strip_game book) p) (strip_board book p a b)

-- ---- games on graphs

pub drawn-faulty : (edges : List ℕ) (fault : GraphFault) → (fault ≡ graph.Memory) ⊎ (drawing_read edges ≡ Err fault)
    → IsFaulty (position_drawn (drawing_read edges)) (by.Graph fault)
drawn-faulty edges fault (inl e) = inl (ap (λ z. is_memory (by.Graph z)) e)
drawn-faulty edges fault (inr e) = inr (ap position_drawn e)

pub coloured-faulty : (snort : Bool) (vertices edges : List ℕ) (fault : GraphFault)
    → (fault ≡ graph.Memory) ⊎ (coloured_graph_read snort vertices edges ≡ Err fault)
    → IsFaulty (position_coloured (coloured_graph_read snort vertices edges)) (by.Graph fault)
coloured-faulty snort vertices edges fault (inl e) = inl (ap (λ z. is_memory (by.Graph z)) e)
coloured-faulty snort vertices edges fault (inr e) = inr (ap position_coloured e)

-- ---- the fault of a reading

pub board-none : (b : GameBoard) → position_fault (set_up b) ≡ None
board-none (boards.Domineering p) = refl
board-none (boards.Clobber p) = refl
board-none (boards.Amazons p) = refl
board-none (boards.Toads p) = refl
board-none (boards.Strip book p) = refl
board-none (boards.Hackenbush drawing p) = refl
board-none (boards.Colouring coloured_graph p) = refl

some-fault : (q : Position) (fault : GameFault) → is_memory fault ≡ false → IsFaulty q fault
    → Some fault ≡ position_fault q
some-fault q fault n (inl e) = absurd (let x = sym e ∙ n in cc)
some-fault q fault n (inr e) = sym (ap position_fault e)

pub fault-of : (q : Position) (read : Result GameBoard GameFault) (o : Option GameFault) → IsFaultOf o read
    → IfOk read (λ b. q ≡ set_up b) → IfErr read (IsFaulty q) → o ≡ position_fault q
fault-of q (Ok b) o e r f = e ∙ sym (ap position_fault r ∙ board-none b)
fault-of q (Err fault) o e r f = e.1 ∙ some-fault q fault e.0 f

-- what is no board
pub is-faulty : (q : Position) (fault : GameFault) → IsFaulty q fault → is_memory fault ≡ false → q ≡ faulty fault
is-faulty q fault (inl e) n = let x = sym e ∙ n in absurd (cc)
is-faulty q fault (inr e) n = e

-- ---- want of memory for the board of what was read

pub no-memory : (q : Position) → IsFaulty q (by.Graph graph.Memory)
no-memory q = inl refl

pub drawn-set_up : (edges : List ℕ) (drawing : List ColouredEdge) (p : Grid) → drawing_read edges ≡ Ok drawing
    → p ≡ drawing_start drawing → position_drawn (drawing_read edges) ≡ set_up (boards.Hackenbush drawing p)
drawn-set_up edges drawing p e f = ap position_drawn e ∙ ap (λ z. board (drawing_rules drawing) z) (sym f)

pub coloured-set_up : (snort : Bool) (vertices edges : List ℕ) (coloured_graph : ColouredGraph) (p : Grid)
    → coloured_graph_read snort vertices edges ≡ Ok coloured_graph → p ≡ coloured_graph_start coloured_graph
    → position_coloured (coloured_graph_read snort vertices edges) ≡ set_up (boards.Colouring coloured_graph p)
coloured-set_up snort vertices edges coloured_graph p e f = ap position_coloured e ∙ ap (λ z. board (coloured_graph_rules coloured_graph) z) (sym f)
