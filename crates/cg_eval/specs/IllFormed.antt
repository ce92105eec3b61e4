-- Why the text of a game is ill-formed, and how that is told.
use Rattle.std.specs.Prelude.{ℕ, ◌++◌, Bool, true, false, List, codes, decimal}
use Rattle.cg_graph.specs.declared.fault.GraphFault.{GraphFault}
use Rattle.cg_graph.specs.declared.fault.GraphFault.TheVariants as graph
use Rattle.cg_moves.specs.declared.fault.BoardFault.{BoardFault}
use Rattle.cg_moves.specs.declared.fault.BoardFault.TheVariants.{Symbol, Empty, Ragged, Large, Rules, Lowering, Memory}
use Rattle.cg_octal.specs.declared.fault.OctalFault.{OctalFault}
use Rattle.cg_octal.specs.declared.fault.OctalFault.TheVariants as octal
use Rattle.cg_eval.specs.declared.fault.GameFault.{GameFault}
use Rattle.cg_eval.specs.declared.fault.GameFault.TheVariants as by

-- the refusal of the text of a board, of a graph, of a code with a heap. Want of memory has none
abbrev pub board_text : BoardFault → List ℕ
board_text (Symbol place) = codes "! board symbol " ++ decimal place
board_text (Empty place) = codes "! board empty " ++ decimal place
board_text (Ragged place) = codes "! board ragged " ++ decimal place
board_text (Large place) = codes "! board large " ++ decimal place
board_text (Rules place) = codes "! board rules " ++ decimal place
board_text (Lowering rule) = codes "! board lowering " ++ decimal rule
board_text Memory = codes "! memory"

abbrev pub graph_text : GraphFault → List ℕ
graph_text (graph.Symbol place) = codes "! board symbol " ++ decimal place
graph_text (graph.Empty place) = codes "! board empty " ++ decimal place
graph_text (graph.Large place) = codes "! board large " ++ decimal place
graph_text (graph.Edges place) = codes "! board edges " ++ decimal place
graph_text graph.Memory = codes "! memory"

abbrev pub octal_text : OctalFault → List ℕ
octal_text (octal.Code place) = codes "! board octal " ++ decimal place
octal_text octal.Heap = codes "! board heap 1"
octal_text octal.Memory = codes "! memory"

abbrev pub fault_text : GameFault → List ℕ
fault_text (by.Board fault) = board_text fault
fault_text (by.Graph fault) = graph_text fault
fault_text (by.Octal fault) = octal_text fault

-- memory was wanting
abbrev pub is_memory : GameFault → Bool
is_memory (by.Board Memory) = true
is_memory (by.Board _) = false
is_memory (by.Graph graph.Memory) = true
is_memory (by.Graph _) = false
is_memory (by.Octal octal.Memory) = true
is_memory (by.Octal _) = false
