-- What the code and the heap of an octal game are: a heap of tokens, or ill-formed.
use Rattle.std.specs.Prelude.{ℕ, ◌+◌, ◌||◌, nat_lt, if◌then◌else◌, List, map, length, Option, Some, None, Result, Ok, Err}
use Rattle.cg_form.specs.Game.{Game}
use Rattle.cg_form.specs.Positions.{positions_of}
use Rattle.cg_nodes.specs.Can.{can}
use Rattle.cg_canon.specs.Items.{Item}
use Rattle.cg_canon.specs.SumItems.{within_limit}
use Rattle.cg_names.specs.Lists.{plain_item}
use Rattle.cg_octal.specs.Codes.{OctalHeap, digits_of}
use Rattle.cg_octal.specs.Fitting.{fit_length}
use Rattle.cg_octal.specs.Heaps.{heap}
use Rattle.cg_octal.specs.declared.fault.OctalFault.{OctalFault}
use Rattle.cg_octal.specs.declared.fault.OctalFault.TheVariants.{Code, Heap}
use Rattle.cg_eval.specs.Zero.{zero_form, zero_items}
use Rattle.cg_eval.specs.declared.fault.GameFault.{GameFault}
use Rattle.cg_eval.specs.declared.fault.GameFault.TheVariants as by

-- The heap of so many tokens in the game of the code, or why there is none, computed: by how far the text may be the front of a
-- code. The law function `octal_heaps` says that this is how the two read
abbrev pub read_by : List ℕ → ℕ → ℕ → Result OctalHeap OctalFault
read_by code tokens fit =
    if nat_lt fit (length code) || nat_lt fit 3 then Err (Code (fit + 1))
    else (if nat_lt 1000 tokens then Err Heap
    else Ok (record { digits = digits_of code; heap = tokens }))

unfoldable pub octal_read : List ℕ → ℕ → Result OctalHeap OctalFault
octal_read code tokens = read_by code tokens (fit_length 0 code)

-- the tree of the heap, and 0 for what is no heap, as for what is no board
abbrev pub heap_form : Result OctalHeap OctalFault → Game
heap_form (Ok o) = heap o.digits o.heap
heap_form (Err fault) = zero_form

-- the positions of the nimber that it equals, or the one item too_many where 1 and the tokens are more than the limit
abbrev pub heap_items : ℕ → Result OctalHeap OctalFault → List Item
heap_items limit (Ok o) = within_limit limit (o.heap + 1) (map plain_item (positions_of (can (heap o.digits o.heap))))
heap_items limit (Err fault) = zero_items

-- why it is ill-formed, if it is
abbrev pub heap_fault : Result OctalHeap OctalFault → Option GameFault
heap_fault (Ok o) = None
heap_fault (Err fault) = Some (by.Octal fault)
