-- A graph for worked rows: the edges `01`, `12` and `23`.
use Rattle.std.specs.Prelude.{List, [], ◌∷◌}
use Rattle.cg_graph.specs.Paths.{Edge}

abbrev pub path : List Edge
path = record { one = 48; other = 49 } ∷ (record { one = 49; other = 50 } ∷ (record { one = 50; other = 51 } ∷ []))

-- two joined vertices
abbrev pub pair : List Edge
pair = record { one = 0; other = 1 } ∷ []
