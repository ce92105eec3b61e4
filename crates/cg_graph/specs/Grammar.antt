-- The grammar of the edges of Hackenbush, and that of the pairs of vertices of Col and Snort, a definition for each production.
--
--   edges  = edge { "," edge }
--   edge   = vertex colour vertex
--   vertex = "0" to "9" | "A" to "Z"
--   colour = "b" | "g" | "r"
--   pairs  = [ pair { "," pair } ]
--   pair   = letter letter
--   letter = "A" to "Z" | "a" to "z"
use Rattle.std.specs.Prelude.{ℕ, List, [], ◌∷◌}
use Rattle.cg_reading.specs.Bytes.{Class}
use Rattle.cg_reading.specs.Pieces.{Piece, Then, Or, Many, Made, Nothing, One, Placed}
use Rattle.cg_reading.specs.Tokens.{only}
use Rattle.cg_graph.specs.declared.items.EdgeItem.{EdgeItem}
use Rattle.cg_graph.specs.declared.items.PairItem.{PairItem}

-- ---- bytes by name

abbrev pub comma : Class
comma = only 44

abbrev pub vertex : Class
vertex = (48, 57) ∷ (65, 90) ∷ []

abbrev pub colour : Class
colour = (98, 98) ∷ (103, 103) ∷ (114, 114) ∷ []

abbrev pub letter : Class
letter = (65, 90) ∷ (97, 122) ∷ []

-- ---- lists

abbrev pub behind_comma : {A : Type 0} → Piece A → Piece A
behind_comma R = Made (λ v. v.1) (Then (One comma) R)

-- one or more of them, joined by commas
abbrev pub listed : {A : Type 0} → Piece A → Piece (List A)
listed R = Made (λ v. v.0 ∷ v.1) (Then R (Many (behind_comma R)))

-- ---- edges

-- the edge whose first byte stands at this place
abbrev pub edge_item : (ℕ × ℕ) × (ℕ × ℕ) → EdgeItem
edge_item v = record { place = v.0.0; edge = record { one = v.0.1; colour = v.1.0; other = v.1.1 } }

abbrev pub edge : Piece EdgeItem
edge = Made edge_item (Then (Placed (One vertex)) (Then (One colour) (One vertex)))

abbrev pub edges : Piece (List EdgeItem)
edges = listed edge

-- ---- pairs

-- the pair whose first letter stands at this place
abbrev pub pair_item : (ℕ × ℕ) × ℕ → PairItem
pair_item v = record { place = v.0.0; one = v.0.1; other = v.1 }

abbrev pub pair : Piece PairItem
pair = Made pair_item (Then (Placed (One letter)) (One letter))

abbrev pub pairs : Piece (List PairItem)
pairs = Or (listed pair) (Nothing [])
