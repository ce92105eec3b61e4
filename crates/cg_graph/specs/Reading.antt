-- Reading edges and pairs from the front of a text, piece by piece. The functions of the code are told by these what they return.
use Rattle.std.specs.Prelude.{ℕ, List, [], ◌∷◌}
use Rattle.cg_reading.specs.Readers.{Reader, then_at, or_at, many_at, made_at, nothing_at, one_at, placed_at}
use Rattle.cg_reading.specs.TokenReaders.{byte_at}
use Rattle.cg_graph.specs.Grammar.{comma, vertex, colour, letter, edge_item, pair_item}
use Rattle.cg_graph.specs.declared.items.EdgeItem.{EdgeItem}
use Rattle.cg_graph.specs.declared.items.PairItem.{PairItem}

unfoldable pub vertex_at : Reader ℕ
vertex_at = one_at vertex

unfoldable pub colour_at : Reader ℕ
colour_at = one_at colour

unfoldable pub letter_at : Reader ℕ
letter_at = one_at letter

unfoldable pub edge_at : Reader EdgeItem
edge_at = made_at edge_item (then_at (placed_at vertex_at) (then_at colour_at vertex_at))

unfoldable pub next_edge_at : Reader EdgeItem
next_edge_at = made_at (λ v. v.1) (then_at (byte_at 44) edge_at)

unfoldable pub edges_at : Reader (List EdgeItem)
edges_at = made_at (λ v. v.0 ∷ v.1) (then_at edge_at (many_at comma next_edge_at))

unfoldable pub pair_at : Reader PairItem
pair_at = made_at pair_item (then_at (placed_at letter_at) letter_at)

unfoldable pub next_pair_at : Reader PairItem
next_pair_at = made_at (λ v. v.1) (then_at (byte_at 44) pair_at)

unfoldable pub some_pairs_at : Reader (List PairItem)
some_pairs_at = made_at (λ v. v.0 ∷ v.1) (then_at pair_at (many_at comma next_pair_at))

unfoldable pub pairs_at : Reader (List PairItem)
pairs_at = or_at letter some_pairs_at (nothing_at [])
