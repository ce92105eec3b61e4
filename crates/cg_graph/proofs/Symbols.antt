-- The cells of boards have the symbols of the games.
use Rattle.std.proofs.Common.{◌≡◌, ◌⊎◌, refl, ℕ, zero, suc, ◌==◌, true, None, List, [], ◌∷◌, length, sym, ◌∙◌, arith, inl, inr, append-nil}
use Rattle.std.specs.Prelude.{All, Contains, codes, position}
use Rattle.std.specs.Str.{bytes_eq}
use Rattle.cg_dyadic.proofs.Truth.{and-split}
use Rattle.cg_reading.specs.Bytes.{has}
use Rattle.cg_moves.specs.declared.player.Player.{Player}
use Rattle.cg_moves.specs.declared.player.Player.TheVariants.{Left, Right}
use Rattle.cg_moves.specs.Grid.{AreCells, Grid}
use Rattle.cg_moves.specs.Texts.{is_foreign}
use Rattle.cg_moves.proofs.Same.{bytes_eq-back}
use Rattle.cg_moves.proofs.TextLemmas.{cells-symbols}
use Rattle.cg_graph.specs.ColouredGraphs.{ColouredGraph, coloured_graph_rules}
use Rattle.cg_graph.specs.Colouring.{own}
use Rattle.cg_graph.specs.Drawings.{IsEdge, colours_of, drawing_rules, graph_of}
use Rattle.cg_graph.specs.Grammar.{colour}
use Rattle.cg_graph.specs.Paths.{gone}
use Rattle.cg_graph.specs.declared.edge.ColouredEdge.{ColouredEdge}

-- ---- Hackenbush

cells_cons : (symbols cells : List ℕ) (c : ℕ) → Contains symbols c → AreCells symbols cells → AreCells symbols (c ∷ cells)
cells_cons symbols cells c is are zero below = is
cells_cons symbols cells c is are (suc k) below = are k (omega arith)

pub gone-contained : Contains (codes ".brg") gone
gone-contained = (0, omega arith, refl)

colour-contained : (c : ℕ) → has colour c ≡ true → Contains (codes ".brg") c
colour-contained c h = one_of c (cases c h)
  where
    cases : (c : ℕ) → has colour c ≡ true → (c ≡ 98) ⊎ ((c ≡ 114) ⊎ (c ≡ 103))
    cases c h = grind arith

    one_of : (c : ℕ) → (c ≡ 98) ⊎ ((c ≡ 114) ⊎ (c ≡ 103)) → Contains (codes ".brg") c
    one_of c (inl e) = (1, omega arith, sym e)
    one_of c (inr (inl e)) = (2, omega arith, sym e)
    one_of c (inr (inr e)) = (3, omega arith, sym e)

pub colours_cells : (drawing : List ColouredEdge) → All IsEdge drawing → AreCells (codes ".brg") (colours_of drawing)
colours_cells [] are = λ k below. absurd (omega arith)
colours_cells (e ∷ drawing) are =
    cells_cons (codes ".brg") (colours_of drawing) e.colour (colour-contained e.colour (are 0 e (omega arith)).colour)
    (colours_cells drawing (λ k d below. are (suc k) d (omega arith)))

pub has-gone : (edges : List ColouredEdge) (p : Grid) → (drawing_rules edges).has p ≡ true → Contains p.symbols gone
has-gone edges p has =
    let same = bytes_eq-back p.symbols (codes ".brg")
    (and-split (bytes_eq p.symbols (codes ".brg")) (length p.cells == length (graph_of edges)) has).0 in
    rw same gone-contained

-- ---- Col and Snort

own-contained : (player : Player) → Contains (codes ".xo") (own player)
own-contained Left = (1, omega arith, refl)
own-contained Right = (2, omega arith, refl)

pub has-own : (coloured_graph : ColouredGraph) (player : Player) (p : Grid) → (coloured_graph_rules coloured_graph).has p ≡ true → Contains p.symbols
    (own player)
has-own coloured_graph player p has =
    let same = bytes_eq-back p.symbols (codes ".xo")
    (and-split (bytes_eq p.symbols (codes ".xo")) (length p.cells == length coloured_graph.vertices) has).0 in
    rw same (own-contained player)

pub vertices_cells : (vertices cells : List ℕ) → cells ≡ vertices → position (is_foreign true (codes ".xo")) vertices ≡ None
    → AreCells (codes ".xo") cells
vertices_cells vertices cells same none =
    cells-symbols true (codes ".xo") vertices cells (same ∙ sym (append-nil vertices)) none
