-- The start of a drawing without green edges.
use Rattle.std.proofs.Common.{◌≡◌, ◌≢◌, ℕ, ◌==◌, true, List, length, inl, inr, ap, sym, ◌∙◌, arith}
use Rattle.std.specs.Prelude.{codes}
use Rattle.std.specs.Str.{bytes_eq}
use Rattle.std.proofs.lemmas.Bool.{eq-eqb}
use Rattle.std.proofs.lemmas.List.{length-map}
use Rattle.cg_moves.specs.Grid.{Grid, with_cells}
use Rattle.cg_moves.proofs.Same.{both-true, bytes_eq-refl}
use Rattle.cg_graph.specs.Drawings.{colours_of, drawing_rules, drawing_start, graph_of}
use Rattle.cg_graph.specs.Hackenbush.{IsRedBlue, green}
use Rattle.cg_graph.proofs.HackenbushLaw.{length-kept}
use Rattle.cg_graph.specs.Paths.{Edge, colour, is_joined, settled}
use Rattle.cg_graph.specs.declared.edge.ColouredEdge.{ColouredEdge}
use Rattle.cg_graph.proofs.Colours.{kept-part, there-or-gone}
use Rattle.cg_graph.proofs.Cuts.{settled-settled}

graph-long : (drawing : List ColouredEdge) → length (graph_of drawing) ≡ length drawing
graph-long drawing = length-map drawing (λ e. (let f : Edge = record { one = e.one; other = e.other } in f))

pub start-long : (drawing : List ColouredEdge) → length (settled (graph_of drawing) (colours_of drawing)) ≡ length drawing
start-long drawing =
    length-kept (is_joined (graph_of drawing) (colours_of drawing)) (colours_of drawing)
    ∙ length-map drawing (λ (e : ColouredEdge). e.colour)

-- the board that is made of the colours and settled
pub start-is : (drawing edges : List ColouredEdge) (columns : ℕ) (cells : List ℕ) (whole board : Grid) → edges ≡ drawing
    → cells ≡ colours_of drawing → columns ≡ length cells
    → whole ≡ (let g : Grid = record { rows = 1; columns = columns; symbols = codes ".brg"; cells = cells } in g)
    → board ≡ with_cells whole (settled (graph_of edges) whole.cells) → board ≡ drawing_start drawing
start-is drawing edges columns cells whole board same colours long made put =
    let settled-of : List ColouredEdge → Grid → Grid = λ z q. with_cells q (settled (graph_of z) q.cells) in
    let row : ℕ → List ℕ → Grid = λ n z. record { rows = 1; columns = n; symbols = codes ".brg"; cells = z } in
    let wide = long ∙ ap length colours ∙ length-map drawing (λ (e : ColouredEdge). e.colour) in
    put ∙ ap (λ z. settled-of z whole) same ∙ ap (settled-of drawing) made
    ∙ ap (λ n. settled-of drawing (row n cells)) wide
    ∙ ap (λ z. settled-of drawing (row (length drawing) z)) colours

pub start-has : (drawing : List ColouredEdge) → (drawing_rules drawing).has (drawing_start drawing) ≡ true
start-has drawing =
    let cells = settled (graph_of drawing) (colours_of drawing) in
    both-true (bytes_eq (codes ".brg") (codes ".brg")) (length cells == length (graph_of drawing))
    (bytes_eq-refl (codes ".brg"))
    (eq-eqb (length cells) (length (graph_of drawing)) (start-long drawing ∙ sym (graph-long drawing)))

pub start-red_blue : (drawing : List ColouredEdge) → ((k : ℕ) → colour (colours_of drawing) k ≢ green)
    → IsRedBlue (graph_of drawing) (drawing_start drawing)
start-red_blue drawing none =
    let cells = settled (graph_of drawing) (colours_of drawing) in
    record {
      has = start-has drawing;
      settled = settled-settled (graph_of drawing) (colours_of drawing);
      no_green = λ k e. elim (there-or-gone cells k) [
        | inl g ↦ absurd (omega (arith, e, g))
        | inr there ↦
            none k (sym ((kept-part (is_joined (graph_of drawing) (colours_of drawing)) (colours_of drawing)).same k there) ∙ e)
      ];
    }
