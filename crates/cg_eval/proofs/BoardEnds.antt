-- The last item of a board is its value.
use Rattle.std.proofs.Common.{◌≡◌, refl, ap, sym, ◌∙◌, subst, ℕ, Bool, if◌then◌else◌, suc, ◌==◌, false, true, None, Result, Ok, Err, List, [], ◌∷◌}
use Rattle.std.proofs.Common.{◌++◌, length, nat_lt, inl, inr, eq-eqb, pos}
use Rattle.std.specs.Prelude.{◌&&◌, bytes_eq, codes}
use Rattle.std.proofs.lemmas.Bool.{and_from}
use Rattle.cg_dyadic.specs.Number.{whole}
use Rattle.cg_dyadic.proofs.Truth.{true_or_false}
use Rattle.cg_canon.specs.Items.{Item}
use Rattle.cg_nodes.specs.Can.{can}
use Rattle.cg_moves.specs.declared.fault.BoardFault.{BoardFault}
use Rattle.cg_moves.specs.Grid.{Grid}
use Rattle.cg_moves.specs.Raw.{raw}
use Rattle.cg_moves.specs.Reach.{reach_of}
use Rattle.cg_moves.specs.PieceReach.{piece_reach_of}
use Rattle.cg_moves.specs.Lawful.{IsCut, IsLawful}
use Rattle.cg_moves.specs.Rules.{GameRules, cuts}
use Rattle.cg_moves.specs.Texts.{read_of}
use Rattle.cg_moves.proofs.ReachLemmas.{reach-last}
use Rattle.cg_moves.specs.Grid.{is_in_rows}
use Rattle.cg_domineering.proofs.DomineeringLaw.{domineering_lawful}
use Rattle.cg_domineering.specs.Moves.{domineering}
use Rattle.cg_clobber.proofs.ClobberLaw.{clobber_lawful}
use Rattle.cg_clobber.specs.Moves.{clobber}
use Rattle.cg_amazons.specs.Amazons.{amazons}
use Rattle.cg_amazons.proofs.AmazonsLaw.{amazons_lawful}
use Rattle.cg_graph.specs.ColouredGraphs.{ColouredGraph, coloured_graph_read, coloured_graph_rules, coloured_graph_start, edges_of}
use Rattle.cg_graph.proofs.ColouringLaw.{colouring_lawful}
use Rattle.cg_graph.specs.Drawings.{colours_of, drawing_read, drawing_rules, drawing_start, graph_of}
use Rattle.cg_graph.proofs.HackenbushLaw.{hackenbush_lawful, length-kept}
use Rattle.cg_graph.specs.declared.edge.ColouredEdge.{ColouredEdge}
use Rattle.cg_graph.specs.declared.fault.GraphFault.{GraphFault}
use Rattle.cg_strip.proofs.StripLaw.{strip_lawful}
use Rattle.cg_strip.specs.Toads.{toads_game}
use Rattle.cg_strip.proofs.ToadsLaw.{toads_lawful}
use Rattle.cg_values.specs.Items.{board_items, cut_items, value_item, value_items, whole_items}
use Rattle.cg_query.specs.declared.kind.GameKind.{GameKind}
use Rattle.cg_query.specs.declared.kind.GameKind.TheVariants.{Domineering, Clobber, Amazons, Toads, Strip, Hackenbush, Col, Snort}
use Rattle.cg_eval.specs.Boards.{IsStrip, Position, board, faulty, no_row, no_rules, not_lowered, position_by, position_coloured, position_drawn}
use Rattle.cg_eval.specs.Boards.{position_form, position_items, position_of, strip_board, strip_position}
use Rattle.cg_eval.specs.Parts.{IsSound}
use Rattle.cg_eval.proofs.CutEnds.{ends-cut}
use Rattle.cg_eval.proofs.Lasts.{AreMade, EndsIn, not_too_many, one_number}
use Rattle.cg_eval.proofs.ReadBoards.{in-rows, read-by, same-symbols}
use Rattle.cg_eval.proofs.StripReadings.{strip-some}

-- ---- what is read is a board of its game, and the game is lawful

abbrev IsPlayed : Position → Type 0
IsPlayed (board r p) = IsLawful r × (r.has p ≡ true)
IsPlayed (faulty fault) = Unit {0}

played-by : (r : GameRules) (read : Result Grid BoardFault) → IsLawful r → ((p : Grid) → read ≡ Ok p → r.has p ≡ true)
    → IsPlayed (position_by r read)
played-by r (Ok p) lawful has = (lawful, has p refl)
played-by r (Err fault) lawful has = tt

-- rows of these symbols
grid-has : (symbols text : List ℕ) (p : Grid) → read_of symbols false text ≡ Ok p
    → (is_in_rows p && bytes_eq p.symbols symbols) ≡ true
grid-has symbols text p e =
    let r = read-by symbols false text p e in
    and_from (is_in_rows p) (bytes_eq p.symbols symbols) (in-rows symbols false text p r) (same-symbols symbols false text p r)

-- one row of them
row-has : (symbols text : List ℕ) (p : Grid) → read_of symbols true text ≡ Ok p
    → ((p.rows == 1) && bytes_eq p.symbols symbols) ≡ true
row-has symbols text p e =
    let r = read-by symbols true text p e in
    and_from (p.rows == 1) (bytes_eq p.symbols symbols) (eq-eqb p.rows 1 r.rows_are) (same-symbols symbols true text p r)

played-strip : (rules row : List ℕ) (q : Position) → IsStrip rules row q → IsPlayed q
played-strip rules row _ (strip_board book p a b) = (strip_lawful book, b.lowered)
played-strip rules row _ (no_rules place r) = tt
played-strip rules row _ (no_row book fault a e) = tt
played-strip rules row _ (not_lowered book p k a e r) = tt

-- the row of the colours of the edges
drawing-has : (drawing : List ColouredEdge) → (drawing_rules drawing).has (drawing_start drawing) ≡ true
drawing-has drawing =
    let cells = (drawing_start drawing).cells in
    and_from (bytes_eq (codes ".brg") (codes ".brg")) (length cells == length (graph_of drawing)) refl
    (eq-eqb (length cells) (length (graph_of drawing)) (length-kept _ (colours_of drawing) ∙ same drawing))
  where
    same : (drawing : List ColouredEdge) → length (colours_of drawing) ≡ length (graph_of drawing)
    same [] = refl
    same (e ∷ es) = ap suc (same es)

played-drawn : (read : Result (List ColouredEdge) GraphFault) → IsPlayed (position_drawn read)
played-drawn (Ok drawing) = (hackenbush_lawful (graph_of drawing), drawing-has drawing)
played-drawn (Err fault) = tt

-- the row of the vertices
coloured_graph-has : (coloured_graph : ColouredGraph) → (coloured_graph_rules coloured_graph).has (coloured_graph_start coloured_graph) ≡ true
coloured_graph-has coloured_graph =
    let n = length coloured_graph.vertices in
    and_from (bytes_eq (codes ".xo") (codes ".xo")) (n == n) refl (eq-eqb n n refl)

played-coloured : (read : Result ColouredGraph GraphFault) → IsPlayed (position_coloured read)
played-coloured (Ok coloured_graph) = (colouring_lawful coloured_graph.snort (length coloured_graph.vertices) (edges_of coloured_graph.edges), coloured_graph-has coloured_graph)
played-coloured (Err fault) = tt

played : (kind : GameKind) (rules text : List ℕ) → IsPlayed (position_of kind rules text)
played Domineering rules text = played-by domineering (read_of (codes ".#") false text) domineering_lawful
    (λ p e. grid-has (codes ".#") text p e)
played Clobber rules text = played-by clobber (read_of (codes ".xo") false text) clobber_lawful
    (λ p e. grid-has (codes ".xo") text p e)
played Amazons rules text = played-by amazons (read_of (codes ".xo#") false text) amazons_lawful
    (λ p e. same-symbols (codes ".xo#") false text p (read-by (codes ".xo#") false text p e))
played Toads rules text = played-by toads_game (read_of (codes ".TF") true text) toads_lawful
    (λ p e. row-has (codes ".TF") text p e)
played Strip rules text = played-strip rules text (strip_position rules text) (strip-some rules text)
played Hackenbush rules text = played-drawn (drawing_read rules)
played Col rules text = played-coloured (coloured_graph_read false text rules)
played Snort rules text = played-coloured (coloured_graph_read true text rules)

sound-played : (q : Position) → IsPlayed q → IsSound q
sound-played (board r p) h = h.1
sound-played (faulty fault) h = tt

pub sound-at : (kind : GameKind) (rules text : List ℕ) (q : Position) → position_of kind rules text ≡ q → IsSound q
sound-at kind rules text q e =
    rw (← e) (sound-played (position_of kind rules text) (played kind rules text))

-- ---- the items

over_last : (r : GameRules) (p : Grid) (front : List Grid)
    → value_items r (front ++ (p ∷ [])) ≡ value_items r front ++ (value_item r p ∷ [])
over_last r p [] = refl
over_last r p (q ∷ front) = ap (λ z. value_item r q ∷ z) (over_last r p front)

ends-values : (r : GameRules) (p : Grid) (front ps : List Grid) → ps ≡ front ++ (p ∷ [])
    → EndsIn (can (raw r p)) (value_items r ps)
ends-values r p front ps e = record {
  front = value_items r front;
  extra = 8;
  split = ap (value_items r) e ∙ over_last r p front;
}

ends-whole : (limit : ℕ) (r : GameRules) → IsLawful r → (p : Grid) → r.has p ≡ true → AreMade (whole_items limit r p)
    → EndsIn (can (raw r p)) (whole_items limit r p)
ends-whole limit r lawful p has m = elim (true_or_false (nat_lt limit (length (reach_of r p)))) [
  | inl t ↦ absurd (not_too_many (rw t at m))
  | inr e ↦ rw e (ends-values r p _ (reach_of r p) (reach-last r lawful p has))
]

ends-in_pieces : (limit : ℕ) (r : GameRules) → IsLawful r → IsCut r → (p : Grid) → r.has p ≡ true
    → AreMade (cut_items limit r p) → EndsIn (can (raw r p)) (cut_items limit r p)
ends-in_pieces limit r lawful cut p has m = elim (true_or_false (nat_lt limit (length (piece_reach_of r p)))) [
  | inl t ↦ absurd (not_too_many (rw t at m))
  | inr e ↦ rw e (ends-cut limit r lawful cut p has (rw e at m))
]

ends-items : (limit : ℕ) (r : GameRules) → IsLawful r → (p : Grid) → r.has p ≡ true → AreMade (board_items limit r p)
    → EndsIn (can (raw r p)) (board_items limit r p)
unfolding board_items
ends-items limit r lawful p has m =
    let items : Bool → List Item = λ b. if b then cut_items limit r p else whole_items limit r p in
    let P : Bool → Type 0 = λ b. EndsIn (can (raw r p)) (items b) in
    let Q : Bool → Type 0 = λ b. AreMade (items b) in
    elim (true_or_false (cuts r)) [
      | inl t ↦ subst P (sym t) (ends-in_pieces limit r lawful (lawful.cut t) p has (subst Q t m))
      | inr f ↦ subst P (sym f) (ends-whole limit r lawful p has (subst Q f m))
    ]

ends-position : (limit : ℕ) (q : Position) → IsPlayed q → AreMade (position_items limit q)
    → EndsIn (can (position_form q)) (position_items limit q)
ends-position limit (board r p) h m = ends-items limit r h.0 p h.1 m
ends-position limit (faulty fault) h m = one_number (whole (pos 0))

pub ends-board : (limit : ℕ) (kind : GameKind) (rules text : List ℕ)
    → AreMade (position_items limit (position_of kind rules text))
    → EndsIn (can (position_form (position_of kind rules text))) (position_items limit (position_of kind rules text))
ends-board limit kind rules text m = ends-position limit (position_of kind rules text) (played kind rules text) m
