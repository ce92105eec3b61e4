-- Places of symbols in a row of symbols.
use Rattle.std.proofs.Common.{◌≡◌, ℕ, suc, ◌<◌, ◌≤◌, List, [], ◌∷◌, length, get_or, sym, ◌∙◌, arith}
use Rattle.std.specs.Prelude.{slice_index}
use Rattle.std.proofs.lemmas.List.{ext_get_or, get_or-map, length-map}
use Rattle.std.proofs.lemmas.List.FromFn.{get_or-map-range_with_len, length-map-range_with_len}
use Rattle.cg_nodes.specs.Boards.{AreBelow}
use Rattle.cg_moves.specs.declared.planes.Planes.{Planes}
use Rattle.cg_moves.specs.Grid.{AreCells, Grid, IsGrid}
use Rattle.cg_moves.specs.PlaneBits.{ArePlanes, index_of}
use Rattle.cg_moves.proofs.PlaneLemmas.{index-below, index-read}
use Rattle.cg_values.specs.Contents.{place_at, places_at}
use Rattle.cg_values.specs.Notes.{places}

pub places-below : (n : ℕ) (symbols cells : List ℕ) → length symbols ≤ n → AreCells symbols cells
    → AreBelow n (places symbols cells)
places-below n symbols [] few h = tt
places-below n symbols (c ∷ cells) few h = (
  (let a = index-below symbols c (h 0 (omega arith)) in omega arith),
  places-below n symbols cells few (λ k l. h (suc k) (omega arith)),
)

-- ---- places from words

-- the first two words tell the place of a cell's symbol where there are at most 4 symbols
place-told : (p : Grid) (w : Planes) (cell : ℕ) → length p.symbols ≤ 4 → IsGrid p → ArePlanes p.symbols p.cells w
    → cell < length p.cells → place_at w cell ≡ index_of p.symbols (slice_index p.cells cell)
place-told p w cell few g are inside =
    let c = slice_index p.cells cell in
    let read = index-read p.symbols p.cells w cell are g.cells (omega arith) inside in
    let below = index-below p.symbols c (g.cells cell inside) in
    omega arith

pub places-told : (p : Grid) (w : Planes) (size : ℕ) → length p.symbols ≤ 4 → IsGrid p → ArePlanes p.symbols p.cells w
    → size ≡ length p.cells → places_at w 0 size ≡ places p.symbols p.cells
places-told p w size few g are is = ext_get_or 0 (places_at w 0 size) (places p.symbols p.cells) long same
  where
    count : length (places_at w 0 size) ≡ size
    count = length-map-range_with_len (place_at w) 0 size

    long : length (places_at w 0 size) ≡ length (places p.symbols p.cells)
    long = count ∙ is ∙ sym (length-map p.cells (index_of p.symbols))

    same : (i : ℕ) → i < length (places_at w 0 size)
        → get_or (places_at w 0 size) i 0 ≡ get_or (places p.symbols p.cells) i 0
    same i l =
        let m : i < length p.cells = omega (arith, l, count, is) in
        get_or-map-range_with_len (place_at w) 0 size i i 0 (omega (arith, l, count)) (omega arith)
        ∙ place-told p w i few g are m ∙ sym (get_or-map (index_of p.symbols) p.cells i 0 0 m)
