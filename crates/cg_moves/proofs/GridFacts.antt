-- Boards with their parts put together.
use Rattle.std.proofs.Common.{◌≡◌, ℕ, zero, suc, ◌*◌, ◌<◌, ◌≤◌, ◌&&◌, true, List, [], ◌∷◌, length, ap, ◌∙◌, arith, inl, inr, get_or-set_same, get_or-set_other}
use Rattle.std.specs.Prelude.{nat_le, slice_index, slice_set, Contains}
use Rattle.std.specs.List.{list_all}
use Rattle.std.proofs.lemmas.Bool.{leb-true}
use Rattle.std.proofs.lemmas.List.{length-set}
use Rattle.std.proofs.lemmas.Bool.Decides.{eqb_tells, nat_tests}
use Rattle.cg_moves.specs.Grid.{AreCells, Grid, IsGrid, all_distinct, are_symbols, is_symbol, with_cells}
use Rattle.cg_moves.proofs.Same.{and-true}

-- cells with one of them changed to a symbol
pub set-cells : (symbols cells : List ℕ) (i s : ℕ) → AreCells symbols cells → Contains symbols s → AreCells symbols (slice_set cells i s)
set-cells symbols cells i s all is k in_set =
    let e = length-set cells i s in
    elim (eqb_tells k i) [
      | inl h ↦ (let same = h.1 in
          let below : i < length cells = omega arith in
          let here : slice_index (slice_set cells i s) k ≡ s = ap (λ j. slice_index (slice_set cells i s) j) h.1 ∙ get_or-set_same cells i s 0 below in
          rw here is)
      | inr h ↦ (let other : slice_index (slice_set cells i s) k ≡ slice_index cells k = get_or-set_other cells i k s 0 h.1 in
          rw other (all k (omega arith)))
    ]

pub set-grid : (p : Grid) (i s : ℕ) → Contains p.symbols s → IsGrid p → IsGrid (with_cells p (slice_set p.cells i s))
set-grid p i s is g =
    let e = length-set p.cells i s in
    record {
      symbols = g.symbols;
      size = e ∙ g.size;
      some = let a = g.some in omega arith;
      few = let a = g.few in omega arith;
      cells = set-cells p.symbols p.cells i s g.cells is;
    }

pub few-symbols : (symbols : List ℕ) → are_symbols symbols ≡ true → length symbols ≤ 16
few-symbols symbols e = grind (arith, nat_tests, and-true, leb-true)

-- each symbol is a printable byte
pub symbol-above : (symbols : List ℕ) (k : ℕ) → are_symbols symbols ≡ true → k < length symbols → 32 ≤ slice_index symbols k
symbol-above symbols k e l =
    let a = and-true (nat_le 1 (length symbols) && nat_le (length symbols) 16 && list_all is_symbol symbols) (all_distinct symbols) e in
    let b = and-true (nat_le 1 (length symbols) && nat_le (length symbols) 16) (list_all is_symbol symbols) a.0 in
    go symbols k b.1 l
  where
    printable : (s : ℕ) → is_symbol s ≡ true → 32 ≤ s
    printable s is = grind (arith, nat_tests, and-true, leb-true)

    go : (symbols : List ℕ) (k : ℕ) → list_all is_symbol symbols ≡ true → k < length symbols → 32 ≤ slice_index symbols k
    go [] k e l = absurd (omega arith)
    go (s ∷ ss) zero e l = printable s (and-true (is_symbol s) (list_all is_symbol ss) e).0
    go (s ∷ ss) (suc k) e l = go ss k (and-true (is_symbol s) (list_all is_symbol ss) e).1 (omega arith)

-- a board has columns
pub some-columns : (rows columns : ℕ) → 1 ≤ rows * columns → 1 ≤ columns
some-columns rows zero h = (let z : rows * 0 ≡ 0 = omega arith in absurd (omega arith))
some-columns rows (suc n) h = omega arith
