-- Dominoes by the words of the board.
use Rattle.std.proofs.Common.{◌≡◌, ℕ, true, ap, sym, subst, refl, ◌≤◌, ◌^◌, length, arith}
use Rattle.std.specs.Prelude.{slice_set}
use Rattle.cg_moves.specs.declared.planes.Planes.{Planes}
use Rattle.cg_moves.specs.declared.player.Player.{Player}
use Rattle.cg_moves.specs.Grid.{Grid, IsGrid, with_cells}
use Rattle.cg_moves.specs.PlaneBits.{ArePlanes, IsWithIndex, index_of, plane_bit}
use Rattle.cg_moves.proofs.PlaneLemmas.{SetBy}
use Rattle.cg_pieces.proofs.SymbolWords.{two_set, bits-none, plane-none}
use Rattle.cg_domineering.specs.Moves.{domineering, filled, fits, other_cell}
use Rattle.cg_domineering.proofs.Placing.{first-inside, has-filled, other-inside, symbols-are}
use Rattle.cg_moves.specs.Words.{IsWithBit}
use Rattle.std.specs.Int.{bit_at}

filled-index : (p : Grid) → domineering.has p ≡ true → index_of p.symbols filled ≡ 1
filled-index p has = ap (λ z. index_of z filled) (symbols-are p has)

-- the words in which both cells of a domino that fits got the index of a filled one
pub domino_by : (rows columns : ℕ) (player : Player) (p : Grid) (w : Planes) (one both i j : ℕ) → rows ≡ p.rows
    → columns ≡ p.columns → domineering.has p ≡ true → fits player p i ≡ true → j ≡ other_cell player p i → IsGrid p
    → ArePlanes p.symbols p.cells w → IsWithBit w.a one i 1 → IsWithBit one both j 1
    → SetBy rows columns p.symbols (record { a = both; b = 0; c = 0; d = 0 }) (with_cells p (slice_set p.cells i filled))
    (other_cell player p i) filled
domino_by rows columns player p w one both i j high wide has fit other g are put next =
    let e = sym (filled-index p has) in
    let few : length p.symbols ≤ 2 ^ 1 = (let l = ap length (symbols-are p has) in omega (arith, l)) in
    let low : (b : ℕ) (word : ℕ) → 1 ≤ b → ((k : ℕ) → bit_at word k ≡ plane_bit p.symbols p.cells b k) → word ≡ 0 =
    λ b word l is. plane-none p word b 1 g few l is in
    two_set rows columns p w (record { a = one; b = 0; c = 0; d = 0 }) (record { a = both; b = 0; c = 0; d = 0 }) i
    (other_cell player p i) filled filled high wide g are (first-inside player p i fit) (other-inside player p i fit)
    (has-filled p has) (has-filled p has)
    (subst (λ (n : ℕ). IsWithIndex w (record { a = one; b = 0; c = 0; d = 0 }) i n) e (record {
      a = put;
      b = bits-none w.b i (low 1 w.b (omega arith) are.b);
      c = bits-none w.c i (low 2 w.c (omega arith) are.c);
      d = bits-none w.d i (low 3 w.d (omega arith) are.d);
    }))
    (subst (λ (n : ℕ). IsWithIndex (record { a = one; b = 0; c = 0; d = 0 }) (record { a = both; b = 0; c = 0; d = 0 }) (other_cell player p i) n) e (record {
      a = subst (λ (k : ℕ). IsWithBit one both k 1) other next;
      b = bits-none 0 _ refl;
      c = bits-none 0 _ refl;
      d = bits-none 0 _ refl;
    }))
