-- The stones in the words of a board.
use Rattle.std.proofs.Common.{◌≡◌, refl, ℕ, zero, suc, ◌==◌, ◌||◌, Bool, true, false, if◌then◌else◌, max, sym, ◌∙◌, ap, subst, arith, bit_or}
use Rattle.std.specs.Prelude.{codes, slice_index}
use Rattle.std.specs.Int.{bit_at}
use Rattle.std.proofs.lemmas.Nat.Bits.{bit_at_or}
use Rattle.cg_moves.specs.declared.planes.Planes.{Planes}
use Rattle.cg_moves.specs.Grid.{Grid, IsGrid}
use Rattle.cg_moves.specs.PlaneBits.{ArePlanes, index_of}
use Rattle.cg_moves.specs.Words.{Marks}
use Rattle.cg_pieces.proofs.SymbolWords.{Tells, symbol-marks}
use Rattle.cg_clobber.specs.Moves.{has_stone, is_stone}

x-tells : Tells (codes ".xo") 0 120
x-tells c (zero, l, e) = let P : ℕ → Type 0 = λ z. bit_at (index_of (codes ".xo") z) 0 ≡ (if z == 120 then 1 else 0) in subst P e refl
x-tells c (suc zero, l, e) = let P : ℕ → Type 0 = λ z. bit_at (index_of (codes ".xo") z) 0 ≡ (if z == 120 then 1 else 0) in subst P e refl
x-tells c (suc (suc zero), l, e) = let P : ℕ → Type 0 = λ z. bit_at (index_of (codes ".xo") z) 0 ≡ (if z == 120 then 1 else 0) in subst P e refl
x-tells c (suc (suc (suc k)), l, e) = absurd (omega (arith, l))

o-tells : Tells (codes ".xo") 1 111
o-tells c (zero, l, e) = let P : ℕ → Type 0 = λ z. bit_at (index_of (codes ".xo") z) 1 ≡ (if z == 111 then 1 else 0) in subst P e refl
o-tells c (suc zero, l, e) = let P : ℕ → Type 0 = λ z. bit_at (index_of (codes ".xo") z) 1 ≡ (if z == 111 then 1 else 0) in subst P e refl
o-tells c (suc (suc zero), l, e) = let P : ℕ → Type 0 = λ z. bit_at (index_of (codes ".xo") z) 1 ≡ (if z == 111 then 1 else 0) in subst P e refl
o-tells c (suc (suc (suc k)), l, e) = absurd (omega (arith, l))

either : (s t : Bool) → max (if s then 1 else 0) (if t then 1 else 0) ≡ (if s || t then 1 else 0)
either true true = refl
either true false = refl
either false true = refl
either false false = refl

module _ (p : Grid) (symbols : p.symbols ≡ codes ".xo") (g : IsGrid p) (w : Planes) (are : ArePlanes p.symbols p.cells w) where
  pub x-marks : Marks w.a (λ i. has_stone p.cells i 120)
  x-marks = symbol-marks p w.a 0 120 g (subst (λ z. Tells z 0 120) (sym symbols) x-tells) (λ e. omega (arith, e)) are.a

  pub o-marks : Marks w.b (λ i. has_stone p.cells i 111)
  o-marks = symbol-marks p w.b 1 111 g (subst (λ z. Tells z 1 111) (sym symbols) o-tells) (λ e. omega (arith, e)) are.b

  pub stone-marks : Marks (bit_or w.a w.b) (λ i. is_stone (slice_index p.cells i))
  stone-marks i =
      bit_at_or w.a w.b i ∙ ap (λ z. max z (bit_at w.b i)) (x-marks i)
      ∙ ap (max (if has_stone p.cells i 120 then 1 else 0)) (o-marks i)
      ∙ either (has_stone p.cells i 120) (has_stone p.cells i 111)
