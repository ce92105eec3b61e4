-- Sets of cells in words that have grown to all joined cells.
use Rattle.std.proofs.Common.{◌≡◌, ◌≢◌, ◌↔◌, refl, ℕ, ◌<◌, ◌-◌, ◌⊎◌, inl, inr, if◌then◌else◌, ap, sym, ◌∙◌, arith}
use Rattle.std.specs.Int.{bit_at}
use Rattle.std.proofs.lemmas.Bool.{eqb-true}
use Rattle.std.proofs.lemmas.Bool.Decides.{eqb_tells, nat_tests}
use Rattle.std.proofs.lemmas.Nat.Bits.{bit_at-zero}
use Rattle.cg_moves.specs.Words.{IsWithBit}
use Rattle.cg_pieces.specs.declared.field.Field.{Field}
use Rattle.cg_pieces.specs.Cells.Linked.{here, step}
use Rattle.cg_pieces.specs.Words.{IsGrowing, IsNextSet, IsWithin, JoinedIn}
use Rattle.cg_moves.proofs.SetBits.{within-le}
use Rattle.cg_pieces.proofs.Sets.{linked-trans}

-- the measure of a set falls as it grows
pub grows-down : (a b all : ℕ) → IsWithin a b → b ≢ a → IsWithin b all → all - b < all - a
grows-down a b all w other inside =
    let h = within-le a b w in let k = within-le b all inside in omega (arith, h, k, other)

pub growing-start : (f : Field) (cell set : ℕ) → IsWithBit 0 set cell 1 → bit_at f.cells cell ≡ 1 → IsGrowing f cell set
growing-start f cell set is inside = record {
  here = elim (eqb_tells cell cell) [
    | inl h ↦ is cell ∙ ap (λ b. if b then 1 else bit_at 0 cell) h.0
    | inr h ↦ absurd (h.1 refl)
  ];
  within = λ k t. rw (only k t) inside;
  joined = λ k t. here k (sym (only k t));
}
  where
    only : (k : ℕ) → bit_at set k ≡ 1 → k ≡ cell
    only k t = grind (arith, nat_tests, eqb_tells, bit_at-zero)

pub growing-more : (f : Field) (cell set more : ℕ) → IsGrowing f cell set → IsNextSet f set more → IsGrowing f cell more
growing-more f cell set more g next = record {
  here = next.grows cell g.here;
  within = next.within;
  joined = λ k t. let (l, s, j) = next.only k t in linked-trans _ _ cell l k (g.joined l s) j;
}

-- a set that grows no more, or has all open cells, has all joined cells
pub grown : (f : Field) (cell set more : ℕ) → IsGrowing f cell set → IsNextSet f set more → (more ≡ set) ⊎ (more ≡ f.cells)
    → (k : ℕ) → (bit_at more k ≡ 1) ↔ JoinedIn f cell k
grown f cell set more g next ends k = (all.joined k, go k)
  where
    all : IsGrowing f cell more
    all = growing-more f cell set more g next

    go : (k : ℕ) → JoinedIn f cell k → bit_at more k ≡ 1
    go k (here m e) = rw (← e) all.here
    go k (step m l r m_open l_open adjacent) = grind (arith, nat_tests, eqb-true, all, go m r)
