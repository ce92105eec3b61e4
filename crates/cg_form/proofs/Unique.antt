-- Equal canonical games are the same.
use Rattle.std.proofs.Common.{◌≡◌, ℕ, ◌+◌, ◌<◌, arith, zero, suc, inl, inr, ap, sym, ◌∙◌, Bool, true, false}
use Rattle.cg_form.specs.Canonical.{Canonical, IsCanonicalForm, Reduced}
use Rattle.cg_form.specs.Game.{Among, Game, number, of_list, options, to_list}
use Rattle.cg_form.specs.Order.{Equal}
use Rattle.cg_form.specs.Side.{AtMost, near}
use Rattle.cg_form.specs.Size.{size}
use Rattle.cg_form.proofs.Among.{of_list-to_list}
use Rattle.cg_form.proofs.Preorder.{equal_refl, equal_trans}
use Rattle.cg_form.proofs.Reduced.{canonical-near, reduced-apart, reduced-rises, reduced-stays}
use Rattle.cg_form.proofs.Sides.{equal_side, not_near, side_breaks, side_equal, side_trans, size-near}
use Rattle.cg_form.proofs.Simplicity.{one_number}
use Rattle.cg_form.proofs.Structure.{rises-same}

-- of two equal games, the first reduced, each option of the first is no better than one of the second
partner : (s : Bool) (g h : Game) → Reduced g → Equal g h → (a : Game) → Among a (near s g)
    → (c : Game) × Among c (near s h) × AtMost s a c
partner s g h r e a m = elim (side_breaks s h a (λ k. not_near s g a m (side_trans s g h a (side_equal s g h e) k))) [
  | inl w ↦ w
  | inr (b, n, l) ↦ absurd (reduced-stays s g r a b m n (side_trans s b h g l (side_equal s h g (e.1, e.0))))
]

twin : (s : Bool) (g h : Game) → Reduced g → Reduced h → Equal g h → (a : Game) → Among a (near s g)
    → (c : Game) × Among c (near s h) × Equal a c
twin s g h r q e a m =
    let (c, n, l) = partner s g h r e a m in
    let (d, k, j) = partner s h g q (e.1, e.0) c n in
    let same : a ≡ d = reduced-apart s g r a d m k (side_trans s a c d l j) in
    (c, n, equal_side s a c l (rw (← same) at j))

-- the lists of a side are the same if equal options are
same_side : (s : Bool) (g h : Game) → Reduced g → Reduced h → Canonical g → Canonical h → Equal g h
    → ((a b : Game) → size a < size g → size b < size h → Canonical a → Canonical b → Equal a b → a ≡ b)
    → near s g ≡ near s h
same_side s g h r q c d e same = rises-same (near s g) (near s h) (reduced-rises s g r) (reduced-rises s h q)
    (λ a m. let (b, k, f) = twin s g h r q e a m in
    rw (same a b (size-near s g a m) (size-near s h b k) (canonical-near s g a c m) (canonical-near s h b d k) f) k)
    (λ b m. let (a, k, f) = twin s h g q r (e.1, e.0) b m in
    rw (same a b (size-near s g a k) (size-near s h b m) (canonical-near s g a c k) (canonical-near s h b d m) (f.1, f.0)) at k)

pub canonical_same_within : (n : ℕ) (g h : Game) → size g + size h < n → Canonical g → Canonical h → Equal g h → g ≡ h
canonical_same_within zero g h s c d e = absurd (omega arith)
canonical_same_within (suc n) (number x) (number y) s c d e =
    ap number (one_number x y (number y) e (equal_refl (number y)))
canonical_same_within (suc n) (number x) (options cs ds) s c d e = absurd (d.0.no_number x e)
canonical_same_within (suc n) (options ls rs) (number y) s c d e = absurd (c.0.no_number y (e.1, e.0))
canonical_same_within (suc n) (options ls rs) (options cs ds) s c d e =
    let g : Game = options ls rs in
    let h : Game = options cs ds in
    let same : (a b : Game) → size a < size g → size b < size h → Canonical a → Canonical b → Equal a b → a ≡ b =
    λ a b t u. canonical_same_within n a b (omega arith) in
    let l : to_list ls ≡ to_list cs = same_side true g h c.0 d.0 c d e same in
    let r : to_list rs ≡ to_list ds = same_side false g h c.0 d.0 c d e same in
    let p : ls ≡ cs = sym (of_list-to_list ls) ∙ ap of_list l ∙ of_list-to_list cs in
    let q : rs ≡ ds = sym (of_list-to_list rs) ∙ ap of_list r ∙ of_list-to_list ds in
    ap (λ z. options z rs) p ∙ ap (λ z. options cs z) q

pub canonical_same : (g h : Game) → Canonical g → Canonical h → Equal g h → g ≡ h
canonical_same g h = canonical_same_within (suc (size g + size h)) g h (omega arith)

-- a game has one canonical form
pub canonical_form-same : (g h k : Game) → IsCanonicalForm g h → IsCanonicalForm g k → h ≡ k
canonical_form-same g h k p q =
    canonical_same h k p.canonical q.canonical (equal_trans h g k p.equal (q.equal.1, q.equal.0))
