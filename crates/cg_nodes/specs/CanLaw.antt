-- What holds of canonical forms as a function. These lemmas stand here since the laws of the facts rest on them.
use Rattle.std.proofs.Common.{◌≡◌, true, IsTrue, ap, ◌∙◌, subst}
use Rattle.cg_form.specs.Canonical.{Canonical, IsCanonicalForm}
use Rattle.cg_form.specs.Game.{Game}
use Rattle.cg_form.specs.Order as order
use Rattle.cg_form.specs.Structure.{is_same}
use Rattle.cg_form.proofs.Exists.{canonical_exists}
use Rattle.cg_form.proofs.Structure.{is_same-back, is_same-refl}
use Rattle.cg_form.proofs.Unique.{canonical_form-same, canonical_same}
use Rattle.cg_nodes.specs.Can.{can, is_canonical}

pub can-is : (g : Game) → IsCanonicalForm g (can g)
unfolding can
can-is g = (canonical_exists g).1

pub can-only : (g k : Game) → IsCanonicalForm g k → k ≡ can g
can-only g k f = canonical_form-same g k (can g) f (can-is g)

pub can-canonical : (g : Game) → Canonical (can g)
can-canonical g = (can-is g).canonical

pub can-equal : (g : Game) → order.Equal (can g) g
can-equal g = (can-is g).equal

-- a canonical game that equals another's canonical form is that form
pub can-unique : (g h : Game) → Canonical h → order.Equal (can g) h → can g ≡ h
can-unique g h c e = canonical_same (can g) h (can-canonical g) c e

-- a canonical game is its own canonical form
pub can-fixed : (g : Game) → Canonical g → can g ≡ g
can-fixed g c = can-unique g g c (can-equal g)

pub is_canonical-back : (g : Game) → IsTrue (is_canonical g) → Canonical g
unfolding is_canonical
is_canonical-back g h =
    let P : Game → Type 0 = λ k. Canonical k in
    subst P (is_same-back (can g) g h) (can-canonical g)

pub is_canonical-true : (g : Game) → Canonical g → is_canonical g ≡ true
unfolding is_canonical
is_canonical-true g c = ap (λ k. is_same k g) (can-fixed g c) ∙ is_same-refl g
