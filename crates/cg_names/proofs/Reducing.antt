-- Canonical games with their sides exchanged or with one option, from what either side sees of them.
use Rattle.std.proofs.Common.{◌≡◌, inl, inr, sym, ◌∙◌, List, [], ◌∷◌, Bool, true, false, not}
use Rattle.cg_form.specs.Canonical.{Canonical}
use Rattle.cg_form.specs.Game.{Among, Game}
use Rattle.cg_form.specs.Side.{AtMost, far, near}
use Rattle.cg_form.specs.Simple.{NoNumber}
use Rattle.cg_form.proofs.Among.{carry, lefts-node, rights-node}
use Rattle.cg_names.specs.Named.{mirrored_if, zero_form}
use Rattle.cg_nimbers.proofs.Reducing.{SideReduced, canonical_node}

-- ---- sides exchanged

pub near-mirrored : (down : Bool) (ls rs : List Game) → near (not down) (mirrored_if down ls rs) ≡ ls
near-mirrored false ls rs = lefts-node ls rs
near-mirrored true ls rs = rights-node rs ls

pub far-mirrored : (down : Bool) (ls rs : List Game) → far (not down) (mirrored_if down ls rs) ≡ rs
far-mirrored false ls rs = rights-node ls rs
far-mirrored true ls rs = lefts-node rs ls

-- the options of the other side, as that side sees them
pub other-mirrored : (down : Bool) (ls rs : List Game) → near down (mirrored_if down ls rs) ≡ rs
other-mirrored false ls rs = rights-node ls rs
other-mirrored true ls rs = lefts-node rs ls

pub canonical_mirrored : (down : Bool) (ls rs : List Game) → SideReduced (not down) (mirrored_if down ls rs)
    → SideReduced down (mirrored_if down ls rs) → NoNumber (mirrored_if down ls rs)
    → ((a : Game) → Among a ls → Canonical a) → ((b : Game) → Among b rs → Canonical b)
    → Canonical (mirrored_if down ls rs)
canonical_mirrored false ls rs p q n f h = canonical_node ls rs p q n f h
canonical_mirrored true ls rs p q n f h = canonical_node rs ls q p n h f

-- ---- one option

pub one_reduced : (s : Bool) (g a : Game) → near s g ≡ a ∷ [] → ((b : Game) → Among b (far s a) → ¬ AtMost s b g)
    → SideReduced s g
one_reduced s g a e stays = record {
  apart = λ b c m k l. elim (carry b (near s g) (a ∷ []) e m) [
    | inr w ↦ absurd w
    | inl p ↦ elim (carry c (near s g) (a ∷ []) e k) [ inr w ↦ absurd w | inl q ↦ p ∙ sym q ]
  ];
  stays = λ b c m k l. elim (carry b (near s g) (a ∷ []) e m) [
    | inr w ↦ w
    | inl p ↦ stays c (rw (← p) k) l
  ];
  rises = rw e ((λ h w. absurd w), tt);
}

-- 0 has no options
pub far-zero : (s : Bool) (b : Game) → ¬ Among b (far s zero_form)
far-zero true b m = m
far-zero false b m = m

pub near-zero : (s : Bool) (b : Game) → ¬ Among b (near s zero_form)
near-zero true b m = m
near-zero false b m = m

pub zero_reduced : (s : Bool) (g : Game) → near s g ≡ zero_form ∷ [] → SideReduced s g
zero_reduced s g e = one_reduced s g zero_form e (λ b m. absurd (far-zero s b m))
