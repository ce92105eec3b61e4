-- Each game has one thermograph, and whether some position needs too many binary places is decided.
use Rattle.std.proofs.Common.{◌≡◌, refl, ap, sym, ◌∙◌, ℕ, ◌<◌, ◌≤◌, ◌⊎◌, inl, inr, arith, List, [], ◌∷◌}
use Rattle.cg_dyadic.specs.Number.{Number, exp_of}
use Rattle.cg_dyadic.specs.Wide.{places}
use Rattle.cg_form.specs.Game.{Among, Game}
use Rattle.cg_form.specs.Heights.{height}
use Rattle.cg_form.specs.Walls.{IsThermal}
use Rattle.cg_form.proofs.Decide.{number-decide}
use Rattle.cg_form.proofs.Thermal.{Thermal, one-thermal, thermal}
use Rattle.cg_form.specs.Positions.{positions_of}
use Rattle.cg_thermo.specs.Pictures.{left_corners, right_corners}
use Rattle.cg_thermo.specs.Thermal.{NeedsMore}
use Rattle.cg_thermo.proofs.Deciders.{left-unique, mast, mast-unique, right-unique}
use Rattle.cg_thermo.proofs.Smooth.{smooth-high}
use Rattle.cg_thermo.proofs.Upward.{corners-same}
use Rattle.cg_thermo.specs.Thermographs.{IsThermograph}
use Rattle.cg_thermo.specs.declared.thermo.Walls as drawn

-- ---- thermographs

pub some-thermograph : (g : Game) → (p : drawn.Walls) × IsThermograph g p
some-thermograph g =
    let h = thermal g in
    let s = height g in
    let m = mast number-decide s g (omega arith) in
    let smooth = smooth-high s g (omega arith) in (
      record { mean = h.mean; temp = h.temp; left = left_corners number-decide s g m.end; right = right_corners number-decide s g m.end },
      record {
        thermal = h.is;
        left = λ d r end l f. (corners-same s r g m.end end smooth m.from l (mast-unique d number-decide r g end f)).0
            ∙ left-unique number-decide d r g end;
        right = λ d r end l f. (corners-same s r g m.end end smooth m.from l (mast-unique d number-decide r g end f)).1
            ∙ right-unique number-decide d r g end;
      },
    )

pub one-thermograph : (g : Game) (p q : drawn.Walls) → IsThermograph g p → IsThermograph g q → p ≡ q
one-thermograph g p q a b =
    let m = mast number-decide (height g) g (omega arith) in
    let t = one-thermal g p.mean p.temp q.mean q.temp a.thermal b.thermal in
    let l = a.left number-decide (height g) m.end (omega arith) m.from ∙ sym (b.left number-decide (height g) m.end (omega arith) m.from) in
    let r = a.right number-decide (height g) m.end (omega arith) m.from ∙ sym (b.right number-decide (height g) m.end (omega arith) m.from) in
    λ i. record { mean = t.means i; temp = t.temps i; left = l i; right = r i }

-- ---- too many places

below_or_not : (m n : ℕ) → (m < n) ⊎ (n ≤ m)
below_or_not m n = grind arith

-- no position of the list needs more
abbrev Enough : List Game → Type 0
Enough ps = (p : Game) (m t : Number) → Among p ps → IsThermal p m t → (places < exp_of m) ⊎ (places < exp_of t) → ⊥

enough-more : (p : Game) (ps : List Game) (h : Thermal p) → exp_of h.mean ≤ places → exp_of h.temp ≤ places → Enough ps
    → Enough (p ∷ ps)
enough-more p ps h a b all q m t (inr k) is more = all q m t k is more
enough-more p ps h a b all q m t (inl e) is more =
    let s = one-thermal p m t h.mean h.temp (rw (← e) is) h.is in
    let c = ap exp_of s.means in let d = ap exp_of s.temps in
    elim more [ inl j ↦ omega (arith, j, c, a) | inr j ↦ omega (arith, j, d, b) ]

needs-among : (g : Game) (ps : List Game) → ((p : Game) → Among p ps → Among p (positions_of g))
    → NeedsMore places g ⊎ Enough ps
needs-among g [] within = inr (λ p m t k. absurd k)
needs-among g (p ∷ ps) within =
    by_mean (needs-among g ps (λ q k. within q (inr k))) (thermal p) (below_or_not places (exp_of (thermal p).mean))
  where
    needs : (h : Thermal p) → (places < exp_of h.mean) ⊎ (places < exp_of h.temp) → NeedsMore places g
    needs h k = record {
      position = p;
      among = within p (inl refl);
      mean = h.mean;
      temp = h.temp;
      thermal = h.is;
      more = k;
    }

    by_rest : (h : Thermal p) → exp_of h.mean ≤ places → exp_of h.temp ≤ places → NeedsMore places g ⊎ Enough ps
        → NeedsMore places g ⊎ Enough (p ∷ ps)
    by_rest h a b (inl n) = inl n
    by_rest h a b (inr all) = inr (enough-more p ps h a b all)

    by_temp : NeedsMore places g ⊎ Enough ps → (h : Thermal p) → exp_of h.mean ≤ places
        → (places < exp_of h.temp) ⊎ (exp_of h.temp ≤ places) → NeedsMore places g ⊎ Enough (p ∷ ps)
    by_temp rest h a (inl k) = inl (needs h (inr k))
    by_temp rest h a (inr b) = by_rest h a b rest

    by_mean : NeedsMore places g ⊎ Enough ps → (h : Thermal p)
        → (places < exp_of h.mean) ⊎ (exp_of h.mean ≤ places) → NeedsMore places g ⊎ Enough (p ∷ ps)
    by_mean rest h (inl k) = inl (needs h (inl k))
    by_mean rest h (inr a) = by_temp rest h a (below_or_not places (exp_of h.temp))

pub needs-or-not : (g : Game) → NeedsMore places g ⊎ (¬ NeedsMore places g)
needs-or-not g = by (needs-among g (positions_of g) (λ p k. k))
  where
    by : NeedsMore places g ⊎ Enough (positions_of g) → NeedsMore places g ⊎ (¬ NeedsMore places g)
    by (inl n) = inl n
    by (inr all) = inr (λ n. all n.position n.mean n.temp n.among n.thermal n.more)
