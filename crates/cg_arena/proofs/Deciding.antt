-- What numbers between two games, or beside one of them, tell of their order.
use Rattle.std.proofs.Common.{◌≡◌, refl, sym, ◌∙◌, ap, Bool, true, false, not, IsTrue}
use Rattle.cg_dyadic.specs.Cut.{in_cut, within_cut, number_at_most}
use Rattle.cg_dyadic.specs.declared.cut.Cut.{Cut}
use Rattle.cg_dyadic.specs.Number.{Number}
use Rattle.cg_dyadic.proofs.Middle.{middle, middle_between}
use Rattle.cg_dyadic.proofs.Truth.{differ, false-from, not_true, true_not}
use Rattle.cg_dyadic.proofs.Values.{number_le-refl}
use Rattle.cg_form.specs.Game.{Game, number}
use Rattle.cg_form.specs.Order.{le}
use Rattle.cg_form.proofs.Preorder.{le_trans}
use Rattle.cg_form.proofs.Sides.{number_side-less}
use Rattle.cg_arena.specs.declared.summary.Summary.{Summary}
use Rattle.cg_arena.specs.Summaries.{HasCuts}
use Rattle.cg_arena.specs.Decided.{GoesPast, Meet}

-- ---- two cuts

same-number : (s : Bool) (x : Number) → IsTrue (number_at_most s x x)
same-number true x = number_le-refl x
same-number false x = number_le-refl x

-- a number on neither side, where the second of two is better
record Inner (s : Bool) (p q : Number) : Type 0 where
  x : Number
  past_first : ¬ IsTrue (number_at_most s x p)
  before_second : ¬ IsTrue (number_at_most s q x)

inner : (s : Bool) (p q : Number) → ¬ IsTrue (number_at_most s q p) → Inner s p q
inner true p q h = let m = middle_between p q h in record { x = middle p q; past_first = m.0; before_second = m.1 }
inner false p q h = let m = middle_between q p h in record { x = middle q p; past_first = m.1; before_second = m.0 }

beyond : (s : Bool) (p : Number) (c : Bool) (x : Number) → ¬ IsTrue (number_at_most s x p) → within_cut s p c x ≡ false
beyond s p true x h = false-from (number_at_most s x p) h
beyond s p false x h = ap not (number_side-less s x p h)

closed_past : (s : Bool) (p q : Number) (c d : Bool) → d ≡ true → IsTrue (not (within_cut s p c q))
    → (x : Number) × IsTrue (within_cut s q d x) × (within_cut s p c x ≡ false)
closed_past s p q c true e h =
    (q, same-number s q, false-from (within_cut s p c q) (not_true (within_cut s p c q) h))
closed_past s p q c false e h = absurd (differ false e refl)

open_past : (s : Bool) (p q : Number) (c d : Bool) → d ≡ false → IsTrue (not (number_at_most s q p))
    → (x : Number) × IsTrue (within_cut s q d x) × (within_cut s p c x ≡ false)
open_past s p q c false e h =
    let i = inner s p q (not_true (number_at_most s q p) h) in
    (i.x, true_not (number_at_most s q i.x) i.before_second, beyond s p c i.x i.past_first)
open_past s p q c true e h = absurd (differ true refl e)

pub past_closed : (s : Bool) (a b : Cut) → a.closed ≡ true → IsTrue (not (in_cut s b a.at)) → GoesPast s a b
past_closed s a b e h =
    let w = closed_past s b.at a.at b.closed a.closed e h in record { x = w.0; inside = w.1; outside = w.2 }

pub past_open : (s : Bool) (a b : Cut) (c : Cut) → c.at ≡ b.at → c.closed ≡ true → a.closed ≡ false
    → IsTrue (not (in_cut s c a.at)) → GoesPast s a b
past_open s a b c at shut e h =
    let k : in_cut s c a.at ≡ number_at_most s a.at b.at
    = ap (λ z. within_cut s c.at z a.at) shut ∙ ap (λ z. number_at_most s a.at z) at in
    let w = open_past s b.at a.at b.closed a.closed e (sym (ap not k) ∙ h) in
    record { x = w.0; inside = w.1; outside = w.2 }

closed_here : (s : Bool) (p : Number) (c : Bool) → c ≡ true → IsTrue (within_cut s p c p)
closed_here s p true e = same-number s p
closed_here s p false e = absurd (differ false e refl)

open_after : (s : Bool) (p : Number) (c : Bool) (x : Number) → c ≡ false → ¬ IsTrue (number_at_most s p x)
    → IsTrue (within_cut s p c x)
open_after s p false x e h = true_not (number_at_most s p x) h
open_after s p true x e h = absurd (differ true refl e)

pub meet_high : (high low : Cut) → high.closed ≡ true → IsTrue (in_cut true low high.at) → Meet high low
meet_high high low e h = record { x = high.at; above = closed_here false high.at high.closed e; below = h }

pub meet_low : (high low : Cut) → low.closed ≡ true → IsTrue (in_cut false high low.at) → Meet high low
meet_low high low e h = record { x = low.at; above = h; below = closed_here true low.at low.closed e }

pub meet_between : (high low : Cut) (c : Cut) → c.at ≡ high.at → c.closed ≡ true → high.closed ≡ false → low.closed ≡ false
    → IsTrue (not (in_cut true c low.at)) → Meet high low
meet_between high low c at shut e f h =
    let k : in_cut true c low.at ≡ number_at_most true low.at high.at
    = ap (λ z. within_cut true c.at z low.at) shut ∙ ap (λ z. number_at_most true low.at z) at in
    let i = inner true high.at low.at (not_true (number_at_most true low.at high.at) (sym (ap not k) ∙ h)) in
    record {
      x = i.x;
      above = open_after false high.at high.closed i.x e i.past_first;
      below = open_after true low.at low.closed i.x f i.before_second;
    }

-- ---- two games

pub above_first : (a b : Summary) (g h : Game) → HasCuts g a → HasCuts h b → GoesPast true a.low b.low → le g h ≡ false
above_first a b g h p q w =
    false-from (le g h) (λ l. differ (le (number w.x) h)
    (le_trans (number w.x) g h (p.low.tells w.x tt ∙ w.inside) l) (q.low.tells w.x tt ∙ w.outside))

pub above_second : (a b : Summary) (g h : Game) → HasCuts g a → HasCuts h b → GoesPast false b.high a.high → le g h ≡ false
above_second a b g h p q w =
    false-from (le g h) (λ l. differ (le g (number w.x))
    (le_trans g h (number w.x) l (q.high.tells w.x tt ∙ w.inside)) (p.high.tells w.x tt ∙ w.outside))

pub between : (a b : Summary) (g h : Game) → HasCuts g a → HasCuts h b → Meet a.high b.low → true ≡ le g h
between a b g h p q w =
    sym (le_trans g (number w.x) h (p.high.tells w.x tt ∙ w.above) (q.low.tells w.x tt ∙ w.below))
