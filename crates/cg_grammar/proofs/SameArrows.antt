-- Arrows as the grammar has them, and as they are read: the first arrow stands in front of both alternatives.
use Rattle.std.proofs.Common.{◌≡◌, ℕ, suc, ◌+◌, Bool, true, false, List, ◌++◌, length, inl, inr, ap, ◌∙◌}
use Rattle.cg_reading.specs.Pieces.{One}
use Rattle.cg_reading.specs.Tokens.{only}
use Rattle.cg_reading.proofs.Same.{Same, or_same}
use Rattle.cg_grammar.specs.Values.{Arrows}
use Rattle.cg_grammar.specs.Grammar as s
use Rattle.cg_grammar.proofs.Factored as g
use Rattle.cg_reading.proofs.Spelled.{then_as, made_is, made_as}

to : (down : Bool) (b i : ℕ) (a : Arrows) (text : List ℕ) → g.arrows down b i a text → s.arrows down b i a text
to down b i a text m = by_count m.made_of.1 m.is.before m.is.behind m.is.first m.is.second m.is.spelled m.same
  where
    by_count : (v : ℕ × Bool) (x y : List ℕ) → One (only b) i m.made_of.0 x → g.count b (i + length x) v y → text ≡ x ++ y → a ≡ record { down = down; count = v.0; is_run = v.1 } → s.arrows down b i a text
    by_count v x y first (inl n) e same = inr (made_as (m.made_of.0, n.made_of) (then_as x y first n.is e) (same ∙ ap (λ (z : ℕ × Bool). record { down = down; count = z.0; is_run = z.1 }) n.same))
    by_count v x y first (inr n) e same = inl (made_as (m.made_of.0, n.made_of) (then_as x y first n.is e) (same ∙ ap (λ (z : ℕ × Bool). record { down = down; count = z.0; is_run = z.1 }) n.same))

from : (down : Bool) (b i : ℕ) (a : Arrows) (text : List ℕ) → s.arrows down b i a text → g.arrows down b i a text
from down b i a text (inl m) = made_as (m.made_of.0, (suc (length m.made_of.1), true)) (then_as m.is.before m.is.behind m.is.first (inr (made_is m.made_of.1 m.is.second)) m.is.spelled) m.same
from down b i a text (inr m) = made_as (m.made_of.0, (m.made_of.1, false)) (then_as m.is.before m.is.behind m.is.first (inl (made_is m.made_of.1 m.is.second)) m.is.spelled) m.same

arrows_same : (down : Bool) (b : ℕ) → Same (g.arrows down b) (s.arrows down b)
arrows_same down b = record { to = to down b; from = from down b }

pub ups_same : Same g.ups s.ups
ups_same = or_same (arrows_same false 94) (arrows_same true 118)
