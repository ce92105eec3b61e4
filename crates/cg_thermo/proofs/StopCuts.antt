-- The stops of a game stand where its cuts of the numbers do.
use Rattle.std.proofs.Common.{◌≡◌, ap, not, ◌∙◌, Bool, true, false}
use Rattle.cg_arena.specs.Summaries.{HasCuts}
use Rattle.cg_arena.specs.declared.summary.Summary.{Summary}
use Rattle.cg_dyadic.specs.declared.cut.Cut.{Cut}
use Rattle.cg_dyadic.specs.Cut.{number_at_most, within_cut}
use Rattle.cg_dyadic.specs.Number.{Number}
use Rattle.cg_dyadic.proofs.Truth.{differ, false-from}
use Rattle.cg_dyadic.proofs.Values.{less-le}
use Rattle.cg_form.specs.Cut.{AnyNumber, CutIs}
use Rattle.cg_form.specs.Game.{Game}
use Rattle.cg_form.proofs.Stops.{LeftStop, RightStop, equal-left_stop, equal-right_stop}
use Rattle.cg_form.proofs.StopValues.{stops-are}
use Rattle.cg_form.proofs.Preorder.{equal_refl}
use Rattle.cg_thermo.specs.StopsOf.{StopsAre}

-- what is better than the place of a cut isn't in it, and what isn't as good as the place is
above_cut : (s : Bool) (p x : Number) (closed : Bool) → ¬ (number_at_most s x p ≡ true) → number_at_most s p x ≡ true → within_cut s p closed x ≡ false
above_cut s p x true h m = false-from (number_at_most s x p) h
above_cut s p x false h m = ap not m

below_cut : (s : Bool) (p x : Number) (closed : Bool) → ¬ (number_at_most s p x ≡ true) → number_at_most s x p ≡ true → within_cut s p closed x ≡ true
below_cut s p x true h m = m
below_cut s p x false h m = ap not (false-from (number_at_most s p x) h)

low_stop : (g : Game) (c : Cut) → CutIs AnyNumber true c g → RightStop g c.at
low_stop g c k = record {
  low = λ x h. k.tells x tt ∙ below_cut true c.at x c.closed h (less-le c.at x h);
  high = λ x h l. differ _ l (k.tells x tt ∙ above_cut true c.at x c.closed h (less-le x c.at h));
}

high_stop : (g : Game) (c : Cut) → CutIs AnyNumber false c g → LeftStop g c.at
high_stop g c k = record {
  high = λ x h. k.tells x tt ∙ below_cut false c.at x c.closed h (less-le x c.at h);
  low = λ x h l. differ _ l (k.tells x tt ∙ above_cut false c.at x c.closed h (less-le c.at x h));
}

pub stops_of_cuts : (g : Game) (p : Summary) → HasCuts g p → StopsAre g (record { left = p.high.at; right = p.low.at })
stops_of_cuts g p h = record {
  left = λ d. equal-left_stop g g p.high.at _ (high_stop g p.high h.high) (stops-are d g).left (equal_refl g);
  right = λ d. equal-right_stop g g p.low.at _ (low_stop g p.low h.low) (stops-are d g).right (equal_refl g);
}
