-- Summaries from those of the options.
use Rattle.std.proofs.Common.{◌≡◌, refl, ℕ, ◌+◌, ◌<◌, ◌≤◌, ◌^◌, arith, ap, ◌∙◌, List, [], ◌∷◌, ◌++◌}
use Rattle.std.proofs.Common.{length, Bool, true, false, not, ◌&&◌, max, rules, if◌then◌else◌}
use Rattle.std.specs.Prelude.{Option, Some, IsSome}
use Rattle.cg_dyadic.specs.declared.cut.Cut.{Cut}
use Rattle.cg_dyadic.specs.Cut.{in_gap}
use Rattle.cg_dyadic.specs.Number.{InRange, Number, is_long}
use Rattle.cg_dyadic.proofs.Strict.{gap_ends}
use Rattle.cg_dyadic.proofs.Truth.{false-from}
use Rattle.cg_form.specs.Cut.{AnyNumber, CutIs, CutOf, Turned, other_cut}
use Rattle.cg_form.specs.Depth.{deepest, depth_of}
use Rattle.cg_form.specs.Game.{Game, lefts, node, number, rights}
use Rattle.cg_form.specs.Order.{Equal, no_one}
use Rattle.cg_form.specs.Side.{at_most}
use Rattle.cg_form.specs.Simple.{NoNumber}
use Rattle.cg_form.proofs.Among.{lefts-node, rights-node}
use Rattle.cg_form.proofs.Cut.{any-closed, cut-number, gap-fits, same_when}
use Rattle.cg_form.proofs.CutSteps.{cut_of_none}
use Rattle.cg_form.proofs.Preorder.{equal_refl}
use Rattle.cg_form.proofs.Sides.{side_equal, side_trans}
use Rattle.cg_form.proofs.Simplicity.{none_fits}
use Rattle.cg_arena.specs.Costs.{cost_of}
use Rattle.cg_arena.specs.declared.summary.Summary.{Summary}
use Rattle.cg_arena.specs.Summaries.{HasCuts, IsSummary, chosen_cut}

-- ---- a number

pub number_summary : (x : Number) (c d : Cut) (n : ℕ) → c.at ≡ x → c.closed ≡ true → d.at ≡ x → d.closed ≡ true
    → n ≡ cost_of (number x) → InRange x → IsSummary (number x) (record { low = c; high = d; depth = 0; cost = n })
number_summary x c d n at shut at' shut' cells range = record {
  cuts = record {
    low = cut-number AnyNumber true c x (number x) at shut (equal_refl (number x));
    high = cut-number AnyNumber false d x (number x) at' shut' (equal_refl (number x));
  };
  depth = refl;
  cost = cells;
  small = omega (arith, few (is_long x));
  in_range = range;
}
  where
    few : (long : Bool) → (if long then 3 else 1) ≤ 3
    few true = omega arith
    few false = omega arith

-- ---- one option more

pub no_one-last : (p : Game → Bool) (gs : List Game) (g : Game) → no_one p (gs ++ g ∷ []) ≡ (no_one p gs && not (p g))
no_one-last p [] g = one (p g)
  where
    one : (b : Bool) → (not b && true) ≡ (true && not b)
    one true = refl
    one false = refl
no_one-last p (h ∷ gs) g = ap (λ b. not (p h) && b) (no_one-last p gs g) ∙ join (not (p h)) (no_one p gs) (not (p g))
  where
    join : (a b c : Bool) → (a && (b && c)) ≡ ((a && b) && c)
    join true b c = refl
    join false b c = refl

pub deepest-last : (gs : List Game) (g : Game) → deepest (gs ++ g ∷ []) ≡ max (deepest gs) (depth_of g)
deepest-last [] g = omega arith
deepest-last (h ∷ gs) g = omega (arith, deepest-last gs g)

pub summary_cut : (s : Bool) (g : Game) (p : Summary) → IsSummary g p → CutIs AnyNumber s (chosen_cut s p.low p.high) g
summary_cut true g p h = h.cuts.low
summary_cut false g p h = h.cuts.high

-- ---- a game that equals no number

pub record TwoCuts (o q : Option Cut) : Type 0 where
  pub low : IsSome o
  pub high : IsSome q

some_is : (o : Option Cut) (c : Cut) → o ≡ Some c → IsSome o
some_is o c e = rw e (search rules)

-- neither of its lists is empty
pub two_cuts : (ls rs : List Game) (o q : Option Cut) → NoNumber (node ls rs) → CutOf AnyNumber true o ls
    → CutOf AnyNumber false q rs → TwoCuts o q
two_cuts ls rs o q never l h =
    let ends = gap_ends o q (λ x. false-from (in_gap o q x) (λ t. none_fits (node ls rs) never x
    (gap-fits AnyNumber (node ls rs) o q (rw (lefts-node ls rs) l) (rw (rights-node ls rs) h) x tt t))) in
    record { low = some_is o ends.first ends.low_is; high = some_is q ends.last ends.high_is }

-- no number lies in its gap
none_passes : (ls rs : List Game) (o q : Option Cut) → NoNumber (node ls rs) → CutOf AnyNumber true o ls
    → CutOf AnyNumber false q rs → (x : Number) → in_gap o q x ≡ false
none_passes ls rs o q never l h x =
    false-from (in_gap o q x) (λ t. none_fits (node ls rs) never x
    (gap-fits AnyNumber (node ls rs) o q (rw (lefts-node ls rs) l) (rw (rights-node ls rs) h) x tt t))

-- the cuts that the game of two lists makes
pub cuts_between : (ls rs : List Game) (o q : Option Cut) (low high c d : Cut) → o ≡ Some low → q ≡ Some high
    → Turned (other_cut true low high) c → Turned (other_cut false low high) d → NoNumber (node ls rs)
    → CutOf AnyNumber true o ls → CutOf AnyNumber false q rs → CutIs AnyNumber true c (node ls rs) × CutIs AnyNumber false d (node ls rs)
cuts_between ls rs o q low high c d e f t u never l r =
    let kl : CutOf AnyNumber true (Some low) ls = rw (← e) l in
    let kr : CutOf AnyNumber false (Some high) rs = rw (← f) r in
    let none = none_passes ls rs (Some low) (Some high) never kl kr in (
      cut_of_none AnyNumber any-closed true ls rs low high c kl kr (λ x p. none x) t,
      cut_of_none AnyNumber any-closed false ls rs low high d kl kr (λ x p. none x) u,
    )

-- from its cuts, and the depths and lengths of its lists
pub summary_from_cuts : (ls rs : List Game) (p : Summary) → CutIs AnyNumber true p.low (node ls rs) → CutIs AnyNumber false p.high (node ls rs)
    → p.depth ≡ max (deepest ls) (deepest rs) + 1 → p.cost ≡ 1 + length ls + length rs → p.cost < 2 ^ 63 → IsSummary (node ls rs) p
summary_from_cuts ls rs p low high deep cost small =
    let nl : length (lefts (node ls rs)) ≡ length ls = ap length (lefts-node ls rs) in
    let nr : length (rights (node ls rs)) ≡ length rs = ap length (rights-node ls rs) in
    record {
      cuts = record { low = low; high = high };
      depth = omega (arith, deep);
      cost = omega (arith, cost, nl, nr);
      small = small;
      in_range = tt;
    }

-- ---- an equal game

equal_cut : (s : Bool) (g h : Game) (c : Cut) → Equal h g → CutIs AnyNumber s c g → CutIs AnyNumber s c h
equal_cut s g h c e k = record {
  tells = λ x y.
      same_when (at_most s (number x) h) (at_most s (number x) g)
      (λ t. side_trans s (number x) h g t (side_equal s h g e))
      (λ t. side_trans s (number x) g h t (side_equal s g h (e.1, e.0)))
      ∙ k.tells x y;
}

pub equal_cuts : (g h : Game) (p : Summary) → Equal h g → HasCuts g p → HasCuts h p
equal_cuts g h p e k = record { low = equal_cut true g h p.low e k.low; high = equal_cut false g h p.high e k.high }
