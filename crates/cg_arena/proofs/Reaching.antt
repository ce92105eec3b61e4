-- How far the games of a list go among the numbers.
use Rattle.std.proofs.Common.{◌≡◌, refl, sym, ◌∙◌, ap, inl, inr, arith, ◌^◌, ◌<◌, List, [], ◌∷◌, ◌++◌, Bool, true, false, not, cond, ℤ, unsigned_abs}
use Rattle.std.proofs.lemmas.Int.{clamps, ints}
use Rattle.std.specs.Int.{int_max, int_min}
use Rattle.cg_dyadic.proofs.Truth.{differ, false-from}
use Rattle.cg_dyadic.proofs.Wides.{wide_word}
use Rattle.cg_form.specs.Best.{keep}
use Rattle.cg_form.specs.Game.{Among, Game}
use Rattle.cg_form.specs.Known.{EachLess}
use Rattle.cg_form.specs.Order.{le, no_one}
use Rattle.cg_form.specs.Side.{at_most}
use Rattle.cg_form.proofs.Best.{keep-in}
use Rattle.cg_form.proofs.Order.{no_one-all}
use Rattle.cg_form.proofs.Sides.{side_turned}
use Rattle.cg_arena.specs.declared.keys.Keys.{Keys}
use Rattle.cg_arena.specs.declared.reach.Bounds.{Bounds}
use Rattle.cg_arena.specs.Keys.{HasKeys}
use Rattle.cg_arena.specs.Reach.{AreBounds}
use Rattle.cg_arena.specs.Undominated.{with_last}
use Rattle.cg_arena.proofs.KeyLaws.{IsLess, as_word, below_high, below_low, high_small, is_less, low_small}
use Rattle.cg_arena.proofs.Undominating.{among_last}

-- ---- one game more

at_words : (f : ℤ → ℤ → ℤ) (x m n : ℤ) → x ≡ f (as_word m) (as_word n) → unsigned_abs m < 2 ^ 126 → unsigned_abs n < 2 ^ 126
    → unsigned_abs (f m n) < 2 ^ 126 → as_word x ≡ f m n
at_words f x m n is e h small =
    ap as_word (is ∙ ap (λ z. f z (as_word n)) (wide_word m e) ∙ ap (f m) (wide_word n h)) ∙ wide_word (f m n) small

pub bounds_more : (gs : List Game) (g : Game) (b : Bounds) (k : Keys) (x y z w : ℤ) → x ≡ int_min (as_word b.least.low) (as_word k.low)
    → y ≡ int_min (as_word b.least.high) (as_word k.high) → z ≡ int_max (as_word b.greatest.low) (as_word k.low)
    → w ≡ int_max (as_word b.greatest.high) (as_word k.high) → AreBounds gs b → HasKeys g k
    → AreBounds (g ∷ gs) (record {
      least = record { low = as_word x; high = as_word y };
      greatest = record { low = as_word z; high = as_word w };
    })
bounds_more gs g b k x y z w least_low least_high greatest_low greatest_high h p =
    let low = low_small k g p in
    let high = high_small k g p in
    let le : as_word x ≡ int_min b.least.low k.low =
    at_words int_min x b.least.low k.low least_low h.least_low low (omega (arith, ints, clamps, h.least_low, low)) in
    let lf : as_word y ≡ int_min b.least.high k.high =
    at_words int_min y b.least.high k.high least_high h.least_high high (omega (arith, ints, clamps, h.least_high, high)) in
    let gl : as_word z ≡ int_max b.greatest.low k.low =
    at_words int_max z b.greatest.low k.low greatest_low h.greatest_low low (omega (arith, ints, clamps, h.greatest_low, low)) in
    let gh : as_word w ≡ int_max b.greatest.high k.high =
    at_words int_max w b.greatest.high k.high greatest_high h.greatest_high high (omega (arith, ints, clamps, h.greatest_high, high)) in
    let c : Bounds = record {
      least = record { low = as_word x; high = as_word y };
      greatest = record { low = as_word z; high = as_word w };
    } in
    record {
      each = λ u m. elim m [
        | inl e ↦ (rw e (record {
          keys = k;
          has = p;
          from_low = omega (arith, ints, clamps, le);
          from_high = omega (arith, ints, clamps, lf);
          to_low = omega (arith, ints, clamps, gl);
          to_high = omega (arith, ints, clamps, gh);
        }))
        | inr n ↦ (let v = h.each u n in record {
          keys = v.keys;
          has = v.has;
          from_low = omega (arith, ints, clamps, le, v.from_low);
          from_high = omega (arith, ints, clamps, lf, v.from_high);
          to_low = omega (arith, ints, clamps, gl, v.to_low);
          to_high = omega (arith, ints, clamps, gh, v.to_high);
        })
      ];
      least_low = omega (arith, ints, clamps, le, h.least_low, low);
      least_high = omega (arith, ints, clamps, lf, h.least_high, high);
      greatest_low = omega (arith, ints, clamps, gl, h.greatest_low, low);
      greatest_high = omega (arith, ints, clamps, gh, h.greatest_high, high);
    }

-- ---- a game that goes further

pub above_lows : (gs : List Game) (g : Game) (b : Bounds) (k : Keys) → AreBounds gs b → HasKeys g k
    → IsLess b.greatest.low k.low → EachLess true g gs
above_lows gs g b k h p l = record {
  each = λ c m y.
      let w = h.each c m in
      let less = is_less b.greatest.low k.low h.greatest_low (low_small k g p) l in
      differ (le g c) y (below_low k w.keys g c p w.has (omega (arith, ints, w.to_low, less)));
}

pub above_highs : (gs : List Game) (g : Game) (b : Bounds) (k : Keys) → AreBounds gs b → HasKeys g k
    → IsLess b.greatest.high k.high → EachLess true g gs
above_highs gs g b k h p l = record {
  each = λ c m y.
      let w = h.each c m in
      let less = is_less b.greatest.high k.high h.greatest_high (high_small k g p) l in
      differ (le g c) y (below_high k w.keys g c p w.has (omega (arith, ints, w.to_high, less)));
}

pub below_lows : (gs : List Game) (g : Game) (b : Bounds) (k : Keys) → AreBounds gs b → HasKeys g k
    → IsLess k.low b.least.low → EachLess false g gs
below_lows gs g b k h p l = record {
  each = λ c m y.
      let w = h.each c m in
      let less = is_less k.low b.least.low (low_small k g p) h.least_low l in
      differ (le c g) y (below_low w.keys k c g w.has p (omega (arith, ints, w.from_low, less)));
}

pub below_highs : (gs : List Game) (g : Game) (b : Bounds) (k : Keys) → AreBounds gs b → HasKeys g k
    → IsLess k.high b.least.high → EachLess false g gs
below_highs gs g b k h p l = record {
  each = λ c m y.
      let w = h.each c m in
      let less = is_less k.high b.least.high (high_small k g p) h.least_high l in
      differ (le c g) y (below_high w.keys k c g w.has p (omega (arith, ints, w.from_high, less)));
}

-- ---- the list changes

with_last-in : (left : Bool) (gs : List Game) (x y : Game) → Among y (with_last left gs x) → Among y (x ∷ gs)
with_last-in left gs x y m = of (no_one (at_most left x) gs) m
  where
    of : (t : Bool) → Among y (cond t (keep (λ c. not (at_most left c x)) gs ++ x ∷ []) gs) → Among y (x ∷ gs)
    of true m = elim (among_last y x (keep (λ c. not (at_most left c x)) gs) m) [
      | inl w ↦ inr ((keep-in (λ c. not (at_most left c x)) y gs w).0)
      | inr e ↦ inl e
    ]
    of false m = inr m

pub bounds_with_last : (left : Bool) (gs : List Game) (x : Game) (b : Bounds) → AreBounds (x ∷ gs) b
    → AreBounds (with_last left gs x) b
bounds_with_last left gs x b h = record {
  each = λ g m. h.each g (with_last-in left gs x g m);
  least_low = h.least_low;
  least_high = h.least_high;
  greatest_low = h.greatest_low;
  greatest_high = h.greatest_high;
}

-- ---- the list stays

pub none_beats_all : (s : Bool) (g : Game) (gs : List Game) → EachLess s g gs → true ≡ no_one (at_most s g) gs
none_beats_all s g gs h = sym (no_one-all (at_most s g) gs (λ c m. false-from (at_most s g c) (h.each c m)))

pub all_kept : (s : Bool) (g : Game) (gs : List Game) → EachLess (not s) g gs → gs ≡ keep (λ c. not (at_most s c g)) gs
all_kept s g [] h = refl
all_kept s g (c ∷ gs) h =
    let no : at_most s c g ≡ false = sym (side_turned s g c) ∙ false-from (at_most (not s) g c) (h.each c (inl refl)) in
    let rest : EachLess (not s) g gs = record { each = λ d m. h.each d (inr m) } in
    ap (λ z. c ∷ z) (all_kept s g gs rest)
    ∙ ap (λ t. cond t (c ∷ keep (λ z. not (at_most s z g)) gs) (keep (λ z. not (at_most s z g)) gs)) (sym (ap not no))
