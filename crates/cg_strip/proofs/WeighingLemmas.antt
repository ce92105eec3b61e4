-- The test finds exactly the rules that lower the sum of the weights.
use Rattle.std.proofs.Common.{◌≡◌, ℕ, zero, suc, ◌+◌, ◌-◌, ◌≤◌, ◌&&◌, inl, inr, Bool, true, false, cond, List, []}
use Rattle.std.proofs.Common.{◌∷◌, ◌++◌, length, Some, None, refl, ap, sym, subst, ◌∙◌, arith, length-append}
use Rattle.std.specs.Prelude.{nat_le, replicate, All}
use Rattle.std.proofs.lemmas.Bool.{and_parts, leb-true, leb-false, ltb-true}
use Rattle.std.proofs.lemmas.List.{length-replicate}
use Rattle.cg_moves.specs.Rules.{In}
use Rattle.cg_strip.specs.Placing.{IsPlacedAt}
use Rattle.cg_strip.specs.Rulebook.{Rulebook}
use Rattle.cg_strip.specs.Weighing.{symbol_weight, cells_weight, row_weight, LowersAt, Lowers, IsFirstRising}
use Rattle.cg_strip.specs.Weighing.{is_lighter, lowers_from, does_lower, do_all_lower, first_rising}
use Rattle.cg_strip.proofs.LoweringSteps.{fits_lower, long_lower}
use Rattle.cg_strip.specs.declared.weight.Weight.{Weight}
use Rattle.cg_strip.specs.declared.rule.Rule.{Rule}

cells_weight-append : (weights : List Weight) (left : ℕ) (xs ys : List ℕ) (right : ℕ) → cells_weight weights left (xs ++ ys) right ≡ cells_weight weights left
    xs (length ys + right) + cells_weight weights (left + length xs) ys right
cells_weight-append weights left [] ys right = let e : left ≡ left + 0 = omega arith in let f = ap (λ (k : ℕ). cells_weight weights k ys right) e in
    omega (arith, f)
cells_weight-append weights left (x ∷ xs) ys right =
    let n : length (xs ++ ys) + right ≡ length xs + (length ys + right) = omega (arith, length-append xs ys) in
    let first = ap (λ (k : ℕ). symbol_weight weights x left k) n in
    let more = cells_weight-append weights (suc left) xs ys right in
    let e : suc left + length xs ≡ left + suc (length xs) = omega arith in
    let f = ap (λ (k : ℕ). cells_weight weights k ys right) e in
    omega (arith, first, more, f)

-- the weights elsewhere, and of the middle
split_weight : (weights : List Weight) (before middle behind : List ℕ) → row_weight weights (before ++ (middle ++ behind)) ≡ cells_weight weights 0 before
    (length middle + length behind) + (cells_weight weights (length before) middle (length behind) + cells_weight weights (length before + length middle) behind
    0)
split_weight weights before middle behind =
    let a = cells_weight-append weights 0 before (middle ++ behind) 0 in
    let b = cells_weight-append weights (0 + length before) middle behind 0 in
    let n : length (middle ++ behind) + 0 ≡ length middle + length behind = omega (arith, length-append middle behind) in
    let c = ap (λ (k : ℕ). cells_weight weights 0 before k) n in
    let z : 0 + length before ≡ length before = omega arith in
    let d = ap (λ (k : ℕ). cells_weight weights k (middle ++ behind) 0) z in
    let e : length behind + 0 ≡ length behind = omega arith in
    let f = ap (λ (k : ℕ). cells_weight weights (0 + length before) middle k) e ∙ ap (λ (k : ℕ). cells_weight weights k middle (length behind)) z in
    let g = ap (λ (k : ℕ). cells_weight weights (k + length middle) behind 0) z in
    omega (arith, a, b, c, d, f, g)

-- a placement changes the sum by what the middle's changes
placed_weight : (weights : List Weight) (r : Rule) (i : ℕ) (row after : List ℕ) (is : IsPlacedAt r i row after) → length r.pattern ≡ length r.replacement
    → row_weight weights after + cells_weight weights i r.pattern (length is.behind) ≡ row_weight weights row + cells_weight weights i r.replacement
    (length is.behind)
placed_weight weights r i row after is even =
    let a = ap (row_weight weights) is.written ∙ split_weight weights is.before r.replacement is.behind in
    let b = ap (row_weight weights) is.stands ∙ split_weight weights is.before r.pattern is.behind in
    let c = ap (λ (n : ℕ). cells_weight weights 0 is.before (n + length is.behind)) even in
    let d = ap (λ (n : ℕ). cells_weight weights (length is.before + n) is.behind 0) even in
    let e = ap (λ (n : ℕ). cells_weight weights n r.pattern (length is.behind)) is.at in
    let f = ap (λ (n : ℕ). cells_weight weights n r.replacement (length is.behind)) is.at in
    omega (arith, a, b, c, d, e, f)

pub room_behind : (r : Rule) (i : ℕ) (row after : List ℕ) (is : IsPlacedAt r i row after) → i + length r.pattern + length is.behind ≡ length row
room_behind r i row after is = omega (arith, ap length is.stands, length-append is.before (r.pattern ++ is.behind), length-append r.pattern is.behind, is.at)

-- ---- the test at one cell

pub lighter_lowers : (weights : List Weight) (size : ℕ) (r : Rule) (i right : ℕ) → length r.pattern ≡ length r.replacement → i + length r.pattern + right ≡ size
    → is_lighter weights r i right ≡ true → LowersAt weights size r i
lighter_lowers weights size r i right even fits e row after long is =
    let n : length is.behind ≡ right = omega (arith, room_behind r i row after is, long) in
    let less = ltb-true (cells_weight weights i r.replacement right) (cells_weight weights i r.pattern right) e in
    let c = ap (λ (k : ℕ). cells_weight weights i r.pattern k) n in
    let d = ap (λ (k : ℕ). cells_weight weights i r.replacement k) n in
    omega (arith, placed_weight weights r i row after is even, less, c, d)

-- a row in which the pattern stands at this cell
sample : (r : Rule) (i right : ℕ) (middle : List ℕ) → List ℕ
sample r i right middle = replicate i 0 ++ (middle ++ replicate right 0)

heavy_rises : (weights : List Weight) (size : ℕ) (r : Rule) (i right : ℕ) → length r.pattern ≡ length r.replacement → i + length r.pattern + right ≡ size →
    is_lighter weights r i right ≡ false → ¬ LowersAt weights size r i
unfolding sample
heavy_rises weights size r i right even fits e lowers =
    let is : IsPlacedAt r i (sample r i right r.pattern) (sample r i right r.replacement) = record {
      before = replicate i 0;
      behind = replicate right 0;
      at = length-replicate {A = ℕ} i 0;
      stands = refl;
      written = refl;
    } in
    let long : length (sample r i right r.pattern) ≡ size = omega (
      arith,
      length-append (replicate i 0) (r.pattern ++ replicate right 0),
      length-append
          r.pattern (replicate right 0),
      length-replicate {A = ℕ} i 0,
      length-replicate {A = ℕ} right 0,
    ) in
    let less = lowers (sample r i right r.pattern) (sample r i right r.replacement) long is in
    let more = leb-false (suc (cells_weight weights i r.replacement right)) (cells_weight weights i r.pattern right) e in
    let n = length-replicate {A = ℕ} right 0 in
    let c = ap (λ (k : ℕ). cells_weight weights i r.pattern k) n in
    let d = ap (λ (k : ℕ). cells_weight weights i r.replacement k) n in
    omega (arith, placed_weight weights r i (sample r i right r.pattern) (sample r i right r.replacement) is even, less, more, c, d)

-- ---- all cells

all_lighter : (weights : List Weight) (r : Rule) (left right : ℕ) → lowers_from weights r left right ≡ true → (i : ℕ) → i ≤ right → is_lighter weights r
    (left + i) (right - i) ≡ true
all_lighter weights r left zero e i h = let a : left ≡ left + i = omega arith in let b : 0 ≡ 0 - i = omega arith in subst (λ (k : ℕ). is_lighter weights r k
    (0 - i) ≡ true) a (subst (λ (k : ℕ). is_lighter weights r left k ≡ true) b e)
all_lighter weights r left (suc right) e zero h = let p = and_parts (is_lighter weights r left (suc right)) (lowers_from weights r (suc left) right) e in
    let a : left ≡ left + 0 = omega arith in let b : suc right ≡ suc right - 0 = omega arith in subst (λ (k : ℕ). is_lighter weights r k (suc right - 0) ≡ true)
    a (subst (λ (k : ℕ). is_lighter weights r left k ≡ true) b p.0)
all_lighter weights r left (suc right) e (suc i) h = let p = and_parts (is_lighter weights r left (suc right)) (lowers_from weights r (suc left) right) e in
    let a : suc left + i ≡ left + suc i = omega arith in let b : right - i ≡ suc right - suc i = omega arith in subst (λ (k : ℕ). is_lighter weights r k
    (suc right - suc i) ≡ true) a (subst (λ (k : ℕ). is_lighter weights r (suc left + i) k ≡ true) b (all_lighter weights r (suc left) right p.1 i
    (omega arith)))

some_heavy : (weights : List Weight) (r : Rule) (left right : ℕ) → lowers_from weights r left right ≡ false → (i : ℕ) × (i ≤ right) × (is_lighter weights r
    (left + i) (right - i) ≡ false)
some_heavy weights r left zero e = (0, omega arith, (let a : left ≡ left + 0 = omega arith in subst (λ (k : ℕ). is_lighter weights r k 0 ≡ false) a e))
some_heavy weights r left (suc right) e = by_first (is_lighter weights r left (suc right)) refl e (λ f. some_heavy weights r (suc left) right f)
  where
    by_first : (t : Bool) → is_lighter weights r left (suc right) ≡ t → (t && lowers_from weights r (suc left) right) ≡ false →
        (lowers_from weights r (suc left) right ≡ false → (i : ℕ) × (i ≤ right) × (is_lighter weights r (suc left + i) (right - i) ≡ false)) → (i : ℕ)
        × (i ≤ suc right) × (is_lighter weights r (left + i) (suc right - i) ≡ false)
    by_first true h f more = let m = more f in let a : suc left + m.0 ≡ left + suc m.0 = omega arith in let b : right - m.0 ≡ suc right - suc m.0 = omega arith
        in (
          suc m.0,
          omega (arith, m.1),
          subst (λ (k : ℕ). is_lighter weights r k (suc right - suc m.0) ≡ false) a (subst (λ (k : ℕ). is_lighter weights r
              (suc left + m.0) k ≡ false) b m.2),
        )
    by_first false h f more = let a : left ≡ left + 0 = omega arith in let b : suc right ≡ suc right - 0 = omega arith in (
      0,
      omega arith,
      subst (λ (k : ℕ). is_lighter weights r k (suc right - 0) ≡ false) a (subst (λ (k : ℕ). is_lighter weights r left k ≡ false) b h),
    )

-- ---- the test says whether the rule lowers the sum

pub lower_is : (weights : List Weight) (size : ℕ) (r : Rule) → length r.pattern ≡ length r.replacement → does_lower weights size r ≡ true → Lowers weights size
    r
lower_is weights size r even e i fits =
    let room = size - length r.pattern in
    let all = all_lighter weights r 0 room (sym (fits_lower weights size r (omega arith)) ∙ e) i (omega arith) in
    lighter_lowers weights size r i (room - i) even (omega arith) (subst (λ (k : ℕ). is_lighter weights r k (room - i) ≡ true) (let z : 0 + i ≡ i = omega arith
    in z) all)

-- a cell where the pattern fits and the rule doesn't lower the sum
pub Rising : List Weight → ℕ → Rule → Type 0
Rising weights size r = (i : ℕ) × (i + length r.pattern ≤ size) × (¬ LowersAt weights size r i)

lower_not : (weights : List Weight) (size : ℕ) (r : Rule) → length r.pattern ≡ length r.replacement → does_lower weights size r ≡ false → Rising weights size r
unfolding Rising
lower_not weights size r even e = by_fit (nat_le (length r.pattern) size) refl
  where
    room : ℕ
    room = size - length r.pattern

    by_fit : (t : Bool) → nat_le (length r.pattern) size ≡ t → (i : ℕ) × (i + length r.pattern ≤ size) × (¬ LowersAt weights size r i)
    by_fit true h =
        let le = leb-true (length r.pattern) size h in
        let (i, k, heavy) = some_heavy weights r 0 room (sym (fits_lower weights size r le) ∙ e) in
        let f : i + length r.pattern + (room - i) ≡ size = omega arith in (
          i,
          omega arith,
          heavy_rises weights size r i (room - i) even f (subst (λ (j : ℕ). is_lighter weights r j (room - i) ≡ false) (let z : 0 + i ≡ i
              = omega arith in z) heavy),
        )
    by_fit false h = absurd (let f : true ≡ false = sym (long_lower weights size r (leb-false (length r.pattern) size h)) ∙ e in cc)

-- ---- all rules

abbrev Even : List Rule → Type 0
Even rules = All (λ r. length r.pattern ≡ length r.replacement) rules

later : (r : Rule) (rules : List Rule) → Even (r ∷ rules) → Even rules
later r rules h k d below = h (suc k) d (omega arith)

pub none_rising : (weights : List Weight) (size others : ℕ) (rules : List Rule) → Even rules → first_rising weights size others rules ≡ None → do_all_lower
    weights size rules ≡ true
unfolding first_rising
none_rising weights size others [] h e = refl
none_rising weights size others (r ∷ rules) h e = by_first (does_lower weights size r) e (λ f. none_rising weights size (suc others) rules (later r rules h) f)
  where
    by_first : (t : Bool) → cond t (first_rising weights size (suc others) rules) (Some (suc others)) ≡ None → (first_rising weights size (suc others) rules
        ≡ None → do_all_lower weights size rules ≡ true) → (t && do_all_lower weights size rules) ≡ true
    by_first true f more = more f
    by_first false f more = absurd cc

-- the rule of this number is the first of these that doesn't lower the sum
record RisingAmong (weights : List Weight) (size others : ℕ) (rules : List Rule) (k : ℕ) : Type 0 where
  pub before : List Rule
  pub behind : List Rule
  pub rule : Rule
  pub split : rules ≡ before ++ rule ∷ behind
  pub number : k ≡ suc (others + length before)
  pub sound : All (Lowers weights size) before
  pub rising : Rising weights size rule

rising_among : (weights : List Weight) (size others : ℕ) (rules : List Rule) (k : ℕ) → Even rules → first_rising weights size others rules ≡ Some k →
    RisingAmong weights size others rules k
unfolding first_rising
rising_among weights size others [] k h e = absurd cc
rising_among weights size others (r ∷ rules) k h e = by_first (does_lower weights size r) refl e (λ f. rising_among weights size (suc others) rules k
    (later r rules h) f)
  where
    even : length r.pattern ≡ length r.replacement
    even = h 0 r (omega arith)

    both : (before : List Rule) → Lowers weights size r → All (Lowers weights size) before → All (Lowers weights size) (r ∷ before)
    both before first others zero d below = first
    both before first others (suc n) d below = others n d (omega arith)

    by_first : (t : Bool) → does_lower weights size r ≡ t → cond t (first_rising weights size (suc others) rules) (Some (suc others)) ≡ Some k →
        (first_rising weights size (suc others) rules ≡ Some k → RisingAmong weights size (suc others) rules k) → RisingAmong weights size others (r ∷ rules) k
    by_first true g f more =
        let m = more f in
        record {
          before = r ∷ m.before;
          behind = m.behind;
          rule = m.rule;
          split = ap (λ (z : List Rule). r ∷ z) m.split;
          number = omega (arith, m.number);
          sound = both m.before (lower_is weights size r even g) m.sound;
          rising = m.rising;
        }
    by_first false g f more =
        let n : suc others ≡ k = cc in
        record {
          before = [];
          behind = rules;
          rule = r;
          split = refl;
          number = omega (arith, n);
          sound = λ j d below. absurd (omega arith);
          rising = lower_not weights size r even g;
        }

pub first_rising_is : (book : Rulebook) (size k : ℕ) → Even book.rules → first_rising book.weights size 0 book.rules ≡ Some k → IsFirstRising book size k
unfolding Rising
first_rising_is book size k h e =
    let m = rising_among book.weights size 0 book.rules k h e in
    record {
      before = m.before;
      behind = m.behind;
      rule = m.rule;
      split = m.split;
      number = omega (arith, m.number);
      sound = m.sound;
      cell = m.rising.0;
      fits = m.rising.1;
      rising = m.rising.2;
    }

-- each rule of a row that is lowered by all lowers the sum
pub one_lowers : (weights : List Weight) (size : ℕ) (rules : List Rule) (r : Rule) → do_all_lower weights size rules ≡ true → In r rules → does_lower weights
    size r ≡ true
one_lowers weights size [] r e m = absurd m
one_lowers weights size (v ∷ rules) r e (inl f) = ap (does_lower weights size) f ∙ (and_parts (does_lower weights size v) (do_all_lower weights size rules) e).0
one_lowers weights size (v ∷ rules) r e (inr m) = one_lowers weights size rules r (and_parts (does_lower weights size v) (do_all_lower weights size rules) e).1
    m
