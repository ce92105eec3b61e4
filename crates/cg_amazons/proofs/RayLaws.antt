-- The listed moves of Amazons are those of the game, and each lowers the number of empty cells.
use Rattle.std.proofs.Common.{◌≡◌, ◌≢◌, ℕ, zero, suc, ◌+◌, ◌-◌, ◌%◌, ◌<◌, ◌≤◌, ◌==◌, inl, inr, Bool, true, false, cond}
use Rattle.std.proofs.Common.{List, [], ◌∷◌, length, Option, Some, None, refl, ap, sym, subst, ◌∙◌, arith, eqb-true}
use Rattle.std.specs.Prelude.{nat_lt, slice_index, option_and_then}
use Rattle.std.specs.Option.{option_map_or}
use Rattle.std.proofs.lemmas.Bool.{ltb-true, leb-false, eqb-false}
use Rattle.cg_moves.specs.Rules.{In}
use Rattle.cg_amazons.specs.Amazons.{empty, up, down, back, forth, step, is_empty, Along, open_step, line}
use Rattle.cg_amazons.specs.declared.way.Way.{Way}
use Rattle.cg_amazons.specs.declared.way.Way.TheVariants.{UpBack, Up, UpForth, Back, Forth, DownBack, Down, DownForth}

-- ---- one step

pub if_false : (t : Bool) (a b : ℕ) → cond t None (Some a) ≡ Some b → (t ≡ false) × (a ≡ b)
if_false true a b e = absurd cc
if_false false a b e = (refl, cc)

pub if_true : (t : Bool) (a b : ℕ) → cond t (Some a) None ≡ Some b → (t ≡ true) × (a ≡ b)
if_true true a b e = (refl, cc)
if_true false a b e = absurd cc

pub two_steps : (f : ℕ → Option ℕ) (o : Option ℕ) (j : ℕ) → option_and_then f o ≡ Some j → (m : ℕ) × (o ≡ Some m) × (f m ≡ Some j)
two_steps f None j e = absurd cc
two_steps f (Some m) j e = (m, refl, e)

pub up_is : (columns i j : ℕ) → up columns i ≡ Some j → (columns ≤ i) × (j + columns ≡ i)
up_is columns i j e = let p = if_false (nat_lt i columns) (i - columns) j e in let h = leb-false (suc i) columns p.0 in (omega arith, omega (arith, p.1))

pub down_is : (columns size i j : ℕ) → down columns size i ≡ Some j → j ≡ i + columns
down_is columns size i j e = let p = if_true (nat_lt (i + columns) size) (i + columns) j e in sym p.1

pub back_is : (columns i j : ℕ) → back columns i ≡ Some j → (i % columns ≢ 0) × (j ≡ i - 1)
back_is columns i j e = let p = if_false (i % columns == 0) (i - 1) j e in (eqb-false (i % columns) 0 p.0, sym p.1)

pub forth_is : (columns i j : ℕ) → forth columns i ≡ Some j → (1 < columns) × (j ≡ i + 1)
forth_is columns i j e = let p = if_true (nat_lt (i % columns + 1) columns) (i + 1) j e in let h = ltb-true (i % columns + 1) columns p.0 in
    (omega arith, sym p.1)

-- the ways on which cells come earlier
abbrev goes_back : Way → Bool
goes_back UpBack = true
goes_back Up = true
goes_back UpForth = true
goes_back Back = true
goes_back Forth = false
goes_back DownBack = false
goes_back Down = false
goes_back DownForth = false

pub some_before : (columns i : ℕ) → 1 ≤ columns → i % columns ≢ 0 → 0 < i
some_before columns i some h = omega arith

wide : (columns i : ℕ) → 1 ≤ columns → i % columns ≢ 0 → 1 < columns
wide columns i some h = omega arith

falls : (columns size : ℕ) (way : Way) (i j : ℕ) → 1 ≤ columns → goes_back way ≡ true → step columns size way i ≡ Some j → j < i
falls columns size UpBack i j some b e = let (m, u, v) = two_steps (back columns) (up columns i) j e in omega (
  arith,
  up_is columns i m u,
  (back_is columns m j v).1,
)
falls columns size Up i j some b e = omega (arith, up_is columns i j e)
falls columns size UpForth i j some b e = let (m, u, v) = two_steps (forth columns) (up columns i) j e in omega (
  arith,
  up_is columns i m u,
  forth_is columns m
      j v,
)
falls columns size Back i j some b e = let p = back_is columns i j e in let h = some_before columns i some p.0 in omega (arith, p.1)
falls columns size Forth i j some b e = absurd cc
falls columns size DownBack i j some b e = absurd cc
falls columns size Down i j some b e = absurd cc
falls columns size DownForth i j some b e = absurd cc

rises : (columns size : ℕ) (way : Way) (i j : ℕ) → 1 ≤ columns → goes_back way ≡ false → step columns size way i ≡ Some j → i < j
rises columns size UpBack i j some b e = absurd cc
rises columns size Up i j some b e = absurd cc
rises columns size UpForth i j some b e = absurd cc
rises columns size Back i j some b e = absurd cc
rises columns size Forth i j some b e = omega (arith, forth_is columns i j e)
rises columns size DownBack i j some b e = let (m, u, v) = two_steps (back columns) (down columns size i) j e in let p = back_is columns m j v in let w =
    wide columns m some p.0 in omega (arith, down_is columns size i m u, p.1)
rises columns size Down i j some b e = omega (arith, down_is columns size i j e)
rises columns size DownForth i j some b e = let (m, u, v) = two_steps (forth columns) (down columns size i) j e in omega (
  arith,
  down_is columns size i m u,
  forth_is columns m j v,
)

-- ---- lines

pub within : (cells : List ℕ) (i : ℕ) → is_empty cells i ≡ true → i < length cells
within cells i e = inside cells i (eqb-true (slice_index cells i) empty e)
  where
    inside : (cells : List ℕ) (i : ℕ) → slice_index cells i ≡ empty → i < length cells
    inside [] zero f = absurd (omega arith)
    inside [] (suc i) f = absurd (omega arith)
    inside (c ∷ cells) zero f = omega arith
    inside (c ∷ cells) (suc i) f = let h = inside cells i f in omega arith

along_falls : (columns : ℕ) (cells : List ℕ) (way : Way) (steps from to : ℕ) → 1 ≤ columns → goes_back way ≡ true → Along columns cells way steps from to →
    to + steps ≤ from
along_falls columns cells way zero from to some b a = omega (arith, a)
along_falls columns cells way (suc steps) from to some b (next, s, e, a) = let h = falls columns (length cells) way from next some b s in let r =
    along_falls columns cells way steps next to some b a in omega arith

along_rises : (columns : ℕ) (cells : List ℕ) (way : Way) (steps from to : ℕ) → 1 ≤ columns → goes_back way ≡ false → Along columns cells way steps from to →
    from + steps ≤ to
along_rises columns cells way zero from to some b a = omega (arith, a)
along_rises columns cells way (suc steps) from to some b (next, s, e, a) = let h = rises columns (length cells) way from next some b s in let r =
    along_rises columns cells way steps next to some b a in omega arith

-- the last cell of a line is empty
pub along_ends : (columns : ℕ) (cells : List ℕ) (way : Way) (steps from to : ℕ) → Along columns cells way (suc steps) from to → is_empty cells to ≡ true
along_ends columns cells way zero from to (next, s, e, a) = subst (λ (n : ℕ). is_empty cells n ≡ true) a e
along_ends columns cells way (suc steps) from to (next, s, e, a) = along_ends columns cells way steps next to a

along_short : (columns : ℕ) (cells : List ℕ) (way : Way) (steps from to : ℕ) → 1 ≤ columns → from < length cells → Along columns cells way (suc steps) from to →
    suc steps ≤ length cells
along_short columns cells way steps from to some here a = by_way (goes_back way) refl
  where
    by_way : (t : Bool) → goes_back way ≡ t → suc steps ≤ length cells
    by_way true b = let h = along_falls columns cells way (suc steps) from to some b a in omega arith
    by_way false b = let h = along_rises columns cells way (suc steps) from to some b a in let l = within cells to (along_ends columns cells way steps from to
        a) in omega arith

-- ---- the listed line

pub open_is : (cells : List ℕ) (next : ℕ) (o : Option ℕ) → option_and_then (λ n. cond (is_empty cells n) (Some n) None) o ≡ Some next → (o ≡ Some next)
    × (is_empty cells next ≡ true)
open_is cells next None e = absurd cc
open_is cells next (Some n) e = by_test (is_empty cells n) refl e
  where
    by_test : (t : Bool) → is_empty cells n ≡ t → cond t (Some n) None ≡ Some next → (Some n ≡ Some next) × (is_empty cells next ≡ true)
    by_test true f g = let same : n ≡ next = cc in (g, subst (λ (k : ℕ). is_empty cells k ≡ true) same f)
    by_test false f g = absurd cc

pub open_has : (columns : ℕ) (cells : List ℕ) (way : Way) (from next : ℕ) → step columns (length cells) way from ≡ Some next → is_empty cells next ≡ true →
    open_step columns cells way from ≡ Some next
open_has columns cells way from next s e = ap (option_and_then (λ n. cond (is_empty cells n) (Some n) None)) s ∙ ap (λ (t : Bool). cond t (Some next) None) e

pub line_is : (columns : ℕ) (cells : List ℕ) (way : Way) (most from to : ℕ) → In to (line columns cells way most from) → (steps : ℕ) × Along columns cells way
    (suc steps) from to
line_is columns cells way zero from to m = absurd m
line_is columns cells way (suc most) from to m = by_step (open_step columns cells way from) refl m (λ next n. line_is columns cells way most next to n)
  where
    by_step : (o : Option ℕ) → open_step columns cells way from ≡ o → In to (option_map_or (λ next. next ∷ line columns cells way most next) o []) →
        ((next : ℕ) → In to (line columns cells way most next) → (steps : ℕ) × Along columns cells way (suc steps) next to) → (steps : ℕ) × Along columns cells
        way (suc steps) from to
    by_step None e n more = absurd n
    by_step (Some next) e (inl f) more = let p = open_is cells next (step columns (length cells) way from) e in (0, (next, p.0, p.1, sym f))
    by_step (Some next) e (inr n) more = let p = open_is cells next (step columns (length cells) way from) e in let r = more next n in
        (suc r.0, (next, p.0, p.1, r.1))

line_has_from : (columns : ℕ) (cells : List ℕ) (way : Way) (most steps from to : ℕ) → suc steps ≤ most → Along columns cells way (suc steps) from to →
    In to (line columns cells way most from)
line_has_from columns cells way zero steps from to h a = absurd (omega arith)
line_has_from columns cells way (suc most) zero from to h (next, s, e, a) = let o = open_has columns cells way from next s e in subst (λ (z : Option ℕ). In to
    (option_map_or (λ next. next ∷ line columns cells way most next) z [])) (sym o) (inl (sym a))
line_has_from columns cells way (suc most) (suc steps) from to h (next, s, e, a) = let o = open_has columns cells way from next s e in
    subst (λ (z : Option ℕ). In to (option_map_or (λ next. next ∷ line columns cells way most next) z [])) (sym o) (inr (line_has_from columns cells way most
    steps next to (omega arith) a))

pub line_has : (columns : ℕ) (cells : List ℕ) (way : Way) (steps from to : ℕ) → 1 ≤ columns → from < length cells → Along columns cells way (suc steps) from to
    → In to (line columns cells way (length cells) from)
line_has columns cells way steps from to some here a = line_has_from columns cells way (length cells) steps from to (along_short columns cells way steps from to
    some here a) a
