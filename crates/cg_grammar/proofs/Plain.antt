-- Readers that read the same.
use Rattle.std.proofs.Common.{◌≡◌, ℕ, Bool, true, false, cond, List, [], ◌∷◌, length, Option, Ok, Err, refl, ap, sym, ◌∙◌}
use Rattle.cg_reading.specs.Bytes.{Class, has}
use Rattle.cg_reading.specs.Readers.{Read, Reader, ◌>>=◌, then_at, made_at, one_at, placed_at}
use Rattle.cg_query.specs.Tree.{Tree, ups, used}
use Rattle.cg_grammar.specs.Found.{Found}
use Rattle.cg_reading.specs.Tokens.{only, digit}
use Rattle.cg_reading.specs.TokenReaders.{digits_at}
use Rattle.cg_grammar.specs.Values.{with_tail, clean, counted_of, times_of, ups_tree, Last, In_none, In_arrows, In_name}
use Rattle.cg_grammar.specs.OperandReading.{count_at, plain_count_at, arrows_at, ups_at, ups_tree_at}
use Rattle.cg_grammar.specs.Reading.{Behind, Over, Times, counted_from}
use Rattle.cg_grammar.specs.OperandReading.{nim_at, tail_at}
use Rattle.cg_grammar.specs.Reading.{primary_at, plain_primary_at, behind_at, behind_number_at, times_at, counted_at}
use Rattle.cg_grammar.specs.Reading.{number_or_multiple_at, counted_term_at, plain_counted_term_at, whole_term_at, special_term_at}
use Rattle.cg_grammar.specs.OperandReading.{use_at, whole_use_at, name_at, arrow, star}
use Rattle.cg_grammar.specs.Reading.{special_at, bare_special_at, whole_special_at}
use Rattle.cg_grammar.specs.Grammar.{letter}
use Rattle.cg_query.specs.declared.format.Format.{Format}
use Rattle.cg_query.specs.declared.format.Format.TheVariants as formats

-- a choice of readings, each the same under a function
chosen_same : {A B : Type 0} (k : Read A → Read B) (t : Bool) (x y : Read A) (u v : Read B) → k x ≡ u → k y ≡ v → k (cond t x y) ≡ cond t u v
chosen_same k true x y u v h j = h
chosen_same k false x y u v h j = j

abbrev under : {A B : Type 0} → (A → B) → Read A → Read B
under h x = x >>= λ v. Ok (h v.0, v.1)

under_twice : {A B C : Type 0} (g : B → C) (h : A → B) (x : Read A) → under g (under h x) ≡ under (λ a. g (h a)) x
under_twice g h (Ok v) = refl
under_twice g h (Err n) = refl

count_is : (b end : ℕ) (bytes : List ℕ) → under (λ v. v.0) (count_at b end bytes) ≡ plain_count_at b end bytes
unfolding count_at plain_count_at
count_is b end [] = refl
count_is b end (c ∷ bytes) =
    chosen_same (under (λ v. v.0)) (has digit c) _ _ _ _ (under_twice (λ v. v.0) (λ n. (n, false)) (digits_at end (c ∷ bytes)) ∙ same (digits_at end (c ∷ bytes))) refl
  where
    same : (x : Read ℕ) → under (λ n. n) x ≡ x
    same (Ok v) = refl
    same (Err n) = refl

abbrev byte_if : Bool → ℕ → List ℕ → Read ℕ
byte_if t b bytes = cond t (Ok (b, bytes)) (Err (length (b ∷ bytes)))

-- a byte, and then what two readers read the same under a function
under_second : {A B C D : Type 0} (k : C → D) (h : A → C) (l : B → D) (c : Class) (f : Reader A) (g : Reader B) (end : ℕ) (bytes : List ℕ)
    → ((rest : List ℕ) → under (λ a. k (h a)) (f end rest) ≡ under l (g end rest))
    → under k (made_at {A = ℕ × A} (λ v. h v.1) (then_at (one_at c) f) end bytes) ≡ made_at {A = ℕ × B} (λ v. l v.1) (then_at (one_at c) g) end bytes
under_second k h l c f g end [] same = refl
under_second {A} {B} k h l c f g end (b ∷ bytes) same = chosen (has c b)
  where
    go : (x : Read A) (y : Read B) → under (λ a. k (h a)) x ≡ under l y
        → under k (under {A = ℕ × A} (λ v. h v.1) (under (λ a. (b, a)) x)) ≡ under {A = ℕ × B} (λ v. l v.1) (under (λ a. (b, a)) y)
    go (Ok v) (Ok w) e = e
    go (Ok v) (Err n) e = e
    go (Err m) (Ok w) e = e
    go (Err m) (Err n) e = e

    chosen : (t : Bool) → under k (under {A = ℕ × A} (λ v. h v.1) (byte_if t b bytes >>= λ x. under (λ y. (x.0, y)) (f end x.1)))
        ≡ under {A = ℕ × B} (λ v. l v.1) (byte_if t b bytes >>= λ x. under (λ y. (x.0, y)) (g end x.1))
    chosen true = go (f end bytes) (g end bytes) (same bytes)
    chosen false = refl

arrows_is : (down : Bool) (b end : ℕ) (bytes : List ℕ)
    → under ups_tree (arrows_at down b end bytes) ≡ made_at (λ v. ups down v.1) (then_at (one_at (only b)) (plain_count_at b)) end bytes
unfolding arrows_at
arrows_is down b end bytes =
    under_second ups_tree (λ v. record { down = down; count = v.0; is_run = v.1 }) (ups down) (only b) (count_at b) (plain_count_at b) end bytes
    (λ rest. sym (under_twice (ups down) (λ v. v.0) (count_at b end rest)) ∙ ap (under (ups down)) (count_is b end rest))

pub ups_is : (end : ℕ) (bytes : List ℕ) → under ups_tree (ups_at end bytes) ≡ ups_tree_at end bytes
unfolding ups_at ups_tree_at
ups_is end [] = arrows_is true 118 end []
ups_is end (c ∷ bytes) =
    chosen_same (under ups_tree) (has (only 94) c) (arrows_at false 94 end (c ∷ bytes)) (arrows_at true 118 end (c ∷ bytes)) _ _
    (arrows_is false 94 end (c ∷ bytes)) (arrows_is true 118 end (c ∷ bytes))

-- a reader of specials, and the same with what they end in
module _ (s : Reader Found) (w : Reader (Found × Last)) (bare : (end : ℕ) (bytes : List ℕ) → under (λ v. v.0) (w end bytes) ≡ s end bytes) where
  clean_ups : (end : ℕ) (bytes : List ℕ)
      → under {A = Found × Last} (λ v. v.0) (under (λ a. (clean (ups_tree a), In_arrows a)) (ups_at end bytes)) ≡ under clean (ups_tree_at end bytes)
  clean_ups end bytes =
      under_twice {B = Found × Last} (λ v. v.0) (λ a. (clean (ups_tree a), In_arrows a)) (ups_at end bytes)
      ∙ sym (under_twice clean ups_tree (ups_at end bytes)) ∙ ap (under clean) (ups_is end bytes)

  primary_is : (end : ℕ) (bytes : List ℕ) → under (λ v. v.0) (primary_at w end bytes) ≡ plain_primary_at s end bytes
  unfolding primary_at plain_primary_at
  primary_is end [] = bare end []
  primary_is end (c ∷ bytes) =
      chosen_same (under (λ v. v.0)) (has arrow c) (under (λ a. (clean (ups_tree a), In_arrows a)) (ups_at end (c ∷ bytes))) _ _ _ (clean_ups end (c ∷ bytes))
      (chosen_same (under (λ v. v.0)) (has star c) (under (λ t. (clean t, In_none)) (nim_at end (c ∷ bytes))) (w end (c ∷ bytes)) _ _
      (under_twice {B = Found × Last} (λ v. v.0) (λ t. (clean t, In_none)) (nim_at end (c ∷ bytes))) (bare end (c ∷ bytes)))

  -- a number or a multiple, from its digits and what stands behind them
  abbrev counted_by : Bool → ℕ → Behind → Found
  counted_by negative n b = counted_of negative (counted_from (n, b))

  times_is : (negative : Bool) (n end : ℕ) (bytes : List ℕ)
      → under (counted_by negative n) (made_at (λ v. Times v.1.0 v.1.1) (then_at (one_at (only 46)) (primary_at w)) end bytes)
      ≡ made_at (λ v. times_of negative n v.1) (then_at (one_at (only 46)) (plain_primary_at s)) end bytes
  times_is negative n end bytes =
      under_second (counted_by negative n) (λ v. Times v.0 v.1) (times_of negative n) (only 46) (primary_at w) (plain_primary_at s) end bytes
      (λ rest. sym (under_twice (times_of negative n) (λ v. v.0) (primary_at w end rest)) ∙ ap (under (times_of negative n)) (primary_is end rest))

  behind_is : (negative : Bool) (n end : ℕ) (bytes : List ℕ) → under (counted_by negative n) (behind_at w end bytes) ≡ behind_number_at s negative n end bytes
  unfolding behind_at behind_number_at times_at
  behind_is negative n end [] = refl
  behind_is negative n end (c ∷ bytes) =
      let over = then_at (one_at (only 47)) digits_at end (c ∷ bytes) in
      let times = made_at (λ v. Times v.1.0 v.1.1) (then_at (one_at (only 46)) (primary_at w)) end (c ∷ bytes) in
      chosen_same (under (counted_by negative n)) (has (only 47) c) (under (λ v. Over v.1) over) _ _ _ (under_twice (counted_by negative n) (λ v. Over v.1) over)
      (chosen_same (under (counted_by negative n)) (has (only 46) c) times (Ok (Over 1, c ∷ bytes)) _ _ (times_is negative n end (c ∷ bytes)) refl)

  abbrev Tail : Type 0
  Tail = Option Tree × Option Tree

  -- an operand by what it is made of, and what stands together with it
  abbrev tailed : {A : Type 0} → (A → Found) → Read (A × Tail) → Read Found
  tailed h x = under (λ v. with_tail (h v.0) v.1) x

  tail_go : {A : Type 0} (h : A → Found) (a : A) (x : Read Tail) → tailed h (under (λ w. (a, w)) x) ≡ tailed (λ b. b) (under (λ w. (h a, w)) x)
  tail_go h a (Ok w) = refl
  tail_go h a (Err m) = refl

  abbrev long : Bool → ℕ → ℕ → Read Behind → Read Found
  long negative n end x = tailed (λ b. counted_of negative (counted_from b)) (under {B = ℕ × Behind} (λ w. (n, w)) x >>= λ z. under (λ w. (z.0, w)) (tail_at end z.1))

  abbrev short : ℕ → Read Found → Read Found
  short end x = tailed (λ b. b) (x >>= λ z. under (λ w. (z.0, w)) (tail_at end z.1))

  behind_go : (negative : Bool) (n end : ℕ) (x : Read Behind) (y : Read Found) → under (counted_by negative n) x ≡ y
      → long negative n end x ≡ short end y
  behind_go negative n end (Ok v) y e = tail_go (λ b. counted_of negative (counted_from b)) (n, v.0) (tail_at end v.1) ∙ ap (short end) e
  behind_go negative n end (Err m) y e = ap (short end) e

  digits_go : (negative : Bool) (end : ℕ) (x : Read ℕ)
      → tailed (λ b. counted_of negative (counted_from b)) ((x >>= λ a. under (λ w. (a.0, w)) (behind_at w end a.1)) >>= λ z. under (λ w. (z.0, w)) (tail_at end z.1))
      ≡ short end (x >>= λ a. behind_number_at s negative a.0 end a.1)
  digits_go negative end (Ok v) = behind_go negative v.0 end (behind_at w end v.1) (behind_number_at s negative v.0 end v.1) (behind_is negative v.0 end v.1)
  digits_go negative end (Err m) = refl

  pub counted_term_is : (negative : Bool) (end : ℕ) (bytes : List ℕ) → counted_term_at w negative end bytes ≡ plain_counted_term_at s negative end bytes
  unfolding counted_term_at plain_counted_term_at counted_at number_or_multiple_at
  counted_term_is negative end bytes = digits_go negative end (digits_at end bytes)

  -- a special with what stands together behind it
  special_go : (end : ℕ) (x : Read (Found × Last)) (y : Read Found) → under (λ v. v.0) x ≡ y
      → tailed (λ v. v.0) (x >>= λ z. under (λ u. (z.0, u)) (tail_at end z.1)) ≡ short end y
  special_go end (Ok v) y e = tail_go (λ v. v.0) v.0 (tail_at end v.1) ∙ ap (short end) e
  special_go end (Err n) y e = ap (short end) e

  pub whole_term_is : (end : ℕ) (bytes : List ℕ) → whole_term_at w end bytes ≡ special_term_at s end bytes
  unfolding whole_term_at special_term_at
  whole_term_is end bytes = special_go end (w end bytes) (s end bytes) (bare end bytes)

-- ---- specials

under_none : (x : Read Found) → under {A = Found × Last} (λ v. v.0) (under (λ e. (e, In_none)) x) ≡ x
under_none (Ok v) = refl
under_none (Err n) = refl

use_is : (end : ℕ) (bytes : List ℕ) → under {A = Found × Last} (λ v. v.0) (whole_use_at end bytes) ≡ use_at end bytes
unfolding whole_use_at use_at
use_is end bytes = under_twice {B = Found × Last} (λ v. v.0) (λ v. (clean (used v.1 v.0), In_name v.1)) (placed_at name_at end bytes)

pub whole_special_is : (format : Format) (k end : ℕ) (bytes : List ℕ) → under (λ v. v.0) (whole_special_at format k end bytes) ≡ special_at format k end bytes
unfolding whole_special_at special_at
whole_special_is formats.One k end bytes = under_none (bare_special_at formats.One k end bytes)
whole_special_is formats.Two k end [] = under_none (bare_special_at formats.Two k end [])
whole_special_is formats.Two k end (c ∷ bytes) =
    chosen_same (under (λ v. v.0)) (has letter c) (whole_use_at end (c ∷ bytes)) (under (λ e. (e, In_none)) (bare_special_at formats.Two k end (c ∷ bytes))) _ _
    (use_is end (c ∷ bytes)) (under_none (bare_special_at formats.Two k end (c ∷ bytes)))
