-- The cuts of a game from the cuts of its options, among the numbers of a kind that has their options too.
use Rattle.std.proofs.Common.{◌≡◌, refl, ap, sym, ◌∙◌, Bool, true, false, not, ◌&&◌, ◌||◌, cond, IsTrue}
use Rattle.std.specs.Prelude.{Option, Some}
use Rattle.cg_dyadic.specs.declared.cut.Cut.{Cut}
use Rattle.cg_dyadic.specs.Cut.{in_cut, in_gap, in_some, number_at_most, within_cut}
use Rattle.cg_dyadic.specs.Number.{AmongNumbers, InRange, Number, number_le, number_lefts, number_rights}
use Rattle.cg_dyadic.specs.Simplest.{NoOptionPasses}
use Rattle.cg_dyadic.proofs.Truth.{and-both, and-split, differ, false-from, not_not, not_true, true_not}
use Rattle.cg_dyadic.proofs.Weight.{in_range-lefts, in_range-rights}
use Rattle.cg_form.specs.Cut.{AnyNumber, CutIs, CutOf, Joined, Turned, covers, covers_at}
use Rattle.cg_form.specs.Game.{Among, Game, lefts, number, rights}
use Rattle.cg_form.specs.Order.{Equal, le}
use Rattle.cg_form.specs.Side.{AtMost, at_most, far}
use Rattle.cg_form.specs.Simple.{FitsIn}
use Rattle.cg_form.proofs.Order.{no_one-all, no_one-each}
use Rattle.cg_form.proofs.Sides.{number_side-less, number_side-trans, numbers-side, side-numbers, side_equal, side_trans, side_turned, side_unfold}
use Rattle.cg_form.proofs.Simplicity.{le-number, number-le, simplest-equal}

pub same_when : (b c : Bool) → (IsTrue b → IsTrue c) → (IsTrue c → IsTrue b) → b ≡ c
same_when true c p q = sym (p refl)
same_when false true p q = q refl
same_when false false p q = refl

-- the options of a number with P have P
pub record Closed (P : Number → Type 0) : Type 0 where
  pub on_lefts : (x y : Number) → P x → AmongNumbers y (number_lefts x) → P y
  pub on_rights : (x y : Number) → P x → AmongNumbers y (number_rights x) → P y

pub in_range-closed : Closed InRange
in_range-closed = record { on_lefts = in_range-lefts; on_rights = in_range-rights }

pub any-closed : Closed AnyNumber
any-closed = record { on_lefts = λ x y p m. tt; on_rights = λ x y p m. tt }

-- ---- the gap between two cuts

-- what lies in the gap fits, and the other way round
pub gap-fits : (P : Number → Type 0) (g : Game) (o q : Option Cut) → CutOf P true o (lefts g)
    → CutOf P false q (rights g) →
    (x : Number) → P x → IsTrue (in_gap o q x) → FitsIn x g
gap-fits P g o q low high x r h =
    let s = and-split (not (in_some true o x)) (not (in_some false q x)) h in
    record {
      above = λ a m k. differ (le (number x) a) k
          (no_one-each (λ a. le (number x) a) (lefts g) (low.tells x r ∙ s.0) a m);
      below = λ b m k. differ (le b (number x)) k
          (no_one-each (λ b. le b (number x)) (rights g) (high.tells x r ∙ s.1) b m);
    }

pub fits-gap : (P : Number → Type 0) (g : Game) (o q : Option Cut) → CutOf P true o (lefts g)
    → CutOf P false q (rights g) →
    (x : Number) → P x → FitsIn x g → IsTrue (in_gap o q x)
fits-gap P g o q low high x r f =
    and-both (not (in_some true o x)) (not (in_some false q x))
    (sym (low.tells x r)
    ∙ no_one-all (λ a. le (number x) a) (lefts g) (λ a m. false-from (le (number x) a) (f.above a m)))
    (sym (high.tells x r)
    ∙ no_one-all (λ b. le b (number x)) (rights g) (λ b m. false-from (le b (number x)) (f.below b m)))

-- the number of the gap none of whose options is there is the value
pub gap-equal : (P : Number → Type 0) → Closed P → (g : Game) (o q : Option Cut) → CutOf P true o (lefts g)
    → CutOf P false q (rights g) →
    (x : Number) → P x → NoOptionPasses (in_gap o q) x → Equal (number x) g
gap-equal P v g o q low high x r s = simplest-equal x g (record {
  fits = gap-fits P g o q low high x r s.passes;
  left_misses = λ y m f. differ (in_gap o q y) (fits-gap P g o q low high y (v.on_lefts x y r m) f) (s.no_left y m);
  right_misses = λ y m f. differ (in_gap o q y) (fits-gap P g o q low high y (v.on_rights x y r m) f) (s.no_right y m);
})

-- where no number lies in the gap, none fits
pub gap-misses : (P : Number → Type 0) (g : Game) (o q : Option Cut) → CutOf P true o (lefts g)
    → CutOf P false q (rights g) →
    ((x : Number) → P x → in_gap o q x ≡ false) → (x : Number) → P x → ¬ FitsIn x g
gap-misses P g o q low high never x r f = differ (in_gap o q x) (fits-gap P g o q low high x r f) (never x r)

-- ---- the cut of a game

-- a game that equals a number has the closed cut at it
pub cut-number : (P : Number → Type 0) (s : Bool) (c : Cut) (x : Number) (g : Game) → c.at ≡ x → c.closed ≡ true
    → Equal (number x) g → CutIs P s c g
cut-number P s c x g at shut e = record {
  tells = λ y r.
      same_when (at_most s (number y) g) (number_at_most s y x)
      (λ k. numbers-side s y x (side_trans s (number y) g (number x) k (side_equal s g (number x) (e.1, e.0))))
      (λ k. side_trans s (number y) (number x) g (side-numbers s y x k) (side_equal s (number x) g e))
      ∙ ap (λ z. within_cut s z true y) (sym at) ∙ ap (λ b. within_cut s c.at b y) (sym shut);
}

within-turned : (s : Bool) (p : Number) (c : Bool) (x : Number)
    → within_cut s p (not c) x ≡ not (within_cut (not s) p c x)
within-turned true p true x = refl
within-turned true p false x = sym (not_not (number_le x p))
within-turned false p true x = refl
within-turned false p false x = sym (not_not (number_le p x))

-- a number none of whose own options fits is compared with the other side's options alone
number_at_most-game : (s : Bool) (x : Number) (g : Game)
    → ((y : Number) → AmongNumbers y (cond s (number_lefts x) (number_rights x)) → ¬ FitsIn y g)
    → ((b : Game) → Among b (far s g) → ¬ AtMost s b (number x)) → AtMost s (number x) g
number_at_most-game true x g f h = number-le x g f h
number_at_most-game false x g f h = le-number g x f h

closed-near : (P : Number → Type 0) → Closed P → (s : Bool) (x y : Number) → P x
    → AmongNumbers y (cond s (number_lefts x) (number_rights x)) → P y
closed-near P v true x y r m = v.on_lefts x y r m
closed-near P v false x y r m = v.on_rights x y r m

-- where no number fits, the cut of the other side's options, turned, is the game's
pub cut-turned : (P : Number → Type 0) → Closed P → (s : Bool) (g : Game) (d c : Cut)
    → ((x : Number) → P x → ¬ FitsIn x g) → CutOf P (not s) (Some d) (far s g) → Turned d c → CutIs P s c g
cut-turned P v s g d c misses h t = record {
  tells = λ x r.
      same_when (at_most s (number x) g) (not (in_cut (not s) d x))
      (λ k. sym (h.tells x r) ∙ no_one-all (λ b. at_most (not s) (number x) b) (far s g)
      (λ b m. side_turned s (number x) b
      ∙ false-from (at_most s b (number x)) ((side_unfold s (number x) g k).on_far b m)))
      (λ k. number_at_most-game s x g (λ y m. misses y (closed-near P v s x y r m))
      (λ b m l. differ (at_most s b (number x)) l (sym (side_turned s (number x) b)
      ∙ no_one-each (λ b. at_most (not s) (number x) b) (far s g) (h.tells x r ∙ k) b m)))
      ∙ sym (within-turned s d.at d.closed x)
      ∙ ap (λ z. within_cut s z (not d.closed) x) (sym t.at_same) ∙ ap (λ b. within_cut s c.at b x) (sym t.closed_not);
}

-- ---- two cuts together

or-left : (b c : Bool) → (IsTrue c → IsTrue b) → b ≡ (b || c)
or-left true c h = refl
or-left false true h = h refl
or-left false false h = refl

or-right : (b c : Bool) → (IsTrue b → IsTrue c) → c ≡ (b || c)
or-right true c h = h refl
or-right false c h = refl

not_false : (b : Bool) → not b ≡ false → IsTrue b
not_false true h = refl
not_false false h = sym h

covers-within : (s : Bool) (p : Number) (c : Bool) (q : Number) (d : Bool) (x : Number)
    → IsTrue (covers_at s p c q d) → IsTrue (within_cut s q d x) → IsTrue (within_cut s p c x)
covers-within s p true q true x h k = number_side-trans s x q p k h
covers-within s p false q true x h k =
    true_not (number_at_most s p x) (λ l. not_true (number_at_most s p q) h (number_side-trans s p x q l k))
covers-within s p true q false x h k =
    number_side-trans s x q p (number_side-less s q x (not_true (number_at_most s q x) k)) h
covers-within s p false q false x h k =
    true_not (number_at_most s p x) (λ l. not_true (number_at_most s q x) k (number_side-trans s q p x h l))

uncovered-within : (s : Bool) (p : Number) (c : Bool) (q : Number) (d : Bool) (x : Number)
    → covers_at s p c q d ≡ false → IsTrue (within_cut s p c x) → IsTrue (within_cut s q d x)
uncovered-within s p true q true x h k =
    number_side-trans s x p q k (number_side-less s q p (λ l. differ (number_at_most s q p) l h))
uncovered-within s p false q true x h k =
    number_side-less s q x (λ l. not_true (number_at_most s p x) k
    (number_side-trans s p q x (not_false (number_at_most s p q) h) l))
uncovered-within s p true q false x h k =
    true_not (number_at_most s q x) (λ l. differ (number_at_most s q p) (number_side-trans s q x p l k) h)
uncovered-within s p false q false x h k =
    true_not (number_at_most s q x) (λ l. not_true (number_at_most s p x) k
    (number_side-trans s p q x (number_side-less s q p (λ m. differ (number_at_most s q p) m h)) l))

pub joined_kept : (s : Bool) (a b : Cut) → IsTrue (covers s a b) → Joined s (Some a) b a
joined_kept s a b h =
    record { both = λ x. or-left (in_cut s a x) (in_cut s b x) (covers-within s a.at a.closed b.at b.closed x h) }

pub joined_taken : (s : Bool) (a b : Cut) → covers s a b ≡ false → Joined s (Some a) b b
joined_taken s a b h =
    record { both = λ x. or-right (in_cut s a x) (in_cut s b x) (uncovered-within s a.at a.closed b.at b.closed x h) }

-- for the code: the cut so far is a, and t tells whether it covers b
pub joined_first : (s : Bool) (o : Option Cut) (a b : Cut) (t : Bool) → o ≡ Some a → t ≡ covers s a b → t ≡ true
    → Joined s o b a
joined_first s o a b t e f h = rw e (joined_kept s a b (sym f ∙ h))

pub joined_second : (s : Bool) (o : Option Cut) (a b : Cut) (t : Bool) → o ≡ Some a → t ≡ covers s a b → t ≡ false
    → Joined s o b b
joined_second s o a b t e f h = rw e (joined_taken s a b (sym f ∙ h))

nor : (b c : Bool) → (not b && not c) ≡ not (b || c)
nor true c = refl
nor false c = refl

-- the test of one more game
pub joined_more : (s : Bool) (x : Number) (o : Option Cut) (c r : Cut) (t u : Bool) → t ≡ not (in_some s o x)
    → u ≡ in_cut s c x → Joined s o c r → (t && not u) ≡ not (in_cut s r x)
joined_more s x o c r t u e f j =
    ap (λ b. b && not u) e ∙ ap (λ b. not (in_some s o x) && not b) f ∙ nor (in_some s o x) (in_cut s c x)
    ∙ ap not (sym (j.both x))
