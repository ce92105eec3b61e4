-- What keys tell of two cuts, and of the order of two games.
use Rattle.std.proofs.Common.{◌≡◌, refl, ap, sym, ◌∙◌, arith, ◌^◌, ◌<◌, Bool, true, false, not, ◌||◌, IsTrue, ℤ, ◌≤ℤ◌, ◌<ℤ◌, unsigned_abs}
use Rattle.std.proofs.Math.Bool.{or-true}
use Rattle.std.proofs.lemmas.Int.{ints}
use mir.Syntax.{w128}
use mir.Val.{to_z, of_z}
use lib.Signed.{lt_z}
use Rattle.cg_dyadic.specs.Cut.{in_cut, within_cut}
use Rattle.cg_dyadic.specs.declared.cut.Cut.{Cut}
use Rattle.cg_dyadic.specs.Number.{InRange, Number, number_le}
use Rattle.cg_dyadic.specs.Units.{units}
use Rattle.cg_dyadic.specs.Wide.{places}
use Rattle.cg_dyadic.proofs.Integers.{from_lt_z, not_lt_z}
use Rattle.cg_dyadic.proofs.Scale.{le-units, units-le}
use Rattle.cg_dyadic.proofs.Truth.{false-from}
use Rattle.cg_dyadic.proofs.Wides.{places-enough, units-in_range, wide_word}
use Rattle.cg_form.specs.Cut.{AnyNumber, CutIs, covers, covers_at}
use Rattle.cg_form.specs.Game.{Game}
use Rattle.cg_form.specs.Order.{le}
use Rattle.cg_form.proofs.Cut.{joined_kept}
use Rattle.cg_arena.specs.declared.keys.Keys.{Keys}
use Rattle.cg_arena.specs.Keys.{HasKeys, key_of}
use Rattle.cg_arena.specs.Decided.{GoesPast, Meet, NoFurther}
use Rattle.cg_arena.proofs.Deciding.{above_first, above_second, between, meet_between, meet_high, meet_low, past_closed, past_open}

-- ---- numbers by their units

is_le : (x y : Number) → InRange x → InRange y → units places x ≤ℤ units places y → number_le x y ≡ true
is_le x y r q h = units-le places x y (places-enough x r) (places-enough y q) h

not_le : (x y : Number) → InRange x → InRange y → units places y <ℤ units places x → number_le x y ≡ false
not_le x y r q h = false-from (number_le x y) (λ l.
    let u = le-units places x y (places-enough x r) (places-enough y q) l in
    absurd (omega (arith, ints)))

-- ---- the numbers up to some one

past_low_closed : (x y : Number) (d : Bool) → InRange x → InRange y → key_of y d <ℤ key_of x true
    → IsTrue (not (within_cut true y d x))
past_low_closed x y true r q h = ap not (not_le x y r q (omega (arith, ints)))
past_low_closed x y false r q h = ap (λ z. not (not z)) (is_le y x q r (omega (arith, ints)))

past_low_open : (x y : Number) (d : Bool) → InRange x → InRange y → key_of y d <ℤ key_of x false
    → IsTrue (not (number_le x y))
past_low_open x y true r q h = ap not (not_le x y r q (omega (arith, ints)))
past_low_open x y false r q h = ap not (not_le x y r q (omega (arith, ints)))

pub past_low : (a b : Cut) (c : Bool) → a.closed ≡ c → InRange a.at → InRange b.at → key_of b.at b.closed <ℤ key_of a.at c
    → GoesPast true a b
past_low a b true e r q h = past_closed true a b e (past_low_closed a.at b.at b.closed r q h)
past_low a b false e r q h =
    past_open true a b (record { at = b.at; closed = true }) refl refl e (past_low_open a.at b.at b.closed r q h)

-- ---- the numbers from some one on

past_high_closed : (x y : Number) (d : Bool) → InRange x → InRange y → key_of x false <ℤ key_of y (not d)
    → IsTrue (not (within_cut false y d x))
past_high_closed x y true r q h = ap not (not_le y x q r (omega (arith, ints)))
past_high_closed x y false r q h = ap (λ z. not (not z)) (is_le x y r q (omega (arith, ints)))

past_high_open : (x y : Number) (d : Bool) → InRange x → InRange y → key_of x true <ℤ key_of y (not d)
    → IsTrue (not (number_le y x))
past_high_open x y true r q h = ap not (not_le y x q r (omega (arith, ints)))
past_high_open x y false r q h = ap not (not_le y x q r (omega (arith, ints)))

pub past_high : (a b : Cut) (c : Bool) → a.closed ≡ c → InRange a.at → InRange b.at
    → key_of a.at (not c) <ℤ key_of b.at (not b.closed) → GoesPast false a b
past_high a b true e r q h = past_closed false a b e (past_high_closed a.at b.at b.closed r q h)
past_high a b false e r q h =
    past_open false a b (record { at = b.at; closed = true }) refl refl e (past_high_open a.at b.at b.closed r q h)

-- ---- numbers in both

meets_closed : (x y : Number) (d : Bool) → InRange x → InRange y → key_of x false <ℤ key_of y d → IsTrue (within_cut true y d x)
meets_closed x y true r q h = is_le x y r q (omega (arith, ints))
meets_closed x y false r q h = ap not (not_le y x q r (omega (arith, ints)))

pub meet : (high low : Cut) (c d : Bool) → high.closed ≡ c → low.closed ≡ d → InRange high.at → InRange low.at
    → key_of high.at (not c) <ℤ key_of low.at d → Meet high low
meet high low true d e f r q h =
    meet_high high low e (rw f (meets_closed high.at low.at d r q h))
meet high low false true e f r q h =
    meet_low high low f (rw e (ap not (not_le low.at high.at q r (omega (arith, ints)))))
meet high low false false e f r q h =
    meet_between high low (record { at = high.at; closed = true }) refl refl e f
    (ap not (not_le low.at high.at q r (omega (arith, ints))))

-- ---- words of 128 bits

-- the number that the word for a number stands for
abbrev pub as_word : ℤ → ℤ
as_word m = to_z w128 (of_z w128 m)

key_small : (x : Number) (b : Bool) → InRange x → unsigned_abs (key_of x b) < 2 ^ 126
key_small x true r = let u = units-in_range x r in omega (arith, ints)
key_small x false r = let u = units-in_range x r in omega (arith, ints)

pub low_small : (a : Keys) (g : Game) → HasKeys g a → unsigned_abs a.low < 2 ^ 126
low_small a g p =
    rw p.keys.low (key_small p.summary.low.at p.summary.low.closed p.keys.low_in_range)

pub high_small : (a : Keys) (g : Game) → HasKeys g a → unsigned_abs a.high < 2 ^ 126
high_small a g p =
    rw p.keys.high (key_small p.summary.high.at (not p.summary.high.closed) p.keys.high_in_range)

compared_as_words : (m n : ℤ) → unsigned_abs m < 2 ^ 126 → unsigned_abs n < 2 ^ 126 → lt_z m n ≡ lt_z (as_word m) (as_word n)
compared_as_words m n e f = ap (λ z. lt_z z n) (sym (wide_word m e)) ∙ ap (lt_z (as_word m)) (sym (wide_word n f))

abbrev pub IsLess : ℤ → ℤ → Type 0
IsLess m n = lt_z (as_word m) (as_word n) ≡ true

abbrev pub IsNotLess : ℤ → ℤ → Type 0
IsNotLess m n = lt_z (as_word m) (as_word n) ≡ false

pub is_less : (m n : ℤ) → unsigned_abs m < 2 ^ 126 → unsigned_abs n < 2 ^ 126 → IsLess m n → m <ℤ n
is_less m n e f h = from_lt_z m n (compared_as_words m n e f ∙ h)

is_at_most : (m n : ℤ) → unsigned_abs m < 2 ^ 126 → unsigned_abs n < 2 ^ 126 → IsLess m n → m ≤ℤ n
is_at_most m n e f h = let l = is_less m n e f h in omega (arith, ints)

is_at_least : (m n : ℤ) → unsigned_abs m < 2 ^ 126 → unsigned_abs n < 2 ^ 126 → IsNotLess m n → n ≤ℤ m
is_at_least m n e f h = not_lt_z m n (compared_as_words m n e f ∙ h)

at_keys : (m n k l : ℤ) → m ≡ k → n ≡ l → m <ℤ n → k <ℤ l
at_keys m n k l e f h =
    rw (← e) (rw (← f) h)

-- ---- two games

pub below_low : (a b : Keys) (g h : Game) → HasKeys g a → HasKeys h b → b.low <ℤ a.low → le g h ≡ false
below_low a b g h p q l =
    above_first p.summary q.summary g h p.cuts q.cuts
    (past_low p.summary.low q.summary.low p.summary.low.closed refl p.keys.low_in_range q.keys.low_in_range
    (at_keys b.low a.low _ _ q.keys.low p.keys.low l))

pub below_high : (a b : Keys) (g h : Game) → HasKeys g a → HasKeys h b → b.high <ℤ a.high → le g h ≡ false
below_high a b g h p q l =
    above_second p.summary q.summary g h p.cuts q.cuts
    (past_high q.summary.high p.summary.high q.summary.high.closed refl q.keys.high_in_range p.keys.high_in_range
    (at_keys b.high a.high _ _ q.keys.high p.keys.high l))

pub decided_low : (a b : Keys) (g h : Game) → HasKeys g a → HasKeys h b → IsLess b.low a.low → false ≡ le g h
decided_low a b g h p q l = sym (below_low a b g h p q (is_less b.low a.low (low_small b h q) (low_small a g p) l))

pub decided_high : (a b : Keys) (g h : Game) → HasKeys g a → HasKeys h b → IsLess b.high a.high → false ≡ le g h
decided_high a b g h p q l = sym (below_high a b g h p q (is_less b.high a.high (high_small b h q) (high_small a g p) l))

pub decided_between : (a b : Keys) (g h : Game) → HasKeys g a → HasKeys h b → IsLess a.high b.low → true ≡ le g h
decided_between a b g h p q l =
    between p.summary q.summary g h p.cuts q.cuts
    (meet p.summary.high q.summary.low p.summary.high.closed q.summary.low.closed refl refl p.keys.high_in_range q.keys.low_in_range
    (at_keys a.high b.low _ _ p.keys.high q.keys.low (is_less a.high b.low (high_small a g p) (low_small b h q) l)))

-- ---- a game that reaches no further than another

covers_low : (x y : Number) (c d : Bool) → InRange x → InRange y → key_of y d ≤ℤ key_of x c → IsTrue (covers_at true x c y d)
covers_low x y true true r q h = is_le y x q r (omega (arith, ints))
covers_low x y false true r q h = ap not (not_le x y r q (omega (arith, ints)))
covers_low x y true false r q h = is_le y x q r (omega (arith, ints))
covers_low x y false false r q h = is_le y x q r (omega (arith, ints))

covers_high : (x y : Number) (c d : Bool) → InRange x → InRange y → key_of x (not c) ≤ℤ key_of y (not d)
    → IsTrue (covers_at false x c y d)
covers_high x y true true r q h = is_le x y r q (omega (arith, ints))
covers_high x y false true r q h = ap not (not_le y x q r (omega (arith, ints)))
covers_high x y true false r q h = is_le x y r q (omega (arith, ints))
covers_high x y false false r q h = is_le x y r q (omega (arith, ints))

no_further : (s : Bool) (a b : Cut) (g h : Game) → CutIs AnyNumber s a g → CutIs AnyNumber s b h → IsTrue (covers s b a)
    → NoFurther s g h
no_further s a b g h p q k = λ x l.
    q.tells x tt ∙ (joined_kept s b a k).both x ∙ ap (λ z. in_cut s b x || z) (sym (p.tells x tt) ∙ l) ∙ or-true (in_cut s b x)

no_further_low : (a b : Keys) (g h : Game) → HasKeys g a → HasKeys h b → a.low ≤ℤ b.low → NoFurther true g h
no_further_low a b g h p q l =
    no_further true p.summary.low q.summary.low g h p.cuts.low q.cuts.low
    (covers_low q.summary.low.at p.summary.low.at q.summary.low.closed p.summary.low.closed q.keys.low_in_range p.keys.low_in_range
    (rw (← p.keys.low) (rw (← q.keys.low) l)))

no_further_high : (a b : Keys) (g h : Game) → HasKeys g a → HasKeys h b → b.high ≤ℤ a.high → NoFurther false g h
no_further_high a b g h p q l =
    no_further false p.summary.high q.summary.high g h p.cuts.high q.cuts.high
    (covers_high q.summary.high.at p.summary.high.at q.summary.high.closed p.summary.high.closed q.keys.high_in_range p.keys.high_in_range
    (rw (← q.keys.high) (rw (← p.keys.high) l)))

pub less_low : (s : Bool) (a b : Keys) (g h : Game) → s ≡ true → HasKeys g a → HasKeys h b → IsLess a.low b.low
    → NoFurther s g h
less_low true a b g h e p q l = no_further_low a b g h p q (is_at_most a.low b.low (low_small a g p) (low_small b h q) l)
less_low false a b g h e p q l = absurd (cc)

pub not_less_low : (s : Bool) (a b : Keys) (g h : Game) → s ≡ true → HasKeys g a → HasKeys h b → IsNotLess b.low a.low
    → NoFurther s g h
not_less_low true a b g h e p q l = no_further_low a b g h p q (is_at_least b.low a.low (low_small b h q) (low_small a g p) l)
not_less_low false a b g h e p q l = absurd (cc)

pub less_high : (s : Bool) (a b : Keys) (g h : Game) → s ≡ false → HasKeys g a → HasKeys h b → IsLess b.high a.high
    → NoFurther s g h
less_high false a b g h e p q l = no_further_high a b g h p q (is_at_most b.high a.high (high_small b h q) (high_small a g p) l)
less_high true a b g h e p q l = absurd (cc)

pub not_less_high : (s : Bool) (a b : Keys) (g h : Game) → s ≡ false → HasKeys g a → HasKeys h b → IsNotLess a.high b.high
    → NoFurther s g h
not_less_high false a b g h e p q l = no_further_high a b g h p q (is_at_least a.high b.high (high_small a g p) (high_small b h q) l)
not_less_high true a b g h e p q l = absurd (cc)
