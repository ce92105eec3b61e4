-- Names as terms of the grammar, and what they mean: switches, tiny and miny, and any named form.
use Rattle.std.proofs.Common.{◌≡◌, refl, ap, sym, ◌∙◌, ℕ, ◌-◌, ◌^◌, arith, [], ◌∷◌, ◌++◌, Bool, true, false, cond, nat_eq, ℤ, pos, negsuc, unsigned_abs}
use Rattle.std.specs.Prelude.{codes, decimal, if◌then◌else◌}
use Rattle.std.specs.Fmt.{signed_decimal}
use Rattle.std.proofs.lemmas.Int.{ints}
use Rattle.cg_dyadic.specs.Exact.{number_text}
use Rattle.cg_dyadic.specs.Number.{InRange, Number, NumberLe, exp_of, num_of}
use Rattle.cg_dyadic.specs.Units.{units}
use Rattle.cg_dyadic.proofs.Scale.{units-le, units-own}
use Rattle.cg_dyadic.proofs.Sums.{doubled-zero}
use Rattle.cg_form.specs.Game.{Game}
use Rattle.cg_form.proofs.Preorder.{equal_refl}
use Rattle.cg_query.specs.declared.format.Format.TheVariants as formats
use Rattle.cg_grammar.specs.Grammar as grammar
use Rattle.cg_grammar.specs.Grammar.{special}
use Rattle.cg_query.specs.Tree.{switch, tiny}
use Rattle.cg_grammar.proofs.WrittenSpecials.{switch_special, tiny_special}
use Rattle.cg_grammar.proofs.WrittenTerms.{special_is}
use Rattle.cg_grammar.specs.Values.{In_none, clean}
use Rattle.cg_names.specs.Meaning.{fraction, meaning, or_zero}
use Rattle.cg_names.specs.Named.{switch_form, tiny_form, zero_number}
use Rattle.cg_names.specs.NamedForms.{Fits, named_text, tiny_word}
use Rattle.cg_names.specs.declared.named_form.NamedForm.{NamedForm}
use Rattle.cg_names.specs.declared.named_form.NamedForm.TheVariants.{Star, Arrows, Switch, Tiny}
use Rattle.cg_names.specs.Reading.{IsNamedInRange}
use Rattle.cg_names.proofs.Tokens.{OtherThanBar, number_is, size_text}
use Rattle.cg_names.proofs.StarTerms.{arrows-read, star-reads}
use Rattle.cg_names.proofs.Terms.{few_below, few_digits, number_means, size_of, Reading}

-- ---- switches, tiny and miny

-- a number above 0 has no named form
above_size : (x : Number) → ¬ NumberLe x zero_number → num_of x ≡ pos (size_of x)
above_size x p = by (num_of x) refl
  where
    by : (n : ℤ) → num_of x ≡ n → num_of x ≡ pos (size_of x)
    by (pos n) e = e ∙ ap (λ (m : ℕ). pos m) (sym (ap unsigned_abs e))
    by (negsuc n) e =
        let own = units-own x in
        let nothing : units (exp_of x) zero_number ≡ pos 0 = doubled-zero (exp_of x - 0) in
        absurd (p (units-le (exp_of x) x zero_number (omega arith) (omega arith) (omega (arith, ints))))

above_text : (x : Number) → ¬ NumberLe x zero_number → number_text x ≡ size_text (size_of x) (exp_of x)
above_text x p = ap (λ n. signed_decimal n ++ (if nat_eq (exp_of x) 0 then [] else 47 ∷ decimal (2 ^ exp_of x)))
    (above_size x p)

above_means : (x : Number) → ¬ NumberLe x zero_number → or_zero (fraction false (size_of x) (2 ^ exp_of x)) ≡ x
above_means x p = ap or_zero (number_means x false (sym (above_size x p)))

switch-reads : (k : ℕ) (x : Number) (g : Game) → InRange x → ¬ NumberLe x zero_number → g ≡ switch_form x
    → Reading k g (codes "+-" ++ number_text x)
unfolding meaning
switch-reads k x g r p e = rw (above_text x p) (record {
  tree = switch (size_of x) (2 ^ exp_of x);
  is = λ i. special_is (grammar.special formats.One k) i _ _ (switch_special k i (size_of x) (2 ^ exp_of x) (size_text (size_of x) (exp_of x))
      (λ j. number_is j (size_of x) (exp_of x) (few_digits x r) (few_below (exp_of x) r.short)));
  means = λ forms. rw (← (e ∙ sym (ap switch_form (above_means x p)))) (equal_refl g);
  other = refl;
})

tiny_words : (miny : Bool) → tiny_word miny ≡ cond miny (codes "Miny(") (codes "Tiny(")
tiny_words false = refl
tiny_words true = refl

tiny-reads : (k : ℕ) (miny : Bool) (x : Number) (g : Game) → InRange x → ¬ NumberLe x zero_number → g ≡ tiny_form miny x
    → Reading k g (tiny_word miny ++ (number_text x ++ codes ")"))
unfolding meaning
tiny-reads k miny x g r p e = rw (above_text x p) (record {
  tree = tiny miny (size_of x) (2 ^ exp_of x);
  is = λ i. special_is (grammar.special formats.One k) i _ _ (worded i miny);
  means = λ forms. rw (← (e ∙ sym (ap (tiny_form miny) (above_means x p)))) (equal_refl g);
  other = word_other miny;
})
  where
    worded : (i : ℕ) (m : Bool)
        → grammar.special formats.One k i (clean (tiny m (size_of x) (2 ^ exp_of x)), In_none) (tiny_word m ++ (size_text (size_of x) (exp_of x) ++ codes ")"))
    worded i m = rw (tiny_words m) (tiny_special k i m (size_of x) (2 ^ exp_of x) (size_text (size_of x) (exp_of x))
        (λ j. number_is j (size_of x) (exp_of x) (few_digits x r) (few_below (exp_of x) r.short)))

    word_other : (m : Bool) → OtherThanBar (tiny_word m ++ (size_text (size_of x) (exp_of x) ++ codes ")"))
    word_other false = refl
    word_other true = refl

-- ---- any named form

pub named_form-reads : (k : ℕ) (s : NamedForm) (g : Game) → Fits s g → IsNamedInRange s → Reading k g (named_text s)
named_form-reads k (Star x n) g f r = star-reads k x n g r.0 r.1 f.1.equal
named_form-reads k (Arrows down starred x n) g f r = arrows-read k down starred x n g r.0 f.0 r.1 f.1.equal
named_form-reads k (Switch x) g f r = switch-reads k x g r f.0 f.1
named_form-reads k (Tiny miny x) g f r = tiny-reads k miny x g r f.0 f.1
