-- Names as terms of the grammar, and what they mean: numbers, and what may stand behind them.
use Rattle.std.proofs.Common.{◌≡◌, refl, ap, ℕ, suc, ◌^◌, ◌<◌, ◌≤◌, arith, inl, inr, ◌⊎◌, List, [], ◌∷◌, ◌++◌, append-nil}
use Rattle.std.proofs.Common.{Bool, true, false, cond, nat_eq, Option, Some, None, ℤ, pos, negsuc, unsigned_abs}
use Rattle.std.specs.Prelude.{decimal, if◌then◌else◌}
use Rattle.std.proofs.Math.Pow.{pow-lt}
use Rattle.std.specs.Fmt.{signed_decimal}
use Rattle.std.proofs.lemmas.Int.{ints}
use Rattle.cg_dyadic.specs.Exact.{number_text, signed_of}
use Rattle.cg_dyadic.specs.Number.{InRange, Number, exp_of, num_of}
use Rattle.cg_dyadic.proofs.Fractions.{fraction-own}
use Rattle.cg_dyadic.proofs.Truth.{true_or_false}
use Rattle.cg_form.specs.Game.{Game}
use Rattle.cg_form.specs.Game as tree
use Rattle.cg_form.specs.Order.{Equal}
use Rattle.cg_form.specs.Structure.{is_same}
use Rattle.cg_form.specs.Sum.{sum}
use Rattle.cg_form.proofs.Preorder.{equal_refl, equal_trans}
use Rattle.cg_form.proofs.Structure.{is_same-back}
use Rattle.cg_reading.specs.Pieces.{Piece}
use Rattle.cg_grammar.specs.Found.{Found}
use Rattle.cg_query.specs.declared.format.Format.TheVariants as formats
use Rattle.cg_grammar.specs.Grammar as grammar
use Rattle.cg_grammar.specs.Grammar.{special}
use Rattle.cg_query.specs.Tree.{Tree, nimber, number, ups}
use Rattle.cg_reading.proofs.Spelled.{made_is, then_is}
use Rattle.cg_grammar.proofs.WrittenTerms.{below_is, counted_is, no_tail_is}
use Rattle.cg_grammar.proofs.WrittenTokens.{arrow_of}
use Rattle.cg_grammar.specs.Values.{Last, clean, some_term, together}
use Rattle.cg_names.specs.Meaning.{PositionForms, fraction, meaning, or_zero}
use Rattle.cg_names.specs.Named.{zero_form}
use Rattle.cg_names.specs.NamedForms.{arrows_text, base_text, star_text}
use Rattle.cg_names.proofs.Literals.{quotient-fraction}
use Rattle.cg_nimbers.proofs.IntegerMultiples.{zero_sum}
use Rattle.cg_names.proofs.Tokens.{OtherThanBar, decimal_other, number_is, other_append, size_text, star_is, ups_are}

-- a name as a term with so many braces open at most: what it reads as, and that this means the game
pub record Reading (k : ℕ) (g : Game) (text : List ℕ) : Type 0 where
  pub tree : Tree
  pub is : (i : ℕ) → grammar.term (grammar.special formats.One k) i (clean tree) text
  pub means : (forms : PositionForms) → Equal (meaning forms tree) g
  pub other : OtherThanBar text

-- ---- numbers

pub is_below : ℤ → Bool
is_below (pos n) = false
is_below (negsuc n) = true

abbrev pub size_of : Number → ℕ
size_of x = unsigned_abs (num_of x)

abbrev pub number_tree : Number → Tree
number_tree x = number (is_below (num_of x)) (size_of x) (2 ^ exp_of x)

pub signed_size : (n : ℤ) → signed_of (is_below n) (unsigned_abs n) ≡ n
unfolding is_below
signed_size (pos n) = refl
signed_size (negsuc n) = omega (arith, ints)

pub number_means : (x : Number) (b : Bool) → signed_of b (size_of x) ≡ num_of x
    → fraction b (size_of x) (2 ^ exp_of x) ≡ Some x
number_means x b e = quotient-fraction b (size_of x) (2 ^ exp_of x) x (record {
  exp = exp_of x;
  power = refl;
  value = rw e (fraction-own x);
})

pub tree-number : (forms : PositionForms) (x : Number) → meaning forms (number_tree x) ≡ tree.number x
unfolding meaning
tree-number forms x = ap (λ o. tree.number (or_zero o)) (number_means x (is_below (num_of x)) (signed_size (num_of x)))

-- numbers in range have few digits
pub few_digits : (x : Number) → InRange x → size_of x < 10 ^ 30
few_digits x r = let s = r.small in omega arith

pub few_below : (e : ℕ) → e ≤ 40 → 2 ^ e < 10 ^ 30
few_below e l = let p : 2 ^ e < 2 ^ 41 = pow-lt (let s : e < 41 = omega arith in s) in omega arith

-- a number with ups and a nimber behind it, or without
abbrev pub Tail : Type 0
Tail = Option Tree × Option Tree

abbrev pub joined : Tree → Tail → Tree
joined t v = together t (some_term v.0 ++ some_term v.1)

module _ (special : Piece (Found × Last)) where
  -- n / 2 ^ e with its sign, and its tail
  abbrev pub number_piece : ℕ → Tail → List ℕ → ℕ → ℤ → Type 0
  number_piece i v rest e n =
      grammar.term special i (clean (joined (number (is_below n) (unsigned_abs n) (2 ^ e)) v))
      ((signed_decimal n ++ (if nat_eq e 0 then [] else 47 ∷ decimal (2 ^ e))) ++ rest)

  pub signed_is : (i e : ℕ) (n : ℤ) (v : Tail) (rest : List ℕ) → unsigned_abs n < 10 ^ 30 → 2 ^ e < 10 ^ 30
      → ((j : ℕ) → grammar.tail j v rest) → number_piece i v rest e n
  unfolding is_below
  signed_is i e (pos n) v rest l d t =
      inl (inr (counted_is special i false n (2 ^ e) v (size_text n e) rest (size_text n e ++ rest) (number_is i n e l d) t refl))
  signed_is i e (negsuc n) v rest l d t =
      below_is special i (suc n) (2 ^ e) v (size_text (suc n) e) rest (size_text (suc n) e ++ rest) (λ j. number_is j (suc n) e l d) t refl

  pub number_term : (i : ℕ) (x : Number) (v : Tail) (rest : List ℕ) → InRange x → ((j : ℕ) → grammar.tail j v rest)
      → grammar.term special i (clean (joined (number_tree x) v)) (number_text x ++ rest)
  number_term i x v rest r t = signed_is i (exp_of x) (num_of x) v rest (few_digits x r) (few_below (exp_of x) r.short) t

-- ---- tails

abbrev pub no_tail : Tail
no_tail = (None, None)

pub nim_tail : (n : ℕ) → n < 10 ^ 30 → (j : ℕ) → grammar.tail j (None, Some (nimber n)) (star_text n)
nim_tail n l j = then_is [] (star_text n) (inr (refl, refl)) (inl (made_is (nimber n) (star_is _ n l)))

-- what stands behind arrows
abbrev pub starred_tree : Bool → Option Tree
starred_tree starred = cond starred (Some (nimber 1)) None

abbrev pub starred_text : Bool → List ℕ
starred_text starred = cond starred (42 ∷ []) []

pub small : 1 < 10 ^ 30
small = omega arith

pub optional_nim : (j : ℕ) (starred : Bool) → grammar.optional grammar.nim j (starred_tree starred) (starred_text starred)
optional_nim j false = inr (refl, refl)
optional_nim j true = inl (made_is (nimber 1) (star_is j 1 small))

pub arrows_tail : (down starred : Bool) (n : ℕ) → 1 ≤ n → n < 10 ^ 30 → (j : ℕ)
    → grammar.tail j (Some (ups down n), starred_tree starred) (arrows_text (arrow_of down) n ++ starred_text starred)
arrows_tail down starred n s l j = then_is (arrows_text (arrow_of down) n) (starred_text starred)
    (inl (made_is (ups down n) (ups_are j down n s l))) (optional_nim _ starred)

-- ---- names of named forms

pub plain_number : (special : Piece (Found × Last)) (i : ℕ) (x : Number) → InRange x
    → grammar.term special i (clean (number_tree x)) (number_text x)
plain_number special i x r =
    rw append-nil at (number_term special i x no_tail [] r no_tail_is)

pub signed_other : (n : ℤ) (rest : List ℕ) → unsigned_abs n < 10 ^ 30 → OtherThanBar (signed_decimal n ++ rest)
signed_other (pos n) rest l = other_append (decimal n) rest (decimal_other n l)
signed_other (negsuc n) rest l = refl

pub number_other : (x : Number) → InRange x → OtherThanBar (number_text x)
number_other x r = signed_other (num_of x) _ (few_digits x r)

pub number-reads : (k : ℕ) (x : Number) → InRange x → Reading k (tree.number x) (number_text x)
number-reads k x r = record {
  tree = number_tree x;
  is = λ i. plain_number (grammar.special formats.One k) i x r;
  means = λ forms. rw (tree-number forms x) (equal_refl (tree.number x));
  other = number_other x r;
}

-- a number that is 0, or is written
pub zero_or_not : (x : Number) → (is_same (tree.number x) zero_form ≡ true) ⊎ (is_same (tree.number x) zero_form ≡ false)
zero_or_not x = true_or_false (is_same (tree.number x) zero_form)

pub base_gone : (x : Number) → is_same (tree.number x) zero_form ≡ true → base_text x ≡ []
base_gone x e = ap (λ b. cond b [] (number_text x)) e

pub base_there : (x : Number) → is_same (tree.number x) zero_form ≡ false → base_text x ≡ number_text x
base_there x e = ap (λ b. cond b [] (number_text x)) e

-- the game that stands behind a number that is 0
pub alone : (x : Number) (g h k : Game) → is_same (tree.number x) zero_form ≡ true → Equal k (sum (tree.number x) g) → Equal g h
    → Equal k h
alone x g h k e f q =
    equal_trans k (sum zero_form g) h (rw (is_same-back (tree.number x) zero_form e) at f)
    (equal_trans (sum zero_form g) g h (zero_sum g) q)
