-- What numbers, ups and nimbers are written as, is a piece of the grammar.
use Rattle.std.proofs.Common.{◌≡◌, refl, ℕ, zero, suc, ◌^◌, ◌<◌, ◌≤◌, arith, inr, List, [], ◌∷◌, ◌++◌, Bool, true, false, ◌&&◌, nat_eq, eqb-true}
use Rattle.std.specs.Prelude.{decimal, if◌then◌else◌}
use Rattle.std.specs.List.{list_all}
use Rattle.std.proofs.lemmas.Bool.Decides.{nat_tests}
use Rattle.cg_reading.specs.Bytes.{Ends, has}
use Rattle.cg_reading.specs.Pieces.{Made}
use Rattle.cg_reading.specs.Tokens.{digit}
use Rattle.cg_reading.proofs.Sets.{apart_has}
use Rattle.cg_reading.proofs.Texts.{Digits, decimal_digits, digits_are}
use Rattle.cg_grammar.specs.Grammar as grammar
use Rattle.cg_grammar.specs.Grammar.{bar}
use Rattle.cg_query.specs.Tree.{nimber, ups}
use Rattle.cg_grammar.specs.Values.{ups_tree}
use Rattle.cg_reading.proofs.Spelled.{byte_then, made_is, then_is}
use Rattle.cg_grammar.proofs.WrittenTokens.{arrow_count, arrow_of, arrow_run, fraction_is, nim_is, one_arrow, ups_by}
use Rattle.cg_names.specs.NamedForms.{arrows_text, star_text}

-- ---- what doesn't begin with a bar

-- a text that begins with another byte
abbrev pub OtherThanBar : List ℕ → Type 0
OtherThanBar [] = ⊥
OtherThanBar (b ∷ bytes) = has bar b ≡ false

pub other_ends : (text rest : List ℕ) → OtherThanBar text → Ends bar (text ++ rest)
other_ends [] rest o = absurd o
other_ends (b ∷ bytes) rest o = o

pub other_append : (text rest : List ℕ) → OtherThanBar text → OtherThanBar (text ++ rest)
other_append [] rest o = absurd o
other_append (b ∷ bytes) rest o = o

digits_other : (ds : List ℕ) → Digits ds → OtherThanBar ds
digits_other [] d = let s = d.some in absurd (omega arith)
digits_other (b ∷ bytes) d = by (has digit b) refl d.within
  where
    by : (t : Bool) → has digit b ≡ t → (t && list_all (has digit) bytes) ≡ true → has bar b ≡ false
    by true e w = apart_has digit bar b refl e
    by false e w = absurd (cc)

pub decimal_other : (n : ℕ) → n < 10 ^ 30 → OtherThanBar (decimal n)
decimal_other n l = digits_other (decimal n) (decimal_digits n l)

-- ---- numbers without a sign

-- the numerator, and the denominator 2 ^ e unless that is 1
abbrev pub size_text : ℕ → ℕ → List ℕ
size_text n e = decimal n ++ (if nat_eq e 0 then [] else 47 ∷ decimal (2 ^ e))

not_none : (e : ℕ) → nat_eq (suc e) 0 ≡ false
not_none e = grind (arith, nat_tests)

pub number_is : (i n e : ℕ) → n < 10 ^ 30 → 2 ^ e < 10 ^ 30 → grammar.number i (n, 2 ^ e) (size_text n e)
number_is i n zero l r = then_is (decimal n) [] (digits_are i n l) (inr (refl, refl))
number_is i n (suc e) l r = rw (not_none e) (fraction_is i n (2 ^ suc e) l r)

-- ---- stars and arrows

pub star_is : (i n : ℕ) → n < 10 ^ 30 → grammar.nim i (nimber n) (star_text n)
star_is i n l = by (nat_eq n 1) refl
  where
    by : (b : Bool) → nat_eq n 1 ≡ b → grammar.nim i (nimber n) (42 ∷ (if b then [] else decimal n))
    by false e = nim_is i n l
    by true e = made_is (42, n) (byte_then 42 [] refl (inr (eqb-true n 1 e, refl)))

pub ups_are : (i : ℕ) (down : Bool) (n : ℕ) → 1 ≤ n → n < 10 ^ 30
    → Made ups_tree grammar.ups i (ups down n) (arrows_text (arrow_of down) n)
ups_are i down zero s l = absurd (omega arith)
ups_are i down (suc zero) s l = ups_by i down 1 true (arrow_of down ∷ []) (arrow_run i down 0 [] refl refl)
ups_are i down (suc (suc zero)) s l =
    ups_by i down 2 true (arrow_of down ∷ (arrow_of down ∷ [])) (arrow_run i down 1 (arrow_of down ∷ []) refl (one_arrow down 1))
ups_are i down (suc (suc (suc n))) s l = ups_by i down (suc (suc (suc n))) false _ (arrow_count i down (suc (suc (suc n))) l)

pub ups_other : (down : Bool) (n : ℕ) → OtherThanBar (arrows_text (arrow_of down) n)
ups_other false zero = refl
ups_other false (suc zero) = refl
ups_other false (suc (suc zero)) = refl
ups_other false (suc (suc (suc n))) = refl
ups_other true zero = refl
ups_other true (suc zero) = refl
ups_other true (suc (suc zero)) = refl
ups_other true (suc (suc (suc n))) = refl
