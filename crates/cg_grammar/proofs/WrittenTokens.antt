-- What is written reads: tokens.
use Rattle.std.proofs.Common.{◌≡◌, refl, ap, sym, ℕ, zero, suc, ◌^◌, ◌<◌, arith, inl, inr, List, [], ◌∷◌, ◌++◌, length, Bool, true, false, cond, ◌&&◌}
use Rattle.std.specs.Prelude.{decimal, nat_lt, if◌then◌else◌, replicate}
use Rattle.std.specs.List.{list_all}
use Rattle.std.proofs.lemmas.List.{length-replicate}
use Rattle.std.proofs.lemmas.Bool.Decides.{nat_tests}
use Rattle.cg_reading.specs.Bytes.{has}
use Rattle.cg_reading.specs.Pieces.{Made, Piece}
use Rattle.cg_reading.specs.Tokens.{only}
use Rattle.cg_grammar.specs.Grammar as grammar
use Rattle.cg_query.specs.Tree.{nimber, ups}
use Rattle.cg_grammar.specs.Values.{ups_tree}
use Rattle.cg_grammar.specs.Written.{fraction_text, quoted, ups_text, IsPrintable}
use Rattle.cg_reading.proofs.Spelled.{byte_is, byte_then, bytes_are, made_is, no_bytes_then, then_is}
use Rattle.cg_reading.proofs.Texts.{digits_are}
use Rattle.cg_reading.proofs.Spelled.{made_as}

-- ---- numbers, arrows and texts

pub fraction_is : (i num den : ℕ) → num < 10 ^ 30 → den < 10 ^ 30 → grammar.number i (num, den) (fraction_text num den)
fraction_is i num den l r = then_is (decimal num) (47 ∷ decimal den) (digits_are i num l)
    (inl (made_is (47, den) (byte_then 47 (decimal den) refl (digits_are _ den r))))

pub nim_is : (i n : ℕ) → n < 10 ^ 30 → grammar.nim i (nimber n) (42 ∷ decimal n)
nim_is i n l = made_is (42, n) (byte_then 42 (decimal n) refl (inl (digits_are _ n l)))

abbrev pub arrow_of : Bool → ℕ
arrow_of down = cond down 118 94

itself : (d : Bool) → has (only (arrow_of d)) (arrow_of d) ≡ true
itself false = refl
itself true = refl

pub one_arrow : (d : Bool) (n : ℕ) → list_all (has (only (arrow_of d))) (replicate n (arrow_of d)) ≡ true
one_arrow d zero = refl
one_arrow d (suc n) = by (has (only (arrow_of d)) (arrow_of d)) (itself d) (one_arrow d n)
  where
    by : (b : Bool) → b ≡ true → list_all (has (only (arrow_of d))) (replicate n (arrow_of d)) ≡ true
        → (b && list_all (has (only (arrow_of d))) (replicate n (arrow_of d))) ≡ true
    by true e f = f
    by false e f = absurd (cc)

-- a run of arrows, and an arrow with its count
pub arrow_run : (i : ℕ) (d : Bool) (n : ℕ) (more : List ℕ) → length more ≡ n → list_all (has (only (arrow_of d))) more ≡ true
    → grammar.arrows d (arrow_of d) i (record { down = d; count = suc n; is_run = true }) (arrow_of d ∷ more)
arrow_run i d n more e h = inl (made_as (arrow_of d, more) (byte_then (arrow_of d) more (itself d) (bytes_are h)) (ap (λ (k : ℕ). record { down = d; count = suc k; is_run = true }) (sym e)))

pub arrow_count : (i : ℕ) (d : Bool) (n : ℕ) → n < 10 ^ 30
    → grammar.arrows d (arrow_of d) i (record { down = d; count = n; is_run = false }) (arrow_of d ∷ decimal n)
arrow_count i d n l = inr (made_is (arrow_of d, n) (byte_then (arrow_of d) (decimal n) (itself d) (digits_are _ n l)))

pub ups_by : (i : ℕ) (d : Bool) (n : ℕ) (r : Bool) (text : List ℕ) → grammar.arrows d (arrow_of d) i (record { down = d; count = n; is_run = r }) text
    → Made ups_tree grammar.ups i (ups d n) text
ups_by i false n r text m = made_is (record { down = false; count = n; is_run = r }) (inl m)
ups_by i true n r text m = made_is (record { down = true; count = n; is_run = r }) (inr m)

pub ups_is : (i : ℕ) (down : Bool) (n : ℕ) → Made ups_tree grammar.ups i (ups down n) (ups_text (arrow_of down) n)
ups_is i down n = by n (nat_lt n (10 ^ 30)) refl
  where
    by : (m : ℕ) (b : Bool) → nat_lt m (10 ^ 30) ≡ b
        → Made ups_tree grammar.ups i (ups down m) (if b then (arrow_of down ∷ decimal m) else replicate m (arrow_of down))
    by m true e = ups_by i down m false _ (arrow_count i down m (grind (arith, nat_tests)))
    by zero false e = absurd (grind (arith, nat_tests))
    by (suc m) false e = ups_by i down (suc m) true _
        (arrow_run i down m (replicate m (arrow_of down)) (length-replicate m (arrow_of down)) (one_arrow down m))

pub quoted_is : (i : ℕ) (text : List ℕ) → IsPrintable text → grammar.string i text (quoted text)
quoted_is i text p = made_is (34, (text, 34)) (byte_then 34 (text ++ (34 ∷ [])) refl (then_is text (34 ∷ []) (bytes_are p) (byte_is 34 refl)))

-- ---- brackets

pub enclosed_is : {A : Type 0} (R : Piece A) (i : ℕ) (a : A) (text : List ℕ) → ((j : ℕ) → R j a text)
    → grammar.enclosed R i a (40 ∷ (text ++ (41 ∷ [])))
enclosed_is R i a text m = made_is (40, ([], (a, ([], 41)))) (byte_then 40 (text ++ (41 ∷ [])) refl
    (no_bytes_then (text ++ (41 ∷ [])) (then_is text (41 ∷ []) (m _) (no_bytes_then (41 ∷ []) (byte_is 41 refl)))))
