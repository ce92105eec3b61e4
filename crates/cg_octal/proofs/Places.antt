-- The bytes that begin a code are those that may stand where they stand.
use Rattle.std.proofs.Common.{◌≡◌, refl, ap, sym, ◌∙◌, ℕ, suc, ◌+◌, ◌-◌, ◌<◌, ◌≤◌, arith, inl, inr, ◌⊎◌, IsTrue}
use Rattle.std.proofs.Common.{true, false, List, [], ◌∷◌, ◌++◌, map, length, length-append, drop, take, append-nil}
use Rattle.std.proofs.Math.Seq.{take-length}
use Rattle.std.proofs.lemmas.Bool.Decides.{nat_tests}
use Rattle.cg_dyadic.proofs.Truth.{true_or_false}
use Rattle.std.specs.Prelude.{codes}
use Rattle.cg_octal.specs.Codes.{AreOctal, Begun, IsCode, NoCodeAt, digits_of}
use Rattle.cg_octal.specs.Fitting.{fit_length, fits}

-- each byte of the text may stand where it stands, from this place on
abbrev AllFit : ℕ → List ℕ → Type 0
AllFit at [] = Unit {0}
AllFit at (b ∷ bs) = IsTrue (fits at b) × AllFit (suc at) bs

-- ---- the longest front part that fits

pub record Front (at : ℕ) (text : List ℕ) : Type 0 where
  pub before : List ℕ
  pub behind : List ℕ
  pub cut : text ≡ before ++ behind
  pub count : length before ≡ fit_length at text
  pub fit : AllFit at before

pub front : (at : ℕ) (text : List ℕ) → Front at text
unfolding fit_length
front at [] = record { before = []; behind = []; cut = refl; count = refl; fit = tt }
front at (b ∷ bs) = elim (true_or_false (fits at b)) [
  | inl t ↦
      let f = front (suc at) bs in
      record {
        before = b ∷ f.before;
        behind = f.behind;
        cut = ap (λ z. b ∷ z) f.cut;
        count = rw t (ap suc f.count);
        fit = (t, f.fit);
      }
  | inr f ↦ record { before = []; behind = b ∷ bs; cut = refl; count = rw f refl; fit = tt }
]

pub longest : (at : ℕ) (text x y : List ℕ) → text ≡ x ++ y → AllFit at x → length x ≤ fit_length at text
unfolding fit_length
longest at text [] y e a = omega arith
longest at [] (c ∷ x) y e a = absurd (cc)
longest at (b ∷ bs) (c ∷ x) y e a =
    let same : b ≡ c = cc in
    let rest : bs ≡ x ++ y = cc in
    let t : fits at b ≡ true = ap (fits at) same ∙ a.0 in
    let l = longest (suc at) bs x y rest a.1 in
    rw t (omega arith)

-- ---- codes fit

fit_front : (at : ℕ) (x y : List ℕ) → AllFit at (x ++ y) → AllFit at x
fit_front at [] y a = tt
fit_front at (b ∷ x) y a = (a.0, fit_front (suc at) x y a.1)

digit_fits : (k d : ℕ) → k < 16 → d < 8 → IsTrue (fits (k + 2) (48 + d))
digit_fits k d l m = grind (arith, nat_tests)

fits_digit : (k b : ℕ) → IsTrue (fits (k + 2) b) → (k < 16) × (48 ≤ b) × (b < 56)
fits_digit k b t = (grind (arith, nat_tests), grind (arith, nat_tests), grind (arith, nat_tests))

digits_fit : (k : ℕ) (ds : List ℕ) → AreOctal ds → k + length ds ≤ 16 → AllFit (k + 2) (map (λ d. 48 + d) ds)
digits_fit k [] o l = tt
digits_fit k (d ∷ ds) o l =
    let next : suc k + 2 ≡ suc (k + 2) = omega arith in
    (digit_fits k d (omega arith) o.0, rw next at (digits_fit (suc k) ds o.1 (omega arith)))

pub code_fits : (text digits : List ℕ) → IsCode text digits → AllFit 0 text
code_fits text digits c =
    let l = c.few in
    rw c.spelled (refl, (refl, digits_fit 0 digits c.octal (omega arith)))

pub begun_fits : (text : List ℕ) → Begun text → AllFit 0 text
begun_fits text b = fit_front 0 text b.behind (code_fits (text ++ b.behind) b.digits b.code)

-- ---- what fits begins a code

abbrev glyphs : List ℕ → List ℕ
glyphs bs = map (λ b. b - 48) bs

record Digits (k : ℕ) (bs : List ℕ) : Type 0 where
  spelled : bs ≡ map (λ d. 48 + d) (glyphs bs)
  octal : AreOctal (glyphs bs)
  few : k + length bs ≤ 16
  count : length (glyphs bs) ≡ length bs

fit_digits : (k : ℕ) (bs : List ℕ) → k ≤ 16 → AllFit (k + 2) bs → Digits k bs
fit_digits k [] l a = record { spelled = refl; octal = tt; few = omega arith; count = refl }
fit_digits k (b ∷ bs) l a =
    let f = fits_digit k b a.0 in
    let next : suc (k + 2) ≡ suc k + 2 = omega arith in
    let r = fit_digits (suc k) bs (omega arith) (rw next at a.1) in
    let n = r.few in
    let same : b ≡ 48 + (b - 48) = omega arith in
    record {
      spelled = ap (λ z. z ∷ bs) same ∙ ap (λ z. (48 + (b - 48)) ∷ z) r.spelled;
      octal = (omega arith, r.octal);
      few = omega arith;
      count = ap suc r.count;
    }

first_byte : (b : ℕ) → IsTrue (fits 0 b) → b ≡ 48
first_byte b t = grind (arith, nat_tests)

second_byte : (b : ℕ) → IsTrue (fits 1 b) → b ≡ 46
second_byte b t = grind (arith, nat_tests)

-- a text that fits is a code where it has three bytes
pub fit_code : (text : List ℕ) → AllFit 0 text → 3 ≤ length text → IsCode text (glyphs (drop 2 text))
fit_code [] a l = absurd (omega arith)
fit_code (b ∷ []) a l = absurd (omega arith)
fit_code (b ∷ (c ∷ bs)) a l =
    let d = fit_digits 0 bs (omega arith) a.1.1 in
    let n = d.few in
    let m = d.count in
    record {
      spelled = ap (λ z. z ∷ (c ∷ bs)) (first_byte b a.0) ∙ ap (λ z. 48 ∷ (z ∷ bs)) (second_byte c a.1.0)
          ∙ ap (λ z. 48 ∷ (46 ∷ z)) d.spelled;
      octal = d.octal;
      some = omega arith;
      few = omega arith;
    }

-- and else it becomes one with the rest of `0.0` behind it
one_digit : (text : List ℕ) → text ≡ codes "0.0" → IsCode text (0 ∷ [])
one_digit text e = record { spelled = e; octal = (omega arith, tt); some = omega arith; few = omega arith }

pub fit_begun : (text : List ℕ) → AllFit 0 text → Begun text
fit_begun [] a = record { behind = codes "0.0"; digits = 0 ∷ []; code = one_digit (codes "0.0") refl }
fit_begun (b ∷ []) a = record {
  behind = codes ".0";
  digits = 0 ∷ [];
  code = one_digit (b ∷ codes ".0") (ap (λ z. z ∷ codes ".0") (first_byte b a.0));
}
fit_begun (b ∷ (c ∷ [])) a = record {
  behind = codes "0";
  digits = 0 ∷ [];
  code = one_digit (b ∷ (c ∷ codes "0")) (ap (λ z. z ∷ (c ∷ codes "0")) (first_byte b a.0)
      ∙ ap (λ z. 48 ∷ (z ∷ codes "0")) (second_byte c a.1.0));
}
fit_begun (b ∷ (c ∷ (d ∷ bs))) a =
    let text : List ℕ = b ∷ (c ∷ (d ∷ bs)) in
    record {
      behind = [];
      digits = glyphs (drop 2 text);
      code = rw (append-nil text) (fit_code text a (omega arith));
    }

-- ---- what is read

whole_front : (before behind : List ℕ) → length (before ++ behind) ≤ length before → behind ≡ []
whole_front before [] l = refl
whole_front before (b ∷ bs) l = let e = length-append before (b ∷ bs) in absurd (omega arith)

pub read_code : (text : List ℕ) → length text ≤ fit_length 0 text → 3 ≤ fit_length 0 text
    → IsCode text (glyphs (drop 2 text))
read_code text l m =
    let f = front 0 text in
    let n = f.count in
    let k = ap length f.cut in
    let whole : text ≡ f.before = f.cut ∙ ap (λ z. f.before ++ z) (whole_front f.before f.behind (omega arith))
    ∙ append-nil f.before in
    let w = ap length whole in
    fit_code text (rw whole f.fit) (omega arith)

code_long : (text digits : List ℕ) → IsCode text digits → 3 ≤ length text
code_long text digits c = let e = ap length c.spelled in let m = length-append (codes "0.") (map (λ d. 48 + d) digits) in
    let n = length-glyphs digits in let s = c.some in omega arith
  where
    length-glyphs : (ds : List ℕ) → length (map (λ d. 48 + d) ds) ≡ length ds
    length-glyphs [] = refl
    length-glyphs (d ∷ ds) = ap suc (length-glyphs ds)

pub read_no_code : (text : List ℕ) (place : ℕ) → (fit_length 0 text < length text) ⊎ (fit_length 0 text < 3)
    → place ≡ fit_length 0 text + 1 → NoCodeAt text place
read_no_code text place short e =
    let f = front 0 text in
    let n = f.count in
    record {
      no_code = λ digits c.
          let whole = longest 0 text text [] (sym (append-nil text)) (code_fits text digits c) in
          let long = code_long text digits c in
          elim short [ inl l ↦ absurd (omega arith) | inr l ↦ absurd (omega arith) ];
      before = f.before;
      behind = f.behind;
      cut = f.cut;
      begun = fit_begun f.before f.fit;
      longest = λ x y p b. let l = longest 0 text x y p (begun_fits x b) in omega arith;
      place_is = omega arith;
    }

-- ---- the steps of the count

pub fit_none : (at : ℕ) (text : List ℕ) → length text ≡ 0 → 0 ≡ fit_length at text
unfolding fit_length
fit_none at [] e = refl
fit_none at (b ∷ bs) e = absurd (omega arith)

pub fit_more : (at b : ℕ) (rest text : List ℕ) (n : ℕ) → text ≡ b ∷ rest → true ≡ fits at b
    → n ≡ fit_length (at + 1) rest → 1 + n ≡ fit_length at text
unfolding fit_length
fit_more at b rest text n e t k =
    let next : at + 1 ≡ suc at = omega arith in
    let one : 1 + n ≡ suc n = omega arith in
    let step : fit_length at (b ∷ rest) ≡ suc (fit_length (suc at) rest) = rw (sym t) refl in
    one ∙ ap suc (k ∙ ap (λ z. fit_length z rest) next) ∙ sym step ∙ ap (fit_length at) (sym e)

pub fit_stop : (at b : ℕ) (rest text : List ℕ) → text ≡ b ∷ rest → false ≡ fits at b → 0 ≡ fit_length at text
unfolding fit_length
fit_stop at b rest text e t =
    let step : fit_length at (b ∷ rest) ≡ 0 = rw (sym t) refl in
    sym step ∙ ap (fit_length at) (sym e)

-- ---- the digits

behind_two : (text : List ℕ) → 3 ≤ length text → take (length text - 2) (drop 2 text) ≡ drop 2 text
behind_two [] l = absurd (omega arith)
behind_two (b ∷ []) l = absurd (omega arith)
behind_two (b ∷ (c ∷ bs)) l =
    let e : length (b ∷ (c ∷ bs)) - 2 ≡ length bs = omega arith in
    ap (λ z. take z bs) e ∙ take-length bs

pub read_digits : (text digits made start : List ℕ) → 3 ≤ length text → start ≡ []
    → made ≡ start ++ glyphs (take (length text - 2) (drop 2 text)) → digits ≡ made → digits ≡ digits_of text
read_digits text digits made start l s e d =
    d ∙ e ∙ ap (λ z. z ++ glyphs (take (length text - 2) (drop 2 text))) s ∙ ap glyphs (behind_two text l)

pub read_is_code : (text digits : List ℕ) → length text ≤ fit_length 0 text → 3 ≤ fit_length 0 text
    → digits ≡ digits_of text → IsCode text digits
read_is_code text digits l m e = rw e (read_code text l m)
