-- The text of one answer: its letter, its digits, and the proof of what it leads to.
use Rattle.std.proofs.Common.{◌≡◌, refl, ap, sym, ◌∙◌, append_assoc, append-nil, ℕ, ◌+◌, ◌-◌, ◌<◌, ◌^◌, List}
use Rattle.std.proofs.Common.{[], ◌∷◌, ◌++◌, Option, Some, None, Bool, true, false, arith, drop, length, take}
use Rattle.std.specs.Prelude.{decimal, take_while}
use Rattle.std.specs.List.{prefix_len}
use Rattle.std.proofs.Math.Seq.{drop-append_seam, take-length}
use Rattle.std.proofs.lemmas.Fmt.{decimal_injective}
use Rattle.std.proofs.lemmas.List.{drop-drop, length-drop, take-append-drop}
use Rattle.std.proofs.lemmas.List.Folds.{length-prefix_len}
use Rattle.cg_cert.specs.Certificate.{Answer, Answers, Certificate, answer_in, answer_text, answers_text}
use Rattle.cg_cert.specs.Certificate.{certificate_text, in_first, in_second, no_answers, with_answer}
use Rattle.cg_cert.specs.Pairs.{Pair, led}
use Rattle.cg_cert.specs.Proves.{Proves, ProvesAll}
use Rattle.cg_cert.specs.Reads.{IsByte, LeadsNowhere, LeadsTo, Reads, is_digit, letter_byte}
use Rattle.cg_cert.specs.Texts.{AreAnswerTexts, IsProofText}
use Rattle.cg_cert.proofs.Digits.{numeral-front}
use Rattle.cg_cert.proofs.Readers.{reads_none}

answer_text-in : (b : Bool) (i : ℕ) → answer_text (answer_in b i) ≡ letter_byte b ∷ decimal i
answer_text-in true i = refl
answer_text-in false i = refl

answer_as : (a : Answer) → (b : Bool) × (i : ℕ) × (a ≡ answer_in b i)
answer_as (in_first i) = (true, i, refl)
answer_as (in_second i) = (false, i, refl)

-- what a text of one answer begins with
record Opened (m : Pair) (input rest : List ℕ) : Type 0 where
  letter : Bool
  place : ℕ
  certificate : Certificate
  leads : Pair
  is_led : led (answer_in letter place) m ≡ Some leads
  proves : Proves certificate leads
  spelled : input ≡ letter_byte letter ∷ (decimal place ++ (certificate_text certificate ++ rest))

one_answer : (a c rest : List ℕ) → (a ++ (c ++ [])) ++ rest ≡ a ++ (c ++ rest)
one_answer a c rest = append_assoc a (c ++ []) rest ∙ ap (λ z. a ++ (z ++ rest)) (append-nil c)

opened_by : (m : Pair) (input x rest : List ℕ) (given : Answers) → ProvesAll given (m ∷ []) → x ≡ answers_text given
    → input ≡ x ++ rest → Opened m input rest
opened_by m input x rest no_answers p d e = absurd p
opened_by m input x rest (with_answer a c (with_answer b k others)) p d e = absurd p.1
opened_by m input x rest (with_answer a c no_answers) p d e =
    let (n, l, q) = p.0 in
    let (b, i, f) = answer_as a in
    record {
      letter = b;
      place = i;
      certificate = c;
      leads = n;
      is_led = rw (← f) l;
      proves = q;
      spelled = e ∙ ap (λ z. z ++ rest) d ∙ one_answer (answer_text a) (certificate_text c) rest
          ∙ ap (λ z. answer_text z ++ (certificate_text c ++ rest)) f
          ∙ ap (λ z. z ++ (certificate_text c ++ rest)) (answer_text-in b i);
    }

opened : (m : Pair) (input x rest : List ℕ) → AreAnswerTexts (m ∷ []) x → input ≡ x ++ rest → Opened m input rest
opened m input x rest w e = let (given, p, d) = w in opened_by m input x rest given p d e

-- ---- what is read

same_letter : (b k : Bool) → letter_byte b ≡ letter_byte k → b ≡ k
same_letter true true e = refl
same_letter false false e = refl
same_letter true false e = absurd (omega arith)
same_letter false true e = absurd (omega arith)

-- the letter was read, and the digits behind it
pub record Lettered (is_first : Bool) (input behind digits tail : List ℕ) : Type 0 where
  pub letter : input ≡ letter_byte is_first ∷ behind
  pub digits_are : digits ≡ take_while is_digit behind
  pub tail_is : tail ≡ drop (length digits) behind

cut : (b : Bool) (input behind digits tail : List ℕ) → Lettered b input behind digits tail → behind ≡ digits ++ tail
cut b input behind digits tail l =
    let n : ℕ = prefix_len is_digit behind in
    let count : length digits ≡ n = ap length l.digits_are ∙ length-prefix_len is_digit behind in
    sym (take-append-drop n behind) ∙ ap (λ z. z ++ drop n behind) (sym l.digits_are)
    ∙ ap (λ z. digits ++ drop z behind) (sym count) ∙ ap (λ z. digits ++ z) (sym l.tail_is)

-- the letter at a place, and the digits behind it
pub lettered : (bytes piece digits : List ℕ) (at end : ℕ) (b : Bool)
    → Reads (IsByte (letter_byte b)) (drop at bytes) (Some (drop end bytes))
    → piece ≡ take (length bytes - end) (drop end bytes) → digits ≡ take_while is_digit piece
    → Lettered b (drop at bytes) (drop end bytes) digits (drop (end + length digits) bytes)
lettered bytes piece digits at end b r p d =
    let (x, w, e) = r.sound (drop end bytes) refl in
    let whole : take (length bytes - end) (drop end bytes) ≡ drop end bytes =
    ap (λ n. take n (drop end bytes)) (sym (length-drop end bytes)) ∙ take-length (drop end bytes) in
    record {
      letter = e ∙ ap (λ z. z ++ drop end bytes) w;
      digits_are = d ∙ ap (take_while is_digit) (p ∙ whole);
      tail_is = sym (drop-drop (length digits) end bytes);
    }

-- with the letter that was read, the digits are those of the place
record Numbered (m : Pair) (is_first : Bool) (behind digits rest : List ℕ) : Type 0 where
  place : ℕ
  certificate : Certificate
  leads : Pair
  is_led : led (answer_in is_first place) m ≡ Some leads
  proves : Proves certificate leads
  spelled : behind ≡ decimal place ++ (certificate_text certificate ++ rest)
  digits_are : digits ≡ decimal place

numbered : (m : Pair) (b : Bool) (input behind digits tail rest : List ℕ) → Lettered b input behind digits tail
    → ((i : ℕ) (k : Pair) → led (answer_in b i) m ≡ Some k → i < 2 ^ 64) → Opened m input rest
    → Numbered m b behind digits rest
numbered m b input behind digits tail rest l small o =
    let both : letter_byte b ∷ behind ≡ letter_byte o.letter ∷ (decimal o.place ++ (certificate_text o.certificate ++ rest)) =
    sym l.letter ∙ o.spelled in
    let first : letter_byte b ≡ letter_byte o.letter = cc in
    let others : behind ≡ decimal o.place ++ (certificate_text o.certificate ++ rest) = cc in
    let here = rw (← (same_letter b o.letter first)) at o.is_led in
    record {
      place = o.place;
      certificate = o.certificate;
      leads = o.leads;
      is_led = here;
      proves = o.proves;
      spelled = others;
      digits_are = l.digits_are ∙ ap (take_while is_digit) others
          ∙ numeral-front o.place o.certificate rest (small o.place o.leads here);
    }

-- no letter stands there
pub reads_no_letter : (m : Pair) (input : List ℕ) → Reads (IsByte (letter_byte true)) input None
    → Reads (IsByte (letter_byte false)) input None → Reads (AreAnswerTexts (m ∷ [])) input None
reads_no_letter m input f s = reads_none (AreAnswerTexts (m ∷ [])) input (λ x rest w e.
    let o = opened m input x rest w e in by o.letter (decimal o.place ++ (certificate_text o.certificate ++ rest)) o.spelled)
  where
    by : (b : Bool) (behind : List ℕ) → input ≡ letter_byte b ∷ behind → ⊥
    by true behind e = let n : None ≡ Some behind = f.complete (letter_byte true ∷ []) behind refl e in absurd (cc)
    by false behind e = let n : None ≡ Some behind = s.complete (letter_byte false ∷ []) behind refl e in absurd (cc)

-- no option has the place
pub reads_no_place : (m : Pair) (b : Bool) (input behind digits tail : List ℕ) → Lettered b input behind digits tail
    → LeadsNowhere m b digits → Reads (AreAnswerTexts (m ∷ [])) input None
reads_no_place m b input behind digits tail l n = reads_none (AreAnswerTexts (m ∷ [])) input (λ x rest w e.
    let o = numbered m b input behind digits tail rest l n.small (opened m input x rest w e) in
    n.none o.place o.leads o.is_led (sym o.digits_are))

-- the answer leads to a pair, and the proof of that is read
pub reads_answer : (m n : Pair) (b : Bool) (input behind digits tail : List ℕ) (r : Option (List ℕ))
    → Lettered b input behind digits tail → LeadsTo m b digits n → Reads (IsProofText n) tail r
    → Reads (AreAnswerTexts (m ∷ [])) input r
reads_answer m n b input behind digits tail r l k t = record {
  sound = λ rest e.
      let (x, w, f) = t.sound rest e in
      let (c, p, g) = w in
      let a : Answer = answer_in b k.place in
      let whole = cut b input behind digits tail l in (
        answers_text (with_answer a c no_answers),
        (with_answer a c no_answers, ((n, k.leads, p), tt), refl),
        l.letter ∙ ap (λ z. letter_byte b ∷ z) (whole ∙ ap (λ z. z ++ tail) (sym k.spelled)
            ∙ ap (λ z. decimal k.place ++ z) (f ∙ ap (λ z. z ++ rest) g))
            ∙ ap (λ z. z ++ (certificate_text c ++ rest)) (sym (answer_text-in b k.place))
            ∙ sym (one_answer (answer_text a) (certificate_text c) rest),
      );
  complete = λ x rest w e.
      let o = numbered m b input behind digits tail rest l k.small (opened m input x rest w e) in
      let same : o.place ≡ k.place = decimal_injective o.place k.place (k.small o.place o.leads o.is_led)
      (k.small k.place n k.leads) (sym o.digits_are ∙ sym k.spelled) in
      let both : Some o.leads ≡ Some n = sym o.is_led ∙ ap (λ z. led (answer_in b z) m) same ∙ k.leads in
      let leads : o.leads ≡ n = cc in
      t.complete (certificate_text o.certificate) rest (o.certificate, rw (← leads) o.proves, refl)
      (l.tail_is ∙ ap (λ z. drop (length z) behind) o.digits_are
      ∙ ap (λ z. drop (length (decimal o.place)) z) o.spelled
      ∙ drop-append_seam (decimal o.place) (certificate_text o.certificate ++ rest));
}
