-- The first word of an answer, and what is put behind it.
use Rattle.std.proofs.Common.{◌≡◌, refl, ap, sym, ◌∙◌, ℕ, ◌+◌, ◌≤◌, arith, List, ◌++◌, length, length-append, Ok, true, false, if◌then◌else◌}
use Rattle.std.specs.Prelude.{String, codes, string_bytes}
use Rattle.cg_form.specs.Game.{Game}
use Rattle.cg_form.specs.Order.{le}
use Rattle.cg_cert.specs.Answer.{IsProved, answer_part, answer_word, first_text, proof_answer, refusal_text}
use Rattle.cg_cert.specs.Pairs.{pair}
use Rattle.cg_cert.specs.Written.{Wrote}

-- the word and the part that are put, n the length of the word
pub record IsAnswer (g h : Game) (word part : List ℕ) (n : ℕ) : Type 0 where
  pub word_is : word ≡ answer_word g h
  pub part_is : part ≡ answer_part g h
  pub counted : length word ≡ n

pub answer_yes : (g h : Game) → le h g ≡ true → IsAnswer g h (codes "yes ") (first_text g h) 4
answer_yes g h e = record {
  word_is = ap (λ z. if z then codes "yes " else codes "no ") (sym e);
  part_is = ap (λ z. if z then first_text g h else refusal_text (pair g h)) (sym e);
  counted = refl;
}

pub answer_no : (g h : Game) → le h g ≡ false → IsAnswer g h (codes "no ") (refusal_text (pair g h)) 3
answer_no g h e = record {
  word_is = ap (λ z. if z then codes "yes " else codes "no ") (sym e);
  part_is = ap (λ z. if z then first_text g h else refusal_text (pair g h)) (sym e);
  counted = refl;
}

pub proved_ok : {A : Type 0} (g h : Game) (word part : List ℕ) (n : ℕ) → IsAnswer g h word part n → (text : String A)
    → Wrote (Ok tt) (65536 + n) word (string_bytes text) part → IsProved {A = A} g h (Ok text)
unfolding proof_answer
proved_ok g h word part n a text w =
    let e = ap length w.0 in
    let f = length-append word part in
    let c = a.counted in
    let l : length part ≤ 65536 = omega arith in (
      w.0 ∙ ap (λ z. z ++ part) a.word_is ∙ ap (λ z. answer_word g h ++ z) a.part_is,
      rw (← a.part_is) l,
    )
