-- The parts of the texts of certificates.
use Rattle.std.proofs.Common.{◌≡◌, refl, ap, sym, ◌∙◌, append_assoc, append-nil, ℕ, List, [], ◌∷◌, ◌++◌, Option, None, true, false}
use Rattle.std.specs.Prelude.{codes}
use Rattle.cg_dyadic.proofs.Truth.{differ}
use Rattle.cg_cert.specs.Certificate.{Answers, Certificate, answer_text, answered, answers_text, certificate_text, no_answers, settled, with_answer}
use Rattle.cg_cert.specs.Pairs.{AtLeast, Pair, both_numbers, moves}
use Rattle.cg_cert.specs.Proves.{Proves, ProvesAll}
use Rattle.cg_cert.specs.Reads.{IsByte, Reads}
use Rattle.cg_cert.specs.Texts.{AreAnswerTexts, IsProofText}
use Rattle.cg_cert.proofs.Readers.{Splits, reads_none, reads_same}
use Rattle.cg_cert.proofs.Sound.{proves-at_least}

-- ---- numbers

settled_text : (m : Pair) → both_numbers m ≡ true → (c : Certificate) → Proves c m → certificate_text c ≡ codes "."
settled_text m b settled p = refl
settled_text m b (answered given) p = absurd (p.0 b)

pub reads_settled : (m : Pair) (input : List ℕ) (r : Option (List ℕ)) → both_numbers m ≡ true → AtLeast m
    → Reads (IsByte 46) input r → Reads (IsProofText m) input r
reads_settled m input r b l t = reads_same (IsByte 46) (IsProofText m) input r (λ x e. (settled, (b, l), e))
    (λ x w. let (c, p, e) = w in e ∙ settled_text m b c p) t

pub reads_unsettled : (m : Pair) (input : List ℕ) → ¬ AtLeast m → Reads (IsProofText m) input None
reads_unsettled m input n = reads_none (IsProofText m) input (λ x rest w e.
    let (c, p, f) = w in n (proves-at_least c m p))

-- ---- brackets round the answers

-- the texts of answers, and the closing bracket
abbrev pub Closed : List Pair → List ℕ → Type 0
Closed ms text = (y : List ℕ) × AreAnswerTexts ms y × (text ≡ y ++ codes ")")

bracketed : (m : Pair) (x : List ℕ) → both_numbers m ≡ false → (c : Certificate) → Proves c m → x ≡ certificate_text c
    → (y : List ℕ) × (z : List ℕ) × IsByte 40 y × Closed (moves m) z × (x ≡ y ++ z)
bracketed m x b settled p e = absurd (differ (both_numbers m) p.0 b)
bracketed m x b (answered given) p e =
    (codes "(", answers_text given ++ codes ")", refl, (answers_text given, (given, p.1, refl), refl), e)

pub proof_splits : (m : Pair) → both_numbers m ≡ false → Splits (IsProofText m) (IsByte 40) (Closed (moves m))
proof_splits m b = record {
  apart = λ x w. let (c, p, e) = w in bracketed m x b c p e;
  join = λ y z p q.
      let (v, w, e) = q in
      let (given, a, d) = w in (
        answered given,
        ((λ t. differ (both_numbers m) t b), a),
        ap (λ k. k ++ z) p ∙ ap (λ k. codes "(" ++ k) (e ∙ ap (λ k. k ++ codes ")") d),
      );
}

-- ---- the first of the answers, and the others

first_and_others : (a c rest end : List ℕ) → (a ++ (c ++ rest)) ++ end ≡ (a ++ (c ++ [])) ++ (rest ++ end)
first_and_others a c rest end =
    append_assoc a (c ++ rest) end ∙ ap (λ z. a ++ z) (append_assoc c rest end
    ∙ ap (λ z. z ++ (rest ++ end)) (sym (append-nil c))) ∙ sym (append_assoc a (c ++ []) (rest ++ end))

answers_apart : (m : Pair) (ms : List Pair) (x y : List ℕ) (given : Answers) → ProvesAll given (m ∷ ms)
    → y ≡ answers_text given → x ≡ y ++ codes ")"
    → (u : List ℕ) × (v : List ℕ) × AreAnswerTexts (m ∷ []) u × Closed ms v × (x ≡ u ++ v)
answers_apart m ms x y no_answers p d e = absurd p
answers_apart m ms x y (with_answer a c rest) p d e = (
  answers_text (with_answer a c no_answers),
  answers_text rest ++ codes ")",
  (with_answer a c no_answers, (p.0, tt), refl),
  (answers_text rest, (rest, p.1, refl), refl),
  e ∙ ap (λ k. k ++ codes ")") d ∙ first_and_others (answer_text a) (certificate_text c) (answers_text rest) (codes ")"),
)

answers_joined : (m : Pair) (ms : List Pair) (u v w : List ℕ) (one others : Answers) → ProvesAll one (m ∷ [])
    → u ≡ answers_text one → ProvesAll others ms → v ≡ answers_text others → w ≡ v ++ codes ")" → Closed (m ∷ ms) (u ++ w)
answers_joined m ms u v w no_answers others p d q e f = absurd p
answers_joined m ms u v w (with_answer a c (with_answer b k rest)) others p d q e f = absurd p.1
answers_joined m ms u v w (with_answer a c no_answers) others p d q e f = (
  answers_text (with_answer a c others),
  (with_answer a c others, (p.0, q), refl),
  ap (λ k. k ++ w) d ∙ ap (λ k. answers_text (with_answer a c no_answers) ++ k) (f ∙ ap (λ k. k ++ codes ")") e)
      ∙ sym (first_and_others (answer_text a) (certificate_text c) (answers_text others) (codes ")")),
)

pub closed_splits : (m : Pair) (ms : List Pair) → Splits (Closed (m ∷ ms)) (AreAnswerTexts (m ∷ [])) (Closed ms)
closed_splits m ms = record {
  apart = λ x q. let (y, w, e) = q in let (given, p, d) = w in answers_apart m ms x y given p d e;
  join = λ u w p q.
      let (one, a, d) = p in
      let (v, k, f) = q in
      let (others, b, e) = k in
      answers_joined m ms u v w one others a d b e f;
}

no_more : (x y : List ℕ) (given : Answers) → ProvesAll given [] → y ≡ answers_text given → x ≡ y ++ codes ")"
    → IsByte 41 x
no_more x y no_answers p d e = e ∙ ap (λ k. k ++ codes ")") d
no_more x y (with_answer a c rest) p d e = absurd p

pub reads_closing : (input : List ℕ) (r : Option (List ℕ)) → Reads (IsByte 41) input r → Reads (Closed []) input r
reads_closing input r t = reads_same (IsByte 41) (Closed []) input r (λ x e. ([], (no_answers, tt, refl), e))
    (λ x q. let (y, w, e) = q in let (given, p, d) = w in no_more x y given p d e) t
