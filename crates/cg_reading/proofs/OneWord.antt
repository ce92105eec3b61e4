-- One word.
use Rattle.std.proofs.Common.{◌≡◌, ℕ, false, List, [], ◌∷◌, ◌++◌, length, Ok, Err, refl, ap, sym, subst, ◌∙◌}
use Rattle.std.specs.Prelude.{◌==◌}
use Rattle.std.proofs.lemmas.Bool.{eqb-true, eq-eqb}
use Rattle.cg_reading.specs.Bytes.{Class, Begins}
use Rattle.cg_reading.specs.Pieces.{Word}
use Rattle.cg_reading.specs.Readers.{word_at}
use Rattle.cg_reading.proofs.ByteRuns.{stuck_here}
use Rattle.cg_reading.proofs.Laws.{kept, past, Agree, Lawful, Outcome, Some_text, begun_none, byte_more, cond_agree, cond_sound, outcome_left, takes_none}

module _ {A : Type 0} (v : A) where
  pub word_sound : (word : List ℕ) (end i : ℕ) (bytes : List ℕ) → Outcome (Word word v) i bytes (word_at word v end bytes)
  word_sound [] end i bytes = takes_none (refl, refl)
  word_sound (w ∷ word) end i [] = begun_none (w ∷ word) v (refl, refl)
  word_sound (w ∷ word) end i (b ∷ bytes) =
      cond_sound (Word (w ∷ word) v) i (b ∷ bytes) (word_at word v end bytes) (Err (length (b ∷ bytes))) (b == w)
      (λ h. byte_more (Word word v) (Word (w ∷ word) v) b i bytes (word_at word v end bytes)
      (λ a text is. (is.0, ap (λ (z : List ℕ). b ∷ z) is.1 ∙ ap (λ (z : ℕ). z ∷ word) (eqb-true b w h))) (word_sound word end i bytes))
      (λ _. begun_none (w ∷ word) v (refl, refl))

  pub word_again : (word : List ℕ) (end : ℕ) (rest : List ℕ) → word_at word v end (word ++ rest) ≡ Ok (v, rest)
  word_again [] end rest = refl
  word_again (w ∷ word) end rest = rw (eq-eqb w w refl) (word_again word end rest)

  pub word_agree : (word : List ℕ) (end last : ℕ) (p : List ℕ) (c : ℕ) (q r : List ℕ)
      → Agree c q r (word_at word v end (p ++ c ∷ q)) (word_at word v last (p ++ c ∷ r))
  word_agree [] end last p c q r = kept v p refl refl
  word_agree (w ∷ word) end last [] c q r =
      let x = word_at word v end q in
      let y = word_at word v last r in
      cond_agree c q r x (Err (length (c ∷ q))) y (Err (length (c ∷ r))) (c == w)
      (past (outcome_left (Word word v) 0 q x (word_sound word end 0 q)) (outcome_left (Word word v) 0 r y (word_sound word last 0 r))) (stuck_here [] c q r)
  word_agree (w ∷ word) end last (b ∷ p) c q r =
      let x = p ++ c ∷ q in
      let y = p ++ c ∷ r in
      cond_agree c q r (word_at word v end x) (Err (length (b ∷ x))) (word_at word v last y) (Err (length (b ∷ y))) (b == w)
      (word_agree word end last p c q r) (stuck_here (b ∷ p) c q r)

  pub word_lawful : (word : List ℕ) (I : Class) → Begins I false word → Lawful (Word word v) (word_at word v) I false []
  word_lawful word I b = record {
    reads = record {
      sound = λ end i bytes n. word_sound word end i bytes;
      agree = λ end last i p c q r m n. word_agree word end last p c q r;
      begins = λ i a text is. subst (Begins I false) (sym is.1) b;
    };
    again = λ end i a text rest is h n. rw (is.0, is.1) (word_again word end rest);
  }

  pub word_text : (word : List ℕ) (j : ℕ) → Some_text (Word word v) j
  word_text word j = record { value = v; text = word; is = (refl, refl) }
