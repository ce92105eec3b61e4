-- The answers in a proof, checked one after another.
use Rattle.std.proofs.Common.{◌≡◌, refl, ap, sym, ◌∙◌, ℕ, ◌≤◌, arith, length, drop, append-nil, List, [], ◌∷◌}
use Rattle.std.proofs.Common.{◌++◌, Option, Some, None, option_map, Result, Ok, Err, IfOk, Bool, false}
use Rattle.std.proofs.Math.ListN.{drop_of_length-le}
use Rattle.std.proofs.lemmas.List.{length-drop}
use Rattle.cg_form.specs.Game.{Game}
use Rattle.cg_cert.specs.declared.stage.Stage.{Stage}
use Rattle.cg_cert.specs.Certificate.{certificate_text}
use Rattle.cg_cert.specs.Pairs.{Pair, both_numbers, moves, pair}
use Rattle.cg_cert.specs.Positions.{AreStages, stage_at, stages_at}
use Rattle.cg_cert.specs.Proves.{IsProofOf}
use Rattle.cg_cert.specs.Reads.{IsByte, LeadsTo, Reads}
use Rattle.cg_cert.specs.Texts.{AreAnswerTexts, IsProofText}
use Rattle.cg_cert.proofs.AnswerTexts.{Lettered, reads_answer}
use Rattle.cg_cert.proofs.Readers.{Splits, reads_stop, reads_then}
use Rattle.cg_cert.proofs.TextParts.{Closed, closed_splits, proof_splits, reads_closing}
use Rattle.cg_cert.proofs.Walking.{Walk, walk_all, walk_more}

-- what is left to read makes the whole proof
pub record Checking (arena : List Game) (m : Pair) (before now : List ℕ) (rest : List Stage) : Type 0 where
  pub walk : Walk arena m rest
  pub onward : (r : Option (List ℕ)) → Reads (Closed (stages_at arena rest)) now r → Reads (IsProofText m) before r

pub checking_no_bracket : (m : Pair) (before : List ℕ) → both_numbers m ≡ false → Reads (IsByte 40) before None
    → Reads (IsProofText m) before None
checking_no_bracket m before b f =
    reads_stop (IsProofText m) (IsByte 40) (Closed (moves m)) (proof_splits m b) before f

module _ (arena : List Game) (m : Pair) (before now : List ℕ) where
  pub checking_all : (all : List Stage) → both_numbers m ≡ false → AreStages arena all → stages_at arena all ≡ moves m
      → Reads (IsByte 40) before (Some now) → Checking arena m before now all
  checking_all all b a e f = record {
    walk = walk_all arena m all b a e;
    onward = rw e (λ r v. reads_then (IsProofText m) (IsByte 40) (Closed (moves m)) (proof_splits m b) before now r f v);
  }

  module _ (others : List Stage) (p : Stage) (h : Checking arena m before now (p ∷ others)) where
    splits : Splits (Closed (stage_at arena p ∷ stages_at arena others)) (AreAnswerTexts (stage_at arena p ∷ []))
        (Closed (stages_at arena others))
    splits = closed_splits (stage_at arena p) (stages_at arena others)

    pub checking_more : (next : List ℕ) → Reads (AreAnswerTexts (stage_at arena p ∷ [])) now (Some next)
        → Checking arena m before next others
    checking_more next f = record {
      walk = walk_more arena m others p h.walk;
      onward = λ r v. h.onward r (reads_then _ _ _ splits now next r f v);
    }

    pub checking_stop : Reads (AreAnswerTexts (stage_at arena p ∷ [])) now None → Reads (IsProofText m) before None
    checking_stop f = h.onward None (reads_stop _ _ _ splits now f)

  pub checking_end : (rest : List Stage) (r : Option (List ℕ)) → Checking arena m before now rest → length rest ≡ 0
      → Reads (IsByte 41) now r → Reads (IsProofText m) before r
  checking_end [] r h e f = h.onward r (reads_closing now r f)
  checking_end (p ∷ ps) r h e f = absurd (omega arith)

-- ---- results that are passed on

-- the proof of the pair that the answer leads to makes the answer's text
pub answer_then : {E : Type 0} (m n : Pair) (b : Bool) (input behind digits tail bytes : List ℕ)
    (r : Result (Option ℕ) E) → Lettered b input behind digits tail → LeadsTo m b digits n
    → IfOk r (λ x. Reads (IsProofText n) tail (option_map (λ end. drop end bytes) x))
    → IfOk r (λ x. Reads (AreAnswerTexts (m ∷ [])) input (option_map (λ end. drop end bytes) x))
answer_then m n b input behind digits tail bytes (Ok x) l k h =
    reads_answer m n b input behind digits tail (option_map (λ end. drop end bytes) x) l k h
answer_then m n b input behind digits tail bytes (Err e) l k h = tt

-- ---- whole texts

-- the text that is spelled has nothing behind it
spelled_whole : (g h : Game) (bytes : List ℕ) (p : IsProofOf g h bytes) → bytes ≡ certificate_text p.certificate ++ []
spelled_whole g h bytes p = p.spelled ∙ sym (append-nil (certificate_text p.certificate))

pub no_proof : (g h : Game) (bytes : List ℕ) → Reads (IsProofText (pair g h)) bytes None → ¬ IsProofOf g h bytes
no_proof g h bytes t p =
    let n : None ≡ Some [] = t.complete (certificate_text p.certificate) [] (p.certificate, p.proves, refl)
    (spelled_whole g h bytes p) in
    absurd (cc)

pub proof_to_end : (g h : Game) (bytes : List ℕ) (end : ℕ) → Reads (IsProofText (pair g h)) bytes (Some (drop end bytes))
    → length bytes ≤ end → IsProofOf g h bytes
proof_to_end g h bytes end t l =
    let all : drop end bytes ≡ [] = drop_of_length-le bytes l in
    let (x, w, e) = t.sound [] (ap Some all) in
    let (c, p, f) = w in
    record { certificate = c; proves = p; spelled = e ∙ append-nil x ∙ f }

pub proof_ends : (g h : Game) (bytes : List ℕ) (end : ℕ) → Reads (IsProofText (pair g h)) bytes (Some (drop end bytes))
    → IsProofOf g h bytes → length bytes ≤ end
proof_ends g h bytes end t p =
    let n : Some (drop end bytes) ≡ Some [] = t.complete (certificate_text p.certificate) []
    (p.certificate, p.proves, refl) (spelled_whole g h bytes p) in
    let all : drop end bytes ≡ [] = cc in
    let k : length (drop end bytes) ≡ 0 = ap length all in
    let d = length-drop end bytes in
    omega arith
