-- Each question has one answer.
use Rattle.std.proofs.Common.{◌≡◌, refl, ap, sym, ◌∙◌, ℕ, List, ◌⊎◌, inl, inr}
use Rattle.cg_dyadic.specs.Wide.{places}
use Rattle.cg_form.specs.Game.{Game}
use Rattle.cg_form.specs.Stops as form
use Rattle.cg_form.proofs.Decide.{number-decide}
use Rattle.cg_form.proofs.StopValues.{stops_unique}
use Rattle.cg_names.proofs.NameRule.{same_name, some_name}
use Rattle.cg_nodes.specs.Can.{can}
use Rattle.cg_thermo.specs.declared.thermo.Walls.{Walls}
use Rattle.cg_thermo.specs.Thermal.{NeedsMore}
use Rattle.cg_thermo.specs.Thermographs.{IsThermograph}
use Rattle.cg_thermo.proofs.OneThermograph.{needs-or-not, one-thermograph, some-thermograph}
use Rattle.cg_query.specs.Tree.{Question, value, compare, outcome, stops, mean, temp, thermo, proof, check}
use Rattle.cg_eval.specs.Meaning.{meaning}
use Rattle.cg_eval.specs.Pictures.{mean_text, stops_text, temp_text, thermograph_text}
use Rattle.cg_eval.specs.Reply.{IsAnswerTo, IsChecked, IsProofTold, IsShown, Piece, answer, too_fine, too_long}
use Rattle.cg_cert.specs.Answer.{IsLong, proof_answer}
use Rattle.cg_cert.specs.Proves.{IsProofOf}
use Rattle.std.specs.Prelude.{codes}
use Rattle.cg_eval.proofs.ProofTexts.{long-or-not, proof-or-not}

one-shown : (g : Game) (show : Walls → List ℕ) (p r : Piece) → IsShown g show p → IsShown g show r → p ≡ r
one-shown g show p r (inl a) (inl b) = a.1 ∙ sym b.1
one-shown g show p r (inl a) (inr b) = absurd (b.0 a.0)
one-shown g show p r (inr a) (inl b) = absurd (a.0 b.0)
one-shown g show p r (inr (n, (x, is, e))) (inr (m, (y, same, f))) =
    e ∙ ap (λ z. answer (show z)) (one-thermograph g x y is same) ∙ sym f

some-shown : (g : Game) (show : Walls → List ℕ) → (p : Piece) × IsShown g show p
some-shown g show = by (needs-or-not (can g)) (some-thermograph g)
  where
    by : NeedsMore places (can g) ⊎ (¬ NeedsMore places (can g)) → ((w : Walls) × IsThermograph g w) → (p : Piece) × IsShown g show p
    by (inl n) x = (too_fine, inl (n, refl))
    by (inr n) x = (answer (show x.0), inr (n, (x.0, x.1, refl)))

one-proved : (g h : Game) (p r : Piece) → IsProofTold g h p → IsProofTold g h r → p ≡ r
one-proved g h p r (inl a) (inl b) = a.1 ∙ sym b.1
one-proved g h p r (inl a) (inr b) = absurd (b.0 a.0)
one-proved g h p r (inr a) (inl b) = absurd (a.0 b.0)
one-proved g h p r (inr a) (inr b) = a.1 ∙ sym b.1

one-checked : (g h : Game) (text : List ℕ) (p r : Piece) → IsChecked g h text p → IsChecked g h text r → p ≡ r
one-checked g h text p r (inl a) (inl b) = a.1 ∙ sym b.1
one-checked g h text p r (inl a) (inr b) = absurd (b.0 a.0)
one-checked g h text p r (inr a) (inl b) = absurd (a.0 b.0)
one-checked g h text p r (inr a) (inr b) = a.1 ∙ sym b.1

some-proved : (g h : Game) → (p : Piece) × IsProofTold g h p
some-proved g h = by (long-or-not g h)
  where
    by : IsLong g h ⊎ (¬ IsLong g h) → (p : Piece) × IsProofTold g h p
    by (inl long) = (too_long, inl (long, refl))
    by (inr short) = (answer (proof_answer g h), inr (short, refl))

some-checked : (g h : Game) (text : List ℕ) → (p : Piece) × IsChecked g h text p
some-checked g h text = by (proof-or-not g h text)
  where
    by : IsProofOf g h text ⊎ (¬ IsProofOf g h text) → (p : Piece) × IsChecked g h text p
    by (inl is) = (answer (codes "yes"), inl (is, refl))
    by (inr other) = (answer (codes "no"), inr (other, refl))

pub one-answer : (q : Question) (p r : Piece) → IsAnswerTo q p → IsAnswerTo q r → p ≡ r
one-answer (value t) p r (x, n, e) (y, m, f) = e ∙ ap answer (same_name (can (meaning t)) x y n m) ∙ sym f
one-answer (compare s t) p r a b = a ∙ sym b
one-answer (outcome t) p r a b = a ∙ sym b
one-answer (stops t) p r a b = a number-decide ∙ sym (b number-decide)
one-answer (mean t) p r a b = one-shown (meaning t) mean_text p r a b
one-answer (temp t) p r a b = one-shown (meaning t) temp_text p r a b
one-answer (thermo t) p r a b = one-shown (meaning t) thermograph_text p r a b
one-answer (proof s t) p r a b = one-proved (can (meaning s)) (can (meaning t)) p r a b
one-answer (check s t text) p r a b = one-checked (can (meaning s)) (can (meaning t)) text p r a b

pub some-answer : (q : Question) → (p : Piece) × IsAnswerTo q p
some-answer (value t) = let (text, n) = some_name (can (meaning t)) in (answer text, (text, n, refl))
some-answer (compare s t) = (_, refl)
some-answer (outcome t) = (_, refl)
some-answer (stops t) = (
  answer (stops_text (form.stops number-decide (meaning t)).left (form.stops number-decide (meaning t)).right),
  λ d. ap (λ (z : form.Stops). answer (stops_text z.left z.right)) (stops_unique number-decide d (meaning t)),
)
some-answer (mean t) = some-shown (meaning t) mean_text
some-answer (temp t) = some-shown (meaning t) temp_text
some-answer (thermo t) = some-shown (meaning t) thermograph_text
some-answer (proof s t) = some-proved (can (meaning s)) (can (meaning t))
some-answer (check s t text) = some-checked (can (meaning s)) (can (meaning t)) text
