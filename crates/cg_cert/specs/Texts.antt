-- The texts of certificates.
use Rattle.std.specs.Prelude.{◌≡◌, ℕ, List}
use Rattle.cg_cert.specs.Certificate.{Answers, Certificate, answers_text, certificate_text}
use Rattle.cg_cert.specs.Pairs.{Pair}
use Rattle.cg_cert.specs.Proves.{Proves, ProvesAll}

-- the text of a proof of the pair
abbrev pub IsProofText : Pair → List ℕ → Type 0
IsProofText m text = (c : Certificate) × Proves c m × (text ≡ certificate_text c)

-- the text of answers to the moves that led to these pairs, each with the proof of what it leads to
abbrev pub AreAnswerTexts : List Pair → List ℕ → Type 0
AreAnswerTexts ms text = (given : Answers) × ProvesAll given ms × (text ≡ answers_text given)
