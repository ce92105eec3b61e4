-- What is read of the text of a certificate.
use Rattle.std.specs.Prelude.{◌≡◌, ℕ, ◌<◌, ◌^◌, ◌&&◌, nat_le, Bool, true, false, cond, List, [], ◌∷◌, ◌++◌, drop, decimal, Option, Some, None}
use Rattle.cg_form.specs.Game.{Game}
use Rattle.cg_cert.specs.declared.stage.Stage.{Stage}
use Rattle.cg_cert.specs.declared.token.Letter.{Letter}
use Rattle.cg_cert.specs.Certificate.{answer_in}
use Rattle.cg_cert.specs.Pairs.{Pair, led}
use Rattle.cg_cert.specs.Positions.{IsStage, stage_at}

-- the input begins with a text of this kind, and what follows is left; or it begins with none
pub record Reads (IsText : List ℕ → Type 0) (input : List ℕ) (left : Option (List ℕ)) : Type 0 where
  pub sound : (rest : List ℕ) → left ≡ Some rest → (x : List ℕ) × IsText x × (input ≡ x ++ rest)
  pub complete : (x rest : List ℕ) → IsText x → input ≡ x ++ rest → left ≡ Some rest

-- the text is this byte
abbrev pub IsByte : ℕ → List ℕ → Type 0
IsByte byte text = text ≡ byte ∷ []

-- the letter of an answer in the first game, `g`, or in the second, `h`
abbrev pub letter_byte : Bool → ℕ
letter_byte is_first = cond is_first 103 104

-- the bytes from a place on begin with a letter, behind whose end the others are left; or they don't
abbrev pub IsLetter : List ℕ → List ℕ → Option Letter → Type 0
IsLetter bytes input None = Reads (IsByte (letter_byte true)) input None × Reads (IsByte (letter_byte false)) input None
IsLetter bytes input (Some l) = Reads (IsByte (letter_byte l.is_first)) input (Some (drop l.end bytes))

abbrev pub is_digit : ℕ → Bool
is_digit byte = nat_le 48 byte && nat_le byte 57

-- the place below the count that these digits write; or they write none
abbrev pub IsPlace : ℕ → List ℕ → Option ℕ → Type 0
IsPlace count digits None = (i : ℕ) → i < count → ¬ (decimal i ≡ digits)
IsPlace count digits (Some i) = (i < count) × (decimal i ≡ digits)

-- the digits are those of no answer
pub record LeadsNowhere (m : Pair) (is_first : Bool) (digits : List ℕ) : Type 0 where
  pub small : (i : ℕ) (k : Pair) → led (answer_in is_first i) m ≡ Some k → i < 2 ^ 64
  pub none : (i : ℕ) (k : Pair) → led (answer_in is_first i) m ≡ Some k → ¬ (decimal i ≡ digits)

-- the digits are those of an answer, and it leads to this pair
pub record LeadsTo (m : Pair) (is_first : Bool) (digits : List ℕ) (n : Pair) : Type 0 where
  pub small : (i : ℕ) (k : Pair) → led (answer_in is_first i) m ≡ Some k → i < 2 ^ 64
  pub place : ℕ
  pub spelled : decimal place ≡ digits
  pub leads : led (answer_in is_first place) m ≡ Some n

-- the pair that the answer with these digits leads to
abbrev pub IsLed : List Game → Pair → Bool → List ℕ → Option Stage → Type 0
IsLed arena m is_first digits None = LeadsNowhere m is_first digits
IsLed arena m is_first digits (Some s) = IsStage arena s × LeadsTo m is_first digits (stage_at arena s)
