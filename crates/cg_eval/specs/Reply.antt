-- What is replied to a line.
use Rattle.std.specs.Prelude.{ℕ, Bool, true, false, ◌≡◌, ◌⊎◌, ◌++◌, List, Option, Some, None, codes, decimal}
use Rattle.cg_form.specs.Game.{Game}
use Rattle.cg_form.specs.Order.{le}
use Rattle.cg_form.specs.Simple.{Decides}
use Rattle.cg_form.specs.Stops as form
use Rattle.cg_form.specs.Sum.{nothing}
use Rattle.cg_nodes.specs.Can.{can}
use Rattle.cg_canon.specs.declared.fault.ValueFault.{ValueFault}
use Rattle.cg_canon.specs.declared.fault.ValueFault.TheVariants.{Range, Full, Depth, Positions, Memory}
use Rattle.cg_canon.specs.Items.{AllPass, IsStopped}
use Rattle.cg_names.specs.Name.{IsName}
use Rattle.cg_dyadic.specs.Wide.{places}
use Rattle.cg_thermo.specs.declared.thermo.Walls.{Walls}
use Rattle.cg_thermo.specs.Thermal.{NeedsMore}
use Rattle.cg_thermo.specs.Thermographs.{IsThermograph}
use Rattle.cg_eval.specs.Meaning.{meaning}
use Rattle.cg_query.specs.Tree.{Question, value, compare, outcome, stops, mean, temp, thermo, proof, check}
use Rattle.cg_grammar.specs.Lines.{Reads, IsUnread}
use Rattle.cg_cert.specs.Answer.{IsLong, proof_answer}
use Rattle.cg_cert.specs.Proves.{IsProofOf}
use Rattle.cg_eval.specs.declared.fault.GameFault.{GameFault}
use Rattle.cg_eval.specs.IllFormed.{fault_text}
use Rattle.cg_eval.specs.Faults.{question_fault}
use Rattle.cg_eval.specs.Items.{question_items}
use Rattle.cg_eval.specs.Pictures.{mean_text, stops_text, temp_text, thermograph_text}

-- a text, and whether it is a refusal or holds one
pub record Piece : Type 0 where
  pub text : List ℕ
  pub refused : Bool

abbrev pub answer : List ℕ → Piece
answer text = record { text = text; refused = false }

abbrev pub refusal : List ℕ → Piece
refusal text = record { text = text; refused = true }

-- ---- refusals

-- of a line that leaves the grammar at the column
abbrev pub syntax_at : ℕ → Piece
syntax_at column = refusal (codes "! syntax " ++ decimal column)

-- of a question that has an ill-formed board or heap
abbrev pub ill_formed : GameFault → Piece
ill_formed fault = refusal (fault_text fault)

-- of a question of which some item is refused
abbrev pub refusal_of : ValueFault → Piece
refusal_of Positions = refusal (codes "! positions")
refusal_of Range = refusal (codes "! range")
refusal_of (Depth depth) = refusal (codes "! depth")
refusal_of (Full total) = refusal (codes "! full")
refusal_of Memory = refusal (codes "! memory")

-- of a question for a mean or a temperature, some of which needs too many binary places
abbrev pub too_fine : Piece
too_fine = refusal (codes "! range")

-- of a question for a proof that is too long
abbrev pub too_long : Piece
too_long = refusal (codes "! long")

-- ---- answers

-- how two games compare, by whether the first is at most the second, and the second at most the first
abbrev pub comparison : Bool → Bool → List ℕ
comparison true true = codes "="
comparison true false = codes "<"
comparison false true = codes ">"
comparison false false = codes "||"

-- who wins, by whether the game is at least 0, and at most 0: Left, Right, the previous player or the next player
abbrev pub winner : Bool → Bool → List ℕ
winner true true = codes "P"
winner true false = codes "L"
winner false true = codes "R"
winner false false = codes "N"

-- what is shown of the thermograph of a game; or a refusal, where the mean or the temperature of some position of the game's canonical
-- form needs more than 60 binary places
abbrev pub IsShown : Game → (Walls → List ℕ) → Piece → Type 0
IsShown g show reply =
    (NeedsMore places (can g) × (reply ≡ too_fine))
    ⊎ ((¬ NeedsMore places (can g)) × ((w : Walls) × IsThermograph g w × (reply ≡ answer (show w))))

-- the proof that a form is at least another, or that it isn't; or a refusal, where that has more than 65,536 bytes
abbrev pub IsProofTold : Game → Game → Piece → Type 0
IsProofTold g h reply =
    (IsLong g h × (reply ≡ too_long)) ⊎ ((¬ IsLong g h) × (reply ≡ answer (proof_answer g h)))

-- `yes` where the text is a proof that a form is at least another, and else `no`
abbrev pub IsChecked : Game → Game → List ℕ → Piece → Type 0
IsChecked g h text reply =
    (IsProofOf g h text × (reply ≡ answer (codes "yes"))) ⊎ ((¬ IsProofOf g h text) × (reply ≡ answer (codes "no")))

-- the answer to the question: the name of the value, how the two compare, who wins, the stops, the mean, the temperature,
-- the whole thermograph, a proof of how the values are ordered, whether a text is one. The value of an expression is the
-- canonical form of what it means; stops, mean, temperature and thermograph are those of the very game that it means, with
-- all its options
abbrev pub IsAnswerTo : Question → Piece → Type 0
IsAnswerTo (value t) reply = (text : List ℕ) × IsName (can (meaning t)) text × (reply ≡ answer text)
IsAnswerTo (compare s t) reply = reply ≡ answer (comparison (le (meaning s) (meaning t)) (le (meaning t) (meaning s)))
IsAnswerTo (outcome t) reply = reply ≡ answer (winner (le nothing (meaning t)) (le (meaning t) nothing))
IsAnswerTo (stops t) reply =
    (d : Decides) → reply ≡ answer (stops_text (form.stops d (meaning t)).left (form.stops d (meaning t)).right)
IsAnswerTo (mean t) reply = IsShown (meaning t) mean_text reply
IsAnswerTo (temp t) reply = IsShown (meaning t) temp_text reply
IsAnswerTo (thermo t) reply = IsShown (meaning t) thermograph_text reply
IsAnswerTo (proof s t) reply = IsProofTold (can (meaning s)) (can (meaning t)) reply
IsAnswerTo (check s t text) reply = IsChecked (can (meaning s)) (can (meaning t)) text reply

-- ---- replies

-- The reply to a question, by why its first ill-formed board or heap is so. Its refusal comes first; else the refusal of
-- the first item that isn't made; else the answer.
abbrev pub IsReplyBy : Option GameFault → ℕ → ℕ → Question → Piece → Type 0
IsReplyBy (Some fault) share limit q reply = reply ≡ ill_formed fault
IsReplyBy None share limit q reply =
    ((total : ℕ) × AllPass share 0 (question_items limit q) total × IsAnswerTo q reply)
    ⊎ ((fault : ValueFault) × (total : ℕ) × IsStopped fault share 0 (question_items limit q) total
    × (reply ≡ refusal_of fault))

abbrev pub IsReplyTo : ℕ → ℕ → Question → Piece → Type 0
IsReplyTo share limit q reply = IsReplyBy (question_fault q) share limit q reply

-- the reply to a line that gets an answer: to the question that it reads as, or the refusal with its column
pub record IsReply (share limit : ℕ) (line : List ℕ) (reply : Piece) : Type 0 where
  pub read : (q : Question) → Reads line q → IsReplyTo share limit q reply
  pub unread : (column : ℕ) → IsUnread line column → reply ≡ syntax_at column
