-- The grammar as it is read: what several alternatives begin with stands in front of them, and blanks belong to what
-- stands before them.
use Rattle.std.specs.Prelude.{ℕ, zero, suc, Bool, true, false, List, [], ◌∷◌, length, codes}
use Rattle.cg_reading.specs.Pieces.{Piece, Then, Or, Many, Made, Nothing, One, Bytes, Word, Longest, Telling}
use Rattle.cg_reading.specs.Tokens.{only, blanks, gap, with_blanks, digits}
use Rattle.cg_reading.specs.Words.{Among}
use Rattle.cg_query.specs.Tree.{tiny, octal, value}
use Rattle.cg_grammar.specs.Found.{Found, Stated}
use Rattle.cg_grammar.specs.Values.{Arrows, Last, counted_of, with_tail, clean, negated, sum_of, one_text}
use Rattle.cg_grammar.specs.Values.{two_texts, asked_of, asked_of_both, checked, asking, defined}
use Rattle.cg_grammar.specs.Grammar.{number, string, nim, enclosed, switch_piece, string_and, tail, ups_and_nim, primary, special_tail}
use Rattle.cg_grammar.specs.Grammar as g
use Rattle.cg_grammar.specs.OperandReading.{Named, Of_tiny, Of_one_text, Of_two_texts, Of_octal, named_words}
use Rattle.cg_grammar.specs.Reading.{Behind, Over, Times}
use Rattle.cg_grammar.specs.Reading.{counted_from, behind_goes_on, Kind, Of_one, Of_two, Of_check, Of_name, question_kinds, kind_of}
use Rattle.cg_query.specs.declared.format.Format.{Format}
use Rattle.cg_query.specs.declared.format.Format.TheVariants as formats

-- what follows the first arrow: a count, or more arrows
abbrev pub count : ℕ → Piece (ℕ × Bool)
count b = Or (Made (λ n. (n, false)) digits) (Made (λ bs. (suc (length bs), true)) (Bytes (only b)))

abbrev pub arrows : Bool → ℕ → Piece Arrows
arrows down b = Made (λ v. record { down = down; count = v.1.0; is_run = v.1.1 }) (Then (One (only b)) (count b))

abbrev pub ups : Piece Arrows
ups = Or (arrows false 94) (arrows true 118)

abbrev pub this_word : List ℕ → Piece (Unit {0})
this_word word = Word word (tt {0})

-- ---- switches, tiny, boards and octal games

-- what stands behind the word of an operand
abbrev pub behind_named : Named → Piece Found
behind_named (Of_tiny miny) = Made (λ v. clean (tiny miny v.0 v.1)) (enclosed number)
behind_named (Of_one_text kind) = Made (λ v. clean (one_text kind v.1)) (Then blanks (enclosed string))
behind_named (Of_two_texts kind) = Made (λ v. clean (two_texts kind v.1.0 v.1.1)) (Then blanks (enclosed (string_and string)))
behind_named Of_octal = Made (λ v. clean (octal v.1.0 v.1.1)) (Then blanks (enclosed (string_and digits)))

abbrev pub named : Piece Found
named = Telling (Among named_words) behind_named

abbrev pub plain_special : Piece Found
plain_special = Or switch_piece named

-- ---- terms and sums, over what a special may be

abbrev pub sign : Piece Bool
sign = Or (Made (λ _. true) (One (only 45))) (Made (λ _. false) (One (only 43)))

module _ (special : Piece (Found × Last)) where
  abbrev pub behind : Piece Behind
  behind = Or (Made (λ v. Over v.1) (Then (One (only 47)) digits)) (Or (Made (λ v. Times v.1.0 v.1.1) (Then (One (only 46)) (primary special))) (Nothing (Over 1)))

  abbrev pub counted : Piece (ℕ × Behind)
  counted = Then digits behind

  -- a number or a multiple with a tail, and a minus in front of it if it is negative
  abbrev pub counted_term : Bool → Piece Found
  counted_term negative = Made (λ v. with_tail (counted_of negative (counted_from v.0)) v.1) (Longest (λ v. behind_goes_on v.1) counted tail)

  abbrev pub uncounted_term : Piece Found
  uncounted_term = Or ups_and_nim (Or (Made clean nim) (special_tail special))

  -- a term with no minus in front
  abbrev pub unsigned_term : Piece Found
  unsigned_term = Or (counted_term false) uncounted_term

  -- what follows a minus: a number that it is a part of, a term behind blanks, or a term that begins with no digit
  abbrev pub minus_body : Piece Found
  minus_body = Or (counted_term true) (Or (Made (λ v. negated v.1) (Then gap unsigned_term)) (Made negated uncounted_term))

  abbrev pub minus_term : Piece Found
  minus_term = Made (λ v. v.1) (Then (One (only 45)) minus_body)

  abbrev pub term : Piece Found
  term = Or minus_term unsigned_term

  -- a sign and a term, and the blanks behind it
  abbrev pub next_term : Piece (Bool × Found)
  next_term = Made (λ v. (v.0, v.1.1.0)) (Then sign (Then blanks (Then term blanks)))

  -- an expression and the blanks behind it
  abbrev pub sum : Piece Found
  sum = Made (λ v. sum_of v.0 v.1.1) (Then term (Then blanks (Many next_term)))

-- ---- brackets around these expressions

module _ (expr : Piece Found) where
  abbrev pub next_item : Piece Found
  next_item = Made (λ v. v.1.1) (Then (One (only 44)) (Then blanks expr))

  abbrev pub items : Piece (List Found)
  items = Made (λ v. v.0 ∷ v.1) (Then expr (Many next_item))

  abbrev pub side : Piece (List Found)
  side = Made (λ v. v.1) (Then blanks (Or items (Nothing [])))

  abbrev pub braces : Piece Found
  braces = g.braces side

  abbrev pub paren : Piece Found
  paren = Made (λ v. v.1.1.0) (Then (One (only 40)) (Then blanks (Then expr (One (only 41)))))

-- a name where one may stand, and else the other
abbrev pub with_names : Format → Piece (Found × Last) → Piece (Found × Last)
with_names formats.One R = R
with_names formats.Two R = Or g.use_piece R

-- a special that is no name
unfoldable pub bare : Format → ℕ → Piece Found
bare format zero = plain_special
bare format (suc k) =
    Or plain_special (Or (braces (sum (with_names format (g.whole_piece (bare format k))))) (paren (sum (with_names format (g.whole_piece (bare format k))))))

abbrev pub special : Format → ℕ → Piece (Found × Last)
special format k = with_names format (g.whole_piece (bare format k))

-- an expression with so many brackets at most open at once, and the blanks behind it
abbrev pub expr : Format → ℕ → Piece Found
expr format k = sum (special format k)

-- ---- lines

abbrev pub with_semicolon : {A B : Type 0} → Piece A → Piece B → Piece (A × B)
with_semicolon R S = Made (λ v. (v.0, v.1.1.1)) (Then R (Then (One (only 59)) (Then blanks S)))

abbrev pub both : Format → Piece (Found × Found)
both format = with_semicolon (expr format 64) (expr format 64)

abbrev pub becomes : Piece (Unit {0})
becomes = Made (λ _. tt {0}) (Then blanks (Then (this_word (codes ":=")) blanks))

-- the first word, and what it tells
abbrev pub first_word : Format → Piece (List ℕ × Kind)
first_word formats.One = Made (λ k. ([], k)) (Among question_kinds)
first_word formats.Two = Or (Made (λ _. ([], Of_one value)) (this_word (codes "value"))) (Made (λ w. (w, kind_of w)) g.lettered)

-- what stands behind the first word
abbrev pub behind_word : Format → List ℕ → Kind → Piece Stated
behind_word format word (Of_one ask) = Made (λ v. asking (asked_of ask v.1)) (Then gap (expr format 64))
behind_word format word (Of_two ask) = Made (λ v. asking (asked_of_both ask v.1.0 v.1.1)) (Then gap (both format))
behind_word format word Of_check = Made (λ v. asking (checked v.1.0.0 v.1.0.1 v.1.1)) (Then gap (with_semicolon (both format) (with_blanks string)))
behind_word format word Of_name = Made (λ v. defined word v.1) (Then becomes (expr format 64))

abbrev pub statement : Format → Piece Stated
statement format = Telling (first_word format) (λ w. behind_word format w.0 w.1)

abbrev pub line : Format → Piece Stated
line format = Made (λ v. v.1) (Then blanks (statement format))
