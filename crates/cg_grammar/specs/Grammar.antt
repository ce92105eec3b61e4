-- The grammar of a line, a definition for each production, from the last one up.
--
--   line     = B query B
--   query    = ( "value" | "outcome" | "stops" | "mean" | "temp" | "thermo" ) B1 expr
--            | ( "compare" | "proof" ) B1 expr B ";" B expr
--            | "check" B1 expr B ";" B expr B ";" B string
--   expr     = term { B ( "+" | "-" ) B term }
--   term     = [ "-" ] counted tail | special tail | ups [ nim ] | nim | "-" body
--   body     = B1 counted tail | B ( special tail | ups [ nim ] | nim )
--   tail     = [ ups ] [ nim ]
--   counted  = number | multiple
--   number   = digits [ "/" digits ]
--   multiple = digits "." primary
--   primary  = ups | nim | special
--   special  = switch | tiny | braces | paren | board | octal
--   switch   = "+-" number
--   tiny     = ( "Tiny" | "Miny" ) "(" B number B ")"
--   ups      = "^" { "^" } | "^" digits | "v" { "v" } | "v" digits
--   nim      = "*" [ digits ]
--   braces   = "{" side bars side { bars side } "}"
--   side     = B [ expr { B "," B expr } B ]
--   bars     = one to eight bytes "|", with no further "|" directly after them
--   paren    = "(" B expr B ")"
--   board    = ( "Domineering" | "Clobber" | "Amazons" | "Toads" | "Hackenbush" ) B "(" B string B ")"
--            | ( "Strip" | "Col" | "Snort" ) B "(" B string B "," B string B ")"
--   octal    = "Octal" B "(" B string B "," B digits B ")"
--   string   = one quotation mark, any bytes 0x20 to 0x7E but a quotation mark, one quotation mark
--   digits   = one to thirty bytes "0" to "9"
--
-- In format 2 there are also
--
--   line     = B query B | B define B
--   define   = name B ":=" B expr
--   special  = switch | tiny | braces | paren | board | octal | name
--   name     = one byte "a" to "z" but "v", then up to fifteen bytes "a" to "z" or "0" to "9"; no word of a question
--
-- B is any number of blanks, and B1 is at least one; blanks are space, tab and CR. Tokens are as long as possible: this
-- shows in runs of bars, in runs of arrows behind the point of a multiple, in names, and in runs of digits. At most 64 braces and
-- parens are open at once.
use Rattle.std.specs.Prelude.{ℕ, zero, suc, ◌+◌, ◌≡◌, Bool, true, false, List, [], ◌∷◌, ◌++◌, length, map, Option, Some, None, codes, not}
use Rattle.std.specs.List.{list_any}
use Rattle.std.specs.Str.{bytes_eq}
use Rattle.cg_reading.specs.Bytes.{Class, Ends}
use Rattle.cg_reading.specs.Pieces.{Piece, Then, Or, Many, Made, Nothing, One, Bytes, Few, Run, Word, Placed, Longest, Such}
use Rattle.cg_reading.specs.Tokens.{only, blanks, gap, behind_blanks, with_blanks, digits}
use Rattle.cg_query.specs.Tree.{Tree, Question, nimber, switch, tiny, octal, used, value, compare, outcome, stops, mean, temp, thermo, proof}
pub use Rattle.cg_grammar.specs.Marks.{quote, opening_paren, closing_paren, asterisk, plus, comma, minus, point, slash, semicolon, opening_brace, bar, closing_brace, caret, letter_v}
use Rattle.cg_grammar.specs.Found.{Found, Asked, Stated}
use Rattle.cg_grammar.specs.Values.{Arrows, ups_tree, letter_or_digit, Last, In_none, In_arrows, In_name, goes_on, Counted, whole}
use Rattle.cg_grammar.specs.Values.{times, counted_goes_on, counted_of, with_tail, clean, negated, sum_of, run_side, braces_of}
use Rattle.cg_grammar.specs.Values.{one_text, two_texts, asked_of, asked_of_both, checked, asking as asking_line, defined}
use Rattle.cg_query.specs.declared.format.Format.{Format}
use Rattle.cg_query.specs.declared.format.Format.TheVariants as formats
use Rattle.cg_query.specs.declared.kind.GameKind.{GameKind}
use Rattle.cg_query.specs.declared.kind.GameKind.TheVariants.{Domineering, Clobber, Amazons, Toads, Strip, Hackenbush, Col, Snort}

-- ---- tokens

-- what may stand between quotation marks
abbrev pub printable : Class
printable = (32, 33) ∷ (35, 126) ∷ []

abbrev pub string : Piece (List ℕ)
string = Made (λ v. v.1.0) (Then (One quote) (Then (Bytes printable) (One quote)))

-- a run of bars, with its column
abbrev pub bars : Piece (ℕ × ℕ)
bars = Placed (Made (λ bs. length bs) (Run bar 8))

abbrev pub nim : Piece Tree
nim = Made (λ v. nimber v.1) (Then (One asterisk) (Or digits (Nothing 1)))

-- a run of arrows, or one arrow and a count
abbrev pub arrows : Bool → ℕ → Piece Arrows
arrows down b =
    Or (Made (λ v. record { down = down; count = suc (length v.1); is_run = true }) (Then (One (only b)) (Bytes (only b))))
    (Made (λ v. record { down = down; count = v.1; is_run = false }) (Then (One (only b)) digits))

abbrev pub ups : Piece Arrows
ups = Or (arrows false caret) (arrows true letter_v)

-- ---- operands without expressions in them

-- a number without a slash has the denominator 1
abbrev pub number : Piece (ℕ × ℕ)
number = Then digits (Or (Made (λ v. v.1) (Then (One slash) digits)) (Nothing 1))

-- what stands between parentheses
abbrev pub enclosed : {A : Type 0} → Piece A → Piece A
enclosed R = Made (λ v. v.1.1.0) (Then (One opening_paren) (Then blanks (Then R (Then blanks (One closing_paren)))))

abbrev pub switch_piece : Piece Found
switch_piece = Made (λ v. clean (switch v.1.1.0 v.1.1.1)) (Then (One plus) (Then (One minus) number))

abbrev pub tiny_piece : Piece Found
tiny_piece = Made (λ v. clean (tiny v.0 v.1.0 v.1.1)) (Then (Or (Word (codes "Tiny") false) (Word (codes "Miny") true)) (enclosed number))

-- the games that are written by one text, and those that are written by two
abbrev pub name_of_one : Piece GameKind
name_of_one =
    Or (Word (codes "Domineering") Domineering) (Or (Word (codes "Clobber") Clobber) (Or (Word (codes "Amazons") Amazons)
    (Or (Word (codes "Toads") Toads) (Word (codes "Hackenbush") Hackenbush))))

abbrev pub name_of_two : Piece GameKind
name_of_two = Or (Word (codes "Strip") Strip) (Or (Word (codes "Col") Col) (Word (codes "Snort") Snort))

-- a string, and a piece behind a comma
abbrev pub string_and : {A : Type 0} → Piece A → Piece (List ℕ × A)
string_and R = Made (λ v. (v.0, v.1.1.1.1)) (Then string (Then blanks (Then (One comma) (Then blanks R))))

abbrev pub board : Piece Found
board =
    Or (Made (λ v. clean (one_text v.0 v.1.1)) (Then name_of_one (Then blanks (enclosed string))))
    (Made (λ v. clean (two_texts v.0 v.1.1.0 v.1.1.1)) (Then name_of_two (Then blanks (enclosed (string_and string)))))

abbrev pub octal_piece : Piece Found
octal_piece = Made (λ v. clean (octal v.1.1.0 v.1.1.1)) (Then (Word (codes "Octal") (tt {0})) (Then blanks (enclosed (string_and digits))))

-- ---- names

-- what a name begins with: "v" is an arrow
abbrev pub letter : Class
letter = (97, 117) ∷ (119, 122) ∷ []

abbrev pub lettered : Piece (List ℕ)
lettered = Made (λ v. v.0 ∷ v.1) (Then (One letter) (Few letter_or_digit 15))

-- the words of questions that begin with such a letter
abbrev pub question_words : List (List ℕ)
question_words = codes "compare" ∷ codes "outcome" ∷ codes "stops" ∷ codes "mean" ∷ codes "temp" ∷ codes "thermo" ∷ codes "proof" ∷ codes "check" ∷ []

abbrev pub is_free : List ℕ → Bool
is_free word = not (list_any (bytes_eq word) question_words)

abbrev pub name : Piece (List ℕ)
name = Such is_free lettered

-- ---- terms and expressions, over what a special may be

abbrev pub optional : {A : Type 0} → Piece A → Piece (Option A)
optional R = Or (Made (λ v. Some v) R) (Nothing None)

abbrev pub tail : Piece (Option Tree × Option Tree)
tail = Then (optional (Made ups_tree ups)) (optional nim)

abbrev pub ups_and_nim : Piece Found
ups_and_nim = Made (λ v. with_tail (clean v.0) (None, v.1)) (Then (Made ups_tree ups) (optional nim))

abbrev pub sign : Piece Bool
sign = Or (Made (λ _. false) (One plus)) (Made (λ _. true) (One minus))

module _ (special : Piece (Found × Last)) where
  -- an operand of a multiple
  abbrev pub primary : Piece (Found × Last)
  primary = Or (Made (λ a. (clean (ups_tree a), In_arrows a)) ups) (Or (Made (λ t. (clean t, In_none)) nim) special)

  abbrev pub multiple : Piece (ℕ × (Found × Last))
  multiple = Made (λ v. (v.0, v.1.1)) (Then digits (Then (One point) primary))

  abbrev pub counted : Piece Counted
  counted = Or (Made (λ v. whole v.0 v.1) number) (Made (λ v. times v.0 v.1.0 v.1.1) multiple)

  -- with a minus in front if it is negative
  abbrev pub counted_tail : Bool → Piece Found
  counted_tail negative = Made (λ v. with_tail (counted_of negative v.0) v.1) (Longest counted_goes_on counted tail)

  abbrev pub special_tail : Piece Found
  special_tail = Made (λ v. with_tail v.0.0 v.1) (Longest (λ v. goes_on v.1) special tail)

  abbrev pub body : Piece Found
  body =
      Or (Made (λ v. v.1) (Then gap (counted_tail false)))
      (behind_blanks (Or special_tail (Or ups_and_nim (Made clean nim))))

  -- A minus directly before a digit is the sign of that number or multiple. Any other negates the whole term.
  abbrev pub term : Piece Found
  term =
      Or (Or (Made (λ v. v.1) (Then (One minus) (counted_tail true))) (counted_tail false))
      (Or special_tail (Or ups_and_nim (Or (Made clean nim) (Made (λ v. negated v.1) (Then (One minus) body)))))

  abbrev pub expr : Piece Found
  expr = Made (λ v. sum_of v.0 v.1) (Then term (Many (behind_blanks (Then sign (behind_blanks term)))))

-- ---- brackets around expressions

module _ (expr : Piece Found) where
  abbrev pub exprs : Piece (List Found)
  exprs = Made (λ v. v.0 ∷ v.1) (Then expr (Many (behind_blanks (Made (λ v. v.1) (Then (One comma) (behind_blanks expr))))))

  abbrev pub side : Piece (List Found)
  side = behind_blanks (Or (with_blanks exprs) (Nothing []))

module _ (side : Piece (List Found)) where
  -- a run of bars with no further bar directly behind it, a side, and what follows
  pub record Bars_side (rest : ℕ → List ℕ → Type 0) (i : ℕ) (r : (ℕ × ℕ) × List Found) (text : List ℕ) : Type 0 where
    pub run : List ℕ
    pub middle : List ℕ
    pub more : List ℕ
    pub is_run : bars i r.0 run
    pub is_side : side (i + length run) r.1 middle
    pub is_more : rest (i + length run + length middle) more
    pub no_bar : Ends bar (middle ++ more)
    pub spelled : text ≡ run ++ (middle ++ more)

  -- { bars side }
  abbrev pub Rows : Piece (List ((ℕ × ℕ) × List Found))
  Rows i [] text = text ≡ []
  Rows i (r ∷ rows) text = Bars_side (λ j y. Rows j rows y) i r text

  -- bars side { bars side }
  abbrev pub Some_rows : Piece (((ℕ × ℕ) × List Found) × List ((ℕ × ℕ) × List Found))
  Some_rows i v text = Bars_side (λ j y. Rows j v.1 y) i v.0 text

  abbrev pub braces : Piece Found
  braces = Made (λ v. braces_of v.1.0 (map run_side v.1.1.0)) (Then (One opening_brace) (Then side (Then (Made (λ v. v.0 ∷ v.1) Some_rows) (One closing_brace))))

-- an operand that ends in no token that may go on
abbrev pub whole_piece : Piece Found → Piece (Found × Last)
whole_piece R = Made (λ e. (e, In_none)) R

-- a use of a name
abbrev pub use_piece : Piece (Found × Last)
use_piece = Made (λ v. (clean (used v.1 v.0), In_name v.1)) (Placed name)

-- names are operands in format 2 alone
abbrev pub with_names : Format → Piece (Found × Last) → Piece (Found × Last)
with_names formats.One R = R
with_names formats.Two R = Or R use_piece

-- what may be an operand besides numbers, ups and nimbers, with so many braces and parens at most open at once
unfoldable pub special : Format → ℕ → Piece (Found × Last)
special format zero = with_names format (whole_piece (Or switch_piece (Or tiny_piece (Or board octal_piece))))
special format (suc k) =
    with_names format (whole_piece
    (Or switch_piece (Or tiny_piece (Or (braces (side (expr (special format k)))) (Or (enclosed (expr (special format k))) (Or board octal_piece))))))

-- ---- lines

-- a question about one expression
abbrev pub asking : Piece (Tree → Question)
asking =
    Or (Word (codes "value") value) (Or (Word (codes "outcome") outcome) (Or (Word (codes "stops") stops)
    (Or (Word (codes "mean") mean) (Or (Word (codes "temp") temp) (Word (codes "thermo") thermo)))))

-- a question about two
abbrev pub asking_both : Piece (Tree → Tree → Question)
asking_both = Or (Word (codes "compare") compare) (Word (codes "proof") proof)

-- two pieces, with a semicolon between them
abbrev pub with_semicolon : {A B : Type 0} → Piece A → Piece B → Piece (A × B)
with_semicolon R S = Made (λ v. (v.0, v.1.1.1)) (Then (with_blanks R) (Then (One semicolon) (Then blanks S)))

module _ (expr : Piece Found) where
  abbrev pub query : Piece Asked
  query =
      Or (Made (λ v. asked_of v.0 v.1.1) (Then asking (Then gap expr)))
      (Or (Made (λ v. asked_of_both v.0 v.1.1.0 v.1.1.1) (Then asking_both (Then gap (with_semicolon expr expr))))
      (Made (λ v. checked v.1.1.0.0 v.1.1.0.1 v.1.1.1) (Then (Word (codes "check") (tt {0})) (Then gap (with_semicolon (with_semicolon expr expr) string)))))

  -- a definition
  abbrev pub define_by : Piece Stated
  define_by = Made (λ v. defined v.0 v.1.1.1.1) (Then name (Then blanks (Then (Word (codes ":=") (tt {0})) (Then blanks expr))))

-- a line of format 1, with 64 brackets at most open at once
abbrev pub line : Piece Asked
line = behind_blanks (with_blanks (query (expr (special formats.One 64))))

abbrev pub define : Piece Stated
define = define_by (expr (special formats.Two 64))

-- a line of format 2
abbrev pub line_two : Piece Stated
line_two = behind_blanks (with_blanks (Or (Made asking_line (query (expr (special formats.Two 64)))) define))
