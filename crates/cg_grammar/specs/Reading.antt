-- Reading a line from its front, piece by piece. The functions of the code are told by these what they return.
use Rattle.std.specs.Prelude.{ℕ, zero, suc, Bool, true, false, List, [], ◌∷◌, ◌++◌, map, Option, Result, Ok, cond, codes}
use Rattle.std.specs.Str.{bytes_eq}
use Rattle.cg_reading.specs.Bytes.{Class}
use Rattle.cg_reading.specs.Readers.{Read, Reader, ◌>>=◌, then_at, or_at, many_at, behind_these, made_at, nothing_at}
use Rattle.cg_reading.specs.Readers.{one_at, telling_at, whole_at}
use Rattle.cg_reading.specs.Tokens.{only, blank, digit}
use Rattle.cg_reading.specs.Words.{Table, among_at}
use Rattle.cg_reading.specs.TokenReaders.{blanks_at, byte_at, gap_at, this_word_at, digits_at}
use Rattle.cg_query.specs.Tree.{Tree, Question, number, sum}
use Rattle.cg_query.specs.Tree.{terms_from, value, compare, outcome, stops, mean, temp, thermo, proof}
use Rattle.cg_grammar.specs.Found.{Found, Stated, first}
use Rattle.cg_grammar.specs.Values.{ups_tree, Last, In_none, In_arrows, Counted, whole, times}
use Rattle.cg_grammar.specs.Values.{goes_on, counted_of, times_of, with_tail, clean, negated, sum_of, minus_of, first_fault}
use Rattle.cg_grammar.specs.Values.{run_side, braces_of, asked_of, asked_of_both, checked, asking, defined}
use Rattle.cg_grammar.specs.OperandReading.{arrow, star, ups_at, ups_tree_at, nim_at, string_at, bars_at, tail_at, ups_term_at, sign_at, plain_special_at, lettered_at, use_at, whole_use_at}
use Rattle.cg_grammar.specs.Grammar.{bar, letter}
use Rattle.cg_query.specs.declared.format.Format.{Format}
use Rattle.cg_query.specs.declared.format.Format.TheVariants as formats

-- ---- what the pieces begin with

-- a switch, tiny, a board or an octal game
abbrev pub plain_begin : Class
plain_begin = (43, 43) ∷ (65, 65) ∷ (67, 68) ∷ (72, 72) ∷ (77, 77) ∷ (79, 79) ∷ (83, 84) ∷ []

abbrev pub special_begin : Class
special_begin = (43, 43) ∷ (65, 65) ∷ (67, 68) ∷ (72, 72) ∷ (77, 77) ∷ (79, 79) ∷ (83, 84) ∷ (123, 123) ∷ (40, 40) ∷ (97, 117) ∷ (119, 122) ∷ []

abbrev pub uncounted_begin : Class
uncounted_begin = (97, 122) ∷ (94, 94) ∷ (42, 43) ∷ (65, 65) ∷ (67, 68) ∷ (72, 72) ∷ (77, 77) ∷ (79, 79) ∷ (83, 84) ∷ (123, 123) ∷ (40, 40) ∷ []

abbrev pub unsigned_begin : Class
unsigned_begin = (48, 57) ∷ uncounted_begin

abbrev pub term_begin : Class
term_begin = (45, 45) ∷ unsigned_begin

abbrev pub plus_minus : Class
plus_minus = (45, 45) ∷ (43, 43) ∷ []

-- a name where one may stand, and else the other
abbrev pub with_names_at : {A : Type 0} → Format → Reader A → Reader A → Reader A
with_names_at formats.One named f = f
with_names_at formats.Two named f = or_at letter named f

-- ---- terms

-- what stands behind the digits of a number or a multiple
pub data Behind : Type 0 where
  Over : ℕ → Behind
  Times : Found → Last → Behind

-- the number or the multiple that it makes with the digits
abbrev pub counted_from : ℕ × Behind → Counted
counted_from (n, Over d) = whole n d
counted_from (n, Times e last) = times n e last

-- the bytes that would still belong to it
abbrev pub behind_goes_on : Behind → Class
behind_goes_on (Over d) = []
behind_goes_on (Times e last) = goes_on last

-- an operand that was read, with the ups and the nimber that may stand together behind it
unfoldable pub tail_of_at : Found → Reader Found
tail_of_at operand = made_at (λ v. with_tail v.0 v.1) (then_at (nothing_at operand) tail_at)

-- operands with what they end in
module _ (special : Reader (Found × Last)) where
  unfoldable pub primary_at : Reader (Found × Last)
  primary_at = or_at arrow (made_at (λ a. (clean (ups_tree a), In_arrows a)) ups_at) (or_at star (made_at (λ t. (clean t, In_none)) nim_at) special)

  unfoldable pub behind_at : Reader Behind
  behind_at = or_at (only 47) (made_at (λ v. Over v.1) (then_at (one_at (only 47)) digits_at)) (or_at (only 46) (made_at (λ v. Times v.1.0 v.1.1) (then_at (one_at (only 46)) primary_at)) (nothing_at (Over 1)))

  unfoldable pub counted_at : Reader (ℕ × Behind)
  counted_at = then_at digits_at behind_at

  unfoldable pub counted_term_at : Bool → Reader Found
  counted_term_at negative = made_at (λ v. with_tail (counted_of negative (counted_from v.0)) v.1) (then_at counted_at tail_at)

  unfoldable pub whole_term_at : Reader Found
  whole_term_at = made_at (λ v. with_tail v.0.0 v.1) (then_at special tail_at)

-- the same, without what they end in
module _ (special : Reader Found) where
  unfoldable pub plain_primary_at : Reader Found
  plain_primary_at = or_at arrow (made_at clean ups_tree_at) (or_at star (made_at clean nim_at) special)

  unfoldable pub times_at : Bool → ℕ → Reader Found
  times_at negative n = made_at (λ v. times_of negative n v.1) (then_at (one_at (only 46)) plain_primary_at)

  unfoldable pub behind_number_at : Bool → ℕ → Reader Found
  behind_number_at negative n = or_at (only 47) (made_at (λ v. clean (number negative n v.1)) (then_at (one_at (only 47)) digits_at)) (or_at (only 46) (times_at negative n) (nothing_at (clean (number negative n 1))))

  unfoldable pub number_or_multiple_at : Bool → Reader Found
  number_or_multiple_at negative end bytes = digits_at end bytes >>= λ x. behind_number_at negative x.0 end x.1

  unfoldable pub plain_counted_term_at : Bool → Reader Found
  plain_counted_term_at negative = made_at (λ v. with_tail v.0 v.1) (then_at (number_or_multiple_at negative) tail_at)

  -- the point and the operand of a multiple, and what stands together with it
  unfoldable pub counted_multiple_at : Bool → ℕ → Reader Found
  counted_multiple_at negative n = made_at (λ v. with_tail v.0 v.1) (then_at (times_at negative n) tail_at)

  unfoldable pub special_term_at : Reader Found
  special_term_at = made_at (λ v. with_tail v.0 v.1) (then_at special tail_at)

  unfoldable pub uncounted_term_at : Reader Found
  uncounted_term_at = or_at arrow ups_term_at (or_at star (made_at clean nim_at) special_term_at)

  unfoldable pub unsigned_term_at : Reader Found
  unsigned_term_at = or_at digit (plain_counted_term_at false) uncounted_term_at

  unfoldable pub minus_body_at : Reader Found
  minus_body_at = or_at digit (plain_counted_term_at true) (or_at blank (made_at (λ v. negated v.1) (then_at gap_at unsigned_term_at)) (made_at negated uncounted_term_at))

  unfoldable pub minus_term_at : Reader Found
  minus_term_at = made_at (λ v. v.1) (then_at (one_at (only 45)) minus_body_at)

  unfoldable pub term_at : Reader Found
  term_at = or_at (only 45) minus_term_at unsigned_term_at

  unfoldable pub next_term_at : Reader (Bool × Found)
  next_term_at = made_at (λ v. (v.0, v.1.1.0)) (then_at sign_at (then_at blanks_at (then_at term_at blanks_at)))

  -- an expression and the blanks behind it
  unfoldable pub sum_at : Reader Found
  sum_at = made_at (λ v. sum_of v.0 v.1.1) (then_at term_at (then_at blanks_at (many_at plus_minus next_term_at)))

-- ---- brackets around these expressions

module _ (expr : Reader Found) where
  unfoldable pub next_item_at : Reader Found
  next_item_at = made_at (λ v. v.1.1) (then_at (one_at (only 44)) (then_at blanks_at expr))

  unfoldable pub items_at : Reader (List Found)
  items_at = made_at (λ v. v.0 ∷ v.1) (then_at expr (many_at (only 44) next_item_at))

  -- the first item and those behind it
  unfoldable pub item_list_at : Reader (List Found)
  item_list_at end bytes = expr end bytes >>= λ x. behind_these (only 44) next_item_at (x.0 ∷ []) end x.1

  unfoldable pub side_at : Reader (List Found)
  side_at = made_at (λ v. v.1) (then_at blanks_at (or_at term_begin item_list_at (nothing_at [])))

  abbrev pub row_at : Reader ((ℕ × ℕ) × List Found)
  row_at = then_at bars_at side_at

  abbrev pub some_rows_at : Reader (((ℕ × ℕ) × List Found) × List ((ℕ × ℕ) × List Found))
  some_rows_at = then_at row_at (many_at bar row_at)

  -- the first row and those behind it
  unfoldable pub row_list_at : Reader (List ((ℕ × ℕ) × List Found))
  row_list_at end bytes = row_at end bytes >>= λ x. behind_these bar row_at (x.0 ∷ []) end x.1

  unfoldable pub braces_at : Reader Found
  braces_at = made_at (λ v. braces_of v.1.0 (map run_side v.1.1.0)) (then_at (byte_at 123) (then_at side_at (then_at row_list_at (byte_at 125))))

  unfoldable pub paren_at : Reader Found
  paren_at = made_at (λ v. v.1.1.0) (then_at (byte_at 40) (then_at blanks_at (then_at expr (byte_at 41))))

-- an expression in brackets
unfoldable pub bracket_at : Reader Found → Reader Found
bracket_at expr = or_at (only 123) (braces_at expr) (paren_at expr)

-- a special that is no name, with so many brackets at most open at once
unfoldable pub bare_special_at : Format → ℕ → Reader Found
bare_special_at format zero end bytes = plain_special_at end bytes
bare_special_at format (suc k) end bytes = or_at plain_begin plain_special_at (bracket_at (sum_at (λ e b. with_names_at format use_at (λ o s. bare_special_at format k o s) e b))) end bytes

-- a special
unfoldable pub special_at : Format → ℕ → Reader Found
special_at format k end bytes = with_names_at format use_at (bare_special_at format k) end bytes

-- the same, with what it ends in
unfoldable pub whole_special_at : Format → ℕ → Reader (Found × Last)
whole_special_at format k = with_names_at format whole_use_at (made_at (λ e. (e, In_none)) (bare_special_at format k))

-- more terms behind these, where these faults come before
abbrev pub with_terms : List (Bool × Tree) → Option ℕ → Read (List (Bool × Found)) → Read Found
with_terms front fault read = read >>= λ x. Ok (record { tree = sum (terms_from (front ++ minus_of x.0)); fault = first fault (first_fault x.0) }, x.1)

unfoldable pub more_terms_at : Format → ℕ → List (Bool × Tree) → Option ℕ → Reader Found
more_terms_at format k front fault end bytes = with_terms front fault (many_at plus_minus (next_term_at (special_at format k)) end bytes)

-- ---- lines

abbrev pub with_semicolon_at : {A B : Type 0} → Reader A → Reader B → Reader (A × B)
with_semicolon_at f g = made_at (λ v. (v.0, v.1.1.1)) (then_at f (then_at (byte_at 59) (then_at blanks_at g)))

-- two expressions with a semicolon between them
unfoldable pub both_at : Format → Reader (Found × Found)
both_at format = with_semicolon_at (sum_at (special_at format 64)) (sum_at (special_at format 64))

-- a text, and the blanks behind it
abbrev pub last_string_at : Reader (List ℕ)
last_string_at = made_at (λ v. v.0) (then_at string_at blanks_at)

-- what the first word of a line tells
pub data Kind : Type 0 where
  Of_one : (Tree → Question) → Kind
  Of_two : (Tree → Tree → Question) → Kind
  Of_check : Kind
  Of_name : Kind

-- the words of questions that letters of names spell
abbrev pub kinds : Table Kind
kinds =
    (codes "compare", Of_two compare) ∷ (codes "outcome", Of_one outcome) ∷ (codes "stops", Of_one stops) ∷ (codes "mean", Of_one mean)
    ∷ (codes "temp", Of_one temp) ∷ (codes "thermo", Of_one thermo) ∷ (codes "proof", Of_two proof) ∷ (codes "check", Of_check) ∷ []

-- the words of questions
abbrev pub question_kinds : Table Kind
question_kinds = (codes "value", Of_one value) ∷ kinds

abbrev pub kind_among : Table Kind → List ℕ → Kind
kind_among [] word = Of_name
kind_among (k ∷ ks) word = cond (bytes_eq word k.0) k.1 (kind_among ks word)

-- a word that is none of a question is a name
abbrev pub kind_of : List ℕ → Kind
kind_of word = kind_among kinds word

unfoldable pub question_word_at : Reader Kind
question_word_at = among_at question_kinds

-- the question for a value: no name begins as this word does
unfoldable pub value_word_at : Reader (List ℕ × Kind)
value_word_at = made_at (λ _. ([], Of_one value)) (this_word_at (codes "value"))

-- the first word of a line, where it may be a name, and what it tells
abbrev pub first_word_at : Format → Reader (List ℕ × Kind)
first_word_at formats.One = made_at (λ k. ([], k)) question_word_at
first_word_at formats.Two = or_at (only 118) value_word_at (made_at (λ w. (w, kind_of w)) lettered_at)

-- ":=", and what stands around it
unfoldable pub becomes_at : Reader (Unit {0})
becomes_at = made_at (λ _. tt {0}) (then_at blanks_at (then_at (this_word_at (codes ":=")) blanks_at))

-- what stands behind the first word
abbrev pub behind_word_at : Format → List ℕ → Kind → Reader Stated
behind_word_at format word (Of_one ask) = made_at (λ v. asking (asked_of ask v.1)) (then_at gap_at (sum_at (special_at format 64)))
behind_word_at format word (Of_two ask) = made_at (λ v. asking (asked_of_both ask v.1.0 v.1.1)) (then_at gap_at (both_at format))
behind_word_at format word Of_check = made_at (λ v. asking (checked v.1.0.0 v.1.0.1 v.1.1)) (then_at gap_at (with_semicolon_at (both_at format) last_string_at))
behind_word_at format word Of_name = made_at (λ v. defined word v.1) (then_at becomes_at (sum_at (special_at format 64)))

-- what a line states that begins with no blank
unfoldable pub statement_at : Format → Reader Stated
statement_at format = telling_at (first_word_at format) (λ w. behind_word_at format w.0 w.1)

unfoldable pub line_at : Format → Reader Stated
line_at format = made_at (λ v. v.1) (then_at blanks_at (statement_at format))

-- the whole line
unfoldable pub read_at : Format → List ℕ → Result Stated ℕ
read_at format text = whole_at (line_at format) text
