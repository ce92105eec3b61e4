-- The laws of the readers of names, of expressions with any number of brackets, and of lines.
use Rattle.std.proofs.Common.{◌≡◌, ℕ, zero, suc, ◌+◌, inl, true, false, List, [], ◌∷◌, ◌++◌, length, refl}
use Rattle.std.specs.Prelude.{codes}
use Rattle.cg_reading.specs.Bytes.{Class}
use Rattle.cg_reading.specs.Pieces.{Piece, Then, Made, One}
use Rattle.cg_reading.specs.Readers.{Reader, made_at}
use Rattle.cg_reading.specs.Tokens.{only, blank, blanks, gap, with_blanks}
use Rattle.cg_reading.proofs.Sets.{apart}
use Rattle.cg_reading.proofs.Laws.{Lawful, Reads, Some_text}
use Rattle.cg_reading.proofs.ByteRuns.{one_lawful, bytes_lawful, no_text}
use Rattle.cg_reading.proofs.OneWord.{word_text}
use Rattle.cg_reading.proofs.Longest.{Token, plain_token, placed_token, made_full, or_full_ok, then_full, wide_token}
use Rattle.cg_reading.proofs.Rules.{then_ok, or_ok, made_ok, wide_ok, then_text, made_text, left_text, right_text}
use Rattle.cg_reading.proofs.MostBytes.{most_token, more_apart}
use Rattle.cg_reading.proofs.Tellings.{such_token, telling_ok}
use Rattle.cg_reading.proofs.WordTables.{among_ok}
use Rattle.cg_reading.proofs.TokenLaws.{byte_ok, byte_text, gap_ok, gap_text, this_word_ok}
use Rattle.cg_query.specs.Tree.{switch, used, value}
use Rattle.cg_grammar.specs.Found.{Found}
use Rattle.cg_grammar.specs.Values.{Last, In_none, In_name, goes_on, letter_or_digit, more_letters, clean, asked_of, asked_of_both, checked, asking, defined}
use Rattle.cg_grammar.specs.Grammar as s
use Rattle.cg_grammar.specs.Grammar.{bar, letter, is_free}
use Rattle.cg_grammar.specs.OperandReading.{lettered_at, name_at, whole_use_at}
use Rattle.cg_grammar.specs.Reading as r
use Rattle.cg_grammar.specs.Reading.{special_begin, term_begin, plus_minus}
use Rattle.cg_query.specs.declared.format.Format.{Format}
use Rattle.cg_query.specs.declared.format.Format.TheVariants as formats
use Rattle.cg_grammar.proofs.Factored as g
use Rattle.cg_grammar.proofs.Plain.{whole_special_is}
use Rattle.cg_grammar.proofs.FreeWords.{other_name, no_few}
use Rattle.cg_grammar.proofs.TokenProductions.{number_text, number_follow, string_ok, string_text, plain_special_ok}
use Rattle.cg_grammar.proofs.TermProductions.{spaced_follow, sum_follow, next_term_ok}
use Rattle.cg_grammar.proofs.TermProductions.{sum_ok, sum_text, next_item_ok, row_reads_ok, braces_ok, paren_ok}
use Rattle.cg_reading.proofs.Spelled.{made_is}

-- ---- any number of brackets

switch_text : (j : ℕ) → Some_text s.switch_piece j
switch_text j = made_text (λ v. clean (switch v.1.1.0 v.1.1.1)) j (then_text {S = Then (One (only 45)) s.number} j (byte_text 43 refl j) (λ k. then_text {S = s.number} k (byte_text 45 refl k) number_text))

plain_special_text : (j : ℕ) → Some_text g.plain_special j
plain_special_text j = left_text j (switch_text j)

-- ---- names

lettered_token : Token s.lettered lettered_at letter false [] more_letters
unfolding lettered_at
lettered_token = made_full (λ v. v.0 ∷ v.1) more_letters (then_full (one_lawful letter 97 refl) (most_token letter_or_digit 15) (λ j. no_few letter_or_digit 15 j) refl)

name_token : Token s.name name_at letter false [] more_letters
unfolding name_at
name_token = such_token is_free other_name lettered_token

use_token : Token s.use_piece whole_use_at letter false [] (λ v. goes_on v.1)
unfolding whole_use_at
use_token = made_full (λ v. (clean (used v.1 v.0), In_name v.1)) (λ v. goes_on v.1) (placed_token name_token)

-- ---- specials with any number of brackets

-- a special that is no name begins with one of these
abbrev bare_begin : Class
bare_begin = (43, 43) ∷ (65, 65) ∷ (67, 68) ∷ (72, 72) ∷ (77, 77) ∷ (79, 79) ∷ (83, 84) ∷ (123, 123) ∷ (40, 40) ∷ []

with_names_token : (format : Format) (R : Piece (Found × Last)) (h : Reader (Found × Last)) → Token R h bare_begin false number_follow (λ v. goes_on v.1) → Token (g.with_names format R) (r.with_names_at format whole_use_at h) special_begin false number_follow (λ v. goes_on v.1)
with_names_token formats.One R h t = wide_token special_begin number_follow t refl refl
with_names_token formats.Two R h t = wide_token special_begin number_follow (or_full_ok use_token t refl) refl refl

with_names_text : (format : Format) (R : Piece (Found × Last)) → ((j : ℕ) → Some_text R j) → (j : ℕ) → Some_text (g.with_names format R) j
with_names_text formats.One R w j = w j
with_names_text formats.Two R w j = right_text j (w j)

bare_text : (format : Format) (k j : ℕ) → Some_text (g.bare format k) j
unfolding g.bare
bare_text format zero j = plain_special_text j
bare_text format (suc k) j = left_text j (plain_special_text j)

pub special_text : (format : Format) (k j : ℕ) → Some_text (g.special format k) j
special_text format k = with_names_text format (s.whole_piece (g.bare format k)) (λ j. made_text (λ e. (e, In_none)) j (bare_text format k j))

special_from : (format : Format) (k : ℕ) → Lawful (g.bare format k) (r.bare_special_at format k) bare_begin false number_follow → Token (g.special format k) (r.whole_special_at format k) special_begin false number_follow (λ v. goes_on v.1)
unfolding r.whole_special_at
special_from format k lf = with_names_token format (s.whole_piece (g.bare format k)) (made_at (λ e. (e, In_none)) (r.bare_special_at format k)) (made_full (λ e. (e, In_none)) (λ v. goes_on v.1) (plain_token lf))

bare_ok : (format : Format) (k : ℕ) → Lawful (g.bare format k) (r.bare_special_at format k) bare_begin false number_follow
unfolding g.bare r.bare_special_at r.special_at r.bracket_at
bare_ok format zero = wide_ok bare_begin number_follow plain_special_ok refl refl
bare_ok format (suc k) =
    let inner = sum_ok (whole_special_is format k) (special_from format k (bare_ok format k)) (special_text format k) in
    let words = sum_text (whole_special_is format k) (special_from format k (bare_ok format k)) (special_text format k) in
    wide_ok bare_begin number_follow (or_ok plain_special_ok (or_ok (braces_ok inner words) (paren_ok inner words) refl) refl) refl refl

pub special_ok : (format : Format) (k : ℕ) → Token (g.special format k) (r.whole_special_at format k) special_begin false number_follow (λ v. goes_on v.1)
special_ok format k = special_from format k (bare_ok format k)

module _ (format : Format) (k : ℕ) where
  pub next_terms_ok : Lawful (g.next_term (g.special format k)) (r.next_term_at (r.special_at format k)) plus_minus false spaced_follow
  next_terms_ok = next_term_ok (whole_special_is format k) (special_ok format k) (special_text format k)

  pub expr_ok : Lawful (g.expr format k) (r.sum_at (r.special_at format k)) term_begin false sum_follow
  expr_ok = sum_ok (whole_special_is format k) (special_ok format k) (special_text format k)

  expr_text : (j : ℕ) → Some_text (g.expr format k) j
  expr_text = sum_text (whole_special_is format k) (special_ok format k) (special_text format k)

  pub items_reads : Reads (Made (λ v. v.1.1) (Then (One (only 44)) (Then blanks (g.expr format k)))) (r.next_item_at (r.sum_at (r.special_at format k))) (only 44) false
  items_reads = (next_item_ok expr_ok expr_text).reads

  pub rows_reads : Reads (Then s.bars (g.side (g.expr format k))) (r.row_at (r.sum_at (r.special_at format k))) bar false
  rows_reads = row_reads_ok expr_ok expr_text

-- ---- lines

-- two pieces with a semicolon between them
module _ {A B : Type 0} {R : Piece A} {S : Piece B} (v : (j : ℕ) → Some_text R j) (w : (j : ℕ) → Some_text S j) where
  behind_first : (j : ℕ) → Some_text (Then (One (only 59)) (Then blanks S)) j
  behind_first j = then_text {S = Then blanks S} j (byte_text 59 refl j) (λ k. then_text {S = S} k (no_text blank k) w)

  semicolon_text : (j : ℕ) → Some_text (g.with_semicolon R S) j
  semicolon_text j = made_text (λ v. (v.0, v.1.1.1)) j (then_text {S = Then (One (only 59)) (Then blanks S)} j (v j) behind_first)

  semicolon_ok : {f : Reader A} {h : Reader B} {I F J G : Class} → Lawful R f I false F → Lawful S h J false G → apart (only 59) F ≡ true → apart J blank ≡ true → apart (blank ++ J) [] ≡ true
      → Lawful (g.with_semicolon R S) (r.with_semicolon_at f h) I false G
  semicolon_ok lf lh a b c = made_ok (λ v. (v.0, v.1.1.1))
      (then_ok lf (then_ok (byte_ok 59 refl) (then_ok (bytes_lawful blank) lh w b) (λ j. then_text {S = S} j (no_text blank j) w) c) behind_first a)

both_ok : (format : Format) → Lawful (g.both format) (r.both_at format) term_begin false sum_follow
unfolding r.both_at
both_ok format = semicolon_ok (expr_text format 64) (expr_text format 64) (expr_ok format 64) (expr_ok format 64) refl refl refl

both_text : (format : Format) (j : ℕ) → Some_text (g.both format) j
both_text format = semicolon_text (expr_text format 64) (expr_text format 64)

behind_gap : {A : Type 0} (R : Piece A) → ((j : ℕ) → Some_text R j) → (j : ℕ) → Some_text (Then gap R) j
behind_gap R w j = then_text {S = R} j (gap_text j) w

last_ok : Lawful (with_blanks s.string) r.last_string_at (only 34) false blank
last_ok = made_ok (λ v. v.0) (then_ok string_ok (bytes_lawful blank) (no_text blank) refl)

last_text : (j : ℕ) → Some_text (with_blanks s.string) j
last_text j = made_text (λ v. v.0) j (then_text {S = blanks} j (string_text j) (no_text blank))

checked_ok : (format : Format) → Lawful (g.with_semicolon (g.both format) (with_blanks s.string)) (r.with_semicolon_at (r.both_at format) r.last_string_at) term_begin false blank
checked_ok format = semicolon_ok (both_text format) last_text (both_ok format) last_ok refl refl refl

checked_text : (format : Format) (j : ℕ) → Some_text (g.with_semicolon (g.both format) (with_blanks s.string)) j
checked_text format = semicolon_text (both_text format) last_text

-- what may follow the first word
abbrev behind_begin : Class
behind_begin = (32, 32) ∷ (9, 9) ∷ (13, 13) ∷ (58, 58) ∷ []

becomes_text : (j : ℕ) → Some_text g.becomes j
becomes_text j = made_text (λ _. tt {0}) j (then_text {S = Then (g.this_word (codes ":=")) blanks} j (no_text blank j) (λ k. then_text {S = blanks} k (word_text (tt {0}) (codes ":=") k) (no_text blank)))

becomes_ok : Lawful g.becomes r.becomes_at behind_begin false blank
unfolding r.becomes_at
becomes_ok = wide_ok behind_begin blank (made_ok (λ _. tt {0}) (then_ok (bytes_lawful blank) (then_ok (this_word_ok (codes ":=") (only 58) refl) (bytes_lawful blank) (no_text blank) refl)
    (λ j. then_text {S = blanks} j (word_text (tt {0}) (codes ":=") j) (no_text blank)) refl)) refl refl

module _ (format : Format) where
  behind_word_ok : (w : List ℕ × r.Kind) → Lawful (g.behind_word format w.0 w.1) (r.behind_word_at format w.0 w.1) behind_begin false sum_follow
  behind_word_ok (word, r.Of_one ask) = wide_ok behind_begin sum_follow (made_ok (λ v. asking (asked_of ask v.1)) (then_ok gap_ok (expr_ok format 64) (expr_text format 64) refl)) refl refl
  behind_word_ok (word, r.Of_two ask) = wide_ok behind_begin sum_follow (made_ok (λ v. asking (asked_of_both ask v.1.0 v.1.1)) (then_ok gap_ok (both_ok format) (both_text format) refl)) refl refl
  behind_word_ok (word, r.Of_check) = wide_ok behind_begin sum_follow (made_ok (λ v. asking (checked v.1.0.0 v.1.0.1 v.1.1)) (then_ok gap_ok (checked_ok format) (checked_text format) refl)) refl refl
  behind_word_ok (word, r.Of_name) = wide_ok behind_begin sum_follow (made_ok (λ v. defined word v.1) (then_ok becomes_ok (expr_ok format 64) (expr_text format 64) refl)) refl refl

  behind_word_text : (w : List ℕ × r.Kind) (j : ℕ) → Some_text (g.behind_word format w.0 w.1) j
  behind_word_text (word, r.Of_one ask) j = made_text (λ v. asking (asked_of ask v.1)) j (behind_gap (g.expr format 64) (expr_text format 64) j)
  behind_word_text (word, r.Of_two ask) j = made_text (λ v. asking (asked_of_both ask v.1.0 v.1.1)) j (behind_gap (g.both format) (both_text format) j)
  behind_word_text (word, r.Of_check) j = made_text (λ v. asking (checked v.1.0.0 v.1.0.1 v.1.1)) j (behind_gap (g.with_semicolon (g.both format) (with_blanks s.string)) (checked_text format) j)
  behind_word_text (word, r.Of_name) j = made_text (λ v. defined word v.1) j (then_text {S = g.expr format 64} j (becomes_text j) (expr_text format 64))

letters_apart : (word : List ℕ) → apart behind_begin (more_letters word) ≡ true
letters_apart [] = refl
letters_apart (b ∷ bs) = more_apart behind_begin letter_or_digit refl refl 15 bs

-- what a line begins with, its blanks aside
abbrev pub statement_begin : Class
statement_begin = (97, 122) ∷ []

first_word_token : (format : Format) → Token (g.first_word format) (r.first_word_at format) statement_begin false [] (λ w. more_letters w.0)
unfolding r.question_word_at r.value_word_at
first_word_token formats.One = made_full (λ k. ([], k)) (λ w. more_letters w.0) (plain_token (among_ok r.question_kinds statement_begin refl refl refl))
first_word_token formats.Two =
    wide_token statement_begin []
    (or_full_ok (made_full (λ _. ([], r.Of_one value)) (λ w. more_letters w.0) (plain_token (this_word_ok (codes "value") (only 118) refl)))
    (made_full (λ w. (w, r.kind_of w)) (λ w. more_letters w.0) lettered_token) refl) refl refl

first_word_text : (format : Format) (j : ℕ) → Some_text (g.first_word format) j
first_word_text formats.One j = record { value = ([], r.Of_one value); text = codes "value"; is = made_is (r.Of_one value) (inl (refl, refl)) }
first_word_text formats.Two j = record { value = ([], r.Of_one value); text = codes "value"; is = inl (made_is (tt {0}) (refl, refl)) }

module _ (format : Format) where
  pub statement_ok : Lawful (g.statement format) (r.statement_at format) statement_begin false sum_follow
  unfolding r.statement_at
  statement_ok = telling_ok (first_word_token format) (behind_word_ok format) (behind_word_text format) refl (λ w. letters_apart w.0)

  statement_text : (j : ℕ) → Some_text (g.statement format) j
  statement_text j =
      let w = first_word_text format j in
      let t = behind_word_text format w.value (j + length w.text) in
      record { value = t.value; text = w.text ++ t.text; is = record { told = w.value; before = w.text; behind = t.text; first = w.is; second = t.is; spelled = refl } }

  pub line_ok : Lawful (g.line format) (r.line_at format) ((32, 32) ∷ (9, 9) ∷ (13, 13) ∷ (97, 122) ∷ []) false sum_follow
  unfolding r.line_at
  line_ok = wide_ok ((32, 32) ∷ (9, 9) ∷ (13, 13) ∷ (97, 122) ∷ []) sum_follow (made_ok (λ v. v.1) (then_ok (bytes_lawful blank) statement_ok statement_text refl)) refl refl
