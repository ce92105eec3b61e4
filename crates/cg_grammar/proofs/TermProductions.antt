-- The laws of the readers of terms, expressions and brackets.
use Rattle.std.proofs.Common.{◌≡◌, ℕ, Bool, true, false, cond, inr, List, [], ◌∷◌, ◌++◌, map, None, Ok, refl}
use Rattle.cg_reading.specs.Bytes.{Class}
use Rattle.cg_reading.specs.Pieces.{Piece, Then, Or, Many, Made, Nothing, One}
use Rattle.cg_reading.specs.Readers.{Reader, ◌>>=◌}
use Rattle.cg_reading.specs.Tokens.{only, blank, digit, digits, blanks}
use Rattle.cg_reading.proofs.Sets.{inside}
use Rattle.cg_reading.proofs.Laws.{Lawful, Reads, same_ok, Some_text}
use Rattle.cg_reading.proofs.Steps.{nothing_lawful}
use Rattle.cg_reading.proofs.ByteRuns.{one_lawful, bytes_lawful, no_text}
use Rattle.cg_reading.proofs.Longest.{Token, plain_token, made_full, or_full_ok, then_full, longest_ok, wide_token, nothing_token}
use Rattle.cg_reading.proofs.Rules.{then_ok, or_ok, made_ok, many_ok, wide_ok, then_text, made_text, left_text, right_text}
use Rattle.cg_reading.proofs.MostBytes.{more_inside}
use Rattle.cg_reading.proofs.TokenLaws.{digits_ok, digits_text, byte_ok, byte_text, gap_ok}
use Rattle.cg_grammar.specs.Found.{Found}
use Rattle.cg_grammar.specs.Values.{Arrows, ups_tree, more_arrows, Last, In_none, In_arrows, In_name, goes_on, letter_or_digit}
use Rattle.cg_grammar.specs.Values.{more_letters, counted_of, with_tail, clean, negated, sum_of, run_side, braces_of}
use Rattle.cg_grammar.specs.Grammar as s
use Rattle.cg_grammar.specs.Grammar.{bar}
use Rattle.cg_grammar.specs.Reading as r
use Rattle.cg_grammar.specs.OperandReading.{arrow, ups_term_at, sign_at}
use Rattle.cg_grammar.specs.Reading.{special_begin, uncounted_begin, unsigned_begin, term_begin}
use Rattle.cg_grammar.specs.Reading.{plus_minus, Behind, Over, Times, counted_from, behind_goes_on}
use Rattle.cg_grammar.proofs.Factored as g
use Rattle.cg_grammar.proofs.Rows.{some_rows_ok, some_rows_text, row_reads}
use Rattle.cg_grammar.proofs.Lists.{item_list_is, row_list_is}
use Rattle.cg_grammar.proofs.Plain.{counted_term_is, whole_term_is}
use Rattle.cg_grammar.proofs.TokenProductions.{nothing_text, ups_token, nim_ok, ups_tree_ok, optional_nim, no_nim}
use Rattle.cg_grammar.proofs.TokenProductions.{tail_follow, tail_ok, empty_tail, nim_text, number_follow}
use Rattle.cg_reading.proofs.Spelled.{then_is, made_is}

-- ---- terms

-- what any expression's text begins with, and what may not follow a term, an expression or a special
abbrev term_follow : Class
term_follow = (97, 122) ∷ (48, 57) ∷ (94, 94) ∷ (42, 42) ∷ (47, 47) ∷ (46, 46) ∷ []

abbrev pub spaced_follow : Class
spaced_follow = (97, 122) ∷ (48, 57) ∷ (94, 94) ∷ (42, 42) ∷ (47, 47) ∷ (46, 46) ∷ (32, 32) ∷ (9, 9) ∷ (13, 13) ∷ []

abbrev pub sum_follow : Class
sum_follow = (97, 122) ∷ (48, 57) ∷ (94, 94) ∷ (42, 42) ∷ (47, 47) ∷ (46, 46) ∷ (32, 32) ∷ (9, 9) ∷ (13, 13) ∷ (43, 43) ∷ (45, 45) ∷ []

-- the bytes that may still belong to the last token of an operand
abbrev pub token_bytes : Class
token_bytes = (97, 122) ∷ (48, 57) ∷ (94, 94) ∷ []

letters_bound : (word : List ℕ) → inside (more_letters word) token_bytes ≡ true
letters_bound [] = refl
letters_bound (b ∷ bs) = more_inside letter_or_digit token_bytes refl 15 bs

arrows_bound : (a : Arrows) → inside (more_arrows a) token_bytes ≡ true
arrows_bound a = by_cases a.is_run a.down
  where
    by_cases : (run down : Bool) → inside (cond run (only (cond down 118 94)) []) token_bytes ≡ true
    by_cases true true = refl
    by_cases true false = refl
    by_cases false down = refl

last_bound : (last : Last) → inside (goes_on last) token_bytes ≡ true
last_bound In_none = refl
last_bound (In_arrows a) = arrows_bound a
last_bound (In_name word) = letters_bound word

-- a special with what it ends in, and a reader of it; and a reader of it alone
module _ {S : Piece (Found × Last)} {f : Reader (Found × Last)} {p : Reader Found}
    (bare : (end : ℕ) (bytes : List ℕ) → (f end bytes >>= λ v. Ok (v.0.0, v.1)) ≡ p end bytes)
    (ls : Token S f special_begin false number_follow (λ v. goes_on v.1)) (w : (j : ℕ) → Some_text S j) where
  primary_token : Token (s.primary S) (r.primary_at f) uncounted_begin false number_follow (λ v. goes_on v.1)
  unfolding r.primary_at
  primary_token = wide_token uncounted_begin number_follow
      (or_full_ok (made_full (λ a. (clean (ups_tree a), In_arrows a)) (λ v. goes_on v.1) ups_token)
      (or_full_ok (made_full (λ t. (clean t, In_none)) (λ v. goes_on v.1) (plain_token nim_ok)) ls refl) refl) refl refl

  primary_text : (j : ℕ) → Some_text (s.primary S) j
  primary_text j = right_text j (left_text j (made_text (λ t. (clean t, In_none)) j (nim_text j)))

  behind_token : Token (Or (Made (λ v. Over v.1) (Then (One (only 47)) digits)) (Or (Made (λ v. Times v.1.0 v.1.1) (Then (One (only 46)) (s.primary S))) (Nothing (Over 1)))) (r.behind_at f) ((47, 47) ∷ (46, 46) ∷ []) true ((48, 57) ∷ (47, 47) ∷ (46, 46) ∷ []) behind_goes_on
  unfolding r.behind_at
  behind_token = wide_token ((47, 47) ∷ (46, 46) ∷ []) ((48, 57) ∷ (47, 47) ∷ (46, 46) ∷ [])
      (or_full_ok (made_full (λ v. Over v.1) behind_goes_on (plain_token (then_ok (one_lawful (only 47) 47 refl) digits_ok digits_text refl)))
      (or_full_ok (made_full (λ v. Times v.1.0 v.1.1) behind_goes_on (then_full (one_lawful (only 46) 46 refl) primary_token primary_text refl)) (nothing_token (Over 1) behind_goes_on refl) refl) refl) refl refl

  behind_text : (j : ℕ) → Some_text (Or (Made (λ v. Over v.1) (Then (One (only 47)) digits)) (Or (Made (λ v. Times v.1.0 v.1.1) (Then (One (only 46)) (s.primary S))) (Nothing (Over 1)))) j
  behind_text j = right_text j (right_text j (nothing_text (Over 1) j))

  counted_token : Token (g.counted S) (r.counted_at f) digit false ((48, 57) ∷ (47, 47) ∷ (46, 46) ∷ []) (λ v. behind_goes_on v.1)
  unfolding r.counted_at
  counted_token = wide_token digit ((48, 57) ∷ (47, 47) ∷ (46, 46) ∷ []) (then_full digits_ok behind_token behind_text refl) refl refl

  counted_bound : (v : ℕ × Behind) → inside (behind_goes_on v.1) token_bytes ≡ true
  counted_bound v = by_cases v.1
    where
      by_cases : (b : Behind) → inside (behind_goes_on b) token_bytes ≡ true
      by_cases (Over d) = refl
      by_cases (Times e last) = last_bound last

  counted_term_ok : (negative : Bool) → Lawful (g.counted_term S negative) (r.counted_term_at f negative) digit false term_follow
  unfolding r.counted_term_at
  counted_term_ok negative = wide_ok digit term_follow (made_ok (λ v. with_tail (counted_of negative (counted_from v.0)) v.1) (longest_ok token_bytes counted_token tail_ok empty_tail counted_bound refl)) refl refl

  plain_counted_ok : (negative : Bool) → Lawful (g.counted_term S negative) (r.plain_counted_term_at p negative) digit false term_follow
  plain_counted_ok negative = same_ok (r.plain_counted_term_at p negative) (counted_term_is p f bare negative) (counted_term_ok negative)

  ups_term_ok : Lawful (Made (λ v. with_tail (clean v.0) (None, v.1)) (Then (Made ups_tree s.ups) (s.optional s.nim))) ups_term_at arrow false tail_follow
  unfolding ups_term_at
  ups_term_ok = wide_ok arrow tail_follow (made_ok (λ v. with_tail (clean v.0) (None, v.1)) (then_ok ups_tree_ok optional_nim no_nim refl)) refl refl

  whole_term_ok : Lawful (s.special_tail S) (r.whole_term_at f) special_begin false term_follow
  unfolding r.whole_term_at
  whole_term_ok = wide_ok special_begin term_follow (made_ok (λ v. with_tail v.0.0 v.1) (longest_ok token_bytes ls tail_ok empty_tail (λ v. last_bound v.1) refl)) refl refl

  special_term_ok : Lawful (s.special_tail S) (r.special_term_at p) special_begin false term_follow
  special_term_ok = same_ok (r.special_term_at p) (whole_term_is p f bare) whole_term_ok

  uncounted_term_ok : Lawful (g.uncounted_term S) (r.uncounted_term_at p) uncounted_begin false term_follow
  unfolding r.uncounted_term_at
  uncounted_term_ok = wide_ok uncounted_begin term_follow
      (or_ok ups_term_ok
      (or_ok (made_ok clean nim_ok) special_term_ok refl) refl) refl refl

  unsigned_ok : Lawful (g.unsigned_term S) (r.unsigned_term_at p) unsigned_begin false term_follow
  unfolding r.unsigned_term_at
  unsigned_ok = wide_ok unsigned_begin term_follow (or_ok (plain_counted_ok false) uncounted_term_ok refl) refl refl

  uncounted_text : (j : ℕ) → Some_text (g.uncounted_term S) j
  uncounted_text j = right_text j (left_text j (made_text clean j (nim_text j)))

  unsigned_text : (j : ℕ) → Some_text (g.unsigned_term S) j
  unsigned_text j = right_text j (uncounted_text j)

  minus_term_ok : Lawful (g.minus_term S) (r.minus_term_at p) (only 45) false term_follow
  unfolding r.minus_term_at r.minus_body_at
  minus_term_ok = wide_ok (only 45) term_follow
      (made_ok (λ v. v.1) (then_ok (one_lawful (only 45) 45 refl)
      (or_ok (plain_counted_ok true) (or_ok (made_ok (λ v. negated v.1) (then_ok gap_ok unsigned_ok unsigned_text refl)) (made_ok negated uncounted_term_ok) refl) refl)
      (λ j. right_text j (right_text j (made_text negated j (uncounted_text j)))) refl)) refl refl

  term_ok : Lawful (g.term S) (r.term_at p) term_begin false term_follow
  unfolding r.term_at
  term_ok = wide_ok term_begin term_follow (or_ok minus_term_ok unsigned_ok refl) refl refl

  term_text : (j : ℕ) → Some_text (g.term S) j
  term_text j = right_text j (unsigned_text j)

  sign_ok : Lawful g.sign sign_at plus_minus false []
  unfolding sign_at
  sign_ok = or_ok (made_ok (λ _. true) (one_lawful (only 45) 45 refl)) (made_ok (λ _. false) (one_lawful (only 43) 43 refl)) refl

  pub next_term_ok : Lawful (g.next_term S) (r.next_term_at p) plus_minus false spaced_follow
  unfolding r.next_term_at
  next_term_ok = wide_ok plus_minus spaced_follow
      (made_ok (λ v. (v.0, v.1.1.0)) (then_ok sign_ok (then_ok (bytes_lawful blank) (then_ok term_ok (bytes_lawful blank) (no_text blank) refl) (λ j. then_text j (term_text j) (no_text blank)) refl)
      (λ j. then_text j (no_text blank j) (λ k. then_text k (term_text k) (no_text blank))) refl)) refl refl

  no_more_terms : (j : ℕ) → Some_text (Many (g.next_term S)) j
  no_more_terms j = record { value = []; text = []; is = refl }

  pub sum_ok : Lawful (g.sum S) (r.sum_at p) term_begin false sum_follow
  unfolding r.sum_at
  sum_ok = wide_ok term_begin sum_follow
      (made_ok (λ v. sum_of v.0 v.1.1) (then_ok term_ok (then_ok (bytes_lawful blank) (many_ok next_term_ok refl) no_more_terms refl) (λ j. then_text {S = Many (g.next_term S)} j (no_text blank j) no_more_terms) refl)) refl refl

  pub sum_text : (j : ℕ) → Some_text (g.sum S) j
  sum_text j = made_text (λ v. sum_of v.0 v.1.1) j (then_text {S = Then blanks (Many (g.next_term S))} j (term_text j) (λ k. then_text {S = Many (g.next_term S)} k (no_text blank k) no_more_terms))

-- ---- brackets

-- what may not follow a side, besides bars
abbrev side_begin : Class
side_begin = (32, 32) ∷ (9, 9) ∷ (13, 13) ∷ (97, 122) ∷ (48, 57) ∷ (94, 94) ∷ (42, 43) ∷ (65, 65) ∷ (67, 68) ∷ (72, 72) ∷ (77, 77) ∷ (79, 79) ∷ (83, 84) ∷ (123, 123) ∷ (40, 40) ∷ (45, 45) ∷ []

abbrev side_follow : Class
side_follow = (32, 32) ∷ (9, 9) ∷ (13, 13) ∷ (42, 57) ∷ (65, 65) ∷ (67, 68) ∷ (72, 72) ∷ (77, 77) ∷ (79, 79) ∷ (83, 84) ∷ (94, 94) ∷ (97, 122) ∷ (123, 123) ∷ (40, 40) ∷ []

module _ {E : Piece Found} {e : Reader Found} (le : Lawful E e term_begin false sum_follow) (w : (j : ℕ) → Some_text E j) where
  next_item_text : (j : ℕ) → Some_text (Many (Made (λ v. v.1.1) (Then (One (only 44)) (Then blanks E)))) j
  next_item_text j = record { value = []; text = []; is = refl }

  pub next_item_ok : Lawful (Made (λ v. v.1.1) (Then (One (only 44)) (Then blanks E))) (r.next_item_at e) (only 44) false sum_follow
  unfolding r.next_item_at
  next_item_ok = wide_ok (only 44) sum_follow (made_ok (λ v. v.1.1) (then_ok (one_lawful (only 44) 44 refl) (then_ok (bytes_lawful blank) le w refl) (λ j. then_text {S = E} j (no_text blank j) w) refl)) refl refl

  items_ok : Lawful (g.items E) (r.items_at e) term_begin false side_follow
  unfolding r.items_at
  items_ok = wide_ok term_begin side_follow (made_ok (λ v. v.0 ∷ v.1) (then_ok le (many_ok next_item_ok refl) next_item_text refl)) refl refl

  item_list_ok : Lawful (g.items E) (r.item_list_at e) term_begin false side_follow
  item_list_ok = same_ok (r.item_list_at e) (item_list_is e) items_ok

  items_text : (j : ℕ) → Some_text (Or (g.items E) (Nothing [])) j
  items_text j = right_text j (nothing_text [] j)

  side_ok : Lawful (g.side E) (r.side_at e) side_begin true side_follow
  unfolding r.side_at
  side_ok = wide_ok side_begin side_follow (made_ok (λ v. v.1) (then_ok (bytes_lawful blank) (or_ok item_list_ok (nothing_lawful []) refl) items_text refl)) refl refl

  empty_side : (j : ℕ) → g.side E j [] []
  empty_side j = made_is ([], []) (then_is [] [] (record { within = refl; spelled = refl }) (inr (refl, refl)))

  side_text : (j : ℕ) → Some_text (g.side E) j
  side_text j = record { value = []; text = []; is = empty_side j }

  rows_ok : Lawful (s.Some_rows (g.side E)) (r.some_rows_at e) bar false (side_follow ++ bar)
  rows_ok = some_rows_ok E e side_begin side_follow side_ok empty_side refl refl

  row_list_ok : Lawful (Made (λ v. v.0 ∷ v.1) (s.Some_rows (g.side E))) (r.row_list_at e) bar false (side_follow ++ bar)
  row_list_ok = same_ok (r.row_list_at e) (row_list_is e) (made_ok (λ v. v.0 ∷ v.1) rows_ok)

  pub row_reads_ok : Reads (Then s.bars (g.side E)) (r.row_at e) bar false
  row_reads_ok = row_reads E e side_begin side_follow side_ok empty_side refl refl

  rows_text : (j : ℕ) → Some_text (s.Some_rows (g.side E)) j
  rows_text = some_rows_text E e side_begin side_follow side_ok empty_side refl refl

  close_text : (j : ℕ) → Some_text (Then (Made (λ v. v.0 ∷ v.1) (s.Some_rows (g.side E))) (One (only 125))) j
  close_text j = then_text {S = One (only 125)} j (made_text (λ v. v.0 ∷ v.1) j (rows_text j)) (byte_text 125 refl)

  pub braces_ok : Lawful (g.braces E) (r.braces_at e) (only 123) false []
  unfolding r.braces_at
  braces_ok = made_ok (λ v. braces_of v.1.0 (map run_side v.1.1.0))
      (then_ok (byte_ok 123 refl) (then_ok side_ok (then_ok row_list_ok (byte_ok 125 refl) (byte_text 125 refl) refl) close_text refl)
      (λ j. then_text {S = Then (Made (λ v. v.0 ∷ v.1) (s.Some_rows (g.side E))) (One (only 125))} j (side_text j) close_text) refl)

  end_text : (j : ℕ) → Some_text (Then E (One (only 41))) j
  end_text j = then_text {S = One (only 41)} j (w j) (byte_text 41 refl)

  pub paren_ok : Lawful (g.paren E) (r.paren_at e) (only 40) false []
  unfolding r.paren_at
  paren_ok = made_ok (λ v. v.1.1.0)
      (then_ok (byte_ok 40 refl) (then_ok (bytes_lawful blank) (then_ok le (byte_ok 41 refl) (byte_text 41 refl) refl) end_text refl)
      (λ j. then_text {S = Then E (One (only 41))} j (no_text blank j) end_text) refl)
