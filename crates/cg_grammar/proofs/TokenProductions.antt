-- The laws of the readers of tokens, boards and octal games.
use Rattle.std.proofs.Common.{◌≡◌, ℕ, suc, Bool, true, false, cond, inr, [], ◌∷◌, ◌++◌, length, Option, Some, None, refl}
use Rattle.cg_reading.specs.Bytes.{Class}
use Rattle.cg_reading.specs.Pieces.{Piece, Then, Or, Made, Nothing, One, Bytes}
use Rattle.cg_reading.specs.Readers.{Reader, then_at, made_at}
use Rattle.cg_reading.specs.Tokens.{only, blank, digit, digits, blanks}
use Rattle.cg_reading.specs.TokenReaders as t
use Rattle.cg_reading.proofs.Sets.{apart, inside}
use Rattle.cg_reading.proofs.Laws.{Lawful, same_ok, Some_text}
use Rattle.cg_reading.proofs.Steps.{nothing_lawful}
use Rattle.cg_reading.proofs.ByteRuns.{one_lawful, bytes_lawful, no_text}
use Rattle.cg_reading.proofs.Longest.{Token, plain_token, token_ok, made_full, or_full_ok, then_full, bytes_token, wide_token}
use Rattle.cg_reading.proofs.Rules.{then_ok, or_ok, made_ok, wide_ok, then_text, made_text, left_text, right_text}
use Rattle.cg_reading.proofs.Same.{same_token}
use Rattle.cg_reading.proofs.Tellings.{telling_ok}
use Rattle.cg_reading.proofs.WordTables.{among_ok}
use Rattle.cg_reading.proofs.TokenLaws.{digits_ok, digits_text, byte_ok, byte_text}
use Rattle.cg_query.specs.Tree.{Tree, nimber, switch, tiny, octal}
use Rattle.cg_grammar.specs.Values.{Arrows, ups_tree, more_arrows, clean, one_text, two_texts}
use Rattle.cg_grammar.specs.Grammar as s
use Rattle.cg_grammar.specs.Grammar.{printable}
use Rattle.cg_grammar.specs.OperandReading.{arrow, star, over_at, number_at, count_at, arrows_at, ups_at, nim_count_at, nim_at, ups_tree_at, ups_option_at, nim_option_at, tail_at, switch_at, string_at, printable_at, two_strings_at, string_and_digits_at, enclosed_number_at, enclosed_string_at, enclosed_strings_at, enclosed_octal_at, Named, behind_named_at, Of_tiny, Of_one_text, Of_two_texts, Of_octal, named_at, named_word_at, named_words, plain_special_at}
use Rattle.cg_grammar.specs.Reading.{plain_begin}
use Rattle.cg_grammar.proofs.Factored as g
use Rattle.cg_grammar.proofs.Plain.{ups_is}
use Rattle.cg_grammar.proofs.SameArrows.{ups_same}
use Rattle.cg_reading.proofs.Spelled.{then_is}

abbrev over : Piece ℕ
over = Or (Made (λ v. v.1) (Then (One (only 47)) digits)) (Nothing 1)

over_ok : Lawful over over_at (only 47) true ((47, 47) ∷ digit)
unfolding over_at
over_ok = or_ok (made_ok (λ v. v.1) (then_ok (one_lawful (only 47) 47 refl) digits_ok digits_text refl)) (nothing_lawful 1) refl

pub nothing_text : {A : Type 0} (v : A) (j : ℕ) → Some_text (Nothing v) j
nothing_text v j = record { value = v; text = []; is = (refl, refl) }

over_text : (j : ℕ) → Some_text over j
over_text j = right_text j (nothing_text 1 j)

pub number_text : (j : ℕ) → Some_text s.number j
number_text j = then_text {S = over} j (digits_text j) over_text

pub number_ok : Lawful s.number number_at digit false ((48, 57) ∷ (47, 47) ∷ (48, 57) ∷ [])
unfolding number_at
number_ok = then_ok digits_ok over_ok (λ j. right_text j (nothing_text 1 j)) refl

-- ---- arrows

abbrev count_more : ℕ → ℕ × Bool → Class
count_more b v = cond v.1 (only b) []

count_text : (b j : ℕ) → Some_text (g.count b) j
count_text b j = left_text j (made_text (λ n. (n, false)) j (digits_text j))

up_count : Token (g.count 94) (count_at 94) ((48, 57) ∷ (94, 94) ∷ []) true digit (count_more 94)
unfolding count_at
up_count = wide_token ((48, 57) ∷ (94, 94) ∷ []) digit (or_full_ok (made_full (λ n. (n, false)) (count_more 94) (plain_token digits_ok)) (made_full (λ bs. (suc (length bs), true)) (count_more 94) (bytes_token (only 94))) refl) refl refl

down_count : Token (g.count 118) (count_at 118) ((48, 57) ∷ (118, 118) ∷ []) true digit (count_more 118)
unfolding count_at
down_count = wide_token ((48, 57) ∷ (118, 118) ∷ []) digit (or_full_ok (made_full (λ n. (n, false)) (count_more 118) (plain_token digits_ok)) (made_full (λ bs. (suc (length bs), true)) (count_more 118) (bytes_token (only 118))) refl) refl refl

up_arrows : Token (g.arrows false 94) (arrows_at false 94) (only 94) false digit more_arrows
unfolding arrows_at
up_arrows = made_full (λ v. record { down = false; count = v.1.0; is_run = v.1.1 }) more_arrows (then_full (one_lawful (only 94) 94 refl) up_count (count_text 94) refl)

down_arrows : Token (g.arrows true 118) (arrows_at true 118) (only 118) false digit more_arrows
unfolding arrows_at
down_arrows = made_full (λ v. record { down = true; count = v.1.0; is_run = v.1.1 }) more_arrows (then_full (one_lawful (only 118) 118 refl) down_count (count_text 118) refl)

pub ups_token : Token s.ups ups_at arrow false digit more_arrows
unfolding ups_at
ups_token = same_token ups_same (wide_token arrow digit (or_full_ok up_arrows down_arrows refl) refl refl)

-- digits and arrows
abbrev arrow_follow : Class
arrow_follow = (48, 57) ∷ (94, 94) ∷ (118, 118) ∷ []

more_arrows_bound : (a : Arrows) → inside (more_arrows a) arrow ≡ true
more_arrows_bound a = by_cases a.is_run a.down
  where
    by_cases : (run down : Bool) → inside (cond run (only (cond down 118 94)) []) arrow ≡ true
    by_cases true true = refl
    by_cases true false = refl
    by_cases false down = refl

ups_ok : Lawful s.ups ups_at arrow false arrow_follow
unfolding ups_at
ups_ok = wide_ok arrow arrow_follow (token_ok arrow ups_token more_arrows_bound) refl refl

-- ---- nimbers and tails

nim_count_ok : Lawful (Or digits (Nothing 1)) nim_count_at digit true digit
unfolding nim_count_at
nim_count_ok = wide_ok digit digit (or_ok digits_ok (nothing_lawful 1) refl) refl refl

pub nim_ok : Lawful s.nim nim_at star false digit
unfolding nim_at
nim_ok = made_ok (λ v. nimber v.1) (then_ok (one_lawful (only 42) 42 refl) nim_count_ok (λ j. right_text j (nothing_text 1 j)) refl)

pub ups_tree_ok : Lawful (Made ups_tree s.ups) ups_tree_at arrow false arrow_follow
ups_tree_ok = same_ok ups_tree_at ups_is (made_ok ups_tree ups_ok)

optional_ups : Lawful (s.optional (Made ups_tree s.ups)) ups_option_at arrow true arrow_follow
unfolding ups_option_at
optional_ups = wide_ok arrow arrow_follow (or_ok (made_ok (λ v. Some v) ups_tree_ok) (nothing_lawful None) refl) refl refl

pub optional_nim : Lawful (s.optional s.nim) nim_option_at star true ((48, 57) ∷ (42, 42) ∷ [])
unfolding nim_option_at
optional_nim = wide_ok star ((48, 57) ∷ (42, 42) ∷ []) (or_ok (made_ok (λ v. Some v) nim_ok) (nothing_lawful None) refl) refl refl

pub no_nim : (j : ℕ) → Some_text (s.optional s.nim) j
no_nim j = right_text j (nothing_text None j)

abbrev tail_begin : Class
tail_begin = (94, 94) ∷ (118, 118) ∷ (42, 42) ∷ []

abbrev pub tail_follow : Class
tail_follow = (48, 57) ∷ (94, 94) ∷ (118, 118) ∷ (42, 42) ∷ []

pub tail_ok : Lawful s.tail tail_at tail_begin true tail_follow
unfolding tail_at
tail_ok = wide_ok tail_begin tail_follow (then_ok optional_ups optional_nim no_nim refl) refl refl

pub empty_tail : (j : ℕ) → (v : Option Tree × Option Tree) × s.tail j v []
empty_tail j = ((None, None), then_is [] [] (inr (refl, refl)) (inr (refl, refl)))

nim_count_text : (j : ℕ) → Some_text (Or digits (Nothing 1)) j
nim_count_text j = right_text j (nothing_text 1 j)

pub nim_text : (j : ℕ) → Some_text s.nim j
nim_text j = made_text (λ v. nimber v.1) j (then_text {S = Or digits (Nothing 1)} j (byte_text 42 refl j) nim_count_text)

-- ---- numbers that stand in a switch

abbrev pub number_follow : Class
number_follow = (48, 57) ∷ (47, 47) ∷ []

switch_ok : Lawful s.switch_piece switch_at (only 43) false number_follow
unfolding switch_at
switch_ok = wide_ok (only 43) number_follow (made_ok (λ v. clean (switch v.1.1.0 v.1.1.1)) (then_ok (byte_ok 43 refl) (then_ok (byte_ok 45 refl) number_ok number_text refl) (λ j. then_text j (byte_text 45 refl j) number_text) refl)) refl refl

-- ---- what stands between parentheses

pub string_ok : Lawful s.string string_at (only 34) false []
unfolding string_at printable_at
string_ok = made_ok (λ v. v.1.0) (then_ok (byte_ok 34 refl) (then_ok (bytes_lawful printable) (byte_ok 34 refl) (byte_text 34 refl) refl) (λ j. then_text {S = One (only 34)} j (no_text printable j) (byte_text 34 refl)) refl)

pub string_text : (j : ℕ) → Some_text s.string j
string_text j = made_text (λ v. v.1.0) j (then_text {S = Then (Bytes printable) (One (only 34))} j (byte_text 34 refl j) (λ k. then_text {S = One (only 34)} k (no_text printable k) (byte_text 34 refl)))

-- a string, and a piece behind a comma
module _ {A : Type 0} (R : Piece A) (f : Reader A) (I F : Class) (w : (j : ℕ) → Some_text R j) where
  comma_text : (j : ℕ) → Some_text (Then (One (only 44)) (Then blanks R)) j
  comma_text j = then_text {S = Then blanks R} j (byte_text 44 refl j) (λ k. then_text {S = R} k (no_text blank k) w)

  string_and_ok : Lawful R f I false F → apart I blank ≡ true → apart (blank ++ I) [] ≡ true → Lawful (s.string_and R) (made_at (λ v. (v.0, v.1.1.1.1)) (then_at string_at (then_at t.blanks_at (then_at (t.byte_at 44) (then_at t.blanks_at f))))) (only 34) false F
  string_and_ok lf a b = made_ok (λ v. (v.0, v.1.1.1.1))
      (then_ok string_ok (then_ok (bytes_lawful blank) (then_ok (byte_ok 44 refl) (then_ok (bytes_lawful blank) lf w a) (λ j. then_text {S = R} j (no_text blank j) w) b) comma_text refl)
      (λ j. then_text {S = Then (One (only 44)) (Then blanks R)} j (no_text blank j) comma_text) refl)

  string_and_text : (j : ℕ) → Some_text (s.string_and R) j
  string_and_text j = made_text (λ v. (v.0, v.1.1.1.1)) j (then_text {S = Then blanks (Then (One (only 44)) (Then blanks R))} j (string_text j)
      (λ k. then_text {S = Then (One (only 44)) (Then blanks R)} k (no_text blank k) comma_text))

two_strings_ok : Lawful (s.string_and s.string) two_strings_at (only 34) false []
unfolding two_strings_at
two_strings_ok = string_and_ok s.string string_at (only 34) [] string_text string_ok refl refl

two_strings_text : (j : ℕ) → Some_text (s.string_and s.string) j
two_strings_text = string_and_text s.string string_at (only 34) [] string_text

string_and_digits_ok : Lawful (s.string_and digits) string_and_digits_at (only 34) false digit
unfolding string_and_digits_at
string_and_digits_ok = string_and_ok digits t.digits_at digit digit digits_text digits_ok refl refl

string_and_digits_text : (j : ℕ) → Some_text (s.string_and digits) j
string_and_digits_text = string_and_text digits t.digits_at digit digit digits_text

module _ {A : Type 0} (R : Piece A) (f : Reader A) (I F : Class) (w : (j : ℕ) → Some_text R j) where
  closed_text : (j : ℕ) → Some_text (Then blanks (One (only 41))) j
  closed_text j = then_text {S = One (only 41)} j (no_text blank j) (byte_text 41 refl)

  opened_text : (j : ℕ) → Some_text (Then blanks (Then R (Then blanks (One (only 41))))) j
  opened_text j = then_text {S = Then R (Then blanks (One (only 41)))} j (no_text blank j) (λ k. then_text {S = Then blanks (One (only 41))} k (w k) closed_text)

  enclosed_text : (j : ℕ) → Some_text (s.enclosed R) j
  enclosed_text j = made_text (λ v. v.1.1.0) j (then_text {S = Then blanks (Then R (Then blanks (One (only 41))))} j (byte_text 40 refl j) opened_text)

  enclosed_ok : Lawful R f I false F → apart I [] ≡ true → apart I blank ≡ true → apart ((32, 32) ∷ (9, 9) ∷ (13, 13) ∷ (41, 41) ∷ []) F ≡ true → Lawful (s.enclosed R) (made_at (λ v. v.1.1.0) (then_at (t.byte_at 40) (then_at t.blanks_at (then_at f (then_at t.blanks_at (t.byte_at 41)))))) (only 40) false []
  enclosed_ok lf c a b = made_ok (λ v. v.1.1.0)
      (then_ok (byte_ok 40 refl) (then_ok (bytes_lawful blank) (then_ok lf (then_ok (bytes_lawful blank) (byte_ok 41 refl) (byte_text 41 refl) refl) closed_text b) (λ j. then_text {S = Then blanks (One (only 41))} j (w j) closed_text) a) opened_text c)

enclosed_number_ok : Lawful (s.enclosed s.number) enclosed_number_at (only 40) false []
unfolding enclosed_number_at
enclosed_number_ok = enclosed_ok s.number number_at digit ((48, 57) ∷ (47, 47) ∷ (48, 57) ∷ []) number_text number_ok refl refl refl

enclosed_string_ok : Lawful (s.enclosed s.string) enclosed_string_at (only 40) false []
unfolding enclosed_string_at
enclosed_string_ok = enclosed_ok s.string string_at (only 34) [] string_text string_ok refl refl refl

enclosed_strings_ok : Lawful (s.enclosed (s.string_and s.string)) enclosed_strings_at (only 40) false []
unfolding enclosed_strings_at
enclosed_strings_ok = enclosed_ok (s.string_and s.string) two_strings_at (only 34) [] two_strings_text two_strings_ok refl refl refl

enclosed_octal_ok : Lawful (s.enclosed (s.string_and digits)) enclosed_octal_at (only 40) false []
unfolding enclosed_octal_at
enclosed_octal_ok = enclosed_ok (s.string_and digits) string_and_digits_at (only 34) digit string_and_digits_text string_and_digits_ok refl refl refl

number_enclosed : (j : ℕ) → Some_text (s.enclosed s.number) j
number_enclosed = enclosed_text s.number number_at digit [] number_text

string_enclosed : (j : ℕ) → Some_text (s.enclosed s.string) j
string_enclosed = enclosed_text s.string string_at (only 34) [] string_text

strings_enclosed : (j : ℕ) → Some_text (s.enclosed (s.string_and s.string)) j
strings_enclosed = enclosed_text (s.string_and s.string) two_strings_at (only 34) [] two_strings_text

octal_enclosed : (j : ℕ) → Some_text (s.enclosed (s.string_and digits)) j
octal_enclosed = enclosed_text (s.string_and digits) string_and_digits_at (only 34) digit string_and_digits_text

-- ---- switches, tiny, boards and octal games

-- what stands behind a name, with the blanks before it
abbrev spaced_begin : Class
spaced_begin = (32, 32) ∷ (9, 9) ∷ (13, 13) ∷ (40, 40) ∷ []

spaced_ok : {A : Type 0} {R : Piece A} {f : Reader A} → Lawful R f (only 40) false [] → ((j : ℕ) → Some_text R j) → Lawful (Then blanks R) (then_at t.blanks_at f) spaced_begin false []
spaced_ok lf w = then_ok (bytes_lawful blank) lf w refl

spaced_text : {A : Type 0} (R : Piece A) → ((j : ℕ) → Some_text R j) → (j : ℕ) → Some_text (Then blanks R) j
spaced_text R w j = then_text {S = R} j (no_text blank j) w

-- what the word of an operand begins with
abbrev named_begin : Class
named_begin = (65, 65) ∷ (67, 68) ∷ (72, 72) ∷ (77, 77) ∷ (79, 79) ∷ (83, 84) ∷ []

behind_named_ok : (n : Named) → Lawful (g.behind_named n) (behind_named_at n) spaced_begin false []
behind_named_ok (Of_tiny miny) = wide_ok spaced_begin [] (made_ok (λ v. clean (tiny miny v.0 v.1)) enclosed_number_ok) refl refl
behind_named_ok (Of_one_text kind) = made_ok (λ v. clean (one_text kind v.1)) (spaced_ok enclosed_string_ok string_enclosed)
behind_named_ok (Of_two_texts kind) = made_ok (λ v. clean (two_texts kind v.1.0 v.1.1)) (spaced_ok enclosed_strings_ok strings_enclosed)
behind_named_ok Of_octal = made_ok (λ v. clean (octal v.1.0 v.1.1)) (spaced_ok enclosed_octal_ok octal_enclosed)

behind_named_text : (n : Named) (j : ℕ) → Some_text (g.behind_named n) j
behind_named_text (Of_tiny miny) j = made_text (λ v. clean (tiny miny v.0 v.1)) j (number_enclosed j)
behind_named_text (Of_one_text kind) j = made_text (λ v. clean (one_text kind v.1)) j (spaced_text (s.enclosed s.string) string_enclosed j)
behind_named_text (Of_two_texts kind) j = made_text (λ v. clean (two_texts kind v.1.0 v.1.1)) j (spaced_text (s.enclosed (s.string_and s.string)) strings_enclosed j)
behind_named_text Of_octal j = made_text (λ v. clean (octal v.1.0 v.1.1)) j (spaced_text (s.enclosed (s.string_and digits)) octal_enclosed j)

named_ok : Lawful g.named named_at named_begin false []
unfolding named_at named_word_at
named_ok = telling_ok (plain_token (among_ok named_words named_begin refl refl refl)) behind_named_ok behind_named_text refl (λ n. refl)

pub plain_special_ok : Lawful g.plain_special plain_special_at plain_begin false number_follow
unfolding plain_special_at
plain_special_ok = wide_ok plain_begin number_follow (or_ok switch_ok named_ok refl) refl refl
