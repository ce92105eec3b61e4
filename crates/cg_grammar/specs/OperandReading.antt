-- Reading tokens and operands without expressions in them.
use Rattle.std.specs.Prelude.{ℕ, suc, Bool, true, false, List, [], ◌∷◌, length, Option, Some, None, codes}
use Rattle.cg_reading.specs.Bytes.{Class}
use Rattle.cg_reading.specs.Readers.{Reader, then_at, or_at, made_at, nothing_at}
use Rattle.cg_reading.specs.Readers.{one_at, bytes_at, most_at, run_at, placed_at, such_at, telling_at}
use Rattle.cg_reading.specs.Tokens.{only, digit}
use Rattle.cg_reading.specs.Words.{Table, among_at}
use Rattle.cg_reading.specs.TokenReaders.{blanks_at, byte_at, digits_at}
use Rattle.cg_query.specs.Tree.{Tree, ups, nimber, switch, tiny, octal, used}
use Rattle.cg_grammar.specs.Found.{Found}
use Rattle.cg_grammar.specs.Values.{Arrows, letter_or_digit, Last, In_name}
use Rattle.cg_grammar.specs.Values.{with_tail, clean}
use Rattle.cg_grammar.specs.Values.{one_text, two_texts}
use Rattle.cg_grammar.specs.Grammar.{printable, bar, letter, is_free}
use Rattle.cg_query.specs.declared.kind.GameKind.{GameKind}
use Rattle.cg_query.specs.declared.kind.GameKind.TheVariants.{Domineering, Clobber, Amazons, Toads, Strip, Hackenbush, Col, Snort}

abbrev pub arrow : Class
arrow = (94, 94) ∷ (118, 118) ∷ []

abbrev pub star : Class
star = only 42

-- ---- tokens

unfoldable pub over_at : Reader ℕ
over_at = or_at (only 47) (made_at (λ v. v.1) (then_at (one_at (only 47)) digits_at)) (nothing_at 1)

unfoldable pub number_at : Reader (ℕ × ℕ)
number_at = then_at digits_at over_at

unfoldable pub count_at : ℕ → Reader (ℕ × Bool)
count_at b = or_at digit (made_at (λ n. (n, false)) digits_at) (made_at (λ bs. (suc (length bs), true)) (bytes_at (only b)))

unfoldable pub arrows_at : Bool → ℕ → Reader Arrows
arrows_at down b = made_at (λ v. record { down = down; count = v.1.0; is_run = v.1.1 }) (then_at (one_at (only b)) (count_at b))

unfoldable pub ups_at : Reader Arrows
ups_at = or_at (only 94) (arrows_at false 94) (arrows_at true 118)

-- the same, without whether it is a run
unfoldable pub plain_count_at : ℕ → Reader ℕ
plain_count_at b = or_at digit digits_at (made_at (λ bs. suc (length bs)) (bytes_at (only b)))

unfoldable pub ups_tree_at : Reader Tree
ups_tree_at = or_at (only 94) (made_at (λ v. ups false v.1) (then_at (one_at (only 94)) (plain_count_at 94))) (made_at (λ v. ups true v.1) (then_at (one_at (only 118)) (plain_count_at 118)))

unfoldable pub nim_count_at : Reader ℕ
nim_count_at = or_at digit digits_at (nothing_at 1)

unfoldable pub nim_at : Reader Tree
nim_at = made_at (λ v. nimber v.1) (then_at (one_at (only 42)) nim_count_at)

unfoldable pub printable_at : Reader (List ℕ)
printable_at = bytes_at printable

unfoldable pub string_at : Reader (List ℕ)
string_at = made_at (λ v. v.1.0) (then_at (byte_at 34) (then_at printable_at (byte_at 34)))

unfoldable pub bars_at : Reader (ℕ × ℕ)
bars_at = placed_at (made_at (λ bs. length bs) (run_at bar 8))

abbrev pub optional_at : {A : Type 0} → Class → Reader A → Reader (Option A)
optional_at c f = or_at c (made_at (λ v. Some v) f) (nothing_at None)

unfoldable pub ups_option_at : Reader (Option Tree)
ups_option_at = optional_at arrow ups_tree_at

unfoldable pub nim_option_at : Reader (Option Tree)
nim_option_at = optional_at star nim_at

unfoldable pub tail_at : Reader (Option Tree × Option Tree)
tail_at = then_at ups_option_at nim_option_at

unfoldable pub ups_term_at : Reader Found
ups_term_at = made_at (λ v. with_tail (clean v.0) (None, v.1)) (then_at ups_tree_at nim_option_at)

unfoldable pub sign_at : Reader Bool
sign_at = or_at (only 45) (made_at (λ _. true) (one_at (only 45))) (made_at (λ _. false) (one_at (only 43)))

-- ---- switches, tiny, boards and octal games

unfoldable pub switch_at : Reader Found
switch_at = made_at (λ v. clean (switch v.1.1.0 v.1.1.1)) (then_at (byte_at 43) (then_at (byte_at 45) number_at))

-- a number between parentheses
unfoldable pub enclosed_number_at : Reader (ℕ × ℕ)
enclosed_number_at = made_at (λ v. v.1.1.0) (then_at (byte_at 40) (then_at blanks_at (then_at number_at (then_at blanks_at (byte_at 41)))))

-- a text between parentheses
unfoldable pub enclosed_string_at : Reader (List ℕ)
enclosed_string_at = made_at (λ v. v.1.1.0) (then_at (byte_at 40) (then_at blanks_at (then_at string_at (then_at blanks_at (byte_at 41)))))

unfoldable pub two_strings_at : Reader (List ℕ × List ℕ)
two_strings_at = made_at (λ v. (v.0, v.1.1.1.1)) (then_at string_at (then_at blanks_at (then_at (byte_at 44) (then_at blanks_at string_at))))

unfoldable pub enclosed_strings_at : Reader (List ℕ × List ℕ)
enclosed_strings_at = made_at (λ v. v.1.1.0) (then_at (byte_at 40) (then_at blanks_at (then_at two_strings_at (then_at blanks_at (byte_at 41)))))

unfoldable pub string_and_digits_at : Reader (List ℕ × ℕ)
string_and_digits_at = made_at (λ v. (v.0, v.1.1.1.1)) (then_at string_at (then_at blanks_at (then_at (byte_at 44) (then_at blanks_at digits_at))))

unfoldable pub enclosed_octal_at : Reader (List ℕ × ℕ)
enclosed_octal_at = made_at (λ v. v.1.1.0) (then_at (byte_at 40) (then_at blanks_at (then_at string_and_digits_at (then_at blanks_at (byte_at 41)))))

-- what the word of an operand tells
pub data Named : Type 0 where
  Of_tiny : Bool → Named
  Of_one_text : GameKind → Named
  Of_two_texts : GameKind → Named
  Of_octal : Named

-- the words that operands begin with
abbrev pub named_words : Table Named
named_words =
    (codes "Tiny", Of_tiny false) ∷ (codes "Miny", Of_tiny true)
    ∷ (codes "Domineering", Of_one_text Domineering) ∷ (codes "Clobber", Of_one_text Clobber) ∷ (codes "Amazons", Of_one_text Amazons)
    ∷ (codes "Toads", Of_one_text Toads) ∷ (codes "Hackenbush", Of_one_text Hackenbush)
    ∷ (codes "Strip", Of_two_texts Strip) ∷ (codes "Col", Of_two_texts Col) ∷ (codes "Snort", Of_two_texts Snort) ∷ (codes "Octal", Of_octal) ∷ []

unfoldable pub named_word_at : Reader Named
named_word_at = among_at named_words

-- what stands behind the word
abbrev pub behind_named_at : Named → Reader Found
behind_named_at (Of_tiny miny) = made_at (λ v. clean (tiny miny v.0 v.1)) enclosed_number_at
behind_named_at (Of_one_text kind) = made_at (λ v. clean (one_text kind v.1)) (then_at blanks_at enclosed_string_at)
behind_named_at (Of_two_texts kind) = made_at (λ v. clean (two_texts kind v.1.0 v.1.1)) (then_at blanks_at enclosed_strings_at)
behind_named_at Of_octal = made_at (λ v. clean (octal v.1.0 v.1.1)) (then_at blanks_at enclosed_octal_at)

-- tiny, miny, a board or an octal game
unfoldable pub named_at : Reader Found
named_at = telling_at named_word_at behind_named_at

-- a special without brackets around an expression
unfoldable pub plain_special_at : Reader Found
plain_special_at = or_at (only 43) switch_at named_at

-- ---- names

-- all letters and digits in front, sixteen at most
unfoldable pub lettered_at : Reader (List ℕ)
lettered_at = made_at (λ v. v.0 ∷ v.1) (then_at (one_at letter) (most_at letter_or_digit 15))

unfoldable pub name_at : Reader (List ℕ)
name_at = such_at is_free lettered_at

unfoldable pub use_at : Reader Found
use_at = made_at (λ v. clean (used v.1 v.0)) (placed_at name_at)

-- the same, with what it ends in
unfoldable pub whole_use_at : Reader (Found × Last)
whole_use_at = made_at (λ v. (clean (used v.1 v.0), In_name v.1)) (placed_at name_at)
