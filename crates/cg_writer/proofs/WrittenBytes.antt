-- What is written of a question is ASCII.
use Rattle.std.proofs.Common.{◌≡◌, refl, ap, sym, ◌∙◌, ℕ, zero, suc, ◌^◌, ◌<◌, arith, List, [], ◌∷◌, ◌++◌, Bool, true, false, cond, ◌&&◌, leb, length, get_or}
use Rattle.std.specs.Prelude.{codes, decimal, nat_lt, if◌then◌else◌, replicate}
use Rattle.std.specs.List.{list_all}
use Rattle.std.specs.Str.{IsAscii}
use Rattle.std.proofs.Math.Bool.{or-false}
use Rattle.std.proofs.lemmas.Bool.{and_parts, leb-true}
use Rattle.std.proofs.lemmas.Bool.Decides.{nat_tests}
use Rattle.std.proofs.lemmas.Fmt.{IsAscii-decimal_wide}
use Rattle.std.proofs.lemmas.Str.{IsAscii-append}
use Rattle.std.proofs.lemmas.Str.Ascii.{IsAscii-from_all, IsAscii-nil}
use Rattle.cg_reading.specs.Bytes.{Class, has}
use Rattle.cg_reading.proofs.Sets.{inside, inside_has}
use Rattle.cg_grammar.specs.Grammar.{printable}
use Rattle.cg_query.specs.Tree.{Question, Tree, Trees, Terms, check, compare, game, mean, multiple, negative, nimber, no_terms, no_trees, number}
use Rattle.cg_query.specs.Tree.{octal, used, outcome, proof, sides, stops, sum, switch, temp, thermo, tiny, ups, value, with_term, with_tree}
use Rattle.cg_grammar.specs.Written.{AreFurther, AreTerms, AreTexts, AreWritable, IsAskable, IsPrintable, IsSum, IsWritable}
use Rattle.cg_grammar.specs.Written.{asked_text, enclosed_text, fraction_text, is_braces, kind_text, more_terms, more_texts}
use Rattle.cg_grammar.specs.Written.{quoted, terms_text, text_of, texts_of, texts_of_game, two_quoted, ups_text}
use Rattle.cg_query.specs.declared.kind.GameKind.{GameKind}
use Rattle.cg_query.specs.declared.kind.GameKind.TheVariants.{Domineering, Clobber, Amazons, Toads, Strip, Hackenbush, Col, Snort}

-- ---- tokens

abbrev ascii : Class
ascii = (0, 127) ∷ []

below : (b : ℕ) → has ascii b ≡ true → b < 128
below b h =
    let p = and_parts (leb 0 b) (leb b 127) (sym (or-false (leb 0 b && leb b 127)) ∙ h) in
    let l = leb-true b 127 p.1 in
    omega arith

-- bytes of a set within ASCII
all_below : (c : Class) → inside c ascii ≡ true → (text : List ℕ) → list_all (has c) text ≡ true → (k d : ℕ) → k < length text → get_or text k d < 128
all_below c i [] w k d l = absurd (omega arith)
all_below c i (b ∷ text) w k d l = by k l (and_parts (has c b) (list_all (has c) text) w) (λ p. all_below c i text p)
  where
    by : (n : ℕ) → n < length (b ∷ text) → (has c b ≡ true) × (list_all (has c) text ≡ true)
        → (list_all (has c) text ≡ true → (k d : ℕ) → k < length text → get_or text k d < 128) → get_or (b ∷ text) n d < 128
    by zero h p f = below b (inside_has c ascii b i p.0)
    by (suc n) h p f = f p.1 n d (omega arith)

within : (text : List ℕ) → list_all (has ascii) text ≡ true → IsAscii text
within text w = IsAscii-from_all text (all_below ascii refl text w)

printable_ascii : (text : List ℕ) → IsPrintable text → IsAscii text
printable_ascii text p = IsAscii-from_all text (all_below printable refl text p)

behind : (b : ℕ) → has ascii b ≡ true → (text : List ℕ) → IsAscii text → IsAscii (b ∷ text)
behind b h text a = IsAscii-append (b ∷ []) text (within (b ∷ []) (ap (λ t. t && true) h)) a

before_end : (text : List ℕ) → IsAscii text → (b : ℕ) → has ascii b ≡ true → IsAscii (text ++ (b ∷ []))
before_end text a b h = IsAscii-append text (b ∷ []) a (within (b ∷ []) (ap (λ t. t && true) h))

decimal_ascii : (n : ℕ) → n < 10 ^ 30 → IsAscii (decimal n)
decimal_ascii n l = IsAscii-decimal_wide n (omega arith)

fraction_ascii : (num den : ℕ) → num < 10 ^ 30 → den < 10 ^ 30 → IsAscii (fraction_text num den)
fraction_ascii num den l r = IsAscii-append (decimal num) (47 ∷ decimal den) (decimal_ascii num l) (behind 47 refl (decimal den) (decimal_ascii den r))

run_ascii : (n b : ℕ) → has ascii b ≡ true → IsAscii (replicate n b)
run_ascii zero b h = IsAscii-nil
run_ascii (suc n) b h = behind b h (replicate n b) (run_ascii n b h)

ups_ascii : (b n : ℕ) → has ascii b ≡ true → IsAscii (ups_text b n)
ups_ascii b n h = by (nat_lt n (10 ^ 30)) refl
  where
    by : (t : Bool) → nat_lt n (10 ^ 30) ≡ t → IsAscii (if t then b ∷ decimal n else replicate n b)
    by true e = behind b h (decimal n) (decimal_ascii n (grind (arith, nat_tests)))
    by false e = run_ascii n b h

arrow_ascii : (down : Bool) → has ascii (cond down 118 94) ≡ true
arrow_ascii true = refl
arrow_ascii false = refl

sign_ascii : (minus : Bool) → has ascii (cond minus 45 43) ≡ true
sign_ascii true = refl
sign_ascii false = refl

quoted_ascii : (text : List ℕ) → IsPrintable text → IsAscii (quoted text)
quoted_ascii text p = behind 34 refl (text ++ (34 ∷ [])) (before_end text (printable_ascii text p) 34 refl)

enclosed_ascii : (b : Bool) (text : List ℕ) → IsAscii text → IsAscii (enclosed_text b text)
enclosed_ascii true text a = a
enclosed_ascii false text a = behind 40 refl (text ++ (41 ∷ [])) (before_end text a 41 refl)

-- ---- boards

kind_ascii : (kind : GameKind) → IsAscii (kind_text kind)
kind_ascii Domineering = within (codes "Domineering") refl
kind_ascii Clobber = within (codes "Clobber") refl
kind_ascii Amazons = within (codes "Amazons") refl
kind_ascii Toads = within (codes "Toads") refl
kind_ascii Strip = within (codes "Strip") refl
kind_ascii Hackenbush = within (codes "Hackenbush") refl
kind_ascii Col = within (codes "Col") refl
kind_ascii Snort = within (codes "Snort") refl

two_ascii : (first second : List ℕ) → IsPrintable first → IsPrintable second → IsAscii (two_quoted first second)
two_ascii first second p q =
    IsAscii-append (quoted first) (44 ∷ quoted second) (quoted_ascii first p) (behind 44 refl (quoted second) (quoted_ascii second q))

texts_ascii : (kind : GameKind) (rules board : List ℕ) → AreTexts kind rules board → IsAscii (texts_of_game kind rules board)
texts_ascii Domineering rules board a = quoted_ascii board a.1
texts_ascii Clobber rules board a = quoted_ascii board a.1
texts_ascii Amazons rules board a = quoted_ascii board a.1
texts_ascii Toads rules board a = quoted_ascii board a.1
texts_ascii Strip rules board a = two_ascii rules board a.0 a.1
texts_ascii Hackenbush rules board a = quoted_ascii rules a.0
texts_ascii Col rules board a = two_ascii board rules a.1 a.0
texts_ascii Snort rules board a = two_ascii board rules a.1 a.0

game_ascii : (kind : GameKind) (rules board : List ℕ) → AreTexts kind rules board → IsAscii (text_of (game kind rules board))
unfolding text_of
game_ascii kind rules board a =
    IsAscii-append (kind_text kind) (40 ∷ (texts_of_game kind rules board ++ (41 ∷ []))) (kind_ascii kind)
    (behind 40 refl (texts_of_game kind rules board ++ (41 ∷ [])) (before_end (texts_of_game kind rules board) (texts_ascii kind rules board a) 41 refl))

octal_ascii : (code : List ℕ) (heap : ℕ) → IsPrintable code → heap < 10 ^ 30 → IsAscii (text_of (octal code heap))
unfolding text_of
octal_ascii code heap p l =
    let inner = IsAscii-append (quoted code) (44 ∷ decimal heap) (quoted_ascii code p) (behind 44 refl (decimal heap) (decimal_ascii heap l)) in
    IsAscii-append (codes "Octal(") ((quoted code ++ (44 ∷ decimal heap)) ++ (41 ∷ [])) (within (codes "Octal(") refl)
    (before_end (quoted code ++ (44 ∷ decimal heap)) inner 41 refl)

-- ---- trees

minus_ascii : (below_zero : Bool) → IsAscii (cond below_zero (codes "-") [])
minus_ascii true = within (codes "-") refl
minus_ascii false = IsAscii-nil

tiny_word_ascii : (miny : Bool) → IsAscii (cond miny (codes "Miny(") (codes "Tiny("))
tiny_word_ascii true = within (codes "Miny(") refl
tiny_word_ascii false = within (codes "Tiny(") refl

number_ascii : (below_zero : Bool) (num den : ℕ) → num < 10 ^ 30 → den < 10 ^ 30 → IsAscii (text_of (number below_zero num den))
unfolding text_of
number_ascii b num den l r = IsAscii-append (cond b (codes "-") []) (fraction_text num den) (minus_ascii b) (fraction_ascii num den l r)

arrows_ascii : (down : Bool) (n : ℕ) → IsAscii (text_of (ups down n))
unfolding text_of
arrows_ascii down n = ups_ascii (cond down 118 94) n (arrow_ascii down)

nimber_ascii : (n : ℕ) → n < 10 ^ 30 → IsAscii (text_of (nimber n))
unfolding text_of
nimber_ascii n l = behind 42 refl (decimal n) (decimal_ascii n l)

switch_ascii : (num den : ℕ) → num < 10 ^ 30 → den < 10 ^ 30 → IsAscii (text_of (switch num den))
unfolding text_of
switch_ascii num den l r = IsAscii-append (codes "+-") (fraction_text num den) (within (codes "+-") refl) (fraction_ascii num den l r)

tiny_ascii : (miny : Bool) (num den : ℕ) → num < 10 ^ 30 → den < 10 ^ 30 → IsAscii (text_of (tiny miny num den))
unfolding text_of
tiny_ascii miny num den l r = IsAscii-append (cond miny (codes "Miny(") (codes "Tiny(")) (fraction_text num den ++ codes ")")
    (tiny_word_ascii miny) (before_end (fraction_text num den) (fraction_ascii num den l r) 41 refl)

sides_ascii : (lefts rights : Trees) → IsAscii (texts_of lefts) → IsAscii (texts_of rights) → IsAscii (text_of (sides lefts rights))
unfolding text_of
sides_ascii lefts rights l r =
    let behind_bar = IsAscii-append (codes "| ") (texts_of rights ++ (125 ∷ [])) (within (codes "| ") refl)
    (before_end (texts_of rights) r 125 refl) in
    behind 123 refl (texts_of lefts ++ (codes "| " ++ (texts_of rights ++ (125 ∷ []))))
    (IsAscii-append (texts_of lefts) (codes "| " ++ (texts_of rights ++ (125 ∷ []))) l behind_bar)

negative_ascii : (t : Tree) → IsAscii (text_of t) → IsAscii (text_of (negative t))
unfolding text_of
negative_ascii t a = behind 45 refl (enclosed_text (is_braces t) (text_of t)) (enclosed_ascii (is_braces t) (text_of t) a)

multiple_ascii : (n : ℕ) (t : Tree) → n < 10 ^ 30 → IsAscii (text_of t) → IsAscii (text_of (multiple n t))
unfolding text_of
multiple_ascii n t l a = IsAscii-append (decimal n) (46 ∷ enclosed_text (is_braces t) (text_of t)) (decimal_ascii n l)
    (behind 46 refl (enclosed_text (is_braces t) (text_of t)) (enclosed_ascii (is_braces t) (text_of t) a))

sum_ascii : (minus : Bool) (t : Tree) (ts : Terms) → IsAscii (text_of t) → IsAscii (more_terms ts) → IsAscii (text_of (sum (with_term minus t ts)))
unfolding text_of terms_text
sum_ascii minus t ts a m = IsAscii-append (enclosed_text (is_braces t) (text_of t)) (more_terms ts) (enclosed_ascii (is_braces t) (text_of t) a) m

no_trees_ascii : IsAscii (texts_of no_trees)
unfolding texts_of
no_trees_ascii = IsAscii-nil

trees_ascii : (t : Tree) (ts : Trees) → IsAscii (text_of t) → IsAscii (more_texts ts) → IsAscii (texts_of (with_tree t ts))
unfolding texts_of
trees_ascii t ts a m = IsAscii-append (text_of t) (more_texts ts) a m

no_more_trees_ascii : IsAscii (more_texts no_trees)
unfolding more_texts
no_more_trees_ascii = IsAscii-nil

more_trees_ascii : (t : Tree) (ts : Trees) → IsAscii (text_of t) → IsAscii (more_texts ts) → IsAscii (more_texts (with_tree t ts))
unfolding more_texts
more_trees_ascii t ts a m = behind 44 refl (text_of t ++ more_texts ts) (IsAscii-append (text_of t) (more_texts ts) a m)

no_more_terms_ascii : IsAscii (more_terms no_terms)
unfolding more_terms
no_more_terms_ascii = IsAscii-nil

more_terms_ascii : (minus : Bool) (t : Tree) (ts : Terms) → IsAscii (text_of t) → IsAscii (more_terms ts) → IsAscii (more_terms (with_term minus t ts))
unfolding more_terms
more_terms_ascii minus t ts a m = behind (cond minus 45 43) (sign_ascii minus) (enclosed_text (is_braces t) (text_of t) ++ more_terms ts)
    (IsAscii-append (enclosed_text (is_braces t) (text_of t)) (more_terms ts) (enclosed_ascii (is_braces t) (text_of t) a) m)

mutual
  written_ascii : (t : Tree) → IsWritable t → IsAscii (text_of t)
  written_ascii (number b num den) w = number_ascii b num den w.0 w.1
  written_ascii (ups down n) w = arrows_ascii down n
  written_ascii (nimber n) w = nimber_ascii n w
  written_ascii (switch num den) w = switch_ascii num den w.0 w.1
  written_ascii (tiny miny num den) w = tiny_ascii miny num den w.0 w.1
  written_ascii (sides ls rs) w = sides_ascii ls rs (side_ascii ls w.0) (side_ascii rs w.1)
  written_ascii (negative t) w = negative_ascii t (written_ascii t w)
  written_ascii (multiple n t) w = multiple_ascii n t w.0 (written_ascii t w.1)
  written_ascii (sum terms) w = terms_ascii terms w
  written_ascii (game kind rules board) w = game_ascii kind rules board w
  written_ascii (octal code heap) w = octal_ascii code heap w.0 w.1
  written_ascii (used word column) w = absurd w

  side_ascii : (ts : Trees) → AreWritable ts → IsAscii (texts_of ts)
  side_ascii no_trees w = no_trees_ascii
  side_ascii (with_tree t ts) w = trees_ascii t ts (written_ascii t w.0) (rest_ascii ts w.1)

  rest_ascii : (ts : Trees) → AreWritable ts → IsAscii (more_texts ts)
  rest_ascii no_trees w = no_more_trees_ascii
  rest_ascii (with_tree t ts) w = more_trees_ascii t ts (written_ascii t w.0) (rest_ascii ts w.1)

  terms_ascii : (ts : Terms) → IsSum ts → IsAscii (text_of (sum ts))
  terms_ascii no_terms w = absurd w
  terms_ascii (with_term minus t ts) w = sum_ascii minus t ts (written_ascii t w.1) (further_ascii ts w.2)

  further_ascii : (ts : Terms) → AreFurther ts → IsAscii (more_terms ts)
  further_ascii no_terms w = absurd w
  further_ascii (with_term minus t ts) w = more_terms_ascii minus t ts (written_ascii t w.0) (more_ascii ts w.1)

  more_ascii : (ts : Terms) → AreTerms ts → IsAscii (more_terms ts)
  more_ascii no_terms w = no_more_terms_ascii
  more_ascii (with_term minus t ts) w = more_terms_ascii minus t ts (written_ascii t w.0) (more_ascii ts w.1)

-- ---- questions

word_ascii : (word : List ℕ) → list_all (has ascii) word ≡ true → (t : Tree) → IsWritable t → IsAscii (word ++ text_of t)
word_ascii word h t w = IsAscii-append word (text_of t) (within word h) (written_ascii t w)

both_ascii : (word : List ℕ) → list_all (has ascii) word ≡ true → (s t : Tree) → IsWritable s → IsWritable t
    → IsAscii (word ++ (text_of s ++ (codes ";" ++ text_of t)))
both_ascii word h s t v w = IsAscii-append word (text_of s ++ (codes ";" ++ text_of t)) (within word h)
    (IsAscii-append (text_of s) (codes ";" ++ text_of t) (written_ascii s v) (word_ascii (codes ";") refl t w))

check_ascii : (s t : Tree) (text : List ℕ) → IsWritable s → IsWritable t → IsPrintable text → IsAscii (asked_text (check s t text))
check_ascii s t text v w p =
    IsAscii-append (codes "check ") ((text_of s ++ (codes ";" ++ text_of t)) ++ (codes ";" ++ quoted text)) (within (codes "check ") refl)
    (IsAscii-append (text_of s ++ (codes ";" ++ text_of t)) (codes ";" ++ quoted text) (both_ascii [] refl s t v w)
    (behind 59 refl (quoted text) (quoted_ascii text p)))

pub question_ascii : (q : Question) → IsAskable q → IsAscii (asked_text q)
question_ascii (value t) w = word_ascii (codes "value ") refl t w
question_ascii (outcome t) w = word_ascii (codes "outcome ") refl t w
question_ascii (stops t) w = word_ascii (codes "stops ") refl t w
question_ascii (mean t) w = word_ascii (codes "mean ") refl t w
question_ascii (temp t) w = word_ascii (codes "temp ") refl t w
question_ascii (thermo t) w = word_ascii (codes "thermo ") refl t w
question_ascii (compare s t) w = both_ascii (codes "compare ") refl s t w.0 w.1
question_ascii (proof s t) w = both_ascii (codes "proof ") refl s t w.0 w.1
question_ascii (check s t text) w = check_ascii s t text w.0.0 w.0.1 w.1
