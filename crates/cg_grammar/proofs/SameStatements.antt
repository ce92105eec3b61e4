-- Lines of both formats, as the grammar has them and as they are read.
use Rattle.std.proofs.Common.{◌≡◌, ℕ, ◌+◌, ◌≤◌, ◌⊎◌, inl, inr, Bool, true, false, cond, ◌||◌, not, List, [], ◌∷◌}
use Rattle.std.proofs.Common.{◌++◌, length, refl, ap, sym, subst, ◌∙◌, append_assoc, length-append, arith}
use Rattle.std.specs.Prelude.{codes, map}
use Rattle.std.specs.List.{list_all, list_any}
use Rattle.std.specs.Str.{bytes_eq}
use Rattle.std.proofs.lemmas.Slice.Eq.{bytes_eq-Decides}
use Rattle.std.proofs.lemmas.Bool.{not-true}
use Rattle.cg_reading.specs.Bytes.{Class, has}
use Rattle.cg_reading.specs.Pieces.{Piece, Then, Or, Made, Word}
use Rattle.cg_reading.specs.Tokens.{blanks, gap, with_blanks}
use Rattle.cg_reading.specs.Words.{Table, Among}
use Rattle.cg_reading.proofs.Laws.{Lawful}
use Rattle.cg_reading.proofs.Same.{Same, same_self, same_back, same_on, same_lawful, then_same, or_same, made_same}
use Rattle.cg_reading.proofs.Same.{made_twice, made_second, blanks_behind_made, blanks_behind_then, blanks_behind_or}
use Rattle.cg_query.specs.Tree.{Tree, Question, value, compare, outcome, stops, mean, temp, thermo, proof}
use Rattle.cg_query.specs.declared.format.Format.{Format}
use Rattle.cg_query.specs.declared.format.Format.TheVariants as formats
use Rattle.cg_grammar.specs.Found.{Found, Asked, Stated}
use Rattle.cg_grammar.specs.Values.{letter_or_digit, asked_of, asked_of_both, checked, asking, defined}
use Rattle.cg_grammar.specs.Grammar as s
use Rattle.cg_grammar.specs.Lines.{line_of}
use Rattle.cg_grammar.specs.Reading.{line_at, Kind, Of_one, Of_two, Of_check, Of_name, kinds, question_kinds, kind_among, kind_of}
use Rattle.cg_grammar.proofs.Factored as g
use Rattle.cg_grammar.proofs.FreeWords.{letters_spelled, word_is}
use Rattle.cg_grammar.proofs.Productions.{line_ok}
use Rattle.cg_grammar.proofs.SameLines.{expr_same, query_same, one_value, both_value, check_value}
use Rattle.cg_reading.proofs.Spelled.{then_is, then_as, made_is, made_as}

-- ---- blanks belong to what stands before them

abbrev define_value : List ℕ × (List ℕ × (Unit {0} × (List ℕ × Found))) → Stated
define_value v = defined v.0 v.1.1.1.1

abbrev expr : Piece Found
expr = g.expr formats.Two 64

abbrev of_name : Piece Stated
of_name = Made define_value (Then s.name (Then blanks (Then (Word (codes ":=") (tt {0})) (Then blanks expr))))

module _ (format : Format) where
  abbrev of_one : Piece Asked
  of_one = Made one_value (Then s.asking (Then gap (g.expr format 64)))

  abbrev of_two : Piece Asked
  of_two = Made both_value (Then s.asking_both (Then gap (g.both format)))

  abbrev of_check : Piece Asked
  of_check = Made check_value (Then (Word (codes "check") (tt {0})) (Then gap (g.with_semicolon (g.both format) (with_blanks s.string))))

  abbrev questions : Piece Asked
  questions = Or of_one (Or of_two of_check)

abbrev statements : Format → Piece Stated
statements formats.One = Made asking (questions formats.One)
statements formats.Two = Or (Made asking (questions formats.Two)) of_name

define_same : Same (with_blanks s.define) of_name
define_same =
    let E : Piece Found = s.expr (s.special formats.Two 64) in
    let W : Piece (Unit {0}) = Word (codes ":=") (tt {0}) in
    same_on (blanks_behind_made define_value (Then s.name (Then blanks (Then W (Then blanks E)))))
    (made_same define_value
    (same_on (blanks_behind_then s.name (Then blanks (Then W (Then blanks E))))
    (then_same (same_self s.name)
    (same_on (blanks_behind_then blanks (Then W (Then blanks E)))
    (then_same (same_self blanks)
    (same_on (blanks_behind_then W (Then blanks E))
    (then_same (same_self W)
    (same_on (blanks_behind_then blanks E) (then_same (same_self blanks) (same_back (expr_same formats.Two)))))))))))

statements_same : (format : Format) → Same (line_of format) (Made (λ v. v.1) (Then blanks (statements format)))
statements_same formats.One =
    let W : Piece Asked = with_blanks (s.query (s.expr (s.special formats.One 64))) in
    same_on (made_twice asking (λ v. v.1) (Then blanks W))
    (same_on (made_same (λ v. asking v.1) (then_same (same_self blanks) (query_same formats.One)))
    (same_back (same_on (made_same (λ v. v.1) (made_second asking blanks (questions formats.One))) (made_twice (λ v. v.1) (λ v. (v.0, asking v.1)) (Then blanks (questions formats.One))))))
statements_same formats.Two =
    let Q : Piece Asked = s.query (s.expr (s.special formats.Two 64)) in
    made_same (λ v. v.1) (then_same (same_self blanks)
    (same_on (blanks_behind_or (Made asking Q) s.define)
    (or_same (same_on (blanks_behind_made asking Q) (made_same asking (query_same formats.Two))) define_same)))

-- ---- the first word

asking_word : (i : ℕ) (ask : Tree → Question) (x : List ℕ) → s.asking i ask x → Among question_kinds i (Of_one ask) x
asking_word i ask x (inl w) = inl (ap Of_one w.0, w.1)
asking_word i ask x (inr (inl w)) = inr (inr (inl (ap Of_one w.0, w.1)))
asking_word i ask x (inr (inr (inl w))) = inr (inr (inr (inl (ap Of_one w.0, w.1))))
asking_word i ask x (inr (inr (inr (inl w)))) = inr (inr (inr (inr (inl (ap Of_one w.0, w.1)))))
asking_word i ask x (inr (inr (inr (inr (inl w))))) = inr (inr (inr (inr (inr (inl (ap Of_one w.0, w.1))))))
asking_word i ask x (inr (inr (inr (inr (inr w))))) = inr (inr (inr (inr (inr (inr (inl (ap Of_one w.0, w.1)))))))

both_word : (i : ℕ) (ask : Tree → Tree → Question) (x : List ℕ) → s.asking_both i ask x → Among question_kinds i (Of_two ask) x
both_word i ask x (inl w) = inr (inl (ap Of_two w.0, w.1))
both_word i ask x (inr w) = inr (inr (inr (inr (inr (inr (inr (inl (ap Of_two w.0, w.1))))))))

check_word : (i : ℕ) (x : List ℕ) → x ≡ codes "check" → Among question_kinds i Of_check x
check_word i x e = inr (inr (inr (inr (inr (inr (inr (inr (inl (refl, e)))))))))

-- a word of a question as the first word of a line
abbrev First : Format → ℕ → Kind → List ℕ → Type 0
First format i k x = (word : List ℕ) × g.first_word format i (word, k) x

in_letters : (i b : ℕ) (bs : List ℕ) (k : Kind) (x : List ℕ) → k ≡ kind_of (b ∷ bs) → x ≡ b ∷ bs → has s.letter b ≡ true → list_all (has letter_or_digit) bs ≡ true → length bs ≤ 15 → First formats.Two i k x
in_letters i b bs k x e f h a few = (b ∷ bs, inr (made_as (b ∷ bs) (subst (λ (z : List ℕ). s.lettered i (b ∷ bs) z) (sym f) (word_is i b bs h a few)) (ap (λ (z : Kind). (b ∷ bs, z)) e)))

known_first : (format : Format) (i : ℕ) (k : Kind) (x : List ℕ) → Among question_kinds i k x → First format i k x
known_first formats.One i k x m = ([], made_is k m)
known_first formats.Two i k x (inl w) = ([], inl (made_as (tt {0}) (refl, w.1) (ap (λ (z : Kind). ([], z)) w.0)))
known_first formats.Two i k x (inr (inl w)) = in_letters i 99 (codes "ompare") k x w.0 w.1 refl refl (omega arith)
known_first formats.Two i k x (inr (inr (inl w))) = in_letters i 111 (codes "utcome") k x w.0 w.1 refl refl (omega arith)
known_first formats.Two i k x (inr (inr (inr (inl w)))) = in_letters i 115 (codes "tops") k x w.0 w.1 refl refl (omega arith)
known_first formats.Two i k x (inr (inr (inr (inr (inl w))))) = in_letters i 109 (codes "ean") k x w.0 w.1 refl refl (omega arith)
known_first formats.Two i k x (inr (inr (inr (inr (inr (inl w)))))) = in_letters i 116 (codes "emp") k x w.0 w.1 refl refl (omega arith)
known_first formats.Two i k x (inr (inr (inr (inr (inr (inr (inl w))))))) = in_letters i 116 (codes "hermo") k x w.0 w.1 refl refl (omega arith)
known_first formats.Two i k x (inr (inr (inr (inr (inr (inr (inr (inl w)))))))) = in_letters i 112 (codes "roof") k x w.0 w.1 refl refl (omega arith)
known_first formats.Two i k x (inr (inr (inr (inr (inr (inr (inr (inr (inl w))))))))) = in_letters i 99 (codes "heck") k x w.0 w.1 refl refl (omega arith)
known_first formats.Two i k x (inr (inr (inr (inr (inr (inr (inr (inr (inr w))))))))) = elim w [ ]

-- a word is one of a table, or none of its words
among_kinds : (i : ℕ) (w : List ℕ) (ks : Table Kind) → Among ks i (kind_among ks w) w ⊎ ((list_any (bytes_eq w) (map (λ k. k.0) ks) ≡ false) × (kind_among ks w ≡ Of_name))
among_kinds i w [] = inr (refl, refl)
among_kinds i w (k ∷ ks) = chosen (bytes_eq w k.0) refl (among_kinds i w ks)
  where
    chosen : (t : Bool) → bytes_eq w k.0 ≡ t → Among ks i (kind_among ks w) w ⊎ ((list_any (bytes_eq w) (map (λ k. k.0) ks) ≡ false) × (kind_among ks w ≡ Of_name))
        → (Word k.0 k.1 i (cond t k.1 (kind_among ks w)) w ⊎ Among ks i (cond t k.1 (kind_among ks w)) w)
        ⊎ (((t || list_any (bytes_eq w) (map (λ k. k.0) ks)) ≡ false) × (cond t k.1 (kind_among ks w) ≡ Of_name))
    chosen true e r = inl (inl (refl, (bytes_eq-Decides w k.0).0 e))
    chosen false e (inl m) = inl (inr m)
    chosen false e (inr n) = inr n

none_among : (w : List ℕ) (ks : Table Kind) → list_any (bytes_eq w) (map (λ k. k.0) ks) ≡ false → kind_among ks w ≡ Of_name
none_among w [] h = refl
none_among w (k ∷ ks) h = chosen (bytes_eq w k.0) (none_among w ks) h
  where
    chosen : (t : Bool) → (list_any (bytes_eq w) (map (λ k. k.0) ks) ≡ false → kind_among ks w ≡ Of_name) → (t || list_any (bytes_eq w) (map (λ k. k.0) ks)) ≡ false → cond t k.1 (kind_among ks w) ≡ Of_name
    chosen true f e = absurd (let g : true ≡ false = e in cc)
    chosen false f e = f e

-- ---- from the grammar

module _ (format : Format) (i : ℕ) (a : Stated) (text : List ℕ) where
  to_question : (q : Asked) → questions format i q text → a ≡ asking q → g.statement format i a text
  to_question q (inl n) e =
      let w = known_first format i (Of_one n.made_of.0) n.is.before (asking_word i n.made_of.0 n.is.before n.is.first) in
      record { told = (w.0, Of_one n.made_of.0); before = n.is.before; behind = n.is.behind; first = w.1; second = made_as n.made_of.1 n.is.second (e ∙ ap asking n.same); spelled = n.is.spelled }
  to_question q (inr (inl n)) e =
      let w = known_first format i (Of_two n.made_of.0) n.is.before (both_word i n.made_of.0 n.is.before n.is.first) in
      record { told = (w.0, Of_two n.made_of.0); before = n.is.before; behind = n.is.behind; first = w.1; second = made_as n.made_of.1 n.is.second (e ∙ ap asking n.same); spelled = n.is.spelled }
  to_question q (inr (inr n)) e =
      let w = known_first format i Of_check n.is.before (check_word i n.is.before n.is.first.1) in
      record { told = (w.0, Of_check); before = n.is.before; behind = n.is.behind; first = w.1; second = made_as n.made_of.1 n.is.second (e ∙ ap asking n.same); spelled = n.is.spelled }

name_to : (i : ℕ) (a : Stated) (text : List ℕ) → of_name i a text → g.statement formats.Two i a text
name_to i a text m =
    let w = m.made_of.0 in
    let x = m.is.before in
    let y = m.is.behind in
    let n = m.is.second in
    let inner : g.behind_word formats.Two w Of_name (i + length x) a y = made_as (tt {0}, m.made_of.1.1.1.1) (then_as (n.before ++ (n.second.before ++ n.second.second.before)) n.second.second.behind (made_is (m.made_of.1.0, (tt {0}, m.made_of.1.1.1.0)) (then_is n.before (n.second.before ++ n.second.second.before) n.first (then_is n.second.before n.second.second.before (refl, n.second.first.1) n.second.second.first))) (moved (i + length x) n.before n.second.before n.second.second.before m.made_of.1.1.1.1 n.second.second.behind n.second.second.second) (all y n.before n.second.before n.second.second.before n.behind n.second.behind n.second.second.behind n.spelled n.second.spelled n.second.second.spelled)) m.same in
    let free : kind_of w ≡ Of_name = none_among w kinds (not-true (list_any (bytes_eq w) s.question_words) m.is.first.holds) in
    record {
      told = (w, kind_of w);
      before = x;
      behind = y;
      first = inr (made_is w m.is.first.is);
      second = subst (λ (z : Kind). g.behind_word formats.Two w z (i + length x) a y) (sym free) inner;
      spelled = m.is.spelled;
    }
  where
    moved : (n : ℕ) (p q r : List ℕ) (e : Found) (z : List ℕ) → expr (n + length p + length q + length r) e z → expr (n + length (p ++ (q ++ r))) e z
    moved n p q r e z m = subst (λ (k : ℕ). expr k e z) (omega (arith, length-append p (q ++ r), length-append q r)) m

    all : (y p q r b c z : List ℕ) → y ≡ p ++ b → b ≡ q ++ c → c ≡ r ++ z → y ≡ (p ++ (q ++ r)) ++ z
    all y p q r b c z e f h =
        e ∙ ap (λ (u : List ℕ). p ++ u) (f ∙ ap (λ (u : List ℕ). q ++ u) h ∙ sym (append_assoc q r z)) ∙ sym (append_assoc p (q ++ r) z)

-- ---- to the grammar

module _ (format : Format) (i : ℕ) (a : Stated) (text word : List ℕ) (k : Kind) (x y : List ℕ) (second : g.behind_word format word k (i + length x) a y) (spelled : text ≡ x ++ y) where
  from_one : (ask : Tree → Question) → s.asking i ask x → k ≡ Of_one ask → Made asking (questions format) i a text
  from_one ask q e =
      let m = subst (λ (z : Kind). g.behind_word format word z (i + length x) a y) e second in
      made_as (asked_of ask m.made_of.1) (inl (made_is (ask, m.made_of) (then_as x y q m.is spelled))) m.same

  from_two : (ask : Tree → Tree → Question) → s.asking_both i ask x → k ≡ Of_two ask → Made asking (questions format) i a text
  from_two ask q e =
      let m = subst (λ (z : Kind). g.behind_word format word z (i + length x) a y) e second in
      made_as (asked_of_both ask m.made_of.1.0 m.made_of.1.1) (inr (inl (made_is (ask, m.made_of) (then_as x y q m.is spelled)))) m.same

  from_check : x ≡ codes "check" → k ≡ Of_check → Made asking (questions format) i a text
  from_check q e =
      let m = subst (λ (z : Kind). g.behind_word format word z (i + length x) a y) e second in
      made_as (checked m.made_of.1.0.0 m.made_of.1.0.1 m.made_of.1.1) (inr (inr (made_is (tt {0}, m.made_of) (then_as x y (refl, q) m.is spelled)))) m.same

  from_known : Among question_kinds i k x → Made asking (questions format) i a text
  from_known (inl w) = from_one value (inl (refl, w.1)) w.0
  from_known (inr (inl w)) = from_two compare (inl (refl, w.1)) w.0
  from_known (inr (inr (inl w))) = from_one outcome (inr (inl (refl, w.1))) w.0
  from_known (inr (inr (inr (inl w)))) = from_one stops (inr (inr (inl (refl, w.1)))) w.0
  from_known (inr (inr (inr (inr (inl w))))) = from_one mean (inr (inr (inr (inl (refl, w.1))))) w.0
  from_known (inr (inr (inr (inr (inr (inl w)))))) = from_one temp (inr (inr (inr (inr (inl (refl, w.1)))))) w.0
  from_known (inr (inr (inr (inr (inr (inr (inl w))))))) = from_one thermo (inr (inr (inr (inr (inr (refl, w.1)))))) w.0
  from_known (inr (inr (inr (inr (inr (inr (inr (inl w)))))))) = from_two proof (inr (refl, w.1)) w.0
  from_known (inr (inr (inr (inr (inr (inr (inr (inr (inl w))))))))) = from_check w.1 w.0
  from_known (inr (inr (inr (inr (inr (inr (inr (inr (inr w))))))))) = elim w [ ]

from_name : (i : ℕ) (a : Stated) (text word x y : List ℕ) → s.lettered i word x → s.is_free word ≡ true → g.behind_word formats.Two word Of_name (i + length x) a y → text ≡ x ++ y → of_name i a text
from_name i a text word x y l h m spelled =
    let b = m.is.first in
    let p = b.is.before in
    let q = b.is.second.before in
    let r = b.is.second.behind in
    let z = m.is.behind in
    let here : i + length x + length m.is.before ≡ i + length x + length p + length q + length r = omega (arith, ap length b.is.spelled, length-append p b.is.behind, ap length b.is.second.spelled, length-append q r) in
    made_as (word, (b.made_of.0, (tt {0}, (b.made_of.1.1, m.made_of.1)))) (then_as x y (record { is = l; holds = h }) (then_as p (q ++ (r ++ z)) b.is.first (then_is q (r ++ z) (refl, b.is.second.first.1) (then_is r z b.is.second.second (subst (λ (n : ℕ). expr n m.made_of.1 z) here m.is.second))) (m.is.spelled ∙ ap (λ (u : List ℕ). u ++ z) (b.is.spelled ∙ ap (λ (u : List ℕ). p ++ u) b.is.second.spelled) ∙ append_assoc p (q ++ r) z ∙ ap (λ (u : List ℕ). p ++ u) (append_assoc q r z))) spelled) m.same

module _ (i : ℕ) (a : Stated) (text : List ℕ) where
  from_first : (x y : List ℕ) (w : List ℕ × Kind) → g.first_word formats.Two i w x → g.behind_word formats.Two w.0 w.1 (i + length x) a y → text ≡ x ++ y → statements formats.Two i a text
  from_first x y w (inl m) second spelled = inl (from_known formats.Two i a text w.0 w.1 x y second spelled (inl (ap (λ (z : List ℕ × Kind). z.1) m.same, m.is.1)))
  from_first x y w (inr m) second spelled =
      let word = m.made_of in
      let here = subst (λ (z : List ℕ × Kind). g.behind_word formats.Two z.0 z.1 (i + length x) a y) m.same second in
      elim (among_kinds i word kinds) [
        | inl k ↦ inl (from_known formats.Two i a text word (kind_of word) x y here spelled (inr (subst (λ (z : List ℕ). Among kinds i (kind_of word) z) (sym (letters_spelled i word x m.is)) k)))
        | inr n ↦ inr (from_name i a text word x y m.is (ap not n.0) (subst (λ (z : Kind). g.behind_word formats.Two word z (i + length x) a y) n.1 here) spelled)
      ]

words_same : (format : Format) → Same (statements format) (g.statement format)
words_same formats.One = record {
  to = λ i a text m. to_question formats.One i a text m.made_of m.is m.same;
  from = λ i a text t. from_known formats.One i a text t.told.0 t.told.1 t.before t.behind t.second t.spelled (subst (λ (z : List ℕ × Kind). Among question_kinds i z.1 t.before) (sym t.first.same) t.first.is);
}
words_same formats.Two = record { to = to; from = λ i a text t. from_first i a text t.before t.behind t.told t.first t.second t.spelled }
  where
    to : (i : ℕ) (a : Stated) (text : List ℕ) → statements formats.Two i a text → g.statement formats.Two i a text
    to i a text (inl m) = to_question formats.Two i a text m.made_of m.is m.same
    to i a text (inr m) = name_to i a text m

pub line_same : (format : Format) → Same (g.line format) (line_of format)
line_same format = same_back (same_on (statements_same format) (made_same (λ v. v.1) (then_same (same_self blanks) (words_same format))))

abbrev pub line_begin : Class
line_begin = (32, 32) ∷ (9, 9) ∷ (13, 13) ∷ (97, 122) ∷ []

abbrev pub line_follow : Class
line_follow = (97, 122) ∷ (48, 57) ∷ (94, 94) ∷ (42, 42) ∷ (47, 47) ∷ (46, 46) ∷ (32, 32) ∷ (9, 9) ∷ (13, 13) ∷ (43, 43) ∷ (45, 45) ∷ []

pub line_lawful : (format : Format) → Lawful (line_of format) (line_at format) line_begin false line_follow
line_lawful format = same_lawful (line_same format) (line_ok format)
