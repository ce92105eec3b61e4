-- Words that are no names go on to names.
use Rattle.std.proofs.Common.{◌≡◌, ℕ, ◌≤◌, Bool, true, false, ◌||◌, List, [], ◌∷◌, ◌++◌, length, refl, ap, sym, subst, ◌∙◌, arith}
use Rattle.std.specs.Prelude.{codes}
use Rattle.std.specs.List.{list_all, list_any}
use Rattle.std.specs.Str.{bytes_eq}
use Rattle.std.proofs.lemmas.Bool.{not-false}
use Rattle.std.proofs.lemmas.Slice.Eq.{bytes_eq-Decides}
use Rattle.cg_reading.specs.Bytes.{Class, has}
use Rattle.cg_reading.specs.Pieces.{Few}
use Rattle.cg_reading.proofs.Laws.{Some_text}
use Rattle.cg_reading.proofs.Tellings.{Goes_on}
use Rattle.cg_grammar.specs.Values.{letter_or_digit}
use Rattle.cg_grammar.specs.Grammar.{letter, lettered, question_words, is_free}
use Rattle.cg_reading.proofs.Spelled.{then_is, made_is}

pub no_few : (c : Class) (most j : ℕ) → Some_text (Few c most) j
no_few c most j = record { value = []; text = []; is = record { within = refl; few = omega arith; spelled = refl } }

-- a letter, and letters and digits behind it
pub word_is : (i b : ℕ) (bs : List ℕ) → has letter b ≡ true → list_all (has letter_or_digit) bs ≡ true → length bs ≤ 15 → lettered i (b ∷ bs) (b ∷ bs)
word_is i b bs h a few = made_is (b, bs) (then_is (b ∷ []) bs (record { within = h; spelled = refl }) (record { within = a; few = few; spelled = refl }))

-- what all of a list have
abbrev pub Each : (List ℕ → Type 0) → List (List ℕ) → Type 0
Each P [] = Unit {0}
Each P (w ∷ ws) = P w × Each P ws

pub among : (P : List ℕ → Type 0) (w : List ℕ) (ws : List (List ℕ)) → Each P ws → list_any (bytes_eq w) ws ≡ true → P w
among P w [] a h = absurd (let e : false ≡ true = h in cc)
among P w (x ∷ ws) a h = chosen (bytes_eq w x) refl (among P w ws a.1) h
  where
    chosen : (t : Bool) → bytes_eq w x ≡ t → (list_any (bytes_eq w) ws ≡ true → P w) → (t || list_any (bytes_eq w) ws) ≡ true → P w
    chosen true e f k = subst P (sym ((bytes_eq-Decides w x).0 e)) a.0
    chosen false e f k = f k

-- a word that goes on to a name
abbrev Longer : List ℕ → Type 0
Longer w = (i : ℕ) (text : List ℕ) → lettered i w text → Goes_on is_free lettered i text

pub letters_spelled : (i : ℕ) (w text : List ℕ) → lettered i w text → text ≡ w
letters_spelled i w text m = m.is.spelled ∙ both m.is.before m.is.behind m.made_of.0 m.made_of.1 m.is.first.spelled m.is.second.spelled ∙ sym m.same
  where
    both : (x y : List ℕ) (b : ℕ) (bs : List ℕ) → x ≡ b ∷ [] → y ≡ bs → x ++ y ≡ b ∷ bs
    both x y b bs e f = ap (λ (z : List ℕ). z ++ y) e ∙ ap (λ (z : List ℕ). b ∷ z) f

longer : (b : ℕ) (bs : List ℕ) → has letter b ≡ true → list_all (has letter_or_digit) (bs ++ 48 ∷ []) ≡ true → length (bs ++ 48 ∷ []) ≤ 15 → is_free (b ∷ (bs ++ 48 ∷ [])) ≡ true → Longer (b ∷ bs)
longer b bs h a few free i text m = record {
  more = 48 ∷ [];
  value = b ∷ (bs ++ 48 ∷ []);
  is = subst (λ (z : List ℕ). lettered i (b ∷ (bs ++ 48 ∷ [])) (z ++ 48 ∷ [])) (sym (letters_spelled i (b ∷ bs) text m)) (word_is i b (bs ++ 48 ∷ []) h a few);
  holds = free;
}

all_longer : Each Longer question_words
all_longer = (
  longer 99 (codes "ompare") refl refl (omega arith) refl,
  (
    longer 111 (codes "utcome") refl refl (omega arith) refl,
    (
      longer 115 (codes "tops") refl refl (omega arith) refl,
      (
        longer 109 (codes "ean") refl refl (omega arith) refl,
        (
          longer 116 (codes "emp") refl refl (omega arith) refl,
          (
            longer 116 (codes "hermo") refl refl (omega arith) refl,
            (longer 112 (codes "roof") refl refl (omega arith) refl, (longer 99 (codes "heck") refl refl (omega arith) refl, tt)),
          ),
        ),
      ),
    ),
  ),
)

pub other_name : (i : ℕ) (w text : List ℕ) → lettered i w text → is_free w ≡ false → Goes_on is_free lettered i text
other_name i w text m h = among Longer w question_words all_longer (not-false (list_any (bytes_eq w) question_words) h) i text m
