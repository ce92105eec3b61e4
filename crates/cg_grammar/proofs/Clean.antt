-- A piece without the braces that repeat a run at a column, and the whole piece: what the pieces of pieces keep of that.
use Rattle.std.proofs.Common.{◌≡◌, ℕ, ◌+◌, ◌<◌, ◌⊎◌, inl, inr, List, [], ◌∷◌, length, Option, Some, None, refl, ap, sym, subst, ◌∙◌, arith}
use Rattle.cg_reading.specs.Bytes.{Class}
use Rattle.cg_reading.specs.Pieces.{Piece, Then, Or, Many, Made, Longest}
use Rattle.cg_reading.specs.Tokens.{blanks, behind_blanks, with_blanks}
use Rattle.cg_reading.proofs.Spelled.{then_as}
use Rattle.cg_grammar.specs.Found.{first}
use Rattle.std.proofs.lemmas.Option.{none-some}
use Rattle.cg_grammar.proofs.InOrder.{AllLie, first_cases}
use Rattle.cg_reading.proofs.Spelled.{made_as}

module _ (d : ℕ) where
  -- the column is before a text, or before the first fault of what has one
  abbrev pub Before : ℕ → Option ℕ → Type 0
  Before i o = (d < i) ⊎ ((c : ℕ) → o ≡ Some c → d < c)

  pub before_on : (i n : ℕ) (o : Option ℕ) → Before i o → Before (i + n) o
  before_on i n o (inl h) = inl (omega (arith, h))
  before_on i n o (inr k) = inr k

  pub before_first : (i : ℕ) (a b : Option ℕ) → Before i (first a b) → Before i a
  before_first i a b (inl h) = inl h
  before_first i a b (inr k) = inr (λ c e. k c (ap (λ (z : Option ℕ). first z b) e))

  pub before_rest : (i n : ℕ) (a b : Option ℕ) → ((c : ℕ) → a ≡ Some c → c < i + n) → Before i (first a b) → Before (i + n) b
  before_rest i n (Some c) b ends (inl h) = inl (omega (arith, h))
  before_rest i n (Some c) b ends (inr k) = inl (omega (arith, ends c refl, k c refl))
  before_rest i n None b ends l = before_on i n b l

  -- A piece without the braces that repeat a run at the column, and the whole piece: what is left is a part of it, none of whose first
  -- faults is there; and where the first fault is behind the column, nothing was left out.
  pub record Cleans {A : Type 0} (f : A → Option ℕ) (Q R : Piece A) : Type 0 where
    pub to : (i : ℕ) (v : A) (text : List ℕ) → Q i v text → R i v text
    pub avoids : (i : ℕ) (v : A) (text : List ℕ) → Q i v text → f v ≡ Some d → ⊥
    pub from : (i : ℕ) (v : A) (text : List ℕ) → R i v text → Before i (f v) → Q i v text

  pub same : {A : Type 0} {R : Piece A} → Cleans (λ v. None) R R
  same = record { to = λ i v text is. is; avoids = λ i v text is e. none-some _ e; from = λ i v text is l. is }

  -- ---- pieces of pieces

  pub or_clean : {A : Type 0} (f : A → Option ℕ) {Q R S T : Piece A} → Cleans f Q R → Cleans f S T → Cleans f (Or Q S) (Or R T)
  or_clean {A} f {Q} {R} {S} {T} r s = record { to = to; avoids = avoids; from = from }
    where
      to : (i : ℕ) (v : A) (text : List ℕ) → Or Q S i v text → Or R T i v text
      to i v text (inl is) = inl (r.to i v text is)
      to i v text (inr is) = inr (s.to i v text is)

      avoids : (i : ℕ) (v : A) (text : List ℕ) → Or Q S i v text → f v ≡ Some d → ⊥
      avoids i v text (inl is) e = r.avoids i v text is e
      avoids i v text (inr is) e = s.avoids i v text is e

      from : (i : ℕ) (v : A) (text : List ℕ) → Or R T i v text → Before i (f v) → Or Q S i v text
      from i v text (inl is) l = inl (r.from i v text is l)
      from i v text (inr is) l = inr (s.from i v text is l)

  pub made : {A B : Type 0} (f : B → Option ℕ) (h : A → B) {Q R : Piece A} → Cleans (λ v. f (h v)) Q R → Cleans f (Made h Q) (Made h R)
  made f h r = record {
    to = λ i v text is. made_as is.made_of (r.to i is.made_of text is.is) is.same;
    avoids = λ i v text is e. r.avoids i is.made_of text is.is (sym (ap f is.same) ∙ e);
    from = λ i v text is l. made_as is.made_of (r.from i is.made_of text is.is (subst (λ (o : Option ℕ). Before i o) (ap f is.same) l)) is.same;
  }

  module _ {A B : Type 0} (f : A → Option ℕ) {Q R : Piece A} (S : Piece B) (r : Cleans f Q R) where
    pub in_first : Cleans (λ v. f v.0) (Then Q S) (Then R S)
    in_first = record {
      to = λ i v text is. then_as is.before is.behind (r.to i v.0 is.before is.first) is.second is.spelled;
      avoids = λ i v text is e. r.avoids i v.0 is.before is.first e;
      from = λ i v text is l. then_as is.before is.behind (r.from i v.0 is.before is.first l) is.second is.spelled;
    }

    pub in_longest : {goes_on : A → Class} → Cleans (λ v. f v.0) (Longest goes_on Q S) (Longest goes_on R S)
    in_longest = record {
      to = λ i v text is. record { before = is.before; behind = is.behind; first = r.to i v.0 is.before is.first; second = is.second; ended = is.ended; spelled = is.spelled };
      avoids = λ i v text is e. r.avoids i v.0 is.before is.first e;
      from = λ i v text is l. record { before = is.before; behind = is.behind; first = r.from i v.0 is.before is.first l; second = is.second; ended = is.ended; spelled = is.spelled };
    }

    pub in_second : Cleans (λ v. f v.1) (Then S Q) (Then S R)
    in_second = record {
      to = λ i v text is. then_as is.before is.behind is.first (r.to (i + length is.before) v.1 is.behind is.second) is.spelled;
      avoids = λ i v text is e. r.avoids (i + length is.before) v.1 is.behind is.second e;
      from = λ i v text is l.
          then_as is.before is.behind is.first (r.from (i + length is.before) v.1 is.behind is.second (before_on i (length is.before) (f v.1) l)) is.spelled;
    }

  pub spaced : {A : Type 0} (f : A → Option ℕ) {Q R : Piece A} → Cleans f Q R → Cleans f (behind_blanks Q) (behind_blanks R)
  spaced f r = made f (λ v. v.1) (in_second f blanks r)

  pub padded : {A : Type 0} (f : A → Option ℕ) {Q R : Piece A} → Cleans f Q R → Cleans f (with_blanks Q) (with_blanks R)
  padded f r = made f (λ v. v.0) (in_first f blanks r)

  -- two pieces, of which the first one's fault lies before its end
  pub both : {A B : Type 0} (f : A → Option ℕ) (h : B → Option ℕ) {Q R : Piece A} {S T : Piece B} → Cleans f Q R → Cleans h S T
      → ((i : ℕ) (v : A) (text : List ℕ) → R i v text → (c : ℕ) → f v ≡ Some c → c < i + length text)
      → Cleans (λ v. first (f v.0) (h v.1)) (Then Q S) (Then R T)
  both {A} {B} f h {Q} {R} {S} {T} r s ends = record {
    to = λ i v text is. then_as is.before is.behind (r.to i v.0 is.before is.first) (s.to (i + length is.before) v.1 is.behind is.second) is.spelled;
    avoids = avoids;
    from = λ i v text is l.
        then_as is.before is.behind (r.from i v.0 is.before is.first (before_first i (f v.0) (h v.1) l))
        (s.from (i + length is.before) v.1 is.behind is.second (before_rest i (length is.before) (f v.0) (h v.1) (ends i v.0 is.before is.first) l)) is.spelled;
  }
    where
      avoids : (i : ℕ) (v : A × B) (text : List ℕ) → Then Q S i v text → first (f v.0) (h v.1) ≡ Some d → ⊥
      avoids i v text is e = by (first_cases (f v.0) (h v.1) d e)
        where
          by : (f v.0 ≡ Some d) ⊎ (h v.1 ≡ Some d) → ⊥
          by (inl k) = r.avoids i v.0 is.before is.first k
          by (inr k) = s.avoids (i + length is.before) v.1 is.behind is.second k

  module _ {A : Type 0} (f : A → Option ℕ) (F : List A → Option ℕ) (none : F [] ≡ None)
      (more : (v : A) (vs : List A) → F (v ∷ vs) ≡ first (f v) (F vs)) {Q R : Piece A} (r : Cleans f Q R) (x : AllLie f R) where
    many_to : (vs : List A) (i : ℕ) (text : List ℕ) → Many Q i vs text → Many R i vs text
    many_to [] i text is = is
    many_to (v ∷ vs) i text is = then_as is.before is.behind (r.to i v is.before is.first) (many_to vs (i + length is.before) is.behind is.second) is.spelled

    many_avoids : (vs : List A) (i : ℕ) (text : List ℕ) → Many Q i vs text → F vs ≡ Some d → ⊥
    many_avoids [] i text is e = none-some _ (sym none ∙ e)
    many_avoids (v ∷ vs) i text is e = by (first_cases (f v) (F vs) d (sym (more v vs) ∙ e)) (many_avoids vs (i + length is.before) is.behind is.second)
      where
        by : (f v ≡ Some d) ⊎ (F vs ≡ Some d) → (F vs ≡ Some d → ⊥) → ⊥
        by (inl k) rest = r.avoids i v is.before is.first k
        by (inr k) rest = rest k

    many_from : (vs : List A) (i : ℕ) (text : List ℕ) → Many R i vs text → Before i (F vs) → Many Q i vs text
    many_from [] i text is l = is
    many_from (v ∷ vs) i text is l =
        let k = subst (λ (o : Option ℕ). Before i o) (more v vs) l in
        then_as is.before is.behind (r.from i v is.before is.first (before_first i (f v) (F vs) k))
        (many_from vs (i + length is.before) is.behind is.second (before_rest i (length is.before) (f v) (F vs) (λ c e. (x.lie i v is.before is.first c e).1) k)) is.spelled

    pub many : Cleans F (Many Q) (Many R)
    many = record { to = λ i vs text. many_to vs i text; avoids = λ i vs text. many_avoids vs i text; from = λ i vs text. many_from vs i text }
