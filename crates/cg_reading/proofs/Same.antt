-- Pieces that are the same, said in two ways.
use Rattle.std.proofs.Common.{◌≡◌, ℕ, ◌+◌, inl, inr, Bool, List, [], ◌∷◌, ◌++◌, length, refl, ap}
use Rattle.std.proofs.Common.{sym, subst, ◌∙◌, append_assoc, append-nil, arith, length-append}
use Rattle.cg_reading.specs.Bytes.{Class}
use Rattle.cg_reading.specs.Pieces.{Piece, Split, Then, Or, Many, Made}
use Rattle.cg_reading.specs.Readers.{Reader}
use Rattle.cg_reading.specs.Tokens.{blanks, behind_blanks, with_blanks}
use Rattle.cg_reading.proofs.Laws.{Lawful, said_lawful, said_sound}
use Rattle.cg_reading.proofs.Longest.{Token}
use Rattle.cg_reading.proofs.Spelled.{then_is, then_as, made_is, made_as}

-- each text of one piece is one of the other, with the same value
pub record Same {A : Type 0} (R S : Piece A) : Type 0 where
  pub to : (i : ℕ) (a : A) (text : List ℕ) → R i a text → S i a text
  pub from : (i : ℕ) (a : A) (text : List ℕ) → S i a text → R i a text

pub same_self : {A : Type 0} (R : Piece A) → Same R R
same_self R = record { to = λ i a text is. is; from = λ i a text is. is }

pub same_back : {A : Type 0} {R S : Piece A} → Same R S → Same S R
same_back s = record { to = s.from; from = s.to }

pub same_on : {A : Type 0} {R S T : Piece A} → Same R S → Same S T → Same R T
same_on s t = record { to = λ i a text is. t.to i a text (s.to i a text is); from = λ i a text is. s.from i a text (t.from i a text is) }

-- ---- laws

-- the laws of a reader hold for the piece said otherwise
pub same_lawful : {A : Type 0} {R S : Piece A} {f : Reader A} {I : Class} {e : Bool} {F : Class} → Same R S → Lawful R f I e F → Lawful S f I e F
same_lawful {A} {R} {S} {f} {I} {e} {F} s lf = said_lawful R S f I e F s.to s.from lf

pub same_token : {A : Type 0} {R S : Piece A} {f : Reader A} {I : Class} {e : Bool} {F : Class} {K : A → Class} → Same R S → Token R f I e F K → Token S f I e F K
same_token {A} {R} {S} {f} {I} {e} {F} s t = record {
  reads = record { sound = λ end i bytes n. said_sound R S i bytes (f end bytes) (s.to i) (t.sound end i bytes n); agree = t.agree; begins = λ i a text is. t.begins i a text (s.from i a text is) };
  full = t.full;
  again = λ end i a text rest is h k n. t.again end i a text rest (s.from i a text is) h k n;
}

-- ---- the same parts

pub then_same : {A B : Type 0} {R S : Piece A} {T U : Piece B} → Same R S → Same T U → Same (Then R T) (Then S U)
then_same s t = record {
  to = λ i v text is. then_as is.before is.behind (s.to i v.0 is.before is.first) (t.to (i + length is.before) v.1 is.behind is.second) is.spelled;
  from = λ i v text is. then_as is.before is.behind (s.from i v.0 is.before is.first) (t.from (i + length is.before) v.1 is.behind is.second) is.spelled;
}

or_to : {A : Type 0} {R S T U : Piece A} → Same R S → Same T U → (i : ℕ) (a : A) (text : List ℕ) → Or R T i a text → Or S U i a text
or_to s t i a text (inl is) = inl (s.to i a text is)
or_to s t i a text (inr is) = inr (t.to i a text is)

pub or_same : {A : Type 0} {R S T U : Piece A} → Same R S → Same T U → Same (Or R T) (Or S U)
or_same {A} {R} {S} {T} {U} s t = record { to = or_to {R = R} {S = S} {T = T} {U = U} s t; from = or_to {R = S} {S = R} {T = U} {U = T} (same_back s) (same_back t) }

pub made_same : {A B : Type 0} {R S : Piece A} (h : A → B) → Same R S → Same (Made h R) (Made h S)
made_same h s = record {
  to = λ i b text is. made_as is.made_of (s.to i is.made_of text is.is) is.same;
  from = λ i b text is. made_as is.made_of (s.from i is.made_of text is.is) is.same;
}

many_to : {A : Type 0} {R S : Piece A} → Same R S → (vs : List A) (i : ℕ) (text : List ℕ) → Many R i vs text → Many S i vs text
many_to s [] i text is = is
many_to s (v ∷ vs) i text is = then_as is.before is.behind (s.to i v is.before is.first) (many_to s vs (i + length is.before) is.behind is.second) is.spelled

pub many_same : {A : Type 0} {R S : Piece A} → Same R S → Same (Many R) (Many S)
many_same {A} {R} {S} s = record { to = λ i vs text is. many_to s vs i text is; from = λ i vs text is. many_to (same_back s) vs i text is }

-- ---- functions of values

pub made_twice : {A B C : Type 0} (g : B → C) (h : A → B) (R : Piece A) → Same (Made g (Made h R)) (Made (λ a. g (h a)) R)
made_twice g h R = record {
  to = λ i c text is. made_as is.is.made_of is.is.is (is.same ∙ ap g is.is.same);
  from = λ i c text is. made_as (h is.made_of) (made_is is.made_of is.is) is.same;
}

pub made_first : {A B C : Type 0} (h : A → C) (R : Piece A) (S : Piece B) → Same (Then (Made h R) S) (Made (λ v. (h v.0, v.1)) (Then R S))
made_first h R S = record {
  to = λ i v text is. made_as (is.first.made_of, v.1) (then_as is.before is.behind is.first.is is.second is.spelled) (ap (λ c. (c, v.1)) is.first.same);
  from = λ i v text is. let e = is.same in then_as is.is.before is.is.behind (made_as is.made_of.0 is.is.first (ap (λ p. p.0) e)) (subst (λ b. S (i + length is.is.before) b is.is.behind) (sym (ap (λ p. p.1) e)) is.is.second) is.is.spelled;
}

pub made_second : {A B C : Type 0} (h : B → C) (R : Piece A) (S : Piece B) → Same (Then R (Made h S)) (Made (λ v. (v.0, h v.1)) (Then R S))
made_second h R S = record {
  to = λ i v text is. made_as (v.0, is.second.made_of) (then_as is.before is.behind is.first is.second.is is.spelled) (ap (λ c. (v.0, c)) is.second.same);
  from = λ i v text is. let e = is.same in then_as is.is.before is.is.behind (subst (λ a. R i a is.is.before) (sym (ap (λ p. p.0) e)) is.is.first) (made_as is.made_of.1 is.is.second (ap (λ p. p.1) e)) is.is.spelled;
}

made_or_to : {A B : Type 0} (h : A → B) (R S : Piece A) (i : ℕ) (b : B) (text : List ℕ) (a : A) → b ≡ h a → Or R S i a text → Or (Made h R) (Made h S) i b text
made_or_to h R S i b text a e (inl is) = inl (made_as a is e)
made_or_to h R S i b text a e (inr is) = inr (made_as a is e)

made_or_from : {A B : Type 0} (h : A → B) (R S : Piece A) (i : ℕ) (b : B) (text : List ℕ) → Or (Made h R) (Made h S) i b text → Made h (Or R S) i b text
made_or_from h R S i b text (inl is) = made_as is.made_of (inl is.is) is.same
made_or_from h R S i b text (inr is) = made_as is.made_of (inr is.is) is.same

pub made_or : {A B : Type 0} (h : A → B) (R S : Piece A) → Same (Made h (Or R S)) (Or (Made h R) (Made h S))
made_or h R S = record { to = λ i b text is. made_or_to h R S i b text is.made_of is.same is.is; from = made_or_from h R S }

-- ---- pieces one after the other

or_then_to : {A B : Type 0} (R S : Piece A) (T : Piece B) (i : ℕ) (v : A × B) (x y text : List ℕ) → Or R S i v.0 x → T (i + length x) v.1 y → text ≡ x ++ y → Or (Then R T) (Then S T) i v text
or_then_to R S T i v x y text (inl is) t e = inl (then_as x y is t e)
or_then_to R S T i v x y text (inr is) t e = inr (then_as x y is t e)

or_then_from : {A B : Type 0} (R S : Piece A) (T : Piece B) (i : ℕ) (v : A × B) (text : List ℕ) → Or (Then R T) (Then S T) i v text → Then (Or R S) T i v text
or_then_from R S T i v text (inl is) = then_as is.before is.behind (inl is.first) is.second is.spelled
or_then_from R S T i v text (inr is) = then_as is.before is.behind (inr is.first) is.second is.spelled

pub or_then : {A B : Type 0} (R S : Piece A) (T : Piece B) → Same (Then (Or R S) T) (Or (Then R T) (Then S T))
or_then R S T = record { to = λ i v text is. or_then_to R S T i v is.before is.behind text is.first is.second is.spelled; from = or_then_from R S T }

pub then_then : {A B C : Type 0} (R : Piece A) (S : Piece B) (T : Piece C) → Same (Then (Then R S) T) (Made (λ v. ((v.0, v.1.0), v.1.1)) (Then R (Then S T)))
then_then {A} {B} {C} R S T = record { to = to; from = from }
  where
    to : (i : ℕ) (v : (A × B) × C) (text : List ℕ) → Then (Then R S) T i v text → Made {A = A × (B × C)} (λ v. ((v.0, v.1.0), v.1.1)) (Then R (Then S T)) i v text
    to i v text is =
        let x = is.first.before in
        let y = is.first.behind in
        let place : i + length is.before ≡ i + length x + length y = omega (arith, ap length is.first.spelled, length-append x y) in
        made_is (v.0.0, (v.0.1, v.1)) (then_as x (y ++ is.behind) is.first.first (then_is y is.behind is.first.second (subst (λ (n : ℕ). T n v.1 is.behind) place is.second)) (is.spelled ∙ ap (λ (z : List ℕ). z ++ is.behind) is.first.spelled ∙ append_assoc x y is.behind))

    from : (i : ℕ) (v : (A × B) × C) (text : List ℕ) → Made {A = A × (B × C)} (λ v. ((v.0, v.1.0), v.1.1)) (Then R (Then S T)) i v text → Then (Then R S) T i v text
    from i v text m =
        let is = m.is in
        let w = m.made_of in
        let x = is.before in
        let y = is.second.before in
        let z = is.second.behind in
        let place : i + length x + length y ≡ i + length (x ++ y) = omega (arith, length-append x y) in
        let all : Then (Then R S) T i ((w.0, w.1.0), w.1.1) text = then_as (x ++ y) z (then_is x y is.first is.second.first) (subst (λ (n : ℕ). T n w.1.1 z) place is.second.second) (is.spelled ∙ ap (λ (u : List ℕ). x ++ u) is.second.spelled ∙ sym (append_assoc x y z)) in
        subst (λ (u : (A × B) × C). Then (Then R S) T i u text) (sym m.same) all

-- ---- blanks behind a piece

pub blanks_behind_made : {A B : Type 0} (h : A → B) (R : Piece A) → Same (with_blanks (Made h R)) (Made h (with_blanks R))
blanks_behind_made h R = record {
  to = λ i b text is. made_as is.is.first.made_of (made_is (is.is.first.made_of, is.made_of.1) (then_as is.is.before is.is.behind is.is.first.is is.is.second is.is.spelled)) (is.same ∙ is.is.first.same);
  from = λ i b text is. made_as (h is.is.made_of.0, is.is.made_of.1) (then_as is.is.is.before is.is.is.behind (made_is is.is.made_of.0 is.is.is.first) is.is.is.second is.is.is.spelled) (is.same ∙ ap h is.is.same);
}

pub blanks_behind_then : {A B : Type 0} (R : Piece A) (S : Piece B) → Same (with_blanks (Then R S)) (Then R (with_blanks S))
blanks_behind_then R S =
    same_on (made_same (λ v. v.0) (then_then R S blanks))
    (same_on (made_twice (λ v. v.0) (λ v. ((v.0, v.1.0), v.1.1)) (Then R (Then S blanks))) (same_back (made_second (λ v. v.0) R (Then S blanks))))

pub blanks_behind_or : {A : Type 0} (R S : Piece A) → Same (with_blanks (Or R S)) (Or (with_blanks R) (with_blanks S))
blanks_behind_or R S = same_on (made_same (λ v. v.0) (or_then R S blanks)) (made_or (λ v. v.0) (Then R blanks) (Then S blanks))

-- ---- lists with blanks around what stands between

moved : (i j : ℕ) (bs x : List ℕ) → blanks i bs x → blanks j bs x
moved i j bs x b = record { within = b.within; spelled = b.spelled }

module _ {A : Type 0} (Q : Piece A) where
  abbrev Spread : ℕ → List A → List ℕ → Type 0
  Spread i vs text = Split (λ x. Many (behind_blanks Q) i vs x) (λ n y. (bs : List ℕ) × blanks (i + n) bs y) text

  spread : (vs : List A) (i : ℕ) (bs x y : List ℕ) → blanks i bs x → Many (with_blanks Q) (i + length x) vs y → Spread i vs (x ++ y)
  spread [] i bs x y b is = then_as [] x refl (bs, moved i _ bs x b) (ap (λ (z : List ℕ). x ++ z) is ∙ append-nil x)
  spread (v ∷ vs) i bs x y b is =
      let q = is.first.is.before in
      let c = is.first.is.behind in
      let place : i + length x + length is.before ≡ i + length (x ++ q) + length c = omega (arith, ap length is.first.is.spelled, length-append q c, length-append x q) in
      let rest : Many (with_blanks Q) (i + length (x ++ q) + length c) vs is.behind = subst (λ (n : ℕ). Many (with_blanks Q) n vs is.behind) place is.second in
      let more = spread vs (i + length (x ++ q)) is.first.made_of.1 c is.behind (moved _ _ is.first.made_of.1 c is.first.is.second) rest in
      let end : i + length (x ++ q) + length more.before ≡ i + length ((x ++ q) ++ more.before) = omega (arith, length-append (x ++ q) more.before) in
      let joined : x ++ y ≡ (x ++ q) ++ (c ++ is.behind) = ap (λ (z : List ℕ). x ++ z) (is.spelled ∙ ap (λ (z : List ℕ). z ++ is.behind) is.first.is.spelled) ∙ simp append_assoc in
      then_as ((x ++ q) ++ more.before) more.behind (then_is (x ++ q) more.before (made_as (bs, is.first.made_of.0) (then_is x q b is.first.is.first) is.first.same) more.first) (more.second.0, moved _ _ more.second.0 more.behind more.second.1) (joined ∙ ap (λ (z : List ℕ). (x ++ q) ++ z) more.spelled ∙ sym (append_assoc (x ++ q) more.before more.behind))

  abbrev Gathered : ℕ → List A → List ℕ → Type 0
  Gathered i vs text = Split (λ x. (bs : List ℕ) × blanks i bs x) (λ n y. Many (with_blanks Q) (i + n) vs y) text

  gather : (vs : List A) (i : ℕ) (x bs y : List ℕ) → Many (behind_blanks Q) i vs x → blanks (i + length x) bs y → Gathered i vs (x ++ y)
  gather [] i x bs y is b = then_as y [] (bs, moved _ i bs y b) refl (ap (λ (z : List ℕ). z ++ y) is ∙ sym (append-nil y))
  gather (v ∷ vs) i x bs y is b =
      let c = is.first.is.before in
      let q = is.first.is.behind in
      let rest = gather vs (i + length is.before) is.behind bs y is.second (moved _ _ bs y b) in
      let u = rest.before in
      let place : i + length is.before + length u ≡ i + length c + length (q ++ u) = omega (arith, ap length is.first.is.spelled, length-append c q, length-append q u) in
      let joined : x ++ y ≡ (c ++ q) ++ (is.behind ++ y) = ap (λ (z : List ℕ). z ++ y) (is.spelled ∙ ap (λ (z : List ℕ). z ++ is.behind) is.first.is.spelled) ∙ append_assoc (c ++ q) is.behind y in
      then_as c ((q ++ u) ++ rest.behind) (is.first.made_of.0, is.first.is.first) (then_is (q ++ u) rest.behind (made_as (is.first.made_of.1, rest.first.0) (then_is q u is.first.is.second (moved _ _ rest.first.0 u rest.first.1)) is.first.same) (subst (λ (n : ℕ). Many (with_blanks Q) n vs rest.behind) place rest.second)) (joined ∙ ap (λ (z : List ℕ). (c ++ q) ++ z) rest.spelled ∙ simp append_assoc)

-- Blanks before each of many pieces and behind them all are blanks before them all and behind each.
pub blanks_behind_list : {A B : Type 0} (R : Piece A) (Q : Piece B) → Same (with_blanks (Then R (Many (behind_blanks Q)))) (Made (λ v. (v.0, v.1.1)) (Then R (Then blanks (Many (with_blanks Q)))))
blanks_behind_list {A} {B} R Q = record { to = to; from = from }
  where
    to : (i : ℕ) (v : A × List B) (text : List ℕ) → with_blanks (Then R (Many (behind_blanks Q))) i v text → Made {A = A × (List ℕ × List B)} (λ v. (v.0, v.1.1)) (Then R (Then blanks (Many (with_blanks Q)))) i v text
    to i v text m =
        let w = m.made_of in
        let l = m.is.first in
        let rest = gather Q w.0.1 (i + length l.before) l.behind w.1 m.is.behind l.second (moved _ _ w.1 m.is.behind m.is.second) in
        made_as (w.0.0, (rest.first.0, w.0.1)) (then_as l.before (l.behind ++ m.is.behind) l.first (then_as rest.before rest.behind rest.first.1 rest.second rest.spelled) (m.is.spelled ∙ ap (λ (z : List ℕ). z ++ m.is.behind) l.spelled ∙ append_assoc l.before l.behind m.is.behind)) m.same

    from : (i : ℕ) (v : A × List B) (text : List ℕ) → Made {A = A × (List ℕ × List B)} (λ v. (v.0, v.1.1)) (Then R (Then blanks (Many (with_blanks Q)))) i v text → with_blanks (Then R (Many (behind_blanks Q))) i v text
    from i v text m =
        let w = m.made_of in
        let l = m.is in
        let rest = spread Q w.1.1 (i + length l.before) w.1.0 l.second.before l.second.behind l.second.first l.second.second in
        made_as ((w.0, w.1.1), rest.second.0) (then_as (l.before ++ rest.before) rest.behind (then_is l.before rest.before l.first rest.first) (moved _ _ rest.second.0 rest.behind rest.second.1) (l.spelled ∙ ap (λ (z : List ℕ). l.before ++ z) (l.second.spelled ∙ rest.spelled) ∙ sym (append_assoc l.before rest.before rest.behind))) m.same
