-- The grammar and the grammar as it is read have the same texts with the same values.
use Rattle.std.proofs.Common.{◌≡◌, ℕ, ◌+◌, inl, inr, Bool, true, false, List, [], ◌∷◌, ◌++◌, length, map, refl, ap, sym, subst, ◌∙◌, arith}
use Rattle.std.specs.List.{list_all}
use Rattle.std.proofs.lemmas.Bool.{and_parts, and_from}
use Rattle.cg_reading.specs.Bytes.{Class, has, Ends}
use Rattle.cg_reading.specs.Pieces.{Piece, Then, Or, Many, Made, Nothing, One, Longest}
use Rattle.cg_reading.specs.Tokens.{only, blank, digits, blanks, gap, behind_blanks, with_blanks}
use Rattle.cg_reading.proofs.Same.{Same, same_self, same_back, same_on, then_same, or_same, made_same, many_same, made_twice}
use Rattle.cg_reading.proofs.Same.{made_first, made_second, then_then, blanks_behind_made, blanks_behind_then, blanks_behind_list}
use Rattle.cg_grammar.specs.Found.{Found}
use Rattle.cg_grammar.specs.Values.{ups_tree, Last, In_none, In_arrows, goes_on, Counted, whole, times, counted_goes_on}
use Rattle.cg_grammar.specs.Values.{counted_of, with_tail, clean, negated, sum_of, run_side, braces_of}
use Rattle.cg_grammar.specs.Grammar as s
use Rattle.cg_grammar.specs.Reading.{Behind, Over, Times, counted_from, behind_goes_on}
use Rattle.cg_grammar.proofs.Factored as g
use Rattle.cg_reading.proofs.Spelled.{then_is, then_as, made_is, made_as}

-- ---- blanks

-- blanks behind a piece with blanks before it
pub blanks_around : {A : Type 0} (R : Piece A) → Same (with_blanks (behind_blanks R)) (behind_blanks (with_blanks R))
blanks_around R = same_on (blanks_behind_made (λ v. v.1) (Then blanks R)) (made_same (λ v. v.1) (blanks_behind_then blanks R))

-- blanks between two pieces belong to the first
pub blanks_between : {A B : Type 0} (R : Piece A) (S : Piece B) → Same (Made (λ v. (v.0, v.1.1)) (Then R (Then blanks S))) (Then (with_blanks R) S)
blanks_between R S = same_back (same_on (made_first (λ v. v.0) (Then R blanks) S) (same_on (made_same (λ v. (v.0.0, v.1)) (then_then R blanks S)) (made_twice (λ v. (v.0.0, v.1)) (λ v. ((v.0, v.1.0), v.1.1)) (Then R (Then blanks S)))))

gap_blanks : (i : ℕ) (u : Unit {0}) (x : List ℕ) → gap i u x → (bs : List ℕ) × blanks i bs x
gap_blanks i u x g =
    let is = g.is in
    (is.before ++ is.behind, record { within = all is.before is.behind g.made_of.0 g.made_of.1 is.first.within is.first.spelled is.second.within is.second.spelled; spelled = is.spelled })
  where
    all : (y z : List ℕ) (b : ℕ) (bs : List ℕ) → has blank b ≡ true → y ≡ b ∷ [] → list_all (has blank) bs ≡ true → z ≡ bs → list_all (has blank) (y ++ z) ≡ true
    all y z b bs h e k f = subst (λ (w : List ℕ). list_all (has blank) (w ++ z) ≡ true) (sym e) (and_from (has blank b) (list_all (has blank) z) h (subst (λ (w : List ℕ). list_all (has blank) w ≡ true) (sym f) k))

some_gap : (i b : ℕ) (bs : List ℕ) → list_all (has blank) (b ∷ bs) ≡ true → gap i (tt {0}) (b ∷ bs)
some_gap i b bs h =
    let p = and_parts (has blank b) (list_all (has blank) bs) h in
    made_is (b, bs) (then_is (b ∷ []) bs (record { within = p.0; spelled = refl }) (record { within = p.1; spelled = refl }))

-- ---- terms

-- a piece as long as possible, said otherwise
longest_same : {A B : Type 0} {R S : Piece A} (more : A → Class) (N : Piece B) → Same R S → Same (Longest more R N) (Longest more S N)
longest_same more N e = record {
  to = λ i a text m. record { before = m.before; behind = m.behind; first = e.to i a.0 m.before m.first; second = m.second; ended = m.ended; spelled = m.spelled };
  from = λ i a text m. record { before = m.before; behind = m.behind; first = e.from i a.0 m.before m.first; second = m.second; ended = m.ended; spelled = m.spelled };
}

module _ (S T : Piece (Found × Last)) (e : Same S T) where
  primary_same : Same (s.primary S) (s.primary T)
  primary_same = or_same (same_self (Made (λ a. (clean (ups_tree a), In_arrows a)) s.ups)) (or_same (same_self (Made (λ t. (clean t, In_none)) s.nim)) e)

  times_same : Same (Then (One (only 46)) (s.primary S)) (Then (One (only 46)) (s.primary T))
  times_same = then_same (same_self (One (only 46))) primary_same

  counted_to : (n : ℕ) (b : Behind) (i : ℕ) (x y text : List ℕ) → digits i n x → g.behind S (i + length x) b y → text ≡ x ++ y → s.counted T i (counted_from (n, b)) text
  counted_to n b i x y text d (inl m) k =
      let all : s.counted T i (counted_from (n, Over m.made_of.1)) text = inl (made_is (n, m.made_of.1) (then_as x y d (inl (made_is m.made_of m.is)) k)) in
      subst (λ (z : Behind). s.counted T i (counted_from (n, z)) text) (sym m.same) all
  counted_to n b i x y text d (inr (inl m)) k =
      let all : s.counted T i (counted_from (n, Times m.made_of.1.0 m.made_of.1.1)) text = inr (made_is (n, m.made_of.1) (made_is (n, m.made_of) (then_as x y d (times_same.to (i + length x) m.made_of y m.is) k))) in
      subst (λ (z : Behind). s.counted T i (counted_from (n, z)) text) (sym m.same) all
  counted_to n b i x y text d (inr (inr q)) k =
      let all : s.counted T i (counted_from (n, Over 1)) text = inl (made_is (n, 1) (then_as x y d (inr (refl, q.1)) k)) in
      subst (λ (z : Behind). s.counted T i (counted_from (n, z)) text) (sym q.0) all

  ended_to : (n : ℕ) (b : Behind) (y : List ℕ) → Ends (behind_goes_on b) y → Ends (counted_goes_on (counted_from (n, b))) y
  ended_to n (Over d) y h = h
  ended_to n (Times v last) y h = h

  ended_from : (n : ℕ) (b : Behind) (y : List ℕ) → Ends (counted_goes_on (counted_from (n, b))) y → Ends (behind_goes_on b) y
  ended_from n (Over d) y h = h
  ended_from n (Times v last) y h = h

  record Counted_back (i : ℕ) (c : Counted) (text : List ℕ) : Type 0 where
    value : ℕ × Behind
    is : g.counted S i value text
    same : c ≡ counted_from value

  number_back : (n d i : ℕ) (c : Counted) (x y text : List ℕ) → digits i n x → Or (Made (λ v. v.1) (Then (One (only 47)) digits)) (Nothing 1) (i + length x) d y → text ≡ x ++ y → c ≡ whole n d → Counted_back i c text
  number_back n d i c x y text a (inl o) k same = record { value = (n, Over d); is = then_as x y a (inl (made_as o.made_of o.is (ap (λ (z : ℕ). Over z) o.same))) k; same = same }
  number_back n d i c x y text a (inr q) k same = record { value = (n, Over d); is = then_as x y a (inr (inr (ap (λ (z : ℕ). Over z) q.0, q.1))) k; same = same }

  counted_back : (i : ℕ) (c : Counted) (text : List ℕ) → s.counted T i c text → Counted_back i c text
  counted_back i c text (inl m) = number_back m.made_of.0 m.made_of.1 i c m.is.before m.is.behind text m.is.first m.is.second m.is.spelled m.same
  counted_back i c text (inr m) =
      let w = m.is.made_of in
      let p = w.1.1 in
      record {
        value = (w.0, Times p.0 p.1);
        is = then_as m.is.is.before m.is.is.behind m.is.is.first (inr (inl (made_is w.1 (times_same.from (i + length m.is.is.before) w.1 m.is.is.behind m.is.is.second)))) m.is.is.spelled;
        same = m.same ∙ ap (λ (z : ℕ × (Found × Last)). times z.0 z.1.0 z.1.1) m.is.same;
      }

  counted_same : (negative : Bool) → Same (g.counted_term S negative) (s.counted_tail T negative)
  counted_same negative = record {
    to = λ i a text m. made_as (counted_from m.made_of.0, m.made_of.1) (record { before = m.is.before; behind = m.is.behind; first = counted_to m.made_of.0.0 m.made_of.0.1 i m.is.first.before m.is.first.behind m.is.before m.is.first.first m.is.first.second m.is.first.spelled; second = m.is.second; ended = ended_to m.made_of.0.0 m.made_of.0.1 m.is.behind m.is.ended; spelled = m.is.spelled }) m.same;
    from = λ i a text m.
        let b = counted_back i m.made_of.0 m.is.before m.is.first in
        made_as (b.value, m.made_of.1) (record { before = m.is.before; behind = m.is.behind; first = b.is; second = m.is.second; ended = ended_from b.value.0 b.value.1 m.is.behind (subst (λ (c : Counted). Ends (counted_goes_on c) m.is.behind) b.same m.is.ended); spelled = m.is.spelled }) (m.same ∙ ap (λ (c : Counted). with_tail (counted_of negative c) m.made_of.1) b.same);
  }

  special_tail_same : Same (s.special_tail S) (s.special_tail T)
  special_tail_same = made_same (λ v. with_tail v.0.0 v.1) (longest_same (λ v. goes_on v.1) s.tail e)

  -- what may begin a term besides digits and a minus, as a body has it
  abbrev uncounted : Piece Found
  uncounted = Or (s.special_tail T) (Or s.ups_and_nim (Made clean s.nim))

  uncounted_to : (i : ℕ) (a : Found) (text : List ℕ) → g.uncounted_term S i a text → uncounted i a text
  uncounted_to i a text (inl u) = inr (inl u)
  uncounted_to i a text (inr (inl n)) = inr (inr n)
  uncounted_to i a text (inr (inr t)) = inl (special_tail_same.to i a text t)

  uncounted_from : (i : ℕ) (a : Found) (text : List ℕ) → uncounted i a text → g.uncounted_term S i a text
  uncounted_from i a text (inl t) = inr (inr (special_tail_same.from i a text t))
  uncounted_from i a text (inr (inl u)) = inl u
  uncounted_from i a text (inr (inr n)) = inr (inl n)

  -- what follows a minus that negates the term
  abbrev negated_body : Piece Found
  negated_body = Or (Made (λ v. negated v.1) (Then gap (g.unsigned_term S))) (Made negated (g.uncounted_term S))

  spaced_to : (i : ℕ) (a v : Found) (x y text : List ℕ) (u : Unit {0}) → gap i u x → g.unsigned_term S (i + length x) v y → text ≡ x ++ y → a ≡ negated v → Made negated (s.body T) i a text
  spaced_to i a v x y text u h (inl c) k same = made_as v (inl (made_is (u, v) (then_as x y h ((counted_same false).to (i + length x) v y c) k))) same
  spaced_to i a v x y text u h (inr c) k same =
      let b = gap_blanks i u x h in
      made_as v (inr (made_is (b.0, v) (then_as x y b.1 (uncounted_to (i + length x) v y c) k))) same

  body_to : (i : ℕ) (a : Found) (text : List ℕ) → negated_body i a text → Made negated (s.body T) i a text
  body_to i a text (inl m) = spaced_to i a m.made_of.1 m.is.before m.is.behind text m.made_of.0 m.is.first m.is.second m.is.spelled m.same
  body_to i a text (inr m) =
      let here : i ≡ i + 0 = omega arith in
      made_as m.made_of (inr (made_is ([], m.made_of) (then_is [] text (record { within = refl; spelled = refl }) (subst (λ (n : ℕ). uncounted n m.made_of text) here (uncounted_to i m.made_of text m.is))))) m.same

  blanks_from : (i : ℕ) (a v : Found) (bs x y text : List ℕ) → list_all (has blank) bs ≡ true → x ≡ bs → uncounted (i + length x) v y → text ≡ x ++ y → a ≡ negated v → negated_body i a text
  blanks_from i a v [] x y text h e c k same =
      let here : i + length x ≡ i = omega (arith, ap length e) in
      let all : text ≡ y = k ∙ ap (λ (z : List ℕ). z ++ y) e in
      inr (made_as v (subst (λ (z : List ℕ). g.uncounted_term S i v z) (sym all) (uncounted_from i v y (subst (λ (n : ℕ). uncounted n v y) here c))) same)
  blanks_from i a v (b ∷ bs) x y text h e c k same =
      inl (made_as (tt {0}, v) (then_as x y (subst (λ (z : List ℕ). gap i (tt {0}) z) (sym e) (some_gap i b bs h)) (inr (uncounted_from (i + length x) v y c)) k) same)

  body_from_of : (i : ℕ) (a v : Found) (text : List ℕ) → a ≡ negated v → s.body T i v text → negated_body i a text
  body_from_of i a v text same (inl m) = inl (made_as m.made_of (then_as m.is.before m.is.behind m.is.first (inl ((counted_same false).from (i + length m.is.before) m.made_of.1 m.is.behind m.is.second)) m.is.spelled) (same ∙ ap negated m.same))
  body_from_of i a v text same (inr m) = blanks_from i a m.made_of.1 m.made_of.0 m.is.before m.is.behind text m.is.first.within m.is.first.spelled m.is.second m.is.spelled (same ∙ ap negated m.same)

  minus_to : (i : ℕ) (a v : Found) (b : ℕ) (x y text : List ℕ) → One (only 45) i b x → g.minus_body S (i + length x) v y → text ≡ x ++ y → a ≡ v → s.term T i a text
  minus_to i a v b x y text h (inl c) k same = inl (inl (made_as (b, v) (then_as x y h ((counted_same true).to (i + length x) v y c) k) same))
  minus_to i a v b x y text h (inr r) k same =
      let q = body_to (i + length x) v y r in
      inr (inr (inr (inr (made_as (b, q.made_of) (then_as x y h q.is k) (same ∙ q.same)))))

  term_to : (i : ℕ) (a : Found) (text : List ℕ) → g.term S i a text → s.term T i a text
  term_to i a text (inl m) = minus_to i a m.made_of.1 m.made_of.0 m.is.before m.is.behind text m.is.first m.is.second m.is.spelled m.same
  term_to i a text (inr (inl c)) = inl (inr ((counted_same false).to i a text c))
  term_to i a text (inr (inr (inl u))) = inr (inr (inl u))
  term_to i a text (inr (inr (inr (inl n)))) = inr (inr (inr (inl n)))
  term_to i a text (inr (inr (inr (inr t)))) = inr (inl (special_tail_same.to i a text t))

  term_from : (i : ℕ) (a : Found) (text : List ℕ) → s.term T i a text → g.term S i a text
  term_from i a text (inl (inl m)) = inl (made_as m.made_of (then_as m.is.before m.is.behind m.is.first (inl ((counted_same true).from (i + length m.is.before) m.made_of.1 m.is.behind m.is.second)) m.is.spelled) m.same)
  term_from i a text (inl (inr c)) = inr (inl ((counted_same false).from i a text c))
  term_from i a text (inr (inl t)) = inr (inr (inr (inr (special_tail_same.from i a text t))))
  term_from i a text (inr (inr (inl u))) = inr (inr (inl u))
  term_from i a text (inr (inr (inr (inl n)))) = inr (inr (inr (inl n)))
  term_from i a text (inr (inr (inr (inr m)))) =
      inl (made_as (m.made_of.0, negated m.made_of.1) (then_as m.is.before m.is.behind m.is.first (inr (body_from_of (i + length m.is.before) (negated m.made_of.1) m.made_of.1 m.is.behind refl m.is.second)) m.is.spelled) m.same)

  term_same : Same (g.term S) (s.term T)
  term_same = record { to = term_to; from = term_from }

  -- ---- sums

  sign_to : (i : ℕ) (a : Bool) (text : List ℕ) → g.sign i a text → s.sign i a text
  sign_to i a text (inl m) = inr m
  sign_to i a text (inr p) = inl p

  sign_from : (i : ℕ) (a : Bool) (text : List ℕ) → s.sign i a text → g.sign i a text
  sign_from i a text (inl p) = inr p
  sign_from i a text (inr m) = inl m

  sign_same : Same g.sign s.sign
  sign_same = record { to = sign_to; from = sign_from }

  abbrev signed : Piece (Bool × Found)
  signed = Then s.sign (behind_blanks (s.term T))

  next_same : Same (g.next_term S) (with_blanks signed)
  next_same = same_back (
      same_on (blanks_behind_then s.sign (behind_blanks (s.term T)))
      (same_on (then_same (same_self s.sign) (blanks_around (s.term T)))
      (same_on (made_second (λ v. v.1) s.sign (Then blanks (with_blanks (s.term T))))
      (same_on (made_same (λ v. (v.0, v.1.1)) (then_same (same_self s.sign) (made_second (λ v. v.0) blanks (Then (s.term T) blanks))))
      (same_on (made_same (λ v. (v.0, v.1.1)) (made_second (λ v. (v.0, v.1.0)) s.sign (Then blanks (Then (s.term T) blanks))))
      (same_on (made_twice (λ v. (v.0, v.1.1)) (λ v. (v.0, (v.1.0, v.1.1.0))) (Then s.sign (Then blanks (Then (s.term T) blanks))))
      (made_same (λ v. (v.0, v.1.1.0)) (then_same (same_back sign_same) (then_same (same_self blanks) (then_same (same_back term_same) (same_self blanks)))))))))))

  pub sum_same : Same (g.sum S) (with_blanks (s.expr T))
  sum_same = same_back (
      same_on (blanks_behind_made (λ v. sum_of v.0 v.1) (Then (s.term T) (Many (behind_blanks signed))))
      (same_on (made_same (λ v. sum_of v.0 v.1) (blanks_behind_list (s.term T) signed))
      (same_on (made_twice (λ v. sum_of v.0 v.1) (λ v. (v.0, v.1.1)) (Then (s.term T) (Then blanks (Many (with_blanks signed)))))
      (made_same (λ v. sum_of v.0 v.1.1) (then_same (same_back term_same) (then_same (same_self blanks) (many_same (same_back next_same))))))))

-- ---- brackets

rows_to : (A B : Piece (List Found)) → Same A B → (rows : List ((ℕ × ℕ) × List Found)) (i : ℕ) (text : List ℕ) → s.Rows A i rows text → s.Rows B i rows text
rows_to A B e [] i text is = is
rows_to A B e (r ∷ rows) i text is = record { run = is.run; middle = is.middle; more = is.more; is_run = is.is_run; is_side = e.to (i + length is.run) r.1 is.middle is.is_side; is_more = rows_to A B e rows (i + length is.run + length is.middle) is.more is.is_more; no_bar = is.no_bar; spelled = is.spelled }

some_rows_to : (A B : Piece (List Found)) → Same A B → (i : ℕ) (v : ((ℕ × ℕ) × List Found) × List ((ℕ × ℕ) × List Found)) (text : List ℕ) → s.Some_rows A i v text → s.Some_rows B i v text
some_rows_to A B e i v text is = record { run = is.run; middle = is.middle; more = is.more; is_run = is.is_run; is_side = e.to (i + length is.run) v.0.1 is.middle is.is_side; is_more = rows_to A B e v.1 (i + length is.run + length is.middle) is.more is.is_more; no_bar = is.no_bar; spelled = is.spelled }

some_rows_same : (A B : Piece (List Found)) → Same A B → Same (s.Some_rows A) (s.Some_rows B)
some_rows_same A B e = record { to = some_rows_to A B e; from = some_rows_to B A (same_back e) }

pub braces_same : (A B : Piece (List Found)) → Same A B → Same (s.braces A) (s.braces B)
braces_same A B e = made_same (λ v. braces_of v.1.0 (map run_side v.1.1.0)) (then_same (same_self (One (only 123))) (then_same e (then_same (made_same (λ v. v.0 ∷ v.1) (some_rows_same A B e)) (same_self (One (only 125))))))

module _ (E X : Piece Found) (e : Same E (with_blanks X)) where
  abbrev item : Piece Found
  item = Made (λ v. v.1) (Then (One (only 44)) (behind_blanks X))

  item_same : Same (g.next_item E) (with_blanks item)
  item_same = same_back (
      same_on (blanks_behind_made (λ v. v.1) (Then (One (only 44)) (behind_blanks X)))
      (same_on (made_same (λ v. v.1) (blanks_behind_then (One (only 44)) (behind_blanks X)))
      (same_on (made_same (λ v. v.1) (then_same (same_self (One (only 44))) (blanks_around X)))
      (same_on (made_same (λ v. v.1) (made_second (λ v. v.1) (One (only 44)) (Then blanks (with_blanks X))))
      (same_on (made_twice (λ v. v.1) (λ v. (v.0, v.1.1)) (Then (One (only 44)) (Then blanks (with_blanks X))))
      (made_same (λ v. v.1.1) (then_same (same_self (One (only 44))) (then_same (same_self blanks) (same_back e)))))))))

  items_same : Same (g.items E) (with_blanks (s.exprs X))
  items_same = same_back (
      same_on (blanks_behind_made (λ v. v.0 ∷ v.1) (Then X (Many (behind_blanks item))))
      (same_on (made_same (λ v. v.0 ∷ v.1) (blanks_behind_list X item))
      (made_same (λ v. v.0 ∷ v.1) (same_on (blanks_between X (Many (with_blanks item))) (then_same (same_back e) (many_same (same_back item_same)))))))

  pub side_same : Same (g.side E) (s.side X)
  side_same = made_same (λ v. v.1) (then_same (same_self blanks) (or_same items_same (same_self (Nothing []))))

  pub paren_same : Same (g.paren E) (s.enclosed X)
  paren_same =
      same_on (made_same (λ v. v.1.1.0) (then_same (same_self (One (only 40))) (then_same (same_self blanks) (same_on (then_same e (same_self (One (only 41)))) (same_back (blanks_between X (One (only 41))))))))
      (same_on (made_same (λ v. v.1.1.0) (then_same (same_self (One (only 40))) (made_second (λ v. (v.0, v.1.1)) blanks (Then X (Then blanks (One (only 41)))))))
      (same_on (made_same (λ v. v.1.1.0) (made_second (λ v. (v.0, (v.1.0, v.1.1.1))) (One (only 40)) (Then blanks (Then X (Then blanks (One (only 41)))))))
      (made_twice (λ v. v.1.1.0) (λ v. (v.0, (v.1.0, (v.1.1.0, v.1.1.1.1)))) (Then (One (only 40)) (Then blanks (Then X (Then blanks (One (only 41)))))))))
