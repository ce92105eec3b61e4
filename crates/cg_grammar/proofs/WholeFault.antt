-- The first fault of a line of the grammar is the least column at which some brace of it, at any depth, repeats a run.
use Rattle.std.proofs.Common.{◌≡◌, ℕ, zero, suc, ◌+◌, ◌≤◌, ◌<◌, ◌⊎◌, inl, inr, Bool, true, false, cond, List, []}
use Rattle.std.proofs.Common.{◌∷◌, ◌++◌, length, map, Option, Some, None, refl, ap, sym, subst, ◌∙◌, arith}
use Rattle.std.specs.Prelude.{ltb, codes}
use Rattle.std.proofs.lemmas.Bool.{ltb-true, ltb-false}
use Rattle.cg_reading.specs.Pieces.{Piece, Then, Or, Made, Nothing, One, Word}
use Rattle.cg_reading.specs.Tokens.{blanks, gap}
use Rattle.cg_query.specs.declared.format.Format.{Format}
use Rattle.cg_query.specs.declared.format.Format.TheVariants as formats
use Rattle.cg_grammar.specs.Found.{Found, Asked, Stated, first}
use Rattle.cg_grammar.specs.Braces.{repeats, runs_fault, side_fault}
use Rattle.cg_grammar.specs.Values.{Last, Counted, braces_of, counted_of, first_fault, run_side, sum_of}
use Rattle.cg_grammar.specs.Lines.{line_of}
use Rattle.cg_grammar.specs.Splitting.{IsLeast, IsRepeatAt, Repeats}
use Rattle.cg_grammar.specs.Grammar as g
use Rattle.cg_grammar.specs.Repeated.{RepeatsAt, RunRepeats, braces_but, line_by, special_but}
use Rattle.cg_reading.proofs.Spelled.{then_as}
use Rattle.cg_grammar.proofs.Clean.{Before, Cleans, before_first, before_rest, both, in_first}
use Rattle.cg_grammar.proofs.Clean.{in_longest, in_second, made, many, or_clean, padded, same, spaced}
use Rattle.cg_grammar.proofs.LeastFault.{row_within}
use Rattle.std.proofs.lemmas.Option.{none-some, same_Some}
use Rattle.cg_grammar.proofs.InOrder.{AllLie, expr_lies, fault_of, fault_with, first_cases, first_lies}
use Rattle.cg_grammar.proofs.InOrder.{items_lie, made_lie, next_lies, side_order, special_lies, term_lies}
use Rattle.cg_grammar.proofs.RepeatedRuns.{repeats_exactly}
use Rattle.cg_grammar.proofs.Whole.{one_stated}

first_none : (a : Option ℕ) → first a None ≡ a
first_none (Some c) = refl
first_none None = refl

sum_fault : (e : Found) (vs : List (Bool × Found)) → first e.fault (first_fault vs) ≡ (sum_of e vs).fault
sum_fault e [] = first_none e.fault
sum_fault e (v ∷ vs) = refl

-- the fault of a run, where it repeats an earlier one
own_fault : (earlier : List ℕ) (bars column c : ℕ) → cond (repeats bars false earlier) (Some column) None ≡ Some c → (column ≡ c) × Repeats bars earlier
own_fault earlier bars column c e = by (repeats bars false earlier) refl e
  where
    by : (t : Bool) → repeats bars false earlier ≡ t → cond t (Some column) None ≡ Some c → (column ≡ c) × Repeats bars earlier
    by true h k = (same_Some column c k, (repeats_exactly bars earlier).0 h)
    by false h k = absurd (none-some _ k)

own_found : (earlier : List ℕ) (bars column : ℕ) → Repeats bars earlier → cond (repeats bars false earlier) (Some column) None ≡ Some column
own_found earlier bars column r = ap (λ (t : Bool). cond t (Some column) None) ((repeats_exactly bars earlier).1 r)

module _ (d : ℕ) where
  -- ---- expressions

  abbrev counted_fault : Bool → Counted → Option ℕ
  counted_fault below n = (counted_of below n).fault

  module _ {Q S : Piece (Found × Last)} (s : Cleans d fault_with Q S) (x : AllLie fault_with S) where
    in_primary : Cleans d fault_with (g.primary Q) (g.primary S)
    in_primary = or_clean d fault_with (made d fault_with _ (same d)) (or_clean d fault_with (made d fault_with _ (same d)) s)

    in_multiple : Cleans d (λ v. v.1.0.fault) (g.multiple Q) (g.multiple S)
    in_multiple = made d (λ v. v.1.0.fault) _ (in_second d (λ v. v.1.0.fault) _ (in_second d fault_with (One g.point) in_primary))

    in_counted : (below : Bool) → Cleans d (counted_fault below) (g.counted Q) (g.counted S)
    in_counted true = or_clean d (counted_fault true) (made d (counted_fault true) _ (same d)) (made d (counted_fault true) _ in_multiple)
    in_counted false = or_clean d (counted_fault false) (made d (counted_fault false) _ (same d)) (made d (counted_fault false) _ in_multiple)

    in_counted_tail : (below : Bool) → Cleans d fault_of (g.counted_tail Q below) (g.counted_tail S below)
    in_counted_tail below = made d fault_of _ (in_longest d (counted_fault below) _ (in_counted below))

    in_others : {R T : Piece Found} → Cleans d fault_of R T
        → Cleans d fault_of (Or (g.special_tail Q) (Or g.ups_and_nim R)) (Or (g.special_tail S) (Or g.ups_and_nim T))
    in_others r = or_clean d fault_of (made d fault_of _ (in_longest d fault_with _ s)) (or_clean d fault_of (made d fault_of _ (same d)) r)

    in_body : Cleans d fault_of (g.body Q) (g.body S)
    in_body =
        or_clean d fault_of (made d fault_of _ (in_second d fault_of _ (in_counted_tail false)))
        (spaced d fault_of (in_others (made d fault_of _ (same d))))

    in_term : Cleans d fault_of (g.term Q) (g.term S)
    in_term =
        or_clean d fault_of (or_clean d fault_of (made d fault_of _ (in_second d fault_of _ (in_counted_tail true))) (in_counted_tail false))
        (in_others (or_clean d fault_of (made d fault_of _ (same d)) (made d fault_of _ (in_second d fault_of _ in_body))))

    in_expr : Cleans d fault_of (g.expr Q) (g.expr S)
    in_expr =
        let terms = many d (λ u. u.1.fault) first_fault refl (λ v vs. refl) (spaced d (λ u. u.1.fault) (in_second d fault_of g.sign (spaced d fault_of in_term))) (next_lies x) in
        let sums = both d fault_of first_fault in_term terms (λ i v text is c e. ((term_lies x).lie i v text is c e).1) in
        made d fault_of (λ v. sum_of v.0 v.1) (record {
          to = sums.to;
          avoids = λ i v text is e. sums.avoids i v text is (sum_fault v.0 v.1 ∙ e);
          from = λ i v text is l. sums.from i v text is (subst (λ (o : Option ℕ). Before d i o) (sym (sum_fault v.0 v.1)) l);
        })

  -- ---- sides, runs and braces

  module _ {E T : Piece Found} (r : Cleans d fault_of E T) (x : AllLie fault_of T) where
    in_side : Cleans d side_fault (g.side E) (g.side T)
    in_side =
        let items = many d fault_of side_fault refl (λ v vs. refl) (spaced d fault_of (made d fault_of _ (in_second d fault_of _ (spaced d fault_of r)))) (items_lie x) in
        spaced d side_fault (or_clean d side_fault
        (padded d side_fault (made d side_fault (λ v. v.0 ∷ v.1) (both d fault_of side_fault r items (λ i v text is c e. (x.lie i v text is c e).1)))) nothing)
      where
        nothing : Cleans d side_fault (Nothing []) (Nothing [])
        nothing = record { to = λ i v text is. is; avoids = λ i v text is e. none-some _ (sym (ap side_fault is.0) ∙ e); from = λ i v text is l. is }

    side_ends : (i : ℕ) (es : List Found) (text : List ℕ) → g.side T i es text → (c : ℕ) → side_fault es ≡ Some c → c < i + length text
    side_ends i es text is c e =
        (row_within es [] i (i + length text) (i + length text, side_order x i es text is, omega arith) c (ap (λ (z : Option ℕ). first z None) e)).1

    abbrev rows_fault : List ℕ → List ((ℕ × ℕ) × List Found) → Option ℕ
    rows_fault earlier rs = runs_fault earlier (map run_side rs)

    rows_to : (rs : List ((ℕ × ℕ) × List Found)) (j : ℕ) (text : List ℕ) → g.Rows (g.side E) j rs text → g.Rows (g.side T) j rs text
    rows_to [] j text b = b
    rows_to (r ∷ rs) j text b = record {
      run = b.run;
      middle = b.middle;
      more = b.more;
      is_run = b.is_run;
      is_side = in_side.to (j + length b.run) r.1 b.middle b.is_side;
      is_more = rows_to rs (j + length b.run + length b.middle) b.more b.is_more;
      no_bar = b.no_bar;
      spelled = b.spelled;
    }

    rows_avoid : (earlier : List ℕ) (rs : List ((ℕ × ℕ) × List Found)) (j : ℕ) (text : List ℕ) → g.Rows (g.side E) j rs text
        → (RunRepeats earlier (map run_side rs) d → ⊥) → rows_fault earlier rs ≡ Some d → ⊥
    rows_avoid earlier [] j text b n e = none-some _ e
    rows_avoid earlier (r ∷ rs) j text b n e =
        let more = earlier ++ r.0.1 ∷ [] in
        by (first_cases (cond (repeats r.0.1 false earlier) (Some r.0.0) None) (first (side_fault r.1) (rows_fault more rs)) d e)
        (rows_avoid more rs (j + length b.run + length b.middle) b.more b.is_more (λ o. n (inr o)))
      where
        behind : (side_fault r.1 ≡ Some d) ⊎ (rows_fault (earlier ++ r.0.1 ∷ []) rs ≡ Some d) → (rows_fault (earlier ++ r.0.1 ∷ []) rs ≡ Some d → ⊥) → ⊥
        behind (inl k) rest = in_side.avoids (j + length b.run) r.1 b.middle b.is_side k
        behind (inr k) rest = rest k

        by : (cond (repeats r.0.1 false earlier) (Some r.0.0) None ≡ Some d) ⊎ (first (side_fault r.1) (rows_fault (earlier ++ r.0.1 ∷ []) rs) ≡ Some d)
            → (rows_fault (earlier ++ r.0.1 ∷ []) rs ≡ Some d → ⊥) → ⊥
        by (inl k) rest = n (inl (own_fault earlier r.0.1 r.0.0 d k))
        by (inr k) rest = behind (first_cases (side_fault r.1) (rows_fault (earlier ++ r.0.1 ∷ []) rs) d k) rest

    rows_from : (earlier : List ℕ) (rs : List ((ℕ × ℕ) × List Found)) (j : ℕ) (text : List ℕ) → g.Rows (g.side T) j rs text
        → Before d j (rows_fault earlier rs) → g.Rows (g.side E) j rs text × (RunRepeats earlier (map run_side rs) d → ⊥)
    rows_from earlier [] j text b l = (b, λ o. o)
    rows_from earlier (r ∷ rs) j text b l =
        let more = earlier ++ r.0.1 ∷ [] in
        let own = cond (repeats r.0.1 false earlier) (Some r.0.0) None in
        let m = j + length b.run in
        let some : 0 < length b.run = omega (arith, b.is_run.1.is.some, ap length b.is_run.1.is.spelled) in
        let behind = before_rest d j (length b.run) own (first (side_fault r.1) (rows_fault more rs)) (λ c e. omega (arith, (own_fault earlier r.0.1 r.0.0 c e).0, b.is_run.0, some)) l in
        let rest = rows_from more rs (m + length b.middle) b.more b.is_more (before_rest d m (length b.middle) (side_fault r.1) (rows_fault more rs) (side_ends m r.1 b.middle b.is_side) behind) in (
          record {
            run = b.run;
            middle = b.middle;
            more = b.more;
            is_run = b.is_run;
            is_side = in_side.from m r.1 b.middle b.is_side (before_first d m (side_fault r.1) (rows_fault more rs) behind);
            is_more = rest.0;
            no_bar = b.no_bar;
            spelled = b.spelled;
          },
          λ o. by rest.1 (before_first d j own (first (side_fault r.1) (rows_fault more rs)) l) o,
        )
      where
        by : (RunRepeats (earlier ++ r.0.1 ∷ []) (map run_side rs) d → ⊥) → Before d j (cond (repeats r.0.1 false earlier) (Some r.0.0) None)
            → IsRepeatAt earlier (run_side r) d ⊎ RunRepeats (earlier ++ r.0.1 ∷ []) (map run_side rs) d → ⊥
        by n l (inr o) = n o
        by n (inl h) (inl o) = absurd (omega (arith, h, o.0, b.is_run.0))
        by n (inr k) (inl o) = absurd (omega (arith, k r.0.0 (own_found earlier r.0.1 r.0.0 o.1), o.0))

    abbrev Row_list : Piece Found → Piece (List ((ℕ × ℕ) × List Found))
    Row_list F = Made (λ v. v.0 ∷ v.1) (g.Some_rows (g.side F))

    abbrev rows_but : Piece (List ((ℕ × ℕ) × List Found))
    rows_but i rs text = Row_list E i rs text × (RunRepeats [] (map run_side rs) d → ⊥)

    in_rows : Cleans d (rows_fault []) rows_but (Row_list T)
    in_rows = record {
      to = λ i rs text u.
          record { made_of = u.0.made_of; is = rows_to (u.0.made_of.0 ∷ u.0.made_of.1) i text u.0.is; same = u.0.same };
      avoids = λ i rs text u e.
          rows_avoid [] rs i text
          (subst (λ (z : List ((ℕ × ℕ) × List Found)). g.Rows (g.side E) i z text) (sym u.0.same) u.0.is) u.1 e;
      from = λ i rs text m l.
          let p = rows_from [] (m.made_of.0 ∷ m.made_of.1) i text m.is
          (subst (λ (z : List ((ℕ × ℕ) × List Found)). Before d i (rows_fault [] z)) m.same l) in (
            record { made_of = m.made_of; is = p.0; same = m.same },
            subst (λ (z : List ((ℕ × ℕ) × List Found)). RunRepeats [] (map run_side z) d → ⊥) (sym m.same) p.1,
          );
    }

    abbrev Inner : Piece Found
    Inner = Made (λ v. braces_of v.1.0 (map run_side v.1.1.0)) (Then (One g.opening_brace) (Then (g.side E) (Then rows_but (One g.closing_brace))))

    in_braces : Cleans d fault_of (braces_but d (g.side E)) (g.braces (g.side T))
    in_braces =
        let inner = both d side_fault (λ v. rows_fault [] v.0) in_side (in_first d (rows_fault []) (One g.closing_brace) in_rows) side_ends in
        let all = made d fault_of _ (in_second d (λ v. first (side_fault v.0) (rows_fault [] v.1.0)) (One g.opening_brace) inner) in
        record { to = λ i e text u. all.to i e text (joined i e text u); avoids = λ i e text u. all.avoids i e text (joined i e text u); from = λ i e text m l. parted i e text (all.from i e text m l) }
      where
        joined : (i : ℕ) (e : Found) (text : List ℕ) → braces_but d (g.side E) i e text → Inner i e text
        joined i e text u =
            let t = u.0.is in
            let s = t.second in
            let w = s.second in
            let rest = then_as w.before w.behind (w.first, u.1) w.second w.spelled in
            record { made_of = u.0.made_of; is = then_as t.before t.behind t.first (then_as s.before s.behind s.first rest s.spelled) t.spelled; same = u.0.same }

        parted : (i : ℕ) (e : Found) (text : List ℕ) → Inner i e text → braces_but d (g.side E) i e text
        parted i e text m =
            let t = m.is in
            let s = t.second in
            let w = s.second in
            let rest = then_as w.before w.behind w.first.0 w.second w.spelled in
            (record { made_of = m.made_of; is = then_as t.before t.behind t.first (then_as s.before s.behind s.first rest s.spelled) t.spelled; same = m.same }, w.first.1)

  -- ---- operands, questions and lines

  in_enclosed : {Q R : Piece Found} → Cleans d fault_of Q R → Cleans d fault_of (g.enclosed Q) (g.enclosed R)
  in_enclosed r = made d fault_of _ (in_second d (λ v. v.1.0.fault) _ (in_second d (λ v. v.0.fault) blanks (in_first d fault_of (Then blanks (One g.closing_paren)) r)))

  in_names : (format : Format) {Q R : Piece Found} → Cleans d fault_of Q R → Cleans d fault_with (g.with_names format (g.whole_piece Q)) (g.with_names format (g.whole_piece R))
  in_names formats.One r = made d fault_with _ r
  in_names formats.Two r = or_clean d fault_with (made d fault_with _ r) (made d fault_with _ (same d))

  boards : Cleans d fault_of (Or g.board g.octal_piece) (Or g.board g.octal_piece)
  boards = or_clean d fault_of (or_clean d fault_of (made d fault_of _ (same d)) (made d fault_of _ (same d))) (made d fault_of _ (same d))

  in_special : (format : Format) (most : ℕ) → Cleans d fault_with (special_but d format most) (g.special format most)
  unfolding g.special special_but
  in_special format zero =
      in_names format (or_clean d fault_of (made d fault_of _ (same d)) (or_clean d fault_of (made d fault_of _ (same d)) boards))
  in_special format (suc most) =
      let e = in_expr (in_special format most) (special_lies format most) in
      let x = expr_lies (special_lies format most) in
      in_names format (or_clean d fault_of (made d fault_of _ (same d)) (or_clean d fault_of (made d fault_of _ (same d))
      (or_clean d fault_of (in_braces e x) (or_clean d fault_of (in_enclosed e) boards))))

  module _ {E T : Piece Found} (r : Cleans d fault_of E T) (x : AllLie fault_of T) where
    in_pair : Cleans d (λ v. first v.0.fault v.1.fault) (g.with_semicolon E E) (g.with_semicolon T T)
    in_pair =
        made d (λ v. first v.0.fault v.1.fault) (λ v. (v.0, v.1.1.1))
        (both d fault_of (λ v. v.1.1.fault) (padded d fault_of r) (in_second d (λ v. v.1.fault) (One g.semicolon) (in_second d fault_of blanks r))
        (λ i v text is c e. ((made_lie fault_of (λ v. v.0) (first_lies fault_of blanks x)).lie i v text is c e).1))

    abbrev asked_fault : Asked → Option ℕ
    asked_fault q = q.fault

    in_query : Cleans d asked_fault (g.query E) (g.query T)
    in_query =
        or_clean d asked_fault (made d asked_fault _ (in_second d (λ v. v.1.fault) g.asking (in_second d fault_of gap r)))
        (or_clean d asked_fault (made d asked_fault _ (in_second d (λ v. first v.1.0.fault v.1.1.fault) g.asking_both (in_second d (λ v. first v.0.fault v.1.fault) gap in_pair)))
        (made d asked_fault _ (in_second d (λ v. first v.1.0.0.fault v.1.0.1.fault) (Word (codes "check") (tt {0})) (in_second d (λ v. first v.0.0.fault v.0.1.fault) gap
        (made d (λ v. first v.0.0.fault v.0.1.fault) (λ v. (v.0, v.1.1.1)) (in_first d (λ v. first v.0.fault v.1.fault) (Then (One g.semicolon) (Then blanks g.string)) (padded d (λ v. first v.0.fault v.1.fault) in_pair)))))))

    abbrev stated_fault : Stated → Option ℕ
    stated_fault a = a.fault

    in_line : (format : Format) → Cleans d stated_fault (line_by format E) (line_by format T)
    in_line formats.One = made d stated_fault _ (spaced d asked_fault (padded d asked_fault in_query))
    in_line formats.Two =
        spaced d stated_fault (padded d stated_fault (or_clean d stated_fault (made d stated_fault _ in_query)
        (made d stated_fault _ (in_second d (λ v. v.1.1.1.fault) g.name (in_second d (λ v. v.1.1.fault) blanks (in_second d (λ v. v.1.fault) (Word (codes ":=") (tt {0})) (in_second d fault_of blanks r)))))))

-- ---- the least column

is_line : (format : Format) (i : ℕ) (a : Stated) (text : List ℕ) → line_by format (g.expr (g.special format 64)) i a text → line_of format i a text
is_line formats.One i a text is = is
is_line formats.Two i a text is = is

by_line : (format : Format) (i : ℕ) (a : Stated) (text : List ℕ) → line_of format i a text → line_by format (g.expr (g.special format 64)) i a text
by_line formats.One i a text is = is
by_line formats.Two i a text is = is

pub whole_least : (format : Format) (line : List ℕ) (a : Stated) → line_of format 1 a line → IsLeast (RepeatsAt format line) a.fault
whole_least format line a is = by a.fault refl
  where
    clean : (d : ℕ) → Cleans d (λ (b : Stated). b.fault) (line_by format (g.expr (special_but d format 64))) (line_by format (g.expr (g.special format 64)))
    clean d = in_line d (in_expr d (in_special d format 64) (special_lies format 64)) (expr_lies (special_lies format 64)) format

    kept : (d : ℕ) → ((c : ℕ) → a.fault ≡ Some c → d < c) → RepeatsAt format line d → ⊥
    kept d h r = r.left_out a ((clean d).from 1 a line (by_line format 1 a line is) (inr h))

    by : (o : Option ℕ) → a.fault ≡ o → IsLeast (RepeatsAt format line) o
    by None e = λ n r. kept n (λ c h. absurd (none-some _ (sym e ∙ h))) r
    by (Some c) e = (
      record { read = (a, is); left_out = λ b w. (clean c).avoids 1 b line w (ap (λ (z : Stated). z.fault) (one_stated format line b a (is_line format 1 b line ((clean c).to 1 b line w)) is) ∙ e) },
      λ n r. least n r (ltb n c) refl,
    )
      where
        least : (n : ℕ) → RepeatsAt format line n → (t : Bool) → ltb n c ≡ t → c ≤ n
        least n r true h = absurd (kept n (λ b k. omega (arith, ltb-true n c h, same_Some c b (sym e ∙ k))) r)
        least n r false h = ltb-false n c h
