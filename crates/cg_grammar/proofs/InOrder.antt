-- In each line the parts of a brace stand one behind the other, and a fault lies within the text that has it.
use Rattle.std.proofs.Common.{◌≡◌, ℕ, zero, suc, ◌+◌, ◌≤◌, ◌<◌, ◌⊎◌, inl, inr, Bool, true, false, List, [], ◌∷◌}
use Rattle.std.proofs.Common.{◌++◌, length, map, Option, Some, None, ap, sym, subst, ◌∙◌, arith, length-append}
use Rattle.cg_reading.specs.Bytes.{Class}
use Rattle.cg_reading.specs.Pieces.{Piece, Then, Or, Many, Made, Longest, Nothing, One}
use Rattle.cg_reading.specs.Tokens.{blanks, behind_blanks, with_blanks}
use Rattle.cg_grammar.specs.Found.{Found, first}
use Rattle.cg_grammar.specs.Braces.{Run_side, row_fault}
use Rattle.cg_grammar.specs.Values.{Last, Counted, counted_of, first_fault, run_side, sum_of}
use Rattle.cg_grammar.specs.Splitting.{RowLies, RunsLie, SideLies}
use Rattle.cg_grammar.specs.Grammar as g
use Rattle.cg_query.specs.declared.format.Format.{Format}
use Rattle.cg_query.specs.declared.format.Format.TheVariants as formats
use Rattle.cg_grammar.proofs.LeastFault.{row_within}

-- the fault of each value of the piece lies within the value's text
pub record AllLie {A : Type 0} (fault : A → Option ℕ) (R : Piece A) : Type 0 where
  pub lie : (i : ℕ) (v : A) (text : List ℕ) → R i v text → (c : ℕ) → fault v ≡ Some c → (i ≤ c) × (c < i + length text)

none_lies : {A : Type 0} {R : Piece A} → AllLie (λ v. None) R
none_lies = record { lie = λ i v text is c e. absurd cc }

-- ---- pieces of pieces

pub or_lie : {A : Type 0} (f : A → Option ℕ) {R S : Piece A} → AllLie f R → AllLie f S → AllLie f (Or R S)
or_lie {A} f {R} {S} r s = record { lie = by }
  where
    by : (i : ℕ) (v : A) (text : List ℕ) → Or R S i v text → (c : ℕ) → f v ≡ Some c → (i ≤ c) × (c < i + length text)
    by i v text (inl is) c e = r.lie i v text is c e
    by i v text (inr is) c e = s.lie i v text is c e

module _ {A B : Type 0} (f : A → Option ℕ) {R : Piece A} (S : Piece B) (r : AllLie f R) where
  pub first_lies : AllLie (λ v. f v.0) (Then R S)
  first_lies = record { lie = λ i v text is c e. let p = r.lie i v.0 is.before is.first c e in (p.0, omega (arith, p.1, ap length is.spelled, length-append is.before is.behind)) }

  longest_lies : {goes_on : A → Class} → AllLie (λ v. f v.0) (Longest goes_on R S)
  longest_lies = record { lie = λ i v text is c e. let p = r.lie i v.0 is.before is.first c e in (p.0, omega (arith, p.1, ap length is.spelled, length-append is.before is.behind)) }

  pub second_lies : AllLie (λ v. f v.1) (Then S R)
  second_lies = record {
    lie = λ i v text is c e. let p = r.lie (i + length is.before) v.1 is.behind is.second c e in (omega (arith, p.0), omega (arith, p.1, ap length is.spelled, length-append is.before is.behind));
  }

pub made_lie : {A B : Type 0} (f : B → Option ℕ) (h : A → B) {R : Piece A} → AllLie (λ v. f (h v)) R → AllLie f (Made h R)
made_lie f h r = record { lie = λ i v text is c e. r.lie i is.made_of text is.is c (ap f (sym is.same) ∙ e) }

pub spaced_lies : {A : Type 0} (f : A → Option ℕ) {R : Piece A} → AllLie f R → AllLie f (behind_blanks R)
spaced_lies f r = made_lie f (λ v. v.1) (second_lies f _ r)

abbrev pub fault_of : Found → Option ℕ
fault_of e = e.fault

abbrev pub fault_with : Found × Last → Option ℕ
fault_with v = v.0.fault

pub first_cases : (x y : Option ℕ) (c : ℕ) → first x y ≡ Some c → (x ≡ Some c) ⊎ (y ≡ Some c)
first_cases (Some d) y c e = inl e
first_cases None y c e = inr e

-- ---- expressions

module _ {S : Piece (Found × Last)} (s : AllLie fault_with S) where
  primary_lies : AllLie fault_with (g.primary S)
  primary_lies = or_lie fault_with (made_lie fault_with _ none_lies) (or_lie fault_with (made_lie fault_with _ none_lies) s)

  abbrev fault_at : Bool → Counted → Option ℕ
  fault_at below n = (counted_of below n).fault

  multiple_lies : AllLie (λ v. v.1.0.fault) (g.multiple S)
  multiple_lies = made_lie (λ v. v.1.0.fault) _ (second_lies (λ v. v.1.0.fault) _ (second_lies fault_with (One g.point) primary_lies))

  counted_lies : (below : Bool) → AllLie (fault_at below) (g.counted S)
  counted_lies true = or_lie (fault_at true) (made_lie (fault_at true) _ none_lies) (made_lie (fault_at true) _ multiple_lies)
  counted_lies false = or_lie (fault_at false) (made_lie (fault_at false) _ none_lies) (made_lie (fault_at false) _ multiple_lies)

  counted_tail_lies : (below : Bool) → AllLie fault_of (g.counted_tail S below)
  counted_tail_lies below = made_lie fault_of _ (longest_lies (fault_at below) _ (counted_lies below))

  special_tail_lies : AllLie fault_of (g.special_tail S)
  special_tail_lies = made_lie fault_of _ (longest_lies fault_with _ s)

  others_lie : {R : Piece Found} → AllLie fault_of R → AllLie fault_of (Or (g.special_tail S) (Or g.ups_and_nim R))
  others_lie r = or_lie fault_of special_tail_lies (or_lie fault_of (made_lie fault_of _ none_lies) r)

  body_lies : AllLie fault_of (g.body S)
  body_lies =
      or_lie fault_of (made_lie fault_of _ (second_lies fault_of _ (counted_tail_lies false)))
      (spaced_lies fault_of (others_lie (made_lie fault_of _ none_lies)))

  pub term_lies : AllLie fault_of (g.term S)
  term_lies =
      or_lie fault_of (or_lie fault_of (made_lie fault_of _ (second_lies fault_of _ (counted_tail_lies true))) (counted_tail_lies false))
      (others_lie (or_lie fault_of (made_lie fault_of _ none_lies) (made_lie fault_of _ (second_lies fault_of _ body_lies))))

  all_lie : {R : Piece (Bool × Found)} → AllLie (λ v. v.1.fault) R → (i : ℕ) (vs : List (Bool × Found)) (text : List ℕ) → Many R i vs text
      → (c : ℕ) → first_fault vs ≡ Some c → (i ≤ c) × (c < i + length text)
  all_lie r i [] text is c e = absurd cc
  all_lie r i (v ∷ vs) text is c e = by (first_cases v.1.fault (first_fault vs) c e) (all_lie r (i + length is.before) vs is.behind is.second c)
    where
      by : (v.1.fault ≡ Some c) ⊎ (first_fault vs ≡ Some c)
          → (first_fault vs ≡ Some c → (i + length is.before ≤ c) × (c < i + length is.before + length is.behind)) → (i ≤ c) × (c < i + length text)
      by (inl k) more = let p = r.lie i v is.before is.first c k in (p.0, omega (arith, p.1, ap length is.spelled, length-append is.before is.behind))
      by (inr k) more = let p = more k in (omega (arith, p.0), omega (arith, p.1, ap length is.spelled, length-append is.before is.behind))

  terms_lie : {R : Piece (Bool × Found)} → AllLie (λ v. v.1.fault) R → AllLie first_fault (Many R)
  terms_lie r = record { lie = all_lie r }

  pub next_lies : AllLie (λ u. u.1.fault) (behind_blanks (Then g.sign (behind_blanks (g.term S))))
  next_lies = spaced_lies (λ u. u.1.fault) (second_lies fault_of g.sign (spaced_lies fault_of term_lies))

  further_lie : AllLie first_fault (Many (behind_blanks (Then g.sign (behind_blanks (g.term S)))))
  further_lie = terms_lie next_lies

  sum_lies : (i : ℕ) (e : Found) (vs : List (Bool × Found)) (x y text : List ℕ) → g.term S i e x → Many (behind_blanks (Then g.sign (behind_blanks (g.term S)))) (i + length x) vs y
      → text ≡ x ++ y → (c : ℕ) → (sum_of e vs).fault ≡ Some c → (i ≤ c) × (c < i + length text)
  sum_lies i e [] x y text t m s c h = let p = term_lies.lie i e x t c h in (p.0, omega (arith, p.1, ap length s, length-append x y))
  sum_lies i e (v ∷ vs) x y text t m s c h = by (first_cases e.fault (first_fault (v ∷ vs)) c h)
    where
      by : (e.fault ≡ Some c) ⊎ (first_fault (v ∷ vs) ≡ Some c) → (i ≤ c) × (c < i + length text)
      by (inl k) = let p = term_lies.lie i e x t c k in (p.0, omega (arith, p.1, ap length s, length-append x y))
      by (inr k) =
          let p = further_lie.lie (i + length x) (v ∷ vs) y m c k in
          (omega (arith, p.0), omega (arith, p.1, ap length s, length-append x y))

  pub expr_lies : AllLie fault_of (g.expr S)
  expr_lies = made_lie fault_of (λ v. sum_of v.0 v.1) (record { lie = λ i v text is c e. sum_lies i v.0 v.1 is.before is.behind text is.first is.second is.spelled c e })

-- ---- sides and rows

side_wide : (from to : ℕ) (side : List Found) (low high : ℕ) → SideLies from side to → low ≤ from → to ≤ high → SideLies low side high
side_wide from to [] low high h l k = omega (arith, h)
side_wide from to (e ∷ others) low high h l k =
    (h.0, omega (arith, h.1), λ c d. (omega (arith, (h.2 c d).0), (h.2 c d).1), side_wide h.0 to others h.0 high h.3 (omega arith) k)

abbrev InOrder : Piece (List Found) → Type 0
InOrder R = (i : ℕ) (es : List Found) (text : List ℕ) → R i es text → SideLies i es (i + length text)

many_order : {R : Piece Found} → AllLie fault_of R → (i : ℕ) (es : List Found) (text : List ℕ) → Many R i es text → SideLies i es (i + length text)
many_order r i [] text is = omega arith
many_order r i (e ∷ es) text is =
    let m = i + length is.before in
    (m, omega arith, r.lie i e is.before is.first, side_wide m (m + length is.behind) es m (i + length text) (many_order r m es is.behind is.second) (omega arith) (omega (arith, ap length is.spelled, length-append is.before is.behind)))

module _ {E : Piece Found} (x : AllLie fault_of E) where
  pub items_lie : AllLie fault_of (behind_blanks (Made (λ v. v.1) (Then (One g.comma) (behind_blanks E))))
  items_lie = spaced_lies fault_of (made_lie fault_of _ (second_lies fault_of _ (spaced_lies fault_of x)))

  exprs_order : InOrder (g.exprs E)
  exprs_order i es text is =
      let P : List Found → Type 0 = λ z. SideLies i z (i + length text) in
      let t = is.is in
      let m = i + length t.before in
      subst P (sym is.same) (
        m,
        omega arith,
        x.lie i is.made_of.0 t.before t.first,
        side_wide m (m + length t.behind) is.made_of.1 m (i + length text)
            (many_order items_lie m is.made_of.1 t.behind t.second) (omega arith) (omega (arith, ap length t.spelled, length-append t.before t.behind)),
      )

  pub side_order : InOrder (g.side E)
  side_order i es text is =
      let t = is.is in
      let m = i + length t.before in
      rw is.same (side_wide m (m + length t.behind) is.made_of.1 i (i + length text) (by m is.made_of.1 t.behind t.second) (omega arith) (omega (arith, ap length t.spelled, length-append t.before t.behind)))
    where
      by : (j : ℕ) (fs : List Found) (y : List ℕ) → Or (with_blanks (g.exprs E)) (Nothing []) j fs y → SideLies j fs (j + length y)
      by j fs y (inl w) =
          let Q : List Found → Type 0 = λ z. SideLies j z (j + length y) in
          let u = w.is in
          subst Q (sym w.same) (side_wide j (j + length u.before) w.made_of.0 j (j + length y) (exprs_order j w.made_of.0 u.before u.first) (omega arith) (omega (arith, ap length u.spelled, length-append u.before u.behind)))
      by j fs y (inr w) = rw w.0 (omega arith)

module _ {P : Piece (List Found)} (p : InOrder P) where
  one_row : (rest : ℕ → List ℕ → Type 0) (i : ℕ) (r : (ℕ × ℕ) × List Found) (more : List Run_side) (text : List ℕ)
      → ((j : ℕ) (y : List ℕ) → rest j y → RunsLie j more (j + length y)) → g.Bars_side P rest i r text → RunsLie i (run_side r ∷ more) (i + length text)
  one_row rest i r more text next b =
      let m = i + length b.run + length b.middle in
      let some : 0 < length b.run = omega (arith, b.is_run.1.is.some, ap length b.is_run.1.is.spelled) in
      let whole = length-append b.run (b.middle ++ b.more) in
      let behind = length-append b.middle b.more in (
        m,
        omega (arith, b.is_run.0),
        side_wide (i + length b.run) m r.1 (suc r.0.0) m (p (i + length b.run) r.1 b.middle b.is_side) (omega (arith, b.is_run.0, some)) (omega arith),
        subst (λ (z : ℕ). RunsLie m more z) (omega (arith, ap length b.spelled, whole, behind)) (next m b.more b.is_more),
      )

  rows_order : (i : ℕ) (rs : List ((ℕ × ℕ) × List Found)) (text : List ℕ) → g.Rows P i rs text → RunsLie i (map run_side rs) (i + length text)
  rows_order i [] text is = omega arith
  rows_order i (r ∷ rs) text is = one_row (λ j y. g.Rows P j rs y) i r (map run_side rs) text (λ j y h. rows_order j rs y h) is

  -- a side and the rows behind it
  row_order : (i : ℕ) (side : List Found) (r : (ℕ × ℕ) × List Found) (rs : List ((ℕ × ℕ) × List Found)) (front behind : List ℕ) → P i side front
      → g.Some_rows P (i + length front) (r, rs) behind → RowLies i side (map run_side (r ∷ rs)) (i + length front + length behind)
  row_order i side r rs front behind is rows =
      (i + length front, p i side front is, one_row (λ j y. g.Rows P j rs y) (i + length front) r (map run_side rs) behind (λ j y h. rows_order j rs y h) rows)

  brace_lies : (i : ℕ) (v : List Found × (List ((ℕ × ℕ) × List Found) × ℕ)) (text : List ℕ)
      → Then P (Then (Made (λ v. v.0 ∷ v.1) (g.Some_rows P)) (One g.closing_brace)) i v text
      → (c : ℕ) → row_fault v.0 (map run_side v.1.0) ≡ Some c → (i ≤ c) × (c < i + length text)
  brace_lies i v text is c e =
      let t = is.second in
      let m = t.first in
      let lies = row_order i v.0 m.made_of.0 m.made_of.1 is.before t.before is.first m.is in
      let q = row_within v.0 (map run_side (m.made_of.0 ∷ m.made_of.1)) i (i + length is.before + length t.before) lies c
      (ap (λ (z : List ((ℕ × ℕ) × List Found)). row_fault v.0 (map run_side z)) (sym m.same) ∙ e) in
      (q.0, omega (arith, q.1, ap length is.spelled, length-append is.before is.behind, ap length t.spelled, length-append t.before t.behind))

  braces_lie : AllLie fault_of (g.braces P)
  braces_lie = made_lie fault_of _ (second_lies (λ v. row_fault v.0 (map run_side v.1.0)) _ (record { lie = brace_lies }))

-- ---- what may be an operand besides numbers, ups and nimbers

enclosed_lies : {A : Type 0} (f : A → Option ℕ) {R : Piece A} → AllLie f R → AllLie f (g.enclosed R)
enclosed_lies f r = made_lie f _ (second_lies (λ v. f v.1.0) _ (second_lies (λ v. f v.0) blanks (first_lies f (Then blanks (One g.closing_paren)) r)))

board_lies : AllLie fault_of (Or g.board g.octal_piece)
board_lies = or_lie fault_of (or_lie fault_of (made_lie fault_of _ none_lies) (made_lie fault_of _ none_lies)) (made_lie fault_of _ none_lies)

named_lies : (format : Format) {R : Piece Found} → AllLie fault_of R → AllLie fault_with (g.with_names format (g.whole_piece R))
named_lies formats.One r = made_lie fault_with _ r
named_lies formats.Two r = or_lie fault_with (made_lie fault_with _ r) (made_lie fault_with _ none_lies)

pub special_lies : (format : Format) (most : ℕ) → AllLie fault_with (g.special format most)
unfolding g.special
special_lies format zero =
    named_lies format (or_lie fault_of (made_lie fault_of _ none_lies) (or_lie fault_of (made_lie fault_of _ none_lies) board_lies))
special_lies format (suc most) =
    let x = expr_lies (special_lies format most) in
    named_lies format (or_lie fault_of (made_lie fault_of _ none_lies) (or_lie fault_of (made_lie fault_of _ none_lies)
    (or_lie fault_of (braces_lie (side_order x)) (or_lie fault_of (enclosed_lies fault_of x) board_lies))))

-- a side and the runs behind it, as they stand in a line with so many brackets at most open in it
pub line_order : (format : Format) (most at : ℕ) (side : List Found) (r : (ℕ × ℕ) × List Found) (rs : List ((ℕ × ℕ) × List Found)) (front behind : List ℕ)
    → g.side (g.expr (g.special format most)) at side front → g.Some_rows (g.side (g.expr (g.special format most))) (at + length front) (r, rs) behind
    → RowLies at side (map run_side (r ∷ rs)) (at + length front + length behind)
line_order format most = row_order (side_order (expr_lies (special_lies format most)))
