-- A line of a format states one thing, or nothing and has a column; blank lines and comments state nothing.
use Rattle.std.proofs.Common.{◌≡◌, ◌≢◌, ℕ, suc, ◌+◌, ◌-◌, ◌≤◌, ◌⊎◌, inl, inr, Bool, true, false, cond, ◌&&◌, List, []}
use Rattle.std.proofs.Common.{◌∷◌, ◌++◌, length, Option, Some, None, Result, Ok, Err, refl, ap, sym, subst, ◌∙◌, arith}
use Rattle.std.specs.List.{list_all}
use Rattle.std.proofs.lemmas.Option.{none-some, same_Some}
use Rattle.std.proofs.lemmas.Bool.{and_parts, and_from, false_from_ne_true}
use Rattle.cg_reading.specs.Bytes.{has, Begins}
use Rattle.cg_reading.specs.Tokens.{blank}
use Rattle.cg_reading.specs.Readers.{skipped}
use Rattle.cg_reading.specs.Column.{Stops}
use Rattle.cg_reading.proofs.Sets.{apart_has}
use Rattle.cg_reading.proofs.Skip.{same_head, some_item}
use Rattle.cg_reading.proofs.WholeLines.{whole_takes, whole_stops, whole_left, whole_once}
use Rattle.cg_query.specs.Tree.{Tree, Question, Statement, asks, defines}
use Rattle.cg_query.specs.declared.format.Format.{Format}
use Rattle.cg_query.specs.declared.format.Format.TheVariants as formats
use Rattle.cg_grammar.specs.Found.{Stated}
use Rattle.cg_grammar.specs.Grammar.{line}
use Rattle.cg_grammar.specs.Reading.{read_at, line_at}
use Rattle.cg_grammar.specs.Lines.{line_of, is_blank_line, IsComment, IsInGrammar, ReadsIn, IsColumnIn, Reads, IsColumn}
use Rattle.cg_grammar.proofs.Productions.{statement_ok, statement_begin}
use Rattle.cg_grammar.proofs.SameStatements.{line_lawful, line_begin, line_follow, line_same}

-- ---- what stands behind the blanks

skipped_blanks : (text : List ℕ) → skipped blank text ≡ [] → is_blank_line text ≡ true
skipped_blanks [] e = refl
skipped_blanks (b ∷ text) e = chosen (has blank b) refl (skipped_blanks text) e
  where
    chosen : (t : Bool) → has blank b ≡ t → (skipped blank text ≡ [] → is_blank_line text ≡ true) → cond t (skipped blank text) (b ∷ text) ≡ [] → (t && is_blank_line text) ≡ true
    chosen true h more e = more e
    chosen false h more e = absurd cc

pub blanks_skipped : (front behind : List ℕ) → list_all (has blank) front ≡ true → skipped blank (front ++ behind) ≡ skipped blank behind
blanks_skipped [] behind h = refl
blanks_skipped (b ∷ front) behind h = let p = and_parts (has blank b) (list_all (has blank) front) h in rw p.0 (blanks_skipped front behind p.1)

all_skipped : (text : List ℕ) → is_blank_line text ≡ true → skipped blank text ≡ []
all_skipped [] h = refl
all_skipped (b ∷ text) h = let p = and_parts (has blank b) (is_blank_line text) h in rw p.0 (all_skipped text p.1)

-- a line is its blanks and what stands behind them
record Fronted (text rest : List ℕ) : Type 0 where
  front : List ℕ
  blanks : list_all (has blank) front ≡ true
  spelled : text ≡ front ++ rest

fronted : (text : List ℕ) → Fronted text (skipped blank text)
fronted [] = record { front = []; blanks = refl; spelled = refl }
fronted (b ∷ text) = chosen (has blank b) refl (fronted text)
  where
    chosen : (t : Bool) → has blank b ≡ t → Fronted text (skipped blank text) → Fronted (b ∷ text) (cond t (skipped blank text) (b ∷ text))
    chosen true h f = record { front = b ∷ f.front; blanks = and_from (has blank b) (list_all (has blank) f.front) h f.blanks; spelled = ap (λ (z : List ℕ). b ∷ z) f.spelled }
    chosen false h f = record { front = []; blanks = refl; spelled = refl }

pub blank_line : (text : List ℕ) → skipped blank text ≡ [] → is_blank_line text ≡ true
blank_line text e = skipped_blanks text e

pub comment : (text : List ℕ) (b : ℕ) (rest : List ℕ) → skipped blank text ≡ b ∷ rest → b ≡ 35 → IsComment text
comment text b rest e h = let f = fronted text in record { front = f.front; behind = rest; blanks = f.blanks; spelled = f.spelled ∙ ap (λ (z : List ℕ). f.front ++ z) (e ∙ ap (λ (n : ℕ). n ∷ rest) h) }

comment_skipped : (text : List ℕ) (is : IsComment text) → skipped blank text ≡ 35 ∷ is.behind
comment_skipped text is = ap (skipped blank) is.spelled ∙ blanks_skipped is.front (35 ∷ is.behind) is.blanks

-- a first byte behind the blanks that is no #
pub record IsOther (text : List ℕ) : Type 0 where
  pub first : ℕ
  pub behind : List ℕ
  pub rest : skipped blank text ≡ first ∷ behind
  pub other : first ≢ 35

pub not_blank : (text : List ℕ) (b : ℕ) (rest : List ℕ) → skipped blank text ≡ b ∷ rest → is_blank_line text ≡ false
not_blank text b rest e = false_from_ne_true (is_blank_line text) (λ (h : is_blank_line text ≡ true). some_item b rest (sym e ∙ all_skipped text h))

pub not_comment : (text : List ℕ) (b : ℕ) (rest : List ℕ) → skipped blank text ≡ b ∷ rest → b ≢ 35 → IsComment text → ⊥
not_comment text b rest e n is = n (same_head b 35 rest is.behind (sym e ∙ comment_skipped text is))

pub blank_no_comment : (text : List ℕ) → skipped blank text ≡ [] → IsComment text → ⊥
blank_no_comment text e is = some_item 35 is.behind (sym (comment_skipped text is) ∙ e)

-- ---- what a line states

abbrev pub stated_as : Statement → Option ℕ → Stated
stated_as s o = record { statement = s; fault = o }

pub stops_once : {P : List ℕ → Type 0} (text : List ℕ) (c d : ℕ) → Stops P text c → Stops P text d → c ≡ d
stops_once text c d s t = omega (arith, s.at, t.at, t.longest s.before s.behind s.split s.begun, s.longest t.before t.behind t.split t.begun)

-- ---- what is read

module _ (format : Format) (text : List ℕ) where
  pub read_left : (n : ℕ) → read_at format text ≡ Err n → n ≤ length text
  unfolding read_at
  read_left n h = whole_left (line_of format) (line_at format) line_begin false line_follow (line_lawful format) text n h

  pub one_stated : (a b : Stated) → line_of format 1 a text → line_of format 1 b text → a ≡ b
  one_stated a b x y = whole_once (line_of format) (line_at format) line_begin false line_follow (line_lawful format) text a b x y

  found : (a : Stated) → read_at format text ≡ Ok a → line_of format 1 a text
  unfolding read_at
  found a h = whole_takes (line_of format) (line_at format) line_begin false line_follow (line_lawful format) text a h

  stuck : (n column : ℕ) → read_at format text ≡ Err n → column + n ≡ suc (length text) → Stops (IsInGrammar format) text column
  unfolding read_at
  stuck n column h c = whole_stops (line_of format) (line_at format) line_begin false line_follow (line_lawful format) text n column h c

  -- what was read without a fault is what the line states
  pub read_is : (s : Statement) → read_at format text ≡ Ok (stated_as s None) → ReadsIn format text s
  read_is s h = found (stated_as s None) h

  -- a line with a fault states nothing, and this is its column
  pub faulty_is : (s : Statement) (c : ℕ) → read_at format text ≡ Ok (stated_as s (Some c)) → ((p : Statement) → ¬ ReadsIn format text p) × IsColumnIn format text c
  faulty_is s c h =
      let is = found (stated_as s (Some c)) h in
      (λ p r. none-some c (sym (ap (λ (a : Stated). a.fault) (one_stated (stated_as s (Some c)) (stated_as p None) is r))), inr (s, is))

  -- and so is one on which reading stops
  pub stops_of : (n column : ℕ) → read_at format text ≡ Err n → column + n ≡ suc (length text) → ((p : Statement) → ¬ ReadsIn format text p) × IsColumnIn format text column
  stops_of n column h c = let s = stuck n column h c in (λ p r. s.none (stated_as p None, r), inl s)

  -- ---- laws

  pub one_statement : (p q : Statement) → ReadsIn format text p → ReadsIn format text q → p ≡ q
  one_statement p q x y = ap (λ (a : Stated). a.statement) (one_stated (stated_as p None) (stated_as q None) x y)

  -- what a statement has in front isn't blank, and is no #
  front : (y bs x : List ℕ) → list_all (has blank) bs ≡ true → x ≡ bs → text ≡ x ++ y → Begins statement_begin false y → IsOther text
  front [] bs x h e k b = absurd cc
  front (c ∷ y) bs x h e k b = record {
    first = c;
    behind = y;
    rest = ap (skipped blank) k ∙ blanks_skipped x (c ∷ y) (subst (λ (z : List ℕ). list_all (has blank) z ≡ true) (sym e) h) ∙ rw (apart_has statement_begin blank c refl b) refl;
    other = λ (n : c ≡ 35). no_hash (subst (λ (z : ℕ). has statement_begin z ≡ true) n b);
  }
    where
      no_hash : has statement_begin 35 ≡ true → ⊥
      no_hash n = cc

  statement_other : (s : Statement) → ReadsIn format text s → IsOther text
  statement_other s r =
      let m = (line_same format).from 1 (stated_as s None) text r in
      front m.is.behind m.made_of.0 m.is.before m.is.first.within m.is.first.spelled m.is.spelled ((statement_ok format).begins (1 + length m.is.before) m.made_of.1 m.is.behind m.is.second)

  pub statement_not_blank : (s : Statement) → ReadsIn format text s → is_blank_line text ≡ false
  statement_not_blank s r = let o = statement_other s r in not_blank text o.first o.behind o.rest

  pub statement_not_comment : (s : Statement) → ReadsIn format text s → IsComment text → ⊥
  statement_not_comment s r = let o = statement_other s r in not_comment text o.first o.behind o.rest o.other

  -- a line states something, or nothing and then has a column
  pub states_or_not : ((s : Statement) × ReadsIn format text s) ⊎ (((s : Statement) → ¬ ReadsIn format text s) × ((c : ℕ) × IsColumnIn format text c))
  states_or_not = tells (read_at format text) refl
    where
      Decision : Type 0
      Decision = ((s : Statement) × ReadsIn format text s) ⊎ (((s : Statement) → ¬ ReadsIn format text s) × ((c : ℕ) × IsColumnIn format text c))

      by_fault : (s : Statement) (o : Option ℕ) → read_at format text ≡ Ok (stated_as s o) → Decision
      by_fault s None h = inl (s, read_is s h)
      by_fault s (Some c) h = let f = faulty_is s c h in inr (f.0, (c, f.1))

      tells : (r : Result Stated ℕ) → read_at format text ≡ r → Decision
      tells (Ok a) h = by_fault a.statement a.fault h
      tells (Err n) h = let s = stops_of n (suc (length text) - n) h (omega (arith, read_left n h)) in inr (s.0, (suc (length text) - n, s.1))

  -- a line that states nothing has one column
  pub one_column : (c d : ℕ) → IsColumnIn format text c → IsColumnIn format text d → c ≡ d
  one_column c d (inl s) (inl t) = stops_once text c d s t
  one_column c d (inl s) (inr (q, t)) = absurd (s.none (stated_as q (Some d), t))
  one_column c d (inr (p, s)) (inl t) = absurd (t.none (stated_as p (Some c), s))
  one_column c d (inr (p, s)) (inr (q, t)) = same_Some c d (ap (λ (a : Stated). a.fault) (one_stated (stated_as p (Some c)) (stated_as q (Some d)) s t))

  -- a line that states something has no column
  pub stated_or_column : (s : Statement) (c : ℕ) → ReadsIn format text s → IsColumnIn format text c → ⊥
  stated_or_column s c x (inl stops) = stops.none (stated_as s None, x)
  stated_or_column s c x (inr (t, is)) = none-some c (sym (ap (λ (a : Stated). a.fault) (one_stated (stated_as t (Some c)) (stated_as s None) is x)))

-- ---- questions

asks_is : (p q : Question) → asks p ≡ asks q → p ≡ q
asks_is p q e = cc

-- no line of format 1 defines anything
pub defines_none : (text word : List ℕ) (t : Tree) → ReadsIn formats.One text (defines word t) → ⊥
defines_none text word t r = by r.made_of.question (ap (λ (a : Stated). a.statement) r.same)
  where
    by : (q : Question) → defines word t ≡ asks q → ⊥
    by q e = cc

-- a line that reads as a question, by its piece of the grammar
pub as_asked : (text : List ℕ) (q : Question) → Reads text q → line 1 (record { question = q; fault = None }) text
as_asked text q r =
    let e : q ≡ r.made_of.question = asks_is q r.made_of.question (ap (λ (a : Stated). a.statement) r.same) in
    let f : None ≡ r.made_of.fault = ap (λ (a : Stated). a.fault) r.same in
    subst (λ (z : Question). line 1 (record { question = z; fault = None }) text) (sym e)
    (subst (λ (o : Option ℕ). line 1 (record { question = r.made_of.question; fault = o }) text) (sym f) r.is)

-- no line reads as two questions
pub one_question : (text : List ℕ) (p q : Question) → Reads text p → Reads text q → p ≡ q
one_question text p q x y = asks_is p q (one_statement formats.One text (asks p) (asks q) x y)

-- a line reads as a question, or as none and then has a column
pub reads_or_not : (text : List ℕ) → ((q : Question) × Reads text q) ⊎ (((q : Question) → ¬ Reads text q) × ((c : ℕ) × IsColumn text c))
reads_or_not text = by_case (states_or_not formats.One text)
  where
    by_case : ((s : Statement) × ReadsIn formats.One text s) ⊎ (((s : Statement) → ¬ ReadsIn formats.One text s) × ((c : ℕ) × IsColumnIn formats.One text c))
        → ((q : Question) × Reads text q) ⊎ (((q : Question) → ¬ Reads text q) × ((c : ℕ) × IsColumn text c))
    by_case (inl (asks q, r)) = inl (q, r)
    by_case (inl (defines w t, r)) = absurd (defines_none text w t r)
    by_case (inr (n, c)) = inr (λ q. n (asks q), c)
