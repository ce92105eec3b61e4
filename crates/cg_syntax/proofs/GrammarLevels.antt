-- How many levels the expressions have that a line states: braces add eight to those of an expression in them, and an
-- expression four to those of an operand.
use Rattle.std.proofs.Common.{◌≡◌, refl, sym, subst, ℕ, zero, suc, ◌+◌, ◌*◌, ◌≤◌, ◌==◌, max, arith, inl, inr, ◌⊎◌, List, [], ◌∷◌, ◌++◌, map}
use Rattle.std.proofs.Common.{Bool, true, false, cond}
use Rattle.std.proofs.Math.Nat.{le-max_left, max-le}
use Rattle.cg_reading.specs.Pieces.{Made, Many, One, Or, Piece, Then}
use Rattle.cg_reading.specs.Tokens.{behind_blanks, with_blanks}
use Rattle.cg_query.specs.Tree.{Tree, Question, trees_from, value, compare, outcome, stops, mean, temp, thermo, proof}
use Rattle.cg_query.specs.Heights.{QuestionIs, height, heights}
use Rattle.cg_grammar.specs.Braces.{Cut, Parts, Run_side, Whole, cut_from, only_tree, part_of, side_trees, split_by}
use Rattle.cg_grammar.specs.Found.{Asked, Found, Stated}
use Rattle.cg_grammar.specs.Grammar as grammar
use Rattle.cg_grammar.specs.Grammar.{special}
use Rattle.cg_grammar.specs.Lines.{line_of}
use Rattle.cg_grammar.specs.Values.{Last, asking, run_side}
use Rattle.cg_syntax.specs.Naming.{question_asked}
use Rattle.cg_syntax.proofs.TermLevels.{Low, low_at, higher, flat, board_low, AllLow, expr_low}
use Rattle.cg_query.specs.declared.format.Format.{Format}
use Rattle.cg_query.specs.declared.format.Format.TheVariants as formats

-- ---- braces

abbrev RowsLow : ℕ → List Run_side → Type 0
RowsLow n [] = Unit {0}
RowsLow n (r ∷ rows) = AllLow n r.side × RowsLow n rows

side_low : (n : ℕ) (es : List Found) → AllLow n es → heights (trees_from (side_trees es)) ≤ n
side_low n [] w = omega arith
side_low n (e ∷ es) w = max-le w.0 (side_low n es w.1)

rows_append : (n : ℕ) (a b : List Run_side) → RowsLow n a → RowsLow n b → RowsLow n (a ++ b)
rows_append n [] b p q = q
rows_append n (r ∷ a) b p q = (p.0, rows_append n a b p.1 q)

abbrev CutLow : ℕ → Cut → Type 0
CutLow n (Whole rows) = RowsLow n rows
CutLow n (Parts before middle behind) = RowsLow n before × AllLow n middle × RowsLow n behind

cut_low : (n most : ℕ) (before rows : List Run_side) → RowsLow n before → RowsLow n rows → CutLow n (cut_from before most rows)
cut_low n most before [] a b = a
cut_low n most before (r ∷ rows) a b =
    by (r.bars == most) (cut_low n most (before ++ r ∷ []) rows (rows_append n before (r ∷ []) a (b.0, tt)) b.1)
  where
    by : (t : Bool) → CutLow n (cut_from (before ++ r ∷ []) most rows)
        → CutLow n (cond t (Parts before r.side rows) (cut_from (before ++ r ∷ []) most rows))
    by true f = (a, b.0, b.1)
    by false f = f

part_low : (n most : ℕ) (side : List Found) (rows : List Run_side) → AllLow n side → RowsLow n rows
    → heights (trees_from (part_of most side rows)) ≤ most + n
unfolding part_of
part_low n zero side rows a b = let l : heights (trees_from (side_trees side)) ≤ 0 + n = omega (arith, side_low n side a) in l
part_low n (suc most) side rows a b = by (cut_from [] (suc most) rows) (cut_low n (suc most) [] rows tt b) (part_low n most)
  where
    by : (c : Cut) → CutLow n c
        → ((s : List Found) (r : List Run_side) → AllLow n s → RowsLow n r → heights (trees_from (part_of most s r)) ≤ most + n)
        → heights (trees_from (split_by (λ s r. part_of most s r) side c)) ≤ suc most + n
    by (Whole r) w f = let l : heights (trees_from (part_of most side r)) ≤ suc most + n = omega (arith, f side r a w) in l
    by (Parts before middle behind) w f =
        let m = max-le (f side before a w.0) (f middle behind w.1 w.2) in
        let l : suc (max (heights (trees_from (part_of most side before))) (heights (trees_from (part_of most middle behind)))) ≤ suc most + n =
        omega (arith, m) in
        let z : 0 ≤ suc most + n = omega arith in
        max-le l z

only_low : (n : ℕ) (ts : List Tree) → heights (trees_from ts) ≤ suc n → height (only_tree ts) ≤ suc n
only_low n [] w = omega arith
only_low n (t ∷ ts) w = higher (max (height t) (heights (trees_from ts))) (suc n) (height t) (le-max_left (height t) (heights (trees_from ts))) w

module _ (E : Piece Found) (n : ℕ) (f : (i : ℕ) (e : Found) (text : List ℕ) → E i e text → Low (suc n) e) where
  next_low : (es : List Found) (i : ℕ) (text : List ℕ)
      → Many (behind_blanks (Made (λ v. v.1) (Then (One grammar.comma) (behind_blanks E)))) i es text → AllLow (suc n) es
  next_low [] i text m = tt
  next_low (e ∷ es) i text m =
      let k = m.first in
      let c = k.is.second in
      let b = c.is.second in
      (low_at _ e _ k.same (low_at _ _ _ c.same (low_at _ _ _ b.same (f _ _ _ b.is.second))), next_low es _ _ m.second)

  exprs_low : (i : ℕ) (es : List Found) (text : List ℕ) → grammar.exprs E i es text → AllLow (suc n) es
  exprs_low i es text m = let P : List Found → Type 0 = λ z. AllLow (suc n) z in
      subst P (sym m.same) (f _ _ _ m.is.first, next_low m.made_of.1 _ _ m.is.second)

  one_side_low : (i : ℕ) (es : List Found) (text : List ℕ) → grammar.side E i es text → AllLow (suc n) es
  one_side_low i es text m = rw m.same (by _ _ _ m.is.second)
    where
      by : (j : ℕ) (gs : List Found) (t : List ℕ)
          → (with_blanks (grammar.exprs E) j gs t) ⊎ ((gs ≡ []) × (t ≡ [])) → AllLow (suc n) gs
      by j gs t (inl w) = let P : List Found → Type 0 = λ z. AllLow (suc n) z in subst P (sym w.same) (exprs_low _ _ _ w.is.first)
      by j gs t (inr w) = let P : List Found → Type 0 = λ z. AllLow (suc n) z in subst P (sym w.0) tt

  rows_low : (rows : List ((ℕ × ℕ) × List Found)) (i : ℕ) (text : List ℕ) → grammar.Rows (grammar.side E) i rows text
      → RowsLow (suc n) (map run_side rows)
  rows_low [] i text m = tt
  rows_low (r ∷ rows) i text m = (one_side_low _ r.1 _ m.is_side, rows_low rows _ _ m.is_more)

  braces_low : (i : ℕ) (e : Found) (text : List ℕ) → grammar.braces (grammar.side E) i e text → Low (9 + n) e
  braces_low i e text m =
      let k = m.is.second in
      let b = k.second.first in
      let rows : List Run_side = map run_side m.made_of.1.1.0 in
      let r : RowsLow (suc n) (map run_side m.made_of.1.1.0) = rw b.same (one_side_low _ _ _ b.is.is_side, rows_low _ _ _ b.is.is_more) in
      let l : heights (trees_from (part_of 8 m.made_of.1.0 rows)) ≤ 8 + suc n = part_low (suc n) 8 m.made_of.1.0 rows (one_side_low _ _ _ k.first) r in
      let o : height (only_tree (part_of 8 m.made_of.1.0 rows)) ≤ suc (8 + n) = only_low (8 + n) (part_of 8 m.made_of.1.0 rows) (omega (arith, l)) in
      low_at _ e _ m.same (omega (arith, o))

  paren_low : (i : ℕ) (e : Found) (text : List ℕ) → grammar.enclosed E i e text → Low (suc n) e
  paren_low i e text m = rw m.same (f _ _ _ m.is.second.second.first)

-- ---- specials

alone : (n : ℕ) (R : Piece Found) → ((i : ℕ) (e : Found) (text : List ℕ) → R i e text → Low n e) → (i : ℕ) (e : Found × Last) (text : List ℕ)
    → grammar.whole_piece R i e text → Low n e.0
alone n R f i e text m = rw m.same (f _ _ _ m.is)

-- a use of a name has one level
named_low : (n : ℕ) (format : Format) (R : Piece (Found × Last)) → ((i : ℕ) (e : Found × Last) (text : List ℕ) → R i e text → Low (suc n) e.0)
    → (i : ℕ) (e : Found × Last) (text : List ℕ) → grammar.with_names format R i e text → Low (suc n) e.0
named_low n formats.One R f i e text m = f i e text m
named_low n formats.Two R f i e text (inl m) = f i e text m
named_low n formats.Two R f i e text (inr m) = let P : Found × Last → Type 0 = λ z. Low (suc n) z.0 in subst P (sym m.same) (omega arith)

abbrev Inner : Format → ℕ → Piece Found
Inner format k = grammar.expr (grammar.special format k)

plain_low : (n i : ℕ) (e : Found) (text : List ℕ)
    → (grammar.switch_piece i e text) ⊎ ((grammar.tiny_piece i e text) ⊎ ((grammar.board i e text) ⊎ (grammar.octal_piece i e text))) → Low (suc n) e
plain_low n i e text (inl m) = flat n e _ m.same refl
plain_low n i e text (inr (inl m)) = flat n e _ m.same refl
plain_low n i e text (inr (inr (inl m))) = board_low n i e text m
plain_low n i e text (inr (inr (inr m))) = flat n e _ m.same refl

bracket_low : (format : Format) (k n : ℕ) → ((i : ℕ) (e : Found × Last) (text : List ℕ) → grammar.special format k i e text → Low (suc n) e.0) → (i : ℕ)
    (e : Found) (text : List ℕ) → (grammar.switch_piece i e text) ⊎ ((grammar.tiny_piece i e text) ⊎ ((grammar.braces (grammar.side (Inner format k)) i e text)
    ⊎ ((grammar.enclosed (Inner format k) i e text) ⊎ ((grammar.board i e text) ⊎ (grammar.octal_piece i e text))))) → Low (suc (12 + n)) e
bracket_low format k n f i e text (inl m) = plain_low (12 + n) i e text (inl m)
bracket_low format k n f i e text (inr (inl m)) = plain_low (12 + n) i e text (inr (inl m))
bracket_low format k n f i e text (inr (inr (inl m))) =
    let l = braces_low (Inner format k) (suc (suc (suc (suc n)))) (expr_low (grammar.special format k) n f) i e text m in omega (arith, l)
bracket_low format k n f i e text (inr (inr (inr (inl m)))) =
    let l = paren_low (Inner format k) (suc (suc (suc (suc n)))) (expr_low (grammar.special format k) n f) i e text m in omega (arith, l)
bracket_low format k n f i e text (inr (inr (inr (inr (inl m))))) = board_low (12 + n) i e text m
bracket_low format k n f i e text (inr (inr (inr (inr (inr m))))) = plain_low (12 + n) i e text (inr (inr (inr m)))

special_low : (format : Format) (k i : ℕ) (e : Found × Last) (text : List ℕ) → grammar.special format k i e text → Low (suc (12 * k)) e.0
unfolding special
special_low format zero i e text m =
    named_low 0 format _ (alone 1 (Or grammar.switch_piece (Or grammar.tiny_piece (Or grammar.board grammar.octal_piece))) (plain_low 0)) i e text m
special_low format (suc k) i e text m =
    let l = named_low (12 + 12 * k) format _ (alone (suc (12 + 12 * k)) (Or grammar.switch_piece (Or grammar.tiny_piece (Or
    (grammar.braces (grammar.side (Inner format k))) (Or (grammar.enclosed (Inner format k)) (Or grammar.board grammar.octal_piece)))))
    (bracket_low format k (12 * k) (special_low format k))) i e text m in
    omega (arith, l)

-- ---- lines

abbrev pub IsLow : Tree → Type 0
IsLow t = height t ≤ 773

line_low : (format : Format) (i : ℕ) (e : Found) (text : List ℕ) → Inner format 64 i e text → IsLow e.tree
line_low format i e text m = let l = expr_low (grammar.special format 64) (12 * 64) (special_low format 64) i e text m in omega (arith, l)

asking_low : (i : ℕ) (ask : Tree → Question) (text : List ℕ) (t : Tree) → grammar.asking i ask text → IsLow t → QuestionIs IsLow (ask t)
asking_low i ask text t m w = by m
  where
    to : (known : Tree → Question) → ask ≡ known → QuestionIs IsLow (known t) → QuestionIs IsLow (ask t)
    to known e q = let P : (Tree → Question) → Type 0 = λ z. QuestionIs IsLow (z t) in subst P (sym e) q

    by : grammar.asking i ask text → QuestionIs IsLow (ask t)
    by (inl v) = to value v.0 w
    by (inr (inl v)) = to outcome v.0 w
    by (inr (inr (inl v))) = to stops v.0 w
    by (inr (inr (inr (inl v)))) = to mean v.0 w
    by (inr (inr (inr (inr (inl v))))) = to temp v.0 w
    by (inr (inr (inr (inr (inr v))))) = to thermo v.0 w

asking_both_low : (i : ℕ) (ask : Tree → Tree → Question) (text : List ℕ) (t u : Tree) → grammar.asking_both i ask text → IsLow t × IsLow u
    → QuestionIs IsLow (ask t u)
asking_both_low i ask text t u m w = by m
  where
    to : (known : Tree → Tree → Question) → ask ≡ known → QuestionIs IsLow (known t u) → QuestionIs IsLow (ask t u)
    to known e q = let P : (Tree → Tree → Question) → Type 0 = λ z. QuestionIs IsLow (z t u) in subst P (sym e) q

    by : grammar.asking_both i ask text → QuestionIs IsLow (ask t u)
    by (inl v) = to compare v.0 w
    by (inr v) = to proof v.0 w

abbrev AskedLow : Asked → Type 0
AskedLow a = QuestionIs IsLow a.question

asked_at : (a b : Asked) → a ≡ b → AskedLow b → AskedLow a
asked_at a b e w = rw e w

both_low : (format : Format) (i : ℕ) (v : Found × Found) (text : List ℕ) → grammar.with_semicolon (Inner format 64) (Inner format 64) i v text
    → IsLow v.0.tree × IsLow v.1.tree
both_low format i v text m =
    let w = m.is.first in
    rw m.same (rw w.same (line_low format _ _ _ w.is.first, line_low format _ _ _ m.is.second.second.second))

check_low : (format : Format) (i : ℕ) (v : (Found × Found) × List ℕ) (text : List ℕ)
    → grammar.with_semicolon (grammar.with_semicolon (Inner format 64) (Inner format 64)) grammar.string i v text → IsLow v.0.0.tree × IsLow v.0.1.tree
check_low format i v text m =
    let w = m.is.first in
    rw m.same (rw w.same (both_low format _ _ _ w.is.first))

query_low : (format : Format) (i : ℕ) (a : Asked) (text : List ℕ) → grammar.query (Inner format 64) i a text → AskedLow a
query_low format i a text (inl m) = asked_at a _ m.same (asking_low i m.made_of.0 m.is.before m.made_of.1.1.tree m.is.first
    (line_low format _ m.made_of.1.1 _ m.is.second.second))
query_low format i a text (inr (inl m)) =
    asked_at a _ m.same (asking_both_low i m.made_of.0 m.is.before m.made_of.1.1.0.tree m.made_of.1.1.1.tree m.is.first
    (both_low format _ m.made_of.1.1 _ m.is.second.second))
query_low format i a text (inr (inr m)) = asked_at a _ m.same (check_low format _ m.made_of.1.1 _ m.is.second.second)

abbrev pub StatedLow : Stated → Type 0
StatedLow s = QuestionIs IsLow (question_asked s.statement)

stated_at : (s t : Stated) → s ≡ t → StatedLow t → StatedLow s
stated_at s t e w = rw e w

either_low : (i : ℕ) (s : Stated) (text : List ℕ) → (Made asking (grammar.query (Inner formats.Two 64)) i s text) ⊎ (grammar.define i s text)
    → StatedLow s
either_low i s text (inl m) = stated_at s _ m.same (query_low formats.Two _ _ _ m.is)
either_low i s text (inr m) = stated_at s _ m.same (line_low formats.Two _ _ _ m.is.second.second.second.second)

-- no expression of what a line states has more than 773 levels
pub stated_low : (format : Format) (text : List ℕ) (s : Stated) → line_of format 1 s text → StatedLow s
stated_low formats.One text s m =
    let k = m.is.is.second in
    stated_at s _ m.same (asked_at _ _ m.is.same (asked_at _ _ k.same (query_low formats.One _ _ _ k.is.first)))
stated_low formats.Two text s m =
    let k = m.is.second in stated_at s _ m.same (stated_at _ _ k.same (either_low _ _ _ k.is.first))
