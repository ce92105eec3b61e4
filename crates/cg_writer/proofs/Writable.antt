-- What a text reads as can be written.
use Rattle.std.proofs.Common.{◌≡◌, sym, ◌∙◌, subst, ℕ, zero, suc, inl, inr, ◌⊎◌, List, [], ◌∷◌, ◌++◌, map, Bool, true, false, cond, ◌==◌, None}
use Rattle.cg_reading.specs.Pieces.{Made, Many, One, Or, Piece, Then}
use Rattle.cg_reading.specs.Tokens.{behind_blanks, with_blanks}
use Rattle.cg_grammar.specs.Braces.{Cut, Parts, Run_side, Whole, cut_from, only_tree, part_of, side_trees, split_by}
use Rattle.cg_grammar.specs.Found.{Asked, Found}
use Rattle.cg_grammar.specs.Lines.{Reads}
use Rattle.cg_grammar.specs.Grammar as grammar
use Rattle.cg_grammar.specs.Grammar.{special}
use Rattle.cg_query.specs.Tree.{Question, Tree, compare, mean, outcome, proof, stops, temp, thermo, value, trees_from}
use Rattle.cg_grammar.specs.Values.{Last, run_side}
use Rattle.cg_query.specs.declared.format.Format.TheVariants as formats
use Rattle.cg_grammar.specs.Written.{AreWritable, IsAskable, IsWritable}
use Rattle.cg_grammar.proofs.Whole.{as_asked}
use Rattle.cg_writer.proofs.WritableTerms.{W, found_at, printable_is, switch_writable, enclosed_of}
use Rattle.cg_writer.proofs.WritableTerms.{tiny_writable, board_writable, octal_writable, AllW, expr_writable}

-- ---- braces

abbrev AllRows : List Run_side → Type 0
AllRows [] = Unit {0}
AllRows (r ∷ rows) = AllW r.side × AllRows rows

abbrev AllTrees : List Tree → Type 0
AllTrees [] = Unit {0}
AllTrees (t ∷ ts) = IsWritable t × AllTrees ts

trees_writable : (ts : List Tree) → AllTrees ts → AreWritable (trees_from ts)
trees_writable [] w = tt
trees_writable (t ∷ ts) w = (w.0, trees_writable ts w.1)

side_writable : (es : List Found) → AllW es → AllTrees (side_trees es)
side_writable [] w = tt
side_writable (e ∷ es) w = (w.0, side_writable es w.1)

rows_append : (a b : List Run_side) → AllRows a → AllRows b → AllRows (a ++ b)
rows_append [] b p q = q
rows_append (r ∷ a) b p q = (p.0, rows_append a b p.1 q)

abbrev IsCut : Cut → Type 0
IsCut (Whole rows) = AllRows rows
IsCut (Parts before middle behind) = AllRows before × AllW middle × AllRows behind

cut_writable : (n : ℕ) (before rows : List Run_side) → AllRows before → AllRows rows → IsCut (cut_from before n rows)
cut_writable n before [] a b = a
cut_writable n before (r ∷ rows) a b = by (r.bars == n) (cut_writable n (before ++ r ∷ []) rows (rows_append before (r ∷ []) a (b.0, tt)) b.1)
  where
    by : (t : Bool) → IsCut (cut_from (before ++ r ∷ []) n rows)
        → IsCut (cond t (Parts before r.side rows) (cut_from (before ++ r ∷ []) n rows))
    by true f = (a, b.0, b.1)
    by false f = f

part_writable : (n : ℕ) (side : List Found) (rows : List Run_side) → AllW side → AllRows rows → AllTrees (part_of n side rows)
unfolding part_of
part_writable zero side rows a b = side_writable side a
part_writable (suc n) side rows a b = by (cut_from [] (suc n) rows) (cut_writable (suc n) [] rows tt b) (part_writable n)
  where
    by : (c : Cut) → IsCut c → ((s : List Found) (r : List Run_side) → AllW s → AllRows r → AllTrees (part_of n s r))
        → AllTrees (split_by (λ s r. part_of n s r) side c)
    by (Whole r) w f = f side r a w
    by (Parts before middle behind) w f =
        ((trees_writable _ (f side before a w.0), trees_writable _ (f middle behind w.1 w.2)), tt)

only_writable : (ts : List Tree) → AllTrees ts → IsWritable (only_tree ts)
only_writable [] w = (tt, tt)
only_writable (t ∷ ts) w = w.0

module _ (E : Piece Found) (f : (i : ℕ) (e : Found) (text : List ℕ) → E i e text → W e) where
  next_writable : (es : List Found) (i : ℕ) (text : List ℕ)
      → Many (behind_blanks (Made (λ v. v.1) (Then (One grammar.comma) (behind_blanks E)))) i es text → AllW es
  next_writable [] i text m = tt
  next_writable (e ∷ es) i text m =
      let n = m.first in
      let c = n.is.second in
      let b = c.is.second in
      (found_at e _ n.same (found_at _ _ c.same (found_at _ _ b.same (f _ _ _ b.is.second))), next_writable es _ _ m.second)

  exprs_writable : (i : ℕ) (es : List Found) (text : List ℕ) → grammar.exprs E i es text → AllW es
  exprs_writable i es text m = let P : List Found → Type 0 = λ z. AllW z in
      subst P (sym m.same) (f _ _ _ m.is.first, next_writable m.made_of.1 _ _ m.is.second)

  one_side_writable : (i : ℕ) (es : List Found) (text : List ℕ) → grammar.side E i es text → AllW es
  one_side_writable i es text m = rw m.same (by _ _ _ m.is.second)
    where
      by : (j : ℕ) (gs : List Found) (t : List ℕ)
          → (with_blanks (grammar.exprs E) j gs t) ⊎ ((gs ≡ []) × (t ≡ [])) → AllW gs
      by j gs t (inl w) = let P : List Found → Type 0 = λ z. AllW z in subst P (sym w.same) (exprs_writable _ _ _ w.is.first)
      by j gs t (inr w) = let P : List Found → Type 0 = λ z. AllW z in subst P (sym w.0) tt

  rows_writable : (rows : List ((ℕ × ℕ) × List Found)) (i : ℕ) (text : List ℕ) → grammar.Rows (grammar.side E) i rows text
      → AllRows (map run_side rows)
  rows_writable [] i text m = tt
  rows_writable (r ∷ rows) i text m = (one_side_writable _ r.1 _ m.is_side, rows_writable rows _ _ m.is_more)

  braces_writable : (i : ℕ) (e : Found) (text : List ℕ) → grammar.braces (grammar.side E) i e text → W e
  braces_writable i e text m =
      let n = m.is.second in
      let b = n.second.first in
      found_at e _ m.same (only_writable _ (part_writable 8 _ _ (one_side_writable _ _ _ n.first)
      (rw b.same (one_side_writable _ _ _ b.is.is_side, rows_writable _ _ _ b.is.is_more))))

  paren_writable : (i : ℕ) (e : Found) (text : List ℕ) → grammar.enclosed E i e text → W e
  paren_writable i e text m =
      let o = enclosed_of E i e text m in f o.column e o.between o.is

-- an operand that is no name
alone : (R : Piece Found) → ((i : ℕ) (e : Found) (text : List ℕ) → R i e text → W e) → (i : ℕ) (e : Found × Last) (text : List ℕ)
    → grammar.whole_piece R i e text → W e.0
alone R f i e text m = rw m.same (f _ _ _ m.is)

plain_writable : (i : ℕ) (e : Found) (text : List ℕ)
    → (grammar.switch_piece i e text) ⊎ ((grammar.tiny_piece i e text) ⊎ ((grammar.board i e text) ⊎ (grammar.octal_piece i e text))) → W e
plain_writable i e text (inl m) = switch_writable i e text m
plain_writable i e text (inr (inl m)) = tiny_writable i e text m
plain_writable i e text (inr (inr (inl m))) = board_writable i e text m
plain_writable i e text (inr (inr (inr m))) = octal_writable i e text m

abbrev Inner : ℕ → Piece Found
Inner k = grammar.expr (grammar.special formats.One k)

bracket_writable : (k : ℕ) → ((i : ℕ) (e : Found × Last) (text : List ℕ) → grammar.special formats.One k i e text → W e.0) → (i : ℕ) (e : Found)
    (text : List ℕ) → (grammar.switch_piece i e text) ⊎ ((grammar.tiny_piece i e text) ⊎ ((grammar.braces (grammar.side (Inner k)) i e text)
    ⊎ ((grammar.enclosed (Inner k) i e text) ⊎ ((grammar.board i e text) ⊎ (grammar.octal_piece i e text))))) → W e
bracket_writable k f i e text (inl m) = switch_writable i e text m
bracket_writable k f i e text (inr (inl m)) = tiny_writable i e text m
bracket_writable k f i e text (inr (inr (inl m))) = braces_writable (Inner k) (expr_writable (grammar.special formats.One k) f) i e text m
bracket_writable k f i e text (inr (inr (inr (inl m)))) = paren_writable (Inner k) (expr_writable (grammar.special formats.One k) f) i e text m
bracket_writable k f i e text (inr (inr (inr (inr (inl m))))) = board_writable i e text m
bracket_writable k f i e text (inr (inr (inr (inr (inr m))))) = octal_writable i e text m

special_writable : (k i : ℕ) (e : Found × Last) (text : List ℕ) → grammar.special formats.One k i e text → W e.0
unfolding special
special_writable zero i e text m =
    alone (Or grammar.switch_piece (Or grammar.tiny_piece (Or grammar.board grammar.octal_piece))) plain_writable i e text m
special_writable (suc k) i e text m =
    alone (Or grammar.switch_piece (Or grammar.tiny_piece (Or (grammar.braces (grammar.side (Inner k))) (Or (grammar.enclosed (Inner k)) (Or grammar.board
    grammar.octal_piece)))))
    (bracket_writable k (special_writable k)) i e text m

-- what an expression of the grammar reads as can be written
pub expression_writable : (k i : ℕ) (e : Found) (text : List ℕ) → grammar.expr (grammar.special formats.One k) i e text → IsWritable e.tree
expression_writable k = expr_writable (grammar.special formats.One k) (special_writable k)

-- ---- questions

abbrev Asks : Asked → Type 0
Asks a = IsAskable a.question

asked_at : (a b : Asked) → a ≡ b → Asks b → Asks a
asked_at a b e w = rw e w

asking_writable : (i : ℕ) (ask : Tree → Question) (text : List ℕ) (t : Tree) → grammar.asking i ask text → IsWritable t
    → IsAskable (ask t)
asking_writable i ask text t m w = by m
  where
    to : (known : Tree → Question) → ask ≡ known → IsAskable (known t) → IsAskable (ask t)
    to known e q = let P : (Tree → Question) → Type 0 = λ z. IsAskable (z t) in subst P (sym e) q

    by : grammar.asking i ask text → IsAskable (ask t)
    by (inl v) = to value v.0 w
    by (inr (inl v)) = to outcome v.0 w
    by (inr (inr (inl v))) = to stops v.0 w
    by (inr (inr (inr (inl v)))) = to mean v.0 w
    by (inr (inr (inr (inr (inl v))))) = to temp v.0 w
    by (inr (inr (inr (inr (inr v))))) = to thermo v.0 w

both_asked_writable : (i : ℕ) (ask : Tree → Tree → Question) (text : List ℕ) (t u : Tree) → grammar.asking_both i ask text
    → IsWritable t × IsWritable u → IsAskable (ask t u)
both_asked_writable i ask text t u m w = by m
  where
    to : (known : Tree → Tree → Question) → ask ≡ known → IsAskable (known t u) → IsAskable (ask t u)
    to known e q = let P : (Tree → Tree → Question) → Type 0 = λ z. IsAskable (z t u) in subst P (sym e) q

    by : grammar.asking_both i ask text → IsAskable (ask t u)
    by (inl v) = to compare v.0 w
    by (inr v) = to proof v.0 w

-- two pieces with a semicolon between them
record Divided {A B : Type 0} (R : Piece A) (S : Piece B) (v : A × B) : Type 0 where
  column : ℕ
  before : List ℕ
  first : R column v.0 before
  place : ℕ
  behind : List ℕ
  second : S place v.1 behind

divided : {A B : Type 0} (R : Piece A) (S : Piece B) (i : ℕ) (v : A × B) (text : List ℕ) → grammar.with_semicolon R S i v text
    → Divided R S v
divided {A} {B} R S i v text m =
    let w = m.is.first in
    rw m.same (rw w.same (record {
      column = _;
      before = _;
      first = w.is.first;
      place = _;
      behind = _;
      second = m.is.second.second.second;
    }))

abbrev Asked_expr : Piece Found
Asked_expr = grammar.expr (grammar.special formats.One 64)

both_writable : (i : ℕ) (v : Found × Found) (text : List ℕ) → grammar.with_semicolon Asked_expr Asked_expr i v text → W v.0 × W v.1
both_writable i v text m =
    let d = divided Asked_expr Asked_expr i v text m in
    (expression_writable 64 d.column v.0 d.before d.first, expression_writable 64 d.place v.1 d.behind d.second)

query_writable : (i : ℕ) (a : Asked) (text : List ℕ) → grammar.query Asked_expr i a text → Asks a
query_writable i a text (inl m) = asked_at a _ m.same (asking_writable i m.made_of.0 m.is.before m.made_of.1.1.tree m.is.first
    (expression_writable 64 _ m.made_of.1.1 _ m.is.second.second))
query_writable i a text (inr (inl m)) =
    asked_at a _ m.same (both_asked_writable i m.made_of.0 m.is.before m.made_of.1.1.0.tree m.made_of.1.1.1.tree m.is.first
    (both_writable _ m.made_of.1.1 _ m.is.second.second))
query_writable i a text (inr (inr m)) =
    let d = divided (grammar.with_semicolon Asked_expr Asked_expr) grammar.string _ m.made_of.1.1 _ m.is.second.second in
    asked_at a _ m.same (both_writable d.column m.made_of.1.1.0 d.before d.first, printable_is d.place m.made_of.1.1.1 d.behind d.second)

-- what a line reads as can be written
pub line_writable : (text : List ℕ) (q : Question) → Reads text q → IsAskable q
line_writable text q reads =
    let m = as_asked text q reads in
    let n = m.is.second in
    asked_at (record { question = q; fault = None }) _ (m.same ∙ n.same) (query_writable _ n.made_of.0 _ n.is.first)
