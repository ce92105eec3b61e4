-- Names read back: braces and whole names.
use Rattle.std.proofs.Common.{◌≡◌, refl, ap, sym, ◌∙◌, subst, ℕ, zero, suc, ◌≤◌, max, arith, inl, inr, ◌⊎◌, List, [], ◌∷◌, ◌++◌, append-nil, map}
use Rattle.std.specs.Prelude.{codes}
use Rattle.cg_dyadic.specs.Exact.{number_text}
use Rattle.cg_form.specs.Canonical.{Canonical}
use Rattle.cg_form.specs.Game.{Among, Game, Games, more, none, options, to_list}
use Rattle.cg_form.specs.Game as tree
use Rattle.cg_form.specs.Order.{Equal}
use Rattle.cg_form.proofs.Preorder.{le-cofinal, equal_back}
use Rattle.cg_reading.specs.Bytes.{Ends}
use Rattle.cg_reading.specs.Pieces.{Many, Piece}
use Rattle.cg_reading.specs.Tokens.{blanks}
use Rattle.cg_grammar.specs.Found.{Found}
use Rattle.cg_query.specs.declared.format.Format.TheVariants as formats
use Rattle.cg_grammar.specs.Grammar as grammar
use Rattle.cg_grammar.specs.Grammar.{bar, special}
use Rattle.cg_query.specs.Tree.{Tree, Trees, no_trees, trees_from, with_tree}
use Rattle.cg_query.specs.Tree as trees
use Rattle.cg_grammar.specs.Values.{clean}
use Rattle.cg_reading.proofs.Spelled.{bytes_are, then_is}
use Rattle.cg_grammar.proofs.WrittenBraces.{Item, braces_are, empty_side, item_is, side_is}
use Rattle.cg_grammar.proofs.WrittenSpecials.{braces_special}
use Rattle.cg_grammar.proofs.WrittenTerms.{expr_is, special_is}
use Rattle.cg_names.specs.Meaning.{PositionForms, meaning, meanings}
use Rattle.cg_names.specs.Name.{AreFurther, AreNames, IsName, braces_name}
use Rattle.cg_names.specs.Reading.{AreNamesInRange, IsNameInRange, ReadsAs, most_open}
use Rattle.cg_names.specs.NamedForms.{named_text}
use Rattle.cg_names.proofs.Counted.{Counted, IsBare, bare_counted, braces_counted, fewer_counted, joined_counted, number_bare, named_bare}
use Rattle.cg_names.proofs.NamedFormTerms.{named_form-reads}
use Rattle.cg_names.proofs.Terms.{Reading, number-reads}
use Rattle.cg_names.proofs.Tokens.{OtherThanBar, other_append, other_ends}

-- ---- lists of names

-- the trees mean the games, one by one
AllMean : List Tree → Games → Type 0
AllMean [] none = Unit {0}
AllMean [] (more g gs) = ⊥
AllMean (t ∷ ts) none = ⊥
AllMean (t ∷ ts) (more g gs) = ((forms : PositionForms) → Equal (meaning forms t) g) × AllMean ts gs

abbrev Expr_in : ℕ → Piece Found
Expr_in k = grammar.expr (grammar.special formats.One k)

-- names behind commas
record Further (k : ℕ) (gs : Games) (text : List ℕ) : Type 0 where
  trees : List Tree
  are : (i : ℕ) → Many (Item (Expr_in k)) i (map clean trees) text
  mean : AllMean trees gs

-- names as one side of a brace
record Sided (k : ℕ) (gs : Games) (text : List ℕ) : Type 0 where
  trees : List Tree
  are : (i : ℕ) → grammar.side (Expr_in k) i (map clean trees) text
  mean : AllMean trees gs
  other : (text ≡ []) ⊎ OtherThanBar text

read_expr : (k : ℕ) (g : Game) (text : List ℕ) (r : Reading k g text) (i : ℕ) → Expr_in k i (clean r.tree) text
read_expr k g text r i = expr_is (grammar.special formats.One k) i r.tree text (r.is i)

no_blanks : (j : ℕ) → blanks j [] []
no_blanks j = bytes_are refl

further_none : (k : ℕ) → Further k none []
unfolding AllMean
further_none k = record { trees = []; are = λ i. refl; mean = tt }

further_more : (k : ℕ) (g : Game) (gs : Games) (name rest : List ℕ) → Reading k g name → Further k gs rest
    → Further k (more g gs) (codes "," ++ (name ++ rest))
unfolding AllMean
further_more k g gs name rest r f = record {
  trees = r.tree ∷ f.trees;
  are = λ i. then_is (44 ∷ name) rest (item_is (Expr_in k) i (clean r.tree) name (read_expr k g name r)) (f.are _);
  mean = (r.means, f.mean);
}

sided_none : (k : ℕ) → Sided k none []
unfolding AllMean
sided_none k = record { trees = []; are = λ i. empty_side (Expr_in k) i [] no_blanks; mean = tt; other = inl refl }

sided_more : (k : ℕ) (g : Game) (gs : Games) (name rest : List ℕ) → Reading k g name → Further k gs rest
    → Sided k (more g gs) (name ++ rest)
unfolding AllMean
sided_more k g gs name rest r f = record {
  trees = r.tree ∷ f.trees;
  are = λ i. side_is (Expr_in k) i [] name rest (clean r.tree) (map clean f.trees) no_blanks (read_expr k g name r) f.are;
  mean = (r.means, f.mean);
  other = inr (other_append name rest r.other);
}

-- ---- braces

no_bar : (text : List ℕ) → (text ≡ []) ⊎ OtherThanBar text → Ends bar (text ++ [])
no_bar text (inl e) = rw e tt
no_bar text (inr o) = other_ends text [] o

-- ---- what braces mean

module _ (forms : PositionForms) where
  mean_there : (ts : List Tree) (gs : Games) (a : Game) → AllMean ts gs
      → Among a (to_list (meanings forms (trees_from ts))) → (b : Game) × Among b (to_list gs) × Equal a b
  unfolding AllMean meaning
  mean_there [] gs a m i = absurd i
  mean_there (t ∷ ts) none a m i = absurd m
  mean_there (t ∷ ts) (more g gs) a m (inl e) =
      let P : Game → Type 0 = λ z. Equal z g in (g, inl refl, subst P (sym e) (m.0 forms))
  mean_there (t ∷ ts) (more g gs) a m (inr i) = let (b, j, e) = mean_there ts gs a m.1 i in (b, inr j, e)

  mean_here : (ts : List Tree) (gs : Games) (b : Game) → AllMean ts gs → Among b (to_list gs)
      → (a : Game) × Among a (to_list (meanings forms (trees_from ts))) × Equal a b
  unfolding AllMean meaning
  mean_here ts none b m i = absurd i
  mean_here [] (more g gs) b m i = absurd m
  mean_here (t ∷ ts) (more g gs) b m (inl e) =
      (meaning forms t, inl refl, rw e (m.0 forms))
  mean_here (t ∷ ts) (more g gs) b m (inr i) = let (a, j, e) = mean_here ts gs b m.1 i in (a, inr j, e)

  braces_mean : (ls rs : List Tree) (cs ds : Games) → AllMean ls cs → AllMean rs ds
      → Equal (meaning forms (trees.braces ls rs)) (options cs ds)
  unfolding meaning
  braces_mean ls rs cs ds l r =
      let g : Game = options (meanings forms (trees_from ls)) (meanings forms (trees_from rs)) in
      let h : Game = options cs ds in (
        le-cofinal g h
            (λ a m. let (b, i, e) = mean_there ls cs a l m in (b, i, e.0))
            (λ b m. let (a, i, e) = mean_here rs ds b r m in (a, i, e.0)),
        le-cofinal h g
            (λ b m. let (a, i, e) = mean_here ls cs b l m in (a, i, e.1))
            (λ a m. let (b, i, e) = mean_there rs ds a r m in (b, i, e.1)),
      )

braces-read : (k : ℕ) (ls rs : Games) (left right : List ℕ) → Sided k ls left → Sided k rs right
    → Reading (suc k) (options ls rs) (braces_name left right)
braces-read k ls rs left right l r = record {
  tree = trees.braces l.trees r.trees;
  is = λ i. special_is (grammar.special formats.One (suc k)) i (trees.braces l.trees r.trees) (braces_name left right) (braces_special k i _ _
      (braces_are (grammar.side (Expr_in k)) i l.trees r.trees left right l.are r.are (no_bar right r.other)));
  means = λ forms. braces_mean forms l.trees r.trees ls rs l.mean r.mean;
  other = refl;
}

-- ---- whole names

-- how many braces are open at once in a text, and that it reads as so many or more may be open
record Told (Reads : ℕ → Type 0) (text : List ℕ) : Type 0 where
  opened : ℕ
  counted : Counted opened text
  reads : (k : ℕ) → opened ≤ k → Reads k

bare_told : (Reads : ℕ → Type 0) (text : List ℕ) → IsBare text → ((k : ℕ) → Reads k) → Told Reads text
bare_told Reads text b r = record { opened = 0; counted = bare_counted text b; reads = λ k l. r k }

-- braces round the names of two lists
braces_told : (ls rs : Games) (left right : List ℕ) → Told (λ k. Sided k ls left) left → Told (λ k. Sided k rs right) right
    → Told (λ k. Reading k (options ls rs) (braces_name left right)) (braces_name left right)
braces_told ls rs left right f h = record {
  opened = suc (max f.opened h.opened);
  counted = braces_counted f.opened h.opened left right f.counted h.counted;
  reads = by;
}
  where
    by : (k : ℕ) → suc (max f.opened h.opened) ≤ k → Reading k (options ls rs) (braces_name left right)
    by zero l = absurd (omega arith)
    by (suc k) l = braces-read k ls rs left right (f.reads k (omega arith)) (h.reads k (omega arith))

-- a name, and the names of a list behind it
joined_told : {Reads : ℕ → Type 0} (g : Game) (gs : Games) (name rest : List ℕ) → Told (λ k. Reading k g name) name
    → Told (λ k. Further k gs rest) rest → ((k : ℕ) → Reading k g name → Further k gs rest → Reads k)
    → Told Reads (name ++ rest)
joined_told g gs name rest f h both = record {
  opened = max f.opened h.opened;
  counted = joined_counted f.opened h.opened name rest f.counted h.counted;
  reads = λ k l. both k (f.reads k (omega arith)) (h.reads k (omega arith));
}

comma_told : {Reads : ℕ → Type 0} (text : List ℕ) → Told Reads text → Told Reads (codes "," ++ text)
comma_told text f = record {
  opened = f.opened;
  counted = fewer_counted (max 0 f.opened) f.opened (codes "," ++ text) (omega arith)
      (joined_counted 0 f.opened (codes ",") text (bare_counted (codes ",") ((refl, refl), tt)) f.counted);
  reads = f.reads;
}

mutual
  name_told : (g : Game) (text : List ℕ) → IsName g text → IsNameInRange g → Told (λ k. Reading k g text) text
  name_told (tree.number x) text n r =
      rw n (bare_told (λ k. Reading k (tree.number x) (number_text x)) (number_text x) (number_bare x r)
      (λ k. number-reads k x r))
  name_told (options ls rs) text (inl n) r =
      let q = r.0 n.named_form n.fits in
      let g : Game = options ls rs in
      rw n.spelled (bare_told (λ k. Reading k g (named_text n.named_form)) (named_text n.named_form) (named_bare n.named_form q)
      (λ k. named_form-reads k n.named_form g n.fits q))
  name_told (options ls rs) text (inr n) r =
      let q = r.1 n.unsigned in
      rw n.spelled (braces_told ls rs n.left n.right (side_told ls n.left n.lefts q.0) (side_told rs n.right n.rights q.1))

  side_told : (gs : Games) (text : List ℕ) → AreNames gs text → AreNamesInRange gs → Told (λ k. Sided k gs text) text
  side_told none text n r = rw n (bare_told (λ k. Sided k none []) [] tt sided_none)
  side_told (more g gs) text n r =
      rw n.spelled (joined_told g gs n.before n.behind (name_told g n.before n.first r.0)
      (further_told gs n.behind n.second r.1) (λ k. sided_more k g gs n.before n.behind))

  further_told : (gs : Games) (text : List ℕ) → AreFurther gs text → AreNamesInRange gs → Told (λ k. Further k gs text) text
  further_told none text n r = rw n (bare_told (λ k. Further k none []) [] tt further_none)
  further_told (more g gs) text n r =
      let m = n.second in
      let whole : text ≡ codes "," ++ (m.before ++ m.behind) =
      n.spelled ∙ ap (λ z. z ++ n.behind) n.first ∙ ap (λ z. codes "," ++ z) m.spelled in
      rw whole (comma_told (m.before ++ m.behind) (joined_told g gs m.before m.behind
      (name_told g m.before m.first r.0) (further_told gs m.behind m.second r.1)
      (λ k. further_more k g gs m.before m.behind)))

-- a name reads back where its numbers and counts are in range, and few braces are open at once in its text
pub name_reads : (g : Game) (text : List ℕ) → Canonical g → IsName g text → IsNameInRange g → most_open 0 text ≤ 64
    → ReadsAs g text
unfolding Counted
name_reads g text c n r l =
    let t = name_told g text n r in
    let m = rw (append-nil text) at (t.counted 0 []) in
    let b = t.reads 64 (omega arith) in
    record {
      tree = b.tree;
      is_expr = λ i. expr_is (grammar.special formats.One 64) i b.tree text (b.is i);
      means = λ forms. record { canonical = c; equal = equal_back (meaning forms b.tree) g (b.means forms) };
    }
