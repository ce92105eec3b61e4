-- What is written reads: operands, and lists of expressions.
use Rattle.std.proofs.Common.{◌≡◌, refl, ap, ℕ, zero, suc, ◌≤◌, arith, inl, inr, ◌⊎◌, List, [], ◌∷◌, ◌++◌, map, false}
use Rattle.cg_reading.specs.Pieces.{Many, Piece}
use Rattle.cg_reading.specs.Tokens.{blanks}
use Rattle.cg_grammar.specs.Found.{Found}
use Rattle.cg_grammar.specs.Grammar as grammar
use Rattle.cg_grammar.specs.Grammar.{comma, special}
use Rattle.cg_query.specs.declared.format.Format.TheVariants as formats
use Rattle.cg_query.specs.Tree.{Tree, Trees, game, octal, used, multiple, negative, nimber, no_trees}
use Rattle.cg_query.specs.Tree.{number, sides, sum, switch, tiny, trees_from, ups, with_tree}
use Rattle.cg_grammar.specs.Values.{In_none, clean}
use Rattle.cg_grammar.specs.Written.{enclosed_text, inner_height, is_braces, more_texts, text_of, texts_of}
use Rattle.cg_query.specs.Heights.{height, heights}
use Rattle.cg_reading.proofs.Spelled.{bytes_are, then_is}
use Rattle.cg_grammar.proofs.WrittenBraces.{Item, empty_side, item_is, side_is}
use Rattle.cg_grammar.proofs.WrittenSpecials.{paren_special}
use Rattle.cg_grammar.proofs.WrittenTerms.{expr_is}

-- ---- what is shown of a tree, and of lists

-- written as an operand, and inside brackets or alone
pub record Written (t : Tree) : Type 0 where
  pub operand : (k : ℕ) → height t ≤ k → (i : ℕ) → grammar.special formats.One k i (clean t, In_none) (enclosed_text (is_braces t) (text_of t))
  pub inner : (k : ℕ) → inner_height t ≤ k → (i : ℕ) → grammar.expr (grammar.special formats.One k) i (clean t) (text_of t)

-- a tree that stands in parentheses as an operand
pub plain_written : (t : Tree) → is_braces t ≡ false → height t ≡ suc (inner_height t)
    → ((k : ℕ) → inner_height t ≤ k → (i : ℕ) → grammar.expr (grammar.special formats.One k) i (clean t) (text_of t)) → Written t
plain_written t b h f = record { operand = λ k l i. operand_at k (let e = h in omega arith) i; inner = f }
  where
    operand_at : (k : ℕ) → suc (inner_height t) ≤ k → (i : ℕ)
        → grammar.special formats.One k i (clean t, In_none) (enclosed_text (is_braces t) (text_of t))
    operand_at zero l i = absurd (omega arith)
    operand_at (suc k) l i = rw b (paren_special k i t (text_of t) (f k (omega arith)))

-- one that is a term
pub term_alone : (t : Tree) → is_braces t ≡ false → height t ≡ suc (inner_height t)
    → ((k : ℕ) → inner_height t ≤ k → (i : ℕ) → grammar.term (grammar.special formats.One k) i (clean t) (text_of t)) → Written t
term_alone t b h f = plain_written t b h (λ k l i. expr_is (grammar.special formats.One k) i t (text_of t) (f k l i))

abbrev pub tree_list : Trees → List Tree
tree_list no_trees = []
tree_list (with_tree t ts) = t ∷ tree_list ts

pub trees_back : (ts : Trees) → trees_from (tree_list ts) ≡ ts
trees_back no_trees = refl
trees_back (with_tree t ts) = ap (λ z. with_tree t z) (trees_back ts)

abbrev Expr_in : ℕ → Piece Found
Expr_in k = grammar.expr (grammar.special formats.One k)

-- the lists of a side, behind its first expression and as a whole
pub record WrittenAll (ts : Trees) : Type 0 where
  pub further : (k : ℕ) → heights ts ≤ k → (i : ℕ) → Many (Item (Expr_in k)) i (map clean (tree_list ts)) (more_texts ts)
  pub side : (k : ℕ) → heights ts ≤ k → (front : List ℕ) → (front ≡ []) ⊎ (front ≡ 32 ∷ []) → (i : ℕ)
      → grammar.side (Expr_in k) i (map clean (tree_list ts)) (front ++ texts_of ts)

pub inner_low : (t : Tree) (k : ℕ) → height t ≤ k → inner_height t ≤ k
inner_low (number below num den) k l = omega arith
inner_low (ups down n) k l = omega arith
inner_low (nimber n) k l = omega arith
inner_low (switch num den) k l = omega arith
inner_low (tiny miny num den) k l = omega arith
inner_low (sides ls rs) k l = l
inner_low (negative t) k l = omega arith
inner_low (multiple n t) k l = omega arith
inner_low (sum terms) k l = omega arith
inner_low (game kind rules board) k l = omega arith
inner_low (octal code heap) k l = omega arith
inner_low (used word column) k l = omega arith

front_blanks : (front : List ℕ) → (front ≡ []) ⊎ (front ≡ 32 ∷ []) → (i : ℕ) → blanks i front front
front_blanks front (inl e) i = rw e (bytes_are refl)
front_blanks front (inr e) i = rw e (bytes_are refl)

pub none_written : WrittenAll no_trees
unfolding texts_of more_texts
none_written = record { further = λ k l i. refl; side = λ k l front f i. empty_side (Expr_in k) i front (front_blanks front f) }

pub some_written : (t : Tree) (ts : Trees) → Written t → WrittenAll ts → WrittenAll (with_tree t ts)
unfolding texts_of more_texts
some_written t ts w all = record {
  further = λ k l i. then_is (44 ∷ text_of t) (more_texts ts)
      (item_is (Expr_in k) i (clean t) (text_of t) (w.inner k (inner_low t k (omega arith)))) (all.further k (omega arith) _);
  side = λ k l front f i. side_is (Expr_in k) i front (text_of t) (more_texts ts) (clean t) (map clean (tree_list ts)) (front_blanks front f)
      (w.inner k (inner_low t k (omega arith))) (all.further k (omega arith));
}
