-- What is written reads: braces and sums.
use Rattle.std.proofs.Common.{◌≡◌, refl, ap, ℕ, zero, suc, ◌≤◌, max, arith, inl, inr, List, [], ◌∷◌, ◌++◌, Bool, true, false, cond, None}
use Rattle.std.specs.Prelude.{codes}
use Rattle.cg_reading.specs.Pieces.{Many, Piece, Then}
use Rattle.cg_reading.specs.Tokens.{behind_blanks}
use Rattle.cg_grammar.specs.Found.{Found}
use Rattle.cg_grammar.specs.Grammar as grammar
use Rattle.cg_grammar.specs.Grammar.{comma, special}
use Rattle.cg_query.specs.declared.format.Format.TheVariants as formats
use Rattle.cg_query.specs.Tree.{Tree, Trees, Terms, braces, no_terms, sides, sum, terms_from, with_term}
use Rattle.cg_grammar.specs.Values.{In_none, clean, first_fault, minus_of, sum_of}
use Rattle.cg_grammar.specs.Written.{enclosed_text, is_braces, more_terms, terms_text, text_of, texts_of}
use Rattle.cg_query.specs.Heights.{heights, term_heights}
use Rattle.cg_reading.proofs.Spelled.{behind_none, byte_is, made_is, then_is}
use Rattle.cg_grammar.proofs.WrittenBraces.{braces_are}
use Rattle.cg_grammar.proofs.WrittenTerms.{expr_is, special_is}
use Rattle.cg_grammar.proofs.WrittenSpecials.{braces_special}
use Rattle.cg_writer.proofs.WrittenLists.{Written, plain_written, tree_list, trees_back, WrittenAll}

-- ---- braces

pub braces_written : (ls rs : Trees) → WrittenAll ls → WrittenAll rs → Written (sides ls rs)
unfolding text_of
braces_written ls rs l r = record {
  operand = λ k h i. at k h i;
  inner = λ k h i. expr_is (grammar.special formats.One k) i (sides ls rs) _ (special_is (grammar.special formats.One k) i (sides ls rs) _ (at k h i));
}
  where
    at : (k : ℕ) → suc (max (heights ls) (heights rs)) ≤ k → (i : ℕ) → grammar.special formats.One k i (clean (sides ls rs), In_none)
        (123 ∷ (texts_of ls ++ (codes "| " ++ (texts_of rs ++ (125 ∷ [])))))
    at zero h i = absurd (omega arith)
    at (suc k) h i = rw (trees_back ls, trees_back rs) at (braces_special k i (braces (tree_list ls) (tree_list rs)) _
        (braces_are (grammar.side (grammar.expr (grammar.special formats.One k))) i (tree_list ls) (tree_list rs) (texts_of ls) (32 ∷ texts_of rs)
        (l.side k (omega arith) [] (inl refl)) (r.side k (omega arith) (32 ∷ []) (inr refl)) refl))

-- ---- sums

abbrev pub next_term : ℕ → Piece (Bool × Found)
next_term k = behind_blanks (Then grammar.sign (behind_blanks (grammar.term (grammar.special formats.One k))))

abbrev pub founds : Terms → List (Bool × Found)
founds no_terms = []
founds (with_term minus t ts) = (minus, clean t) ∷ founds ts

pub founds_back : (ts : Terms) → terms_from (minus_of (founds ts)) ≡ ts
founds_back no_terms = refl
founds_back (with_term minus t ts) = ap (λ z. with_term minus t z) (founds_back ts)

pub founds_fault : (ts : Terms) → first_fault (founds ts) ≡ None
founds_fault no_terms = refl
founds_fault (with_term minus t ts) = founds_fault ts

pub sum_value : (t : Tree) (minus : Bool) (u : Tree) (ts : Terms)
    → clean (sum (with_term false t (with_term minus u ts))) ≡ sum_of (clean t) (founds (with_term minus u ts))
sum_value t minus u ts = rw (founds_back ts, founds_fault ts) refl

pub record WrittenTerms (ts : Terms) : Type 0 where
  pub terms : (k : ℕ) → term_heights ts ≤ k → (i : ℕ) → Many (next_term k) i (founds ts) (more_terms ts)

pub no_terms_written : WrittenTerms no_terms
unfolding more_terms
no_terms_written = record { terms = λ k l i. refl }

sign_is : (i : ℕ) (minus : Bool) → grammar.sign i minus (cond minus 45 43 ∷ [])
sign_is i false = inl (made_is 43 (byte_is 43 refl))
sign_is i true = inr (made_is 45 (byte_is 45 refl))

pub term_written : (minus : Bool) (t : Tree) (ts : Terms) → Written t → WrittenTerms ts → WrittenTerms (with_term minus t ts)
unfolding more_terms
term_written minus t ts w all = record {
  terms = λ k l i.
      let text : List ℕ = enclosed_text (is_braces t) (text_of t) in
      let term : Piece Found = grammar.term (grammar.special formats.One k) in
      then_is (cond minus 45 43 ∷ text) (more_terms ts) (behind_none (Then grammar.sign (behind_blanks term)) i (minus, clean t) (cond minus 45 43 ∷ text)
      (then_is (cond minus 45 43 ∷ []) text (sign_is _ minus) (behind_none term _ (clean t) text
      (special_is (grammar.special formats.One k) _ t text (w.operand k (omega arith) _))))) (all.terms k (omega arith) _);
}

pub sum_written : (t : Tree) (minus : Bool) (u : Tree) (ts : Terms) → Written t → WrittenTerms (with_term minus u ts)
    → Written (sum (with_term false t (with_term minus u ts)))
unfolding text_of terms_text
sum_written t minus u ts w all = plain_written (sum (with_term false t (with_term minus u ts))) refl refl (λ k l i.
    let text : List ℕ = enclosed_text (is_braces t) (text_of t) in
    record {
      made_of = (clean t, founds (with_term minus u ts));
      is = then_is text (more_terms (with_term minus u ts)) (special_is (grammar.special formats.One k) i t text (w.operand k (omega arith) i))
          (all.terms k (omega arith) _);
      same = sum_value t minus u ts;
    })
