-- What is written reads: every tree.
use Rattle.std.proofs.Common.{◌≡◌, suc, refl, ℕ, ◌≤◌, true, false}
use Rattle.cg_grammar.specs.Grammar as grammar
use Rattle.cg_grammar.specs.Grammar.{comma, special}
use Rattle.cg_query.specs.declared.format.Format.TheVariants as formats
use Rattle.cg_query.specs.Tree.{Tree, Trees, Terms, game, multiple, negative, nimber, no_terms, no_trees}
use Rattle.cg_query.specs.Tree.{number, octal, used, sides, sum, switch, tiny, ups, with_term, with_tree}
use Rattle.cg_grammar.specs.Values.{In_none, clean}
use Rattle.cg_grammar.specs.Written.{AreFurther, AreTerms, AreWritable, IsSum, IsWritable, fraction_text, inner_height, is_braces, text_of}
use Rattle.cg_query.specs.Heights.{height}
use Rattle.cg_grammar.proofs.WrittenTerms.{special_is, number_term, ups_term, nimber_term, negative_term, multiple_term}
use Rattle.cg_grammar.proofs.WrittenTokens.{fraction_is}
use Rattle.cg_grammar.proofs.WrittenSpecials.{board_special, octal_special, switch_special, tiny_special}
use Rattle.cg_writer.proofs.WrittenBoards.{board_is, octal_is}
use Rattle.cg_writer.proofs.WrittenLists.{Written, term_alone, WrittenAll, inner_low, none_written, some_written}
use Rattle.cg_writer.proofs.WrittenParts.{WrittenTerms, braces_written, no_terms_written, term_written, sum_written}

special_alone : (t : Tree) → is_braces t ≡ false → height t ≡ suc (inner_height t)
    → ((k i : ℕ) → grammar.special formats.One k i (clean t, In_none) (text_of t)) → Written t
special_alone t b h f = term_alone t b h (λ k l i. special_is (grammar.special formats.One k) i t (text_of t) (f k i))

mutual
  unfolding text_of

  written : (t : Tree) → IsWritable t → Written t
  written (number below num den) w =
      term_alone (number below num den) refl refl (λ k h i. number_term (grammar.special formats.One k) i below num den w.0 w.1)
  written (ups down n) w = term_alone (ups down n) refl refl (λ k h i. ups_term (grammar.special formats.One k) i down n)
  written (nimber n) w = term_alone (nimber n) refl refl (λ k h i. nimber_term (grammar.special formats.One k) i n w)
  written (switch num den) w = special_alone (switch num den) refl refl
      (λ k i. switch_special k i num den (fraction_text num den) (λ j. fraction_is j num den w.0 w.1))
  written (tiny miny num den) w = special_alone (tiny miny num den) refl refl
      (λ k i. tiny_special k i miny num den (fraction_text num den) (λ j. fraction_is j num den w.0 w.1))
  written (sides ls rs) w = braces_written ls rs (all_written ls w.0) (all_written rs w.1)
  written (negative t) w = let v = written t w in term_alone (negative t) refl refl
      (λ k h i. negative_term (grammar.special formats.One k) i t _ (v.operand k h))
  written (multiple n t) w = let v = written t w.1 in term_alone (multiple n t) refl refl
      (λ k h i. multiple_term (grammar.special formats.One k) i n t _ w.0 (v.operand k h))
  written (sum terms) w = written_sum terms w
  written (game kind rules board) w = special_alone (game kind rules board) refl refl (λ k i. board_special k i _ _ (board_is i kind rules board w))
  written (octal code heap) w = special_alone (octal code heap) refl refl (λ k i. octal_special k i _ _ (octal_is i code heap w.0 w.1))
  written (used word column) w = absurd w

  all_written : (ts : Trees) → AreWritable ts → WrittenAll ts
  all_written no_trees w = none_written
  all_written (with_tree t ts) w = some_written t ts (written t w.0) (all_written ts w.1)

  written_sum : (terms : Terms) → IsSum terms → Written (sum terms)
  written_sum no_terms w = absurd w
  written_sum (with_term true t ts) w = absurd (let e = w.0 in cc)
  written_sum (with_term false t ts) w = some_sum t ts (written t w.1) (written_further ts w.2) w.2

  written_further : (ts : Terms) → AreFurther ts → WrittenTerms ts
  written_further no_terms w = absurd w
  written_further (with_term minus t ts) w = term_written minus t ts (written t w.0) (written_terms ts w.1)

  written_terms : (ts : Terms) → AreTerms ts → WrittenTerms ts
  written_terms no_terms w = no_terms_written
  written_terms (with_term minus t ts) w = term_written minus t ts (written t w.0) (written_terms ts w.1)

  some_sum : (t : Tree) (ts : Terms) → Written t → WrittenTerms ts → AreFurther ts → Written (sum (with_term false t ts))
  some_sum t no_terms w all f = absurd f
  some_sum t (with_term minus u ts) w all f = sum_written t minus u ts w all

pub text_reads : (t : Tree) → IsWritable t → height t ≤ 64 → (i : ℕ) → grammar.expr (grammar.special formats.One 64) i (clean t) (text_of t)
text_reads t w l i = (written t w).inner 64 (inner_low t 64 l) i
