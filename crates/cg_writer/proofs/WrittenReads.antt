-- What is written reads: questions.
use Rattle.std.proofs.Common.{refl, ℕ, ◌≤◌, inl, inr, List, [], ◌∷◌, ◌++◌, None}
use Rattle.std.specs.Prelude.{codes}
use Rattle.cg_grammar.specs.Grammar as grammar
use Rattle.cg_grammar.specs.Found.{Asked, Found}
use Rattle.cg_grammar.specs.Lines.{Reads}
use Rattle.cg_query.specs.declared.format.Format.TheVariants as formats
use Rattle.cg_query.specs.Tree.{Question, Tree, check, compare, mean, outcome, proof, stops, temp, thermo, value}
use Rattle.cg_grammar.specs.Values.{clean}
use Rattle.cg_grammar.specs.Written.{IsAskable, IsPrintable, IsWritable, asked_text, quoted, text_of}
use Rattle.cg_query.specs.Heights.{QuestionIs, height}
use Rattle.cg_reading.proofs.Spelled.{before_none, byte_then, gap_is, made_is, no_bytes_then, then_is}
use Rattle.cg_reading.specs.Pieces.{Piece}
use Rattle.cg_grammar.proofs.WrittenTokens.{quoted_is}
use Rattle.cg_writer.proofs.WrittenTrees.{text_reads}

pub line_is : (q : Question) (text : List ℕ)
    → ((i : ℕ) → grammar.query (grammar.expr (grammar.special formats.One 64)) i (record { question = q; fault = None }) text) → Reads text q
line_is q text m = made_is asked (made_is ([], asked) (no_bytes_then text (before_none _ _ asked text (m _))))
  where
    asked : Asked
    asked = record { question = q; fault = None }

-- a question about one tree
pub asked : (word : List ℕ) (ask : Tree → Question) (t : Tree) → ((i : ℕ) → grammar.asking i ask word) → IsWritable t
    → height t ≤ 64 → Reads (word ++ (32 ∷ text_of t)) (ask t)
asked word ask t a w l = line_is (ask t) (word ++ (32 ∷ text_of t)) (λ i. inl (made_is (ask, (tt, clean t))
    (then_is word (32 ∷ text_of t) (a i) (then_is (32 ∷ []) (text_of t) (gap_is _) (text_reads t w l _)))))

-- two pieces, with a semicolon and no blanks between them
semicolon_is : {A B : Type 0} (R : Piece A) (S : Piece B) (i : ℕ) (a : A) (b : B) (x y : List ℕ) → R i a x → ((j : ℕ) → S j b y)
    → grammar.with_semicolon R S i (a, b) (x ++ (59 ∷ y))
semicolon_is R S i a b x y r s = made_is (a, (59, ([], b)))
    (then_is x (59 ∷ y) (before_none R i a x r) (byte_then 59 y refl (no_bytes_then y (s _))))

abbrev Asked_expr : Piece Found
Asked_expr = grammar.expr (grammar.special formats.One 64)

both_read : (s t : Tree) → IsWritable s × IsWritable t → (height s ≤ 64) × (height t ≤ 64) → (i : ℕ)
    → grammar.with_semicolon Asked_expr Asked_expr i (clean s, clean t) (text_of s ++ (59 ∷ text_of t))
both_read s t w l i = semicolon_is Asked_expr Asked_expr i (clean s) (clean t) (text_of s) (text_of t) (text_reads s w.0 l.0 i) (text_reads t w.1 l.1)

-- a question about two trees
pub both_asked : (word : List ℕ) (ask : Tree → Tree → Question) (s t : Tree) → ((i : ℕ) → grammar.asking_both i ask word)
    → IsWritable s × IsWritable t → (height s ≤ 64) × (height t ≤ 64) → Reads (word ++ (32 ∷ (text_of s ++ (59 ∷ text_of t)))) (ask s t)
both_asked word ask s t a w l = line_is (ask s t) (word ++ (32 ∷ (text_of s ++ (59 ∷ text_of t)))) (λ i. inr (inl (made_is (ask, (tt, (clean s, clean t)))
    (then_is word (32 ∷ (text_of s ++ (59 ∷ text_of t))) (a i) (then_is (32 ∷ []) (text_of s ++ (59 ∷ text_of t)) (gap_is _) (both_read s t w l _))))))

check_asked : (s t : Tree) (text : List ℕ) → IsWritable s × IsWritable t → IsPrintable text → (height s ≤ 64) × (height t ≤ 64)
    → Reads (asked_text (check s t text)) (check s t text)
check_asked s t text w p l = line_is (check s t text) (asked_text (check s t text)) (λ i. inr (inr (made_is (tt, (tt, ((clean s, clean t), text)))
    (then_is (codes "check") (32 ∷ ((text_of s ++ (59 ∷ text_of t)) ++ (59 ∷ quoted text))) (refl, refl)
    (then_is (32 ∷ []) ((text_of s ++ (59 ∷ text_of t)) ++ (59 ∷ quoted text)) (gap_is _)
    (semicolon_is (grammar.with_semicolon Asked_expr Asked_expr) grammar.string _ (clean s, clean t) text
    (text_of s ++ (59 ∷ text_of t)) (quoted text) (both_read s t w l _) (λ j. quoted_is j text p)))))))

-- what is written of a question reads as it
pub question_reads : (q : Question) → IsAskable q → QuestionIs (λ t. height t ≤ 64) q → Reads (asked_text q) q
question_reads (value t) w l = asked (codes "value") value t (λ i. inl (refl, refl)) w l
question_reads (outcome t) w l = asked (codes "outcome") outcome t (λ i. inr (inl (refl, refl))) w l
question_reads (stops t) w l = asked (codes "stops") stops t (λ i. inr (inr (inl (refl, refl)))) w l
question_reads (mean t) w l = asked (codes "mean") mean t (λ i. inr (inr (inr (inl (refl, refl))))) w l
question_reads (temp t) w l = asked (codes "temp") temp t (λ i. inr (inr (inr (inr (inl (refl, refl)))))) w l
question_reads (thermo t) w l = asked (codes "thermo") thermo t (λ i. inr (inr (inr (inr (inr (refl, refl)))))) w l
question_reads (compare s t) w l = both_asked (codes "compare") compare s t (λ i. inl (refl, refl)) w l
question_reads (proof s t) w l = both_asked (codes "proof") proof s t (λ i. inr (refl, refl)) w l
question_reads (check s t text) w l = check_asked s t text w.0 w.1 l
