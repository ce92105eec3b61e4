-- Specials and questions, as the grammar has them and as they are read.
use Rattle.std.proofs.Common.{ℕ, zero, suc, inl, inr, List}
use Rattle.std.specs.Prelude.{codes}
use Rattle.cg_reading.specs.Pieces.{Piece, Then, Or, Made, One, Word}
use Rattle.cg_reading.specs.Tokens.{only, blanks, gap, with_blanks}
use Rattle.cg_reading.proofs.Same.{Same, same_self, same_back, same_on, then_same, or_same, made_same, blanks_behind_made, blanks_behind_then, blanks_behind_or}
use Rattle.cg_query.specs.Tree.{Tree, Question}
use Rattle.cg_grammar.specs.Found.{Found, Asked}
use Rattle.cg_grammar.specs.Values.{Last, In_none, asked_of, asked_of_both, checked}
use Rattle.cg_query.specs.declared.format.Format.{Format}
use Rattle.cg_query.specs.declared.format.Format.TheVariants as formats
use Rattle.cg_grammar.specs.Grammar as s
use Rattle.cg_grammar.proofs.Factored as g
use Rattle.cg_grammar.proofs.Factoring.{sum_same, braces_same, side_same, paren_same}
use Rattle.cg_grammar.proofs.SameWords.{plain_same, named}

special_to : (B P : Piece Found) (i : ℕ) (a : Found) (text : List ℕ) → Or (Or s.switch_piece named) (Or B P) i a text → Or s.switch_piece (Or s.tiny_piece (Or B (Or P (Or s.board s.octal_piece)))) i a text
special_to B P i a text (inl (inl w)) = inl w
special_to B P i a text (inl (inr (inl t))) = inr (inl t)
special_to B P i a text (inl (inr (inr b))) = inr (inr (inr (inr b)))
special_to B P i a text (inr (inl x)) = inr (inr (inl x))
special_to B P i a text (inr (inr x)) = inr (inr (inr (inl x)))

special_from : (B P : Piece Found) (i : ℕ) (a : Found) (text : List ℕ) → Or s.switch_piece (Or s.tiny_piece (Or B (Or P (Or s.board s.octal_piece)))) i a text → Or (Or s.switch_piece named) (Or B P) i a text
special_from B P i a text (inl w) = inl (inl w)
special_from B P i a text (inr (inl t)) = inl (inr (inl t))
special_from B P i a text (inr (inr (inl x))) = inr (inl x)
special_from B P i a text (inr (inr (inr (inl x)))) = inr (inr x)
special_from B P i a text (inr (inr (inr (inr b)))) = inl (inr (inr b))

names_same : (format : Format) (R S : Piece (Found × Last)) → Same R S → Same (g.with_names format R) (s.with_names format S)
names_same formats.One R S e = e
names_same formats.Two R S e = record { to = to; from = from }
  where
    to : (i : ℕ) (a : Found × Last) (text : List ℕ) → Or s.use_piece R i a text → Or S s.use_piece i a text
    to i a text (inl u) = inr u
    to i a text (inr r) = inl (e.to i a text r)

    from : (i : ℕ) (a : Found × Last) (text : List ℕ) → Or S s.use_piece i a text → Or s.use_piece R i a text
    from i a text (inl r) = inr (e.from i a text r)
    from i a text (inr u) = inl u

pub special_same : (format : Format) (k : ℕ) → Same (g.special format k) (s.special format k)
unfolding g.bare s.special
special_same format zero = names_same format (s.whole_piece g.plain_special) (s.whole_piece (Or s.switch_piece named)) (made_same (λ e. (e, In_none)) plain_same)
special_same format (suc k) =
    let S : Piece (Found × Last) = g.special format k in
    let T : Piece (Found × Last) = s.special format k in
    let e : Same (g.sum S) (with_blanks (s.expr T)) = sum_same S T (special_same format k) in
    let b : Same (g.braces (g.sum S)) (s.braces (s.side (s.expr T))) = braces_same (g.side (g.sum S)) (s.side (s.expr T)) (side_same (g.sum S) (s.expr T) e) in
    let p : Same (g.paren (g.sum S)) (s.enclosed (s.expr T)) = paren_same (g.sum S) (s.expr T) e in
    names_same format (s.whole_piece (Or g.plain_special (Or (g.braces (g.sum S)) (g.paren (g.sum S)))))
    (s.whole_piece (Or s.switch_piece (Or s.tiny_piece (Or (s.braces (s.side (s.expr T))) (Or (s.enclosed (s.expr T)) (Or s.board s.octal_piece))))))
    (made_same (λ x. (x, In_none)) (same_on (or_same plain_same (or_same b p))
    (record { to = special_to (s.braces (s.side (s.expr T))) (s.enclosed (s.expr T)); from = special_from (s.braces (s.side (s.expr T))) (s.enclosed (s.expr T)) })))

-- ---- lines

abbrev expr_of : Format → Piece Found
expr_of format = s.expr (s.special format 64)

pub expr_same : (format : Format) → Same (g.expr format 64) (with_blanks (expr_of format))
expr_same format = sum_same (g.special format 64) (s.special format 64) (special_same format 64)

-- the blanks behind two pieces belong to the second
semicolon_blanks : {A B : Type 0} (R : Piece A) (S : Piece B) → Same (with_blanks (s.with_semicolon R S)) (g.with_semicolon (with_blanks R) (with_blanks S))
semicolon_blanks R S =
    same_on (blanks_behind_made (λ v. (v.0, v.1.1.1)) (Then (with_blanks R) (Then (One s.semicolon) (Then blanks S))))
    (made_same (λ v. (v.0, v.1.1.1))
    (same_on (blanks_behind_then (with_blanks R) (Then (One s.semicolon) (Then blanks S)))
    (then_same (same_self (with_blanks R))
    (same_on (blanks_behind_then (One s.semicolon) (Then blanks S))
    (then_same (same_self (One s.semicolon)) (blanks_behind_then blanks S))))))

semicolon_same : {A B : Type 0} {R S : Piece A} {T U : Piece B} → Same R S → Same T U → Same (g.with_semicolon R T) (g.with_semicolon S U)
semicolon_same r t = made_same (λ v. (v.0, v.1.1.1)) (then_same r (then_same (same_self (One (only 59))) (then_same (same_self blanks) t)))

-- a word, a gap, and what stands behind it
behind_word : {A V X : Type 0} (h : V × (Unit {0} × X) → A) (W : Piece V) (R S : Piece X) → Same (with_blanks R) S → Same (with_blanks (Made h (Then W (Then gap R)))) (Made h (Then W (Then gap S)))
behind_word h W R S e =
    same_on (blanks_behind_made h (Then W (Then gap R)))
    (made_same h
    (same_on (blanks_behind_then W (Then gap R))
    (then_same (same_self W)
    (same_on (blanks_behind_then gap R) (then_same (same_self gap) e)))))

abbrev pub one_value : (Tree → Question) × (Unit {0} × Found) → Asked
one_value v = asked_of v.0 v.1.1

abbrev pub both_value : (Tree → Tree → Question) × (Unit {0} × (Found × Found)) → Asked
both_value v = asked_of_both v.0 v.1.1.0 v.1.1.1

abbrev pub check_value : Unit {0} × (Unit {0} × ((Found × Found) × List ℕ)) → Asked
check_value v = checked v.1.1.0.0 v.1.1.0.1 v.1.1.1

-- the questions of a format, as the grammar has them and with blanks as they are read
module _ (format : Format) where
  abbrev pub both : Piece (Found × Found)
  both = s.with_semicolon (expr_of format) (expr_of format)

  abbrev pub ask_one : Piece Asked
  ask_one = Made one_value (Then s.asking (Then gap (expr_of format)))

  abbrev pub ask_both : Piece Asked
  ask_both = Made both_value (Then s.asking_both (Then gap both))

  abbrev pub ask_check : Piece Asked
  ask_check = Made check_value (Then (Word (codes "check") (tt {0})) (Then gap (s.with_semicolon both s.string)))

  both_same : Same (with_blanks both) (g.both format)
  both_same = same_on (semicolon_blanks (expr_of format) (expr_of format)) (semicolon_same (same_back (expr_same format)) (same_back (expr_same format)))

  pub one_same : Same (with_blanks ask_one) (Made one_value (Then s.asking (Then gap (g.expr format 64))))
  one_same = behind_word one_value s.asking (expr_of format) (g.expr format 64) (same_back (expr_same format))

  pub two_same : Same (with_blanks ask_both) (Made both_value (Then s.asking_both (Then gap (g.both format))))
  two_same = behind_word both_value s.asking_both both (g.both format) both_same

  pub check_same : Same (with_blanks ask_check) (Made check_value (Then (Word (codes "check") (tt {0})) (Then gap (g.with_semicolon (g.both format) (with_blanks s.string)))))
  check_same =
      behind_word check_value (Word (codes "check") (tt {0})) (s.with_semicolon both s.string) (g.with_semicolon (g.both format) (with_blanks s.string))
      (same_on (semicolon_blanks both s.string) (semicolon_same both_same (same_self (with_blanks s.string))))

  pub query_same : Same (with_blanks (s.query (expr_of format))) (Or (Made one_value (Then s.asking (Then gap (g.expr format 64)))) (Or (Made both_value (Then s.asking_both (Then gap (g.both format)))) (Made check_value (Then (Word (codes "check") (tt {0})) (Then gap (g.with_semicolon (g.both format) (with_blanks s.string)))))))
  query_same =
      same_on (blanks_behind_or ask_one (Or ask_both ask_check))
      (or_same one_same (same_on (blanks_behind_or ask_both ask_check) (or_same two_same check_same)))
