-- What is written reads: switches, tinies, braces and parentheses.
use Rattle.std.proofs.Common.{refl, ℕ, zero, suc, inl, inr, List, [], ◌∷◌, ◌++◌, Bool, true, false, cond}
use Rattle.std.specs.Prelude.{codes}
use Rattle.cg_reading.specs.Pieces.{Piece}
use Rattle.cg_grammar.specs.Found.{Found}
use Rattle.cg_grammar.specs.Grammar as grammar
use Rattle.cg_grammar.specs.Grammar.{special}
use Rattle.cg_query.specs.declared.format.Format.TheVariants as formats
use Rattle.cg_query.specs.Tree.{Tree, switch, tiny}
use Rattle.cg_grammar.specs.Values.{In_none, clean}
use Rattle.cg_grammar.proofs.WrittenTokens.{enclosed_is}
use Rattle.cg_reading.proofs.Spelled.{byte_then, made_is, then_is}

-- an operand that is no name
alone : {R : Piece Found} {i : ℕ} {e : Found} {text : List ℕ} → R i e text → grammar.whole_piece R i (e, In_none) text
alone {R} {i} {e} {text} m = made_is e m

pub first_special : (k i : ℕ) (t : Tree) (text : List ℕ) → grammar.switch_piece i (clean t) text → grammar.special formats.One k i (clean t, In_none) text
unfolding special
first_special zero i t text m = alone (inl m)
first_special (suc k) i t text m = alone (inl m)

pub second_special : (k i : ℕ) (t : Tree) (text : List ℕ) → grammar.tiny_piece i (clean t) text → grammar.special formats.One k i (clean t, In_none) text
unfolding special
second_special zero i t text m = alone (inr (inl m))
second_special (suc k) i t text m = alone (inr (inl m))

pub board_special : (k i : ℕ) (t : Tree) (text : List ℕ) → grammar.board i (clean t) text → grammar.special formats.One k i (clean t, In_none) text
unfolding special
board_special zero i t text m = alone (inr (inr (inl m)))
board_special (suc k) i t text m = alone (inr (inr (inr (inr (inl m)))))

pub octal_special : (k i : ℕ) (t : Tree) (text : List ℕ) → grammar.octal_piece i (clean t) text → grammar.special formats.One k i (clean t, In_none) text
unfolding special
octal_special zero i t text m = alone (inr (inr (inr m)))
octal_special (suc k) i t text m = alone (inr (inr (inr (inr (inr m)))))

pub braces_special : (k i : ℕ) (t : Tree) (text : List ℕ)
    → grammar.braces (grammar.side (grammar.expr (grammar.special formats.One k))) i (clean t) text
    → grammar.special formats.One (suc k) i (clean t, In_none) text
unfolding special
braces_special k i t text m = alone (inr (inr (inl m)))

pub paren_special : (k i : ℕ) (t : Tree) (text : List ℕ) → ((j : ℕ) → grammar.expr (grammar.special formats.One k) j (clean t) text)
    → grammar.special formats.One (suc k) i (clean t, In_none) (40 ∷ (text ++ (41 ∷ [])))
unfolding special
paren_special k i t text m =
    alone (inr (inr (inr (inl (enclosed_is (grammar.expr (grammar.special formats.One k)) i (clean t) text m)))))

-- of a text of the number
pub switch_special : (k i num den : ℕ) (text : List ℕ) → ((j : ℕ) → grammar.number j (num, den) text)
    → grammar.special formats.One k i (clean (switch num den), In_none) (codes "+-" ++ text)
switch_special k i num den text n = first_special k i (switch num den) (codes "+-" ++ text)
    (made_is (43, (45, (num, den))) (byte_then 43 (45 ∷ text) refl (byte_then 45 text refl (n _))))

pub tiny_special : (k i : ℕ) (miny : Bool) (num den : ℕ) (text : List ℕ) → ((j : ℕ) → grammar.number j (num, den) text)
    → grammar.special formats.One k i (clean (tiny miny num den), In_none) (cond miny (codes "Miny(") (codes "Tiny(") ++ (text ++ codes ")"))
tiny_special k i miny num den text n = by miny
  where
    by : (m : Bool) → grammar.special formats.One k i (clean (tiny m num den), In_none) (cond m (codes "Miny(") (codes "Tiny(") ++ (text ++ codes ")"))
    by false = second_special k i _ _ (made_is (false, (num, den))
        (then_is (codes "Tiny") (40 ∷ (text ++ codes ")")) (inl (refl, refl)) (enclosed_is grammar.number _ (num, den) text n)))
    by true = second_special k i _ _ (made_is (true, (num, den))
        (then_is (codes "Miny") (40 ∷ (text ++ codes ")")) (inr (refl, refl)) (enclosed_is grammar.number _ (num, den) text n)))
