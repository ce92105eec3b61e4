-- What is written reads: sides and braces.
use Rattle.std.proofs.Common.{◌≡◌, refl, ap, sym, ℕ, ◌+◌, arith, inl, inr, List, [], ◌∷◌, ◌++◌, append-nil, map, length, None}
use Rattle.cg_reading.specs.Bytes.{Ends}
use Rattle.cg_reading.specs.Pieces.{Made, Many, One, Piece, Then}
use Rattle.cg_reading.specs.Tokens.{behind_blanks, blanks}
use Rattle.cg_reading.proofs.Spelled.{before_none, behind_none, byte_is, byte_then, made_is, then_is}
use Rattle.cg_query.specs.Tree.{Tree, braces}
use Rattle.cg_grammar.specs.Braces.{Run_side, part_of, side_fault, side_trees}
use Rattle.cg_grammar.specs.Found.{Found}
use Rattle.cg_grammar.specs.Grammar as grammar
use Rattle.cg_grammar.specs.Grammar.{bar, comma}
use Rattle.cg_grammar.specs.Values.{braces_of, clean}
use Rattle.cg_reading.proofs.Spelled.{made_as}

-- ---- sides

-- an expression behind a comma
abbrev pub Item : Piece Found → Piece Found
Item E = behind_blanks (Made (λ v. v.1) (Then (One comma) (behind_blanks E)))

pub item_is : (E : Piece Found) (i : ℕ) (e : Found) (text : List ℕ) → ((j : ℕ) → E j e text) → Item E i e (44 ∷ text)
item_is E i e text m = behind_none (Made (λ v. v.1) (Then (One comma) (behind_blanks E))) i e (44 ∷ text)
    (made_is (44, e) (byte_then 44 text refl (behind_none E _ e text (m _))))

pub side_is : (E : Piece Found) (i : ℕ) (front x y : List ℕ) (e : Found) (es : List Found) → ((j : ℕ) → blanks j front front) → ((j : ℕ) → E j e x)
    → ((j : ℕ) → Many (Item E) j es y) → grammar.side E i (e ∷ es) (front ++ (x ++ y))
side_is E i front x y e es b m more = made_is (front, e ∷ es) (then_is front (x ++ y) (b i)
    (inl (before_none (grammar.exprs E) _ (e ∷ es) (x ++ y) (made_is (e, es) (then_is x y (m _) (more _))))))

pub empty_side : (E : Piece Found) (i : ℕ) (front : List ℕ) → ((j : ℕ) → blanks j front front) → grammar.side E i [] (front ++ [])
empty_side E i front b = made_is (front, []) (then_is front [] (b i) (inr (refl, refl)))

-- ---- braces with one bar

clean_trees : (ts : List Tree) → side_trees (map clean ts) ≡ ts
clean_trees [] = refl
clean_trees (t ∷ ts) = ap (λ z. t ∷ z) (clean_trees ts)

clean_fault : (ts : List Tree) → side_fault (map clean ts) ≡ None
clean_fault [] = refl
clean_fault (t ∷ ts) = clean_fault ts

one_run : ℕ → List Tree → Run_side
one_run column ts = record { column = column; bars = 1; side = map clean ts }

braces_value : (ls rs : List Tree) (column : ℕ) → clean (braces ls rs) ≡ braces_of (map clean ls) (one_run column rs ∷ [])
unfolding one_run part_of
braces_value ls rs column = rw (clean_trees ls, clean_trees rs, clean_fault ls, clean_fault rs) refl

pub braces_are : (S : Piece (List Found)) (i : ℕ) (ls rs : List Tree) (left right : List ℕ) → ((j : ℕ) → S j (map clean ls) left)
    → ((j : ℕ) → S j (map clean rs) right) → Ends bar (right ++ [])
    → grammar.braces S i (clean (braces ls rs)) (123 ∷ (left ++ (124 ∷ (right ++ (125 ∷ [])))))
unfolding one_run
braces_are S i ls rs left right l r ends =
    let column : ℕ = i + 1 + length left in
    made_as (123, (map clean ls, (((column, 1), map clean rs) ∷ [], 125))) (byte_then 123 (left ++ (124 ∷ (right ++ (125 ∷ [])))) refl (then_is left (124 ∷ (right ++ (125 ∷ []))) (l (i + 1)) (then_is (124 ∷ right) (125 ∷ []) (made_is (((column, 1), map clean rs), []) (record { run = 124 ∷ []; middle = right; more = []; is_run = (refl, made_is (124 ∷ []) (record { within = refl; some = omega arith; few = omega arith; spelled = refl })); is_side = r (column + 1); is_more = refl; no_bar = ends; spelled = ap (λ z. 124 ∷ z) (sym (append-nil right)) })) (byte_is 125 refl)))) (braces_value ls rs column)
