-- What is written, step by step: an expression by its form, and lists one entry after the other.
use Rattle.std.proofs.Common.{◌≡◌, refl, ap, sym, ◌∙◌, ℕ, suc, ◌+◌, ◌<◌, List, [], ◌∷◌, ◌++◌, append-nil}
use Rattle.std.proofs.Common.{append_assoc, length, get_or, take, Bool, cond, Result, Ok, Err, arith}
use Rattle.std.specs.Prelude.{OnOk, codes, decimal, replicate}
use Rattle.std.specs.Global.{Box}
use Rattle.std.proofs.lemmas.List.{replicate_more}
use Rattle.cg_query.specs.Tree.{Tree, trees_from, terms_from, number, ups, nimber, switch, tiny, braces, negative, multiple, sum, game, octal, used}
use Rattle.cg_query.specs.Trees.{tree_of, trees_in, trees_of, terms_in, terms_of}
use Rattle.cg_grammar.specs.Written.{enclosed_text, fraction_text, is_braces, kind_text, more_terms, more_texts}
use Rattle.cg_grammar.specs.Written.{quoted, terms_text, text_of, texts_of, texts_of_game, ups_text}
use Rattle.cg_query.specs.declared.kind.GameKind.{GameKind}
use Rattle.cg_query.specs.declared.expr.Expr.{Expr}
use Rattle.cg_query.specs.declared.expr.Exprs.{Exprs}
use Rattle.cg_query.specs.declared.expr.Term.{Term}
use Rattle.cg_query.specs.declared.expr.Terms.{Terms}
use Rattle.cg_query.specs.declared.expr.Expr.TheVariants as expr
use Rattle.cg_query.proofs.TreeOf.{term_tree, number_tree, ups_tree_of, nimber_tree, switch_tree, tiny_tree, braces_tree}
use Rattle.cg_query.proofs.TreeOf.{negative_tree, multiple_tree, sum_tree, game_tree, octal_tree, used_tree}
use Rattle.cg_query.proofs.Walk.{trees_of-take_suc, terms_of-take_suc}

-- what was put at the end is the same text in other words
pub put_as : {X Y : Type 0} (r : Result X Y) (new old : List ℕ) (a b : List ℕ) → a ≡ b → OnOk r (new ≡ old ++ b)
    → OnOk r (new ≡ old ++ a)
put_as r new old a b e p = rw e p

-- one byte more of a run
pub run_next : (old now : List ℕ) (n b : ℕ) → now ≡ old ++ replicate n b → now ++ (b ∷ []) ≡ old ++ replicate (n + 1) b
run_next old now n b e = ap (λ z. z ++ (b ∷ [])) e ∙ append_assoc old (replicate n b) (b ∷ []) ∙ ap (λ z. old ++ z) (replicate_more n b)

-- ---- forms

pub text_of_tree : (e f : Expr) (t : Tree) → e ≡ f → tree_of f ≡ t → text_of (tree_of e) ≡ text_of t
text_of_tree e f t is tree = ap (λ (x : Expr). text_of (tree_of x)) is ∙ ap text_of tree

pub number_put : (e : Expr) (below : Bool) (num den : ℕ) → e ≡ expr.Number below num den
    → text_of (tree_of e) ≡ cond below (codes "-") [] ++ fraction_text num den
unfolding text_of
number_put e below num den is = text_of_tree e (expr.Number below num den) (number below num den) is (number_tree below num den)

pub ups_put : (e : Expr) (down : Bool) (n : ℕ) → e ≡ expr.Ups down n → text_of (tree_of e) ≡ ups_text (cond down 118 94) n
unfolding text_of
ups_put e down n is = text_of_tree e (expr.Ups down n) (ups down n) is (ups_tree_of down n)

pub nimber_put : (e : Expr) (n : ℕ) → e ≡ expr.Nimber n → text_of (tree_of e) ≡ 42 ∷ decimal n
unfolding text_of
nimber_put e n is = text_of_tree e (expr.Nimber n) (nimber n) is (nimber_tree n)

pub switch_put : (e : Expr) (num den : ℕ) → e ≡ expr.Switch num den → text_of (tree_of e) ≡ codes "+-" ++ fraction_text num den
unfolding text_of
switch_put e num den is = text_of_tree e (expr.Switch num den) (switch num den) is (switch_tree num den)

pub tiny_put : (e : Expr) (miny : Bool) (num den : ℕ) → e ≡ expr.Tiny miny num den
    → text_of (tree_of e) ≡ cond miny (codes "Miny(") (codes "Tiny(") ++ (fraction_text num den ++ codes ")")
unfolding text_of
tiny_put e miny num den is = text_of_tree e (expr.Tiny miny num den) (tiny miny num den) is (tiny_tree miny num den)

pub braces_put : (e : Expr) (lefts rights : Exprs) → e ≡ expr.Braces lefts rights
    → text_of (tree_of e) ≡ 123 ∷ (texts_of (trees_from (trees_in lefts)) ++ (codes "| "
    ++ (texts_of (trees_from (trees_in rights)) ++ (125 ∷ []))))
unfolding text_of
braces_put e lefts rights is = text_of_tree e (expr.Braces lefts rights) (braces (trees_in lefts) (trees_in rights)) is
    (braces_tree lefts rights)

pub negative_put : (e : Expr) (inner : Box Expr) (f : Expr) → e ≡ expr.Negative inner → f ≡ inner.value
    → text_of (tree_of e) ≡ 45 ∷ enclosed_text (is_braces (tree_of f)) (text_of (tree_of f))
unfolding text_of
negative_put e inner f is same = text_of_tree e (expr.Negative inner) (negative (tree_of inner.value)) is (negative_tree inner)
    ∙ ap (λ (x : Expr). 45 ∷ enclosed_text (is_braces (tree_of x)) (text_of (tree_of x))) (sym same)

pub multiple_put : (e : Expr) (n : ℕ) (inner : Box Expr) (f : Expr) → e ≡ expr.Multiple n inner → f ≡ inner.value
    → text_of (tree_of e) ≡ decimal n ++ (46 ∷ enclosed_text (is_braces (tree_of f)) (text_of (tree_of f)))
unfolding text_of
multiple_put e n inner f is same =
    text_of_tree e (expr.Multiple n inner) (multiple n (tree_of inner.value)) is (multiple_tree n inner)
    ∙ ap (λ (x : Expr). decimal n ++ (46 ∷ enclosed_text (is_braces (tree_of x)) (text_of (tree_of x)))) (sym same)

pub sum_put : (e : Expr) (terms : Terms) → e ≡ expr.Sum terms → text_of (tree_of e) ≡ terms_text (terms_from (terms_in terms))
unfolding text_of
sum_put e terms is = text_of_tree e (expr.Sum terms) (sum (terms_from (terms_in terms))) is (sum_tree terms)

pub game_put : (e : Expr) (kind : GameKind) (rules board : List ℕ) → e ≡ expr.Game kind rules board
    → text_of (tree_of e) ≡ kind_text kind ++ (40 ∷ (texts_of_game kind rules board ++ (41 ∷ [])))
unfolding text_of
game_put e kind rules board is = text_of_tree e (expr.Game kind rules board) (game kind rules board) is (game_tree kind rules board)

pub octal_put : (e : Expr) (code : List ℕ) (heap : ℕ) → e ≡ expr.Octal code heap
    → text_of (tree_of e) ≡ codes "Octal(" ++ ((quoted code ++ (44 ∷ decimal heap)) ++ (41 ∷ []))
unfolding text_of
octal_put e code heap is = text_of_tree e (expr.Octal code heap) (octal code heap) is (octal_tree code heap)

pub used_put : (e : Expr) (word : List ℕ) (column : ℕ) → e ≡ expr.Name word column → text_of (tree_of e) ≡ word
unfolding text_of
used_put e word column is = text_of_tree e (expr.Name word column) (used word column) is (used_tree word column)

-- ---- lists

-- two parts, one behind the other
pub two_parts : (old middle new a b : List ℕ) → middle ≡ old ++ a → new ≡ middle ++ b → new ≡ old ++ (a ++ b)
two_parts old middle new a b f s = s ∙ ap (λ z. z ++ b) f ∙ append_assoc old a b

pub trees_split : (es : List Expr) (ts : List Tree) (e : Expr) (others : List Expr) → trees_of es ≡ ts → es ≡ e ∷ others
    → ts ≡ tree_of e ∷ trees_of others
trees_split es ts e others all split = sym all ∙ ap (λ (x : List Expr). trees_of x) split

pub terms_split : (es : List Term) (ts : List (Bool × Tree)) (e : Term) (others : List Term) → terms_of es ≡ ts → es ≡ e ∷ others
    → ts ≡ (e.minus, tree_of e.expr) ∷ terms_of others
terms_split es ts e others all split = sym all ∙ ap (λ (x : List Term). terms_of x) split
    ∙ ap (λ (x : Bool × Tree). x ∷ terms_of others) (term_tree e.minus e.expr)

pub side_none : (ts : List Tree) → ts ≡ [] → texts_of (trees_from ts) ≡ []
unfolding texts_of
side_none ts e = ap (λ (x : List Tree). texts_of (trees_from x)) e

pub side_first : (ts us : List Tree) (t : Tree) → ts ≡ t ∷ us → texts_of (trees_from ts) ≡ text_of t ++ more_texts (trees_from us)
unfolding texts_of
side_first ts us t e = ap (λ (x : List Tree). texts_of (trees_from x)) e

pub sum_none : (ts : List (Bool × Tree)) → ts ≡ [] → terms_text (terms_from ts) ≡ []
unfolding terms_text
sum_none ts e = ap (λ (x : List (Bool × Tree)). terms_text (terms_from x)) e

pub sum_first : (ts us : List (Bool × Tree)) (minus : Bool) (t : Tree) → ts ≡ (minus, t) ∷ us
    → terms_text (terms_from ts) ≡ enclosed_text (is_braces t) (text_of t) ++ more_terms (terms_from us)
unfolding terms_text
sum_first ts us minus t e = ap (λ (x : List (Bool × Tree)). terms_text (terms_from x)) e

pub no_more_texts : more_texts (trees_from []) ≡ []
unfolding more_texts
no_more_texts = refl

pub no_more_terms : more_terms (terms_from []) ≡ []
unfolding more_terms
no_more_terms = refl

more_texts-next : (ts : List Tree) (t : Tree)
    → more_texts (trees_from (ts ++ (t ∷ []))) ≡ more_texts (trees_from ts) ++ (44 ∷ text_of t)
unfolding more_texts
more_texts-next [] t = ap (λ z. 44 ∷ z) (append-nil (text_of t))
more_texts-next (u ∷ ts) t = ap (λ z. 44 ∷ (text_of u ++ z)) (more_texts-next ts t)
    ∙ sym (append_assoc (44 ∷ text_of u) (more_texts (trees_from ts)) (44 ∷ text_of t))

more_terms-next : (ts : List (Bool × Tree)) (minus : Bool) (t : Tree)
    → more_terms (terms_from (ts ++ ((minus, t) ∷ [])))
    ≡ more_terms (terms_from ts) ++ (cond minus 45 43 ∷ enclosed_text (is_braces t) (text_of t))
unfolding more_terms
more_terms-next [] minus t = ap (λ z. cond minus 45 43 ∷ z) (append-nil (enclosed_text (is_braces t) (text_of t)))
more_terms-next (u ∷ ts) minus t =
    ap (λ z. cond u.0 45 43 ∷ (enclosed_text (is_braces u.1) (text_of u.1) ++ z)) (more_terms-next ts minus t)
    ∙ sym (append_assoc (cond u.0 45 43 ∷ enclosed_text (is_braces u.1) (text_of u.1)) (more_terms (terms_from ts))
    (cond minus 45 43 ∷ enclosed_text (is_braces t) (text_of t)))

-- a text behind a sign, at the end of what was written
behind_sign : (old now more text : List ℕ) (sign : ℕ) → now ≡ old ++ more → (now ++ (sign ∷ [])) ++ text ≡ old ++ (more ++ (sign ∷ text))
behind_sign old now more text sign e = append_assoc now (sign ∷ []) text ∙ ap (λ z. z ++ (sign ∷ text)) e
    ∙ append_assoc old more (sign ∷ text)

one_more : (i : ℕ) → suc i ≡ i + 1
one_more i = omega arith

pub expr_next : (es : List Expr) (i : ℕ) (e : Expr) (old now : List ℕ) → i < length es → e ≡ get_or es i e
    → now ≡ old ++ more_texts (trees_from (trees_of (take i es)))
    → (now ++ (44 ∷ [])) ++ text_of (tree_of e) ≡ old ++ more_texts (trees_from (trees_of (take (i + 1) es)))
expr_next es i e old now below is h =
    behind_sign old now (more_texts (trees_from (trees_of (take i es)))) (text_of (tree_of e)) 44 h
    ∙ ap (λ z. old ++ z) (sym (more_texts-next (trees_of (take i es)) (tree_of e)))
    ∙ ap (λ (z : List Tree). old ++ more_texts (trees_from z)) (sym (trees_of-take_suc es i e below is))
    ∙ ap (λ (n : ℕ). old ++ more_texts (trees_from (trees_of (take n es)))) (one_more i)

pub term_next : (es : List Term) (i : ℕ) (e : Term) (old now : List ℕ) → i < length es → e ≡ get_or es i e
    → now ≡ old ++ more_terms (terms_from (terms_of (take i es)))
    → (now ++ (cond e.minus 45 43 ∷ [])) ++ enclosed_text (is_braces (tree_of e.expr)) (text_of (tree_of e.expr))
    ≡ old ++ more_terms (terms_from (terms_of (take (i + 1) es)))
term_next es i e old now below is h =
    let text : List ℕ = enclosed_text (is_braces (tree_of e.expr)) (text_of (tree_of e.expr)) in
    behind_sign old now (more_terms (terms_from (terms_of (take i es)))) text (cond e.minus 45 43) h
    ∙ ap (λ z. old ++ z) (sym (more_terms-next (terms_of (take i es)) e.minus (tree_of e.expr)))
    ∙ ap (λ (z : Bool × Tree). old ++ more_terms (terms_from (terms_of (take i es) ++ (z ∷ [])))) (sym (term_tree e.minus e.expr))
    ∙ ap (λ (z : List (Bool × Tree)). old ++ more_terms (terms_from z)) (sym (terms_of-take_suc es i e below is))
    ∙ ap (λ (n : ℕ). old ++ more_terms (terms_from (terms_of (take n es)))) (one_more i)

-- ---- what a call put behind what was there

on_ok : {X Y P Q : Type 0} (r : Result X Y) → (P → Q) → OnOk r P → OnOk r Q
on_ok (Ok v) f p = f p
on_ok (Err e) f p = tt

pub put_both : {X Y : Type 0} (r : Result X Y) (old middle new a b all : List ℕ) → all ≡ a ++ b → middle ≡ old ++ a
    → OnOk r (new ≡ middle ++ b) → OnOk r (new ≡ old ++ all)
put_both r old middle new a b all e f p = on_ok r (λ s. two_parts old middle new a b f s ∙ ap (λ z. old ++ z) (sym e)) p

-- nothing was put
pub put_none : (old all : List ℕ) → all ≡ [] → old ≡ old ++ all
put_none old all e = sym (ap (λ z. old ++ z) e ∙ append-nil old)

-- whether an expression is braces, by its form
pub braces_test : (e f : Expr) (t : Tree) → e ≡ f → tree_of f ≡ t → is_braces t ≡ is_braces (tree_of e)
braces_test e f t is tree = sym (ap (λ (x : Expr). is_braces (tree_of x)) is ∙ ap is_braces tree)
