-- Lists of expressions and of terms that are put together or split, with their items, meanings and handles.
use Rattle.std.proofs.Common.{◌≡◌, refl, ap, sym, ◌∙◌, ℕ, zero, suc, ◌+◌, ◌<◌, arith, Bool, List, [], ◌∷◌, ◌++◌, append_assoc}
use Rattle.std.proofs.Common.{length, get_or, take, drop, map}
use Rattle.cg_form.specs.Game.{Game, to_list}
use Rattle.cg_form.specs.Sum.{sum as plus}
use Rattle.cg_nodes.specs.Can.{can}
use Rattle.cg_cells.specs.Store.{State}
use Rattle.cg_nodes.specs.Games.{AreGames, StandFor, StandsFor, game_at, games_at}
use Rattle.cg_nodes.specs.Meant.{Meant}
use Rattle.cg_nodes.proofs.Later.{stands_game, stands_is_game}
use Rattle.cg_canon.specs.Items.{Item}
use Rattle.cg_canon.specs.SumItems.{sum_items}
use Rattle.cg_names.specs.Meaning.{signed}
use Rattle.cg_names.specs.Meaning.{meanings as meanings_by, total_with as total_with_by}
use Rattle.cg_eval.specs.Meaning.{meaning, meanings, total_with}
use Rattle.cg_query.specs.declared.expr.Expr.{Expr}
use Rattle.cg_query.specs.declared.expr.Term.{Term}
use Rattle.cg_query.specs.Tree.{Tree, trees_from, terms_from}
use Rattle.cg_query.specs.Trees.{tree_of, trees_of, term_of, terms_of}
use Rattle.cg_eval.specs.Items.{items, all_items, further_items, term_part}
use Rattle.cg_eval.proofs.Lasts.{append_none}

-- ---- the items of lists that are put together

pub all_items-append : (limit : ℕ) (xs ys : List Tree)
    → all_items limit (trees_from (xs ++ ys)) ≡ all_items limit (trees_from xs) ++ all_items limit (trees_from ys)
unfolding all_items
all_items-append limit [] ys = refl
all_items-append limit (x ∷ xs) ys =
    ap (λ z. items limit x ++ z) (all_items-append limit xs ys)
    ∙ sym (append_assoc (items limit x) (all_items limit (trees_from xs)) (all_items limit (trees_from ys)))

pub all_items-one : (limit : ℕ) (x : Tree) → all_items limit (trees_from (x ∷ [])) ≡ items limit x
unfolding all_items
all_items-one limit x = append_none (items limit x)

pub all_items-next : (limit : ℕ) (x : Tree) (xs : List Tree)
    → all_items limit (trees_from (x ∷ xs)) ≡ items limit x ++ all_items limit (trees_from xs)
unfolding all_items
all_items-next limit x xs = refl

pub all_items-none : (limit : ℕ) → all_items limit (trees_from []) ≡ []
unfolding all_items
all_items-none limit = refl

pub forms-append : (xs ys : List Tree) → map can (to_list (meanings (trees_from (xs ++ ys))))
    ≡ map can (to_list (meanings (trees_from xs))) ++ map can (to_list (meanings (trees_from ys)))
unfolding meanings_by
forms-append [] ys = refl
forms-append (x ∷ xs) ys = ap (λ z. can (meaning x) ∷ z) (forms-append xs ys)

pub forms-one : (x : Tree) → map can (to_list (meanings (trees_from (x ∷ [])))) ≡ can (meaning x) ∷ []
unfolding meanings_by
forms-one x = refl

pub forms-none : map can (to_list (meanings (trees_from []))) ≡ []
unfolding meanings_by
forms-none = refl

pub further-append : (limit : ℕ) (g : Game) (xs ys : List (Bool × Tree))
    → further_items limit g (terms_from (xs ++ ys))
    ≡ further_items limit g (terms_from xs) ++ further_items limit (total_with g (terms_from xs)) (terms_from ys)
unfolding further_items total_with_by
further-append limit g [] ys = refl
further-append limit g (x ∷ xs) ys =
    let part = term_part limit x.0 x.1 ++ sum_items limit (can g) (can (signed x.0 (meaning x.1))) in
    let next = plus g (signed x.0 (meaning x.1)) in
    ap (λ z. part ++ z) (further-append limit next xs ys)
    ∙ sym (append_assoc part (further_items limit next (terms_from xs)) (further_items limit (total_with next
    (terms_from xs)) (terms_from ys)))

pub total-append : (g : Game) (xs ys : List (Bool × Tree))
    → total_with g (terms_from (xs ++ ys)) ≡ total_with (total_with g (terms_from xs)) (terms_from ys)
unfolding total_with_by
total-append g [] ys = refl
total-append g (x ∷ xs) ys = total-append (plus g (signed x.0 (meaning x.1))) xs ys

-- those of adding one term
abbrev pub added_items : ℕ → Game → Bool → Tree → List Item
added_items limit g subtracted t = term_part limit subtracted t ++ sum_items limit (can g) (can (signed subtracted
    (meaning t)))

pub further-next : (limit : ℕ) (g : Game) (x : Bool × Tree) (xs : List (Bool × Tree))
    → further_items limit g (terms_from (x ∷ xs))
    ≡ added_items limit g x.0 x.1 ++ further_items limit (plus g (signed x.0 (meaning x.1))) (terms_from xs)
unfolding further_items
further-next limit g x xs = refl

pub further-one : (limit : ℕ) (g : Game) (x : Bool × Tree)
    → further_items limit g (terms_from (x ∷ [])) ≡ added_items limit g x.0 x.1
unfolding further_items
further-one limit g x = append_none (added_items limit g x.0 x.1)

pub further-none : (limit : ℕ) (g : Game) → further_items limit g (terms_from []) ≡ []
unfolding further_items
further-none limit g = refl

pub total-one : (g : Game) (x : Bool × Tree) → total_with g (terms_from (x ∷ [])) ≡ plus g (signed x.0 (meaning x.1))
unfolding total_with_by
total-one g x = refl

pub total-none : (g : Game) → total_with g (terms_from []) ≡ g
unfolding total_with_by
total-none g = refl

-- ---- where a list is split

pub trees_of-split : (es : List Expr) (i : ℕ) (e : Expr) → i < length es → e ≡ get_or es i e
    → trees_of es ≡ trees_of (take i es) ++ (tree_of e ∷ trees_of (drop (suc i) es))
trees_of-split [] i e below is = absurd (omega arith)
trees_of-split (f ∷ es) zero e below is = ap (λ (x : Expr). tree_of x ∷ trees_of es) (sym is)
trees_of-split (f ∷ es) (suc i) e below is = ap (λ ts. tree_of f ∷ ts) (trees_of-split es i e (omega arith) is)

pub terms_of-split : (es : List Term) (i : ℕ) (e : Term) → i < length es → e ≡ get_or es i e
    → terms_of es ≡ terms_of (take i es) ++ (term_of e ∷ terms_of (drop (suc i) es))
terms_of-split [] i e below is = absurd (omega arith)
terms_of-split (f ∷ es) zero e below is = ap (λ (x : Term). term_of x ∷ terms_of es) (sym is)
terms_of-split (f ∷ es) (suc i) e below is = ap (λ ts. term_of f ∷ ts) (terms_of-split es i e (omega arith) is)

-- ---- handles, put together

are_games-append : {R : Type 0} (s : State Meant R) (hs ks : List ℕ) → AreGames s hs → AreGames s ks
    → AreGames s (hs ++ ks)
are_games-append s [] ks a b = b
are_games-append s (h ∷ hs) ks a b = (a.0, are_games-append s hs ks a.1 b)

games_at-append : {R : Type 0} (s : State Meant R) (hs ks : List ℕ)
    → games_at s (hs ++ ks) ≡ games_at s hs ++ games_at s ks
games_at-append s [] ks = refl
games_at-append s (h ∷ hs) ks = ap (λ z. game_at s h ∷ z) (games_at-append s hs ks)

pub stand-more : {R : Type 0} (s : State Meant R) (hs : List ℕ) (gs : List Game) (h : ℕ) (g : Game) → StandFor s hs gs
    → StandsFor s h g
    → StandFor s (hs ++ (h ∷ [])) (gs ++ (g ∷ []))
stand-more s hs gs h g a b = (
  are_games-append s hs (h ∷ []) a.0 (stands_is_game s h g b, tt),
  games_at-append s hs (h ∷ []) ∙ ap (λ z. z ++ games_at s (h ∷ [])) a.1 ∙ ap (λ z. gs ++ (z ∷ []))
      (stands_game s h g b),
)
