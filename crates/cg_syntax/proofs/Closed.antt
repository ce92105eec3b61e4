-- What has no names is expanded to itself, and what a line of format 1 asks has none.
use Rattle.std.proofs.Common.{◌≡◌, refl, ap, ◌∙◌, List, [], ◌∷◌, ◌++◌, map, ℕ}
use Rattle.cg_query.specs.Tree.{Tree, Trees, Terms, Question, number, ups, nimber, switch, tiny, sides, negative, multiple, sum, game, octal, used}
use Rattle.cg_query.specs.Tree.{no_trees, with_tree, no_terms, with_term, value, compare, outcome, stops, mean, temp, thermo, proof, check}
use Rattle.cg_query.specs.Heights.{EachIs, trees_of_question}
use Rattle.cg_grammar.specs.Written.{AreFurther, AreTerms, AreWritable, IsAskable, IsSum, IsWritable}
use Rattle.cg_syntax.specs.Naming.{AreClosed, AreClosedTerms, Bindings, IsClosed, IsClosedQuestion, expanded, expanded_all}
use Rattle.cg_syntax.specs.Naming.{expanded_terms, uses, uses_all, uses_terms, uses_of, question_expanded}

abbrev Use : Type 0
Use = List ℕ × ℕ

-- ---- what can be written has no names

mutual
  writable_closed : (t : Tree) → IsWritable t → IsClosed t
  writable_closed (number below num den) w = tt
  writable_closed (ups down n) w = tt
  writable_closed (nimber n) w = tt
  writable_closed (switch num den) w = tt
  writable_closed (tiny miny num den) w = tt
  writable_closed (sides ls rs) w = (all_closed ls w.0, all_closed rs w.1)
  writable_closed (negative t) w = writable_closed t w
  writable_closed (multiple n t) w = writable_closed t w.1
  writable_closed (sum terms) w = sum_closed terms w
  writable_closed (game kind rules board) w = tt
  writable_closed (octal code heap) w = tt
  writable_closed (used word column) w = absurd w

  all_closed : (ts : Trees) → AreWritable ts → AreClosed ts
  all_closed no_trees w = tt
  all_closed (with_tree t ts) w = (writable_closed t w.0, all_closed ts w.1)

  sum_closed : (ts : Terms) → IsSum ts → AreClosedTerms ts
  sum_closed no_terms w = absurd w
  sum_closed (with_term minus t ts) w = (writable_closed t w.1, further_closed ts w.2)

  further_closed : (ts : Terms) → AreFurther ts → AreClosedTerms ts
  further_closed no_terms w = absurd w
  further_closed (with_term minus t ts) w = (writable_closed t w.0, terms_closed ts w.1)

  terms_closed : (ts : Terms) → AreTerms ts → AreClosedTerms ts
  terms_closed no_terms w = tt
  terms_closed (with_term minus t ts) w = (writable_closed t w.0, terms_closed ts w.1)

pub askable_closed : (q : Question) → IsAskable q → IsClosedQuestion q
askable_closed (value t) w = writable_closed t w
askable_closed (outcome t) w = writable_closed t w
askable_closed (stops t) w = writable_closed t w
askable_closed (mean t) w = writable_closed t w
askable_closed (temp t) w = writable_closed t w
askable_closed (thermo t) w = writable_closed t w
askable_closed (compare s t) w = (writable_closed s w.0, writable_closed t w.1)
askable_closed (proof s t) w = (writable_closed s w.0, writable_closed t w.1)
askable_closed (check s t text) w = (writable_closed s w.0.0, writable_closed t w.0.1)

-- ---- without names there is no use

none_and : (xs ys : List Use) → xs ≡ [] → ys ≡ [] → xs ++ ys ≡ []
none_and xs ys e f = ap (λ (z : List Use). z ++ ys) e ∙ f

none_of_both : (xs ys : List Use) → xs ++ ys ≡ [] → (xs ≡ []) × (ys ≡ [])
none_of_both [] ys e = (refl, e)
none_of_both (x ∷ xs) ys e = absurd cc

mutual
  no_uses : (t : Tree) → IsClosed t → uses t ≡ []
  no_uses (number below num den) w = refl
  no_uses (ups down n) w = refl
  no_uses (nimber n) w = refl
  no_uses (switch num den) w = refl
  no_uses (tiny miny num den) w = refl
  no_uses (sides ls rs) w = none_and (uses_all ls) (uses_all rs) (no_uses_all ls w.0) (no_uses_all rs w.1)
  no_uses (negative t) w = no_uses t w
  no_uses (multiple n t) w = no_uses t w
  no_uses (sum terms) w = no_uses_terms terms w
  no_uses (game kind rules board) w = refl
  no_uses (octal code heap) w = refl
  no_uses (used word column) w = absurd w

  no_uses_all : (ts : Trees) → AreClosed ts → uses_all ts ≡ []
  no_uses_all no_trees w = refl
  no_uses_all (with_tree t ts) w = none_and (uses t) (uses_all ts) (no_uses t w.0) (no_uses_all ts w.1)

  no_uses_terms : (ts : Terms) → AreClosedTerms ts → uses_terms ts ≡ []
  no_uses_terms no_terms w = refl
  no_uses_terms (with_term minus t ts) w = none_and (uses t) (uses_terms ts) (no_uses t w.0) (no_uses_terms ts w.1)

no_uses_of : (ts : List Tree) → EachIs IsClosed ts → uses_of ts ≡ []
no_uses_of [] w = refl
no_uses_of (t ∷ []) w = none_and (uses t) [] (no_uses t w) refl
no_uses_of (s ∷ t ∷ ts) w = none_and (uses s) (uses_of (t ∷ ts)) (no_uses s w.0) (no_uses_of (t ∷ ts) w.1)

pub closed_unused : (q : Question) → IsClosedQuestion q → uses_of (trees_of_question q) ≡ []
closed_unused q w = no_uses_of (trees_of_question q) w

-- ---- the expressions of a question, expanded

pub expanded_trees : (bs : Bindings) (q : Question) → trees_of_question (question_expanded bs q) ≡ map (expanded bs) (trees_of_question q)
expanded_trees bs (value t) = refl
expanded_trees bs (outcome t) = refl
expanded_trees bs (stops t) = refl
expanded_trees bs (mean t) = refl
expanded_trees bs (temp t) = refl
expanded_trees bs (thermo t) = refl
expanded_trees bs (compare s t) = refl
expanded_trees bs (proof s t) = refl
expanded_trees bs (check s t text) = refl

-- ---- without a use nothing is replaced

mutual
  same : (bs : Bindings) (t : Tree) → uses t ≡ [] → expanded bs t ≡ t
  same bs (number below num den) u = refl
  same bs (ups down n) u = refl
  same bs (nimber n) u = refl
  same bs (switch num den) u = refl
  same bs (tiny miny num den) u = refl
  same bs (sides ls rs) u =
      let p = none_of_both (uses_all ls) (uses_all rs) u in
      ap (λ (z : Trees). sides z (expanded_all bs rs)) (same_all bs ls p.0) ∙ ap (λ (z : Trees). sides ls z) (same_all bs rs p.1)
  same bs (negative t) u = ap negative (same bs t u)
  same bs (multiple n t) u = ap (multiple n) (same bs t u)
  same bs (sum terms) u = ap sum (same_terms bs terms u)
  same bs (game kind rules board) u = refl
  same bs (octal code heap) u = refl
  same bs (used word column) u = absurd cc

  same_all : (bs : Bindings) (ts : Trees) → uses_all ts ≡ [] → expanded_all bs ts ≡ ts
  same_all bs no_trees u = refl
  same_all bs (with_tree t ts) u =
      let p = none_of_both (uses t) (uses_all ts) u in
      ap (λ (z : Tree). with_tree z (expanded_all bs ts)) (same bs t p.0) ∙ ap (λ (z : Trees). with_tree t z) (same_all bs ts p.1)

  same_terms : (bs : Bindings) (ts : Terms) → uses_terms ts ≡ [] → expanded_terms bs ts ≡ ts
  same_terms bs no_terms u = refl
  same_terms bs (with_term minus t ts) u =
      let p = none_of_both (uses t) (uses_terms ts) u in
      ap (λ (z : Tree). with_term minus z (expanded_terms bs ts)) (same bs t p.0) ∙ ap (λ (z : Terms). with_term minus t z) (same_terms bs ts p.1)

only : (bs : Bindings) (t : Tree) → uses_of (t ∷ []) ≡ [] → expanded bs t ≡ t
only bs t u = same bs t (none_of_both (uses t) [] u).0

pub same_expression : (bs : Bindings) (t : Tree) → uses_of (t ∷ []) ≡ [] → expanded bs t ≡ t
same_expression = only

both : (bs : Bindings) (s t : Tree) (Q : Tree → Tree → Question) → uses_of (s ∷ t ∷ []) ≡ [] → Q (expanded bs s) (expanded bs t) ≡ Q s t
both bs s t Q u =
    let p = none_of_both (uses s) (uses_of (t ∷ [])) u in
    ap (λ (z : Tree). Q z (expanded bs t)) (same bs s p.0) ∙ ap (λ (z : Tree). Q s z) (only bs t p.1)

pub same_question : (bs : Bindings) (q : Question) → uses_of (trees_of_question q) ≡ [] → question_expanded bs q ≡ q
same_question bs (value t) u = ap value (only bs t u)
same_question bs (outcome t) u = ap outcome (only bs t u)
same_question bs (stops t) u = ap stops (only bs t u)
same_question bs (mean t) u = ap mean (only bs t u)
same_question bs (temp t) u = ap temp (only bs t u)
same_question bs (thermo t) u = ap thermo (only bs t u)
same_question bs (compare s t) u = both bs s t compare u
same_question bs (proof s t) u = both bs s t proof u
same_question bs (check s t text) u = both bs s t (λ x y. check x y text) u

-- ---- no names are bound

mutual
  pub bare : (t : Tree) → expanded [] t ≡ t
  bare (number below num den) = refl
  bare (ups down n) = refl
  bare (nimber n) = refl
  bare (switch num den) = refl
  bare (tiny miny num den) = refl
  bare (sides ls rs) = ap (λ (z : Trees). sides z (expanded_all [] rs)) (bare_all ls) ∙ ap (λ (z : Trees). sides ls z) (bare_all rs)
  bare (negative t) = ap negative (bare t)
  bare (multiple n t) = ap (multiple n) (bare t)
  bare (sum terms) = ap sum (bare_terms terms)
  bare (game kind rules board) = refl
  bare (octal code heap) = refl
  bare (used word column) = refl

  bare_all : (ts : Trees) → expanded_all [] ts ≡ ts
  bare_all no_trees = refl
  bare_all (with_tree t ts) = ap (λ (z : Tree). with_tree z (expanded_all [] ts)) (bare t) ∙ ap (λ (z : Trees). with_tree t z) (bare_all ts)

  bare_terms : (ts : Terms) → expanded_terms [] ts ≡ ts
  bare_terms no_terms = refl
  bare_terms (with_term minus t ts) = ap (λ (z : Tree). with_term minus z (expanded_terms [] ts)) (bare t) ∙ ap (λ (z : Terms). with_term minus t z)
      (bare_terms ts)
