-- No question of a session has a name.
use Rattle.std.proofs.Common.{◌≡◌, refl, sym, subst, ℕ, Bool, true, false, cond, ◌&&◌, List, [], ◌∷◌, ◌++◌, map, Option, Some, None}
use Rattle.std.specs.Str.{bytes_eq}
use Rattle.cg_query.specs.Tree.{Tree, Trees, Terms, Question, Statement, asks, defines, number, ups, nimber, switch, tiny, sides, negative, multiple, sum, game}
use Rattle.cg_query.specs.Tree.{octal, used, no_trees, with_tree, no_terms, with_term, value}
use Rattle.cg_query.specs.Heights.{EachIs, trees_of_question}
use Rattle.cg_syntax.specs.Naming.{AreClosed, AreClosedTerms, Bindings, IsClosed, IsClosedQuestion, are_too_large, bound_to}
use Rattle.cg_syntax.specs.Naming.{expanded, expanded_all, expanded_terms, first_unknown, or_use, question_asked}
use Rattle.cg_syntax.specs.Naming.{question_expanded, unless_bound, uses, uses_all, uses_of, uses_terms}
use Rattle.cg_syntax.specs.Session.{AreClosedLines, AreLines, IsClosedLine, IsLine, IsSession, Resolved, Asked_of}
use Rattle.cg_syntax.specs.Session.{Too_large, after, bound_by, by_names, has_some, next, none, refused, resolved, stated}
use Rattle.cg_syntax.proofs.Closed.{expanded_trees}
use Rattle.cg_query.specs.declared.format.Format.{Format}

abbrev Use : Type 0
Use = List ℕ × ℕ

-- each name is bound to an expression without names
abbrev AreClosedBindings : Bindings → Type 0
AreClosedBindings [] = Unit {0}
AreClosedBindings (b ∷ bs) = IsClosed b.1 × AreClosedBindings bs

-- what a name is bound to has no names
abbrev IsClosedOption : Option Tree → Type 0
IsClosedOption None = Unit {0}
IsClosedOption (Some t) = IsClosed t

bound_closed : (bs : Bindings) → AreClosedBindings bs → (word : List ℕ) → IsClosedOption (bound_to bs word)
bound_closed [] a word = tt
bound_closed (b ∷ bs) a word = by (bytes_eq b.0 word) (bound_closed bs a.1 word)
  where
    by : (t : Bool) → IsClosedOption (bound_to bs word) → IsClosedOption (cond t (Some b.1) (bound_to bs word))
    by true c = a.0
    by false c = c

-- ---- expressions in which each name that is used is bound

known_parts : (bs : Bindings) (us vs : List Use) → first_unknown bs (us ++ vs) ≡ None → (first_unknown bs us ≡ None) × (first_unknown bs vs ≡ None)
known_parts bs [] vs e = (refl, e)
known_parts bs (u ∷ us) vs e = by (bound_to bs u.0) (known_parts bs us vs) e
  where
    by : (o : Option Tree) → (first_unknown bs (us ++ vs) ≡ None → (first_unknown bs us ≡ None) × (first_unknown bs vs ≡ None))
        → unless_bound o u.1 (first_unknown bs (us ++ vs)) ≡ None
        → (unless_bound o u.1 (first_unknown bs us) ≡ None) × (first_unknown bs vs ≡ None)
    by None f e = absurd cc
    by (Some t) f e = f e

use_closed : (word : List ℕ) (column : ℕ) (o : Option Tree) → IsClosedOption o → unless_bound o column None ≡ None → IsClosed (or_use word column o)
use_closed word column None c e = absurd cc
use_closed word column (Some t) c e = c

module _ (bs : Bindings) (closed : AreClosedBindings bs) where
  mutual
    tree_closed : (t : Tree) → first_unknown bs (uses t) ≡ None → IsClosed (expanded bs t)
    tree_closed (number below num den) e = tt
    tree_closed (ups down n) e = tt
    tree_closed (nimber n) e = tt
    tree_closed (switch num den) e = tt
    tree_closed (tiny miny num den) e = tt
    tree_closed (sides ls rs) e = let p = known_parts bs (uses_all ls) (uses_all rs) e in (trees_closed ls p.0, trees_closed rs p.1)
    tree_closed (negative t) e = tree_closed t e
    tree_closed (multiple n t) e = tree_closed t e
    tree_closed (sum terms) e = terms_closed terms e
    tree_closed (game kind rules board) e = tt
    tree_closed (octal code heap) e = tt
    tree_closed (used word column) e = use_closed word column (bound_to bs word) (bound_closed bs closed word) e

    trees_closed : (ts : Trees) → first_unknown bs (uses_all ts) ≡ None → AreClosed (expanded_all bs ts)
    trees_closed no_trees e = tt
    trees_closed (with_tree t ts) e = let p = known_parts bs (uses t) (uses_all ts) e in (tree_closed t p.0, trees_closed ts p.1)

    terms_closed : (ts : Terms) → first_unknown bs (uses_terms ts) ≡ None → AreClosedTerms (expanded_terms bs ts)
    terms_closed no_terms e = tt
    terms_closed (with_term minus t ts) e = let p = known_parts bs (uses t) (uses_terms ts) e in (tree_closed t p.0, terms_closed ts p.1)

  each_closed : (ts : List Tree) → first_unknown bs (uses_of ts) ≡ None → EachIs IsClosed (map (expanded bs) ts)
  each_closed [] e = tt
  each_closed (t ∷ []) e = tree_closed t (known_parts bs (uses t) [] e).0
  each_closed (s ∷ t ∷ ts) e = let p = known_parts bs (uses s) (uses_of (t ∷ ts)) e in (tree_closed s p.0, each_closed (t ∷ ts) p.1)

  question_closed : (q : Question) → first_unknown bs (uses_of (trees_of_question q)) ≡ None → IsClosedQuestion (question_expanded bs q)
  question_closed q e =
      subst (λ (ts : List Tree). EachIs IsClosed ts) (sym (expanded_trees bs q)) (each_closed (trees_of_question q) e)

  -- ---- lines

  size_closed : (q : Question) (b : Bool) → IsClosedQuestion (question_expanded bs q)
      → IsClosedLine (cond b Too_large (Asked_of (question_expanded bs q)))
  size_closed q true c = tt
  size_closed q false c = c

  resolved_closed : (q : Question) → IsClosedLine (resolved bs q)
  resolved_closed q = by (first_unknown bs (uses_of (trees_of_question q))) refl
    where
      by : (o : Option ℕ) → first_unknown bs (uses_of (trees_of_question q)) ≡ o → IsClosedLine (by_names bs q o)
      by (Some c) e = tt
      by None e = size_closed q (has_some (uses_of (trees_of_question q)) && are_too_large (trees_of_question (question_expanded bs q)))
          (question_closed q e)

  -- a question that isn't refused has its expressions expanded
  defined_closed : (word : List ℕ) (t : Tree) → AreClosedBindings (bound_by bs word t (resolved bs (value t)))
  defined_closed word t = by (first_unknown bs (uses_of (t ∷ []))) refl
    where
      large : (b : Bool) → IsClosed (expanded bs t) → AreClosedBindings (bound_by bs word t (cond b Too_large (Asked_of (value (expanded bs t)))))
      large true c = closed
      large false c = (c, closed)

      by : (o : Option ℕ) → first_unknown bs (uses_of (t ∷ [])) ≡ o → AreClosedBindings (bound_by bs word t (by_names bs (value t) o))
      by (Some c) e = closed
      by None e = large (has_some (uses_of (t ∷ [])) && are_too_large (trees_of_question (question_expanded bs (value t)))) (each_closed (t ∷ []) e)

  after_closed : (s : Statement) → AreClosedBindings (after bs s)
  after_closed (asks q) = closed
  after_closed (defines word t) = defined_closed word t

-- what is made of a line has no names, and the bindings behind it have none
line_closed : (format : Format) (before : Bindings) (text : List ℕ) (r : Resolved) (behind : Bindings) → AreClosedBindings before
    → IsLine format before text r behind → IsClosedLine r × AreClosedBindings behind
line_closed format before text r behind c (stated s is) = (resolved_closed before c (question_asked s), after_closed before c s)
line_closed format before text r behind c (refused column is) = (tt, c)

lines_closed : (format : Format) (before : Bindings) (lines : List (ℕ × List ℕ)) (rs : List (ℕ × Resolved)) → AreClosedBindings before
    → AreLines format before lines rs → AreClosedLines rs
lines_closed format before lines rs c (none bindings) = tt
lines_closed format before lines rs c (next b between n text r more others is are) =
    let l = line_closed format b text r between c is in (l.0, lines_closed format between more others l.1 are)

pub session_closed : (text : List ℕ) (rs : List (ℕ × Resolved)) → IsSession text rs → AreClosedLines rs
session_closed text rs is = lines_closed _ [] _ rs tt is
