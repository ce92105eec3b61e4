-- How high trees are, and what is said of each tree of a question.
use Rattle.std.specs.Prelude.{ℕ, suc, max, List, [], ◌∷◌}
use Rattle.cg_query.specs.Tree.{Tree, Trees, Terms, Question, sides, negative, multiple, sum, no_trees, with_tree}
use Rattle.cg_query.specs.Tree.{no_terms, with_term, value, compare, outcome, stops, mean, temp, thermo, proof, check}

abbrev mutual
  -- the most nodes on one path of the tree
  pub height : Tree → ℕ
  height (sides lefts rights) = suc (max (heights lefts) (heights rights))
  height (negative t) = suc (height t)
  height (multiple n t) = suc (height t)
  height (sum terms) = suc (term_heights terms)
  height _ = 1

  pub heights : Trees → ℕ
  heights no_trees = 0
  heights (with_tree t ts) = max (height t) (heights ts)

  pub term_heights : Terms → ℕ
  term_heights no_terms = 0
  term_heights (with_term minus t ts) = max (height t) (term_heights ts)

-- the trees of a question, the first one first
abbrev pub trees_of_question : Question → List Tree
trees_of_question (value t) = t ∷ []
trees_of_question (outcome t) = t ∷ []
trees_of_question (stops t) = t ∷ []
trees_of_question (mean t) = t ∷ []
trees_of_question (temp t) = t ∷ []
trees_of_question (thermo t) = t ∷ []
trees_of_question (compare s t) = s ∷ t ∷ []
trees_of_question (proof s t) = s ∷ t ∷ []
trees_of_question (check s t text) = s ∷ t ∷ []

-- each of these trees
abbrev pub EachIs : (Tree → Type 0) → List Tree → Type 0
EachIs P [] = Unit {0}
EachIs P (t ∷ []) = P t
EachIs P (s ∷ t ∷ ts) = P s × EachIs P (t ∷ ts)

-- each tree of the question
abbrev pub QuestionIs : (Tree → Type 0) → Question → Type 0
QuestionIs P q = EachIs P (trees_of_question q)
