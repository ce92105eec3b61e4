-- Names, what they are bound to, and expressions in which each use of a name is replaced.
use Rattle.std.specs.Prelude.{ℕ, suc, ◌+◌, length, ltb, Bool, false, cond, ◌||◌, List, [], ◌∷◌, ◌++◌, Option, Some, None}
use Rattle.std.specs.Str.{bytes_eq}
use Rattle.cg_query.specs.Tree.{Tree, Trees, Terms, Question, Statement, number, ups, nimber, switch, tiny, sides, negative, multiple, sum, game, octal, used}
use Rattle.cg_query.specs.Tree.{no_trees, with_tree, no_terms, with_term, value, compare, outcome, stops, mean, temp, thermo, proof, check, asks, defines}
use Rattle.cg_query.specs.Heights.{QuestionIs, height}

-- names with the expressions that they are bound to, the last binding first
abbrev pub Bindings : Type 0
Bindings = List (List ℕ × Tree)

-- what the last binding of a name binds it to
abbrev pub bound_to : Bindings → List ℕ → Option Tree
bound_to [] word = None
bound_to (b ∷ bindings) word = cond (bytes_eq b.0 word) (Some b.1) (bound_to bindings word)

-- what stands in the place of a use
abbrev pub or_use : List ℕ → ℕ → Option Tree → Tree
or_use word column None = used word column
or_use word column (Some t) = t

-- each use replaced by what its name is bound to
abbrev mutual
  pub expanded : Bindings → Tree → Tree
  expanded bindings (number below num den) = number below num den
  expanded bindings (ups down n) = ups down n
  expanded bindings (nimber n) = nimber n
  expanded bindings (switch num den) = switch num den
  expanded bindings (tiny miny num den) = tiny miny num den
  expanded bindings (sides lefts rights) = sides (expanded_all bindings lefts) (expanded_all bindings rights)
  expanded bindings (negative t) = negative (expanded bindings t)
  expanded bindings (multiple n t) = multiple n (expanded bindings t)
  expanded bindings (sum terms) = sum (expanded_terms bindings terms)
  expanded bindings (game kind rules board) = game kind rules board
  expanded bindings (octal code heap) = octal code heap
  expanded bindings (used word column) = or_use word column (bound_to bindings word)

  pub expanded_all : Bindings → Trees → Trees
  expanded_all bindings no_trees = no_trees
  expanded_all bindings (with_tree t ts) = with_tree (expanded bindings t) (expanded_all bindings ts)

  pub expanded_terms : Bindings → Terms → Terms
  expanded_terms bindings no_terms = no_terms
  expanded_terms bindings (with_term minus t ts) = with_term minus (expanded bindings t) (expanded_terms bindings ts)

-- the uses of names in a tree, from the left
abbrev mutual
  pub uses : Tree → List (List ℕ × ℕ)
  uses (sides lefts rights) = uses_all lefts ++ uses_all rights
  uses (negative t) = uses t
  uses (multiple n t) = uses t
  uses (sum terms) = uses_terms terms
  uses (used word column) = (word, column) ∷ []
  uses _ = []

  pub uses_all : Trees → List (List ℕ × ℕ)
  uses_all no_trees = []
  uses_all (with_tree t ts) = uses t ++ uses_all ts

  pub uses_terms : Terms → List (List ℕ × ℕ)
  uses_terms no_terms = []
  uses_terms (with_term minus t ts) = uses t ++ uses_terms ts

-- no use of a name
abbrev mutual
  pub IsClosed : Tree → Type 0
  IsClosed (sides lefts rights) = AreClosed lefts × AreClosed rights
  IsClosed (negative t) = IsClosed t
  IsClosed (multiple n t) = IsClosed t
  IsClosed (sum terms) = AreClosedTerms terms
  IsClosed (used word column) = ⊥
  IsClosed _ = Unit {0}

  pub AreClosed : Trees → Type 0
  AreClosed no_trees = Unit {0}
  AreClosed (with_tree t ts) = IsClosed t × AreClosed ts

  pub AreClosedTerms : Terms → Type 0
  AreClosedTerms no_terms = Unit {0}
  AreClosedTerms (with_term minus t ts) = IsClosed t × AreClosedTerms ts

-- a question without names
abbrev pub IsClosedQuestion : Question → Type 0
IsClosedQuestion q = QuestionIs IsClosed q

-- the column of a use, unless its name is bound; else what comes behind it
abbrev pub unless_bound : Option Tree → ℕ → Option ℕ → Option ℕ
unless_bound None column later = Some column
unless_bound (Some t) column later = later

-- the column of the first use of a name that is bound to nothing
abbrev pub first_unknown : Bindings → List (List ℕ × ℕ) → Option ℕ
first_unknown bindings [] = None
first_unknown bindings (u ∷ us) = unless_bound (bound_to bindings u.0) u.1 (first_unknown bindings us)

-- the parts of an expression: the nodes of its tree, and one more for each byte of a board's two texts
abbrev mutual
  pub parts : Tree → ℕ
  parts (sides lefts rights) = suc (parts_all lefts + parts_all rights)
  parts (negative t) = suc (parts t)
  parts (multiple n t) = suc (parts t)
  parts (sum terms) = suc (parts_terms terms)
  parts (game kind rules board) = suc (length rules + length board)
  parts _ = 1

  pub parts_all : Trees → ℕ
  parts_all no_trees = 0
  parts_all (with_tree t ts) = parts t + parts_all ts

  pub parts_terms : Terms → ℕ
  parts_terms no_terms = 0
  parts_terms (with_term minus t ts) = parts t + parts_terms ts

-- ---- statements

-- the question about expanded expressions
abbrev pub question_expanded : Bindings → Question → Question
question_expanded bindings (value t) = value (expanded bindings t)
question_expanded bindings (outcome t) = outcome (expanded bindings t)
question_expanded bindings (stops t) = stops (expanded bindings t)
question_expanded bindings (mean t) = mean (expanded bindings t)
question_expanded bindings (temp t) = temp (expanded bindings t)
question_expanded bindings (thermo t) = thermo (expanded bindings t)
question_expanded bindings (compare s t) = compare (expanded bindings s) (expanded bindings t)
question_expanded bindings (proof s t) = proof (expanded bindings s) (expanded bindings t)
question_expanded bindings (check s t text) = check (expanded bindings s) (expanded bindings t) text

-- what a statement asks: a definition asks for the value of its expression
abbrev pub question_asked : Statement → Question
question_asked (asks q) = q
question_asked (defines word t) = value t

abbrev pub uses_of : List Tree → List (List ℕ × ℕ)
uses_of [] = []
uses_of (t ∷ ts) = uses t ++ uses_of ts

abbrev pub sum_of_parts : List Tree → ℕ
sum_of_parts [] = 0
sum_of_parts (t ∷ ts) = parts t + sum_of_parts ts

-- whether some tree has more than 1,024 nodes on a path
abbrev pub is_some_high : List Tree → Bool
is_some_high [] = false
is_some_high (t ∷ ts) = ltb 1024 (height t) || is_some_high ts

-- Whether expanded expressions are too large: they have more than 4,096 parts together, or one has more than 1,024 levels.
abbrev pub are_too_large : List Tree → Bool
are_too_large ts = ltb 4096 (sum_of_parts ts) || is_some_high ts
