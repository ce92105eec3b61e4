-- Expressions and questions, without where they lie in memory.
use Rattle.std.specs.Prelude.{ℕ, Bool, List, [], ◌∷◌}
use Rattle.cg_query.specs.declared.kind.GameKind.{GameKind}

mutual
  -- an expression
  pub data Tree : Type 0 where
    -- a number: whether a minus stands in front, and its numerator and denominator
    number : Bool → ℕ → ℕ → Tree
    -- so many ups, or downs
    ups : Bool → ℕ → Tree
    nimber : ℕ → Tree
    -- the switch of a numerator and denominator
    switch : ℕ → ℕ → Tree
    -- tiny of a numerator and denominator, or miny
    tiny : Bool → ℕ → ℕ → Tree
    -- Left options and Right options
    sides : Trees → Trees → Tree
    negative : Tree → Tree
    -- so many times a tree
    multiple : ℕ → Tree → Tree
    sum : Terms → Tree
    -- A position of a game: the text of its rules and that of its board. In Hackenbush, Col and Snort the edges are the
    -- rules, and in Col and Snort the vertices are the board.
    game : GameKind → List ℕ → List ℕ → Tree
    -- a heap of so many tokens in the octal game of this code
    octal : List ℕ → ℕ → Tree
    -- a use of a name, with the column where it stands
    used : List ℕ → ℕ → Tree

  -- a list of trees
  pub data Trees : Type 0 where
    no_trees : Trees
    with_tree : Tree → Trees → Trees

  -- the terms of a sum, each with whether it is subtracted
  pub data Terms : Type 0 where
    no_terms : Terms
    with_term : Bool → Tree → Terms → Terms

-- these trees in order
abbrev pub trees_from : List Tree → Trees
trees_from [] = no_trees
trees_from (t ∷ ts) = with_tree t (trees_from ts)

-- these terms in order
abbrev pub terms_from : List (Bool × Tree) → Terms
terms_from [] = no_terms
terms_from (t ∷ ts) = with_term t.0 t.1 (terms_from ts)

-- the braces {lefts | rights}
abbrev pub braces : List Tree → List Tree → Tree
braces lefts rights = sides (trees_from lefts) (trees_from rights)

-- a question about one tree, or about two; check has the text of a proof beside them
pub data Question : Type 0 where
  value : Tree → Question
  compare : Tree → Tree → Question
  outcome : Tree → Question
  stops : Tree → Question
  mean : Tree → Question
  temp : Tree → Question
  thermo : Tree → Question
  proof : Tree → Tree → Question
  check : Tree → Tree → List ℕ → Question

-- what a line states: it asks a question, or it defines a name by an expression
pub data Statement : Type 0 where
  asks : Question → Statement
  defines : List ℕ → Tree → Statement
