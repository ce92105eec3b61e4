-- How questions are written: each brace with one bar, every other operand in parentheses, and each number with its
-- denominator.
use Rattle.std.specs.Prelude.{ℕ, suc, max, ◌≡◌, ◌<◌, Bool, true, false, cond, nat_lt, if◌then◌else◌, ◌^◌, List, [], ◌∷◌, ◌++◌, codes, decimal, replicate}
use Rattle.std.specs.List.{list_all}
use Rattle.cg_reading.specs.Bytes.{has}
use Rattle.cg_grammar.specs.Grammar.{printable}
use Rattle.cg_query.specs.Tree.{Tree, Trees, Terms, Question, number, ups, nimber, switch, tiny, sides, negative, multiple, sum, game, octal, used}
use Rattle.cg_query.specs.Tree.{no_trees, with_tree, no_terms, with_term, value, compare, outcome, stops, mean, temp, thermo, proof, check}
use Rattle.cg_query.specs.Heights.{QuestionIs, height, heights, term_heights}
use Rattle.cg_query.specs.declared.kind.GameKind.{GameKind}
use Rattle.cg_query.specs.declared.kind.GameKind.TheVariants.{Domineering, Clobber, Amazons, Toads, Strip, Hackenbush, Col, Snort}

abbrev pub fraction_text : ℕ → ℕ → List ℕ
fraction_text num den = decimal num ++ (codes "/" ++ decimal den)

-- an arrow with its count, or as a run where the count has more than thirty digits
abbrev pub ups_text : ℕ → ℕ → List ℕ
ups_text arrow n = if nat_lt n (10 ^ 30) then arrow ∷ decimal n else replicate n arrow

abbrev pub quoted : List ℕ → List ℕ
quoted text = 34 ∷ (text ++ (34 ∷ []))

abbrev pub kind_text : GameKind → List ℕ
kind_text Domineering = codes "Domineering"
kind_text Clobber = codes "Clobber"
kind_text Amazons = codes "Amazons"
kind_text Toads = codes "Toads"
kind_text Strip = codes "Strip"
kind_text Hackenbush = codes "Hackenbush"
kind_text Col = codes "Col"
kind_text Snort = codes "Snort"

abbrev pub two_quoted : List ℕ → List ℕ → List ℕ
two_quoted first second = quoted first ++ (44 ∷ quoted second)

-- what stands between the parentheses of a board, by its rules and its board
abbrev pub texts_of_game : GameKind → List ℕ → List ℕ → List ℕ
texts_of_game Hackenbush rules board = quoted rules
texts_of_game Strip rules board = two_quoted rules board
texts_of_game Col rules board = two_quoted board rules
texts_of_game Snort rules board = two_quoted board rules
texts_of_game _ rules board = quoted board

abbrev pub is_braces : Tree → Bool
is_braces (sides lefts rights) = true
is_braces _ = false

-- braces stand as they are, and any other operand in parentheses
abbrev pub enclosed_text : Bool → List ℕ → List ℕ
enclosed_text true text = text
enclosed_text false text = 40 ∷ (text ++ (41 ∷ []))

unfoldable mutual
  pub text_of : Tree → List ℕ
  text_of (number below num den) = cond below (codes "-") [] ++ fraction_text num den
  text_of (ups down n) = ups_text (cond down 118 94) n
  text_of (nimber n) = 42 ∷ decimal n
  text_of (switch num den) = codes "+-" ++ fraction_text num den
  text_of (tiny miny num den) = cond miny (codes "Miny(") (codes "Tiny(") ++ (fraction_text num den ++ codes ")")
  text_of (sides lefts rights) = 123 ∷ (texts_of lefts ++ (codes "| " ++ (texts_of rights ++ (125 ∷ []))))
  text_of (negative t) = 45 ∷ enclosed_text (is_braces t) (text_of t)
  text_of (multiple n t) = decimal n ++ (46 ∷ enclosed_text (is_braces t) (text_of t))
  text_of (sum terms) = terms_text terms
  text_of (game kind rules board) = kind_text kind ++ (40 ∷ (texts_of_game kind rules board ++ (41 ∷ [])))
  text_of (octal code heap) = codes "Octal(" ++ ((quoted code ++ (44 ∷ decimal heap)) ++ (41 ∷ []))
  text_of (used word column) = word

  -- expressions with commas between them
  pub texts_of : Trees → List ℕ
  texts_of no_trees = []
  texts_of (with_tree t ts) = text_of t ++ more_texts ts

  -- expressions, each behind a comma
  pub more_texts : Trees → List ℕ
  more_texts no_trees = []
  more_texts (with_tree t ts) = 44 ∷ (text_of t ++ more_texts ts)

  -- the terms of a sum, the first one without its sign
  pub terms_text : Terms → List ℕ
  terms_text no_terms = []
  terms_text (with_term minus t ts) = enclosed_text (is_braces t) (text_of t) ++ more_terms ts

  -- terms, each behind its sign
  pub more_terms : Terms → List ℕ
  more_terms no_terms = []
  more_terms (with_term minus t ts) = cond minus 45 43 ∷ (enclosed_text (is_braces t) (text_of t) ++ more_terms ts)

abbrev pub asked_text : Question → List ℕ
asked_text (value t) = codes "value " ++ text_of t
asked_text (outcome t) = codes "outcome " ++ text_of t
asked_text (stops t) = codes "stops " ++ text_of t
asked_text (mean t) = codes "mean " ++ text_of t
asked_text (temp t) = codes "temp " ++ text_of t
asked_text (thermo t) = codes "thermo " ++ text_of t
asked_text (compare s t) = codes "compare " ++ (text_of s ++ (codes ";" ++ text_of t))
asked_text (proof s t) = codes "proof " ++ (text_of s ++ (codes ";" ++ text_of t))
asked_text (check s t text) = codes "check " ++ ((text_of s ++ (codes ";" ++ text_of t)) ++ (codes ";" ++ quoted text))

-- ---- what can be written

-- the most nodes on one path of what stands between the brackets that the tree itself opens
abbrev pub inner_height : Tree → ℕ
inner_height (sides lefts rights) = suc (max (heights lefts) (heights rights))
inner_height (negative t) = height t
inner_height (multiple n t) = height t
inner_height (sum terms) = term_heights terms
inner_height _ = 0

abbrev pub IsPrintable : List ℕ → Type 0
IsPrintable text = list_all (has printable) text ≡ true

-- which texts a game has; those that it has may stand between quotation marks
abbrev pub AreTexts : GameKind → List ℕ → List ℕ → Type 0
AreTexts Hackenbush rules board = IsPrintable rules × (board ≡ [])
AreTexts Strip rules board = IsPrintable rules × IsPrintable board
AreTexts Col rules board = IsPrintable rules × IsPrintable board
AreTexts Snort rules board = IsPrintable rules × IsPrintable board
AreTexts _ rules board = (rules ≡ []) × IsPrintable board

-- each run of digits has thirty of them at most, each sum two terms, the first of which isn't subtracted, each text of a
-- board may stand between quotation marks, and there are no names
abbrev mutual
  pub IsWritable : Tree → Type 0
  IsWritable (number below num den) = (num < 10 ^ 30) × (den < 10 ^ 30)
  IsWritable (ups down n) = Unit {0}
  IsWritable (nimber n) = n < 10 ^ 30
  IsWritable (switch num den) = (num < 10 ^ 30) × (den < 10 ^ 30)
  IsWritable (tiny miny num den) = (num < 10 ^ 30) × (den < 10 ^ 30)
  IsWritable (sides lefts rights) = AreWritable lefts × AreWritable rights
  IsWritable (negative t) = IsWritable t
  IsWritable (multiple n t) = (n < 10 ^ 30) × IsWritable t
  IsWritable (sum terms) = IsSum terms
  IsWritable (game kind rules board) = AreTexts kind rules board
  IsWritable (octal code heap) = IsPrintable code × (heap < 10 ^ 30)
  IsWritable (used word column) = ⊥

  pub AreWritable : Trees → Type 0
  AreWritable no_trees = Unit {0}
  AreWritable (with_tree t ts) = IsWritable t × AreWritable ts

  pub IsSum : Terms → Type 0
  IsSum no_terms = ⊥
  IsSum (with_term minus t ts) = (minus ≡ false) × IsWritable t × AreFurther ts

  -- one term at least
  pub AreFurther : Terms → Type 0
  AreFurther no_terms = ⊥
  AreFurther (with_term minus t ts) = IsWritable t × AreTerms ts

  pub AreTerms : Terms → Type 0
  AreTerms no_terms = Unit {0}
  AreTerms (with_term minus t ts) = IsWritable t × AreTerms ts

-- each tree of the question, and the text that it checks
abbrev pub IsAskable : Question → Type 0
IsAskable (check s t text) = (IsWritable s × IsWritable t) × IsPrintable text
IsAskable q = QuestionIs IsWritable q
