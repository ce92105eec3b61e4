-- What the pieces of an expression spell, from what their parts spell.
use Rattle.std.specs.Prelude.{ℕ, Bool, true, false, cond, List, [], ◌∷◌, ◌++◌, Option, Some, None}
use Rattle.cg_reading.specs.Bytes.{Class}
use Rattle.cg_reading.specs.Pieces.{more_of}
use Rattle.cg_reading.specs.Tokens.{only}
use Rattle.cg_query.specs.Tree.{Tree, Question, number, ups, negative, multiple, sum, game, terms_from, check, asks, defines}
use Rattle.cg_grammar.specs.Found.{Found, Asked, Stated, first}
use Rattle.cg_grammar.specs.Braces.{Run_side, row_tree, row_fault}
use Rattle.cg_query.specs.declared.kind.GameKind.{GameKind}
use Rattle.cg_query.specs.declared.kind.GameKind.TheVariants.{Strip, Hackenbush}

-- a tree in which no run of bars repeats an earlier one
abbrev pub clean : Tree → Found
clean t = record { tree = t; fault = None }

abbrev pub negated : Found → Found
negated e = record { tree = negative e.tree; fault = e.fault }

-- ---- ups and downs

-- ups or downs: a run of arrows, or one arrow and a count
pub record Arrows : Type 0 where
  pub down : Bool
  pub count : ℕ
  pub is_run : Bool

abbrev pub ups_tree : Arrows → Tree
ups_tree a = ups a.down a.count

-- the bytes that would still belong to these arrows
abbrev pub more_arrows : Arrows → Class
more_arrows a = cond a.is_run (only (cond a.down 118 94)) []

-- ---- names

-- what a name has behind its first letter
abbrev pub letter_or_digit : Class
letter_or_digit = (97, 122) ∷ (48, 57) ∷ []

-- the bytes that would still belong to this name, which has at most sixteen
abbrev pub more_letters : List ℕ → Class
more_letters [] = []
more_letters (b ∷ bs) = more_of letter_or_digit 15 bs

-- ---- what stands together is added

abbrev pub some_term : Option Tree → List (Bool × Tree)
some_term None = []
some_term (Some t) = (false, t) ∷ []

abbrev pub together : Tree → List (Bool × Tree) → Tree
together t [] = t
together t (u ∷ us) = sum (terms_from ((false, t) ∷ u ∷ us))

-- an operand with the ups and the nimber that may stand together behind it
abbrev pub with_tail : Found → Option Tree × Option Tree → Found
with_tail e v = record { tree = together e.tree (some_term v.0 ++ some_term v.1); fault = e.fault }

-- ---- numbers and multiples

-- what an operand ends in, where it is a token that may go on: arrows, or a name
pub data Last : Type 0 where
  In_none : Last
  In_arrows : Arrows → Last
  In_name : List ℕ → Last

-- the bytes that would still belong to an operand
abbrev pub goes_on : Last → Class
goes_on In_none = []
goes_on (In_arrows a) = more_arrows a
goes_on (In_name word) = more_letters word

-- a number by its numerator and denominator, or so many times an operand
pub data Counted : Type 0 where
  whole : ℕ → ℕ → Counted
  times : ℕ → Found → Last → Counted

-- and to a number or a multiple
abbrev pub counted_goes_on : Counted → Class
counted_goes_on (whole n d) = []
counted_goes_on (times n e last) = goes_on last

abbrev pub times_of : Bool → ℕ → Found → Found
times_of false n e = record { tree = multiple n e.tree; fault = e.fault }
times_of true n e = record { tree = negative (multiple n e.tree); fault = e.fault }

-- A minus directly before a number is a part of the number. A signed multiple is the negative of the multiple.
abbrev pub counted_of : Bool → Counted → Found
counted_of below (whole n d) = clean (number below n d)
counted_of below (times n e last) = times_of below n e

-- ---- sums

abbrev pub minus_of : List (Bool × Found) → List (Bool × Tree)
minus_of [] = []
minus_of (v ∷ vs) = (v.0, v.1.tree) ∷ minus_of vs

abbrev pub first_fault : List (Bool × Found) → Option ℕ
first_fault [] = None
first_fault (v ∷ vs) = first v.1.fault (first_fault vs)

-- an expression of one term is that term
abbrev pub sum_of : Found → List (Bool × Found) → Found
sum_of e [] = e
sum_of e (v ∷ vs) = record { tree = sum (terms_from ((false, e.tree) ∷ minus_of (v ∷ vs))); fault = first e.fault (first_fault (v ∷ vs)) }

-- ---- braces

abbrev pub run_side : (ℕ × ℕ) × List Found → Run_side
run_side r = record { column = r.0.0; bars = r.0.1; side = r.1 }

abbrev pub braces_of : List Found → List Run_side → Found
braces_of s rows = record { tree = row_tree s rows; fault = row_fault s rows }

-- ---- boards

-- the edges of Hackenbush, or the board of another game that is written by one text
abbrev pub one_text : GameKind → List ℕ → Tree
one_text Hackenbush text = game Hackenbush text []
one_text kind text = game kind [] text

-- the rules and the row of a strip, or the vertices and the edges of another game that is written by two texts
abbrev pub two_texts : GameKind → List ℕ → List ℕ → Tree
two_texts Strip first second = game Strip first second
two_texts kind first second = game kind second first

-- ---- questions

abbrev pub asked_of : (Tree → Question) → Found → Asked
asked_of ask e = record { question = ask e.tree; fault = e.fault }

abbrev pub asked_of_both : (Tree → Tree → Question) → Found → Found → Asked
asked_of_both ask e f = record { question = ask e.tree f.tree; fault = first e.fault f.fault }

abbrev pub checked : Found → Found → List ℕ → Asked
checked e f text = record { question = check e.tree f.tree text; fault = first e.fault f.fault }

-- ---- lines

abbrev pub asking : Asked → Stated
asking a = record { statement = asks a.question; fault = a.fault }

abbrev pub defined : List ℕ → Found → Stated
defined word e = record { statement = defines word e.tree; fault = e.fault }
