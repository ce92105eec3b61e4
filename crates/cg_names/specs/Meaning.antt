-- What an expression means, as a game. Siegel, Combinatorial Game Theory (2013), I.1: braces, sums and negatives;
-- II.1 and II.4: nimbers, ups, switches, tinies.
use Rattle.std.specs.Prelude.{ℕ, zero, suc, ℤ, pos, ◌^◌, ◌==◌, Bool, false, cond, if◌then◌else◌, List, Option, Some, None}
use Rattle.cg_dyadic.specs.Number.{Number, is_in_range, ratio, whole}
use Rattle.cg_dyadic.specs.Exact.{signed_of}
use Rattle.cg_form.specs.Game.{Game, Games, options, none, more, number as plain_number}
use Rattle.cg_form.specs.Sum.{negative as minus, sum as plus}
use Rattle.cg_form.specs.Multiple.{multiple as many}
use Rattle.cg_names.specs.Named.{nimber_form, ups_form, switch_form, tiny_form}
use Rattle.cg_query.specs.declared.kind.GameKind.{GameKind}
use Rattle.cg_query.specs.Tree.{Tree, Trees, Terms, number, ups, nimber, switch, tiny, sides, negative}
use Rattle.cg_query.specs.Tree.{multiple, sum, game, octal, used, no_trees, with_tree, no_terms, with_term}

-- the exponent k of 2 ^ k, if the number is such a power with k at most n
unfoldable pub exponent_within : ℕ → ℕ → Option ℕ
exponent_within zero den = if den == 1 then Some 0 else None
exponent_within (suc n) den = if den == 2 ^ suc n then Some (suc n) else exponent_within n den

abbrev pub over : ℤ → Option ℕ → Option Number
over num None = None
over num (Some k) = Some (ratio num k)

-- num / den with this sign, where den is a power of two
unfoldable pub fraction : Bool → ℕ → ℕ → Option Number
fraction below num den = over (signed_of below num) (exponent_within den den)

abbrev pub kept_in_range : Option Number → Option Number
kept_in_range None = None
kept_in_range (Some x) = if is_in_range x then Some x else None

-- the number in range that a literal spells
unfoldable pub literal : Bool → ℕ → ℕ → Option Number
literal below num den = kept_in_range (fraction below num den)

abbrev pub or_zero : Option Number → Number
or_zero None = whole (pos 0)
or_zero (Some x) = x

-- the game, or its negative where it is subtracted
abbrev pub signed : Bool → Game → Game
signed subtracted g = cond subtracted (minus g) g

-- what positions mean: one on a board by its game, the text of its rules and that of its board, and a heap of an octal game
-- by the game's code and the number of tokens
pub record PositionForms : Type 0 where
  pub of_board : GameKind → List ℕ → List ℕ → Game
  pub of_heap : List ℕ → ℕ → Game

-- The meaning of an expression, where positions mean these games. A literal whose denominator is no power of two has no
-- meaning. It is refused before its meaning is asked for, and 0 stands for it here. Nor has a name: the expression that it
-- is bound to stands in its place before a meaning is asked for.
unfoldable mutual
  pub meaning : PositionForms → Tree → Game
  meaning forms (number below num den) = plain_number (or_zero (fraction below num den))
  meaning forms (ups down n) = ups_form down n
  meaning forms (nimber n) = nimber_form n
  meaning forms (switch num den) = switch_form (or_zero (fraction false num den))
  meaning forms (tiny miny num den) = tiny_form miny (or_zero (fraction false num den))
  meaning forms (sides lefts rights) = options (meanings forms lefts) (meanings forms rights)
  meaning forms (negative t) = minus (meaning forms t)
  meaning forms (multiple n t) = many n (meaning forms t)
  meaning forms (sum terms) = total forms terms
  meaning forms (game kind rules text) = forms.of_board kind rules text
  meaning forms (octal code heap) = forms.of_heap code heap
  meaning forms (used word column) = plain_number (whole (pos 0))

  pub meanings : PositionForms → Trees → Games
  meanings forms no_trees = none
  meanings forms (with_tree t ts) = more (meaning forms t) (meanings forms ts)

  -- the sum of the terms, from the first one on
  pub total : PositionForms → Terms → Game
  total forms no_terms = plain_number (whole (pos 0))
  total forms (with_term subtracted t ts) = total_with forms (signed subtracted (meaning forms t)) ts

  -- the sum of the game and the terms
  pub total_with : PositionForms → Game → Terms → Game
  total_with forms g no_terms = g
  total_with forms g (with_term subtracted t ts) =
      total_with forms (plus g (signed subtracted (meaning forms t))) ts
