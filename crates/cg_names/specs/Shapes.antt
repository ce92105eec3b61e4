-- Which named form a game has, by its shape: the one that fits, and none where none fits.
use Rattle.std.specs.Prelude.{ℕ, zero, suc, ◌≡◌, ◌==◌, ◌&&◌, nat_lt, Bool, true, false, not, cond, if◌then◌else◌, List, [], ◌∷◌, length, Option, Some, None}
use Rattle.cg_dyadic.specs.Number.{Number, number_le}
use Rattle.cg_form.specs.Depth.{depth_of}
use Rattle.cg_form.specs.Game.{Game, lefts, number, options, rights}
use Rattle.cg_form.specs.Shifted.{shifted}
use Rattle.cg_form.specs.Side.{far, near}
use Rattle.cg_form.specs.Structure.{is_same}
use Rattle.cg_dyadic.specs.Exact.{number_negative}
use Rattle.cg_names.specs.Named.{nimber_form, switch_form, tiny_form, ups_of, zero_form, zero_number}
use Rattle.cg_names.specs.declared.named_form.NamedForm.{NamedForm}
use Rattle.cg_names.specs.declared.named_form.NamedForm.TheVariants.{Star, Arrows, Switch, Tiny}

-- ---- the game of a named form

abbrev pub named_game : NamedForm → Game
named_game (Star x n) = shifted x (nimber_form n)
named_game (Arrows down starred x n) = shifted x (ups_of down starred n)
named_game (Switch x) = switch_form x
named_game (Tiny miny x) = tiny_form miny x

-- whether its count is above 0, or its size
abbrev pub is_proper : NamedForm → Bool
is_proper (Star x n) = nat_lt 0 n
is_proper (Arrows down starred x n) = nat_lt 0 n
is_proper (Switch x) = not (number_le x zero_number)
is_proper (Tiny miny x) = not (number_le x zero_number)

-- ---- the one named form that may fit

abbrev pub leading : List Game → Option Number
leading [] = None
leading (number x ∷ gs) = Some x
leading (options ls rs ∷ gs) = None

abbrev pub first_game : List Game → Game
first_game [] = zero_form
first_game (g ∷ gs) = g

-- whether a star stands at the end of n.^ or n.^*, which take turns; the first of them alone may have two options
unfoldable pub is_starred : ℕ → Bool → Game → Bool
is_starred zero down g = true
is_starred (suc n) down g = if length (near (not down) g) == 2 then true
    else not (is_starred n down (first_game (far (not down) g)))

-- a game with the same number first on both sides: x + *n has as many options on each, x + ^* and x + v* have not
abbrev pub guess_level : ℕ → ℕ → Number → NamedForm
guess_level m n x = if m == n then Star x m else Arrows (nat_lt m n) true x 1

-- {x|h}, or its mirror image: tiny where h is {a|b} with different numbers, and else arrows
abbrev pub guess_steep : Bool → Number → Game → Option Number → Option Number → Game → NamedForm
guess_steep down x h (Some a) (Some b) g =
    cond (is_same (number a) (number b)) (Arrows down (is_starred (depth_of h) down g) x (depth_of h))
    (Tiny down (cond down a (number_negative b)))
guess_steep down x h a b g = Arrows down (is_starred (depth_of h) down g) x (depth_of h)

abbrev pub guess_by : Game → Option Number → Option Number → NamedForm
guess_by g (Some x) (Some y) =
    cond (is_same (number x) (number y)) (guess_level (length (lefts g)) (length (rights g)) x) (Switch x)
guess_by g (Some x) None = let h = first_game (rights g) in
    guess_steep false x h (leading (lefts h)) (leading (rights h)) g
guess_by g None (Some y) = let h = first_game (lefts g) in
    guess_steep true y h (leading (lefts h)) (leading (rights h)) g
guess_by g None None = Switch zero_number

unfoldable pub guess : Game → NamedForm
guess g = guess_by g (leading (lefts g)) (leading (rights g))

-- the named form, if the game has its form
abbrev pub checked : Game → NamedForm → Option NamedForm
checked g s = if is_proper s && is_same g (named_game s) then Some s else None

unfoldable pub named_form_of : Game → Option NamedForm
named_form_of g = checked g (guess g)

-- ---- what is found of the shape of a game

pub record HasForm (g : Game) (s : NamedForm) : Type 0 where
  pub proper : is_proper s ≡ true
  pub form : g ≡ named_game s
