-- What is found of the shape of a game, and of lists of options.
use Rattle.std.specs.Prelude.{ℕ, suc, ◌≡◌, ◌≤◌, Bool, List, [], ◌∷◌, length, map, Option, Some, None}
use Rattle.cg_dyadic.specs.Number.{Number}
use Rattle.cg_form.specs.Game as tree
use Rattle.cg_form.specs.Game.{node}
use Rattle.cg_form.specs.Shifted.{shifted}
use Rattle.cg_arena.specs.Arena.{IsIndex, game_of}
use Rattle.cg_names.specs.Named.{mirrored_if, nimber_form, nimbers_below, pair_form, tiny_form, ups_of}
use Rattle.cg_names.specs.Shapes.{HasForm}
use Rattle.cg_names.specs.NamedForms.{IsPositive}
use Rattle.cg_names.specs.declared.shape.Numbers.{Numbers}
use Rattle.cg_names.specs.declared.look_star.StarFound.{StarFound}
use Rattle.cg_names.specs.declared.look_arrows.ArrowsFound.{ArrowsFound}
use Rattle.cg_names.specs.declared.named_form.NamedForm.{NamedForm}
use Rattle.cg_names.specs.declared.named_form.NamedForm.TheVariants.{Star}

-- the index of the one game of a list that has one
abbrev pub IsOnly : List tree.Game → Option ℕ → List tree.Game → Type 0
IsOnly gs None hs = (g : tree.Game) → ¬ (hs ≡ g ∷ [])
IsOnly gs (Some i) hs = IsIndex gs i × (hs ≡ game_of gs i ∷ [])

-- two numbers
abbrev pub AreNumbers : tree.Game → tree.Game → Option Numbers → Type 0
AreNumbers g h None = (x y : Number) → g ≡ tree.number x → ¬ (h ≡ tree.number y)
AreNumbers g h (Some p) = (g ≡ tree.number p.left) × (h ≡ tree.number p.right)

-- x, x + *, .., x + *(n - 1)
abbrev pub stars_above : Number → ℕ → List tree.Game
stars_above x n = map (shifted x) (nimbers_below n)

-- the number x of a list x, x + *, .. that isn't empty
abbrev pub AreStars : List tree.Game → Option Number → Type 0
AreStars gs None = (x : Number) (n : ℕ) → ¬ (gs ≡ stars_above x (suc n))
AreStars gs (Some x) = (1 ≤ length gs) × (gs ≡ stars_above x (length gs))

-- the number x of the named form of x + *n
abbrev pub IsStarBase : Option NamedForm → Option Number → Type 0
IsStarBase o None = (x : Number) (n : ℕ) → ¬ (o ≡ Some (Star x n))
IsStarBase o (Some x) = (n : ℕ) × (o ≡ Some (Star x n))

-- x + *n with n from 1 on
abbrev pub IsStar : tree.Game → Option StarFound → Type 0
IsStar g None = (x : Number) (n : ℕ) → ¬ (g ≡ shifted x (nimber_form (suc n)))
IsStar g (Some a) = (1 ≤ a.count) × (g ≡ shifted a.base (nimber_form a.count))

-- x + n.^ or x + n.^*, or the same with downs
abbrev pub IsArrows : Bool → tree.Game → Option ArrowsFound → Type 0
IsArrows down g None = (starred : Bool) (x : Number) (n : ℕ) → ¬ (g ≡ shifted x (ups_of down starred n))
IsArrows down g (Some a) = g ≡ shifted a.base (ups_of down a.starred a.count)

-- the named form of {x|g}, or of its mirror image, that is one up more than g
abbrev pub IsMore : Bool → Number → tree.Game → Option NamedForm → Type 0
IsMore down x g None = IsArrows down (mirrored_if down (tree.number x ∷ []) (g ∷ [])) None
IsMore down x g (Some s) = HasForm (mirrored_if down (tree.number x ∷ []) (g ∷ [])) s

-- the options are x and x + *, and the last game is x
pub record AreUpStar (gs : List tree.Game) (h : tree.Game) (x : Number) : Type 0 where
  pub own : gs ≡ tree.number x ∷ (pair_form x x ∷ [])
  pub last : h ≡ tree.number x

abbrev pub IsUpStar : List tree.Game → tree.Game → Option Number → Type 0
IsUpStar own last None = (x : Number) → ¬ AreUpStar own last x
IsUpStar own last (Some x) = AreUpStar own last x

-- tiny of a number above 0, or miny
abbrev pub IsTiny : Bool → tree.Game → Option Number → Type 0
IsTiny miny g None = (x : Number) → IsPositive x → ¬ (g ≡ tiny_form miny x)
IsTiny miny g (Some x) = IsPositive x × (g ≡ tiny_form miny x)
