-- What the keys of numbers, lists and games spell.
use Rattle.std.proofs.Common.{◌≡◌, ℕ, ℤ, pos, ◌+◌, ◌*◌, ◌≤◌, ◌<◌, ◌^◌, Option, Some, None, IsSome}
use Rattle.std.proofs.Common.{List, [], ◌∷◌, unsigned_abs, arith, ap, sym, refl, ◌∙◌, subst}
use Rattle.cg_dyadic.specs.Number.{ratio, whole, InRange}
use Rattle.cg_dyadic.proofs.Fractions.{ratio-lowest}
use Rattle.cg_form.specs.Game.{Game, number, node}
use Rattle.cg_form.specs.Canonical.{Canonical}
use Rattle.cg_form.specs.Order.{Equal}
use Rattle.cg_form.proofs.Order.{le-fold}
use Rattle.cg_cells.specs.Store.{State, thing_at}
use Rattle.cg_cells.specs.declared.key.KeyParts.{KeyParts}
use Rattle.cg_cells.specs.declared.key.KeyParts.TheVariants as key
use Rattle.cg_cells.specs.Layout.{FieldsFit, id_field}
use Rattle.cg_cells.specs.Parts.{parts_of}
use Rattle.cg_nodes.specs.CanLaw.{is_canonical-true}
use Rattle.cg_nodes.specs.Meant.{Meant, form}
use Rattle.cg_nodes.specs.Spelled.{Map, spelled, list_at}
use Rattle.cg_nodes.specs.Inverse.{Inverse, inverse}
use Rattle.cg_nodes.specs.Games.{IsGame, game_at, ListsAs, listed, IsList, StandsFor}

lists_at : {R : Type 0} (s : State Meant R) (o : Option ℕ) (gs : List Game) → ListsAs s o gs
    → list_at (thing_at s) o ≡ Some gs
lists_at s None gs h = ap Some (sym h)
lists_at s (Some id) [] h = absurd h
lists_at s (Some id) (g ∷ gs) h = rw h refl

nothing_is_zero : Equal (number (whole (pos 0))) (node [] [])
nothing_is_zero = (
  le-fold (number (whole (pos 0))) (node [] []) (record { on_left = λ a m. absurd m; on_right = λ b m. absurd m }),
  le-fold (node [] []) (number (whole (pos 0))) (record { on_left = λ a m. absurd m; on_right = λ b m. absurd m }),
)

-- a canonical form has an option
pub has_option : {R : Type 0} (s : State Meant R) (l r : Option ℕ) → Canonical (node (listed s l) (listed s r))
    → 1 ≤ id_field l + id_field r
has_option s None None c = absurd (c.0.no_number (whole (pos 0)) nothing_is_zero)
has_option s (Some i) r c = omega arith
has_option s None (Some j) c = omega arith

pub spells-game : {R : Type 0} (k : ℕ) (l r : Option ℕ) (s : State Meant R) → parts_of k ≡ Some (key.Game l r)
    → IsList s l → IsList s r → Canonical (node (listed s l) (listed s r))
    → spelled (parts_of k) (thing_at s) ≡ Some (form (node (listed s l) (listed s r)))
spells-game k l r s e a b c = rw (
  e,
  lists_at s l (listed s l) a,
  lists_at s r (listed s r) b,
  is_canonical-true
      (node (listed s l) (listed s r)) c,
) refl

pub stands-game : {R Q : Type 0} (k i : ℕ) (l r : Option ℕ) (s : State Meant R) (t : State Meant Q)
    → parts_of k ≡ Some (key.Game l r) → IsList s l → IsList s r → Canonical (node (listed s l) (listed s r))
    → thing_at t i ≡ spelled (parts_of k) (thing_at s) → StandsFor t i (node (listed s l) (listed s r))
stands-game k i l r s t e a b c h = h ∙ spells-game k l r s e a b c

pub some_from : (o : Option Meant) (t : Meant) → o ≡ Some t → IsSome o
some_from o t e = rw e refl

abbrev IsCanonical : Meant → Type 0
IsCanonical (form g) = Canonical g
IsCanonical _ = Unit {0}

parts_canonical : (p : KeyParts) (f : Map) (t : Meant) → Inverse p f t → IsCanonical t
parts_canonical (key.Number n x) f t h = subst IsCanonical (sym h) tt
parts_canonical (key.Chunk c o) f t h = subst IsCanonical (sym h.1) tt
parts_canonical (key.Cons i o) f t h = subst IsCanonical (sym h.2) tt
parts_canonical (key.Game l r) f t h = subst IsCanonical (sym h.2) h.5
parts_canonical (key.Pair i j) f t h = subst IsCanonical (sym h.2) tt
parts_canonical (key.Board n r c i) f t h = subst IsCanonical (sym h.1) tt
parts_canonical (key.Long i x b) f t h = subst IsCanonical (sym h.2) tt

-- what some parts spell is canonical
pub canonical_spelled_at : (o : Option KeyParts) (f : Map) (g : Game) → spelled o f ≡ Some (form g) → Canonical g
canonical_spelled_at None f g e = cc
canonical_spelled_at (Some p) f g e = parts_canonical p f (form g) (inverse p f (form g) e)

pub canonical_spelled : {R : Type 0} (k i : ℕ) (f : Map) (s : State Meant R) → IsGame s i
    → spelled (parts_of k) f ≡ thing_at s i → Canonical (game_at s i)
canonical_spelled k i f s g e = canonical_spelled_at (parts_of k) f (game_at s i) (e ∙ g)

-- the number of a key is in range
pub ratio_in_range : (n : ℤ) (k : ℕ) → FieldsFit (key.Number n k) → InRange (ratio n k)
ratio_in_range n k f =
    let e = ratio-lowest n k f.2 in
    record {
      small = (let s = f.0 in let h : unsigned_abs n < 2 ^ 64 = omega arith in rw e.0 h);
      short = (let s = f.1 in let h : k ≤ 40 = omega arith in rw e.1 h);
    }
