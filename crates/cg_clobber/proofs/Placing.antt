-- The symbols of the stones, and boards that are put behind others.
use Rattle.std.proofs.Common.{◌≡◌, refl, ℕ, ◌+◌, true, List, ◌++◌, Result, Ok, Err, map, ap, sym, ◌∙◌, subst, arith, append_assoc}
use Rattle.std.specs.Prelude.{Contains, IfOk, codes}
use Rattle.std.specs.Str.{bytes_eq}
use Rattle.std.proofs.lemmas.List.{map-append}
use Rattle.cg_moves.specs.declared.player.Player.{Player}
use Rattle.cg_moves.specs.declared.player.Player.TheVariants.{Left, Right}
use Rattle.cg_moves.specs.Grid.{Grid, is_in_rows}
use Rattle.cg_moves.proofs.Same.{and-true, bytes_eq-back}
use Rattle.cg_clobber.specs.Moves.{clobber, empty, own}

pub symbols-are : (p : Grid) → clobber.has p ≡ true → p.symbols ≡ codes ".xo"
symbols-are p has = bytes_eq-back p.symbols (codes ".xo") (and-true (is_in_rows p) (bytes_eq p.symbols (codes ".xo")) has).1

own-contained : (player : Player) → Contains (codes ".xo") (own player)
own-contained Left = (1, omega arith, refl)
own-contained Right = (2, omega arith, refl)

empty-contained : Contains (codes ".xo") empty
empty-contained = (0, omega arith, refl)

has-symbol : (p : Grid) (s : ℕ) → clobber.has p ≡ true → Contains (codes ".xo") s → Contains p.symbols s
has-symbol p s has is = let P : List ℕ → Type 0 = λ z. Contains z s in subst P (sym (symbols-are p has)) is

pub has-empty : (p : Grid) → clobber.has p ≡ true → Contains p.symbols empty
has-empty p has = has-symbol p empty has empty-contained

pub has-own : (player : Player) (p : Grid) → clobber.has p ≡ true → Contains p.symbols (own player)
has-own player p has = has-symbol p (own player) has (own-contained player)

-- ---- boards that are put behind others

module _ (f : List ℕ → Grid) where
  pub listed_then : (old now new : List Grid) (xs ys : List (List ℕ)) → now ≡ old ++ map f xs → new ≡ now ++ map f ys
      → new ≡ old ++ map f (xs ++ ys)
  listed_then old now new xs ys so_far put =
      put ∙ ap (λ z. z ++ map f ys) so_far ∙ append_assoc old (map f xs) (map f ys)
      ∙ ap (λ z. old ++ z) (sym (map-append f xs ys))

  -- what a call puts behind them
  pub two_listed : {U E : Type 0} (r : Result U E) (old one new : List Grid) (xs ys all : List (List ℕ)) → all ≡ xs ++ ys
      → one ≡ old ++ map f xs → IfOk r (λ x. new ≡ one ++ map f ys) → IfOk r (λ x. new ≡ old ++ map f all)
  two_listed (Ok x) old one new xs ys all is first later =
      listed_then old one new xs ys first later ∙ ap (λ z. old ++ map f z) (sym is)
  two_listed (Err e) old one new xs ys all is first later = tt
