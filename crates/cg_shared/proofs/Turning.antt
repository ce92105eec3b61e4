-- Turns of a search, one after the other.
use Rattle.std.proofs.Common.{◌≡◌, ℕ, zero, suc, ◌+◌, ◌<◌, List, Option, Some, None, refl, sym, ap, ◌∙◌, subst}
use Rattle.cg_cells.specs.Views.{ViewOf, Action, cells_of, searched}
use Rattle.cg_cells.specs.Steps.{GoesOn}
use Rattle.cg_shared.specs.Searches.{AreTurns, GoesPast}

searched_is : (p : Option (ℕ × ℕ)) (key n : ℕ) → GoesOn p key n → searched p ≡ n
searched_is None key n g = sym g
searched_is (Some p) key n g = g.1

-- a search that passes a cell has come one cell further, and of its view no more has changed
pub goes_further : {X : Type 0} (u v w : ViewOf X) (key n : ℕ) → GoesOn v.probe key n → v ≡ record u { probe = v.probe; made = v.made } → GoesPast v key w
    → GoesOn w.probe key (n + 1) × (w ≡ record u { probe = w.probe; made = w.made }) × (n + 1 < cells_of v.sizes)
goes_further {X} u v w key n goes same past =
    let probe : w.probe ≡ Some (key, searched v.probe + 1) = ap (λ (x : ViewOf X). x.probe) past.0 in
    let far : searched v.probe ≡ n = searched_is v.probe key n goes in (
      subst (λ p. GoesOn p key (n + 1)) (sym probe) (refl, ap (λ k. k + 1) far),
      past.0 ∙ ap (λ (x : ViewOf X). record x { made = w.made; probe = Some (key, searched v.probe + 1) }) same
          ∙ ap (λ p. record u { probe = p; made = w.made }) (sym probe),
      subst (λ k. k + 1 < cells_of v.sizes) far past.1,
    )

pub turns_then : (key n k : ℕ) (a b c : List Action) → AreTurns key n a b → AreTurns key k b c → (j : ℕ) × AreTurns key j a c
turns_then key n zero a b c first e = (n, subst (AreTurns key n a) (sym e) first)
turns_then key n (suc k) a b c first (between, rest, last) = let r = turns_then key n k a b between first rest in (suc r.0, (between, r.1, last))

pub turns_end : (key n k : ℕ) (a b c : List Action) → AreTurns key n a b → AreTurns key (suc k) b c → (j : ℕ) × AreTurns key (suc j) a c
turns_end key n k a b c first (between, rest, last) = let r = turns_then key n k a b between first rest in (r.0, (between, r.1, last))
