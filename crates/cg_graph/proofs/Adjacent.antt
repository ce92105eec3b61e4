-- Neighbours of a vertex with a colour.
use Rattle.std.proofs.Common.{◌≡◌, ◌≢◌, inl, inr, refl, ℕ, suc, ◌+◌, ◌<◌, ◌==◌, ◌&&◌, ◌||◌, Bool, true, false, List, [], ◌∷◌, length, ap, sym, ◌∙◌, arith}
use Rattle.std.specs.Prelude.{slice_index}
use Rattle.std.specs.List.{list_any}
use Rattle.std.proofs.lemmas.Bool.{eqb-true, eq-eqb}
use Rattle.std.proofs.lemmas.List.Folds.{list_any-append}
use Rattle.cg_dyadic.proofs.Truth.{false-from}
use Rattle.cg_moves.proofs.ConnectedLemmas.{or-first, or-second}
use Rattle.cg_moves.proofs.Counted.{counted-next, in_counted}
use Rattle.cg_moves.proofs.Same.{both-true}
use Rattle.cg_moves.specs.Rising.{counted}
use Rattle.cg_moves.specs.Rules.{In}
use Rattle.cg_graph.specs.ColouredGraphs.{edges_of, is_between}
use Rattle.cg_graph.specs.Colouring.{are_adjacent}
use Rattle.cg_graph.specs.declared.edge.Pair.{Pair}

adjacent : (pairs : List Pair) (k l : ℕ) → list_any (is_between k l) pairs ≡ are_adjacent (edges_of pairs) k l
adjacent [] k l = refl
adjacent (e ∷ pairs) k l = ap (λ b. is_between k l e || b) (adjacent pairs k l)

pub any_in : (f : ℕ → Bool) (xs : List ℕ) (k : ℕ) → In k xs → f k ≡ true → list_any f xs ≡ true
any_in f [] k m t = absurd m
any_in f (x ∷ xs) k (inl e) t = or-first (f x) (list_any f xs) (ap f (sym e) ∙ t)
any_in f (x ∷ xs) k (inr m) t = or-second (f x) (list_any f xs) (any_in f xs k m t)

or-both : (a b : Bool) → a ≡ false → b ≡ false → (a || b) ≡ false
or-both a b e f = ap (λ z. z || b) e ∙ f

any_next : (f : ℕ → Bool) (i : ℕ) → list_any f (counted 0 i) ≡ false → f i ≡ false → list_any f (counted 0 (i + 1)) ≡ false
any_next f i none here =
    let up : i + 1 ≡ suc i = omega arith in
    ap (λ (k : ℕ). list_any f (counted 0 k)) up ∙ ap (list_any f) (counted-next i) ∙ list_any-append f (counted 0 i) (i ∷ [])
    ∙ or-both (list_any f (counted 0 i)) (f i || false) none (or-both (f i) false here refl)

-- the vertex l is a neighbour of the vertex with the colour
abbrev pub is_neighbour : List Pair → List ℕ → ℕ → ℕ → ℕ → Bool
is_neighbour pairs cells vertex colour l = are_adjacent (edges_of pairs) vertex l && (slice_index cells l == colour)

pub neighbour_found : (pairs : List Pair) (cells : List ℕ) (vertex colour l : ℕ) → l < length cells
    → slice_index cells l ≡ colour → list_any (is_between vertex l) pairs ≡ true
    → list_any (is_neighbour pairs cells vertex colour) (counted 0 (length cells)) ≡ true
neighbour_found pairs cells vertex colour l below same between =
    any_in (is_neighbour pairs cells vertex colour) (counted 0 (length cells)) l
    (in_counted 0 (length cells) l (omega arith) (omega arith))
    (both-true (are_adjacent (edges_of pairs) vertex l) (slice_index cells l == colour)
    (sym (adjacent pairs vertex l) ∙ between) (eq-eqb (slice_index cells l) colour same))

pub other_colour : (pairs : List Pair) (cells : List ℕ) (vertex colour l : ℕ)
    → list_any (is_neighbour pairs cells vertex colour) (counted 0 l) ≡ false → slice_index cells l ≢ colour
    → list_any (is_neighbour pairs cells vertex colour) (counted 0 (l + 1)) ≡ false
other_colour pairs cells vertex colour l none other =
    any_next (is_neighbour pairs cells vertex colour) l none
    (ap (λ b. are_adjacent (edges_of pairs) vertex l && b)
    (false-from (slice_index cells l == colour) (λ t. other (eqb-true (slice_index cells l) colour t)))
    ∙ no_and (are_adjacent (edges_of pairs) vertex l))
  where
    no_and : (t : Bool) → (t && false) ≡ false
    no_and true = refl
    no_and false = refl

pub not_between : (pairs : List Pair) (cells : List ℕ) (vertex colour l : ℕ)
    → list_any (is_neighbour pairs cells vertex colour) (counted 0 l) ≡ false
    → list_any (is_between vertex l) pairs ≡ false
    → list_any (is_neighbour pairs cells vertex colour) (counted 0 (l + 1)) ≡ false
not_between pairs cells vertex colour l none apart =
    any_next (is_neighbour pairs cells vertex colour) l none
    (ap (λ b. b && (slice_index cells l == colour)) (sym (adjacent pairs vertex l) ∙ apart))
