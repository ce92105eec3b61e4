-- Moves and answers, and what holds of each.
use Rattle.std.proofs.Common.{◌≡◌, refl, ap, sym, ℕ, ◌+◌, ◌<◌, arith, inl, inr, List, [], ◌∷◌, ◌++◌, map, Option, Some, None, option_map, slice_get}
use Rattle.cg_form.specs.Game.{Among, Game, lefts, rights}
use Rattle.cg_form.specs.Order.{Le}
use Rattle.cg_form.specs.Size.{size}
use Rattle.cg_form.proofs.Preorder.{le_trans, not_le-left, not_le-right}
use Rattle.cg_form.proofs.Size.{size-lefts, size-rights}
use Rattle.cg_cert.specs.Certificate.{Answer, in_first, in_second}
use Rattle.cg_cert.specs.Pairs.{AtLeast, Pair, led, moves, pair, pair_size}
use Rattle.cg_cert.proofs.Places.{place_among}

-- it holds of each pair of the list
abbrev pub Each : (Pair → Type 0) → List Pair → Type 0
Each P [] = Unit {0}
Each P (m ∷ ms) = P m × Each P ms

pub each-append : (P : Pair → Type 0) (ms ns : List Pair) → Each P ms → Each P ns → Each P (ms ++ ns)
each-append P [] ns e f = f
each-append P (m ∷ ms) ns e f = (e.0, each-append P ms ns e.1 f)

pub append-each : (P : Pair → Type 0) (ms ns : List Pair) → Each P (ms ++ ns) → Each P ms × Each P ns
append-each P [] ns e = (tt, e)
append-each P (m ∷ ms) ns e = let r = append-each P ms ns e.1 in ((e.0, r.0), r.1)

pub each-map : (P : Pair → Type 0) (f : Game → Pair) (gs : List Game) → ((a : Game) → Among a gs → P (f a))
    → Each P (map f gs)
each-map P f [] h = tt
each-map P f (g ∷ gs) h = (h g (inl refl), each-map P f gs (λ a m. h a (inr m)))

pub map-each : (P : Pair → Type 0) (f : Game → Pair) (gs : List Game) → Each P (map f gs) → (a : Game) → Among a gs
    → P (f a)
map-each P f [] e a m = absurd m
map-each P f (g ∷ gs) e a (inl i) = rw i e.0
map-each P f (g ∷ gs) e a (inr m) = map-each P f gs e.1 a m

-- ---- Right's moves

pub record OfMoves (P : Pair → Type 0) (m : Pair) : Type 0 where
  pub in_rights : (b : Game) → Among b (rights m.first) → P (pair b m.second)
  pub in_lefts : (a : Game) → Among a (lefts m.second) → P (pair m.first a)

pub each_move : (P : Pair → Type 0) (m : Pair) → OfMoves P m → Each P (moves m)
each_move P m o = each-append P (map (λ b. pair b m.second) (rights m.first)) (map (λ a. pair m.first a) (lefts m.second))
    (each-map P (λ b. pair b m.second) (rights m.first) o.in_rights)
    (each-map P (λ a. pair m.first a) (lefts m.second) o.in_lefts)

pub move_each : (P : Pair → Type 0) (m : Pair) → Each P (moves m) → OfMoves P m
move_each P m e =
    let r = append-each P (map (λ b. pair b m.second) (rights m.first)) (map (λ a. pair m.first a) (lefts m.second)) e in
    record {
      in_rights = map-each P (λ b. pair b m.second) (rights m.first) r.0;
      in_lefts = map-each P (λ a. pair m.first a) (lefts m.second) r.1;
    }

-- ---- Left's answers

pub record Answered (a : Answer) (m k : Pair) : Type 0 where
  pub smaller : pair_size k < pair_size m
  -- where the first game is at least the second after the answer, the first wasn't at most the second before it
  pub serves : AtLeast k → ¬ Le m.first m.second

-- what the place of an option leads to
pub placed : (f : Game → Pair) (gs : List Game) (i : ℕ) (k : Pair) → option_map f (slice_get gs i) ≡ Some k
    → (a : Game) × Among a gs × (k ≡ f a)
placed f gs i k e = by (slice_get gs i) refl e
  where
    by : (o : Option Game) → slice_get gs i ≡ o → option_map f o ≡ Some k → (a : Game) × Among a gs × (k ≡ f a)
    by None p q = absurd (cc)
    by (Some a) p q = let r : f a ≡ k = cc in (a, place_among gs i a p, sym r)

pub led-answered : (a : Answer) (m k : Pair) → led a m ≡ Some k → Answered a m k
led-answered (in_first i) m k e =
    let (a, n, f) = placed (λ z. pair z m.second) (lefts m.first) i k e in
    let s = size-lefts m.first a n in
    let z : pair_size k ≡ size a + size m.second = ap pair_size f in
    record {
      smaller = omega arith;
      serves = λ l p. not_le-left m.first a n (le_trans m.first m.second a p (rw f at l));
    }
led-answered (in_second i) m k e =
    let (b, n, f) = placed (λ z. pair m.first z) (rights m.second) i k e in
    let s = size-rights m.second b n in
    let z : pair_size k ≡ size m.first + size b = ap pair_size f in
    record {
      smaller = omega arith;
      serves = λ l p. not_le-right m.second b n (le_trans b m.first m.second (rw f at l) p);
    }
