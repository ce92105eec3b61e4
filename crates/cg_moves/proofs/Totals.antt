-- Sums of lists of games: their options, and that the order of the list and equal members don't matter.
use Rattle.std.proofs.Common.{◌≡◌, refl, ◌⊎◌, inl, inr, ap, sym, ◌∙◌, List, [], ◌∷◌, ◌++◌, map}
use Rattle.cg_form.specs.Game.{Among, Game, lefts, rights}
use Rattle.cg_form.specs.Order.{Equal}
use Rattle.cg_form.specs.Sum.{nothing, sum}
use Rattle.cg_form.proofs.Preorder.{equal_refl, equal_trans, le_trans}
use Rattle.cg_form.proofs.Sum.{sum-left_cases, sum-left_first, sum-left_second, sum-right_cases, sum-right_first, sum-right_second}
use Rattle.cg_form.proofs.SumLaws.{assoc_sum, sum-le_second, sum_assoc, sum_comm, sum_nothing}
use Rattle.cg_form.proofs.SumOrder.{sum-le}
use Rattle.cg_moves.specs.declared.player.Player.{Player}
use Rattle.cg_moves.specs.declared.player.Player.TheVariants.{Left, Right}
use Rattle.cg_moves.specs.Reordered.{IsReordered}
use Rattle.cg_moves.specs.Total.{total}
use Rattle.std.proofs.lemmas.List.{map-append}

-- ---- equality of games

pub equal_back : (g h : Game) → Equal g h → Equal h g
equal_back g h e = (e.1, e.0)

pub equal_of : (g h : Game) → g ≡ h → Equal g h
equal_of g h e = rw (← e) (equal_refl g)

equal_sum : (a b c d : Game) → Equal a b → Equal c d → Equal (sum a c) (sum b d)
equal_sum a b c d e f = (
  le_trans (sum a c) (sum b c) (sum b d) (sum-le a b c e.0) (sum-le_second c d b f.0),
  le_trans (sum b d) (sum a d) (sum a c) (sum-le b a d e.1) (sum-le_second d c a f.1),
)

equal_comm : (g h : Game) → Equal (sum g h) (sum h g)
equal_comm g h = (sum_comm g h, sum_comm h g)

equal_assoc : (g h k : Game) → Equal (sum (sum g h) k) (sum g (sum h k))
equal_assoc g h k = (sum_assoc g h k, assoc_sum g h k)

-- ---- options of a sum

abbrev pub options_of : Player → Game → List Game
options_of Left g = lefts g
options_of Right g = rights g

sum-first : (player : Player) (g h a : Game) → Among a (options_of player g) → Among (sum a h) (options_of player (sum g h))
sum-first Left g h a m = sum-left_first g h a m
sum-first Right g h a m = sum-right_first g h a m

sum-second : (player : Player) (g h a : Game) → Among a (options_of player h) → Among (sum g a) (options_of player (sum g h))
sum-second Left g h a m = sum-left_second g h a m
sum-second Right g h a m = sum-right_second g h a m

sum-cases : (player : Player) (g h x : Game) → Among x (options_of player (sum g h))
    → ((a : Game) × Among a (options_of player g) × (x ≡ sum a h))
    ⊎ ((a : Game) × Among a (options_of player h) × (x ≡ sum g a))
sum-cases Left g h x m = sum-left_cases g h x m
sum-cases Right g h x m = sum-right_cases g h x m

none-nothing : (player : Player) (x : Game) → ¬ Among x (options_of player nothing)
none-nothing Left x m = m
none-nothing Right x m = m

-- an option of a sum of games f q is that sum with an option of one of them in its place
pub record OptionOfOne {X : Type 0} (player : Player) (f : X → Game) (qs : List X) (x : Game) : Type 0 where
  pub before : List X
  pub one : X
  pub behind : List X
  pub option : Game
  pub cut : qs ≡ before ++ (one ∷ behind)
  pub is_option : Among option (options_of player (f one))
  pub is : x ≡ total (map f before ++ (option ∷ map f behind))

module _ {X : Type 0} (f : X → Game) where
  pub total-cases : (player : Player) (qs : List X) (x : Game) → Among x (options_of player (total (map f qs))) → OptionOfOne player f qs x
  unfolding total
  total-cases player [] x m = absurd (none-nothing player x m)
  total-cases player (q ∷ qs) x m = elim (sum-cases player (f q) (total (map f qs)) x m) [
    | inl (a, k, e) ↦ record {
      before = [];
      one = q;
      behind = qs;
      option = a;
      cut = refl;
      is_option = k;
      is = e;
    }
    | inr (a, k, e) ↦ let o = total-cases player qs a k in record {
      before = q ∷ o.before;
      one = o.one;
      behind = o.behind;
      option = o.option;
      cut = ap (λ z. q ∷ z) o.cut;
      is_option = o.is_option;
      is = e ∙ ap (sum (f q)) o.is;
    }
  ]

  pub total-option : (player : Player) (us : List X) (q : X) (vs : List X) (a : Game) → Among a (options_of player (f q))
      → Among (total (map f us ++ (a ∷ map f vs))) (options_of player (total (map f (us ++ (q ∷ vs)))))
  unfolding total
  total-option player [] q vs a m = sum-first player (f q) (total (map f vs)) a m
  total-option player (u ∷ us) q vs a m =
      sum-second player (f u) (total (map f (us ++ (q ∷ vs)))) (total (map f us ++ (a ∷ map f vs)))
      (total-option player us q vs a m)

-- ---- equal members and another order

-- a sum of lists put together
pub total-append : (us vs : List Game) → Equal (total (us ++ vs)) (sum (total us) (total vs))
unfolding total
total-append [] vs =
    equal_trans (total vs) (sum (total vs) nothing) (sum nothing (total vs)) (equal_back _ _ (sum_nothing (total vs)))
    (equal_comm (total vs) nothing)
total-append (u ∷ us) vs =
    equal_trans (sum u (total (us ++ vs))) (sum u (sum (total us) (total vs))) (sum (sum u (total us)) (total vs))
    (equal_sum u u (total (us ++ vs)) (sum (total us) (total vs)) (equal_refl u) (total-append us vs))
    (equal_back _ _ (equal_assoc u (total us) (total vs)))

pub total-behind : (us vs ws : List Game) → Equal (total vs) (total ws) → Equal (total (us ++ vs)) (total (us ++ ws))
unfolding total
total-behind [] vs ws e = e
total-behind (u ∷ us) vs ws e =
    equal_sum u u (total (us ++ vs)) (total (us ++ ws)) (equal_refl u) (total-behind us vs ws e)

-- some games in place of one that equals their sum
pub total-in_place : (us : List Game) (g : Game) (gs vs : List Game) → Equal g (total gs)
    → Equal (total (us ++ (g ∷ vs))) (total (us ++ (gs ++ vs)))
unfolding total
total-in_place us g gs vs e =
    total-behind us (g ∷ vs) (gs ++ vs)
    (equal_trans (sum g (total vs)) (sum (total gs) (total vs)) (total (gs ++ vs))
    (equal_sum g (total gs) (total vs) (total vs) e (equal_refl (total vs)))
    (equal_back _ _ (total-append gs vs)))

-- the one in the middle in front
pub total-middle : (us : List Game) (g : Game) (vs : List Game) → Equal (total (us ++ (g ∷ vs))) (sum g (total (us ++ vs)))
unfolding total
total-middle [] g vs = equal_refl (sum g (total vs))
total-middle (u ∷ us) g vs =
    let rest : Game = total (us ++ vs) in
    equal_trans (sum u (total (us ++ (g ∷ vs)))) (sum u (sum g rest)) (sum g (sum u rest))
    (equal_sum u u (total (us ++ (g ∷ vs))) (sum g rest) (equal_refl u) (total-middle us g vs))
    (equal_trans (sum u (sum g rest)) (sum (sum u g) rest) (sum g (sum u rest))
    (equal_back _ _ (equal_assoc u g rest))
    (equal_trans (sum (sum u g) rest) (sum (sum g u) rest) (sum g (sum u rest))
    (equal_sum (sum u g) (sum g u) rest rest (equal_comm u g) (equal_refl rest))
    (equal_assoc g u rest)))

pub total-reordered : {X : Type 0} (f : X → Game) (xs ys : List X) → IsReordered xs ys → Equal (total (map f xs)) (total (map f ys))
unfolding total
total-reordered f [] ys e = equal_of (total []) (total (map f ys)) (ap (λ z. total (map f z)) (sym e))
total-reordered f (x ∷ xs) ys (us, vs, e, r) =
    let there : total (map f ys) ≡ total (map f us ++ (f x ∷ map f vs)) =
    ap (λ z. total (map f z)) e ∙ ap total (map-append f us (x ∷ vs)) in
    let rest : total (map f (us ++ vs)) ≡ total (map f us ++ map f vs) = ap total (map-append f us vs) in
    equal_trans (sum (f x) (total (map f xs))) (sum (f x) (total (map f us ++ map f vs))) (total (map f ys))
    (equal_sum (f x) (f x) (total (map f xs)) (total (map f us ++ map f vs)) (equal_refl (f x))
    (equal_trans (total (map f xs)) (total (map f (us ++ vs))) (total (map f us ++ map f vs))
    (total-reordered f xs (us ++ vs) r) (equal_of _ _ rest)))
    (equal_back _ _ (equal_trans (total (map f ys)) (total (map f us ++ (f x ∷ map f vs)))
    (sum (f x) (total (map f us ++ map f vs))) (equal_of _ _ there)
    (total-middle (map f us) (f x) (map f vs))))
