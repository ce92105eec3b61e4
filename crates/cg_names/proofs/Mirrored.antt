-- Downs are the negatives of ups.
use Rattle.std.proofs.Common.{◌≡◌, refl, ap, sym, ◌∙◌, ℕ, zero, suc, inl, inr, List, [], ◌∷◌, map, Bool, true, false, not}
use Rattle.cg_form.specs.Game.{Among, Game, lefts, node, rights}
use Rattle.cg_form.specs.Order.{Equal, Le}
use Rattle.cg_form.specs.Sum.{negative}
use Rattle.cg_form.proofs.Among.{carry, lefts-node, rights-node}
use Rattle.cg_form.proofs.Negative.{lefts-negative, negative-options, rights-negative}
use Rattle.cg_form.proofs.Preorder.{le-cofinal}
use Rattle.cg_names.specs.Named.{star_form, ups_of, zero_form}

-- the games are equal, one by one
AllEqual : List Game → List Game → Type 0
AllEqual [] [] = Unit {0}
AllEqual [] (h ∷ hs) = ⊥
AllEqual (g ∷ gs) [] = ⊥
AllEqual (g ∷ gs) (h ∷ hs) = Equal g h × AllEqual gs hs

partner : (gs hs : List Game) (a : Game) → AllEqual gs hs → Among a gs → (b : Game) × Among b hs × Equal a b
unfolding AllEqual
partner [] hs a e m = absurd m
partner (g ∷ gs) [] a e m = absurd e
partner (g ∷ gs) (h ∷ hs) a e (inl f) = (h, inl refl, rw f e.0)
partner (g ∷ gs) (h ∷ hs) a e (inr m) = let (b, k, q) = partner gs hs a e.1 m in (b, inr k, q)

all_turned : (gs hs : List Game) → AllEqual gs hs → AllEqual hs gs
unfolding AllEqual
all_turned [] [] e = tt
all_turned [] (h ∷ hs) e = absurd e
all_turned (g ∷ gs) [] e = absurd e
all_turned (g ∷ gs) (h ∷ hs) e = ((e.0.1, e.0.0), all_turned gs hs e.1)

node-le : (ls rs cs ds : List Game) → AllEqual ls cs → AllEqual rs ds → Le (node ls rs) (node cs ds)
node-le ls rs cs ds p q = le-cofinal (node ls rs) (node cs ds)
    (λ a m. let (b, k, e) = partner ls cs a p (carry a (lefts (node ls rs)) ls (lefts-node ls rs) m) in
    (b, carry b cs (lefts (node cs ds)) (sym (lefts-node cs ds)) k, e.0))
    (λ d m. let (b, k, e) = partner ds rs d (all_turned rs ds q) (carry d (rights (node cs ds)) ds (rights-node cs ds)
    m) in
    (b, carry b rs (rights (node ls rs)) (sym (rights-node ls rs)) k, e.1))

node-equal : (ls rs cs ds : List Game) → AllEqual ls cs → AllEqual rs ds → Equal (node ls rs) (node cs ds)
node-equal ls rs cs ds p q = (node-le ls rs cs ds p q, node-le cs ds ls rs (all_turned ls cs p) (all_turned rs ds q))

negative-node : (ls rs : List Game) → negative (node ls rs) ≡ node (map negative rs) (map negative ls)
negative-node ls rs = negative-options (node ls rs) ∙ ap (λ z. node (map negative z)
    (map negative (lefts (node ls rs)))) (rights-node ls rs)
    ∙ ap (λ z. node (map negative rs) (map negative z)) (lefts-node ls rs)

-- the mirrored game is the negative, where its options are the negatives
mirrored : (ls rs cs ds : List Game) → AllEqual cs (map negative rs) → AllEqual ds (map negative ls)
    → Equal (node cs ds) (negative (node ls rs))
mirrored ls rs cs ds p q =
    rw (negative-node ls rs) (node-equal cs ds (map negative rs) (map negative ls) p q)

zero-negative : Equal zero_form (negative zero_form)
zero-negative = (
  le-cofinal zero_form (negative zero_form) (λ a m. absurd m) (λ b m. absurd
      (carry b (rights (negative zero_form)) [] (rights-negative zero_form) m)),
  le-cofinal (negative zero_form) zero_form (λ a m. absurd (carry a (lefts (negative zero_form)) []
      (lefts-negative zero_form) m)) (λ b m. absurd m),
)

pub star-negative : Equal star_form (negative star_form)
unfolding AllEqual
star-negative = mirrored (zero_form ∷ []) (zero_form ∷ []) (zero_form ∷ []) (zero_form ∷ []) (zero-negative, tt)
    (zero-negative, tt)

pub downs-negative : (starred : Bool) (n : ℕ) → Equal (ups_of true starred n) (negative (ups_of false starred n))
unfolding ups_of AllEqual
downs-negative false zero = zero-negative
downs-negative true zero = star-negative
downs-negative false (suc zero) = mirrored (zero_form ∷ []) (star_form ∷ []) (star_form ∷ []) (zero_form ∷ [])
    (star-negative, tt) (zero-negative, tt)
downs-negative true (suc zero) = mirrored (zero_form ∷ (star_form ∷ [])) (zero_form ∷ []) (zero_form ∷ [])
    (zero_form ∷ (star_form ∷ []))
    (zero-negative, tt) (zero-negative, (star-negative, tt))
downs-negative starred (suc (suc n)) = mirrored (zero_form ∷ []) (ups_of false (not starred) (suc n) ∷ [])
    (ups_of true (not starred) (suc n) ∷ [])
    (zero_form ∷ []) (downs-negative (not starred) (suc n), tt) (zero-negative, tt)
