-- Members of lists of games.
use Rattle.std.proofs.Common.{◌≡◌, refl, ◌⊎◌, inl, inr, ap, ◌∙◌, List, [], ◌∷◌, ◌++◌, map}
use Rattle.cg_dyadic.specs.Number.{AmongNumbers, Number}
use Rattle.cg_form.specs.Game.{Among, Game, Games, lefts, more, node, none, of_list, rights, to_list}

pub to_list-of_list : (gs : List Game) → to_list (of_list gs) ≡ gs
to_list-of_list [] = refl
to_list-of_list (g ∷ gs) = ap (λ r. g ∷ r) (to_list-of_list gs)

pub of_list-to_list : (gs : Games) → of_list (to_list gs) ≡ gs
of_list-to_list none = refl
of_list-to_list (more g gs) = ap (λ r. more g r) (of_list-to_list gs)

pub lefts-node : (ls rs : List Game) → lefts (node ls rs) ≡ ls
lefts-node ls rs = to_list-of_list ls

pub rights-node : (ls rs : List Game) → rights (node ls rs) ≡ rs
rights-node ls rs = to_list-of_list rs

pub map-agree : {B : Type 0} (f k : Game → B) (gs : List Game) → ((a : Game) → Among a gs → f a ≡ k a)
    → map f gs ≡ map k gs
map-agree f k [] h = refl
map-agree f k (g ∷ gs) h =
    ap (λ z. z ∷ map f gs) (h g (inl refl)) ∙ ap (λ z. k g ∷ z) (map-agree f k gs (λ a m. h a (inr m)))

-- along an equation of lists
pub carry : (x : Game) (gs hs : List Game) → gs ≡ hs → Among x gs → Among x hs
carry x gs hs e m = rw e at m

pub among-append_left : (x : Game) (gs hs : List Game) → Among x gs → Among x (gs ++ hs)
among-append_left x [] hs m = absurd m
among-append_left x (g ∷ gs) hs (inl e) = inl e
among-append_left x (g ∷ gs) hs (inr m) = inr (among-append_left x gs hs m)

pub among-append_right : (x : Game) (gs hs : List Game) → Among x hs → Among x (gs ++ hs)
among-append_right x [] hs m = m
among-append_right x (g ∷ gs) hs m = inr (among-append_right x gs hs m)

pub among-append : (x : Game) (gs hs : List Game) → Among x (gs ++ hs) → Among x gs ⊎ Among x hs
among-append x [] hs m = inr m
among-append x (g ∷ gs) hs (inl e) = inl (inl e)
among-append x (g ∷ gs) hs (inr m) = elim (among-append x gs hs m) [ inl k ↦ inl (inr k) | inr k ↦ inr k ]

pub among_mapped : (f : Game → Game) (a : Game) (gs : List Game) → Among a gs → Among (f a) (map f gs)
among_mapped f a [] m = absurd m
among_mapped f a (g ∷ gs) (inl e) = inl (ap f e)
among_mapped f a (g ∷ gs) (inr m) = inr (among_mapped f a gs m)

pub among_map : (f : Game → Game) (x : Game) (gs : List Game) → Among x (map f gs) → (a : Game) × Among a gs × (x ≡ f a)
among_map f x [] m = absurd m
among_map f x (g ∷ gs) (inl e) = (g, inl refl, e)
among_map f x (g ∷ gs) (inr m) = let (a, k, e) = among_map f x gs m in (a, inr k, e)

-- ---- members that are numbers

pub among-map : (xs : List Number) (f : Number → Game) (a : Game) → Among a (map f xs)
    → (x : Number) × (a ≡ f x) × AmongNumbers x xs
among-map [] f a h = absurd h
among-map (x ∷ xs) f a (inl e) = (x, e, inl refl)
among-map (x ∷ xs) f a (inr m) = let (y, e, k) = among-map xs f a m in (y, e, inr k)

pub among_number : (f : Number → Game) (x : Number) (xs : List Number) → AmongNumbers x xs → Among (f x) (map f xs)
among_number f x [] m = absurd m
among_number f x (y ∷ ys) (inl e) = inl (ap f e)
among_number f x (y ∷ ys) (inr m) = inr (among_number f x ys m)

-- ---- all but one

pub in_others : (x a : Game) (us vs : List Game) → Among x (us ++ (a ∷ vs)) → (x ≡ a) ⊎ Among x (us ++ vs)
in_others x a us vs m = elim (among-append x us (a ∷ vs) m) [
  | inl k ↦ inr (among-append_left x us vs k)
  | inr (inl e) ↦ inl e
  | inr (inr k) ↦ inr (among-append_right x us vs k)
]

pub of_others : (x a : Game) (us vs : List Game) → Among x (us ++ vs) → Among x (us ++ (a ∷ vs))
of_others x a us vs m =
    elim (among-append x us vs m) [
      | inl k ↦ among-append_left x us (a ∷ vs) k
      | inr k ↦ among-append_right x us (a ∷ vs) (inr k)
    ]
