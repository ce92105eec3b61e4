-- The games of named forms, by their lists of options.
use Rattle.std.proofs.Common.{◌≡◌, refl, ap, sym, ◌∙◌, ℕ, zero, suc, arith, List, [], ◌∷◌, ◌++◌, map, length, Bool, true, false, not}
use Rattle.std.proofs.lemmas.List.{length-map, map-append}
use Rattle.cg_dyadic.specs.Number.{Number}
use Rattle.cg_form.specs.Depth.{deepest_of, depth_of}
use Rattle.cg_form.specs.Game.{Game, Games, more, node, none, number, of_list, options}
use Rattle.cg_form.specs.Shifted.{shifted, shifted_all}
use Rattle.cg_form.specs.Side.{far, near}
use Rattle.cg_nodes.specs.Games.{IsNode}
use Rattle.cg_names.specs.Named.{mirrored_if, nimber_form, nimber_over, nimbers_below, star_form, ups_of, zero_form}
use Rattle.cg_names.specs.Readings.{stars_above}
use Rattle.cg_nimbers.proofs.NimberLists.{nimbers_below-next}
use Rattle.cg_nimbers.proofs.NimberPositions.{length-nimbers_below}
use Rattle.cg_names.proofs.Reducing.{far-mirrored, near-mirrored}
use Rattle.cg_form.proofs.Shifted.{number_sum-zero}

-- ---- lists

shifted_list : (x : Number) (gs : List Game) → shifted_all x (of_list gs) ≡ of_list (map (shifted x) gs)
shifted_list x [] = refl
shifted_list x (g ∷ gs) = ap (λ z. more (shifted x g) z) (shifted_list x gs)

pub shifted-node : (x : Number) (ls rs : List Game) → shifted x (node ls rs) ≡ node (map (shifted x) ls) (map (shifted x) rs)
shifted-node x ls rs =
    ap (λ z. options z (shifted_all x (of_list rs))) (shifted_list x ls)
    ∙ ap (λ z. options (of_list (map (shifted x) ls)) z) (shifted_list x rs)

shifted-mirrored : (x : Number) (down : Bool) (ls rs : List Game) → shifted x (mirrored_if down ls rs)
    ≡ mirrored_if down (map (shifted x) ls) (map (shifted x) rs)
shifted-mirrored x false ls rs = shifted-node x ls rs
shifted-mirrored x true ls rs = shifted-node x rs ls

pub shifted-zero : (x : Number) → shifted x zero_form ≡ number x
shifted-zero x = ap number (number_sum-zero x)

-- mirrored games are the same where their lists are
pub mirrored-own : (down : Bool) (ls rs cs ds : List Game) → mirrored_if down ls rs ≡ mirrored_if down cs ds → ls ≡ cs
mirrored-own down ls rs cs ds e = sym (near-mirrored down ls rs) ∙ ap (near (not down)) e ∙ near-mirrored down cs ds

pub mirrored-others : (down : Bool) (ls rs cs ds : List Game) → mirrored_if down ls rs ≡ mirrored_if down cs ds
    → rs ≡ ds
mirrored-others down ls rs cs ds e = sym (far-mirrored down ls rs) ∙ ap (far (not down)) e ∙ far-mirrored down cs ds

pub mirrored-node : (down : Bool) (ls rs : List Game) → IsNode (mirrored_if down ls rs)
mirrored-node false ls rs = tt
mirrored-node true ls rs = tt

-- ---- x + *n

-- x + *
abbrev pub star_above : Number → Game
star_above x = node (number x ∷ []) (number x ∷ [])

pub stars_next : (x : Number) (n : ℕ) → stars_above x (suc n) ≡ stars_above x n ++ (shifted x (nimber_form n) ∷ [])
stars_next x n = ap (map (shifted x)) (nimbers_below-next n) ∙ map-append (shifted x) (nimbers_below n)
    (nimber_form n ∷ [])

over_some : (gs : List Game) (g : Game) → nimber_over (gs ++ (g ∷ [])) ≡ node (gs ++ (g ∷ [])) (gs ++ (g ∷ []))
over_some [] g = refl
over_some (h ∷ gs) g = refl

pub nimber_next : (n : ℕ) → nimber_form (suc n) ≡ node (nimbers_below (suc n)) (nimbers_below (suc n))
unfolding nimber_form
nimber_next n =
    let L : List Game = nimbers_below n ++ (nimber_form n ∷ []) in
    ap nimber_over (nimbers_below-next n) ∙ over_some (nimbers_below n) (nimber_form n)
    ∙ sym (ap (λ z. node z z) (nimbers_below-next n))

pub star_over : (x : Number) (n : ℕ) → shifted x (nimber_form (suc n)) ≡ node (stars_above x (suc n))
    (stars_above x (suc n))
star_over x n = ap (shifted x) (nimber_next n) ∙ shifted-node x (nimbers_below (suc n)) (nimbers_below (suc n))

pub length-stars : (x : Number) (n : ℕ) → length (stars_above x n) ≡ n
length-stars x n = length-map (nimbers_below n) (shifted x) ∙ length-nimbers_below n

-- 0 stands first
zero_first : (n : ℕ) → (gs : List Game) × (nimbers_below (suc n) ≡ zero_form ∷ gs)
unfolding nimbers_below nimber_form
zero_first zero = ([], refl)
zero_first (suc n) =
    let (gs, e) = zero_first n in
    (gs ++ (nimber_form (suc n) ∷ []), nimbers_below-next (suc n) ∙ ap (λ z. z ++ (nimber_form (suc n) ∷ [])) e)

pub stars_first : (x : Number) (n : ℕ) → (gs : List Game) × (stars_above x (suc n) ≡ number x ∷ gs)
stars_first x n =
    let (gs, e) = zero_first n in
    (map (shifted x) gs, ap (map (shifted x)) e ∙ ap (λ z. z ∷ map (shifted x) gs) (shifted-zero x))

-- ---- x + n.^ and x + n.^*

star_shifted : (x : Number) → shifted x star_form ≡ star_above x
star_shifted x = ap (λ z. node (z ∷ []) (z ∷ [])) (shifted-zero x)

pub level_is : (down : Bool) (x : Number) → shifted x (ups_of down true zero) ≡ mirrored_if down (number x ∷ [])
    (number x ∷ [])
unfolding ups_of
level_is false x = star_shifted x
level_is true x = star_shifted x

pub no_ups : (down : Bool) (x : Number) → shifted x (ups_of down false zero) ≡ number x
unfolding ups_of
no_ups down x = shifted-zero x

pub both_is : (down : Bool) (x : Number) → shifted x (ups_of down true (suc zero))
    ≡ mirrored_if down (number x ∷ (star_above x ∷ [])) (number x ∷ [])
unfolding ups_of
both_is down x = shifted-mirrored x down (zero_form ∷ (star_form ∷ [])) (zero_form ∷ [])
    ∙ ap (λ z. mirrored_if down (z ∷ (shifted x star_form ∷ [])) (z ∷ [])) (shifted-zero x)
    ∙ ap (λ z. mirrored_if down (number x ∷ (z ∷ [])) (number x ∷ [])) (star_shifted x)

-- all but 0, * and ^*
abbrev pub IsStep : Bool → ℕ → Type 0
IsStep false zero = Unit {0}
IsStep true zero = ⊥
IsStep starred (suc n) = Unit {0}

pub step_is : (down starred : Bool) (x : Number) (n : ℕ) → IsStep starred n → shifted x (ups_of down starred (suc n))
    ≡ mirrored_if down (number x ∷ []) (shifted x (ups_of down (not starred) n) ∷ [])
unfolding ups_of
step_is down starred x n s = by starred n s
  where
    at : (h : Game) → shifted x (mirrored_if down (zero_form ∷ []) (h ∷ [])) ≡ mirrored_if down (number x ∷ [])
        (shifted x h ∷ [])
    at h = shifted-mirrored x down (zero_form ∷ []) (h ∷ [])
        ∙ ap (λ z. mirrored_if down (z ∷ []) (shifted x h ∷ [])) (shifted-zero x)

    by : (t : Bool) (m : ℕ) → IsStep t m → shifted x (ups_of down t (suc m))
        ≡ mirrored_if down (number x ∷ []) (shifted x (ups_of down (not t) m) ∷ [])
    by true zero i = absurd i
    by false zero i = at star_form
    by t (suc m) i = at (ups_of down (not t) (suc m))

-- ---- the cases of a game that has such a form

pub data ArrowsShape (down starred : Bool) (x : Number) (n : ℕ) (ls rs : List Game) : Type 0 where
  level : starred ≡ true → n ≡ zero → ls ≡ number x ∷ [] → rs ≡ number x ∷ [] → ArrowsShape down starred x n ls rs
  both : starred ≡ true → n ≡ suc zero → ls ≡ number x ∷ (star_above x ∷ []) → rs ≡ number x ∷ []
      → ArrowsShape down starred x n ls rs
  step : (m : ℕ) → IsStep starred m → n ≡ suc m → ls ≡ number x ∷ []
      → rs ≡ shifted x (ups_of down (not starred) m) ∷ [] → ArrowsShape down starred x n ls rs

pub not_number : (g : Game) (x : Number) → IsNode g → ¬ (g ≡ number x)
not_number g x i e = rw e at i

pub arrows_shape : (down starred : Bool) (x : Number) (n : ℕ) (ls rs : List Game)
    → mirrored_if down ls rs ≡ shifted x (ups_of down starred n) → ArrowsShape down starred x n ls rs
arrows_shape down false x zero ls rs e = absurd (not_number (mirrored_if down ls rs) x (mirrored-node down ls rs)
    (e ∙ no_ups down x))
arrows_shape down true x zero ls rs e =
    let f = e ∙ level_is down x in
    level refl refl (mirrored-own down ls rs (number x ∷ []) (number x ∷ []) f)
    (mirrored-others down ls rs (number x ∷ []) (number x ∷ []) f)
arrows_shape down true x (suc zero) ls rs e =
    let f = e ∙ both_is down x in
    both refl refl (mirrored-own down ls rs (number x ∷ (star_above x ∷ [])) (number x ∷ []) f)
    (mirrored-others down ls rs (number x ∷ (star_above x ∷ [])) (number x ∷ []) f)
arrows_shape down false x (suc zero) ls rs e =
    let f = e ∙ step_is down false x zero tt in
    step zero tt refl (mirrored-own down ls rs (number x ∷ []) _ f) (mirrored-others down ls rs (number x ∷ []) _ f)
arrows_shape down starred x (suc (suc n)) ls rs e =
    let f = e ∙ step_is down starred x (suc n) tt in
    step (suc n) tt refl (mirrored-own down ls rs (number x ∷ []) _ f)
    (mirrored-others down ls rs (number x ∷ []) _ f)

-- the option that isn't a number is a game of this kind
pub step_node : (down starred : Bool) (x : Number) (n : ℕ) → IsStep starred n
    → IsNode (shifted x (ups_of down (not starred) n))
step_node down starred x n s = by starred n s
  where
    at : (g h : Game) → g ≡ h → IsNode h → IsNode g
    at g h e i = rw e i

    by : (t : Bool) (m : ℕ) → IsStep t m → IsNode (shifted x (ups_of down (not t) m))
    by true zero i = absurd i
    by false zero i = at _ _ (level_is down x) (mirrored-node down (number x ∷ []) (number x ∷ []))
    by false (suc zero) i = at _ _ (both_is down x) (mirrored-node down (number x ∷ (star_above x ∷ [])) (number x ∷ []))
    by true (suc zero) i = at _ _ (step_is down false x zero tt)
        (mirrored-node down (number x ∷ []) (shifted x (ups_of down true zero) ∷ []))
    by t (suc (suc m)) i = at _ _ (step_is down (not t) x (suc m) tt)
        (mirrored-node down (number x ∷ []) (shifted x (ups_of down (not (not t)) (suc m)) ∷ []))

-- ---- depth

mutual
  pub depth-shifted : (x : Number) (g : Game) → depth_of (shifted x g) ≡ depth_of g
  depth-shifted x (number y) = refl
  depth-shifted x (options ls rs) = rw (deepest-shifted x ls, deepest-shifted x rs) refl

  deepest-shifted : (x : Number) (gs : Games) → deepest_of (shifted_all x gs) ≡ deepest_of gs
  deepest-shifted x none = refl
  deepest-shifted x (more g gs) = rw (depth-shifted x g, deepest-shifted x gs) refl

-- {0|g} is one deeper
depth-mirrored : (down : Bool) (g : Game) → depth_of (mirrored_if down (zero_form ∷ []) (g ∷ [])) ≡ suc (depth_of g)
depth-mirrored false g = omega arith
depth-mirrored true g = omega arith

pub depth-ups : (down starred : Bool) (n : ℕ) → depth_of (ups_of down starred (suc n)) ≡ suc (suc n)
unfolding ups_of
depth-ups false false zero = refl
depth-ups true false zero = refl
depth-ups false true zero = refl
depth-ups true true zero = refl
depth-ups down starred (suc n) = depth-mirrored down (ups_of down (not starred) (suc n))
    ∙ ap (λ (k : ℕ). suc k) (depth-ups down (not starred) n)

depth_star : (down : Bool) → depth_of (ups_of down true zero) ≡ suc zero
unfolding ups_of
depth_star down = refl

-- of the option that isn't a number
pub depth_step : (down starred : Bool) (x : Number) (n : ℕ) → IsStep starred n
    → depth_of (shifted x (ups_of down (not starred) n)) ≡ suc n
depth_step down starred x n s = by starred n s
  where
    by : (t : Bool) (m : ℕ) → IsStep t m → depth_of (shifted x (ups_of down (not t) m)) ≡ suc m
    by true zero i = absurd i
    by false zero i = depth-shifted x (ups_of down true zero) ∙ depth_star down
    by t (suc m) i = depth-shifted x (ups_of down (not t) (suc m)) ∙ depth-ups down (not t) m

-- x + *, as a game of arrows and as one of stars
pub one_star_form : (down : Bool) (x : Number) → shifted x (ups_of down true zero) ≡ shifted x (nimber_form (suc zero))
unfolding ups_of nimber_form nimbers_below
one_star_form down x = refl
