-- The structural order is strict and total.
use Rattle.std.proofs.Common.{◌≡◌, refl, ◌⊎◌, inl, inr, ap, sym, ◌∙◌, subst, List, [], ◌∷◌, true, IsTrue, rules}
use Rattle.std.specs.declared.cmp.Ordering.{Ordering}
use Rattle.std.specs.declared.cmp.Ordering.TheVariants.{Less, Equal, Greater}
use Rattle.cg_dyadic.specs.Number.{Number, NumberLe, number_cmp, number_le}
use Rattle.cg_dyadic.proofs.Compare.{number_cmp-equal, number_cmp-greater, number_cmp-less, number_cmp-same}
use Rattle.cg_dyadic.proofs.Truth.{false-from, true-or-not}
use Rattle.cg_dyadic.proofs.Values.{less-le, number_le-trans}
use Rattle.cg_form.specs.Game.{Among, Game, Games, more, none, number, options}
use Rattle.cg_form.specs.Order.{le}
use Rattle.cg_form.specs.Structure.{Before, Rises, and_then, game_cmp, is_equal, is_same, list_cmp}
use Rattle.cg_form.proofs.Firsts.{Test}

less_equal : Less ≡ Equal → ⊥
less_equal e = cc

greater_less : Greater ≡ Less → ⊥
greater_less e = cc

greater_equal : Greater ≡ Equal → ⊥
greater_equal e = cc

-- ---- numbers

number_less : (x y : Number) → number_cmp x y ≡ Less → NumberLe x y × (¬ NumberLe y x)
number_less x y h = elim (true-or-not (number_le x y)) [
  | inl p ↦ elim (true-or-not (number_le y x)) [
    | inl q ↦ absurd (less_equal (sym h ∙ number_cmp-equal x y p q))
    | inr q ↦ (p, q)
  ]
  | inr p ↦ absurd (greater_less (sym (number_cmp-greater x y (false-from (number_le x y) p)) ∙ h))
]

number_cmp-trans : (x y z : Number) → number_cmp x y ≡ Less → number_cmp y z ≡ Less → number_cmp x z ≡ Less
number_cmp-trans x y z h k =
    let (a, b) = number_less x y h in
    let (c, d) = number_less y z k in
    number_cmp-less x z (number_le-trans x y z a c)
    (false-from (number_le z x) (λ l. b (number_le-trans y z x c l)))

-- ---- two comparisons

then_less : (o p : Ordering) → and_then o p ≡ Less → (o ≡ Less) ⊎ ((o ≡ Equal) × (p ≡ Less))
then_less Less p h = inl refl
then_less Equal p h = inr (refl, h)
then_less Greater p h = absurd (greater_less h)

then_equal : (o p : Ordering) → and_then o p ≡ Equal → (o ≡ Equal) × (p ≡ Equal)
then_equal Less p h = absurd (less_equal h)
then_equal Equal p h = (refl, h)
then_equal Greater p h = absurd (greater_equal h)

less_then : (o p : Ordering) → o ≡ Less → and_then o p ≡ Less
less_then o p h = rw h refl

equal_then : (o p : Ordering) → o ≡ Equal → p ≡ Less → and_then o p ≡ Less
equal_then o p h k = rw (h, k) refl

mutual
  pub game_cmp-refl : (g : Game) → game_cmp g g ≡ Equal
  game_cmp-refl (number x) = (number_cmp-same x x).1 refl
  game_cmp-refl (options ls rs) = rw (list_cmp-refl ls) (list_cmp-refl rs)

  pub list_cmp-refl : (gs : Games) → list_cmp gs gs ≡ Equal
  list_cmp-refl none = refl
  list_cmp-refl (more g gs) = rw (game_cmp-refl g) (list_cmp-refl gs)

mutual
  pub game_cmp-same : (g h : Game) → game_cmp g h ≡ Equal → g ≡ h
  game_cmp-same (number x) (number y) e = ap number ((number_cmp-same x y).0 e)
  game_cmp-same (number x) (options cs ds) e = absurd (less_equal e)
  game_cmp-same (options ls rs) (number y) e = absurd (greater_equal e)
  game_cmp-same (options ls rs) (options cs ds) e =
      let (p, q) = then_equal (list_cmp ls cs) (list_cmp rs ds) e in
      ap (λ z. options z rs) (list_cmp-same ls cs p) ∙ ap (λ z. options cs z) (list_cmp-same rs ds q)

  pub list_cmp-same : (gs hs : Games) → list_cmp gs hs ≡ Equal → gs ≡ hs
  list_cmp-same none none e = refl
  list_cmp-same none (more h hs) e = absurd (less_equal e)
  list_cmp-same (more g gs) none e = absurd (greater_equal e)
  list_cmp-same (more g gs) (more h hs) e =
      let (p, q) = then_equal (game_cmp g h) (list_cmp gs hs) e in
      ap (λ z. more z gs) (game_cmp-same g h p) ∙ ap (λ z. more h z) (list_cmp-same gs hs q)

-- by the two comparisons of a pair
step : (o p q s t u : Ordering) → (o ≡ Less → s ≡ Less → u ≡ Less) → (o ≡ Less → s ≡ Equal → u ≡ Less)
    → (o ≡ Equal → s ≡ Less → u ≡ Less)
    → (o ≡ Equal → s ≡ Equal → u ≡ Equal) → {v : Ordering} → (p ≡ Less → t ≡ Less → v ≡ Less)
    → and_then o p ≡ Less → and_then s t ≡ Less → and_then u v ≡ Less
step o p q s t u ll le el ee second h k = elim (then_less o p h) [
  | inl a ↦ elim (then_less s t k) [
    | inl b ↦ less_then u _ (ll a b)
    | inr b ↦ less_then u _ (le a b.0)
  ]
  | inr a ↦ elim (then_less s t k) [
    | inl b ↦ less_then u _ (el a.0 b)
    | inr b ↦ equal_then u _ (ee a.0 b.0) (second a.1 b.1)
  ]
]

mutual
  pub game_cmp-trans : (g h k : Game) → game_cmp g h ≡ Less → game_cmp h k ≡ Less → game_cmp g k ≡ Less
  game_cmp-trans (number x) (number y) (number z) p q = number_cmp-trans x y z p q
  game_cmp-trans (number x) (number y) (options es fs) p q = refl
  game_cmp-trans (number x) (options cs ds) (number z) p q = absurd (greater_less q)
  game_cmp-trans (number x) (options cs ds) (options es fs) p q = refl
  game_cmp-trans (options ls rs) (number y) k p q = absurd (greater_less p)
  game_cmp-trans (options ls rs) (options cs ds) (number z) p q = absurd (greater_less q)
  game_cmp-trans (options ls rs) (options cs ds) (options es fs) p q =
      step (list_cmp ls cs) (list_cmp rs ds) Less (list_cmp cs es) (list_cmp ds fs) (list_cmp ls es)
      (λ a b. list_cmp-trans ls cs es a b)
      (λ a b. rw (← list_cmp-same cs es b) a)
      (λ a b. rw (list_cmp-same ls cs a) b)
      (λ a b. rw (list_cmp-same ls cs a) b)
      (λ a b. list_cmp-trans rs ds fs a b) p q

  pub list_cmp-trans : (gs hs ks : Games) → list_cmp gs hs ≡ Less → list_cmp hs ks ≡ Less → list_cmp gs ks ≡ Less
  list_cmp-trans none none ks p q = absurd (less_equal (sym p))
  list_cmp-trans none (more h hs) none p q = absurd (greater_less q)
  list_cmp-trans none (more h hs) (more k ks) p q = refl
  list_cmp-trans (more g gs) none ks p q = absurd (greater_less p)
  list_cmp-trans (more g gs) (more h hs) none p q = absurd (greater_less q)
  list_cmp-trans (more g gs) (more h hs) (more k ks) p q =
      step (game_cmp g h) (list_cmp gs hs) Less (game_cmp h k) (list_cmp hs ks) (game_cmp g k)
      (λ a b. game_cmp-trans g h k a b)
      (λ a b. rw (← game_cmp-same h k b) a)
      (λ a b. rw (game_cmp-same g h a) b)
      (λ a b. rw (game_cmp-same g h a) b)
      (λ a b. list_cmp-trans gs hs ks a b) p q

pub before_not_same : (g h : Game) → Before g h → g ≡ h → ⊥
before_not_same g h p e = less_equal (sym (rw (← e) at p) ∙ game_cmp-refl g)

pub before_not_after : (g h : Game) → Before g h → ¬ Before h g
before_not_after g h p q = before_not_same g g (game_cmp-trans g h g p q) refl

-- rising lists of the same games are the same
pub rises-same : (gs hs : List Game) → Rises gs → Rises hs → ((a : Game) → Among a gs → Among a hs)
    → ((a : Game) → Among a hs → Among a gs) → gs ≡ hs
rises-same [] [] r s p q = refl
rises-same [] (h ∷ hs) r s p q = absurd (q h (inl refl))
rises-same (g ∷ gs) [] r s p q = absurd (p g (inl refl))
rises-same (g ∷ gs) (h ∷ hs) r s p q =
    let e : g ≡ h = elim (p g (inl refl)) [
      | inl e ↦ e
      | inr m ↦ elim (q h (inl refl)) [
        | inl e ↦ sym e
        | inr n ↦ absurd (before_not_after g h (r.0 h n) (s.0 g m))
      ]
    ] in
    let t : gs ≡ hs = rises-same gs hs r.1 s.1
    (λ a m. elim (p a (inr m)) [
      | inl k ↦ absurd (before_not_same g a (r.0 a m) (e ∙ sym k))
      | inr n ↦ n
    ])
    (λ a m. elim (q a (inr m)) [
      | inl k ↦ absurd (before_not_same h a (s.0 a m) (sym e ∙ sym k))
      | inr n ↦ n
    ]) in
    ap (λ z. z ∷ gs) e ∙ ap (λ z. h ∷ z) t

-- ---- turned round

number_cmp-turned : (x y : Number) → number_cmp x y ≡ Greater → number_cmp y x ≡ Less
number_cmp-turned x y h = elim (true-or-not (number_le x y)) [
  | inl p ↦ elim (true-or-not (number_le y x)) [
    | inl q ↦ absurd (greater_equal (sym h ∙ number_cmp-equal x y p q))
    | inr q ↦ absurd (greater_less (sym h ∙ number_cmp-less x y p (false-from (number_le y x) q)))
  ]
  | inr p ↦ number_cmp-less y x (less-le x y p) (false-from (number_le x y) p)
]

then_greater : (o p : Ordering) → and_then o p ≡ Greater → (o ≡ Greater) ⊎ ((o ≡ Equal) × (p ≡ Greater))
then_greater Less p h = absurd (greater_less (sym h))
then_greater Equal p h = inr (refl, h)
then_greater Greater p h = inl refl

mutual
  pub game_cmp-turned : (g h : Game) → game_cmp g h ≡ Greater → game_cmp h g ≡ Less
  game_cmp-turned (number x) (number y) e = number_cmp-turned x y e
  game_cmp-turned (number x) (options cs ds) e = absurd (greater_less (sym e))
  game_cmp-turned (options ls rs) (number y) e = refl
  game_cmp-turned (options ls rs) (options cs ds) e = elim (then_greater (list_cmp ls cs) (list_cmp rs ds) e) [
    | inl p ↦ less_then (list_cmp cs ls) (list_cmp ds rs) (list_cmp-turned ls cs p)
    | inr p ↦ equal_then (list_cmp cs ls) (list_cmp ds rs) (rw (← list_cmp-same ls cs p.0) (list_cmp-refl ls))
        (list_cmp-turned rs ds p.1)
  ]

  pub list_cmp-turned : (gs hs : Games) → list_cmp gs hs ≡ Greater → list_cmp hs gs ≡ Less
  list_cmp-turned none none e = absurd (greater_equal (sym e))
  list_cmp-turned none (more h hs) e = absurd (greater_less (sym e))
  list_cmp-turned (more g gs) none e = refl
  list_cmp-turned (more g gs) (more h hs) e = elim (then_greater (game_cmp g h) (list_cmp gs hs) e) [
    | inl p ↦ less_then (game_cmp h g) (list_cmp hs gs) (game_cmp-turned g h p)
    | inr p ↦ equal_then (game_cmp h g) (list_cmp hs gs) (rw (← game_cmp-same g h p.0) (game_cmp-refl g))
        (list_cmp-turned gs hs p.1)
  ]

-- equal by structure are the same games, and no others
pub game_cmp-both : (g h : Game) → (game_cmp g h ≡ Equal → g ≡ h) × (g ≡ h → game_cmp g h ≡ Equal)
game_cmp-both g h = (
  game_cmp-same g h,
  λ e. rw e (game_cmp-refl h),
)

-- for the code
pub compared_same : (o : Ordering) (g h : Game) → o ≡ game_cmp g h → (o ≡ Equal → g ≡ h) × (g ≡ h → o ≡ Equal)
compared_same o g h e = (λ k. game_cmp-same g h (sym e ∙ k), λ k. e ∙ (game_cmp-both g h).1 k)

pub before-turned : (g h : Game) → Before g h → game_cmp h g ≡ Greater
before-turned g h b = by (game_cmp h g) refl
  where
    by : (o : Ordering) → game_cmp h g ≡ o → o ≡ Greater
    by Less e = absurd (before_not_after g h b e)
    by Equal e = absurd (before_not_same g h b (sym (game_cmp-same h g e)))
    by Greater e = refl

-- ---- one tree

is_equal-back : (o : Ordering) → IsTrue (is_equal o) → o ≡ Equal
is_equal-back Less h = absurd (search (rules, h))
is_equal-back Equal h = refl
is_equal-back Greater h = absurd (search (rules, h))

pub is_same-back : (g h : Game) → IsTrue (is_same g h) → g ≡ h
is_same-back g h t = game_cmp-same g h (is_equal-back (game_cmp g h) t)

pub is_same-refl : (g : Game) → is_same g g ≡ true
is_same-refl g = ap is_equal (game_cmp-refl g)

pub is_same-both : (g h : Game) → (is_same g h ≡ true → g ≡ h) × (g ≡ h → is_same g h ≡ true)
is_same-both g h = (is_same-back g h, λ e. subst (λ k. is_same g k ≡ true) e (is_same-refl g))

-- the test of whether two games are one
abbrev pub games : Test Game
games = record { same = is_same; back = is_same-back; own = is_same-refl }
