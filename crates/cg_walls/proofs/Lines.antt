-- A list of points that is not empty has one line through it.
use Rattle.std.proofs.Common.{◌≡◌, refl, arith, ap, sym, ◌∙◌, subst, ◌⊎◌, inl, inr, List, [], ◌∷◌, ◌++◌, map, ℤ, pos, negsuc, ◌+ℤ◌, ◌-ℤ◌, ◌*ℤ◌, ◌≤ℤ◌, ◌<ℤ◌}
use Rattle.std.proofs.lemmas.Int.{ints}
use Rattle.std.proofs.lemmas.List.{map-append}
use Rattle.std.proofs.Math.IntN.{*ℤ-one, *ℤ-zero, *ℤ-negsuc, one}
use Rattle.std.specs.Int.{int_signum}
use Rattle.cg_walls.specs.Lines.{AllAfter, IsLastBy, Mark, OnLine, RiseAfter, before_all, further, since, value_since}

-- ---- the way from one value to another

pub further-up : (a b n : ℤ) → a <ℤ b → further a b n ≡ a +ℤ n
unfolding one
further-up a b n h = ap (λ z. a +ℤ n *ℤ z) (sign (b -ℤ a) (omega (arith, ints))) ∙ ap (λ z. a +ℤ z) (*ℤ-one n)
  where
    sign : (x : ℤ) → pos 0 <ℤ x → int_signum x ≡ pos 1
    sign (pos n) h = ap pos (omega (arith, ints))
    sign (negsuc n) h = absurd (omega (arith, ints))

pub further-down : (a b n : ℤ) → b <ℤ a → further a b n ≡ a -ℤ n
unfolding one
further-down a b n h = ap (λ z. a +ℤ n *ℤ z) (sign (b -ℤ a) (omega (arith, ints)))
    ∙ ap (λ z. a +ℤ z) (*ℤ-negsuc n 0) ∙ ap (λ z. a -ℤ z) (*ℤ-one n)
  where
    sign : (x : ℤ) → x <ℤ pos 0 → int_signum x ≡ negsuc 0
    sign (pos n) h = absurd (omega (arith, ints))
    sign (negsuc n) h = refl

pub further-none : (a b n : ℤ) → b ≡ a → further a b n ≡ a
further-none a b n e = ap (λ z. a +ℤ n *ℤ int_signum z) (none a b e) ∙ ap (λ z. a +ℤ z) (*ℤ-zero n) ∙ plus_none a
  where
    none : (a b : ℤ) → b ≡ a → b -ℤ a ≡ pos 0
    none a b e = omega (arith, ints)

    plus_none : (a : ℤ) → a +ℤ pos 0 ≡ a
    plus_none a = omega (arith, ints)

pub ways : (a b : ℤ) → (a <ℤ b) ⊎ (b <ℤ a) ⊎ (b ≡ a)
ways a b = grind (arith, ints)

-- ---- there is a line

le_or_after : (a t : ℤ) → (a ≤ℤ t) ⊎ (t <ℤ a)
le_or_after a t = grind (arith, ints)

last_by : (t : ℤ) (cs : List Mark) → AllAfter t cs ⊎ ((c : Mark) × (behind : List Mark) × IsLastBy t cs c behind)
last_by t [] = inl tt
last_by t (c ∷ cs) = elim (last_by t cs) [
  | inr (d, behind, l) ↦ inr (d, behind, record { front = c ∷ l.front; split = ap (λ z. c ∷ z) l.split; come = l.come; to_come = l.to_come })
  | inl a ↦ elim (le_or_after c.at t) [
    | inl h ↦ inr (c, cs, record { front = []; split = refl; come = h; to_come = a })
    | inr h ↦ inl (h, a)
  ]
]

pub some-on : (c : Mark) (cs : List Mark) (t : ℤ) → (x : ℤ) × OnLine (c ∷ cs) t x
some-on c cs t = elim (last_by t (c ∷ cs)) [
  | inl a ↦ (c.value, before_all c cs refl a refl)
  | inr (d, behind, l) ↦ (value_since d behind t, since d behind l refl)
]

-- ---- and one alone

after_later : (t : ℤ) (front : List Mark) (c : Mark) (behind : List Mark) → AllAfter t (front ++ (c ∷ behind)) → c.at ≤ℤ t → ⊥
after_later t [] c behind a h = let b = a.0 in omega (arith, ints)
after_later t (d ∷ front) c behind a h = after_later t front c behind a.1 h

record Same (c d : Mark) (r q : List Mark) : Type 0 where
  points : c ≡ d
  rests : r ≡ q

same-last : (t : ℤ) (f g : List Mark) (c d : Mark) (r q : List Mark) → f ++ (c ∷ r) ≡ g ++ (d ∷ q) → c.at ≤ℤ t → d.at ≤ℤ t
    → AllAfter t r → AllAfter t q → Same c d r q
same-last t [] [] c d r q e h k a b = record { points = cc; rests = cc }
same-last t [] (z ∷ g) c d r q e h k a b =
    let i : r ≡ g ++ (d ∷ q) = cc in
    absurd (after_later t g d q (subst (AllAfter t) i a) k)
same-last t (y ∷ f) [] c d r q e h k a b =
    let i : q ≡ f ++ (c ∷ r) = cc in
    absurd (after_later t f c r (subst (AllAfter t) i b) h)
same-last t (y ∷ f) (z ∷ g) c d r q e h k a b = same-last t f g c d r q (cc) h k a b

pub one-on : (cs : List Mark) (t x y : ℤ) → OnLine cs t x → OnLine cs t y → x ≡ y
one-on cs t x y (before_all c r e a v) (before_all d q f b w) =
    let i : c ≡ d = cc in v ∙ ap (λ (z : Mark). z.value) i ∙ sym w
one-on cs t x y (before_all c r e a v) (since d q l w) = absurd (after_later t l.front d q (subst (AllAfter t) l.split a) l.come)
one-on cs t x y (since c r l v) (before_all d q f b w) = absurd (after_later t l.front c r (subst (AllAfter t) l.split b) l.come)
one-on cs t x y (since c r l v) (since d q m w) =
    let s = same-last t l.front m.front c d r q (sym l.split ∙ m.split) l.come m.come l.to_come m.to_come in
    v ∙ ap (λ z. value_since z r t) s.points ∙ ap (λ z. value_since d z t) s.rests ∙ sym w

-- through no points there is none
none-on : (t x : ℤ) → OnLine [] t x → ⊥
none-on t x (before_all c r e a v) = absurd (cc)
none-on t x (since c r l v) = no l.front l.split
  where
    no : (front : List Mark) → [] ≡ front ++ (c ∷ r) → ⊥
    no [] e = absurd (cc)
    no (d ∷ front) e = absurd (cc)

pub on-along : (cs ds : List Mark) (t u x y : ℤ) → cs ≡ ds → t ≡ u → x ≡ y → OnLine cs t x → OnLine ds u y
on-along cs ds t u x y e f g o = subst (λ z. OnLine z u y) e (subst (λ z. OnLine cs z y) f (subst (OnLine cs t) g o))

-- ---- one point after the other

pub after-rise : (t u : ℤ) (cs : List Mark) → t ≤ℤ u → RiseAfter u cs → AllAfter t cs
after-rise t u [] h r = tt
after-rise t u (c ∷ cs) h r =
    let a = r.0 in
    let b : t <ℤ c.at = omega (arith, ints) in
    let d : t ≤ℤ c.at = omega (arith, ints) in
    (b, after-rise t c.at cs d r.1)

-- where the next point is after t, or there is none
pub on-since : (front : List Mark) (c : Mark) (behind : List Mark) (t : ℤ) → c.at ≤ℤ t → AllAfter t behind
    → OnLine (front ++ (c ∷ behind)) t (value_since c behind t)
on-since front c behind t h a = since c behind (record { front = front; split = refl; come = h; to_come = a }) refl

-- ---- at twice the scale

abbrev twice : ℤ → ℤ
twice n = n +ℤ n

abbrev pub double : Mark → Mark
double c = record { value = c.value +ℤ c.value; at = c.at +ℤ c.at }

after-double : (t : ℤ) (cs : List Mark) → AllAfter t cs → AllAfter (twice t) (map double cs)
after-double t [] a = tt
after-double t (c ∷ cs) a = let h = a.0 in let k : twice t <ℤ twice c.at = omega (arith, ints) in (k, after-double t cs a.1)

further-double : (a b n m : ℤ) → m ≡ twice n → further (twice a) (twice b) m ≡ twice (further a b n)
further-double a b n m e = elim (ways a b) [
  | inl h ↦ (let u = further-up a b n h in
      let d = further-up (twice a) (twice b) m (omega (arith, ints)) in d ∙ up a n m (further a b n) e u)
  | inr (inl h) ↦ (let u = further-down a b n h in
      let d = further-down (twice a) (twice b) m (omega (arith, ints)) in d ∙ down a n m (further a b n) e u)
  | inr (inr h) ↦ further-none (twice a) (twice b) m (ap twice h) ∙ ap twice (sym (further-none a b n h))
]
  where
    up : (a n m f : ℤ) → m ≡ twice n → f ≡ a +ℤ n → twice a +ℤ m ≡ twice f
    up a n m f e g = omega (arith, ints)

    down : (a n m f : ℤ) → m ≡ twice n → f ≡ a -ℤ n → twice a -ℤ m ≡ twice f
    down a n m f e g = omega (arith, ints)

since-double : (c : Mark) (behind : List Mark) (t : ℤ) → value_since (double c) (map double behind) (twice t) ≡ twice (value_since c behind t)
since-double c [] t = refl
since-double c (d ∷ ds) t = further-double c.value d.value (t -ℤ c.at) (twice t -ℤ twice c.at) (omega (arith, ints))

pub double-on : (cs : List Mark) (t x : ℤ) → OnLine cs t x → OnLine (map double cs) (twice t) (twice x)
double-on cs t x (before_all c r e a v) = before_all (double c) (map double r) (ap (map double) e) (after-double t cs a) (ap twice v)
double-on cs t x (since c r l v) = since (double c) (map double r) (record {
  front = map double l.front;
  split = ap (map double) l.split ∙ map-append double l.front (c ∷ r);
  come = (let h = l.come in omega (arith, ints));
  to_come = after-double t r l.to_come;
}) (ap twice v ∙ sym (since-double c r t))

pub double-back : (cs : List Mark) (t x : ℤ) → OnLine (map double cs) (twice t) (twice x) → OnLine cs t x
double-back [] t x o = absurd (none-on (twice t) (twice x) o)
double-back (c ∷ cs) t x o =
    let (y, i) = some-on c cs t in
    let e = one-on (map double (c ∷ cs)) (twice t) (twice x) (twice y) o (double-on (c ∷ cs) t y i) in
    subst (OnLine (c ∷ cs) t) (half x y e) i
  where
    half : (x y : ℤ) → twice x ≡ twice y → y ≡ x
    half x y e = omega (arith, ints)
