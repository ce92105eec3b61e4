-- The line through the corners of a wall is the wall.
use Rattle.std.proofs.Common.{◌≡◌, refl, ℕ, ◌+◌, ◌-◌, ◌<◌, ◌≤◌, arith, zero, suc, Bool, true, false, ◌⊎◌, inl, inr}
use Rattle.std.proofs.Common.{ap, sym, ◌∙◌, List, [], ◌∷◌, ◌++◌, ℤ, pos, ◌+ℤ◌, ◌-ℤ◌, ◌≤ℤ◌, ◌<ℤ◌, append_assoc}
use Rattle.std.proofs.lemmas.Int.{ints}
use Rattle.std.proofs.lemmas.Bool.Decides.{Decides-int_eq}
use Rattle.std.specs.Prelude.{if◌then◌else◌}
use Rattle.cg_walls.specs.Corners.{corners, mark, marks, point, straight, turns}
use Rattle.cg_walls.specs.Lines.{Mark, OnLine, RiseAfter, TimesRise, further}
use Rattle.cg_walls.proofs.Lines.{after-rise, further-down, further-none, further-up, on-since}

-- a direction, and n steps in it
pub data Way : Type 0 where
  down : Way
  flat : Way
  up : Way

abbrev pub moved : Way → ℤ → ℕ → ℤ
moved down a n = a -ℤ pos n
moved flat a n = a
moved up a n = a +ℤ pos n

-- from one t to the next the wall moves by at most 1
pub record Gentle (w : ℕ → ℤ) : Type 0 where
  pub up_by_one : (t : ℕ) → w (suc t) ≤ℤ (w t +ℤ pos 1)
  pub down_by_one : (t : ℕ) → w t ≤ℤ (w (suc t) +ℤ pos 1)

way_of : (w : ℕ → ℤ) → Gentle w → (t : ℕ) → (d : Way) × (w (suc t) ≡ moved d (w t) 1)
way_of w g t = let a = g.up_by_one t in let b = g.down_by_one t in elim (cases (w t) (w (suc t))) [
  | inl p ↦ (up, omega (arith, ints))
  | inr (inl p) ↦ (down, omega (arith, ints))
  | inr (inr p) ↦ (flat, p)
]
  where
    cases : (a b : ℤ) → (a <ℤ b) ⊎ (b <ℤ a) ⊎ (b ≡ a)
    cases a b = grind (arith, ints)

further-is : (d : Way) (a b : ℤ) (n m : ℕ) → b ≡ moved d a (suc m) → moved d a n ≡ further a b (pos n)
further-is down a b n m e = sym (further-down a b (pos n) (omega (arith, ints)))
further-is flat a b n m e = sym (further-none a b (pos n) e)
further-is up a b n m e = sym (further-up a b (pos n) (omega (arith, ints)))

-- the wall moves in one direction from c to t
pub record Run (w : ℕ → ℤ) (d : Way) (c t : ℕ) : Type 0 where
  pub all : (u : ℕ) → c ≤ u → u ≤ t → w u ≡ moved d (w c) (u - c)

le_cases : (a b : ℕ) → (a ≤ b) ⊎ (b < a)
le_cases a b = grind arith

-- one segment, and what follows it
segment : (w : ℕ → ℤ) (d : Way) (c t : ℕ) (rest : List Mark) (u : ℕ) → Run w d c t → c < t → c ≤ u → RiseAfter (pos t) rest
    → (t ≤ u → (front : List Mark) → OnLine (front ++ (mark (point w t) ∷ rest)) (pos u) (w u)) → (front : List Mark)
    → OnLine (front ++ (mark (point w c) ∷ (mark (point w t) ∷ rest))) (pos u) (w u)
segment w d c t rest u r h k rise f front = elim (le_cases t u) [
  | inl p ↦
      rw (append_assoc front (mark (point w c) ∷ []) (mark (point w t) ∷ rest)) at (f p (front ++ (mark (point w c) ∷ [])))
  | inr p ↦
      let before : pos c ≤ℤ pos u = omega (arith, ints) in
      let ahead : pos u <ℤ pos t = omega (arith, ints) in
      let within : pos u ≤ℤ pos t = omega (arith, ints) in
      rw (r.all u k (omega arith)
      ∙ further-is d (w c) (w t) (u - c) (t - c - 1) (r.all t (omega arith) (omega arith) ∙ ap (λ n. moved d (w c) n) (step c t h))
      ∙ ap (further (w c) (w t)) (gone c u k))
      (on-since front (mark (point w c)) (mark (point w t) ∷ rest) (pos u) before (ahead, after-rise (pos u) (pos t) rest within rise))
]
  where
    step : (c t : ℕ) → c < t → t - c ≡ suc (t - c - 1)
    step c t h = omega arith

    gone : (c u : ℕ) → c ≤ u → pos (u - c) ≡ pos u -ℤ pos c
    gone c u h = omega (arith, ints)

one_step : (w : ℕ → ℤ) (d : Way) (t : ℕ) → w (suc t) ≡ moved d (w t) 1 → Run w d t (suc t)
one_step w d t e = record {
  all = λ u h k. elim (le_or_eq u t h k) [
    | inl p ↦ rw p (still d t)
    | inr p ↦ rw p (e ∙ ap (λ n. moved d (w t) n) (one t))
  ];
}
  where
    le_or_eq : (u t : ℕ) → t ≤ u → u ≤ suc t → (u ≡ t) ⊎ (u ≡ suc t)
    le_or_eq u t h k = grind arith

    one : (t : ℕ) → 1 ≡ suc t - t
    one t = omega arith

    nothing : (t : ℕ) → t - t ≡ 0
    nothing t = omega arith

    by_none : (d : Way) (a : ℤ) → a ≡ moved d a 0
    by_none down a = omega (arith, ints)
    by_none flat a = refl
    by_none up a = omega (arith, ints)

    still : (d : Way) (t : ℕ) → w t ≡ moved d (w t) (t - t)
    still d t = by_none d (w t) ∙ ap (λ n. moved d (w t) n) (sym (nothing t))

straight_is : (w : ℕ → ℤ) (t : ℕ) → straight w t ≡ true → w (suc (suc t)) -ℤ w (suc t) ≡ w (suc t) -ℤ w t
straight_is w t h = (Decides-int_eq (w (suc (suc t)) -ℤ w (suc t)) (w (suc t) -ℤ w t)).0 h

-- the run goes on where the wall is straight
longer : (w : ℕ → ℤ) (d : Way) (c t : ℕ) → c ≤ t → Run w d c (suc t) → w (suc (suc t)) -ℤ w (suc t) ≡ w (suc t) -ℤ w t → Run w d c (suc (suc t))
longer w d c t h r e = record {
  all = λ u i k. elim (le_or_eq u t k) [
    | inl p ↦ r.all u i p
    | inr p ↦
        rw p (last d (w c) (w t) (w (suc t)) (w (suc (suc t))) (t - c) (suc t - c) (suc (suc t) - c) (omega arith) (omega arith)
        (r.all t h (omega arith)) (r.all (suc t) (omega arith) (omega arith)) e)
  ];
}
  where
    le_or_eq : (u t : ℕ) → u ≤ suc (suc t) → (u ≤ suc t) ⊎ (u ≡ suc (suc t))
    le_or_eq u t k = grind arith

    last : (d : Way) (a x y z : ℤ) (i j k : ℕ) → j ≡ suc i → k ≡ suc j → x ≡ moved d a i → y ≡ moved d a j → z -ℤ y ≡ y -ℤ x → z ≡ moved d a k
    last down a x y z i j k p q r s e = omega (arith, ints)
    last flat a x y z i j k p q r s e = omega (arith, ints)
    last up a x y z i j k p q r s e = omega (arith, ints)

true_or_false : (b : Bool) → (b ≡ true) ⊎ (b ≡ false)
true_or_false true = inl refl
true_or_false false = inr refl

-- ---- the times of the corners rise

rise-later : (t u : ℤ) (cs : List Mark) → t ≤ℤ u → RiseAfter u cs → RiseAfter t cs
rise-later t u [] h r = tt
rise-later t u (c ∷ cs) h r = let a = r.0 in let b : t <ℤ c.at = omega (arith, ints) in (b, r.1)

turns-rise : (w : ℕ → ℤ) (t n : ℕ) → RiseAfter (pos t) (marks (turns w t n))
turns-rise w t zero = let h : pos t <ℤ pos (suc t) = omega (arith, ints) in (h, tt)
turns-rise w t (suc n) = by (straight w t) (turns-rise w (suc t) n)
  where
    by : (b : Bool) → RiseAfter (pos (suc t)) (marks (turns w (suc t) n))
        → RiseAfter (pos t) (marks (if b then turns w (suc t) n else point w (suc t) ∷ turns w (suc t) n))
    by true r = rise-later (pos t) (pos (suc t)) (marks (turns w (suc t) n)) (omega (arith, ints)) r
    by false r = let h : pos t <ℤ pos (suc t) = omega (arith, ints) in (h, r)

pub corners-rise : (w : ℕ → ℤ) (end : ℕ) → TimesRise (marks (corners w end))
corners-rise w zero = tt
corners-rise w (suc n) = turns-rise w 0 n

-- ---- the line

turns-line : (w : ℕ → ℤ) → Gentle w → (n : ℕ) (d : Way) (c t e : ℕ) → c ≤ t → e ≡ suc t + n → Run w d c (suc t) → ((u : ℕ) → e ≤ u → w u ≡ w e)
    → (u : ℕ) → c ≤ u → (front : List Mark) → OnLine (front ++ (mark (point w c) ∷ marks (turns w t n))) (pos u) (w u)
turns-line w g zero d c t e h i r f u k front =
    let j : e ≡ suc t = omega arith in
    segment w d c (suc t) [] u r (omega arith) k tt (λ q front. last q front (let a = f u (omega arith) in a ∙ ap w j)) front
  where
    last : suc t ≤ u → (front : List Mark) → w u ≡ w (suc t) → OnLine (front ++ (mark (point w (suc t)) ∷ [])) (pos u) (w u)
    last q front same =
        let come : pos (suc t) ≤ℤ pos u = omega (arith, ints) in
        rw same (on-since front (mark (point w (suc t))) [] (pos u) come tt)
turns-line w g (suc n) d c t e h i r f u k front = elim (true_or_false (straight w t)) [
  | inl s ↦
      rw s (turns-line w g n d c (suc t) e (omega arith) (omega arith) (longer w d c t h r (straight_is w t s)) f u k front)
  | inr s ↦
      let x = way_of w g (suc t) in
      rw s (segment w d c (suc t) (marks (turns w (suc t) n)) u r (omega arith) k (turns-rise w (suc t) n)
      (λ q more. turns-line w g n x.0 (suc t) (suc t) e (omega arith) (omega arith) (one_step w x.0 (suc t) x.1) f u q more) front)
]

pub corners-on : (w : ℕ → ℤ) → Gentle w → (e : ℕ) → ((u : ℕ) → e ≤ u → w u ≡ w e) → (u : ℕ) → OnLine (marks (corners w e)) (pos u) (w u)
corners-on w g zero f u =
    let come : pos 0 ≤ℤ pos u = omega (arith, ints) in
    rw (f u (omega arith)) (on-since [] (mark (point w 0)) [] (pos u) come tt)
corners-on w g (suc n) f u =
    let x = way_of w g 0 in turns-line w g n x.0 0 0 (suc n) (omega arith) (omega arith) (one_step w x.0 0 x.1) f u (omega arith) []
