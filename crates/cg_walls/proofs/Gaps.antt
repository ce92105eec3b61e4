-- Where two scaffolds meet.
use Rattle.std.proofs.Common.{◌≡◌, refl, ℕ, ◌+◌, ◌-◌, ◌*◌, ◌/◌, ◌%◌, ◌<◌, ◌≤◌, arith, ap, sym, ◌∙◌, Bool}
use Rattle.std.proofs.Common.{true, false, inl, inr, ◌⊎◌, min, ℤ, pos, negsuc, ◌+ℤ◌, ◌-ℤ◌, ◌≤ℤ◌, ◌<ℤ◌}
use Rattle.std.proofs.lemmas.Int.{ints}
use Rattle.std.specs.Prelude.{Option, Some, None, IfSome, IfNone}
use Rattle.cg_walls.specs.declared.TheConstants.{BOUND, END}
use Rattle.cg_walls.specs.declared.place.Place.{Place}
use Rattle.cg_walls.specs.declared.rise.Rise.{Rise}
use Rattle.cg_walls.specs.Places.{At, fall, next_of}
use Rattle.cg_walls.specs.Rises.{IsWall, gap, steps, value_at}
use Rattle.cg_walls.proofs.Rising.{steady_from}
use Rattle.cg_walls.proofs.Walking.{at-steady}

-- the two have not met yet
pub record Apart (a b : Rise) (now : ℕ) (p q : Place) : Type 0 where
  pub inside : now ≤ END
  pub one : At a now p
  pub two : At b now q
  pub above : pos 0 ≤ℤ gap a b now
  pub before : (u : ℕ) → u < now → pos 0 <ℤ gap a b u

pub apart-start : (a b : Rise) (p q : Place) → At a 0 p → At b 0 q → pos 0 ≤ℤ gap a b 0 → Apart a b 0 p q
apart-start a b p q f g h = record {
  inside = omega arith;
  one = f;
  two = g;
  above = h;
  before = λ u k. absurd (omega arith);
}

pub gap-here : (a b : Rise) (now : ℕ) (p q : Place) → At a now p → At b now q
    → gap a b now ≡ (p.value +ℤ q.value) -ℤ (pos now +ℤ pos now)
gap-here a b now p q f g = let v = f.value in let w = g.value in omega (arith, ints)

fallen : (i j : Bool) (x y : ℤ) (now k : ℕ)
    → ((x +ℤ steps i k) +ℤ (y +ℤ steps j k)) -ℤ (pos (now + k) +ℤ pos (now + k)) +ℤ pos (fall i j * k)
    ≡ (x +ℤ y) -ℤ (pos now +ℤ pos now)
fallen true true x y now k = omega (arith, ints)
fallen true false x y now k = omega (arith, ints)
fallen false true x y now k = omega (arith, ints)
fallen false false x y now k = omega (arith, ints)

-- the gap falls evenly up to the next turn
pub falling : (a b : Rise) (now k : ℕ) (p q : Place) → At a now p → At b now q → now + k ≤ min (next_of a p) (next_of b q)
    → gap a b (now + k) +ℤ pos (fall p.up q.up * k) ≡ gap a b now
falling a b now k p q f g h =
    let v : value_at a (now + k) ≡ value_at a now +ℤ steps p.up k = steady_from a p.up now k (λ u i j. at-steady a now p f u i (omega arith)) in
    let w : value_at b (now + k) ≡ value_at b now +ℤ steps q.up k = steady_from b q.up now k (λ u i j. at-steady b now q g u i (omega arith)) in
    let e = fallen p.up q.up (value_at a now) (value_at b now) now k in
    omega (arith, ints)

split_at : (now u : ℕ) → (u < now) ⊎ ((k : ℕ) × (u ≡ now + k))
split_at now u = elim (cases now u) [ inl h ↦ inl h | inr h ↦ inr (u - now, omega arith) ]
  where
    cases : (now u : ℕ) → (u < now) ⊎ (now ≤ u)
    cases now u = grind arith

more : (i j : Bool) (k n : ℕ) → k < n → (0 < fall i j) → fall i j * k < fall i j * n
more true true k n h p = absurd (omega arith)
more true false k n h p = omega arith
more false true k n h p = omega arith
more false false k n h p = omega arith

no_fall : (n k : ℕ) → n ≡ 0 → n * k ≡ 0
no_fall n k e = ap (λ m. m * k) e ∙ omega arith

zero_or_not : (n : ℕ) → (n ≡ 0) ⊎ (0 < n)
zero_or_not n = grind arith

-- they are apart up to the next turn, where the gap doesn't close by then
pub apart-later : (a b : Rise) (now to g : ℕ) (p q p' q' : Place) → Apart a b now p q → to ≡ min (next_of a p) (next_of b q)
    → to ≤ END → now < to → pos g ≡ gap a b now → (g ≤ fall p.up q.up * (to - now) → ⊥) → At a to p' → At b to q' → Apart a b to p' q'
apart-later a b now to g p q p' q' x e in_ lt gap_is wide f h = record {
  inside = in_;
  one = f;
  two = h;
  above = (let k = positive to (omega arith) (omega arith) in omega (arith, ints));
  before = λ u k. elim (split_at now u) [
    | inl i ↦ x.before u i
    | inr w ↦ positive u (omega arith) (omega arith)
  ];
}
  where
    less : (i j : Bool) (k n : ℕ) → k ≤ n → fall i j * k ≤ fall i j * n
    less true true k n h = omega arith
    less true false k n h = omega arith
    less false true k n h = omega arith
    less false false k n h = omega arith

    open_at : (m n g : ℕ) → (g ≤ n → ⊥) → m ≤ n → m < g
    open_at m n g h k = elim (cases g n) [ inl i ↦ absurd (h i) | inr i ↦ omega arith ]
      where
        cases : (g n : ℕ) → (g ≤ n) ⊎ (n < g)
        cases g n = grind arith

    positive : (u : ℕ) → now ≤ u → u ≤ to → pos 0 <ℤ gap a b u
    positive u i j =
        let k : ℕ = u - now in
        let s : now + (u - now) ≡ u = omega arith in
        let c = falling a b now (u - now) p q x.one x.two (omega arith) in
        let d = open_at (fall p.up q.up * (u - now)) (fall p.up q.up * (to - now)) g wide (less p.up q.up (u - now) (to - now) (omega arith)) in
        let r = ap (λ z. gap a b z) s in
        omega (arith, ints)

-- at the end of all times they are together below
pub apart-ends : (a b : Rise) (now : ℕ) (p q : Place) → IsWall a → IsWall b → Apart a b now p q → (now < END → ⊥) → ⊥
apart-ends a b now p q u v x h =
    let i = x.inside in let k = x.above in let f = u.high now in let g = v.high now in
    let e : now ≡ END = same now i h in
    let b : pos END ≡ BOUND +ℤ BOUND = refl in
    let j = ap pos e in
    let c : pos 0 <ℤ BOUND = omega (arith, ints) in
    omega (arith, ints)
  where
    same : (n : ℕ) → n ≤ END → (n < END → ⊥) → n ≡ END
    same n h k = elim (cases n) [ inl i ↦ absurd (k i) | inr i ↦ omega arith ]
      where
        cases : (n : ℕ) → (n < END) ⊎ (END ≤ n)
        cases n = grind arith

-- a gap that is closed by the next turn
pub record Closes (a b : Rise) (r : Option ℕ) : Type 0 where
  pub met : IfSome r (λ t. gap a b t ≡ pos 0)
  pub first : IfSome r (λ t. (u : ℕ) → u < t → pos 0 <ℤ gap a b u)
  pub none : IfNone r ((t : ℕ) × (gap a b t ≡ pos 1) × (gap a b (t + 1) ≡ negsuc 0))

within_fall : (i j : Bool) (t now to g : ℕ) → now ≤ t → fall i j * (t - now) ≡ g → g ≤ fall i j * (to - now) → (g ≡ 0 → t ≡ now) → now ≤ to → t ≤ to
within_fall true true t now to g h e k z n = let i = z (omega arith) in omega arith
within_fall true false t now to g h e k z n = omega arith
within_fall false true t now to g h e k z n = omega arith
within_fall false false t now to g h e k z n = omega arith

pub closes-some : (a b : Rise) (now to g t : ℕ) (p q : Place) → Apart a b now p q → to ≡ min (next_of a p) (next_of b q) → now ≤ to
    → pos g ≡ gap a b now → g ≤ fall p.up q.up * (to - now) → now ≤ t → fall p.up q.up * (t - now) ≡ g → (g ≡ 0 → t ≡ now)
    → Closes a b (Some t)
closes-some a b now to g t p q x e lt gap_is closed h k z =
    let m = within_fall p.up q.up t now to g h k closed z lt in
    record {
      met = (let s : now + (t - now) ≡ t = omega arith in
          let c = falling a b now (t - now) p q x.one x.two (omega arith) in
          let r = ap (λ z. gap a b z) s in
          omega (arith, ints));
      first = λ u i. elim (split_at now u) [
        | inl j ↦ x.before u j
        | inr w ↦ elim (zero_or_not (fall p.up q.up)) [
          | inl n ↦ absurd (let y = z (sym k ∙ no_fall (fall p.up q.up) (t - now) n) in omega arith)
          | inr n ↦ (let s : now + w.0 ≡ u = omega arith in
              let c = falling a b now w.0 p q x.one x.two (omega arith) in
              let r = ap (λ z. gap a b z) s in
              let d = more p.up q.up w.0 (t - now) (omega arith) n in
              omega (arith, ints))
        ]
      ];
      none = tt;
    }

pub closes-none : (a b : Rise) (now to g : ℕ) (p q : Place) → Apart a b now p q → to ≡ min (next_of a p) (next_of b q) → now ≤ to
    → pos g ≡ gap a b now → g ≤ fall p.up q.up * (to - now) → (fall p.up q.up ≡ 0 → g ≡ 0) → ¬ (g % fall p.up q.up ≡ 0)
    → Closes a b None
closes-none a b now to g p q x e lt gap_is closed z odd =
    let (k, n) = by_two p.up q.up g odd z in
    let m : fall p.up q.up ≡ 2 = n.0 in
    let o : g ≡ 2 * k + 1 = n.1 in
    let y = two_times (fall p.up q.up) g (to - now) m closed in
    let c = falling a b now k p q x.one x.two (omega arith) in
    let d = falling a b now (k + 1) p q x.one x.two (omega arith) in
    let f : fall p.up q.up * k ≡ 2 * k = ap (λ y. y * k) m in
    let i : fall p.up q.up * (k + 1) ≡ 2 * (k + 1) = ap (λ y. y * (k + 1)) m in
    let s : now + (k + 1) ≡ now + k + 1 = omega arith in
    let r = ap (λ z. gap a b z) s in
    record {
      met = tt;
      first = tt;
      none = (now + k, omega (arith, ints), omega (arith, ints));
    }
  where
    by_two : (i j : Bool) (g : ℕ) → ¬ (g % fall i j ≡ 0) → (fall i j ≡ 0 → g ≡ 0) → (k : ℕ) × ((fall i j ≡ 2) × (g ≡ 2 * k + 1))
    by_two true true g h z = absurd (let e : g ≡ 0 = z refl in h (ap (λ n. n % 0) e))
    by_two true false g h z = absurd (h (omega arith))
    by_two false true g h z = absurd (h (omega arith))
    by_two false false g h z = (g / 2, (refl, let n : g % 2 ≡ 1 = odd_is g h in omega arith))
      where
        odd_is : (g : ℕ) → ¬ (g % 2 ≡ 0) → g % 2 ≡ 1
        odd_is g h = grind arith

    two_times : (n m t : ℕ) → n ≡ 2 → m ≤ n * t → m ≤ 2 * t
    two_times n m t e h = rw e at h

pub closes-all : (a b : Rise) (now to g : ℕ) (p q : Place) (r : Option ℕ) → Apart a b now p q → to ≡ min (next_of a p) (next_of b q)
    → now ≤ to → pos g ≡ gap a b now → g ≤ fall p.up q.up * (to - now) → (fall p.up q.up ≡ 0 → g ≡ 0)
    → IfSome r (λ t. (now ≤ t) × (fall p.up q.up * (t - now) ≡ g)) → IfSome r (λ t. g ≡ 0 → t ≡ now)
    → IfNone r (¬ (g % fall p.up q.up ≡ 0)) → Closes a b r
closes-all a b now to g p q (Some t) x e lt i c z f s n = closes-some a b now to g t p q x e lt i c f.0 f.1 s
closes-all a b now to g p q None x e lt i c z f s n = closes-none a b now to g p q x e lt i c z n
