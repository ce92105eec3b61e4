-- Each game has one mean and one temperature, and equal games have the same.
use Rattle.std.proofs.Common.{◌≡◌, refl, ℕ, ◌+◌, ◌-◌, ◌<◌, ◌≤◌, arith, zero, suc, ◌⊎◌, inl, inr, ap, sym, ◌∙◌, subst, ℤ, pos, negsuc, ◌+ℤ◌, ◌≤ℤ◌, ◌<ℤ◌}
use Rattle.std.proofs.lemmas.Int.{ints}
use Rattle.cg_dyadic.specs.Number.{Number, exp_of, ratio}
use Rattle.cg_dyadic.proofs.Fractions.{ratio-double}
use Rattle.cg_dyadic.proofs.Integers.{le_or_lt}
use Rattle.cg_dyadic.proofs.Scale.{exp-ratio}
use Rattle.cg_form.specs.Cooling.{Cool}
use Rattle.cg_form.specs.Game.{Game, number}
use Rattle.cg_form.specs.Heights.{height}
use Rattle.cg_form.specs.Order.{Equal}
use Rattle.cg_form.specs.Simple.{Decided, Decides, NoNumber}
use Rattle.cg_form.specs.Walls.{IsThermal, MeetAt, TemperatureIs, Walls, scaffold, scaffold_of, walls}
use Rattle.cg_form.proofs.Decide.{number-decide}
use Rattle.cg_form.proofs.Finer.{Finer, cool, even_or_odd, scaffold-finer, twice, twice_pos, walls-finer}
use Rattle.cg_form.proofs.Heights.{height-left, height-right, number-low}
use Rattle.cg_form.proofs.Preorder.{equal_refl, equal_trans}
use Rattle.cg_form.proofs.Simplicity.{one_number}
use Rattle.cg_form.proofs.Temperature.{earlier, meeting-equal, scaffolds_agree, temperature-equal, temperature-there}
use Rattle.cg_form.proofs.Walls.{walls-steps, walls-unique}

-- ---- where scaffolds meet, at a scale and at the next finer one

below : (a b : ℕ) → (a < b) ⊎ (b ≤ a)
below a b = grind arith

half-below : (v e : ℕ) → twice v < twice e → v < e
half-below v e h = elim (below v e) [ inl k ↦ k | inr k ↦ absurd (let i = twice-mono e v k in omega arith) ]
  where
    twice-mono : (a b : ℕ) → a ≤ b → twice a ≤ twice b
    twice-mono zero b h = omega arith
    twice-mono (suc a) zero h = absurd (omega arith)
    twice-mono (suc a) (suc b) h = let i = twice-mono a b (omega arith) in omega arith

same_z : (a b : ℤ) → a +ℤ a ≡ b +ℤ b → a ≡ b
same_z a b e = omega (arith, ints)

-- before they meet, the left one is above the right one
pub apart : (f : ℕ → Walls) (e u : ℕ) → Cool f → MeetAt f e → u < e → (f u).right <ℤ (f u).left
apart f e u c t h =
    let a = t.agree in
    let i : e ≡ u + (e - u) = omega arith in
    let q : (f e).right ≤ℤ (f e).left = omega (arith, ints) in
    strict (f u).left (f u).right (earlier f c (e - u) u (rw i at q)) (t.before u h)
  where
    strict : (a b : ℤ) → b ≤ℤ a → ((a ≡ b) → ⊥) → b <ℤ a
    strict a b h n = elim (le_or_lt a b) [ inl p ↦ absurd (n (omega (arith, ints))) | inr p ↦ p ]

pub met-next : (f k : ℕ → Walls) (e : ℕ) → Cool f → Finer f k → MeetAt f e → MeetAt k (twice e)
met-next f k e c n t = record {
  agree = (let a = t.agree in let l = n.even_left e in let r = n.even_right e in omega (arith, ints));
  before = λ u h q. elim (even_or_odd u) [
    | inl w ↦
        let p = subst Meet w.1 q in
        let lt : w.0 < e = half-below w.0 e (let i = w.1 in omega arith) in
        t.before w.0 lt (same_z (f w.0).left (f w.0).right (sym (n.even_left w.0) ∙ p ∙ n.even_right w.0))
    | inr w ↦
        let p = subst Meet w.1 q in
        let lt : w.0 < e = half-below w.0 e (let i = w.1 in omega arith) in
        let a = apart f e w.0 c t lt in
        let b = up_to (suc w.0) (omega arith) in
        let l = n.odd_left w.0 in let r = n.odd_right w.0 in
        absurd (omega (arith, ints))
  ];
}
  where
    Meet : ℕ → Type 0
    Meet z = (k z).left ≡ (k z).right

    up_to : (v : ℕ) → v ≤ e → (f v).right ≤ℤ (f v).left
    up_to v h = elim (below v e) [
      | inl lt ↦ (let a = apart f e v c t lt in omega (arith, ints))
      | inr i ↦
          let j : e ≡ v = omega arith in
          let a = t.agree in
          let q : (f e).right ≤ℤ (f e).left = omega (arith, ints) in
          rw j at q
    ]

pub met-one : (f : ℕ → Walls) (e e' : ℕ) → MeetAt f e → MeetAt f e' → e ≡ e'
met-one f e e' t u = elim (below e e') [
  | inl h ↦ absurd (u.before e h t.agree)
  | inr h ↦ elim (below e' e) [
    | inl k ↦ absurd (t.before e' k u.agree)
    | inr k ↦ omega arith
  ]
]

-- ---- a game that equals no number

scaffolds-finer : (d : Decides) (s : ℕ) (g : Game) → NoNumber g → height g ≤ s
    → Finer (scaffold_of d s g) (scaffold_of d (suc s) g)
scaffolds-finer d s g never h = scaffold-finer (walls d s) (walls d (suc s)) g (λ t a. walls-steps d s t a)
    (λ a m. let v = height-left g a never m in walls-finer d s a (omega arith))
    (λ b m. let v = height-right g b never m in walls-finer d s b (omega arith))

-- by whatever decides which games equal numbers, the scaffolds are the same
pub scaffold-unique : (d e : Decides) (s : ℕ) (g : Game) → scaffold_of d s g ≡ scaffold_of e s g
scaffold-unique d e s g i t = scaffold (λ u a. walls-unique d e s u a i) g t

-- scaffolds at a scale meet at t, and so tell this mean and temperature
pub record Seen (f : ℕ → Walls) (s t : ℕ) (mean temp : Number) : Type 0 where
  pub met : MeetAt f t
  pub mean_is : ratio (f t).left s ≡ mean
  pub temp_is : ratio (pos t) s ≡ temp

pub seen-own : (f : ℕ → Walls) (s t : ℕ) → MeetAt f t → Seen f s t (ratio (f t).left s) (ratio (pos t) s)
seen-own f s t k = record { met = k; mean_is = refl; temp_is = refl }

pub record SameThermal (m t n u : Number) : Type 0 where
  pub means : m ≡ n
  pub temps : t ≡ u

met-same : (f : ℕ → Walls) (s t u : ℕ) (mean temp mean' temp' : Number) → Seen f s t mean temp
    → Seen f s u mean' temp' → SameThermal mean temp mean' temp'
met-same f s t u mean temp mean' temp' v w =
    let i = met-one f t u v.met w.met in record {
      means = sym v.mean_is ∙ ap (λ z. ratio (f z).left s) i ∙ w.mean_is;
      temps = sym v.temp_is ∙ ap (λ z. ratio (pos z) s) i ∙ w.temp_is;
    }

-- at each scale with P the scaffolds cool, and at the next one they are finer
pub record Refines (P : ℕ → Type 0) (f : ℕ → ℕ → Walls) : Type 0 where
  pub up : (s : ℕ) → P s → P (suc s)
  pub cools : (s : ℕ) → P s → Cool (f s)
  pub finer : (s : ℕ) → P s → Finer (f s) (f (suc s))

module _ (P : ℕ → Type 0) (f : ℕ → ℕ → Walls) (k : Refines P f) where
  seen-next : (s t : ℕ) (mean temp : Number) → P s → Seen (f s) s t mean temp
      → Seen (f (suc s)) (suc s) (twice t) mean temp
  seen-next s t mean temp h v =
      let n = k.finer s h in record {
        met = met-next (f s) (f (suc s)) t (k.cools s h) n v.met;
        mean_is = ap (λ z. ratio z (suc s)) (n.even_left t) ∙ ratio-double (f s t).left s ∙ v.mean_is;
        temp_is = ap (λ z. ratio z (suc s)) (twice_pos t) ∙ ratio-double (pos t) s ∙ v.temp_is;
      }

  seen-up : (m s t : ℕ) (mean temp : Number) → P s → Seen (f s) s t mean temp
      → (u : ℕ) × P (m + s) × Seen (f (m + s)) (m + s) u mean temp
  seen-up zero s t mean temp h v =
      let e : s ≡ zero + s = omega arith in
      (t, rw (← e) h, rw (← e) v)
  seen-up (suc m) s t mean temp h v =
      let (u, i, w) = seen-up m s t mean temp h v in
      let e : suc (m + s) ≡ suc m + s = omega arith in
      (twice u, rw (← e) (k.up (m + s) i), rw (← e) (seen-next (m + s) u mean temp i w))

  -- at any two such scales the same is seen
  pub seen-same : (s r t u : ℕ) (mean temp mean' temp' : Number) → P s → P r → Seen (f s) s t mean temp
      → Seen (f r) r u mean' temp' → SameThermal mean temp mean' temp'
  seen-same s r t u mean temp mean' temp' h j v w =
      let (x, a, b) = seen-up r s t mean temp h v in
      let (y, c, d) = seen-up s r u mean' temp' j w in
      let i : s + r ≡ r + s = omega arith in
      met-same (f (r + s)) (r + s) x y mean temp mean' temp' b (rw i at d)

refines : (d : Decides) (g : Game) → NoNumber g → Refines (λ s. height g ≤ s) (λ s. scaffold_of d s g)
refines d g never = record {
  up = λ s h. omega arith;
  cools = λ s h. cool d s g never h;
  finer = λ s h. scaffolds-finer d s g never h;
}

-- what one scale tells is the mean and the temperature
pub thermal-at : (d : Decides) (s : ℕ) (g : Game) (t : ℕ) → NoNumber g → height g ≤ s → TemperatureIs d s g t
    → IsThermal g (ratio (scaffold_of d s g t).left s) (ratio (pos t) s)
thermal-at d s g t never h k = record {
  number = λ x e. absurd (never x e);
  other = λ _ e r u l j.
      let mean : Number = ratio (scaffold_of e r g u).left r in
      let P : (ℕ → Walls) → Type 0 = λ f. Seen f r u mean (ratio (pos u) r) in
      let w = subst P (scaffold-unique e d r g) (seen-own (scaffold_of e r g) r u j) in
      let m = seen-same (λ z. height g ≤ z) (λ z. scaffold_of d z g) (refines d g never) s r t u _ _ mean (ratio (pos u) r) h l
      (seen-own (scaffold_of d s g) s t k) w in
      (m.means, m.temps);
}

-- ---- every game

pub record Cools (d : Decides) (s : ℕ) (g : Game) : Type 0 where
  pub at : ℕ
  pub is : TemperatureIs d s g at

pub cools : (d : Decides) (s : ℕ) (g : Game) → height g ≤ s → NoNumber g → Cools d s g
cools d s g h never =
    let (t, k) = temperature-there d s g (scaffolds_agree d s g never h) in record { at = t; is = k }

pub record Thermal (g : Game) : Type 0 where
  pub mean : Number
  pub temp : Number
  pub is : IsThermal g mean temp

pub thermal : (g : Game) → Thermal g
thermal g = by (number-decide g)
  where
    by : Decided g → Thermal g
    by (inl w) = record {
      mean = w.0;
      temp = ratio (negsuc 0) (exp_of w.0);
      is = record {
        number = λ y f.
            let i = one_number w.0 y g w.1 f in (i, ap (λ z. ratio (negsuc 0) (exp_of z)) i);
        other = λ never. absurd (never w.0 w.1);
      };
    }
    by (inr never) =
        let c = cools number-decide (height g) g (omega arith) never in record {
          mean = ratio (scaffold_of number-decide (height g) g c.at).left (height g);
          temp = ratio (pos c.at) (height g);
          is = thermal-at number-decide (height g) g c.at never (omega arith) c.is;
        }

pub number-across : (g h : Game) → Equal g h → (x : Number) → Equal (number x) h → Equal (number x) g
number-across g h e x f = equal_trans (number x) h g f (e.1, e.0)

-- equal games have the same mean and temperature, by each of the two games' own
pub same-thermal : (g h : Game) (m t n u : Number) → Equal g h → IsThermal g m t → IsThermal h n u
    → SameThermal m t n u
same-thermal g h m t n u e a b = by (number-decide h)
  where
    by : Decided h → SameThermal m t n u
    by (inl w) =
        let x = a.number w.0 (number-across g h e w.0 w.1) in let y = b.number w.0 w.1 in
        record { means = x.0 ∙ sym y.0; temps = x.1 ∙ sym y.1 }
    by (inr never) =
        let d : Decides = number-decide in
        let s = height g + height h in
        let free : NoNumber g = λ x f. never x (number-across h g (e.1, e.0) x f) in
        let c = cools d s g (omega arith) free in
        let x = a.other free d s c.at (omega arith) c.is in
        let k = temperature-equal d s g h (omega arith) (omega arith) free never e c.at c.is in
        let y = b.other never d s c.at (omega arith) k in
        let i = meeting-equal d s g h (omega arith) (omega arith) free never e c.at c.is in
        record { means = x.0 ∙ ap (λ z. ratio z s) i ∙ sym y.0; temps = x.1 ∙ sym y.1 }

pub one-thermal : (g : Game) (m t n u : Number) → IsThermal g m t → IsThermal g n u → SameThermal m t n u
one-thermal g m t n u a b = same-thermal g g m t n u (equal_refl g) a b

pub equal-thermal : (g h : Game) (m t : Number) → Equal g h → IsThermal g m t → IsThermal h m t
equal-thermal g h m t e a =
    let k = thermal h in
    let s = same-thermal g h m t k.mean k.temp e a k.is in
    rw s.means (rw s.temps k.is)

-- what holds by one that decides which games equal numbers, at each scale of at least the height
pub thermal-by : (d : Decides) (g : Game) (m t : Number) → NoNumber g
    → ((s u : ℕ) → height g ≤ s → TemperatureIs d s g u → (m ≡ ratio (scaffold_of d s g u).left s) × (t ≡ ratio (pos u) s))
    → IsThermal g m t
thermal-by d g m t never h =
    let c = cools d (height g) g (omega arith) never in
    let (x, y) = h (height g) c.at (omega arith) c.is in
    rw x (rw y (thermal-at d (height g) g c.at never (omega arith) c.is))

-- neither needs more binary places than the height
pub thermal-low : (g : Game) (m t : Number) → IsThermal g m t → (exp_of m ≤ height g) × (exp_of t ≤ height g)
thermal-low g m t a = by (number-decide g)
  where
    by : Decided g → (exp_of m ≤ height g) × (exp_of t ≤ height g)
    by (inl w) =
        let x = a.number w.0 w.1 in
        let p = ap exp_of x.0 in let q = ap exp_of x.1 in
        let l = number-low number-decide g w.0 w.1 in
        let r = exp-ratio (negsuc 0) (exp_of w.0) in
        (omega arith, omega arith)
    by (inr never) =
        let c = cools number-decide (height g) g (omega arith) never in
        let x = a.other never number-decide (height g) c.at (omega arith) c.is in
        let p = ap exp_of x.0 in let q = ap exp_of x.1 in
        let l = exp-ratio (scaffold_of number-decide (height g) g c.at).left (height g) in
        let r = exp-ratio (pos c.at) (height g) in
        (omega arith, omega arith)
