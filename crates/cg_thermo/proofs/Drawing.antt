-- The walls of a game from those of its options, at a scale at which these are smooth.
use Rattle.std.proofs.Common.{◌≡◌, refl, ℕ, ◌+◌, ◌-◌, ◌<◌, ◌≤◌, arith, zero, suc, ◌⊎◌, inl, inr, ap, sym, ◌∙◌, min, map, ℤ, pos, neg_ℤ, ◌+ℤ◌, ◌-ℤ◌, ◌≤ℤ◌, ◌<ℤ◌}
use Rattle.std.proofs.lemmas.Int.{ints}
use Rattle.cg_form.specs.Cooling.{Cool, Steps}
use Rattle.cg_form.specs.Game.{Among, Game, lefts, rights}
use Rattle.cg_form.specs.Simple.{NoNumber}
use Rattle.cg_form.specs.Walls.{TemperatureIs, Walls, cooled, greatest, least, scaffold_of, walls}
use Rattle.cg_form.proofs.Cooled.{uncrossed}
use Rattle.cg_form.proofs.Decide.{number-decide}
use Rattle.cg_thermo.proofs.Deciders.{cool-unique}
use Rattle.cg_form.proofs.Temperature.{kept}
use Rattle.cg_form.proofs.Walls.{scaffold-steps, walls-none, walls-steps}
use Rattle.cg_walls.specs.declared.TheConstants.{BOUND, END}
use Rattle.cg_walls.specs.declared.rise.Rise.{Rise}
use Rattle.cg_walls.specs.Rises.{IsWall, gap, turned, value_at}
use Rattle.cg_thermo.specs.Joins.{Meets}
use Rattle.cg_thermo.specs.Thermal.{MastFrom}
use Rattle.cg_thermo.specs.Smooths.{Smooth, smooth_other}
use Rattle.cg_thermo.proofs.Smooth.{smooth-start}

-- p is the greatest right wall of the Left options, and q the greatest negative of a left wall of the Right options
pub record HighestWalls (s : ℕ) (g : Game) (p q : Rise) : Type 0 where
  pub never : NoNumber g
  pub lefts_smooth : (a : Game) → Among a (lefts g) → Smooth s a
  pub rights_smooth : (b : Game) → Among b (rights g) → Smooth s b
  pub p_wall : IsWall p
  pub q_wall : IsWall q
  pub p_is : (t : ℕ) → value_at p t ≡ greatest (map (λ a. (walls number-decide s t a).right) (lefts g))
  pub q_is : (t : ℕ) → value_at q t ≡ neg_ℤ (least (map (λ b. (walls number-decide s t b).left) (rights g)))

pub left-scaffold : (s : ℕ) (g : Game) (p q : Rise) → HighestWalls s g p q → (t : ℕ)
    → (scaffold_of number-decide s g t).left ≡ value_at p t -ℤ pos t
left-scaffold s g p q k t = ap (λ z. z -ℤ pos t) (sym (k.p_is t))

pub right-scaffold : (s : ℕ) (g : Game) (p q : Rise) → HighestWalls s g p q → (t : ℕ)
    → (scaffold_of number-decide s g t).right ≡ pos t -ℤ value_at q t
right-scaffold s g p q k t = let e = k.q_is t in
    back (least (map (λ b. (walls number-decide s t b).left) (rights g))) (value_at q t) (pos t) e
  where
    back : (x v t : ℤ) → v ≡ neg_ℤ x → x +ℤ t ≡ t -ℤ v
    back x v t e = omega (arith, ints)

-- the difference of the scaffolds
pub gap-scaffold : (s : ℕ) (g : Game) (p q : Rise) → HighestWalls s g p q → (t : ℕ)
    → gap p q t ≡ (scaffold_of number-decide s g t).left -ℤ (scaffold_of number-decide s g t).right
gap-scaffold s g p q k t = let l = left-scaffold s g p q k t in let r = right-scaffold s g p q k t in omega (arith, ints)

pub gap-start : (s : ℕ) (g : Game) (p q : Rise) → HighestWalls s g p q → pos 0 ≤ℤ gap p q 0
gap-start s g p q k =
    let h = smooth-start s g k.never k.lefts_smooth k.rights_smooth in
    let e = gap-scaffold s g p q k 0 in omega (arith, ints)

steps_of : (s : ℕ) (g : Game) (t : ℕ) → Steps (scaffold_of number-decide s g t) (scaffold_of number-decide s g (suc t))
steps_of s g t = scaffold-steps (walls number-decide s) g (λ t a. walls-steps number-decide s t a) t

-- the gap never grows
gap-falls : (s : ℕ) (g : Game) (p q : Rise) → HighestWalls s g p q → (m t : ℕ) → gap p q (t + m) ≤ℤ gap p q t
gap-falls s g p q k zero t = let e : t + 0 ≡ t = omega arith in let f = ap (gap p q) e in omega (arith, ints)
gap-falls s g p q k (suc m) t =
    let e : t + suc m ≡ suc (t + m) = omega arith in
    let f = ap (gap p q) e in
    let i = gap-falls s g p q k m t in
    let x = steps_of s g (t + m) in let a = x.left_falls in let b = x.right_rises in
    let c = gap-scaffold s g p q k (t + m) in let d = gap-scaffold s g p q k (suc (t + m)) in
    omega (arith, ints)

pub gap-later : (s : ℕ) (g : Game) (p q : Rise) → HighestWalls s g p q → (t u : ℕ) → t ≤ u → gap p q u ≤ℤ gap p q t
gap-later s g p q k t u h =
    let e : t + (u - t) ≡ u = omega arith in
    let i = gap-falls s g p q k (u - t) t in let f = ap (gap p q) e in omega (arith, ints)

-- ---- where they meet

pub le_or_lt_n : (a b : ℕ) → (a ≤ b) ⊎ (b < a)
le_or_lt_n a b = grind arith

pub meets-cool : (s : ℕ) (g : Game) (p q : Rise) (e : ℕ) → HighestWalls s g p q → Meets p q e → Cool (scaffold_of number-decide s g)
meets-cool s g p q e k m = record {
  steps = steps_of s g;
  start = smooth-start s g k.never k.lefts_smooth k.rights_smooth;
  no_jump = λ t a b.
      let x = gap-scaffold s g p q k t in let y = gap-scaffold s g p q k (suc t) in
      let z = m.met in
      elim (le_or_lt_n e t) [
        | inl h ↦ (let i = gap-later s g p q k e t h in omega (arith, ints))
        | inr h ↦ (let i = gap-later s g p q k (suc t) e h in omega (arith, ints))
      ];
}

pub meets-temperature : (s : ℕ) (g : Game) (p q : Rise) (e : ℕ) → HighestWalls s g p q → Meets p q e → TemperatureIs number-decide s g e
meets-temperature s g p q e k m = record {
  agree = (let x = gap-scaffold s g p q k e in let z = m.met in omega (arith, ints));
  before = λ u h a. (let x = gap-scaffold s g p q k u in let z = m.first u h in absurd (omega (arith, ints)));
}

pub meets-smooth : (s : ℕ) (g : Game) (p q : Rise) (e : ℕ) → HighestWalls s g p q → Meets p q e → Smooth s g
meets-smooth s g p q e k m = smooth_other g k.never (λ d. cool-unique number-decide d s g (meets-cool s g p q e k m)) k.lefts_smooth k.rights_smooth

pub meets-mast : (s : ℕ) (g : Game) (p q : Rise) (e : ℕ) → HighestWalls s g p q → Meets p q e → MastFrom number-decide s g e
meets-mast s g p q e k m = record {
  number = λ x f. absurd (k.never x f);
  other = λ _. meets-temperature s g p q e k m;
}

-- the walls are the scaffolds up to where they meet, and stay from there on
walls-kept : (s : ℕ) (g : Game) (p q : Rise) (e : ℕ) → HighestWalls s g p q → Meets p q e → (t : ℕ)
    → walls number-decide s t g ≡ scaffold_of number-decide s g (min t e)
walls-kept s g p q e k m t = elim (le_or_lt_n t e) [
  | inl h ↦ (let i : min t e ≡ t = omega arith in
      walls-none number-decide s t g k.never ∙ uncrossed (scaffold_of number-decide s g) t (open_at t h)
      ∙ ap (scaffold_of number-decide s g) (sym i))
  | inr h ↦ (let i : min t e ≡ e = omega arith in let j : t ≡ e + (t - e) = omega arith in
      walls-none number-decide s t g k.never ∙ ap (cooled (scaffold_of number-decide s g)) j
      ∙ kept (scaffold_of number-decide s g) (meets-cool s g p q e k m) (t - e) e (meets-temperature s g p q e k m).agree
      ∙ ap (scaffold_of number-decide s g) (sym i))
]
  where
    open_at : (t : ℕ) → t ≤ e → (scaffold_of number-decide s g t).right ≤ℤ (scaffold_of number-decide s g t).left
    open_at t h = let x = gap-scaffold s g p q k t in let y = gap-later s g p q k t e h in let z = m.met in omega (arith, ints)

pub meets-left : (s : ℕ) (g : Game) (p q r : Rise) (e : ℕ) → HighestWalls s g p q → Meets p q e → ((t : ℕ) → value_at r t ≡ turned p e t)
    → (t : ℕ) → value_at r t ≡ neg_ℤ (walls number-decide s t g).left
meets-left s g p q r e k m h t =
    let w = ap (λ (z : Walls). z.left) (walls-kept s g p q e k m t) in
    let l = left-scaffold s g p q k (min t e) in
    let v = h t in
    turn (value_at r t) (walls number-decide s t g).left (value_at p (min t e)) (pos (min t e)) v (w ∙ l)
  where
    turn : (v w x t : ℤ) → v ≡ t -ℤ x → w ≡ x -ℤ t → v ≡ neg_ℤ w
    turn v w x t a b = omega (arith, ints)

pub meets-right : (s : ℕ) (g : Game) (p q r : Rise) (e : ℕ) → HighestWalls s g p q → Meets p q e → ((t : ℕ) → value_at r t ≡ turned q e t)
    → (t : ℕ) → value_at r t ≡ (walls number-decide s t g).right
meets-right s g p q r e k m h t =
    let w = ap (λ (z : Walls). z.right) (walls-kept s g p q e k m t) in
    let l = right-scaffold s g p q k (min t e) in
    let v = h t in omega (arith, ints)

-- ---- bounds

pub meets-soon : (p q : Rise) (e : ℕ) → IsWall p → IsWall q → Meets p q e → e < END
meets-soon p q e a b m =
    let x = a.high e in let y = b.high e in let z = m.met in
    let k : pos END ≡ BOUND +ℤ BOUND = refl in
    let c : pos 0 <ℤ BOUND = omega (arith, ints) in
    omega (arith, ints)

-- up to where the scaffolds meet, t less a wall is at most the other wall
pub turned-small : (p q : Rise) (e : ℕ) → IsWall q → ((u : ℕ) → u < e → pos 0 <ℤ gap p q u) → gap p q e ≡ pos 0
    → (u : ℕ) → u ≤ e → (pos u -ℤ value_at p u) ≤ℤ BOUND
turned-small p q e b f m u h = let y = b.high u in let g = open_at u h in omega (arith, ints)
  where
    open_at : (u : ℕ) → u ≤ e → pos 0 ≤ℤ gap p q u
    open_at u h = elim (le_or_lt_n e u) [
      | inl k ↦ (let i : u ≡ e = omega arith in let j = ap (gap p q) i in omega (arith, ints))
      | inr k ↦ (let x = f u k in omega (arith, ints))
    ]

pub gap-swap : (p q : Rise) (t : ℕ) → gap p q t ≡ gap q p t
gap-swap p q t = omega (arith, ints)

pub gap-above : (p q : Rise) (t : ℕ) → pos 0 <ℤ gap p q t → pos 0 <ℤ gap q p t
gap-above p q t h = let e = gap-swap p q t in omega (arith, ints)
