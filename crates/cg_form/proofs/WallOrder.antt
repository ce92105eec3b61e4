-- Walls of greater games are greater, and equal games have equal walls.
use Rattle.std.proofs.Common.{◌≡◌, ℕ, ◌+◌, ◌<◌, ◌≤◌, arith, zero, suc, inl, inr, pos, ◌+ℤ◌, ◌-ℤ◌, ◌≤ℤ◌}
use Rattle.std.proofs.lemmas.Int.{ints}
use Rattle.cg_dyadic.specs.Number.{AmongNumbers, Number, exp_of, number_lefts, number_rights, weight}
use Rattle.cg_dyadic.specs.Units.{units}
use Rattle.cg_dyadic.proofs.Scale.{le-units, not_le-units}
use Rattle.cg_dyadic.proofs.SumGap.{exp-lefts, exp-rights, units-lefts, units-rights}
use Rattle.cg_dyadic.proofs.Weight.{weight-lefts, weight-rights}
use Rattle.cg_form.specs.Game.{Among, Game, lefts, number, rights}
use Rattle.cg_form.specs.Heights.{height}
use Rattle.cg_form.specs.Order.{Equal, Le}
use Rattle.cg_form.specs.Simple.{Decided, Decides, NoNumber}
use Rattle.cg_form.specs.Size.{size}
use Rattle.cg_form.specs.Walls.{cooled, scaffold_of, walls}
use Rattle.cg_form.proofs.Among.{among-map}
use Rattle.cg_form.proofs.Cooled.{walls_same}
use Rattle.cg_form.proofs.CooledOrder.{Under, cool_order, cooled-left_below, cooled-left_near, cooled-right_above, cooled-right_near, left_is, right_is}
use Rattle.cg_form.proofs.Finer.{cool, walls-ordered}
use Rattle.cg_form.proofs.Greatest.{at_greatest, at_least, greatest_below, least_above}
use Rattle.cg_form.proofs.Heights.{height-left, height-right, number-low}
use Rattle.cg_form.proofs.Integers.{some_lefts, some_rights}
use Rattle.cg_form.proofs.Numbers.{le-numbers, numbers-le}
use Rattle.cg_form.proofs.Order.{le-unfold, not_le-breaks}
use Rattle.cg_form.proofs.Preorder.{le_trans}
use Rattle.cg_form.proofs.Size.{size-lefts, size-rights}
use Rattle.cg_form.proofs.Walls.{walls-none, walls-number, walls-steps}

-- ---- against numbers

pub record Against (d : Decides) (s : ℕ) (x : Number) (g : Game) : Type 0 where
  pub le : Le g (number x) → (t : ℕ) → (walls d s t g).left ≤ℤ units s x
  pub not_ge : ¬ Le (number x) g → (t : ℕ) → (walls d s t g).right ≤ℤ (units s x +ℤ pos t)
  pub ge : Le (number x) g → (t : ℕ) → units s x ≤ℤ (walls d s t g).right
  pub not_le : ¬ Le g (number x) → (t : ℕ) → units s x ≤ℤ ((walls d s t g).left +ℤ pos t)

against_number : (d : Decides) (s : ℕ) (x : Number) (g : Game) (y : Number) → Equal (number y) g → exp_of x ≤ s
    → exp_of y ≤ s → Against d s x g
against_number d s x g y e p q = record {
  le = λ h t. (let l = left_is _ _ (walls-number d s t g y e) in
      let k = le-units s y x q p (le-numbers y x (le_trans (number y) g (number x) e.0 h)) in omega (arith, ints));
  not_ge = λ h t. (let l = right_is _ _ (walls-number d s t g y e) in
      let k = not_le-units s x y p q (λ j. h (le_trans (number x) (number y) g (numbers-le x y j) e.0)) in
      omega (arith, ints));
  ge = λ h t. (let l = right_is _ _ (walls-number d s t g y e) in
      let k = le-units s x y p q (le-numbers x y (le_trans (number x) g (number y) h e.1)) in omega (arith, ints));
  not_le = λ h t. (let l = left_is _ _ (walls-number d s t g y e) in
      let k = not_le-units s y x q p (λ j. h (le_trans g (number y) (number x) e.1 (numbers-le y x j))) in
      omega (arith, ints));
}

against_none : (d : Decides) (s : ℕ) (x : Number) (g : Game) → NoNumber g → exp_of x ≤ s → height g ≤ s
    → ((a : Game) → Among a (lefts g) → Against d s x a) → ((b : Game) → Among b (rights g) → Against d s x b)
    → ((y : Number) → AmongNumbers y (number_lefts x) → Against d s y g)
    → ((y : Number) → AmongNumbers y (number_rights x) → Against d s y g) → Against d s x g
against_none d s x g never p h l r xl xr = record {
  le = λ q t. (
      let f = le-unfold g (number x) q in
      let k = cooled-left_below (scaffold_of d s g) (units s x) (λ u.
      let i = greatest_below (λ a. (walls d s u a).right) (lefts g) (units s x +ℤ pos u) (some_lefts g never)
      (λ a m. (l a m).not_ge (f.on_left a m) u) in omega (arith, ints)) t in
      let e = left_is _ _ (walls-none d s t g never) in omega (arith, ints));
  ge = λ q t. (
      let f = le-unfold (number x) g q in
      let k = cooled-right_above (scaffold_of d s g) (units s x) (λ u.
      let i = least_above (λ b. (walls d s u b).left) (rights g) (units s x -ℤ pos u) (some_rights g never)
      (λ b m. let j = (r b m).not_le (f.on_right b m) u in omega (arith, ints)) in omega (arith, ints)) t in
      let e = right_is _ _ (walls-none d s t g never) in omega (arith, ints));
  not_ge = λ q t. elim ((not_le-breaks (number x) g q).way) [
    | inl w ↦ (
        let (y, e, k) = among-map (number_lefts x) number w.0 w.1 in
        let i = (xl y k).le (rw e at w.2) t in
        let o = walls-ordered d s t g h in let c = units-lefts s x y p k in
        omega (arith, ints))
    | inr w ↦ (
        let k = cooled-right_near (scaffold_of d s g) (λ u. units s x) (λ u.
        let i = (r w.0 w.1).le w.2 u in let j = at_least (λ b. (walls d s u b).left) (rights g) w.0 w.1 in
        omega (arith, ints)) (λ u. omega (arith, ints)) t in
        let e = right_is _ _ (walls-none d s t g never) in omega (arith, ints))
  ];
  not_le = λ q t. elim ((not_le-breaks g (number x) q).way) [
    | inl w ↦ (
        let k = cooled-left_near (scaffold_of d s g) (λ u. units s x) (λ u.
        let i = (l w.0 w.1).ge w.2 u in let j = at_greatest (λ a. (walls d s u a).right) (lefts g) w.0 w.1 in
        omega (arith, ints)) (λ u. omega (arith, ints)) t in
        let e = left_is _ _ (walls-none d s t g never) in omega (arith, ints))
    | inr w ↦ (
        let (y, e, k) = among-map (number_rights x) number w.0 w.1 in
        let i = (xr y k).ge (rw e at w.2) t in
        let o = walls-ordered d s t g h in let c = units-rights s x y p k in
        omega (arith, ints))
  ];
}

against_by : (d : Decides) (s : ℕ) (x : Number) (g : Game) → Decided g → exp_of x ≤ s → height g ≤ s
    → (NoNumber g → (a : Game) → Among a (lefts g) → Against d s x a)
    → (NoNumber g → (b : Game) → Among b (rights g) → Against d s x b)
    → ((y : Number) → AmongNumbers y (number_lefts x) → Against d s y g)
    → ((y : Number) → AmongNumbers y (number_rights x) → Against d s y g) → Against d s x g
against_by d s x g (inl w) p h l r xl xr = against_number d s x g w.0 w.1 p
    (let q = number-low d g w.0 w.1 in omega arith)
against_by d s x g (inr n) p h l r xl xr = against_none d s x g n p h (l n) (r n) xl xr

against_within : (d : Decides) (s n : ℕ) (x : Number) (g : Game) → size g + weight x < n → exp_of x ≤ s → height g ≤ s
    → Against d s x g
against_within d s zero x g k p h = absurd (omega arith)
against_within d s (suc n) x g k p h = against_by d s x g (d g) p h
    (λ never a m. let u = size-lefts g a m in let v = height-left g a never m in
    against_within d s n x a (omega arith) p (omega arith))
    (λ never b m. let u = size-rights g b m in let v = height-right g b never m in
    against_within d s n x b (omega arith) p (omega arith))
    (λ y m. let u = weight-lefts x y m in let v = exp-lefts x y m in
    against_within d s n y g (omega arith) (omega arith) h)
    (λ y m. let u = weight-rights x y m in let v = exp-rights x y m in
    against_within d s n y g (omega arith) (omega arith) h)

pub against : (d : Decides) (s : ℕ) (x : Number) (g : Game) → exp_of x ≤ s → height g ≤ s → Against d s x g
against d s x g p h = against_within d s (suc (size g + weight x)) x g (omega arith) p h

-- ---- the order

pub record Above (d : Decides) (s : ℕ) (g h : Game) : Type 0 where
  pub left : Le h g → (t : ℕ) → (walls d s t h).left ≤ℤ (walls d s t g).left
  pub right : Le h g → (t : ℕ) → (walls d s t h).right ≤ℤ (walls d s t g).right
  pub apart : ¬ Le g h → (t : ℕ) → (walls d s t h).right ≤ℤ ((walls d s t g).left +ℤ pos t)

-- where one of the two equals a number
above_first : (d : Decides) (s : ℕ) (g h : Game) (x : Number) → Equal (number x) g → height g ≤ s → height h ≤ s
    → Above d s g h
above_first d s g h x e p q =
    let n = number-low d g x e in
    let a = against d s x h (omega arith) q in
    record {
      left = λ l t. (let i = a.le (le_trans h g (number x) l e.1) t in let w = left_is _ _ (walls-number d s t g x e) in
          omega (arith, ints));
      right = λ l t. (let i = a.le (le_trans h g (number x) l e.1) t in let o = walls-ordered d s t h q in
          let w = right_is _ _ (walls-number d s t g x e) in omega (arith, ints));
      apart = λ l t. (let i = a.not_ge (λ k. l (le_trans g (number x) h e.1 k)) t in
          let w = left_is _ _ (walls-number d s t g x e) in omega (arith, ints));
    }

above_second : (d : Decides) (s : ℕ) (g h : Game) (y : Number) → Equal (number y) h → height g ≤ s → height h ≤ s
    → Above d s g h
above_second d s g h y e p q =
    let n = number-low d h y e in
    let a = against d s y g (omega arith) p in
    record {
      left = λ l t. (let i = a.ge (le_trans (number y) h g e.0 l) t in let o = walls-ordered d s t g p in
          let w = left_is _ _ (walls-number d s t h y e) in omega (arith, ints));
      right = λ l t. (let i = a.ge (le_trans (number y) h g e.0 l) t in
          let w = right_is _ _ (walls-number d s t h y e) in omega (arith, ints));
      apart = λ l t. (let i = a.not_le (λ k. l (le_trans g (number y) h k e.0)) t in
          let w = right_is _ _ (walls-number d s t h y e) in omega (arith, ints));
    }

under : (d : Decides) (s : ℕ) (g h : Game) → NoNumber g → NoNumber h → height g ≤ s → height h ≤ s
    → ((a : Game) → Among a (lefts h) → Above d s g a) → ((b : Game) → Among b (rights g) → Above d s b h) → Le h g
    → (t : ℕ) → Under (cooled (scaffold_of d s h) t) (cooled (scaffold_of d s g) t)
under d s g h n m p q l r le t =
    let f = le-unfold h g le in
    cool_order (scaffold_of d s h) (scaffold_of d s g) (cool d s h m q) (cool d s g n p)
    (λ u. (let i = greatest_below (λ a. (walls d s u a).right) (lefts h) ((walls d s u g).left +ℤ pos u)
    (some_lefts h m) (λ a k. (l a k).apart (f.on_left a k) u) in
    let e = left_is _ _ (walls-none d s u g n) in omega (arith, ints)))
    (λ u. (let i = least_above (λ b. (walls d s u b).left) (rights g) ((walls d s u h).right -ℤ pos u) (some_rights g n)
    (λ b k. let j = (r b k).apart (f.on_right b k) u in omega (arith, ints)) in
    let e = right_is _ _ (walls-none d s u h m) in omega (arith, ints))) t

above_none : (d : Decides) (s : ℕ) (g h : Game) → NoNumber g → NoNumber h → height g ≤ s → height h ≤ s
    → ((a : Game) → Among a (lefts h) → Above d s g a) → ((b : Game) → Among b (rights g) → Above d s b h)
    → ((a : Game) → Among a (lefts g) → Above d s a h) → ((b : Game) → Among b (rights h) → Above d s g b)
    → Above d s g h
above_none d s g h n m p q l r gl hr = record {
  left = λ le t. (let u = (under d s g h n m p q l r le t).left in let x = left_is _ _ (walls-none d s t h m) in
      let y = left_is _ _ (walls-none d s t g n) in omega (arith, ints));
  right = λ le t. (let u = (under d s g h n m p q l r le t).right in let x = right_is _ _ (walls-none d s t h m) in
      let y = right_is _ _ (walls-none d s t g n) in omega (arith, ints));
  apart = λ not t. elim ((not_le-breaks g h not).way) [
    | inl w ↦ (
        let k = cooled-left_near (scaffold_of d s g) (λ u. (walls d s u h).right) (λ u.
        let i = (gl w.0 w.1).right w.2 u in let j = at_greatest (λ a. (walls d s u a).right) (lefts g) w.0 w.1 in
        omega (arith, ints)) (λ u. (walls-steps d s u h).right_by_one) t in
        let e = left_is _ _ (walls-none d s t g n) in omega (arith, ints))
    | inr w ↦ (
        let k = cooled-right_near (scaffold_of d s h) (λ u. (walls d s u g).left) (λ u.
        let i = (hr w.0 w.1).left w.2 u in let j = at_least (λ b. (walls d s u b).left) (rights h) w.0 w.1 in
        omega (arith, ints)) (λ u. (walls-steps d s u g).left_by_one) t in
        let e = right_is _ _ (walls-none d s t h m) in omega (arith, ints))
  ];
}

above_by : (d : Decides) (s : ℕ) (g h : Game) → Decided g → Decided h → height g ≤ s → height h ≤ s
    → (NoNumber h → (a : Game) → Among a (lefts h) → Above d s g a)
    → (NoNumber g → (b : Game) → Among b (rights g) → Above d s b h)
    → (NoNumber g → (a : Game) → Among a (lefts g) → Above d s a h)
    → (NoNumber h → (b : Game) → Among b (rights h) → Above d s g b) → Above d s g h
above_by d s g h (inl w) c p q l r gl hr = above_first d s g h w.0 w.1 p q
above_by d s g h (inr n) (inl w) p q l r gl hr = above_second d s g h w.0 w.1 p q
above_by d s g h (inr n) (inr m) p q l r gl hr = above_none d s g h n m p q (l m) (r n) (gl n) (hr m)

above_within : (d : Decides) (s k : ℕ) (g h : Game) → size g + size h < k → height g ≤ s → height h ≤ s → Above d s g h
above_within d s zero g h k p q = absurd (omega arith)
above_within d s (suc n) g h k p q = above_by d s g h (d g) (d h) p q
    (λ never a m. let u = size-lefts h a m in let v = height-left h a never m in
    above_within d s n g a (omega arith) p (omega arith))
    (λ never b m. let u = size-rights g b m in let v = height-right g b never m in
    above_within d s n b h (omega arith) (omega arith) q)
    (λ never a m. let u = size-lefts g a m in let v = height-left g a never m in
    above_within d s n a h (omega arith) (omega arith) q)
    (λ never b m. let u = size-rights h b m in let v = height-right h b never m in
    above_within d s n g b (omega arith) p (omega arith))

pub walls-above : (d : Decides) (s : ℕ) (g h : Game) → height g ≤ s → height h ≤ s → Above d s g h
walls-above d s g h p q = above_within d s (suc (size g + size h)) g h (omega arith) p q

-- ---- equal games

pub walls-equal : (d : Decides) (s : ℕ) (g h : Game) → height g ≤ s → height h ≤ s → Equal g h → (t : ℕ)
    → walls d s t g ≡ walls d s t h
walls-equal d s g h p q e t =
    let a = walls-above d s g h p q in let b = walls-above d s h g q p in
    let l : (walls d s t g).left ≡ (walls d s t h).left =
    (let i = a.left e.1 t in let j = b.left e.0 t in omega (arith, ints)) in
    let r : (walls d s t g).right ≡ (walls d s t h).right =
    (let i = a.right e.1 t in let j = b.right e.0 t in omega (arith, ints)) in
    walls_same (walls d s t g) (walls d s t h) l r
