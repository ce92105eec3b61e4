-- The greater of two walls, step by step.
use Rattle.std.proofs.Common.{◌≡◌, refl, ℕ, ◌+◌, ◌-◌, ◌<◌, ◌≤◌, arith, suc, ap, sym, ◌∙◌, Bool, true, false, not, ◌||◌, ◌&&◌}
use Rattle.std.proofs.Common.{cond, List, [], ◌∷◌, ◌++◌, inl, inr, ◌⊎◌, unsigned_abs, ℤ, pos, neg_ℤ, ◌+ℤ◌, ◌-ℤ◌, ◌≤ℤ◌, ◌<ℤ◌}
use Rattle.std.proofs.lemmas.Int.{ints}
use lib.Signed.{le_z, lt_z}
use mathlib.Core.Bool.{beq}
use Rattle.std.specs.Int.{int_max}
use Rattle.cg_walls.specs.declared.TheConstants.{BOUND, END}
use Rattle.cg_walls.specs.declared.place.Place.{Place}
use Rattle.cg_walls.specs.declared.rise.Rise.{Rise}
use Rattle.cg_walls.specs.Places.{At, catch_up, event, leads, next_of}
use Rattle.cg_walls.specs.Rises.{Climbs, IsWall, rises_at, step, steps, value_at}
use Rattle.cg_walls.proofs.Rising.{climbed_is, climbs-more, climbs-wider, le_or_lt_n, near, rises-after}
use Rattle.cg_walls.proofs.Rising.{rises-before, steady, true_or_false, value-suc, value-zero}
use Rattle.cg_walls.proofs.Walking.{at-last, next-after}
use Rattle.cg_walls.proofs.Leading.{led, upper}

-- ---- the loop

-- the turns up to now are those of the greater, which from now on goes as `up` says
pub record Merged (a b : Rise) (first : Bool) (turns : List ℕ) (now : ℕ) (up : Bool) (p q : Place) : Type 0 where
  pub inside : now < END
  pub one : At a now p
  pub two : At b now q
  pub leading : up ≡ leads p q
  pub rising : Climbs 0 turns (now + 1)
  pub later : (u : ℕ) → now ≤ u → rises_at first turns u ≡ up
  pub done : (u : ℕ) → u < now → upper a b (suc u) ≡ upper a b u +ℤ step (rises_at first turns u)

pub merged-none : (a b : Rise) (p q : Place) (up : Bool) → At a 0 p → At b 0 q → up ≡ leads p q → Merged a b up [] 0 up p q
merged-none a b p q up f g e = record {
  inside = omega arith;
  one = f;
  two = g;
  leading = e;
  rising = tt;
  later = λ u h. refl;
  done = λ u h. absurd (omega arith);
}

split_at : (now to u : ℕ) → u < to → (u < now) ⊎ ((now ≤ u) × (u < to))
split_at now to u h = grind arith

-- up to the event all goes as before
gone : (a b : Rise) (first up : Bool) (turns : List ℕ) (now to : ℕ) (p q : Place) → Merged a b first turns now up p q
    → to ≡ event a b now p q → (u : ℕ) → u < to → upper a b (suc u) ≡ upper a b u +ℤ step (rises_at first turns u)
gone a b first up turns now to p q m e u h = elim (split_at now to u h) [
  | inl k ↦ m.done u k
  | inr w ↦ (let lt : u < event a b now p q = omega arith in
      led a b now u p q m.one m.two w.0 lt
      ∙ ap (λ z. upper a b u +ℤ step z) (sym m.leading ∙ sym (m.later u w.0)))
]

pub merged-same : (a b : Rise) (first up lead : Bool) (turns : List ℕ) (now to : ℕ) (p q p' q' : Place)
    → Merged a b first turns now up p q → to ≡ event a b now p q → now < to → to < END → At a to p' → At b to q' → lead ≡ leads p' q'
    → lead ≡ up → Merged a b first turns to up p' q'
merged-same a b first up lead turns now to p q p' q' m e lt i f g l same = record {
  inside = i;
  one = f;
  two = g;
  leading = sym same ∙ l;
  rising = climbs-wider 0 (now + 1) (to + 1) turns (omega arith) m.rising;
  later = λ u h. m.later u (omega arith);
  done = λ u h. gone a b first up turns now to p q m e u h;
}

pub merged-turned : (a b : Rise) (first up lead : Bool) (turns : List ℕ) (now to : ℕ) (p q p' q' : Place)
    → Merged a b first turns now up p q → to ≡ event a b now p q → now < to → to < END → At a to p' → At b to q' → lead ≡ leads p' q'
    → lead ≡ not up → Merged a b first (turns ++ to ∷ []) to lead p' q'
merged-turned a b first up lead turns now to p q p' q' m e lt i f g l other =
    let below : Climbs 0 turns to = climbs-wider 0 (now + 1) to turns (omega arith) m.rising in
    record {
      inside = i;
      one = f;
      two = g;
      leading = l;
      rising = climbs-more 0 to (to + 1) turns (omega arith) (omega arith) below;
      later = λ u h. rises-after first 0 to u turns h below ∙ ap not (m.later u (omega arith)) ∙ sym other;
      done = λ u h. gone a b first up turns now to p q m e u h
          ∙ ap (λ z. upper a b u +ℤ step z) (sym (rises-before first 0 to u turns h));
    }

-- the next event is later
pub event-after : (a b : Rise) (first up : Bool) (turns : List ℕ) (now : ℕ) (p q : Place) → Merged a b first turns now up p q
    → now < event a b now p q
event-after a b first up turns now p q m =
    let x = next-after a now p m.inside m.one in
    let y = next-after b now q m.inside m.two in
    let i = m.inside in
    let z = catch-after now p q i in
    let w = catch-after now q p i in
    omega arith
  where
    size : (n : ℤ) → pos 0 <ℤ n → 0 < unsigned_abs n
    size n h = grind (arith, ints)

    caught : (b : Bool) (now n : ℕ) → now < END → (b ≡ true → 0 < n) → now < cond b (now + n) END
    caught true now n h k = let j = k refl in omega arith
    caught false now n h k = h

    first_part : (b c : Bool) → (b && c) ≡ true → b ≡ true
    first_part true c h = refl
    first_part false c h = h

    from_lt : (x y : ℤ) → lt_z x y ≡ true → x <ℤ y
    from_lt x y h = grind (arith, ints)

    above : (x y : ℤ) → x <ℤ y → pos 0 <ℤ (y -ℤ x)
    above x y h = omega (arith, ints)

    catch-after : (now : ℕ) (p q : Place) → now < END → now < catch_up now p q
    catch-after now p q h = caught (lt_z p.value q.value && (p.up && not q.up)) now (unsigned_abs (q.value -ℤ p.value)) h
        (λ e. size (q.value -ℤ p.value) (above p.value q.value (from_lt p.value q.value (first_part (lt_z p.value q.value) (p.up && not q.up) e))))

pub merged-along : (a b : Rise) (first v w : Bool) (ts us : List ℕ) (now : ℕ) (p q : Place) → us ≡ ts → w ≡ v
    → Merged a b first ts now v p q → Merged a b first us now w p q
merged-along a b first v w ts us now p q e f m = rw e (rw f m)

-- ---- the end

-- a wall that turns no more stays
pub flat : (r : Rise) (now : ℕ) (p : Place) → IsWall r → At r now p → END ≤ next_of r p → p.up ≡ false
flat r now p w f e = elim (true_or_false p.up) [
  | inl t ↦ absurd (
      let k : ℕ = suc (unsigned_abs BOUND + unsigned_abs BOUND) in
      let v = steady r p.up now (now + k) (omega arith) (λ u i j. at-last r now p f e u i) in
      let s : steps p.up (now + k - now) ≡ pos k = ap (λ b. steps b (now + k - now)) t ∙ ap pos (gap_is now k) in
      let h = w.high (now + k) in
      let n = (near r now).above in
      let l = w.low in
      let b : pos (unsigned_abs BOUND) ≡ BOUND = refl in
      omega (arith, ints))
  | inr t ↦ t
]
  where
    gap_is : (now k : ℕ) → now + k - now ≡ k
    gap_is now k = omega arith

pub merged-all : (a b : Rise) (first up : Bool) (turns : List ℕ) (now : ℕ) (p q : Place) → IsWall a → IsWall b
    → Merged a b first turns now up p q → END ≤ event a b now p q
    → (u : ℕ) → upper a b (suc u) ≡ upper a b u +ℤ step (rises_at first turns u)
unfolding upper
merged-all a b first up turns now p q wa wb m e u = elim (le_or_lt_n now u) [
  | inl h ↦ (let pu = flat a now p wa m.one (omega arith) in
      let qu = flat b now q wb m.two (omega arith) in
      let va : value_at a (suc u) ≡ value_at a u = value-suc a u
      ∙ ap (λ z. value_at a u +ℤ step z) (at-last a now p m.one (omega arith) u h ∙ pu) ∙ same (value_at a u) in
      let vb : value_at b (suc u) ≡ value_at b u = value-suc b u
      ∙ ap (λ z. value_at b u +ℤ step z) (at-last b now q m.two (omega arith) u h ∙ qu) ∙ same (value_at b u) in
      let r : rises_at first turns u ≡ false = m.later u h ∙ m.leading ∙ none p q pu qu in
      ap (λ z. int_max z (value_at b (suc u))) va ∙ ap (λ z. int_max (value_at a u) z) vb
      ∙ sym (same (int_max (value_at a u) (value_at b u)))
      ∙ ap (λ z. int_max (value_at a u) (value_at b u) +ℤ step z) (sym r))
  | inr h ↦ m.done u h
]
  where
    same : (x : ℤ) → x +ℤ pos 0 ≡ x
    same x = omega (arith, ints)

    any : (b c : Bool) → cond b (cond c false false) false ≡ false
    any true true = refl
    any true false = refl
    any false c = refl

    none : (p q : Place) → p.up ≡ false → q.up ≡ false → leads p q ≡ false
    none p q i j = ap (λ z. cond (le_z p.value q.value) (cond (le_z q.value p.value) (z || q.up) q.up) z) i
        ∙ ap (λ z. cond (le_z p.value q.value) (cond (le_z q.value p.value) z z) false) j ∙ any (le_z p.value q.value) (le_z q.value p.value)

pub upper-value : (a b r : Rise) (turns : List ℕ) → r.start ≡ int_max a.start b.start → r.turns.items ≡ turns
    → ((u : ℕ) → upper a b (suc u) ≡ upper a b u +ℤ step (rises_at r.first turns u)) → (t : ℕ) → value_at r t ≡ upper a b t
unfolding upper
upper-value a b r turns s e h t = climbed_is r (upper a b)
    (ap (λ z. int_max z (value_at b 0)) (value-zero a) ∙ ap (λ z. int_max a.start z) (value-zero b) ∙ sym s)
    (λ u. h u ∙ ap (λ z. upper a b u +ℤ step (rises_at r.first z u)) (sym e)) t

within : (x y lo hi : ℤ) → lo ≤ℤ x → x ≤ℤ hi → lo ≤ℤ y → y ≤ℤ hi → (lo ≤ℤ int_max x y) × (int_max x y ≤ℤ hi)
within x y lo hi a b c d = (grind (arith, ints), grind (arith, ints))

pub upper-wall : (a b r : Rise) (first up : Bool) (turns : List ℕ) (now : ℕ) (p q : Place) → IsWall a → IsWall b
    → Merged a b first turns now up p q → END ≤ event a b now p q → r.start ≡ int_max a.start b.start → r.first ≡ first
    → r.turns.items ≡ turns → IsWall r × ((t : ℕ) → value_at r t ≡ int_max (value_at a t) (value_at b t))
unfolding upper
upper-wall a b r first up turns now p q wa wb m e s f i =
    let v = upper-value a b r turns s i (rw f (merged-all a b first up turns now p q wa wb m e)) in
    let in_ = m.inside in (
      record {
        turns = rw i (climbs-wider 0 (now + 1) END turns (omega arith) m.rising);
        low = (let x = near a 0 in let y = near b 0 in let za = value-zero a in let zb = value-zero b in
            let la = wa.low in let lb = wb.low in let ha = wa.high 0 in let hb = wb.high 0 in
            let w = within a.start b.start (neg_ℤ BOUND) BOUND la (omega (arith, ints)) lb (omega (arith, ints)) in
            let k = w.0 in omega (arith, ints));
        high = λ t. (let x = (near a t).above in let y = (near b t).above in let la = wa.low in let lb = wb.low in
            let w = within (value_at a t) (value_at b t) (neg_ℤ BOUND) BOUND (omega (arith, ints)) (wa.high t) (omega (arith, ints)) (wb.high t) in
            let k = w.1 in let j = v t in omega (arith, ints));
      },
      v,
    )

-- ---- what the code has

pub max_is : (x y a b : ℤ) → x ≡ a → y ≡ b → int_max x y ≡ int_max a b
max_is x y a b e f = ap (λ z. int_max z y) e ∙ ap (λ z. int_max a z) f

pub bool_other : (b c : Bool) → not (beq b c) ≡ true → b ≡ not c
bool_other true true h = cc
bool_other true false h = refl
bool_other false true h = refl
bool_other false false h = cc

pub bool_same : (b c : Bool) → not (beq b c) ≡ false → b ≡ c
bool_same true true h = refl
bool_same true false h = cc
bool_same false true h = cc
bool_same false false h = refl
