-- Walks along rises.
use Rattle.std.proofs.Common.{◌≡◌, refl, ℕ, ◌+◌, ◌-◌, ◌<◌, ◌≤◌, arith, zero, suc, ap, sym, ◌∙◌, Bool, not, cond, List, [], ◌∷◌, drop, inl, inr, ◌+ℤ◌}
use Rattle.std.proofs.lemmas.Int.{ints}
use Rattle.cg_walls.specs.declared.TheConstants.{END}
use Rattle.cg_walls.specs.declared.place.Place.{Place}
use Rattle.cg_walls.specs.declared.rise.Rise.{Rise}
use Rattle.cg_walls.specs.Places.{At, Within, first_of, next_of}
use Rattle.cg_walls.specs.Rises.{Climbs, IsWall, rises_at, rises_of, steps, value_at}
use Rattle.cg_walls.proofs.Rising.{le_or_lt_n, lt_false, lt_true, near, steady, value-zero}

pub at-start : (r : Rise) (p : Place) → p.value ≡ r.start → p.up ≡ r.first → p.passed ≡ 0 → IsWall r → At r 0 p
at-start r p v b n w =
    record {
      value = v ∙ sym (value-zero r);
      goes = λ u h. ap (λ z. rises_at z r.turns.items u) (sym b) ∙ ap (λ k. rises_at p.up (drop k r.turns.items) u) (sym n);
      ahead = rw n w.turns;
    }

-- ---- the next turn

pub first-after : (now : ℕ) (ts : List ℕ) → now < END → Climbs now ts END → now < first_of ts
first-after now [] h c = h
first-after now (t ∷ ts) h c = c.0

pub next-after : (r : Rise) (now : ℕ) (p : Place) → now < END → At r now p → now < next_of r p
next-after r now p h a = first-after now (drop p.passed r.turns.items) h a.ahead

first-below : (now : ℕ) (ts : List ℕ) → Climbs now ts END → first_of ts ≤ END
first-below now [] c = omega arith
first-below now (t ∷ ts) c = let b = c.1 in omega arith

pub next-below : (r : Rise) (now : ℕ) (p : Place) → At r now p → next_of r p ≤ END
next-below r now p a = first-below now (drop p.passed r.turns.items) a.ahead

-- ---- up to the next turn

pub before : (up : Bool) (ts : List ℕ) (u : ℕ) → u < first_of ts → rises_at up ts u ≡ up
before up [] u h = refl
before up (t ∷ ts) u h = ap (λ b. cond b up (rises_at (not up) ts u)) (lt_true u t h)

pub at-steady : (r : Rise) (now : ℕ) (p : Place) → At r now p → (u : ℕ) → now ≤ u → u < next_of r p → rises_of r u ≡ p.up
at-steady r now p a u h k = a.goes u h ∙ before p.up (drop p.passed r.turns.items) u k

-- with no turn to come it goes on for ever
pub at-last : (r : Rise) (now : ℕ) (p : Place) → At r now p → END ≤ next_of r p → (u : ℕ) → now ≤ u → rises_of r u ≡ p.up
at-last r now p a e u h = a.goes u h ∙ none (drop p.passed r.turns.items) now a.ahead e
  where
    none : (ts : List ℕ) (now : ℕ) → Climbs now ts END → END ≤ first_of ts → rises_at p.up ts u ≡ p.up
    none [] now c e = refl
    none (t ∷ ts) now c e = let b = c.1 in absurd (omega arith)

-- ---- one move

drop-next : (ts rest : List ℕ) (k t : ℕ) → drop k ts ≡ t ∷ rest → drop (k + 1) ts ≡ rest
drop-next ts rest k t e = let i : k + 1 ≡ suc k = omega arith in ap (λ n. drop n ts) i ∙ next ts k e
  where
    next : (ts : List ℕ) (k : ℕ) → drop k ts ≡ t ∷ rest → drop (suc k) ts ≡ rest
    next [] zero e = cc
    next [] (suc k) e = cc
    next (s ∷ ts) zero e = let f : s ∷ ts ≡ t ∷ rest = e in cc
    next (s ∷ ts) (suc k) e = next ts k e

pub moved-value : (r : Rise) (now to : ℕ) (p : Place) → At r now p → now < to → to ≤ next_of r p
    → value_at r to ≡ p.value +ℤ steps p.up (to - now)
moved-value r now to p a h k = steady r p.up now to (omega arith) (λ u i j. at-steady r now p a u i (omega arith))
    ∙ ap (λ z. z +ℤ steps p.up (to - now)) (sym a.value)

-- at a turn
pub at-turn : (r : Rise) (now to : ℕ) (p q : Place) → At r now p → now < to → next_of r p ≡ to → to < END
    → q.value ≡ p.value +ℤ steps p.up (to - now) → q.up ≡ not p.up → q.passed ≡ p.passed + 1 → At r to q
at-turn r now to p q a h e lt v b n = go (drop p.passed r.turns.items) refl
  where
    pass : (up : Bool) (t u : ℕ) (ts : List ℕ) → t ≤ u → rises_at up (t ∷ ts) u ≡ rises_at (not up) ts u
    pass up t u ts h = ap (λ b. cond b up (rises_at (not up) ts u)) (lt_false u t h)

    along : (t : ℕ) (ts : List ℕ) → drop p.passed r.turns.items ≡ t ∷ ts → to ≡ t → At r to q
    along t ts f g =
        let rest : drop q.passed r.turns.items ≡ ts = ap (λ k. drop k r.turns.items) n ∙ drop-next r.turns.items ts p.passed t f in
        let c = rw f at a.ahead in
        record {
          value = v ∙ sym (moved-value r now to p a h (omega arith));
          goes = λ u k. a.goes u (omega arith) ∙ ap (λ z. rises_at p.up z u) f ∙ pass p.up t u ts (omega arith)
              ∙ ap (λ z. rises_at z ts u) (sym b) ∙ ap (λ z. rises_at q.up z u) (sym rest);
          ahead = rw rest (rw g c.2);
        }

    go : (l : List ℕ) → drop p.passed r.turns.items ≡ l → At r to q
    go [] f = let g : END ≡ to = sym (ap first_of f) ∙ e in absurd (omega arith)
    go (t ∷ ts) f = along t ts f (sym e ∙ ap first_of f)

-- where there is none
pub at-later : (r : Rise) (now to : ℕ) (p q : Place) → At r now p → now < to → to ≤ next_of r p → ((next_of r p ≡ to) → to < END → ⊥)
    → q.value ≡ p.value +ℤ steps p.up (to - now) → q.up ≡ p.up → q.passed ≡ p.passed → At r to q
at-later r now to p q a h k turns v b n =
    record {
      value = v ∙ sym (moved-value r now to p a h k);
      goes = λ u i. a.goes u (omega arith) ∙ ap (λ z. rises_at z (drop p.passed r.turns.items) u) (sym b)
          ∙ ap (λ z. rises_at q.up (drop z r.turns.items) u) (sym n);
      ahead = rw n (ahead (drop p.passed r.turns.items) a.ahead k turns);
    }
  where
    ahead : (ts : List ℕ) → Climbs now ts END → to ≤ first_of ts → ((first_of ts ≡ to) → to < END → ⊥) → Climbs to ts END
    ahead [] c k f = tt
    ahead (t ∷ ts) (x, y, z) k f = elim (le_or_lt_n t to) [
      | inl p ↦ absurd (f (omega arith) (omega arith))
      | inr p ↦ (p, y, z)
    ]

pub at-within : (r : Rise) (now : ℕ) (p : Place) → IsWall r → At r now p → Within p
at-within r now p w a =
    let n = (near r now).above in let l = w.low in let h = w.high now in let v = a.value in
    record { low = omega (arith, ints); high = omega (arith, ints) }
