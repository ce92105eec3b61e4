-- A scaffold that is kept from a time on.
use Rattle.std.proofs.Common.{◌≡◌, refl, ℕ, ◌<◌, ◌≤◌, arith, zero, suc, ap, sym, ◌∙◌, Bool, true, false, not, ◌&&◌}
use Rattle.std.proofs.Common.{cond, List, [], ◌∷◌, ◌++◌, length, drop, inl, inr, min, ℤ, pos, neg_ℤ, ◌+ℤ◌, ◌-ℤ◌, ◌≤ℤ◌}
use Rattle.std.proofs.lemmas.Int.{ints}
use Rattle.std.specs.Prelude.{nat_lt}
use Rattle.cg_walls.specs.declared.TheConstants.{BOUND, END}
use Rattle.cg_walls.specs.declared.rise.Rise.{Rise}
use Rattle.cg_walls.specs.Rises.{Climbs, IsWall, rises_at, rises_of, step, turned, value_at}
use Rattle.cg_walls.proofs.Rising.{climbed_is, le_or_lt_n, lt_false, lt_true, value-suc, value-zero}

-- the turns before the end, and the end where it rises there
abbrev pub kept : ℕ → Bool → List ℕ → List ℕ
kept end up [] = cond up (end ∷ []) []
kept end up (t ∷ ts) = cond (nat_lt t end) (t ∷ kept end (not up) ts) (kept end up ts)

none-before : (end : ℕ) (up : Bool) (low : ℕ) (ts : List ℕ) → end ≤ low → Climbs low ts END → kept end up ts ≡ cond up (end ∷ []) []
none-before end up low [] h c = refl
none-before end up low (t ∷ ts) h (a, b, c) =
    ap (λ z. cond z (t ∷ kept end (not up) ts) (kept end up ts)) (lt_false t end (omega arith))
    ∙ none-before end up t ts (omega arith) c

last : (end u : ℕ) (up : Bool) → rises_at up (cond up (end ∷ []) []) u ≡ (up && nat_lt u end)
last end u true = one (nat_lt u end)
  where
    one : (b : Bool) → cond b true false ≡ b
    one true = refl
    one false = refl
last end u false = refl

-- before the end all is as it was, and from the end on it stays
pub kept-rises : (end u : ℕ) (up : Bool) (low : ℕ) (ts : List ℕ) → Climbs low ts END
    → rises_at up (kept end up ts) u ≡ (rises_at up ts u && nat_lt u end)
kept-rises end u up low [] c = last end u up
kept-rises end u up low (t ∷ ts) (a, b, c) = elim (le_or_lt_n end t) [
  | inl h ↦ ap (λ z. rises_at up (cond z (t ∷ kept end (not up) ts) (kept end up ts)) u) (lt_false t end h)
      ∙ ap (λ z. rises_at up z u) (none-before end up t ts h c) ∙ last end u up
      ∙ beyond h
  | inr h ↦ ap (λ z. rises_at up (cond z (t ∷ kept end (not up) ts) (kept end up ts)) u) (lt_true t end h)
      ∙ elim (le_or_lt_n t u) [
        | inl k ↦ ap (λ z. cond z up (rises_at (not up) (kept end (not up) ts) u)) (lt_false u t k)
            ∙ kept-rises end u (not up) t ts c
            ∙ ap (λ z. cond z up (rises_at (not up) ts u) && nat_lt u end) (sym (lt_false u t k))
        | inr k ↦ ap (λ z. cond z up (rises_at (not up) (kept end (not up) ts) u)) (lt_true u t k)
            ∙ sym (ap (λ z. cond z up (rises_at (not up) ts u) && nat_lt u end) (lt_true u t k)
            ∙ ap (λ z. up && z) (lt_true u end (omega arith)) ∙ whole up)
      ]
]
  where
    whole : (b : Bool) → (b && true) ≡ b
    whole true = refl
    whole false = refl

    no : (b : Bool) → (b && false) ≡ false
    no true = refl
    no false = refl

    beyond : end ≤ t → (up && nat_lt u end) ≡ (cond (nat_lt u t) up (rises_at (not up) ts u) && nat_lt u end)
    beyond h = elim (le_or_lt_n end u) [
      | inl k ↦ ap (λ z. up && z) (lt_false u end k) ∙ no up
          ∙ sym (ap (λ z. cond (nat_lt u t) up (rises_at (not up) ts u) && z) (lt_false u end k) ∙ no (cond (nat_lt u t) up (rises_at (not up) ts u)))
      | inr k ↦ ap (λ z. cond z up (rises_at (not up) ts u) && nat_lt u end) (sym (lt_true u t (omega arith)))
    ]

pub kept-climbs : (end : ℕ) (up : Bool) (low : ℕ) (ts : List ℕ) → low < end → end < END → Climbs low ts END → Climbs low (kept end up ts) END
kept-climbs end true low [] h k c = (h, k, tt)
kept-climbs end false low [] h k c = tt
kept-climbs end up low (t ∷ ts) h k (a, b, c) = elim (le_or_lt_n end t) [
  | inl i ↦
      let e = ap (λ z. cond z (t ∷ kept end (not up) ts) (kept end up ts)) (lt_false t end i) ∙ none-before end up t ts i c in
      rw e (at_end up)
  | inr i ↦ rw (lt_true t end i) (a, b, kept-climbs end (not up) t ts i k c)
]
  where
    at_end : (up : Bool) → Climbs low (cond up (end ∷ []) []) END
    at_end true = (h, k, tt)
    at_end false = tt

-- ---- the scaffold

turned-rises : (ts : List ℕ) (up : Bool) (u : ℕ) → rises_at (not up) ts u ≡ not (rises_at up ts u)
turned-rises [] up u = refl
turned-rises (t ∷ ts) up u = ap (λ z. cond (nat_lt u t) (not up) z) (turned-rises ts (not up) u) ∙ out (nat_lt u t) up (rises_at (not up) ts u)
  where
    out : (b c d : Bool) → cond b (not c) (not d) ≡ not (cond b c d)
    out true c d = refl
    out false c d = refl

turned-step : (rise : Rise) (end u : ℕ) → turned rise end (suc u) ≡ turned rise end u +ℤ step (not (rises_of rise u) && nat_lt u end)
turned-step rise end u = elim (le_or_lt_n end u) [
  | inl h ↦ (let e : min (suc u) end ≡ min u end = omega arith in
      ap (λ z. pos z -ℤ value_at rise z) e ∙ plus_zero (turned rise end u)
      ∙ ap (λ z. turned rise end u +ℤ step z) (sym (ap (λ z. not (rises_of rise u) && z) (lt_false u end h) ∙ no (not (rises_of rise u)))))
  | inr h ↦ (let e : min (suc u) end ≡ suc u = omega arith in
      let f : min u end ≡ u = omega arith in
      let v = value-suc rise u in
      let s : step (not (rises_of rise u) && nat_lt u end) ≡ step (not (rises_of rise u)) = ap step (ap (λ z. not (rises_of rise u) && z) (lt_true u end h)
      ∙ whole (not (rises_of rise u))) in
      let o = one_less (rises_of rise u) in
      let a = ap (λ z. pos z -ℤ value_at rise z) e in
      let b = ap (λ z. pos z -ℤ value_at rise z) f in
      omega (arith, ints))
]
  where
    plus_zero : (x : ℤ) → x ≡ x +ℤ pos 0
    plus_zero x = omega (arith, ints)

    no : (b : Bool) → (b && false) ≡ false
    no true = refl
    no false = refl

    whole : (b : Bool) → (b && true) ≡ b
    whole true = refl
    whole false = refl

    one_less : (b : Bool) → step (not b) +ℤ step b ≡ pos 1
    one_less true = refl
    one_less false = refl

-- what starts as the scaffold, and turns where the scaffold does before the end
pub record Follows (rise r : Rise) (end : ℕ) : Type 0 where
  pub start : r.start ≡ neg_ℤ rise.start
  pub first : r.first ≡ (not rise.first && nat_lt 0 end)
  pub turns : r.turns.items ≡ kept end r.first rise.turns.items

-- it rises before the end where the other stays
follows-rises : (rise r : Rise) (end u : ℕ) → IsWall rise → Follows rise r end → rises_of r u ≡ (not (rises_of rise u) && nat_lt u end)
follows-rises rise r end u w f = ap (λ z. rises_at r.first z u) f.turns ∙ kept-rises end u r.first 0 rise.turns.items w.turns
    ∙ elim (le_or_lt_n end u) [
      | inl h ↦ ap (λ z. rises_at r.first rise.turns.items u && z) (lt_false u end h) ∙ no (rises_at r.first rise.turns.items u)
          ∙ sym (ap (λ z. not (rises_of rise u) && z) (lt_false u end h) ∙ no (not (rises_of rise u)))
      | inr h ↦ ap (λ z. rises_at z rise.turns.items u && nat_lt u end)
          (f.first ∙ ap (λ z. not rise.first && z) (lt_true 0 end (omega arith)) ∙ whole (not rise.first))
          ∙ ap (λ z. z && nat_lt u end) (turned-rises rise.turns.items rise.first u)
    ]
  where
    no : (b : Bool) → (b && false) ≡ false
    no true = refl
    no false = refl

    whole : (b : Bool) → (b && true) ≡ b
    whole true = refl
    whole false = refl

turned-start : (rise : Rise) (end : ℕ) → turned rise end 0 ≡ neg_ℤ rise.start
turned-start rise end =
    let e : min 0 end ≡ 0 = omega arith in
    let a = ap (λ z. pos z -ℤ value_at rise z) e in
    let v = value-zero rise in
    omega (arith, ints)

pub follows-value : (rise r : Rise) (end : ℕ) → IsWall rise → Follows rise r end → (t : ℕ) → value_at r t ≡ turned rise end t
follows-value rise r end w f t = climbed_is r (turned rise end) (turned-start rise end ∙ sym f.start)
    (λ u. turned-step rise end u ∙ ap (λ z. turned rise end u +ℤ step z) (sym (follows-rises rise r end u w f))) t

pub follows-climbs : (rise r : Rise) (end : ℕ) → IsWall rise → end < END → Follows rise r end → Climbs 0 r.turns.items END
follows-climbs rise r zero w h f =
    let e : r.turns.items ≡ [] = f.turns ∙ none-before 0 r.first 0 rise.turns.items (omega arith) w.turns
    ∙ ap (λ b. cond b (0 ∷ []) []) (f.first ∙ no (not rise.first)) in
    rw e tt
  where
    no : (b : Bool) → (b && nat_lt 0 0) ≡ false
    no true = refl
    no false = refl
follows-climbs rise r (suc end) w h f =
    rw f.turns (kept-climbs (suc end) r.first 0 rise.turns.items (omega arith) h w.turns)

negated : (n b : ℤ) → n ≤ℤ b → neg_ℤ b ≤ℤ neg_ℤ n
negated n b h = omega (arith, ints)

pub follows-wall : (rise r : Rise) (end : ℕ) → IsWall rise → end < END
    → ((t : ℕ) → t ≤ end → (pos t -ℤ value_at rise t) ≤ℤ BOUND) → Follows rise r end → IsWall r
follows-wall rise r end w h s f = record {
  turns = follows-climbs rise r end w h f;
  low = (let a = w.high 0 in let z = value-zero rise in let e = f.start in
      let n = negated rise.start BOUND (omega (arith, ints)) in omega (arith, ints));
  high = λ t. (let v = follows-value rise r end w f t in let b = s (min t end) (omega arith) in omega (arith, ints));
}

-- ---- the loop

pub kept-last : (end : ℕ) (up : Bool) (ts : List ℕ) (k : ℕ) → length ts ≤ k → kept end up (drop k ts) ≡ cond up (end ∷ []) []
kept-last end up ts k h = ap (kept end up) (none ts k h)
  where
    none : (ts : List ℕ) (k : ℕ) → length ts ≤ k → drop k ts ≡ []
    none [] zero h = refl
    none [] (suc k) h = refl
    none (t ∷ ts) zero h = absurd (omega arith)
    none (t ∷ ts) (suc k) h = none ts k (omega arith)

pub lasts : (ts : List ℕ) → ts ≡ ts ++ []
lasts [] = refl
lasts (t ∷ ts) = ap (λ z. t ∷ z) (lasts ts)
