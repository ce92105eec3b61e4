-- Answers that are kept, the first ones in a list.
use Rattle.std.proofs.Common.{◌≡◌, refl, ℕ, zero, suc, ◌<◌, ◌⊎◌, inl, inr, arith, ap, sym, ◌∙◌, Option, Some}
use Rattle.std.proofs.Common.{None, List, [], ◌∷◌, ◌++◌, take, get_or, length, Bool, true, false, cond, nat_eq}
use Rattle.std.specs.HashMap.{get}
use Rattle.std.proofs.lemmas.Bool.Decides.{eqb_tells}
use Rattle.cg_arena.specs.declared.verdicts.ByIndex.{ByIndex}
use Rattle.cg_arena.specs.declared.verdicts.Noted.{Noted}
use Rattle.cg_arena.specs.Verdict.{answer_for, either, noted}

is_same : (x y : ℕ) → x ≡ y → nat_eq x y ≡ true
is_same x y e = elim (eqb_tells x y) [ inl there ↦ there.0 | inr other ↦ absurd (other.1 e) ]

is_other : (x y : ℕ) → ¬ (x ≡ y) → nat_eq x y ≡ false
is_other x y n = elim (eqb_tells x y) [ inl there ↦ absurd (n there.1) | inr other ↦ other.0 ]

-- ---- a search

-- the rest of a list, whose first entry isn't the one
rest_none : (t : Bool) (r : Bool) (o : Option Bool) → cond t (Some r) o ≡ None → (t ≡ false) × (o ≡ None)
rest_none true r o h = cc
rest_none false r o h = (refl, h)

pub noted_hit : (es : List Noted) (i : ℕ) (d : Noted) (index : ℕ) → i < length es → noted (take i es) index ≡ None
    → (get_or es i d).index ≡ index → Some (get_or es i d).answer ≡ noted es index
noted_hit [] i d index l h e = absurd (omega arith)
noted_hit (n ∷ es) zero d index l h e = sym (ap (λ z. cond z (Some n.answer) (noted es index)) (is_same n.index index e))
noted_hit (n ∷ es) (suc i) d index l h e =
    let first = rest_none (nat_eq n.index index) n.answer (noted (take i es) index) h in
    noted_hit es i d index (omega arith) first.1 e ∙ sym (ap (λ z. cond z (Some n.answer) (noted es index)) first.0)

pub noted_miss : (es : List Noted) (i : ℕ) (d : Noted) (index : ℕ) → i < length es → noted (take i es) index ≡ None
    → ¬ ((get_or es i d).index ≡ index) → noted (take (suc i) es) index ≡ None
noted_miss [] i d index l h n = absurd (omega arith)
noted_miss (m ∷ es) zero d index l h n = ap (λ z. cond z (Some m.answer) None) (is_other m.index index n)
noted_miss (m ∷ es) (suc i) d index l h n =
    let first = rest_none (nat_eq m.index index) m.answer (noted (take i es) index) h in
    ap (λ z. cond z (Some m.answer) (noted (take (suc i) es) index)) first.0 ∙ noted_miss es i d index (omega arith) first.1 n

-- ---- an entry more

noted-last : (es : List Noted) (n : Noted) (index : ℕ)
    → noted (es ++ n ∷ []) index ≡ either (noted es index) (cond (nat_eq n.index index) (Some n.answer) None)
noted-last [] n index = refl
noted-last (m ∷ es) n index = by (nat_eq m.index index) (noted-last es n index)
  where
    by : (t : Bool) → noted (es ++ n ∷ []) index ≡ either (noted es index) (cond (nat_eq n.index index) (Some n.answer) None)
        → cond t (Some m.answer) (noted (es ++ n ∷ []) index)
        ≡ either (cond t (Some m.answer) (noted es index)) (cond (nat_eq n.index index) (Some n.answer) None)
    by true rest = refl
    by false rest = rest

by_cases : (o : Option Bool) (t : Bool) (m : Option Bool) (a c : ℕ) (answer b : Bool) → (t ≡ true → c ≡ a)
    → either (either o (cond t (Some answer) None)) m ≡ Some b → (either o m ≡ Some b) ⊎ ((c ≡ a) × (b ≡ answer))
by_cases (Some r) t m a c answer b k h = inl h
by_cases None true m a c answer b k h = inr (k refl, cc)
by_cases None false m a c answer b k h = inl h

same_when : (a c : ℕ) → nat_eq a c ≡ true → c ≡ a
same_when a c h = elim (eqb_tells a c) [ inl there ↦ sym there.1 | inr other ↦ (let e = sym h ∙ other.0 in cc) ]

pub answer_more : (x y : ByIndex) (a : ℕ) (answer : Bool) → y.few.items ≡ x.few.items ++ record { index = a; answer = answer } ∷ []
    → y.more ≡ x.more → (c : ℕ) (b : Bool) → answer_for y c ≡ Some b → (answer_for x c ≡ Some b) ⊎ ((c ≡ a) × (b ≡ answer))
answer_more x y a answer e f c b h =
    by_cases (noted x.few.items c) (nat_eq a c) (get nat_eq x.more c) a c answer b (same_when a c)
    (sym (ap (λ z. either (noted z c) (get nat_eq y.more c)) e
    ∙ ap (λ z. either (noted (x.few.items ++ record { index = a; answer = answer } ∷ []) c) (get nat_eq z c)) f
    ∙ ap (λ z. either z (get nat_eq x.more c)) (noted-last x.few.items (record { index = a; answer = answer }) c)) ∙ h)
