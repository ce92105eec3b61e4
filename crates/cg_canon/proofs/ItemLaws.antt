-- What passes and what is refused, over lists of items.
use Rattle.std.proofs.Common.{◌≡◌, refl, ℕ, ◌+◌, arith, ap, sym, ◌∙◌, subst, List, [], ◌∷◌, ◌++◌, append_assoc}
use Rattle.cg_canon.specs.declared.fault.ValueFault.{ValueFault}
use Rattle.cg_canon.specs.declared.fault.ValueFault.TheVariants.{Depth, Full, Memory, Positions, Range}
use Rattle.cg_canon.specs.Items.{AllPass, IsRefusal, IsStopped, Item, Passes, WasRefused, item_cost, total}

-- ---- costs

pub total-append : (xs ys : List Item) → total (xs ++ ys) ≡ total xs + total ys
total-append [] ys = omega arith
total-append (x ∷ xs) ys = omega (arith, total-append xs ys)

-- ---- where two lists are split

-- an item of a ++ stands in the front part or in the back part
data Split (xs ys front : List Item) (item : Item) (back : List Item) : Type 0 where
  in_front : (rest : List Item) → xs ≡ front ++ item ∷ rest → Split xs ys front item back
  in_back : (rest : List Item) → front ≡ xs ++ rest → ys ≡ rest ++ item ∷ back → Split xs ys front item back

split_of : (xs ys front : List Item) (item : Item) (back : List Item) → xs ++ ys ≡ front ++ item ∷ back
    → Split xs ys front item back
split_of [] ys front item back e = in_back front refl e
split_of (x ∷ xs) ys [] item back e = in_front xs (let h : x ≡ item = cc in ap (λ z. z ∷ xs) h)
split_of (x ∷ xs) ys (f ∷ front) item back e =
    let h : x ≡ f = cc in
    let t : xs ++ ys ≡ front ++ item ∷ back = cc in
    elim (split_of xs ys front item back t) [
      | in_front rest p ↦ in_front rest (ap (λ z. z ∷ xs) h ∙ ap (λ z. f ∷ z) p)
      | in_back rest p q ↦ in_back rest (ap (λ z. z ∷ front) (sym h) ∙ ap (λ z. x ∷ z) p) q
    ]

-- ---- all pass

pub all_pass-none : (share before : ℕ) → AllPass share before [] before
all_pass-none share before = record { spent = omega arith; each = λ front item back e. absurd (none front item back e) }
  where
    none : (front : List Item) (item : Item) (back : List Item) → [] ≡ front ++ item ∷ back → ⊥
    none [] item back e = cc
    none (f ∷ front) item back e = cc

pub all_pass-one : (share before : ℕ) (item : Item) → Passes item (before + item_cost item) share
    → AllPass share before (item ∷ []) (before + item_cost item)
all_pass-one share before item p = record {
  spent = omega arith;
  each = λ front x back e. one front x back e;
}
  where
    one : (front : List Item) (x : Item) (back : List Item) → item ∷ [] ≡ front ++ x ∷ back
        → Passes x (before + total front + item_cost x) share
    one [] x back e =
        let h : item ≡ x = cc in
        let s : before + item_cost item ≡ before + 0 + item_cost x = omega (arith, ap item_cost h) in
        let P : Item → Type 0 = λ z. Passes z (before + 0 + item_cost x) share in
        subst P h (rw (← s) p)
    one (f ∷ []) x back e = absurd (cc)
    one (f ∷ (k ∷ front)) x back e = absurd (cc)

pub all_pass-after : (share before after : ℕ) (item : Item) → after ≡ before + item_cost item → Passes item after share
    → AllPass share before (item ∷ []) after
all_pass-after share before after item e p =
    rw e (all_pass-one share before item (rw (← e) p))

pub passes-first : (share before after : ℕ) (item : Item) (items : List Item) → AllPass share before (item ∷ items) after
    → Passes item (before + item_cost item) share
passes-first share before after item items h =
    let s : before + 0 + item_cost item ≡ before + item_cost item = omega arith in
    rw (← s) (h.each [] item items refl)

pub all_pass-append : (share a b c : ℕ) (xs ys : List Item) → AllPass share a xs b → AllPass share b ys c
    → AllPass share a (xs ++ ys) c
all_pass-append share a b c xs ys p q = record {
  spent = omega (arith, p.spent, q.spent, total-append xs ys);
  each = λ front item back e. elim (split_of xs ys front item back e) [
    | in_front rest s ↦ p.each front item rest s
    | in_back rest s t ↦
        let k : b + total rest + item_cost item ≡ a + total front + item_cost item =
        omega (arith, p.spent, ap total s, total-append xs rest) in
        rw (← k) (q.each rest item back t)
  ];
}

pub all_pass-back : (share a c : ℕ) (xs ys : List Item) → AllPass share a (xs ++ ys) c
    → AllPass share (a + total xs) ys c
all_pass-back share a c xs ys p = record {
  spent = omega (arith, p.spent, total-append xs ys);
  each = λ front item back e.
      let k : a + total (xs ++ front) + item_cost item ≡ a + total xs + total front + item_cost item =
      omega (arith, total-append xs front) in
      rw (← k) (p.each (xs ++ front) item back (ap (λ z. xs ++ z) e ∙ sym (append_assoc xs front (item ∷ back))));
}

-- one item more at the front
pub all_pass-more : (share a b c : ℕ) (item : Item) (items : List Item) → AllPass share a (item ∷ []) b
    → AllPass share b items c → AllPass share a (item ∷ items) c
all_pass-more share a b c item items p q = all_pass-append share a b c (item ∷ []) items p q

-- ---- stopped

pub stopped-one : (fault : ValueFault) (share before : ℕ) (item : Item) (back : List Item)
    → IsRefusal fault item (before + item_cost item) share → IsStopped fault share before (item ∷ back) before
stopped-one fault share before item back r = record {
  front = [];
  item = item;
  back = back;
  split = refl;
  passed = all_pass-none share before;
  refused = r;
}

-- in the front part of a list
pub stopped-front : (fault : ValueFault) (share a b : ℕ) (xs ys : List Item) → IsStopped fault share a xs b
    → IsStopped fault share a (xs ++ ys) b
stopped-front fault share a b xs ys s = record {
  front = s.front;
  item = s.item;
  back = s.back ++ ys;
  split = ap (λ z. z ++ ys) s.split ∙ append_assoc s.front (s.item ∷ s.back) ys;
  passed = s.passed;
  refused = s.refused;
}

-- behind a part that passes
pub stopped-back : (fault : ValueFault) (share a b c : ℕ) (xs ys : List Item) → AllPass share a xs b
    → IsStopped fault share b ys c → IsStopped fault share a (xs ++ ys) c
stopped-back fault share a b c xs ys p s = record {
  front = xs ++ s.front;
  item = s.item;
  back = s.back;
  split = ap (λ z. xs ++ z) s.split ∙ sym (append_assoc xs s.front (s.item ∷ s.back));
  passed = all_pass-append share a b c xs s.front p s.passed;
  refused = s.refused;
}

-- ---- refused, or out of memory

pub refused-one : (fault : ValueFault) (share before : ℕ) (item : Item) (back : List Item)
    → IsRefusal fault item (before + item_cost item) share → WasRefused fault share before (item ∷ back) before
refused-one Memory share before item back r = tt
refused-one Range share before item back r = stopped-one Range share before item back r
refused-one (Full n) share before item back r = stopped-one (Full n) share before item back r
refused-one (Depth d) share before item back r = stopped-one (Depth d) share before item back r
refused-one Positions share before item back r = stopped-one Positions share before item back r

pub refused-front : (fault : ValueFault) (share a b : ℕ) (xs ys : List Item) → WasRefused fault share a xs b
    → WasRefused fault share a (xs ++ ys) b
refused-front Memory share a b xs ys r = tt
refused-front Range share a b xs ys r = stopped-front Range share a b xs ys r
refused-front (Full n) share a b xs ys r = stopped-front (Full n) share a b xs ys r
refused-front (Depth d) share a b xs ys r = stopped-front (Depth d) share a b xs ys r
refused-front Positions share a b xs ys r = stopped-front Positions share a b xs ys r

pub refused-back : (fault : ValueFault) (share a b c : ℕ) (xs ys : List Item) → AllPass share a xs b
    → WasRefused fault share b ys c → WasRefused fault share a (xs ++ ys) c
refused-back Memory share a b c xs ys p r = tt
refused-back Range share a b c xs ys p r = stopped-back Range share a b c xs ys p r
refused-back (Full n) share a b c xs ys p r = stopped-back (Full n) share a b c xs ys p r
refused-back (Depth d) share a b c xs ys p r = stopped-back (Depth d) share a b c xs ys p r
refused-back Positions share a b c xs ys p r = stopped-back Positions share a b c xs ys p r
