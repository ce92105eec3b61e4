-- The fault that is found first is the least place at which a pair is amiss.
use Rattle.std.proofs.Common.{◌≡◌, ◌≢◌, ◌⊎◌, refl, ℕ, suc, ◌+◌, ◌<◌, ◌≤◌, ◌==◌, ◌||◌, Bool, true, false, if◌then◌else◌}
use Rattle.std.proofs.Common.{Option, Some, None, List, [], ◌∷◌, ◌++◌, length, drop, get_or, inl, inr, ap, sym, ◌∙◌, arith}
use Rattle.std.specs.Option.{option_or}
use Rattle.std.specs.Prelude.{All, nat_le}
use Rattle.std.proofs.Math.Seq.{drop-cons}
use Rattle.std.proofs.lemmas.Bool.{eqb-true, eq-eqb, le-leb, leb-true}
use Rattle.std.proofs.lemmas.List.{at_drop_all}
use Rattle.std.proofs.lemmas.List.Elements.{All-cons}
use Rattle.cg_reading.specs.Bytes.{has}
use Rattle.cg_moves.proofs.FirstPlaces.{First, first_or, first_same, or_none}
use Rattle.cg_graph.specs.ColouredGraphs.{IsAmiss, IsBroken, IsPair, first_none, named, pair_fault, pair_of, pairs_fault, pairs_of, repeated, second_none}
use Rattle.cg_graph.specs.Grammar.{letter}
use Rattle.cg_graph.specs.Items.{IsLettered}
use Rattle.cg_graph.specs.declared.items.PairItem.{PairItem}
use Rattle.cg_graph.proofs.Places.{PlacesFrom}

-- ---- one pair

-- the pair is sound
record IsSound (vertices : ℕ) (i : PairItem) : Type 0 where
  one : named i.one < vertices
  other : named i.other < vertices
  apart : i.other ≢ i.one

-- what the fault of a pair says: it is the first place at which the pair is amiss, or the pair is sound
record Judged (vertices : ℕ) (i : PairItem) (fault : Option ℕ) : Type 0 where
  first : First (IsAmiss vertices i) fault
  sound : fault ≡ None → IsSound vertices i

least_one : (vertices : ℕ) (i : PairItem) (q : ℕ) → IsAmiss vertices i q → i.place ≤ q
least_one vertices i q (first_none h e) = omega (arith, e)
least_one vertices i q (second_none h e) = omega (arith, e)
least_one vertices i q (repeated h e) = omega (arith, e)

most_one : (vertices : ℕ) (i : PairItem) (q : ℕ) → IsAmiss vertices i q → q ≤ i.place + 1
most_one vertices i q (first_none h e) = omega (arith, e)
most_one vertices i q (second_none h e) = omega (arith, e)
most_one vertices i q (repeated h e) = omega (arith, e)

-- a pair whose first letter names a vertex is amiss at the second
at_second : (vertices : ℕ) (i : PairItem) → named i.one < vertices → (q : ℕ) → IsAmiss vertices i q → i.place + 1 ≤ q
at_second vertices i low q (first_none h e) = absurd (omega (arith, h, low))
at_second vertices i low q (second_none h e) = omega (arith, e)
at_second vertices i low q (repeated h e) = omega (arith, e)

not_amiss : (vertices : ℕ) (i : PairItem) → IsSound vertices i → (q : ℕ) → ¬ IsAmiss vertices i q
not_amiss vertices i s q (first_none h e) = let a = s.one in omega (arith, h, a)
not_amiss vertices i s q (second_none h e) = let a = s.other in omega (arith, h, a)
not_amiss vertices i s q (repeated h e) = s.apart h

le-true : (m n : ℕ) → nat_le m n ≡ true → m ≤ n
le-true m n h = leb-true m n h

le-false : (m n : ℕ) → nat_le m n ≡ false → n < m
le-false m n h = let go : (m ≤ n) → ⊥ = λ k. (let t = le-leb m n k in cc) in omega (arith, go)

differ-false : (m n : ℕ) → (m == n) ≡ false → m ≢ n
differ-false m n h e = let t = eq-eqb m n e in absurd (cc)

judged : (vertices : ℕ) (i : PairItem) → Judged vertices i (pair_fault vertices i)
judged vertices i = go (nat_le vertices (named i.one)) refl (nat_le vertices (named i.other)) refl (i.other == i.one) refl
  where
    go : (a : Bool) → nat_le vertices (named i.one) ≡ a → (b : Bool) → nat_le vertices (named i.other) ≡ b
        → (c : Bool) → (i.other == i.one) ≡ c
        → Judged vertices i (if a then Some i.place else (if b || c then Some (i.place + 1) else None))
    go true e b f c g = record {
      first = (first_none (le-true vertices (named i.one) e) refl, least_one vertices i);
      sound = λ h. absurd (cc);
    }
    go false e true f c g = record {
      first = (second_none (le-true vertices (named i.other) f) refl, at_second vertices i (le-false vertices (named i.one) e));
      sound = λ h. absurd (cc);
    }
    go false e false f true g = record {
      first = (repeated (eqb-true i.other i.one g) refl, at_second vertices i (le-false vertices (named i.one) e));
      sound = λ h. absurd (cc);
    }
    go false e false f false g =
        let s : IsSound vertices i = record {
          one = le-false vertices (named i.one) e;
          other = le-false vertices (named i.other) f;
          apart = differ-false i.other i.one g;
        } in
        record { first = not_amiss vertices i s; sound = λ h. s }

-- ---- all pairs

no_item : (before behind : List PairItem) (i : PairItem) → [] ≡ before ++ (i ∷ behind) → ⊥
no_item [] behind i e = cc
no_item (b ∷ before) behind i e = cc

broken_from : (vertices low : ℕ) (items before behind : List PairItem) (i : PairItem) (q : ℕ) → PlacesFrom low items
    → items ≡ before ++ (i ∷ behind) → IsAmiss vertices i q → low ≤ q
broken_from vertices low [] before behind i q p e a = absurd (no_item before behind i e)
broken_from vertices low (x ∷ items) [] behind i q p e a =
    let same : x ≡ i = cc in
    let at = ap (λ (z : PairItem). z.place) same in
    let b = least_one vertices i q a in
    let c = p.0 in
    omega arith
broken_from vertices low (x ∷ items) (y ∷ before) behind i q p e a =
    let rest : items ≡ before ++ (i ∷ behind) = cc in
    let b = broken_from vertices (x.place + 2) items before behind i q p.1 rest a in
    let c = p.0 in
    omega arith

-- a broken one is the first, or among the others
record OneBroken (vertices : ℕ) (i : PairItem) (items : List PairItem) (q : ℕ) : Type 0 where
  way : IsAmiss vertices i q ⊎ IsBroken vertices items q

one_broken : (vertices : ℕ) (i : PairItem) (items before behind : List PairItem) (j : PairItem) (q : ℕ)
    → i ∷ items ≡ before ++ (j ∷ behind) → IsAmiss vertices j q → OneBroken vertices i items q
one_broken vertices i items [] behind j q e a =
    let same : j ≡ i = cc in
    record { way = inl (rw (← same) a) }
one_broken vertices i items (y ∷ before) behind j q e a =
    let rest : items ≡ before ++ (j ∷ behind) = cc in
    record { way = inr (record { before = before; item = j; behind = behind; among = rest; amiss = a }) }

broken_there : (vertices : ℕ) (i : PairItem) (items : List PairItem) (q : ℕ) → IsBroken vertices items q
    → IsBroken vertices (i ∷ items) q
broken_there vertices i items q b = record {
  before = i ∷ b.before;
  item = b.item;
  behind = b.behind;
  among = ap (λ z. i ∷ z) b.among;
  amiss = b.amiss;
}

broken_here : (vertices : ℕ) (i : PairItem) (items : List PairItem) (q : ℕ) → IsAmiss vertices i q
    → IsBroken vertices (i ∷ items) q
broken_here vertices i items q a = record {
  before = [];
  item = i;
  behind = items;
  among = refl;
  amiss = a;
}

-- a broken pair behind the first stands later
in_order : (vertices low : ℕ) (i : PairItem) (items : List PairItem) (p q : ℕ) → PlacesFrom low (i ∷ items)
    → IsAmiss vertices i p → IsBroken vertices items q → p ≤ q
in_order vertices low i items p q places a b =
    let c = most_one vertices i p a in
    let d = broken_from vertices (i.place + 2) items b.before b.behind b.item q places.1 b.among b.amiss in
    omega arith

joined : (vertices low : ℕ) (i : PairItem) (items : List PairItem) → PlacesFrom low (i ∷ items) → (a b : Option ℕ)
    → First (IsAmiss vertices i) a → First (IsBroken vertices items) b → First (IsBroken vertices (i ∷ items)) (option_or a b)
joined vertices low i items places a b f g =
    first_same (λ q. IsAmiss vertices i q ⊎ IsBroken vertices items q) (IsBroken vertices (i ∷ items)) (option_or a b)
    (λ q h. elim h [ inl x ↦ broken_here vertices i items q x | inr y ↦ broken_there vertices i items q y ])
    (λ q h. (one_broken vertices i items h.before h.behind h.item q h.among h.amiss).way)
    (first_or (IsAmiss vertices i) (IsBroken vertices items) a b (λ p q. in_order vertices low i items p q places) f g)

pub first_broken : (vertices low : ℕ) (items : List PairItem) → PlacesFrom low items
    → First (IsBroken vertices items) (pairs_fault vertices items)
unfolding pairs_fault
first_broken vertices low [] places = λ q b. no_item b.before b.behind b.item b.among
first_broken vertices low (i ∷ items) places =
    joined vertices low i items places (pair_fault vertices i) (pairs_fault vertices items) (judged vertices i).first
    (first_broken vertices (i.place + 2) items places.1)

-- ---- pairs without a fault

one-name : (c d : ℕ) → has letter c ≡ true → has letter d ≡ true → named c ≡ named d → c ≡ d
one-name c d g h e = grind arith

pub pairs_sound : (vertices : ℕ) (items : List PairItem) → All IsLettered items → pairs_fault vertices items ≡ None
    → All (IsPair vertices) (pairs_of items)
unfolding pairs_fault
pairs_sound vertices [] letters none = λ k d below. absurd (omega arith)
pairs_sound vertices (i ∷ items) letters none =
    let both = or_none (pair_fault vertices i) (pairs_fault vertices items) none in
    let l = letters 0 i (omega arith) in
    let s = (judged vertices i).sound both.0 in
    All-cons (IsPair vertices) (pair_of i) (pairs_of items)
    (record { one = s.one; other = s.other; apart = λ e. s.apart (one-name i.other i.one l.other l.one e) })
    (pairs_sound vertices items (λ k d below. letters (suc k) d (omega arith)) both.1)

-- ---- the loop over the pairs

pairs_step : (vertices : ℕ) (items : List PairItem) (i : ℕ) (d : PairItem) → i < length items
    → pairs_fault vertices (drop i items) ≡ option_or (pair_fault vertices (get_or items i d)) (pairs_fault vertices (drop (i + 1) items))
unfolding pairs_fault
pairs_step vertices items i d h =
    let up : suc i ≡ i + 1 = omega arith in
    ap (pairs_fault vertices) (drop-cons items i d h)
    ∙ ap (λ (k : ℕ). option_or (pair_fault vertices (get_or items i d)) (pairs_fault vertices (drop k items))) up

pub pairs_end : (vertices : ℕ) (items : List PairItem) (i : ℕ) → length items ≤ i → pairs_fault vertices (drop i items) ≡ None
unfolding pairs_fault
pairs_end vertices items i h = at_drop_all (pairs_fault vertices) items i h

pub pair_found : (vertices : ℕ) (items : List PairItem) (i : ℕ) (d : PairItem) (p : ℕ) → i < length items
    → Some p ≡ pair_fault vertices (get_or items i d) → pairs_fault vertices (drop i items) ≡ Some p
pair_found vertices items i d p h f =
    pairs_step vertices items i d h ∙ ap (λ (a : Option ℕ). option_or a (pairs_fault vertices (drop (i + 1) items))) (sym f)

pub pair_passed : (vertices : ℕ) (items : List PairItem) (i : ℕ) (d : PairItem) → i < length items
    → None ≡ pair_fault vertices (get_or items i d)
    → pairs_fault vertices (drop (i + 1) items) ≡ pairs_fault vertices (drop i items)
pair_passed vertices items i d h f =
    sym (pairs_step vertices items i d h ∙ ap (λ (a : Option ℕ). option_or a (pairs_fault vertices (drop (i + 1) items))) (sym f))
