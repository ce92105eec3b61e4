-- The greatest and the least of a list of whole numbers.
use Rattle.std.proofs.Common.{◌≡◌, refl, arith, inl, inr, ap, ◌∙◌, List, [], ◌∷◌, map, ℤ, pos, ◌+ℤ◌, ◌≤ℤ◌}
use Rattle.std.proofs.lemmas.Int.{ints}
use Rattle.cg_form.specs.Game.{Among, Game}
use lib.Signed.{le_z}
use Rattle.cg_form.specs.Greatest.{greater_by}
use Rattle.cg_form.specs.Walls.{greatest, least}

abbrev greater : ℤ → ℤ → ℤ
greater a b = greater_by le_z a b

abbrev less : ℤ → ℤ → ℤ
less a b = greater_by (λ x y. le_z y x) a b

-- ---- bounds

not_empty : (gs : List Game) (a : Game) → Among a gs → ¬ (gs ≡ [])
not_empty [] a m e = m
not_empty (g ∷ gs) a m e = cc

greater_most : (a b c : ℤ) → a ≤ℤ c → b ≤ℤ c → greater a b ≤ℤ c
greater_most a b c p q = grind (arith, ints)

less_least : (a b c : ℤ) → c ≤ℤ a → c ≤ℤ b → c ≤ℤ less a b
less_least a b c p q = grind (arith, ints)

pub greatest_below : (f : Game → ℤ) (gs : List Game) (b : ℤ) → ¬ (gs ≡ []) → ((a : Game) → Among a gs → f a ≤ℤ b)
    → greatest (map f gs) ≤ℤ b
greatest_below f [] b n h = absurd (n refl)
greatest_below f (g ∷ []) b n h = h g (inl refl)
greatest_below f (g ∷ (i ∷ is)) b n h = greater_most (f g) (greatest (map f (i ∷ is))) b (h g (inl refl))
    (greatest_below f (i ∷ is) b (not_empty (i ∷ is) i (inl refl)) (λ a m. h a (inr m)))

pub least_above : (f : Game → ℤ) (gs : List Game) (b : ℤ) → ¬ (gs ≡ []) → ((a : Game) → Among a gs → b ≤ℤ f a)
    → b ≤ℤ least (map f gs)
least_above f [] b n h = absurd (n refl)
least_above f (g ∷ []) b n h = h g (inl refl)
least_above f (g ∷ (i ∷ is)) b n h = less_least (f g) (least (map f (i ∷ is))) b (h g (inl refl))
    (least_above f (i ∷ is) b (not_empty (i ∷ is) i (inl refl)) (λ a m. h a (inr m)))

-- ---- members

greater_both : (a b : ℤ) → (a ≤ℤ greater a b) × (b ≤ℤ greater a b)
greater_both a b = (grind (arith, ints), grind (arith, ints))

less_both : (a b : ℤ) → (less a b ≤ℤ a) × (less a b ≤ℤ b)
less_both a b = (grind (arith, ints), grind (arith, ints))

pub at_greatest : (f : Game → ℤ) (gs : List Game) (a : Game) → Among a gs → f a ≤ℤ greatest (map f gs)
at_greatest f [] a m = absurd m
at_greatest f (g ∷ []) a (inl e) = let q : f a ≡ f g = ap f e in omega (arith, ints)
at_greatest f (g ∷ []) a (inr m) = absurd m
at_greatest f (g ∷ (i ∷ is)) a (inl e) = let q : f a ≡ f g = ap f e in
    let b = greater_both (f g) (greatest (map f (i ∷ is))) in omega (arith, ints)
at_greatest f (g ∷ (i ∷ is)) a (inr m) = let r = at_greatest f (i ∷ is) a m in
    let b = greater_both (f g) (greatest (map f (i ∷ is))) in omega (arith, ints)

pub at_least : (f : Game → ℤ) (gs : List Game) (a : Game) → Among a gs → least (map f gs) ≤ℤ f a
at_least f [] a m = absurd m
at_least f (g ∷ []) a (inl e) = let q : f a ≡ f g = ap f e in omega (arith, ints)
at_least f (g ∷ []) a (inr m) = absurd m
at_least f (g ∷ (i ∷ is)) a (inl e) = let q : f a ≡ f g = ap f e in let b = less_both (f g) (least (map f (i ∷ is))) in
    omega (arith, ints)
at_least f (g ∷ (i ∷ is)) a (inr m) = let r = at_least f (i ∷ is) a m in
    let b = less_both (f g) (least (map f (i ∷ is))) in omega (arith, ints)

-- ---- numbers that rise, or fall, by at most 1

greater_up : (a b c d : ℤ) → a ≤ℤ c → c ≤ℤ (a +ℤ pos 1) → b ≤ℤ d → d ≤ℤ (b +ℤ pos 1)
    → (greater a b ≤ℤ greater c d) × (greater c d ≤ℤ (greater a b +ℤ pos 1))
greater_up a b c d p q r s = (grind (arith, ints), grind (arith, ints))

less_down : (a b c d : ℤ) → c ≤ℤ a → a ≤ℤ (c +ℤ pos 1) → d ≤ℤ b → b ≤ℤ (d +ℤ pos 1)
    → (less c d ≤ℤ less a b) × (less a b ≤ℤ (less c d +ℤ pos 1))
less_down a b c d p q r s = (grind (arith, ints), grind (arith, ints))

pub greatest_up : (f k : Game → ℤ) (gs : List Game) → ((a : Game) → (f a ≤ℤ k a) × (k a ≤ℤ (f a +ℤ pos 1)))
    → (greatest (map f gs) ≤ℤ greatest (map k gs)) × (greatest (map k gs) ≤ℤ (greatest (map f gs) +ℤ pos 1))
greatest_up f k [] h = (omega (arith, ints), omega (arith, ints))
greatest_up f k (g ∷ []) h = h g
greatest_up f k (g ∷ (i ∷ is)) h =
    let r = greatest_up f k (i ∷ is) h in
    greater_up (f g) (greatest (map f (i ∷ is))) (k g) (greatest (map k (i ∷ is))) (h g).0 (h g).1 r.0 r.1

pub least_down : (f k : Game → ℤ) (gs : List Game) → ((a : Game) → (k a ≤ℤ f a) × (f a ≤ℤ (k a +ℤ pos 1)))
    → (least (map k gs) ≤ℤ least (map f gs)) × (least (map f gs) ≤ℤ (least (map k gs) +ℤ pos 1))
least_down f k [] h = (omega (arith, ints), omega (arith, ints))
least_down f k (g ∷ []) h = h g
least_down f k (g ∷ (i ∷ is)) h =
    let r = least_down f k (i ∷ is) h in
    less_down (f g) (least (map f (i ∷ is))) (k g) (least (map k (i ∷ is))) (h g).0 (h g).1 r.0 r.1

-- ---- sums of such numbers

greater_sum : (a b c d : ℤ) → a ≤ℤ c → c ≤ℤ (a +ℤ pos 1) → b ≤ℤ d → d ≤ℤ (b +ℤ pos 1)
    → greater (a +ℤ c) (b +ℤ d) ≡ greater a b +ℤ greater c d
greater_sum a b c d p q r s = grind (arith, ints)

less_sum : (a b c d : ℤ) → c ≤ℤ a → a ≤ℤ (c +ℤ pos 1) → d ≤ℤ b → b ≤ℤ (d +ℤ pos 1)
    → less (a +ℤ c) (b +ℤ d) ≡ less a b +ℤ less c d
less_sum a b c d p q r s = grind (arith, ints)

pub greatest_sum : (u v k : Game → ℤ) (gs : List Game) → ((a : Game) → Among a gs → k a ≡ u a +ℤ v a)
    → ((a : Game) → (u a ≤ℤ v a) × (v a ≤ℤ (u a +ℤ pos 1)))
    → greatest (map k gs) ≡ greatest (map u gs) +ℤ greatest (map v gs)
greatest_sum u v k [] h b = refl
greatest_sum u v k (g ∷ []) h b = h g (inl refl)
greatest_sum u v k (g ∷ (i ∷ is)) h b =
    let r = greatest_sum u v k (i ∷ is) (λ a m. h a (inr m)) b in
    let o = greatest_up u v (i ∷ is) b in
    ap (λ z. greater z (greatest (map k (i ∷ is)))) (h g (inl refl)) ∙ ap (λ z. greater (u g +ℤ v g) z) r
    ∙ greater_sum (u g) (greatest (map u (i ∷ is))) (v g) (greatest (map v (i ∷ is))) (b g).0 (b g).1 o.0 o.1

pub least_sum : (u v k : Game → ℤ) (gs : List Game) → ((a : Game) → Among a gs → k a ≡ u a +ℤ v a)
    → ((a : Game) → (v a ≤ℤ u a) × (u a ≤ℤ (v a +ℤ pos 1)))
    → least (map k gs) ≡ least (map u gs) +ℤ least (map v gs)
least_sum u v k [] h b = refl
least_sum u v k (g ∷ []) h b = h g (inl refl)
least_sum u v k (g ∷ (i ∷ is)) h b =
    let r = least_sum u v k (i ∷ is) (λ a m. h a (inr m)) b in
    let o = least_down u v (i ∷ is) b in
    ap (λ z. less z (least (map k (i ∷ is)))) (h g (inl refl)) ∙ ap (λ z. less (u g +ℤ v g) z) r
    ∙ less_sum (u g) (least (map u (i ∷ is))) (v g) (least (map v (i ∷ is))) (b g).0 (b g).1 o.0 o.1
