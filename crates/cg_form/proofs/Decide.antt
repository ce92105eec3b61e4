-- Whether a game equals a number is decided: every game has its cuts among all numbers.
use Rattle.std.proofs.Common.{◌≡◌, refl, ℕ, ◌<◌, arith, zero, suc, ◌⊎◌, inl, inr, ap, ◌∙◌, List, [], ◌∷◌, Bool, true, false, not, ◌&&◌, IsTrue}
use Rattle.std.specs.Prelude.{Some}
use Rattle.cg_dyadic.specs.declared.cut.Cut.{Cut}
use Rattle.cg_dyadic.specs.Cut.{is_between, within_cut}
use Rattle.cg_dyadic.specs.Number.{Number, NumberLe, number_le, whole}
use Rattle.cg_dyadic.proofs.Middle.{middle, middle_between}
use Rattle.cg_dyadic.proofs.Truth.{and_swap, and-both, and-split, false-from, not_not_is, not_true, true-or-not}
use Rattle.cg_dyadic.proofs.Values.{less-le, number_le-same, number_le-trans}
use Rattle.cg_form.specs.Cut.{AnyNumber, CutIs, CutOf, Joined, covers}
use Rattle.cg_form.specs.Game.{Among, Game, lefts, number, rights}
use Rattle.cg_form.specs.Order.{Equal, no_one}
use Rattle.cg_form.specs.Side.{at_most}
use Rattle.cg_form.specs.Simple.{FitsIn, NoNumber}
use Rattle.cg_form.specs.Size.{size}
use Rattle.cg_form.proofs.Cut.{any-closed, cut-number, cut-turned, gap-fits, gap-misses, joined_kept, joined_more, joined_taken}
use Rattle.cg_form.proofs.Integers.{no_lefts-whole, no_rights-whole}
use Rattle.cg_form.proofs.Simplicity.{equal-fits, simplicity}
use Rattle.cg_form.proofs.Size.{size-lefts, size-rights}

-- ---- whether a gap has a number

pub below_none : (p : Number) (c : Bool) (x : Number) → ¬ NumberLe x p → IsTrue (not (within_cut true p c x))
below_none p true x h = ap not (false-from (number_le x p) h)
below_none p false x h = ap (λ b. not (not b)) (less-le x p h)

pub above_none : (q : Number) (d : Bool) (x : Number) → ¬ NumberLe q x → IsTrue (not (within_cut false q d x))
above_none q true x h = ap not (false-from (number_le q x) h)
above_none q false x h = ap (λ b. not (not b)) (less-le q x h)

pub gap_decide : (p q : Number) (c d : Bool)
    → ((x : Number) × IsTrue (is_between p c q d x)) ⊎ ((x : Number) → is_between p c q d x ≡ false)
gap_decide p q c d = elim (true-or-not (is_between p c q d p)) [
  | inl t ↦ inl (p, t)
  | inr np ↦ elim (true-or-not (is_between p c q d q)) [
    | inl t ↦ inl (q, t)
    | inr nq ↦ elim (true-or-not (is_between p c q d (middle p q))) [
      | inl t ↦ inl (middle p q, t)
      | inr nm ↦ inr (λ x. false-from (is_between p c q d x) (λ k.
          let (a, b) = and-split (not (within_cut true p c x)) (not (within_cut false q d x)) k in
          elim (true-or-not (number_le x p)) [
            | inl xp ↦ np (rw (number_le-same x p xp (from_below p c x a)) at k)
            | inr xp ↦ elim (true-or-not (number_le q x)) [
              | inl qx ↦ nq (rw (number_le-same x q (from_above q d x b) qx) at k)
              | inr qx ↦
                  let m = middle_between p q (λ l. xp (number_le-trans x q p (from_above q d x b) l)) in
                  nm (and-both (not (within_cut true p c (middle p q))) (not (within_cut false q d (middle p q)))
                  (below_none p c (middle p q) m.0) (above_none q d (middle p q) m.1))
            ]
          ]))
    ]
  ]
]
  where
    from_below : (p : Number) (c : Bool) (x : Number) → IsTrue (not (within_cut true p c x)) → NumberLe p x
    from_below p true x h = less-le x p (not_true (number_le x p) h)
    from_below p false x h = not_not_is (number_le p x) h

    from_above : (q : Number) (d : Bool) (x : Number) → IsTrue (not (within_cut false q d x)) → NumberLe x q
    from_above q true x h = less-le q x (not_true (number_le q x) h)
    from_above q false x h = not_not_is (number_le x q) h

-- ---- cuts of lists that are not empty

pub record HasCut (s : Bool) (g : Game) : Type 0 where
  pub cut : Cut
  pub is : CutIs AnyNumber s cut g

pub record HasCutOf (s : Bool) (gs : List Game) : Type 0 where
  pub cut : Cut
  pub is : CutOf AnyNumber s (Some cut) gs

one : (b : Bool) → (not b && true) ≡ not b
one true = refl
one false = refl

list_cut : (s : Bool) (g : Game) (gs : List Game) → ((a : Game) → Among a (g ∷ gs) → HasCut s a) → HasCutOf s (g ∷ gs)
list_cut s g [] h = let k = h g (inl refl) in
    record { cut = k.cut; is = record { tells = λ x r. one (at_most s (number x) g) ∙ ap not (k.is.tells x r) } }
list_cut s g (f ∷ fs) h =
    let k = h g (inl refl) in
    let t = list_cut s f fs (λ a m. h a (inr m)) in
    let more : (c : Cut) → Joined s (Some t.cut) k.cut c → CutOf AnyNumber s (Some c) (g ∷ (f ∷ fs)) = λ c j. record {
      tells = λ x r.
          and_swap (not (at_most s (number x) g)) (no_one (λ a. at_most s (number x) a) (f ∷ fs))
          ∙ joined_more s x (Some t.cut) k.cut c (no_one (λ a. at_most s (number x) a) (f ∷ fs))
          (at_most s (number x) g) (t.is.tells x r) (k.is.tells x r) j;
    } in
    elim (true-or-not (covers s t.cut k.cut)) [
      | inl c ↦ record { cut = t.cut; is = more t.cut (joined_kept s t.cut k.cut c) }
      | inr n ↦ record {
        cut = k.cut;
        is =
            more k.cut (joined_taken s t.cut k.cut (false-from (covers s t.cut k.cut) n));
      }
    ]

-- ---- every game

pub record Cuts (g : Game) : Type 0 where
  pub low : HasCut true g
  pub high : HasCut false g
  pub fitting : ((x : Number) × FitsIn x g) ⊎ ((x : Number) → ¬ FitsIn x g)

number_cuts : (g : Game) (x : Number) → FitsIn x g → Cuts g
number_cuts g x f =
    let v = simplicity x g f in
    let c : Cut = record { at = v.value; closed = true } in
    record {
      low = record { cut = c; is = cut-number AnyNumber true c v.value g refl refl v.equal };
      high = record { cut = c; is = cut-number AnyNumber false c v.value g refl refl v.equal };
      fitting = inl (x, f);
    }

cuts_of : (g : Game) (ls rs : List Game) → lefts g ≡ ls → rights g ≡ rs → ((a : Game) → Among a ls → HasCut true a)
    → ((b : Game) → Among b rs → HasCut false b) → Cuts g
cuts_of g [] rs el er l r = let w = no_lefts-whole g el in number_cuts g (whole w.0) w.1
cuts_of g (a ∷ ls) [] el er l r = let w = no_rights-whole g er in number_cuts g (whole w.0) w.1
cuts_of g (a ∷ ls) (b ∷ rs) el er l r =
    let k = list_cut true a ls l in
    let h = list_cut false b rs r in
    let low : CutOf AnyNumber true (Some k.cut) (lefts g) = rw el k.is in
    let high : CutOf AnyNumber false (Some h.cut) (rights g) = rw er h.is in
    elim (gap_decide k.cut.at h.cut.at k.cut.closed h.cut.closed) [
      | inl w ↦ number_cuts g w.0 (gap-fits AnyNumber g (Some k.cut) (Some h.cut) low high w.0 tt w.1)
      | inr never ↦
          let misses : (x : Number) → ¬ FitsIn x g =
          λ x. gap-misses AnyNumber g (Some k.cut) (Some h.cut) low high (λ y p. never y) x tt in
          let c : Cut = record { at = h.cut.at; closed = not h.cut.closed } in
          let d : Cut = record { at = k.cut.at; closed = not k.cut.closed } in
          record {
            low = record {
              cut = c;
              is =
                  cut-turned AnyNumber any-closed true g h.cut c (λ x p. misses x) high
                  (record { at_same = refl; closed_not = refl });
            };
            high = record {
              cut = d;
              is =
                  cut-turned AnyNumber any-closed false g k.cut d (λ x p. misses x) low
                  (record { at_same = refl; closed_not = refl });
            };
            fitting = inr misses;
          }
    ]

pub cuts_within : (n : ℕ) (g : Game) → size g < n → Cuts g
cuts_within zero g s = absurd (omega arith)
cuts_within (suc n) g s = cuts_of g (lefts g) (rights g) refl refl
    (λ a m. let t = size-lefts g a m in (cuts_within n a (omega arith)).low)
    (λ b m. let t = size-rights g b m in (cuts_within n b (omega arith)).high)

-- a game equals a number, or none
pub number-decide : (g : Game) → ((x : Number) × Equal (number x) g) ⊎ NoNumber g
number-decide g = elim ((cuts_within (suc (size g)) g (omega arith)).fitting) [
  | inl w ↦ let v = simplicity w.0 g w.1 in inl (v.value, v.equal)
  | inr never ↦ inr (λ x e. never x (equal-fits x g e))
]
