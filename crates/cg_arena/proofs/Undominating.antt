-- The best games of a list, in no order: one game more at a time.
use Rattle.std.proofs.Common.{◌≡◌, refl, ℕ, suc, ◌<◌, ◌⊎◌, inl, inr, arith, ap, sym, ◌∙◌, List, [], ◌∷◌, ◌++◌, get_or, length, Bool, true, false, not, cond}
use Rattle.std.proofs.lemmas.List.{append_assoc}
use Rattle.cg_dyadic.proofs.Truth.{differ, false-from, not_true, true-or-not}
use Rattle.cg_form.specs.Best.{Best, keep}
use Rattle.cg_form.specs.Game.{Among, Game}
use Rattle.cg_form.specs.Order.{Le, no_one}
use Rattle.cg_form.specs.Side.{AtMost, at_most}
use Rattle.cg_form.specs.Structure.{Rises}
use Rattle.cg_form.proofs.Among.{among-append, among-append_left, among-append_right}
use Rattle.cg_form.proofs.Best.{in-keep, keep-in}
use Rattle.cg_form.proofs.Order.{all-or-some, no_one-all, no_one-each}
use Rattle.cg_form.proofs.Sides.{side_refl, side_trans}
use Rattle.cg_arena.specs.Terms.{NoneComparable}
use Rattle.cg_arena.specs.Undominated.{AreApart, Undominated, with_last}

-- ---- a game at the end

pub among_last : (y x : Game) (gs : List Game) → Among y (gs ++ x ∷ []) → Among y gs ⊎ (y ≡ x)
among_last y x gs m = elim (among-append y gs (x ∷ []) m) [
  | inl k ↦ inl k
  | inr k ↦ elim k [ inl e ↦ inr e | inr j ↦ absurd j ]
]

pub keep-last : (p : Game → Bool) (gs : List Game) (g : Game) → keep p (gs ++ g ∷ []) ≡ keep p gs ++ cond (p g) (g ∷ []) []
keep-last p [] g = one (p g)
  where
    one : (b : Bool) → cond b (g ∷ []) [] ≡ [] ++ cond b (g ∷ []) []
    one true = refl
    one false = refl
keep-last p (h ∷ gs) g =
    ap (λ z. cond (p h) (h ∷ z) z) (keep-last p gs g) ∙ pull (p h) (keep p gs) (cond (p g) (g ∷ []) [])
  where
    pull : (b : Bool) (us vs : List Game) → cond b (h ∷ (us ++ vs)) (us ++ vs) ≡ cond b (h ∷ us) us ++ vs
    pull true us vs = refl
    pull false us vs = refl

-- ---- games of which no two are comparable

apart-keep : (p : Game → Bool) (gs : List Game) → AreApart gs → AreApart (keep p gs)
apart-keep p [] h = tt
apart-keep p (g ∷ gs) h = by (p g) (apart-keep p gs h.1)
  where
    by : (b : Bool) → AreApart (keep p gs) → AreApart (cond b (g ∷ keep p gs) (keep p gs))
    by true rest = (λ c m. h.0 c ((keep-in p c gs m).0), rest)
    by false rest = rest

apart-last : (gs : List Game) (x : Game) → AreApart gs → ((c : Game) → Among c gs → (¬ Le c x) × (¬ Le x c))
    → AreApart (gs ++ x ∷ [])
apart-last [] x h n = (λ c m. absurd m, tt)
apart-last (g ∷ gs) x h n = (
  λ c m. elim (among_last c x gs m) [
    | inl k ↦ h.0 c k
    | inr e ↦ (rw e (n g (inl refl)))
  ],
  apart-last gs x h.1 (λ c m. n c (inr m)),
)

sides_apart : (s : Bool) (g h : Game) → ¬ AtMost s g h → ¬ AtMost s h g → (¬ Le g h) × (¬ Le h g)
sides_apart true g h a b = (a, b)
sides_apart false g h a b = (b, a)

apart_sides : (s : Bool) (g h : Game) → (¬ Le g h) × (¬ Le h g) → ¬ AtMost s g h
apart_sides true g h a = a.0
apart_sides false g h a = a.1

-- so one of them that is at most another is the same
apart-same : (s : Bool) (gs : List Game) (a b : Game) → AreApart gs → Among a gs → Among b gs → AtMost s a b → a ≡ b
apart-same s [] a b h m n l = absurd m
apart-same s (g ∷ gs) a b h m n l = elim m [
  | inl e ↦ elim n [
    | inl f ↦ e ∙ sym f
    | inr j ↦ (absurd (apart_sides s g b (h.0 b j) (rw (← e) l)))
  ]
  | inr k ↦ elim n [
    | inl f ↦
        let q = h.0 a k in
        absurd (apart_sides s a g (q.1, q.0) (rw (← f) l))
    | inr j ↦ apart-same s gs a b h.1 k j l
  ]
]

-- lists of games of which no two at different places are comparable
pub apart_of : (gs : List Game) → NoneComparable gs → AreApart gs
apart_of [] h = tt
apart_of (g ∷ gs) h = (
  λ c m.
      let (i, l, e) = place_in gs c m in
      rw (← e) (h.each 0 (suc i) c (omega arith) (omega arith) (omega arith), h.each (suc i) 0 c (omega arith) (omega arith) (omega arith)),
  apart_of gs (record { each = λ i j d l n o. h.each (suc i) (suc j) d (omega arith) (omega arith) (λ e. o (suc_inj e)) }),
)
  where
    place_in : (gs : List Game) (c : Game) → Among c gs → (i : ℕ) × (i < length gs) × (get_or gs i c ≡ c)
    place_in [] c m = absurd m
    place_in (g ∷ gs) c (inl e) = (0, omega arith, sym e)
    place_in (g ∷ gs) c (inr m) = let (i, l, e) = place_in gs c m in (suc i, omega arith, e)

    suc_inj : {i j : ℕ} → suc i ≡ suc j → i ≡ j
    suc_inj e = omega (arith, e)

-- ---- the best

undominated_same : (s : Bool) (all undominated : List Game) (x c : Game) → Undominated s all undominated → Among c undominated → AtMost s x c
    → Undominated s (all ++ x ∷ []) undominated
undominated_same s all undominated x c b m l = record {
  inside = λ y w. among-append_left y all (x ∷ []) (b.inside y w);
  top = λ y w. elim (among_last y x all w) [
    | inl k ↦ b.top y k
    | inr e ↦ ((c, m, rw e l))
  ];
  apart = b.apart;
}

undominated_more : (s : Bool) (all undominated : List Game) (x : Game) → Undominated s all undominated → ((c : Game) → Among c undominated → ¬ AtMost s x c)
    → Undominated s (all ++ x ∷ []) (keep (λ c. not (at_most s c x)) undominated ++ x ∷ [])
undominated_more s all undominated x b n =
    let p : Game → Bool = λ c. not (at_most s c x) in
    let last : Among x (keep p undominated ++ x ∷ []) = among-append_right x (keep p undominated) (x ∷ []) (inl refl) in
    record {
      inside = λ y w. elim (among_last y x (keep p undominated) w) [
        | inl k ↦ among-append_left y all (x ∷ []) (b.inside y ((keep-in p y undominated k).0))
        | inr e ↦ among-append_right y all (x ∷ []) (inl e)
      ];
      top = λ y w. elim (among_last y x all w) [
        | inl k ↦ (let (c, i, l) = b.top y k in elim (true-or-not (at_most s c x)) [
          | inl t ↦ (x, last, side_trans s y c x l t)
          | inr t ↦ (
            c,
            among-append_left c (keep p undominated) (x ∷ []) (in-keep p c undominated i (ap not (false-from (at_most s c x) t))),
            l,
          )
        ])
        | inr e ↦ ((x, last, rw e (side_refl s x)))
      ];
      apart = apart-last (keep p undominated) x (apart-keep p undominated b.apart)
          (λ c m. sides_apart s c x (not_true (at_most s c x) ((keep-in p c undominated m).1)) (n c ((keep-in p c undominated m).0)));
    }

pub undominated_step : (s : Bool) (all undominated : List Game) (x : Game) → Undominated s all undominated → Undominated s (all ++ x ∷ [])
    (with_last s undominated x)
undominated_step s all undominated x b =
    elim (all-or-some (λ c. at_most s x c) undominated) [
      | inl each ↦ rw (no_one-all (at_most s x) undominated each)
          (undominated_more s all undominated x b (λ c m k. differ (at_most s x c) k (each c m)))
      | inr (c, m, t) ↦ rw (false-from (no_one (at_most s x) undominated)
          (λ k. differ (at_most s x c) t (no_one-each (at_most s x) undominated k c m))) (undominated_same s all undominated x c b m t)
    ]

-- ---- the list with one game more

pub with_last_put : (s : Bool) (gs : List Game) (x : Game) (r : Bool) → r ≡ no_one (at_most s x) gs → r ≡ true
    → keep (λ c. not (at_most s c x)) gs ++ x ∷ [] ≡ with_last s gs x
with_last_put s gs x r e t = sym (ap (λ z. cond z (keep (λ c. not (at_most s c x)) gs ++ x ∷ []) gs) (sym e ∙ t))

keep-all : (p : Game → Bool) (gs : List Game) → ((c : Game) → Among c gs → p c ≡ true) → keep p gs ≡ gs
keep-all p [] h = refl
keep-all p (g ∷ gs) h =
    ap (λ z. cond z (g ∷ keep p gs) (keep p gs)) (h g (inl refl)) ∙ ap (λ z. g ∷ z) (keep-all p gs (λ c m. h c (inr m)))

keep-append : (p : Game → Bool) (us vs : List Game) → ((c : Game) → Among c vs → p c ≡ true) → keep p (us ++ vs) ≡ keep p us ++ vs
keep-append p [] vs h = keep-all p vs h
keep-append p (u ∷ us) vs h =
    ap (λ z. cond (p u) (u ∷ z) z) (keep-append p us vs h) ∙ pull (p u)
  where
    pull : (b : Bool) → cond b (u ∷ (keep p us ++ vs)) (keep p us ++ vs) ≡ cond b (u ∷ keep p us) (keep p us) ++ vs
    pull true = refl
    pull false = refl

-- ---- one game more, which is comparable with none of the second list

pub terms_put : (s : Bool) (all us vs : List Game) (x : Game) → Undominated s all (us ++ vs) → no_one (at_most s x) us ≡ true
    → ((c : Game) → Among c vs → (¬ AtMost s c x) × (¬ AtMost s x c))
    → Undominated s (all ++ x ∷ []) (keep (λ c. not (at_most s c x)) us ++ (vs ++ x ∷ []))
terms_put s all us vs x b none other =
    let p : Game → Bool = λ c. not (at_most s c x) in
    rw (← (ap (λ z. z ++ x ∷ []) (keep-append p us vs (λ c m. ap not (false-from (at_most s c x) ((other c m).0))))
    ∙ append_assoc (keep p us) vs (x ∷ [])))
    (undominated_more s all (us ++ vs) x b (λ c m k. elim (among-append c us vs m) [
      | inl i ↦ differ (at_most s x c) k (no_one-each (at_most s x) us none c i)
      | inr i ↦ (other c i).1 k
    ]))

pub terms_same : (s : Bool) (all us vs : List Game) (x : Game) → Undominated s all (us ++ vs) → no_one (at_most s x) us ≡ false
    → Undominated s (all ++ x ∷ []) (us ++ vs)
terms_same s all us vs x b some =
    elim (all-or-some (λ c. at_most s x c) us) [
      | inl each ↦ absurd (differ (no_one (at_most s x) us) (no_one-all (at_most s x) us each) some)
      | inr (c, m, t) ↦ undominated_same s all (us ++ vs) x c b (among-append_left c us vs m) t
    ]

-- ---- of other lists

-- of another list of the same games
pub undominated_same_games : (s : Bool) (all other undominated : List Game) → ((x : Game) → Among x all → Among x other)
    → ((x : Game) → Among x other → Among x all) → Undominated s all undominated → Undominated s other undominated
undominated_same_games s all other undominated f g t = record {
  inside = λ x m. f x (t.inside x m);
  top = λ x m. t.top x (g x m);
  apart = t.apart;
}

-- the same games in order
pub best_of_undominated : (s : Bool) (all undominated gs : List Game) → ((x : Game) → Among x undominated → Among x gs)
    → ((x : Game) → Among x gs → Among x undominated) → Rises gs → Undominated s all undominated → Best s all gs
best_of_undominated s all undominated gs f g r t = record {
  inside = λ x m. t.inside x (g x m);
  top = λ x m. (let (c, k, l) = t.top x m in (c, f c k, l));
  apart = λ a b m n l. apart-same s undominated a b t.apart (g a m) (g b n) l;
  rises = r;
}
