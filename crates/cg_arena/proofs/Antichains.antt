-- The best of two lists of indexes, in neither of which two games are comparable.
use Rattle.std.proofs.Common.{◌≡◌, refl, ℕ, ◌+◌, ◌<◌, ◌≤◌, arith, ap, sym, ◌∙◌, subst, inl, inr, List, [], ◌∷◌}
use Rattle.std.proofs.Common.{◌++◌, take, drop, min, get_or, length, Bool, true, false, not, cond, Option, Some}
use Rattle.std.specs.List.{All, Contains}
use Rattle.std.proofs.lemmas.List.{append-nil, append_assoc, drop-map, drop_all, get_or-map, get_or-take}
use Rattle.std.proofs.lemmas.List.{length-map, length-take-le, map-append, take_all, take_more}
use Rattle.std.proofs.lemmas.Bool.{cases_lt}
use Rattle.std.proofs.lemmas.List.Elements.{All-contains, All-nil, All-push, All-weaker, Contains-append_left, Contains-append_right, Contains-get_or}
use Rattle.cg_form.specs.Best.{keep}
use Rattle.cg_form.specs.Game.{Among, Game}
use Rattle.cg_form.specs.Order.{Le, no_one}
use Rattle.cg_form.specs.Side.{AtMost, at_most}
use Rattle.cg_form.proofs.Among.{among-append, among-append_left, among-append_right}
use Rattle.cg_form.proofs.Sides.{side_refl}
use Rattle.cg_arena.specs.Arena.{game_of, games_of}
use Rattle.cg_arena.specs.declared.terms.FirstTerm.{FirstTerm}
use Rattle.cg_arena.specs.Terms.{ApartByTerm, NoneComparable, NoneComparableByTerm, count_for}
use Rattle.cg_arena.specs.Undominated.{Undominated}
use Rattle.cg_arena.proofs.Keeping.{games_take_more, take_none}
use Rattle.cg_arena.proofs.Slices.{games_pushed, member_of}
use Rattle.cg_arena.proofs.Undominating.{apart_of, terms_put, terms_same, undominated_same_games}

-- so far the firsts up to i were compared with the seconds: rest is what is left of these, own what stays of those
pub record SoFar (gs : List Game) (left : Bool) (firsts seconds rest own : List ℕ) (i : ℕ) : Type 0 where
  pub own_are : All (Contains (take i firsts)) own
  pub undominated : Undominated left (games_of gs seconds ++ games_of gs (take i firsts)) (games_of gs rest ++ games_of gs own)

pub so_far_none : (gs : List Game) (left : Bool) (firsts seconds rest own : List ℕ) → NoneComparable (games_of gs seconds)
    → rest ≡ seconds → own ≡ [] → SoFar gs left firsts seconds rest own 0
so_far_none gs left firsts seconds rest own none e f =
    let ss = games_of gs seconds in
    let P : List ℕ → Type 0 = λ z. SoFar gs left firsts seconds z own 0 in
    let Q : List ℕ → Type 0 = λ z. SoFar gs left firsts seconds seconds z 0 in
    let R : List Game → Type 0 = λ z. Undominated left z (ss ++ []) in
    let S : List Game → Type 0 = λ z. Undominated left ss z in
    subst P (sym e) (subst Q (sym f) (record {
      own_are = All-nil (Contains (take 0 firsts));
      undominated = subst R (sym (ap (λ z. ss ++ games_of gs z) (take_none firsts) ∙ append-nil ss)) (subst S (sym (append-nil ss))
          (record { inside = λ x m. m; top = λ x m. (x, m, side_refl left x); apart = apart_of ss none }));
    }))

sides : (s : Bool) (c d : Game) → ¬ Le c d → ¬ Le d c → (¬ AtMost s c d) × (¬ AtMost s d c)
sides true c d a b = (a, b)
sides false c d a b = (b, a)

-- the next of the firsts is comparable with none of its own that stay
next_apart : (gs : List Game) (left : Bool) (firsts own : List ℕ) (i : ℕ) → NoneComparable (games_of gs firsts) → i < length firsts
    → All (Contains (take i firsts)) own → (c : Game) → Among c (games_of gs own)
    → (¬ AtMost left c (game_of gs (get_or firsts i 0))) × (¬ AtMost left (game_of gs (get_or firsts i 0)) c)
next_apart gs left firsts own i none l a c m =
    let (q, there, e) = member_of gs own c m in
    let (j, k, same) = All-contains (Contains (take i firsts)) own q a there in
    let d = game_of gs (get_or firsts i 0) in
    let count = length-map firsts (game_of gs) in
    let taken = length-take-le i firsts (omega (arith, l)) in
    let before : j < i = omega (arith, k, taken) in
    let at : get_or (games_of gs firsts) i d ≡ d = get_or-map (game_of gs) firsts i 0 d l in
    let to : get_or (games_of gs firsts) j d ≡ c =
    get_or-map (game_of gs) firsts j q d (omega (arith, before, l)) ∙ ap (game_of gs) (sym (get_or-take i firsts j q before) ∙ same) ∙ sym e in
    let P : Game → Type 0 = λ z. ¬ Le z (get_or (games_of gs firsts) j d) in
    let Q : Game → Type 0 = λ z. ¬ Le d z in
    let S : Game → Type 0 = λ z. ¬ Le z (get_or (games_of gs firsts) i d) in
    let T : Game → Type 0 = λ z. ¬ Le c z in
    sides left c d
    (subst T at (subst S to (none.each j i d (omega (arith, count, before, l)) (omega (arith, count, l)) (λ f. omega (arith, before, f)))))
    (subst Q to (subst P at (none.each i j d (omega (arith, count, l)) (omega (arith, count, before, l)) (λ f. omega (arith, before, f)))))

one_more : (gs : List Game) (firsts : List ℕ) (i : ℕ) (ss : List Game) → i < length firsts
    → ss ++ games_of gs (take i firsts) ++ game_of gs (get_or firsts i 0) ∷ [] ≡ ss ++ games_of gs (take (i + 1) firsts)
one_more gs firsts i ss l =
    append_assoc ss (games_of gs (take i firsts)) (game_of gs (get_or firsts i 0) ∷ [])
    ∙ ap (λ z. ss ++ z) (sym (games_take_more gs firsts i (get_or firsts i 0) l refl))

still_are : (firsts own : List ℕ) (i : ℕ) → i < length firsts → All (Contains (take i firsts)) own → All (Contains (take (i + 1) firsts)) own
still_are firsts own i l a =
    rw (take_more firsts i 0 l) (All-weaker (Contains (take i firsts)) (Contains (take i firsts ++ get_or firsts i 0 ∷ []))
    (λ x m. Contains-append_left (take i firsts) (get_or firsts i 0 ∷ []) x m) own a)

-- one of the rest is as good as the next
pub so_far_same : (gs : List Game) (left : Bool) (firsts seconds rest own : List ℕ) (i k : ℕ) → SoFar gs left firsts seconds rest own i
    → i < length firsts → k ≡ get_or firsts i 0 → no_one (at_most left (game_of gs k)) (games_of gs rest) ≡ false
    → SoFar gs left firsts seconds rest own (i + 1)
so_far_same gs left firsts seconds rest own i k h l is beaten =
    let some = ap (λ z. no_one (at_most left (game_of gs z)) (games_of gs rest)) (sym is) ∙ beaten in
    record {
      own_are = still_are firsts own i l h.own_are;
      undominated = rw (← (one_more gs firsts i (games_of gs seconds) l))
          (terms_same left (games_of gs seconds ++ games_of gs (take i firsts)) (games_of gs rest) (games_of gs own)
          (game_of gs (get_or firsts i 0)) h.undominated some);
    }

-- none is, and the rest is left without those that are at most the next
pub so_far_more : (gs : List Game) (left : Bool) (firsts seconds rest own less more : List ℕ) (i k : ℕ)
    → NoneComparable (games_of gs firsts) → SoFar gs left firsts seconds rest own i → i < length firsts → k ≡ get_or firsts i 0
    → no_one (at_most left (game_of gs k)) (games_of gs rest) ≡ true
    → games_of gs less ≡ keep (λ c. not (at_most left c (game_of gs k))) (games_of gs rest)
    → more ≡ own ++ k ∷ [] → SoFar gs left firsts seconds less more (i + 1)
so_far_more gs left firsts seconds rest own less more i k none h l is unbeaten left_over pushed =
    let p = get_or firsts i 0 in
    let best = ap (λ z. no_one (at_most left (game_of gs z)) (games_of gs rest)) (sym is) ∙ unbeaten in
    let kept = left_over ∙ ap (λ z. keep (λ c. not (at_most left c (game_of gs z))) (games_of gs rest)) is in
    let e = pushed ∙ ap (λ z. own ++ z ∷ []) is in
    let x = game_of gs p in
    let ss = games_of gs seconds in
    record {
      own_are = rw e (All-push (Contains (take (i + 1) firsts)) own p (still_are firsts own i l h.own_are)
          (rw (take_more firsts i 0 l) (Contains-append_right (take i firsts) (p ∷ []) p (Contains-get_or (p ∷ []) 0 p (omega arith)))));
      undominated = rw (← (one_more gs firsts i ss l)) (rw (games_pushed gs own more p e) (rw kept
          (terms_put left (ss ++ games_of gs (take i firsts)) (games_of gs rest) (games_of gs own) x h.undominated best
          (next_apart gs left firsts own i none l h.own_are))));
    }

-- the rest and the firsts that stay
pub so_far_all : (gs : List Game) (left : Bool) (firsts seconds rest own all : List ℕ) (i : ℕ) → SoFar gs left firsts seconds rest own i
    → length firsts ≤ i → all ≡ rest ++ own → Undominated left (games_of gs (firsts ++ seconds)) (games_of gs all)
so_far_all gs left firsts seconds rest own all i h l e =
    let ss = games_of gs seconds in
    let fs = games_of gs firsts in
    rw (ap (games_of gs) e ∙ map-append (game_of gs) rest own)
    (rw (map-append (game_of gs) firsts seconds)
    (undominated_same_games left (ss ++ fs) (fs ++ ss) (games_of gs rest ++ games_of gs own) (λ x m. swap x ss fs m) (λ x m. swap x fs ss m)
    (rw (← (take_all i firsts l)) h.undominated)))
  where
    swap : (x : Game) (us vs : List Game) → Among x (us ++ vs) → Among x (vs ++ us)
    swap x us vs m = elim (among-append x us vs m) [
      | inl k ↦ among-append_right x vs us k
      | inr k ↦ among-append_left x vs us k
    ]

-- ---- the options of a sum

pub second_apart : (gs : List Game) (n count : ℕ) (ps : List ℕ) → count ≡ min n (length ps) → NoneComparable (drop n (games_of gs ps))
    → NoneComparable (games_of gs (drop count ps))
second_apart gs n count ps e h =
    rw (← (drop-map (game_of gs) n ps ∙ ap (games_of gs) (same n count ps e))) h
  where
    same : (n count : ℕ) (ps : List ℕ) → count ≡ min n (length ps) → drop n ps ≡ drop count ps
    same n count ps e = elim (cases_lt n (length ps)) [
      | inl l ↦ (let f : n ≡ count = omega (arith, e, l) in ap (λ z. drop z ps) f)
      | inr l ↦ drop_all n ps l ∙ sym (drop_all count ps (omega (arith, e, l)))
    ]

pub own_apart : (gs : List Game) (o : Option FirstTerm) (f : FirstTerm) (left : Bool) (ls rs ps : List ℕ) (n : ℕ) → o ≡ Some f
    → ApartByTerm o (games_of gs ls) (games_of gs rs) → ps ≡ cond left ls rs → n ≡ count_for left f → NoneComparableByTerm n (games_of gs ps)
own_apart gs o f left ls rs ps n e h p q =
    let P : Option FirstTerm → Type 0 = λ z. ApartByTerm z (games_of gs ls) (games_of gs rs) in
    let Q : List ℕ → Type 0 = λ z. NoneComparableByTerm n (games_of gs z) in
    let R : ℕ → Type 0 = λ z. NoneComparableByTerm z (games_of gs (cond left ls rs)) in
    subst Q (sym p) (subst R (sym q) (by left (subst P e h)))
  where
    by : (l : Bool) → NoneComparableByTerm f.lefts (games_of gs ls) × NoneComparableByTerm f.rights (games_of gs rs)
        → NoneComparableByTerm (count_for l f) (games_of gs (cond l ls rs))
    by true k = k.0
    by false k = k.1
