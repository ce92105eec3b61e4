-- Boards that are put behind others, and what they are in their order.
use Rattle.std.proofs.Common.{◌≡◌, ◌≢◌, refl, true, ℕ, suc, ◌+◌, ◌≤◌, inl, inr, List, [], ◌∷◌, ◌++◌, length, ap, sym, ◌∙◌, subst, arith}
use Rattle.std.specs.Prelude.{All, Contains}
use Rattle.std.specs.Cmp.Lexicographic.{bytes_decides}
use Rattle.std.specs.Int.{bit_at}
use Rattle.std.specs.List.{AllByRecursion}
use Rattle.std.specs.List.Sorted.{IsPermutation, IsStrictlySortedBy}
use Rattle.std.specs.Ordering.{ordering_reverse}
use Rattle.std.specs.Cmp.{IsTotalOrder}
use Rattle.std.specs.declared.cmp.Ordering.TheVariants.{Less, Greater}
use Rattle.std.proofs.lemmas.Bool.Decides.{eqb_tells}
use Rattle.std.proofs.lemmas.Cmp.{nat_list_cmp_total}
use Rattle.std.proofs.lemmas.List.{map-append}
use Rattle.std.proofs.lemmas.List.Sorted.{All-permutation, IsPermutation-map, IsPermutation-sym}
use Rattle.cg_moves.specs.declared.player.Player.{Player}
use Rattle.cg_moves.specs.declared.player.Player.TheVariants.{Left, Right}
use Rattle.cg_moves.specs.Grid.{Grid, IsLike, with_cells}
use Rattle.cg_moves.specs.Rules.{In}
use Rattle.cg_moves.specs.Rising.{IsRising, bytes_cmp, cells_of, rising}
use Rattle.cg_form.proofs.Firsts.{in-append, in-append_left, in-append_right}
use Rattle.cg_moves.proofs.Members.{all_from, carry, in_one}
use Rattle.cg_moves.proofs.RisingLemmas.{in-rising, rising-in, rising-rises}
use Rattle.cg_amazons.specs.Amazons.{amazons, amazons_moves, blocked, empty, moves_below, queen}
use Rattle.cg_amazons.specs.MoveParts.{IsMoveBelow}
use Rattle.cg_amazons.proofs.AmazonsLaw.{below_has, below_is}
use Rattle.cg_amazons.specs.Taking.{AnyMarked, IfMarked, Takes}

-- ---- lists that rise with the same members

same-list : (xs ys : List (List ℕ)) → IsRising xs → IsRising ys → ((z : List ℕ) → In z xs → In z ys)
    → ((z : List ℕ) → In z ys → In z xs) → xs ≡ ys
unfolding IsStrictlySortedBy
same-list [] [] a b f g = refl
same-list [] (y ∷ ys) a b f g = absurd (g y (inl refl))
same-list (x ∷ xs) [] a b f g = absurd (f x (inl refl))
same-list (x ∷ xs) (y ∷ ys) a b f g =
    ap (λ z. z ∷ xs) head ∙ ap (λ zs. y ∷ zs) (same-list xs ys a.1 b.1 onto back)
  where
    at : (k : List ℕ) (zs : List (List ℕ)) (z : List ℕ) → AllByRecursion (λ y. bytes_cmp k y ≡ Less) zs → In z zs
        → bytes_cmp k z ≡ Less
    at k [] z all m = absurd m
    at k (w ∷ zs) z all (inl e) = ap (bytes_cmp k) e ∙ all.0
    at k (w ∷ zs) z all (inr m) = at k zs z all.1 m

    never : (u v : List ℕ) → bytes_cmp u v ≡ Less → bytes_cmp v u ≡ Less → ⊥
    never u v e f =
        let t : IsTotalOrder bytes_cmp = nat_list_cmp_total in
        let k : bytes_cmp u v ≡ Greater = t.antisymm u v ∙ ap ordering_reverse f in
        cc

    head : x ≡ y
    head = elim (f x (inl refl)) [
      | inl e ↦ e
      | inr m ↦ elim (g y (inl refl)) [
        | inl e ↦ sym e
        | inr k ↦ absurd (never x y (at x xs y a.0 k) (at y ys x b.0 m))
      ]
    ]

    onto : (z : List ℕ) → In z xs → In z ys
    onto z m = elim (f z (inr m)) [
      | inl e ↦ absurd (let l = at x xs z a.0 m in let same : z ≡ x = e ∙ sym head in
          let k : bytes_cmp x x ≡ Less = ap (bytes_cmp x) (sym same) ∙ l in never x x k k)
      | inr n ↦ n
    ]

    back : (z : List ℕ) → In z ys → In z xs
    back z m = elim (g z (inr m)) [
      | inl e ↦ absurd (let l = at y ys z b.0 m in let same : z ≡ y = e ∙ head in
          let k : bytes_cmp y y ≡ Less = ap (bytes_cmp y) (sym same) ∙ l in never y y k k)
      | inr n ↦ n
    ]

-- ---- what is taken in

in_all : {X : Type 0} (P : X → Type 0) (x : X) (xs : List X) → All P xs → In x xs → P x
in_all {X} P x [] all m = absurd m
in_all {X} P x (y ∷ ys) all (inl e) = subst (λ (z : X). P z) (sym e) (all 0 y (omega arith))
in_all {X} P x (y ∷ ys) all (inr m) = in_all P x ys (λ k d below. all (suc k) d (omega arith)) m

pub takes_if : (p : Grid) (old new : List Grid) (word : ℕ) (Kind : ℕ → List ℕ → Type 0) (i : ℕ) → bit_at word i ≡ 1
    → Takes p old new (Kind i) → Takes p old new (IfMarked word Kind i)
takes_if p old new word Kind i one t = record {
  like = t.like;
  kept = t.kept;
  taken = λ z k. t.taken z k.1;
  only = λ z m. elim (t.only z m) [ inl n ↦ inl n | inr k ↦ inr (one, k) ];
}

pub takes_one : (p b : Grid) (old new : List Grid) (x : List ℕ) → b ≡ with_cells p x → new ≡ old ++ (b ∷ [])
    → Takes p old new (λ z. z ≡ x)
takes_one p b old new x made put =
    rw (put ∙ ap (λ (q : Grid). old ++ (q ∷ [])) made) (record {
      like = λ all. all_from (IsLike p) (old ++ (with_cells p x ∷ [])) (λ q m. elim (in-append q old (with_cells p x ∷ []) m) [
        | inl n ↦ in_all (IsLike p) q old all n
        | inr n ↦ (rw (in_one q (with_cells p x) n) refl)
      ]);
      kept = λ z m. carry z (cells_of old ++ (x ∷ [])) (cells_of (old ++ (with_cells p x ∷ []))) (sym cells) (in-append_left z (cells_of old) (x ∷ []) m);
      taken = λ z k. carry z (cells_of old ++ (x ∷ [])) (cells_of (old ++ (with_cells p x ∷ []))) (sym cells) (in-append_right z (cells_of old) (x ∷ [])
          (inl k));
      only = λ z m. elim (in-append z (cells_of old) (x ∷ []) (carry z (cells_of (old ++ (with_cells p x ∷ []))) (cells_of old ++ (x ∷ [])) cells m)) [
        | inl n ↦ inl n
        | inr n ↦ inr (in_one z x n)
      ];
    })
  where
    cells : cells_of (old ++ (with_cells p x ∷ [])) ≡ cells_of old ++ (x ∷ [])
    cells = map-append (λ (q : Grid). q.cells) old (with_cells p x ∷ [])

-- in another order
permuted : {X : Type 0} (xs ys : List X) (x : X) → IsPermutation xs ys → In x xs → In x ys
permuted {X} xs ys x p m =
    let P : X → Type 0 = λ z. In z ys in
    in_all P x xs (All-permutation P ys xs (IsPermutation-sym xs ys p) (all_from P ys (λ z k. k))) m

pub takes_permuted : (p : Grid) (new sorted : List Grid) (Kind : List ℕ → Type 0) → IsPermutation new sorted
    → Takes p [] new Kind → Takes p [] sorted Kind
takes_permuted p new sorted Kind q t =
    let cells : IsPermutation (cells_of new) (cells_of sorted) = IsPermutation-map (λ (g : Grid). g.cells) new sorted q in record {
      like = λ none. All-permutation (IsLike p) new sorted q (t.like none);
      kept = λ z m. absurd m;
      taken = λ z k. permuted (cells_of new) (cells_of sorted) z cells (t.taken z k);
      only = λ z m. t.only z (permuted (cells_of sorted) (cells_of new) z (IsPermutation-sym (cells_of new) (cells_of sorted) cells) m);
    }

-- of a board that is like another
pub takes_like : (p : Grid) (cells : List ℕ) (old new : List Grid) (Kind : List ℕ → Type 0)
    → Takes (with_cells p cells) old new Kind → Takes p old new Kind
takes_like p cells old new Kind t = record { like = t.like; kept = t.kept; taken = t.taken; only = t.only }

-- of a kind that is the same
pub takes_same : (p : Grid) (old new : List Grid) (P Q : List ℕ → Type 0) → ((z : List ℕ) → P z → Q z)
    → ((z : List ℕ) → Q z → P z) → Takes p old new P → Takes p old new Q
takes_same p old new P Q f g t = record {
  like = t.like;
  kept = t.kept;
  taken = λ z k. t.taken z (g z k);
  only = λ z m. elim (t.only z m) [ inl n ↦ inl n | inr k ↦ inr (f z k) ];
}

pub takes_next : (p : Grid) (old now new : List Grid) (word : ℕ) (Kind : ℕ → List ℕ → Type 0) (i : ℕ)
    → Takes p old now (AnyMarked word Kind i) → Takes p now new (IfMarked word Kind i)
    → Takes p old new (AnyMarked word Kind (i + 1))
takes_next p old now new word Kind i t s = record {
  like = λ r. s.like (t.like r);
  kept = λ z m. s.kept z (t.kept z m);
  taken = taken;
  only = λ z m. elim (s.only z m) [
    | inl n ↦ elim (t.only z n) [ inl o ↦ inl o | inr k ↦ inr (earlier z k) ]
    | inr k ↦ inr (record { place = i; below = omega arith; is = k })
  ];
}
  where
    earlier : (z : List ℕ) → AnyMarked word Kind i z → AnyMarked word Kind (i + 1) z
    earlier z k = record { place = k.place; below = (let l = k.below in omega arith); is = k.is }

    taken : (z : List ℕ) → AnyMarked word Kind (i + 1) z → In z (cells_of new)
    taken z k = elim (eqb_tells k.place i) [
      | inl h ↦ s.taken z (rw (← h.1) k.is)
      | inr h ↦ s.kept z (t.taken z (record { place = k.place; below = (let l = k.below in let n = h.1 in omega arith); is = k.is }))
    ]

pub takes_all : (p : Grid) (old new : List Grid) (word : ℕ) (Kind : ℕ → List ℕ → Type 0) (i n : ℕ) → i ≡ n
    → Takes p old new (AnyMarked word Kind i) → Takes p old new (AnyMarked word Kind n)
takes_all p old new word Kind i n e t =
    rw (← e) t

-- ---- boards of the game

has-symbol : (p : Grid) (q : ℕ) → amazons.has p ≡ true → Contains (empty ∷ queen Left ∷ queen Right ∷ blocked ∷ []) q
    → Contains p.symbols q
has-symbol p q has is =
    rw ((bytes_decides p.symbols (empty ∷ queen Left ∷ queen Right ∷ blocked ∷ [])).0 has) is

pub has-empty : (p : Grid) → amazons.has p ≡ true → Contains p.symbols empty
has-empty p has = has-symbol p empty has (0, omega arith, refl)

pub has-blocked : (p : Grid) → amazons.has p ≡ true → Contains p.symbols blocked
has-blocked p has = has-symbol p blocked has (3, omega arith, refl)

pub has-queen : (player : Player) (p : Grid) (q : ℕ) → amazons.has p ≡ true → q ≡ queen player → Contains p.symbols q
has-queen player p q has e = has-symbol p q has (of player e)
  where
    of : (player : Player) → q ≡ queen player → Contains (empty ∷ queen Left ∷ queen Right ∷ blocked ∷ []) q
    of Left f = (1, omega arith, sym f)
    of Right f = (2, omega arith, sym f)

pub queen-other : (player : Player) (q : ℕ) → q ≡ queen player → q ≢ empty
queen-other Left q e f = omega (arith, e, f)
queen-other Right q e f = omega (arith, e, f)

-- all that is taken in are the moves
pub listed : (player : Player) (p : Grid) (boards : List Grid) → 1 ≤ p.columns
    → Takes p [] boards (IsMoveBelow p.columns (queen player) p.cells (length p.cells))
    → rising (cells_of boards) ≡ amazons_moves player p
listed player p boards some t =
    same-list (rising (cells_of boards)) (amazons_moves player p) (rising-rises (cells_of boards)) (rising-rises moves) onto back
  where
    moves : List (List ℕ)
    moves = moves_below p.columns (queen player) p.cells (length p.cells)

    onto : (z : List ℕ) → In z (rising (cells_of boards)) → In z (amazons_moves player p)
    onto z m = elim (t.only z (rising-in (cells_of boards) z m)) [
      | inl o ↦ absurd o
      | inr i ↦ in-rising moves z (below_has p.columns (queen player) p.cells (length p.cells) z some (omega arith) i)
    ]

    back : (z : List ℕ) → In z (amazons_moves player p) → In z (rising (cells_of boards))
    back z m =
        in-rising (cells_of boards) z
        (t.taken z (below_is p.columns (queen player) p.cells (length p.cells) z (rising-in moves z m)))

pub all_like : (player : Player) (p : Grid) (boards slice : List Grid) → slice ≡ boards
    → Takes p [] boards (IsMoveBelow p.columns (queen player) p.cells (length p.cells)) → All (IsLike p) slice
all_like player p boards slice same t =
    rw same (t.like (λ k d below. absurd (omega arith)))
