-- Members in the middle of lists, and lists without repetitions, which are no longer than lists that have all their members.
use Rattle.std.proofs.Common.{◌≡◌, refl, ◌≤◌, suc, ◌⊎◌, inl, inr, List, [], ◌∷◌, ◌++◌, length, ap, sym, subst, arith}
use Rattle.cg_form.specs.Firsts.{EachOnce}
use Rattle.cg_form.proofs.Firsts.{in-append, in-append_left, in-append_right, extended-among, extended-has, extended-once}
use Rattle.cg_moves.specs.Rules.{In}
use Rattle.cg_moves.specs.Grid.{Grid}
use Rattle.cg_moves.specs.Kept.{kept}
use Rattle.cg_moves.proofs.Same.{boards}

module _ {X : Type 0} where
  pub record Middle (x : X) (xs : List X) : Type 0 where
    pub before : List X
    pub behind : List X
    pub cut : xs ≡ before ++ (x ∷ behind)

  pub in-middle : (x : X) (xs : List X) → In x xs → Middle x xs
  in-middle x [] m = absurd m
  in-middle x (y ∷ xs) (inl e) = record { before = []; behind = xs; cut = ap (λ z. z ∷ xs) (sym e) }
  in-middle x (y ∷ xs) (inr m) = let w = in-middle x xs m in record {
    before = y ∷ w.before;
    behind = w.behind;
    cut = ap (λ z. y ∷ z) w.cut;
  }

  pub middle-in : (x y : X) (us vs : List X) → In x (us ++ (y ∷ vs)) → (x ≡ y) ⊎ In x (us ++ vs)
  middle-in x y us vs m = elim (in-append x us (y ∷ vs) m) [
    | inl i ↦ inr (in-append_left x us vs i)
    | inr (inl e) ↦ inl e
    | inr (inr i) ↦ inr (in-append_right x us vs i)
  ]

  pub in_middle : (x y : X) (us vs : List X) → In x (us ++ vs) → In x (us ++ (y ∷ vs))
  in_middle x y us vs m = elim (in-append x us vs m) [
    | inl i ↦ in-append_left x us (y ∷ vs) i
    | inr i ↦ in-append_right x us (y ∷ vs) (inr i)
  ]

  length-middle : (us : List X) (x : X) (vs : List X) → length (us ++ (x ∷ vs)) ≡ suc (length (us ++ vs))
  length-middle [] x vs = refl
  length-middle (u ∷ us) x vs = let h = length-middle us x vs in omega arith

-- different members of a list, each with a member of its own in the other list
pub no-more : {X Y : Type 0} (f : X → Y) (xs : List X) (ys : List Y) → EachOnce xs → ((x : X) → In x xs → In (f x) ys)
    → ((x y : X) → In x xs → In y xs → f x ≡ f y → x ≡ y) → length xs ≤ length ys
no-more f [] ys d into same = omega arith
no-more {X} {Y} f (x ∷ xs) ys d into same =
    let w = in-middle (f x) ys (into x (inl refl)) in
    let h = no-more f xs (w.before ++ w.behind) d.1
    (λ k i. elim (middle-in (f k) (f x) w.before w.behind (subst (λ (z : List Y). In (f k) z) w.cut (into k (inr i)))) [
      | inl e ↦ absurd (d.0 (subst (λ (z : X). In z xs) (same k x (inr i) (inl refl) e) i))
      | inr m ↦ m
    ])
    (λ k l i j e. same k l (inr i) (inr j) e) in
    let e = length-middle w.before (f x) w.behind in
    let c = ap length w.cut in
    omega arith

-- boards that are all among others are no more than those
pub kept-fewer_kept : (xs ys : List Grid) → ((q : Grid) → In q xs → In q ys) → length (kept [] xs) ≤ length (kept [] ys)
kept-fewer_kept xs ys among = no-more (λ q. q) (kept [] xs) (kept [] ys) (extended-once boards [] xs tt) (λ q m. elim (extended-among boards [] xs q m) [
  | inl nothing ↦ absurd nothing
  | inr one ↦ extended-has boards [] ys q (among q one)
]) (λ p q m n e. e)
