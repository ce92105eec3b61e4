-- The rows and columns that bound a set of cells.
use Rattle.std.proofs.lemmas.Bool.Decides.{nat_tests}
use Rattle.std.proofs.Common.{◌≡◌, refl, ℕ, suc, ◌+◌, ◌-◌, ◌/◌, ◌<◌, ◌≤◌, inl, inr, Bool, true, false, if◌then◌else◌}
use Rattle.std.proofs.Common.{List, [], ◌∷◌, filter, length, map, ap, sym, ◌∙◌, subst, arith, mul_comm}
use Rattle.std.proofs.Math.Nat.{mod-eq_of_lt, mul-add-mod_self_left}
use Rattle.std.proofs.lemmas.Bool.{leb-true}
use Rattle.std.proofs.lemmas.Nat.{div-mul-add}
use Rattle.cg_dyadic.proofs.Truth.{false-from, true-or-not}
use Rattle.cg_moves.specs.Grid.{Grid}
use Rattle.cg_moves.specs.Rising.{counted}
use Rattle.cg_moves.specs.Rules.{In}
use Rattle.cg_moves.proofs.Counted.{in_counted}
use Rattle.cg_moves.proofs.Members.{carry, in-map, in_mapped}
use Rattle.cg_pieces.specs.Boxes.{Box, box_of, cell_at, column_of, greatest_of, least_of, members, row_of, set_box}

-- ---- rows and columns

pub row-cell : (w a b : ℕ) → b < w → row_of w (cell_at w a b) ≡ a
row-cell w a b h = ap (λ z. (z + b) / w) (mul_comm w a) ∙ div-mul-add a w b h

pub column-cell : (w a b : ℕ) → b < w → column_of w (cell_at w a b) ≡ b
column-cell w a b h = mul-add-mod_self_left w a b ∙ mod-eq_of_lt h

pub cell-of : (w k : ℕ) → cell_at w (row_of w k) (column_of w k) ≡ k
cell-of w k = omega arith

pub same-cell : (w k l : ℕ) → row_of w k ≡ row_of w l → column_of w k ≡ column_of w l → k ≡ l
same-cell w k l e f =
    sym (cell-of w k) ∙ ap (λ z. cell_at w z (column_of w k)) e ∙ ap (cell_at w (row_of w l)) f ∙ cell-of w l

-- ---- lists

pub in-filter : (test : ℕ → Bool) (k : ℕ) (ks : List ℕ) → In k (filter test ks) → In k ks × (test k ≡ true)
in-filter test k [] m = absurd m
in-filter test k (l ∷ ks) m = elim (true-or-not (test l)) [
  | inl t ↦
      elim (rw t at m) [
        | inl e ↦ (inl e, ap test e ∙ t)
        | inr i ↦ (let h = in-filter test k ks i in (inr h.0, h.1))
      ]
  | inr f ↦
      let h = in-filter test k ks (rw (false-from (test l) f) at m) in
      (inr h.0, h.1)
]

pub filter-in : (test : ℕ → Bool) (k : ℕ) (ks : List ℕ) → In k ks → test k ≡ true → In k (filter test ks)
filter-in test k [] m t = absurd m
filter-in test k (l ∷ ks) (inl e) t =
    rw (ap test (sym e) ∙ t) (inl e)
filter-in test k (l ∷ ks) (inr m) t =
    let h = filter-in test k ks m t in
    elim (true-or-not (test l)) [
      | inl u ↦ rw u (inr h)
      | inr f ↦ rw (false-from (test l) f) h
    ]

-- ---- the least and the greatest

pub record IsEnd (R : ℕ → ℕ → Type 0) (x : ℕ) (xs : List ℕ) : Type 0 where
  pub among : In x xs
  pub each : (y : ℕ) → In y xs → R x y

module _ (R : ℕ → ℕ → Type 0) (own : (x : ℕ) → R x x) (along : (x y z : ℕ) → R x y → R y z → R x z) where
  end-one : (x : ℕ) → IsEnd R x (x ∷ [])
  end-one x = record { among = inl refl; each = λ y m. elim m [ inl e ↦ subst (R x) (sym e) (own x) | inr k ↦ absurd k ] }

  end-more : (b : Bool) (x m : ℕ) (xs : List ℕ) → IsEnd R m xs → (b ≡ true → R x m) → (b ≡ false → R m x) → IsEnd R (if b then x else m) (x ∷ xs)
  end-more true x m xs h before behind = record {
    among = inl refl;
    each = λ y i. elim i [ inl e ↦ subst (R x) (sym e) (own x) | inr k ↦ along x m y (before refl) (h.each y k) ];
  }
  end-more false x m xs h before behind = record {
    among = inr h.among;
    each = λ y i. elim i [ inl e ↦ subst (R m) (sym e) (behind refl) | inr k ↦ h.each y k ];
  }

least-is : (x : ℕ) (xs : List ℕ) → IsEnd (λ a b. a ≤ b) (least_of (x ∷ xs)) (x ∷ xs)
least-is x [] = end-one (λ a b. a ≤ b) (λ a. omega arith) (λ a b c l m. omega (arith, l, m)) x
least-is x (y ∷ ys) = grind (arith, nat_tests, end-more, leb-true, least-is y ys)

greatest-is : (x : ℕ) (xs : List ℕ) → IsEnd (λ a b. b ≤ a) (greatest_of (x ∷ xs)) (x ∷ xs)
greatest-is x [] = end-one (λ a b. b ≤ a) (λ a. omega arith) (λ a b c l m. omega (arith, l, m)) x
greatest-is x (y ∷ ys) = grind (arith, nat_tests, end-more, leb-true, greatest-is y ys)

-- ---- the box of a set

-- so many lines from the first on bound the cells of the set, by the line of each
pub record BoundsBy (line : ℕ → ℕ) (in_set : ℕ → Bool) (first many : ℕ) : Type 0 where
  pub low : (k : ℕ) → in_set k ≡ true → first ≤ line k
  pub high : (k : ℕ) → in_set k ≡ true → line k < first + many
  pub lowest : ℕ
  pub lowest_in : in_set lowest ≡ true
  pub lowest_is : line lowest ≡ first
  pub highest : ℕ
  pub highest_in : in_set highest ≡ true
  pub highest_is : suc (line highest) ≡ first + many

pub record Bounds (width : ℕ) (in_set : ℕ → Bool) (b : Box) : Type 0 where
  pub rows : BoundsBy (row_of width) in_set b.top b.rows
  pub columns : BoundsBy (column_of width) in_set b.left b.columns

bounds-by : (line : ℕ → ℕ) (in_set : ℕ → Bool) (n : ℕ) (l : ℕ) (ls : List ℕ)
    → ((k : ℕ) → in_set k ≡ true → k < n) → l ∷ ls ≡ map line (filter in_set (counted 0 n))
    → BoundsBy line in_set (least_of (l ∷ ls)) (suc (greatest_of (l ∷ ls) - least_of (l ∷ ls)))
bounds-by line in_set n l ls within e =
    let low = least-is l ls in
    let high = greatest-is l ls in
    let of : (k : ℕ) → in_set k ≡ true → In (line k) (l ∷ ls) = λ k t.
    carry _ _ _ (sym e) (in_mapped line k (filter in_set (counted 0 n))
    (filter-in in_set k (counted 0 n) (in_counted 0 n k (omega arith) (let h = within k t in omega (arith, h))) t)) in
    let (a, i, f) = in-map line (least_of (l ∷ ls)) (filter in_set (counted 0 n)) (carry _ _ _ e low.among) in
    let (c, j, h) = in-map line (greatest_of (l ∷ ls)) (filter in_set (counted 0 n)) (carry _ _ _ e high.among) in
    let order = low.each (greatest_of (l ∷ ls)) high.among in record {
      low = λ k t. low.each (line k) (of k t);
      high = λ k t. let x = high.each (line k) (of k t) in omega (arith, x, order);
      lowest = a;
      lowest_in = (in-filter in_set a (counted 0 n) i).1;
      lowest_is = sym f;
      highest = c;
      highest_in = (in-filter in_set c (counted 0 n) j).1;
      highest_is = omega (arith, h, order);
    }

bounds-list : (width : ℕ) (in_set : ℕ → Bool) (n : ℕ) (k : ℕ) (ks : List ℕ)
    → ((k : ℕ) → in_set k ≡ true → k < n) → k ∷ ks ≡ filter in_set (counted 0 n)
    → Bounds width in_set (box_of width (k ∷ ks))
unfolding box_of
bounds-list width in_set n k ks within e = record {
  rows = bounds-by (row_of width) in_set n (row_of width k) (map (row_of width) ks) within (ap (map (row_of width)) e);
  columns = bounds-by (column_of width) in_set n (column_of width k) (map (column_of width) ks) within (ap (map (column_of width)) e);
}

pub set-bounds : (p : Grid) (in_set : ℕ → Bool) (k : ℕ) → ((l : ℕ) → in_set l ≡ true → l < length p.cells)
    → in_set k ≡ true → Bounds p.columns in_set (set_box in_set p)
set-bounds p in_set k within some = go (members in_set p) refl
  where
    go : (ks : List ℕ) → ks ≡ members in_set p → Bounds p.columns in_set (box_of p.columns ks)
    go [] e =
        let h : k < 0 + length p.cells = let w = within k some in omega (arith, w) in
        absurd (rw (← e) at (filter-in in_set k (counted 0 (length p.cells))
        (in_counted 0 (length p.cells) k (omega arith) h) some))
    go (l ∷ ls) e = bounds-list p.columns in_set (length p.cells) l ls within e
