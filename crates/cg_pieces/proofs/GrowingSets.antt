-- Sets of cells in words that grow by the cells adjacent to them.
use Rattle.std.proofs.Common.{◌≡◌, ℕ, ◌+◌, ◌-◌, ◌*◌, ◌/◌, ◌%◌, ◌<◌, ◌≤◌, ◌^◌, ◌⊎◌, inl, inr, Bool, true, refl, ap, sym, ◌∙◌, arith, bit_and, bit_or, w64}
use Rattle.std.specs.Int.{bit_at}
use Rattle.std.proofs.Math.Nat.{mod-eq_of_lt}
use Rattle.std.proofs.lemmas.Bool.{eq-eqb}
use Rattle.std.proofs.lemmas.Bool.Decides.{eqb_tells, leb_tells, nat_tests}
use Rattle.std.proofs.lemmas.Nat.Bits.{bit_at-lt, bit_at_above, bit_at_and, bit_at_not, bit_at_or}
use Rattle.cg_moves.proofs.ConnectedLemmas.{or-cases, or-first, or-second}
use Rattle.cg_moves.proofs.WordBits.{shifted_back, shifted_on, shifted_on_first}
use Rattle.cg_pieces.specs.declared.field.Field.{Field}
use Rattle.cg_pieces.specs.Boxes.{column_of}
use Rattle.cg_pieces.specs.Cells.Linked.{here, step}
use Rattle.cg_pieces.specs.Neighbours.{is_below, is_beside, is_next}
use Rattle.cg_pieces.specs.Words.{IsField, IsNextBy, IsNextSet, IsWithin, JoinedIn, NextIn, is_in_column, is_in_row}
use Rattle.cg_pieces.proofs.Lines.{before-beside, below-is, beside-is, is-below, second-column}

-- ---- single bits

pub and-one : (a b i : ℕ) → bit_at a i ≡ 1 → bit_at b i ≡ 1 → bit_at (bit_and a b) i ≡ 1
and-one a b i x y = let h = bit_at_and a b i in omega (arith, h, x, y)

pub and-parts : (a b i : ℕ) → bit_at (bit_and a b) i ≡ 1 → (bit_at a i ≡ 1) × (bit_at b i ≡ 1)
and-parts a b i t =
    let h = bit_at_and a b i in
    let x = bit_at-lt a i in
    let y = bit_at-lt b i in (omega (arith, h, x, y, t), omega (arith, h, x, y, t))

pub or-left : (a b i : ℕ) → bit_at a i ≡ 1 → bit_at (bit_or a b) i ≡ 1
or-left a b i x = let h = bit_at_or a b i in let y = bit_at-lt b i in omega (arith, h, x, y)

pub or-right : (a b i : ℕ) → bit_at b i ≡ 1 → bit_at (bit_or a b) i ≡ 1
or-right a b i y = let h = bit_at_or a b i in let x = bit_at-lt a i in omega (arith, h, x, y)

pub or-parts : (a b i : ℕ) → bit_at (bit_or a b) i ≡ 1 → (bit_at a i ≡ 1) ⊎ (bit_at b i ≡ 1)
or-parts a b i t = grind (arith, nat_tests, bit_at_or, bit_at-lt, eqb_tells)

-- the words `a << by` and `a >> by`
abbrev pub moved_on : ℕ → ℕ → ℕ
moved_on a by = a * 2 ^ by % 18446744073709551616

abbrev pub moved_back : ℕ → ℕ → ℕ
moved_back a by = a / 2 ^ by

-- the word `!b`
abbrev pub other_bits : ℕ → ℕ
other_bits b = 18446744073709551615 - b

pub not-one : (b i : ℕ) → b < 2 ^ 64 → i < 64 → bit_at b i ≡ 0 → bit_at (other_bits b) i ≡ 1
not-one b i fits few z = bit_at_not w64 b i fits few ∙ ap (λ m. 1 - m) z

pub not-zero : (b i : ℕ) → b < 2 ^ 64 → i < 64 → bit_at (other_bits b) i ≡ 1 → bit_at b i ≡ 1 → ⊥
not-zero b i fits few t o = let h = bit_at_not w64 b i fits few ∙ ap (λ m. 1 - m) o in omega (arith, h, t)

pub bit-below : (a i : ℕ) → a < 2 ^ 64 → bit_at a i ≡ 1 → i < 64
bit-below a i fits t = elim (leb_tells 64 i) [
  | inl h ↦ let none = bit_at_above a 64 i fits h.1 in absurd (omega (arith, none, t))
  | inr h ↦ h.1
]

-- ---- adjacent cells

pub down-next : (w k l : ℕ) → is_below w k l ≡ true → is_next w k l ≡ true
down-next w k l t = or-first _ _ (or-first _ _ t)

up-next : (w k l : ℕ) → is_below w l k ≡ true → is_next w k l ≡ true
up-next w k l t = or-first _ _ (or-second _ _ t)

pub forth-next : (w k l : ℕ) → is_beside w k l ≡ true → is_next w k l ≡ true
forth-next w k l t = or-second _ _ (or-first _ _ t)

pub back-next : (w k l : ℕ) → is_beside w l k ≡ true → is_next w k l ≡ true
back-next w k l t = or-second _ _ (or-second _ _ t)

-- ---- the set and what is adjacent to it

module _ (f : Field) (set : ℕ) (is : IsField f) (within : IsWithin set f.cells) (open_fits : f.cells < 2 ^ 64) where
  -- the open cells of the set, and of one that is put to it
  module _ (stands : ℕ → ℕ → Bool) (beside : ℕ)
      (beside_only : (k : ℕ) → k < 64 → bit_at f.cells k ≡ 1 → bit_at beside k ≡ 1 → (bit_at set k ≡ 1) ⊎ NextIn f set k)
      (beside_all : (k l : ℕ) → bit_at set k ≡ 1 → bit_at f.cells l ≡ 1 → stands k l ≡ true → bit_at beside l ≡ 1) where
    next-by : IsNextBy f stands set (bit_and (bit_or set beside) f.cells)
    next-by = record {
      within = λ k t. (and-parts (bit_or set beside) f.cells k t).1;
      grows = λ k t. and-one (bit_or set beside) f.cells k (or-left set beside k t) (within k t);
      only = λ k t.
          let both = and-parts (bit_or set beside) f.cells k t in
          elim (or-parts set beside k both.0) [
            | inl x ↦ inl x
            | inr x ↦ beside_only k (bit-below f.cells k open_fits both.1) both.1 x
          ];
      all = λ k l s o t. and-one (bit_or set beside) f.cells l (or-right set beside l (beside_all k l s o t)) o;
    }

  -- a row with all 64 cells has none above or below it
  no-below : 64 ≤ f.columns → (k l : ℕ) → bit_at f.cells l ≡ 1 → is_below f.columns k l ≡ true → ⊥
  no-below many k l o b = grind (arith, nat_tests, below-is, bit-below)

  module _ (down up : ℕ) (down_first : (i : ℕ) → i < f.columns → bit_at down i ≡ 0)
      (down_others : (i : ℕ) → f.columns ≤ i → i < 64 → bit_at down i ≡ bit_at set (i - f.columns))
      (up_is : (i : ℕ) → bit_at up i ≡ bit_at set (i + f.columns)) where
    next-down : (k : ℕ) → k < 64 → bit_at down k ≡ 1 → NextIn f set k
    next-down k few t = elim (leb_tells f.columns k) [
      | inl h ↦ (let e : (k - f.columns) + f.columns ≡ k = let x = h.1 in omega (arith, x) in
          record {
            other = k - f.columns;
            in_set = sym (down_others k h.1 few) ∙ t;
            next = down-next f.columns (k - f.columns) k (rw e at (is-below f.columns (k - f.columns) is.wide));
          })
      | inr h ↦ let none = down_first k h.1 in absurd (omega (arith, none, t))
    ]

    next-up : (k : ℕ) → bit_at up k ≡ 1 → NextIn f set k
    next-up k t = record {
      other = k + f.columns;
      in_set = sym (up_is k) ∙ t;
      next = up-next f.columns (k + f.columns) k (is-below f.columns k is.wide);
    }

    all-down : (k l : ℕ) → bit_at set k ≡ 1 → bit_at f.cells l ≡ 1 → is_below f.columns k l ≡ true → bit_at down l ≡ 1
    all-down k l s o b = grind (arith, nat_tests, below-is, bit-below)

    all-up : (k l : ℕ) → bit_at set k ≡ 1 → is_below f.columns l k ≡ true → bit_at up l ≡ 1
    all-up k l s b = let e = below-is f.columns l k b in up_is l ∙ ap (bit_at set) (sym e) ∙ s

    column-moved : IsNextBy f (is_in_column f.columns) set (bit_and (bit_or set (bit_or down up)) f.cells)
    column-moved = next-by (is_in_column f.columns) (bit_or down up)
        (λ k few o t. elim (or-parts down up k t) [
          | inl x ↦ inr (next-down k few x)
          | inr x ↦ inr (next-up k x)
        ])
        (λ k l s o t. elim (or-cases (is_below f.columns k l) (is_below f.columns l k) t) [
          | inl a ↦ or-left down up l (all-down k l s o a)
          | inr a ↦ or-right down up l (all-up k l s a)
        ])

  -- a step of as many places as there are columns, and of none where there are 64
  pub column-set : (by : ℕ) → by ≡ f.columns % 64
      → IsNextBy f (is_in_column f.columns) set (bit_and (bit_or set (bit_or (moved_on set by) (moved_back set by))) f.cells)
  column-set by is_by = elim (leb_tells 64 f.columns) [
    | inl h ↦
        let many = h.1 in
        let most = is.few in
        let all : f.columns ≡ 64 = omega (arith, many, most) in
        let none : by ≡ 0 = is_by ∙ ap (λ w. w % 64) all in
        let stays : (k : ℕ) → k - by ≡ k = λ k. omega (arith, none) in
        let stays_too : (k : ℕ) → k + by ≡ k = λ k. omega (arith, none) in
        next-by (is_in_column f.columns) (bit_or (moved_on set by) (moved_back set by))
        (λ k few o t. inl (elim (or-parts (moved_on set by) (moved_back set by) k t) [
          | inl x ↦ ap (bit_at set) (sym (stays k)) ∙ sym (shifted_on set by k (omega (arith, none)) few) ∙ x
          | inr x ↦ ap (bit_at set) (sym (stays_too k)) ∙ sym (shifted_back set by k) ∙ x
        ]))
        (λ k l s o t. elim (or-cases (is_below f.columns k l) (is_below f.columns l k) t) [
          | inl a ↦ absurd (no-below many k l o a)
          | inr a ↦ absurd (no-below many l k (within k s) a)
        ])
    | inr h ↦
        let few = h.1 in
        let same : by ≡ f.columns = is_by ∙ mod-eq_of_lt few in
        column-moved (moved_on set by) (moved_back set by)
        (λ i l. shifted_on_first set by i (omega (arith, l, same)) (omega (arith, few, same)))
        (λ i l m. shifted_on set by i (omega (arith, l, same)) m ∙ ap (λ w. bit_at set (i - w)) same)
        (λ i. shifted_back set by i ∙ ap (λ w. bit_at set (i + w)) same)
  ]

  module _ (on back : ℕ) (first_fits : f.first_column < 2 ^ 64) (on_first : (i : ℕ) → i < 1 → bit_at on i ≡ 0)
      (on_others : (i : ℕ) → 1 ≤ i → i < 64 → bit_at on i ≡ bit_at set (i - 1))
      (back_is : (i : ℕ) → bit_at back i ≡ bit_at (bit_and set (other_bits f.first_column)) (i + 1)) where
    abbrev forth : ℕ
    forth = bit_and on (other_bits f.first_column)

    next-forth : (k : ℕ) → k < 64 → bit_at f.cells k ≡ 1 → bit_at forth k ≡ 1 → NextIn f set k
    next-forth k few o t =
        let both = and-parts on (other_bits f.first_column) k t in
        let some : ¬ (column_of f.columns k ≡ 0) = λ z. not-zero f.first_column k first_fits few both.1 (is.starts k o z) in
        elim (leb_tells 1 k) [
          | inl h ↦ record {
            other = k - 1;
            in_set = sym (on_others k h.1 few) ∙ both.0;
            next = forth-next f.columns (k - 1) k (before-beside f.columns k is.wide some);
          }
          | inr h ↦ let none = on_first k h.1 in let one = both.0 in absurd (omega (arith, none, one))
        ]

    next-back : (k : ℕ) → bit_at back k ≡ 1 → NextIn f set k
    next-back k t =
        let both = and-parts set (other_bits f.first_column) (k + 1) (sym (back_is k) ∙ t) in
        let o = within (k + 1) both.0 in
        let few = bit-below f.cells (k + 1) open_fits o in
        let some : ¬ (column_of f.columns (k + 1) ≡ 0) =
        λ z. not-zero f.first_column (k + 1) first_fits few both.1 (is.starts (k + 1) o z) in
        let e : (k + 1) - 1 ≡ k = omega arith in
        record {
          other = k + 1;
          in_set = both.0;
          next = back-next f.columns (k + 1) k (rw e at (before-beside f.columns (k + 1) is.wide some));
        }

    all-forth : (k l : ℕ) → bit_at set k ≡ 1 → bit_at f.cells l ≡ 1 → is_beside f.columns k l ≡ true → bit_at forth l ≡ 1
    all-forth k l s o b =
        let e = beside-is f.columns k l b in
        let c = second-column f.columns k l b in
        let few = bit-below f.cells l open_fits o in
        let same : l - 1 ≡ k = omega (arith, e) in
        let none = is.others l o (λ z. omega (arith, c, z)) in
        and-one on (other_bits f.first_column) l
        (on_others l (omega (arith, e)) few ∙ ap (bit_at set) same ∙ s) (not-one f.first_column l first_fits few none)

    all-back : (k l : ℕ) → bit_at set k ≡ 1 → is_beside f.columns l k ≡ true → bit_at back l ≡ 1
    all-back k l s b = grind (arith, nat_tests, beside-is, second-column, bit-below, and-one, not-one)

    pub row-set : IsNextBy f (is_in_row f.columns) set (bit_and (bit_or set (bit_or forth back)) f.cells)
    row-set = next-by (is_in_row f.columns) (bit_or forth back)
        (λ k few o t. elim (or-parts forth back k t) [
          | inl x ↦ inr (next-forth k few o x)
          | inr x ↦ inr (next-back k x)
        ])
        (λ k l s o t. elim (or-cases (is_beside f.columns k l) (is_beside f.columns l k) t) [
          | inl a ↦ or-left forth back l (all-forth k l s o a)
          | inr a ↦ or-right forth back l (all-back k l s a)
        ])

-- first by columns, then by rows
pub next-set : (f : Field) (set tall more : ℕ) → IsNextBy f (is_in_column f.columns) set tall
    → IsNextBy f (is_in_row f.columns) tall more → IsNextSet f set more
next-set f set tall more a b = record {
  within = b.within;
  grows = λ k t. b.grows k (a.grows k t);
  only = λ k t. elim (b.only k t) [
    | inl x ↦ from k x
    | inr x ↦
        let (l, s, j) = from x.other x.in_set in (
          l,
          s,
          step x.other k j (eq-eqb (bit_at f.cells x.other) 1 (a.within x.other x.in_set))
              (eq-eqb (bit_at f.cells k) 1 (b.within k t)) x.next,
        )
  ];
  all = λ k l s o t. elim (or-cases (is_in_column f.columns k l) (is_in_row f.columns k l) t) [
    | inl x ↦ b.grows l (a.all k l s o x)
    | inr x ↦ b.all k l (a.grows k s) o x
  ];
}
  where
    from : (k : ℕ) → bit_at tall k ≡ 1 → (l : ℕ) × (bit_at set l ≡ 1) × JoinedIn f l k
    from k t = elim (a.only k t) [
      | inl x ↦ (k, x, here k refl)
      | inr x ↦ (
        x.other,
        x.in_set,
        step x.other k (here x.other refl)
            (eq-eqb (bit_at f.cells x.other) 1 (a.within x.other (a.grows x.other x.in_set)))
            (eq-eqb (bit_at f.cells k) 1 (a.within k t)) x.next,
      )
    ]
