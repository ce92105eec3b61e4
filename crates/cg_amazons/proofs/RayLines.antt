-- Lines of cells that are followed in words.
use Rattle.std.proofs.Common.{◌≡◌, ◌↔◌, refl, Bool, true, false, ℕ, zero, suc, ◌+◌, ◌-◌, ◌*◌, ◌<◌, ◌≤◌, ◌==◌, ◌⊎◌, inl, inr}
use Rattle.std.proofs.Common.{Option, Some, None, List, [], ◌∷◌, length, ap, sym, ◌∙◌, subst, arith, bit_and, bit_or}
use Rattle.std.specs.Prelude.{option_and_then, if◌then◌else◌, slice_index}
use Rattle.std.specs.Int.{bit_at}
use Rattle.std.specs.Option.{option_map_or}
use Rattle.std.proofs.lemmas.Bool.{eq-eqb, eqb-true}
use Rattle.std.proofs.lemmas.List.FromFn.{get_or-map-range_with_len, length-map-range_with_len}
use Rattle.std.proofs.lemmas.Nat.Bits.{bit_at-zero}
use Rattle.cg_moves.specs.Rules.{In}
use Rattle.cg_moves.specs.Words.{IsWithBit}
use Rattle.cg_amazons.specs.Amazons.{Along, Reaches, blocked, empty, is_empty, line, open_step, step}
use Rattle.cg_amazons.proofs.RayLaws.{line_has, line_is, open_has, open_is, within}
use Rattle.cg_amazons.specs.Rays.{IsBelow, IsCell, cells_of}
use Rattle.cg_amazons.specs.declared.way.Way.{Way}
use Rattle.cg_amazons.specs.declared.way.Way.TheVariants.{UpBack, Up, UpForth, Back, Forth, DownBack, Down, DownForth}
use Rattle.cg_amazons.proofs.CellBits.{and_has, and_is, no_cell, one_cell, or_is, or_left, or_right, step_below}

-- ---- cells by a word

pub long : (free n : ℕ) → length (cells_of free n) ≡ n
long free n = length-map-range_with_len (λ i. if bit_at free i == 1 then empty else blocked) 0 n

cell-of : (free n i : ℕ) → i < n → slice_index (cells_of free n) i ≡ (if bit_at free i == 1 then empty else blocked)
cell-of free n i l =
    get_or-map-range_with_len (λ i. if bit_at free i == 1 then empty else blocked) 0 n i i 0 l (omega arith)

pub free_has : (free n i : ℕ) → i < n → bit_at free i ≡ 1 → is_empty (cells_of free n) i ≡ true
free_has free n i l e =
    eq-eqb (slice_index (cells_of free n) i) empty
    (cell-of free n i l ∙ ap (λ t. if t then empty else blocked) (eq-eqb (bit_at free i) 1 e))

pub free_is : (free n i : ℕ) → is_empty (cells_of free n) i ≡ true → (i < n) × (bit_at free i ≡ 1)
free_is free n i e = (below, go (bit_at free i == 1) refl)
  where
    below : i < n
    below = let l = within (cells_of free n) i e in let k = long free n in omega arith

    go : (t : Bool) → (bit_at free i == 1) ≡ t → bit_at free i ≡ 1
    go true f = eqb-true (bit_at free i) 1 f
    go false f =
        absurd (let b : slice_index (cells_of free n) i ≡ 35 = cell-of free n i below ∙ ap (λ t. if t then empty else blocked) f in
        let a : slice_index (cells_of free n) i ≡ 46 = eqb-true (slice_index (cells_of free n) i) empty e in
        omega arith)

-- ---- the next cell, if it is free

open_one : (rows columns free word : ℕ) (way : Way) (i : ℕ) → i < rows * columns
    → IsCell word (step columns (rows * columns) way i)
    → IsCell (bit_and word free) (open_step columns (cells_of free (rows * columns)) way i)
open_one rows columns free word way i l is j = (there, back)
  where
    there : bit_at (bit_and word free) j ≡ 1 → open_step columns (cells_of free (rows * columns)) way i ≡ Some j
    there e =
        let p = and_is word free j e in
        let s : step columns (rows * columns) way i ≡ Some j = (is j).0 p.0 in
        open_has columns (cells_of free (rows * columns)) way i j
        (ap (λ n. step columns n way i) (long free (rows * columns)) ∙ s)
        (free_has free (rows * columns) j (step_below rows columns way i l j s) p.1)

    back : open_step columns (cells_of free (rows * columns)) way i ≡ Some j → bit_at (bit_and word free) j ≡ 1
    back e =
        let p = open_is (cells_of free (rows * columns)) j (step columns (length (cells_of free (rows * columns))) way i) e in
        and_has word free j
        ((is j).1 (ap (λ n. step columns n way i) (sym (long free (rows * columns))) ∙ p.0))
        (free_is free (rows * columns) j p.1).1

none-some : (j : ℕ) → ◌≡◌ {A = Option ℕ} None (Some j) → ⊥
none-some j e = cc

open_cell : (rows columns free word : ℕ) (way : Way) (here : Option ℕ) → IsBelow (rows * columns) here
    → IsCell word (option_and_then (step columns (rows * columns) way) here)
    → IsCell (bit_and word free) (option_and_then (open_step columns (cells_of free (rows * columns)) way) here)
open_cell rows columns free word way (Some i) below is = open_one rows columns free word way i (below i refl) is
open_cell rows columns free word way None below is = nothing
  where
    nothing : IsCell (bit_and word free) None
    nothing j = (λ e. (is j).0 (and_is word free j e).0, λ e. absurd (none-some j e))

open_below : (n columns free : ℕ) (way : Way) (here : Option ℕ)
    → IsBelow n (option_and_then (open_step columns (cells_of free n) way) here)
open_below n columns free way None j e = absurd cc
open_below n columns free way (Some i) j e =
    (free_is free n j (open_is (cells_of free n) j (step columns (length (cells_of free n)) way i) e).1).0

-- ---- what is left of a line

abbrev pub rest : ℕ → List ℕ → Way → ℕ → Option ℕ → List ℕ
rest columns cells way most here = option_map_or (line columns cells way most) here []

module _ (columns : ℕ) (cells : List ℕ) (way : Way) (most to : ℕ) where
  abbrev after : Option ℕ → Option ℕ
  after here = option_and_then (open_step columns cells way) here

  rest_split : (here : Option ℕ) → In to (rest columns cells way (suc most) here)
      → (after here ≡ Some to) ⊎ In to (rest columns cells way most (after here))
  rest_split None m = absurd m
  rest_split (Some i) m = go (open_step columns cells way i) m
    where
      go : (o : Option ℕ) → In to (option_map_or (λ next. next ∷ line columns cells way most next) o [])
          → (o ≡ Some to) ⊎ In to (rest columns cells way most o)
      go None m = absurd m
      go (Some next) (inl e) = inl (ap Some (sym e))
      go (Some next) (inr m) = inr m

  rest_first : (here : Option ℕ) → after here ≡ Some to → In to (rest columns cells way (suc most) here)
  rest_first None e = absurd cc
  rest_first (Some i) e = go (open_step columns cells way i) e
    where
      go : (o : Option ℕ) → o ≡ Some to → In to (option_map_or (λ next. next ∷ line columns cells way most next) o [])
      go None e = absurd cc
      go (Some next) e = inl (same next e)
        where
          same : (next : ℕ) → Some next ≡ Some to → to ≡ next
          same next e = cc

  rest_later : (here : Option ℕ) → In to (rest columns cells way most (after here))
      → In to (rest columns cells way (suc most) here)
  rest_later None m = absurd m
  rest_later (Some i) m = go (open_step columns cells way i) m
    where
      go : (o : Option ℕ) → In to (rest columns cells way most o)
          → In to (option_map_or (λ next. next ∷ line columns cells way most next) o [])
      go None m = absurd m
      go (Some next) m = inr m

-- ---- the line, followed for so many turns

pub record IsRayTo (rows columns free : ℕ) (way : Way) (cell turn at found : ℕ) : Type 0 where
  pub here : Option ℕ
  pub below : IsBelow (rows * columns) here
  pub is : IsCell at here
  pub found_in : (to : ℕ) → bit_at found to ≡ 1
      → In to (line columns (cells_of free (rows * columns)) way (rows * columns) cell)
  pub rest_in : (to : ℕ) → In to (rest columns (cells_of free (rows * columns)) way (rows * columns - turn) here)
      → In to (line columns (cells_of free (rows * columns)) way (rows * columns) cell)
  pub all : (to : ℕ) → In to (line columns (cells_of free (rows * columns)) way (rows * columns) cell)
      → (bit_at found to ≡ 1) ⊎ In to (rest columns (cells_of free (rows * columns)) way (rows * columns - turn) here)

abbrev pub Follows : ℕ → ℕ → ℕ → Way → ℕ → ℕ → Type 0
Follows rows columns free way cell found =
    (to : ℕ) → (bit_at found to ≡ 1) ↔ In to (line columns (cells_of free (rows * columns)) way (rows * columns) cell)

module _ (rows columns free : ℕ) (way : Way) (cell : ℕ) where
  abbrev cells : List ℕ
  cells = cells_of free (rows * columns)

  pub ray_starts : (at : ℕ) → cell < rows * columns → IsWithBit 0 at cell 1 → IsRayTo rows columns free way cell 0 at 0
  ray_starts at l put = record {
    here = Some cell;
    below = below;
    is = one_cell at cell put;
    found_in = λ to e. absurd (let z = bit_at-zero to in omega arith);
    rest_in = λ to m. subst (λ n. In to (line columns cells way n cell)) whole m;
    all = λ to m. inr (subst (λ n. In to (line columns cells way n cell)) (sym whole) m);
  }
    where
      whole : rows * columns - 0 ≡ rows * columns
      whole = omega arith

      below : IsBelow (rows * columns) (Some cell)
      below i e = let same : cell ≡ i = cc in omega arith

  module _ (turn at found word : ℕ) (more : turn < rows * columns) (state : IsRayTo rows columns free way cell turn at found)
      (stepped : IsCell word (option_and_then (step columns (rows * columns) way) state.here)) where
    fewer : rows * columns - turn ≡ suc (rows * columns - (turn + 1))
    fewer = omega arith

    is-there : IsCell (bit_and word free) (option_and_then (open_step columns cells way) state.here)
    is-there = open_cell rows columns free word way state.here state.below stepped

    from-rest : (to : ℕ) → In to (rest columns cells way (suc (rows * columns - (turn + 1))) state.here)
        → In to (line columns cells way (rows * columns) cell)
    from-rest to m = state.rest_in to (subst (λ n. In to (rest columns cells way n state.here)) (sym fewer) m)

    pub ray_goes : IsRayTo rows columns free way cell (turn + 1) (bit_and word free) (bit_or found (bit_and word free))
    ray_goes = record {
      here = option_and_then (open_step columns cells way) state.here;
      below = open_below (rows * columns) columns free way state.here;
      is = is-there;
      found_in = λ to e. elim (or_is found (bit_and word free) to e) [
        | inl f ↦ state.found_in to f
        | inr f ↦ from-rest to (rest_first columns cells way (rows * columns - (turn + 1)) to state.here ((is-there to).0 f))
      ];
      rest_in = λ to m. from-rest to (rest_later columns cells way (rows * columns - (turn + 1)) to state.here m);
      all = λ to m. elim (state.all to m) [
        | inl f ↦ inl (or_left found (bit_and word free) to f)
        | inr k ↦ elim (rest_split columns cells way (rows * columns - (turn + 1)) to state.here
            (subst (λ n. In to (rest columns cells way n state.here)) fewer k)) [
              | inl e ↦ inl (or_right found (bit_and word free) to ((is-there to).1 e))
              | inr r ↦ inr r
            ]
      ];
    }

    pub ray_stops : bit_and word free ≡ 0 → Follows rows columns free way cell found
    ray_stops none to = (state.found_in to, all)
      where
        over : option_and_then (open_step columns cells way) state.here ≡ None
        over = no_cell (bit_and word free) (option_and_then (open_step columns cells way) state.here) is-there none

        nothing : (o : Option ℕ) → o ≡ None → In to (rest columns cells way (rows * columns - (turn + 1)) o) → ⊥
        nothing None e m = m
        nothing (Some i) e m = cc

        no : (o : Option ℕ) → o ≡ None → o ≡ Some to → ⊥
        no o e f = cc

        all : In to (line columns cells way (rows * columns) cell) → bit_at found to ≡ 1
        all m = elim (state.all to m) [
          | inl f ↦ f
          | inr k ↦ absurd (elim (rest_split columns cells way (rows * columns - (turn + 1)) to state.here
              (subst (λ n. In to (rest columns cells way n state.here)) fewer k)) [
                | inl e ↦ no (option_and_then (open_step columns cells way) state.here) over e
                | inr r ↦ nothing (option_and_then (open_step columns cells way) state.here) over r
              ])
        ]

-- ---- all ways

module _ (rows columns free cell : ℕ) (some : 1 ≤ columns) (inside : cell < rows * columns) where
  abbrev row : List ℕ
  row = cells_of free (rows * columns)

  reach-is : (way : Way) (to : ℕ) → In to (line columns row way (rows * columns) cell) → Reaches columns row cell to
  reach-is way to m =
      let (steps, a) = line_is columns row way (rows * columns) cell to m in
      record { way = way; steps = steps; along = a }

  reach-has : (to : ℕ) → (r : Reaches columns row cell to) → In to (line columns row r.way (rows * columns) cell)
  reach-has to r =
      subst (λ n. In to (line columns row r.way n cell)) (long free (rows * columns))
      (line_has columns row r.way r.steps cell to some (let k = long free (rows * columns) in omega arith) r.along)

  pub reached_by : (a b c d e f g h : ℕ)
      → Follows rows columns free UpBack cell a → Follows rows columns free Up cell b
      → Follows rows columns free UpForth cell c → Follows rows columns free Back cell d
      → Follows rows columns free Forth cell e → Follows rows columns free DownBack cell f
      → Follows rows columns free Down cell g → Follows rows columns free DownForth cell h
      → (to : ℕ) → (bit_at (bit_or (bit_or (bit_or a b) (bit_or c d)) (bit_or (bit_or e f) (bit_or g h))) to ≡ 1)
      ↔ Reaches columns row cell to
  reached_by a b c d e f g h fa fb fc fd fe ff fg fh to = (there, λ r. back r.way (reach-has to r))
    where
      there : bit_at (bit_or (bit_or (bit_or a b) (bit_or c d)) (bit_or (bit_or e f) (bit_or g h))) to ≡ 1
          → Reaches columns row cell to
      there k = elim (or_is (bit_or (bit_or a b) (bit_or c d)) (bit_or (bit_or e f) (bit_or g h)) to k) [
        | inl k ↦ elim (or_is (bit_or a b) (bit_or c d) to k) [
          | inl k ↦ elim (or_is a b to k) [
            | inl k ↦ reach-is UpBack to ((fa to).0 k)
            | inr k ↦ reach-is Up to ((fb to).0 k)
          ]
          | inr k ↦ elim (or_is c d to k) [
            | inl k ↦ reach-is UpForth to ((fc to).0 k)
            | inr k ↦ reach-is Back to ((fd to).0 k)
          ]
        ]
        | inr k ↦ elim (or_is (bit_or e f) (bit_or g h) to k) [
          | inl k ↦ elim (or_is e f to k) [
            | inl k ↦ reach-is Forth to ((fe to).0 k)
            | inr k ↦ reach-is DownBack to ((ff to).0 k)
          ]
          | inr k ↦ elim (or_is g h to k) [
            | inl k ↦ reach-is Down to ((fg to).0 k)
            | inr k ↦ reach-is DownForth to ((fh to).0 k)
          ]
        ]
      ]

      front : bit_at (bit_or (bit_or a b) (bit_or c d)) to ≡ 1
          → bit_at (bit_or (bit_or (bit_or a b) (bit_or c d)) (bit_or (bit_or e f) (bit_or g h))) to ≡ 1
      front = or_left (bit_or (bit_or a b) (bit_or c d)) (bit_or (bit_or e f) (bit_or g h)) to

      behind : bit_at (bit_or (bit_or e f) (bit_or g h)) to ≡ 1
          → bit_at (bit_or (bit_or (bit_or a b) (bit_or c d)) (bit_or (bit_or e f) (bit_or g h))) to ≡ 1
      behind = or_right (bit_or (bit_or a b) (bit_or c d)) (bit_or (bit_or e f) (bit_or g h)) to

      back : (way : Way) → In to (line columns row way (rows * columns) cell)
          → bit_at (bit_or (bit_or (bit_or a b) (bit_or c d)) (bit_or (bit_or e f) (bit_or g h))) to ≡ 1
      back UpBack m = front (or_left (bit_or a b) (bit_or c d) to (or_left a b to ((fa to).1 m)))
      back Up m = front (or_left (bit_or a b) (bit_or c d) to (or_right a b to ((fb to).1 m)))
      back UpForth m = front (or_right (bit_or a b) (bit_or c d) to (or_left c d to ((fc to).1 m)))
      back Back m = front (or_right (bit_or a b) (bit_or c d) to (or_right c d to ((fd to).1 m)))
      back Forth m = behind (or_left (bit_or e f) (bit_or g h) to (or_left e f to ((fe to).1 m)))
      back DownBack m = behind (or_left (bit_or e f) (bit_or g h) to (or_right e f to ((ff to).1 m)))
      back Down m = behind (or_right (bit_or e f) (bit_or g h) to (or_left g h to ((fg to).1 m)))
      back DownForth m = behind (or_right (bit_or e f) (bit_or g h) to (or_right g h to ((fh to).1 m)))

-- ---- other cells that are empty at the same places

along_same : (columns : ℕ) (a b : List ℕ) (way : Way) (steps from to : ℕ) → length a ≡ length b
    → ((i : ℕ) → is_empty a i ≡ true → is_empty b i ≡ true) → Along columns a way steps from to → Along columns b way steps from to
along_same columns a b way zero from to size same e = e
along_same columns a b way (suc steps) from to size same (next, s, e, k) =
    (next, ap (λ n. step columns n way from) (sym size) ∙ s, same next e, along_same columns a b way steps next to size same k)

pub reaches_same : (columns : ℕ) (a b : List ℕ) (from to : ℕ) → length a ≡ length b
    → ((i : ℕ) → is_empty a i ≡ true → is_empty b i ≡ true) → Reaches columns a from to → Reaches columns b from to
reaches_same columns a b from to size same r =
    record { way = r.way; steps = r.steps; along = along_same columns a b r.way (suc r.steps) from to size same r.along }
