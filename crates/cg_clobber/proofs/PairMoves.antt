-- The moves by the first of the two cells that a move changes are the moves.
use Rattle.std.proofs.Common.{◌≡◌, refl, ℕ, zero, suc, ◌+◌, ◌-◌, ◌%◌, ◌<◌, inl, inr, if◌then◌else◌, Some, None, List, [], ◌++◌, length, ap, subst, arith}
use Rattle.std.specs.List.{flat_map}
use Rattle.std.proofs.Math.Nat.{zero-mod}
use Rattle.std.proofs.lemmas.Bool.{eq-eqb, lt-ltb}
use Rattle.std.proofs.lemmas.Bool.Decides.{leb_tells}
use Rattle.cg_moves.specs.declared.player.Player.{Player}
use Rattle.cg_moves.specs.declared.player.Player.TheVariants.{Left, Right}
use Rattle.cg_moves.specs.Grid.{Grid}
use Rattle.cg_moves.specs.Rising.{counted, rising}
use Rattle.cg_moves.specs.Rules.{In}
use Rattle.cg_moves.proofs.Counted.{counted-below, in_counted}
use Rattle.cg_form.proofs.Firsts.{in-append, in-append_left, in-append_right}
use Rattle.cg_moves.proofs.Members.{carry, in-flat_map, in_flat_mapped}
use Rattle.cg_moves.proofs.Same.{and-true}
use Rattle.cg_moves.proofs.SameMembers.{HasAll, rising-same}
use Rattle.cg_clobber.specs.declared.way.Way.{Way}
use Rattle.cg_clobber.specs.declared.way.Way.TheVariants.{Up, Down, Back, Forth}
use Rattle.cg_clobber.proofs.Capture.{onto}
use Rattle.cg_clobber.specs.Moves.{has_stone, moves_at, moves_onto, moves_that_way, next_cell, other, own, ways}
use Rattle.cg_clobber.specs.Pairs.{by_pairs, onward, paired, toward, toward_back}
use Rattle.cg_clobber.proofs.CaptureMarks.{own-stone-inside}

pub left-onward : (player : Player) (p : Grid) (c : ℕ) → player ≡ Left
    → onward player p c ≡ moves_that_way player p c Down ++ moves_that_way player p c Forth
left-onward Left p c e = refl
left-onward Right p c e = absurd (cc)

pub right-onward : (player : Player) (p : Grid) (c : ℕ) → player ≡ Right
    → onward player p c ≡ moves_that_way player p c Forth ++ moves_that_way player p c Down
right-onward Left p c e = absurd (cc)
right-onward Right p c e = refl

module _ (player : Player) (p : Grid) where
  abbrev cells : List ℕ
  cells = counted 0 (length p.cells)

  abbrev all : List (List ℕ)
  all = flat_map (moves_at player p) cells

  in-ways : (way : Way) → In way ways
  in-ways Up = inl refl
  in-ways Down = inr (inl refl)
  in-ways Back = inr (inr (inl refl))
  in-ways Forth = inr (inr (inr (inl refl)))

  -- ---- each of them is a move

  way-move : (i : ℕ) (way : Way) → HasAll (moves_that_way player p i way) all
  way-move i way z m =
      let (j, n, f, e) = onto player p i (next_cell way p i) z m in
      let both = and-true (has_stone p.cells i (own player)) (has_stone p.cells j (other player)) f in
      let below = own-stone-inside player p i both.0 in
      in_flat_mapped (moves_at player p) z i cells (in_counted 0 (length p.cells) i (omega arith) (omega (arith, below)))
      (in_flat_mapped (moves_that_way player p i) z way ways (in-ways way) m)

  onward-parts : (c : ℕ) → HasAll (onward player p c) all
  onward-parts c z m = go player refl m
    where
      go : (q : Player) → q ≡ player → In z (onward q p c) → In z all
      go Left e k = elim (in-append z (moves_that_way Left p c Down) (moves_that_way Left p c Forth) k) [
        | inl x ↦ way-move c Down z (let P : Player → Type 0 = λ w. In z (moves_that_way w p c Down) in subst P e x)
        | inr x ↦ way-move c Forth z (let P : Player → Type 0 = λ w. In z (moves_that_way w p c Forth) in subst P e x)
      ]
      go Right e k = elim (in-append z (moves_that_way Right p c Forth) (moves_that_way Right p c Down) k) [
        | inl x ↦ way-move c Forth z (let P : Player → Type 0 = λ w. In z (moves_that_way w p c Forth) in subst P e x)
        | inr x ↦ way-move c Down z (let P : Player → Type 0 = λ w. In z (moves_that_way w p c Down) in subst P e x)
      ]

  toward-parts : (c : ℕ) → HasAll (toward player p c) all
  toward-parts c z m =
      elim (in-append z (moves_that_way player p (c + 1) Back) (moves_that_way player p (c + p.columns) Up) m) [
        | inl x ↦ way-move (c + 1) Back z x
        | inr x ↦ way-move (c + p.columns) Up z x
      ]

  -- ---- each move is one of them

  in-onward_down : (c : ℕ) → HasAll (moves_that_way player p c Down) (onward player p c)
  in-onward_down c z m = go player m
    where
      go : (q : Player) → In z (moves_that_way q p c Down) → In z (onward q p c)
      go Left k = in-append_left z (moves_that_way Left p c Down) (moves_that_way Left p c Forth) k
      go Right k = in-append_right z (moves_that_way Right p c Forth) (moves_that_way Right p c Down) k

  in-onward_forth : (c : ℕ) → HasAll (moves_that_way player p c Forth) (onward player p c)
  in-onward_forth c z m = go player m
    where
      go : (q : Player) → In z (moves_that_way q p c Forth) → In z (onward q p c)
      go Left k = in-append_right z (moves_that_way Left p c Down) (moves_that_way Left p c Forth) k
      go Right k = in-append_left z (moves_that_way Right p c Forth) (moves_that_way Right p c Down) k

  -- the first of the two cells
  record HasFirst (z : List ℕ) : Type 0 where
    cell : ℕ
    inside : cell < length p.cells
    moves : In z (paired player p cell)

  back-first : (i : ℕ) (z : List ℕ) → i < length p.cells → In z (moves_that_way player p i Back) → HasFirst z
  back-first zero z below m =
      let start : 0 % p.columns ≡ 0 = zero-mod p.columns in
      let none : next_cell Back p 0 ≡ None =
      ap (λ t. if t then None else Some (0 - 1)) (eq-eqb (0 % p.columns) 0 start) in
      absurd (carry z (moves_that_way player p 0 Back) [] (ap (moves_onto player p 0) none) m)
  back-first (suc k) z below m =
      let e : suc k ≡ k + 1 = omega arith in
      let P : ℕ → Type 0 = λ w. In z (moves_that_way player p w Back) in record {
        cell = k;
        inside = omega (arith, below);
        moves = in-append_right z (onward player p k) (toward player p k)
            (in-append_left z (moves_that_way player p (k + 1) Back) (moves_that_way player p (k + p.columns) Up)
            (subst P e m));
      }

  up-first : (i : ℕ) (z : List ℕ) → i < length p.cells → In z (moves_that_way player p i Up) → HasFirst z
  up-first i z below m = elim (leb_tells p.columns i) [
    | inl h ↦
        let far = h.1 in
        let c : ℕ = i - p.columns in
        let e : i ≡ c + p.columns = omega (arith, far) in
        let P : ℕ → Type 0 = λ w. In z (moves_that_way player p w Up) in record {
          cell = c;
          inside = omega (arith, below);
          moves = in-append_right z (onward player p c) (toward player p c)
              (in-append_right z (moves_that_way player p (c + 1) Back) (moves_that_way player p (c + p.columns) Up)
              (subst P e m));
        }
    | inr h ↦
        let none : next_cell Up p i ≡ None = ap (λ t. if t then None else Some (i - p.columns)) (lt-ltb i p.columns h.1) in
        absurd (carry z (moves_that_way player p i Up) [] (ap (moves_onto player p i) none) m)
  ]

  first-of : (z : List ℕ) → In z all → HasFirst z
  first-of z m =
      let (i, k, n) = in-flat_map (moves_at player p) z cells m in
      let (way, l, o) = in-flat_map (moves_that_way player p i) z ways n in
      let below : i < length p.cells = (let h = counted-below 0 (length p.cells) i k in omega (arith, h)) in
      go i way below o
    where
      go : (i : ℕ) (way : Way) → i < length p.cells → In z (moves_that_way player p i way) → HasFirst z
      go i Up below o = up-first i z below o
      go i Down below o = record {
        cell = i;
        inside = below;
        moves = in-append_left z (onward player p i) (toward player p i) (in-onward_down i z o);
      }
      go i Back below o = back-first i z below o
      go i Forth below o = record {
        cell = i;
        inside = below;
        moves = in-append_left z (onward player p i) (toward player p i) (in-onward_forth i z o);
      }

  -- ---- for each player

  cell-in : (c : ℕ) → c < length p.cells → In c cells
  cell-in c below = in_counted 0 (length p.cells) c (omega arith) (omega (arith, below))

  paired-parts : (c : ℕ) → HasAll (paired player p c) all
  paired-parts c z m = elim (in-append z (onward player p c) (toward player p c) m) [
    | inl x ↦ onward-parts c z x
    | inr x ↦ toward-parts c z x
  ]

  pub in-paired : HasAll all (flat_map (paired player p) cells)
  in-paired z m = let h = first-of z m in in_flat_mapped (paired player p) z h.cell cells (cell-in h.cell h.inside) h.moves

  pub paired-in : HasAll (flat_map (paired player p) cells) all
  paired-in z m = let (c, k, n) = in-flat_map (paired player p) z cells m in paired-parts c z n

  abbrev both : List (List ℕ)
  both = flat_map (onward player p) cells ++ flat_map (toward_back player p) cells

  pub in-both : HasAll all both
  in-both z m =
      let h = first-of z m in
      let below = h.inside in
      elim (in-append z (onward player p h.cell) (toward player p h.cell) h.moves) [
        | inl x ↦ in-append_left z (flat_map (onward player p) cells) (flat_map (toward_back player p) cells)
            (in_flat_mapped (onward player p) z h.cell cells (cell-in h.cell below) x)
        | inr x ↦
            let j : ℕ = length p.cells - 1 - h.cell in
            let e : h.cell ≡ length p.cells - 1 - j = omega (arith, below) in
            let P : ℕ → Type 0 = λ w. In z (toward player p w) in
            in-append_right z (flat_map (onward player p) cells) (flat_map (toward_back player p) cells)
            (in_flat_mapped (toward_back player p) z j cells (cell-in j (omega (arith, below))) (subst P e x))
      ]

  pub both-in : HasAll both all
  both-in z m = elim (in-append z (flat_map (onward player p) cells) (flat_map (toward_back player p) cells) m) [
    | inl x ↦ let (c, k, n) = in-flat_map (onward player p) z cells x in onward-parts c z n
    | inr x ↦ let (j, k, n) = in-flat_map (toward_back player p) z cells x in toward-parts (length p.cells - 1 - j) z n
  ]

pub pairs-moves : (player : Player) (p : Grid)
    → rising (by_pairs player p) ≡ rising (flat_map (moves_at player p) (counted 0 (length p.cells)))
pairs-moves Left p = rising-same _ _ (both-in Left p) (in-both Left p)
pairs-moves Right p = rising-same _ _ (paired-in Right p) (in-paired Right p)
