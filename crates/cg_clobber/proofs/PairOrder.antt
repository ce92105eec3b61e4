-- The moves by the first of the two cells that a move changes are in rising order.
use Rattle.std.proofs.Common.{◌≡◌, ◌≢◌, refl, ℕ, zero, suc, ◌+◌, ◌-◌, ◌%◌, ◌<◌, ◌≤◌, ◌==◌, inl, inr, nat_lt, true, List, []}
use Rattle.std.proofs.Common.{◌∷◌, ◌++◌, length, ap, sym, ◌∙◌, subst, arith, length-set, get_or-set_same, get_or-set_other}
use Rattle.std.specs.Prelude.{slice_index, slice_set}
use Rattle.std.specs.List.{AllByRecursion, flat_map}
use Rattle.std.specs.List.Sorted.{IsStrictlySortedBy}
use Rattle.std.specs.declared.cmp.Ordering.TheVariants.{Less}
use Rattle.std.proofs.Math.Nat.{eq-or-lt_of_le, mod-one}
use Rattle.std.proofs.lemmas.Bool.{eqb-true, eq-eqb, ltb-true}
use Rattle.cg_dyadic.proofs.Truth.{differ}
use Rattle.cg_moves.specs.declared.player.Player.{Player}
use Rattle.cg_moves.specs.Grid.{Grid}
use Rattle.cg_moves.specs.Rising.{IsRising, bytes_cmp, counted}
use Rattle.cg_moves.specs.Rules.{In}
use Rattle.cg_moves.proofs.Counted.{counted-below, counted-from}
use Rattle.cg_form.proofs.Firsts.{in-append}
use Rattle.cg_moves.proofs.Members.{in-flat_map}
use Rattle.cg_moves.proofs.RisingLemmas.{first-less, rises-none, rises-on}
use Rattle.cg_moves.proofs.Same.{and-true}
use Rattle.cg_clobber.specs.declared.way.Way.TheVariants.{Up, Down, Back, Forth}
use Rattle.cg_clobber.proofs.Capture.{onto}
use Rattle.cg_clobber.proofs.Cuts.{if-some, unless-none}
use Rattle.cg_clobber.specs.Moves.{captures, empty, has_stone, moves_that_way, next_cell, other, own, with_capture}
use Rattle.cg_clobber.proofs.CaptureMarks.{other-stone-inside, own-stone-inside}

-- ---- lists that rise

rest : (x : List ℕ) (xs : List (List ℕ)) → IsRising (x ∷ xs) → IsRising xs
unfolding IsStrictlySortedBy
rest x xs h = h.1

above : (x : List ℕ) (xs : List (List ℕ)) (z : List ℕ) → IsRising (x ∷ xs) → In z xs → bytes_cmp x z ≡ Less
unfolding IsStrictlySortedBy
above x xs z h m = go xs h.0 m
  where
    go : (ys : List (List ℕ)) → AllByRecursion (λ y. bytes_cmp x y ≡ Less) ys → In z ys → bytes_cmp x z ≡ Less
    go [] a n = absurd n
    go (y ∷ ys) a (inl e) = ap (bytes_cmp x) e ∙ a.0
    go (y ∷ ys) a (inr n) = go ys a.1 n

-- each of the first list is below each of the second
abbrev pub AreBelow : List (List ℕ) → List (List ℕ) → Type 0
AreBelow xs ys = (x y : List ℕ) → In x xs → In y ys → bytes_cmp x y ≡ Less

pub rises-both : (xs ys : List (List ℕ)) → IsRising xs → IsRising ys → AreBelow xs ys → IsRising (xs ++ ys)
rises-both [] ys a b below = b
rises-both (x ∷ xs) ys a b below =
    rises-on x (xs ++ ys) (λ z m. elim (in-append z xs ys m) [
      | inl k ↦ above x xs z a k
      | inr k ↦ below x z (inl refl) k
    ]) (rises-both xs ys (rest x xs a) b (λ y z m k. below y z (inr m) k))

pub rises-flat : (f : ℕ → List (List ℕ)) (i n end : ℕ) → i + n ≤ end → ((c : ℕ) → IsRising (f c))
    → ((c d : ℕ) → c < d → d < end → AreBelow (f c) (f d)) → IsRising (flat_map f (counted i n))
rises-flat f i zero end fit rise below = rises-none
rises-flat f i (suc n) end fit rise below =
    rises-both (f i) (flat_map f (counted (suc i) n)) (rise i)
    (rises-flat f (suc i) n end (omega (arith, fit)) rise below) (λ y z m k.
    let (d, l, o) = in-flat_map f z (counted (suc i) n) k in
    let low = counted-from (suc i) n d l in
    let high = counted-below (suc i) n d l in
    below i d (omega (arith, low)) (omega (arith, high, fit)) y z m o)

-- ---- what a move leaves and puts

module _ (player : Player) (p : Grid) where
  -- cells before this one are as they were, and this one has the symbol
  pub record Puts (z : List ℕ) (c s : ℕ) : Type 0 where
    pub long : length z ≡ length p.cells
    pub inside : c < length p.cells
    pub before : (k : ℕ) → k < c → slice_index z k ≡ slice_index p.cells k
    pub there : slice_index z c ≡ s

  -- the player's stone on the one cell captures on the other
  pub record Taken (i j : ℕ) (z : List ℕ) : Type 0 where
    pub is : z ≡ with_capture player p i j
    pub own_stone : slice_index p.cells i ≡ own player
    pub other_stone : slice_index p.cells j ≡ other player
    pub from_inside : i < length p.cells
    pub onto_inside : j < length p.cells

  long-is : (i j : ℕ) → length (with_capture player p i j) ≡ length p.cells
  long-is i j = length-set (slice_set p.cells i empty) j (own player) ∙ length-set p.cells i empty

  elsewhere : (i j k : ℕ) → k ≢ i → k ≢ j → slice_index (with_capture player p i j) k ≡ slice_index p.cells k
  elsewhere i j k a b =
      get_or-set_other (slice_set p.cells i empty) j k (own player) 0 b ∙ get_or-set_other p.cells i k empty 0 a

  at-from : (i j : ℕ) → i ≢ j → i < length p.cells → slice_index (with_capture player p i j) i ≡ empty
  at-from i j a l =
      get_or-set_other (slice_set p.cells i empty) j i (own player) 0 a ∙ get_or-set_same p.cells i empty 0 l

  at-onto : (i j : ℕ) → j < length p.cells → slice_index (with_capture player p i j) j ≡ own player
  at-onto i j l =
      let e = length-set p.cells i empty in
      get_or-set_same (slice_set p.cells i empty) j (own player) 0 (omega (arith, e, l))

  taken : (i j : ℕ) (z : List ℕ) → captures player p i j ≡ true → z ≡ with_capture player p i j → Taken i j z
  taken i j z f e =
      let both = and-true (has_stone p.cells i (own player)) (has_stone p.cells j (other player)) f in record {
        is = e;
        own_stone = eqb-true (slice_index p.cells i) (own player) both.0;
        other_stone = eqb-true (slice_index p.cells j) (other player) both.1;
        from_inside = own-stone-inside player p i both.0;
        onto_inside = other-stone-inside player p j both.1;
      }

  pub onward-puts : (c j : ℕ) (z : List ℕ) → c < j → Taken c j z → Puts z c empty
  onward-puts c j z l t = record {
    long = ap length t.is ∙ long-is c j;
    inside = t.from_inside;
    before = λ k h. ap (λ w. slice_index w k) t.is ∙ elsewhere c j k (omega (arith, h)) (omega (arith, h, l));
    there = ap (λ w. slice_index w c) t.is ∙ at-from c j (omega (arith, l)) t.from_inside;
  }

  pub toward-puts : (i c : ℕ) (z : List ℕ) → c < i → Taken i c z → Puts z c (own player)
  toward-puts i c z l t = record {
    long = ap length t.is ∙ long-is i c;
    inside = t.onto_inside;
    before = λ k h. ap (λ w. slice_index w k) t.is ∙ elsewhere i c k (omega (arith, h, l)) (omega (arith, h));
    there = ap (λ w. slice_index w c) t.is ∙ at-onto i c t.onto_inside;
  }

  -- ---- the moves in each way

  pub down : (c : ℕ) (z : List ℕ) → In z (moves_that_way player p c Down) → Taken c (c + p.columns) z
  down c z m =
      let (j, e, f, g) = onto player p c (next_cell Down p c) z m in
      let P : ℕ → Type 0 = λ k. Taken c k z in
      subst P (sym (if-some (nat_lt (c + p.columns) (length p.cells)) (c + p.columns) j e).1) (taken c j z f g)

  pub up : (c : ℕ) (z : List ℕ) → In z (moves_that_way player p (c + p.columns) Up) → Taken (c + p.columns) c z
  up c z m =
      let (j, e, f, g) = onto player p (c + p.columns) (next_cell Up p (c + p.columns)) z m in
      let P : ℕ → Type 0 = λ k. Taken (c + p.columns) k z in
      let h = (unless-none (nat_lt (c + p.columns) p.columns) (c + p.columns - p.columns) j e).1 in
      subst P (omega (arith, h)) (taken (c + p.columns) j z f g)

  -- there is a next column
  pub record Beside (i j : ℕ) (z : List ℕ) : Type 0 where
    pub taken : Taken i j z
    pub wide : 1 < p.columns

  pub forth : (c : ℕ) (z : List ℕ) → In z (moves_that_way player p c Forth) → Beside c (c + 1) z
  forth c z m =
      let (j, e, f, g) = onto player p c (next_cell Forth p c) z m in
      let P : ℕ → Type 0 = λ k. Taken c k z in
      let h = if-some (nat_lt (c % p.columns + 1) p.columns) (c + 1) j e in
      let l = ltb-true (c % p.columns + 1) p.columns h.0 in
      record { taken = subst P (sym h.1) (taken c j z f g); wide = omega (arith, l) }

  pub back : (c : ℕ) (z : List ℕ) → 0 < p.columns → In z (moves_that_way player p (c + 1) Back) → Beside (c + 1) c z
  back c z some m =
      let (j, e, f, g) = onto player p (c + 1) (next_cell Back p (c + 1)) z m in
      let P : ℕ → Type 0 = λ k. Taken (c + 1) k z in
      let h = unless-none ((c + 1) % p.columns == 0) (c + 1 - 1) j e in
      let k = h.1 in
      let one : p.columns ≢ 1 = λ w. (let start : (c + 1) % p.columns ≡ 0 = ap (λ n. (c + 1) % n) w ∙ mod-one (c + 1) in
      differ ((c + 1) % p.columns == 0) (eq-eqb ((c + 1) % p.columns) 0 start) h.0) in record {
        taken = subst P (omega (arith, k)) (taken (c + 1) j z f g);
        wide = omega (arith, some, one);
      }

  -- ---- which move is below

  pub lower : (c d s t : ℕ) (y z : List ℕ) → Puts y c s → Puts z d t → c < d → s < slice_index p.cells c → bytes_cmp y z ≡ Less
  lower c d s t y z a b l less =
      let long = a.long in
      let also = b.long in
      let inside = a.inside in
      let here = a.there in
      let there = b.before c l in
      first-less y z c (omega (arith, long, inside)) (omega (arith, also, inside))
      (λ k h. a.before k h ∙ sym (b.before k (omega (arith, h, l)))) (omega (arith, here, there, less))

  pub higher : (c d s t : ℕ) (y z : List ℕ) → Puts y c s → Puts z d t → d < c → slice_index p.cells d < t → bytes_cmp y z ≡ Less
  higher c d s t y z a b l less =
      let long = a.long in
      let also = b.long in
      let inside = b.inside in
      let here = a.before d l in
      let there = b.there in
      first-less y z d (omega (arith, long, inside)) (omega (arith, also, inside))
      (λ k h. a.before k (omega (arith, h, l)) ∙ sym (b.before k h)) (omega (arith, here, there, less))

  pub same-first : (c s t : ℕ) (y z : List ℕ) → Puts y c s → Puts z c t → s < t → bytes_cmp y z ≡ Less
  same-first c s t y z a b less =
      let long = a.long in
      let also = b.long in
      let inside = a.inside in
      let here = a.there in
      let there = b.there in
      first-less y z c (omega (arith, long, inside)) (omega (arith, also, inside))
      (λ k h. a.before k h ∙ sym (b.before k h)) (omega (arith, here, there, less))

  -- two moves that leave and put the same up to the next cell
  pub next-less : (c : ℕ) (y z : List ℕ) (s : ℕ) → Puts y c s → Puts z c s → c + 1 < length p.cells
      → slice_index y (c + 1) < slice_index z (c + 1) → bytes_cmp y z ≡ Less
  next-less c y z s a b inside less =
      let long = a.long in
      let also = b.long in
      first-less y z (c + 1) (omega (arith, long, inside)) (omega (arith, also, inside)) (λ k h. same k h) less
    where
      last : (k : ℕ) → k < c + 1 → k ≤ c
      last k h = omega (arith, h)

      same : (k : ℕ) → k < c + 1 → slice_index y k ≡ slice_index z k
      same k h = elim (eq-or-lt_of_le (last k h)) [
        | inl e ↦ ap (slice_index y) e ∙ a.there ∙ sym b.there ∙ ap (slice_index z) (sym e)
        | inr l ↦ a.before k l ∙ sym (b.before k l)
      ]

  -- the next cell after the moves down and forth, and after those back and up

  pub after-down : (c : ℕ) (y z : List ℕ) → Taken c (c + p.columns) y → Beside c (c + 1) z → slice_index y (c + 1) ≡ other player
  after-down c y z a b =
      let wide = b.wide in
      let t = b.taken in
      ap (λ w. slice_index w (c + 1)) a.is
      ∙ elsewhere c (c + p.columns) (c + 1) (omega arith) (omega (arith, wide)) ∙ t.other_stone

  pub after-forth : (c : ℕ) (z : List ℕ) → Taken c (c + 1) z → slice_index z (c + 1) ≡ own player
  after-forth c z t = ap (λ w. slice_index w (c + 1)) t.is ∙ at-onto c (c + 1) t.onto_inside

  pub after-back : (c : ℕ) (z : List ℕ) → Taken (c + 1) c z → slice_index z (c + 1) ≡ empty
  after-back c z t = ap (λ w. slice_index w (c + 1)) t.is ∙ at-from (c + 1) c (omega arith) t.from_inside

  pub after-up : (c : ℕ) (y z : List ℕ) → Beside (c + 1) c y → Taken (c + p.columns) c z → slice_index z (c + 1) ≡ own player
  after-up c y z a b =
      let wide = a.wide in
      let t = a.taken in
      ap (λ w. slice_index w (c + 1)) b.is
      ∙ elsewhere (c + p.columns) c (c + 1) (omega (arith, wide)) (omega arith) ∙ t.own_stone
