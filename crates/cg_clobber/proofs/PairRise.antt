-- The moves are those by the first of the two cells that a move changes, in this order.
use Rattle.std.proofs.Common.{◌≡◌, ℕ, ◌+◌, ◌-◌, ◌<◌, inl, inr, Bool, true, false, if◌then◌else◌, Option, Some, None, List, [], ◌∷◌, length, ap, sym, ◌∙◌, arith}
use Rattle.std.specs.Prelude.{slice_index}
use Rattle.std.specs.List.{flat_map}
use Rattle.std.specs.declared.cmp.Ordering.TheVariants.{Less}
use Rattle.std.proofs.Math.Nat.{eq-or-lt_of_le}
use Rattle.std.proofs.lemmas.Bool.Decides.{leb_tells}
use Rattle.cg_moves.specs.declared.player.Player.{Player}
use Rattle.cg_moves.specs.declared.player.Player.TheVariants.{Left, Right}
use Rattle.cg_moves.specs.Grid.{Grid}
use Rattle.cg_moves.specs.Rising.{IsRising, bytes_cmp, counted}
use Rattle.cg_moves.specs.Rules.{In}
use Rattle.cg_form.proofs.Firsts.{in-append}
use Rattle.cg_moves.proofs.Members.{in-flat_map}
use Rattle.cg_moves.proofs.RisingLemmas.{rises-none, rises-on, rising-kept}
use Rattle.cg_clobber.specs.declared.way.Way.{Way}
use Rattle.cg_clobber.specs.declared.way.Way.TheVariants.{Up, Down, Back, Forth}
use Rattle.cg_clobber.specs.Moves.{captures, empty, moves_of, moves_onto, moves_that_way, next_cell, other, own, with_capture}
use Rattle.cg_clobber.specs.Pairs.{by_pairs, onward, paired, toward, toward_back}
use Rattle.cg_clobber.proofs.PairMoves.{pairs-moves}
use Rattle.cg_clobber.proofs.PairOrder.{Puts, Taken, after-back, after-down, after-forth, after-up, back, down, forth, higher}
use Rattle.cg_clobber.proofs.PairOrder.{lower, next-less, onward-puts, rises-both, rises-flat, same-first, toward-puts, up}

empty-less : (player : Player) → empty < own player
empty-less Left = omega arith
empty-less Right = omega arith

one-rises : (player : Player) (p : Grid) (i : ℕ) (way : Way) → IsRising (moves_that_way player p i way)
one-rises player p i way = by_cell (next_cell way p i)
  where
    by_test : (b : Bool) (x : List ℕ) → IsRising (if b then x ∷ [] else [])
    by_test true x = rises-on x [] (λ z m. absurd m) rises-none
    by_test false x = rises-none

    by_cell : (o : Option ℕ) → IsRising (moves_onto player p i o)
    by_cell None = rises-none
    by_cell (Some j) = by_test (captures player p i j) (with_capture player p i j)

module _ (p : Grid) (some : 0 < p.columns) where
  -- ---- what the moves at a cell do to it

  -- a stone of the player leaves the cell, which is the first that changes
  record Leaves (player : Player) (c : ℕ) (z : List ℕ) : Type 0 where
    puts : Puts player p z c empty
    was : slice_index p.cells c ≡ own player

  -- one moves onto it
  record Comes (player : Player) (c : ℕ) (z : List ℕ) : Type 0 where
    puts : Puts player p z c (own player)
    was : slice_index p.cells c ≡ other player

  leaves : (player : Player) (c j : ℕ) (z : List ℕ) → c < j → Taken player p c j z → Leaves player c z
  leaves player c j z l t = record { puts = onward-puts player p c j z l t; was = t.own_stone }

  comes : (player : Player) (i c : ℕ) (z : List ℕ) → c < i → Taken player p i c z → Comes player c z
  comes player i c z l t = record { puts = toward-puts player p i c z l t; was = t.other_stone }

  down-leaves : (player : Player) (c : ℕ) (z : List ℕ) → In z (moves_that_way player p c Down) → Leaves player c z
  down-leaves player c z m = leaves player c (c + p.columns) z (omega (arith, some)) (down player p c z m)

  forth-leaves : (player : Player) (c : ℕ) (z : List ℕ) → In z (moves_that_way player p c Forth) → Leaves player c z
  forth-leaves player c z m = leaves player c (c + 1) z (omega arith) (forth player p c z m).taken

  back-comes : (player : Player) (c : ℕ) (z : List ℕ) → In z (moves_that_way player p (c + 1) Back) → Comes player c z
  back-comes player c z m = comes player (c + 1) c z (omega arith) (back player p c z some m).taken

  up-comes : (player : Player) (c : ℕ) (z : List ℕ) → In z (moves_that_way player p (c + p.columns) Up) → Comes player c z
  up-comes player c z m = comes player (c + p.columns) c z (omega (arith, some)) (up player p c z m)

  onward-leaves : (player : Player) (c : ℕ) (z : List ℕ) → In z (onward player p c) → Leaves player c z
  onward-leaves Left c z m = elim (in-append z (moves_that_way Left p c Down) (moves_that_way Left p c Forth) m) [
    | inl k ↦ down-leaves Left c z k
    | inr k ↦ forth-leaves Left c z k
  ]
  onward-leaves Right c z m = elim (in-append z (moves_that_way Right p c Forth) (moves_that_way Right p c Down) m) [
    | inl k ↦ forth-leaves Right c z k
    | inr k ↦ down-leaves Right c z k
  ]

  toward-comes : (player : Player) (c : ℕ) (z : List ℕ) → In z (toward player p c) → Comes player c z
  toward-comes player c z m =
      elim (in-append z (moves_that_way player p (c + 1) Back) (moves_that_way player p (c + p.columns) Up) m) [
        | inl k ↦ back-comes player c z k
        | inr k ↦ up-comes player c z k
      ]

  -- ---- those at one cell rise

  left-onward_rises : (c : ℕ) → IsRising (onward Left p c)
  left-onward_rises c =
      rises-both (moves_that_way Left p c Down) (moves_that_way Left p c Forth) (one-rises Left p c Down)
      (one-rises Left p c Forth) (λ y z m k.
      let t = down Left p c y m in
      let b = forth Left p c z k in
      let f = b.taken in
      let inside = f.onto_inside in
      let here = after-down Left p c y z t b in
      let there = after-forth Left p c z f in
      next-less Left p c y z empty (down-leaves Left c y m).puts (forth-leaves Left c z k).puts inside
      (omega (arith, here, there)))

  right-onward_rises : (c : ℕ) → IsRising (onward Right p c)
  right-onward_rises c =
      rises-both (moves_that_way Right p c Forth) (moves_that_way Right p c Down) (one-rises Right p c Forth)
      (one-rises Right p c Down) (λ y z m k.
      let t = down Right p c z k in
      let b = forth Right p c y m in
      let f = b.taken in
      let inside = f.onto_inside in
      let here = after-down Right p c z y t b in
      let there = after-forth Right p c y f in
      next-less Right p c y z empty (forth-leaves Right c y m).puts (down-leaves Right c z k).puts inside
      (omega (arith, here, there)))

  toward-rises : (player : Player) (c : ℕ) → IsRising (toward player p c)
  toward-rises player c =
      rises-both (moves_that_way player p (c + 1) Back) (moves_that_way player p (c + p.columns) Up)
      (one-rises player p (c + 1) Back) (one-rises player p (c + p.columns) Up) (λ y z m k.
      let b = back player p c y some m in
      let t = up player p c z k in
      let f = b.taken in
      let inside = f.from_inside in
      let here = after-back player p c y f in
      let there = after-up player p c y z b t in
      let less = empty-less player in
      next-less player p c y z (own player) (back-comes player c y m).puts (up-comes player c z k).puts inside
      (omega (arith, here, there, less)))

  -- ---- all of them rise

  abbrev n : ℕ
  n = length p.cells

  left-leaving_rise : IsRising (flat_map (onward Left p) (counted 0 n))
  left-leaving_rise = rises-flat (onward Left p) 0 n n (omega arith) left-onward_rises (λ c d l h y z m k.
      let a = onward-leaves Left c y m in
      let b = onward-leaves Left d z k in
      let was = a.was in
      lower Left p c d empty empty y z a.puts b.puts l (omega (arith, was)))

  left-coming_rise : IsRising (flat_map (toward_back Left p) (counted 0 n))
  left-coming_rise =
      rises-flat (toward_back Left p) 0 n n (omega arith) (λ c. toward-rises Left (n - 1 - c)) (λ c d l h y z m k.
      let a = toward-comes Left (n - 1 - c) y m in
      let b = toward-comes Left (n - 1 - d) z k in
      let was = b.was in
      higher Left p (n - 1 - c) (n - 1 - d) (own Left) (own Left) y z a.puts b.puts (omega (arith, l, h))
      (omega (arith, was)))

  leaving-below_coming : (c d : ℕ) (y z : List ℕ) → Leaves Left c y → Comes Left d z → bytes_cmp y z ≡ Less
  leaving-below_coming c d y z a b =
      let own_was = a.was in
      let other_was = b.was in
      elim (leb_tells d c) [
        | inl h ↦ elim (eq-or-lt_of_le h.1) [
          | inl e ↦ (let same = ap (slice_index p.cells) e in absurd (omega (arith, own_was, other_was, same)))
          | inr l ↦ higher Left p c d empty (own Left) y z a.puts b.puts l (omega (arith, other_was))
        ]
        | inr h ↦ lower Left p c d empty (own Left) y z a.puts b.puts h.1 (omega (arith, own_was))
      ]

  left-rises : IsRising (by_pairs Left p)
  left-rises =
      rises-both (flat_map (onward Left p) (counted 0 n)) (flat_map (toward_back Left p) (counted 0 n)) left-leaving_rise
      left-coming_rise (λ y z m k.
      let (c, i, o) = in-flat_map (onward Left p) y (counted 0 n) m in
      let (d, j, q) = in-flat_map (toward_back Left p) z (counted 0 n) k in
      leaving-below_coming c (n - 1 - d) y z (onward-leaves Left c y o) (toward-comes Left (n - 1 - d) z q))

  -- a move of Right lowers the first of its two cells
  record Lowers (c : ℕ) (z : List ℕ) : Type 0 where
    symbol : ℕ
    puts : Puts Right p z c symbol
    less : symbol < slice_index p.cells c

  right-lowers : (c : ℕ) (z : List ℕ) → In z (paired Right p c) → Lowers c z
  right-lowers c z m = elim (in-append z (onward Right p c) (toward Right p c) m) [
    | inl k ↦
        let a = onward-leaves Right c z k in
        let was = a.was in record { symbol = empty; puts = a.puts; less = omega (arith, was) }
    | inr k ↦
        let a = toward-comes Right c z k in
        let was = a.was in record { symbol = own Right; puts = a.puts; less = omega (arith, was) }
  ]

  paired-rises : (c : ℕ) → IsRising (paired Right p c)
  paired-rises c =
      rises-both (onward Right p c) (toward Right p c) (right-onward_rises c) (toward-rises Right c) (λ y z m k.
      same-first Right p c empty (own Right) y z (onward-leaves Right c y m).puts (toward-comes Right c z k).puts
      (empty-less Right))

  right-rises : IsRising (by_pairs Right p)
  right-rises = rises-flat (paired Right p) 0 n n (omega arith) paired-rises (λ c d l h y z m k.
      let a = right-lowers c y m in
      let b = right-lowers d z k in
      lower Right p c d a.symbol b.symbol y z a.puts b.puts l a.less)

pairs-rise : (player : Player) (p : Grid) → 0 < p.columns → IsRising (by_pairs player p)
pairs-rise Left p some = left-rises p some
pairs-rise Right p some = right-rises p some

pub pairs-are : (player : Player) (p : Grid) → 0 < p.columns → by_pairs player p ≡ moves_of player p
pairs-are player p some = sym (rising-kept (by_pairs player p) (pairs-rise player p some)) ∙ pairs-moves player p
