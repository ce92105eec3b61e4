-- How far a proof of a pair can still go, answer by answer.
-- A move in a game that is no number goes down, and a move in a fraction takes a binary place from it. A move in a whole number leaves the
-- number as high as it was, but the other player has no move in it then.
use Rattle.std.proofs.Common.{◌≡◌, refl, ap, ◌∙◌, ℕ, ℤ, zero, suc, pos, negsuc, ◌+◌, ◌*◌, ◌<◌, ◌≤◌, ◌+ℤ◌, ◌≤ℤ◌, arith, max}
use Rattle.std.proofs.Common.{inl, inr, ◌⊎◌, Bool, true, false, ◌&&◌, ◌||◌, Some}
use Rattle.std.proofs.Math.Nat.{le-max_left, le-max_right}
use Rattle.std.proofs.lemmas.Int.{ints}
use Rattle.cg_dyadic.specs.Number.{between, exp_of, whole}
use Rattle.cg_dyadic.proofs.Scale.{exp-ratio}
use Rattle.cg_form.specs.Game.{Among, Game, Games, lefts, more, none, number, options, rights, to_list}
use Rattle.cg_cert.specs.Certificate.{Answer, in_first, in_second}
use Rattle.cg_cert.specs.Pairs.{Pair, both_numbers, is_number, led, moves, pair}
use Rattle.cg_cert.proofs.Moves.{Each, each_move, placed}

-- ---- a game

-- of a number its binary places, and of another game a move more than the highest option
abbrev mutual
  pub height : Game → ℕ
  height (number x) = exp_of x
  height (options ls rs) = suc (max (heights ls) (heights rs))

  pub heights : Games → ℕ
  heights none = 0
  heights (more g gs) = max (height g) (heights gs)

-- Left has a move in a whole number, or Right has one
abbrev pub is_above : Game → Bool
is_above (number (whole (pos (suc n)))) = true
is_above _ = false

abbrev pub is_below : Game → Bool
is_below (number (whole (negsuc n))) = true
is_below _ = false

-- the option of a whole number is as high, and no move of the other player's
record Level (own far : Game → Bool) (g a : Game) : Type 0 where
  same : height a ≡ height g
  written : is_number g ≡ true
  own_move : own g ≡ true
  closed : far a ≡ false

list-height : (gs : Games) (a : Game) → Among a (to_list gs) → height a ≤ heights gs
list-height none a m = absurd m
list-height (more g gs) a (inl e) = let s = ap height e in let l = le-max_left (height g) (heights gs) in omega (arith, s, l)
list-height (more g gs) a (inr m) = let s = list-height gs a m in let l = le-max_right (height g) (heights gs) in omega (arith, s, l)

not_above : (i : ℤ) → i ≤ℤ pos 0 → is_above (number (whole i)) ≡ false
not_above (pos zero) l = refl
not_above (pos (suc n)) l = absurd (omega (arith, ints))
not_above (negsuc n) l = refl

left-height : (g a : Game) → Among a (lefts g) → (height a < height g) ⊎ Level is_above is_below g a
left-height (number (whole (pos zero))) a m = absurd m
left-height (number (whole (pos (suc n)))) a (inl e) =
    inr (record { same = ap height e; written = refl; own_move = refl; closed = ap is_below e })
left-height (number (whole (pos (suc n)))) a (inr m) = absurd m
left-height (number (whole (negsuc n))) a m = absurd m
left-height (number (between n k)) a (inl e) = let s = ap height e in let r = exp-ratio n k in inl (omega (arith, s, r))
left-height (number (between n k)) a (inr m) = absurd m
left-height (options ls rs) a m =
    let s = list-height ls a m in let l = le-max_left (heights ls) (heights rs) in inl (omega (arith, s, l))

right-height : (g a : Game) → Among a (rights g) → (height a < height g) ⊎ Level is_below is_above g a
right-height (number (whole (pos n))) a m = absurd m
right-height (number (whole (negsuc n))) a (inl e) = inr (record {
  same = ap height e;
  written = refl;
  own_move = refl;
  closed = ap is_above e ∙ not_above (negsuc n +ℤ pos 1) (omega (arith, ints));
})
right-height (number (whole (negsuc n))) a (inr m) = absurd m
right-height (number (between n k)) a (inl e) =
    let s = ap height e in let r = exp-ratio (n +ℤ pos 1) k in inl (omega (arith, s, r))
right-height (number (between n k)) a (inr m) = absurd m
right-height (options ls rs) a m =
    let s = list-height rs a m in let l = le-max_right (heights ls) (heights rs) in inl (omega (arith, s, l))

neither : (g : Game) → is_number g ≡ false → (is_above g ≡ false) × (is_below g ≡ false)
neither (number x) e = absurd cc
neither (options ls rs) e = (refl, refl)

-- ---- a pair

abbrev pub pair_height : Pair → ℕ
pair_height m = height m.first + height m.second

-- Left may answer in a whole number
abbrev pub may_stay : Pair → Bool
may_stay m = is_above m.first || is_below m.second

-- of a proof of the pair, and of an answer to the move that led to it
abbrev pub proof_height : Pair → ℕ
proof_height m = 3 * pair_height m + 2

-- a further height of an answer, if it may leave the pair as high
abbrev pub staying : Bool → ℕ
staying true = 3
staying false = 0

abbrev pub reply_height : Pair → ℕ
reply_height m = 3 * pair_height m + 1 + staying (may_stay m)

few : (b : Bool) → staying b ≤ 3
few true = omega arith
few false = omega arith

first_stays : (b c : Bool) → b ≡ true → staying (b || c) ≡ 3
first_stays true c e = refl
first_stays false c e = absurd cc

second_stays : (b c : Bool) → c ≡ true → staying (b || c) ≡ 3
second_stays true c e = refl
second_stays false c e = ap staying e

none_stays : (b c : Bool) → b ≡ false → c ≡ false → staying (b || c) ≡ 0
none_stays true c e f = absurd cc
none_stays false c e f = ap staying f

other_first : (g h : Game) → is_number g ≡ true → (is_number g && is_number h) ≡ false → is_number h ≡ false
other_first (number x) h e b = b
other_first (options ls rs) h e b = absurd cc

other_second : (g h : Game) → is_number h ≡ true → (is_number g && is_number h) ≡ false → is_number g ≡ false
other_second (number x) h e b = absurd cc
other_second (options ls rs) h e b = refl

-- an answer to a move is lower than the proof
pub moves-lower : (m : Pair) → both_numbers m ≡ false → Each (λ k. reply_height k < proof_height m) (moves m)
moves-lower m both = each_move (λ k. reply_height k < proof_height m) m (record {
  in_rights = λ b k. elim (right-height m.first b k) [
    | inl less ↦ (let w = few (may_stay (pair b m.second)) in omega (arith, less, w))
    | inr level ↦ (
        let h = other_first m.first m.second level.written both in
        let w = none_stays (is_above b) (is_below m.second) level.closed (neither m.second h).1 in
        let s = level.same in
        omega (arith, s, w))
  ];
  in_lefts = λ a k. elim (left-height m.second a k) [
    | inl less ↦ (let w = few (may_stay (pair m.first a)) in omega (arith, less, w))
    | inr level ↦ (
        let h = other_second m.first m.second level.written both in
        let w = none_stays (is_above m.first) (is_below a) (neither m.first h).0 level.closed in
        let s = level.same in
        omega (arith, s, w))
  ];
})

-- the proof of what an answer leads to is lower than the answer, with a step between them
pub led-lower : (a : Answer) (m k : Pair) → led a m ≡ Some k → suc (proof_height k) < reply_height m
led-lower (in_first i) m k e =
    let (a, n, f) = placed (λ z. pair z m.second) (lefts m.first) i k e in
    let z : pair_height k ≡ height a + height m.second = ap pair_height f in
    elim (left-height m.first a n) [
      | inl less ↦ omega (arith, z, less)
      | inr level ↦ (
          let w = first_stays (is_above m.first) (is_below m.second) level.own_move in
          let s = level.same in
          omega (arith, z, s, w))
    ]
led-lower (in_second i) m k e =
    let (b, n, f) = placed (λ z. pair m.first z) (rights m.second) i k e in
    let z : pair_height k ≡ height m.first + height b = ap pair_height f in
    elim (right-height m.second b n) [
      | inl less ↦ omega (arith, z, less)
      | inr level ↦ (
          let w = second_stays (is_above m.first) (is_below m.second) level.own_move in
          let s = level.same in
          omega (arith, z, s, w))
    ]
