-- Canonical forms of sums, negatives and multiples, from those of the options.
use Rattle.std.proofs.Common.{◌≡◌, ◌⊎◌, inl, inr, refl, ap, sym, ◌∙◌, ℕ, suc, pos, subst, List, [], ◌∷◌, ◌++◌, map}
use Rattle.std.proofs.lemmas.List.{map-append}
use Rattle.std.proofs.lemmas.Simd.{map-map}
use Rattle.cg_dyadic.specs.Exact.{IsNegative, IsSum}
use Rattle.cg_dyadic.specs.Number.{Number, whole}
use Rattle.cg_dyadic.proofs.Sums.{negative-cancels}
use Rattle.cg_form.specs.Canonical.{Canonical}
use Rattle.cg_form.specs.Game.{Game, lefts, node, number, options, rights, to_list}
use Rattle.cg_form.specs.Multiple.{multiple}
use Rattle.cg_form.specs.Order.{Equal, Le}
use Rattle.cg_form.specs.Simple.{NoNumber}
use Rattle.cg_form.specs.Sum.{negative, nothing, sum}
use Rattle.cg_form.specs.Translate.{translated}
use Rattle.cg_nodes.specs.Can.{can}
use Rattle.cg_form.proofs.Negative.{negative-options, sum-negative}
use Rattle.cg_form.proofs.EqualGames.{zero_is}
use Rattle.cg_form.proofs.Shifted.{canonical-shifted}
use Rattle.cg_form.proofs.Preorder.{equal_trans, le_trans}
use Rattle.cg_form.proofs.Sum.{sum-options}
use Rattle.cg_form.proofs.SumLaws.{le-sum_second, sum_comm, sum_nothing}
use Rattle.cg_form.proofs.SumOrder.{sum-le}
use Rattle.cg_form.proofs.Translation.{translation}
use Rattle.cg_nodes.specs.CanLaw.{can-equal, can-fixed}
use Rattle.cg_nodes.specs.Games.{IsNode}
use Rattle.cg_sum.specs.Written.{written_lefts, written_rights}
use Rattle.cg_nimbers.proofs.NumberUpStars.{sum-numbers_equal}
use Rattle.cg_nodes.proofs.Forms.{can-node, can-same}
use Rattle.cg_canon.proofs.Translated.{node_shifted}

-- ---- lists

-- the forms of the options of a sum, on one side
forms_of-map : (g h : Game) (gs hs : List Game)
    → map can (map (λ a. sum a h) gs ++ map (λ c. sum g c) hs) ≡ map (λ a. can (sum a h)) gs ++ map (λ c. can (sum g c)) hs
forms_of-map g h gs hs =
    map-append can (map (λ a. sum a h) gs) (map (λ c. sum g c) hs)
    ∙ (ap (λ z. z ++ map can (map (λ c. sum g c) hs)) (map-map can (λ a. sum a h) gs)
    ∙ ap (λ z. map (λ a. can (sum a h)) gs ++ z) (map-map can (λ c. sum g c) hs))

-- ---- sums

-- the form of a sum is that of the forms of its options
pub can-sum : (g h : Game) → can (node (map (λ a. can (sum a h)) (lefts g) ++ map (λ c. can (sum g c)) (lefts h))
    (map (λ b. can (sum b h)) (rights g) ++ map (λ d. can (sum g d)) (rights h))) ≡ can (sum g h)
can-sum g h =
    let ls : List Game = map (λ a. sum a h) (lefts g) ++ map (λ c. sum g c) (lefts h) in
    let rs : List Game = map (λ b. sum b h) (rights g) ++ map (λ d. sum g d) (rights h) in
    ap (λ z. can (node z (map (λ b. can (sum b h)) (rights g) ++ map (λ d. can (sum g d)) (rights h))))
    (sym (forms_of-map g h (lefts g) (lefts h)))
    ∙ (ap (λ z. can (node (map can ls) z)) (sym (forms_of-map g h (rights g) (rights h)))
    ∙ (can-node ls rs ∙ ap can (sym (sum-options g h))))

-- sums commute
pub can-sum_comm : (g h : Game) → can (sum g h) ≡ can (sum h g)
can-sum_comm g h = can-same (sum g h) (sum h g) (sum_comm g h, sum_comm h g)

-- where g equals no number, the form of x + g is that of the forms x + A and x + B
pub can-translated : (x : Number) (g : Game) → NoNumber g
    → can (node (map (λ a. can (sum (number x) a)) (lefts g)) (map (λ b. can (sum (number x) b)) (rights g)))
    ≡ can (sum (number x) g)
can-translated x g n =
    let ls : List Game = map (λ a. sum (number x) a) (lefts g) in
    let rs : List Game = map (λ b. sum (number x) b) (rights g) in
    let t = translation x g n in
    ap (λ z. can (node z (map (λ b. can (sum (number x) b)) (rights g)))) (sym (map-map can (λ a. sum (number x) a) (lefts g)))
    ∙ (ap (λ z. can (node (map can ls) z)) (sym (map-map can (λ b. sum (number x) b) (rights g)))
    ∙ (can-node ls rs ∙ can-same (translated x g) (sum (number x) g) (t.1, t.0)))

pub can-sum_numbers : (x y z : Number) → IsSum x y z → can (sum (number x) (number y)) ≡ number z
can-sum_numbers x y z h =
    let e = sum-numbers_equal x y z h in
    can-same (sum (number x) (number y)) (number z) (e.1, e.0) ∙ can-fixed (number z) tt

-- ---- negatives

pub can-negative : (g : Game)
    → can (node (map (λ b. can (negative b)) (rights g)) (map (λ a. can (negative a)) (lefts g))) ≡ can (negative g)
can-negative g =
    let ls : List Game = map negative (rights g) in
    let rs : List Game = map negative (lefts g) in
    ap (λ z. can (node z (map (λ a. can (negative a)) (lefts g)))) (sym (map-map can negative (rights g)))
    ∙ (ap (λ z. can (node (map can ls) z)) (sym (map-map can negative (lefts g)))
    ∙ (can-node ls rs ∙ ap can (sym (negative-options g))))

-- both y and -x bring x to 0
pub can-negative_number : (x y : Number) → IsNegative x y → can (negative (number x)) ≡ number y
can-negative_number x y h =
    let e = sum-numbers_equal x y (whole (pos 0)) (negative-cancels x y h) in
    let f = sum-negative (number x) in
    let p : Equal (sum (number x) (number y)) (sum (number x) (negative (number x))) =
    equal_trans (sum (number x) (number y)) (number (whole (pos 0))) (sum (number x) (negative (number x))) (e.1, e.0)
    (equal_trans (number (whole (pos 0))) nothing (sum (number x) (negative (number x))) zero_is (f.1, f.0)) in
    can-same (negative (number x)) (number y) (
      le-sum_second (negative (number x)) (number y) (number x) p.1,
      le-sum_second (number y) (negative (number x)) (number x) p.0,
    )
    ∙ can-fixed (number y) tt

-- ---- multiples

-- the form of a sum is that of the sum of the form of its first term
pub can-sum_form : (g h : Game) → can (sum (can g) h) ≡ can (sum g h)
can-sum_form g h =
    let e = can-equal g in
    can-same (sum (can g) h) (sum g h) (sum-le (can g) g h e.0, sum-le g (can g) h e.1)

pub can-multiple_zero : (g : Game) → can (multiple 0 g) ≡ number (whole (pos 0))
unfolding multiple
can-multiple_zero g = can-fixed (number (whole (pos 0))) tt

pub can-multiple_one : (g : Game) → Canonical g → can (multiple 1 g) ≡ g
unfolding multiple
can-multiple_one g c =
    let zero_g : Game = sum (number (whole (pos 0))) g in
    let a = sum_comm (number (whole (pos 0))) g in
    let b = sum_comm g (number (whole (pos 0))) in
    let n = sum_nothing g in
    let up : Le (sum (number (whole (pos 0))) g) (sum nothing g) = sum-le (number (whole (pos 0))) nothing g zero_is.0 in
    let down : Le (sum nothing g) (sum (number (whole (pos 0))) g) = sum-le nothing (number (whole (pos 0))) g zero_is.1 in
    can-same (sum (number (whole (pos 0))) g) g (
      le_trans (sum (number (whole (pos 0))) g) (sum nothing g) g up (le_trans (sum nothing g) (sum g nothing) g (sum_comm nothing g) n.0),
      le_trans g (sum nothing g) (sum (number (whole (pos 0))) g) (le_trans g (sum g nothing) (sum nothing g) n.1 (sum_comm g nothing)) down,
    )
    ∙ can-fixed g c

-- one more g
pub can-multiple_more : (n : ℕ) (g : Game) → can (sum (can (multiple n g)) g) ≡ can (multiple (suc n) g)
unfolding multiple
can-multiple_more n g = can-sum_form (multiple n g) g

-- ---- from the options that are written

-- the forms of the options of a sum, on one side, where gs and hs are the options of g and h
abbrev pub option_forms : Game → Game → List Game → List Game → List Game
option_forms g h gs hs = map (λ a. can (sum a h)) gs ++ map (λ c. can (sum g c)) hs

commuted : (x : Number) (gs : List Game)
    → map (λ a. can (sum a (number x))) gs ++ [] ≡ map (λ a. can (sum (number x) a)) gs
commuted x [] = refl
commuted x (g ∷ gs) =
    ap (λ z. z ∷ (map (λ a. can (sum a (number x))) gs ++ [])) (can-sum_comm g (number x))
    ∙ ap (λ z. can (sum (number x) g) ∷ z) (commuted x gs)

-- the form of a sum is that of the forms of the sums of the written options, where one of the two is no number
pub can-sum_written : (g h : Game) → Canonical g → Canonical h → IsNode g ⊎ IsNode h
    → can (node (option_forms g h (written_lefts g) (written_lefts h)) (option_forms g h (written_rights g) (written_rights h)))
    ≡ can (sum g h)
can-sum_written (number x) (number y) c d (inl n) = absurd n
can-sum_written (number x) (number y) c d (inr n) = absurd n
can-sum_written (number x) (options cs ds) c d n = can-translated x (options cs ds) d.0.no_number
can-sum_written (options ls rs) (options cs ds) c d n = can-sum (options ls rs) (options cs ds)
can-sum_written (options ls rs) (number y) c d n =
    ap (λ z. can (node z (option_forms (options ls rs) (number y) (to_list rs) []))) (commuted y (to_list ls))
    ∙ (ap (λ z. can (node (map (λ a. can (sum (number y) a)) (to_list ls)) z)) (commuted y (to_list rs))
    ∙ (can-translated y (options ls rs) c.0.no_number ∙ can-sum_comm (number y) (options ls rs)))

-- the game is a number
abbrev pub IsNumber : Game → Type 0
IsNumber (number x) = Unit {0}
IsNumber (options ls rs) = ⊥

-- where one of the two is a number and the other is none, the forms of the sums of the written options are canonical as they stand
pub sum_written-canonical : (g h : Game) → Canonical g → Canonical h → IsNode g ⊎ IsNode h → IsNumber g ⊎ IsNumber h
    → Canonical (node (option_forms g h (written_lefts g) (written_lefts h)) (option_forms g h (written_rights g) (written_rights h)))
sum_written-canonical (number x) (number y) c d (inl n) e = absurd n
sum_written-canonical (number x) (number y) c d (inr n) e = absurd n
sum_written-canonical (options ls rs) (options cs ds) c d n (inl e) = absurd e
sum_written-canonical (options ls rs) (options cs ds) c d n (inr e) = absurd e
sum_written-canonical (number x) (options cs ds) c d n e =
    let P : Game → Type 0 = λ z. Canonical z in
    subst P (sym (node_shifted x cs ds d)) (canonical-shifted x (options cs ds) d)
sum_written-canonical (options ls rs) (number y) c d n e =
    let P : Game → Type 0 = λ z. Canonical z in
    subst P (sym (ap (λ z. node z (option_forms (options ls rs) (number y) (to_list rs) [])) (commuted y (to_list ls))
    ∙ (ap (λ z. node (map (λ a. can (sum (number y) a)) (to_list ls)) z) (commuted y (to_list rs))
    ∙ node_shifted y ls rs c))) (canonical-shifted y (options ls rs) c)

-- the form of a negative is that of the forms of the negatives of the written options, where the game is no number
pub can-negative_written : (g : Game) → IsNode g
    → can (node (map (λ b. can (negative b)) (written_rights g)) (map (λ a. can (negative a)) (written_lefts g))) ≡ can (negative g)
can-negative_written (number x) n = absurd n
can-negative_written (options ls rs) n = can-negative (options ls rs)

-- 0 and a game make that game
pub can-sum_zero : (g : Game) → Canonical g → can (sum (number (whole (pos 0))) g) ≡ g
unfolding multiple
can-sum_zero g c = can-multiple_one g c
