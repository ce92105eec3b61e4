-- The steps of a comparison.
use Rattle.std.proofs.Common.{◌≡◌, ap, sym, ◌∙◌, subst, List, Bool, true, false, ◌&&◌, ◌⊎◌, inl, inr, IfOk}
use Rattle.std.specs.Prelude.{Result, Ok, Err}
use Rattle.cg_dyadic.specs.Number.{Number, number_le}
use Rattle.cg_dyadic.proofs.Truth.{differ, false-from}
use Rattle.cg_form.specs.Canonical.{Canonical}
use Rattle.cg_form.specs.Game.{Among, Game, lefts, node, number}
use Rattle.cg_form.specs.Order.{Le, le, no_one}
use Rattle.cg_form.specs.Side.{at_most}
use Rattle.cg_arena.specs.declared.order_memo.Answer.{Answer}
use Rattle.cg_arena.specs.declared.order_memo.OrderMemo.{OrderMemo}
use Rattle.cg_arena.specs.OrderMemos.{AreRight, IsKept, IsRight}
use Rattle.cg_form.proofs.Among.{lefts-node, rights-node}
use Rattle.cg_form.proofs.Cut.{same_when}
use Rattle.cg_form.proofs.LeSteps.{le_of_nodes, le_of_numbers}
use Rattle.cg_form.proofs.Order.{le-unfold, no_one-all, no_one-each}
use Rattle.cg_form.proofs.Simplicity.{le-number, none_fits, number-le}

-- ---- a number and a game that equals none

pub le_same : (g h k l : Game) → g ≡ k → h ≡ l → le g h ≡ le k l
le_same g h k l a b = cc

pub canonical_at : (h k : Game) → h ≡ k → Canonical h → Canonical k
canonical_at h k e c = rw (← e) c

-- a number is at most a game that equals no number exactly where no Right option is at most the number
below_game : (x : Number) (ls rs : List Game) → Canonical (node ls rs)
    → no_one (at_most false (number x)) rs ≡ le (number x) (node ls rs)
below_game x ls rs c =
    let P : List Game → Type 0 = λ gs. (b : Game) → Among b gs → ¬ Le b (number x) in
    same_when (no_one (at_most false (number x)) rs) (le (number x) (node ls rs))
    (λ h. number-le x (node ls rs) (λ y m. none_fits (node ls rs) c.0.no_number y)
    (subst P (sym (rights-node ls rs)) (λ b m k. differ (le b (number x)) k (no_one-each (at_most false (number x)) rs h b m))))
    (λ h. no_one-all (at_most false (number x)) rs
    (λ b m. false-from (le b (number x)) (subst P (rights-node ls rs) (le-unfold (number x) (node ls rs) h).on_right b m)))

above_game : (x : Number) (ls rs : List Game) → Canonical (node ls rs)
    → no_one (at_most true (number x)) ls ≡ le (node ls rs) (number x)
above_game x ls rs c =
    let P : List Game → Type 0 = λ gs. (a : Game) → Among a gs → ¬ Le (number x) a in
    same_when (no_one (at_most true (number x)) ls) (le (node ls rs) (number x))
    (λ h. le-number (node ls rs) x (λ y m. none_fits (node ls rs) c.0.no_number y)
    (subst P (sym (lefts-node ls rs)) (λ a m k. differ (le (number x) a) k (no_one-each (at_most true (number x)) ls h a m))))
    (λ h. no_one-all (at_most true (number x)) ls
    (λ a m. false-from (le (number x) a) (subst P (lefts-node ls rs) (le-unfold (node ls rs) (number x) h).on_left a m)))

-- ---- by what was read

pub numbers_case : (g h : Game) (x y : Number) (r : Bool) → g ≡ number x → h ≡ number y → r ≡ number_le x y → r ≡ le g h
numbers_case g h x y r a b e = e ∙ (le_of_numbers x y ∙ sym (le_same g h (number x) (number y) a b))

pub number_case : (g h : Game) (x : Number) (ls rs : List Game) → g ≡ number x → h ≡ node ls rs → Canonical h
    → no_one (at_most false g) rs ≡ le g h
number_case g h x ls rs a b c =
    ap (λ z. no_one (at_most false z) rs) a ∙ below_game x ls rs (canonical_at h (node ls rs) b c)
    ∙ sym (le_same g h (number x) (node ls rs) a b)

pub game_case : (g h : Game) (x : Number) (ls rs : List Game) → h ≡ number x → g ≡ node ls rs → Canonical g
    → no_one (at_most true h) ls ≡ le g h
game_case g h x ls rs a b c =
    ap (λ z. no_one (at_most true z) ls) a ∙ above_game x ls rs (canonical_at g (node ls rs) b c)
    ∙ sym (le_same g h (node ls rs) (number x) b a)

games : (g h : Game) (al ar bl br : List Game) → g ≡ node al ar → h ≡ node bl br
    → le g h ≡ (no_one (at_most true h) al && no_one (at_most false g) br)
games g h al ar bl br a b =
    le_same g h (node al ar) (node bl br) a b ∙ le_of_nodes al ar bl br
    ∙ ap (λ z. no_one (at_most true z) al && no_one (at_most false (node al ar)) br) (sym b)
    ∙ ap (λ z. no_one (at_most true h) al && no_one (at_most false z) br) (sym a)

-- the second list decides where the first has nothing in the way
pub games_case : (g h : Game) (al ar bl br : List Game) (u : Bool) → g ≡ node al ar → h ≡ node bl br
    → u ≡ no_one (at_most true h) al → u ≡ true → no_one (at_most false g) br ≡ le g h
games_case g h al ar bl br u a b q t =
    sym (games g h al ar bl br a b ∙ ap (λ z. z && no_one (at_most false g) br) (sym q ∙ t))

-- a Left option of g is as good as h
pub hindered : (g h : Game) (al ar : List Game) (u : Bool) → g ≡ node al ar → u ≡ no_one (at_most true h) al → u ≡ false
    → false ≡ le g h
hindered g h al ar u a q t =
    let n : no_one (at_most true h) (lefts (node al ar)) ≡ false = ap (no_one (at_most true h)) (lefts-node al ar) ∙ sym q ∙ t in
    let m : no_one (at_most true h) (lefts g) ≡ false = rw a n in
    sym (false-from (le g h) (λ l. differ (no_one (at_most true h) (lefts g))
    (no_one-all (at_most true h) (lefts g) (λ b w. false-from (le h b) ((le-unfold g h l).on_left b w))) m))

-- ---- results

pub ok_same : {E : Type 0} (r : Result Bool E) (u v : Bool) → IfOk r (λ x. x ≡ u) → u ≡ v → IfOk r (λ x. x ≡ v)
ok_same (Ok x) u v h e = h ∙ e
ok_same (Err x) u v h e = h

-- ---- an answer more

pub remembered : (gs : List Game) (old new : OrderMemo) (answer : Answer) → AreRight gs old
    → ((x : Answer) → IsKept new x → (x ≡ answer) ⊎ IsKept old x) → IsRight gs answer → AreRight gs new
remembered gs old new answer h k r = λ x m. elim (k x m) [
  | inl e ↦ (rw e r)
  | inr o ↦ h x o
]
