-- A game that has the options of a nimber, up to equality and those that the nimber has not, equals it.
use Rattle.std.proofs.Common.{◌≡◌, sym, ℕ, ◌<◌, List, Bool, true, false}
use Rattle.cg_form.specs.Game.{Among, Game}
use Rattle.cg_form.specs.Order.{Equal}
use Rattle.cg_form.specs.Side.{AtMost, far, near}
use Rattle.cg_form.proofs.Among.{carry}
use Rattle.cg_form.proofs.Sides.{equal_side, not_far, side_equal, side_fold, side_trans}
use Rattle.cg_nimbers.specs.Nimbers.{nimber_form, nimbers_below}
use Rattle.cg_nimbers.proofs.NimberLists.{among_nimbers, far-nimber, nimbers_apart}

-- an option that equals the nimber of i
pub record Has (gs : List Game) (i : ℕ) : Type 0 where
  pub game : Game
  pub among : Among game gs
  pub equal : Equal game (nimber_form i)

-- a game that equals the nimber of a number other than k
pub record IsOther (k : ℕ) (g : Game) : Type 0 where
  pub value : ℕ
  pub other : ¬ (value ≡ k)
  pub equal : Equal g (nimber_form value)

-- no option of the one side equals *k, and the other side has all lesser nimbers
pub at_most-nimber : (s : Bool) (g : Game) (k : ℕ) → ((a : Game) → Among a (near s g) → IsOther k a)
    → ((i : ℕ) → i < k → Has (far s g) i) → AtMost s g (nimber_form k)
at_most-nimber s g k p q = side_fold s g (nimber_form k) (record {
  on_near = λ a m l.
      let o = p a m in
      o.other (sym (nimbers_apart s k o.value
      (side_trans s (nimber_form k) a (nimber_form o.value) l (side_equal s a (nimber_form o.value) o.equal))));
  on_far = λ b m l.
      let (i, w, e) = among_nimbers b k (carry b (far s (nimber_form k)) (nimbers_below k) (far-nimber s k) m) in
      let h = q i w in
      not_far s g h.game h.among (side_trans s h.game (nimber_form i) g
      (side_equal s h.game (nimber_form i) h.equal) (rw e at l));
})

-- the same on both sides
pub record IsMex (k : ℕ) (s : Bool) (g : Game) : Type 0 where
  pub others : (a : Game) → Among a (near s g) → IsOther k a
  pub lesser : (i : ℕ) → i < k → Has (far s g) i

pub mex-equal : (g : Game) (k : ℕ) → ((s : Bool) → IsMex k s g) → Equal g (nimber_form k)
mex-equal g k f =
    let left = f true in
    let right = f false in
    equal_side true g (nimber_form k) (at_most-nimber true g k left.others left.lesser)
    (at_most-nimber false g k right.others right.lesser)
