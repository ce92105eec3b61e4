-- Which games lie between 0 and every number that is better than 0, as a side sees it.
use Rattle.std.proofs.Common.{Bool}
use Rattle.cg_dyadic.specs.Number.{Number}
use Rattle.cg_form.specs.Game.{Among, Game, number}
use Rattle.cg_form.specs.Side.{AtMost, far, near}
use Rattle.cg_form.proofs.Sides.{far_number, number_side-trans, numbers-side, side_fold}
use Rattle.cg_names.specs.Named.{zero_form, zero_number}
use Rattle.cg_nimbers.proofs.Infinitesimals.{Beyond, Slight, beyond_far}

-- a number that is better than 0 is better than 0 as a game
pub beyond_zero : (s : Bool) (x : Number) → Beyond s x → ¬ AtMost s (number x) zero_form
beyond_zero s x p l = p.better (numbers-side s x zero_number l)

-- a game is slight where no number better than 0 is at most an own option, and an option of the other side is slight
pub slight-from : (s : Bool) (g r : Game)
    → ((a : Game) → Among a (near s g) → (x : Number) → Beyond s x → ¬ AtMost s (number x) a)
    → Among r (far s g) → Slight s r → Slight s g
slight-from s g r own m i = record {
  under = λ x p. side_fold s g (number x) (record {
    on_near = λ a k. own a k x p;
    on_far = λ b k l.
        let (y, e, u) = far_number s x b k in
        let q : Beyond s y = record {
          better = λ w. p.better (number_side-trans s x y zero_number (numbers-side s x y u) w);
        } in
        beyond_far s y g r q m i (rw (← e) l);
  });
}
