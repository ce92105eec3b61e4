-- Equal games have one thermograph: the same mean, temperature and corners of both walls.
use Rattle.std.proofs.Common.{◌≡◌, sym, ◌∙◌, subst, ℕ, ◌+◌, ◌≤◌, arith, map}
use Rattle.cg_form.specs.Game.{Game}
use Rattle.cg_form.specs.Heights.{height}
use Rattle.cg_form.specs.Order.{Equal}
use Rattle.cg_form.specs.Simple.{NoNumber}
use Rattle.cg_form.proofs.Decide.{number-decide}
use Rattle.cg_form.proofs.Temperature.{temperature-equal}
use Rattle.cg_form.proofs.Thermal.{number-across, same-thermal}
use Rattle.cg_form.proofs.WallOrder.{walls-equal}
use Rattle.cg_walls.specs.Corners.{corners}
use Rattle.cg_thermo.specs.Pictures.{left_corners, right_corners, spot}
use Rattle.cg_thermo.specs.Thermal.{MastFrom}
use Rattle.cg_thermo.specs.Thermographs.{IsThermograph}
use Rattle.cg_thermo.specs.declared.thermo.Walls as drawn
use Rattle.cg_thermo.proofs.Deciders.{mast}
use Rattle.cg_thermo.proofs.OneThermograph.{some-thermograph}

-- ---- at one scale of at least both heights

none-across : (g h : Game) → Equal g h → NoNumber g → NoNumber h
none-across g h e never x f = never x (number-across g h e x f)

module _ (s : ℕ) (g h : Game) (high_g : height g ≤ s) (high_h : height h ≤ s) (e : Equal g h) where
  mast-same : (end : ℕ) → MastFrom number-decide s g end → MastFrom number-decide s h end
  mast-same end m = record {
    number = λ x f. m.number x (number-across g h e x f);
    other = λ never.
        let n = none-across h g (e.1, e.0) never in
        temperature-equal number-decide s g h high_g high_h n never e end (m.other n);
  }

  lefts-same : (end : ℕ) → left_corners number-decide s g end ≡ left_corners number-decide s h end
  unfolding left_corners
  lefts-same end i = map (spot s) (corners (λ t. (walls-equal number-decide s g h high_g high_h e t i).left) end)

  rights-same : (end : ℕ) → right_corners number-decide s g end ≡ right_corners number-decide s h end
  unfolding right_corners
  rights-same end i = map (spot s) (corners (λ t. (walls-equal number-decide s g h high_g high_h e t i).right) end)

-- ---- thermographs

thermograph-same : (g h : Game) (p q : drawn.Walls) → Equal g h → IsThermograph g p → IsThermograph h q → p ≡ q
thermograph-same g h p q e a b =
    let s = height g + height h in
    let m = mast number-decide s g (omega arith) in
    let n = mast-same s g h (omega arith) (omega arith) e m.end m.from in
    let t = same-thermal g h p.mean p.temp q.mean q.temp e a.thermal b.thermal in
    let l = a.left number-decide s m.end (omega arith) m.from
    ∙ lefts-same s g h (omega arith) (omega arith) e m.end ∙ sym (b.left number-decide s m.end (omega arith) n) in
    let r = a.right number-decide s m.end (omega arith) m.from
    ∙ rights-same s g h (omega arith) (omega arith) e m.end ∙ sym (b.right number-decide s m.end (omega arith) n) in
    λ i. record { mean = t.means i; temp = t.temps i; left = l i; right = r i }

pub equal-thermograph : (g h : Game) (p : drawn.Walls) → Equal g h → IsThermograph g p → IsThermograph h p
equal-thermograph g h p e a =
    let (q, b) = some-thermograph h in
    subst (IsThermograph h) (sym (thermograph-same g h p q e a b)) b
