-- The line through the corners of a wall of a game.
use Rattle.std.proofs.Common.{◌≡◌, refl, ℕ, ◌≤◌, arith, inl, inr, ap, sym, ◌∙◌, ℤ, pos}
use Rattle.std.proofs.lemmas.Int.{ints}
use Rattle.cg_dyadic.specs.Number.{Number, exp_of}
use Rattle.cg_dyadic.specs.Units.{units}
use Rattle.cg_form.specs.Game.{Game}
use Rattle.cg_form.specs.Heights.{height}
use Rattle.cg_form.specs.Simple.{Decided, Decides}
use Rattle.cg_form.specs.Walls.{Walls, walls}
use Rattle.cg_form.proofs.Temperature.{walls-mast}
use Rattle.cg_form.proofs.Walls.{walls-number, walls-steps}
use Rattle.cg_walls.specs.Corners.{corners, marks}
use Rattle.cg_walls.specs.Lines.{OnLine}
use Rattle.cg_walls.proofs.Lines.{on-along}
use Rattle.cg_walls.proofs.Through.{corners-on}
use Rattle.cg_thermo.specs.declared.thermo.Walls as drawn
use Rattle.cg_thermo.specs.Pictures.{left_corners, right_corners}
use Rattle.cg_thermo.specs.Thermal.{MastFrom}
use Rattle.cg_thermo.specs.Thermographs.{DrawsWalls, IsThermograph}
use Rattle.cg_thermo.specs.WallLine.{IsOnLine, marks_at}
use Rattle.cg_thermo.proofs.Deciders.{mast}
use Rattle.cg_thermo.proofs.Rescaled.{on_spots, spots-along}

-- from the end on the walls stay
stays-by : (d : Decides) (s end t : ℕ) (g : Game) → Decided g → height g ≤ s → MastFrom d s g end → end ≤ t
    → walls d s t g ≡ walls d s end g
stays-by d s end t g (inl w) h m k = walls-number d s t g w.0 w.1 ∙ sym (walls-number d s end g w.0 w.1)
stays-by d s end t g (inr never) h m k = walls-mast d s g end h never (m.other never) t k
    ∙ sym (walls-mast d s g end h never (m.other never) end (omega arith))

pub left-line : (d : Decides) (s end t : ℕ) (g : Game) → height g ≤ s → MastFrom d s g end
    → OnLine (marks (corners (λ u. (walls d s u g).left) end)) (pos t) (walls d s t g).left
left-line d s end t g h m = corners-on (λ u. (walls d s u g).left)
    (record {
      up_by_one = λ u. (let k = walls-steps d s u g in let a = k.left_falls in omega (arith, ints));
      down_by_one = λ u. (walls-steps d s u g).left_by_one;
    })
    end (λ u k. ap (λ (z : Walls). z.left) (stays-by d s end u g (d g) h m k)) t

pub right-line : (d : Decides) (s end t : ℕ) (g : Game) → height g ≤ s → MastFrom d s g end
    → OnLine (marks (corners (λ u. (walls d s u g).right) end)) (pos t) (walls d s t g).right
right-line d s end t g h m = corners-on (λ u. (walls d s u g).right)
    (record {
      up_by_one = λ u. (walls-steps d s u g).right_by_one;
      down_by_one = λ u. (let k = walls-steps d s u g in let a = k.right_rises in omega (arith, ints));
    })
    end (λ u k. ap (λ (z : Walls). z.right) (stays-by d s end u g (d g) h m k)) t

-- ---- read off the corners of a thermograph

pub left-reading : (d : Decides) (g : Game) (w : drawn.Walls) (s u : ℕ) (t x : Number) → IsThermograph g w → height g ≤ s → exp_of t ≤ s
    → exp_of x ≤ s → units s t ≡ pos u → IsOnLine w.left t x → units s x ≡ (walls d s u g).left
unfolding left_corners
left-reading d g w s u t x k h a b e o =
    let m = mast d s g h in
    let f : ℕ → ℤ = λ v. (walls d s v g).left in
    on_spots s (corners f m.end) w.left t x u (f u) (k.left d s m.end h m.from) a b e o (left-line d s m.end u g h m.from)

pub right-reading : (d : Decides) (g : Game) (w : drawn.Walls) (s u : ℕ) (t x : Number) → IsThermograph g w → height g ≤ s → exp_of t ≤ s
    → exp_of x ≤ s → units s t ≡ pos u → IsOnLine w.right t x → units s x ≡ (walls d s u g).right
unfolding right_corners
right-reading d g w s u t x k h a b e o =
    let m = mast d s g h in
    let f : ℕ → ℤ = λ v. (walls d s v g).right in
    on_spots s (corners f m.end) w.right t x u (f u) (k.right d s m.end h m.from) a b e o (right-line d s m.end u g h m.from)

-- ---- the lines of the corners of a thermograph

left-drawn : (d : Decides) (g : Game) (w : drawn.Walls) (s u : ℕ) → IsThermograph g w → height g ≤ s
    → OnLine (marks_at s w.left) (pos u) (walls d s u g).left
unfolding left_corners
left-drawn d g w s u k h =
    let m = mast d s g h in
    let f : ℕ → ℤ = λ v. (walls d s v g).left in
    on-along (marks (corners f m.end)) (marks_at s w.left) (pos u) (pos u) (f u) (f u) (spots-along s (corners f m.end) w.left (k.left d s m.end h m.from))
    refl refl (left-line d s m.end u g h m.from)

right-drawn : (d : Decides) (g : Game) (w : drawn.Walls) (s u : ℕ) → IsThermograph g w → height g ≤ s
    → OnLine (marks_at s w.right) (pos u) (walls d s u g).right
unfolding right_corners
right-drawn d g w s u k h =
    let m = mast d s g h in
    let f : ℕ → ℤ = λ v. (walls d s v g).right in
    on-along (marks (corners f m.end)) (marks_at s w.right) (pos u) (pos u) (f u) (f u) (spots-along s (corners f m.end) w.right (k.right d s m.end h m.from))
    refl refl (right-line d s m.end u g h m.from)

pub draws-walls : (g : Game) (w : drawn.Walls) → IsThermograph g w → DrawsWalls g w
draws-walls g w k = record { left = λ d s u h. left-drawn d g w s u k h; right = λ d s u h. right-drawn d g w s u k h }
