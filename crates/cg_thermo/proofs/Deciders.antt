-- Masts and corners are the same, however it is decided which games equal a number.
use Rattle.std.proofs.Common.{◌≡◌, refl, ℕ, ◌≤◌, inl, inr, subst, map}
use Rattle.cg_form.specs.Cooling.{Cool}
use Rattle.cg_form.specs.Game.{Game}
use Rattle.cg_form.specs.Heights.{height}
use Rattle.cg_form.specs.Simple.{Decided, Decides}
use Rattle.cg_form.specs.Walls.{MeetAt, scaffold_of}
use Rattle.cg_form.proofs.Thermal.{cools, scaffold-unique}
use Rattle.cg_form.proofs.Walls.{walls-unique}
use Rattle.cg_walls.specs.Corners.{corners}
use Rattle.cg_thermo.specs.Pictures.{left_corners, right_corners, spot}
use Rattle.cg_thermo.specs.Thermal.{MastFrom}

module _ (d e : Decides) (s : ℕ) (g : Game) where
  pub cool-unique : Cool (scaffold_of d s g) → Cool (scaffold_of e s g)
  cool-unique = subst Cool (scaffold-unique d e s g)

  pub mast-unique : (end : ℕ) → MastFrom d s g end → MastFrom e s g end
  mast-unique end m = record { number = m.number; other = λ never. subst (λ f. MeetAt f end) (scaffold-unique d e s g) (m.other never) }

  pub left-unique : (end : ℕ) → left_corners d s g end ≡ left_corners e s g end
  unfolding left_corners
  left-unique end i = map (spot s) (corners (λ t. (walls-unique d e s t g i).left) end)

  pub right-unique : (end : ℕ) → right_corners d s g end ≡ right_corners e s g end
  unfolding right_corners
  right-unique end i = map (spot s) (corners (λ t. (walls-unique d e s t g i).right) end)

-- ---- where the mast begins, at a scale of at least the height

pub record Mast (d : Decides) (s : ℕ) (g : Game) : Type 0 where
  pub end : ℕ
  pub from : MastFrom d s g end

pub mast : (d : Decides) (s : ℕ) (g : Game) → height g ≤ s → Mast d s g
mast d s g h = by (d g)
  where
    by : Decided g → Mast d s g
    by (inl w) = record {
      end = 0;
      from = record { number = λ y f. refl; other = λ never. absurd (never w.0 w.1) };
    }
    by (inr never) =
        let c = cools d s g h never in record {
          end = c.at;
          from = record { number = λ y f. absurd (never y f); other = λ k. c.is };
        }
