-- Canonical games from what either side sees of them.
use Rattle.std.proofs.Common.{◌≡◌, List, Bool, true, false}
use Rattle.cg_form.specs.Canonical.{Canonical, Reduced}
use Rattle.cg_form.specs.Game.{Among, Game, node}
use Rattle.cg_form.specs.Side.{AtMost, far, near}
use Rattle.cg_form.specs.Simple.{NoNumber}
use Rattle.cg_form.specs.Structure.{Rises}
use Rattle.cg_form.proofs.Reduced.{all_canonical}

-- of the options of a side none is no better than another or reversible, and they rise
pub record SideReduced (s : Bool) (g : Game) : Type 0 where
  pub apart : (a b : Game) → Among a (near s g) → Among b (near s g) → AtMost s a b → a ≡ b
  pub stays : (a b : Game) → Among a (near s g) → Among b (far s a) → ¬ AtMost s b g
  pub rises : Rises (near s g)

-- a game that is so on both sides and equals no number is reduced
reduced_both : (g : Game) → SideReduced true g → SideReduced false g → NoNumber g → Reduced g
reduced_both g l r n = record {
  left_undominated = λ a m d. d.other (l.apart a d.by m d.option d.worse);
  right_undominated = λ a m d. d.other (r.apart a d.by m d.option d.worse);
  left_irreversible = λ a m d. l.stays a d.through m d.answer d.back;
  right_irreversible = λ a m d. r.stays a d.through m d.answer d.back;
  lefts_rise = l.rises;
  rights_rise = r.rises;
  no_number = n;
}

pub canonical_node : (ls rs : List Game) → SideReduced true (node ls rs) → SideReduced false (node ls rs)
    → NoNumber (node ls rs) → ((a : Game) → Among a ls → Canonical a) → ((b : Game) → Among b rs → Canonical b)
    → Canonical (node ls rs)
canonical_node ls rs l r n f h = (reduced_both (node ls rs) l r n, all_canonical ls f, all_canonical rs h)
