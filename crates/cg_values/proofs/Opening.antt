-- What was opened by pieces are the parts, where the rules cut.
use Rattle.std.proofs.Common.{◌≡◌, Bool, true, false, if◌then◌else◌, List, [], refl, ap, sym, subst, ◌∙◌, Result, Ok, Err, IfOk}
use Rattle.cg_moves.specs.declared.graph.PositionGraph.{PositionGraph}
use Rattle.cg_moves.specs.declared.pieces.Pieces.TheVariants.{Whole, Cut}
use Rattle.cg_moves.specs.Cutting.{cutting}
use Rattle.cg_moves.specs.Grid.{Grid}
use Rattle.cg_moves.specs.Graph.{AreNext, StandAt, uncut}
use Rattle.cg_moves.specs.PieceReach.{piece_reach_of}
use Rattle.cg_moves.specs.Reach.{reach_of}
use Rattle.cg_moves.specs.Rules.{GameRules, cuts, pieces}
use Rattle.cg_values.specs.Parts.{IsOpened}

cut_by : (b : Bool) (ps own : List Grid) → (if b then Cut ps else Whole) ≡ Cut own → b ≡ true
cut_by true ps own e = refl
cut_by false ps own e = absurd cc

-- rules that answer pieces cut
pub cuts_there : (r : GameRules) (p : Grid) (own : List Grid) → cutting r p ≡ Cut own → cuts r ≡ true
cuts_there r p own e = cut_by (cuts r) (pieces r p) own e

pub opened_by_pieces : {E : Type 0} (r : GameRules) (p : Grid) (result : Result PositionGraph E) → cuts r ≡ true
    → IfOk result (λ o. o.boards ≡ piece_reach_of r p)
    → IfOk result (λ o. AreNext r (pieces r) o.counts.items o.places.items [] o.boards o.next.items)
    → IfOk result (λ o. StandAt o.boards o.starts.items (pieces r p)) → IfOk result (IsOpened r p)
opened_by_pieces r p (Err e) c b n s = tt
opened_by_pieces r p (Ok o) c b n s = record {
  boards = b ∙ sym (ap (λ (z : Bool). if z then piece_reach_of r p else reach_of r p) c);
  next = subst (λ (z : Bool). AreNext r (if z then pieces r else uncut) o.counts.items o.places.items [] o.boards o.next.items) (sym c) n;
  starts = subst (λ (z : Bool). StandAt o.boards o.starts.items ((if z then pieces r else uncut) p)) (sym c) s;
}
