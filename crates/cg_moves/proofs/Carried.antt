-- Facts on lists of cells, on results, and on what is told of the boards that play comes to, along equations.
use Rattle.std.proofs.Common.{◌≡◌, ℕ, List, Result, Ok, Err, sym, subst, ◌∙◌, ◌<◌, ◌≤◌, length}
use Rattle.std.specs.Prelude.{IfOk, OnOk}
use Rattle.cg_moves.specs.Grid.{AreCells, Grid}
use Rattle.cg_moves.specs.declared.fault.ReachFault.{ReachFault}
use Rattle.cg_moves.specs.declared.fault.ReachFault.TheVariants.{Positions}
use Rattle.cg_moves.specs.declared.graph.PositionGraph.{PositionGraph}
use Rattle.cg_moves.specs.Graph.{StandAt}

pub carry_cells : (symbols others cells same : List ℕ) → others ≡ symbols → same ≡ cells → AreCells symbols cells → AreCells others same
carry_cells symbols others cells same e f h = subst (λ (z : List ℕ). AreCells z same) (sym e) (subst (λ (z : List ℕ). AreCells symbols z) (sym f) h)

-- what a result is, along an equation
pub ok_along : {X E : Type 0} (r : Result X E) (a b : X) → a ≡ b → IfOk r (λ x. x ≡ a) → IfOk r (λ x. x ≡ b)
ok_along (Ok x) a b e h = h ∙ e
ok_along (Err f) a b e h = tt

pub ok_is : {X E : Type 0} (a b : X) → ◌≡◌ {A = Result X E} (Ok a) (Ok b) → a ≡ b
ok_is a b e = cc

-- what an Ok tells
pub if_ok : {A E : Type 0} (P Q : A → Type 0) (r : Result A E) → ((x : A) → P x → Q x) → IfOk r P → IfOk r Q
if_ok P Q (Ok x) f h = f x h
if_ok P Q (Err x) f h = tt

pub ok_any : {A E : Type 0} (Q : Type 0) (r : Result A E) → Q → IfOk r (λ _. Q)
ok_any Q (Ok x) h = h
ok_any Q (Err x) h = tt

-- these are the boards, within the limit, and the first ones stand among them; or there are too many
pub record IsReach (result : Result PositionGraph ReachFault) (limit : ℕ) (list first : List Grid) : Type 0 where
  pub boards : IfOk result (λ graph. graph.boards ≡ list)
  pub starts : IfOk result (λ graph. StandAt graph.boards graph.starts.items first)
  pub within : OnOk result (length list ≤ limit)
  pub refused : result ≡ Err Positions → limit < length list

pub reach-along : (result : Result PositionGraph ReachFault) (limit : ℕ) (list reach first starts : List Grid) → reach ≡ list
    → first ≡ starts → IfOk result (λ graph. graph.boards ≡ list)
    → IfOk result (λ graph. StandAt graph.boards graph.starts.items first) → OnOk result (length list ≤ limit)
    → (result ≡ Err Positions → limit < length list) → IsReach result limit reach starts
reach-along result limit list reach first starts e f boards stand within refused =
    rw (← f) (rw e (record { boards = boards; starts = stand; within = within; refused = refused }))
