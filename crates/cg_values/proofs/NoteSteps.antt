-- Cells of boards, and the values that are noted on them.
use Rattle.std.proofs.Common.{◌≡◌, ◌≢◌, ℕ, true, List, [], ◌∷◌, ◌++◌, Some, Result, Ok, Err, ap, ◌∙◌}
use Rattle.std.specs.Prelude.{OnOk}
use Rattle.std.proofs.lemmas.List.Elements.{All-push, All-weaker}
use Rattle.cg_cells.specs.Meaning.{Grows, Has, note_for}
use Rattle.cg_cells.specs.Store.{IsSublist, State, thing_at}
use Rattle.cg_form.specs.Game.{Game}
use Rattle.cg_nodes.specs.Boards.{AreWritten}
use Rattle.cg_nodes.specs.Can.{can}
use Rattle.cg_nodes.specs.Meant.{Meant, board, form}
use Rattle.cg_nodes.specs.Spelled.{game_meaning}
use Rattle.cg_moves.specs.Grid.{Grid, IsGrid}
use Rattle.cg_moves.specs.Raw.{raw}
use Rattle.cg_moves.specs.Rules.{GameRules}
use Rattle.cg_values.specs.Notes.{AreNoted, IsCellOf, IsNoted, IsNumbered, places}

module _ {R : Type 0} (s : State Meant R) (r : GameRules) where
  pub cell-of : (p : Grid) (cell number rows columns : ℕ) (contents : List ℕ) → number ≡ r.number → rows ≡ p.rows
      → columns ≡ p.columns → AreWritten (places p.symbols p.cells) contents
      → thing_at s cell ≡ Some (board number rows columns contents) → IsCellOf s r p cell
  cell-of p cell number rows columns contents a b c w e = record {
    contents = contents;
    written = w;
    stands = e ∙ (λ i. Some (board (a i) (b i) (c i) contents));
  }

  -- the note on the cell of a board is the board's value
  pub note-due : (f : ℕ → ℕ → ℕ → List ℕ → Game) (p : Grid) (cell : ℕ) → IsNumbered f r → IsGrid p → r.has p ≡ true
      → IsCellOf s r p cell → note_for (game_meaning f) (thing_at s cell) ≡ Some (form (can (raw r p)))
  note-due f p cell numbered g has at =
      ap (note_for (game_meaning f)) at.stands
      ∙ ap (λ z. Some (form (can z))) (numbered.forms p g has at.contents at.written)

  pub noted-more : (ps : List Grid) (p : Grid) → AreNoted s r ps → (r.number ≢ 0 → IsNoted s r p)
      → AreNoted s r (ps ++ (p ∷ []))
  noted-more ps p are last = λ some. All-push (IsNoted s r) ps p (are some) (last some)

module _ {R Q : Type 0} (s : State Meant R) (t : State Meant Q) (r : GameRules) (grows : Grows (thing_at s) (thing_at t)) where
  -- a cell on which a value is noted by now
  pub noted-then : (p : Grid) (cell : ℕ) → IsCellOf s r p cell → Has t.noted cell → IsNoted t r p
  noted-then p cell at has = record {
    cell = cell;
    known = record { contents = at.contents; written = at.written; stands = grows cell _ at.stands };
    noted = has;
  }

  pub noted-later : (ps : List Grid) → IsSublist s.noted t.noted → AreNoted s r ps → AreNoted t r ps
  noted-later ps more are = λ some. All-weaker (IsNoted s r) (IsNoted t r)
      (λ p one. noted-then p one.cell one.known (more one.cell one.noted)) ps (are some)

pub on_ok_any : {T E A : Type 0} (q : Result T E) → A → OnOk q A
on_ok_any (Ok x) a = a
on_ok_any (Err e) a = tt
