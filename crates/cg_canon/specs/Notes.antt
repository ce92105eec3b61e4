-- The cells on which canonical forms are noted.
use Rattle.std.specs.Prelude.{◌≡◌, ℕ, Some}
use Rattle.cg_cells.specs.Meaning.{Meaning, note_for}
use Rattle.cg_cells.specs.Store.{Known, State, thing_at}
use Rattle.cg_form.specs.Game.{Game}
use Rattle.cg_nodes.specs.Can.{can}
use Rattle.cg_nodes.specs.Meant.{Meant, form}

-- the cell is one on which the canonical form of the game is noted, and no other
abbrev pub IsNoteOf : {R : Type 0} → Meaning Meant → State Meant R → ℕ → Game → Type 0
IsNoteOf {R} meaning s id g = Known s id × (note_for meaning (thing_at s id) ≡ Some (form (can g)))
