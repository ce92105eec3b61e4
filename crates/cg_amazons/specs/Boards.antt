-- Boards of Amazons, and why a text is none.
use Rattle.std.specs.Prelude.{ℕ, ◌≡◌, true, false, List, [], ◌∷◌, Ok, Err}
use Rattle.cg_moves.specs.declared.fault.BoardFault.{BoardFault}
use Rattle.cg_moves.specs.declared.fault.BoardFault.TheVariants as faults
use Rattle.cg_moves.specs.declared.player.Player.TheVariants.{Left, Right}
use Rattle.cg_moves.specs.Grid.{Grid}
use Rattle.cg_moves.specs.Texts.{read_of}
use Rattle.cg_amazons.specs.Amazons.{empty, blocked, queen, amazons}

abbrev pub amazons_symbols : List ℕ
amazons_symbols = empty ∷ queen Left ∷ queen Right ∷ blocked ∷ []

-- the text reads as this board
pub record IsAmazonsBoard (text : List ℕ) (p : Grid) : Type 0 where
  pub read : read_of amazons_symbols false text ≡ Ok p
  pub game : amazons.has p ≡ true

abbrev pub IsNoAmazonsBoard : List ℕ → BoardFault → Type 0
IsNoAmazonsBoard text faults.Memory = Unit {0}
IsNoAmazonsBoard text fault = read_of amazons_symbols false text ≡ Err fault
