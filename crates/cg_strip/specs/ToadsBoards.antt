-- Boards of Toads and Frogs, and why a text is none.
use Rattle.std.specs.Prelude.{ℕ, ◌≡◌, true, List, [], ◌∷◌, Ok, Err}
use Rattle.cg_moves.specs.declared.fault.BoardFault.{BoardFault}
use Rattle.cg_moves.specs.declared.fault.BoardFault.TheVariants as faults
use Rattle.cg_moves.specs.Grid.{Grid}
use Rattle.cg_moves.specs.Texts.{read_of}
use Rattle.cg_strip.specs.Toads.{empty, toad, frog, toads_game}

abbrev pub toads_symbols : List ℕ
toads_symbols = empty ∷ toad ∷ frog ∷ []

-- the text reads as this row
pub record IsToadsBoard (text : List ℕ) (p : Grid) : Type 0 where
  pub read : read_of toads_symbols true text ≡ Ok p
  pub game : toads_game.has p ≡ true

abbrev pub IsNoToadsBoard : List ℕ → BoardFault → Type 0
IsNoToadsBoard text faults.Memory = Unit {0}
IsNoToadsBoard text fault = read_of toads_symbols true text ≡ Err fault
