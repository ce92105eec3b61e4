-- What reading a text says of the board.
use Rattle.std.proofs.Common.{◌≡◌, ℕ, ◌⊎◌, inl, inr, false, List, Result, Ok, Err}
use Rattle.std.specs.Prelude.{IfOk, IfErr}
use Rattle.std.specs.Cmp.Lexicographic.{bytes_decides}
use Rattle.cg_moves.specs.declared.fault.BoardFault.{BoardFault}
use Rattle.cg_moves.specs.declared.fault.BoardFault.TheVariants.{Symbol, Empty, Ragged, Large, Rules, Lowering, Memory}
use Rattle.cg_moves.specs.Grid.{Grid}
use Rattle.cg_moves.specs.Texts.{read_of}
use Rattle.cg_amazons.specs.Boards.{amazons_symbols, IsAmazonsBoard, IsNoAmazonsBoard}

pub board_read : (text : List ℕ) (r : Result Grid BoardFault) → IfOk r (λ p. read_of amazons_symbols false text ≡ Ok p) → IfOk r (λ p. p.symbols
    ≡ amazons_symbols) → IfOk r (IsAmazonsBoard text)
board_read text (Ok p) e s = record { read = e; game = (bytes_decides p.symbols amazons_symbols).1 s }
board_read text (Err f) e s = tt

pub board_refused : (text : List ℕ) (r : Result Grid BoardFault) → IfErr r (λ f. (f ≡ Memory) ⊎ (read_of amazons_symbols false text ≡ Err f)) →
    IfErr r (IsNoAmazonsBoard text)
board_refused text (Ok p) e = tt
board_refused text (Err Memory) e = tt
board_refused text (Err (Symbol k)) e = elim e [ inl f ↦ absurd cc | inr f ↦ f ]
board_refused text (Err (Empty k)) e = elim e [ inl f ↦ absurd cc | inr f ↦ f ]
board_refused text (Err (Ragged k)) e = elim e [ inl f ↦ absurd cc | inr f ↦ f ]
board_refused text (Err (Large k)) e = elim e [ inl f ↦ absurd cc | inr f ↦ f ]
board_refused text (Err (Rules k)) e = elim e [ inl f ↦ absurd cc | inr f ↦ f ]
board_refused text (Err (Lowering k)) e = elim e [ inl f ↦ absurd cc | inr f ↦ f ]
