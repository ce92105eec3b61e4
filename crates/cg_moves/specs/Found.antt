-- Boards that were found, each with a number.
use Rattle.std.specs.Prelude.{◌≡◌, ◌≤◌, ℕ, zero, suc, List, [], ◌∷◌, length, map}
use Rattle.cg_moves.specs.declared.key.BoardKey.{BoardKey}
use Rattle.cg_moves.specs.Grid.{Grid}
use Rattle.cg_moves.specs.Rules.{In}
use Rattle.cg_moves.specs.Keys.{key_number, key_of}

-- the boards all have the same symbols
abbrev pub SameSymbols : List Grid → Type 0
SameSymbols ps = (p q : Grid) → In p ps → In q ps → p.symbols ≡ q.symbols

-- the board at this place, counted from 0, has this key
abbrev pub HasKeyAt : List Grid → ℕ → BoardKey → Type 0
HasKeyAt [] n key = ⊥
HasKeyAt (p ∷ ps) zero key = key_of p ≡ key
HasKeyAt (p ∷ ps) (suc n) key = HasKeyAt ps n key

-- the numbers of the keys of the boards
abbrev pub AreNumbers : List ℕ → List Grid → Type 0
AreNumbers numbers boards = numbers ≡ map (λ p. key_number (key_of p)) boards

-- the numbers of the boards fit in 32 bits
abbrev pub AreFew : List Grid → Type 0
AreFew boards = length boards ≤ 4294967296
