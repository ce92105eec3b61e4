-- The words of the command line.
use Rattle.std.specs.Prelude.{ℕ, List, [], ◌∷◌, ◌++◌, String, codes, map, string_bytes}

-- the words' bytes (A is their allocator)
abbrev pub texts : {A : Type 0} → List (String A) → List (List ℕ)
texts words = map string_bytes words

-- what is written where the words aren't accepted, with its LF
abbrev pub usage_line : List ℕ
usage_line = codes "usage: cg [--workers W] [--cells N] [--positions P] [--sample n]" ++ (10 ∷ [])
