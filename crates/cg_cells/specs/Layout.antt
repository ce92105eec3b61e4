-- How the parts of a key stand in its word. Bits are counted from 0, the least; the kind stands in bits 61 to 63.
use Rattle.std.specs.Prelude.{◌≡◌, Bool, true, false, ℕ, ℤ, pos, negsuc, ◌+◌, ◌-◌, ◌*◌, ◌%◌, ◌^◌, ◌<◌, ◌≤◌, ◌⊎◌, Option, Some, None, unsigned_abs}
use Rattle.cg_cells.specs.declared.key.KeyParts.{KeyParts}
use Rattle.cg_cells.specs.declared.key.KeyParts.TheVariants.{Number, Chunk, Cons, Game, Pair, Board, Long}

-- a numerator in 53 bits of two's complement: -1 is 2 ^ 53 - 1
abbrev pub num_field : ℤ → ℕ
num_field (pos n) = n
num_field (negsuc n) = 2 ^ 53 - 1 - n

-- an id plus 1, and 0 for no id
abbrev pub id_field : Option ℕ → ℕ
id_field None = 0
id_field (Some id) = id + 1

-- 1 for a negative number
abbrev pub sign_field : Bool → ℕ
sign_field true = 1
sign_field false = 0

-- the word of a key
abbrev pub word_of : KeyParts → ℕ
word_of (Number num exp) = 1 * 2 ^ 61 + 2 ^ 53 * exp + num_field num
word_of (Chunk content next) = 2 * 2 ^ 61 + 2 ^ 32 * id_field next + content
word_of (Cons first rest) = 3 * 2 ^ 61 + 2 ^ 27 * id_field rest + (first + 1)
word_of (Game lefts rights) = 4 * 2 ^ 61 + 2 ^ 27 * id_field rights + id_field lefts
word_of (Pair low high) = 5 * 2 ^ 61 + 2 ^ 27 * (high + 1) + (low + 1)
word_of (Board number rows columns first) =
    6 * 2 ^ 61 + 2 ^ 54 * number + 2 ^ 47 * rows + 2 ^ 40 * columns + (first + 1)
word_of (Long first exp negative) = 7 * 2 ^ 61 + 2 ^ 33 * sign_field negative + 2 ^ 27 * exp + (first + 1)

-- below 2 ^ 52 in size
abbrev pub NumFits : ℤ → Type 0
NumFits n = unsigned_abs n < 2 ^ 52

-- what a key asks of its fields: a number in lowest terms, a game with a list, a lesser id first, a board with cells, a long
-- number's exponent
abbrev pub FieldsFit : KeyParts → Type 0
FieldsFit (Number num exp) = NumFits num × (exp ≤ 31) × ((exp ≡ 0) ⊎ (unsigned_abs num % 2 ≡ 1))
FieldsFit (Chunk content next) = Unit {0}
FieldsFit (Cons first rest) = Unit {0}
FieldsFit (Game lefts rights) = 1 ≤ id_field lefts + id_field rights
FieldsFit (Pair low high) = low ≤ high
FieldsFit (Board number rows columns first) =
    (1 ≤ number) × (number ≤ 15) × (1 ≤ rows) × (rows ≤ 64) × (1 ≤ columns) × (columns ≤ 64)
FieldsFit (Long first exp negative) = exp ≤ 40

abbrev pub IsLink : Option ℕ → Type 0
IsLink None = Unit {0}
IsLink (Some id) = id < 2 ^ 26

-- what the types of its fields say of any value
abbrev pub TypesFit : KeyParts → Type 0
TypesFit (Number num exp) = Unit {0}
TypesFit (Chunk content next) = (content < 2 ^ 32) × IsLink next
TypesFit (Cons first rest) = (first < 2 ^ 26) × IsLink rest
TypesFit (Game lefts rights) = IsLink lefts × IsLink rights
TypesFit (Pair low high) = (low < 2 ^ 26) × (high < 2 ^ 26)
TypesFit (Board number rows columns first) = first < 2 ^ 26
TypesFit (Long first exp negative) = first < 2 ^ 26
