-- The parts of a word, and the ids that a key names.
use Rattle.std.specs.Prelude.{ℕ, zero, suc, ℤ, pos, negsuc, ◌+◌, ◌-◌, ◌/◌, ◌%◌, ◌^◌, ◌==◌, ◌&&◌, ◌||◌, Bool}
use Rattle.std.specs.Prelude.{true, if◌then◌else◌, Option, Some, None, List, [], ◌∷◌, unsigned_abs, nat_lt}
use Rattle.cg_cells.specs.declared.key.KeyParts.{KeyParts}
use Rattle.cg_cells.specs.declared.key.KeyParts.TheVariants.{Number, Chunk, Cons, Game, Pair, Board, Long}
use Rattle.cg_cells.specs.Layout.{word_of, id_field}

-- the numerator in a field of 53 bits
abbrev pub num_at : ℕ → ℤ
num_at field = if nat_lt field (2 ^ 52) then pos field else negsuc (2 ^ 53 - 1 - field)

-- the id in a field
abbrev pub link_at : ℕ → Option ℕ
link_at zero = None
link_at (suc id) = Some id

-- the fields of a kind in the lower 61 bits
abbrev pub fields_at : ℕ → ℕ → Option KeyParts
fields_at kind low =
    if kind == 1 then Some (Number (num_at (low % 2 ^ 53)) (low / 2 ^ 53))
    else if kind == 2 then Some (Chunk (low % 2 ^ 32) (link_at (low / 2 ^ 32)))
    else if kind == 3 then Some (Cons (low % 2 ^ 27 - 1) (link_at (low / 2 ^ 27)))
    else if kind == 4 then Some (Game (link_at (low % 2 ^ 27)) (link_at (low / 2 ^ 27)))
    else if kind == 5 then Some (Pair (low % 2 ^ 27 - 1) (low / 2 ^ 27 - 1))
    else if kind == 6 then Some (Board (low / 2 ^ 54) (low / 2 ^ 47 % 2 ^ 7) (low / 2 ^ 40 % 2 ^ 7) (low % 2 ^ 40 - 1))
    else if kind == 7 then Some (Long (low % 2 ^ 27 - 1) (low / 2 ^ 27 % 2 ^ 6) (low / 2 ^ 33 == 1))
    else None

abbrev pub num_fits : ℤ → Bool
num_fits n = nat_lt (unsigned_abs n) (2 ^ 52)

abbrev pub is_link : Option ℕ → Bool
is_link None = true
is_link (Some id) = nat_lt id (2 ^ 26)

-- whether the fields fit and the ids are below 2 ^ 26
abbrev pub fits : KeyParts → Bool
fits (Number num exp) = num_fits num && nat_lt exp 32 && ((exp == 0) || (unsigned_abs num % 2 == 1))
fits (Chunk content next) = nat_lt content (2 ^ 32) && is_link next
fits (Cons first rest) = nat_lt first (2 ^ 26) && is_link rest
fits (Game lefts rights) = is_link lefts && is_link rights && nat_lt 0 (id_field lefts + id_field rights)
fits (Pair low high) = nat_lt low (high + 1) && nat_lt high (2 ^ 26)
fits (Board number rows columns first) =
    nat_lt 0 number && nat_lt number 16 && nat_lt 0 rows && nat_lt rows 65 && nat_lt 0 columns && nat_lt columns 65
    && nat_lt first (2 ^ 26)
fits (Long first exp negative) = nat_lt exp 41 && nat_lt first (2 ^ 26)

abbrev pub kept_at : ℕ → Option KeyParts → Option KeyParts
kept_at word None = None
kept_at word (Some parts) = if fits parts && (word_of parts == word) then Some parts else None

-- the parts whose word this is
unfoldable pub parts_of : ℕ → Option KeyParts
parts_of word = kept_at word (fields_at (word / 2 ^ 61) (word % 2 ^ 61))

abbrev pub link_names : Option ℕ → List ℕ
link_names None = []
link_names (Some id) = id ∷ []

-- the ids in the fields
abbrev pub named_in : Option KeyParts → List ℕ
named_in None = []
named_in (Some (Number num exp)) = []
named_in (Some (Chunk content next)) = link_names next
named_in (Some (Cons first rest)) = first ∷ link_names rest
named_in (Some (Game None rights)) = link_names rights
named_in (Some (Game (Some left) rights)) = left ∷ link_names rights
named_in (Some (Pair low high)) = low ∷ high ∷ []
named_in (Some (Board number rows columns first)) = first ∷ []
named_in (Some (Long first exp negative)) = first ∷ []

-- the ids that a key names: those in its fields
abbrev pub names_of : ℕ → List ℕ
names_of word = named_in (parts_of word)
