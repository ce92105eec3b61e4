-- The text of the sample: a session of n lines, each made from its number.
use Rattle.std.specs.Prelude.{◌+◌, ◌*◌, ◌%◌, ◌==◌, if◌then◌else◌, ◌++◌, ◌∷◌, [], ℕ, List, zero, suc, codes, take}
use Rattle.std.specs.Fmt.{decimal}

abbrev pub Text : Type 0
Text = List ℕ

-- n dots
abbrev pub dots : ℕ → Text
dots zero = []
dots (suc n) = 46 ∷ dots n

-- the line of a Domineering board of two such rows
abbrev pub grid_line : Text → Text
grid_line row = codes "value Domineering(\"" ++ row ++ codes "|" ++ row ++ codes "\")"

-- the line without its LF, by what its number leaves when divided by 6, and by two numbers
abbrev pub line_by : ℕ → ℕ → ℕ → Text
line_by k a b =
    if k == 1 then codes "value {" ++ decimal a ++ codes "|-" ++ decimal b ++ codes "}"
    else if k == 2 then codes "value ^" ++ decimal a ++ codes " + *"
    else if k == 3 then codes "compare ^" ++ decimal a ++ codes " ; *" ++ decimal b
    else if k == 4
    then codes "temp {" ++ decimal a ++ codes "||" ++ decimal b ++ codes "|-" ++ decimal a ++ codes "}"
    else if k == 5
    then codes "outcome Clobber(\"" ++ take (a % 3 + 2) (codes "xoxo") ++ codes "\")"
    else grid_line (dots (a % 3 + 1))

-- line i, with its LF
abbrev pub line_of : ℕ → Text
line_of i = line_by (i % 6) (i % 5) (i * i % 7) ++ 10 ∷ []

-- lines 1 to n
unfoldable pub sample_text : ℕ → Text
sample_text zero = []
sample_text (suc n) = sample_text n ++ line_of (suc n)
