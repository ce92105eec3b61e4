-- What a key spells under a map from ids to what they stand for: the thing of its kind that is made of its fields and of
-- what the ids in them stand for, or nothing.
use Rattle.std.specs.Prelude.{ℕ, ◌+◌, ◌*◌, ◌%◌, ◌^◌, ◌==◌, Bool, true, false, if◌then◌else◌, Option, Some, None, List, [], ◌∷◌}
use Rattle.cg_dyadic.specs.Number.{num_of, ratio}
use Rattle.cg_form.specs.Game.{Game, number, node, lefts, rights}
use Rattle.cg_form.specs.Sum.{sum}
use Rattle.cg_cells.specs.declared.key.KeyParts.{KeyParts}
use Rattle.cg_cells.specs.declared.key.KeyParts.TheVariants as key
use Rattle.cg_cells.specs.Parts.{parts_of}
use Rattle.cg_cells.specs.Meaning.{Meaning}
use Rattle.cg_nodes.specs.Can.{can, is_canonical}
use Rattle.cg_nodes.specs.Meant.{Meant, form, list, contents, pair, board}
use Rattle.cg_nodes.specs.Boards.{are_of_board}
use Rattle.cg_nodes.specs.Longs.{chunks_of, is_long_written, num_in}

abbrev pub Map : Type 0
Map = ℕ → Option Meant

abbrev pub form_in : Option Meant → Option Game
form_in None = None
form_in (Some (form g)) = Some g
form_in (Some _) = None

-- a list in a cell isn't empty
abbrev pub list_in : Option Meant → Option (List Game)
list_in None = None
list_in (Some (list (g ∷ gs))) = Some (g ∷ gs)
list_in (Some _) = None

abbrev pub contents_in : Option Meant → Option (List ℕ)
contents_in None = None
contents_in (Some (contents (c ∷ cs))) = Some (c ∷ cs)
contents_in (Some _) = None

-- no id is the empty list
abbrev pub list_at : Map → Option ℕ → Option (List Game)
list_at f None = Some []
list_at f (Some i) = list_in (f i)

abbrev pub contents_at : Map → Option ℕ → Option (List ℕ)
contents_at f None = Some []
contents_at f (Some i) = contents_in (f i)

abbrev pub longer : Option Game → Option (List Game) → Option Meant
longer (Some g) (Some gs) = Some (list (g ∷ gs))
longer (Some g) None = None
longer None gs = None

abbrev pub longer_by : ℕ → Option (List ℕ) → Option Meant
longer_by c (Some cs) = Some (contents (c ∷ cs))
longer_by c None = None

abbrev pub form_if : Game → Bool → Option Meant
form_if g true = Some (form g)
form_if g false = None

-- the game of the two lists, where it is canonical. So it equals no number, which would be written as a number
abbrev pub game_of_lists : Option (List Game) → Option (List Game) → Option Meant
game_of_lists (Some ls) (Some rs) = form_if (node ls rs) (is_canonical (node ls rs))
game_of_lists (Some ls) None = None
game_of_lists None rs = None

abbrev pub pair_of : Option Game → Option Game → Option Meant
pair_of (Some g) (Some h) = Some (pair g h)
pair_of (Some g) None = None
pair_of None h = None

abbrev pub board_if : ℕ → ℕ → ℕ → List ℕ → Bool → Option Meant
board_if n r c cs true = Some (board n r c cs)
board_if n r c cs false = None

-- the board of the contents, where they are those of a board of this game and size
abbrev pub board_of : ℕ → ℕ → ℕ → Option (List ℕ) → Option Meant
board_of n r c None = None
board_of n r c (Some cs) = board_if n r c cs (are_of_board n r c cs)

-- the long number of two chunks, where they are those of one
abbrev pub long_of : Bool → ℕ → Option (List ℕ) → Option Meant
long_of negative exp (Some (low ∷ high ∷ [])) =
    form_if (number (ratio (num_in negative (low + 2 ^ 32 * high)) exp)) (is_long_written negative exp low high)
long_of negative exp _ = None

abbrev pub spelled : Option KeyParts → Map → Option Meant
spelled None f = None
spelled (Some (key.Number num exp)) f = Some (form (number (ratio num exp)))
spelled (Some (key.Chunk c next)) f = longer_by c (contents_at f next)
spelled (Some (key.Cons first rest)) f = longer (form_in (f first)) (list_at f rest)
spelled (Some (key.Game ls rs)) f = game_of_lists (list_at f ls) (list_at f rs)
spelled (Some (key.Pair low high)) f = pair_of (form_in (f low)) (form_in (f high))
spelled (Some (key.Board n r c first)) f = board_of n r c (contents_in (f first))
spelled (Some (key.Long first exp negative)) f = long_of negative exp (contents_in (f first))

abbrev pub is_link_to : Option ℕ → ℕ → Bool
is_link_to None id = false
is_link_to (Some i) id = i == id

-- of a key, what it spells and an id that it names: what this id must stand for
abbrev pub part_of : Option KeyParts → Meant → ℕ → Meant
part_of (Some (key.Chunk c next)) (contents (d ∷ cs)) id = contents cs
part_of (Some (key.Cons first rest)) (list (g ∷ gs)) id = if first == id then form g else list gs
part_of (Some (key.Game ls rs)) (form g) id = if is_link_to ls id then list (lefts g) else list (rights g)
part_of (Some (key.Pair low high)) (pair g h) id = if low == id then form g else form h
part_of (Some (key.Board n r c first)) (board m s d cs) id = contents cs
part_of (Some (key.Long first exp negative)) (form (number x)) id = contents (chunks_of (num_of x))
part_of _ t id = t

-- what a note must spell, where raw gives the form of a board: for a pair the canonical form of the sum, and for a board that
-- of its form
abbrev pub note_in : (ℕ → ℕ → ℕ → List ℕ → Game) → Meant → Option Meant
note_in raw (pair g h) = Some (form (can (sum g h)))
note_in raw (board n r c cs) = Some (form (can (raw n r c cs)))
note_in raw _ = None

-- the home of a key in a table of this size
abbrev pub home_of : ℕ → ℕ → ℕ
home_of key size = key * 0x9E37_79B9_7F4A_7C15 % 2 ^ 64 % size

abbrev pub game_meaning : (ℕ → ℕ → ℕ → List ℕ → Game) → Meaning Meant
game_meaning raw = record {
  spells = λ k f. spelled (parts_of k) f;
  note_of = note_in raw;
  part = λ k. part_of (parts_of k);
  home = home_of;
}
