-- What follows from what a key spells. These lemmas stand here since the laws of the facts rest on them.
use Rattle.std.specs.Prelude.{◌≡◌, ℕ, ◌+◌, ◌*◌, ◌^◌, Option, Some, None, List, [], ◌∷◌, Bool, true, false, refl}
use Rattle.cg_dyadic.specs.Number.{ratio}
use Rattle.cg_form.specs.Game.{Game, number, node}
use Rattle.cg_form.specs.Canonical.{Canonical}
use Rattle.cg_nodes.specs.Can.{is_canonical}
use Rattle.cg_cells.specs.declared.key.KeyParts.{KeyParts}
use Rattle.cg_cells.specs.declared.key.KeyParts.TheVariants as key
use Rattle.cg_nodes.specs.CanLaw.{is_canonical-back}
use Rattle.cg_nodes.specs.Meant.{Meant, form, list, contents, pair, board}
use Rattle.cg_nodes.specs.Boards.{are_of_board}
use Rattle.cg_nodes.specs.LongKeysLaw.{IsLongWritten, long_written}
use Rattle.cg_nodes.specs.Longs.{is_long_written, num_in}
use Rattle.cg_nodes.specs.Spelled.{Map, form_in, list_in, contents_in, list_at, contents_at, longer, longer_by}
use Rattle.cg_nodes.specs.Spelled.{form_if, game_of_lists, pair_of, board_if, board_of, long_of, spelled}

pub form_in-back : (o : Option Meant) (g : Game) → form_in o ≡ Some g → o ≡ Some (form g)
form_in-back None g e = cc
form_in-back (Some (form h)) g e = cc
form_in-back (Some (list gs)) g e = cc
form_in-back (Some (contents cs)) g e = cc
form_in-back (Some (pair a b)) g e = cc
form_in-back (Some (board n r c cs)) g e = cc

pub list_in-back : (o : Option Meant) (gs : List Game) → list_in o ≡ Some gs → o ≡ Some (list gs)
list_in-back None gs e = cc
list_in-back (Some (form h)) gs e = cc
list_in-back (Some (list [])) gs e = cc
list_in-back (Some (list (h ∷ hs))) gs e = cc
list_in-back (Some (contents cs)) gs e = cc
list_in-back (Some (pair a b)) gs e = cc
list_in-back (Some (board n r c cs)) gs e = cc

pub list_in-none : (o : Option Meant) → list_in o ≡ Some [] → ⊥
list_in-none None e = cc
list_in-none (Some (form h)) e = cc
list_in-none (Some (list [])) e = cc
list_in-none (Some (list (h ∷ hs))) e = cc
list_in-none (Some (contents cs)) e = cc
list_in-none (Some (pair a b)) e = cc
list_in-none (Some (board n r c cs)) e = cc

pub contents_in-back : (o : Option Meant) (gs : List ℕ) → contents_in o ≡ Some gs → o ≡ Some (contents gs)
contents_in-back None gs e = cc
contents_in-back (Some (form h)) gs e = cc
contents_in-back (Some (contents [])) gs e = cc
contents_in-back (Some (contents (h ∷ hs))) gs e = cc
contents_in-back (Some (list cs)) gs e = cc
contents_in-back (Some (pair a b)) gs e = cc
contents_in-back (Some (board n r c cs)) gs e = cc

pub contents_in-none : (o : Option Meant) → contents_in o ≡ Some [] → ⊥
contents_in-none None e = cc
contents_in-none (Some (form h)) e = cc
contents_in-none (Some (contents [])) e = cc
contents_in-none (Some (contents (h ∷ hs))) e = cc
contents_in-none (Some (list cs)) e = cc
contents_in-none (Some (pair a b)) e = cc
contents_in-none (Some (board n r c cs)) e = cc

-- what holds where the parts spell t under f
abbrev pub Inverse : KeyParts → Map → Meant → Type 0
Inverse (key.Number num exp) f t = t ≡ form (number (ratio num exp))
Inverse (key.Chunk c next) f t = (cs : List ℕ) × (t ≡ contents (c ∷ cs)) × (contents_at f next ≡ Some cs)
Inverse (key.Cons first rest) f t = (g : Game) × (gs : List Game) × (t ≡ list (g ∷ gs)) × (f first ≡ Some (form g)) ×
    (list_at f rest ≡ Some gs)
Inverse (key.Game l r) f t = (ls : List Game) × (rs : List Game) × (t ≡ form (node ls rs)) × (list_at f l ≡ Some ls)
    × (list_at f r ≡ Some rs) × Canonical (node ls rs)
Inverse (key.Pair low high) f t = (g : Game) × (h : Game) × (t ≡ pair g h) × (f low ≡ Some (form g)) × (f high ≡ Some
    (form h))
Inverse (key.Board n r c first) f t = (cs : List ℕ) × (t ≡ board n r c cs) × (f first ≡ Some (contents cs))
Inverse (key.Long first exp negative) f t = (low : ℕ) × (high : ℕ)
    × (t ≡ form (number (ratio (num_in negative (low + 2 ^ 32 * high)) exp)))
    × (f first ≡ Some (contents (low ∷ high ∷ []))) × IsLongWritten negative exp low high

chunk_back : (c : ℕ) (o : Option (List ℕ)) (t : Meant) → longer_by c o ≡ Some t
    → (cs : List ℕ) × (t ≡ contents (c ∷ cs)) × (o ≡ Some cs)
chunk_back c None t e = cc
chunk_back c (Some cs) t e = (cs, cc, refl)

cons_back : (o : Option Game) (p : Option (List Game)) (t : Meant) → longer o p ≡ Some t
    → (g : Game) × (gs : List Game) × (t ≡ list (g ∷ gs)) × (o ≡ Some g) × (p ≡ Some gs)
cons_back None p t e = cc
cons_back (Some g) None t e = cc
cons_back (Some g) (Some gs) t e = (g, gs, cc, refl, refl)

form_if_back : (g : Game) (b : Bool) (t : Meant) → form_if g b ≡ Some t → (t ≡ form g) × (b ≡ true)
form_if_back g true t e = (cc, refl)
form_if_back g false t e = cc

game_back : (o p : Option (List Game)) (t : Meant) → game_of_lists o p ≡ Some t
    → (ls : List Game) × (rs : List Game) × (t ≡ form (node ls rs)) × (o ≡ Some ls) × (p ≡ Some rs) × Canonical (node
    ls rs)
game_back None p t e = cc
game_back (Some ls) None t e = cc
game_back (Some ls) (Some rs) t e =
    let i = form_if_back (node ls rs) (is_canonical (node ls rs)) t e in
    (ls, rs, i.0, refl, refl, is_canonical-back (node ls rs) i.1)

pair_back : (o p : Option Game) (t : Meant) → pair_of o p ≡ Some t
    → (g : Game) × (h : Game) × (t ≡ pair g h) × (o ≡ Some g) × (p ≡ Some h)
pair_back None p t e = cc
pair_back (Some g) None t e = cc
pair_back (Some g) (Some h) t e = (g, h, cc, refl, refl)

pub board_if_back : (n r c : ℕ) (cs : List ℕ) (b : Bool) (t : Meant) → board_if n r c cs b ≡ Some t
    → (t ≡ board n r c cs) × (b ≡ true)
board_if_back n r c cs true t e = (cc, refl)
board_if_back n r c cs false t e = cc

board_back : (n r c : ℕ) (o : Option (List ℕ)) (t : Meant) → board_of n r c o ≡ Some t
    → (cs : List ℕ) × (t ≡ board n r c cs) × (o ≡ Some cs)
board_back n r c None t e = cc
board_back n r c (Some cs) t e = (cs, (board_if_back n r c cs (are_of_board n r c cs) t e).0, refl)

pub long_back : (negative : Bool) (exp : ℕ) (o : Option (List ℕ)) (t : Meant) → long_of negative exp o ≡ Some t
    → (low : ℕ) × (high : ℕ) × (t ≡ form (number (ratio (num_in negative (low + 2 ^ 32 * high)) exp)))
    × (o ≡ Some (low ∷ high ∷ [])) × IsLongWritten negative exp low high
long_back negative exp None t e = cc
long_back negative exp (Some []) t e = cc
long_back negative exp (Some (low ∷ [])) t e = cc
long_back negative exp (Some (low ∷ high ∷ [])) t e =
    let (a, b) = form_if_back (number (ratio (num_in negative (low + 2 ^ 32 * high)) exp)) (is_long_written negative exp low high) t e in
    (low, high, a, refl, long_written negative exp low high b)
long_back negative exp (Some (low ∷ high ∷ c ∷ cs)) t e = cc

pub inverse : (p : KeyParts) (f : Map) (t : Meant) → spelled (Some p) f ≡ Some t → Inverse p f t
inverse (key.Number num exp) f t e = cc
inverse (key.Chunk c next) f t e = chunk_back c (contents_at f next) t e
inverse (key.Cons first rest) f t e =
    let h = cons_back (form_in (f first)) (list_at f rest) t e in
    (h.0, h.1, h.2, form_in-back (f first) h.0 h.3, h.4)
inverse (key.Game l r) f t e = game_back (list_at f l) (list_at f r) t e
inverse (key.Pair low high) f t e =
    let h = pair_back (form_in (f low)) (form_in (f high)) t e in
    (h.0, h.1, h.2, form_in-back (f low) h.0 h.3, form_in-back (f high) h.1 h.4)
inverse (key.Board n r c first) f t e =
    let h = board_back n r c (contents_in (f first)) t e in
    (h.0, h.1, contents_in-back (f first) h.0 h.2)
inverse (key.Long first exp negative) f t e =
    let h = long_back negative exp (contents_in (f first)) t e in
    (h.0, h.1, h.2, contents_in-back (f first) (h.0 ∷ h.1 ∷ []) h.3, h.4)
