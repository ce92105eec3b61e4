-- Shove is lawful. It stands here since the rules rest on it.
use Rattle.std.proofs.Common.{◌≡◌, refl, ℕ, zero, suc, ◌<◌, ◌≤◌, ◌==◌, Bool, true, false, if◌then◌else◌, List, [], ◌∷◌, ap, ◌∙◌, length, arith}
use Rattle.std.specs.Prelude.{slice_index}
use Rattle.std.specs.List.{insert}
use Rattle.std.proofs.lemmas.Bool.{eqb-true}
use Rattle.cg_moves.specs.declared.player.Player.{Player}
use Rattle.cg_moves.specs.declared.player.Player.TheVariants.{Left, Right}
use Rattle.cg_moves.specs.Grid.{Grid}
use Rattle.cg_moves.specs.Lawful.{IsLawful}
use Rattle.cg_moves.specs.Rising.{counted}
use Rattle.cg_moves.specs.Rules.{In}
use Rattle.cg_moves.proofs.Counted.{counted-below}
use Rattle.cg_moves.proofs.ForGames.{in-choice}
use Rattle.cg_moves.proofs.Members.{in-flat_map}
use Rattle.cg_example_game.specs.Shove.{empty, moves_at, piece, places, shove, shoved}

-- a move is a piece of the player that is shoved
is_shove : (player : Player) (p : Grid) (cells : List ℕ) → In cells (shove.moves player p)
    → (at : ℕ) × (at < length p.cells) × (slice_index p.cells at ≡ piece player) × (cells ≡ shoved p.cells at)
is_shove player p cells m =
    let (at, i, o) = in-flat_map (moves_at player p) cells (counted 0 (length p.cells)) m in
    let below = counted-below 0 (length p.cells) at i in
    let h = in-choice (slice_index p.cells at == piece player) cells (shoved p.cells at) o in
    (at, omega (arith, below), eqb-true (slice_index p.cells at) (piece player) h.0, h.1)

-- what a piece adds to the sum of the places, where it has this place
abbrev worth : ℕ → Bool → ℕ
worth place none = if none then 0 else place

worth-least : (place : ℕ) (none : Bool) → worth place none ≤ worth (suc place) none
worth-least place true = omega arith
worth-least place false = omega arith

-- a piece behind the first cell is shoved: all places up to it fall by one
nearer : (first at : ℕ) (cells : List ℕ) → (slice_index cells at == empty) ≡ false → at < length cells
    → places first (insert cells (suc at) empty) < places (suc first) cells
nearer first at [] some below = absurd (omega arith)
nearer first zero (c ∷ cells) some below =
    let e : worth first (c == empty) ≡ first = ap (worth first) some in
    let f : worth (suc first) (c == empty) ≡ suc first = ap (worth (suc first)) some in
    omega (arith, e, f)
nearer first (suc at) (c ∷ cells) some below =
    let h = nearer (suc first) at cells some (omega arith) in
    let w = worth-least first (c == empty) in
    let e : places first (c ∷ insert cells (suc at) empty) < places (suc first) (c ∷ cells) = omega (arith, h, w) in
    e

lowers : (at : ℕ) (cells : List ℕ) → (slice_index cells at == empty) ≡ false → at < length cells
    → places 1 (shoved cells at) < places 1 cells
lowers at [] some below = absurd (omega arith)
lowers zero (c ∷ cells) some below = let e : worth 1 (c == empty) ≡ 1 = ap (worth 1) some in omega (arith, e)
lowers (suc at) (c ∷ cells) some below = let h = nearer 1 at cells some (omega arith) in omega (arith, h)

piece_is : (player : Player) → (piece player == empty) ≡ false
piece_is Left = refl
piece_is Right = refl

move_lowers : (player : Player) (p : Grid) (cells : List ℕ) → In cells (shove.moves player p)
    → places 1 cells < places 1 p.cells
move_lowers player p cells m =
    let (at, below, own, after) = is_shove player p cells m in
    let some : (slice_index p.cells at == empty) ≡ false = ap (λ c. c == empty) own ∙ piece_is player in
    let h = lowers at p.cells some below in
    let e = ap (places 1) after in
    omega (arith, h, e)

pub shove_lawful : IsLawful shove
shove_lawful = record {
  moves = record {
    stays = λ player p cells has m. has;
    lowers = λ player p cells has m. move_lowers player p cells m;
  };
  number = omega arith;
  cut = λ e. absurd cc;
}
