-- The law of the rules of Col and Snort. It stands here since the rules rest on it.
use Rattle.std.proofs.Common.{◌≡◌, refl, ℕ, ◌==◌, ◌&&◌, Bool, true, false, not, List, length, ap, ◌∙◌, arith, length-set}
use Rattle.std.specs.Prelude.{codes, count_by, slice_index, slice_set}
use Rattle.std.specs.List.{list_any}
use Rattle.std.specs.Str.{bytes_eq}
use Rattle.std.proofs.lemmas.Bool.{eqb-true, eq-eqb}
use Rattle.cg_dyadic.proofs.Truth.{and-both, and-split}
use Rattle.cg_moves.specs.declared.player.Player.{Player}
use Rattle.cg_moves.specs.declared.player.Player.TheVariants.{Left, Right}
use Rattle.cg_moves.specs.Connected.{Edge}
use Rattle.cg_moves.specs.Lawful.{IsLawful}
use Rattle.cg_moves.specs.Rising.{counted}
use Rattle.cg_moves.specs.Rules.{In}
use Rattle.cg_moves.proofs.ForGames.{listed-where, set-lowers}
use Rattle.cg_graph.specs.Colouring.{are_adjacent, colouring, colourings_of, forbidden, free, may_colour, own}

abbrev count_free : List ℕ → ℕ
count_free cells = count_by (λ c. c == free) cells

own-not_free : (player : Player) → (own player == free) ≡ false
own-not_free Left = refl
own-not_free Right = refl

pub is_colouring : (snort : Bool) (edges : List Edge) (player : Player) (cells after : List ℕ)
    → In after (colourings_of snort edges player cells)
    → (k : ℕ) × (may_colour snort edges player cells k ≡ true) × (after ≡ slice_set cells k (own player))
is_colouring snort edges player cells after m =
    let (k, below, may, e) = listed-where (may_colour snort edges player cells) (λ k. slice_set cells k (own player))
    (length cells) after m in
    (k, may, e)

pub colouring_lawful : (snort : Bool) (vertices : ℕ) (edges : List Edge) → IsLawful (colouring snort vertices edges)
colouring_lawful snort vertices edges = record {
  moves = record {
    stays = λ player p after has m.
        let (k, may, e) = is_colouring snort edges player p.cells after m in
        let both = and-split (bytes_eq p.symbols (codes ".xo")) (length p.cells == vertices) has in
        and-both (bytes_eq p.symbols (codes ".xo")) (length after == vertices) both.0
        (eq-eqb (length after) vertices
        (ap length e ∙ length-set p.cells k (own player) ∙ eqb-true (length p.cells) vertices both.1));
    lowers = λ player p after has m.
        let (k, may, e) = is_colouring snort edges player p.cells after m in
        let both = and-split (slice_index p.cells k == free) (not (list_any (λ l. are_adjacent edges k l
        && (slice_index p.cells l == forbidden snort player)) (counted 0 (length p.cells)))) may in
        let low = set-lowers (λ c. c == free) 0 p.cells k (own player) refl (own-not_free player) both.0 in
        let s = ap count_free e in
        omega arith;
  };
  number = omega arith;
  cut = λ e. absurd (cc);
}
