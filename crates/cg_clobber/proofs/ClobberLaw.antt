-- The law of the rules of Clobber. It stands here since the rules rest on it.
use Rattle.std.proofs.Common.{◌≡◌, ◌≢◌, refl, ℕ, ◌<◌, List, length, ap, sym, ◌∙◌, arith, length-set, get_or-set_other}
use Rattle.std.specs.Prelude.{codes, count_by, slice_index, slice_set}
use Rattle.std.proofs.lemmas.Bool.{and_parts, eqb-true}
use Rattle.cg_moves.specs.declared.player.Player.{Player}
use Rattle.cg_moves.specs.declared.player.Player.TheVariants.{Left, Right}
use Rattle.cg_moves.specs.Lawful.{AreMoves, IsLawful}
use Rattle.cg_moves.proofs.ForGames.{board-stays, one_if, set-least, set-lowers}
use Rattle.cg_pieces.proofs.NeighbourCuts.{neighbours-cut}
use Rattle.cg_clobber.proofs.Capture.{is_capture}
use Rattle.cg_clobber.proofs.Cuts.{clobber_cuts, other-is, own-is, stones-are}
use Rattle.cg_clobber.specs.Moves.{clobber, empty, has_stone, is_stone, other, own, stones}

own-other : (player : Player) → own player ≡ other player → ⊥
own-other Left e = absurd (omega arith)
own-other Right e = absurd (omega arith)

-- a capture lifts a stone and puts it in the place of another
capture-lowers : (player : Player) (cells : List ℕ) (i j : ℕ) → slice_index cells i ≡ own player
    → slice_index cells j ≡ other player
    → count_by is_stone (slice_set (slice_set cells i empty) j (own player)) < count_by is_stone cells
capture-lowers player cells i j e f =
    let apart : i ≢ j = λ same. own-other player (sym e ∙ ap (slice_index cells) same ∙ f) in
    let left : List ℕ = slice_set cells i empty in
    let there : slice_index left j ≡ slice_index cells j = get_or-set_other cells i j empty 0 (λ same. apart (sym same)) in
    let a = set-lowers is_stone 0 cells i empty refl refl (own-is player (slice_index cells i) e) in
    let c : one_if (is_stone (slice_index left j)) ≡ 1 = ap one_if (other-is player (slice_index left j) (there ∙ f)) in
    let d : one_if (is_stone (own player)) ≡ 1 = ap one_if (own-is player (own player) refl) in
    let b = set-least is_stone 0 left j (own player) (omega (arith, c, d)) in
    omega (arith, a, b)

clobber_moves : AreMoves clobber
clobber_moves = record {
  stays = λ player p cells has m.
      let (i, way, j, n, f, e) = is_capture player p cells m in
      board-stays (codes ".xo") p cells has
      (ap length e ∙ length-set (slice_set p.cells i empty) j (own player) ∙ length-set p.cells i empty);
  lowers = λ player p cells has m.
      let (i, way, j, n, f, e) = is_capture player p cells m in
      let both = and_parts (has_stone p.cells i (own player)) (has_stone p.cells j (other player)) f in
      let a = capture-lowers player p.cells i j (eqb-true (slice_index p.cells i) (own player) both.0)
      (eqb-true (slice_index p.cells j) (other player) both.1) in
      let s = ap (count_by is_stone) e in
      omega (arith, a, s);
}

pub clobber_lawful : IsLawful clobber
clobber_lawful = record {
  moves = clobber_moves;
  number = omega arith;
  cut = λ e. neighbours-cut stones clobber stones-are clobber_cuts clobber_moves;
}
