-- All moves of Amazons.
use Rattle.std.proofs.Common.{◌≡◌, ◌≢◌, ℕ, zero, suc, ◌<◌, ◌≤◌, ◌==◌, ◌⊎◌, inl, inr, Bool, true, false, cond, leb}
use Rattle.std.proofs.Common.{List, [], length, refl, ap, sym, subst, ◌∙◌, arith, eqb-true, eq-eqb, get_or-set_other}
use Rattle.std.specs.Prelude.{slice_index, slice_set}
use Rattle.std.specs.List.{flat_map}
use Rattle.std.proofs.lemmas.Bool.{leb-true, leb-false}
use Rattle.std.proofs.lemmas.List.{length-set}
use Rattle.cg_moves.specs.declared.player.Player.{Player}
use Rattle.cg_moves.specs.declared.player.Player.TheVariants.{Left, Right}
use Rattle.cg_moves.specs.Grid.{Grid}
use Rattle.cg_moves.specs.Lawful.{IsLawful}
use Rattle.cg_moves.proofs.ForGames.{count-set, one_if}
use Rattle.cg_moves.specs.Rules.{In}
use Rattle.cg_form.proofs.Firsts.{in-append, in-append_left, in-append_right}
use Rattle.cg_moves.proofs.Members.{in-flat_map, in_flat_mapped, in-map, in_mapped}
use Rattle.cg_moves.proofs.RisingLemmas.{rising-in, in-rising}
use Rattle.cg_amazons.specs.Amazons.{empty, blocked, queen, Reaches, with_queen, IsAmazonsMove, line, ways, shots_that_way}
use Rattle.cg_amazons.specs.Amazons.{shots, moves_that_way, moves_from, moves_below, amazons_moves, empty_cells, amazons}
use Rattle.cg_amazons.proofs.RayLaws.{within, along_ends, line_is, line_has}
use Rattle.cg_amazons.specs.MoveParts.{IsMoveBelow, IsQueenMove, IsShot}
use Rattle.cg_amazons.specs.declared.way.Way.{Way}
use Rattle.cg_amazons.specs.declared.way.Way.TheVariants.{UpBack, Up, UpForth, Back, Forth, DownBack, Down, DownForth}

every_way : (way : Way) → In way ways
every_way UpBack = inl refl
every_way Up = inr (inl refl)
every_way UpForth = inr (inr (inl refl))
every_way Back = inr (inr (inr (inl refl)))
every_way Forth = inr (inr (inr (inr (inl refl))))
every_way DownBack = inr (inr (inr (inr (inr (inl refl)))))
every_way Down = inr (inr (inr (inr (inr (inr (inl refl))))))
every_way DownForth = inr (inr (inr (inr (inr (inr (inr (inl refl)))))))

-- ---- shots

shot_is : (columns : ℕ) (cells : List ℕ) (from : ℕ) (after : List ℕ) → In after (shots columns cells from) → IsShot columns cells from after
shot_is columns cells from after m =
    let (way, w, n) = in-flat_map (shots_that_way columns cells from) after ways m in
    let (target, l, e) = in-map (λ target. slice_set cells target blocked) after (line columns cells way (length cells) from) n in
    let (steps, a) = line_is columns cells way (length cells) from target l in
    record { target = target; shot = record { way = way; steps = steps; along = a }; written = e }

shot_has : (columns : ℕ) (cells : List ℕ) (from : ℕ) (after : List ℕ) → 1 ≤ columns → from < length cells → IsShot columns cells from after →
    In after (shots columns cells from)
shot_has columns cells from after some here s =
    let r = s.shot in
    in_flat_mapped (shots_that_way columns cells from) after r.way ways (every_way r.way)
    (subst (λ (z : List ℕ). In z (shots_that_way columns cells from r.way)) (sym s.written)
    (in_mapped (λ target. slice_set cells target blocked) s.target (line columns cells r.way (length cells) from) (line_has columns cells r.way r.steps from
    s.target some here r.along)))

-- ---- moves of one queen

abbrev queen_shots : ℕ → ℕ → List ℕ → ℕ → ℕ → List (List ℕ)
queen_shots columns q cells from to = shots columns (with_queen cells from to q) to

queen_is : (columns q : ℕ) (cells : List ℕ) (from : ℕ) (after : List ℕ) → In after (flat_map (moves_that_way columns q cells from) ways) → IsQueenMove columns q
    cells from after
queen_is columns q cells from after m =
    let (way, w, n) = in-flat_map (moves_that_way columns q cells from) after ways m in
    let (to, l, s) = in-flat_map (queen_shots columns q cells from) after (line columns cells way (length cells) from) n in
    let (steps, a) = line_is columns cells way (length cells) from to l in
    record { to = to; moved = record { way = way; steps = steps; along = a }; shot = shot_is columns (with_queen cells from to q) to after s }

pub queen_long : (cells : List ℕ) (from to q : ℕ) → length (with_queen cells from to q) ≡ length cells
queen_long cells from to q = length-set (slice_set cells from empty) to q ∙ length-set cells from empty

pub reach_within : (columns : ℕ) (cells : List ℕ) (from to : ℕ) → Reaches columns cells from to → to < length cells
reach_within columns cells from to r = within cells to (along_ends columns cells r.way r.steps from to r.along)

queen_has : (columns q : ℕ) (cells : List ℕ) (from : ℕ) (after : List ℕ) → 1 ≤ columns → from < length cells → IsQueenMove columns q cells from after →
    In after (flat_map (moves_that_way columns q cells from) ways)
queen_has columns q cells from after some here s =
    let r = s.moved in
    let long = queen_long cells from s.to q in
    let inside = reach_within columns cells from s.to r in
    in_flat_mapped (moves_that_way columns q cells from) after r.way ways (every_way r.way)
    (in_flat_mapped (queen_shots columns q cells from) after s.to (line columns cells r.way (length cells) from) (line_has columns cells r.way r.steps from s.to
    some here r.along)
    (shot_has columns (with_queen cells from s.to q) s.to after some (omega arith) s.shot))

-- ---- all queens

le_or_lt : (a b : ℕ) → (a ≤ b) ⊎ (b < a)
le_or_lt a b = by_test (leb a b) refl
  where
    by_test : (t : Bool) → leb a b ≡ t → (a ≤ b) ⊎ (b < a)
    by_test true h = inl (leb-true a b h)
    by_test false h = inr (leb-false a b h)

pub below_is : (columns q : ℕ) (cells : List ℕ) (most : ℕ) (after : List ℕ) → In after (moves_below columns q cells most) → IsMoveBelow columns q cells most
    after
below_is columns q cells zero after m = absurd m
below_is columns q cells (suc i) after m = elim (in-append after (moves_below columns q cells i) (moves_from columns q cells i) m) [
  | inl n ↦ (let r = below_is columns q cells i after n in record { from = r.from; below = omega (arith, r.below); own = r.own; moves = r.moves })
  | inr n ↦ by_own (slice_index cells i == q) refl n
]
  where
    by_own : (t : Bool) → (slice_index cells i == q) ≡ t → In after (cond t (flat_map (moves_that_way columns q cells i) ways) []) → IsMoveBelow columns q cells
        (suc i) after
    by_own true e n = record { from = i; below = omega arith; own = eqb-true (slice_index cells i) q e; moves = queen_is columns q cells i after n }
    by_own false e n = absurd n

pub below_has : (columns q : ℕ) (cells : List ℕ) (most : ℕ) (after : List ℕ) → 1 ≤ columns → most ≤ length cells → IsMoveBelow columns q cells most after →
    In after (moves_below columns q cells most)
below_has columns q cells zero after some h r = absurd (omega (arith, r.below))
below_has columns q cells (suc i) after some h r = elim (le_or_lt i r.from) [
  | inl k ↦ in-append_right after (moves_below columns q cells i) (moves_from columns q cells i) (by_own (omega (arith, r.below)))
  | inr k ↦ in-append_left after (moves_below columns q cells i) (moves_from columns q cells i) (below_has columns q cells i after some (omega arith)
      (record { from = r.from; below = k; own = r.own; moves = r.moves }))
]
  where
    chosen : (t : Bool) → t ≡ true → In after (flat_map (moves_that_way columns q cells i) ways) → In after (cond t (flat_map (moves_that_way columns q cells i)
        ways) [])
    chosen true e n = n
    chosen false e n = absurd cc

    by_own : r.from ≡ i → In after (moves_from columns q cells i)
    by_own e =
        let own : slice_index cells i ≡ q = ap (slice_index cells) (sym e) ∙ r.own in
        chosen (slice_index cells i == q) (eq-eqb (slice_index cells i) q own) (queen_has columns q cells i after some (omega arith)
        (subst (λ (k : ℕ). IsQueenMove columns q cells k after) e r.moves))

pub move_is : (player : Player) (p : Grid) (after : List ℕ) → In after (amazons_moves player p) → IsAmazonsMove p.columns player p.cells after
move_is player p after m =
    let r = below_is p.columns (queen player) p.cells (length p.cells) after (rising-in (moves_below p.columns (queen player) p.cells (length p.cells)) after m)
    in
    record {
      from = r.from;
      to = r.moves.to;
      target = r.moves.shot.target;
      within = r.below;
      own = r.own;
      moved = r.moves.moved;
      shot = r.moves.shot.shot;
      written = r.moves.shot.written;
    }

pub move_has : (player : Player) (p : Grid) (after : List ℕ) → 1 ≤ p.columns → IsAmazonsMove p.columns player p.cells after → In after (amazons_moves player p)
move_has player p after some is =
    in-rising (moves_below p.columns (queen player) p.cells (length p.cells)) after
    (below_has p.columns (queen player) p.cells (length p.cells) after some (omega arith)
    (record {
      from = is.from;
      below = is.within;
      own = is.own;
      moves = record {
        to = is.to;
        moved = is.moved;
        shot = record {
          target = is.target;
          shot = is.shot;
          written = is.written;
        };
      };
    }))

-- ---- empty cells

queen_is_none : (player : Player) → one_if (queen player == empty) ≡ 0
queen_is_none Left = refl
queen_is_none Right = refl

pub move_lowers : (player : Player) (columns : ℕ) (cells after : List ℕ) → IsAmazonsMove columns player cells after → empty_cells after < empty_cells cells
move_lowers player columns cells after is =
    let here = is.within in
    let q = queen player in
    let to_empty = along_ends columns cells is.moved.way is.moved.steps is.from is.to is.moved.along in
    let to_in = within cells is.to to_empty in
    let left = slice_set cells is.from empty in
    let long : length left ≡ length cells = length-set cells is.from empty in
    let apart : is.to ≢ is.from = λ e. omega (
      arith,
      apart_of (queen_cell player) (sym (eqb-true (slice_index cells is.to) empty to_empty)
          ∙ ap (slice_index cells) e ∙ is.own),
    ) in
    let to_left : slice_index left is.to ≡ slice_index cells is.to = get_or-set_other cells is.from is.to empty 0 apart in
    let a = count-set (λ c. c == empty) 0 cells is.from empty here in
    let b = count-set (λ c. c == empty) 0 left is.to q (omega arith) in
    let target_empty = along_ends columns (with_queen cells is.from is.to q) is.shot.way is.shot.steps is.to is.target is.shot.along in
    let c = count-set (λ c. c == empty) 0 (with_queen cells is.from is.to q) is.target blocked (within (with_queen cells is.from is.to q) is.target
    target_empty) in
    let from_none : one_if (slice_index cells is.from == empty) ≡ 0 = ap (λ (s : ℕ). one_if (s == empty)) is.own ∙ queen_is_none player in
    let to_one : one_if (slice_index left is.to == empty) ≡ 1 = ap (λ (s : ℕ). one_if (s == empty)) to_left ∙ ap one_if to_empty in
    let target_one : one_if (slice_index (with_queen cells is.from is.to q) is.target == empty) ≡ 1 = ap one_if target_empty in
    let d = ap empty_cells is.written in
    omega (arith, a, b, c, d, from_none, to_one, target_one, queen_is_none player)
  where
    queen_cell : (player : Player) → queen player ≢ empty
    queen_cell Left e = omega (arith, e)
    queen_cell Right e = omega (arith, e)

    apart_of : queen player ≢ empty → empty ≡ queen player → 1 ≤ 0
    apart_of h e = absurd (h (sym e))

pub amazons_lawful : IsLawful amazons
amazons_lawful = record {
  moves = record {
    stays = λ player p cells e m. e;
    lowers = λ player p cells e m. move_lowers player p.columns p.cells cells (move_is player p cells m);
  };
  number = omega arith;
  cut = λ e. absurd cc;
}
