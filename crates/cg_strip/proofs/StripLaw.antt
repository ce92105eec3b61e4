-- Strip games are games: their moves stay on their boards and lower the sum of the weights.
use Rattle.std.proofs.Common.{◌≡◌, ℕ, suc, ◌<◌, ◌==◌, ◌&&◌, inl, inr, true, List, [], ◌∷◌, ◌++◌}
use Rattle.std.proofs.Common.{length, refl, ap, sym, subst, ◌∙◌, arith, length-append, eqb-true}
use Rattle.std.specs.Prelude.{All}
use Rattle.std.specs.List.{list_all}
use Rattle.std.specs.Str.{bytes_eq}
use Rattle.std.specs.Cmp.Lexicographic.{bytes_decides}
use Rattle.std.proofs.lemmas.Bool.{and_parts, and_from}
use Rattle.cg_moves.specs.declared.player.Player.{Player}
use Rattle.cg_moves.specs.Grid.{Grid, with_cells}
use Rattle.cg_moves.specs.Lawful.{IsLawful}
use Rattle.cg_moves.specs.Rules.{In}
use Rattle.cg_strip.specs.Rulebook.{Rulebook, IsRule, symbols_of}
use Rattle.cg_strip.specs.Placing.{IsPlacedAt, moves_by}
use Rattle.cg_strip.specs.Weighing.{row_weight, do_all_lower}
use Rattle.cg_strip.specs.StripGame.{is_even, is_strip_board, strip_game}
use Rattle.cg_strip.specs.declared.weight.Weight.{Weight}
use Rattle.cg_strip.specs.declared.rule.Rule.{Rule}
use Rattle.cg_strip.proofs.PlacingLemmas.{move_is}
use Rattle.cg_strip.proofs.WeighingLemmas.{lower_is, one_lowers, room_behind}

-- ---- boards of the game

pub record IsStripBoard (book : Rulebook) (p : Grid) : Type 0 where
  pub rows : p.rows ≡ 1
  pub symbols : p.symbols ≡ symbols_of book.weights
  pub even : list_all is_even book.rules ≡ true
  pub lower : do_all_lower book.weights (length p.cells) book.rules ≡ true

pub board_parts : (book : Rulebook) (p : Grid) → is_strip_board book p ≡ true → IsStripBoard book p
board_parts book p e =
    let a = and_parts ((p.rows == 1) && bytes_eq p.symbols (symbols_of book.weights) && list_all is_even book.rules) (do_all_lower book.weights (length p.cells)
    book.rules) e in
    let b = and_parts ((p.rows == 1) && bytes_eq p.symbols (symbols_of book.weights)) (list_all is_even book.rules) a.0 in
    let c = and_parts (p.rows == 1) (bytes_eq p.symbols (symbols_of book.weights)) b.0 in
    record { rows = eqb-true p.rows 1 c.0; symbols = (bytes_decides p.symbols (symbols_of book.weights)).0 c.1; even = b.1; lower = a.1 }

even_rule : (rules : List Rule) (r : Rule) → list_all is_even rules ≡ true → In r rules → length r.pattern ≡ length r.replacement
even_rule [] r e m = absurd m
even_rule (v ∷ rules) r e (inl f) = ap (λ (z : Rule). length z.pattern) f ∙ eqb-true (length v.pattern) (length v.replacement) (and_parts (is_even v)
    (list_all is_even rules) e).0 ∙ ap (λ (z : Rule). length z.replacement) (sym f)
even_rule (v ∷ rules) r e (inr m) = even_rule rules r (and_parts (is_even v) (list_all is_even rules) e).1 m

pub placed_long : (r : Rule) (i : ℕ) (row after : List ℕ) → length r.pattern ≡ length r.replacement → IsPlacedAt r i row after → length after ≡ length row
placed_long r i row after even is = omega (
  arith,
  ap length is.stands,
  ap length is.written,
  length-append is.before (r.pattern ++ is.behind),
  length-append
      is.before (r.replacement ++ is.behind),
  length-append r.pattern is.behind,
  length-append r.replacement is.behind,
)

move_long : (book : Rulebook) (player : Player) (p : Grid) (cells : List ℕ) → is_strip_board book p ≡ true → In cells (moves_by book.rules player p.cells) →
    length cells ≡ length p.cells
move_long book player p cells e m =
    let b = board_parts book p e in
    let is = move_is book.rules player p.cells cells m in
    placed_long is.rule is.cell p.cells cells (even_rule book.rules is.rule b.even is.among) is.placed

move_lowers : (book : Rulebook) (player : Player) (p : Grid) (cells : List ℕ) → is_strip_board book p ≡ true → In cells (moves_by book.rules player p.cells) →
    row_weight book.weights cells < row_weight book.weights p.cells
move_lowers book player p cells e m =
    let b = board_parts book p e in
    let is = move_is book.rules player p.cells cells m in
    let even = even_rule book.rules is.rule b.even is.among in
    lower_is book.weights (length p.cells) is.rule even (one_lowers book.weights (length p.cells) book.rules is.rule b.lower is.among) is.cell
    (omega (arith, room_behind is.rule is.cell p.cells cells is.placed)) p.cells cells refl is.placed

pub strip_lawful : (book : Rulebook) → IsLawful (strip_game book)
strip_lawful book = record {
  moves = record {
    stays = λ player p cells e m. stays player p cells e m;
    lowers = λ player p cells e m. move_lowers book player p cells e m;
  };
  number = omega arith;
  cut = λ e. absurd cc;
}
  where
    stays : (player : Player) (p : Grid) (cells : List ℕ) → is_strip_board book p ≡ true → In cells (moves_by book.rules player p.cells) → is_strip_board book
        (with_cells p cells) ≡ true
    stays player p cells e m =
        let a = and_parts ((p.rows == 1) && bytes_eq p.symbols (symbols_of book.weights) && list_all is_even book.rules) (do_all_lower book.weights
        (length p.cells) book.rules) e in
        and_from ((p.rows == 1) && bytes_eq p.symbols (symbols_of book.weights) && list_all is_even book.rules) (do_all_lower book.weights (length cells)
        book.rules) a.0
        (ap (λ (n : ℕ). do_all_lower book.weights n book.rules) (move_long book player p cells e m) ∙ a.1)

-- ---- the rules

pub rule_of : (weights : List Weight) (rules : List Rule) (r : Rule) → All (IsRule weights) rules → In r rules → IsRule weights r
rule_of weights [] r h m = absurd m
rule_of weights (v ∷ rules) r h (inl e) = subst (λ (z : Rule). IsRule weights z) (sym e) (h 0 v (omega arith))
rule_of weights (v ∷ rules) r h (inr m) = rule_of weights rules r (λ k d below. h (suc k) d (omega arith)) m
