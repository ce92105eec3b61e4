-- A player's first move, by the first good options in both games: an answer of Left's, or Right's winning move.
use Rattle.std.proofs.Common.{◌≡◌, ap, sym, ◌∙◌, ℕ, [], ◌++◌, Some, None, Bool, true, false, cond, option_map, if◌then◌else◌}
use Rattle.std.specs.Prelude.{codes, decimal}
use Rattle.cg_form.specs.Game.{Game, lefts, rights}
use Rattle.cg_form.specs.Side.{at_most}
use Rattle.cg_cert.specs.Answer.{first_text, move_text, option_text, refusal_text, right_text}
use Rattle.cg_cert.specs.Certificate.{answer_in, certificate_text}
use Rattle.cg_cert.specs.First.{first_answer, first_of, first_place, first_proof}
use Rattle.cg_cert.specs.Pairs.{Pair, both_numbers, led, pair}
use Rattle.cg_cert.specs.Positions.{IsFirst}

-- ---- Left's answer

pub move_answer : (m : Pair) (b : Bool) (i : ℕ) (g h : Game) → IsFirst true b i m g h
    → (first_answer m ≡ Some (answer_in b i)) × (led (answer_in b i) m ≡ Some (pair g h))
unfolding first_answer
move_answer m true i g h (a, k, e) = (
  ap (λ z. first_of z (first_place (at_most false m.first) (rights m.second))) a,
  ap (option_map (λ a. pair a m.second)) k ∙ ap (λ z. Some (pair g z)) (sym e),
)
move_answer m false i g h (n, a, k, e) = (
  ap (λ z. first_of z (first_place (at_most false m.first) (rights m.second))) n ∙ ap (first_of None) a,
  ap (option_map (λ b. pair m.first b)) k ∙ ap (λ z. Some (pair z h)) (sym e),
)

pub no_answer : (m : Pair) → first_place (at_most true m.second) (lefts m.first) ≡ None
    → first_place (at_most false m.first) (rights m.second) ≡ None → first_answer m ≡ None
unfolding first_answer
no_answer m n o =
    ap (λ z. first_of z (first_place (at_most false m.first) (rights m.second))) n ∙ ap (first_of None) o

-- ---- Right's winning move

pub move_right : (m : Pair) (b : Bool) (i : ℕ) (g h : Game) → IsFirst false b i m g h
    → (cond b (codes "r") (codes "l") ++ decimal i) ++ certificate_text (first_proof (pair h g)) ≡ right_text m
unfolding right_text
move_right m true i g h (a, k, e) =
    ap (λ z. (codes "r" ++ decimal i) ++ first_text z g) e
    ∙ ap (option_text (codes "r") i (λ b. first_text m.second b)) (sym k)
    ∙ ap (λ o. move_text m o (first_place (at_most true m.first) (lefts m.second))) (sym a)
move_right m false i g h (n, a, k, e) =
    ap (λ z. (codes "l" ++ decimal i) ++ first_text h z) e
    ∙ ap (option_text (codes "l") i (λ a. first_text a m.first)) (sym k) ∙ ap (move_text m None) (sym a)
    ∙ ap (λ o. move_text m o (first_place (at_most true m.first) (lefts m.second))) (sym n)

-- what shows that the first game isn't at least the second, where they aren't both numbers
pub refused_by : (m : Pair) → both_numbers m ≡ false → right_text m ≡ refusal_text m
refused_by m b = ap (λ z. if z then codes "." else right_text m) (sym b)

pub no_right : (m : Pair) → first_place (at_most false m.second) (rights m.first) ≡ None
    → first_place (at_most true m.first) (lefts m.second) ≡ None → right_text m ≡ []
unfolding right_text
no_right m n o =
    ap (λ z. move_text m z (first_place (at_most true m.first) (lefts m.second))) n ∙ ap (move_text m None) o
