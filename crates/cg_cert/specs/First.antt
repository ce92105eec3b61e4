-- The certificate in which each answer is the first that serves.
use Rattle.std.specs.Prelude.{ℕ, zero, suc, List, [], ◌∷◌, Bool, if◌then◌else◌, Option, Some, None, option_map}
use Rattle.cg_form.specs.Game.{Game, lefts, rights}
use Rattle.cg_form.specs.Order.{le}
use Rattle.cg_cert.specs.Certificate.{Answer, Answers, Certificate, answered, in_first, in_second, no_answers, settled, with_answer}
use Rattle.cg_cert.specs.Pairs.{Pair, both_numbers, led, moves, pair_size}

-- the place of the first game of the list that passes the test
abbrev pub first_place : (Game → Bool) → List Game → Option ℕ
first_place test [] = None
first_place test (g ∷ gs) = if test g then Some 0 else option_map suc (first_place test gs)

abbrev pub first_of : Option ℕ → Option ℕ → Option Answer
first_of (Some i) o = Some (in_first i)
first_of None (Some i) = Some (in_second i)
first_of None None = None

-- Left's first answer that leads to a pair with the first game at least the second, those in the first game before those
-- in the second
unfoldable pub first_answer : Pair → Option Answer
first_answer m = first_of (first_place (λ a. le m.second a) (lefts m.first))
    (first_place (λ b. le b m.first) (rights m.second))

-- the answers, with what comes before the others where there is an answer that leads anywhere
abbrev pub with_led : (Pair → Certificate) → Answer → Option Pair → Answers → Answers
with_led proof a None rest = rest
with_led proof a (Some k) rest = with_answer a (proof k) rest

abbrev pub with_first : (Pair → Certificate) → Pair → Option Answer → Answers → Answers
with_first proof m None rest = rest
with_first proof m (Some a) rest = with_led proof a (led a m) rest

-- the first answer to each of the moves, and what this certificate is of the pair that it leads to
abbrev pub first_answers : (Pair → Certificate) → List Pair → Answers
first_answers proof [] = no_answers
first_answers proof (m ∷ ms) = with_first proof m (first_answer m) (first_answers proof ms)

-- as far as it is built within n moves
unfoldable pub first_within : ℕ → Pair → Certificate
first_within zero m = settled
first_within (suc n) m =
    if both_numbers m then settled else answered (first_answers (λ k. first_within n k) (moves m))

-- Proof(G, H); the law function `first` states its rule without a bound
unfoldable pub first_proof : Pair → Certificate
first_proof m = first_within (suc (pair_size m)) m
