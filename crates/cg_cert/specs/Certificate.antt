-- Certificates of order, and their texts.
use Rattle.std.specs.Prelude.{ℕ, Bool, cond, List, [], ◌++◌, codes, decimal}

-- An answer of Left's: to the i-th Left option of the first game, or to the i-th Right option of the second.
pub data Answer : Type 0 where
  in_first : ℕ → Answer
  in_second : ℕ → Answer

-- the answer in the first game, or in the second
abbrev pub answer_in : Bool → ℕ → Answer
answer_in is_first i = cond is_first (in_first i) (in_second i)

mutual
  -- Nothing is left to play where both games are numbers; else each of Right's moves has its answer.
  pub data Certificate : Type 0 where
    settled : Certificate
    answered : Answers → Certificate

  -- for each of Right's moves, in order, an answer and a certificate of the pair that it leads to
  pub data Answers : Type 0 where
    no_answers : Answers
    with_answer : Answer → Certificate → Answers → Answers

-- a letter and a number in decimal
abbrev pub answer_text : Answer → List ℕ
answer_text (in_first i) = codes "g" ++ decimal i
answer_text (in_second i) = codes "h" ++ decimal i

abbrev mutual
  pub certificate_text : Certificate → List ℕ
  certificate_text settled = codes "."
  certificate_text (answered given) = codes "(" ++ (answers_text given ++ codes ")")

  pub answers_text : Answers → List ℕ
  answers_text no_answers = []
  answers_text (with_answer a c rest) = answer_text a ++ (certificate_text c ++ answers_text rest)
