-- A pair that has a certificate has the first game at least the second.
use Rattle.std.proofs.Common.{List, [], ◌∷◌}
use Rattle.cg_form.specs.Order.{Le}
use Rattle.cg_form.proofs.Order.{le-fold}
use Rattle.cg_cert.specs.Certificate.{Answers, Certificate, answered, no_answers, settled, with_answer}
use Rattle.cg_cert.specs.Pairs.{AtLeast, Pair, moves}
use Rattle.cg_cert.specs.Proves.{Proves, ProvesAll}
use Rattle.cg_cert.proofs.Moves.{Each, OfMoves, led-answered, move_each}

-- the first game isn't at most the second
abbrev pub Unbeaten : Pair → Type 0
Unbeaten m = ¬ Le m.first m.second

-- none of Right's moves makes the first game at most the second
pub unbeaten-at_least : (m : Pair) → OfMoves Unbeaten m → AtLeast m
unbeaten-at_least m o = le-fold m.second m.first (record { on_left = o.in_lefts; on_right = o.in_rights })

mutual
  pub proves-at_least : (c : Certificate) (m : Pair) → Proves c m → AtLeast m
  proves-at_least settled m p = p.1
  proves-at_least (answered given) m p =
      unbeaten-at_least m (move_each Unbeaten m (all-unbeaten given (moves m) p.1))

  pub all-unbeaten : (given : Answers) (ms : List Pair) → ProvesAll given ms → Each Unbeaten ms
  all-unbeaten no_answers [] p = tt
  all-unbeaten no_answers (m ∷ ms) p = absurd p
  all-unbeaten (with_answer a c rest) [] p = absurd p
  all-unbeaten (with_answer a c rest) (m ∷ ms) p =
      let (k, e, q) = p.0 in
      ((led-answered a m k e).serves (proves-at_least c k q), all-unbeaten rest ms p.1)
