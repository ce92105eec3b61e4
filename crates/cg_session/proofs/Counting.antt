-- Counts of bytes, as more of them are taken.
use Rattle.std.proofs.Common.{◌≡◌, ℕ, ◌+◌, ◌≤◌, List, ◌++◌, length, take, Option, Some, None, Ok, sym, ap, ◌∙◌, subst, arith}
use Rattle.std.specs.Prelude.{IfSome}
use Rattle.std.proofs.lemmas.List.{length-append, length-take-le}
use Rattle.cg_io.specs.Counts.{CountsMore, CountsTaken}

counts_on : (E : Type 0) (m n : ℕ) (a b c : Option ℕ) → CountsMore m a b → CountsTaken {E = E} b c (Ok n) → CountsMore (m + n) a c
counts_on E m n None b c x y = subst (λ (o : Option ℕ). CountsTaken {E = E} o c (Ok n)) x y
counts_on E m n (Some k) None c x y = subst (λ (o : Option ℕ). IfSome o (λ j. j ≡ k + (m + n))) (sym y) tt
counts_on E m n (Some k) (Some b) None x y = tt
counts_on E m n (Some k) (Some b) (Some c) x y = omega arith

-- behind what was taken, a front of the rest was taken
pub counts_front : (E : Type 0) (done rest : List ℕ) (n : ℕ) (a b c : Option ℕ) → n ≤ length rest → CountsMore (length done) a b
    → CountsTaken {E = E} b c (Ok n) → CountsMore (length (done ++ take n rest)) a c
counts_front E done rest n a b c low x y =
    let long : length (done ++ take n rest) ≡ length done + n =
    length-append done (take n rest) ∙ ap (λ k. length done + k) (length-take-le n rest low) in
    subst (λ k. CountsMore k a c) (sym long) (counts_on E (length done) n a b c x y)
