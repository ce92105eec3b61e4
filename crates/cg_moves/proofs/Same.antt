-- The test of whether two boards are one.
use Rattle.std.proofs.lemmas.Bool.Decides.{nat_tests}
use Rattle.std.proofs.Common.{◌≡◌, refl, ℕ, ◌==◌, ◌&&◌, Bool, true, false, List, ap, ◌∙◌, arith}
use Rattle.std.specs.Str.{bytes_eq}
use Rattle.std.specs.Cmp.Lexicographic.{bytes_decides}
use Rattle.std.proofs.lemmas.Bool.{eqb-true, eq-eqb}
use Rattle.cg_form.proofs.Firsts.{Test}
use Rattle.cg_moves.specs.Grid.{Grid, is_same}

pub and-true : (a b : Bool) → (a && b) ≡ true → (a ≡ true) × (b ≡ true)
and-true true b e = (refl, e)
and-true false b e = cc

pub both-true : (a b : Bool) → a ≡ true → b ≡ true → (a && b) ≡ true
both-true a b e f = ap (λ x. x && b) e ∙ f

pub bytes_eq-refl : (xs : List ℕ) → bytes_eq xs xs ≡ true
bytes_eq-refl xs = (bytes_decides xs xs).1 refl

pub bytes_eq-back : (xs ys : List ℕ) → bytes_eq xs ys ≡ true → xs ≡ ys
bytes_eq-back xs ys e = (bytes_decides xs ys).0 e

pub is_same-back : (p q : Grid) → is_same p q ≡ true → p ≡ q
is_same-back p q e =
    let a = and-true ((p.rows == q.rows) && (p.columns == q.columns) && bytes_eq p.symbols q.symbols) (bytes_eq p.cells q.cells) e in
    let b = and-true ((p.rows == q.rows) && (p.columns == q.columns)) (bytes_eq p.symbols q.symbols) a.0 in
    let c = and-true (p.rows == q.rows) (p.columns == q.columns) b.0 in
    let rows = eqb-true p.rows q.rows c.0 in
    let columns = eqb-true p.columns q.columns c.1 in
    let symbols = bytes_eq-back p.symbols q.symbols b.1 in
    let cells = bytes_eq-back p.cells q.cells a.1 in
    λ i. record { rows = rows i; columns = columns i; symbols = symbols i; cells = cells i }

pub is_same-refl : (p : Grid) → is_same p p ≡ true
is_same-refl p = grind (arith, nat_tests, both-true, eq-eqb, bytes_eq-refl)

-- the test of whether two boards are one
abbrev pub boards : Test Grid
boards = record { same = is_same; back = is_same-back; own = is_same-refl }
