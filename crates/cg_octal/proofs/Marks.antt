-- Marks of the numbers that a list has.
use Rattle.std.proofs.Common.{◌≡◌, refl, ℕ, ◌<◌, ◌≤◌, arith, Bool, false, ◌||◌, List, [], ◌∷◌, ◌++◌, length, get_or}
use Rattle.std.proofs.lemmas.Option.{slice_get_read}
use Rattle.cg_octal.specs.Found.{AreMarks, is_listed}

-- the marks of the numbers below n that were seen so far
pub record Marked (seen : List ℕ) (n : ℕ) (marks : List Bool) : Type 0 where
  pub count : length marks ≡ n
  pub each : (i : ℕ) → i < n → get_or marks i false ≡ is_listed seen i

-- ---- one number more

-- ---- the marks

-- ---- along a list

-- the mark that is read in its place
pub mark-listed : (list : List ℕ) (marks : List Bool) (i : ℕ) (mark : Bool) → AreMarks list marks → i ≤ length list
    → mark ≡ get_or marks i mark → is_listed list i ≡ mark
mark-listed list marks i mark m l e =
    let c = m.count in
    let here : i < length marks = omega arith in
    let f = slice_get_read marks (length marks) i mark refl here e in
    let g = m.each i here in
    cc
