-- The fault of a brace is the least of its faults, and the parts of a brace stand one behind the other.
use Rattle.std.proofs.Common.{◌≡◌, ℕ, suc, ◌≤◌, ◌<◌, ◌⊎◌, inl, inr, Bool, true, false, cond, List, [], ◌∷◌, ◌++◌, Option, Some, None, refl, subst, arith}
use Rattle.std.proofs.lemmas.Option.{none-some, same_Some}
use Rattle.cg_grammar.specs.Found.{Found, first}
use Rattle.cg_grammar.specs.Braces.{Run_side, repeats, side_fault, runs_fault, row_fault}
use Rattle.cg_grammar.specs.Splitting.{IsFault, IsLeast, IsRepeatAt, IsRunsFault, IsSideFault, RowLies, RunsLie, SideLies}
use Rattle.cg_grammar.proofs.RepeatedRuns.{repeats_exactly}

-- ---- the least of two lots of columns, where none of the second is before one of the first

least_first : (P Q : ℕ → Type 0) (x y : Option ℕ) → IsLeast P x → IsLeast Q y → ((c d : ℕ) → P c → Q d → c ≤ d) → IsLeast (λ c. P c ⊎ Q c) (first x y)
least_first P Q (Some c) y l m before = (inl l.0, λ d k. by d k)
  where
    by : (d : ℕ) → P d ⊎ Q d → c ≤ d
    by d (inl p) = l.1 d p
    by d (inr q) = before c d l.0 q
least_first P Q None (Some c) l m before = (inr m.0, λ d k. by d k)
  where
    by : (d : ℕ) → P d ⊎ Q d → c ≤ d
    by d (inl p) = absurd (l d p)
    by d (inr q) = m.1 d q
least_first P Q None None l m before = λ d k. by d k
  where
    by : (d : ℕ) → P d ⊎ Q d → ⊥
    by d (inl p) = l d p
    by d (inr q) = m d q

-- the fault of one expression
least_one : (o : Option ℕ) → IsLeast (λ c. o ≡ Some c) o
least_one (Some c) = (refl, λ d e. omega (arith, same_Some c d e))
least_one None = λ d e. none-some _ e

least_repeat : (earlier : List ℕ) (r : Run_side) → IsLeast (IsRepeatAt earlier r) (cond (repeats r.bars false earlier) (Some r.column) None)
least_repeat earlier r = by (repeats r.bars false earlier) refl
  where
    by : (t : Bool) → repeats r.bars false earlier ≡ t → IsLeast (IsRepeatAt earlier r) (cond t (Some r.column) None)
    by true e = ((refl, (repeats_exactly r.bars earlier).0 e), λ d h. omega (arith, h.0))
    by false e = λ d h. let t = (repeats_exactly r.bars earlier).1 h.1 in cc

-- ---- where faults lie

side_le : (from : ℕ) (side : List Found) (to : ℕ) → SideLies from side to → from ≤ to
side_le from [] to h = h
side_le from (e ∷ others) to h = omega (arith, h.1, side_le h.0 others to h.3)

side_within : (from : ℕ) (side : List Found) (to : ℕ) → SideLies from side to → (c : ℕ) → IsSideFault side c → (from ≤ c) × (c < to)
side_within from [] to h c k = elim k [ ]
side_within from (e ∷ others) to h c (inl k) = let p = h.2 c k in (p.0, omega (arith, p.1, side_le h.0 others to h.3))
side_within from (e ∷ others) to h c (inr k) = let p = side_within h.0 others to h.3 c k in (omega (arith, p.0, h.1), p.1)

runs_le : (from : ℕ) (rows : List Run_side) (to : ℕ) → RunsLie from rows to → from ≤ to
runs_le from [] to h = h
runs_le from (r ∷ rows) to h = omega (arith, h.1, side_le (suc r.column) r.side h.0 h.2, runs_le h.0 rows to h.3)

runs_within : (earlier : List ℕ) (from : ℕ) (rows : List Run_side) (to : ℕ) → RunsLie from rows to → (c : ℕ) → IsRunsFault earlier rows c → (from ≤ c) × (c < to)
runs_within earlier from [] to h c k = elim k [ ]
runs_within earlier from (r ∷ rows) to h c (inl k) = (omega (arith, h.1, k.0), omega (arith, k.0, side_le (suc r.column) r.side h.0 h.2, runs_le h.0 rows to h.3))
runs_within earlier from (r ∷ rows) to h c (inr (inl k)) =
    let p = side_within (suc r.column) r.side h.0 h.2 c k in (omega (arith, p.0, h.1), omega (arith, p.1, runs_le h.0 rows to h.3))
runs_within earlier from (r ∷ rows) to h c (inr (inr k)) =
    let p = runs_within (earlier ++ r.bars ∷ []) h.0 rows to h.3 c k in
    (omega (arith, p.0, h.1, side_le (suc r.column) r.side h.0 h.2), p.1)

-- ---- the least of them

side_least : (from : ℕ) (side : List Found) (to : ℕ) → SideLies from side to → IsLeast (IsSideFault side) (side_fault side)
side_least from [] to h = λ c k. k
side_least from (e ∷ others) to h =
    least_first (λ c. e.fault ≡ Some c) (IsSideFault others) e.fault (side_fault others) (least_one e.fault) (side_least h.0 others to h.3)
    (λ c d k l. omega (arith, (h.2 c k).1, (side_within h.0 others to h.3 d l).0))

runs_least : (earlier : List ℕ) (from : ℕ) (rows : List Run_side) (to : ℕ) → RunsLie from rows to → IsLeast (IsRunsFault earlier rows) (runs_fault earlier rows)
runs_least earlier from [] to h = λ c k. k
runs_least earlier from (r ∷ rows) to h =
    let more = earlier ++ r.bars ∷ [] in
    let behind : IsLeast (λ c. IsSideFault r.side c ⊎ IsRunsFault more rows c) (first (side_fault r.side) (runs_fault more rows)) =
    least_first (IsSideFault r.side) (IsRunsFault more rows) (side_fault r.side) (runs_fault more rows) (side_least (suc r.column) r.side h.0 h.2) (runs_least more h.0 rows to h.3)
    (λ c d k l. omega (arith, (side_within (suc r.column) r.side h.0 h.2 c k).1, (runs_within more h.0 rows to h.3 d l).0)) in
    least_first (IsRepeatAt earlier r) (λ c. IsSideFault r.side c ⊎ IsRunsFault more rows c) (cond (repeats r.bars false earlier) (Some r.column) None) (first (side_fault r.side) (runs_fault more rows))
    (least_repeat earlier r) behind (λ c d k l. omega (arith, k.0, later d l))
  where
    later : (d : ℕ) → IsSideFault r.side d ⊎ IsRunsFault (earlier ++ r.bars ∷ []) rows d → r.column ≤ d
    later d (inl l) = let p = side_within (suc r.column) r.side h.0 h.2 d l in omega (arith, p.0)
    later d (inr l) = let p = runs_within (earlier ++ r.bars ∷ []) h.0 rows to h.3 d l in omega (arith, p.0, side_le (suc r.column) r.side h.0 h.2)

pub row_least : (side : List Found) (rows : List Run_side) (from to : ℕ) → RowLies from side rows to → IsLeast (IsFault side rows) (row_fault side rows)
row_least side rows from to h =
    least_first (IsSideFault side) (IsRunsFault [] rows) (side_fault side) (runs_fault [] rows) (side_least from side h.0 h.1) (runs_least [] h.0 rows to h.2)
    (λ c d k l. omega (arith, (side_within from side h.0 h.1 c k).1, (runs_within [] h.0 rows to h.2 d l).0))

-- the fault of a row lies within it
pub row_within : (side : List Found) (rows : List Run_side) (from to : ℕ) → RowLies from side rows to → (c : ℕ) → row_fault side rows ≡ Some c → (from ≤ c) × (c < to)
row_within side rows from to h c e = by (let P : Option ℕ → Type 0 = λ o. IsLeast (IsFault side rows) o in subst P e (row_least side rows from to h)).0
  where
    by : IsFault side rows c → (from ≤ c) × (c < to)
    by (inl k) = let p = side_within from side h.0 h.1 c k in (p.0, omega (arith, p.1, runs_le h.0 rows to h.2))
    by (inr k) = let p = runs_within [] h.0 rows to h.2 c k in (omega (arith, p.0, side_le from side h.0 h.1), p.1)
