-- The equations of splitting.
use Rattle.std.proofs.Common.{◌≡◌, ℕ, suc, ◌-◌, ◌<◌, List, [], refl, sym, ap, ◌∙◌, arith}
use Rattle.cg_grammar.specs.Found.{Found}
use Rattle.cg_grammar.specs.Braces.{Run_side, Cut, Whole, part_of, split_by, cut_from, side_trees}

pub part_here : (n : ℕ) (side : List Found) (rows : List Run_side) → part_of (suc n) side rows ≡ split_by (part_of n) side (cut_from [] (suc n) rows)
unfolding part_of
part_here n side rows = refl

pub part_step : (k : ℕ) (side : List Found) (rows : List Run_side) → 0 < k → part_of k side rows ≡ split_by (part_of (k - 1)) side (cut_from [] k rows)
part_step k side rows some =
    let e : k ≡ suc (k - 1) = omega arith in
    ap (λ (n : ℕ). part_of n side rows) e ∙ part_here (k - 1) side rows ∙ ap (λ (n : ℕ). split_by (part_of (k - 1)) side (cut_from [] n rows)) (sym e)

pub part_none : (side : List Found) (rows : List Run_side) → part_of 0 side rows ≡ side_trees side
unfolding part_of
part_none side rows = refl

-- where no run has this length, runs of one bar less split first
pub part_lower : (k : ℕ) (side : List Found) (rows : List Run_side) → 0 < k → cut_from [] k rows ≡ Whole rows → part_of k side rows ≡ part_of (k - 1) side rows
part_lower k side rows some whole = part_step k side rows some ∙ ap (λ (c : Cut). split_by (part_of (k - 1)) side c) whole
