-- A table at its start, and its first pass.
use Rattle.std.proofs.Common.{◌≡◌, [], false, refl, sym, subst}
use Rattle.atomic_table.specs.Table.{Me}
use Rattle.cg_cells.specs.Meaning.{Meaning, IsLawful}
use Rattle.cg_cells.specs.Views.{Sizes, ViewOf, first_view}
use Rattle.cg_cells.specs.Table.{IsAllowed}
use Rattle.cg_cells.specs.Steps.{opening}
use Rattle.cg_cells.proofs.Runs.{reachable_start, sure_of}
use Rattle.cg_shared.specs.Passes.{IsKeptPass}

pub first_kept : {S X : Type 0} (m : Meaning X) → IsLawful m → (z : Sizes) → IsAllowed z → (me : Me S (ViewOf X)) → me ≡ (first_view z, []) → IsKeptPass m 0 (first_view {X = X} z).heirs false me
first_kept {S} {X} m L z allowed me is = subst (λ (me : Me S (ViewOf X)). IsKeptPass m 0 (first_view {X = X} z).heirs false me) (sym is) (record {
  same_spare = refl;
  same_heirs = refl;
  same_over = refl;
  no_slot = refl;
  no_probe = refl;
  alive = refl;
  sure = sure_of m L z (opening z) (reachable_start m z allowed) 0 (first_view z) (refl, refl);
})
