-- A store that a work has borrowed, after the work.
use Rattle.std.proofs.Common.{◌≡◌, ap, sym, ◌+◌, ◌≤◌, arith}
use Rattle.cg_cells.specs.Store.{Spends, State}
use Rattle.cg_nodes.specs.Meant.{Meant}
use Rattle.cg_canon.specs.Works.{WorkOf, work_state}
use Rattle.cg_canon.specs.declared.rest.WorkRest.{WorkRest}

-- nothing was spent on the store, where nothing was spent on the work before and since
pub spends_over : {S R : Type 0} (state : S → State Meant R) (w v : WorkOf S) (x y : S) → w.store.now ≡ x
    → y ≡ v.store.now → w.spent ≡ 0 → w.start ≡ (state x).spare → v.start ≤ (state v.store.now).spare + v.spent
    → Spends 0 (work_state state w) (work_state state v) → Spends 0 (state x) (state y)
spends_over {S} {R} state w v x y e f none start enough b =
    let spent : v.spent ≡ w.spent = ap (λ (r : WorkRest R). r.spent) b.rest in
    let begun : v.start ≡ w.start = ap (λ (r : WorkRest R). r.start) b.rest in
    let same : (state w.store.now).spare ≡ (state x).spare = ap (λ z. (state z).spare) e in
    let left = b.spare in
    rw (sym e, f) (record {
      known = b.known;
      noted = b.noted;
      spare = omega arith;
      rest = ap (λ (r : WorkRest R). r.of_store) b.rest;
    })
