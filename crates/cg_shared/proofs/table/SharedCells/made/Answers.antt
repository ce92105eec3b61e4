use Rattle.std.proofs.Common.{◌≡◌, ◌+◌, replicate, ◌∷◌, [], sym, ap, ◌∙◌, subst}
use Rattle.cg_cells.specs.Views.{first_view}
use Rattle.cg_cells.specs.Steps.{IsReachable}
use Rattle.cg_cells.proofs.Runs.{reachable_start}
use Rattle.cg_shared.specs.Plays.{sizes_of}
use Rattle.cg_shared.proofs.Starting.{first_kept}
use Rattle.cg_shared.proofs.table.SharedCells.made.Goals as goal

pub of_words-requires : goal.of_words-requires
of_words-requires g c =
    let words : c.as_slice.result.now ≡ replicate (1 + c.args.size + c.args.size) 0 = c.as_slice.ensures.value ∙ c.in_ok-words.ensures.items_if_clones_equal (λ y h. h) in
    subst (λ ws. IsReachable g.F.Facts.meaning (sizes_of c.args.plan) (record { words = ws; views = first_view (sizes_of c.args.plan) ∷ [] }))
    (sym (words ∙ ap (λ n. replicate (1 + n + n) 0) c.requires.0)) (reachable_start g.F.Facts.meaning (sizes_of c.args.plan) c.requires.1)

pub invariant_of-pass : goal.invariant_of-pass
invariant_of-pass g c = first_kept g.F.Facts.meaning g.met.F.Facts.lawful (sizes_of c.args.plan) c.requires.1 c.in_ok-table.seat.me c.in_ok-table.ensures.4
