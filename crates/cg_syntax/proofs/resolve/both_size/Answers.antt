use Rattle.std.proofs.Common.{[], ◌∷◌}
use Rattle.std.proofs.lemmas.Result.{err_from_is_err_and}
use Rattle.cg_syntax.specs.Bound.{bindings_in}
use Rattle.cg_query.specs.Trees.{tree_of}
use Rattle.cg_syntax.proofs.SizeSteps.{beside_sized, failed, fails_first, fails_later}
use Rattle.cg_syntax.proofs.resolve.both_size.Goals as goal

pub returns : goal.returns
returns c = beside_sized (bindings_in c.args.sheet.now) (tree_of c.args.first.now ∷ []) (tree_of c.args.second.now ∷ []) c.in_ok-first.first
    c.in_ok-second.second c.beside.result
    (record { parts = c.beside.ensures.parts; levels = c.beside.ensures.levels; has_use = c.beside.ensures.has_use })
    c.in_ok-first.ensures c.in_ok-second.ensures

pub returns-in_err-first : goal.returns-in_err-first
returns-in_err-first c =
    let bs = bindings_in c.args.sheet.now in
    let s = tree_of c.args.first.now in
    let t = tree_of c.args.second.now in
    let p = err_from_is_err_and c.from_residual.result c.from_residual.ensures.1 in
    failed bs (s ∷ t ∷ []) c.from_residual.result p.0 c.in_err-first.field-0.0 p.1 p.2
    (fails_first bs (s ∷ []) (t ∷ []) c.in_err-first.field-0.0 c.in_err-first.ensures)

pub returns-in_err-second : goal.returns-in_err-second
returns-in_err-second c =
    let bs = bindings_in c.args.sheet.now in
    let s = tree_of c.args.first.now in
    let t = tree_of c.args.second.now in
    let p = err_from_is_err_and c.from_residual-in_err-second.result c.from_residual-in_err-second.ensures.1 in
    failed bs (s ∷ t ∷ []) c.from_residual-in_err-second.result p.0 c.in_err-second.field-0.0 p.1 p.2
    (fails_later bs (s ∷ []) (t ∷ []) c.in_err-second.field-0.0 c.in_ok-first.first c.in_ok-first.ensures c.in_err-second.ensures)
