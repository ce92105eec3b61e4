use Rattle.std.proofs.Common.{subst, [], ◌∷◌}
use Rattle.cg_syntax.specs.Bound.{Measures, bindings_in}
use Rattle.cg_query.specs.Tree.{Tree, value}
use Rattle.cg_query.specs.Trees.{tree_of}
use Rattle.cg_syntax.proofs.Resolving.{is_same, put_defined, same_tree}
use Rattle.cg_syntax.proofs.SessionSteps.{on_ok_both}
use Rattle.std.proofs.lemmas.Bool.{not-true}
use Rattle.cg_syntax.proofs.resolve.put_definition.Goals as goal

pub define-requires-clause-measures : goal.define-requires-clause-measures
define-requires-clause-measures c =
    let bs = bindings_in c.args.sheet.now in
    let t = tree_of c.args.expr in
    let none = not-true c.in-Ok.size.has_use c.if-not-size.true in
    subst (λ (z : Tree). Measures c.in-Ok.size (z ∷ [])) (same_tree bs t c.in-Ok.size c.in-Ok.ensures none) c.in-Ok.ensures.measures

pub returns-in-Ok-clause-puts : goal.returns-in-Ok-clause-puts
returns-in-Ok-clause-puts c =
    let bs = bindings_in c.args.sheet.now in
    let t = tree_of c.args.expr in
    let none = not-true c.in-Ok.size.has_use c.if-not-size.true in
    on_ok_both c.define.result c.define.ensures.put c.define.ensures.bindings
    (λ p b. put_defined c.args.number c.args.name t t c.args.sheet.now c.define.new.self
    (is_same bs (value t) c.in-Ok.size c.in-Ok.ensures none) (same_tree bs t c.in-Ok.size c.in-Ok.ensures none) p b)
