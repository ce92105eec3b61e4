use Rattle.std.proofs.Common.{◌≡◌, rules, ap, sym, ◌∙◌, subst, refl, ◌+◌, arith, take, List, [], ◌∷◌, ◌++◌, ℕ, Bool, Ok, Err}
use Rattle.std.proofs.lemmas.Result.{err_from_is_err_and}
use Rattle.cg_canon.specs.Works.{work_state}
use Rattle.cg_canon.specs.declared.fault.ValueFault.TheVariants.{Memory}
use Rattle.cg_query.specs.Tree.{Tree, trees_from, terms_from}
use Rattle.cg_query.specs.Tree as trees
use Rattle.cg_query.specs.Trees.{tree_of, trees_in, trees_of, term_of, terms_in, terms_of}
use Rattle.cg_query.specs.declared.expr.Expr.{Expr}
use Rattle.cg_query.specs.declared.expr.Expr.TheVariants as expr
use Rattle.cg_query.proofs.TreeOf.{number_tree, ups_tree_of, nimber_tree, switch_tree, tiny_tree, braces_tree, negative_tree, multiple_tree, sum_tree}
use Rattle.cg_query.proofs.TreeOf.{game_tree, octal_tree, term_tree, used_tree}
use Rattle.cg_names.specs.Meaning.{signed}
use Rattle.cg_eval.specs.Meaning.{meaning, total_with}
use Rattle.cg_eval.specs.Faults.{fault_in, fault_in_terms}
use Rattle.cg_eval.specs.Progress.{Evaluates, EvaluatesAll, Finds}
use Rattle.cg_eval.specs.declared.fault.NoValue.TheVariants.{Refused}
use Rattle.cg_eval.specs.Items.{all_items, further_items, items, term_part}
use Rattle.cg_canon.specs.SumItems.{sum_items}
use Rattle.cg_form.specs.Sum.{sum as plus, negative as minus}
use Rattle.cg_nodes.specs.Can.{can}
use Rattle.cg_nodes.specs.Games.{AreGames, game_at}
use Rattle.cg_nodes.proofs.Later.{are_games_later, is_game_later, stands_is_game}
use Rattle.cg_canon.specs.Items.{made}
use Rattle.std.proofs.lemmas.List.{nil_from_length}
use Rattle.cg_query.specs.declared.expr.Term.{Term}
use Rattle.cg_eval.proofs.BoardParts.{board_finds, heap_finds}
use Rattle.cg_query.specs.Heights.{height}
use Rattle.cg_eval.proofs.Levels.{first_height, height_of_braces, height_of_negative, height_of_multiple, height_of_sum, height_of_item, height_of_term}
use Rattle.cg_eval.proofs.ListSteps.{adds, all_made-all, all_made-none, all_made-step, all_stopped, added-all, added-none, added-step, added-stopped}
use Rattle.cg_eval.proofs.ListSteps.{first_and_rest, first_term_stopped, no_terms_find, sum_of_terms}
use Rattle.cg_eval.proofs.Expressions.{added_gives, braces_gives, left_stopped, multiple_gives, multiple_stopped, negative_gives, negative_stopped}
use Rattle.cg_eval.proofs.Expressions.{right_stopped, signed_stopped, subtracted_gives, sum_gives, used_gives}
use Rattle.cg_eval.proofs.Steps.{lacks_front, passed_on, stops_memory}
use Rattle.cg_eval.proofs.evaluate.+evaluate.Goals as goal

-- ---- evaluate

pub evaluate-braces-requires : goal.evaluate-braces-requires
evaluate-braces-requires g t c =
    let b = height_of_braces c.args.expr.now c.in-Braces.lefts c.in-Braces.rights c.in-Braces.is in
    search rules

pub evaluate-minus-requires : goal.evaluate-minus-requires
evaluate-minus-requires g t c =
    let b = height_of_negative c.args.expr.now c.in-Negative.inner c.in-Negative.is in
    let s : height (tree_of c.deref.result.now) ≡ height (tree_of c.in-Negative.inner.value) = ap (λ (x : Expr). height
    (tree_of x)) c.deref.ensures in
    search rules

pub evaluate-times-requires : goal.evaluate-times-requires
evaluate-times-requires g t c =
    let b = height_of_multiple c.args.expr.now c.in-Multiple.count c.in-Multiple.inner c.in-Multiple.is in
    let s : height (tree_of c.deref-in-Multiple.result.now) ≡ height (tree_of c.in-Multiple.inner.value) = ap (λ
    (x : Expr). height (tree_of x)) c.deref-in-Multiple.ensures in
    search rules

pub evaluate-total-requires : goal.evaluate-total-requires
evaluate-total-requires g t c =
    let b = height_of_sum c.args.expr.now c.in-Sum.terms c.in-Sum.is in
    search rules

pub evaluate-returns-in-Game : goal.evaluate-returns-in-Game
evaluate-returns-in-Game g t c =
    rw (ap tree_of c.in-Game.is ∙ game_tree c.in-Game.kind c.in-Game.rules c.in-Game.board)
    (board_finds (work_state g.S.CellStore.state c.args.work.now) (work_state g.S.CellStore.state c.board_value.new.work) c.in-Game.kind
    c.in-Game.rules c.in-Game.board c.board_value.result c.board_value.ensures)

pub evaluate-returns-in-Octal : goal.evaluate-returns-in-Octal
evaluate-returns-in-Octal g t c =
    rw (ap tree_of c.in-Octal.is ∙ octal_tree c.in-Octal.code c.in-Octal.heap)
    (heap_finds (work_state g.S.CellStore.state c.args.work.now) (work_state g.S.CellStore.state c.heap_value.new.work) c.in-Octal.code
    c.in-Octal.heap c.heap_value.result c.heap_value.ensures)

pub evaluate-returns-in-Name : goal.evaluate-returns-in-Name
evaluate-returns-in-Name g t c =
    rw (ap tree_of c.in-Name.is ∙ used_tree c.in-Name.text c.in-Name.column)
    (used_gives (work_state g.S.CellStore.state c.args.work.now) (work_state g.S.CellStore.state c.nothing.new.work) c.in-Name.text
    c.in-Name.column c.nothing.result c.nothing.ensures)

pub evaluate-returns-in-Number : goal.evaluate-returns-in-Number
evaluate-returns-in-Number g t c =
    rw (ap tree_of c.in-Number.is ∙ number_tree c.in-Number.negative c.in-Number.num c.in-Number.den) c.literal.ensures

pub evaluate-returns-in-Ups : goal.evaluate-returns-in-Ups
evaluate-returns-in-Ups g t c =
    rw (ap tree_of c.in-Ups.is ∙ ups_tree_of c.in-Ups.down c.in-Ups.count) c.named_ups.ensures

pub evaluate-returns-in-Nimber : goal.evaluate-returns-in-Nimber
evaluate-returns-in-Nimber g t c =
    rw (ap tree_of c.in-Nimber.is ∙ nimber_tree c.in-Nimber.count) c.named_nimber.ensures

pub evaluate-returns-in-Switch : goal.evaluate-returns-in-Switch
evaluate-returns-in-Switch g t c =
    rw (ap tree_of c.in-Switch.is ∙ switch_tree c.in-Switch.num c.in-Switch.den) c.named_switch.ensures

pub evaluate-returns-in-Tiny : goal.evaluate-returns-in-Tiny
evaluate-returns-in-Tiny g t c =
    rw (ap tree_of c.in-Tiny.is ∙ tiny_tree c.in-Tiny.miny c.in-Tiny.num c.in-Tiny.den) c.named_tiny.ensures

pub evaluate-returns-in-Braces : goal.evaluate-returns-in-Braces
evaluate-returns-in-Braces g t c =
    rw (ap tree_of c.in-Braces.is ∙ braces_tree c.in-Braces.lefts c.in-Braces.rights) c.braces.ensures

pub evaluate-returns-in-Negative : goal.evaluate-returns-in-Negative
evaluate-returns-in-Negative g t c =
    rw (ap tree_of c.in-Negative.is ∙ negative_tree c.in-Negative.inner ∙ ap (λ (x : Expr). trees.negative (tree_of x)) (sym c.deref.ensures))
    c.minus.ensures

pub evaluate-returns-in-Multiple : goal.evaluate-returns-in-Multiple
evaluate-returns-in-Multiple g t c =
    rw (ap tree_of c.in-Multiple.is ∙ multiple_tree c.in-Multiple.count c.in-Multiple.inner
    ∙ ap (λ (x : Expr). trees.multiple c.in-Multiple.count (tree_of x)) (sym c.deref-in-Multiple.ensures))
    c.times.ensures

pub evaluate-returns-in-Sum : goal.evaluate-returns-in-Sum
evaluate-returns-in-Sum g t c =
    rw (ap tree_of c.in-Sum.is ∙ sum_tree c.in-Sum.terms) c.total.ensures

-- ---- evaluate_all

pub evaluate_all-evaluate-requires : goal.evaluate_all-evaluate-requires
evaluate_all-evaluate-requires g t c =
    let s = height_of_item c.as_slice-expr-items.result.now
    (trees_in c.args.exprs.now) c.loop-expr.expr-index c.expr-item.result c.as_slice-expr-items.ensures
    c.expr-item.is c.loop-expr-test.true in
    search rules

pub evaluate_all-loop-expr-init : goal.evaluate_all-loop-expr-init
evaluate_all-loop-expr-init g t c =
    all_made-none (work_state g.S.CellStore.state c.args.work.now) c.new-handles.result.items
    c.new-handles.ensures.items

pub evaluate_all-loop-expr-preserved : goal.evaluate_all-loop-expr-preserved
evaluate_all-loop-expr-preserved g t c =
    all_made-step (work_state g.S.CellStore.state c.args.work.now) (work_state g.S.CellStore.state c.loop-expr.work)
    (work_state g.S.CellStore.state c.evaluate.new.work) c.as_slice-expr-items.result.now c.loop-expr.expr-index
    c.expr-item.result c.loop-expr.handles.items c.push.new.self.items c.in_ok-handle.handle
    c.loop-expr-test.true c.expr-item.is c.loop-expr.invariant c.in_ok-handle.ensures c.in_ok-push.ensures.items

pub evaluate_all-returns-in_err-handle : goal.evaluate_all-returns-in_err-handle
evaluate_all-returns-in_err-handle g t c =
    let p = err_from_is_err_and c.from_residual.result c.from_residual.ensures.1 in
    passed_on (EvaluatesAll (work_state g.S.CellStore.state c.args.work.now)
    (work_state g.S.CellStore.state c.evaluate.new.work) (trees_from (trees_in c.args.exprs.now))) c.from_residual.result p.0
    c.in_err-handle.field-0.0 p.1 p.2
    (all_stopped (work_state g.S.CellStore.state c.args.work.now) (work_state g.S.CellStore.state c.loop-expr.work)
    (work_state g.S.CellStore.state c.evaluate.new.work) c.as_slice-expr-items.result.now
    (trees_in c.args.exprs.now) c.loop-expr.expr-index c.expr-item.result c.loop-expr.handles.items
    c.in_err-handle.field-0.0 c.as_slice-expr-items.ensures
    c.loop-expr-test.true c.expr-item.is c.loop-expr.invariant c.in_err-handle.ensures)

pub evaluate_all-returns-in_err-push : goal.evaluate_all-returns-in_err-push
evaluate_all-returns-in_err-push g t c =
    let p = err_from_is_err_and c.from_residual-in_err-push.result c.from_residual-in_err-push.ensures.1 in
    let hs : List ℕ = c.loop-expr.handles.items ++ (c.in_ok-handle.handle ∷ []) in
    let more = all_made-step (work_state g.S.CellStore.state c.args.work.now)
    (work_state g.S.CellStore.state c.loop-expr.work)
    (work_state g.S.CellStore.state c.evaluate.new.work) c.as_slice-expr-items.result.now c.loop-expr.expr-index
    c.expr-item.result c.loop-expr.handles.items hs c.in_ok-handle.handle
    c.loop-expr-test.true c.expr-item.is c.loop-expr.invariant c.in_ok-handle.ensures refl in
    passed_on (EvaluatesAll (work_state g.S.CellStore.state c.args.work.now)
    (work_state g.S.CellStore.state c.evaluate.new.work) (trees_from (trees_in c.args.exprs.now)))
    c.from_residual-in_err-push.result p.0 (Refused Memory) p.1 p.2 (stops_memory
    (work_state g.S.CellStore.state c.args.work.now) (work_state g.S.CellStore.state c.evaluate.new.work)
    (all_items (work_state g.S.CellStore.state c.args.work.now).rest.limit (trees_from (trees_of (take
    (c.loop-expr.expr-index + 1) c.as_slice-expr-items.result.now)))) (all_items
    (work_state g.S.CellStore.state c.args.work.now).rest.limit (trees_from (trees_in c.args.exprs.now))) more.made)

pub evaluate_all-returns : goal.evaluate_all-returns
evaluate_all-returns g t c =
    all_made-all (work_state g.S.CellStore.state c.args.work.now)
    (work_state g.S.CellStore.state c.loop-expr.work) c.as_slice-expr-items.result.now
    (trees_in c.args.exprs.now) c.loop-expr.expr-index c.loop-expr.handles.items c.as_slice-expr-items.ensures
    c.loop-expr-test.false c.loop-expr.invariant

-- ---- braces

pub braces-canonical-requires : goal.braces-canonical-requires
braces-canonical-requires g t c =
    let l = c.in_ok-left_handles.ensures in
    let r = c.in_ok-right_handles.ensures in
    let A : List ℕ → Type 0 = λ hs. AreGames (work_state g.S.CellStore.state c.evaluate_all-2.new.work) hs in
    record {
      extra = omega arith;
      lefts = subst A (sym c.deref.ensures.value) (are_games_later
          (work_state g.S.CellStore.state c.evaluate_all.new.work)
          (work_state g.S.CellStore.state c.evaluate_all-2.new.work) r.1.1.keeps.known
          c.in_ok-left_handles.left_handles.items l.1.0.0);
      rights = subst A (sym c.deref-2.ensures.value) r.1.0.0;
    }

pub braces-returns-in_err-left_handles : goal.braces-returns-in_err-left_handles
braces-returns-in_err-left_handles g t c =
    let p = err_from_is_err_and c.from_residual.result c.from_residual.ensures.1 in
    let ls = trees_from (trees_in c.args.lefts.now) in
    let rs = trees_from (trees_in c.args.rights.now) in
    let s = work_state g.S.CellStore.state c.args.work.now in
    let t1 = work_state g.S.CellStore.state c.evaluate_all.new.work in
    passed_on (Evaluates s t1 (trees.braces (trees_in c.args.lefts.now) (trees_in c.args.rights.now)))
    c.from_residual.result p.0 c.in_err-left_handles.field-0.0 p.1 p.2
    (left_stopped s t1 ls rs c.in_err-left_handles.field-0.0 c.in_err-left_handles.ensures)

pub braces-returns-in_err-right_handles : goal.braces-returns-in_err-right_handles
braces-returns-in_err-right_handles g t c =
    let p = err_from_is_err_and c.from_residual-in_err-right_handles.result
    c.from_residual-in_err-right_handles.ensures.1 in
    let l = c.in_ok-left_handles.ensures in
    let ls = trees_from (trees_in c.args.lefts.now) in
    let rs = trees_from (trees_in c.args.rights.now) in
    let s = work_state g.S.CellStore.state c.args.work.now in
    let t1 = work_state g.S.CellStore.state c.evaluate_all.new.work in
    let t2 = work_state g.S.CellStore.state c.evaluate_all-2.new.work in
    passed_on (Evaluates s t2 (trees.braces (trees_in c.args.lefts.now) (trees_in c.args.rights.now)))
    c.from_residual-in_err-right_handles.result p.0 c.in_err-right_handles.field-0.0 p.1 p.2
    (right_stopped s t1 t2 ls rs c.in_err-right_handles.field-0.0 l.0 l.1.1 c.in_err-right_handles.ensures)

pub braces-returns : goal.braces-returns
braces-returns g t c =
    let hs = c.deref.result.now in
    let ks = c.deref-2.result.now in
    braces_gives (work_state g.S.CellStore.state c.args.work.now)
    (work_state g.S.CellStore.state c.evaluate_all.new.work)
    (work_state g.S.CellStore.state c.evaluate_all-2.new.work)
    (work_state g.S.CellStore.state c.canonical.new.work) (trees_from (trees_in c.args.lefts.now)) (trees_from
    (trees_in c.args.rights.now)) c.in_ok-left_handles.left_handles.items hs
    c.in_ok-right_handles.right_handles.items ks c.canonical.result c.widen.result c.widen.ensures
    c.in_ok-left_handles.ensures c.in_ok-right_handles.ensures c.deref.ensures.value c.deref-2.ensures.value c.canonical.ensures.gives

-- ---- minus and times

pub minus-negative-requires : goal.minus-negative-requires
minus-negative-requires g t c =
    stands_is_game (work_state g.S.CellStore.state c.evaluate.new.work) c.in_ok-value.value (can (meaning
    (tree_of c.args.expr.now))) c.in_ok-value.ensures.1.0

pub minus-returns-in_err-value : goal.minus-returns-in_err-value
minus-returns-in_err-value g t c =
    let p = err_from_is_err_and c.from_residual.result c.from_residual.ensures.1 in
    let s = work_state g.S.CellStore.state c.args.work.now in
    let t1 = work_state g.S.CellStore.state c.evaluate.new.work in
    passed_on (Evaluates s t1 (trees.negative (tree_of c.args.expr.now))) c.from_residual.result p.0 c.in_err-value.field-0.0
    p.1 p.2 (negative_stopped s t1 (tree_of c.args.expr.now) c.in_err-value.field-0.0 c.in_err-value.ensures)

pub minus-returns : goal.minus-returns
minus-returns g t c =
    negative_gives (work_state g.S.CellStore.state c.args.work.now)
    (work_state g.S.CellStore.state c.evaluate.new.work) (work_state g.S.CellStore.state c.negative.new.work)
    (tree_of c.args.expr.now) c.in_ok-value.value c.negative.result c.widen.result c.widen.ensures c.in_ok-value.ensures c.negative.ensures

pub times-multiple-requires : goal.times-multiple-requires
times-multiple-requires g t c =
    stands_is_game (work_state g.S.CellStore.state c.evaluate.new.work) c.in_ok-value.value (can (meaning
    (tree_of c.args.expr.now))) c.in_ok-value.ensures.1.0

pub times-returns-in_err-value : goal.times-returns-in_err-value
times-returns-in_err-value g t c =
    let p = err_from_is_err_and c.from_residual.result c.from_residual.ensures.1 in
    let s = work_state g.S.CellStore.state c.args.work.now in
    let t1 = work_state g.S.CellStore.state c.evaluate.new.work in
    passed_on (Evaluates s t1 (trees.multiple c.args.count (tree_of c.args.expr.now))) c.from_residual.result p.0 c.in_err-value.field-0.0
    p.1 p.2 (multiple_stopped s t1 c.args.count (tree_of c.args.expr.now) c.in_err-value.field-0.0 c.in_err-value.ensures)

pub times-returns : goal.times-returns
times-returns g t c =
    multiple_gives (work_state g.S.CellStore.state c.args.work.now)
    (work_state g.S.CellStore.state c.evaluate.new.work)
    (work_state g.S.CellStore.state c.multiple.new.work) c.args.count
    (tree_of c.args.expr.now) c.in_ok-value.value c.multiple.result c.widen.result c.widen.ensures c.in_ok-value.ensures c.multiple.ensures

-- ---- total

pub total-signed-requires : goal.total-signed-requires
total-signed-requires g t c =
    let split = first_and_rest c.as_slice.result.now
    (terms_in c.args.terms.now) c.in-Some.first.now c.in-Some.others.now c.as_slice.ensures
    c.in-Some.ensures.cases.0 in
    let s = (first_height (terms_in c.args.terms.now) c.in-Some.first.now.minus (tree_of c.in-Some.first.now.expr)
    (terms_of c.in-Some.others.now) split).0 in
    search rules

pub total-further-requires : goal.total-further-requires
total-further-requires g t c =
    let split = first_and_rest c.as_slice.result.now
    (terms_in c.args.terms.now) c.in-Some.first.now c.in-Some.others.now c.as_slice.ensures
    c.in-Some.ensures.cases.0 in
    let s = (first_height (terms_in c.args.terms.now) c.in-Some.first.now.minus (tree_of c.in-Some.first.now.expr)
    (terms_of c.in-Some.others.now) split).1 in
    let k = stands_is_game (work_state g.S.CellStore.state c.signed.new.work) c.in_ok-start-in-Some.start (can
    (signed c.in-Some.first.now.minus (meaning
    (tree_of c.in-Some.first.now.expr)))) c.in_ok-start-in-Some.ensures.1.0 in
    search rules

pub total-returns-in_err-start-in-Some : goal.total-returns-in_err-start-in-Some
total-returns-in_err-start-in-Some g t c =
    let split = first_and_rest c.as_slice.result.now
    (terms_in c.args.terms.now) c.in-Some.first.now c.in-Some.others.now c.as_slice.ensures
    c.in-Some.ensures.cases.0 in
    let p = err_from_is_err_and c.from_residual.result c.from_residual.ensures.1 in
    let s = work_state g.S.CellStore.state c.args.work.now in
    let t1 = work_state g.S.CellStore.state c.signed.new.work in
    let P : List (Bool × Tree) → Type 0 = λ z. Evaluates s t1 (trees.sum (terms_from z)) (Err c.in_err-start-in-Some.field-0.0) in
    passed_on (Evaluates s t1 (trees.sum (terms_from (terms_in c.args.terms.now)))) c.from_residual.result p.0
    c.in_err-start-in-Some.field-0.0 p.1 p.2 (subst P (sym split) (first_term_stopped s t1 (terms_of c.in-Some.others.now)
    c.in-Some.first.now.minus (tree_of c.in-Some.first.now.expr) c.in_err-start-in-Some.field-0.0
    c.in_err-start-in-Some.ensures))

pub total-returns-in-None : goal.total-returns-in-None
total-returns-in-None g t c =
    no_terms_find (work_state g.S.CellStore.state c.args.work.now)
    (work_state g.S.CellStore.state c.nothing.new.work)
    (terms_in c.args.terms.now) c.nothing.result (sym c.as_slice.ensures ∙ ap (λ
    (z : List Term). terms_of z) (nil_from_length c.as_slice.result.now c.in-None.ensures.cases)) c.nothing.ensures

pub total-returns-in_ok-start-in-Some : goal.total-returns-in_ok-start-in-Some
total-returns-in_ok-start-in-Some g t c =
    let split = first_and_rest c.as_slice.result.now
    (terms_in c.args.terms.now) c.in-Some.first.now c.in-Some.others.now c.as_slice.ensures
    c.in-Some.ensures.cases.0 in
    let P : List (Bool × Tree) → Type 0 = λ z. Evaluates (work_state g.S.CellStore.state c.args.work.now)
    (work_state g.S.CellStore.state c.further.new.work) (trees.sum (terms_from z)) c.further.result in
    subst P (sym split) (sum_of_terms (work_state g.S.CellStore.state c.args.work.now)
    (work_state g.S.CellStore.state c.signed.new.work) (work_state g.S.CellStore.state c.further.new.work)
    (terms_of c.in-Some.others.now) c.in-Some.first.now.minus
    (tree_of c.in-Some.first.now.expr) c.in_ok-start-in-Some.start c.further.result c.in_ok-start-in-Some.ensures
    c.further.ensures)

-- ---- further

pub further-added-requires : goal.further-added-requires
further-added-requires g t c =
    let s = height_of_term c.args.terms.now (terms_of c.args.terms.now) c.loop-term.term-index c.term-item.result refl
    c.term-item.is c.loop-term-test.true in
    let e : height (tree_of c.term-item.result.expr) ≡ height (term_of c.term-item.result).1 = ap (λ (p : Bool
    × Tree). height p.1) (sym (term_tree c.term-item.result.minus c.term-item.result.expr)) in
    let k = c.loop-term.invariant.known in
    search rules

pub further-loop-term-init : goal.further-loop-term-init
further-loop-term-init g t c =
    added-none (work_state g.S.CellStore.state c.args.work.now) c.args.start c.requires

pub further-loop-term-preserved : goal.further-loop-term-preserved
further-loop-term-preserved g t c =
    let e = c.in_ok-so_far.ensures in
    added-step (work_state g.S.CellStore.state c.args.work.now) (work_state g.S.CellStore.state c.loop-term.work)
    (work_state g.S.CellStore.state c.added.new.work) c.args.terms.now c.loop-term.term-index c.term-item.result
    c.args.start c.loop-term.so_far c.in_ok-so_far.so_far c.loop-term-test.true c.term-item.is
    (stands_is_game (work_state g.S.CellStore.state c.added.new.work) c.in_ok-so_far.so_far (can (plus (game_at
    (work_state g.S.CellStore.state c.loop-term.work) c.loop-term.so_far) (signed c.term-item.result.minus
    (meaning (tree_of c.term-item.result.expr))))) e.1.0) e.0 c.loop-term.invariant
    (adds (work_state g.S.CellStore.state c.loop-term.work)
    (work_state g.S.CellStore.state c.added.new.work) c.loop-term.so_far c.term-item.result.minus
    (tree_of c.term-item.result.expr) (Ok c.in_ok-so_far.so_far) e)

pub further-returns-in_err-so_far : goal.further-returns-in_err-so_far
further-returns-in_err-so_far g t c =
    let p = err_from_is_err_and c.from_residual.result c.from_residual.ensures.1 in
    let s = work_state g.S.CellStore.state c.args.work.now in
    let t1 = work_state g.S.CellStore.state c.loop-term.work in
    let t2 = work_state g.S.CellStore.state c.added.new.work in
    let ts = terms_from (terms_of c.args.terms.now) in
    λ game stands. passed_on (Finds s t2 (fault_in_terms ts) (further_items s.rest.limit game ts) (total_with game ts))
    c.from_residual.result p.0 c.in_err-so_far.field-0.0 p.1 p.2
    (added-stopped s t1 t2 c.args.terms.now c.loop-term.term-index c.term-item.result c.args.start c.loop-term.so_far
    c.in_err-so_far.field-0.0 c.loop-term-test.true c.term-item.is c.loop-term.invariant
    (adds t1 t2 c.loop-term.so_far c.term-item.result.minus (tree_of c.term-item.result.expr)
    (Err c.in_err-so_far.field-0.0) c.in_err-so_far.ensures) game stands)

pub further-returns : goal.further-returns
further-returns g t c =
    λ game stands. added-all (work_state g.S.CellStore.state c.args.work.now)
    (work_state g.S.CellStore.state c.loop-term.work) c.args.terms.now c.loop-term.term-index c.args.start
    c.loop-term.so_far c.loop-term-test.false c.loop-term.invariant game stands

-- ---- signed and added

pub signed-negative-requires : goal.signed-negative-requires
signed-negative-requires g t c =
    stands_is_game (work_state g.S.CellStore.state c.evaluate.new.work) c.in_ok-value.value (can (meaning
    (tree_of c.args.expr.now))) c.in_ok-value.ensures.1.0

pub signed-returns-in_err-value : goal.signed-returns-in_err-value
signed-returns-in_err-value g t c =
    let p = err_from_is_err_and c.from_residual.result c.from_residual.ensures.1 in
    let s = work_state g.S.CellStore.state c.args.work.now in
    let t1 = work_state g.S.CellStore.state c.evaluate.new.work in
    let e = tree_of c.args.expr.now in
    passed_on (Finds s t1 (fault_in e) (term_part s.rest.limit c.args.subtracted e) (signed c.args.subtracted (meaning e)))
    c.from_residual.result p.0 c.in_err-value.field-0.0 p.1 p.2
    (signed_stopped s t1 c.args.subtracted e c.in_err-value.field-0.0 c.in_err-value.ensures)

pub signed-returns-then-subtracted : goal.signed-returns-then-subtracted
signed-returns-then-subtracted g t c =
    let P : Bool → Type 0 = λ b. Finds (work_state g.S.CellStore.state c.args.work.now)
    (work_state g.S.CellStore.state c.negative.new.work) (fault_in (tree_of c.args.expr.now)) (term_part
    (work_state g.S.CellStore.state c.args.work.now).rest.limit b (tree_of c.args.expr.now)) (signed b (meaning
    (tree_of c.args.expr.now))) c.widen.result in
    subst P (sym c.if-subtracted.true) (subtracted_gives (work_state g.S.CellStore.state c.args.work.now)
    (work_state g.S.CellStore.state c.evaluate.new.work) (work_state g.S.CellStore.state c.negative.new.work)
    (tree_of c.args.expr.now) c.in_ok-value.value c.negative.result c.widen.result c.widen.ensures c.in_ok-value.ensures
    c.negative.ensures)

pub signed-returns-else-subtracted : goal.signed-returns-else-subtracted
signed-returns-else-subtracted g t c =
    let P : Bool → Type 0 = λ b. Finds (work_state g.S.CellStore.state c.args.work.now)
    (work_state g.S.CellStore.state c.evaluate.new.work) (fault_in (tree_of c.args.expr.now)) (term_part
    (work_state g.S.CellStore.state c.args.work.now).rest.limit b (tree_of c.args.expr.now)) (signed b (meaning
    (tree_of c.args.expr.now))) (Ok c.in_ok-value.value) in
    subst P (sym c.if-subtracted.false) (added_gives (work_state g.S.CellStore.state c.args.work.now)
    (work_state g.S.CellStore.state c.evaluate.new.work)
    (tree_of c.args.expr.now) c.in_ok-value.value c.in_ok-value.ensures)

pub added-sum-requires : goal.added-sum-requires
added-sum-requires g t c =
    let e = c.in_ok-value.ensures in
    record {
      a = is_game_later (work_state g.S.CellStore.state c.args.work.now)
          (work_state g.S.CellStore.state c.signed.new.work) e.1.1.keeps.known c.args.so_far c.requires;
      b = stands_is_game (work_state g.S.CellStore.state c.signed.new.work) c.in_ok-value.value (can
          (signed c.args.subtracted (meaning (tree_of c.args.expr.now)))) e.1.0;
    }

pub added-returns-in_err-value : goal.added-returns-in_err-value
added-returns-in_err-value g t c =
    let p = err_from_is_err_and c.from_residual.result c.from_residual.ensures.1 in
    let s = work_state g.S.CellStore.state c.args.work.now in
    let t1 = work_state g.S.CellStore.state c.signed.new.work in
    let e = tree_of c.args.expr.now in
    let so_far = game_at s c.args.so_far in
    let m = signed c.args.subtracted (meaning e) in
    let own = term_part s.rest.limit c.args.subtracted e in
    passed_on (Finds s t1 (fault_in e) (own ++ sum_items s.rest.limit so_far (can m)) (plus so_far m))
    c.from_residual.result p.0 c.in_err-value.field-0.0 p.1 p.2
    (lacks_front s t1 (fault_in e) (fault_in e) own (sum_items s.rest.limit so_far (can m)) c.in_err-value.field-0.0
    (λ x f. f) c.in_err-value.ensures)

pub added-returns : goal.added-returns
added-returns g t c =
    sum_gives (work_state g.S.CellStore.state c.args.work.now) (work_state g.S.CellStore.state c.signed.new.work)
    (work_state g.S.CellStore.state c.sum.new.work) (signed c.args.subtracted (meaning
    (tree_of c.args.expr.now))) (fault_in (tree_of c.args.expr.now)) (term_part
    (work_state g.S.CellStore.state c.args.work.now).rest.limit c.args.subtracted (tree_of c.args.expr.now)) c.args.so_far
    c.in_ok-value.value c.sum.result c.widen.result c.widen.ensures c.requires c.in_ok-value.ensures c.sum.ensures
