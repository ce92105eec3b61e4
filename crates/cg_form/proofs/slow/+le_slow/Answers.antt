use Rattle.std.proofs.Common.{rules, ◌≡◌, ap, ℕ, ◌≤◌, get_or, List}
use Rattle.cg_form.specs.declared.form.Form.{Form}
use Rattle.cg_form.specs.Forms.{game_of, games_of}
use Rattle.cg_form.specs.Order.{le}
use Rattle.cg_form.specs.Size.{list_size, size}
use Rattle.cg_form.proofs.FormLists.{size_le_list, size_of_lists}
use Rattle.cg_form.proofs.LeSteps.{hit_returns, miss_more, nodes_else, nodes_then, numbers_returns}
use Rattle.cg_form.proofs.slow.+le_slow.Goals as goal

pub le_slow-none_above-requires : goal.le_slow-none_above-requires
le_slow-none_above-requires t c =
    let s = size_of_lists c.args.a.now c.in-Node.lefts c.in-Node.field-1 c.in-Node.is in
    (search rules, tt)

pub le_slow-none_below-requires : goal.le_slow-none_below-requires
le_slow-none_below-requires t c =
    let s = size_of_lists c.args.b.now c.in-Node-b-2.field-0 c.in-Node-b-2.rights c.in-Node-b-2.is in
    (search rules, tt)

pub le_slow-returns-in-Num-b : goal.le_slow-returns-in-Num-b
le_slow-returns-in-Num-b t c = numbers_returns c.args.a.now c.args.b.now c.in-Num.x c.in-Num-b.y c.le.result c.in-Num.is c.in-Num-b.is c.le.ensures.value

pub le_slow-returns-then-none_above : goal.le_slow-returns-then-none_above
le_slow-returns-then-none_above t c =
    nodes_then c.args.a.now c.args.b.now _ _ _ _ _ _ c.in-Node.is c.in-Node-b-2.is c.none_above.ensures c.if-none_above.true c.none_below.ensures

pub le_slow-returns-else-none_above : goal.le_slow-returns-else-none_above
le_slow-returns-else-none_above t c =
    nodes_else c.args.a.now c.args.b.now _ _ _ _ _ c.in-Node.is c.in-Node-b-2.is c.none_above.ensures c.if-none_above.false

pub none_above-le_slow-requires : goal.none_above-le_slow-requires
none_above-le_slow-requires t c =
    let xs : List Form = c.as_slice-option-items.result.now in
    let i : ℕ = c.loop-option.option-index in
    let x : Form = c.option-item.result in
    let z : size (game_of x) ≡ size (game_of (get_or xs i x)) = ap (λ (f : Form). size (game_of f)) c.option-item.is in
    let y : size (game_of (get_or xs i x)) ≤ list_size (games_of xs) = size_le_list xs i x c.loop-option-test.true in
    let w : list_size (games_of xs) ≡ list_size c.args.options.now = ap list_size c.as_slice-option-items.ensures in
    (search rules, tt)

pub none_below-le_slow-requires : goal.none_below-le_slow-requires
none_below-le_slow-requires t c =
    let xs : List Form = c.as_slice-option-items.result.now in
    let i : ℕ = c.loop-option.option-index in
    let x : Form = c.option-item.result in
    let z : size (game_of x) ≡ size (game_of (get_or xs i x)) = ap (λ (f : Form). size (game_of f)) c.option-item.is in
    let y : size (game_of (get_or xs i x)) ≤ list_size (games_of xs) = size_le_list xs i x c.loop-option-test.true in
    let w : list_size (games_of xs) ≡ list_size c.args.options.now = ap list_size c.as_slice-option-items.ensures in
    (search rules, tt)

pub none_above-returns-then-le_slow : goal.none_above-returns-then-le_slow
none_above-returns-then-le_slow t c =
    hit_returns (λ a. le (game_of c.args.form.now) a) c.as_slice-option-items.result.now c.args.options.now c.loop-option.option-index c.option-item.result
    c.le_slow.result
    c.loop-option-test.true c.option-item.is c.as_slice-option-items.ensures c.le_slow.ensures c.if-le_slow.true

pub none_below-returns-then-le_slow : goal.none_below-returns-then-le_slow
none_below-returns-then-le_slow t c =
    hit_returns (λ b. le b (game_of c.args.form.now)) c.as_slice-option-items.result.now c.args.options.now c.loop-option.option-index c.option-item.result
    c.le_slow.result
    c.loop-option-test.true c.option-item.is c.as_slice-option-items.ensures c.le_slow.ensures c.if-le_slow.true

pub none_above-loop-option-preserved : goal.none_above-loop-option-preserved
none_above-loop-option-preserved t c =
    miss_more (λ a. le (game_of c.args.form.now) a) c.as_slice-option-items.result.now c.loop-option.option-index c.option-item.result c.le_slow.result
    c.loop-option-test.true c.option-item.is c.loop-option.invariant c.le_slow.ensures c.if-le_slow.false

pub none_below-loop-option-preserved : goal.none_below-loop-option-preserved
none_below-loop-option-preserved t c =
    miss_more (λ b. le b (game_of c.args.form.now)) c.as_slice-option-items.result.now c.loop-option.option-index c.option-item.result c.le_slow.result
    c.loop-option-test.true c.option-item.is c.loop-option.invariant c.le_slow.ensures c.if-le_slow.false
