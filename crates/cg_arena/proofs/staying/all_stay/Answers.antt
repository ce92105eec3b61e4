use Rattle.std.proofs.Common.{◌≡◌, ◌≤◌, arith, ap, false, length, rules, sym, take, ◌∙◌}
use Rattle.std.specs.Option.{is_some}
use Rattle.std.specs.Prelude.{IfNone, None, Option, Some}
use Rattle.cg_form.proofs.Among.{carry}
use Rattle.cg_arena.specs.Arena.{games_of}
use Rattle.cg_arena.specs.UnreducedGames.{unreduced_game}
use Rattle.cg_arena.proofs.Bypassing.{fine_more, own_less, unreduced_indexes}
use Rattle.cg_arena.proofs.Slices.{games_take_all, index_of_item, item_among, item_is}
use Rattle.cg_arena.proofs.staying.all_stay.Goals as goal

pub reverser-requires-clause-option : goal.reverser-requires-clause-option
reverser-requires-clause-option c =
    index_of_item c.args.arena.now c.own-option-items.result.now c.loop-option.option-index _
    (unreduced_indexes c.args.arena.now c.args.unreduced.now c.args.left c.own-option-items.result.now c.requires.known.unreduced c.own-option-items.ensures)
    c.loop-option-test.true (item_is c.own-option-items.result.now c.loop-option.option-index _ c.option-item.is c.loop-option-test.true)

pub reverser-requires-clause-less : goal.reverser-requires-clause-less
reverser-requires-clause-less c =
    (own_less c.args.arena.now c.args.unreduced.now c.args.left c.own-option-items.result.now c.own-option-items.ensures).each _
    (item_among c.args.arena.now c.own-option-items.result.now c.loop-option.option-index _ c.loop-option-test.true (item_is c.own-option-items.result.now c.loop-option.option-index _ c.option-item.is c.loop-option-test.true))

at_no_some : {T : Type 0} (o : Option T) (P : Type 0) → is_some o ≡ false → IfNone o P → P
at_no_some None P e h = h
at_no_some (Some x) P e h = cc

pub loop-option-preserved : goal.loop-option-preserved
loop-option-preserved c =
    let no : is_some c.in_ok-reverser.field-0 ≡ false = search (rules, c.if-is_some.false) in
    record {
      known = c.reverser.ensures.known;
      fine = fine_more c.args.arena.now c.args.left (unreduced_game c.args.arena.now c.args.unreduced.now) c.own-option-items.result.now
          c.loop-option.option-index _
          c.loop-option.invariant.fine c.loop-option-test.true (item_is c.own-option-items.result.now c.loop-option.option-index _ c.option-item.is c.loop-option-test.true) (at_no_some c.in_ok-reverser.field-0 _ no c.in_ok-reverser.ensures.none);
    }

pub returns-clause-fine : goal.returns-clause-fine
returns-clause-fine c = λ t x m.
    let most : length c.own-option-items.result.now ≤ c.loop-option.option-index = omega (arith, c.loop-option-test.false) in
    c.loop-option.invariant.fine x (carry x _ (games_of c.args.arena.now (take c.loop-option.option-index c.own-option-items.result.now))
    (ap (games_of c.args.arena.now) (sym c.own-option-items.ensures)
    ∙ sym (games_take_all c.args.arena.now c.own-option-items.result.now c.loop-option.option-index most)) m)
