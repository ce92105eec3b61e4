use Rattle.std.proofs.Common.{refl, arith}
use Rattle.cg_canon.specs.Works.{work_state}
use Rattle.cg_names.specs.Named.{pair_positions}
use Rattle.cg_names.proofs.PairSteps.{tiny_made, tiny_pair, tiny_zero}
use Rattle.cg_canon.proofs.MadeCalls.{given_refusal, last}
use Rattle.cg_names.proofs.Steps.{plain_split}
use Rattle.cg_names.proofs.SwitchForms.{tiny-canonical}
use Rattle.cg_names.proofs.pairs.make_tiny.Goals as goal

pub make_pair-requires : goal.make_pair-requires
make_pair-requires g c = tiny_pair c.args.miny c.args.x c.args.first c.args.second c.requires.first c.requires.second
    c.requires.number

pub returns-in_err-pair : goal.returns-in_err-pair
returns-in_err-pair g c =
    given_refusal _ c.in_err-pair.ensures.made c.make_pair.ensures.more c.from_residual.ensures.1
    (plain_split (pair_positions c.args.first c.args.second) _ refl)

pub make-requires-clause-canonical : goal.make-requires-clause-canonical
make-requires-clause-canonical g c =
    let z = tiny_zero (work_state g.S.CellStore.state c.make_pair.new.work) c.args.miny c.args.x c.args.first c.args.second _ _ _ c.in_ok-pair.ensures.first
    c.in_ok-pair.ensures.second c.requires.first c.requires.second c.zero_of-zero.ensures in
    rw (tiny_made (work_state g.S.CellStore.state c.make_pair.new.work) c.args.miny c.args.x c.args.first c.args.second _ _ z
    c.in_ok-pair.ensures.game
    c.requires.first c.requires.second) (tiny-canonical c.args.miny c.args.x c.requires.number)

pub returns : goal.returns
returns g c =
    let z = tiny_zero (work_state g.S.CellStore.state c.make_pair.new.work) c.args.miny c.args.x c.args.first c.args.second _ _ _ c.in_ok-pair.ensures.first
    c.in_ok-pair.ensures.second c.requires.first c.requires.second c.zero_of-zero.ensures in
    let e = tiny_made (work_state g.S.CellStore.state c.make_pair.new.work) c.args.miny c.args.x c.args.first c.args.second _ _ z c.in_ok-pair.ensures.game
    c.requires.first c.requires.second in
    let first = c.make_pair.ensures.more in
    let second = (c.make.ensures _ e).more in
    record {
      game = (c.make.ensures _ e).game;
      made = last c.in_ok-pair.ensures.made (c.make.ensures _ e).made (plain_split (pair_positions c.args.first c.args.second) _ refl);
      more = omega arith;
    }
