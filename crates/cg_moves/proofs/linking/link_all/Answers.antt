use Rattle.std.proofs.Common.{arith}
use Rattle.cg_moves.specs.Walking.{parts, walk_of}
use Rattle.cg_moves.proofs.Broad.{found-fewer}
use Rattle.cg_moves.proofs.HandedOn.{passed_on}
use Rattle.cg_moves.proofs.Links.{links-fewer}
use Rattle.cg_moves.proofs.linking.link_all.Goals as goal

pub returns-in_err-check-clause-refused : goal.returns-in_err-check-clause-refused
returns-in_err-check-clause-refused g c f =
    let w = walk_of (g.R.Rules.game c.args.rules.now) c.args.edges g.starts in
    let few = found-fewer w c.args.linked.now.found c.requires.1.1.among in
    let many = c.in_err-check.ensures.refused
    (passed_on c.in_err-check.field-0.0 c.from_residual.result c.from_residual.ensures.1 f) in
    omega (arith, few, many)

pub loop-alloc-init : goal.loop-alloc-init
loop-alloc-init g c =
    let w = walk_of (g.R.Rules.game c.args.rules.now) c.args.edges g.starts in
    let s = c.args.linked.now in record {
      linking = c.requires.1.1;
      wider = λ n p m. m;
      within = c.in_ok-check.ensures.within;
      listed = links-fewer w.game (parts w) s.counts.items s.numbers.items s.found s.found s.next.items c.requires.1.1.linked;
    }

pub loop-alloc-preserved : goal.loop-alloc-preserved
loop-alloc-preserved g c =
    let w = walk_of (g.R.Rules.game c.args.rules.now) c.args.edges g.starts in
    let s = c.link.new.linked in record {
      linking = c.in_ok-link.ensures.linking;
      wider = λ n p m. c.in_ok-link.ensures.wider n p (c.loop-alloc.invariant.wider n p m);
      within = c.in_ok-check-2.ensures.within;
      listed = links-fewer w.game (parts w) s.counts.items s.numbers.items s.found s.found s.next.items
          c.in_ok-link.ensures.linking.linked;
    }

pub returns-in_err-check-2-clause-refused : goal.returns-in_err-check-2-clause-refused
returns-in_err-check-2-clause-refused g c f =
    let w = walk_of (g.R.Rules.game c.args.rules.now) c.args.edges g.starts in
    let few = found-fewer w c.link.new.linked.found c.in_ok-link.ensures.linking.among in
    let many = c.in_err-check-2.ensures.refused
    (passed_on c.in_err-check-2.field-0.0 c.from_residual-in_err-check-2.result c.from_residual-in_err-check-2.ensures.1 f) in
    omega (arith, few, many)
