use Rattle.std.proofs.Common.{◌∙◌, ap, arith, length, sym}
use Rattle.cg_moves.specs.Walking.{walk_of}
use Rattle.cg_moves.proofs.AllFound.{all-within}
use Rattle.cg_moves.proofs.Links.{linked-none, stand-in, starts-found}
use Rattle.cg_moves.proofs.PlaceLemmas.{stand-wider}
use Rattle.cg_moves.proofs.PlayLemmas.{plays}
use Rattle.cg_moves.proofs.linking.linked_from.Goals as goal

pub link_all-requires : goal.link_all-requires
link_all-requires g c κs within =
    let w = walk_of (g.R.Rules.game c.args.rules.now) c.args.edges g.from in (
      within,
      (
        c.requires.1.1,
        linked-none w c.number_all.new.found c.new-2.result.items c.new-3.result.items c.new-4.result.items
            (starts-found w c.requires.1.1 c.new.result c.number_all.new.found c.args.starts.now c.new.ensures
            c.in_ok-number_all.ensures.found c.requires.1.0) c.new-2.ensures.items c.new-3.ensures.items c.new-4.ensures.items,
      ),
    )

pub returns-clause-can : goal.returns-clause-can
returns-clause-can g c = record {
  lawful = plays (g.R.Rules.game c.args.rules.now) c.requires.1.1.lawful c.args.edges c.requires.1.1.may;
  starts = c.requires.1.1.starts;
  linked = rw (c.linked.ensures.found, c.linked.ensures.next, c.linked.ensures.counts, c.linked.ensures.numbers)
      c.in_ok-link_all.ensures.linking;
  all = ap length c.linked.ensures.next ∙ c.in_ok-link_all.ensures.all ∙ sym (ap length c.linked.ensures.found);
}

pub returns-clause-numbers : goal.returns-clause-numbers
returns-clause-numbers g c =
    let (more, e, stand) = c.in_ok-number_all.ensures.numbers in (
      more,
      e,
      rw c.linked.ensures.found (stand-wider c.number_all.new.found c.link_all.new.linked.found
          c.in_ok-link_all.ensures.wider more g.from (rw (← c.requires.1.0) stand)),
    )

pub returns-clause-within : goal.returns-clause-within
returns-clause-within g c =
    let w = walk_of (g.R.Rules.game c.args.rules.now) c.args.edges g.from in
    let s = c.link_all.new.linked in
    let (more, e, stand) = c.in_ok-number_all.ensures.numbers in
    let lawful = plays w.game c.requires.1.1.lawful w.edges c.requires.1.1.may in
    let few = all-within w lawful c.requires.1.1.starts s.found s.next.items s.counts.items s.numbers.items
    c.in_ok-link_all.ensures.linking c.in_ok-link_all.ensures.all
    (λ q m. stand-in s.found more g.from q (stand-wider c.number_all.new.found s.found c.in_ok-link_all.ensures.wider more g.from
    (rw (← c.requires.1.0) stand)) m) in
    let low = c.in_ok-link_all.ensures.within in
    omega (arith, few, low)
