use Rattle.cg_moves.proofs.PlaneLemmas.{places_by}
use Rattle.cg_moves.proofs.planes.Planes.places.Goals as goal

pub returns : goal.returns
returns c i l =
    places_by c.args.self.now c.args.index c.bit-first.result c.bit-second.result c.bit-third.result c.bit-fourth.result
    c.matching_bits-a.result c.matching_bits-b.result c.matching_bits-c.result c.matching_bits-d.result i c.requires c.bit-first.ensures.value
    c.bit-second.ensures.value c.bit-third.ensures.value c.bit-fourth.ensures.value (c.matching_bits-a.ensures i l)
    (c.matching_bits-b.ensures i l) (c.matching_bits-c.ensures i l) (c.matching_bits-d.ensures i l)
