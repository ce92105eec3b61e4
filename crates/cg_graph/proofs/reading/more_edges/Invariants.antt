use Rattle.std.proofs.Common.{◌≡◌, ◌≤◌, length}
use Rattle.cg_reading.specs.Readers.{behind_these}
use Rattle.cg_graph.specs.Grammar.{comma}
use Rattle.cg_graph.specs.Reading.{next_edge_at}
use Rattle.cg_graph.proofs.reading.more_edges.Given as goal

abbrev pub invariant-loop-first : goal.invariant-loop-first
invariant-loop-first l = record {
  shorter : length l.rest ≤ length l.fn.bytes;
  same : behind_these comma next_edge_at l.edges.items l.text_end l.rest ≡ behind_these comma next_edge_at l.fn.front.items l.text_end l.fn.bytes;
}

abbrev pub decreases-loop-first : goal.decreases-loop-first
decreases-loop-first l = length l.rest
