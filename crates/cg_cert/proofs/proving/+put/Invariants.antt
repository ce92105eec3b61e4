use Rattle.std.proofs.Common.{◌≡◌, suc, length}
use Rattle.std.specs.Prelude.{string_bytes}
use Rattle.cg_cert.specs.Positions.{stage_at}
use Rattle.cg_cert.proofs.Heights.{proof_height, reply_height}
use Rattle.cg_cert.proofs.Writing.{Putting}
use Rattle.cg_cert.proofs.proving.+put.Given as goal

abbrev pub decreases-put_proof : goal.decreases-put_proof
decreases-put_proof g l = proof_height (stage_at l.work.now.arena l.stage.now)

abbrev pub decreases-put_move : goal.decreases-put_move
decreases-put_move g l = suc (proof_height (stage_at l.work.now.arena l.leads.now))

abbrev pub decreases-put_reply : goal.decreases-put_reply
decreases-put_reply g l = reply_height (stage_at l.work.now.arena l.stage.now)

abbrev pub invariant-put_proof-loop-next : goal.invariant-put_proof-loop-next
invariant-put_proof-loop-next g l = (l.work ≡ l.fn.work) × Putting l.fn.work.arena (stage_at l.fn.work.arena l.stage) l.limit
    (string_bytes l.fn.text) (string_bytes l.text) l.rest

abbrev pub decreases-put_proof-loop-next : goal.decreases-put_proof-loop-next
decreases-put_proof-loop-next g l = length l.rest
