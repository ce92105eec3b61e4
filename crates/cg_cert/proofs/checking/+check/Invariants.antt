use Rattle.std.proofs.Common.{◌≡◌, drop, length}
use Rattle.cg_cert.specs.Positions.{stage_at}
use Rattle.cg_cert.proofs.CheckSteps.{Checking}
use Rattle.cg_cert.proofs.Heights.{proof_height, reply_height}
use Rattle.cg_cert.proofs.checking.+check.Given as goal

abbrev pub decreases-check_proof : goal.decreases-check_proof
decreases-check_proof g l = proof_height (stage_at l.work.now.arena l.stage.now)

abbrev pub decreases-check_reply : goal.decreases-check_reply
decreases-check_reply g l = reply_height (stage_at l.work.now.arena l.stage.now)

abbrev pub invariant-check_proof-loop-next : goal.invariant-check_proof-loop-next
invariant-check_proof-loop-next g l = (l.work ≡ l.fn.work)
    × Checking l.fn.work.arena (stage_at l.fn.work.arena l.stage) (drop l.fn.at l.bytes) (drop l.here l.bytes) l.rest

abbrev pub decreases-check_proof-loop-next : goal.decreases-check_proof-loop-next
decreases-check_proof-loop-next g l = length l.rest
