use Rattle.std.proofs.Common.{◌≤◌, length, arith}
use Rattle.std.proofs.lemmas.Bool.Decides.{nat_tests}
use Rattle.cg_nodes.specs.Games.{game_at}
use Rattle.cg_canon.specs.Works.{work_state}
use Rattle.cg_cert.proofs.CheckSteps.{no_proof, proof_ends, proof_to_end}
use Rattle.cg_cert.proofs.checking.check.Goals as goal

pub returns-in-None-clause-proof : goal.returns-in-None-clause-proof
returns-in-None-clause-proof g c =
    let s = work_state g.S.CellStore.state c.args.work.now in
    let t = rw (c.in_ok-stage.ensures.pair, c.in-None.is) at c.in_ok-check_proof.ensures.reads in
    (λ e. absurd (cc), λ p. absurd (no_proof (game_at s c.args.g) (game_at s c.args.h) c.args.proof.now t p))

pub returns-in-Some-clause-proof : goal.returns-in-Some-clause-proof
returns-in-Some-clause-proof g c =
    let s = work_state g.S.CellStore.state c.args.work.now in
    let bytes = c.args.proof.now in
    let t = rw (c.in_ok-stage.ensures.pair, c.in-Some.is) at c.in_ok-check_proof.ensures.reads in (
      λ e. proof_to_end (game_at s c.args.g) (game_at s c.args.h) bytes c.in-Some.end t (grind (arith, nat_tests)),
      λ p.
          let l : length bytes ≤ c.in-Some.end =
          proof_ends (game_at s c.args.g) (game_at s c.args.h) bytes c.in-Some.end t p in
          grind (arith, nat_tests),
    )
