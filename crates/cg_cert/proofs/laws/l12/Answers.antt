use Rattle.std.proofs.Common.{refl}
use Rattle.cg_cert.specs.Certificate.{certificate_text}
use Rattle.cg_cert.specs.First.{first_proof}
use Rattle.cg_cert.specs.Pairs.{pair}
use Rattle.cg_cert.proofs.FirstProof.{first_proof-proves}
use Rattle.cg_cert.proofs.Sound.{proves-at_least}
use Rattle.cg_cert.proofs.laws.l12.Goals as goal

pub returns : goal.returns
returns c = λ g h. (
  (λ p. proves-at_least p.1.certificate (pair g h) p.1.proves),
  (λ l. (
    certificate_text (first_proof (pair g h)),
    record {
      certificate = first_proof (pair g h);
      proves = first_proof-proves (pair g h) l;
      spelled = refl;
    },
  )),
)
