use Rattle.std.proofs.Common.{ap, sym}
use Rattle.cg_moves.specs.Keys.{key_of}
use Rattle.cg_moves.proofs.KeyLemmas.{one-key}
use Rattle.cg_moves.proofs.laws.keys.Goals as goal

pub returns : goal.returns
returns c = λ p q g h same. (λ e. sym (one-key p q g h e (sym same)), λ e. ap key_of e)
