use Rattle.cg_names.proofs.Literals.{fraction-quotient, literal-is, literal_not_negative, quotient-fraction}
use Rattle.cg_names.proofs.laws.literals.Goals as goal

pub returns : goal.returns
returns c = let n = literal_not_negative in record {
  fractions = λ below num den x. (fraction-quotient below num den x, quotient-fraction below num den x);
  literals = literal-is;
}
