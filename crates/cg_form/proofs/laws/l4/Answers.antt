use Rattle.cg_form.proofs.Shifted.{cmp-shifted, number_sum-is, shifted-is_form}
use Rattle.cg_form.proofs.Translation.{translation}
use Rattle.cg_form.proofs.laws.l4.Goals as goal

pub returns : goal.returns
returns c = record {
  translation = translation;
  number_sum = number_sum-is;
  shifted_order = cmp-shifted;
  shifted_form = shifted-is_form;
}
