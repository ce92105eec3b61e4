use Rattle.std.proofs.Common.{inr}
use Rattle.cg_eval.proofs.FormLemmas.{amazons-numbered, clobber-numbered, domineering-numbered, toads-numbered}
use Rattle.cg_eval.proofs.forms.may_note.Goals as goal

pub returns-clause-domineering : goal.returns-clause-domineering
returns-clause-domineering c = inr domineering-numbered

pub returns-clause-clobber : goal.returns-clause-clobber
returns-clause-clobber c = inr clobber-numbered

pub returns-clause-amazons : goal.returns-clause-amazons
returns-clause-amazons c = inr amazons-numbered

pub returns-clause-toads : goal.returns-clause-toads
returns-clause-toads c = inr toads-numbered
