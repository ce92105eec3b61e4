use Rattle.std.proofs.Common.{refl}
use Rattle.cg_cells.specs.Layout.{word_of}
use Rattle.cg_cells.proofs.Layouts.{parts_of_word, parts_word, parts_none}
use Rattle.cg_cells.proofs.laws.layout.Goals as goal

pub returns-clause-packed : goal.returns-clause-packed
returns-clause-packed c = λ p f t. parts_of_word p (word_of p) f t refl

pub returns-clause-unpacked : goal.returns-clause-unpacked
returns-clause-unpacked c = λ w p e. let h = parts_word w p e in (h.fields, h.types, h.word)

pub returns-clause-others : goal.returns-clause-others
returns-clause-others c = λ w no_parts. parts_none w no_parts
