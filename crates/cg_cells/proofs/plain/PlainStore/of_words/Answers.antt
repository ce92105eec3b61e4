use Rattle.std.proofs.Common.{◌≤◌, ℕ, sym, ◌∙◌, subst}
use Rattle.std.specs.Prelude.{slice_index}
use Rattle.cg_cells.specs.Words.{IsStore}
use Rattle.cg_cells.proofs.Plains.{values_small, keys_known}
use Rattle.cg_cells.proofs.plain.PlainStore.of_words.Goals as goal

pub narrow-requires : goal.narrow-requires
narrow-requires g c = subst (λ l. (i : ℕ) → slice_index l i ≤ 67108864) (sym c.as_slice.ensures.value) (values_small g.F.Facts.meaning g.met.F.Facts.lawful _ c.requires)

pub returns-clause-knows : goal.returns-clause-knows
returns-clause-knows g c = keys_known g.F.Facts.meaning g.met.F.Facts.lawful (record { keys = c.args.keys.items; values = c.in_ok-values.values.items; spare = c.args.spare })
    (subst (λ l. IsStore g.F.Facts.meaning (record { keys = c.args.keys.items; values = l; spare = c.args.spare })) (sym (c.in_ok-values.ensures ∙ c.as_slice.ensures.value)) c.requires)
