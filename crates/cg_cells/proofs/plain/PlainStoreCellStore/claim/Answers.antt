use Rattle.std.proofs.Common.{rules, subst, sym, ap, ◌∙◌}
use Rattle.std.specs.Prelude.{slice_index}
use Rattle.cg_cells.specs.Words.{IsCellFor}
use Rattle.cg_cells.proofs.Claiming.{IsClaim, IsNew, found_stands, not_full, kept_after, stands_after, spends_after, new_cell}
use Rattle.cg_cells.proofs.plain.PlainStoreCellStore.claim.Goals as goal

pub unreachable-requires : goal.unreachable-requires
unreachable-requires g c =
    let C : IsClaim g.F.Facts.meaning _ c.args.self.now _ _ c.args.key c.word-word.result =
    record { same = c.self.view_is; kept = c.self.invariant; is = c.word-word.ensures.value; is_key = c.word-word.ensures.nonzero; some = c.requires.spare; spells = c.requires.spells } in
    not_full g.F.Facts.meaning g.met.F.Facts.lawful _ _ _ _ _ _ C _ c.as_slice-in-Slot.ensures.value c.in_default.ensures

pub invariant_of-self-in-Slot : goal.invariant_of-self-in-Slot
invariant_of-self-in-Slot g c =
    let C : IsClaim g.F.Facts.meaning _ c.args.self.now _ _ c.args.key c.word-word.result =
    record { same = c.self.view_is; kept = c.self.invariant; is = c.word-word.ensures.value; is_key = c.word-word.ensures.nonzero; some = c.requires.spare; spells = c.requires.spells } in
    kept_after g.F.Facts.meaning g.met.F.Facts.lawful _ _ _ _ _ _ C _ _ _ c.as_slice.ensures.value c.as_slice-2.ensures.value c.as_slice-in-Slot.ensures.value
    c.in-Slot.slot c.in-Some.cell (record { ended = c.in-Slot.ensures.0; inside = c.in-Slot.ensures.1; first = c.in-Some.ensures })

pub returns-in-Cell-clause-stands : goal.returns-in-Cell-clause-stands
returns-in-Cell-clause-stands g c =
    let C : IsClaim g.F.Facts.meaning _ c.args.self.now _ _ c.args.key c.word-word.result =
    record { same = c.self.view_is; kept = c.self.invariant; is = c.word-word.ensures.value; is_key = c.word-word.ensures.nonzero; some = c.requires.spare; spells = c.requires.spells } in
    rw c.new.ensures (found_stands g.F.Facts.meaning g.met.F.Facts.lawful _ _ _ _ _ _ C c.in-Cell.cell
    (ap (λ l. slice_index l c.in-Cell.cell) (sym c.as_slice.ensures.value) ∙ c.in-Cell.ensures.key_is))

pub returns-in-Some : goal.returns-in-Some
returns-in-Some g c =
    let C : IsClaim g.F.Facts.meaning _ c.args.self.now _ _ c.args.key c.word-word.result =
    record { same = c.self.view_is; kept = c.self.invariant; is = c.word-word.ensures.value; is_key = c.word-word.ensures.nonzero; some = c.requires.spare; spells = c.requires.spells } in
    let N : IsNew g.F.Facts.meaning _ _ _ c.word-word.result c.in-Slot.slot c.in-Some.cell =
    record { ended = c.in-Slot.ensures.0; inside = c.in-Slot.ensures.1; first = c.in-Some.ensures } in
    let m = g.F.Facts.meaning in
    let L = g.met.F.Facts.lawful in
    let keys = c.as_slice.ensures.value in
    let slots = c.as_slice-2.ensures.value in
    let firsts = c.as_slice-in-Slot.ensures.value in
    record {
      cell = subst (IsCellFor c.args.self.now.keys c.args.key) (sym c.new-in-Slot.ensures) (new_cell m L _ _ _ _ _ _ C _ _ _ keys slots firsts c.in-Slot.slot c.in-Some.cell N);
      words = search rules;
      stands = rw c.new-in-Slot.ensures (stands_after m L _ _ _ _ _ _ C _ _ _ keys slots firsts c.in-Slot.slot c.in-Some.cell N);
      spends = spends_after m L _ _ _ _ _ _ C _ _ _ keys slots firsts c.in-Slot.slot c.in-Some.cell N;
    }
