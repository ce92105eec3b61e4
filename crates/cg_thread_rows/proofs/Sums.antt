-- The sum of 0 with itself.
use Rattle.std.proofs.Common.{◌≡◌, Option, Some, pos, ap, sym, ◌∙◌}
use Rattle.cg_dyadic.specs.Number.{whole}
use Rattle.cg_form.specs.Game.{number}
use Rattle.cg_form.specs.Sum.{sum}
use Rattle.cg_form.proofs.Shifted.{form_shifted, number_sum-zero}
use Rattle.cg_cells.specs.Meaning.{Meaning, note_for}
use Rattle.cg_nodes.specs.Can.{can}
use Rattle.cg_nodes.specs.CanLaw.{can-is}
use Rattle.cg_nodes.specs.Meant.{Meant, form, pair}
use Rattle.cg_nimbers.specs.Nimbers.{zero_form}

zero_sum : can (sum zero_form zero_form) ≡ zero_form
zero_sum =
    form_shifted (whole (pos 0)) zero_form (can (sum zero_form zero_form)) tt (can-is (sum zero_form zero_form))
    ∙ ap number (number_sum-zero (whole (pos 0)))

-- a note on the pair of 0 with itself must spell 0
pub zero_note : (m : Meaning Meant) (value cell : Option Meant)
    → m.note_of (pair zero_form zero_form) ≡ Some (form (can (sum zero_form zero_form)))
    → value ≡ Some (form zero_form) → cell ≡ Some (pair zero_form zero_form) → value ≡ note_for m cell
zero_note m value cell notes v c = v ∙ ap (λ g. Some (form g)) (sym zero_sum) ∙ sym notes ∙ sym (ap (note_for m) c)
