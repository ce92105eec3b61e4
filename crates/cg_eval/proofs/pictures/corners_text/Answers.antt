use Rattle.std.proofs.Common.{List, ℕ, ap, ◌∙◌, ◌++◌}
use Rattle.std.specs.Prelude.{string_bytes}
use Rattle.cg_eval.proofs.PictureTexts.{corners-one_more}
use Rattle.cg_eval.proofs.pictures.corners_text.Goals as goal

pub loop-corner-preserved : goal.loop-corner-preserved
loop-corner-preserved c =
    c.in_ok-push_str-2.ensures.bytes ∙ ap (λ (z : List ℕ). z ++ c.as_str.result.now) c.in_ok-push_str.ensures.bytes
    ∙ corners-one_more c.args.corners.now c.loop-corner.corner-index c.corner-item.result (string_bytes c.loop-corner.all)
    c.as_str.result.now _ c.loop-corner-test.true c.corner-item.is c.loop-corner.invariant (c.as_str.ensures.value
    ∙ c.in_ok-text.ensures)
