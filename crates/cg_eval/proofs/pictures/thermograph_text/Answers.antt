use Rattle.std.proofs.Common.{◌≡◌, List, ℕ, ap, subst, ◌∙◌}
use Rattle.std.specs.Prelude.{IfOk, string_bytes}
use Rattle.cg_eval.specs.Pictures.{corners_text}
use Rattle.cg_eval.proofs.PictureTexts.{thermograph-from}
use Rattle.cg_eval.proofs.pictures.thermograph_text.Goals as goal

pub returns : goal.returns
returns c =
    let P : List ℕ → Type 0 = λ z. IfOk c.format.result (λ text. string_bytes text ≡ z) in
    subst P (thermograph-from c.args.walls.now (string_bytes c.in_ok-mean.mean)
    (string_bytes c.in_ok-temp.temp) (string_bytes c.in_ok-left.left) (string_bytes c.in_ok-right.right)
    c.in_ok-mean.ensures c.in_ok-temp.ensures (c.in_ok-left.ensures ∙ ap corners_text c.as_slice.ensures.items)
    (c.in_ok-right.ensures ∙ ap corners_text c.as_slice-2.ensures.items)) c.format.ensures.ok
