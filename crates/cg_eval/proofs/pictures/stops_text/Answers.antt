use Rattle.std.proofs.Common.{◌≡◌, List, ℕ, subst}
use Rattle.std.specs.Prelude.{IfOk, string_bytes}
use Rattle.cg_eval.proofs.PictureTexts.{stops-from}
use Rattle.cg_eval.proofs.pictures.stops_text.Goals as goal

pub returns : goal.returns
returns c =
    let P : List ℕ → Type 0 = λ z. IfOk c.format.result (λ text. string_bytes text ≡ z) in
    subst P (stops-from (string_bytes c.in_ok-left.left) (string_bytes c.in_ok-right.right) c.args.stops.now.left
    c.args.stops.now.right c.in_ok-left.ensures c.in_ok-right.ensures) c.format.ensures.ok
