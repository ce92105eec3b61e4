use Rattle.std.proofs.Common.{◌≡◌, ◌-◌, ◌/◌, ◌^◌, ◌∙◌, ap, arith}
use Rattle.cg_values.specs.Contents.{apart}
use Rattle.cg_values.proofs.ApartLemmas.{apart_kept, content_apart}
use Rattle.cg_values.proofs.contents.content_of.Goals as goal

pub returns : goal.returns
returns c =
    let count = c.args.end - c.args.start in
    let low : c.spread-low.result ≡ apart count (c.args.planes.a / 2 ^ c.args.start) =
    c.spread-low.ensures ∙ ap (apart 16) c.bits_at.ensures
    ∙ apart_kept count (c.args.planes.a / 2 ^ c.args.start) (omega arith) in
    let high : c.spread-high.result ≡ apart count (c.args.planes.b / 2 ^ c.args.start) =
    c.spread-high.ensures ∙ ap (apart 16) c.bits_at-2.ensures
    ∙ apart_kept count (c.args.planes.b / 2 ^ c.args.start) (omega arith) in
    let whole = content_apart c.args.planes c.args.start count in
    omega arith
