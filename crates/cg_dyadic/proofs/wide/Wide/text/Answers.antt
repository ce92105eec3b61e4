use Rattle.std.proofs.Common.{◌∙◌, sym, arith, string_bytes}
use Rattle.std.proofs.lemmas.Int.{to_z-of_z}
use mir.Syntax.{w128}
use Rattle.cg_dyadic.proofs.Wides.{if_along, places_is, terms_along, terms_of, wide_word}
use Rattle.cg_dyadic.proofs.wide.Wide.text.Goals as goal

pub text_of-requires : goal.text_of-requires
text_of-requires c =
    let u = c.units-units in
    let t = terms_of c.args.self u.result _ c.unsigned_abs.result c.lowest-size.result.0 c.lowest-size.result.1 u.ensures.value u.ensures.in_range.short
    (wide_word u.result u.ensures.small) c.unsigned_abs.ensures.value c.lowest-size.ensures.same c.lowest-size.ensures.lowest in
    let b = places_is _ u.ensures.in_range.short in
    let e = t.1 in omega arith

pub returns : goal.returns
returns c =
    let u = c.units-units in
    let t = terms_of c.args.self u.result _ c.unsigned_abs.result c.lowest-size.result.0 c.lowest-size.result.1 u.ensures.value u.ensures.in_range.short
    (wide_word u.result u.ensures.small) c.unsigned_abs.ensures.value c.lowest-size.ensures.same c.lowest-size.ensures.lowest in
    if_along c.text_of.result string_bytes _ _
    (terms_along c.args.self _ _ (to_z-of_z w128 c.signed.result (record { sfits = c.signed.type_inv }) ∙ c.signed.ensures ∙ sym t.0) (sym t.1))
    c.text_of.ensures
