use Rattle.std.proofs.Common.{◌<◌, ap, arith, length, take, ◌∙◌, ◌∷◌, []}
use Rattle.std.proofs.lemmas.List.{get_or_default}
use Rattle.cg_canon.proofs.Recognizing.{nimber_seen, up_seen}
use Rattle.cg_canon.proofs.recognized.Recognized.seen.Goals as goal

pub returns-then-are_equal : goal.returns-then-are_equal
returns-then-are_equal c gs r =
    let front = c.are_equal.ensures c.if-not-are_equal.false ∙ (c.first.ensures ∙ ap (take (length c.args.lefts.now)) c.deref.ensures.value) in
    let few = c.if-count-len.false in
    nimber_seen gs c.args.self.now c.args.lefts.now c.args.rights.now c.of_nimber.result r (omega arith) front c.if-count-eq0.false
    (c.are_equal-2.ensures c.if-are_equal.true) c.of_nimber.ensures.number c.of_nimber.ensures.ups c.of_nimber.ensures.star

pub returns-then-is_one : goal.returns-then-is_one
returns-then-is_one c gs r =
    let front = c.are_equal.ensures c.if-not-are_equal.false ∙ (c.first.ensures ∙ ap (take (length c.args.lefts.now)) c.deref.ensures.value) in
    let one = c.if-count-eq1.true in
    let ns = c.args.self.now.nimbers.items in
    let two : 1 < length ns = omega (arith, c.if-len-gt1.true, c.len-then-count-eq1.ensures) in
    up_seen gs c.args.self.now c.args.lefts.now c.args.rights.now c.up.result r (omega arith) two front
    (c.is_one.ensures c.if-is_one.true ∙ ap (λ z. z ∷ []) (c.index.ensures ∙ get_or_default ns 1 c.index.result.now 0 two)) c.up.ensures.number c.up.ensures.ups
    c.up.ensures.star
