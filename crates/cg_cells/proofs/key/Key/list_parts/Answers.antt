use Rattle.std.proofs.Common.{Some, arith, ap, refl}
use Rattle.cg_cells.specs.declared.key.KeyParts.TheVariants.{Cons}
use Rattle.cg_cells.proofs.Layouts.{kind_word, list_parts, parts_read, parts_word, same_kind}
use Rattle.cg_cells.proofs.key.Key.list_parts.Goals as goal

pub returns-then-self-ne3-clause-none : goal.returns-then-self-ne3-clause-none
returns-then-self-ne3-clause-none c = λ first rest e.
    let p = parts_word c.args.self.now (Cons first rest) e in
    let k = kind_word (Cons first rest) p.fields p.types in
    let w = p.word in
    let v = c.self.view_is in
    let n = c.if-self-ne3.true in
    absurd (omega arith)

pub returns-clause-some : goal.returns-clause-some
returns-clause-some c =
    let w = c.self.inside.word in
    let k = c.if-self-ne3.false in
    parts_read w c.args.self.now (Some (Cons c.id_in.result c.link_in.result)) _ c.self.view_is c.requires
    (λ p f t e. ap Some (list_parts p w c.id_in.result c.link_in.result f t e (same_kind p w 3 f t e (omega arith)) c.id_in.ensures c.link_in.ensures)) refl
