use Rattle.std.proofs.Common.{rules, ◌≡◌, ap, sym, ◌∙◌, refl, subst, List, [], ◌∷◌, ◌++◌, length}
use Rattle.cg_syntax.specs.Bound.{AreBoundAt, bindings_at, number_of}
use Rattle.cg_query.specs.declared.query.Query.TheVariants as queries
use Rattle.cg_syntax.specs.declared.session.Asked.TheVariants as askeds
use Rattle.cg_syntax.specs.declared.session.SessionLine.{SessionLine}
use Rattle.cg_syntax.specs.declared.sheet.Bound.{Bound}
use Rattle.cg_syntax.proofs.Sheets.{defined_bound, defined_sound, numbers_more}
use Rattle.cg_syntax.proofs.sheet.Sheet.define.Goals as goal

pub returns-clause-bindings : goal.returns-clause-bindings
returns-clause-bindings c =
    let old = c.args.self.now in
    let line : SessionLine = record { number = c.args.number; asked = askeds.Query (queries.Value c.args.expr) } in
    let long : c.len-line.result ≡ length old.lines.items = search rules in
    let bound : Bound = record { name = c.args.name; line = c.len-line.result; size = c.args.size } in
    ap (λ (z : List SessionLine). bindings_at z c.push-2.new.self.items) c.in_ok-push.ensures.items
    ∙ ap (λ (z : List Bound). bindings_at (old.lines.items ++ line ∷ []) z) c.in_ok-push-2.ensures.items
    ∙ defined_bound old.lines.items line old.bound.items bound c.args.expr long refl c.requires.sound.bound

pub returns-clause-sound : goal.returns-clause-sound
returns-clause-sound c =
    let old = c.args.self.now in
    let line : SessionLine = record { number = c.args.number; asked = askeds.Query (queries.Value c.args.expr) } in
    let long : c.len-line.result ≡ length old.lines.items = search rules in
    let bound : Bound = record { name = c.args.name; line = c.len-line.result; size = c.args.size } in
    record {
      bound = subst (λ (z : List SessionLine). AreBoundAt z c.push-2.new.self.items) (sym c.in_ok-push.ensures.items)
          (subst (λ (z : List Bound). AreBoundAt (old.lines.items ++ line ∷ []) z) (sym c.in_ok-push-2.ensures.items)
          (defined_sound old.lines.items line old.bound.items bound c.args.expr long refl c.requires.measures c.requires.sound.bound));
      places = numbers_more old.places c.add.new.self old.bound.items c.push-2.new.self.items bound c.number_of.result c.in_ok-add.ensures.more
          (c.number_of.ensures ∙ ap number_of c.as_slice.ensures) c.requires.sound.places c.in_ok-push-2.ensures.items;
    }
