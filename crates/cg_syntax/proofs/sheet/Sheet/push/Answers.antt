use Rattle.std.proofs.Common.{ap, sym, ◌∙◌, subst, List}
use Rattle.cg_syntax.specs.Bound.{AreBoundAt, bindings_at}
use Rattle.cg_syntax.specs.declared.session.SessionLine.{SessionLine}
use Rattle.cg_syntax.proofs.Sheets.{bindings_kept, sound_kept}
use Rattle.cg_syntax.proofs.sheet.Sheet.push.Goals as goal

pub returns-clause-bindings : goal.returns-clause-bindings
returns-clause-bindings c =
    let old = c.args.self.now in
    ap (λ (z : List SessionLine). bindings_at z old.bound.items) c.in_ok-push.ensures.items
    ∙ bindings_kept old.lines.items (record { number = c.args.number; asked = c.args.asked }) old.bound.items c.requires.bound

pub returns-clause-sound : goal.returns-clause-sound
returns-clause-sound c =
    let old = c.args.self.now in
    record {
      bound = subst (λ (z : List SessionLine). AreBoundAt z old.bound.items) (sym c.in_ok-push.ensures.items)
          (sound_kept old.lines.items (record { number = c.args.number; asked = c.args.asked }) old.bound.items c.requires.bound);
      places = c.requires.places;
    }
