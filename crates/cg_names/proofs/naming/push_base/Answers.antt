use Rattle.std.proofs.Common.{ap, sym, ◌∙◌, append-nil, ◌++◌, string_bytes}
use Rattle.cg_names.proofs.Guessing.{base-none, base-some}
use Rattle.cg_names.proofs.naming.push_base.Goals as goal

pub returns-then-is_same-clause-text : goal.returns-then-is_same-clause-text
returns-then-is_same-clause-text c = sym (append-nil _) ∙ ap (λ z. string_bytes c.args.text.now ++ z)
    (sym (base-none c.args.number (c.is_same.ensures.same c.if-is_same.true ∙ c.zero.ensures)))

pub returns-clause-text : goal.returns-clause-text
returns-clause-text c =
    rw (base-some c.args.number (λ e. c.is_same.ensures.other c.if-is_same.false (e ∙ sym c.zero.ensures)))
    c.push_number.ensures.text
