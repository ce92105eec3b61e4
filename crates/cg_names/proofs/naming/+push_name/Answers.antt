use Rattle.std.proofs.Common.{ap, rules, string_bytes}
use Rattle.std.proofs.lemmas.List.Elements.{All-rest}
use Rattle.cg_form.specs.Depth.{deepest}
use Rattle.cg_form.specs.Game.{of_list}
use Rattle.cg_arena.specs.Arena.{IsIndex, games_of}
use Rattle.cg_names.specs.Spelled.{names_of}
use Rattle.cg_names.proofs.Names.{braced-in_range, braces-spelled, on_ok_written, signed-in_range, written_more}
use Rattle.cg_names.proofs.naming.+push_name.Goals as goal

pub push_names-push_further-requires : goal.push_names-push_further-requires
push_names-push_further-requires t c =
    let gs = c.args.arena.now in
    let e = c.in-Some.ensures.cases.0 in
    let s = ap (λ z. deepest (games_of gs z)) e in (
      search rules,
      (
        c.requires.apart,
        (
          All-rest (IsIndex gs) c.in-Some.first.now c.in-Some.others.now c.args.games.now e c.requires.games,
          c.in_ok-push_name-in-Some.ensures.memo,
        ),
      ),
    )

pub push_further-loop-first-preserved : goal.push_further-loop-first-preserved
push_further-loop-first-preserved t c = record {
  written = written_more _ _ _ _ _ _ c.in-Some.others.now c.in-Some.first.now
      (rw c.in-Some.ensures.cases.0 at c.loop-first.invariant.written)
      c.in_ok-push_str.ensures.bytes c.in_ok-push_name.ensures.text c.in_ok-push_name.ensures.in_range;
  recalls = c.in_ok-push_name.ensures.memo;
}

pub push_braces-returns-clause-text : goal.push_braces-returns-clause-text
push_braces-returns-clause-text t c =
    on_ok_written c.push_str-3.result _ _ _ _ c.push_str-3.ensures.bytes
    (braces-spelled (names_of (of_list (games_of c.args.arena.now c.args.lefts.now)))
    (names_of (of_list (games_of c.args.arena.now c.args.rights.now))) (string_bytes c.args.text.now) _ _ _ _
    c.in_ok-push_str.ensures.bytes c.in_ok-push_names.ensures.text c.in_ok-push_str-2.ensures.bytes
    c.in_ok-push_names-2.ensures.text)

pub push_name-returns-in-Some-clause-in_range : goal.push_name-returns-in-Some-clause-in_range
push_name-returns-in-Some-clause-in_range t c =
    signed-in_range c.push_named.result _ _ _ _ c.in-Some.named_form c.in-Options.ensures.read.2 c.in_ok-named_form-in-Options.ensures.named_form
    c.in-Some.is c.push_named.ensures.in_range

pub push_name-returns-in-None-clause-in_range : goal.push_name-returns-in-None-clause-in_range
push_name-returns-in-None-clause-in_range t c =
    braced-in_range c.push_braces.result _ _ _ _ c.in-Options.ensures.read.2 c.in_ok-named_form-in-Options.ensures.named_form c.in-None.is
    c.push_braces.ensures.lefts_in_range c.push_braces.ensures.rights_in_range
