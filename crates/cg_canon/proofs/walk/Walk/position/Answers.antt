use Rattle.std.proofs.Common.{◌∙◌, inl, inr, refl}
use Rattle.cg_arena.specs.Arena.{game_of}
use Rattle.cg_canon.proofs.WalkPlaces.{have_marks, node_place}
use Rattle.cg_canon.proofs.WalkSteps.{option_before}
use Rattle.cg_canon.proofs.walk.Walk.position.Goals as goal

pub put_options-requires : goal.put_options-requires
put_options-requires c =
    have_marks c.args.arena.now _ _ c.in-Options.left_options.now c.requires.marked c.requires.apart c.in-Options.ensures.read.0 (λ g m.
    c.requires.found g (option_before c.args.arena.now (game_of c.args.arena.now c.args.game) c.in-Options.left_options.now c.in-Options.right_options.now g
    c.in-Options.ensures.read.2 (inl m)))

pub put_options-requires-in-Options : goal.put_options-requires-in-Options
put_options-requires-in-Options c =
    rw c.put_options.ensures.positions (have_marks c.args.arena.now _ _ c.in-Options.right_options.now c.requires.marked c.requires.apart
    c.in-Options.ensures.read.1 (λ g m.
    c.requires.found g (option_before c.args.arena.now (game_of c.args.arena.now c.args.game) c.in-Options.left_options.now c.in-Options.right_options.now g
    c.in-Options.ensures.read.2 (inr m))))

pub returns-in_ok-put_options-in-Options-2-clause-place : goal.returns-in_ok-put_options-in-Options-2-clause-place
returns-in_ok-put_options-in-Options-2-clause-place c =
    let mid = c.put_options.new.self.options.items in
    let new = c.put_options-in-Options.new.self.options.items in
    node_place c.args.arena.now c.args.self.now.positions.items _ (game_of c.args.arena.now c.args.game) c.args.self.now.options.items mid new
    c.in-Options.left_options.now c.in-Options.right_options.now (c.len-lefts.ensures ∙ c.args.self.now.options.ok.0)
    (c.len-rights.ensures ∙ c.put_options.new.self.options.ok.0) (c.len.ensures ∙ c.put_options-in-Options.new.self.options.ok.0)
    c.in_ok-put_options-in-Options.ensures.options (rw (← c.put_options.ensures.positions) c.in_ok-put_options-in-Options-2.ensures.options)
    refl refl c.in-Options.ensures.read.2
