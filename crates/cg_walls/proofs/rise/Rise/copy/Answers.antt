use Rattle.std.proofs.Common.{refl, ◌∙◌}
use Rattle.cg_walls.proofs.Rising.{copied-value, copied-wall}
use Rattle.cg_walls.proofs.Words.{start_word}
use Rattle.cg_walls.proofs.rise.Rise.copy.Goals as goal

pub returns-clause-wall : goal.returns-clause-wall
returns-clause-wall c =
    copied-wall c.args.self.now _ (start_word c.args.self.now c.requires) refl
    (c.in_ok-to_vec.ensures.items_if_clones_equal (λ x y e. e) ∙ c.deref.ensures.value) c.requires

pub returns-clause-value : goal.returns-clause-value
returns-clause-value c =
    copied-value c.args.self.now _ (start_word c.args.self.now c.requires) refl
    (c.in_ok-to_vec.ensures.items_if_clones_equal (λ x y e. e) ∙ c.deref.ensures.value)
