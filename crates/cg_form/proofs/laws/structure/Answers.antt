use Rattle.cg_form.proofs.Structure.{before-turned, game_cmp-both, game_cmp-trans, game_cmp-turned, is_same-both}
use Rattle.cg_form.proofs.laws.structure.Goals as goal

pub returns-clause-same : goal.returns-clause-same
returns-clause-same c = game_cmp-both

pub returns-clause-turned : goal.returns-clause-turned
returns-clause-turned c = λ g h. (game_cmp-turned g h, before-turned h g)

pub returns-clause-transitive : goal.returns-clause-transitive
returns-clause-transitive c = game_cmp-trans

pub returns-clause-one_tree : goal.returns-clause-one_tree
returns-clause-one_tree c = is_same-both
