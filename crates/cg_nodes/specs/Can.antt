-- The canonical form of a game, as a function. There is exactly one, `IsCanonicalForm`, and it is this one: the law
-- function `canonical_forms` says so. That there is one is a lemma of cg_form, without which this were no definition.
use Rattle.std.specs.Prelude.{Bool}
use Rattle.cg_form.specs.Game.{Game}
use Rattle.cg_form.specs.Structure.{is_same}
use Rattle.cg_form.proofs.Exists.{canonical_exists}

unfoldable pub can : Game → Game
can g = (canonical_exists g).0

-- whether the game is canonical: its own canonical form. The law function `canonical_forms` says that it is just that
unfoldable pub is_canonical : Game → Bool
is_canonical g = is_same (can g) g
