-- Lists of one game, and star.
use Rattle.std.proofs.Common.{◌≡◌, ℕ, Option, [], ◌∷◌, ap, ◌∙◌}
use Rattle.cg_form.specs.Canonical.{Canonical}
use Rattle.cg_form.specs.Game.{Game}
use Rattle.cg_cells.specs.Store.{State}
use Rattle.cg_nodes.specs.Meant.{Meant}
use Rattle.cg_nodes.specs.Games.{ListsAs, StandsFor, games_at, listed}
use Rattle.cg_nodes.proofs.Later.{listed_as, stands_game}
use Rattle.cg_nimbers.specs.Nimbers.{nimber_form, nimbers_below}
use Rattle.cg_nimbers.specs.Ups.{star_form}
use Rattle.cg_nimbers.proofs.CanonicalNimbers.{nimber-canonical}

pub single_listed : {R : Type 0} (s t : State Meant R) (o : Option ℕ) (h : ℕ) (g k : Game)
    → ListsAs t o (games_at s (h ∷ [])) → StandsFor s h g → g ≡ k → listed t o ≡ k ∷ []
single_listed s t o h g k l e same =
    listed_as t o (games_at s (h ∷ [])) l ∙ ap (λ z. z ∷ []) (stands_game s h g e ∙ same)

pub star-canonical : Canonical star_form
unfolding nimber_form nimbers_below
star-canonical = nimber-canonical 1
