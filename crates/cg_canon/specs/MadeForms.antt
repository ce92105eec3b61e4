-- What a table of forms has, and what holds of it.
use Rattle.std.specs.Prelude.{◌≡◌, ◌⊎◌, ◌++◌, ◌∷◌, ℕ, List, []}
use Rattle.std.specs.List.{All, Contains}
use Rattle.cg_cells.specs.Store.{State}
use Rattle.cg_form.specs.Game.{node}
use Rattle.cg_nodes.specs.Can.{can}
use Rattle.cg_nodes.specs.Games.{AreGames, StandsFor, games_at}
use Rattle.cg_nodes.specs.Meant.{Meant}
use Rattle.cg_canon.specs.declared.made.MadeForm.{MadeForm}
use Rattle.cg_canon.specs.declared.made.MadeForms.{MadeForms}

-- it is the form, with these options
pub record IsOf (ls rs : List ℕ) (form : ℕ) (made : MadeForm) : Type 0 where
  pub lefts : made.lefts.items ≡ ls
  pub rights : made.rights.items ≡ rs
  pub own : made.form ≡ form

-- the table has the form with these options
pub record IsMade (t : MadeForms) (ls rs : List ℕ) (form : ℕ) : Type 0 where
  pub made : MadeForm
  pub there : Contains t.forms.items made
  pub is : IsOf ls rs form made

-- the second list is the first, or has the form with these options behind it
abbrev pub IsKept : List MadeForm → List MadeForm → List ℕ → List ℕ → ℕ → Type 0
IsKept old new ls rs form = (new ≡ old) ⊎ ((made : MadeForm) × IsOf ls rs form made × (new ≡ old ++ (made ∷ [])))

-- the handle stands for the canonical form of the game of these options
pub record IsFormOf {R : Type 0} (s : State Meant R) (ls rs : List ℕ) (form : ℕ) : Type 0 where
  pub lefts : AreGames s ls
  pub rights : AreGames s rs
  pub stands : StandsFor s form (can (node (games_at s ls) (games_at s rs)))

abbrev pub Holds : {R : Type 0} → State Meant R → MadeForm → Type 0
Holds {R} s m = IsFormOf s m.lefts.items m.rights.items m.form

-- each form of the table is that of its options
abbrev pub FormsHold : {R : Type 0} → State Meant R → MadeForms → Type 0
FormsHold {R} s t = All (Holds s) t.forms.items
