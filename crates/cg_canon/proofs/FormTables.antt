-- A table of forms, as the store and the table change.
use Rattle.std.proofs.Common.{◌≡◌, ℕ, List, [], ◌∷◌, ◌++◌, inl, inr}
use Rattle.std.proofs.lemmas.List.Elements.{All-contains, All-nil, All-push, All-same, All-weaker}
use Rattle.cg_cells.specs.Meaning.{Grows}
use Rattle.cg_cells.specs.Store.{State, thing_at}
use Rattle.cg_form.specs.Game.{node}
use Rattle.cg_nodes.specs.Can.{can}
use Rattle.cg_nodes.specs.Games.{AreGames, StandsFor, games_at}
use Rattle.cg_nodes.specs.Meant.{Meant}
use Rattle.cg_nodes.proofs.Later.{are_games_later, games_later, stands_later}
use Rattle.cg_canon.specs.declared.made.MadeForm.{MadeForm}
use Rattle.cg_canon.specs.declared.made.MadeForms.{MadeForms}
use Rattle.cg_canon.specs.MadeForms.{FormsHold, Holds, IsFormOf, IsKept, IsMade}

-- ---- when the store has grown

module _ {R Q : Type 0} (s : State Meant R) (t : State Meant Q) (grows : Grows (thing_at s) (thing_at t)) where
  -- a form that was made of these options
  pub form_made : (ls rs : List ℕ) (form : ℕ) → AreGames s ls → AreGames s rs
      → StandsFor t form (can (node (games_at s ls) (games_at s rs))) → IsFormOf t ls rs form
  form_made ls rs form gl gr st =
      record {
        lefts = are_games_later s t grows ls gl;
        rights = are_games_later s t grows rs gr;
        stands = rw (games_later s t grows ls gl) (rw (games_later s t grows rs gr) st);
      }

  form_later : (m : MadeForm) → Holds s m → Holds t m
  form_later m is = form_made m.lefts.items m.rights.items m.form is.lefts is.rights (stands_later s t grows m.form _ is.stands)

  pub forms_later : (m : MadeForms) → FormsHold s m → FormsHold t m
  forms_later m h = All-weaker (Holds s) (Holds t) form_later m.forms.items h

-- ---- a table

module _ {R : Type 0} (s : State Meant R) where
  pub forms_none : (m : MadeForms) → m.forms.items ≡ [] → FormsHold s m
  forms_none m e = All-same (Holds s) m.forms.items [] e (All-nil (Holds s))

  -- a form that was found
  pub form_found : (m : MadeForms) (ls rs : List ℕ) (form : ℕ) → FormsHold s m → IsMade m ls rs form → IsFormOf s ls rs form
  form_found m ls rs form h k =
      rw (← k.is.lefts) (rw (← k.is.rights) (rw (← k.is.own) (All-contains (Holds s) m.forms.items k.made h k.there)))

  -- with one form more, or the same
  pub forms_kept : (m n : MadeForms) (ls rs : List ℕ) (form : ℕ) → IsKept m.forms.items n.forms.items ls rs form
      → IsFormOf s ls rs form → FormsHold s m → FormsHold s n
  forms_kept m n ls rs form (inl same) is h = All-same (Holds s) n.forms.items m.forms.items same h
  forms_kept m n ls rs form (inr (made, own, e)) is h =
      All-same (Holds s) n.forms.items (m.forms.items ++ (made ∷ [])) e (All-push (Holds s) m.forms.items made h
      (rw own.lefts (rw own.rights (rw own.own is))))
