-- What a memo has.
use Rattle.std.specs.Prelude.{ℕ, ◌≡◌, ◌≤◌, List, Option, Some, None, nat_eq}
use Rattle.std.specs.HashMap.{get, hash_map_len}
use Rattle.cg_form.specs.Game.{Game}
use Rattle.cg_arena.specs.Arena.{game_of}
use Rattle.cg_names.specs.Shapes.{named_form_of}
use Rattle.cg_names.specs.declared.memo.Memo.{Memo}
use Rattle.cg_names.specs.declared.named_form.NamedForm.{NamedForm}
use Rattle.cg_names.specs.declared.named_form.NamedForm.TheVariants.{Star, Arrows, Switch, Tiny}

-- what was found for an index
abbrev pub recalled : Memo → ℕ → Option (Option NamedForm)
recalled m a = get nat_eq m.named_forms a

-- how many named forms are kept
abbrev pub kept : Memo → ℕ
kept m = hash_map_len m.named_forms

-- how many ups or downs a named form has
abbrev pub arrow_count : Option NamedForm → ℕ
arrow_count None = 0
arrow_count (Some (Star x n)) = 0
arrow_count (Some (Arrows down starred x n)) = n
arrow_count (Some (Switch x)) = 0
arrow_count (Some (Tiny miny x)) = 0

-- what was found for an index is the named form of its game, or that it has none; as each up has the one before it as its
-- option, there are no more of them than named forms
abbrev pub Recalls : List Game → Memo → Type 0
Recalls gs m = (i : ℕ) (o : Option NamedForm) → recalled m i ≡ Some o
    → (o ≡ named_form_of (game_of gs i)) × (arrow_count o ≤ kept m)
