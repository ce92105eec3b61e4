-- The options that are written in the form of a position of a walk.
use Rattle.std.proofs.Common.{◌≡◌, ℕ, ◌<◌, arith, ap, sym, ◌∙◌, List, get_or, length, inl, inr}
use Rattle.std.proofs.lemmas.Bool.{cases_Bool}
use Rattle.cg_arena.proofs.Slices.{range_none}
use Rattle.cg_arena.specs.Arena.{game_of, games_of}
use Rattle.cg_canon.proofs.WalkPositions.{place}
use Rattle.cg_canon.specs.Walk.{IsPlace, IsWalk, lefts_of, rights_of}
use Rattle.cg_canon.specs.declared.walk.Position.{Position}
use Rattle.cg_canon.specs.declared.walk.Walk.{Walk}
use Rattle.cg_form.proofs.Among.{lefts-node, rights-node}
use Rattle.cg_form.specs.Game.{Game}
use Rattle.cg_sum.specs.Written.{written_lefts, written_rights}

module _ (gs : List Game) (w : Walk) (fs : List Game) (is : IsWalk gs w fs) (i : ℕ) (p : Position) (within : i < length fs)
    (read : p ≡ get_or w.positions.items i p) where
  here : IsPlace w.options.items fs i p
  here = place gs w fs is i p within read

  abbrev ls : List Game
  ls = games_of fs (lefts_of w.options.items p)

  abbrev rs : List Game
  rs = games_of fs (rights_of w.options.items p)

  pub lefts_written : ls ≡ written_lefts (game_of fs i)
  lefts_written = elim (cases_Bool p.is_number) [
    | inl e ↦
        let n = here.as_number e in
        let h = n.none in
        let a = here.first in
        let b = here.second in
        ap (games_of fs) (range_none w.options.items p.lefts p.rights (omega arith)) ∙ sym (ap written_lefts n.is)
    | inr e ↦ sym (ap written_lefts (here.as_node e) ∙ lefts-node ls rs)
  ]

  pub rights_written : rs ≡ written_rights (game_of fs i)
  rights_written = elim (cases_Bool p.is_number) [
    | inl e ↦
        let n = here.as_number e in
        let h = n.none in
        let a = here.first in
        let b = here.second in
        ap (games_of fs) (range_none w.options.items p.rights p.end (omega arith)) ∙ sym (ap written_rights n.is)
    | inr e ↦ sym (ap written_rights (here.as_node e) ∙ rights-node ls rs)
  ]
