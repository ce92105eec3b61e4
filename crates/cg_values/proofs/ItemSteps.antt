-- Values of boards, found one after another.
use Rattle.std.proofs.Common.{◌≡◌, ℕ, ◌*◌, ◌≤◌, true, List, ◌++◌, drop, length, map, take, ap, sym, ◌∙◌, arith}
use Rattle.std.proofs.lemmas.List.{length-map, map-append}
use Rattle.cg_cells.specs.Meaning.{Grows}
use Rattle.cg_cells.specs.Store.{State, thing_at}
use Rattle.cg_form.specs.Game.{Game, node}
use Rattle.cg_nodes.specs.Boards.{AreWritten, are_contents, are_of_board, symbols}
use Rattle.cg_nodes.specs.Can.{can}
use Rattle.cg_nodes.specs.Games.{StandFor, games_at}
use Rattle.cg_nodes.specs.Meant.{Meant}
use Rattle.cg_nodes.proofs.BoardContents.{contents-written, is-of_board, symbols-few}
use Rattle.cg_nodes.proofs.Forms.{can-node}
use Rattle.cg_nodes.proofs.Later.{stand_later}
use Rattle.cg_moves.specs.declared.player.Player.TheVariants.{Left, Right}
use Rattle.cg_moves.specs.Grid.{Grid, IsGrid}
use Rattle.cg_moves.specs.Raw.{raw}
use Rattle.cg_moves.specs.Lawful.{IsLawful}
use Rattle.cg_moves.specs.Rules.{GameRules, boards_after, followers}
use Rattle.cg_moves.proofs.Bounds.{raw-moves}
use Rattle.cg_values.specs.Notes.{places}
use Rattle.cg_values.specs.Options.{AreOptions}
use Rattle.cg_values.specs.Parts.{values_of}
use Rattle.cg_values.specs.declared.options.Options.{Options}
use Rattle.cg_values.proofs.HandleSteps.{stand-split}
use Rattle.cg_values.proofs.PlaceLemmas.{places-below}

pub options_later : {R Q : Type 0} (s : State Meant R) (t : State Meant Q) (r : GameRules) (p : Grid) (opts : Options)
    → Grows (thing_at s) (thing_at t) → AreOptions s r p opts → AreOptions t r p opts
options_later s t r p opts grows are = record {
  lefts = are.lefts;
  values = stand_later s t grows opts.handles.items (values_of r (followers r p)) are.values;
}

-- ---- the options of a board

module _ {R : Type 0} (s : State Meant R) (r : GameRules) (p : Grid) (opts : Options) (are : AreOptions s r p opts) where
  values-both : values_of r (followers r p) ≡ values_of r (boards_after r Left p) ++ values_of r (boards_after r Right p)
  values-both =
      ap (map can) (map-append (raw r) (boards_after r Left p) (boards_after r Right p))
      ∙ map-append can (map (raw r) (boards_after r Left p)) (map (raw r) (boards_after r Right p))

  values-many : length (values_of r (boards_after r Left p)) ≡ length (boards_after r Left p)
  values-many = length-map (map (raw r) (boards_after r Left p)) can ∙ length-map (boards_after r Left p) (raw r)

  -- the first handles stand for the values after Left's moves, and the others for those after Right's
  pub options-split : (hs ls ks : List ℕ) → hs ≡ opts.handles.items → ls ≡ take opts.lefts hs → ks ≡ drop opts.lefts hs
      → StandFor s ls (values_of r (boards_after r Left p)) × StandFor s ks (values_of r (boards_after r Right p))
  options-split hs ls ks is first others =
      let lefts = values_of r (boards_after r Left p) in
      let rights = values_of r (boards_after r Right p) in
      let both = stand-split s hs lefts rights opts.lefts (are.lefts ∙ sym values-many)
      (rw is (rw (← values-both) are.values)) in
      (rw first both.0, rw others both.1)

-- the value of a board is made of those of its options
pub value-options : {R : Type 0} (s : State Meant R) (r : GameRules) (lawful : IsLawful r) (p : Grid) (ls rs : List ℕ)
    → r.has p ≡ true → StandFor s ls (map can (map (raw r) (boards_after r Left p)))
    → StandFor s rs (map can (map (raw r) (boards_after r Right p)))
    → can (node (games_at s ls) (games_at s rs)) ≡ can (raw r p)
value-options s r lawful p ls rs has l k =
    ap (λ z. can (node z (games_at s rs))) l.1
    ∙ ap (λ z. can (node (map can (map (raw r) (boards_after r Left p))) z)) k.1
    ∙ can-node (map (raw r) (boards_after r Left p)) (map (raw r) (boards_after r Right p))
    ∙ ap can (sym (raw-moves r lawful.moves p has))

-- ---- the contents of a board

pub contents-fit : (p : Grid) (n rows columns : ℕ) (contents : List ℕ) → IsGrid p → length p.symbols ≡ symbols n
    → rows ≡ p.rows → columns ≡ p.columns → AreWritten (places p.symbols p.cells) contents
    → are_of_board n rows columns contents ≡ true
contents-fit p n rows columns contents g row e f w =
    let size : p.rows * p.columns ≡ rows * columns = ap (λ z. z * p.columns) (sym e) ∙ ap (λ z. rows * z) (sym f) in
    let few : length p.symbols ≤ symbols n = omega (arith, row) in
    let some : 1 ≤ rows * columns = (rw (← (g.size ∙ size)) g.some) in
    let within : rows * columns ≤ 64 = (rw (← (g.size ∙ size)) g.few) in
    is-of_board n rows columns contents some within
    (rw (← size) ((contents-written (symbols n) (p.rows * p.columns) contents (symbols-few n)).1 (record {
      cells = places p.symbols p.cells;
      as_many = length-map p.cells _ ∙ g.size;
      symbols_only = places-below (symbols n) p.symbols p.cells few g.cells;
      written = w;
    })))
