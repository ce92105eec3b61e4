-- Where two lists of options, or two games, part in the structural order.
use Rattle.std.specs.Prelude.{◌≡◌, ◌≢◌, ◌<◌, ℕ}
use Rattle.cg_form.specs.Depth.{depth_of}
use Rattle.cg_form.specs.Structure.{game_cmp}
use Rattle.std.specs.declared.cmp.Ordering.{Ordering}
use Rattle.std.specs.declared.cmp.Ordering.TheVariants.{Less, Equal, Greater}
use Rattle.cg_cells.specs.Store.{State}
use Rattle.cg_nodes.specs.declared.structure.Parting.{Parting}
use Rattle.cg_nodes.specs.declared.structure.Parting.TheVariants.{Nowhere, Before, After, At}
use Rattle.cg_nodes.specs.Meant.{Meant}
use Rattle.cg_nodes.specs.Games.{IsGame, game_at}

-- how two parts stand whose order is o: the order is told, or it is that of two different games, the first of a depth below
-- this
abbrev pub IsParting : {R : Type 0} → State Meant R → Parting → Ordering → ℕ → Type 0
IsParting {R} s Nowhere o depth = o ≡ Equal
IsParting {R} s Before o depth = o ≡ Less
IsParting {R} s After o depth = o ≡ Greater
IsParting {R} s (At a b) o depth =
    IsGame s a × IsGame s b × (game_at s a ≢ game_at s b) × (o ≡ game_cmp (game_at s a) (game_at s b)) × (depth_of
    (game_at s a) < depth)
