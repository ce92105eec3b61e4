-- A sum that is kept with what its items cost.
use Rattle.std.proofs.Common.{◌≡◌, ℕ}
use Rattle.cg_cells.specs.Store.{State}
use Rattle.cg_nodes.proofs.Later.{game_later}
use Rattle.cg_nodes.specs.Games.{IsGame, game_at}
use Rattle.cg_nodes.specs.Meant.{Meant}
use Rattle.cg_canon.specs.Items.{AllPass}
use Rattle.cg_canon.specs.SumItems.{sum_items}
use Rattle.cg_canon.specs.Works.{Keeps}
use Rattle.cg_canon.specs.declared.rest.WorkRest.{WorkRest}

-- the items of the sum of two games of an earlier state are those of the games of the same handles later
pub kept_items : {R : Type 0} (s t : State Meant (WorkRest R)) → Keeps s t → (a b before : ℕ) → IsGame s a → IsGame s b
    → before ≡ s.rest.spent
    → AllPass s.rest.share s.rest.spent (sum_items s.rest.limit (game_at s a) (game_at s b)) t.rest.spent
    → AllPass t.rest.share before (sum_items t.rest.limit (game_at t a) (game_at t b)) t.rest.spent
kept_items s t k a b before ga gb e p =
    let x = game_later s t k.known a ga in
    let y = game_later s t k.known b gb in
    let share = k.share in
    let limit = k.limit in
    rw (x, y, share, limit, e) p
