-- All boards that come after the starts are found.
use Rattle.std.proofs.Common.{◌≡◌, ℕ, suc, ◌≤◌, List, length, arith}
use Rattle.std.specs.List.{flat_map}
use Rattle.cg_moves.specs.declared.graph.Adjacency.{Adjacency}
use Rattle.cg_moves.specs.Grid.{Grid}
use Rattle.cg_moves.specs.Linked.{IsLinked}
use Rattle.cg_moves.specs.Plays.{IsPlay}
use Rattle.cg_moves.specs.Rules.{In, followers}
use Rattle.cg_moves.specs.Walking.{Walk, parts, play, reached}
use Rattle.cg_moves.specs.Walks.{AreStarts}
use Rattle.cg_moves.proofs.Broad.{IsAmong, found-most}
use Rattle.cg_moves.proofs.Links.{at-below, links-some, stand-in}
use Rattle.cg_moves.proofs.Members.{carry, in-flat_map}
use Rattle.cg_moves.proofs.OnWalk.{next-parts}
use Rattle.cg_moves.proofs.PlaceLemmas.{in-at}
use Rattle.cg_moves.proofs.PlayOrder.{all-each}

module _ (w : Walk) (lawful : IsPlay (play w)) (h : AreStarts (play w) w.starts) (found : List Grid) (nexts : List Adjacency)
    (counts numbers : List ℕ) (x : IsLinked w found nexts counts numbers) (all : length nexts ≡ length found)
    (begins : (q : Grid) → In q w.starts → In q found) where
  next-found : (q s : Grid) → In q found → In s ((play w).next q) → In s found
  next-found q s m k =
      let (n, at) = in-at found q m in
      let low = at-below found n q at in
      let (next, is) = links-some w.game (parts w) counts numbers found found nexts n q x.linked at (omega (arith, low, all)) in
      stand-in found _ (flat_map (parts w) (followers w.game q)) s is.places
      (carry s _ _ (next-parts w.game w.edges q) k)

  pub all-found : (q : Grid) → IsAmong w q → In q found
  all-found q m =
      let (s, i, l) = in-flat_map (play w).all q w.starts m in
      all-each (play w) lawful (λ z. In z found) (λ a b has k n. next-found a b k n) (suc (w.game.measure s)) s (omega arith)
      (h.known s i).1 (begins s i) q l

  pub all-within : length (reached w) ≤ length found
  all-within = found-most w found x.among all-found
