use Rattle.std.proofs.Common.{arith}
use Rattle.cg_nodes.proofs.Later.{are_games_later}
use Rattle.cg_canon.proofs.Charging.{canonical_node, first_later, is_claimed, two_lists}
use Rattle.cg_canon.proofs.making.claimed_game.Goals as goal

pub list-left_list-requires : goal.list-left_list-requires
list-left_list-requires g c =
    let W = g.S.CellStore.state in record {
      spare = omega (arith, c.requires.spare, c.prefetch_game.ensures.spare);
      games = are_games_later (W c.args.store.now) (W c.prefetch_game.new.store) c.prefetch_game.ensures.known c.args.lefts.now c.requires.lefts;
    }

pub second_list-right_list-requires : goal.second_list-right_list-requires
second_list-right_list-requires g c =
    let W = g.S.CellStore.state in
    let s = W c.args.store.now in
    let e = W c.prefetch_game.new.store in
    let t = W c.list-left_list.new.store in
    let known = c.prefetch_game.ensures.known in record {
      spare = omega (arith, c.requires.spare, c.prefetch_game.ensures.spare, c.list-left_list.ensures.spends.spare);
      games = are_games_later e t c.list-left_list.ensures.spends.known c.args.rights.now
          (are_games_later s e known c.args.rights.now c.requires.rights);
      first = first_later _ e t c.args.lefts.now c.list-left_list.result (are_games_later s e known c.args.lefts.now c.requires.lefts)
          c.list-left_list.ensures.spends c.list-left_list.ensures.list;
    }

pub game-requires-clause-spare : goal.game-requires-clause-spare
game-requires-clause-spare g c = omega (
  arith,
  c.requires.spare,
  c.prefetch_game.ensures.spare,
  c.list-left_list.ensures.spends.spare,
  c.second_list-right_list.ensures.spends.1,
  c.second_list-right_list.ensures.spends.2.spare,
)

pub game-requires-clause-canonical : goal.game-requires-clause-canonical
game-requires-clause-canonical g c =
    let W = g.S.CellStore.state in
    let two = two_lists _ _ (W c.args.store.now) (W c.prefetch_game.new.store) (W c.list-left_list.new.store) (W c.second_list-right_list.new.store)
    c.args.lefts.now c.args.rights.now c.list-left_list.result c.second_list-right_list.result c.requires.lefts c.requires.rights c.prefetch_game.ensures
    c.list-left_list.ensures.spends c.second_list-right_list.ensures.spends.2 c.list-left_list.ensures.list c.second_list-right_list.ensures.list in
    canonical_node _ _ _ _ two.first two.second c.requires.canonical

pub returns : goal.returns
returns g c =
    let W = g.S.CellStore.state in
    let claim = is_claimed (W c.args.store.now) (W c.prefetch_game.new.store) (W c.list-left_list.new.store) (W c.second_list-right_list.new.store)
    (W c.game.new.store) c.args.lefts.now c.args.rights.now c.list-left_list.result c.second_list-right_list.result c.game.result
    c.requires.lefts c.requires.rights c.prefetch_game.ensures c.list-left_list.ensures.spends c.second_list-right_list.ensures.spends
    c.game.ensures.spends c.list-left_list.ensures.list c.second_list-right_list.ensures.list c.game.ensures.game in
    record { game = claim.stands; spends = (claim.cells, claim.fewer, claim.spends) }
