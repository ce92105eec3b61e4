use Rattle.std.proofs.Common.{◌≡◌, ◌∙◌, ◌-◌, ap, arith, length}
use Rattle.std.specs.List.{flat_map}
use Rattle.cg_moves.specs.declared.graph.Adjacency.{Adjacency}
use Rattle.cg_moves.specs.declared.player.Player.TheVariants.{Left, Right}
use Rattle.cg_moves.specs.Linked.{IsWider}
use Rattle.cg_moves.specs.Plays.{parts_of}
use Rattle.cg_moves.specs.Rules.{boards_after}
use Rattle.cg_moves.specs.Walking.{walk_of}
use Rattle.cg_moves.proofs.Broad.{found-kept}
use Rattle.cg_moves.proofs.Carried.{ok_any, ok_is}
use Rattle.cg_moves.proofs.Links.{lefts-among, linking-done, may-link, number-at, wider-twice}
use Rattle.cg_moves.proofs.linking.link.Goals as goal

pub link_player-requires : goal.link_player-requires
link_player-requires g c =
    let w = walk_of (g.R.Rules.game c.args.rules.now) c.args.edges g.starts in
    let s = c.args.linked.now in
    let x = c.requires.1.1.0 in
    let p = c.in_ok-board.board in
    let n : c.len.result ≡ length s.next.items = omega arith in
    let at = number-at s.found s.next.items c.len.result p c.board.result.now n (ok_is p c.board.result.now c.in_ok-board.ensures)
    c.board.ensures in
    may-link w c.requires.1.0 s.found s.next.items s.counts.items s.numbers.items x p at s.found x.among

pub link_player-requires-2 : goal.link_player-requires-2
link_player-requires-2 g c =
    let w = walk_of (g.R.Rules.game c.args.rules.now) c.args.edges g.starts in
    let s = c.args.linked.now in
    let x = c.requires.1.1.0 in
    let p = c.in_ok-board.board in
    let n : c.len.result ≡ length s.next.items = omega arith in
    let at = number-at s.found s.next.items c.len.result p c.board.result.now n (ok_is p c.board.result.now c.in_ok-board.ensures)
    c.board.ensures in
    let mid = c.link_player.new.linked.found in
    may-link w c.requires.1.0 s.found s.next.items s.counts.items s.numbers.items x p at mid (found-kept w s.found x.among _ mid
    c.in_ok-link_player.ensures.found (lefts-among w c.requires.1.0 s.found s.next.items s.counts.items s.numbers.items x p at))

pub returns-clause-linking : goal.returns-clause-linking
returns-clause-linking g c =
    let w = walk_of (g.R.Rules.game c.args.rules.now) c.args.edges g.starts in
    let s = c.args.linked.now in
    let x = c.requires.1.1.0 in
    let p = c.in_ok-board.board in
    let n : c.len.result ≡ length s.next.items = omega arith in
    let at = number-at s.found s.next.items c.len.result p c.board.result.now n (ok_is p c.board.result.now c.in_ok-board.ensures)
    c.board.ensures in
    let one = c.in_ok-link_player.ensures in
    let two = c.in_ok-link_player-2.ensures in
    let mid = c.link_player.new.linked in
    let end = c.link_player-2.new.linked in
    let a : c.in_ok-first_count.first_count ≡ length s.counts.items = omega arith in
    let b : c.in_ok-first_place.first_place ≡ length s.numbers.items = omega arith in
    let d : c.in_ok-first_right.first_right ≡ length mid.counts.items = omega arith in
    let e : c.in_ok-end_count.end_count ≡ length end.counts.items = omega arith in
    let f : c.in_ok-end_place.end_place ≡ length end.numbers.items = omega arith in
    let next : Adjacency = record {
      lefts = c.in_ok-first_right.first_right - c.in_ok-first_count.first_count;
      first_count = c.in_ok-first_count.first_count;
      moves = c.in_ok-end_count.end_count - c.in_ok-first_count.first_count;
      first_place = c.in_ok-first_place.first_place;
      parts = c.in_ok-end_place.end_place - c.in_ok-first_place.first_place;
    } in
    linking-done w c.requires.1.0 s.found s.next.items s.counts.items s.numbers.items x p at mid.found end.found mid.numbers.items
    end.numbers.items mid.counts.items end.counts.items next one.found two.found one.numbers two.numbers one.counts two.counts
    (omega (arith, a, d)) a (omega (arith, a, e)) b (omega (arith, b, f)) c.push.new.items.items end.next.items c.push.result
    (ap (λ z. z.items) (two.next ∙ one.next)) c.push.ensures

pub returns-clause-wider : goal.returns-clause-wider
returns-clause-wider g c =
    ok_any (IsWider c.args.linked.now.found c.link_player-2.new.linked.found) c.push.result
    (wider-twice c.args.linked.now.found c.link_player.new.linked.found c.link_player-2.new.linked.found
    (flat_map (parts_of (g.R.Rules.game c.args.rules.now) c.args.edges) (boards_after (g.R.Rules.game c.args.rules.now) Left c.in_ok-board.board))
    (flat_map (parts_of (g.R.Rules.game c.args.rules.now) c.args.edges) (boards_after (g.R.Rules.game c.args.rules.now) Right c.in_ok-board.board))
    c.in_ok-link_player.ensures.found c.in_ok-link_player-2.ensures.found)
