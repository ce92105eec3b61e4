use Rattle.std.proofs.Common.{◌≡◌, ◌∙◌, ◌++◌, List, ap, length, map, subst, sym}
use Rattle.std.specs.List.{flat_map}
use Rattle.cg_moves.specs.Grid.{Grid}
use Rattle.cg_moves.specs.Kept.{kept}
use Rattle.cg_moves.specs.Linked.{NumberedAs}
use Rattle.cg_moves.specs.Plays.{parts_of}
use Rattle.cg_moves.specs.Rules.{boards_after, pieces}
use Rattle.cg_moves.proofs.Bounds.{after-has}
use Rattle.cg_moves.proofs.Broad.{same_symbols-last}
use Rattle.cg_moves.proofs.Carried.{if_ok, ok_any}
use Rattle.cg_moves.proofs.Members.{carry}
use Rattle.cg_moves.proofs.OnWalk.{whole}
use Rattle.cg_moves.proofs.PlayLemmas.{after-alike, after-symbols}
use Rattle.cg_moves.proofs.linking.link_player.Goals as goal

pub number_all-requires : goal.number_all-requires
number_all-requires g c =
    let r = g.R.Rules.game c.args.rules.now in
    let p = c.args.board.now in
    rw (c.deref-in-Moves.ensures.value ∙ c.in_ok-moves_into.ensures) (same_symbols-last c.args.linked.now.found p
    (boards_after r c.args.player p) c.requires.same_symbols (after-symbols r c.args.player p))

pub number_pieces-requires : goal.number_pieces-requires
number_pieces-requires g c =
    let r = g.R.Rules.game c.args.rules.now in
    let p = c.args.board.now in
    let moved = c.deref-in-Pieces.ensures.value ∙ c.in_ok-moves_into.ensures in
    let cuts = rw c.in-Pieces.is at c.requires.may in
    record {
      each = (c.requires.lawful.cut cuts).each;
      cuts = cuts;
      has = λ q m. after-has r c.requires.lawful.moves c.args.player p q c.requires.has (carry q _ _ moved m);
      alike = rw moved (after-alike r c.args.player p);
      uncut = rw c.in-Pieces.is at c.requires.uncut;
      same_symbols = rw moved (same_symbols-last c.args.linked.now.found p (boards_after r c.args.player p)
          c.requires.same_symbols (after-symbols r c.args.player p));
    }

pub returns-in_ok-count_ones-in-Moves-clause-found : goal.returns-in_ok-count_ones-in-Moves-clause-found
returns-in_ok-count_ones-in-Moves-clause-found g c =
    let r = g.R.Rules.game c.args.rules.now in
    let moved = boards_after r c.args.player c.args.board.now in
    let old = c.args.linked.now.found in
    let new = c.number_all.new.found in
    let boards = c.deref-in-Moves.result.now in
    let parts = flat_map (parts_of r c.args.edges) moved in
    let same : boards ≡ parts = c.deref-in-Moves.ensures.value ∙ c.in_ok-moves_into.ensures ∙ whole moved
    ∙ sym (ap (λ z. flat_map (parts_of r z) moved) c.in-Moves.is) in
    if_ok (λ _. new ≡ kept old boards) (λ _. new ≡ kept old parts) c.number_all.result (λ _ e. e ∙ ap (kept old) same)
    c.number_all.ensures.found

pub returns-in_ok-count_ones-in-Moves-clause-numbers : goal.returns-in_ok-count_ones-in-Moves-clause-numbers
returns-in_ok-count_ones-in-Moves-clause-numbers g c =
    let r = g.R.Rules.game c.args.rules.now in
    let moved = boards_after r c.args.player c.args.board.now in
    let boards = c.deref-in-Moves.result.now in
    let parts = flat_map (parts_of r c.args.edges) moved in
    let same : boards ≡ parts = c.deref-in-Moves.ensures.value ∙ c.in_ok-moves_into.ensures ∙ whole moved
    ∙ sym (ap (λ z. flat_map (parts_of r z) moved) c.in-Moves.is) in
    let P : List Grid → Type 0 = λ z. NumberedAs c.number_all.new.found c.args.linked.now.numbers.items c.number_all.new.numbers.items z in
    if_ok (λ _. P boards) (λ _. P parts) c.number_all.result (λ _ e. subst P same e) c.number_all.ensures.numbers

pub returns-in_ok-count_ones-in-Moves-clause-counts : goal.returns-in_ok-count_ones-in-Moves-clause-counts
returns-in_ok-count_ones-in-Moves-clause-counts g c =
    let r = g.R.Rules.game c.args.rules.now in
    let moved = boards_after r c.args.player c.args.board.now in
    let old = c.args.linked.now.counts.items in
    ok_any (c.count_ones.new.counts.items ≡ old ++ map (λ q. length (parts_of r c.args.edges q)) moved) c.number_all.result
    (c.in_ok-count_ones-in-Moves.ensures ∙ ap (λ z. old ++ map (λ _. 1) z) (c.deref.ensures.value ∙ c.in_ok-moves_into.ensures)
    ∙ sym (ap (λ z. old ++ map (λ q. length (parts_of r z q)) moved) c.in-Moves.is))

pub returns-in-Pieces-clause-counts : goal.returns-in-Pieces-clause-counts
returns-in-Pieces-clause-counts g c =
    let r = g.R.Rules.game c.args.rules.now in
    let moved = boards_after r c.args.player c.args.board.now in
    let old = c.args.linked.now.counts.items in
    let new = c.number_pieces.new.linked.counts.items in
    let boards = c.deref-in-Pieces.result.now in
    if_ok (λ _. new ≡ old ++ map (λ q. length (pieces r q)) boards)
    (λ _. new ≡ old ++ map (λ q. length (parts_of r c.args.edges q)) moved) c.number_pieces.result
    (λ _ e. e ∙ ap (λ z. old ++ map (λ q. length (pieces r q)) z) (c.deref-in-Pieces.ensures.value ∙ c.in_ok-moves_into.ensures)
    ∙ sym (ap (λ z. old ++ map (λ q. length (parts_of r z q)) moved) c.in-Pieces.is)) c.number_pieces.ensures.counts
