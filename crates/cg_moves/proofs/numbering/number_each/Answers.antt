use Rattle.std.proofs.Common.{ℕ, ◌∙◌, ◌++◌, ◌∷◌, [], ap, append_assoc, length, map, refl, sym, take}
use Rattle.std.specs.List.{flat_map}
use Rattle.std.proofs.lemmas.List.{map-append, take_all}
use Rattle.cg_moves.specs.Grid.{Grid}
use Rattle.cg_moves.specs.Kept.{kept}
use Rattle.cg_moves.specs.Rules.{pieces}
use Rattle.cg_moves.proofs.Numberings.{parts-found, parts-numbered, pieces-same, pieces-uncut}
use Rattle.cg_moves.proofs.Places.{in_read, take_next}
use Rattle.cg_moves.proofs.numbering.number_each.Goals as goal

pub number_cut-requires : goal.number_cut-requires
number_cut-requires g c =
    let r = g.R.Rules.game c.args.rules.now in
    let s = c.loop-board in
    let h = c.requires in
    let here = in_read c.args.boards.now s.board-index c.board-item.result c.loop-board-test.true c.board-item.is in
    record {
      each = h.each;
      cuts = h.cuts;
      has = h.has c.board-item.result here;
      uncut = pieces-uncut r h.each c.args.linked.now.found c.args.boards.now h.has s.linked.found s.board-index
          s.invariant.found h.uncut;
      same_symbols = pieces-same r h.each c.args.linked.now.found c.args.boards.now h.has s.linked.found s.board-index
          s.invariant.found c.board-item.result here h.same_symbols;
    }

pub loop-board-preserved : goal.loop-board-preserved
loop-board-preserved g c =
    let r = g.R.Rules.game c.args.rules.now in
    let i = c.loop-board.board-index in
    let all = c.args.boards.now in
    let p = c.board-item.result in
    let old = c.args.linked.now in
    let s = c.loop-board.linked in
    let t = c.number_cut.new.linked in
    let one = c.in_ok-number_cut.ensures in
    let size : Grid → ℕ = λ q. length (pieces r q) in
    record {
      next = one.next ∙ c.loop-board.invariant.next;
      found = parts-found (pieces r) old.found s.found t.found old.numbers.items s.numbers.items t.numbers.items all i p
          c.loop-board-test.true c.board-item.is c.loop-board.invariant.found c.loop-board.invariant.numbers (pieces r p) refl
          one.found one.numbers;
      numbers = parts-numbered (pieces r) old.found s.found t.found old.numbers.items s.numbers.items t.numbers.items all i p
          c.loop-board-test.true c.board-item.is c.loop-board.invariant.found c.loop-board.invariant.numbers (pieces r p) refl
          one.found one.numbers;
      counts = one.counts ∙ ap (λ z. z ++ (size p ∷ [])) c.loop-board.invariant.counts
          ∙ append_assoc old.counts.items (map size (take i all)) (size p ∷ [])
          ∙ ap (λ z. old.counts.items ++ z) (sym (ap (map size)
          (take_next all i p c.loop-board-test.true c.board-item.is) ∙ map-append size (take i all) (p ∷ [])));
    }

pub returns : goal.returns
returns g c =
    let r = g.R.Rules.game c.args.rules.now in
    let all = c.args.boards.now in
    let end = take_all c.loop-board.board-index all c.loop-board-test.false in record {
      next = c.loop-board.invariant.next;
      found = c.loop-board.invariant.found ∙ ap (λ z. kept c.args.linked.now.found (flat_map (pieces r) z)) end;
      numbers = rw (← end) c.loop-board.invariant.numbers;
      counts = c.loop-board.invariant.counts
          ∙ ap (λ z. c.args.linked.now.counts.items ++ map (λ q. length (pieces r q)) z) end;
    }
