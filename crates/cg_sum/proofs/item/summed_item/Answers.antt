-- The sums of the options, which stand in the table, make the sum.
use Rattle.std.proofs.Common.{arith, ap, sym, ◌∙◌, ◌⊎◌, length}
use Rattle.cg_canon.specs.Works.{work_state}
use Rattle.cg_nodes.specs.CanLaw.{can-fixed}
use Rattle.cg_sum.proofs.ItemSteps.{given_form}
use Rattle.cg_sum.proofs.Options.{lefts_apart_by, lefts_are, rights_apart_by, rights_are, side_is, summed_canonical, summed_form}
use Rattle.cg_sum.proofs.Placed.{one_first, one_second}
use Rattle.cg_arena.specs.Arena.{game_of}
use Rattle.cg_sum.proofs.Sums.{IsNumber}
use Rattle.cg_canon.proofs.WalkPositions.{count}
use Rattle.cg_sum.proofs.item.summed_item.Goals as goal
use Rattle.cg_sum.proofs.item.summed_item.Goals.{then-f-via-then-f, then-f-via-else-f+then-k}

-- a number and a game that is none

pub make_given-requires : goal.make_given-requires
make_given-requires g c =
    let ready = c.requires.1.1.1.0 in
    let table = c.args.table.now in
    let n = c.len.ensures ∙ c.args.terms.now.seconds.positions.ok.0 ∙ count _ _ _ ready.placed.seconds in
    let l = c.as_slice.ensures ∙ side_is table _ _ c.args.row c.args.column _ _ _ _ _ n c.lefts-own.ensures c.lefts.ensures c.in_ok-left.ensures in
    let r = c.as_slice-then-f.ensures ∙ side_is table _ _ c.args.row c.args.column _ _ _ _ _ n c.rights-others.ensures c.rights.ensures c.in_ok-right.ensures in
    let some : IsNumber (game_of g.games.0 c.args.row) ⊎ IsNumber (game_of g.games.1 c.args.column) = elim c.then-f.branch [
      | then-f-via-then-f w ↦ one_first _ _ _ _ _ ready.placed _ _ c.index.ensures c.index-2.ensures w.if-f.true
      | then-f-via-else-f+then-k w ↦ one_second _ _ _ _ _ ready.placed _ _ c.index.ensures c.index-2.ensures w.if-k.true
    ] in
    record {
      extra = omega arith;
      lefts = lefts_are _ _ _ _ _ table ready _ _ c.index.ensures c.index-2.ensures _ _ l r;
      rights = rights_are _ _ _ _ _ table ready _ _ c.index.ensures c.index-2.ensures _ _ l r;
      canonical = summed_canonical _ _ _ _ _ table ready _ _ c.index.ensures c.index-2.ensures _ _ l r c.requires.1.1.1.1 some;
    }

pub returns-then-f : goal.returns-then-f
returns-then-f g c =
    let W = work_state g.S.CellStore.state in
    let ready = c.requires.1.1.1.0 in
    let table = c.args.table.now in
    let n = c.len.ensures ∙ c.args.terms.now.seconds.positions.ok.0 ∙ count _ _ _ ready.placed.seconds in
    let l = c.as_slice.ensures ∙ side_is table _ _ c.args.row c.args.column _ _ _ _ _ n c.lefts-own.ensures c.lefts.ensures c.in_ok-left.ensures in
    let r = c.as_slice-then-f.ensures ∙ side_is table _ _ c.args.row c.args.column _ _ _ _ _ n c.rights-others.ensures c.rights.ensures c.in_ok-right.ensures in
    let some : IsNumber (game_of g.games.0 c.args.row) ⊎ IsNumber (game_of g.games.1 c.args.column) = elim c.then-f.branch [
      | then-f-via-then-f w ↦ one_first _ _ _ _ _ ready.placed _ _ c.index.ensures c.index-2.ensures w.if-f.true
      | then-f-via-else-f+then-k w ↦ one_second _ _ _ _ _ ready.placed _ _ c.index.ensures c.index-2.ensures w.if-k.true
    ] in
    given_form (W c.args.work.now) (W c.make_given.new.self) _ _ _ (omega arith) _ _ 1 1 _
    (sym (can-fixed _ (summed_canonical _ _ _ _ _ table ready _ _ c.index.ensures c.index-2.ensures _ _ l r c.requires.1.1.1.1 some))
    ∙ summed_form _ _ _ _ _ table ready _ _ c.index.ensures c.index-2.ensures _ _ l r c.requires.1.1.1.1) c.make_given.ensures

-- two games that are none

pub make_of_terms-requires : goal.make_of_terms-requires
make_of_terms-requires g c =
    let ready = c.requires.1.1.1.0 in
    let table = c.args.table.now in
    let n = c.len.ensures ∙ c.args.terms.now.seconds.positions.ok.0 ∙ count _ _ _ ready.placed.seconds in
    let l = c.as_slice-2.ensures ∙ side_is table _ _ c.args.row c.args.column _ _ _ _ _ n c.lefts-own.ensures c.lefts.ensures c.in_ok-left.ensures in
    let r = c.as_slice-3.ensures ∙ side_is table _ _ c.args.row c.args.column _ _ _ _ _ n c.rights-others.ensures c.rights.ensures c.in_ok-right.ensures in
    record {
      extra = omega arith;
      lefts = lefts_are _ _ _ _ _ table ready _ _ c.index.ensures c.index-2.ensures _ _ l r;
      rights = rights_are _ _ _ _ _ table ready _ _ c.index.ensures c.index-2.ensures _ _ l r;
      lefts_apart = lefts_apart_by _ _ _ _ _ table ready _ _ c.index.ensures c.index-2.ensures _ _ l r _ (ap length c.lefts-own.ensures);
      rights_apart = rights_apart_by _ _ _ _ _ table ready _ _ c.index.ensures c.index-2.ensures _ _ l r _
          (ap length c.rights-others.ensures);
    }

pub returns : goal.returns
returns g c =
    let W = work_state g.S.CellStore.state in
    let ready = c.requires.1.1.1.0 in
    let table = c.args.table.now in
    let n = c.len.ensures ∙ c.args.terms.now.seconds.positions.ok.0 ∙ count _ _ _ ready.placed.seconds in
    let l = c.as_slice-2.ensures ∙ side_is table _ _ c.args.row c.args.column _ _ _ _ _ n c.lefts-own.ensures c.lefts.ensures c.in_ok-left.ensures in
    let r = c.as_slice-3.ensures ∙ side_is table _ _ c.args.row c.args.column _ _ _ _ _ n c.rights-others.ensures c.rights.ensures c.in_ok-right.ensures in
    given_form (W c.args.work.now) (W c.make_of_terms.new.self) _ _ _ (omega arith) _ _ 1 1 _
    (summed_form _ _ _ _ _ table ready _ _ c.index.ensures c.index-2.ensures _ _ l r c.requires.1.1.1.1) c.make_of_terms.ensures
