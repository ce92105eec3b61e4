use Rattle.std.proofs.Common.{ap, refl, sym, ◌∙◌, length, rules, Some, None}
use Rattle.std.proofs.lemmas.List.{length-map, nil_from_length}
use Rattle.std.proofs.lemmas.List.Elements.{All-pop}
use Rattle.cg_form.specs.Depth.{deepest, depth_of}
use Rattle.cg_arena.specs.Arena.{IsIndex, game_of, games_of}
use Rattle.cg_arena.proofs.Slices.{games_pushed}
use Rattle.cg_names.proofs.Ends.{more-named_form, no_ends, two-none}
use Rattle.cg_names.proofs.Indexes.{same_indexes}
use Rattle.cg_names.proofs.Looks.{is_node}
use Rattle.cg_names.proofs.NamedFormSteps.{named_star, named_tiny, tiny_at}
use Rattle.cg_names.proofs.Stars.{last_depth, no_stars, star-is, star-lists, stars_none, stars_some}
use Rattle.cg_names.proofs.look.+look.Goals as goal

pub named_by_shape-returns-in-Some-clause-named_form : goal.named_by_shape-returns-in-Some-clause-named_form
named_by_shape-returns-in-Some-clause-named_form t c =
    named_star _ _ c.in-Some.found c.in-Some.is c.in_ok-found.ensures.star

-- ---- nimbers

pub star-returns-then-not-are_same-clause-star : goal.star-returns-then-not-are_same-clause-star
star-returns-then-not-are_same-clause-star t c x n e =
    let (p, q) = star-lists _ _ x n e in
    c.are_same.ensures.other c.if-not-are_same.true
    (same_indexes c.args.arena.now c.requires.apart _ _ c.requires.lefts c.requires.rights (p ∙ sym q))

pub star-returns-in-None-clause-star : goal.star-returns-in-None-clause-star
star-returns-in-None-clause-star t c x n e =
    let (p, q) = star-lists _ _ x n e in stars_none _ _ c.in-None.is c.in_ok-stars.ensures.stars x n p

pub star-returns-in-Some-clause-star : goal.star-returns-in-Some-clause-star
star-returns-in-Some-clause-star t c =
    star-is _ _ c.in-Some.base (length c.args.lefts.now) (ap (games_of c.args.arena.now) (c.are_same.ensures.same c.if-not-are_same.false))
    (length-map c.args.lefts.now (game_of c.args.arena.now))
    (stars_some _ _ c.in-Some.base c.in-Some.is c.in_ok-stars.ensures.stars)

pub stars-returns-in_default-clause-stars : goal.stars-returns-in_default-clause-stars
stars-returns-in_default-clause-stars t c x n e =
    no_stars x n _ (ap (games_of c.args.arena.now) (nil_from_length _ c.in_default.ensures.cases)) e

-- ---- one option on a side

pub named_by_ends-returns-in-None-only-clause-named_form : goal.named_by_ends-returns-in-None-only-clause-named_form
named_by_ends-returns-in-None-only-clause-named_form t c =
    no_ends _ _ c.requires.no_star c.in-None.ensures c.in-None-only.ensures

pub named_of_two-returns-in-None-number_at-clause-named_form : goal.named_of_two-returns-in-None-number_at-clause-named_form
named_of_two-returns-in-None-number_at-clause-named_form t c =
    two-none _ _ c.requires.no_star c.in-None.ensures c.in-None-number_at.ensures

pub stars-named_form-requires : goal.stars-named_form-requires
stars-named_form-requires t c =
    let gs = c.args.arena.now in
    let read = c.in-Options.ensures.read in
    let split = games_pushed gs c.in-Some.others.now c.args.options.now c.in-Some.last.now c.in-Some.ensures.cases.0 in
    let m = ap deepest split in
    let n = last_depth (games_of gs c.in-Some.others.now) (game_of gs c.in-Some.last.now) in
    let k = ap depth_of read.2 in
    (search rules, (c.requires.apart, (read.0, (read.1, (read.2, c.requires.memo)))))

pub stars-star_on-requires-clause-others : goal.stars-star_on-requires-clause-others
stars-star_on-requires-clause-others t c =
    (All-pop (IsIndex c.args.arena.now) c.args.options.now c.in-Some.others.now (Some c.in-Some.last.now)
    c.in-Some.ensures.cases.0 c.requires.options).0

pub steep-returns-in-Some-clause-named_form : goal.steep-returns-in-Some-clause-named_form
steep-returns-in-Some-clause-named_form t c =
    named_tiny c.args.down _ (Some c.in-Some.size) c.in-Some.size refl
    (tiny_at c.args.down c.args.x _ _ (Some c.in-Some.size) c.in-Options.ensures.read.2 c.in-Some.ensures)

pub steep-returns-in_ok-named_form-in-None-clause-named_form : goal.steep-returns-in_ok-named_form-in-None-clause-named_form
steep-returns-in_ok-named_form-in-None-clause-named_form t c =
    let g = game_of c.args.arena.now c.args.last in
    let e = c.in-Options.ensures.read.2 in
    let node = is_node g _ _ e in
    more-named_form c.args.down c.args.x g node c.one_more.result
    (c.one_more.ensures.more g node c.in_ok-named_form-in-None.ensures.named_form)
    (tiny_at c.args.down c.args.x g _ None e c.in-None.ensures)
