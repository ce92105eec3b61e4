use Rattle.std.proofs.Common.{◌≡◌, refl, ap, sym, ◌∙◌, arith, not, ◌&&◌, cond, ◌∷◌, [], ◌++◌, length}
use Rattle.std.specs.Prelude.{nat_lt}
use Rattle.cg_walls.proofs.Kept.{Follows, follows-value, follows-wall, kept, kept-last, lasts}
use Rattle.cg_walls.proofs.Words.{negative_word}
use Rattle.cg_walls.proofs.turning.turned.Goals as goal
use Rattle.cg_walls.proofs.turning.turned.Goals.{then-not-rise, else-not-rise, then-up+in_ok-push-2, else-up}

all-kept : (c : goal.After-of) → c.if-up.turns.items ≡ kept c.args.end c.if-not-rise.first c.args.rise.now.turns.items
all-kept c =
    let ts = c.args.rise.now.turns.items in
    let k = kept-last c.args.end c.loop-turn.up ts c.loop-turn.turn-index (let v = ap length c.deref-turn-items.ensures.value in let t = c.loop-turn-test.false
    in omega arith) in
    elim c.if-up.branch [
      | then-up+in_ok-push-2 w ↦ (let e : c.if-up.turns.items ≡ c.loop-turn.turns.items ++ c.args.end ∷ [] = rw w.turns-is w.in_ok-push-2.ensures.items in
          e ∙ ap (λ z. c.loop-turn.turns.items ++ z) (sym (k ∙ ap (λ b. cond b (c.args.end ∷ []) []) w.if-up.true)) ∙ c.loop-turn.invariant)
      | else-up w ↦ (let e : c.if-up.turns.items ≡ c.loop-turn.turns.items = rw w.turns-is refl in
          e ∙ lasts c.loop-turn.turns.items ∙ ap (λ z. c.loop-turn.turns.items ++ z) (sym (k ∙ ap (λ b. cond b (c.args.end ∷ []) []) w.if-up.false))
          ∙ c.loop-turn.invariant)
    ]

follows : (c : goal.After-of) → Follows c.args.rise.now c.of.result c.args.end
follows c = record {
  start = c.of.ensures.start ∙ negative_word c.args.rise.now c.requires.wall;
  first = c.of.ensures.first ∙ elim c.if-not-rise.branch [
    | then-not-rise w ↦ w.first-is ∙ ap (λ b. not b && nat_lt 0 c.args.end) (sym w.if-not-rise.true)
    | else-not-rise w ↦ w.first-is ∙ ap not w.if-not-rise.false ∙ ap (λ b. not b && nat_lt 0 c.args.end) (sym w.if-not-rise.false)
  ];
  turns = c.of.ensures.turns ∙ all-kept c ∙ ap (λ b. kept c.args.end b c.args.rise.now.turns.items) (sym c.of.ensures.first);
}

pub returns-clause-wall : goal.returns-clause-wall
returns-clause-wall c =
    follows-wall c.args.rise.now c.of.result c.args.end c.requires.wall c.requires.end c.requires.small (follows c)

pub returns-clause-value : goal.returns-clause-value
returns-clause-value c = follows-value c.args.rise.now c.of.result c.args.end c.requires.wall (follows c)
