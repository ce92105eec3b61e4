use Rattle.std.proofs.Common.{ℕ, ◌-◌, ap, sym, subst}
use Rattle.cg_nodes.specs.Games.{game_at}
use Rattle.cg_canon.specs.Items.{AllPass}
use Rattle.cg_canon.specs.SumItems.{sum_items}
use Rattle.cg_canon.proofs.AgainItems.{pass_alone}
use Rattle.cg_canon.proofs.again.keep_sum.Goals as goal

pub keep_added-requires : goal.keep_added-requires
keep_added-requires g c =
    let alone = pass_alone c.args.work.now.share c.args.before c.args.work.now.spent _ c.requires.items in
    let s = g.S.CellStore.state c.args.work.now.store.now in
    let P : ℕ → ℕ → Type 0 = λ n l. AllPass n 0 (sum_items l (game_at s c.args.a) (game_at s c.args.b)) n in
    record {
      first = c.requires.a;
      second = c.requires.b;
      sum = c.requires.sum;
      items = subst (λ n. P n c.limit.result) (ap (λ n. n - c.args.before) (sym c.spent.ensures.value))
          (subst (λ l. P (c.args.work.now.spent - c.args.before) l) (sym c.limit.ensures) alone);
    }
