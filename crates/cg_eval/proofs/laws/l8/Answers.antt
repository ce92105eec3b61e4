use Rattle.cg_eval.specs.Items.{items}
use Rattle.cg_eval.proofs.Lasts.{are_made-passed}
use Rattle.cg_eval.proofs.LastItems.{last_item}
use Rattle.cg_eval.proofs.laws.l8.Goals as goal

pub returns : goal.returns
returns c share limit spent t p =
    let e = last_item limit t (are_made-passed share 0 spent (items limit t) p) in
    (e.front, e.extra, e.split)
