use Rattle.std.proofs.Common.{ap, ◌∙◌, rules, tests, take}
use Rattle.std.proofs.lemmas.Iterator.{YieldsList-from_slice}
use Rattle.std.proofs.lemmas.Iterator.Consumers.{count_from_yields_List}
use Rattle.std.proofs.lemmas.Iterator.Search.{YieldsList-from_take_while}
use Rattle.std.proofs.lemmas.List.Folds.{length-prefix_len}
use Rattle.cg_cert.specs.Reads.{is_digit}
use Rattle.cg_cert.proofs.token.digits_front.Goals as goal

pub returns : goal.returns
returns c =
    let s = c.args.bytes.now in
    ap (λ n. take n s) (count_from_yields_List c.take_while.result _ c.count-count.ensures.ran
    (YieldsList-from_take_while _ is_digit (YieldsList-from_slice s cc) c.take_while.ensures.closure c.take_while.ensures.done
    (λ x b q k. search (rules, tests))) ∙ length-prefix_len is_digit s)
