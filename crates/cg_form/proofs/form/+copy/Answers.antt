use Rattle.std.proofs.Common.{rules}
use Rattle.cg_form.proofs.FormLists.{size_of_item}
use Rattle.cg_form.proofs.form.+copy.Goals as goal

pub Options::copy_all-copy-requires : goal.Options::copy_all-copy-requires
Options::copy_all-copy-requires t c =
    let s = size_of_item c.as_slice-form-items.result.now c.args.self.now c.loop-form.form-index c.form-item.result c.as_slice-form-items.ensures c.form-item.is
    c.loop-form-test.true in
    (search rules, tt)
