use Rattle.std.proofs.Common.{◌≡◌, ◌∙◌, ℕ, ◌+◌, ◌++◌, ◌%◌, List, ◌∷◌, [], refl, ◌≢◌, arith, ap, string_bytes}
use Rattle.std.proofs.lemmas.Bool.{ne_eqb}
use Rattle.std.proofs.lemmas.Result.{IfOk-weaker}
use Rattle.cg_sample.specs.SampleText.{dots, line_of, grid_line}
use Rattle.cg_sample.proofs.write_line.Goals as goal

grid_line_of : (i : ℕ) (r : List ℕ) → i % 6 ≢ 1 → i % 6 ≢ 2 → i % 6 ≢ 3 → i % 6 ≢ 4 → i % 6 ≢ 5 → r ≡ dots (i % 5 % 3 + 1)
    → grid_line r ++ 10 ∷ [] ≡ line_of i
grid_line_of i r n1 n2 n3 n4 n5 is = rw (ne_eqb _ _ n1, ne_eqb _ _ n2, ne_eqb _ _ n3, ne_eqb _ _ n4, ne_eqb _ _ n5, is) refl

pub returns-in_default : goal.returns-in_default
returns-in_default c =
    let n1 : c.args.i % 6 ≢ 1 = omega arith in
    let n2 : c.args.i % 6 ≢ 2 = omega arith in
    let n3 : c.args.i % 6 ≢ 3 = omega arith in
    let n4 : c.args.i % 6 ≢ 4 = omega arith in
    let n5 : c.args.i % 6 ≢ 5 = omega arith in
    let line = grid_line_of c.args.i c.row.result.now n1 n2 n3 n4 n5 c.row.ensures in
    IfOk-weaker c.write_grid.result _ _ (λ _ h. h ∙ ap (λ (t : List ℕ). string_bytes c.args.text.now ++ t) line) c.write_grid.ensures
