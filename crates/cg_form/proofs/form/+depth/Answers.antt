use Rattle.std.proofs.Common.{rules, ◌≡◌, ℕ, ◌+◌, ◌≤◌, arith, get_or, take, max, suc, ap, ◌∙◌, List}
use Rattle.cg_form.specs.declared.form.Form.{Form}
use Rattle.cg_form.specs.Depth.{deepest, depth_of}
use Rattle.cg_form.specs.Forms.{game_of, games_of}
use Rattle.cg_form.specs.Size.{list_size, size}
use Rattle.cg_form.proofs.Depth.{deepest_take_suc, depth_le_deepest}
use Rattle.cg_form.proofs.FormLists.{size_le_list}
use Rattle.cg_form.proofs.form.+depth.Goals as goal
use Rattle.cg_form.proofs.form.+depth.Goals.{Options::deepest-then-most-depth, Options::deepest-else-most-depth}

pub Options::deepest-depth-depth-requires : goal.Options::deepest-depth-depth-requires
Options::deepest-depth-depth-requires t c =
    let xs : List Form = c.deref-form-items.result.now in
    let i : ℕ = c.loop-form.form-index in
    let x : Form = c.form-item.result in
    let e : depth_of (game_of x) ≡ depth_of (game_of (get_or xs i x)) = ap (λ (f : Form). depth_of (game_of f)) c.form-item.is in
    let l : depth_of (game_of (get_or xs i x)) ≤ deepest (games_of xs) = depth_le_deepest xs i x c.loop-form-test.true in
    let v : deepest (games_of xs) ≡ deepest c.args.self.now = ap (λ (fs : List Form). deepest (games_of fs)) c.deref-form-items.ensures.value ∙ ap deepest
    c.self.view_is in
    let z : size (game_of x) ≡ size (game_of (get_or xs i x)) = ap (λ (f : Form). size (game_of f)) c.form-item.is in
    let y : size (game_of (get_or xs i x)) ≤ list_size (games_of xs) = size_le_list xs i x c.loop-form-test.true in
    let w : list_size (games_of xs) ≡ list_size c.args.self.now = ap (λ (fs : List Form). list_size (games_of fs)) c.deref-form-items.ensures.value
    ∙ ap list_size c.self.view_is in
    (search rules, omega arith)

pub Options::deepest-loop-form-preserved : goal.Options::deepest-loop-form-preserved
Options::deepest-loop-form-preserved t c =
    let xs : List Form = c.deref-form-items.result.now in
    let i : ℕ = c.loop-form.form-index in
    let x : Form = c.form-item.result in
    let e : depth_of (game_of x) ≡ depth_of (game_of (get_or xs i x)) = ap (λ (f : Form). depth_of (game_of f)) c.form-item.is in
    let s : deepest (games_of (take (suc i) xs)) ≡ max (deepest (games_of (take i xs))) (depth_of (game_of (get_or xs i x))) = deepest_take_suc xs i x
    c.loop-form-test.true in
    let a : i + 1 ≡ suc i = omega arith in
    rw a (elim c.if-most-depth.branch [
      | Options::deepest-then-most-depth w ↦ omega arith
      | Options::deepest-else-most-depth w ↦ omega arith
    ])
