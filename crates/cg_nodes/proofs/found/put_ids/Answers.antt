use Rattle.std.specs.HashSet.{contains}
use Rattle.std.specs.Bool.{◌==◌}
use Rattle.std.proofs.Common.{◌∙◌, ◌≡◌, ◌++◌, ◌∷◌, [], ℕ, List, ap, sym, take, ◌+◌}
use Rattle.std.proofs.lemmas.List.{take_more}
use Rattle.cg_nodes.proofs.Looked.{looked_up-more}
use Rattle.cg_nodes.proofs.found.put_ids.Goals as goal

pub loop-handle-preserved : goal.loop-handle-preserved
loop-handle-preserved c =
    let hs : List ℕ = c.args.handles.now in
    let i : ℕ = c.loop-handle.handle-index in
    let one_more : take (i + 1) hs ≡ take i hs ++ (c.handle-item.result ∷ []) =
    take_more hs i c.handle-item.result c.loop-handle-test.true
    ∙ ap (λ h. take i hs ++ (h ∷ [])) (sym c.handle-item.is) in
    looked_up-more (contains (λ a b. a == b) c.loop-handle.ids) (contains (λ a b. a == b) c.insert.new.self)
    (take i hs) (take (i + 1) hs)
    c.number.result c.handle-item.result (c.number.ensures.value
    ∙ c.id.ensures) one_more c.in_ok-insert.ensures.updates.0 c.loop-handle.invariant
