use Rattle.std.proofs.Common.{◌≡◌, refl, ℕ, ◌+◌, ◌∙◌, Bool, true, false, if◌then◌else◌}
use Rattle.cg_clobber.specs.Moves.{captures_that_way, next_cell}
use Rattle.cg_clobber.proofs.CaptureMarks.{captures-inside}
use Rattle.cg_clobber.proofs.putting.put_move_from.Goals as goal

marked : (b : Bool) (n : ℕ) → n ≡ (if b then 1 else 0) → (n ≡ 0 → ⊥) → b ≡ true
marked true n e some = refl
marked false n e some = absurd (some e)

pub put_capture-requires-clause-from : goal.put_capture-requires-clause-from
put_capture-requires-clause-from c =
    let p = c.args.board.now in
    let i : ℕ = c.args.cell + c.args.by in
    captures-inside c.args.player p i (next_cell c.args.way p i)
    (marked (captures_that_way c.args.player p c.args.way i) c.bit.result
    (c.bit.ensures.value ∙ c.requires.word c.args.cell) c.if-bit-eq0.false)
