use denote.Text.{Utf8}
use denote.Shadow.{shadow}
use Rattle.cg_rows.proofs.main.Given as goal

-- the lines that are kept are text
abbrev pub invariant-loop-block : goal.invariant-loop-block
invariant-loop-block g l =
    (goal.iterator-loop-block g).can_next l.block-iterator ×
    (goal.iterator-loop-block g).is_finite l.block-iterator ×
    shadow (Utf8 l.kept)
