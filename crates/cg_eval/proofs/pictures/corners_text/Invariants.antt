use Rattle.std.proofs.Common.{◌≡◌, take}
use Rattle.std.specs.Prelude.{string_bytes}
use Rattle.cg_eval.specs.Pictures.{corners_text}
use Rattle.cg_eval.proofs.pictures.corners_text.Given as goal

abbrev pub invariant-loop-corner : goal.invariant-loop-corner
invariant-loop-corner l = string_bytes l.all ≡ corners_text (take l.corner-index l.corners)
