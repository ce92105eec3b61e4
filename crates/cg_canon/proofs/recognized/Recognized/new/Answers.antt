use Rattle.std.proofs.Common.{refl, []}
use Rattle.cg_canon.proofs.Recognizing.{recognized_none}
use Rattle.cg_canon.proofs.recognized.Recognized.new.Goals as goal

pub returns : goal.returns
returns c =
    recognized_none [] (record { games = c.new.result; marks = c.new-2.result; by_parts = c.new-3.result; nimbers = c.new-4.result }) refl
    c.new.ensures.items c.new-4.ensures.items
