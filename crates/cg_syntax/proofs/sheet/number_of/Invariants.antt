use Rattle.std.proofs.Common.{◌≡◌, drop}
use Rattle.std.specs.List.{fold}
use Rattle.cg_syntax.specs.Bound.{number_of, with_digit}
use Rattle.cg_syntax.proofs.sheet.number_of.Given as goal

abbrev pub invariant-loop-byte : goal.invariant-loop-byte
invariant-loop-byte l = fold with_digit l.number (drop l.byte-index l.name) ≡ number_of l.fn.name
