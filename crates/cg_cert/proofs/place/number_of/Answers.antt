use Rattle.std.proofs.Common.{sym, ◌∙◌, decimal}
use Rattle.std.proofs.lemmas.Fmt.{IsAscii-decimal, parse-decimal}
use Rattle.std.proofs.lemmas.Str.{IsUtf8-from_ascii}
use Rattle.cg_cert.proofs.place.number_of.Goals as goal

pub returns-in-Ok : goal.returns-in-Ok
returns-in-Ok c n l e =
    let same = parse-decimal 64 n c.in-Ok.text.now c.parse.result l l (c.in-Ok.ensures.cases.0 ∙ sym e) c.parse.ensures.value.0 in
    let value = c.ok.ensures.value in
    cc

pub returns-in-Err : goal.returns-in-Err
returns-in-Err c n l e =
    absurd (c.in-Err.ensures.cases.0 (rw e at (IsUtf8-from_ascii (decimal n) (IsAscii-decimal n l))))
