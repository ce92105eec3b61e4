use Rattle.std.proofs.Common.{rules, ◌≡◌, ap, ◌∙◌, ◌++◌, string_bytes}
use Rattle.std.proofs.lemmas.Str.{IsUtf8-from_ascii}
use Rattle.cg_query.specs.Trees.{question_of}
use Rattle.cg_grammar.specs.Written.{asked_text}
use Rattle.cg_writer.proofs.Writable.{line_writable}
use Rattle.cg_writer.proofs.WrittenBytes.{question_ascii}
use Rattle.cg_writer.proofs.WrittenReads.{question_reads}
use Rattle.cg_writer.proofs.write.write_query.Goals as goal

pub unwrap-requires : goal.unwrap-requires
unwrap-requires c =
    let q = question_of c.args.query.now in
    let e : c.push_query.new.text.items ≡ asked_text q = c.in_ok-push_query.ensures ∙ ap (λ z. z ++ asked_text q) c.new-text.ensures.items in
    let a = question_ascii q (line_writable c.requires.read.0 q c.requires.read.1) in
    c.from_utf8.ensures.succeeds (IsUtf8-from_ascii c.push_query.new.text.items (rw e a))

pub returns-clause-reads : goal.returns-clause-reads
returns-clause-reads c =
    let q = question_of c.args.query.now in
    let e : string_bytes c.unwrap.result ≡ asked_text q = search rules in
    let m = question_reads q (line_writable c.requires.read.0 q c.requires.read.1) c.requires.low in
    rw e m
