-- What the words of operands tell.
use Rattle.std.specs.Prelude.{true, false}
use Rattle.cg_grammar.specs.OperandReading.{Named, Of_tiny, Of_one_text, Of_two_texts, Of_octal}
use Rattle.cg_reader.specs.declared.boards.Named as code_named
use Rattle.cg_reader.specs.declared.boards.Named.TheVariants as words

-- what stands behind a word
abbrev pub named_view : code_named.Named → Named
named_view words.Tiny = Of_tiny false
named_view words.Miny = Of_tiny true
named_view (words.OneText kind) = Of_one_text kind
named_view (words.TwoTexts kind) = Of_two_texts kind
named_view words.Octal = Of_octal
