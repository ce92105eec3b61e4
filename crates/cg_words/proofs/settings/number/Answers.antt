use Rattle.std.specs.Str.Parse.{ExplainsUnsignedError, HasUnsignedDigitsIfOk, ParsesUnsigned}
use Rattle.clap.specs.Words.{found_of}
use Rattle.cg_words.proofs.OptionReads.{number_is}
use Rattle.cg_words.proofs.settings.number.Goals as goal

pub returns : goal.returns
returns c = number_is _ (λ bs r. ParsesUnsigned 64 10 bs r × ExplainsUnsignedError 10 bs r × HasUnsignedDigitsIfOk bs r) (found_of
    c.args.matches.now) c.args.id.now c.get_one.result c.unwrap_or.result c.unwrap_or.ensures c.get_one.ensures.none c.get_one.ensures.value (λ u x
    g. g.0) c.requires
