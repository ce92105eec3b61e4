use Rattle.cg_octal.proofs.Adding.{two_heaps-more}
use Rattle.cg_octal.proofs.options.with_two_heaps.Goals as goal

pub loop-tokens-preserved : goal.loop-tokens-preserved
loop-tokens-preserved c =
    two_heaps-more c.args.digits.now c.args.values.now c.args.left c.loop-tokens.tokens c.args.found.items
    c.loop-tokens.all.items c.push.new.self.items c.requires.values c.requires.lesser c.loop-tokens-test.true
    c.loop-tokens.invariant c.in_ok-push.ensures.items
