use Rattle.std.proofs.Common.{arith, bit_and}
use Rattle.cg_moves.proofs.WordBits.{shifted_back, shifted_on, shifted_on_first}
use Rattle.cg_pieces.proofs.GrowingSets.{moved_back, moved_on, other_bits, row-set}
use Rattle.cg_pieces.proofs.field.Field.with_row.Goals as goal

pub returns : goal.returns
returns c =
    let kept = bit_and c.args.set (other_bits c.args.self.first_column) in
    row-set c.args.self c.args.set c.requires.field c.requires.set (omega (arith, c.well_formed)) (moved_on c.args.set 1)
    (moved_back kept 1) (omega (arith, c.well_formed)) (λ i l. shifted_on_first c.args.set 1 i l (omega arith))
    (shifted_on c.args.set 1) (shifted_back kept 1)
