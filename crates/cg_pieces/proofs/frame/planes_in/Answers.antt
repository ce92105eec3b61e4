use Rattle.std.proofs.Common.{◌∙◌, slice_index}
use Rattle.cg_pieces.proofs.CropWords.{plane-is}
use Rattle.cg_pieces.proofs.FrameWords.{box-in}
use Rattle.cg_pieces.proofs.frame.planes_in.Goals as goal

pub cut_out-requires : goal.cut_out-requires
cut_out-requires c =
    box-in c.args.board.now c.columns-columns.ensures.grid c.args.set c.requires.set.0 c.requires.set.1 c.args.frame
    c.columns-columns.result c.requires.frame c.columns-columns.ensures.value

pub cut_out-requires-2 : goal.cut_out-requires-2
cut_out-requires-2 c =
    box-in c.args.board.now c.columns-columns.ensures.grid c.args.set c.requires.set.0 c.requires.set.1 c.args.frame
    c.columns-columns.result c.requires.frame c.columns-columns.ensures.value

pub cut_out-requires-3 : goal.cut_out-requires-3
cut_out-requires-3 c =
    box-in c.args.board.now c.columns-columns.ensures.grid c.args.set c.requires.set.0 c.requires.set.1 c.args.frame
    c.columns-columns.result c.requires.frame c.columns-columns.ensures.value

pub cut_out-requires-4 : goal.cut_out-requires-4
cut_out-requires-4 c =
    box-in c.args.board.now c.columns-columns.ensures.grid c.args.set c.requires.set.0 c.requires.set.1 c.args.frame
    c.columns-columns.result c.requires.frame c.columns-columns.ensures.value

pub returns : goal.returns
returns c =
    let p = c.args.board.now in
    let grid = c.columns-columns.ensures.grid in
    let from = c.requires.set.1 in
    let blank = slice_index p.symbols c.args.blank in
    let index = c.from-index.result in
    let is = c.from-index.ensures ∙ c.requires.blank.value in record {
      a = plane-is p grid c.args.set c.requires.set.0 blank from c.requires.blank.contained c.args.frame c.requires.frame
          c.columns-columns.result c.columns-columns.ensures.value c.planes-planes.result.a index c.bit.result c.shown.result 0
          c.planes-planes.ensures.planes.a is c.bit.ensures.value c.shown.ensures c.cut_out.result c.cut_out.ensures;
      b = plane-is p grid c.args.set c.requires.set.0 blank from c.requires.blank.contained c.args.frame c.requires.frame
          c.columns-columns.result c.columns-columns.ensures.value c.planes-planes.result.b index c.bit-2.result
          c.shown-2.result 1 c.planes-planes.ensures.planes.b is c.bit-2.ensures.value c.shown-2.ensures c.cut_out-2.result
          c.cut_out-2.ensures;
      c = plane-is p grid c.args.set c.requires.set.0 blank from c.requires.blank.contained c.args.frame c.requires.frame
          c.columns-columns.result c.columns-columns.ensures.value c.planes-planes.result.c index c.bit-3.result
          c.shown-3.result 2 c.planes-planes.ensures.planes.c is c.bit-3.ensures.value c.shown-3.ensures c.cut_out-3.result
          c.cut_out-3.ensures;
      d = plane-is p grid c.args.set c.requires.set.0 blank from c.requires.blank.contained c.args.frame c.requires.frame
          c.columns-columns.result c.columns-columns.ensures.value c.planes-planes.result.d index c.bit-4.result
          c.shown-4.result 3 c.planes-planes.ensures.planes.d is c.bit-4.ensures.value c.shown-4.ensures c.cut_out-4.result
          c.cut_out-4.ensures;
    }
