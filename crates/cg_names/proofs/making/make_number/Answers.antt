use Rattle.cg_names.proofs.making.make_number.Goals as goal

pub returns : goal.returns
returns g c = record {
  game = c.number_item.ensures.game;
  made = c.number_item.ensures.made;
  more = c.number_item.ensures.more;
}
