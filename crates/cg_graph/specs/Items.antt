-- What the code knows of the items that it has read.
use Rattle.std.specs.Prelude.{◌+◌, ◌^◌, ◌≡◌, ◌<◌, true}
use Rattle.cg_reading.specs.Bytes.{has}
use Rattle.cg_graph.specs.Grammar.{letter}
use Rattle.cg_graph.specs.declared.items.PairItem.{PairItem}

-- two letters, whose places are numbers of 64 bits
pub record IsLettered (item : PairItem) : Type 0 where
  pub one : has letter item.one ≡ true
  pub other : has letter item.other ≡ true
  pub place : item.place + 1 < 2 ^ 64
