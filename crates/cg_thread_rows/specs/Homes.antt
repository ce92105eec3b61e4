-- The meaning of the keys of games, where all keys have one home.
use Rattle.std.specs.Prelude.{pos}
use Rattle.cg_dyadic.specs.Number.{whole}
use Rattle.cg_form.specs.Game.{number}
use Rattle.cg_cells.specs.Meaning.{Meaning, IsLawful}
use Rattle.cg_nodes.specs.Meant.{Meant}
use Rattle.cg_nodes.specs.Spelled.{game_meaning}
use Rattle.cg_nodes.specs.KeysLaw.{lawful}

-- that of games without boards, with the first cell as the home of each key
abbrev pub one_home_meaning : Meaning Meant
one_home_meaning = record (game_meaning (λ n r c cs. number (whole (pos 0)))) { home = λ key size. 0 }

pub one_home_lawful : IsLawful one_home_meaning
one_home_lawful =
    let l = lawful (λ n r c cs. number (whole (pos 0))) in
    record {
      names_parts = l.names_parts;
      reads_parts = l.reads_parts;
      one_key = l.one_key;
      home_below = λ key size some. some;
    }
