-- The code of what contracts see of a board.
use Rattle.std.specs.Coded.{Coded, coded×, coded_ℕ, coded_list}
use base.Stored.{coded_via}
use Rattle.cg_moves.specs.Grid.{Grid}

abbrev pub grid_code : Coded Grid
grid_code = coded_via (coded× coded_ℕ (coded× coded_ℕ (coded× (coded_list coded_ℕ) (coded_list coded_ℕ))))
    (λ (p : Grid). (p.rows, (p.columns, (p.symbols, p.cells))))
    (λ x y e i. record {
      rows = (e i).0;
      columns = (e i).1.0;
      symbols = (e i).1.1.0;
      cells = (e i).1.1.1;
    })
