-- The code of what a clause sees of a store in plain memory.
use Rattle.std.specs.Coded.{Coded, coded×, coded_ℕ, coded_list}
use base.Stored.{coded_via}
use Rattle.cg_cells.specs.Words.{Words}

abbrev pub words_code : Coded Words
words_code = coded_via (coded× (coded_list coded_ℕ) (coded× (coded_list coded_ℕ) coded_ℕ))
    (λ (w : Words). (w.keys, (w.values, w.spare)))
    (λ x y e i. record { keys = (e i).0; values = (e i).1.0; spare = (e i).1.1 })
