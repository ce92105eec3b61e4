-- A game and a heap of it are stored as the list of digits and the heap.
use Rattle.std.specs.Prelude.{ℕ, List, refl}
use Rattle.std.specs.Coded.{Coded, code_by, coded×, coded_ℕ, coded_list}
use Rattle.cg_octal.specs.Codes.{OctalHeap}

abbrev pub octal_code : Coded OctalHeap
octal_code = code_by (List ℕ × ℕ) (coded× (coded_list coded_ℕ) coded_ℕ) (λ o. (o.digits, o.heap))
    (λ p. record { digits = p.0; heap = p.1 }) (λ _. refl)
