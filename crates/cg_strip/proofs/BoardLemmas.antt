-- What reading a row says of the board.
use Rattle.std.proofs.Common.{◌≡◌, ℕ, suc, ◌+◌, ◌/◌, ◌==◌, ◌&&◌, ◌⊎◌, inl, inr, true, List, [], ◌∷◌, length}
use Rattle.std.proofs.Common.{Option, Some, None, Result, Ok, Err, refl, ap, sym, ◌∙◌, arith, eq-eqb}
use Rattle.std.specs.Prelude.{All, IfOk, IfErr, nat_lt, position, if◌then◌else◌}
use Rattle.std.specs.List.{list_all, flat_map}
use Rattle.std.specs.Str.{bytes_eq}
use Rattle.std.specs.Cmp.Lexicographic.{bytes_decides}
use Rattle.std.proofs.lemmas.Bool.{and_from}
use Rattle.cg_moves.specs.declared.fault.BoardFault.{BoardFault}
use Rattle.cg_moves.specs.declared.fault.BoardFault.TheVariants.{Symbol, Empty, Ragged, Large, Rules, Lowering, Memory}
use Rattle.cg_moves.specs.Grid.{Grid}
use Rattle.cg_moves.specs.Texts.{is_foreign, ragged, next_place, refused_at, read_of}
use Rattle.cg_strip.specs.Rulebook.{Rulebook, IsRule, IsRulebook, symbols_of}
use Rattle.cg_strip.specs.Weighing.{do_all_lower, first_rising, IsFirstRising}
use Rattle.cg_strip.specs.StripGame.{is_even}
use Rattle.cg_strip.proofs.WeighingLemmas.{none_rising, first_rising_is}
use Rattle.cg_strip.specs.Boards.{IsBoardOf}
use Rattle.cg_strip.specs.ToadsBoards.{toads_symbols, IsToadsBoard, IsNoToadsBoard}
use Rattle.cg_strip.specs.declared.weight.Weight.{Weight}
use Rattle.cg_strip.specs.declared.rule.Rule.{Rule}

passed : (fault : ℕ → BoardFault) (place : Option ℕ) (rest : Result Grid BoardFault) (p : Grid) → refused_at fault place rest ≡ Ok p → rest ≡ Ok p
passed fault None rest p e = e
passed fault (Some k) rest p e = absurd cc

one_row : (symbols text : List ℕ) (p : Grid) → read_of symbols true text ≡ Ok p → p.rows ≡ 1
one_row symbols text p e =
    rows_of (passed Large (if nat_lt 64 (length cells) then Some (65 + 64 / length text) else None) read p
    (passed Ragged (ragged (length text) 1 (text ∷ [])) (refused_at Large (if nat_lt 64 (length cells) then Some (65 + 64 / length text) else None) read) p
    (passed Empty (if length text == 0 then Some 1 else None) (refused_at Ragged (ragged (length text) 1 (text ∷ [])) (refused_at Large
    (if nat_lt 64 (length cells) then Some (65 + 64 / length text) else None) read)) p
    (passed Symbol (next_place (position (is_foreign true symbols) text)) (refused_at Empty (if length text == 0 then Some 1 else None) (refused_at Ragged
    (ragged (length text) 1 (text ∷ [])) (refused_at Large (if nat_lt 64 (length cells) then Some (65 + 64 / length text) else None) read))) p e))))
  where
    cells : List ℕ
    cells = flat_map (λ row. row) (text ∷ [])

    grid : Grid
    grid = record { rows = 1; columns = length text; symbols = symbols; cells = cells }

    read : Result Grid BoardFault
    read = Ok grid

    rows_of : read ≡ Ok p → p.rows ≡ 1
    rows_of f = let same : grid ≡ p = cc in sym (ap (λ (g : Grid). g.rows) same)

even_rules : (weights : List Weight) (rules : List Rule) → All (IsRule weights) rules → list_all is_even rules ≡ true
even_rules weights [] h = refl
even_rules weights (r ∷ rules) h = and_from (is_even r) (list_all is_even rules) (eq-eqb (length r.pattern) (length r.replacement) (h 0 r (omega arith)).even)
    (even_rules weights rules (λ k d below. h (suc k) d (omega arith)))

evenly : (weights : List Weight) (rules : List Rule) → All (IsRule weights) rules → All (λ r. length r.pattern ≡ length r.replacement) rules
evenly weights rules h k d below = (h k d below).even

along : (book : Rulebook) (weights : List Weight) (size : ℕ) (rules : List Rule) (p : Grid) (a : Option ℕ) → weights ≡ book.weights → size ≡ length p.cells →
    rules ≡ book.rules → a ≡ first_rising weights size 0 rules → first_rising book.weights (length p.cells) 0 book.rules ≡ a
along book weights size rules p a w n r e =
    sym (e ∙ ap (λ z. first_rising z size 0 rules) w ∙ ap (λ z. first_rising book.weights z 0 rules) n ∙ ap (first_rising book.weights (length p.cells) 0) r)

pub board_is : (book : Rulebook) (symbols text : List ℕ) (weights : List Weight) (size : ℕ) (rules : List Rule) (p : Grid) → IsRulebook book → symbols
    ≡ symbols_of book.weights → read_of symbols true text ≡ Ok p → p.symbols ≡ symbols → weights ≡ book.weights → size ≡ length p.cells → rules ≡ book.rules →
    None ≡ first_rising weights size 0 rules → IsBoardOf book text p
board_is book symbols text weights size rules p sound s read t w n r e =
    let lower = none_rising book.weights (length p.cells) 0 book.rules (evenly book.weights book.rules sound.rules) (along book weights size rules p None w n r
    e) in
    let rows = one_row symbols text p read in
    record {
      read = ap (λ z. read_of z true text) (sym s) ∙ read;
      lowered =
          and_from ((p.rows == 1) && bytes_eq p.symbols (symbols_of book.weights) && list_all is_even book.rules) (do_all_lower book.weights (length p.cells)
          book.rules)
          (and_from ((p.rows == 1) && bytes_eq p.symbols (symbols_of book.weights)) (list_all is_even book.rules)
          (and_from (p.rows == 1) (bytes_eq p.symbols (symbols_of book.weights)) (eq-eqb p.rows 1 rows) ((bytes_decides p.symbols (symbols_of book.weights)).1
          (t ∙ s)))
          (even_rules book.weights book.rules sound.rules)) lower;
    }

pub board_rising : (book : Rulebook) (symbols text : List ℕ) (weights : List Weight) (size : ℕ) (rules : List Rule) (p : Grid) (k : ℕ) → IsRulebook book →
    symbols ≡ symbols_of book.weights → read_of symbols true text ≡ Ok p → weights ≡ book.weights → size ≡ length p.cells → rules ≡ book.rules → Some k
    ≡ first_rising weights size 0 rules → (q : Grid) × (read_of (symbols_of book.weights) true text ≡ Ok q) × IsFirstRising book (length q.cells) k
board_rising book symbols text weights size rules p k sound s read w n r e = (
  p,
  ap (λ z. read_of z true text) (sym s) ∙ read,
  first_rising_is book (length p.cells) k (evenly book.weights book.rules sound.rules) (along book weights
      size rules p (Some k) w n r e),
)

-- ---- rows of toads and frogs

pub toads_read : (text : List ℕ) (r : Result Grid BoardFault) → IfOk r (λ p. read_of toads_symbols true text ≡ Ok p) → IfOk r (λ p. p.symbols ≡ toads_symbols) →
    IfOk r (IsToadsBoard text)
toads_read text (Ok p) e s = record {
  read = e;
  game = and_from (p.rows == 1) (bytes_eq p.symbols toads_symbols) (eq-eqb p.rows 1 (one_row toads_symbols text p
      e)) ((bytes_decides p.symbols toads_symbols).1 s);
}
toads_read text (Err f) e s = tt

pub toads_refused : (text : List ℕ) (r : Result Grid BoardFault) → IfErr r (λ f. (f ≡ Memory) ⊎ (read_of toads_symbols true text ≡ Err f)) →
    IfErr r (IsNoToadsBoard text)
toads_refused text (Ok p) e = tt
toads_refused text (Err Memory) e = tt
toads_refused text (Err (Symbol k)) e = elim e [ inl f ↦ absurd cc | inr f ↦ f ]
toads_refused text (Err (Empty k)) e = elim e [ inl f ↦ absurd cc | inr f ↦ f ]
toads_refused text (Err (Ragged k)) e = elim e [ inl f ↦ absurd cc | inr f ↦ f ]
toads_refused text (Err (Large k)) e = elim e [ inl f ↦ absurd cc | inr f ↦ f ]
toads_refused text (Err (Rules k)) e = elim e [ inl f ↦ absurd cc | inr f ↦ f ]
toads_refused text (Err (Lowering k)) e = elim e [ inl f ↦ absurd cc | inr f ↦ f ]
