-- What the rules of strip games, and toads and frogs, write on boards.
use Rattle.std.proofs.Common.{◌≡◌, ℕ, zero, suc, ◌==◌, inl, inr, true, List, [], ◌∷◌, get_or, length, refl, sym, subst, arith, eqb-true}
use Rattle.std.specs.Prelude.{All, Contains}
use Rattle.std.specs.List.{list_all, AllByRecursion}
use Rattle.std.specs.Str.{bytes_eq}
use Rattle.std.specs.Cmp.Lexicographic.{bytes_decides}
use Rattle.std.proofs.lemmas.Bool.{and_parts, or_cases}
use Rattle.cg_moves.specs.Grid.{AreCells, Grid}
use Rattle.cg_strip.specs.Placing.{IsChange, IsRuleOver}
use Rattle.cg_strip.specs.Rulebook.{Rulebook, IsRulebook, is_weighted, symbols_of}
use Rattle.cg_strip.specs.StripGame.{is_strip_board}
use Rattle.cg_strip.proofs.StripLaw.{board_parts}
use Rattle.cg_strip.specs.Toads.{empty, frog, toad, toads_game}
use Rattle.cg_strip.specs.declared.rule.Rule.{Rule}
use Rattle.cg_strip.specs.declared.weight.Weight.{Weight}

all_cells : (symbols cells : List ℕ) → AllByRecursion (Contains symbols) cells → AreCells symbols cells
all_cells symbols [] h k below = absurd (omega arith)
all_cells symbols (c ∷ cells) h zero below = h.0
all_cells symbols (c ∷ cells) h (suc k) below = all_cells symbols cells h.1 k (omega arith)

-- ---- rules of a strip game

contained : (weights : List Weight) (s : ℕ) → is_weighted weights s ≡ true → Contains (symbols_of weights) s
contained [] s e = absurd cc
contained (w ∷ weights) s e = elim (or_cases (w.symbol == s) (is_weighted weights s) e) [
  | inl f ↦ (0, omega arith, eqb-true w.symbol s f)
  | inr f ↦ (let m = contained weights s f in (suc m.0, omega (arith, m.1), m.2))
]

weighted_cells : (weights : List Weight) (cells : List ℕ) → list_all (is_weighted weights) cells ≡ true
    → AllByRecursion (Contains (symbols_of weights)) cells
weighted_cells weights [] e = tt
weighted_cells weights (c ∷ cells) e =
    let p = and_parts (is_weighted weights c) (list_all (is_weighted weights) cells) e in
    (contained weights c p.0, weighted_cells weights cells p.1)

pub rules_over : (book : Rulebook) (p : Grid) (rules : List Rule) → rules ≡ book.rules → IsRulebook book
    → is_strip_board book p ≡ true → All (IsRuleOver p.symbols) rules
rules_over book p rules same sound has =
    rw same (λ k d below.
    let r = get_or book.rules k d in
    let is = sound.rules k d below in
    let symbols = sym (board_parts book p has).symbols in
    let Q : List ℕ → List ℕ → Type 0 = λ cells s. AreCells s cells in
    record {
      even = is.even;
      old = subst (Q r.pattern) symbols (all_cells _ r.pattern (weighted_cells book.weights r.pattern is.pattern));
      new = subst (Q r.replacement) symbols (all_cells _ r.replacement (weighted_cells book.weights r.replacement is.replacement));
    })

-- ---- toads and frogs

abbrev symbols : List ℕ
symbols = empty ∷ toad ∷ frog ∷ []

is_empty : Contains symbols empty
is_empty = (0, omega arith, refl)

is_toad : Contains symbols toad
is_toad = (1, omega arith, refl)

is_frog : Contains symbols frog
is_frog = (2, omega arith, refl)

pub symbols_are : (p : Grid) → toads_game.has p ≡ true → p.symbols ≡ symbols
symbols_are p has = (bytes_decides p.symbols symbols).0 (and_parts (p.rows == 1) (bytes_eq p.symbols symbols) has).1

-- a change to these symbols
change : (p : Grid) (old new : List ℕ) → toads_game.has p ≡ true → length old ≡ length new
    → AllByRecursion (Contains symbols) old → AllByRecursion (Contains symbols) new → IsChange p.symbols old new
change p old new has even before after =
    let s = symbols_are p has in
    let Q : List ℕ → List ℕ → Type 0 = λ cells z. AreCells z cells in
    record {
      even = even;
      old = subst (Q old) (sym s) (all_cells symbols old before);
      new = subst (Q new) (sym s) (all_cells symbols new after);
    }

module _ (p : Grid) (has : toads_game.has p ≡ true) where
  pub toad_steps : IsChange p.symbols (toad ∷ empty ∷ []) (empty ∷ toad ∷ [])
  toad_steps = change p _ _ has refl (is_toad, (is_empty, tt)) (is_empty, (is_toad, tt))

  pub toad_jumps : IsChange p.symbols (toad ∷ frog ∷ empty ∷ []) (empty ∷ frog ∷ toad ∷ [])
  toad_jumps = change p _ _ has refl (is_toad, (is_frog, (is_empty, tt))) (is_empty, (is_frog, (is_toad, tt)))

  pub frog_steps : IsChange p.symbols (empty ∷ frog ∷ []) (frog ∷ empty ∷ [])
  frog_steps = change p _ _ has refl (is_empty, (is_frog, tt)) (is_frog, (is_empty, tt))

  pub frog_jumps : IsChange p.symbols (empty ∷ toad ∷ frog ∷ []) (frog ∷ toad ∷ empty ∷ [])
  frog_jumps = change p _ _ has refl (is_empty, (is_toad, (is_frog, tt))) (is_frog, (is_toad, (is_empty, tt)))
