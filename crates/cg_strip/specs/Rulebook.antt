-- What a strip game is: what its symbols weigh, and its rules.
use Rattle.std.specs.Prelude.{ℕ, ◌≡◌, ◌<◌, ◌≤◌, ◌==◌, Bool, true, List, length, map, All}
use Rattle.std.specs.List.{list_all, list_any}
use Rattle.cg_moves.specs.Grid.{are_symbols}
use Rattle.cg_strip.specs.declared.weight.Weight.{Weight}
use Rattle.cg_strip.specs.declared.rule.Rule.{Rule}

pub record Rulebook : Type 0 where
  pub weights : List Weight
  pub rules : List Rule

-- whether one of these is the symbol's weight
abbrev pub is_weighted : List Weight → ℕ → Bool
is_weighted weights s = list_any (λ w. w.symbol == s) weights

-- the symbols of the game: those with a weight, in the order of the weights
abbrev pub symbols_of : List Weight → List ℕ
symbols_of weights = map (λ w. w.symbol) weights

-- a pattern and a replacement of equal length, all of whose symbols have a weight
pub record IsRule (weights : List Weight) (r : Rule) : Type 0 where
  pub some : 0 < length r.pattern
  pub even : length r.pattern ≡ length r.replacement
  pub pattern : list_all (is_weighted weights) r.pattern ≡ true
  pub replacement : list_all (is_weighted weights) r.replacement ≡ true

-- 1 to 16 symbols with a weight each, and at most 32 rules
pub record IsRulebook (book : Rulebook) : Type 0 where
  pub symbols : are_symbols (symbols_of book.weights) ≡ true
  pub few : length book.rules ≤ 32
  pub rules : All (IsRule book.weights) book.rules
