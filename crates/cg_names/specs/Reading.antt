-- Names read as expressions.
use Rattle.std.specs.Prelude.{ℕ, suc, max, ◌-◌, ◌^◌, ◌<◌, ◌==◌, if◌then◌else◌, List, [], ◌∷◌}
use Rattle.cg_dyadic.specs.Number.{InRange}
use Rattle.cg_form.specs.Canonical.{IsCanonicalForm}
use Rattle.cg_form.specs.Game.{Game, Games, more, none, number, options}
use Rattle.cg_grammar.specs.Grammar.{expr, special}
use Rattle.cg_query.specs.Tree.{Tree}
use Rattle.cg_grammar.specs.Values.{clean}
use Rattle.cg_query.specs.declared.format.Format.TheVariants as formats
use Rattle.cg_names.specs.Meaning.{PositionForms, meaning}
use Rattle.cg_names.specs.NamedForms.{Fits}
use Rattle.cg_names.specs.declared.named_form.NamedForm.{NamedForm}
use Rattle.cg_names.specs.declared.named_form.NamedForm.TheVariants.{Star, Arrows, Switch, Tiny}

-- the number of the named form is in range, and its count has at most thirty digits, which are as many as a numeral of the grammar has
abbrev pub IsNamedInRange : NamedForm → Type 0
IsNamedInRange (Star x n) = InRange x × (n < 10 ^ 30)
IsNamedInRange (Arrows down starred x n) = InRange x × (n < 10 ^ 30)
IsNamedInRange (Switch x) = InRange x
IsNamedInRange (Tiny miny x) = InRange x

abbrev mutual
  -- each number in the name of the game is in range, and each count has at most thirty digits
  pub IsNameInRange : Game → Type 0
  IsNameInRange (number x) = InRange x
  IsNameInRange (options ls rs) =
      ((s : NamedForm) → Fits s (options ls rs) → IsNamedInRange s)
      × (((s : NamedForm) → ¬ Fits s (options ls rs)) → AreNamesInRange ls × AreNamesInRange rs)

  pub AreNamesInRange : Games → Type 0
  AreNamesInRange none = Unit {0}
  AreNamesInRange (more g gs) = IsNameInRange g × AreNamesInRange gs

-- the braces that are open behind a byte before which n were open: `{` opens one, and `}` closes one
abbrev pub open_behind : ℕ → ℕ → ℕ
open_behind b n = if b == 123 then suc n else if b == 125 then n - 1 else n

-- the most braces that are open at once in a text before which n were open
abbrev pub most_open : ℕ → List ℕ → ℕ
most_open n [] = n
most_open n (b ∷ text) = max n (most_open (open_behind b n) text)

-- the text is an expression, at whatever column it starts, and the game is the canonical form of what it means, whatever
-- positions mean
pub record ReadsAs (g : Game) (text : List ℕ) : Type 0 where
  pub tree : Tree
  pub is_expr : (column : ℕ) → expr (special formats.One 64) column (clean tree) text
  pub means : (forms : PositionForms) → IsCanonicalForm (meaning forms tree) g
