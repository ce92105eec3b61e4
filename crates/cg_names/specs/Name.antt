-- The rule of names: a number by its text; any other game by the named form that fits it, and where none fits as braces round the
-- names of its options. The law function `names` says that every game has exactly one name.
-- Siegel, Combinatorial Game Theory (2013), II.1 and II.4.
use Rattle.std.specs.Prelude.{ℕ, ◌≡◌, ◌⊎◌, List, [], ◌++◌, codes}
use Rattle.cg_dyadic.specs.Exact.{number_text}
use Rattle.cg_form.specs.Game.{Game, Games, number, options, none, more}
use Rattle.cg_names.specs.NamedForms.{Fits, named_text}
use Rattle.cg_names.specs.declared.named_form.NamedForm.{NamedForm}

-- braces round two texts
abbrev pub braces_name : List ℕ → List ℕ → List ℕ
braces_name left right = codes "{" ++ (left ++ (codes "|" ++ (right ++ codes "}")))

-- no named form fits, and the text is braces round these two texts
pub record Braced (g : Game) (Lefts Rights : List ℕ → Type 0) (text : List ℕ) : Type 0 where
  pub unsigned : (s : NamedForm) → ¬ Fits s g
  pub left : List ℕ
  pub right : List ℕ
  pub lefts : Lefts left
  pub rights : Rights right
  pub spelled : text ≡ braces_name left right

-- the text of a named form that fits
pub record Signed (g : Game) (text : List ℕ) : Type 0 where
  pub named_form : NamedForm
  pub fits : Fits named_form g
  pub spelled : text ≡ named_text named_form

-- one text and then another
pub record Joined (First Second : List ℕ → Type 0) (text : List ℕ) : Type 0 where
  pub before : List ℕ
  pub behind : List ℕ
  pub first : First before
  pub second : Second behind
  pub spelled : text ≡ before ++ behind

abbrev mutual
  pub IsName : Game → List ℕ → Type 0
  IsName (number x) text = text ≡ number_text x
  IsName (options ls rs) text = Signed (options ls rs) text ⊎ Braced (options ls rs) (AreNames ls) (AreNames rs) text

  -- names with commas between them
  pub AreNames : Games → List ℕ → Type 0
  AreNames none text = text ≡ []
  AreNames (more g gs) text = Joined (IsName g) (AreFurther gs) text

  -- names, each behind a comma
  pub AreFurther : Games → List ℕ → Type 0
  AreFurther none text = text ≡ []
  AreFurther (more g gs) text = Joined (λ t. t ≡ codes ",") (Joined (IsName g) (AreFurther gs)) text
