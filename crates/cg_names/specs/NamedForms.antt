-- Names without braces, and the games that they are the names of.
-- Siegel, Combinatorial Game Theory (2013), II.1 and II.4: nimbers, ups, switches, tiny and miny.
use Rattle.std.specs.Prelude.{ℕ, zero, suc, ◌≤◌, ◌≡◌, ◌==◌, Bool, true, false, cond, if◌then◌else◌, List, [], ◌∷◌, ◌++◌, codes, decimal}
use Rattle.cg_dyadic.specs.Exact.{number_text}
use Rattle.cg_dyadic.specs.Number.{Number, NumberLe}
use Rattle.cg_form.specs.Canonical.{IsCanonicalForm}
use Rattle.cg_form.specs.Game.{Game, number}
use Rattle.cg_form.specs.Structure.{is_same}
use Rattle.cg_form.specs.Sum.{sum}
use Rattle.cg_names.specs.Named.{nimber_form, switch_form, tiny_form, ups_of, zero_form, zero_number}
use Rattle.cg_names.specs.declared.named_form.NamedForm.{NamedForm}
use Rattle.cg_names.specs.declared.named_form.NamedForm.TheVariants.{Star, Arrows, Switch, Tiny}

abbrev pub IsPositive : Number → Type 0
IsPositive x = ¬ NumberLe x zero_number

-- The game k is the canonical form of x + *n, or of x + n.^ or x + n.^* or the same with downs, with n from 1 on; or it is
-- the switch, tiny or miny of a number above 0.
abbrev pub Fits : NamedForm → Game → Type 0
Fits (Star x n) k = (1 ≤ n) × IsCanonicalForm (sum (number x) (nimber_form n)) k
Fits (Arrows down starred x n) k = (1 ≤ n) × IsCanonicalForm (sum (number x) (ups_of down starred n)) k
Fits (Switch x) k = IsPositive x × (k ≡ switch_form x)
Fits (Tiny miny x) k = IsPositive x × (k ≡ tiny_form miny x)

-- ---- their texts

-- the number's text, left out where it is 0
abbrev pub base_text : Number → List ℕ
base_text x = cond (is_same (number x) zero_form) [] (number_text x)

-- *, *2, *3
abbrev pub star_text : ℕ → List ℕ
star_text n = 42 ∷ (if n == 1 then [] else decimal n)

-- ^, ^^, ^3, ^4, or the same with v
abbrev pub arrows_text : ℕ → ℕ → List ℕ
arrows_text arrow zero = arrow ∷ decimal 0
arrows_text arrow (suc zero) = arrow ∷ []
arrows_text arrow (suc (suc zero)) = arrow ∷ (arrow ∷ [])
arrows_text arrow (suc (suc (suc n))) = arrow ∷ decimal (suc (suc (suc n)))

abbrev pub tiny_word : Bool → List ℕ
tiny_word false = codes "Tiny("
tiny_word true = codes "Miny("

abbrev pub named_text : NamedForm → List ℕ
named_text (Star x n) = base_text x ++ star_text n
named_text (Arrows down starred x n) = base_text x ++ (arrows_text (cond down 118 94) n ++ cond starred (42 ∷ []) [])
named_text (Switch x) = codes "+-" ++ number_text x
named_text (Tiny miny x) = tiny_word miny ++ (number_text x ++ codes ")")
