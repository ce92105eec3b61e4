-- No expression of a session's question has more than 1,024 levels: one with a use is measured, and one without is as the
-- line spells it.
use Rattle.std.proofs.Common.{◌≡◌, refl, sym, subst, ℕ, ◌≤◌, arith, Bool, true, false, cond, ◌&&◌, List, [], ◌∷◌, Option, Some, None}
use Rattle.std.specs.Prelude.{ltb}
use Rattle.std.proofs.lemmas.Bool.{ltb-false, or_parts}
use Rattle.cg_query.specs.Tree.{Tree, Question}
use Rattle.cg_query.specs.Heights.{EachIs, QuestionIs, height, trees_of_question}
use Rattle.cg_query.specs.declared.format.Format.{Format}
use Rattle.cg_syntax.specs.Naming.{Bindings, are_too_large, first_unknown, is_some_high, question_asked, question_expanded, sum_of_parts, uses_of}
use Rattle.cg_syntax.specs.Levels.{AreLowLines, IsLowLine}
use Rattle.cg_syntax.specs.Session.{AreLines, IsLine, IsSession, Resolved, Asked_of, Too_large, by_names, has_some}
use Rattle.cg_syntax.specs.Session.{next, none, refused, resolved, stated}
use Rattle.cg_syntax.proofs.Closed.{same_question}
use Rattle.cg_syntax.proofs.GrammarLevels.{IsLow, stated_low}

abbrev Within : Tree → Type 0
Within t = height t ≤ 1024

each_within : (ts : List Tree) → EachIs IsLow ts → EachIs Within ts
each_within [] w = tt
each_within (t ∷ []) w = omega (arith, w)
each_within (s ∷ t ∷ ts) w = let l : height s ≤ 773 = w.0 in (omega (arith, l), each_within (t ∷ ts) w.1)

none_high : (ts : List Tree) → is_some_high ts ≡ false → EachIs Within ts
none_high [] e = tt
none_high (t ∷ []) e = ltb-false 1024 (height t) (or_parts (ltb 1024 (height t)) false e).0
none_high (s ∷ t ∷ ts) e =
    let p = or_parts (ltb 1024 (height s)) (is_some_high (t ∷ ts)) e in (ltb-false 1024 (height s) p.0, none_high (t ∷ ts) p.1)

module _ (bs : Bindings) (q : Question) (low : QuestionIs IsLow q) where
  abbrev All_expanded : List Tree
  All_expanded = trees_of_question (question_expanded bs q)

  measured_low : (large : Bool) → are_too_large All_expanded ≡ large → IsLowLine (cond large Too_large (Asked_of (question_expanded bs q)))
  measured_low true e = tt
  measured_low false e = none_high All_expanded (or_parts (ltb 4096 (sum_of_parts All_expanded)) (is_some_high All_expanded) e).1

  sized_low : (us : List (List ℕ × ℕ)) → uses_of (trees_of_question q) ≡ us
      → IsLowLine (cond (has_some us && are_too_large All_expanded) Too_large (Asked_of (question_expanded bs q)))
  sized_low [] e = subst (λ (z : Question). QuestionIs Within z) (sym (same_question bs q e)) (each_within (trees_of_question q) low)
  sized_low (u ∷ us) e = measured_low (are_too_large All_expanded) refl

  named_low : (o : Option ℕ) → IsLowLine (by_names bs q o)
  named_low (Some column) = tt
  named_low None = sized_low (uses_of (trees_of_question q)) refl

  resolved_low : IsLowLine (resolved bs q)
  resolved_low = named_low (first_unknown bs (uses_of (trees_of_question q)))

line_low : (format : Format) (before : Bindings) (text : List ℕ) (r : Resolved) (behind : Bindings) → IsLine format before text r behind → IsLowLine r
line_low format before text r behind (stated s is) =
    resolved_low before (question_asked s) (stated_low format text (record { statement = s; fault = None }) is)
line_low format before text r behind (refused column is) = tt

lines_low : (format : Format) (before : Bindings) (lines : List (ℕ × List ℕ)) (rs : List (ℕ × Resolved)) → AreLines format before lines rs → AreLowLines rs
lines_low format before lines rs (none bindings) = tt
lines_low format before lines rs (next b between n text r more others is are) =
    (line_low format b text r between is, lines_low format between more others are)

pub session_low : (text : List ℕ) (rs : List (ℕ × Resolved)) → IsSession text rs → AreLowLines rs
session_low text rs is = lines_low _ [] _ rs is
