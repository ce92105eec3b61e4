-- A line that gets an answer is neither blank nor a comment.
use Rattle.std.proofs.Common.{◌≡◌, ℕ, Bool, true, false, ◌==◌, not, List, [], ◌∷◌, refl}
use Rattle.std.proofs.lemmas.Bool.{eq-eqb}
use Rattle.cg_reading.specs.Readers.{skipped}
use Rattle.cg_reading.specs.Tokens.{blank}
use Rattle.cg_grammar.specs.Lines.{is_blank_line, IsComment}
use Rattle.cg_grammar.proofs.Whole as whole
use Rattle.cg_grammar.proofs.Whole.{IsOther}
use Rattle.cg_syntax.specs.SessionLines.{answered_behind, is_answered}

-- behind its blanks such a line begins with another byte than #
pub answered_other : (line : List ℕ) → is_answered line ≡ true → IsOther line
answered_other line h = tells (skipped blank line) refl h
  where
    no_hash : (b : ℕ) → not (b == 35) ≡ true → b ≡ 35 → ⊥
    no_hash b h n = let e : (b == 35) ≡ true = eq-eqb b 35 n in absurd cc

    tells : (bytes : List ℕ) → skipped blank line ≡ bytes → answered_behind bytes ≡ true → IsOther line
    tells [] e h = absurd cc
    tells (b ∷ rest) e h = record { first = b; behind = rest; rest = e; other = no_hash b h }

pub not_blank : (line : List ℕ) → is_answered line ≡ true → is_blank_line line ≡ false
not_blank line h = let o = answered_other line h in whole.not_blank line o.first o.behind o.rest

pub not_comment : (line : List ℕ) → is_answered line ≡ true → ¬ IsComment line
not_comment line h = let o = answered_other line h in whole.not_comment line o.first o.behind o.rest o.other

pub not_both : (b : Bool) → b ≡ true → b ≡ false → ⊥
not_both b e f = cc
