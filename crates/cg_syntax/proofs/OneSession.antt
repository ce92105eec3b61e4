-- A text says one session, with as many lines as get an answer.
use Rattle.std.proofs.Common.{◌≡◌, refl, ap, sym, ◌∙◌, subst, ℕ, suc, List, [], ◌∷◌, length, inl, inr}
use Rattle.cg_query.specs.Tree.{Statement}
use Rattle.cg_syntax.specs.Naming.{Bindings, question_asked}
use Rattle.cg_syntax.specs.Session.{AreLines, IsLine, IsSession, Resolved, Syntax_at, after, answered_lines, next, none, refused, resolved, stated}
use Rattle.cg_query.specs.declared.format.Format.{Format}
use Rattle.cg_grammar.proofs.Whole as whole

-- ---- a line of a format

-- two lines are made of one text: they are the same, with the same bindings behind them
line_once : (format : Format) (before : Bindings) (text : List ℕ) (r q : Resolved) (a b : Bindings) → IsLine format before text r a
    → IsLine format before text q b → (r ≡ q) × (a ≡ b)
line_once format before text r q a b (stated s x) (stated t y) =
    let e = whole.one_statement format text s t x y in
    (ap (λ (z : Statement). resolved before (question_asked z)) e, ap (after before) e)
line_once format before text r q a b (stated s x) (refused c y) = absurd (whole.stated_or_column format text s c x y)
line_once format before text r q a b (refused c x) (stated s y) = absurd (whole.stated_or_column format text s c y x)
line_once format before text r q a b (refused c x) (refused d y) = (ap Syntax_at (whole.one_column format text c d x y), refl)

-- each line states something or has a column
line_some : (format : Format) (before : Bindings) (text : List ℕ) → (r : Resolved) × (between : Bindings) × IsLine format before text r between
line_some format before text = elim (whole.states_or_not format text) [
  | inl states ↦ (_, _, stated states.0 states.1)
  | inr fault ↦ (_, _, refused fault.1.0 fault.1.1)
]

-- ---- all lines

abbrev Made : Type 0
Made = List (ℕ × Resolved)

lines_once : (format : Format) (before : Bindings) (lines : List (ℕ × List ℕ)) (rs qs : Made) → AreLines format before lines rs
    → AreLines format before lines qs → rs ≡ qs
lines_once format before lines rs qs (none b) (none c) = refl
lines_once format before lines rs qs (next b between number text r more others is are) (next c between' number' text' q more' others' is' are') =
    let e = line_once format before text r q between between' is is' in
    let f = lines_once format between more others others' are (subst (λ (z : Bindings). AreLines format z more others') (sym e.1) are') in
    ap (λ (z : Resolved). (number, z) ∷ others) e.0 ∙ ap (λ (z : Made). (number, q) ∷ z) f

pub session_once : (text : List ℕ) (rs qs : Made) → IsSession text rs → IsSession text qs → rs ≡ qs
session_once text rs qs a b = lines_once _ [] _ rs qs a b

pub lines_long : (format : Format) (before : Bindings) (lines : List (ℕ × List ℕ)) (rs : Made) → AreLines format before lines rs → length rs ≡ length lines
lines_long format before lines rs (none b) = refl
lines_long format before lines rs (next b between number text r more others is are) = ap suc (lines_long format between more others are)

pub session_long : (text : List ℕ) (rs : Made) → IsSession text rs → length rs ≡ length (answered_lines text)
session_long text rs a = lines_long _ [] _ rs a

pub lines_some : (format : Format) (before : Bindings) (lines : List (ℕ × List ℕ)) → (rs : Made) × AreLines format before lines rs
lines_some format before [] = ([], none before)
lines_some format before ((number, text) ∷ lines) =
    let (r, between, is) = line_some format before text in
    let (rs, are) = lines_some format between lines in
    ((number, r) ∷ rs, next before between number text r lines rs is are)

pub session_some : (text : List ℕ) → (rs : Made) × IsSession text rs
session_some text = lines_some _ [] _
