-- A session line after line.
use Rattle.std.proofs.Common.{◌≡◌, ℕ, suc, ◌+◌, ◌<◌, arith, length, Bool, true, false, cond, List, []}
use Rattle.std.proofs.Common.{◌∷◌, ◌++◌, map, refl, ap, sym, subst, ◌∙◌, append-nil, Result, Ok, Err}
use Rattle.std.specs.Prelude.{OnOk, ◌≤◌, ◌==◌}
use Rattle.std.proofs.lemmas.List.{length-append, length-map}
use Rattle.cg_query.specs.Tree.{Question, Statement, asks}
use Rattle.cg_syntax.specs.Naming.{Bindings, question_asked}
use Rattle.cg_grammar.specs.Lines.{Reads, ReadsIn, IsColumnIn}
use Rattle.cg_syntax.specs.Session.{Resolved, Asked_of, Syntax_at, AreLines, IsLine, IsSession, after, answered_in}
use Rattle.cg_syntax.specs.Session.{answered_lines, format_of, none, next, refused, resolved, stated}
use Rattle.cg_syntax.specs.SessionLines.{lines_of, is_answered, answered_from, onto_first}
use Rattle.cg_syntax.specs.Puts.{IsPut, Puts, PutsStatement}
use Rattle.cg_syntax.specs.SessionViews.{line_of, resolved_of}
use Rattle.cg_syntax.specs.Bound.{bindings_in}
use Rattle.cg_query.specs.declared.format.Format.{Format}
use Rattle.cg_query.specs.declared.format.Format.TheVariants as formats
use Rattle.cg_syntax.specs.declared.session.SessionLine.{SessionLine}
use Rattle.cg_syntax.specs.declared.sheet.Sheet.{Sheet}
use Rattle.cg_writer.proofs.Writable.{line_writable}
use Rattle.cg_syntax.proofs.Closed.{askable_closed}
use Rattle.cg_syntax.proofs.OneSession.{lines_long, lines_some}
use Rattle.cg_syntax.proofs.Resolving.{is_closed}

-- ---- one line

line_as : (format : Format) (before : Bindings) (text : List ℕ) (r : Resolved) (b c : Bindings) → c ≡ b → IsLine format before text r b
    → IsLine format before text r c
line_as format before text r b c e is = subst (λ (z : Bindings). IsLine format before text r z) (sym e) is

-- a question of format 1
pub question_puts : (number : ℕ) (text : List ℕ) (q : Question) (old new : Sheet) → Reads text q → IsPut number (Asked_of q) old new
    → bindings_in new ≡ bindings_in old → Puts formats.One number text old new
question_puts number text q old new reads put same =
    let bs = bindings_in old in
    let e : resolved bs q ≡ Asked_of q = is_closed bs q (askable_closed q (line_writable text q reads)) in
    record {
      made = resolved bs q;
      is_line = line_as formats.One bs text (resolved bs q) bs (bindings_in new) same (stated (asks q) reads);
      put = subst (λ (z : Resolved). IsPut number z old new) (sym e) put;
    }

-- a line that states nothing
pub column_puts : (format : Format) (number : ℕ) (text : List ℕ) (c : ℕ) (old new : Sheet) → IsColumnIn format text c
    → IsPut number (Syntax_at c) old new → bindings_in new ≡ bindings_in old → Puts format number text old new
column_puts format number text c old new is put same = record {
  made = Syntax_at c;
  is_line = line_as format (bindings_in old) text (Syntax_at c) (bindings_in old) (bindings_in new) same (refused c is);
  put = put;
}

-- a line of format 2 that states something
pub statement_puts : (number : ℕ) (text : List ℕ) (s : Statement) (old new : Sheet) → ReadsIn formats.Two text s → PutsStatement number s old new
    → Puts formats.Two number text old new
statement_puts number text s old new reads puts =
    let bs = bindings_in old in
    let r = resolved bs (question_asked s) in
    record {
      made = r;
      is_line = line_as formats.Two bs text r (after bs s) (bindings_in new) puts.bindings (stated s reads);
      put = puts.put;
    }

-- ---- all lines

-- What is made of the lines that are left stands behind what was made of the others.
abbrev pub GoesOn : Format → List (ℕ × List ℕ) → ℕ → List (List ℕ) → Sheet → Type 0
GoesOn format all number left sheet =
    (rs : List (ℕ × Resolved)) → AreLines format (bindings_in sheet) (answered_from number left) rs
    → AreLines format [] all (map line_of sheet.lines.items ++ rs)

abbrev Made : Type 0
Made = List (ℕ × Resolved)

pub goes_first : (format : Format) (number : ℕ) (left : List (List ℕ)) (sheet : Sheet) → sheet.lines.items ≡ [] → bindings_in sheet ≡ []
    → GoesOn format (answered_from number left) number left sheet
goes_first format number left sheet e b rs a =
    let all = answered_from number left in
    let c : AreLines format [] all rs = subst (λ (z : Bindings). AreLines format z all rs) b a in
    subst (λ (z : Made). AreLines format [] all (z ++ rs)) (sym (ap (λ (z : List SessionLine). map line_of z) e)) c

-- a further line that gets an answer
pub goes_beyond : (format : Format) (all : List (ℕ × List ℕ)) (number : ℕ) (text : List ℕ) (left : List (List ℕ)) (sheet : Sheet)
    → is_answered text ≡ true → GoesOn format all number (text ∷ left) sheet → length sheet.lines.items < length all
goes_beyond format all number text left sheet h g =
    let (rs, are) = lines_some format (bindings_in sheet) (answered_from number (text ∷ left)) in
    let some : length (answered_from number (text ∷ left)) ≡ suc (length (answered_from (number + 1) left)) =
    ap (λ (t : Bool). length (cond {A = List (ℕ × List ℕ)} t ((number, text) ∷ []) [] ++ answered_from (number + 1) left)) h in
    let long = lines_long format (bindings_in sheet) (answered_from number (text ∷ left)) rs are in
    let both = lines_long format [] all (map line_of sheet.lines.items ++ rs) (g rs are) in
    omega (arith, some, long, both, length-append (map line_of sheet.lines.items) rs, length-map sheet.lines.items line_of)

-- a sheet with a line more
pub one_longer : (number most : ℕ) (r : Resolved) (old new : Sheet) → IsPut number r old new → length old.lines.items < most
    → length new.lines.items ≤ most
one_longer number most r old new put low = omega (arith, low, ap length put.lines, length-append old.lines.items (put.line ∷ []))

pub goes_last : (format : Format) (all : List (ℕ × List ℕ)) (number : ℕ) (sheet : Sheet) (made : List SessionLine)
    → made ≡ sheet.lines.items → GoesOn format all number [] sheet → AreLines format [] all (map line_of made)
goes_last format all number sheet made e g =
    subst (λ (z : List SessionLine). AreLines format [] all (map line_of z)) (sym e)
    (subst (λ (z : Made). AreLines format [] all z) (append-nil (map line_of sheet.lines.items)) (g [] (none (bindings_in sheet))))

map_last : (made : List SessionLine) (line : SessionLine) (rs : Made) → map line_of (made ++ line ∷ []) ++ rs ≡ map line_of made ++ line_of line ∷ rs
map_last [] line rs = refl
map_last (m ∷ made) line rs = ap (λ (z : Made). line_of m ∷ z) (map_last made line rs)

-- a line that gets no answer
pub goes_past : (format : Format) (all : List (ℕ × List ℕ)) (number : ℕ) (text : List ℕ) (left : List (List ℕ)) (sheet : Sheet)
    → is_answered text ≡ false → GoesOn format all number (text ∷ left) sheet → GoesOn format all (number + 1) left sheet
goes_past format all number text left sheet h g rs a =
    let e : answered_from number (text ∷ left) ≡ answered_from (number + 1) left =
    ap (λ (t : Bool). cond {A = List (ℕ × List ℕ)} t ((number, text) ∷ []) [] ++ answered_from (number + 1) left) h in
    g rs (subst (λ (z : List (ℕ × List ℕ)). AreLines format (bindings_in sheet) z rs) (sym e) a)

-- a line that gets one
pub goes_on : (format : Format) (all : List (ℕ × List ℕ)) (number : ℕ) (text : List ℕ) (left : List (List ℕ)) (old new : Sheet)
    → is_answered text ≡ true → Puts format number text old new → GoesOn format all number (text ∷ left) old
    → GoesOn format all (number + 1) left new
goes_on format all number text left old new h puts g rs a =
    let behind = answered_from (number + 1) left in
    let k : answered_from number (text ∷ left) ≡ (number, text) ∷ behind =
    ap (λ (t : Bool). cond {A = List (ℕ × List ℕ)} t ((number, text) ∷ []) [] ++ behind) h in
    let one : AreLines format (bindings_in old) ((number, text) ∷ behind) ((number, puts.made) ∷ rs) =
    next (bindings_in old) (bindings_in new) number text puts.made behind rs puts.is_line a in
    let all_of : AreLines format [] all (map line_of old.lines.items ++ (number, puts.made) ∷ rs) =
    g ((number, puts.made) ∷ rs) (subst (λ (z : List (ℕ × List ℕ)). AreLines format (bindings_in old) z ((number, puts.made) ∷ rs)) (sym k) one) in
    let p = puts.put in
    let same : map line_of new.lines.items ++ rs ≡ map line_of old.lines.items ++ (number, puts.made) ∷ rs =
    ap (λ (z : List SessionLine). map line_of z ++ rs) p.lines ∙ map_last old.lines.items p.line rs
    ∙ ap (λ (m : ℕ). map line_of old.lines.items ++ (m, resolved_of p.line.asked) ∷ rs) p.number_is
    ∙ ap (λ (r : Resolved). map line_of old.lines.items ++ (number, r) ∷ rs) p.is in
    subst (λ (z : Made). AreLines format [] all z) (sym same) all_of

-- ---- the format

pub session_one : (text : List ℕ) (rs : Made) → format_of text ≡ formats.One → AreLines formats.One [] (answered_from 1 (lines_of text)) rs
    → IsSession text rs
session_one text rs e a = subst (λ (f : Format). AreLines f [] (answered_in f (lines_of text)) rs) (sym e) a

pub answered_two : (text line rest : List ℕ) → lines_of text ≡ line ∷ lines_of rest → format_of text ≡ formats.Two
    → answered_lines text ≡ answered_from 2 (lines_of rest)
answered_two text line rest l e =
    ap (λ (f : Format). answered_in f (lines_of text)) e ∙ ap (λ (ls : List (List ℕ)). answered_in formats.Two ls) l

pub session_two : (text line rest : List ℕ) (rs : Made) → lines_of text ≡ line ∷ lines_of rest → format_of text ≡ formats.Two
    → AreLines formats.Two [] (answered_from 2 (lines_of rest)) rs → IsSession text rs
session_two text line rest rs l e a =
    subst (λ (f : Format). AreLines f [] (answered_lines text) rs) (sym e)
    (subst (λ (ls : List (ℕ × List ℕ)). AreLines formats.Two [] ls rs) (sym (answered_two text line rest l e)) a)

-- a text has no more lines that get an answer than bytes
onto_few : (b n : ℕ) (lines : List (List ℕ)) → length lines ≤ n → length (onto_first b lines) ≤ suc n
onto_few b n [] few = omega arith
onto_few b n (line ∷ lines) few = omega (arith, few)

lines_few : (text : List ℕ) → length (lines_of text) ≤ length text
lines_few [] = omega arith
lines_few (b ∷ bytes) = by (b == 10) (lines_few bytes)
  where
    by : (ends : Bool) → length (lines_of bytes) ≤ length bytes
        → length (cond ends ([] ∷ lines_of bytes) (onto_first b (lines_of bytes))) ≤ suc (length bytes)
    by true few = omega (arith, few)
    by false few = onto_few b (length bytes) (lines_of bytes) few

from_few : (n : ℕ) (lines : List (List ℕ)) → length (answered_from n lines) ≤ length lines
from_few n [] = omega arith
from_few n (line ∷ lines) = by (is_answered line) (from_few (n + 1) lines)
  where
    by : (t : Bool) → length (answered_from (n + 1) lines) ≤ length lines
        → length (cond {A = List (ℕ × List ℕ)} t ((n, line) ∷ []) [] ++ answered_from (n + 1) lines) ≤ suc (length lines)
    by true few = omega (arith, few)
    by false few = omega (arith, few)

answered_by : (format : Format) (lines : List (List ℕ)) → length (answered_in format lines) ≤ length lines
answered_by formats.One lines = from_few 1 lines
answered_by formats.Two [] = omega arith
answered_by formats.Two (line ∷ lines) = omega (arith, from_few 2 lines)

pub answered_few : (text : List ℕ) → length (answered_lines text) ≤ length text
answered_few text = omega (arith, answered_by (format_of text) (lines_of text), lines_few text)

-- ---- two clauses of one call

pub on_ok_both : {T E P Q S : Type 0} (r : Result T E) → OnOk r P → OnOk r Q → (P → Q → S) → OnOk r S
on_ok_both (Ok x) p q f = f p q
on_ok_both (Err e) p q f = tt

pub on_ok_one : {T E P S : Type 0} (r : Result T E) → OnOk r P → (P → S) → OnOk r S
on_ok_one (Ok x) p f = f p
on_ok_one (Err e) p f = tt
