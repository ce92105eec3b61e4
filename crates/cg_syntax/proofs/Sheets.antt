-- What a sheet binds names to.
use Rattle.std.proofs.Common.{rules, arith, ◌≡◌, ◌<◌, refl, ap, sym, subst, ◌∙◌, ℕ, zero, suc, Bool, true, false}
use Rattle.std.proofs.Common.{cond, List, [], ◌∷◌, ◌++◌, map, reverse, length, get_or, Option, Some, None}
use Rattle.std.specs.Prelude.{slice_get}
use Rattle.std.specs.Str.{bytes_eq}
use Rattle.std.proofs.lemmas.List.{map-append, reverse-append}
use Rattle.std.proofs.lemmas.Slice.Eq.{bytes_eq-Decides}
use Rattle.cg_query.specs.Tree.{Tree}
use Rattle.cg_query.specs.Trees.{tree_of}
use Rattle.cg_syntax.specs.Naming.{Bindings, bound_to}
use Rattle.cg_syntax.specs.Bound.{AreBoundAt, IsBoundAt, Measures, binding_at, bindings_at, has_name, number_of, tree_or_zero, value_at}
use Rattle.cg_query.specs.declared.expr.Expr.{Expr}
use Rattle.cg_syntax.specs.declared.session.SessionLine.{SessionLine}
use Rattle.cg_syntax.specs.declared.sheet.Bound.{Bound}

-- ---- bindings of a sheet

abbrev IsBoundIn : List SessionLine → Option Bound → Type 0
IsBoundIn lines None = ⊥
IsBoundIn lines (Some b) = IsBoundAt lines b

pub bindings_last : (lines : List SessionLine) (bs : List Bound) (b : Bound)
    → bindings_at lines (bs ++ b ∷ []) ≡ binding_at lines b ∷ bindings_at lines bs
bindings_last lines bs b =
    ap (λ (z : Bindings). reverse z) (map-append (binding_at lines) bs (b ∷ [])) ∙ reverse-append (map (binding_at lines) bs) (binding_at lines b ∷ [])

pub bound_at : (lines : List SessionLine) (bs : List Bound) (n : ℕ) (b : Bound) → slice_get bs n ≡ Some b → AreBoundAt lines bs → IsBoundAt lines b
bound_at lines [] n b e a = absurd cc
bound_at lines (c ∷ bs) zero b e a = subst (λ (z : Option Bound). IsBoundIn lines z) e a.0
bound_at lines (c ∷ bs) (suc n) b e a = bound_at lines bs n b e a.1

pub sound_both : (lines : List SessionLine) (bs : List Bound) (b : Bound) → AreBoundAt lines bs → IsBoundAt lines b → AreBoundAt lines (bs ++ b ∷ [])
sound_both lines [] b a c = (c, tt)
sound_both lines (d ∷ bs) b a c = (a.0, sound_both lines bs b a.1 c)

-- ---- looking a name up

abbrev otherwise : Option Tree → Option Tree → Option Tree
otherwise (Some t) later = Some t
otherwise None later = later

bound_both : (first later : Bindings) (name : List ℕ) → bound_to (first ++ later) name ≡ otherwise (bound_to first name) (bound_to later name)
bound_both [] later name = refl
bound_both (b ∷ first) later name = by (bytes_eq b.0 name) (bound_both first later name)
  where
    by : (same : Bool) → bound_to (first ++ later) name ≡ otherwise (bound_to first name) (bound_to later name)
        → cond same (Some b.1) (bound_to (first ++ later) name) ≡ otherwise (cond same (Some b.1) (bound_to first name)) (bound_to later name)
    by true e = refl
    by false e = e

-- of these bindings and one before them
bound_next : (lines : List SessionLine) (b : Bound) (bs : List Bound) (name : List ℕ) (later : Option Tree) → bound_to (bindings_at lines bs) name ≡ later
    → bound_to (bindings_at lines (b ∷ bs)) name ≡ otherwise later (cond (bytes_eq b.name name) (Some (binding_at lines b).1) None)
bound_next lines b bs name later e =
    ap (λ (z : Bindings). bound_to z name) (reverse-append (binding_at lines b ∷ []) (map (binding_at lines) bs))
    ∙ bound_both (bindings_at lines bs) (binding_at lines b ∷ []) name
    ∙ ap (λ (o : Option Tree). otherwise o (cond (bytes_eq b.name name) (Some (binding_at lines b).1) None)) e

-- no binding has the name
pub found_nowhere : (lines : List SessionLine) (bs : List Bound) (name : List ℕ)
    → ((m : ℕ) → m < length bs → has_name (slice_get bs m) name ≡ false) → bound_to (bindings_at lines bs) name ≡ None
found_nowhere lines [] name other = refl
found_nowhere lines (b ∷ bs) name other =
    bound_next lines b bs name None (found_nowhere lines bs name (λ m low. other (suc m) (search rules)))
    ∙ ap (λ (same : Bool). cond {A = Option Tree} same (Some (binding_at lines b).1) None) (other 0 (search rules))

-- the last binding that has the name stands at this place
pub found_last : (lines : List SessionLine) (bs : List Bound) (n : ℕ) (b : Bound) (name : List ℕ) → slice_get bs n ≡ Some b
    → bytes_eq b.name name ≡ true → ((m : ℕ) → n < m → m < length bs → has_name (slice_get bs m) name ≡ false)
    → bound_to (bindings_at lines bs) name ≡ Some (binding_at lines b).1
found_last lines [] n b name at same other = absurd cc
found_last lines (c ∷ bs) zero b name at same other =
    bound_next lines c bs name None (found_nowhere lines bs name (λ m low. other (suc m) (search rules) (search rules)))
    ∙ ap (λ (o : Option Bound). cond {A = Option Tree} (has_name o name) (tree_in lines o) None) at
    ∙ ap (λ (t : Bool). cond {A = Option Tree} t (Some (binding_at lines b).1) None) same
  where
    tree_in : List SessionLine → Option Bound → Option Tree
    tree_in lines None = None
    tree_in lines (Some b) = Some (binding_at lines b).1
found_last lines (c ∷ bs) (suc n) b name at same other =
    bound_next lines c bs name (Some (binding_at lines b).1)
    (found_last lines bs n b name at same (λ m behind low. other (suc m) (search rules) (search rules)))

-- a binding with another number has another name
pub other_number : (bs : List Bound) (numbers : List ℕ) (m : ℕ) (name : List ℕ) → numbers ≡ map (λ b. number_of b.name) bs → m < length bs
    → (get_or numbers m 0 ≡ number_of name → has_name (slice_get bs m) name ≡ false) → has_name (slice_get bs m) name ≡ false
other_number [] numbers m name is low other = absurd (omega arith)
other_number (b ∷ bs) numbers zero name is low other = by (bytes_eq b.name name) refl
  where
    by : (same : Bool) → bytes_eq b.name name ≡ same → bytes_eq b.name name ≡ false
    by true e = other (ap (λ (z : List ℕ). get_or z 0 0) is ∙ ap number_of ((bytes_eq-Decides b.name name).0 e))
    by false e = e
other_number (b ∷ bs) numbers (suc m) name is low other =
    other_number bs (map (λ c. number_of c.name) bs) m name refl (search rules) (λ e. other (ap (λ (z : List ℕ). get_or z (suc m) 0) is ∙ e))

-- the numbers of the names with one binding more
pub numbers_more : (numbers more : List ℕ) (bs all : List Bound) (b : Bound) (number : ℕ) → more ≡ numbers ++ number ∷ [] → number ≡ number_of b.name
    → numbers ≡ map (λ b. number_of b.name) bs → all ≡ bs ++ b ∷ [] → more ≡ map (λ b. number_of b.name) all
numbers_more numbers more bs all b number one own is last =
    one ∙ ap (λ (z : List ℕ). z ++ number ∷ []) is ∙ ap (λ (n : ℕ). map (λ b. number_of b.name) bs ++ n ∷ []) own
    ∙ sym (map-append (λ b. number_of b.name) bs (b ∷ [])) ∙ ap (map (λ b. number_of b.name)) (sym last)

-- ---- one line more

kept_at : (lines : List SessionLine) (line : SessionLine) (n : ℕ) (e : Expr) → value_at (slice_get lines n) ≡ Some e
    → value_at (slice_get (lines ++ line ∷ []) n) ≡ Some e
kept_at [] line n e h = absurd cc
kept_at (l ∷ lines) line zero e h = h
kept_at (l ∷ lines) line (suc n) e h = kept_at lines line n e h

pub value_last : (lines : List SessionLine) (line : SessionLine) → value_at (slice_get (lines ++ line ∷ []) (length lines)) ≡ value_at (Some line)
value_last [] line = refl
value_last (l ∷ lines) line = value_last lines line

bound_kept : (lines : List SessionLine) (line : SessionLine) (b : Bound) → IsBoundAt lines b → IsBoundAt (lines ++ line ∷ []) b
bound_kept lines line b is = record { expr = is.expr; at = kept_at lines line b.line is.expr is.at; measures = is.measures }

pub sound_kept : (lines : List SessionLine) (line : SessionLine) (bs : List Bound) → AreBoundAt lines bs → AreBoundAt (lines ++ line ∷ []) bs
sound_kept lines line [] a = tt
sound_kept lines line (b ∷ bs) a = (bound_kept lines line b a.0, sound_kept lines line bs a.1)

binding_kept : (lines : List SessionLine) (line : SessionLine) (b : Bound) → IsBoundAt lines b → binding_at (lines ++ line ∷ []) b ≡ binding_at lines b
binding_kept lines line b is = ap (λ (o : Option Expr). (b.name, tree_or_zero o)) (kept_at lines line b.line is.expr is.at ∙ sym is.at)

pairs_kept : (lines : List SessionLine) (line : SessionLine) (bs : List Bound) → AreBoundAt lines bs
    → map (binding_at (lines ++ line ∷ [])) bs ≡ map (binding_at lines) bs
pairs_kept lines line [] a = refl
pairs_kept lines line (b ∷ bs) a =
    ap (λ (z : List ℕ × Tree). z ∷ map (binding_at (lines ++ line ∷ [])) bs) (binding_kept lines line b a.0)
    ∙ ap (λ (z : Bindings). binding_at lines b ∷ z) (pairs_kept lines line bs a.1)

pub bindings_kept : (lines : List SessionLine) (line : SessionLine) (bs : List Bound) → AreBoundAt lines bs
    → bindings_at (lines ++ line ∷ []) bs ≡ bindings_at lines bs
bindings_kept lines line bs a = ap (λ (z : Bindings). reverse z) (pairs_kept lines line bs a)

-- ---- a line that binds a name

pub defined_sound : (lines : List SessionLine) (line : SessionLine) (bs : List Bound) (b : Bound) (e : Expr) → b.line ≡ length lines
    → value_at (Some line) ≡ Some e → Measures b.size (tree_of e ∷ []) → AreBoundAt lines bs → AreBoundAt (lines ++ line ∷ []) (bs ++ b ∷ [])
defined_sound lines line bs b e at is m a = sound_both (lines ++ line ∷ []) bs b (sound_kept lines line bs a) (record {
  expr = e;
  at = ap (λ (n : ℕ). value_at (slice_get (lines ++ line ∷ []) n)) at ∙ value_last lines line ∙ is;
  measures = m;
})

pub defined_bound : (lines : List SessionLine) (line : SessionLine) (bs : List Bound) (b : Bound) (e : Expr) → b.line ≡ length lines
    → value_at (Some line) ≡ Some e → AreBoundAt lines bs
    → bindings_at (lines ++ line ∷ []) (bs ++ b ∷ []) ≡ (b.name, tree_of e) ∷ bindings_at lines bs
defined_bound lines line bs b e at is a =
    bindings_last (lines ++ line ∷ []) bs b
    ∙ ap (λ (o : Option Expr). (b.name, tree_or_zero o) ∷ bindings_at (lines ++ line ∷ []) bs)
    (ap (λ (n : ℕ). value_at (slice_get (lines ++ line ∷ []) n)) at ∙ value_last lines line ∙ is)
    ∙ ap (λ (z : Bindings). (b.name, tree_of e) ∷ z) (bindings_kept lines line bs a)
