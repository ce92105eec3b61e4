-- The size of trees beside each other, and of a tree from its parts.
use Rattle.std.proofs.Common.{◌≡◌, refl, ap, sym, ◌∙◌, subst, ℕ, zero, suc, ◌+◌, ◌<◌, min, max, arith, Bool, false, List, [], ◌∷◌}
use Rattle.std.proofs.Common.{◌++◌, map, length, get_or, take, drop, Option, Some, None, Result, Err, append_assoc, append-nil}
use Rattle.std.specs.Prelude.{◌||◌}
use Rattle.std.proofs.lemmas.List.{map-append}
use Rattle.cg_query.specs.Tree.{Tree, braces, negative, multiple, sum, trees_from, terms_from}
use Rattle.cg_query.specs.Trees.{tree_of, trees_of, term_of, terms_of}
use Rattle.cg_syntax.specs.Naming.{Bindings, bound_to, expanded, expanded_all, expanded_terms, first_unknown, parts}
use Rattle.cg_syntax.specs.Naming.{parts_all, parts_terms, sum_of_parts, unless_bound, uses, uses_all, uses_of, uses_terms}
use Rattle.cg_syntax.specs.Session.{has_some}
use Rattle.cg_query.specs.Heights.{height, heights, term_heights}
use Rattle.cg_syntax.specs.Bound.{IsMeasured, IsSizeOf, Measures, heights_of}
use Rattle.cg_query.specs.declared.expr.Expr.{Expr}
use Rattle.cg_query.specs.declared.expr.Term.{Term}
use Rattle.cg_syntax.specs.declared.sizes.Size.{Size}
use Rattle.cg_query.proofs.TreeOf.{term_tree}
use Rattle.cg_query.proofs.Walk.{trees_of-take_suc, terms_of-take_suc}

abbrev pub Use : Type 0
Use = List ℕ × ℕ

-- ---- trees beside each other

parts_append : (ts us : List Tree) → sum_of_parts (ts ++ us) ≡ sum_of_parts ts + sum_of_parts us
parts_append [] us = omega arith
parts_append (t ∷ ts) us = omega (arith, parts_append ts us)

heights_append : (ts us : List Tree) → heights_of (ts ++ us) ≡ max (heights_of ts) (heights_of us)
heights_append [] us = omega arith
heights_append (t ∷ ts) us = omega (arith, heights_append ts us)

pub uses_append : (ts us : List Tree) → uses_of (ts ++ us) ≡ uses_of ts ++ uses_of us
uses_append [] us = refl
uses_append (t ∷ ts) us =
    ap (λ (z : List Use). uses t ++ z) (uses_append ts us) ∙ sym (append_assoc (uses t) (uses_of ts) (uses_of us))

some_append : (us vs : List Use) → has_some (us ++ vs) ≡ (has_some us || has_some vs)
some_append [] vs = refl
some_append (u ∷ us) vs = refl

first_append_some : (bs : Bindings) (us vs : List Use) (c : ℕ) → first_unknown bs us ≡ Some c → first_unknown bs (us ++ vs) ≡ Some c
first_append_some bs [] vs c e = absurd cc
first_append_some bs (u ∷ us) vs c e = by (bound_to bs u.0) (first_append_some bs us vs c) e
  where
    by : (o : Option Tree) → (first_unknown bs us ≡ Some c → first_unknown bs (us ++ vs) ≡ Some c)
        → unless_bound o u.1 (first_unknown bs us) ≡ Some c → unless_bound o u.1 (first_unknown bs (us ++ vs)) ≡ Some c
    by None f e = e
    by (Some t) f e = f e

first_append_none : (bs : Bindings) (us vs : List Use) → first_unknown bs us ≡ None → first_unknown bs (us ++ vs) ≡ first_unknown bs vs
first_append_none bs [] vs e = refl
first_append_none bs (u ∷ us) vs e = by (bound_to bs u.0) (first_append_none bs us vs) e
  where
    by : (o : Option Tree) → (first_unknown bs us ≡ None → first_unknown bs (us ++ vs) ≡ first_unknown bs vs)
        → unless_bound o u.1 (first_unknown bs us) ≡ None → unless_bound o u.1 (first_unknown bs (us ++ vs)) ≡ first_unknown bs vs
    by None f e = absurd cc
    by (Some t) f e = f e

pub fails_first : (bs : Bindings) (ts us : List Tree) (c : ℕ) → first_unknown bs (uses_of ts) ≡ Some c
    → first_unknown bs (uses_of (ts ++ us)) ≡ Some c
fails_first bs ts us c e = ap (first_unknown bs) (uses_append ts us) ∙ first_append_some bs (uses_of ts) (uses_of us) c e

pub fails_later : (bs : Bindings) (ts us : List Tree) (c : ℕ) (s : Size) → IsSizeOf bs ts s → first_unknown bs (uses_of us) ≡ Some c
    → first_unknown bs (uses_of (ts ++ us)) ≡ Some c
fails_later bs ts us c s a e =
    ap (first_unknown bs) (uses_append ts us) ∙ first_append_none bs (uses_of ts) (uses_of us) a.known ∙ e

-- so far as they are counted, the size of both is found from the sizes of each
pub record AreBeside (s t r : Size) : Type 0 where
  pub parts : r.parts ≡ min 4097 (s.parts + t.parts)
  pub levels : r.levels ≡ max s.levels t.levels
  pub has_use : r.has_use ≡ (s.has_use || t.has_use)

beside_measures : (s t r : Size) (ts us : List Tree) → AreBeside s t r → Measures s ts → Measures t us → Measures r (ts ++ us)
beside_measures s t r ts us b m n = record {
  parts = omega (arith, b.parts, m.parts, n.parts, parts_append ts us);
  levels = omega (arith, b.levels, m.levels, n.levels, heights_append ts us);
}

pub beside_sized : (bs : Bindings) (ts us : List Tree) (s t r : Size) → AreBeside s t r → IsSizeOf bs ts s → IsSizeOf bs us t
    → IsSizeOf bs (ts ++ us) r
beside_sized bs ts us s t r b m n = record {
  known = ap (first_unknown bs) (uses_append ts us) ∙ first_append_none bs (uses_of ts) (uses_of us) m.known ∙ n.known;
  measures = subst (λ (z : List Tree). Measures r z) (sym (map-append (expanded bs) ts us))
      (beside_measures s t r (map (expanded bs) ts) (map (expanded bs) us) b m.measures n.measures);
  has_use = b.has_use ∙ ap (λ (x : Bool). x || t.has_use) m.has_use ∙ ap (λ (x : Bool). has_some (uses_of ts) || x) n.has_use
      ∙ sym (some_append (uses_of ts) (uses_of us)) ∙ ap (λ (z : List Use). has_some z) (sym (uses_append ts us));
}

-- ---- lists of parts

uses_all_from : (ts : List Tree) → uses_all (trees_from ts) ≡ uses_of ts
uses_all_from [] = refl
uses_all_from (t ∷ ts) = ap (λ (z : List Use). uses t ++ z) (uses_all_from ts)

parts_all_from : (bs : Bindings) (ts : List Tree) → parts_all (expanded_all bs (trees_from ts)) ≡ sum_of_parts (map (expanded bs) ts)
parts_all_from bs [] = refl
parts_all_from bs (t ∷ ts) = ap (λ (n : ℕ). parts (expanded bs t) + n) (parts_all_from bs ts)

heights_from : (bs : Bindings) (ts : List Tree) → heights (expanded_all bs (trees_from ts)) ≡ heights_of (map (expanded bs) ts)
heights_from bs [] = refl
heights_from bs (t ∷ ts) = ap (λ (n : ℕ). max (height (expanded bs t)) n) (heights_from bs ts)

abbrev pub trees_of_terms : List (Bool × Tree) → List Tree
trees_of_terms ts = map (λ t. t.1) ts

uses_terms_from : (ts : List (Bool × Tree)) → uses_terms (terms_from ts) ≡ uses_of (trees_of_terms ts)
uses_terms_from [] = refl
uses_terms_from (t ∷ ts) = ap (λ (z : List Use). uses t.1 ++ z) (uses_terms_from ts)

parts_terms_from : (bs : Bindings) (ts : List (Bool × Tree))
    → parts_terms (expanded_terms bs (terms_from ts)) ≡ sum_of_parts (map (expanded bs) (trees_of_terms ts))
parts_terms_from bs [] = refl
parts_terms_from bs (t ∷ ts) = ap (λ (n : ℕ). parts (expanded bs t.1) + n) (parts_terms_from bs ts)

term_heights_from : (bs : Bindings) (ts : List (Bool × Tree))
    → term_heights (expanded_terms bs (terms_from ts)) ≡ heights_of (map (expanded bs) (trees_of_terms ts))
term_heights_from bs [] = refl
term_heights_from bs (t ∷ ts) = ap (λ (n : ℕ). max (height (expanded bs t.1)) n) (term_heights_from bs ts)

-- ---- a tree over its parts

-- the uses in a tree are those in these trees, and its expansion is one node over theirs
pub record IsOver (bs : Bindings) (t : Tree) (ts : List Tree) : Type 0 where
  pub uses_same : uses t ≡ uses_of ts
  pub parts_more : parts (expanded bs t) ≡ suc (sum_of_parts (map (expanded bs) ts))
  pub height_more : height (expanded bs t) ≡ suc (heights_of (map (expanded bs) ts))

pub sides_over : (bs : Bindings) (ls rs : List Tree) → IsOver bs (braces ls rs) (ls ++ rs)
sides_over bs ls rs = record {
  uses_same = ap (λ (z : List Use). z ++ uses_all (trees_from rs)) (uses_all_from ls)
      ∙ ap (λ (z : List Use). uses_of ls ++ z) (uses_all_from rs) ∙ sym (uses_append ls rs);
  parts_more = omega (
    arith,
    parts_all_from bs ls,
    parts_all_from bs rs,
    parts_append (map (expanded bs) ls) (map (expanded bs) rs),
    ap sum_of_parts (map-append (expanded bs) ls rs),
  );
  height_more = omega (
    arith,
    heights_from bs ls,
    heights_from bs rs,
    heights_append (map (expanded bs) ls) (map (expanded bs) rs),
    ap heights_of (map-append (expanded bs) ls rs),
  );
}

pub negative_over : (bs : Bindings) (t : Tree) → IsOver bs (negative t) (t ∷ [])
negative_over bs t = record {
  uses_same = sym (append-nil (uses t));
  parts_more = omega arith;
  height_more = omega arith;
}

pub multiple_over : (bs : Bindings) (n : ℕ) (t : Tree) → IsOver bs (multiple n t) (t ∷ [])
multiple_over bs n t = record {
  uses_same = sym (append-nil (uses t));
  parts_more = omega arith;
  height_more = omega arith;
}

pub sum_over : (bs : Bindings) (ts : List (Bool × Tree)) → IsOver bs (sum (terms_from ts)) (trees_of_terms ts)
sum_over bs ts = record {
  uses_same = uses_terms_from ts;
  parts_more = ap suc (parts_terms_from bs ts);
  height_more = ap suc (term_heights_from bs ts);
}

-- ---- items

pub item_sized : (bs : Bindings) (es : List Expr) (i : ℕ) (e : Expr) (s t r : Size) → i < length es → e ≡ get_or es i e → AreBeside s t r
    → IsSizeOf bs (trees_of (take i es)) s → IsSizeOf bs (tree_of e ∷ []) t → IsSizeOf bs (trees_of (take (i + 1) es)) r
item_sized bs es i e s t r below is b m n =
    let k : suc i ≡ i + 1 = omega arith in
    subst (λ (j : ℕ). IsSizeOf bs (trees_of (take j es)) r) k
    (subst (λ (z : List Tree). IsSizeOf bs z r) (sym (trees_of-take_suc es i e below is))
    (beside_sized bs (trees_of (take i es)) (tree_of e ∷ []) s t r b m n))

split_trees : (es : List Expr) (i : ℕ) (e : Expr) → i < length es → e ≡ get_or es i e
    → trees_of es ≡ trees_of (take i es) ++ tree_of e ∷ trees_of (drop (suc i) es)
split_trees [] i e below is = absurd (omega arith)
split_trees (f ∷ es) zero e below is = ap (λ (x : Expr). tree_of x ∷ trees_of es) (sym is)
split_trees (f ∷ es) (suc i) e below is = ap (λ (z : List Tree). tree_of f ∷ z) (split_trees es i e (omega arith) is)

at_fails : (bs : Bindings) (ts us : List Tree) (t : Tree) (s : Size) (c : ℕ) → IsSizeOf bs ts s → first_unknown bs (uses_of (t ∷ [])) ≡ Some c
    → first_unknown bs (uses_of (ts ++ t ∷ us)) ≡ Some c
at_fails bs ts us t s c m e = fails_later bs ts (t ∷ us) c s m (fails_first bs (t ∷ []) us c e)

pub item_fails : (bs : Bindings) (es : List Expr) (ts : List Tree) (i : ℕ) (e : Expr) (s : Size) (c : ℕ) → trees_of es ≡ ts → i < length es
    → e ≡ get_or es i e → IsSizeOf bs (trees_of (take i es)) s → first_unknown bs (uses_of (tree_of e ∷ [])) ≡ Some c
    → first_unknown bs (uses_of ts) ≡ Some c
item_fails bs es ts i e s c trees below is m h =
    ap (λ (z : List Tree). first_unknown bs (uses_of z)) (sym trees ∙ split_trees es i e below is)
    ∙ at_fails bs (trees_of (take i es)) (trees_of (drop (suc i) es)) (tree_of e) s c m h

abbrev pub inner : List Term → List Tree
inner es = trees_of_terms (terms_of es)

inner_next : (es : List Term) (i : ℕ) (e : Term) → i < length es → e ≡ get_or es i e → inner (take (i + 1) es) ≡ inner (take i es) ++ tree_of e.expr ∷ []
inner_next es i e below is =
    let k : i + 1 ≡ suc i = omega arith in
    ap (λ (j : ℕ). inner (take j es)) k
    ∙ ap (λ (z : List (Bool × Tree)). trees_of_terms z) (terms_of-take_suc es i e below is)
    ∙ map-append (λ (t : Bool × Tree). t.1) (terms_of (take i es)) (term_of e ∷ [])
    ∙ ap (λ (t : Bool × Tree). inner (take i es) ++ t.1 ∷ []) (term_tree e.minus e.expr)

pub term_sized : (bs : Bindings) (es : List Term) (i : ℕ) (e : Term) (s t r : Size) → i < length es → e ≡ get_or es i e → AreBeside s t r
    → IsSizeOf bs (inner (take i es)) s → IsSizeOf bs (tree_of e.expr ∷ []) t → IsSizeOf bs (inner (take (i + 1) es)) r
term_sized bs es i e s t r below is b m n =
    subst (λ (z : List Tree). IsSizeOf bs z r) (sym (inner_next es i e below is))
    (beside_sized bs (inner (take i es)) (tree_of e.expr ∷ []) s t r b m n)

split_inner : (es : List Term) (i : ℕ) (e : Term) → i < length es → e ≡ get_or es i e
    → inner es ≡ inner (take i es) ++ tree_of e.expr ∷ inner (drop (suc i) es)
split_inner [] i e below is = absurd (omega arith)
split_inner (f ∷ es) zero e below is = ap (λ (x : Term). (term_of x).1 ∷ inner es) (sym is) ∙ ap (λ (t : Bool × Tree). t.1 ∷ inner es) (term_tree e.minus
    e.expr)
split_inner (f ∷ es) (suc i) e below is = ap (λ (z : List Tree). (term_of f).1 ∷ z) (split_inner es i e (omega arith) is)

pub term_fails : (bs : Bindings) (es : List Term) (ts : List (Bool × Tree)) (i : ℕ) (e : Term) (s : Size) (c : ℕ) → terms_of es ≡ ts → i < length es
    → e ≡ get_or es i e → IsSizeOf bs (inner (take i es)) s → first_unknown bs (uses_of (tree_of e.expr ∷ [])) ≡ Some c
    → first_unknown bs (uses_of (trees_of_terms ts)) ≡ Some c
term_fails bs es ts i e s c terms below is m h =
    ap (λ (z : List (Bool × Tree)). first_unknown bs (uses_of (trees_of_terms z))) (sym terms)
    ∙ ap (λ (z : List Tree). first_unknown bs (uses_of z)) (split_inner es i e below is)
    ∙ at_fails bs (inner (take i es)) (inner (drop (suc i) es)) (tree_of e.expr) s c m h

-- ---- an expression

-- a failure that was handed on
pub failed : (bs : Bindings) (ts : List Tree) (r : Result Size ℕ) (y c : ℕ) → r ≡ Err y → y ≡ c → first_unknown bs (uses_of ts) ≡ Some c
    → IsMeasured bs ts r
failed bs ts r y c e f h = subst (λ (z : Result Size ℕ). IsMeasured bs ts z) (sym e) (h ∙ ap Some (sym f))

uses_one : (bs : Bindings) (t : Tree) (ts : List Tree) → IsOver bs t ts → uses_of (t ∷ []) ≡ uses_of ts
uses_one bs t ts o = append-nil (uses t) ∙ o.uses_same

-- one node more
pub record IsBelow (s r : Size) : Type 0 where
  pub parts : r.parts ≡ min 4097 (s.parts + 1)
  pub levels : r.levels ≡ min 1025 (s.levels + 1)
  pub has_use : r.has_use ≡ s.has_use

below_sized : (bs : Bindings) (t : Tree) (ts : List Tree) (s r : Size) → IsOver bs t ts → IsBelow s r → IsSizeOf bs ts s
    → IsSizeOf bs (t ∷ []) r
below_sized bs t ts s r o b m = record {
  known = ap (first_unknown bs) (uses_one bs t ts o) ∙ m.known;
  measures = record {
    parts = omega (arith, b.parts, m.measures.parts, o.parts_more);
    levels = omega (arith, b.levels, m.measures.levels, o.height_more);
  };
  has_use = b.has_use ∙ m.has_use ∙ ap (λ (z : List Use). has_some z) (sym (uses_one bs t ts o));
}

pub node_sized : (bs : Bindings) (e f : Expr) (t : Tree) (ts : List Tree) (s r : Size) → e ≡ f → tree_of f ≡ t → IsOver bs t ts
    → IsBelow s r → IsSizeOf bs ts s → IsSizeOf bs (tree_of e ∷ []) r
node_sized bs e f t ts s r is tree o b m =
    subst (λ (z : Tree). IsSizeOf bs (z ∷ []) r) (sym (ap tree_of is ∙ tree)) (below_sized bs t ts s r o b m)

pub node_fails : (bs : Bindings) (e f : Expr) (t : Tree) (ts : List Tree) (c : ℕ) → e ≡ f → tree_of f ≡ t → IsOver bs t ts
    → first_unknown bs (uses_of ts) ≡ Some c → first_unknown bs (uses_of (tree_of e ∷ [])) ≡ Some c
node_fails bs e f t ts c is tree o m =
    ap (λ (z : Tree). first_unknown bs (uses_of (z ∷ []))) (ap tree_of is ∙ tree) ∙ ap (first_unknown bs) (uses_one bs t ts o) ∙ m

-- a use, in other words
pub used_sized : (bs : Bindings) (e f : Expr) (t : Tree) (r : Result Size ℕ) → e ≡ f → tree_of f ≡ t → IsMeasured bs (t ∷ []) r
    → IsMeasured bs (tree_of e ∷ []) r
used_sized bs e f t r is tree m = subst (λ (z : Tree). IsMeasured bs (z ∷ []) r) (sym (ap tree_of is ∙ tree)) m

-- a tree with nothing below it, and so many parts
pub leaf_sized : (bs : Bindings) (e f : Expr) (t : Tree) (s : Size) → e ≡ f → tree_of f ≡ t → uses t ≡ []
    → s.parts ≡ min 4097 (parts (expanded bs t)) → s.levels ≡ 1 → height (expanded bs t) ≡ 1 → s.has_use ≡ false
    → IsSizeOf bs (tree_of e ∷ []) s
leaf_sized bs e f t s is tree u p l k h = subst (λ (z : Tree). IsSizeOf bs (z ∷ []) s) (sym (ap tree_of is ∙ tree)) (record {
  known = ap (first_unknown bs) none;
  measures = record { parts = omega (arith, p); levels = omega (arith, l, k) };
  has_use = h ∙ ap (λ (z : List Use). has_some z) (sym none);
})
  where
    none : uses_of (t ∷ []) ≡ []
    none = append-nil (uses t) ∙ u

-- a tree with nothing below it
pub one_sized : (bs : Bindings) (e f : Expr) (t : Tree) (s : Size) → e ≡ f → tree_of f ≡ t → uses t ≡ []
    → parts (expanded bs t) ≡ 1 → height (expanded bs t) ≡ 1 → s ≡ record { parts = 1; levels = 1; has_use = false }
    → IsSizeOf bs (tree_of e ∷ []) s
one_sized bs e f t s is tree u p k l =
    let n : s.parts ≡ 1 = ap (λ (z : Size). z.parts) l in
    leaf_sized bs e f t s is tree u (omega (arith, n, p)) (ap (λ (z : Size). z.levels) l) k (ap (λ (z : Size). z.has_use) l)
