-- What is made of a question, by its size.
use Rattle.std.proofs.Common.{◌≡◌, refl, ap, sym, ◌∙◌, subst, ℕ, ◌<◌, min, max, arith, Bool, true, false, cond, List, [], ◌∷◌, map}
use Rattle.std.specs.Prelude.{ltb, ◌||◌, ◌&&◌}
use Rattle.std.proofs.lemmas.Bool.{lt-ltb, le-ltb, ltb-true, ltb-false}
use Rattle.cg_query.specs.Tree.{Tree, Question, asks, defines, value}
use Rattle.cg_syntax.specs.Naming.{Bindings, IsClosedQuestion, are_too_large, expanded, first_unknown}
use Rattle.cg_syntax.specs.Naming.{is_some_high, question_expanded, sum_of_parts, uses_of}
use Rattle.cg_syntax.specs.Session.{Resolved, Asked_of, Too_large, bound_by, by_names, has_some, resolved}
use Rattle.cg_syntax.specs.Bound.{IsSizeOf, Measures, bindings_in, heights_of}
use Rattle.cg_syntax.specs.Puts.{IsPut, PutsStatement}
use Rattle.cg_query.specs.Heights.{height, trees_of_question}
use Rattle.cg_syntax.specs.declared.sheet.Sheet.{Sheet}
use Rattle.cg_syntax.specs.declared.sizes.Size.{Size}
use Rattle.cg_syntax.proofs.Closed.{closed_unused, expanded_trees, same_expression, same_question}

-- ---- numbers that are counted no further than they matter

above : (n top m : ℕ) → n < top → ltb n (min top m) ≡ ltb n m
above n top m h = by (ltb n m) refl
  where
    by : (b : Bool) → ltb n m ≡ b → ltb n (min top m) ≡ b
    by true e = let l = ltb-true n m e in lt-ltb n (min top m) (omega (arith, l, h))
    by false e = let l = ltb-false n m e in le-ltb n (min top m) (omega (arith, l))

above_either : (n a b : ℕ) → ltb n (max a b) ≡ (ltb n a || ltb n b)
above_either n a b = by (ltb n a) refl
  where
    by : (x : Bool) → ltb n a ≡ x → ltb n (max a b) ≡ (x || ltb n b)
    by true e = let l = ltb-true n a e in lt-ltb n (max a b) (omega (arith, l))
    by false e = right (ltb n b) refl
      where
        right : (y : Bool) → ltb n b ≡ y → ltb n (max a b) ≡ y
        right true f = let l = ltb-true n b f in lt-ltb n (max a b) (omega (arith, l))
        right false f = let k = ltb-false n a e in let l = ltb-false n b f in le-ltb n (max a b) (omega (arith, k, l))

some_high : (ts : List Tree) → is_some_high ts ≡ ltb 1024 (heights_of ts)
some_high [] = refl
some_high (t ∷ ts) = ap (λ (b : Bool). ltb 1024 (height t) || b) (some_high ts) ∙ sym (above_either 1024 (height t) (heights_of ts))

too_large : (ts : List Tree) (s : Size) → Measures s ts → (ltb 4096 s.parts || ltb 1024 s.levels) ≡ are_too_large ts
too_large ts s m =
    let p : ltb 4096 s.parts ≡ ltb 4096 (sum_of_parts ts) = ap (ltb 4096) m.parts ∙ above 4096 4097 (sum_of_parts ts) (omega arith) in
    let l : ltb 1024 s.levels ≡ is_some_high ts = ap (ltb 1024) m.levels ∙ above 1024 1025 (heights_of ts) (omega arith) ∙ sym (some_high ts) in
    ap (λ (b : Bool). b || ltb 1024 s.levels) p ∙ ap (λ (b : Bool). ltb 4096 (sum_of_parts ts) || b) l

-- ---- questions

abbrev by_both : Bindings → Question → Bool → Bool → Resolved
by_both bs q has_use large = cond (has_use && large) Too_large (Asked_of (question_expanded bs q))

by_its_size : (bs : Bindings) (q : Question) (s : Size) → IsSizeOf bs (trees_of_question q) s
    → resolved bs q ≡ by_both bs q s.has_use (ltb 4096 s.parts || ltb 1024 s.levels)
by_its_size bs q s m =
    let large : (ltb 4096 s.parts || ltb 1024 s.levels) ≡ are_too_large (trees_of_question (question_expanded bs q)) =
    too_large (map (expanded bs) (trees_of_question q)) s m.measures ∙ ap (λ (z : List Tree). are_too_large z) (sym (expanded_trees bs q)) in
    ap (by_names bs q) m.known
    ∙ ap (λ (b : Bool). by_both bs q b (are_too_large (trees_of_question (question_expanded bs q)))) (sym m.has_use)
    ∙ ap (λ (b : Bool). by_both bs q s.has_use b) (sym large)

no_use : (bs : Bindings) (ts : List Tree) (s : Size) → IsSizeOf bs ts s → s.has_use ≡ false → uses_of ts ≡ []
no_use bs ts s m h = by (uses_of ts) (sym m.has_use ∙ h)
  where
    by : (us : List (List ℕ × ℕ)) → has_some us ≡ false → us ≡ []
    by [] e = refl
    by (u ∷ us) e = absurd cc

pub is_same : (bs : Bindings) (q : Question) (s : Size) → IsSizeOf bs (trees_of_question q) s → s.has_use ≡ false → resolved bs q ≡ Asked_of q
is_same bs q s m h =
    by_its_size bs q s m ∙ ap (λ (b : Bool). by_both bs q b (ltb 4096 s.parts || ltb 1024 s.levels)) h
    ∙ ap Asked_of (same_question bs q (no_use bs (trees_of_question q) s m h))

pub same_tree : (bs : Bindings) (t : Tree) (s : Size) → IsSizeOf bs (t ∷ []) s → s.has_use ≡ false → expanded bs t ≡ t
same_tree bs t s m h = same_expression bs t (no_use bs (t ∷ []) s m h)

pub is_expanded : (bs : Bindings) (q : Question) (s : Size) → IsSizeOf bs (trees_of_question q) s → s.has_use ≡ true
    → (ltb 4096 s.parts || ltb 1024 s.levels) ≡ false → resolved bs q ≡ Asked_of (question_expanded bs q)
is_expanded bs q s m h l =
    by_its_size bs q s m ∙ ap (λ (b : Bool). by_both bs q b (ltb 4096 s.parts || ltb 1024 s.levels)) h ∙ ap (by_both bs q true) l

-- a question without names is asked as it stands
pub is_closed : (bs : Bindings) (q : Question) → IsClosedQuestion q → resolved bs q ≡ Asked_of q
is_closed bs q w = by (closed_unused q w)
  where
    by : uses_of (trees_of_question q) ≡ [] → resolved bs q ≡ Asked_of q
    by u = ap (λ (us : List (List ℕ × ℕ)). by_names bs q (first_unknown bs us)) u
        ∙ ap (λ (us : List (List ℕ × ℕ)). by_both bs q (has_some us) (are_too_large (trees_of_question (question_expanded bs q)))) u
        ∙ ap Asked_of (same_question bs q u)

-- ---- what was put at the end

put_as : (number : ℕ) (r s : Resolved) (old new : Sheet) → s ≡ r → IsPut number r old new → IsPut number s old new
put_as number r s old new e p = subst (λ (z : Resolved). IsPut number z old new) (sym e) p

-- of a question, which binds nothing
pub put_question : (number : ℕ) (q : Question) (r : Resolved) (old new : Sheet) → resolved (bindings_in old) q ≡ r → IsPut number r old new
    → bindings_in new ≡ bindings_in old → PutsStatement number (asks q) old new
put_question number q r old new e p b = record { put = put_as number r (resolved (bindings_in old) q) old new e p; bindings = b }

-- of a definition that isn't refused
pub put_defined : (number : ℕ) (word : List ℕ) (t u : Tree) (old new : Sheet) → resolved (bindings_in old) (value t) ≡ Asked_of (value u)
    → expanded (bindings_in old) t ≡ u → IsPut number (Asked_of (value u)) old new → bindings_in new ≡ (word, u) ∷ bindings_in old
    → PutsStatement number (defines word t) old new
put_defined number word t u old new e f p b = record {
  put = put_as number (Asked_of (value u)) (resolved (bindings_in old) (value t)) old new e p;
  bindings = b ∙ ap (λ (z : Tree). (word, z) ∷ bindings_in old) (sym f) ∙ ap (bound_by (bindings_in old) word t) (sym e);
}
