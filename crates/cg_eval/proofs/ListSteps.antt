-- The steps of lists of expressions and of terms, one after another.
use Rattle.std.proofs.Common.{◌≡◌, refl, ap, sym, ◌∙◌, subst, ℕ, suc, ◌+◌, ◌<◌, ◌≤◌, arith, Bool, None, List, [], ◌∷◌, ◌++◌}
use Rattle.std.proofs.Common.{length, get_or, take, drop, map, Result, Ok, Err}
use Rattle.std.proofs.lemmas.List.{take_all}
use Rattle.cg_form.specs.Game.{Game, to_list}
use Rattle.cg_form.specs.Sum.{sum as plus}
use Rattle.cg_nodes.specs.Can.{can}
use Rattle.cg_cells.specs.Store.{State}
use Rattle.cg_nodes.specs.Games.{IsGame, StandFor, StandsFor, game_at}
use Rattle.cg_nodes.specs.Meant.{Meant}
use Rattle.cg_nodes.proofs.Later.{stands_game, stand_later}
use Rattle.cg_canon.specs.declared.rest.WorkRest.{WorkRest}
use Rattle.cg_canon.specs.Items.{made}
use Rattle.cg_sum.proofs.Sums.{can-sum_form}
use Rattle.cg_canon.specs.SumItems.{sum_items}
use Rattle.cg_names.specs.Meaning.{signed}
use Rattle.cg_names.specs.Meaning.{meaning as meaning_by}
use Rattle.cg_eval.specs.Meaning.{meaning, meanings, total_with}
use Rattle.cg_query.specs.declared.expr.Expr.{Expr}
use Rattle.cg_query.specs.declared.expr.Term.{Term}
use Rattle.cg_query.specs.Tree.{Tree, sum, trees_from, terms_from}
use Rattle.cg_query.specs.Trees.{tree_of, trees_of, terms_of}
use Rattle.cg_query.proofs.TreeOf.{term_tree}
use Rattle.cg_eval.specs.Faults.{fault_in, fault_in_all, fault_in_terms, first_of_two}
use Rattle.cg_eval.specs.Items.{items, all_items, further_items, term_part}
use Rattle.cg_eval.specs.Progress.{Evaluates, Finds, Lacks, Makes}
use Rattle.cg_eval.specs.declared.fault.NoValue.{NoValue}
use Rattle.cg_eval.specs.Zero.{zero_form, zero_items}
use Rattle.cg_eval.proofs.FaultParts.{all-append, terms-append}
use Rattle.cg_eval.proofs.Steps.{finds_game, finds_then, first_none, first_some, lacks_fault, lacks_front, lacks_items, lacks_then}
use Rattle.cg_eval.proofs.Steps.{makes_items, makes_none, makes_then}
use Rattle.cg_query.proofs.Walk.{trees_of-take_suc, terms_of-take_suc}
use Rattle.cg_eval.proofs.ItemLists.{all_items-append, all_items-one, all_items-next, all_items-none, forms-append, forms-one, forms-none, further-append, total-append}
use Rattle.cg_eval.proofs.ItemLists.{added_items, further-next, further-one, further-none, total-one, total-none, trees_of-split, terms_of-split, stand-more}

-- ---- lists of expressions

-- the expressions so far have no ill-formed board or heap, and these handles, with their items made
pub record AllMade {R : Type 0} (s t : State Meant (WorkRest R)) (ts : List Tree) (hs : List ℕ) : Type 0 where
  pub sound : fault_in_all (trees_from ts) ≡ None
  pub games : StandFor t hs (map can (to_list (meanings (trees_from ts))))
  pub made : Makes s t (all_items s.rest.limit (trees_from ts))

pub all_made-none : {R : Type 0} (s : State Meant (WorkRest R)) (hs : List ℕ) → hs ≡ [] → AllMade s s [] hs
all_made-none s hs e =
    record {
      sound = refl;
      games = rw e (rw forms-none (tt, refl));
      made = makes_items s s [] (all_items s.rest.limit (trees_from [])) (sym (all_items-none s.rest.limit))
          (makes_none s);
    }

module _ {R : Type 0} (s t u : State Meant (WorkRest R)) where
  all_made-more : (ts : List Tree) (hs ks : List ℕ) (x : Tree) (h : ℕ) → AllMade s t ts hs → Evaluates t u x (Ok h)
      → ks ≡ hs ++ (h ∷ [])
      → AllMade s u (ts ++ (x ∷ [])) ks
  all_made-more ts hs ks x h a (sound, (game, done)) e =
      let P : List Game → Type 0 = λ z. StandFor u (hs ++ (h ∷ [])) z in
      let N : ℕ → Type 0 = λ n. Makes t u (items n x) in
      let forms : map can (to_list (meanings (trees_from (ts ++ (x ∷ []))))) ≡ map can (to_list (meanings
      (trees_from ts))) ++ (can (meaning x) ∷ []) =
      forms-append ts (x ∷ []) ∙ ap (λ z. map can (to_list (meanings (trees_from ts))) ++ z) (forms-one x) in
      let all : all_items s.rest.limit (trees_from (ts ++ (x ∷ []))) ≡ all_items s.rest.limit (trees_from ts)
      ++ items s.rest.limit x =
      all_items-append s.rest.limit ts (x ∷ []) ∙ ap (λ z. all_items s.rest.limit (trees_from ts) ++ z)
      (all_items-one s.rest.limit x) in
      record {
        sound = all-append ts (x ∷ []) ∙ first_none (fault_in_all (trees_from ts)) (fault_in_all (trees_from (x ∷ []))) a.sound
            ∙ ap (λ z. first_of_two z None) sound;
        games = rw e (subst P (sym forms) (stand-more u hs (map can (to_list (meanings
            (trees_from ts)))) h (can (meaning x))
            (stand_later t u done.keeps.known hs (map can (to_list (meanings (trees_from ts)))) a.games) game));
        made = makes_items s u (all_items s.rest.limit (trees_from ts) ++ items s.rest.limit x)
            (all_items s.rest.limit (trees_from (ts ++ (x ∷ [])))) (sym all)
            (makes_then s t u (all_items s.rest.limit (trees_from ts)) (items s.rest.limit x) a.made
            (subst N a.made.keeps.limit done));
      }

  pub all_made-step : (es : List Expr) (i : ℕ) (e : Expr) (hs ks : List ℕ) (h : ℕ) → i < length es → e ≡ get_or es i e
      → AllMade s t (trees_of (take i es)) hs → Evaluates t u (tree_of e) (Ok h) → ks ≡ hs ++ (h ∷ [])
      → AllMade s u (trees_of (take (i + 1) es)) ks
  all_made-step es i e hs ks h below at a b more =
      let trees : trees_of (take (i + 1) es) ≡ trees_of (take i es) ++ (tree_of e ∷ []) =
      ap (λ (n : ℕ). trees_of (take n es)) (let n : i + 1 ≡ suc i = omega arith in n)
      ∙ trees_of-take_suc es i e below at in
      rw trees (all_made-more (trees_of (take i es)) hs ks (tree_of e) h a b more)

  -- an expression after those so far has no value
  pub all_stopped : (es : List Expr) (ts : List Tree) (i : ℕ) (e : Expr) (hs : List ℕ) (cause : NoValue)
      → trees_of es ≡ ts
      → i < length es → e ≡ get_or es i e → AllMade s t (trees_of (take i es)) hs
      → Evaluates t u (tree_of e) (Err cause)
      → Lacks s u (fault_in_all (trees_from ts)) (all_items s.rest.limit (trees_from ts)) cause
  all_stopped es ts i e hs cause is below at a r =
      let front = trees_of (take i es) in
      let back = trees_of (drop (suc i) es) in
      let rest = first_of_two (fault_in (tree_of e)) (fault_in_all (trees_from back)) in
      let fault : rest ≡ fault_in_all (trees_from ts) =
      sym (ap (λ (z : List Tree). fault_in_all (trees_from z)) (sym is ∙ trees_of-split es i e below at)
      ∙ all-append front (tree_of e ∷ back) ∙ first_none (fault_in_all (trees_from front)) rest a.sound) in
      let all : all_items s.rest.limit (trees_from ts) ≡ all_items s.rest.limit (trees_from front) ++
      (items s.rest.limit (tree_of e) ++ all_items s.rest.limit (trees_from back)) =
      ap (λ z. all_items s.rest.limit (trees_from z)) (sym is ∙ trees_of-split es i e below at)
      ∙ all_items-append s.rest.limit front (tree_of e ∷ back)
      ∙ ap (λ z. all_items s.rest.limit (trees_from front) ++ z) (all_items-next s.rest.limit (tree_of e) back) in
      lacks_fault s u rest (fault_in_all (trees_from ts)) (all_items s.rest.limit (trees_from ts)) cause fault
      (lacks_items s u rest (all_items s.rest.limit (trees_from front) ++ (items s.rest.limit (tree_of e)
      ++ all_items s.rest.limit (trees_from back))) (all_items s.rest.limit (trees_from ts)) cause (sym all)
      (lacks_then s t u rest (all_items s.rest.limit (trees_from front)) (items s.rest.limit (tree_of e)
      ++ all_items s.rest.limit (trees_from back)) cause a.made
      (lacks_front t u (fault_in (tree_of e)) rest (items s.rest.limit (tree_of e)) (all_items s.rest.limit (trees_from back))
      cause (λ x f. first_some (fault_in (tree_of e)) (fault_in_all (trees_from back)) x f)
      (rw (← a.made.keeps.limit) r))))

pub all_made-all : {R : Type 0} (s t : State Meant (WorkRest R)) (es : List Expr) (ts : List Tree) (i : ℕ)
    (hs : List ℕ) → trees_of es ≡ ts → length es ≤ i
    → AllMade s t (trees_of (take i es)) hs
    → (fault_in_all (trees_from ts) ≡ None) × (StandFor t hs (map can (to_list (meanings (trees_from ts)))) × Makes s t
    (all_items s.rest.limit (trees_from ts)))
all_made-all s t es ts i hs is end a =
    rw (← (ap (λ (z : List Expr). trees_of z) (take_all i es end) ∙ is)) (a.sound, (a.games, a.made))

-- ---- lists of terms

-- the terms so far have no ill-formed board or heap, and were added to the game of the first handle
pub record AreAdded {R : Type 0} (s t : State Meant (WorkRest R)) (start so_far : ℕ) (ts : List (Bool
    × Tree)) : Type 0 where
  pub sound : fault_in_terms (terms_from ts) ≡ None
  pub known : IsGame t so_far
  pub sums : (g : Game) → StandsFor s start (can g)
      → StandsFor t so_far (can (total_with g (terms_from ts))) × Makes s t (further_items s.rest.limit g
      (terms_from ts))

pub added-none : {R : Type 0} (s : State Meant (WorkRest R)) (start : ℕ) → IsGame s start → AreAdded s s start start []
added-none s start k = record {
  sound = refl;
  known = k;
  sums = λ g h. (
    rw (total-none g) h,
    makes_items s s [] (further_items s.rest.limit g (terms_from [])) (sym
        (further-none s.rest.limit g)) (makes_none s),
  );
}

-- adding the term to the game of a handle, whatever game that is
abbrev pub Adds : {R : Type 0} → State Meant (WorkRest R) → State Meant (WorkRest R) → ℕ → Bool → Tree
    → Result ℕ NoValue → Type 0
Adds {R} t u so_far subtracted x result = (g : Game) → StandsFor t so_far (can g)
    → Finds t u (fault_in x) (added_items t.rest.limit g subtracted x) (plus g (signed subtracted (meaning x))) result

-- from the call that adds it
pub adds : {R : Type 0} (t u : State Meant (WorkRest R)) (so_far : ℕ) (subtracted : Bool) (x : Tree)
    (result : Result ℕ NoValue)
    → Finds t u (fault_in x) (term_part t.rest.limit subtracted x ++ sum_items t.rest.limit (game_at t so_far) (can
    (signed subtracted (meaning x))))
    (plus (game_at t so_far) (signed subtracted (meaning x))) result
    → Adds t u so_far subtracted x result
adds t u so_far subtracted x result r g h =
    let m = signed subtracted (meaning x) in
    finds_game t u (fault_in x) (added_items t.rest.limit g subtracted x) (plus (can g) m) (plus g m) result (can-sum_form g m)
    (rw (← (stands_game t so_far (can g) h)) r)

module _ {R : Type 0} (s t u : State Meant (WorkRest R)) where
  added-more : (start so_far next : ℕ) (ts : List (Bool × Tree)) (subtracted : Bool) (x : Tree) → IsGame u next
      → fault_in x ≡ None → AreAdded s t start so_far ts → Adds t u so_far subtracted x (Ok next)
      → AreAdded s u start next (ts ++ ((subtracted, x) ∷ []))
  added-more start so_far next ts subtracted x k sound a r = record {
    sound = terms-append ts ((subtracted, x) ∷ [])
        ∙ first_none (fault_in_terms (terms_from ts)) (fault_in_terms (terms_from ((subtracted, x) ∷ []))) a.sound
        ∙ ap (λ z. first_of_two z None) sound;
    known = k;
    sums = λ g h.
        let (game, done) = a.sums g h in
        let sum_so_far = total_with g (terms_from ts) in
        let (sum_sound, (sum_game, sum_made)) = r sum_so_far game in
        let all : further_items s.rest.limit g (terms_from (ts ++ ((subtracted, x) ∷ [])))
        ≡ further_items s.rest.limit g (terms_from ts) ++ added_items s.rest.limit sum_so_far subtracted x =
        further-append s.rest.limit g ts ((subtracted, x) ∷ [])
        ∙ ap (λ z. further_items s.rest.limit g (terms_from ts) ++ z) (further-one s.rest.limit sum_so_far
        (subtracted, x)) in (
          rw (total-append g ts ((subtracted, x) ∷ []) ∙ total-one sum_so_far (subtracted, x)) sum_game,
          makes_items s u (further_items s.rest.limit g (terms_from ts)
              ++ added_items s.rest.limit sum_so_far subtracted x)
              (further_items s.rest.limit g (terms_from (ts ++ ((subtracted, x) ∷ [])))) (sym all)
              (makes_then s t u (further_items s.rest.limit g (terms_from ts))
              (added_items s.rest.limit sum_so_far subtracted x) done (rw (← done.keeps.limit) sum_made)),
        );
  }

  pub added-step : (es : List Term) (i : ℕ) (e : Term) (start so_far next : ℕ) → i < length es → e ≡ get_or es i e
      → IsGame u next → fault_in (tree_of e.expr) ≡ None
      → AreAdded s t start so_far (terms_of (take i es)) → Adds t u so_far e.minus (tree_of e.expr) (Ok next)
      → AreAdded s u start next (terms_of (take (i + 1) es))
  added-step es i e start so_far next below at k sound a r =
      let trees : terms_of (take (i + 1) es) ≡ terms_of (take i es) ++ ((e.minus, tree_of e.expr) ∷ []) =
      ap (λ (n : ℕ). terms_of (take n es)) (let n : i + 1 ≡ suc i = omega arith in n)
      ∙ terms_of-take_suc es i e below at
      ∙ ap (λ (x : Bool × Tree). terms_of (take i es) ++ (x ∷ [])) (term_tree e.minus e.expr) in
      rw trees (added-more start so_far next (terms_of (take i es)) e.minus (tree_of e.expr) k sound a r)

  pub added-stopped : (es : List Term) (i : ℕ) (e : Term) (start so_far : ℕ) (cause : NoValue) → i < length es
      → e ≡ get_or es i e
      → AreAdded s t start so_far (terms_of (take i es)) → Adds t u so_far e.minus (tree_of e.expr) (Err cause)
      → (g : Game) → StandsFor s start (can g)
      → Lacks s u (fault_in_terms (terms_from (terms_of es))) (further_items s.rest.limit g (terms_from (terms_of es))) cause
  added-stopped es i e start so_far cause below at a r g h =
      let (game, done) = a.sums g h in
      let front = terms_of (take i es) in
      let back = terms_of (drop (suc i) es) in
      let x : Bool × Tree = (e.minus, tree_of e.expr) in
      let sum_so_far = total_with g (terms_from front) in
      let next = plus sum_so_far (signed x.0 (meaning x.1)) in
      let rest = first_of_two (fault_in x.1) (fault_in_terms (terms_from back)) in
      let split : terms_of es ≡ front ++ (x ∷ back) =
      terms_of-split es i e below at ∙ ap (λ (y : Bool × Tree). front ++ (y ∷ back)) (term_tree e.minus e.expr) in
      let fault : rest ≡ fault_in_terms (terms_from (terms_of es)) =
      sym (ap (λ (z : List (Bool × Tree)). fault_in_terms (terms_from z)) split ∙ terms-append front (x ∷ back)
      ∙ first_none (fault_in_terms (terms_from front)) rest a.sound) in
      let all : further_items s.rest.limit g (terms_from (terms_of es))
      ≡ further_items s.rest.limit g (terms_from front) ++ (added_items s.rest.limit sum_so_far x.0 x.1
      ++ further_items s.rest.limit next (terms_from back)) =
      ap (λ z. further_items s.rest.limit g (terms_from z)) split
      ∙ further-append s.rest.limit g front (x ∷ back)
      ∙ ap (λ z. further_items s.rest.limit g (terms_from front) ++ z) (further-next s.rest.limit sum_so_far x back) in
      lacks_fault s u rest (fault_in_terms (terms_from (terms_of es))) (further_items s.rest.limit g (terms_from (terms_of es)))
      cause fault
      (lacks_items s u rest (further_items s.rest.limit g (terms_from front) ++
      (added_items s.rest.limit sum_so_far x.0 x.1 ++ further_items s.rest.limit next (terms_from back)))
      (further_items s.rest.limit g (terms_from (terms_of es))) cause (sym all)
      (lacks_then s t u rest (further_items s.rest.limit g (terms_from front))
      (added_items s.rest.limit sum_so_far x.0 x.1 ++ further_items s.rest.limit next (terms_from back)) cause done
      (lacks_front t u (fault_in x.1) rest (added_items s.rest.limit sum_so_far x.0 x.1) (further_items s.rest.limit next
      (terms_from back)) cause (λ y f. first_some (fault_in x.1) (fault_in_terms (terms_from back)) y f)
      (rw (← done.keeps.limit) (r sum_so_far game)))))

pub added-all : {R : Type 0} (s t : State Meant (WorkRest R)) (es : List Term) (i start so_far : ℕ) → length es ≤ i
    → AreAdded s t start so_far (terms_of (take i es))
    → (g : Game) → StandsFor s start (can g)
    → Finds s t (fault_in_terms (terms_from (terms_of es))) (further_items s.rest.limit g (terms_from (terms_of es)))
    (total_with g (terms_from (terms_of es))) (Ok so_far)
added-all s t es i start so_far end a g h =
    rw (← (ap (λ (z : List Term). terms_of z) (take_all i es end))) (a.sound, a.sums g h)

-- ---- the sum of all terms

pub sum_of_terms : {R : Type 0} (s t u : State Meant (WorkRest R)) (ts : List (Bool × Tree)) (subtracted : Bool)
    (x : Tree) (start : ℕ) (result : Result ℕ NoValue)
    → Finds s t (fault_in x) (term_part s.rest.limit subtracted x) (signed subtracted (meaning x)) (Ok start)
    → ((g : Game) → StandsFor t start (can g)
    → Finds t u (fault_in_terms (terms_from ts)) (further_items t.rest.limit g (terms_from ts)) (total_with g (terms_from ts))
    result)
    → Evaluates s u (sum (terms_from ((subtracted, x) ∷ ts))) result
unfolding items meaning_by
sum_of_terms s t u ts subtracted x start result (sound, (game, done)) r =
    let g = signed subtracted (meaning x) in
    let rest = fault_in_terms (terms_from ts) in
    finds_then s t u (first_of_two (fault_in x) rest) rest (term_part s.rest.limit subtracted x)
    (further_items s.rest.limit g (terms_from ts)) (total_with g (terms_from ts)) result
    (first_none (fault_in x) rest sound) done (rw (← done.keeps.limit) (r g game))

pub first_term_stopped : {R : Type 0} (s t : State Meant (WorkRest R)) (ts : List (Bool × Tree)) (subtracted : Bool)
    (x : Tree) (cause : NoValue) → Lacks s t (fault_in x) (term_part s.rest.limit subtracted x) cause
    → Evaluates s t (sum (terms_from ((subtracted, x) ∷ ts))) (Err cause)
unfolding items meaning_by
first_term_stopped s t ts subtracted x cause r =
    lacks_front s t (fault_in x) (first_of_two (fault_in x) (fault_in_terms (terms_from ts)))
    (term_part s.rest.limit subtracted x) (further_items s.rest.limit (signed subtracted (meaning x)) (terms_from ts)) cause
    (λ y f. first_some (fault_in x) (fault_in_terms (terms_from ts)) y f) r

pub no_terms_find : {R : Type 0} (s t : State Meant (WorkRest R)) (ts : List (Bool × Tree)) (result : Result ℕ NoValue)
    → ts ≡ [] → Finds s t None zero_items zero_form result → Evaluates s t (sum (terms_from ts)) result
unfolding items meaning_by
no_terms_find s t ts result none r =
    rw none r

-- ---- the first of the terms

pub first_and_rest : (es : List Term) (ts : List (Bool × Tree)) (x : Term) (rest : List Term) → terms_of es ≡ ts
    → es ≡ x ∷ rest
    → ts ≡ (x.minus, tree_of x.expr) ∷ terms_of rest
first_and_rest es ts x rest is split =
    sym is ∙ ap (λ (z : List Term). terms_of z) split ∙ ap (λ (y : Bool × Tree). y ∷ terms_of rest)
    (term_tree x.minus x.expr)
