-- Lists of views: what holds of each after a change of one, and sums over the live ones.
use Rattle.std.proofs.Common.{◌≡◌, ◌≢◌, ◌⊎◌, ℕ, zero, suc, ◌+◌, ◌≤◌, List, [], ◌∷◌, ◌++◌, map, set, Bool}
use Rattle.std.proofs.Common.{true, false, refl, sym, ap, ◌∙◌, subst, inl, inr, ⊎_elim, arith, true≢false}
use Rattle.std.specs.Prelude.{if◌then◌else◌, ◌==◌}
use mathlib.Core.Logic.{dite}
use native.Mathlib.Decide.{ℕ_discrete}
use mathlib.Core.Option.{some, some-injective, some-ne-none}
use lib.ListN.{get_elem?}
use Rattle.cg_cells.specs.Views.{ViewOf}
use Rattle.cg_cells.specs.Table.{live, total, times, IsLive}

module _ {A : Type 0} where
  pub at_set : (l : List A) (i j : ℕ) (a b : A) → get_elem? (set l i a) j ≡ some b → ((j ≡ i) × (a ≡ b)) ⊎ ((j ≢ i) × (get_elem? l j ≡ some b))
  at_set [] i j a b e = absurd (some-ne-none b (sym e))
  at_set (x ∷ xs) zero zero a b e = inl (refl, some-injective a b e)
  at_set (x ∷ xs) zero (suc j) a b e = inr ((λ h. omega arith), e)
  at_set (x ∷ xs) (suc i) zero a b e = inr ((λ h. omega arith), e)
  at_set (x ∷ xs) (suc i) (suc j) a b e = ⊎_elim (λ t. inl (ap suc t.0, t.1)) (λ t. let n = t.0 in inr ((λ h. n (omega arith)), t.1)) (at_set xs i j a b e)

  pub at_after : (l : List A) (i : ℕ) (a b : A) → get_elem? l i ≡ some a → get_elem? (set l i b) i ≡ some b
  at_after [] i a b e = absurd (some-ne-none a (sym e))
  at_after (x ∷ xs) zero a b e = refl
  at_after (x ∷ xs) (suc i) a b e = at_after xs i a b e

  pub at_else : (l : List A) (i j : ℕ) (a : A) → j ≢ i → get_elem? (set l i a) j ≡ get_elem? l j
  at_else [] i j a n = refl
  at_else (x ∷ xs) zero zero a n = absurd (n refl)
  at_else (x ∷ xs) zero (suc j) a n = refl
  at_else (x ∷ xs) (suc i) zero a n = refl
  at_else (x ∷ xs) (suc i) (suc j) a n = at_else xs i j a (λ e. n (ap suc e))

  pub at_snoc : (l : List A) (a b : A) (j : ℕ) → get_elem? (l ++ a ∷ []) j ≡ some b → (get_elem? l j ≡ some b) ⊎ (a ≡ b)
  at_snoc [] a b zero e = inr (some-injective a b e)
  at_snoc [] a b (suc j) e = absurd (some-ne-none b (sym e))
  at_snoc (x ∷ xs) a b zero e = inl e
  at_snoc (x ∷ xs) a b (suc j) e = at_snoc xs a b j e

  pub set_again : (l : List A) (i : ℕ) (a : A) → get_elem? l i ≡ some a → set l i a ≡ l
  set_again [] i a e = refl
  set_again (x ∷ xs) zero a e = λ k. sym (some-injective x a e) k ∷ xs
  set_again (x ∷ xs) (suc i) a e = λ k. x ∷ set_again xs i a e k

  pub set_twice : (l : List A) (i : ℕ) (a b : A) → set (set l i a) i b ≡ set l i b
  set_twice [] i a b = refl
  set_twice (x ∷ xs) zero a b = refl
  set_twice (x ∷ xs) (suc i) a b = λ k. x ∷ set_twice xs i a b k

pub times_append : (n : ℕ) (xs ys : List ℕ) → times n (xs ++ ys) ≡ times n xs + times n ys
times_append n [] ys = omega arith
times_append n (x ∷ xs) ys = let p = times_append n xs ys in omega arith

pub times_snoc : (n x : ℕ) (xs : List ℕ) → times n (xs ++ x ∷ []) ≡ times n xs + (if x == n then 1 else 0)
times_snoc n x xs = let p = times_append n xs (x ∷ []) in omega arith

module _ {X : Type 0} where
  pub of_live : (f : ViewOf X → ℕ) (v : ViewOf X) → v.gone ≡ false → live f v ≡ f v
  of_live f v alive = ap (λ b. if b then 0 else f v) alive

  pub of_gone : (f : ViewOf X → ℕ) (v : ViewOf X) → v.gone ≡ true → live f v ≡ 0
  of_gone f v gone = ap (λ b. if b then 0 else f v) gone

  set_live : (f : ViewOf X → ℕ) (views : List (ViewOf X)) (j : ℕ) (v w : ViewOf X) → get_elem? views j ≡ some v → total f (set views j w) + live f v ≡ total f views + live f w
  set_live f [] j v w e = absurd (some-ne-none v (sym e))
  set_live f (x ∷ xs) zero v w e = let p : live f x ≡ live f v = ap (live f) (some-injective x v e) in omega arith
  set_live f (x ∷ xs) (suc j) v w e = let p = set_live f xs j v w e in omega arith

  -- a live view becomes another
  pub total_set : (f : ViewOf X → ℕ) (views : List (ViewOf X)) (j : ℕ) (v w : ViewOf X) → IsLive views j v → w.gone ≡ false → total f (set views j w) + f v ≡ total f views + f w
  total_set f views j v w at alive = let a = set_live f views j v w at.0 in let b = of_live f v at.1 in let c = of_live f w alive in omega arith

  -- a live view ends
  pub total_end : (f : ViewOf X → ℕ) (views : List (ViewOf X)) (j : ℕ) (v w : ViewOf X) → IsLive views j v → w.gone ≡ true → total f (set views j w) + f v ≡ total f views
  total_end f views j v w at gone = let a = set_live f views j v w at.0 in let b = of_live f v at.1 in let c = of_gone f w gone in omega arith

  pub total_at : (f : ViewOf X → ℕ) (views : List (ViewOf X)) (j : ℕ) (v : ViewOf X) → IsLive views j v → f v ≤ total f views
  total_at f [] j v at = absurd (some-ne-none v (sym at.0))
  total_at f (x ∷ xs) zero v at =
      let p : live f x ≡ live f v = ap (live f) (some-injective x v at.0) in
      let q = of_live f v at.1 in
      omega arith
  total_at f (x ∷ xs) (suc j) v at = let p = total_at f xs j v at in omega arith

  -- where a sum isn't 0, a live view adds to it
  pub total_some : (f : ViewOf X → ℕ) (views : List (ViewOf X)) → 1 ≤ total f views → (j : ℕ) × (v : ViewOf X) × IsLive views j v × (1 ≤ f v)
  total_some f [] h = absurd (omega arith)
  total_some f (x ∷ xs) h = first x.gone (λ _. x.gone) (λ more. total_some f xs more)
    where
      Somewhere : List (ViewOf X) → Type 0
      Somewhere views = (j : ℕ) × (v : ViewOf X) × IsLive views j v × (1 ≤ f v)

      later : (1 ≤ total f xs → Somewhere xs) → live f x ≡ 0 → Somewhere (x ∷ xs)
      later rest none = let r = rest (omega arith) in (suc r.0, r.1, r.2, r.3)

      first : (b : Bool) → x.gone ≡ b → (1 ≤ total f xs → Somewhere xs) → Somewhere (x ∷ xs)
      first true is rest = later rest (of_gone f x is)
      first false is rest = dite (ℕ_discrete (f x) 0)
          (λ none. later rest (of_live f x is ∙ none))
          (λ some. (0, x, (refl, is), omega arith))

  total_append : (f : ViewOf X → ℕ) (vs : List (ViewOf X)) (v : ViewOf X) → total f (vs ++ v ∷ []) ≡ total f vs + live f v
  total_append f [] v = omega arith
  total_append f (x ∷ xs) v = let p = total_append f xs v in omega arith

  pub total_snoc : (f : ViewOf X → ℕ) (vs : List (ViewOf X)) (v : ViewOf X) → v.gone ≡ false → total f (vs ++ v ∷ []) ≡ total f vs + f v
  total_snoc f vs v alive = total_append f vs v ∙ ap (λ n. total f vs + n) (of_live f v alive)

  -- what holds of each live view holds after a change of one
  pub each_set : (P : ViewOf X → Type 0) (views : List (ViewOf X)) (j : ℕ) (w : ViewOf X) → ((i : ℕ) (v : ViewOf X) → IsLive views i v → P v) → (w.gone ≡ false → P w) → (i : ℕ) (v : ViewOf X) → IsLive (set views j w) i v → P v
  each_set P views j w all mine i v e = ⊎_elim
      (λ (a : (i ≡ j) × (w ≡ v)). subst P a.1 (mine (subst (λ (u : ViewOf X). u.gone ≡ false) (sym a.1) e.1)))
      (λ (a : (i ≢ j) × (get_elem? views i ≡ some v)). all i v (a.1, e.1))
      (at_set views j i w v e.0)

  -- and when a view is added
  pub each_snoc : (P : ViewOf X → Type 0) (views : List (ViewOf X)) (w : ViewOf X) → ((i : ℕ) (v : ViewOf X) → IsLive views i v → P v) → P w → (i : ℕ) (v : ViewOf X) → IsLive (views ++ w ∷ []) i v → P v
  each_snoc P views w all mine i v e = ⊎_elim (λ was. all i v (was, e.1)) (λ is. subst P is mine) (at_snoc views w v i e.0)

  none_left : (f g : ViewOf X → ℕ) → ((u : ViewOf X) → 1 ≤ g u) → (vs : List (ViewOf X)) → total g vs ≡ 0 → total f vs ≡ 0
  none_left f g pos [] e = refl
  none_left f g pos (x ∷ xs) e = let b = none_left f g pos xs (omega arith) in let a = dead x.gone x (λ _. x.gone) (omega arith) in omega arith
    where
      dead : (b : Bool) (x : ViewOf X) → x.gone ≡ b → (if x.gone then 0 else g x) ≡ 0 → (if x.gone then 0 else f x) ≡ 0
      dead true x is e = of_gone f x is
      dead false x is e = let a = of_live g x is in let s = pos x in absurd (omega arith)

  -- where one live view has the whole of a sum whose terms aren't 0, it is the only live one
  pub total_alone : (f g : ViewOf X → ℕ) → ((u : ViewOf X) → 1 ≤ g u) → (vs : List (ViewOf X)) (j : ℕ) (v : ViewOf X) → IsLive vs j v → total g vs ≡ g v → total f vs ≡ f v
  total_alone f g pos [] j v at e = absurd (some-ne-none v (sym at.0))
  total_alone f g pos (x ∷ xs) zero v at e =
      let is : x ≡ v = some-injective x v at.0 in
      let gi : live g x ≡ g v = ap (live g) is ∙ of_live g v at.1 in
      let fi : live f x ≡ f v = ap (live f) is ∙ of_live f v at.1 in
      let b = none_left f g pos xs (omega arith) in
      omega arith
  total_alone f g pos (x ∷ xs) (suc j) v at e =
      let low = total_at g xs j v at in
      let a = none_left f g pos (x ∷ []) (omega arith) in
      let b = total_alone f g pos xs j v at (omega arith) in
      omega arith

  -- of a list of ended views none is live
  pub none_live : (views : List (ViewOf X)) (w : ViewOf X) → w.gone ≡ true → (i : ℕ) (v : ViewOf X) → IsLive (map (λ u. w) views) i v → ⊥
  none_live [] w gone i v e = some-ne-none v (sym e.0)
  none_live (x ∷ xs) w gone zero v e = true≢false (sym gone ∙ ap (λ (u : ViewOf X). u.gone) (some-injective w v e.0) ∙ e.1)
  none_live (x ∷ xs) w gone (suc i) v e = none_live xs w gone i v e
