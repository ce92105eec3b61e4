-- The handles of the indexes of an interner.
use lib.Dec.{eqb}
use Rattle.std.proofs.Common.{◌≡◌, refl, ℕ, suc, ◌<◌, ◌≤◌, ◌^◌, arith, ap, sym, ◌∙◌, inl, inr, Option}
use Rattle.std.proofs.Common.{Some, None, List, [], ◌∷◌, ◌++◌, length, get_or, Bool, true, false}
use Rattle.std.proofs.lemmas.Bool.Decides.{eqb_tells, leb_tells}
use Rattle.std.proofs.lemmas.List.Folds.{list_any-append}
use Rattle.std.proofs.lemmas.Map.Keys.{IsDistinct-push, apart_from_distinct}
use Rattle.std.proofs.lemmas.Map.Steps.{length-le_from_distinct_below}
use Rattle.std.specs.Prelude.{IfNone, IfSome}
use Rattle.std.specs.Cmp.{nat_eq_equiv}
use Rattle.std.specs.List.{IsDistinct, list_any}
use Rattle.cg_cells.specs.Meaning.{IsInjective}
use Rattle.cg_cells.specs.Store.{State, thing_at}
use Rattle.cg_nodes.specs.Meant.{Meant, form}
use Rattle.cg_arena.specs.Arena.{IsIndex, game_of}
use Rattle.cg_canon.specs.declared.interner.Interner.{Interner}
use Rattle.cg_canon.specs.Interners.{AreApart, AreHandles, InternerHolds, IsNew, handle_of}
use Rattle.cg_canon.specs.Walking as walking

-- no index
handles_none : AreHandles []
unfolding IsDistinct
handles_none = record { distinct = tt; below = λ h k. absurd (cc) }

pub apart_none : (hs by_id : List ℕ) (is_complete : Bool) → hs ≡ [] → by_id ≡ [] → AreApart hs by_id is_complete
unfolding AreApart
apart_none hs by_id is_complete e l =
    record { handles = rw e handles_none; indexed = λ w. l ∙ sym e }

handles_more : (hs : List ℕ) (h : ℕ) → AreHandles hs → IsNew hs h → AreHandles (hs ++ (h ∷ []))
handles_more hs h a new = record {
  distinct = IsDistinct-push nat_eq_equiv hs h a.distinct new.absent;
  below = λ q e. elim (eqb_tells q h) [
    | inl t ↦ (let same = t.1 in let small = new.small in omega arith)
    | inr t ↦ a.below q (let d = list_any-append (eqb q) hs (h ∷ []) in let o = t.0 in grind (arith, d, o, e))
  ];
}

-- one index more
pub apart_more : (b c : Interner) (handle : ℕ) → AreApart b.handles.items b.by_id b.is_complete → IsNew b.handles.items handle
    → c.handles.items ≡ b.handles.items ++ (handle ∷ [])
    → (c.is_complete ≡ true → (b.is_complete ≡ true) × (c.by_id ≡ b.by_id ++ (handle ∷ []))) → AreApart c.handles.items c.by_id c.is_complete
unfolding AreApart
apart_more b c handle a new e indexed =
    record {
      handles = rw e (handles_more b.handles.items handle a.handles new);
      indexed = λ w. let (old, l) = indexed w in l ∙ ap (λ z. z ++ (handle ∷ [])) (a.indexed old) ∙ sym e;
    }

-- there are no more indexes than handles
pub few_handles : (hs by_id : List ℕ) (is_complete : Bool) → AreApart hs by_id is_complete → length hs ≤ 2 ^ 26
unfolding AreApart
few_handles hs by_id is_complete a = length-le_from_distinct_below hs (2 ^ 26) a.handles.distinct a.handles.below

pub by_id_are : (hs by_id : List ℕ) (is_complete : Bool) → AreApart hs by_id is_complete → is_complete ≡ true → by_id ≡ hs
unfolding AreApart
by_id_are hs by_id is_complete a w = a.indexed w

-- a handle that stands nowhere in the list is none of it
pub absent_at_all : (hs : List ℕ) (h : ℕ) → ((m : ℕ) → m < length hs → ¬ (get_or hs m 0 ≡ h)) → list_any (eqb h) hs ≡ false
absent_at_all [] h out = refl
absent_at_all (k ∷ hs) h out =
    let o = out 0 (omega arith) in
    elim (eqb_tells h k) [
      | inl t ↦ absurd (o (sym t.1))
      | inr t ↦ (let rest = absent_at_all hs h (λ m l. out (suc m) (omega arith)) in let f = t.0 in grind (arith, f, rest))
    ]

-- what is found by the hash index is found among the handles
module _ (hs by_id : List ℕ) (h number : ℕ) (e : by_id ≡ hs) (m : number ≡ h) where
  pub place_found : (r : Option ℕ) → IfSome r (λ n. n < length by_id) → IfSome r (λ n. get_or by_id n 0 ≡ number)
      → IfSome r (λ i. (i < length hs) × (get_or hs i 0 ≡ h))
  place_found (Some n) inside is = (let k = ap length e in omega arith, ap (λ z. get_or z n 0) (sym e) ∙ is ∙ m)
  place_found None inside is = tt

  pub place_none : (X : ℕ → Type 0) (r : Option ℕ) → IfNone r ((n : ℕ) → n < length by_id → get_or by_id n 0 ≡ number → X n)
      → ((n : ℕ) → X n → ⊥) → h < 2 ^ 26 → IfNone r (IsNew hs h)
  place_none X (Some n) none never small = tt
  place_none X None none never small =
      let k = ap length e in
      record {
        absent = absent_at_all hs h (λ n l is. never n (none n (omega arith) (ap (λ z. get_or z n 0) e ∙ is ∙ sym m)));
        small = small;
      }

-- different indexes have different games
module _ {R : Type 0} (s : State Meant R) (b : Interner) (holds : InternerHolds s b) (injective : IsInjective (thing_at s)) where
  one_handle : (p q : ℕ) → IsIndex b.arena p → IsIndex b.arena q → game_of b.arena p ≡ game_of b.arena q → handle_of b p ≡ handle_of b q
  one_handle p q k l e =
      let count = holds.count in
      let i = holds.each p (omega arith) in
      let j = holds.each q (omega arith) in
      injective (handle_of b p) (handle_of b q) _ i.game (j.game ∙ ap (λ z. Some (form z)) (j.same ∙ sym e ∙ sym i.same))

  distinct : (p q : ℕ) → p < q → q < length b.handles.items → handle_of b p ≡ handle_of b q → ⊥
  unfolding AreApart
  distinct p q l m e =
      let d = apart_from_distinct eqb b.handles.items p q 0 holds.apart.handles.distinct l m in
      elim (eqb_tells (handle_of b p) (handle_of b q)) [
        | inl t ↦ (let o = t.0 in absurd (cc))
        | inr t ↦ t.1 e
      ]

  pub games_apart : walking.AreApart b.arena
  games_apart = record {
    each = λ p q k l e.
        let count = holds.count in
        let h = one_handle p q k l e in
        elim (eqb_tells p q) [
          | inl t ↦ t.1
          | inr t ↦ (let d = t.1 in elim (leb_tells (suc p) q) [
            | inl less ↦ (let o = less.1 in absurd (distinct p q (omega arith) (omega arith) h))
            | inr more ↦ (let o = more.1 in absurd (distinct q p (omega arith) (omega arith) (sym h)))
          ])
        ];
  }
