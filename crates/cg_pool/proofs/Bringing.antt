-- What a worker has after each line, and what two bring back together.
use Rattle.std.proofs.Common.{◌≡◌, ℕ, suc, ◌+◌, ◌-◌, ◌<◌, ◌≤◌, List, [], ◌∷◌, ◌++◌, length, Option, true, refl, sym, ap, ◌∙◌, subst, arith, nat_cmp}
use Rattle.std.specs.FinMap as map
use Rattle.std.specs.Prelude as list
use Rattle.std.proofs.lemmas.List.{map-append}
use Rattle.std.specs.Prelude.{◌||◌}
use Rattle.std.proofs.lemmas.List.Elements.{All-nil, All-push, All-append, All-weaker}
use Rattle.cg_cells.specs.Meaning.{Grows}
use Rattle.cg_cells.specs.Store.{thing_at}
use Rattle.cg_cells.specs.Views.{ViewOf, a_split, a_join, makes, known_of, knows, after_split, split_off, after_meet}
use Rattle.cg_cells.specs.Table.{passes_of}
use Rattle.cg_shared.specs.Passes.{CellsOf, PassOf, IsPassOf, pass_state}
use Rattle.cg_pool.specs.Answers.{numbers, AllAreGood, HasAnswered, IsBrought, line_at}

module _ {A : Type 0} where
  numbers_push : (all : List (ℕ × A)) (n : ℕ) (a : A) → numbers (all ++ (n, a) ∷ []) ≡ numbers all ++ n ∷ []
  numbers_push [] n a = refl
  numbers_push (b ∷ rest) n a = ap (λ ns. b.0 ∷ ns) (numbers_push rest n a)

  numbers_append : (xs ys : List (ℕ × A)) → numbers (xs ++ ys) ≡ numbers xs ++ numbers ys
  numbers_append [] ys = refl
  numbers_append (x ∷ xs) ys = ap (λ ns. x.0 ∷ ns) (numbers_append xs ys)

-- what was known before a draw that gave a ticket is known after it
pub drawn_knows : {X : Type 0} (n spare : ℕ) (v w : ViewOf X) → w ≡ record v {
  spare = spare;
  tickets = v.tickets ++ n ∷ [];
  made = w.made;
} → Grows (knows v) (knows w)
drawn_knows {X} n spare v w drew i t e = subst (λ (u : ViewOf X). knows u i ≡ Rattle.std.proofs.Common.Some t) (sym drew) e

module _ {X A : Type 0} (good : ℕ → A → map.FinMap nat_cmp X → Type 0) (order : List ℕ) (cells : CellsOf) where
  -- What a worker has before each draw: its answers so far, one for the line of each ticket, each good
  pub record IsUnderWay (passes : ℕ) (all : List (ℕ × A)) (p : PassOf X) : Type 0 where
    pub own : IsPassOf cells p
    pub tickets : numbers all ≡ list.map (line_at order) p.sees.tickets
    pub are_good : AllAreGood good (pass_state p).known all
    pub stands_for : passes_of p.sees ≡ passes

module _ {X A : Type 0} (good : ℕ → A → map.FinMap nat_cmp X → Type 0) (stays : (n : ℕ) (a : A) (f g : map.FinMap nat_cmp X) → Grows (map.get f)
    (map.get g) → good n a f → good n a g) (order : List ℕ) (cells : CellsOf) where
  pub sets_out : (all : List (ℕ × A)) (p : PassOf X) → all ≡ [] → IsPassOf cells p → p.sees.tickets ≡ [] → IsUnderWay good order cells (passes_of p.sees) all p
  sets_out all p empty own none = subst (λ l. IsUnderWay good order cells (passes_of p.sees) l p) (sym empty) (record {
    own = own;
    tickets = ap (list.map (line_at order)) (sym none);
    are_good = All-nil (λ (a : ℕ × A). good a.0 a.1 (pass_state p).known);
    stands_for = refl;
  })

  good_under : (f g : map.FinMap nat_cmp X) (all : List (ℕ × A)) → Grows (map.get f) (map.get g) → AllAreGood good f all → AllAreGood good g all
  good_under f g all grows h = All-weaker (λ (a : ℕ × A). good a.0 a.1 f) (λ (a : ℕ × A). good a.0 a.1 g) (λ a x. stays a.0 a.1 f g grows x) all h

  -- a draw that gave a ticket
  module _ (passes n spare : ℕ) (all all' : List (ℕ × A)) (a : A) (p q r : PassOf X) (U : IsUnderWay good order cells passes all p)
      (drew : q.sees ≡ record p.sees { spare = spare; tickets = p.sees.tickets ++ n ∷ []; made = q.sees.made }) (N : HasAnswered good cells (line_at order n) q
      a r) (pushed : all' ≡ all
      ++ (line_at order n, a) ∷ []) where
    grown : Grows (knows p.sees) (knows r.sees)
    grown i t e = N.known i t (drawn_knows n spare p.sees q.sees drew i t e)

    pub goes_on : IsUnderWay good order cells passes all' r
    goes_on = record {
      own = N.own;
      tickets = ap numbers pushed ∙ numbers_push all (line_at order n) a ∙ ap (λ ns. ns ++ line_at order n ∷ []) U.tickets
          ∙ sym (map-append (line_at order) p.sees.tickets (n ∷ [])) ∙ sym (ap (λ v. list.map (line_at order) v.tickets) drew)
          ∙ sym (ap (list.map (line_at order)) N.tickets);
      are_good = subst (AllAreGood good (pass_state r).known) (sym pushed)
          (All-push (λ (b : ℕ × A). good b.0 b.1 (pass_state r).known) all (line_at order n, a) (good_under (known_of p.sees) (known_of r.sees) all grown
          U.are_good) N.is_good);
      stands_for = N.passes ∙ ap passes_of drew ∙ U.stands_for;
    }

  -- a draw that gave none
  pub comes_back : (passes : ℕ) (all : List (ℕ × A)) (p q : PassOf X) → IsUnderWay good order cells passes all p → IsPassOf cells q → q.sees ≡ record
      p.sees { over = true; made = q.sees.made } → IsBrought good order cells passes all q
  comes_back passes all p q U own is = record {
    own = own;
    tickets = U.tickets ∙ sym (ap (λ v. list.map (line_at order) v.tickets) is);
    are_good = subst (λ (v : ViewOf X). AllAreGood good (known_of v) all) (sym is) U.are_good;
    stands_for = ap passes_of is ∙ U.stands_for;
    over = ap (λ v. v.over) is;
  }

  pub brought_both : (m n : ℕ) (xs ys all : List (ℕ × A)) (p q r : PassOf X) → IsBrought good order cells m xs p → IsBrought good order cells n ys q → IsPassOf
      cells r → r.sees ≡ after_meet (makes (a_join ∷ []) p.sees) q.sees
      → Grows (thing_at (pass_state p)) (thing_at (pass_state r)) × Grows (thing_at (pass_state q)) (thing_at (pass_state r)) → all ≡ xs ++ ys →
      IsBrought good order cells (m + n) all r
  brought_both m n xs ys all p q r P Q own is grows same = record {
    own = own;
    tickets = ap numbers same ∙ numbers_append xs ys ∙ (λ i. P.tickets i ++ Q.tickets i)
        ∙ sym (map-append (line_at order) p.sees.tickets q.sees.tickets) ∙ sym (ap (λ v. list.map (line_at order) v.tickets) is);
    are_good = subst (AllAreGood good (known_of r.sees)) (sym same)
        (All-append (λ (b : ℕ × A). good b.0 b.1 (known_of r.sees)) xs ys (good_under (known_of p.sees) (known_of r.sees) xs grows.0 P.are_good)
        (good_under (known_of q.sees) (known_of r.sees) ys grows.1 Q.are_good));
    stands_for = let a = P.stands_for in let b = Q.stands_for in let c = ap passes_of is in omega arith;
    over = ap (λ v. v.over) is ∙ ap (λ b. b || q.sees.over) P.over;
  }

-- the passes of a pass and of one that was split off it
pub split_passes : {X : Type 0} (workers : ℕ) (v a b : ViewOf X) → workers ≡ v.heirs + 1 → 1 < workers → a ≡ after_split (workers - 2)
    (makes (a_split (workers - 2) ∷ []) v) → b ≡
    split_off (workers - 2) v → passes_of a + passes_of b ≡ passes_of v
split_passes workers v a b is more p q = let e = ap passes_of p in let f = ap passes_of q in omega arith
