-- The canonical form of an unreduced game: what stays of its value where dominated options are left out, and what replaces the others.
use Rattle.std.proofs.Common.{◌≡◌, ℕ, inl, inr, sym, ◌∙◌, subst, None, Option, Some, List, [], Bool, true, false}
use Rattle.cg_form.specs.Best.{Best}
use Rattle.cg_form.specs.Canonical.{IsCanonicalForm}
use Rattle.cg_form.specs.Bypass.{AllCovered, Fine, Grown, Replaces, kept}
use Rattle.cg_form.specs.Game.{Among, Game, lefts, node, number, rights}
use Rattle.cg_form.specs.Order.{Equal}
use Rattle.cg_form.specs.Simple.{NoNumber}
use Rattle.cg_form.proofs.Among.{carry, lefts-node, rights-node}
use Rattle.cg_form.proofs.EqualGames.{le-equal}
use Rattle.cg_form.proofs.Exists.{node_settled}
use Rattle.cg_form.proofs.Preorder.{equal_refl, equal_trans, le-cofinal, le_refl}
use Rattle.cg_form.proofs.Sides.{side_refl}
use Rattle.cg_arena.specs.declared.summary.Summary.{Summary}
use Rattle.cg_arena.specs.declared.verdicts.Verdicts.{Verdicts}
use Rattle.cg_arena.specs.declared.unreduced.Unreduced.{Unreduced}
use Rattle.cg_arena.specs.Keys.{AreKeys}
use Rattle.cg_arena.specs.Arena.{AreIndexes, games_of}
use Rattle.cg_arena.specs.Summaries.{HasCuts}
use Rattle.cg_arena.specs.Undominated.{Undominated}
use Rattle.cg_arena.specs.Verdict.{verdict}
use Rattle.cg_arena.specs.UnreducedGames.{AreVerdicts, UnreducedHolds, unreduced_game}

-- ---- the value without dominated options

-- what dominates stays, so the game stays equal
undominated_equal : (ls rs us vs : List Game) → Undominated true ls us → Undominated false rs vs → Equal (node us vs) (node ls rs)
undominated_equal ls rs us vs l r =
    let g : Game = node us vs in let h : Game = node ls rs in (
      le-cofinal g h
          (λ a m. (a, carry a ls (lefts h) (sym (lefts-node ls rs)) (l.inside a (carry a (lefts g) us (lefts-node us vs) m)), le_refl a))
          (λ b m. let (d, i, e) = r.top b (carry b (rights h) rs (rights-node ls rs) m) in
          (d, carry d vs (rights g) (sym (rights-node us vs)) i, e)),
      le-cofinal h g
          (λ a m. let (c, i, e) = l.top a (carry a (lefts h) ls (lefts-node ls rs) m) in
          (c, carry c us (lefts g) (sym (lefts-node us vs)) i, e))
          (λ b m. (b, carry b rs (rights h) (sym (rights-node ls rs)) (r.inside b (carry b (rights g) vs (rights-node us vs) m)), le_refl b)),
    )

no_number_equal : (g h : Game) → Equal g h → NoNumber h → NoNumber g
no_number_equal g h e n x f = n x (equal_trans (number x) g h f e)

cuts_equal : (g h : Game) (p : Summary) → Equal g h → HasCuts h p → HasCuts g p
cuts_equal g h p e k = record {
  low = record { tells = λ x a. le-equal (number x) g (number x) h (equal_refl (number x)) e ∙ k.low.tells x a };
  high = record { tells = λ x a. le-equal g (number x) h (number x) e (equal_refl (number x)) ∙ k.high.tells x a };
}

undominated_again : (s : Bool) (all undominated : List Game) → Undominated s all undominated → Undominated s undominated undominated
undominated_again s all undominated h = record { inside = λ x m. m; top = λ x m. (x, m, side_refl s x); apart = h.apart }

-- the game of the options ls and rs, and the unreduced game of their best
pub record OfUndominated (gs : List Game) (ls rs : List ℕ) (w : Unreduced) : Type 0 where
  pub holds : UnreducedHolds gs w
  pub lefts : Undominated true (games_of gs w.lefts.now) (games_of gs w.lefts.now)
  pub rights : Undominated false (games_of gs w.rights.now) (games_of gs w.rights.now)
  pub same : Equal (unreduced_game gs w) (node (games_of gs ls) (games_of gs rs))

pub of_undominated : (gs : List Game) (ls rs us vs : List ℕ) (w : Unreduced) → w.lefts.now ≡ us → w.rights.now ≡ vs → AreIndexes gs us
    → AreIndexes gs vs → Undominated true (games_of gs ls) (games_of gs us) → Undominated false (games_of gs rs) (games_of gs vs)
    → NoNumber (node (games_of gs ls) (games_of gs rs)) → HasCuts (node (games_of gs ls) (games_of gs rs)) w.summary
    → AreKeys w.summary w.keys → OfUndominated gs ls rs w
of_undominated gs ls rs us vs w e f a b l r never cuts keys =
    let P : List ℕ → Type 0 = λ z. AreIndexes gs z in
    let U : List ℕ → Type 0 = λ z. Undominated true (games_of gs ls) (games_of gs z) in
    let V : List ℕ → Type 0 = λ z. Undominated false (games_of gs rs) (games_of gs z) in
    let left = subst U (sym e) l in
    let right = subst V (sym f) r in
    let h : Game = node (games_of gs ls) (games_of gs rs) in
    let equal = undominated_equal (games_of gs ls) (games_of gs rs) (games_of gs w.lefts.now) (games_of gs w.rights.now) left right in
    record {
      holds = record {
        lefts = subst P (sym e) a;
        rights = subst P (sym f) b;
        no_number = no_number_equal (unreduced_game gs w) h equal never;
        cuts = cuts_equal (unreduced_game gs w) h w.summary equal cuts;
        keys = keys;
      };
      lefts = undominated_again true (games_of gs ls) (games_of gs w.lefts.now) left;
      rights = undominated_again false (games_of gs rs) (games_of gs w.rights.now) right;
      same = equal;
    }

-- ---- the options of one side

-- no verdicts yet
pub no_verdicts : (gs : List Game) (w : Unreduced) (v : Verdicts) → ((l : Bool) (a : ℕ) → verdict v l a ≡ None) → AreVerdicts gs w v
no_verdicts gs w v none = record { each = λ left index answer e. absurd (none_some (verdict v left index) answer (none left index) e) }
  where
    none_some : (o : Option Bool) (x : Bool) → o ≡ None → o ≡ Some x → ⊥
    none_some o x e f = cc

pub candidates_replace : (s : Bool) (g : Game) (old us new : List Game) → Grown s g [] us → AllCovered s g us old
    → Best s us new → Replaces s g old new
candidates_replace s g old us new grown covered best = record {
  candidates = us;
  covered = covered;
  fine = λ x m. elim (grown.fine x m) [ inl k ↦ absurd k | inr f ↦ f ];
  best = best;
}

-- where all may stay, they stand in their own place
pub replace_themselves : (s : Bool) (g : Game) (own new : List Game) → ((x : Game) → Among x own → Fine s g x) → Best s own new
    → Replaces s g own new
replace_themselves s g own new fine best = record {
  candidates = own;
  covered = record { each = λ c m. kept m };
  fine = fine;
  best = best;
}

-- ---- both sides

pub formed : (gs : List Game) (w : Unreduced) (ls rs : List ℕ) → NoNumber (unreduced_game gs w)
    → Replaces true (unreduced_game gs w) (games_of gs w.lefts.now) (games_of gs ls)
    → Replaces false (unreduced_game gs w) (games_of gs w.rights.now) (games_of gs rs)
    → IsCanonicalForm (unreduced_game gs w) (node (games_of gs ls) (games_of gs rs))
formed gs w ls rs never l r =
    node_settled (games_of gs w.lefts.now) (games_of gs w.rights.now) (games_of gs ls) (games_of gs rs) never l r

-- an equal game has the same canonical form
pub form_equal : (g h k : Game) → Equal g h → IsCanonicalForm g k → IsCanonicalForm h k
form_equal g h k e f = record { canonical = f.canonical; equal = equal_trans k g h f.equal e }
