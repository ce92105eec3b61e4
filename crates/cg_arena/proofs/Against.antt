-- The unreduced game compared with the games at indexes.
use Rattle.std.proofs.Common.{◌≡◌, refl, ℕ, ◌<◌, ◌⊎◌, inl, inr, arith, ap, sym, ◌∙◌, List, [], ◌∷◌, Bool, IsTrue, Some, true, false, not, ◌&&◌, cond}
use Rattle.cg_dyadic.proofs.Truth.{and_swap, differ, false-from}
use Rattle.cg_form.specs.Depth.{deepest, depth_of}
use Rattle.cg_form.specs.Game.{Among, Game, lefts, node, rights}
use Rattle.cg_form.specs.Order.{no_one}
use Rattle.cg_form.specs.Side.{at_most, chosen, far, near}
use Rattle.cg_form.proofs.Among.{lefts-node, rights-node}
use Rattle.cg_form.proofs.Order.{le-options, no_one-each}
use Rattle.cg_form.proofs.Sides.{far-node, near-node, side_turned}
use Rattle.cg_arena.specs.declared.order_memo.OrderMemo.{OrderMemo}
use Rattle.cg_arena.specs.declared.verdicts.Verdicts.{Verdicts}
use Rattle.cg_arena.specs.declared.unreduced.Unreduced.{Unreduced}
use Rattle.cg_arena.specs.Arena.{AreIndexes, IsIndex, game_of, games_of}
use Rattle.cg_arena.specs.Verdict.{verdict}
use Rattle.cg_arena.specs.UnreducedGames.{AreKnown, unreduced_game}

-- ---- verdicts

-- with one verdict more
pub known_more : (gs : List Game) (w : Unreduced) (answers : OrderMemo) (v x : Verdicts) (left : Bool) (index : ℕ) (answer : Bool)
    → AreKnown gs w answers v → IsIndex gs index → answer ≡ at_most left (game_of gs index) (unreduced_game gs w)
    → ((l : Bool) (c : ℕ) (r : Bool) → verdict x l c ≡ Some r → (verdict v l c ≡ Some r) ⊎ ((l ≡ left) × (c ≡ index) × (r ≡ answer)))
    → AreKnown gs w answers x
known_more gs w answers v x left index answer h here o more = record {
  unreduced = h.unreduced;
  verdicts = record {
    each = λ l c r e. elim (more l c r e) [
      | inl q ↦ h.verdicts.each l c r q
      | inr q ↦
          rw q.1 (rw q.0 (here, q.2 ∙ o))
    ];
  };
  right = h.right;
}

-- ---- the lists of one side

swapped : (left : Bool) (ls rs : List ℕ) → cond left rs ls ≡ cond (not left) ls rs
swapped true ls rs = refl
swapped false ls rs = refl

-- the options of a game on one side, as they were read
pub record OneSide (gs : List Game) (h : Game) (hs : List Game) (own : List ℕ) : Type 0 where
  pub indexes : AreIndexes gs own
  pub depth : deepest (games_of gs own) < depth_of h
  pub same : games_of gs own ≡ hs

one_side : (gs : List Game) (h : Game) (ls rs : List ℕ) (left : Bool)
    → AreIndexes gs ls × AreIndexes gs rs × (h ≡ node (games_of gs ls) (games_of gs rs))
    → OneSide gs h (chosen left (games_of gs ls) (games_of gs rs)) (cond left ls rs)
one_side gs h ls rs true r = let m = ap depth_of r.2 in record { indexes = r.0; depth = omega arith; same = refl }
one_side gs h ls rs false r = let m = ap depth_of r.2 in record { indexes = r.1; depth = omega arith; same = refl }

pub near_side : (gs : List Game) (h : Game) (ls rs own : List ℕ) (left : Bool)
    → AreIndexes gs ls × AreIndexes gs rs × (h ≡ node (games_of gs ls) (games_of gs rs)) → own ≡ cond left ls rs
    → OneSide gs h (near left h) own
near_side gs h ls rs own left r c =
    rw c (rw (ap (near left) r.2 ∙ near-node left (games_of gs ls) (games_of gs rs)) (one_side gs h ls rs left r))

swapped_lists : (left : Bool) (ls rs : List Game) → chosen (not left) ls rs ≡ chosen left rs ls
swapped_lists true ls rs = refl
swapped_lists false ls rs = refl

pub far_side : (gs : List Game) (h : Game) (ls rs own : List ℕ) (left : Bool)
    → AreIndexes gs ls × AreIndexes gs rs × (h ≡ node (games_of gs ls) (games_of gs rs)) → own ≡ cond left rs ls
    → OneSide gs h (far left h) own
far_side gs h ls rs own left r c =
    rw (c ∙ swapped left ls rs)
    (rw (← (swapped_lists left (games_of gs ls) (games_of gs rs) ∙ sym (ap (far left) r.2 ∙ far-node left (games_of gs ls) (games_of gs rs))))
    (one_side gs h ls rs (not left) r))

-- the other side's options of the unreduced game
far_games : (gs : List Game) (w : Unreduced) (left : Bool) → games_of gs (cond (not left) w.lefts.now w.rights.now) ≡ far left (unreduced_game gs w)
far_games gs w true = sym (rights-node (games_of gs w.lefts.now) (games_of gs w.rights.now))
far_games gs w false = sym (lefts-node (games_of gs w.lefts.now) (games_of gs w.rights.now))

pub far_own : (gs : List Game) (w : Unreduced) (left : Bool) (own : List ℕ) → own ≡ cond (not left) w.lefts.now w.rights.now
    → games_of gs own ≡ far left (unreduced_game gs w)
far_own gs w left own e = ap (games_of gs) e ∙ far_games gs w left

-- ---- the order by sides

-- as the other player sees it
pub turned_list : (s : Bool) (g : Game) (gs : List Game) → no_one (at_most (not s) g) gs ≡ no_one (λ b. at_most s b g) gs
turned_list s g [] = refl
turned_list s g (h ∷ gs) =
    ap (λ z. not z && no_one (at_most (not s) g) gs) (side_turned s g h) ∙ ap (λ z. not (at_most s h g) && z) (turned_list s g gs)

pub some_passes : (p : Game → Bool) (x : Game) (gs : List Game) → Among x gs → IsTrue (p x) → no_one p gs ≡ false
some_passes p x gs m h = false-from (no_one p gs) (λ t. differ (p x) h (no_one-each p gs t x m))

side_options : (left : Bool) (h g : Game)
    → at_most left h g ≡ (no_one (λ b. at_most left b h) (far left g) && no_one (λ a. at_most (not left) a g) (near left h))
side_options true h g =
    le-options h g ∙ and_swap (no_one (λ a. at_most false a g) (lefts h)) (no_one (λ b. at_most true b h) (rights g))
side_options false h g = le-options g h

-- some option of the other side is in the way
pub hindered : (left : Bool) (h g : Game) (xs : List Game) (u : Bool) → xs ≡ far left g
    → u ≡ no_one (λ b. at_most left b h) xs → u ≡ false → false ≡ at_most left h g
hindered left h g xs u b e q =
    sym (side_options left h g ∙ ap (λ z. z && no_one (λ a. at_most (not left) a g) (near left h))
    (ap (no_one (λ b. at_most left b h)) (sym b) ∙ sym e ∙ q))

-- no option of the other side is in the way, and the second list decides
pub unhindered : (left : Bool) (h g : Game) (xs ys : List Game) (u : Bool) → xs ≡ far left g → ys ≡ near left h
    → u ≡ no_one (λ b. at_most left b h) xs → u ≡ true → no_one (λ a. at_most (not left) a g) ys ≡ at_most left h g
unhindered left h g xs ys u b d e q =
    sym (side_options left h g ∙ ap (λ z. z && no_one (λ a. at_most (not left) a g) (near left h))
    (ap (no_one (λ b. at_most left b h)) (sym b) ∙ sym e ∙ q)
    ∙ ap (no_one (λ a. at_most (not left) a g)) (sym d))
