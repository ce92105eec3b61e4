-- The games of a list of indexes that are kept, and the best of them.
use Rattle.std.proofs.Common.{◌≡◌, refl, ℕ, zero, suc, ◌+◌, ◌<◌, ◌≤◌, arith, ap, sym, subst, ◌∙◌, List, [], ◌∷◌, ◌++◌, take, drop, get_or, length}
use Rattle.std.proofs.Common.{Bool, true, false, cond}
use Rattle.std.specs.List.{Contains, remove}
use Rattle.std.proofs.lemmas.List.{take_all}
use Rattle.std.proofs.lemmas.List.Elements.{All-append, All-contains, All-contains_itself, All-drop, All-take}
use Rattle.std.specs.List.Sorted.{IsPermutation}
use Rattle.std.proofs.lemmas.List.Sorted.{All-permutation, IsPermutation-sym}
use Rattle.cg_form.specs.Best.{keep}
use Rattle.cg_form.specs.Game.{Among, Game}
use Rattle.cg_form.proofs.Best.{append_nil}
use Rattle.cg_arena.specs.Arena.{AreIndexes, IsIndex, game_of, games_of}
use Rattle.cg_arena.specs.Undominated.{Undominated, with_last}
use Rattle.cg_arena.proofs.Slices.{game_there, games_take_suc, member_of}
use Rattle.cg_arena.proofs.Undominating.{keep-last, undominated_same_games, undominated_step}

pub games_take_more : (gs : List Game) (ps : List ℕ) (i k : ℕ) → i < length ps → k ≡ get_or ps i 0
    → games_of gs (take (i + 1) ps) ≡ games_of gs (take i ps) ++ game_of gs k ∷ []
games_take_more gs ps i k l e =
    let one : i + 1 ≡ suc i = omega arith in
    ap (λ n. games_of gs (take n ps)) one ∙ games_take_suc gs ps i 0 l ∙ ap (λ z. games_of gs (take i ps) ++ game_of gs z ∷ []) (sym e)

-- ---- the games that are kept

keep_more : (gs : List Game) (p : Game → Bool) (ps : List ℕ) (i k : ℕ) → i < length ps → k ≡ get_or ps i 0
    → keep p (games_of gs (take (i + 1) ps)) ≡ keep p (games_of gs (take i ps)) ++ cond (p (game_of gs k)) (game_of gs k ∷ []) []
keep_more gs p ps i k l e =
    ap (keep p) (games_take_more gs ps i k l e) ∙ keep-last p (games_of gs (take i ps)) (game_of gs k)

pub keep_left : (gs : List Game) (p : Game → Bool) (ps : List ℕ) (us : List Game) (i k : ℕ)
    → us ≡ keep p (games_of gs (take i ps)) → i < length ps → k ≡ get_or ps i 0 → p (game_of gs k) ≡ false
    → us ≡ keep p (games_of gs (take (i + 1) ps))
keep_left gs p ps us i k h l e f =
    h ∙ sym (keep_more gs p ps i k l e ∙ ap (λ z. keep p (games_of gs (take i ps)) ++ cond z (game_of gs k ∷ []) []) f
    ∙ append_nil (keep p (games_of gs (take i ps))))

pub keep_taken : (gs : List Game) (p : Game → Bool) (ps : List ℕ) (us ws : List Game) (i k : ℕ)
    → us ≡ keep p (games_of gs (take i ps)) → i < length ps → k ≡ get_or ps i 0 → p (game_of gs k) ≡ true
    → ws ≡ us ++ game_of gs k ∷ [] → ws ≡ keep p (games_of gs (take (i + 1) ps))
keep_taken gs p ps us ws i k h l e f q =
    q ∙ ap (λ z. z ++ game_of gs k ∷ []) h
    ∙ sym (keep_more gs p ps i k l e ∙ ap (λ z. keep p (games_of gs (take i ps)) ++ cond z (game_of gs k ∷ []) []) f)

-- ---- the games that aren't kept are taken out of the list, one after the other

pub take_none : (ps : List ℕ) → take 0 ps ≡ []
take_none [] = refl
take_none (p ∷ ps) = refl

keep_removed : (gs : List Game) (p : Game → Bool) (ps : List ℕ) (i k : ℕ) → i < length ps → k ≡ get_or ps i 0 → p (game_of gs k) ≡ false
    → keep p (games_of gs (remove ps i)) ≡ keep p (games_of gs ps)
keep_removed gs p [] i k l e f = absurd (omega arith)
keep_removed gs p (m ∷ ps) zero k l e f =
    let no : p (game_of gs m) ≡ false = ap (λ z. p (game_of gs z)) (sym e) ∙ f in
    rw no refl
keep_removed gs p (m ∷ ps) (suc i) k l e f =
    ap (λ z. cond (p (game_of gs m)) (game_of gs m ∷ z) z) (keep_removed gs p ps i k (omega arith) e f)

take_removed : (ps : List ℕ) (i : ℕ) → i < length ps → take i (remove ps i) ≡ take i ps
take_removed [] i l = absurd (omega arith)
take_removed (m ∷ ps) zero l = take_none (remove (m ∷ ps) zero)
take_removed (m ∷ ps) (suc i) l = ap (λ z. m ∷ z) (take_removed ps i (omega arith))

-- of the list, as it is now, the games up to this place are kept
pub record Taking (gs : List Game) (p : Game → Bool) (old ps : List ℕ) (at : ℕ) : Type 0 where
  pub same : keep p (games_of gs ps) ≡ keep p (games_of gs old)
  pub first : keep p (games_of gs (take at ps)) ≡ games_of gs (take at ps)
  pub indexes : AreIndexes gs ps

pub taking_none : (gs : List Game) (p : Game → Bool) (ps : List ℕ) → AreIndexes gs ps → Taking gs p ps ps 0
taking_none gs p ps a =
    let P : List ℕ → Type 0 = λ z. keep p (games_of gs z) ≡ games_of gs z in
    record { same = refl; first = subst P (sym (take_none ps)) refl; indexes = a }

pub taking_out : (gs : List Game) (p : Game → Bool) (old ps qs : List ℕ) (at k : ℕ) → Taking gs p old ps at → at < length ps
    → k ≡ get_or ps at 0 → p (game_of gs k) ≡ false → qs ≡ remove ps at → Taking gs p old qs at
taking_out gs p old ps qs at k h l e f q =
    let P : List ℕ → Type 0 = λ z. Taking gs p old z at in
    let Q : List ℕ → Type 0 = λ z. keep p (games_of gs z) ≡ games_of gs z in
    subst P (sym q) (record {
      same = keep_removed gs p ps at k l e f ∙ h.same;
      first = subst Q (sym (take_removed ps at l)) h.first;
      indexes = All-append (IsIndex gs) (take at ps) (drop (suc at) ps) (All-take (IsIndex gs) at ps h.indexes)
          (All-drop (IsIndex gs) (suc at) ps h.indexes);
    })

pub taking_past : (gs : List Game) (p : Game → Bool) (old ps : List ℕ) (at k : ℕ) → Taking gs p old ps at → at < length ps
    → k ≡ get_or ps at 0 → p (game_of gs k) ≡ true → Taking gs p old ps (at + 1)
taking_past gs p old ps at k h l e t = record {
  same = h.same;
  first = keep_more gs p ps at k l e ∙ ap (λ z. z ++ cond (p (game_of gs k)) (game_of gs k ∷ []) []) h.first
      ∙ ap (λ z. games_of gs (take at ps) ++ cond z (game_of gs k ∷ []) []) t ∙ sym (games_take_more gs ps at k l e);
  indexes = h.indexes;
}

pub taken_out : (gs : List Game) (p : Game → Bool) (old ps : List ℕ) (at : ℕ) → Taking gs p old ps at → length ps ≤ at
    → games_of gs ps ≡ keep p (games_of gs old)
taken_out gs p old ps at h l =
    let P : List ℕ → Type 0 = λ z. games_of gs z ≡ keep p (games_of gs z) in
    subst P (take_all at ps l) (sym h.first) ∙ h.same

-- ---- the best

pub undominated_next : (gs : List Game) (left : Bool) (ps : List ℕ) (us ws : List Game) (i k : ℕ)
    → Undominated left (games_of gs (take i ps)) us → i < length ps → k ≡ get_or ps i 0 → ws ≡ with_last left us (game_of gs k)
    → Undominated left (games_of gs (take (i + 1) ps)) ws
undominated_next gs left ps us ws i k h l e q =
    rw (games_take_more gs ps i k l e) (rw q (undominated_step left (games_of gs (take i ps)) us (game_of gs k) h))

-- ---- the same indexes in another order

pub indexes_moved : (gs : List Game) (ps qs : List ℕ) → IsPermutation ps qs → AreIndexes gs ps → AreIndexes gs qs
indexes_moved gs ps qs p a = All-permutation (IsIndex gs) ps qs p a

games_moved : (gs : List Game) (ps qs : List ℕ) → IsPermutation ps qs → (x : Game) → Among x (games_of gs qs) → Among x (games_of gs ps)
games_moved gs ps qs p x m =
    let (k, there, e) = member_of gs qs x m in
    rw e (game_there gs ps k (All-contains (Contains ps) qs k (All-permutation (Contains ps) ps qs p (All-contains_itself ps)) there))

pub undominated_moved : (gs : List Game) (left : Bool) (ps qs : List ℕ) (us : List Game) → IsPermutation ps qs → Undominated left (games_of gs qs) us
    → Undominated left (games_of gs ps) us
undominated_moved gs left ps qs us p t =
    undominated_same_games left (games_of gs qs) (games_of gs ps) us (games_moved gs ps qs p) (games_moved gs qs ps (IsPermutation-sym ps qs p)) t
