-- Games in which a player cuts and what hangs on the cut falls: no cut is good for the player who makes it.
use Rattle.std.proofs.Common.{◌≡◌, ℕ, zero, suc, ◌<◌, Bool, true, false, not, ◌⊎◌, inl, inr, sym, ◌∙◌, subst, arith}
use Rattle.cg_dyadic.specs.Number.{Number}
use Rattle.cg_form.specs.Game.{Among, Game, lefts, number, rights}
use Rattle.cg_form.specs.Order.{Equal, Le}
use Rattle.cg_form.specs.Side.{AtMost, far, near}
use Rattle.cg_form.proofs.Preorder.{le_trans, not_le-left, not_le-right}
use Rattle.cg_form.proofs.Sides.{not_far, not_near, side_fold, side_refl, side_trans}
use Rattle.cg_form.proofs.NumberOptions.{number_between}

far-near : (s : Bool) (g a : Game) → Among a (far s g) → Among a (near (not s) g)
far-near true g a m = m
far-near false g a m = m

near-far : (s : Bool) (g a : Game) → Among a (near (not s) g) → Among a (far s g)
near-far true g a m = m
near-far false g a m = m

module _ {P : Type 0} (tree : P → Game) (bound : P → ℕ) (Fine : P → Type 0) (May : Bool → P → ℕ → Type 0)
    (cut : P → ℕ → P) where
  -- Each option of a side is a cut that it may make. Cuts may be made in either order. What a side might cut it may cut
  -- still after another cut, unless it is gone. And of a cut of a side and one of the other side at least one may still be
  -- made after the other.
  pub record IsCutting : Type 0 where
    pub fine : (p : P) (k : ℕ) → Fine p → Fine (cut p k)
    pub lowers : (s : Bool) (p : P) (k : ℕ) → Fine p → May s p k → bound (cut p k) < bound p
    pub option : (s : Bool) (p : P) (k : ℕ) → Fine p → May s p k → Among (tree (cut p k)) (near s (tree p))
    pub options : (s : Bool) (p : P) (g : Game) → Fine p → Among g (near s (tree p))
        → (k : ℕ) × May s p k × (g ≡ tree (cut p k))
    pub swap : (p : P) (k l : ℕ) → Fine p → cut (cut p k) l ≡ cut (cut p l) k
    pub stays : (s : Bool) (p : P) (k l : ℕ) → Fine p → May s p k → May s (cut p l) k ⊎ (cut (cut p l) k ≡ cut p l)
    pub before : (s : Bool) (p : P) (k l : ℕ) → Fine p → May s (cut p l) k → May s p k
    pub one : (s : Bool) (p : P) (k l : ℕ) → Fine p → May s p k → May (not s) p l
        → May s (cut p l) k ⊎ May (not s) (cut p k) l

  module _ (c : IsCutting) where
    -- a cut is no better for the side after another cut
    still : (n : ℕ) → ((s : Bool) (p : P) (k : ℕ) → Fine p → May s p k → bound p < n → AtMost s (tree (cut p k)) (tree p))
        → (s : Bool) (p : P) (k l : ℕ) → Fine p → May s p k → bound (cut p l) < n
        → AtMost s (tree (cut (cut p k) l)) (tree (cut p l))
    still n shown s p k l fine may below =
        let Q : P → Type 0 = λ q. AtMost s (tree q) (tree (cut p l)) in
        subst Q (sym (c.swap p k l fine)) (elim (c.stays s p k l fine may) [
          | inl m ↦ shown s (cut p l) k (c.fine p l fine) m below
          | inr e ↦ subst Q (sym e) (side_refl s (tree (cut p l)))
        ])

    at_most_within : (n : ℕ) (s : Bool) (p : P) (k : ℕ) → Fine p → May s p k → bound p < n
        → AtMost s (tree (cut p k)) (tree p)
    at_most_within zero s p k fine may below = absurd (omega arith)
    at_most_within (suc n) s p k fine may below = side_fold s (tree (cut p k)) (tree p) (record {
      on_near = λ a m h.
          let (l, after, e) = c.options s (cut p k) a (c.fine p k fine) m in
          let may_l = c.before s p l k fine after in
          let low = c.lowers s p l fine may_l in
          let Q : Game → Type 0 = λ z. AtMost s z (tree (cut p l)) in
          not_near s (tree p) (tree (cut p l)) (c.option s p l fine may_l) (side_trans s (tree p) a (tree (cut p l)) h
          (subst Q (sym e) (still n (at_most_within n) s p k l fine may (omega arith))));
      on_far = λ b m h.
          let (l, may_l, e) = c.options (not s) p b fine (far-near s (tree p) b m) in
          let low = c.lowers (not s) p l fine may_l in
          let Q : Game → Type 0 = λ z. AtMost s z (tree (cut p k)) in
          let there : AtMost s (tree (cut p l)) (tree (cut p k)) = subst Q e h in
          let less = still n (at_most_within n) s p k l fine may (omega arith) in
          let first : ¬ May (not s) (cut p k) l = λ w.
          not_far s (tree (cut p k)) (tree (cut (cut p k) l))
          (near-far s (tree (cut p k)) (tree (cut (cut p k) l)) (c.option (not s) (cut p k) l (c.fine p k fine) w))
          (side_trans s (tree (cut (cut p k) l)) (tree (cut p l)) (tree (cut p k)) less there) in
          elim (c.one s p k l fine may may_l) [
            | inr w ↦ first w
            | inl v ↦ elim (c.stays (not s) p l k fine may_l) [
              | inl w ↦ first w
              | inr f ↦
                  let R : P → Type 0 = λ q. Among (tree q) (near s (tree (cut p l))) in
                  not_near s (tree (cut p l)) (tree (cut p k))
                  (subst R (sym (c.swap p k l fine) ∙ f) (c.option s (cut p l) k (c.fine p l fine) v)) there
            ]
          ];
    })

    option-at_most : (s : Bool) (p : P) (a : Game) → Fine p → Among a (near s (tree p)) → AtMost s a (tree p)
    option-at_most s p a fine m =
        let (k, may, e) = c.options s p a fine m in
        let Q : Game → Type 0 = λ z. AtMost s z (tree p) in
        subst Q (sym e) (at_most_within (suc (bound p)) s p k fine may (omega arith))

    -- each Left option is less than the game, and each Right option greater
    pub left-less : (p : P) (a : Game) → Fine p → Among a (lefts (tree p)) → Le a (tree p) × (¬ Le (tree p) a)
    left-less p a fine m = (option-at_most true p a fine m, not_le-left (tree p) a m)

    pub right-greater : (p : P) (b : Game) → Fine p → Among b (rights (tree p)) → Le (tree p) b × (¬ Le b (tree p))
    right-greater p b fine m = (option-at_most false p b fine m, not_le-right (tree p) b m)

    options-equal : (n : ℕ) → ((p : P) → Fine p → bound p < n → (x : Number) × Equal (number x) (tree p))
        → (s : Bool) (p : P) (a : Game) → Fine p → bound p < suc n → Among a (near s (tree p))
        → (x : Number) × Equal (number x) a
    options-equal n shown s p a fine below m =
        let (k, may, e) = c.options s p a fine m in
        let low = c.lowers s p k fine may in
        let Q : Game → Type 0 = λ z. (x : Number) × Equal (number x) z in
        subst Q (sym e) (shown (cut p k) (c.fine p k fine) (omega arith))

    equals_within : (n : ℕ) (p : P) → Fine p → bound p < n → (x : Number) × Equal (number x) (tree p)
    equals_within zero p fine below = absurd (omega arith)
    equals_within (suc n) p fine below = number_between (tree p)
        (λ a m. options-equal n (equals_within n) true p a fine below m)
        (λ b m. options-equal n (equals_within n) false p b fine below m)
        (λ a b m k h. (left-less p a fine m).1 (le_trans (tree p) b a (right-greater p b fine k).0 h))

    -- so the game equals a number
    pub equals-number : (p : P) → Fine p → (x : Number) × Equal (number x) (tree p)
    equals-number p fine = equals_within (suc (bound p)) p fine (omega arith)
