-- Lists of nimbers in their order.
use Rattle.std.proofs.Common.{◌≡◌, ℕ, suc, ◌<◌, arith, refl, ap, sym, ◌∙◌, subst, List, [], ◌∷◌, ◌++◌, true, length}
use Rattle.cg_cells.specs.Meaning.{Grows}
use Rattle.cg_cells.specs.Store.{State, thing_at}
use Rattle.cg_dyadic.specs.Number.{Number}
use Rattle.cg_form.specs.Game.{Game, lefts, node, number}
use Rattle.cg_form.proofs.Among.{lefts-node}
use Rattle.cg_nimbers.proofs.NimberLists.{near-nimber, nimbers_below-next}
use Rattle.cg_nimbers.proofs.NimberPositions.{length-nimbers_below}
use Rattle.cg_nimbers.specs.Nimbers.{nimber_form, nimber_over, nimbers_below}
use Rattle.cg_nodes.proofs.Later.{stands_game, stands_later}
use Rattle.cg_nodes.proofs.Members.{length_games}
use Rattle.cg_nodes.specs.Games.{AreGames, StandFor, StandsFor, game_at, games_at}
use Rattle.cg_nodes.specs.Meant.{Meant}
use Rattle.cg_canon.proofs.HandleLists.{stand_more}
use Rattle.cg_sum.specs.Firsts.{AreFirst}

-- ---- lists of nimbers in their order

module _ {R : Type 0} (s : State Meant R) (hs : List ℕ) where
  pub order_count : (n : ℕ) → StandFor s hs (nimbers_below n) → length hs ≡ n
  order_count n st = sym (length_games s hs) ∙ ap length st.1 ∙ length-nimbers_below n

-- ---- the options of a nimber

pub no_lesser : (x : Number) (n : ℕ) → nimber_form n ≡ number x → nimbers_below n ≡ []
unfolding nimber_form
no_lesser x n e = over_none (nimbers_below n) e
  where
    over_none : (gs : List Game) → nimber_over gs ≡ number x → gs ≡ []
    over_none [] d = refl
    over_none (g ∷ gs) d = absurd (cc)

pub lesser_games : (ls rs : List Game) (n : ℕ) → nimber_form n ≡ node ls rs → ls ≡ nimbers_below n
lesser_games ls rs n e = sym (lefts-node ls rs) ∙ ap lefts (sym e) ∙ near-nimber true n

module _ {R Q : Type 0} (s : State Meant R) (t : State Meant Q) (h n : ℕ) where
  pub lesser_none : (x : Number) (hs : List ℕ) → StandsFor s h (nimber_form n) → game_at s h ≡ number x → hs ≡ []
      → StandFor t hs (nimbers_below n)
  lesser_none x hs st e none =
      let P : List ℕ → Type 0 = λ z. StandFor t z (nimbers_below n) in
      let V : List Game → Type 0 = λ z. StandFor t [] z in
      subst P (sym none) (subst V (sym (no_lesser x n (sym (stands_game s h (nimber_form n) st) ∙ e))) (tt, refl))

  pub lesser_read : (ls rs hs : List ℕ) → StandsFor s h (nimber_form n)
      → AreGames t ls × AreGames t rs × (game_at s h ≡ node (games_at t ls) (games_at t rs)) → hs ≡ ls → StandFor t hs (nimbers_below n)
  lesser_read ls rs hs st w same =
      let P : List ℕ → Type 0 = λ z. StandFor t z (nimbers_below n) in
      subst P (sym same) (w.0, lesser_games (games_at t ls) (games_at t rs) n (sym (stands_game s h (nimber_form n) st) ∙ w.2))

  -- with the nimber itself
  pub up_to : Grows (thing_at s) (thing_at t) → (hs ks : List ℕ) → StandsFor s h (nimber_form n) → StandFor t hs (nimbers_below n)
      → ks ≡ hs ++ (h ∷ []) → AreFirst t ks × (n < length ks)
  up_to grows hs ks st below e =
      let P : List ℕ → Type 0 = λ z. StandFor t z (nimbers_below (suc n)) in
      let V : List Game → Type 0 = λ z. StandFor t (hs ++ (h ∷ [])) z in
      let N : ℕ → Type 0 = λ z. StandFor t ks (nimbers_below z) in
      let all = subst P (sym e) (subst V (sym (nimbers_below-next n))
      (stand_more t hs h (nimbers_below n) (nimber_form n) below (stands_later s t grows h (nimber_form n) st))) in
      let count = order_count t ks (suc n) all in
      (subst N (sym count) all, omega arith)
