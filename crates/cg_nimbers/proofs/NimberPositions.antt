-- The positions of nimbers.
use Rattle.std.proofs.Common.{◌≡◌, refl, append_assoc, append-nil, ℕ, ◌+◌, arith, zero, suc, inl, inr}
use Rattle.std.proofs.Common.{ap, sym, ◌∙◌, List, [], ◌∷◌, ◌++◌, length, length-append, add-one, true}
use Rattle.cg_form.specs.Game.{Among, Game, of_list}
use Rattle.cg_form.proofs.Among.{among-append, carry}
use Rattle.cg_form.proofs.Preorder.{at_right, le_refl}
use Rattle.cg_form.specs.Positions.{all_positions, once, positions_in, positions_of}
use Rattle.cg_nimbers.specs.Nimbers.{nimber_form, nimber_over, nimbers_below}
use Rattle.cg_nimbers.proofs.NimberLists.{among_nimbers, nimbers_apart, nimbers_below-next}
use Rattle.cg_form.proofs.Once.{once-known_new, once_among}

positions_in-append : (gs hs : List Game)
    → positions_in (of_list (gs ++ hs)) ≡ positions_in (of_list gs) ++ positions_in (of_list hs)
positions_in-append [] hs = refl
positions_in-append (g ∷ gs) hs =
    ap (λ z. all_positions g ++ z) (positions_in-append gs hs)
    ∙ sym (append_assoc (all_positions g) (positions_in (of_list gs)) (positions_in (of_list hs)))

-- those of the options, twice, and the nimber itself
over_positions : (gs : List Game) → all_positions (nimber_over gs)
    ≡ positions_in (of_list gs) ++ (positions_in (of_list gs) ++ (nimber_over gs ∷ []))
over_positions [] = refl
over_positions (g ∷ gs) =
    let all : List Game = positions_in (of_list (g ∷ gs)) in
    append_assoc all all (nimber_over (g ∷ gs) ∷ [])

-- a nimber is none of the lesser ones
not_below : (k : ℕ) → ¬ Among (nimber_form k) (nimbers_below k)
not_below k m =
    let (i, l, e) = among_nimbers (nimber_form k) k m in
    let same : k ≡ i = nimbers_apart true k i (at_right (nimber_form i) (nimber_form k) (nimber_form k) (sym e)
    (le_refl (nimber_form k))) in
    omega arith

-- the positions of all that are below k are these
below_once : (k : ℕ) → once (positions_in (of_list (nimbers_below k))) ≡ nimbers_below k
unfolding nimbers_below nimber_form
below_once zero = refl
below_once (suc k) =
    let all : List Game = positions_in (of_list (nimbers_below k)) in
    let g : Game = nimber_form k in
    let start : positions_in (of_list (nimbers_below (suc k))) ≡ all ++ ((all ++ all) ++ (g ∷ [])) =
    ap (λ z. positions_in (of_list z)) (nimbers_below-next k) ∙ positions_in-append (nimbers_below k) (g ∷ [])
    ∙ ap (λ z. all ++ z) (append-nil (all_positions g) ∙ over_positions (nimbers_below k)
    ∙ sym (append_assoc all all (g ∷ []))) in
    ap once start ∙ once-known_new all (all ++ all) g (λ h m. elim (among-append h all all m) [ inl n ↦ n | inr n ↦ n ])
    (λ m. not_below k (carry g (once all) (nimbers_below k) (below_once k) (once_among g all m)))
    ∙ ap (λ z. z ++ (g ∷ [])) (below_once k) ∙ sym (nimbers_below-next k)

-- 0, *1, .., *k
pub nimber-positions : (k : ℕ) → positions_of (nimber_form k) ≡ nimbers_below (suc k)
unfolding positions_of nimber_form
nimber-positions k =
    let all : List Game = positions_in (of_list (nimbers_below k)) in
    let g : Game = nimber_form k in
    ap once (over_positions (nimbers_below k)) ∙ once-known_new all all g (λ h m. m)
    (λ m. not_below k (carry g (once all) (nimbers_below k) (below_once k) (once_among g all m)))
    ∙ ap (λ z. z ++ (g ∷ [])) (below_once k) ∙ sym (nimbers_below-next k)

pub length-nimbers_below : (k : ℕ) → length (nimbers_below k) ≡ k
unfolding nimbers_below
length-nimbers_below zero = refl
length-nimbers_below (suc k) =
    ap length (nimbers_below-next k) ∙ length-append (nimbers_below k) (nimber_form k ∷ [])
    ∙ ap (λ (n : ℕ). n + 1) (length-nimbers_below k) ∙ add-one k

pub length-nimber_positions : (k : ℕ) → length (positions_of (nimber_form k)) ≡ k + 1
length-nimber_positions k = ap length (nimber-positions k) ∙ length-nimbers_below (suc k) ∙ sym (add-one k)
