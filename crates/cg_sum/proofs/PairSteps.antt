-- Two nimbers, and the own list of items of their sum.
use Rattle.std.proofs.Common.{◌≡◌, inl, inr, refl, ap, sym, ◌∙◌, subst, ℕ, suc, ◌+◌, ◌*◌, ◌<◌, ◌≤◌, arith, List, length, get_or, Result, Err}
use Rattle.std.specs.Prelude.{bit_xor}
use Rattle.cg_dyadic.proofs.Integers.{le_or_gt}
use Rattle.cg_canon.proofs.Keeping.{keeps_all}
use Rattle.cg_canon.proofs.MadeSteps.{made_as, read_then}
use Rattle.cg_canon.specs.Items.{Item}
use Rattle.cg_canon.specs.Made.{Gives, ItemsMade}
use Rattle.cg_canon.specs.SumItems.{pair_items, sum_items, within_limit}
use Rattle.cg_canon.specs.declared.fault.ValueFault.{ValueFault}
use Rattle.cg_canon.specs.declared.fault.ValueFault.TheVariants.{Positions}
use Rattle.cg_canon.specs.declared.rest.WorkRest.{WorkRest}
use Rattle.cg_cells.specs.Store.{Spends, State}
use Rattle.cg_form.specs.Game.{Game}
use Rattle.cg_form.specs.Sum.{sum}
use Rattle.cg_nimbers.proofs.NimberPositions.{length-nimbers_below, nimber-positions}
use Rattle.cg_nimbers.specs.Nimbers.{nimber_form, nimbers_below}
use Rattle.cg_nodes.proofs.Later.{game_later, stands_game}
use Rattle.cg_nodes.specs.Can.{can}
use Rattle.cg_nodes.specs.Games.{IsGame, StandsFor, game_at}
use Rattle.cg_nodes.specs.Meant.{Meant}
use Rattle.cg_form.specs.Positions.{positions_of}
use Rattle.cg_sum.specs.Firsts.{HoldsFirst, IsPair}
use Rattle.cg_sum.specs.declared.firsts.FirstNimbers.{FirstNimbers}
use Rattle.cg_sum.specs.declared.pair.NimberPair.{NimberPair}
use Rattle.cg_sum.proofs.FirstSteps.{can-nimber_sum, first_stands}
use Rattle.cg_sum.proofs.SumEnds.{all_within, limit_refused}

-- what isn't above is within
pub is_within : (x y : ℕ) → (x < y → ⊥) → y ≤ x
is_within x y f = elim (le_or_gt y x) [ inl within ↦ within | inr above ↦ absurd (f above) ]

-- ---- the own list of the sum of two nimbers

module _ {R : Type 0} (w : State Meant (WorkRest R)) (a b : ℕ) (pair : NimberPair) (is : IsPair w a b pair) where
  pub pair_list : (limit rows columns : ℕ) → rows ≡ pair.first + 1 → columns ≡ pair.second + 1
      → sum_items limit (game_at w a) (game_at w b)
      ≡ within_limit limit (rows * columns) (pair_items (nimbers_below rows) (nimbers_below columns))
  pair_list limit rows columns r c =
      let up : (h i k : ℕ) → StandsFor w h (nimber_form i) → k ≡ i + 1 → positions_of (game_at w h) ≡ nimbers_below k =
      λ h i k st e.
      let n : suc i ≡ k = omega arith in
      ap positions_of (stands_game w h (nimber_form i) st) ∙ nimber-positions i ∙ ap nimbers_below n in
      let fs = up a pair.first rows is.first r in
      let ks = up b pair.second columns is.second c in
      ap (λ z. within_limit limit (length z * length (positions_of (game_at w b))) (pair_items z (positions_of (game_at w b)))) fs
      ∙ ap (λ z. within_limit limit (length (nimbers_below rows) * length z) (pair_items (nimbers_below rows) z)) ks
      ∙ ap (λ z. within_limit limit (z * length (nimbers_below columns)) (pair_items (nimbers_below rows) (nimbers_below columns)))
      (length-nimbers_below rows)
      ∙ ap (λ z. within_limit limit (rows * z) (pair_items (nimbers_below rows) (nimbers_below columns)))
      (length-nimbers_below columns)

  -- more pairs of positions than the limit
  pub pair_refused : {T : Type 0} (rows columns : ℕ) → rows ≡ pair.first + 1 → columns ≡ pair.second + 1
      → w.rest.limit < rows * columns → (q : Result T ValueFault) → q ≡ Err Positions
      → ItemsMade w w (sum_items w.rest.limit (game_at w a) (game_at w b)) q
  pair_refused rows columns r c above q e =
      let P : Result _ ValueFault → Type 0 =
      λ z. ItemsMade w w (sum_items w.rest.limit (game_at w a) (game_at w b)) z in
      let items : List Item = pair_items (nimbers_below rows) (nimbers_below columns) in
      subst P (sym e) (made_as w w (within_limit w.rest.limit (rows * columns) items)
      (sum_items w.rest.limit (game_at w a) (game_at w b)) (Err Positions)
      (sym (pair_list w.rest.limit rows columns r c)) (record {
        charged = tt;
        refused = limit_refused Positions w.rest.share w.rest.spent w.rest.spent w.rest.limit (rows * columns) items refl
            (inr (refl, above));
        keeps = keeps_all w;
      }))

  pub pair_made : {T : Type 0} (rows columns : ℕ) → rows ≡ pair.first + 1 → columns ≡ pair.second + 1
      → rows * columns ≤ w.rest.limit → (x : State Meant (WorkRest R)) (r : Result T ValueFault)
      → ItemsMade w x (pair_items (nimbers_below rows) (nimbers_below columns)) r
      → ItemsMade w x (sum_items w.rest.limit (game_at w a) (game_at w b)) r
  pair_made rows columns r c within x q m =
      let items : List Item = pair_items (nimbers_below rows) (nimbers_below columns) in
      made_as w x items (sum_items w.rest.limit (game_at w a) (game_at w b)) q
      (sym (pair_list w.rest.limit rows columns r c ∙ all_within w.rest.limit (rows * columns) items within)) m

  -- the sum
  pub pair_game : {Q : Type 0} (x : State Meant Q) (m : FirstNimbers) (h : ℕ) → HoldsFirst x m
      → bit_xor pair.first pair.second < length m.handles.items → h ≡ get_or m.handles.items (bit_xor pair.first pair.second) h
      → StandsFor x h (can (sum (game_at w a) (game_at w b)))
  pair_game x m h holds within read =
      let i : ℕ = pair.first in
      let j : ℕ = pair.second in
      rw (ap (λ z. can (sum z (game_at w b))) (stands_game w a (nimber_form i) is.first)
      ∙ ap (λ z. can (sum (nimber_form i) z)) (stands_game w b (nimber_form j) is.second) ∙ can-nimber_sum i j)
      (first_stands x m.handles.items (bit_xor i j) h holds.first within read)

-- ---- the games were read before

pub read_gives : {R : Type 0} (w v x : State Meant (WorkRest R)) → Spends 0 w v → (a b : ℕ) → IsGame w a → IsGame w b
    → (r : Result ℕ ValueFault)
    → Gives v x (sum_items v.rest.limit (game_at v a) (game_at v b)) (can (sum (game_at v a) (game_at v b))) r
    → Gives w x (sum_items w.rest.limit (game_at w a) (game_at w b)) (can (sum (game_at w a) (game_at w b))) r
read_gives w v x wv a b ga gb r given =
    let same : v.rest.limit ≡ w.rest.limit = ap (λ (z : WorkRest _). z.limit) wv.rest in
    let P : ℕ → Type 0 = λ z. Gives v x (sum_items z (game_at v a) (game_at v b)) (can (sum (game_at v a) (game_at v b))) r in
    let Q : Game → Type 0 = λ z. Gives v x (sum_items w.rest.limit z (game_at v b)) (can (sum z (game_at v b))) r in
    let V : Game → Type 0 = λ z. Gives v x (sum_items w.rest.limit (game_at w a) z) (can (sum (game_at w a) z)) r in
    let is = subst V (game_later w v wv.known b gb) (subst Q (game_later w v wv.known a ga) (subst P same given)) in
    record { game = is.game; made = read_then 0 w v x _ r wv is.made; more = omega (arith, wv.spare, is.more) }
