-- The own list of a sum, whole or too long, and the sum at its end.
use Rattle.std.proofs.Common.{◌≡◌, ◌⊎◌, inl, inr, ℕ, zero, suc, ◌+◌, ◌-◌, ◌*◌, ◌≤◌, ◌<◌, arith, ap, sym}
use Rattle.std.proofs.Common.{◌∙◌, subst, List, [], ◌∷◌, ◌++◌, get_or, length, false, Result, Err}
use Rattle.std.specs.Result.{IsErrAnd}
use Rattle.std.specs.Prelude.{IfErr, nat_lt, if◌then◌else◌}
use Rattle.std.proofs.lemmas.Bool.Decides.{nat_tests}
use Rattle.std.proofs.Math.Nat.{mul-le-mul, mul-le-mul_left, suc-mul}
use Rattle.std.proofs.lemmas.Grind.{get_or_default_zero}
use Rattle.std.proofs.lemmas.List.{get_or_push, length_push}
use Rattle.std.proofs.lemmas.Result.{err_from_is_err_and}
use Rattle.cg_arena.specs.Arena.{game_of}
use Rattle.cg_canon.specs.Arena.{IsAt}
use Rattle.cg_form.proofs.AllPositions.{among-positions_of, positions-own, positions_of-last}
use Rattle.cg_canon.proofs.ItemLaws.{refused-one}
use Rattle.cg_canon.specs.Items.{Item, WasRefused, too_many}
use Rattle.cg_canon.specs.declared.fault.ValueFault.{ValueFault}
use Rattle.cg_canon.specs.declared.rest.WorkRest.{WorkRest}
use Rattle.cg_canon.specs.declared.fault.ValueFault.TheVariants.{Memory, Positions}
use Rattle.cg_cells.specs.Store.{Spends, State}
use Rattle.cg_form.specs.Extended.{extended}
use Rattle.cg_form.specs.Extended as walks
use Rattle.cg_form.specs.Game.{Among, Game, node}
use Rattle.cg_form.specs.Sum.{negative, sum}
use Rattle.cg_nodes.proofs.Later.{game_later, spends_then}
use Rattle.cg_nodes.specs.Can.{can}
use Rattle.cg_nodes.specs.Games.{IsGame, StandsFor, game_at}
use Rattle.cg_nodes.specs.Meant.{Meant}
use Rattle.cg_form.specs.Positions.{positions_of}
use Rattle.cg_canon.specs.SumItems.{pair_items, sum_items, within_limit}
use Rattle.cg_canon.specs.Made.{Gives, ItemsMade}
use Rattle.cg_canon.specs.Works.{Keeps}
use Rattle.cg_sum.specs.Lists.{minus_items, negative_items}
use Rattle.cg_sum.specs.Progress.{HoldsForms, negative_at_place, sum_at_place}
use Rattle.cg_canon.proofs.MadeSteps.{made_as, read_then}
use Rattle.cg_dyadic.proofs.Truth.{less-nat_lt}
use Rattle.cg_sum.proofs.Tables.{at_place, sum_placed}

-- ---- within the limit or not

not_above : (a b : ℕ) → b ≤ a → nat_lt a b ≡ false
not_above a b h = grind (arith, nat_tests)

pub all_within : (limit count : ℕ) (items : List Item) → count ≤ limit → within_limit limit count items ≡ items
all_within limit count items h = ap (λ b. if b then too_many ∷ [] else items) (not_above limit count h)

too_long : (limit count : ℕ) (items : List Item) → limit < count → within_limit limit count items ≡ too_many ∷ []
too_long limit count items h = ap (λ b. if b then too_many ∷ [] else items) (less-nat_lt limit count h)

-- the refusal of a list that is too long, or want of memory
pub limit_refused : (fault : ValueFault) (share spent after limit count : ℕ) (items : List Item) → after ≡ spent
    → (fault ≡ Memory) ⊎ ((fault ≡ Positions) × (limit < count))
    → WasRefused fault share spent (within_limit limit count items) after
limit_refused fault share spent after limit count items e (inl memory) =
    rw memory tt
limit_refused fault share spent after limit count items e (inr (positions, above)) =
    rw positions (rw (too_long limit count items above)
    (rw e (refused-one Positions share spent too_many [] tt)))

pub err_refused : {T : Type 0} (q : Result T ValueFault) (fault : ValueFault) (share spent after : ℕ) (items : List Item)
    → q ≡ Err fault → WasRefused fault share spent items after → IfErr q (λ f. WasRefused f share spent items after)
err_refused q fault share spent after items e r =
    rw e r

pub gives_refused : {R : Type 0} (w v : State Meant (WorkRest R)) (items : List Item) (g : Game) (q : Result ℕ ValueFault)
    (fault : ValueFault) → q ≡ Err fault → ItemsMade w v items q → w.spare ≤ v.spare → Gives w v items g q
gives_refused w v items g q fault e m more =
    record { game = rw e tt; made = m; more = more }

pub gives_as : {R : Type 0} (w v : State Meant (WorkRest R)) (items : List Item) (g : Game) (r q : Result ℕ ValueFault) → q ≡ r
    → Gives w v items g r → Gives w v items g q
gives_as w v items g r q e given = rw e given

-- a refusal, as `?` hands it on
pub gives_handed : {R : Type 0} {w v : State Meant (WorkRest R)} {items : List Item} {g : Game} {q : Result ℕ ValueFault} (f : ValueFault)
    → IsErrAnd q (λ e. e ≡ f) → WasRefused f w.rest.share w.rest.spent items v.rest.spent → Keeps w v → w.spare ≤ v.spare → Gives w v items g q
gives_handed {q = q} f a r k l =
    let p = err_from_is_err_and q a in
    rw (p.1 ∙ ap Err p.2) (record { game = tt; made = record { charged = tt; refused = r; keeps = k }; more = l })

-- ---- positions

among_some : (g : Game) (gs : List Game) → Among g gs → 1 ≤ length gs
among_some g [] m = absurd m
among_some g (h ∷ hs) m = omega arith

pub some_position : (g : Game) → 1 ≤ length (positions_of g)
some_position g = among_some g (positions_of g) (among-positions_of g g (positions-own g))

more_firsts : (limit m n : ℕ) → 1 ≤ n → limit < m → limit < m * n
more_firsts limit m n one above =
    let p : m * 1 ≤ m * n = mul-le-mul_left m one in omega (arith, p)

more_seconds : (limit m n : ℕ) → 1 ≤ m → limit < n → limit < m * n
more_seconds limit m n one above =
    let p : n * 1 ≤ n * m = mul-le-mul_left n one in omega (arith, p)

pub firsts_above : (limit : ℕ) (g h : Game) (fault : ValueFault)
    → (fault ≡ Memory) ⊎ ((fault ≡ Positions) × (limit < length (positions_of g)))
    → (fault ≡ Memory) ⊎ ((fault ≡ Positions) × (limit < length (positions_of g) * length (positions_of h)))
firsts_above limit g h fault (inl e) = inl e
firsts_above limit g h fault (inr (e, above)) =
    inr (e, more_firsts limit (length (positions_of g)) (length (positions_of h)) (some_position h) above)

pub seconds_above : (limit : ℕ) (g h : Game) (fault : ValueFault)
    → (fault ≡ Memory) ⊎ ((fault ≡ Positions) × (limit < length (positions_of h)))
    → (fault ≡ Memory) ⊎ ((fault ≡ Positions) × (limit < length (positions_of g) * length (positions_of h)))
seconds_above limit g h fault (inl e) = inl e
seconds_above limit g h fault (inr (e, above)) =
    inr (e, more_seconds limit (length (positions_of g)) (length (positions_of h)) (some_position g) above)

-- the last position is the game itself
pub last_position : (g : Game) → game_of (positions_of g) (length (positions_of g) - 1) ≡ g
last_position g =
    let front = extended [] (walks.positions_before g) in
    let e = positions_of-last g in
    ap (λ z. game_of z (length z - 1)) e
    ∙ get_or_push front g (node [] []) (length (front ++ (g ∷ [])) - 1) (let n = length_push front g in omega arith)

-- ---- the end

module _ {R : Type 0} (w v x : State Meant (WorkRest R)) (a b : ℕ) (games : List Game × List Game) (wv : Spends 0 w v)
    (firsts : games.0 ≡ positions_of (game_at w a)) (seconds : games.1 ≡ positions_of (game_at w b)) where
  pub sum_made : {T : Type 0} (r : Result T ValueFault)
      → length (positions_of (game_at w a)) * length (positions_of (game_at w b)) ≤ w.rest.limit
      → ItemsMade v x (pair_items games.0 games.1) r → ItemsMade w x (sum_items w.rest.limit (game_at w a) (game_at w b)) r
  sum_made r within m =
      let fs = positions_of (game_at w a) in
      let ks = positions_of (game_at w b) in
      read_then 0 w v x (sum_items w.rest.limit (game_at w a) (game_at w b)) r wv
      (made_as v x (pair_items games.0 games.1) (sum_items w.rest.limit (game_at w a) (game_at w b)) r
      (ap (λ z. pair_items z games.1) firsts ∙ ap (pair_items fs) seconds
      ∙ sym (all_within w.rest.limit (length fs * length ks) (pair_items fs ks) within)) m)

  some_first : 1 ≤ length games.0
  some_first = let P : List Game → Type 0 = λ z. 1 ≤ length z in subst P (sym firsts) (some_position (game_at w a))

  some_second : 1 ≤ length games.1
  some_second = rw seconds (some_position (game_at w b))

  last_place : length games.0 * length games.1 - 1 ≡ (length games.0 - 1) * length games.1 + (length games.1 - 1)
  last_place = below (length games.0) (length games.1) some_first some_second
    where
      below : (m n : ℕ) → 1 ≤ m → 1 ≤ n → m * n - 1 ≡ (m - 1) * n + (n - 1)
      below zero n h l = absurd (omega (arith, h))
      below (suc m) n h l =
          let p = suc-mul m n in
          (let e : suc m * n - 1 ≡ m * n + (n - 1) = omega (arith, l, p) in e)
          ∙ ap (λ z. z * n + (n - 1)) (let k : m ≡ suc m - 1 = omega arith in k)

  -- the last place of the table is that of the sum of both games
  pub last_sum : sum_at_place games (length games.0 * length games.1 - 1) ≡ can (sum (game_at w a) (game_at w b))
  last_sum =
      let m = length games.0 - 1 in
      let n = length games.1 - 1 in
      let l = some_second in
      ap (sum_at_place games) last_place ∙ sum_placed games m n (omega (arith, l))
      ∙ ap (λ z. can (sum (game_of z (length z - 1)) (game_of games.1 n))) firsts
      ∙ ap (λ z. can (sum (game_of (positions_of (game_at w a)) (length (positions_of (game_at w a)) - 1)) (game_of z (length z - 1)))) seconds
      ∙ ap (λ z. can (sum z (game_of (positions_of (game_at w b)) (length (positions_of (game_at w b)) - 1)))) (last_position (game_at w a))
      ∙ ap (λ z. can (sum (game_at w a) z)) (last_position (game_at w b))

  pub some_sum : 1 ≤ length games.0 * length games.1
  some_sum = mul-le-mul some_first some_second

-- the index that was read last stands for the form of the last place
pub last_at : (gs : List Game) (form : ℕ → Game) (n : ℕ) (table : List ℕ) → HoldsForms gs form n table → 1 ≤ n → (g : Game)
    → form (n - 1) ≡ g → (k i : ℕ) → k + 1 ≡ length table → i ≡ get_or table k i → IsAt gs i g
last_at gs form n table h some g e k i last read =
    let c = h.count in
    rw (read ∙ get_or_default_zero table k i (omega (arith, last)))
    (at_place gs form n table h (n - 1) k g (omega (arith, c, last, some)) (omega (arith, some)) e)

pub stands_as : {R : Type 0} (s : State Meant R) (h : ℕ) (g k : Game) → g ≡ k → StandsFor s h g → StandsFor s h k
stands_as s h g k e st = rw (← e) st

-- ---- the end of a negative

module _ {R : Type 0} (w v x : State Meant (WorkRest R)) (a : ℕ) (games : List Game) (wv : Spends 0 w v)
    (is : games ≡ positions_of (game_at w a)) where
  pub negative_made : {T : Type 0} (r : Result T ValueFault) → length (positions_of (game_at w a)) ≤ w.rest.limit
      → ItemsMade v x (minus_items games) r → ItemsMade w x (negative_items w.rest.limit (game_at w a)) r
  negative_made r within m =
      let fs = positions_of (game_at w a) in
      read_then 0 w v x (negative_items w.rest.limit (game_at w a)) r wv
      (made_as v x (minus_items games) (negative_items w.rest.limit (game_at w a)) r
      (ap minus_items is ∙ sym (all_within w.rest.limit (length fs) (minus_items fs) within)) m)

  pub some_negative : 1 ≤ length games
  some_negative = rw is (some_position (game_at w a))

  -- the last place of the table is that of the negative of the game
  pub last_negative : negative_at_place games (length games - 1) ≡ can (negative (game_at w a))
  last_negative =
      ap (λ z. can (negative (game_of z (length z - 1)))) is ∙ ap (λ z. can (negative z)) (last_position (game_at w a))

-- ---- the product of the two lengths

product_above : (a b c d l k : ℕ) → a ≡ c → b ≡ d → l ≡ k → l < a * b → k < c * d
product_above a b c d l k e f h above =
    rw (← h) (rw (← f) (rw (← e) above))

product_within : (a b c d l k : ℕ) → a ≡ c → b ≡ d → l ≡ k → ¬ (l < a * b) → c * d ≤ k
product_within a b c d l k e f h within =
    let no_more : ¬ (k < c * d) = λ above. within (product_above c d a b k l (sym e) (sym f) (sym h) above) in
    omega (arith, no_more)

module _ {R : Type 0} (w v : State Meant (WorkRest R)) (n : ℕ) (wv : Spends n w v) where
  pub same_spent : v.rest.spent ≡ w.rest.spent
  same_spent = ap (λ r. r.spent) wv.rest

  same_limit : v.rest.limit ≡ w.rest.limit
  same_limit = ap (λ r. r.limit) wv.rest

  -- the positions of a game, as the work was before
  pub positions_before : (b : ℕ) → IsGame w b
      → positions_of (game_at v b) ≡ positions_of (game_at w b)
  positions_before b g = ap positions_of (game_later w v wv.known b g)

  pub refusal_before : (b : ℕ) (fault : ValueFault) → IsGame w b
      → (fault ≡ Memory) ⊎ ((fault ≡ Positions) × (v.rest.limit < length (positions_of (game_at v b))))
      → (fault ≡ Memory) ⊎ ((fault ≡ Positions) × (w.rest.limit < length (positions_of (game_at w b))))
  refusal_before b fault g (inl e) = inl e
  refusal_before b fault g (inr (e, above)) =
      inr (e, rw (← (positions_before b g)) (rw (← same_limit) above))

-- ---- both games were walked

module _ {R : Type 0} (w v x : State Meant (WorkRest R)) (a b : ℕ) (gb : IsGame w b) (wv : Spends 0 w v) (vx : Spends 0 v x)
    (m n l : ℕ) (first : m ≡ length (positions_of (game_at w a))) (second : n ≡ length (positions_of (game_at v b)))
    (limit : l ≡ x.rest.limit) where
  second_before : n ≡ length (positions_of (game_at w b))
  second_before = second ∙ ap length (positions_before w v 0 wv b gb)

  own_limit : l ≡ w.rest.limit
  own_limit = limit ∙ same_limit w x 0 (spends_then 0 0 w v x wv vx)

  pub pairs_above : l < m * n → w.rest.limit < length (positions_of (game_at w a)) * length (positions_of (game_at w b))
  pairs_above = product_above m n (length (positions_of (game_at w a))) (length (positions_of (game_at w b))) l w.rest.limit
      first second_before own_limit

  pub pairs_within : ¬ (l < m * n) → length (positions_of (game_at w a)) * length (positions_of (game_at w b)) ≤ w.rest.limit
  pairs_within = product_within m n (length (positions_of (game_at w a))) (length (positions_of (game_at w b))) l w.rest.limit
      first second_before own_limit
