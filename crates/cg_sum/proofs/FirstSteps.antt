-- The first nimbers, and the items of sums that are nimbers.
use Rattle.std.proofs.Common.{◌≡◌, inl, inr, refl, ap, sym, ◌∙◌, subst, ℕ, suc, ◌+◌, ◌-◌, ◌<◌}
use Rattle.std.proofs.Common.{arith, List, [], ◌∷◌, ◌++◌, length, length-append, get_or, Result}
use Rattle.std.proofs.Math.Seq.{get_or-append_seam}
use Rattle.std.proofs.lemmas.List.{get_or-map, get_or_append_left}
use Rattle.std.specs.Prelude.{bit_xor}
use Rattle.cg_canon.proofs.AgainItems.{pass_alone}
use Rattle.cg_canon.proofs.HandleLists.{stand_more}
use Rattle.cg_canon.proofs.MadeSteps.{made_as}
use Rattle.cg_canon.specs.Items.{AllPass, made}
use Rattle.cg_canon.specs.Made.{ItemsMade}
use Rattle.cg_canon.specs.SumItems.{sum_item}
use Rattle.cg_canon.specs.Works.{WorkOf, work_state}
use Rattle.cg_canon.specs.declared.fault.ValueFault.{ValueFault}
use Rattle.cg_canon.specs.declared.rest.WorkRest.{WorkRest}
use Rattle.cg_cells.specs.Meaning.{Grows}
use Rattle.cg_cells.specs.Store.{State, thing_at}
use Rattle.cg_dyadic.proofs.Integers.{le_or_gt}
use Rattle.cg_form.specs.Canonical.{Canonical}
use Rattle.cg_form.specs.Game.{Game, node}
use Rattle.cg_form.specs.Sum.{sum}
use Rattle.cg_nodes.specs.Can.{can}
use Rattle.cg_nimbers.proofs.CanonicalNimbers.{nimber-canonical, nimbers_below-front}
use Rattle.cg_nimbers.proofs.NimberLists.{nimbers_below-next}
use Rattle.cg_nimbers.proofs.NimberPositions.{length-nimbers_below}
use Rattle.cg_nimbers.proofs.NimberSums.{nimber_sum}
use Rattle.cg_nimbers.specs.Nimbers.{nimber_form, nimber_over, nimbers_below}
use Rattle.cg_nodes.proofs.Forms.{can-same}
use Rattle.cg_nodes.proofs.Later.{stand_later, stands_later}
use Rattle.cg_nodes.proofs.Members.{has_game}
use Rattle.cg_nodes.specs.CanLaw.{can-fixed}
use Rattle.cg_nodes.specs.Games.{StandsFor, game_at, games_at}
use Rattle.cg_nodes.specs.Meant.{Meant}
use Rattle.cg_sum.specs.Firsts.{AreFirst, HoldsCosts, HoldsFirst, IsPair, nimber_item}
use Rattle.cg_sum.specs.declared.firsts.FirstNimbers.{FirstNimbers}
use Rattle.cg_sum.specs.declared.pair.NimberPair.{NimberPair}
use Rattle.cg_canon.proofs.DistinctSteps.{has_item}

-- ---- forms

-- the sum of two nimbers
pub can-nimber_sum : (i j : ℕ) → can (sum (nimber_form i) (nimber_form j)) ≡ nimber_form (bit_xor i j)
can-nimber_sum i j =
    can-same (sum (nimber_form i) (nimber_form j)) (nimber_form (bit_xor i j)) (nimber_sum i j)
    ∙ can-fixed (nimber_form (bit_xor i j)) (nimber-canonical (bit_xor i j))

pub nimber_items : (i j : ℕ) → sum_item (nimber_form i) (nimber_form j) ≡ nimber_item (bit_xor i j)
nimber_items i j = ap (λ z. made z 1) (can-nimber_sum i j)

over-some : (gs : List Game) → 0 < length gs → node gs gs ≡ nimber_over gs
over-some [] l = absurd (omega arith)
over-some (g ∷ gs) l = refl

-- a nimber above 0 is made of the lesser ones
pub node_nimber : (n : ℕ) → 0 < length (nimbers_below n) → node (nimbers_below n) (nimbers_below n) ≡ nimber_form n
unfolding nimber_form
node_nimber n l = over-some (nimbers_below n) l

-- ---- the next one is known

pub first_more : {R : Type 0} (s : State Meant R) (hs ks : List ℕ) (h : ℕ) → AreFirst s hs → StandsFor s h (nimber_form (length hs))
    → ks ≡ hs ++ (h ∷ []) → AreFirst s ks
first_more s hs ks h are st e =
    let n : ℕ = length hs in
    let count : length (hs ++ (h ∷ [])) ≡ suc n = length-append hs (h ∷ []) ∙ (omega arith) in
    rw e (rw count (rw (nimbers_below-next n)
    (stand_more s hs h (nimbers_below n) (nimber_form n) are st)))

pub first_later : {R Q : Type 0} (s : State Meant R) (t : State Meant Q) → Grows (thing_at s) (thing_at t) → (hs : List ℕ)
    → AreFirst s hs → AreFirst t hs
first_later s t grows hs are = stand_later s t grows hs (nimbers_below (length hs)) are

-- ---- one of them

below_at : (k n : ℕ) (d : Game) → n < k → get_or (nimbers_below k) n d ≡ nimber_form n
below_at k n d l =
    let (back, e) = nimbers_below-front n k l in
    let c : n ≡ length (nimbers_below n) = sym (length-nimbers_below n) in
    let P : ℕ → Type 0 = λ z. get_or (nimbers_below n ++ (nimber_form n ∷ back)) z d ≡ nimber_form n in
    ap (λ z. get_or z n d) e ∙ subst P (sym c) (get_or-append_seam (nimbers_below n) (nimber_form n) back d)

pub first_stands : {R : Type 0} (s : State Meant R) (hs : List ℕ) (n h : ℕ) → AreFirst s hs → n < length hs → h ≡ get_or hs n h
    → StandsFor s h (nimber_form n)
first_stands s hs n h are l e =
    let g : Game = game_at s h in
    let at : game_at s h ≡ nimber_form n =
    ap (game_at s) e ∙ sym (get_or-map (game_at s) hs n h g l) ∙ ap (λ z. get_or z n g) are.1 ∙ below_at (length hs) n g l in
    rw (← at) (has_game s hs h are.0 (has_item hs n h l e))

-- ---- the next one

module _ {R : Type 0} (s : State Meant R) (hs ls rs : List ℕ) (some : 0 < length hs) (are : AreFirst s hs) (l : ls ≡ hs)
    (r : rs ≡ hs) where
  pub next_games : node (games_at s ls) (games_at s rs) ≡ nimber_form (length hs)
  next_games =
      let n : ℕ = length hs in
      let count : 0 < length (nimbers_below n) = (let c = length-nimbers_below n in omega arith) in
      ap (λ z. node (games_at s z) (games_at s rs)) l ∙ ap (λ z. node (games_at s hs) (games_at s z)) r
      ∙ ap (λ z. node z z) are.1 ∙ node_nimber n count

  pub next_canonical : Canonical (node (games_at s ls) (games_at s rs))
  next_canonical =
      let P : Game → Type 0 = λ z. Canonical z in subst P (sym next_games) (nimber-canonical (length hs))

-- what was made of a game is made of the nimber that it is
pub nimber_made : {R T : Type 0} (s t : State Meant (WorkRest R)) (g : Game) (n : ℕ) (r : Result T ValueFault) → g ≡ nimber_form n
    → ItemsMade s t (made g 1 ∷ []) r → ItemsMade s t (nimber_item n ∷ []) r
nimber_made s t g n r e m = made_as s t (made g 1 ∷ []) (nimber_item n ∷ []) r (ap (λ z. made z 1 ∷ []) e) m

-- ---- costs

pub costs_none : (cs : List ℕ) → cs ≡ [] → HoldsCosts cs
costs_none cs e =
    rw e (record { each = λ n l. absurd (omega arith) })

pub costs_more : (cs ds : List ℕ) (c n share before after : ℕ) → HoldsCosts cs → length cs ≡ n → ds ≡ cs ++ (c ∷ [])
    → c ≡ after - before → AllPass share before (nimber_item n ∷ []) after → HoldsCosts ds
costs_more cs ds c n share before after holds e d k pass =
    rw d (record {
      each = λ i l.
          let count : length (cs ++ (c ∷ [])) ≡ length cs + 1 = length-append cs (c ∷ []) in
          elim (le_or_gt (length cs) i) [
            | inl last ↦
                let same : n ≡ i = omega arith in
                let own : length cs ≡ i = omega arith in
                let at : get_or (cs ++ (c ∷ [])) i 0 ≡ c =
                ap (λ z. get_or (cs ++ (c ∷ [])) z 0) (sym own) ∙ get_or-append_seam cs c [] 0 in
                rw (at ∙ k) (rw (← same) (pass_alone share before after (nimber_item n ∷ []) pass))
            | inr before_last ↦
                rw (get_or_append_left cs (c ∷ []) 0 i before_last) (holds.each i before_last)
          ];
    })

-- ---- all of it

pub holds_first_later : {R Q : Type 0} (s : State Meant R) (t : State Meant Q) → Grows (thing_at s) (thing_at t)
    → (m : FirstNimbers) → HoldsFirst s m → HoldsFirst t m
holds_first_later s t grows m holds = record {
  some = holds.some;
  first = first_later s t grows m.handles.items holds.first;
  fewer = holds.fewer;
  costs = holds.costs;
}

-- a cost that is kept: the first try left the work as it was, then the item was made
pub first_costs : {S R : Type 0} (state : S → State Meant R) (w v x : WorkOf S) (m n : FirstNimbers) (i before after : ℕ)
    → HoldsFirst (work_state state w) m → v ≡ w → AreFirst (work_state state x) n.handles.items → i < length n.handles.items
    → length m.costs.items ≡ i → n.costs.items ≡ m.costs.items ++ ((after - before) ∷ []) → before ≡ v.spent → after ≡ x.spent
    → AllPass v.share v.spent (nimber_item i ∷ []) x.spent → HoldsFirst (work_state state x) n
first_costs state w v x m n i before after holds same are within count costs b a pass = record {
  some = omega arith;
  first = are;
  fewer =
      let e = ap length costs ∙ length-append m.costs.items ((after - before) ∷ []) in omega arith;
  costs =
      let k : after - before ≡ x.spent - v.spent = ap (λ z. z - before) a ∙ ap (λ z. x.spent - z) b in
      costs_more m.costs.items n.costs.items (after - before) i v.share v.spent x.spent holds.costs count costs k pass;
}

-- two nimbers that are known, with the nimbers up to both
pub pair_known : {R Q : Type 0} (s : State Meant R) (t : State Meant Q) → Grows (thing_at s) (thing_at t) → (a b i j : ℕ) (pair : NimberPair)
    → StandsFor s a (nimber_form i) → StandsFor s b (nimber_form j) → (hs : List ℕ) → AreFirst t hs → i < length hs → j < length hs
    → pair.first ≡ i → pair.second ≡ j → pair.nimbers.handles.items ≡ hs → pair.nimbers.costs.items ≡ [] → IsPair t a b pair
pair_known s t grows a b i j pair st sb hs are wi wj fi sj handles costs =
    let count = ap length handles in
    let none = ap length costs in
    record {
      first = rw fi (stands_later s t grows a (nimber_form i) st);
      second = rw sj (stands_later s t grows b (nimber_form j) sb);
      first_within = omega arith;
      second_within = omega arith;
      holds = record {
        some = omega arith;
        first = rw handles are;
        fewer = omega arith;
        costs = costs_none pair.nimbers.costs.items costs;
      };
    }
