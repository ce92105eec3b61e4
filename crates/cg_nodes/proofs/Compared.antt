-- The structural order of two lists, or of two games, by their first options that differ.
use Rattle.std.proofs.Common.{◌≡◌, ◌≢◌, Bool, true, false, IsTrue, ℕ, ◌+◌, ◌<◌, ◌≤◌, Option, Some, [], ◌∷◌, arith, ap, sym, refl, ◌∙◌, subst}
use Rattle.std.specs.declared.cmp.Ordering.{Ordering}
use Rattle.std.specs.declared.cmp.Ordering.TheVariants.{Less, Equal, Greater}
use Rattle.cg_form.specs.Game.{Game, node}
use Rattle.cg_form.specs.Depth.{depth_of, deepest}
use Rattle.cg_form.specs.Structure.{and_then, game_cmp, order_of_lists}
use Rattle.cg_form.proofs.Structure.{game_cmp-refl, game_cmp-same}
use Rattle.cg_cells.specs.Store.{State, Spends, thing_at}
use Rattle.cg_nodes.specs.Meant.{Meant, form}
use Rattle.cg_nodes.specs.Games.{IsGame, IsHead, IsList, game_at, listed}
use Rattle.cg_nodes.specs.Partings.{IsParting}
use Rattle.cg_nodes.specs.declared.reading.Split.{Split}
use Rattle.cg_nodes.specs.declared.structure.Parting.{Parting}
use Rattle.cg_nodes.specs.declared.structure.Parting.TheVariants.{Nowhere, Before, After, At}
use Rattle.cg_nodes.proofs.Later.{game_later, is_game_later, is_list_later, listed_later, spends_then}

-- ---- two lists

-- the lists that are left, of the lists l and r at the start, decide their order
pub record Passed {R : Type 0} (s t : State Meant R) (l r o p : Option ℕ) : Type 0 where
  pub spends : Spends 0 s t
  pub left : IsList t o
  pub right : IsList t p
  pub order : order_of_lists (listed s l) (listed s r) ≡ order_of_lists (listed t o) (listed t p)
  pub depth : deepest (listed t o) ≤ deepest (listed s l)

-- the order of different games goes before all that follows
apart_first : (g h : Game) (o : Ordering) → g ≢ h → and_then (game_cmp g h) o ≡ game_cmp g h
apart_first g h o apart = (elim (game_cmp g h) as (λ z. game_cmp g h ≡ z → and_then z o ≡ z) [
  | Less ↦ λ e. refl
  | Equal ↦ λ e. absurd (apart (game_cmp-same g h e))
  | Greater ↦ λ e. refl
]) refl

-- both lists have a first option
module _ {R : Type 0} (s t u v : State Meant R) (l r o p : Option ℕ) (a b : Split) (before : Passed s t l r o p) (tu
    : Spends 0 t u) (uv : Spends 0 u v)
    (head_a : IsHead u (Some a) (listed t o)) (head_b : IsHead v (Some b) (listed u p)) where
  game_a : IsGame v a.first
  game_a = is_game_later u v uv.known a.first head_a.0

  lists_a : listed t o ≡ game_at v a.first ∷ listed v a.rest
  lists_a =
      head_a.2 ∙ ap (λ z. z ∷ listed u a.rest) (sym (game_later u v uv.known a.first head_a.0))
      ∙ ap (λ z. game_at v a.first ∷ z) (sym (listed_later u v uv.known a.rest head_a.1))

  lists_b : listed t p ≡ game_at v b.first ∷ listed v b.rest
  lists_b = sym (listed_later t u tu.known p before.right) ∙ head_b.2

  order : order_of_lists (listed s l) (listed s r)
      ≡ and_then (game_cmp (game_at v a.first) (game_at v b.first)) (order_of_lists (listed v a.rest) (listed v b.rest))
  order =
      before.order ∙ ap (λ z. order_of_lists z (listed t p)) lists_a
      ∙ ap (λ z. order_of_lists (game_at v a.first ∷ listed v a.rest) z) lists_b

  -- the first options are one game
  pub passed_more : a.first ≡ b.first → Passed s v l r a.rest b.rest
  passed_more same =
      let e : game_at v a.first ≡ game_at v b.first = ap (game_at v) same in
      let f : game_cmp (game_at v a.first) (game_at v b.first) ≡ Equal = ap (game_cmp (game_at v a.first)) (sym e)
      ∙ game_cmp-refl (game_at v a.first) in
      let d = before.depth in
      let m = ap deepest lists_a in
      record {
        spends = spends_then 0 0 s u v (spends_then 0 0 s t u before.spends tu) uv;
        left = is_list_later u v uv.known a.rest head_a.1;
        right = head_b.1;
        order = order ∙ ap (λ z. and_then z (order_of_lists (listed v a.rest) (listed v b.rest))) f;
        depth = omega arith;
      }

  -- they are two
  pub passed_apart : ¬ (thing_at v a.first ≡ thing_at v b.first)
      → IsParting v (At a.first b.first) (order_of_lists (listed s l) (listed s r)) (deepest (listed s l) + 1)
  passed_apart differ =
      let apart : game_at v a.first ≢ game_at v b.first = λ e. differ (game_a ∙ ap (λ g. Some (form g)) e
      ∙ sym head_b.0) in
      let d = before.depth in
      let m = ap deepest lists_a in (
        game_a,
        head_b.0,
        apart,
        order ∙ apart_first (game_at v a.first) (game_at v b.first) (order_of_lists (listed v a.rest) (listed v
            b.rest)) apart,
        omega arith,
      )

-- ---- two games that aren't numbers

-- the Left options decide
pub nodes_first : {R : Type 0} (s : State Meant R) (p : Parting) (first next : Ordering) (m n : ℕ)
    → IsParting s p first m → p ≢ Nowhere → m ≤ n → IsParting s p (and_then first next) n
nodes_first s Nowhere first next m n h other le = absurd (other refl)
nodes_first s Before first next m n h other le = ap (λ z. and_then z next) h
nodes_first s After first next m n h other le = ap (λ z. and_then z next) h
nodes_first s (At a b) first next m n h other le =
    let d = h.4 in
    (h.0, h.1, h.2, ap (λ z. and_then z next) h.3 ∙ apart_first (game_at s a) (game_at s b) next h.2, omega arith)

-- the Right options decide
nodes_next : {R : Type 0} (s : State Meant R) (p : Parting) (first next : Ordering) (m n : ℕ) → first ≡ Equal
    → IsParting s p next m → m ≤ n → IsParting s p (and_then first next) n
nodes_next s Nowhere first next m n e h le = ap (λ z. and_then z next) e ∙ h
nodes_next s Before first next m n e h le = ap (λ z. and_then z next) e ∙ h
nodes_next s After first next m n e h le = ap (λ z. and_then z next) e ∙ h
nodes_next s (At a b) first next m n e h le = let d = h.4 in (
  h.0,
  h.1,
  h.2,
  ap (λ z. and_then z next) e
      ∙ h.3,
  omega arith,
)

pub nodes_rest : {R : Type 0} (s t u : State Meant R) (p : Parting) (ls ks rs ms : Option ℕ) → Spends 0 s t
    → IsList s rs → IsList s ms
    → order_of_lists (listed s ls) (listed s ks) ≡ Equal
    → IsParting u p (order_of_lists (listed t rs) (listed t ms)) (deepest (listed t rs) + 1)
    → IsParting u p (game_cmp (node (listed s ls) (listed s rs)) (node (listed s ks) (listed s ms))) (depth_of (node
    (listed s ls) (listed s rs)))
nodes_rest s t u p ls ks rs ms st a b e h =
    let x = listed_later s t st.known rs a in
    let y = listed_later s t st.known ms b in
    nodes_next u p (order_of_lists (listed s ls) (listed s ks)) (order_of_lists (listed s rs) (listed s ms)) (deepest
    (listed s rs) + 1)
    (depth_of (node (listed s ls) (listed s rs))) e (rw y at (rw x at h)) (omega arith)

-- ---- two games

-- two games that were read part as their lists do
pub games_parting : {R : Type 0} (s t u v : State Meant R) (p : Parting) (x y : ℕ) (ls rs ks ms : Option ℕ)
    → IsGame s y → Spends 0 s t → Spends 0 t u
    → IsList t ls × IsList t rs × (game_at s x ≡ node (listed t ls) (listed t rs))
    → IsList u ks × IsList u ms × (game_at t y ≡ node (listed u ks) (listed u ms))
    → IsParting v p (game_cmp (node (listed u ls) (listed u rs)) (node (listed u ks) (listed u ms))) (depth_of (node
    (listed u ls) (listed u rs)))
    → IsParting v p (game_cmp (game_at s x) (game_at s y)) (depth_of (game_at s x))
games_parting s t u v p x y ls rs ks ms known st tu a b h =
    let l = listed_later t u tu.known ls a.0 in
    let r = listed_later t u tu.known rs a.1 in
    let e : node (listed u ls) (listed u rs) ≡ game_at s x = ap (λ z. node z (listed u rs)) l
    ∙ ap (λ z. node (listed t ls) z) r ∙ sym a.2 in
    let f : node (listed u ks) (listed u ms) ≡ game_at s y = sym b.2 ∙ game_later s t st.known y known in
    let P : Game → Type 0 = λ z. IsParting v p (game_cmp z (node (listed u ks) (listed u ms))) (depth_of z) in
    let Q : Game → Type 0 = λ z. IsParting v p (game_cmp (game_at s x) z) (depth_of (game_at s x)) in
    subst Q f (subst P e h)

-- the games of the handles x and y, which differ, are in the order of those of a and b
pub record Follows {R : Type 0} (s t : State Meant R) (a b x y : ℕ) : Type 0 where
  pub spends : Spends 0 s t
  pub left : IsGame t x
  pub right : IsGame t y
  pub order : game_cmp (game_at s a) (game_at s b) ≡ game_cmp (game_at t x) (game_at t y)

-- handles of different things have different games, and so aren't Equal in the order
pub apart_order : {R : Type 0} (s : State Meant R) (a b : ℕ) → IsGame s a → IsGame s b
    → ¬ (thing_at s a ≡ thing_at s b) → game_cmp (game_at s a) (game_at s b) ≢ Equal
apart_order s a b g h differ e =
    differ (g ∙ ap (λ k. Some (form k)) (game_cmp-same (game_at s a) (game_at s b) e) ∙ sym h)

pub same_order : {R : Type 0} (s : State Meant R) (a b : ℕ) → a ≡ b → game_cmp (game_at s a) (game_at s b) ≡ Equal
same_order s a b e = ap (game_cmp (game_at s a)) (sym (ap (game_at s) e)) ∙ game_cmp-refl (game_at s a)

-- ---- what `same` tells

pub told_apart : {R : Type 0} (s : State Meant R) (i j a b : ℕ) (r : Bool) → i ≡ a → j ≡ b
    → (thing_at s i ≡ thing_at s j → IsTrue r) → r ≡ false → ¬ (thing_at s a ≡ thing_at s b)
told_apart s i j a b r x y tells unlike e =
    let t : r ≡ true = tells (ap (thing_at s) x ∙ e ∙ ap (thing_at s) (sym y)) in
    cc

pub told_same : (i j a b : ℕ) (r : Bool) → i ≡ a → j ≡ b → (IsTrue r → i ≡ j) → r ≡ true → a ≡ b
told_same i j a b r x y tells alike = sym x ∙ tells alike ∙ y
