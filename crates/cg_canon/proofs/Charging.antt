-- Items that are charged or refused, and the cells that a charge pays for.
use Rattle.std.proofs.Common.{◌≡◌, refl, ℕ, ◌+◌, ◌<◌, ◌≤◌, arith, ap, sym, ◌∙◌, subst, Option, Some, None, List, [], ◌∷◌, length}
use Rattle.cg_dyadic.specs.Number.{InRange, Number}
use Rattle.cg_form.specs.Canonical.{Canonical}
use Rattle.cg_form.specs.Game.{Game, node, number}
use Rattle.cg_form.proofs.Among.{lefts-node, rights-node}
use Rattle.cg_cells.specs.Store.{Spends, State}
use Rattle.cg_nodes.specs.Games.{AreGames, ListsAs, StandsFor, games_at, listed}
use Rattle.cg_nodes.specs.Meant.{Meant}
use Rattle.cg_nodes.proofs.Members.{length_games}
use Rattle.cg_nodes.proofs.Later.{are_games_later, games_later, listed_as, lists_later, spends_then}
use Rattle.cg_canon.specs.declared.fault.ValueFault.TheVariants.{Depth, Full, Range}
use Rattle.cg_arena.specs.declared.charge.Charge.{Charge}
use Rattle.cg_arena.specs.declared.summary.Summary.{Summary}
use Rattle.cg_arena.specs.declared.canonicalizing.NewForm.{NewForm}
use Rattle.cg_arena.specs.Canonicalized.{IsNewForm}
use Rattle.cg_canon.specs.Paid.{written}
use Rattle.cg_canon.specs.Items.{AllPass, IsStopped, made}
use Rattle.cg_canon.specs.NumberItems.{number_made}
use Rattle.cg_arena.specs.Costs.{IsCharge}
use Rattle.cg_arena.specs.Summaries.{IsSummary}
use Rattle.cg_canon.proofs.ItemLaws.{all_pass-after, stopped-one}

-- ---- one form

pub too_deep : (share spent extra : ℕ) (g : Game) (p : Charge) → IsCharge g p → 512 < p.depth
    → IsStopped (Depth p.depth) share spent (made g extra ∷ []) spent
too_deep share spent extra g p h deep =
    stopped-one (Depth p.depth) share spent (made g extra) [] (h.in_range, h.depth, deep)

pub too_dear : (share spent extra : ℕ) (g : Game) (p : Charge) → IsCharge g p → p.depth ≤ 512 → share < spent + (p.cost + extra)
    → IsStopped (Full (spent + (p.cost + extra))) share spent (made g extra ∷ []) spent
too_dear share spent extra g p h deep dear =
    let c = h.cost in
    let d = h.depth in
    stopped-one (Full (spent + (p.cost + extra))) share spent (made g extra) [] (h.in_range, omega arith, omega arith, dear)

pub one_passes : (share spent extra : ℕ) (g : Game) (p : Charge) → IsCharge g p → p.depth ≤ 512 → spent + (p.cost + extra) ≤ share
    → AllPass share spent (made g extra ∷ []) (spent + (p.cost + extra))
one_passes share spent extra g p h deep within =
    let c = h.cost in
    let d = h.depth in
    all_pass-after share spent (spent + (p.cost + extra)) (made g extra) (omega arith) (h.in_range, omega arith, omega arith)

pub none_given : (x : Option Number) (extra share spent : ℕ) → x ≡ None
    → IsStopped Range share spent (number_made x extra ∷ []) spent
none_given None extra share spent e = stopped-one Range share spent (number_made None extra) [] tt
none_given (Some y) extra share spent e = cc

-- ---- the cells of a game

-- the two lists that are made one after the other
pub record TwoLists {R : Type 0} (s u : State Meant R) (ls rs : List ℕ) (o q : Option ℕ) : Type 0 where
  pub first : listed u o ≡ games_at s ls
  pub second : listed u q ≡ games_at s rs

-- s before they are prefetched, e after, t with the first, and u with both
pub two_lists : {R : Type 0} (n m : ℕ) (s e t u : State Meant R) (ls rs : List ℕ) (o q : Option ℕ) → AreGames s ls → AreGames s rs
    → Spends 0 s e → Spends n e t → Spends m t u → ListsAs t o (games_at e ls) → ListsAs u q (games_at t rs) → TwoLists s u ls rs o q
two_lists n m s e t u ls rs o q a b x k l i j = record {
  first = listed_as u o (games_at e ls) (lists_later t u l.known o (games_at e ls) i) ∙ games_later s e x.known ls a;
  second = listed_as u q (games_at t rs) j ∙ games_later e t k.known rs (are_games_later s e x.known rs b) ∙ games_later s e x.known rs b;
}

-- the first list, as it was made, is that of the games that are known then
pub first_later : {R : Type 0} (n : ℕ) (s t : State Meant R) (ls : List ℕ) (o : Option ℕ) → AreGames s ls → Spends n s t
    → ListsAs t o (games_at s ls) → ListsAs t o (games_at t ls)
first_later n s t ls o a k i =
    rw (games_later s t k.known ls a) i

pub same_node : (a b c d : List Game) → a ≡ c → b ≡ d → node a b ≡ node c d
same_node a b c d e f = cc

pub canonical_node : (a b c d : List Game) → a ≡ c → b ≡ d → Canonical (node c d) → Canonical (node a b)
canonical_node a b c d e f k = let P : Game → Type 0 = λ z. Canonical z in subst P (sym (same_node a b c d e f)) k

-- the cost of a form, by the handles of its options
pub cost_of_options : {R : Type 0} (s : State Meant R) (ls rs : List ℕ) (gs hs : List Game) (p : Summary)
    → games_at s ls ≡ gs → games_at s rs ≡ hs → IsSummary (node gs hs) p → p.cost ≡ 1 + length ls + length rs
cost_of_options s ls rs gs hs p a b i =
    let x = ap length (lefts-node gs hs) in
    let y = ap length (rights-node gs hs) in
    let c : length gs ≡ length ls = ap length (sym a) ∙ length_games s ls in
    let d : length hs ≡ length rs = ap length (sym b) ∙ length_games s rs in
    let e = i.cost in
    omega arith

-- the game that was claimed last
pub record IsClaimed {R : Type 0} (s t : State Meant R) (ls rs : List ℕ) (handle : ℕ) : Type 0 where
  pub cells : ℕ
  pub fewer : cells ≤ 1 + length ls + length rs
  pub spends : Spends cells s t
  pub stands : StandsFor t handle (node (games_at s ls) (games_at s rs))

pub is_claimed : {R : Type 0} (s e t u v : State Meant R) (ls rs : List ℕ) (o q : Option ℕ) (handle : ℕ) → AreGames s ls → AreGames s rs
    → Spends 0 s e → Spends (length ls) e t → ((n : ℕ) × (n ≤ length rs) × Spends n t u) → Spends 1 u v
    → ListsAs t o (games_at e ls) → ListsAs u q (games_at t rs) → StandsFor v handle (node (listed u o) (listed u q))
    → IsClaimed s v ls rs handle
is_claimed s e t u v ls rs o q handle a b x k l m i j st =
    let two = two_lists (length ls) l.0 s e t u ls rs o q a b x k l.2 i j in
    let first = spends_then (length ls) l.0 e t u k l.2 in
    record {
      cells = 0 + ((length ls + l.0) + 1);
      fewer = omega (arith, l.1);
      spends = spends_then 0 ((length ls + l.0) + 1) s e v x (spends_then (length ls + l.0) 1 e u v first m);
      stands = rw (← (same_node _ _ _ _ two.first two.second)) st;
    }

-- a form that is out of range
pub outside_refused : (share spent extra : ℕ) (g : Game) (x : Number) → g ≡ number x → ¬ InRange x
    → IsStopped Range share spent (made g extra ∷ []) spent
outside_refused share spent extra g x e n =
    rw e (stopped-one Range share spent (made (number x) extra) [] n)

-- what was found is the form that is written
pub new_written : (gs : List Game) (form : Game) (new : NewForm) → IsNewForm gs form new → IsNewForm gs (written gs new) new
new_written gs form new h =
    record { lefts = h.lefts; rights = h.rights; is = refl; summary = rw (← h.is) h.summary }
