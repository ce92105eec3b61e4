-- Indexes of the games of lists, one game after the other.
use Rattle.std.proofs.Common.{◌≡◌, refl, ℕ, suc, ◌+◌, ◌<◌, ◌≤◌, arith, ap, sym, ◌∙◌, Option, Some, List, [], ◌∷◌, ◌++◌, length, take, get_or}
use Rattle.std.proofs.lemmas.List.Elements.{All-push}
use Rattle.cg_form.specs.Canonical.{Canonical}
use Rattle.cg_form.specs.Depth.{deepest}
use Rattle.cg_form.specs.Game.{Game, node}
use Rattle.cg_form.specs.Simple.{NoNumber}
use Rattle.cg_form.proofs.Best.{append_one}
use Rattle.cg_cells.specs.Store.{Spends, State}
use Rattle.cg_nodes.specs.declared.reading.Split.{Split}
use Rattle.cg_nodes.specs.Games.{AreGames, IsGame, IsHead, IsList, game_at, games_at, listed}
use Rattle.cg_nodes.specs.Meant.{Meant}
use Rattle.cg_nodes.proofs.Later.{game_later, is_game_later, is_list_later, listed_later, nothing_spent, spends_then}
use Rattle.cg_arena.specs.Arena.{IsIndex, StandFor, game_of, games_of}
use Rattle.cg_arena.proofs.Slices.{games_pushed}
use Rattle.cg_canon.specs.declared.interner.Interner.{Interner}
use Rattle.cg_canon.specs.Arena.{Begins}
use Rattle.cg_canon.specs.Interners.{InternerHolds}
use Rattle.cg_canon.proofs.HandleLists.{game_of_item, games_take_suc}
use Rattle.cg_canon.proofs.InternerSteps.{begins_none, begins_then, stand_begins}

-- ---- an index more

pub stand_pushed : (gs : List Game) (ps more : List ℕ) (p : ℕ) (hs : List Game) (g : Game) → StandFor gs ps hs → IsIndex gs p
    → game_of gs p ≡ g → more ≡ ps ++ (p ∷ []) → StandFor gs more (hs ++ (g ∷ []))
stand_pushed gs ps more p hs g h is e m = (
  rw m (All-push (IsIndex gs) ps p h.0 is),
  ap (games_of gs) m ∙ games_pushed gs ps _ p refl ∙ ap (λ z. z ++ (game_of gs p ∷ [])) h.1 ∙ ap (λ z. hs ++ (z ∷ [])) e,
)

stand_none : (gs : List Game) → StandFor gs [] []
stand_none gs = ((λ k d h. absurd (omega arith)), refl)

-- ---- over a list in cells: what is done, and the rest

pub record Done {R : Type 0} (s t : State Meant R) (list rest : Option ℕ) : Type 0 where
  pub spends : Spends 0 s t
  pub left : IsList t rest
  pub depth : deepest (listed t rest) ≤ deepest (listed s list)
  pub games : List Game
  pub all : games ++ listed t rest ≡ listed s list

unfoldable done_none : {R : Type 0} (s : State Meant R) (list : Option ℕ) → IsList s list → Done s s list list
done_none s list l = record { spends = nothing_spent s; left = l; depth = omega arith; games = []; all = refl }

-- t before the first is read, u after, and v after it was worked on
unfoldable done_more : {R : Type 0} (s t u v : State Meant R) (list rest : Option ℕ) (top : Split) → Done s t list rest
    → Spends 0 t u → IsHead u (Some top) (listed t rest) → Spends 0 u v → Done s v list top.rest
done_more s t u v list rest top h a i b =
    let same : listed v top.rest ≡ listed u top.rest = listed_later u v b.known top.rest i.1 in
    let n = ap deepest (i.2) in
    let m = ap deepest same in
    let k = h.depth in
    record {
      spends = spends_then 0 0 s u v (spends_then 0 0 s t u h.spends a) b;
      left = is_list_later u v b.known top.rest i.1;
      depth = omega arith;
      games = h.games ++ game_at u top.first ∷ [];
      all =
          ap (λ z. (h.games ++ game_at u top.first ∷ []) ++ z) same
          ∙ append_one h.games (listed u top.rest) (game_at u top.first)
          ∙ ap (λ z. h.games ++ z) (sym i.2) ∙ h.all;
    }

-- the indexes of the games so far; the interner was a before and is b
pub record Indexed {R : Type 0} (s t : State Meant R) (a b : Interner) (list rest : Option ℕ) (ps : List ℕ) : Type 0 where
  pub done : Done s t list rest
  pub holds : InternerHolds t b
  pub begins : Begins a.arena b.arena
  pub indexes : StandFor b.arena ps done.games

pub indexed_none : {R : Type 0} (s : State Meant R) (a : Interner) (list : Option ℕ) (ps : List ℕ) → InternerHolds s a → IsList s list → ps ≡ []
    → Indexed s s a a list list ps
unfolding done_none
indexed_none s a list ps h l e =
    record { done = done_none s list l; holds = h; begins = begins_none a.arena; indexes = rw e (stand_none a.arena) }

pub indexed_more : {R : Type 0} (s t u v : State Meant R) (a b c : Interner) (list rest : Option ℕ) (top : Split) (ps more : List ℕ) (index : ℕ)
    → Indexed s t a b list rest ps → Spends 0 t u → IsHead u (Some top) (listed t rest) → Spends 0 u v → InternerHolds v c
    → Begins b.arena c.arena → IsIndex c.arena index × (game_of c.arena index ≡ game_at u top.first) → more ≡ ps ++ (index ∷ [])
    → Indexed s v a c list top.rest more
unfolding done_more
indexed_more s t u v a b c list rest top ps more index h x i y holds begins is e = record {
  done = done_more s t u v list rest top h.done x i y;
  holds = holds;
  begins = begins_then a.arena b.arena c.arena h.begins begins;
  indexes = stand_pushed c.arena ps more index h.done.games (game_at u top.first) (stand_begins b.arena c.arena ps h.done.games begins h.indexes) is.0 is.1 e;
}

-- ---- a game with the indexes of both its lists

-- the handle's game has the options of these indexes
pub record HasOptions {R : Type 0} (s : State Meant R) (handle : ℕ) (hs : List Game) (xs ys : List ℕ) : Type 0 where
  pub is : game_at s handle ≡ node (games_of hs xs) (games_of hs ys)
  pub no_number : NoNumber (node (games_of hs xs) (games_of hs ys))

-- s before the game is read, t after, u with the indexes of its Left options, and v with those of its Right ones too
pub has_options : {R : Type 0} (s t u v : State Meant R) (handle : ℕ) (ls rs : Option ℕ) (gs hs : List Game) (ps qs xs ys : List ℕ)
    → IsGame s handle → Spends 0 s t → Spends 0 t u → Spends 0 u v → IsList t rs
    → game_at s handle ≡ node (listed t ls) (listed t rs) → Canonical (game_at s handle) → StandFor gs ps (listed t ls)
    → Begins gs hs → StandFor hs qs (listed u rs) → xs ≡ ps → ys ≡ qs → HasOptions v handle hs xs ys
has_options s t u v handle ls rs gs hs ps qs xs ys game a b c right e canonical l begins r x y =
    let low : games_of hs xs ≡ listed t ls = ap (games_of hs) x ∙ (stand_begins gs hs ps (listed t ls) begins l).1 in
    let high : games_of hs ys ≡ listed t rs = ap (games_of hs) y ∙ r.1 ∙ listed_later t u b.known rs right in
    let all = spends_then 0 0 s u v (spends_then 0 0 s t u a b) c in
    let same : game_at s handle ≡ node (games_of hs xs) (games_of hs ys) =
    e ∙ ap (λ z. node z (listed t rs)) (sym low) ∙ ap (λ z. node (games_of hs xs) z) (sym high) in
    record { is = game_later s v all.known handle game ∙ same; no_number = (rw same at canonical).0.no_number }

-- ---- over a slice of handles

-- the next handle stands for a game
pub next_game : {R : Type 0} (s t : State Meant R) (hs : List ℕ) (i k : ℕ) → AreGames s hs → i < length hs → k ≡ get_or hs i k
    → Spends 0 s t → IsGame t k × (game_at t k ≡ game_at s k)
next_game s t hs i k a h e b =
    let known : IsGame s k = rw e (game_of_item s hs i k a h) in
    (is_game_later s t b.known k known, game_later s t b.known k known)

-- the indexes of the handles up to this one; the interner was b before its index was found, and is c
pub indexed_next : {R : Type 0} (s t : State Meant R) (b c : Interner) (hs : List ℕ) (i k : ℕ) (ps more : List ℕ) (index : ℕ) → AreGames s hs
    → i < length hs → k ≡ get_or hs i k → Spends 0 s t → StandFor b.arena ps (games_at s (take i hs)) → Begins b.arena c.arena
    → IsIndex c.arena index × (game_of c.arena index ≡ game_at t k) → more ≡ ps ++ (index ∷ [])
    → StandFor c.arena more (games_at s (take (i + 1) hs))
indexed_next s t b c hs i k ps more index a less at spends so_far begins is e =
    let one : i + 1 ≡ suc i = omega arith in
    let next = next_game s t hs i k a less at spends in
    rw (ap (λ z. games_at s (take z hs)) one ∙ games_take_suc s hs i k less
    ∙ ap (λ z. games_at s (take i hs) ++ (game_at s z ∷ [])) (sym at))
    (stand_pushed c.arena ps more index (games_at s (take i hs)) (game_at s k)
    (stand_begins b.arena c.arena ps (games_at s (take i hs)) begins so_far) is.0 (is.1 ∙ next.1) e)

pub indexed_nothing : {R : Type 0} (s : State Meant R) (gs : List Game) (hs ps : List ℕ) → ps ≡ []
    → StandFor gs ps (games_at s (take 0 hs))
indexed_nothing s gs hs ps e = rw e (stand_none gs)
