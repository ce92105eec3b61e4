-- Lists of handles, read from a list cell or made into one.
use Rattle.std.proofs.Common.{◌≡◌, ℕ, ◌+◌, Option, Some, None, List, [], ◌∷◌, arith, ap, sym, refl, ◌∙◌, subst, ◌++◌, append_assoc, length, length-append, ◌≤◌}
use Rattle.std.proofs.lemmas.List.{append-nil}
use Rattle.cg_form.specs.Game.{Game}
use Rattle.cg_cells.specs.Store.{State, Spends}
use Rattle.cg_nodes.specs.Meant.{Meant}
use Rattle.cg_nodes.specs.Games.{IsGame, game_at, ListsAs, listed, IsList, AreGames, games_at, IsHead, StandFor}
use Rattle.cg_nodes.specs.declared.reading.Split.{Split}
use Rattle.cg_nodes.proofs.Later.{game_later, are_games_later, games_later, stand_later, listed_as, nothing_spent, spends_then}

pub are_games-append : {R : Type 0} (s : State Meant R) (hs ks : List ℕ) → AreGames s hs → AreGames s ks
    → AreGames s (hs ++ ks)
are_games-append s [] ks a b = b
are_games-append s (h ∷ hs) ks a b = (a.0, are_games-append s hs ks a.1 b)

pub games_at-append : {R : Type 0} (s : State Meant R) (hs ks : List ℕ)
    → games_at s (hs ++ ks) ≡ games_at s hs ++ games_at s ks
games_at-append s [] ks = refl
games_at-append s (h ∷ hs) ks = ap (λ gs. game_at s h ∷ gs) (games_at-append s hs ks)

-- ---- reading a list

-- the handles so far, with those that are left, are those of the list gs
pub record Gathered {R : Type 0} (s t : State Meant R) (hs : List ℕ) (o : Option ℕ) (gs : List Game) : Type 0 where
  pub spends : Spends 0 s t
  pub left : IsList t o
  pub games : AreGames t hs
  pub all : games_at t hs ++ listed t o ≡ gs

pub gathered_more : {R : Type 0} (s t u : State Meant R) (hs : List ℕ) (h : ℕ) (o p : Option ℕ) (gs : List Game)
    → Gathered s t hs o gs → Spends 0 t u
    → IsGame u h → IsList u p → listed t o ≡ game_at u h ∷ listed u p → Gathered s u (hs ++ h ∷ []) p gs
gathered_more s t u hs h o p gs k a g l e = record {
  spends = spends_then 0 0 s t u k.spends a;
  left = l;
  games = are_games-append u hs (h ∷ []) (are_games_later t u a.known hs k.games) (g, tt);
  all =
      ap (λ z. z ++ listed u p) (games_at-append u hs (h ∷ []))
      ∙ (append_assoc (games_at u hs) (game_at u h ∷ []) (listed u p)
      ∙ (ap (λ z. z ++ (game_at u h ∷ listed u p)) (games_later t u a.known hs k.games)
      ∙ (ap (λ z. games_at t hs ++ z) (sym e) ∙ k.all)));
}

pub gathered_all : {R : Type 0} (s t u : State Meant R) (hs : List ℕ) (o : Option ℕ) (gs : List Game)
    → Gathered s t hs o gs → Spends 0 t u → listed t o ≡ []
    → AreGames u hs × (games_at u hs ≡ gs)
gathered_all s t u hs o gs k a e = (
  are_games_later t u a.known hs k.games,
  games_later t u a.known hs k.games ∙ (sym (append-nil (games_at t hs)) ∙ (ap (λ z. games_at t hs ++ z) (sym e)
      ∙ k.all)),
)

pub head_end : {R : Type 0} (s : State Meant R) (o : Option Split) (gs : List Game) → ((p : Split) → o ≡ Some p
    → ⊥) → IsHead s o gs → gs ≡ []
head_end s None gs n h = h
head_end s (Some p) gs n h = absurd (n p refl)

-- ---- making a list

-- the list of the games of the options that are no longer in the rest
pub record Stacked {R : Type 0} (s t : State Meant R) (options rest : List ℕ) (o : Option ℕ) : Type 0 where
  pub done : ℕ
  pub count : done + length rest ≡ length options
  pub spends : Spends done s t
  pub list : IsList t o
  pub games : AreGames s rest
  pub all : games_at s rest ++ listed t o ≡ games_at s options

pub stacked_none : {R : Type 0} (s : State Meant R) (options : List ℕ) → AreGames s options
    → Stacked s s options options None
stacked_none s options a = record {
  done = 0;
  count = omega arith;
  spends = nothing_spent s;
  list = refl;
  games = a;
  all = append-nil (games_at s options);
}

pub are_games-left : {R : Type 0} (s : State Meant R) (hs ks : List ℕ) → AreGames s (hs ++ ks) → AreGames s hs
are_games-left s [] ks a = tt
are_games-left s (h ∷ hs) ks a = (a.0, are_games-left s hs ks a.1)

pub are_games-last : {R : Type 0} (s : State Meant R) (hs : List ℕ) (k : ℕ) → AreGames s (hs ++ k ∷ []) → IsGame s k
are_games-last s [] k a = a.0
are_games-last s (h ∷ hs) k a = are_games-last s hs k a.1

pub stacked_game : {R : Type 0} (s t : State Meant R) (options rest left : List ℕ) (h : ℕ) (o : Option ℕ)
    → Stacked s t options rest o → rest ≡ left ++ h ∷ [] → IsGame s h
stacked_game s t options rest left h o k e =
    are_games-last s left h (rw e at k.games)

pub stacked_spare : {R : Type 0} (s t : State Meant R) (options rest left : List ℕ) (h : ℕ) (o : Option ℕ)
    → Stacked s t options rest o → rest ≡ left ++ h ∷ [] → length options ≤ s.spare → 1 ≤ t.spare
stacked_spare s t options rest left h o k e l =
    let n = ap length e in
    let m = length-append left (h ∷ []) in
    let p = k.spends.spare in
    let q = k.count in
    omega arith

pub stacked_more : {R : Type 0} (s t u : State Meant R) (options rest left : List ℕ) (h : ℕ) (o p : Option ℕ)
    → Stacked s t options rest o → rest ≡ left ++ h ∷ [] → Spends 1 t u
    → ListsAs u p (game_at t h ∷ listed t o) → Stacked s u options left p
stacked_more {R} s t u options rest left h o p k e a l =
    let n = ap length e in
    let m = length-append left (h ∷ []) in
    let q = k.count in
    let b : AreGames s (left ++ h ∷ []) = rw e at k.games in
    let same : listed u p ≡ game_at t h ∷ listed t o = listed_as u p (game_at t h ∷ listed t o) l in
    record {
      done = k.done + 1;
      count = omega arith;
      spends = spends_then k.done 1 s t u k.spends a;
      list = rw same l;
      games = are_games-left s left (h ∷ []) b;
      all =
          ap (λ z. games_at s left ++ z) same
          ∙ (ap (λ z. games_at s left ++ (z ∷ listed t o)) (game_later s t k.spends.known h (are_games-last s left h b))
          ∙ (sym (append_assoc (games_at s left) (game_at s h ∷ []) (listed t o))
          ∙ (ap (λ z. z ++ listed t o) (sym (games_at-append s left (h ∷ [])))
          ∙ (ap (λ z. games_at s z ++ listed t o) (sym e) ∙ k.all))));
    }

pub stacked_all : {R : Type 0} (s t : State Meant R) (options rest : List ℕ) (o : Option ℕ)
    → Stacked s t options rest o → length rest ≡ 0 → ListsAs t o (games_at s options) × Spends (length options) s t
stacked_all s t options [] o k e =
    let Q : ℕ → Type 0 = λ n. Spends n s t in
    (rw k.all at k.list, subst Q (let c = k.count in omega arith) k.spends)
stacked_all s t options (h ∷ hs) o k e = absurd (omega arith)

-- ---- the options of a game that isn't a number

-- the handles of one of its lists stand for the options of that side
pub side_stand : {R : Type 0} (s t : State Meant R) (hs : List ℕ) (gs options : List Game) → Spends 0 s t
    → StandFor s hs gs → gs ≡ options → StandFor t hs options
side_stand s t hs gs options k a e = let b = stand_later s t k.known hs gs a in (b.0, b.1 ∙ e)
