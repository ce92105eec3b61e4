-- Handles of positions, found one after another.
use Rattle.std.proofs.Common.{◌≡◌, refl, ℕ, ◌+◌, ◌<◌, ◌≤◌, inl, inr, Option, Some, List, [], ◌∷◌, ◌++◌, length, length-append, arith, ap, sym, ◌∙◌, subst}
use Rattle.cg_dyadic.specs.Number.{Number}
use Rattle.cg_form.specs.Depth.{deepest, depth_of}
use Rattle.cg_form.specs.Extended.{extended, positions_before}
use Rattle.cg_form.specs.Game.{Among, Game, node, number, of_list}
use Rattle.cg_form.proofs.Among.{carry}
use Rattle.cg_cells.specs.Meaning.{Grows, Has, IsInjective}
use Rattle.cg_cells.specs.Store.{State, Spends, thing_at}
use Rattle.cg_cells.proofs.Entries.{has_both}
use Rattle.cg_nodes.specs.Meant.{Meant, form}
use Rattle.cg_nodes.specs.Games.{AreDistinct, AreGames, IsGame, IsHead, IsList, StandFor, game_at, games_at, listed}
use Rattle.cg_form.specs.Positions.{all_positions, positions_in, positions_of}
use Rattle.cg_nodes.specs.Walks.{AreFound, AreFoundAfter}
use Rattle.cg_nodes.specs.declared.reading.Split.{Split}
use Rattle.cg_form.proofs.AllPositions.{closed_more, closed_there, extended-last, positions-last, positions_before-depth, positions_of-extended}
use Rattle.cg_form.proofs.Firsts.{extended-among, extended-append, extended-has, extended-length}
use Rattle.cg_form.proofs.Structure.{games}
use Rattle.cg_nodes.proofs.Later.{are_games_later, game_later, games_later, is_game_later, is_list_later, listed_later, spends_then}
use Rattle.cg_nodes.proofs.Lists.{are_games-append, games_at-append}
use Rattle.cg_nodes.proofs.Members.{among_has, has_among, length_games}

-- ---- handles and games

-- a handle whose game is among the games of the list is in the list, where different ids have different things
among-has : {R : Type 0} (s : State Meant R) (hs : List ℕ) (h : ℕ) → IsInjective (thing_at s) → AreGames s hs
    → IsGame s h → Among (game_at s h) (games_at s hs) → Has hs h
among-has s hs h apart a g m =
    let (p, k, e) = among_has s hs (game_at s h) a m in
    rw (apart p h (form (game_at s h)) e g) at k

distinct_more : (hs : List ℕ) (h : ℕ) → AreDistinct hs → ¬ Has hs h → AreDistinct (hs ++ (h ∷ []))
distinct_more [] h d out = (λ m. m, tt)
distinct_more (k ∷ hs) h d out = (
  λ m. elim (has_both hs (h ∷ []) k m) [
    | inl n ↦ d.0 n
    | inr n ↦ elim n [ inl e ↦ out (inl (sym e)) | inr nothing ↦ absurd nothing ]
  ],
  distinct_more hs h d.1 (λ m. out (inr m)),
)

pub found_later : {R Q : Type 0} (s : State Meant R) (t : State Meant Q) (hs : List ℕ)
    → Grows (thing_at s) (thing_at t) → AreFound s hs → AreFound t hs
found_later s t hs k f =
    record {
      games = are_games_later s t k hs f.games;
      distinct = f.distinct;
      closed = rw (games_later s t k hs f.games) f.closed;
    }

-- ---- one game

-- nothing is added for a game that was found
pub found_there : {R : Type 0} (s : State Meant R) (hs : List ℕ) (h : ℕ) → AreFound s hs → Has hs h
    → AreFoundAfter s s hs hs (all_positions (game_at s h))
found_there s hs h f m = record {
  found = f;
  all = sym (closed_there (games_at s hs) (game_at s h) f.closed
      (has_among s hs h m));
}

-- where a game wasn't found, and what comes before it was, it is the next
module _ {R : Type 0} (s t : State Meant R) (hs ks : List ℕ) (h : ℕ) (grows : Grows (thing_at s) (thing_at t)) (apart
    : IsInjective (thing_at s))
    (before : AreFound s hs) (game : IsGame s h) (out : ¬ Has hs h)
    (walked : AreFoundAfter s t hs ks (positions_before (game_at s h))) where
  unseen : ¬ Among (game_at s h) (games_at s hs)
  unseen m = out (among-has s hs h apart before.games game m)

  pub next_all : games_at t ks ++ (game_at s h ∷ []) ≡ extended (games_at s hs) (all_positions (game_at s h))
  next_all = ap (λ z. z ++ (game_at s h ∷ [])) walked.all ∙ sym (extended-last (games_at s hs) (game_at s h) unseen)

  not_yet : ¬ Among (game_at s h) (games_at t ks)
  not_yet m = elim (extended-among games (games_at s hs) (positions_before (game_at s h)) (game_at s h) (carry (game_at s
      h) (games_at t ks) (extended (games_at s hs) (positions_before (game_at s h))) walked.all m)) [
        | inl n ↦ unseen n
        | inr n ↦ (let d = positions_before-depth (game_at s h) (game_at s h) n in absurd (omega arith))
      ]

  pub found_next : AreFoundAfter s t hs (ks ++ (h ∷ [])) (all_positions (game_at s h))
  found_next =
      let same = game_later s t grows h game in
      let g = is_game_later s t grows h game in
      let P' : Game → Type 0 = λ z. Among z (games_at t ks) in
      record {
        found = record {
          games = are_games-append t ks (h ∷ []) walked.found.games (g, tt);
          distinct = distinct_more ks h walked.found.distinct (λ m. not_yet (subst P' same (has_among t ks h m)));
          closed = rw (games_at-append t ks (h ∷ [])) (rw same (closed_more (games_at t ks)
              (game_at s h) walked.found.closed
              (λ k m. carry k (extended (games_at s hs) (positions_before (game_at s h))) (games_at t ks) (sym
              walked.all)
              (extended-has games (games_at s hs) (positions_before (game_at s h)) k m))));
        };
        all = games_at-append t ks (h ∷ []) ∙ ap (λ z. games_at t ks ++ (z ∷ [])) same ∙ next_all;
      }

  -- so one more than so many
  pub next_length : length (extended (games_at s hs) (all_positions (game_at s h))) ≡ length ks + 1
  next_length =
      let a = ap length next_all in
      let b = length-append (games_at t ks) (game_at s h ∷ []) in
      let c = length_games t ks in
      omega arith

-- more than come before it are more than all of its positions
pub before_length : (seen : List Game) (g : Game) (limit : ℕ) → limit < length (extended seen (positions_before g))
    → limit < length (extended seen (all_positions g))
before_length seen g limit l =
    let a = ap (λ z. length (extended seen z)) (positions-last g) in
    let b = extended-length games seen (positions_before g) (g ∷ []) in
    omega arith

-- ---- the positions before a game

-- a number has none
pub number_walked : {R : Type 0} (s t : State Meant R) (hs : List ℕ) (h : ℕ) (x : Number)
    → Grows (thing_at s) (thing_at t) → AreFound s hs → game_at s h ≡ number x
    → AreFoundAfter s t hs hs (positions_before (game_at s h))
number_walked s t hs h x k f e = record {
  found = found_later s t hs k f;
  all = games_later s t k hs f.games ∙ ap (λ g. extended (games_at s hs) (positions_before g)) (sym e);
}

-- those of another game are those of its lists
module _ {R : Type 0} (s r : State Meant R) (hs : List ℕ) (h : ℕ) (ls rs : Option ℕ) (sr : Spends 0 s r) (before : AreFound s hs)
    (read : IsList r ls × IsList r rs × (game_at s h ≡ node (listed r ls) (listed r rs))) where
  same_before : games_at r hs ≡ games_at s hs
  same_before = games_later s r sr.known hs before.games

  -- more than the positions of the first list are more than those of the game
  pub left_length : (limit : ℕ) → limit < length (extended (games_at r hs) (positions_in (of_list (listed r ls))))
      → limit < length (extended (games_at s hs) (positions_before (game_at s h)))
  left_length limit l =
      let ps : List Game = positions_in (of_list (listed r ls)) in
      let a = ap (λ z. length (extended z ps)) same_before in
      let b = ap (λ z. length (extended (games_at s hs) (positions_before z))) read.2 in
      let c = extended-length games (games_at s hs) ps (positions_in (of_list (listed r rs))) in
      omega arith

  module _ (u : State Meant R) (ks : List ℕ) (ru : Spends 0 r u) (left : AreFoundAfter r u hs ks (positions_in (of_list (listed r ls)))) where
    both : extended (games_at u ks) (positions_in (of_list (listed u rs))) ≡ extended (games_at s hs)
        (positions_before (game_at s h))
    both =
        let ps : List Game = positions_in (of_list (listed r ls)) in
        ap (λ z. extended (games_at u ks) (positions_in (of_list z))) (listed_later r u ru.known rs read.1)
        ∙ ap (λ z. extended z (positions_in (of_list (listed r rs)))) (left.all ∙ ap (λ z. extended z ps) same_before)
        ∙ sym (extended-append games (games_at s hs) ps (positions_in (of_list (listed r rs))))
        ∙ ap (λ z. extended (games_at s hs) (positions_before z)) (sym read.2)

    pub lists_walked : (v : State Meant R) (ms : List ℕ) → AreFoundAfter u v ks ms (positions_in (of_list (listed u rs)))
        → AreFoundAfter s v hs ms (positions_before (game_at s h))
    lists_walked v ms right = record { found = right.found; all = right.all ∙ both }

    pub right_length : (limit : ℕ) → limit < length (extended (games_at u ks) (positions_in (of_list (listed u rs))))
        → limit < length (extended (games_at s hs) (positions_before (game_at s h)))
    right_length limit l = let a = ap length both in omega arith

-- ---- a list of games

-- so far along the list, what is left adds the rest
pub record Walking {R : Type 0} (s t : State Meant R) (list others : Option ℕ) (before hs : List ℕ) (limit : ℕ) :
    Type 0 where
  pub spends : Spends 0 s t
  pub left : IsList t others
  pub found : AreFound t hs
  pub within : length hs ≤ limit
  pub rest : extended (games_at t hs) (positions_in (of_list (listed t others))) ≡ extended (games_at s before)
      (positions_in (of_list (listed s list)))
  pub depth : deepest (listed t others) ≤ deepest (listed s list)

module _ {R : Type 0} (s t u : State Meant R) (list left : Option ℕ) (before found : List ℕ) (limit : ℕ) (top :
    Split) (so_far : Walking s t list left before found limit)
    (tu : Spends 0 t u) (head : IsHead u (Some top) (listed t left)) where
  all_left : extended (games_at u found) (all_positions (game_at u top.first) ++ positions_in (of_list (listed u
      top.rest)))
      ≡ extended (games_at s before) (positions_in (of_list (listed s list)))
  all_left =
      ap (λ z. extended z (all_positions (game_at u top.first) ++ positions_in (of_list (listed u top.rest))))
      (games_later t u tu.known found so_far.found.games)
      ∙ ap (λ z. extended (games_at t found) (positions_in (of_list z))) (sym head.2) ∙ so_far.rest

  pub found_at_top : AreFound u found
  found_at_top = found_later t u found tu.known so_far.found

  pub top_depth : depth_of (game_at u top.first) ≤ deepest (listed s list)
  top_depth = let a = ap deepest head.2 in let b = so_far.depth in omega arith

  -- more than the positions of the next game are more than those of the list
  pub walking_length : (n : ℕ) → n < length (extended (games_at u found) (all_positions (game_at u top.first)))
      → n < length (extended (games_at s before) (positions_in (of_list (listed s list))))
  walking_length n l =
      let a = ap length all_left in
      let b = extended-length games (games_at u found) (all_positions (game_at u top.first)) (positions_in (of_list (listed
      u top.rest))) in
      omega arith

  module _ (v : State Meant R) (longer : List ℕ) (uv : Spends 0 u v) (more : AreFoundAfter u v found longer
      (all_positions (game_at u top.first))) (fits : length longer ≤ limit) where
    pub walking_more : Walking s v list top.rest before longer limit
    walking_more =
        let a = ap deepest head.2 in
        let b = so_far.depth in
        let c = listed_later u v uv.known top.rest head.1 in
        let d = ap deepest c in
        record {
          spends = spends_then 0 0 s u v (spends_then 0 0 s t u so_far.spends tu) uv;
          left = is_list_later u v uv.known top.rest head.1;
          found = more.found;
          within = fits;
          rest =
              ap (λ z. extended (games_at v longer) (positions_in (of_list z))) c
              ∙ ap (λ z. extended z (positions_in (of_list (listed u top.rest)))) more.all
              ∙ sym (extended-append games (games_at u found) (all_positions (game_at u top.first)) (positions_in (of_list
              (listed u top.rest))))
              ∙ all_left;
          depth = omega arith;
        }

    pub walking_shorter : length (listed v top.rest) < length (listed t left)
    walking_shorter =
        let a = ap length head.2 in
        let b = ap length (listed_later u v uv.known top.rest head.1) in
        omega arith

pub walking_all : {R : Type 0} (s t u : State Meant R) (list left : Option ℕ) (before found : List ℕ) (limit : ℕ)
    → Walking s t list left before found limit → Spends 0 t u → listed t left ≡ []
    → AreFoundAfter s u before found (positions_in (of_list (listed s list)))
walking_all s t u list left before found limit w k none = record {
  found = found_later t u found k.known w.found;
  all = games_later t u k.known found w.found.games
      ∙ ap (λ z. extended (games_at t found) (positions_in (of_list z))) (sym none) ∙ w.rest;
}

-- ---- the positions of a game

pub found_positions : {R : Type 0} (s t : State Meant R) (h : ℕ) (none hs ks : List ℕ) → none ≡ [] → ks ≡ hs
    → AreFoundAfter s t none hs (all_positions (game_at s h))
    → StandFor t ks (positions_of (game_at s h))
found_positions {R} s t h none hs ks e same f =
    rw same (
      f.found.games,
      f.all ∙ ap (λ z. extended (games_at s z) (all_positions (game_at s h))) e
          ∙ sym (positions_of-extended (game_at s h)),
    )

pub none_length : {R : Type 0} (s : State Meant R) (h : ℕ) (none : List ℕ) (limit : ℕ) → none ≡ []
    → limit < length (extended (games_at s none) (all_positions (game_at s h)))
    → limit < length (positions_of (game_at s h))
none_length s h none limit e l =
    let a = ap (λ z. length (extended (games_at s z) (all_positions (game_at s h)))) e in
    let b = ap length (positions_of-extended (game_at s h)) in
    omega arith

pub found_within : {R : Type 0} (s t : State Meant R) (h : ℕ) (none hs : List ℕ) (limit : ℕ) → none ≡ []
    → AreFoundAfter s t none hs (all_positions (game_at s h)) → length hs ≤ limit
    → length (positions_of (game_at s h)) ≤ limit
found_within s t h none hs limit e f l =
    let a = found_positions s t h none hs hs e refl f in
    let b = ap length a.1 in
    let c = length_games t hs in
    omega arith
