-- Games that are added to a game, one after another.
use Rattle.std.proofs.Common.{◌≡◌, refl, ℕ, zero, suc, ◌+◌, ◌≤◌, ◌<◌, arith, ap, sym, ◌∙◌, subst, List, []}
use Rattle.std.proofs.Common.{◌∷◌, ◌++◌, append_assoc, drop, get_or, length, map, take, Result, Ok, Err}
use Rattle.std.specs.Prelude.{IfOk}
use Rattle.std.proofs.lemmas.List.{append-nil, length-map, take_all}
use Rattle.cg_cells.specs.Store.{State}
use Rattle.cg_canon.proofs.ItemLaws.{all_pass-none}
use Rattle.cg_canon.proofs.Keeping.{keeps_all, keeps_then}
use Rattle.cg_canon.proofs.MadeSteps.{made_as, made_then, passed, stopped}
use Rattle.cg_canon.specs.Items.{AllPass, Item}
use Rattle.cg_canon.specs.Made.{Gives, ItemsMade}
use Rattle.cg_canon.specs.SumItems.{sum_items}
use Rattle.cg_canon.specs.Works.{Keeps}
use Rattle.cg_canon.specs.declared.fault.ValueFault.{ValueFault}
use Rattle.cg_canon.specs.declared.rest.WorkRest.{WorkRest}
use Rattle.cg_form.specs.Game.{Game}
use Rattle.cg_form.specs.Sum.{sum}
use Rattle.cg_nodes.proofs.Later.{are_games_later, stands_game, stands_is_game, stands_later}
use Rattle.cg_nodes.specs.Can.{can}
use Rattle.cg_nodes.specs.Games.{AreGames, IsGame, StandFor, StandsFor, game_at}
use Rattle.cg_nodes.specs.Meant.{Meant}
use Rattle.cg_moves.proofs.Places.{split_read, take_next}
use Rattle.cg_values.specs.Items.{added, added_items}
use Rattle.cg_values.proofs.GiveSteps.{can-sum_forms}
use Rattle.cg_values.proofs.HandleSteps.{stand-first, stand-length, stand-rest}

-- ---- the games and items of two lists

added-append : (g : Game) (hs ks : List Game) → added g (hs ++ ks) ≡ added (added g hs) ks
added-append g [] ks = refl
added-append g (h ∷ hs) ks = added-append (sum g h) hs ks

items-append : (limit : ℕ) (g : Game) (hs ks : List Game)
    → added_items limit g (hs ++ ks) ≡ added_items limit g hs ++ added_items limit (added g hs) ks
items-append limit g [] ks = refl
items-append limit g (h ∷ hs) ks =
    ap (λ z. sum_items limit (can g) (can h) ++ z) (items-append limit (sum g h) hs ks)
    ∙ sym (append_assoc (sum_items limit (can g) (can h)) (added_items limit (sum g h) hs)
    (added_items limit (added (sum g h) hs) ks))

-- ---- the handles of the games

module _ {R : Type 0} (s : State Meant R) where
  -- the game for which the handle at this place stands
  pub record At (hs : List Game) (i other : ℕ) : Type 0 where
    pub game : Game
    pub within : i < length hs
    pub read : game ≡ get_or hs i game
    pub stands : StandsFor s other (can game)

  pub game-at_place : (others : List ℕ) (hs : List Game) (i other : ℕ) → StandFor s others (map can hs) → i < length others
      → other ≡ get_or others i other → At hs i other
  game-at_place [] hs i other all within read = absurd (omega arith)
  game-at_place (k ∷ ks) [] i other all within read = let e = all.1 in absurd (cc)
  game-at_place (k ∷ ks) (h ∷ hs) zero other all within read =
      let P : ℕ → Type 0 = λ z. StandsFor s z (can h) in record {
        game = h;
        within = omega arith;
        read = refl;
        stands = subst P (sym read) (stand-first s k ks (can h) (map can hs) all);
      }
  game-at_place (k ∷ ks) (h ∷ hs) (suc i) other all within read =
      let rest = game-at_place ks hs i other (stand-rest s k ks (can h) (map can hs) all) (omega arith) read in
      let w = rest.within in record {
        game = rest.game;
        within = omega (arith, w);
        read = rest.read;
        stands = rest.stands;
      }

  game-other : (others : List ℕ) (i other : ℕ) → AreGames s others → i < length others → other ≡ get_or others i other
      → IsGame s other
  game-other [] i other all within read = absurd (omega arith)
  game-other (k ∷ ks) zero other all within read = rw read all.0
  game-other (k ∷ ks) (suc i) other all within read = game-other ks i other all.1 (omega arith) read

-- ---- while they are added

-- these games were added to the first
pub record AddedTo {R : Type 0} (s t : State Meant (WorkRest R)) (g : Game) (hs : List Game) (sum_handle : ℕ) : Type 0 where
  pub stands : StandsFor t sum_handle (can (added g hs))
  pub passed : AllPass s.rest.share s.rest.spent (added_items s.rest.limit g hs) t.rest.spent

-- so many of the others were added to the first
pub record Adding {R : Type 0} (s t : State Meant (WorkRest R)) (first : ℕ) (others : List ℕ) (i sum_handle : ℕ)
    : Type 0 where
  pub game : IsGame t sum_handle
  pub keeps : Keeps s t
  pub more : s.spare ≤ t.spare
  pub adds : (g : Game) (hs : List Game) → StandsFor s first (can g) → StandFor s others (map can hs)
      → AddedTo s t g (take i hs) sum_handle

module _ {R : Type 0} (s : State Meant (WorkRest R)) (first : ℕ) (others : List ℕ) where
  pub adding_none : IsGame s first → Adding s s first others 0 first
  adding_none game = record {
    game = game;
    keeps = keeps_all s;
    more = omega arith;
    adds = λ g hs st all. record { stands = st; passed = all_pass-none s.rest.share s.rest.spent };
  }

  pub adding_done : (t : State Meant (WorkRest R)) (i sum_handle : ℕ) → length others ≤ i
      → Adding s t first others i sum_handle → (g : Game) (hs : List Game) → StandsFor s first (can g)
      → StandFor s others (map can hs) → Gives s t (added_items s.rest.limit g hs) (can (added g hs)) (Ok sum_handle)
  adding_done t i sum_handle end so_far g hs st all =
      let n = stand-length s others (map can hs) all in
      let m = length-map hs can in
      let done = rw (take_all i hs (omega (arith, n, m, end))) at (so_far.adds g hs st all) in record {
        game = done.stands;
        made = record { charged = done.passed; refused = tt; keeps = so_far.keeps };
        more = so_far.more;
      }

  module _ (t : State Meant (WorkRest R)) (i sum_handle other : ℕ) (within : i < length others)
      (read : other ≡ get_or others i other) (so_far : Adding s t first others i sum_handle) where
    pub other-game : AreGames s others → IsGame t other
    other-game games = game-other t others i other (are_games_later s t so_far.keeps.known others games) within read

    module _ (u : State Meant (WorkRest R)) (q : Result ℕ ValueFault) (gives : Gives t u
        (sum_items t.rest.limit (game_at t sum_handle) (game_at t other)) (can (sum (game_at t sum_handle) (game_at t other))) q) where
      module _ (g : Game) (hs : List Game) (st : StandsFor s first (can g)) (all : StandFor s others (map can hs)) where
        place : At s hs i other
        place = game-at_place s others hs i other all within read

        abbrev before : Game
        before = added g (take i hs)

        sum-read : game_at t sum_handle ≡ can before
        sum-read = stands_game t sum_handle (can before) (so_far.adds g hs st all).stands

        other-read : game_at t other ≡ can place.game
        other-read =
            stands_game t other (can place.game) (stands_later s t so_far.keeps.known other (can place.game) place.stands)

        items-read : sum_items t.rest.limit (game_at t sum_handle) (game_at t other)
            ≡ sum_items s.rest.limit (can before) (can place.game)
        items-read =
            ap (λ z. sum_items t.rest.limit z (game_at t other)) sum-read
            ∙ ap (λ z. sum_items t.rest.limit (can before) z) other-read
            ∙ ap (λ n. sum_items n (can before) (can place.game)) so_far.keeps.limit

        sum-is : can (sum (game_at t sum_handle) (game_at t other)) ≡ can (sum before place.game)
        sum-is =
            ap (λ z. can (sum z (game_at t other))) sum-read ∙ ap (λ z. can (sum (can before) z)) other-read
            ∙ can-sum_forms before place.game

        abbrev both_items : List Item
        both_items = added_items s.rest.limit g (take i hs) ++ sum_items s.rest.limit (can before) (can place.game)

        both_made : ItemsMade s u both_items q
        both_made =
            made_then s t u (added_items s.rest.limit g (take i hs)) (sum_items s.rest.limit (can before) (can place.game)) q
            (so_far.adds g hs st all).passed so_far.keeps
            (made_as t u (sum_items t.rest.limit (game_at t sum_handle) (game_at t other))
            (sum_items s.rest.limit (can before) (can place.game)) q items-read gives.made)

        one_more : added_items s.rest.limit g (take i hs ++ (place.game ∷ [])) ≡ both_items
        one_more =
            items-append s.rest.limit g (take i hs) (place.game ∷ [])
            ∙ ap (λ z. added_items s.rest.limit g (take i hs) ++ z)
            (append-nil (sum_items s.rest.limit (can before) (can place.game)))

        added-more : (h : ℕ) → q ≡ Ok h → AddedTo s u g (take (i + 1) hs) h
        added-more h ok =
            let G : Result ℕ ValueFault → Type 0 = λ z. IfOk z (λ k. StandsFor u k (can (sum (game_at t sum_handle) (game_at t other)))) in
            rw (take_next hs i place.game place.within place.read) (record {
              stands = rw (← (sum-is ∙ ap can (sym (added-append g (take i hs) (place.game ∷ []))))) (subst G ok gives.game);
              passed = rw one_more (passed s u both_items q h ok both_made);
            })

        all_items : both_items ++ added_items s.rest.limit (sum before place.game) (drop (suc i) hs)
            ≡ added_items s.rest.limit g hs
        all_items =
            append_assoc (added_items s.rest.limit g (take i hs)) (sum_items s.rest.limit (can before) (can place.game))
            (added_items s.rest.limit (sum before place.game) (drop (suc i) hs))
            ∙ sym (items-append s.rest.limit g (take i hs) (place.game ∷ drop (suc i) hs))
            ∙ ap (added_items s.rest.limit g) (sym (split_read hs i place.game place.within place.read))

        pub adding_stopped : (v : Result ℕ ValueFault) (e : ValueFault) → q ≡ Err e → v ≡ Err e
            → Gives s u (added_items s.rest.limit g hs) (can (added g hs)) v
        adding_stopped v e a b =
            let x = so_far.more in record {
              game = rw b tt;
              made = made_as s u (both_items ++ added_items s.rest.limit (sum before place.game) (drop (suc i) hs))
                  (added_items s.rest.limit g hs) v all_items
                  (stopped s u both_items (added_items s.rest.limit (sum before place.game) (drop (suc i) hs)) q v e a b both_made);
              more = omega (arith, x, gives.more);
            }

      pub adding_more : (h : ℕ) → q ≡ Ok h → Adding s u first others (i + 1) h
      adding_more h ok =
          let G : Result ℕ ValueFault → Type 0 = λ z. IfOk z (λ k. StandsFor u k (can (sum (game_at t sum_handle) (game_at t other)))) in
          let x = so_far.more in record {
            game = stands_is_game u h (can (sum (game_at t sum_handle) (game_at t other))) (subst G ok gives.game);
            keeps = keeps_then s t u so_far.keeps gives.made.keeps;
            more = omega (arith, x, gives.more);
            adds = λ g hs st all. added-more g hs st all h ok;
          }
