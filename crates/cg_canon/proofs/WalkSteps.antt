-- Walks over the positions of a game of an arena, one step after another.
use Rattle.std.proofs.Common.{◌≡◌, refl, ℕ, ◌+◌, ◌<◌, ◌≤◌, arith, ap, sym, ◌∙◌, subst, ◌⊎◌, inl, inr}
use Rattle.std.proofs.Common.{List, [], ◌∷◌, ◌++◌, length, length-append, take, drop, get_or}
use Rattle.std.proofs.lemmas.Bool.Decides.{eqb_tells}
use Rattle.std.proofs.lemmas.List.{append_assoc, append-nil, get_or_append_left, get_or_push}
use Rattle.std.proofs.lemmas.List.{length_push, take-append-drop, take_more}
use Rattle.std.proofs.lemmas.List.Elements.{All-push, All-same}
use Rattle.cg_form.specs.Canonical.{Canonical}
use Rattle.cg_form.specs.Extended.{extended, positions_before}
use Rattle.cg_form.specs.Game.{Among, Game, node, of_list}
use Rattle.cg_form.specs.Positions.{all_positions, positions_in, positions_of}
use Rattle.cg_form.proofs.AllPositions.{closed_more, closed_none, extended-last, positions_before-depth, positions_in-own, positions_of-extended}
use Rattle.cg_form.proofs.Among.{among-append_left, among-append_right, carry, to_list-of_list}
use Rattle.cg_form.proofs.Firsts.{extended-among, extended-append, extended-has, extended-length}
use Rattle.cg_form.proofs.Structure.{games}
use Rattle.cg_arena.specs.Arena.{IsIndex, game_of, games_of}
use Rattle.cg_arena.proofs.Slices.{game_before, games_before, item_among, range_before}
use Rattle.cg_canon.specs.declared.walk.Position.{Position}
use Rattle.cg_canon.specs.declared.walk.Walk.{Walk}
use Rattle.cg_canon.specs.Walk.{ArePlaces, IsPlace, IsWalk, indexes_of, lefts_of, rights_of}
use Rattle.cg_canon.specs.Walking.{WalkStands, found_in}
use Rattle.cg_canon.proofs.WalkPlaces.{found_length, found_pushed, indexes_length, indexes_pushed}

-- ---- one game

module _ (seen found : List Game) (g : Game) (out : ¬ Among g seen) (walked : found ≡ extended seen (positions_before g)) where
  pub not_yet : ¬ Among g found
  not_yet m = elim (extended-among games seen (positions_before g) g (carry g found (extended seen (positions_before g)) walked m)) [
    | inl n ↦ out n
    | inr n ↦ (let d = positions_before-depth g g n in absurd (omega arith))
  ]

  pub before_there : (k : Game) → Among k (positions_before g) → Among k found
  before_there k m = carry k (extended seen (positions_before g)) found (sym walked) (extended-has games seen (positions_before g) k m)

  pub next_all : found ++ (g ∷ []) ≡ extended seen (all_positions g)
  next_all = ap (λ z. z ++ (g ∷ [])) walked ∙ sym (extended-last seen g out)

  pub next_more : (limit : ℕ) → limit ≡ length found → limit < length (extended seen (all_positions g))
  next_more limit e =
      let a = ap length next_all in
      let b = length-append found (g ∷ []) in
      omega arith

-- ---- more positions

-- a position stays at its place as options and games come behind
place_later : (opts more : List ℕ) (fs hs : List Game) (i : ℕ) (p : Position) → i < length fs → IsPlace opts fs i p
    → IsPlace (opts ++ more) (fs ++ hs) i p
place_later opts more fs hs i p less h =
    let b = h.second in
    let e = h.end in
    let n = length-append opts more in
    let l : lefts_of (opts ++ more) p ≡ lefts_of opts p = range_before opts more p.lefts p.rights h.first (omega arith) in
    let r : rights_of (opts ++ more) p ≡ rights_of opts p = range_before opts more p.rights p.end h.second h.end in
    let own = game_before fs hs i less in
    let low : games_of (fs ++ hs) (lefts_of (opts ++ more) p) ≡ games_of fs (lefts_of opts p) =
    ap (games_of (fs ++ hs)) l ∙ games_before fs hs (lefts_of opts p) (λ k d m. let x = h.lefts_before k d m in omega arith) in
    let high : games_of (fs ++ hs) (rights_of (opts ++ more) p) ≡ games_of fs (rights_of opts p) =
    ap (games_of (fs ++ hs)) r ∙ games_before fs hs (rights_of opts p) (λ k d m. let x = h.rights_before k d m in omega arith) in
    record {
      first = h.first;
      second = h.second;
      end = omega arith;
      lefts_before = rw l h.lefts_before;
      rights_before = rw r h.rights_before;
      as_zero = λ t. own ∙ h.as_zero t;
      as_number = λ t. let k = h.as_number t in record { x = k.x; is = own ∙ k.is; none = k.none };
      as_node = λ t. own ∙ h.as_node t ∙ ap (λ z. node z (games_of fs (rights_of opts p))) (sym low)
          ∙ ap (node (games_of (fs ++ hs) (lefts_of (opts ++ more) p))) (sym high);
    }

-- where the game wasn't found, and all of its positions before it were, its position is the next
module _ (gs : List Game) (marks m2 : List ℕ) (ps : List Position) (opts more : List ℕ) (p : Position) (index : ℕ)
    (stands : WalkStands gs marks ps opts) (own : p.game ≡ index) (within : IsIndex gs index) (canonical : Canonical (game_of gs index))
    (before : (k : Game) → Among k (positions_before (game_of gs index)) → Among k (found_in gs ps))
    (out : ¬ Among (game_of gs index) (found_in gs ps))
    (place : IsPlace (opts ++ more) (found_in gs ps ++ (game_of gs index ∷ [])) (length ps) p)
    (room : length m2 ≡ length marks) (mark : get_or m2 p.game 0 ≡ length ps)
    (others : (i : ℕ) → ¬ (i ≡ p.game) → get_or m2 i 0 ≡ get_or marks i 0) where
  abbrev after : List Position
  after = ps ++ (p ∷ [])

  at_old : (i : ℕ) → i < length ps → get_or (indexes_of after) i 0 ≡ get_or (indexes_of ps) i 0
  at_old i l =
      let n = indexes_length ps in
      ap (λ z. get_or z i 0) (indexes_pushed ps p) ∙ get_or_append_left (indexes_of ps) (p.game ∷ []) 0 i (omega arith)

  at_new : (i : ℕ) → i ≡ length ps → get_or (indexes_of after) i 0 ≡ p.game
  at_new i e =
      ap (λ z. get_or z i 0) (indexes_pushed ps p) ∙ get_or_push (indexes_of ps) p.game 0 i (indexes_length ps ∙ sym e)

  next_marked : (i : ℕ) → i < length after → get_or m2 (get_or (indexes_of after) i 0) 0 ≡ i
  next_marked i l = elim (eqb_tells i (length ps)) [
    | inl t ↦ ap (λ z. get_or m2 z 0) (at_new i t.1) ∙ mark ∙ sym t.1
    | inr t ↦
        let d = t.1 in
        let n = length_push ps p in
        let k = indexes_length ps in
        let less : i < length ps = omega arith in
        let differs : ¬ (get_or (indexes_of ps) i 0 ≡ p.game) =
        λ e. out (item_among gs (indexes_of ps) i index (omega arith) (sym (e ∙ own))) in
        ap (λ z. get_or m2 z 0) (at_old i less) ∙ others (get_or (indexes_of ps) i 0) differs ∙ stands.marked.marked i less
  ]

  next_places : ArePlaces (opts ++ more) (found_in gs after) after
  next_places i q l e = elim (eqb_tells i (length ps)) [
    | inl t ↦
        let same : q ≡ p = e ∙ get_or_push ps p q i (sym t.1) in
        let P : ℕ → Position → Type 0 = λ n z. IsPlace (opts ++ more) (found_in gs ps ++ (game_of gs index ∷ [])) n z in
        rw (found_pushed gs ps p index own) (subst (λ z. P i z) (sym same) (subst (λ n. P n p) (sym t.1) place))
    | inr t ↦
        let d = t.1 in
        let n = length_push ps p in
        let k = found_length gs ps in
        let less : i < length ps = omega arith in
        rw (found_pushed gs ps p index own) (place_later opts more (found_in gs ps) (game_of gs index ∷ []) i q (omega arith)
        (stands.places i q less (e ∙ get_or_append_left ps (p ∷ []) q i less)))
  ]

  pub next_stands : WalkStands gs m2 after (opts ++ more)
  next_stands =
      let all = found_pushed gs ps p index own in
      let old = stands.marked.room in
      record {
        marked = record {
          indexes = All-same (IsIndex gs) (indexes_of after) (indexes_of ps ++ (p.game ∷ [])) (indexes_pushed ps p)
              (All-push (IsIndex gs) (indexes_of ps) p.game stands.marked.indexes (rw own within));
          room = omega arith;
          marked = next_marked;
        };
        canonical = rw all (All-push Canonical (found_in gs ps) (game_of gs index) stands.canonical canonical);
        closed = rw all (closed_more (found_in gs ps) (game_of gs index) stands.closed before);
        places = next_places;
      }

-- the same, where the lists are given by equations
module _ (gs : List Game) (marks m2 : List ℕ) (ps before after : List Position) (opts more opts2 opts3 : List ℕ) (p : Position) (index : ℕ)
    (e : before ≡ ps) (f : after ≡ before ++ (p ∷ [])) (own : p.game ≡ index) where
  after_is : after ≡ ps ++ (p ∷ [])
  after_is = f ∙ ap (λ z. z ++ (p ∷ [])) e

  pub next_walk : WalkStands gs marks ps opts → IsIndex gs index → Canonical (game_of gs index)
      → ((k : Game) → Among k (positions_before (game_of gs index)) → Among k (found_in gs ps))
      → ¬ Among (game_of gs index) (found_in gs ps) → opts2 ≡ opts ++ more → opts3 ≡ opts2
      → IsPlace opts2 (found_in gs ps ++ (game_of gs index ∷ [])) (length ps) p
      → length m2 ≡ length marks → get_or m2 p.game 0 ≡ length before
      → ((i : ℕ) → ¬ (i ≡ p.game) → get_or m2 i 0 ≡ get_or marks i 0) → WalkStands gs m2 after opts3
  next_walk stands within canonical there out k l place room mark others =
      rw after_is (rw (l ∙ k) (next_stands gs marks m2 ps opts more p index stands own within canonical there out
      (rw (← k) place) room (mark ∙ ap length e) others))

  pub next_found : (seen : List Game) → ¬ Among (game_of gs index) seen → found_in gs ps ≡ extended seen (positions_before (game_of gs index))
      → found_in gs after ≡ extended seen (all_positions (game_of gs index))
  next_found seen out walked =
      ap (found_in gs) after_is ∙ found_pushed gs ps p index own ∙ next_all seen (found_in gs ps) (game_of gs index) out walked

-- the games of the options are found with the positions before a game
pub option_before : (gs : List Game) (g : Game) (ls rs : List ℕ) (a : Game) → g ≡ node (games_of gs ls) (games_of gs rs)
    → Among a (games_of gs ls) ⊎ Among a (games_of gs rs) → Among a (positions_before g)
option_before gs g ls rs a is m =
    let own : (qs : List ℕ) → Among a (games_of gs qs) → Among a (positions_in (of_list (games_of gs qs))) =
    λ qs n. positions_in-own (of_list (games_of gs qs)) a (carry a (games_of gs qs) _ (sym (to_list-of_list (games_of gs qs))) n) in
    rw is (elim m [
      | inl n ↦ among-append_left a (positions_in (of_list (games_of gs ls))) (positions_in (of_list (games_of gs rs))) (own ls n)
      | inr n ↦ among-append_right a (positions_in (of_list (games_of gs ls))) (positions_in (of_list (games_of gs rs))) (own rs n)
    ])

-- ---- a list of games

-- the positions of the games at the indexes
abbrev pub walk_over : List Game → List ℕ → List Game
walk_over gs ps = positions_in (of_list (games_of gs ps))

walk_split : (gs : List Game) (ps qs : List ℕ) → walk_over gs (ps ++ qs) ≡ walk_over gs ps ++ walk_over gs qs
walk_split gs [] qs = refl
walk_split gs (p ∷ ps) qs =
    ap (λ z. all_positions (game_of gs p) ++ z) (walk_split gs ps qs)
    ∙ sym (append_assoc (all_positions (game_of gs p)) (walk_over gs ps) (walk_over gs qs))

walk_next : (seen gs : List Game) (ps : List ℕ) (i k : ℕ) → i < length ps → k ≡ get_or ps i 0
    → extended (extended seen (walk_over gs (take i ps))) (all_positions (game_of gs k)) ≡ extended seen (walk_over gs (take (i + 1) ps))
walk_next seen gs ps i k less e =
    ap (λ z. extended (extended seen (walk_over gs (take i ps))) (all_positions (game_of gs z))) e
    ∙ ap (extended (extended seen (walk_over gs (take i ps)))) (sym (append-nil (all_positions (game_of gs (get_or ps i 0)))))
    ∙ sym (extended-append games seen (walk_over gs (take i ps)) (walk_over gs (get_or ps i 0 ∷ [])))
    ∙ ap (extended seen) (sym (walk_split gs (take i ps) (get_or ps i 0 ∷ [])))
    ∙ ap (λ z. extended seen (walk_over gs z)) (sym (take_more ps i 0 less))

-- more than the positions of the first games are more than those of all
first_length : (seen gs : List Game) (ps : List ℕ) (i limit : ℕ) → limit < length (extended seen (walk_over gs (take i ps)))
    → limit < length (extended seen (walk_over gs ps))
first_length seen gs ps i limit l =
    let split = ap (λ z. length (extended seen z)) (ap (walk_over gs) (sym (take-append-drop i ps)) ∙ walk_split gs (take i ps) (drop i ps)) in
    let more = extended-length games seen (walk_over gs (take i ps)) (walk_over gs (drop i ps)) in
    omega arith

module _ (gs seen found : List Game) (ps : List ℕ) (i k : ℕ) (less : i < length ps) (e : k ≡ get_or ps i 0)
    (walked : found ≡ extended seen (walk_over gs (take i ps))) where
  pub walked_next : extended found (all_positions (game_of gs k)) ≡ extended seen (walk_over gs (take (i + 1) ps))
  walked_next = ap (λ z. extended z (all_positions (game_of gs k))) walked ∙ walk_next seen gs ps i k less e

  pub next_longer : (limit : ℕ) → limit < length (extended found (all_positions (game_of gs k)))
      → limit < length (extended seen (walk_over gs ps))
  next_longer limit l = let a = ap length walked_next in first_length seen gs ps (i + 1) limit (omega arith)

-- ---- the options of a game

module _ (gs seen : List Game) (g : Game) (ls rs : List ℕ) (is : g ≡ node (games_of gs ls) (games_of gs rs)) where
  both : extended (extended seen (walk_over gs ls)) (walk_over gs rs) ≡ extended seen (positions_before g)
  both =
      sym (extended-append games seen (walk_over gs ls) (walk_over gs rs))
      ∙ ap (λ z. extended seen (positions_before z)) (sym is)

  pub left_longer : (limit : ℕ) → limit < length (extended seen (walk_over gs ls)) → limit < length (extended seen (positions_before g))
  left_longer limit l =
      let a = ap (λ z. length (extended seen (positions_before z))) is in
      let b = extended-length games seen (walk_over gs ls) (walk_over gs rs) in
      omega arith

  module _ (found : List Game) (left : found ≡ extended seen (walk_over gs ls)) where
    pub sides_walked : extended found (walk_over gs rs) ≡ extended seen (positions_before g)
    sides_walked = ap (λ z. extended z (walk_over gs rs)) left ∙ both

    pub right_longer : (limit : ℕ) → limit < length (extended found (walk_over gs rs)) → limit < length (extended seen (positions_before g))
    right_longer limit l = let a = ap length sides_walked in omega arith

-- ---- a whole walk

pub walk_none : (gs : List Game) (marks : List ℕ) (ps : List Position) (opts : List ℕ) → ps ≡ [] → length gs ≤ length marks
    → WalkStands gs marks ps opts
walk_none gs marks ps opts e room =
    rw e (record {
      marked = record { indexes = λ k d h. absurd (omega arith); room = room; marked = λ i l. absurd (omega arith) };
      canonical = λ k d h. absurd (omega arith);
      closed = closed_none;
      places = λ i p l q. absurd (omega arith);
    })

module _ (gs : List Game) (g : Game) (none : List Position) (e : none ≡ []) where
  all_is : extended (found_in gs none) (all_positions g) ≡ positions_of g
  all_is = ap (λ z. extended (found_in gs z) (all_positions g)) e ∙ sym (positions_of-extended g)

  pub walk_longer : (limit : ℕ) → limit < length (extended (found_in gs none) (all_positions g)) → limit < length (positions_of g)
  walk_longer limit l = let a = ap length all_is in omega arith

  module _ (marks : List ℕ) (w : Walk) (stands : WalkStands gs marks w.positions.items w.options.items)
      (all : found_in gs w.positions.items ≡ extended (found_in gs none) (all_positions g)) where
    pub walk_all : IsWalk gs w (positions_of g)
    walk_all =
        record {
          at = (stands.marked.indexes, all ∙ all_is);
          canonical = rw (← (all ∙ all_is)) stands.canonical;
          places = rw (← (all ∙ all_is)) stands.places;
        }

    pub walk_within : (limit : ℕ) → length w.positions.items ≤ limit → length (positions_of g) ≤ limit
    walk_within limit l =
        let a = ap length (all ∙ all_is) in
        let b = found_length gs w.positions.items in
        omega arith
