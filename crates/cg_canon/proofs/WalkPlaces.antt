-- The next position of a walk over a game of an arena, and the places of its options.
use Rattle.std.proofs.Common.{◌≡◌, refl, ℕ, zero, suc, ◌+◌, ◌<◌, arith, ap, sym, ◌∙◌, inl, inr}
use Rattle.std.proofs.Common.{List, [], ◌∷◌, ◌++◌, length, length-append, take, get_or, map, pos, true, false}
use Rattle.std.specs.List.{All, slice_range}
use Rattle.std.proofs.lemmas.List.{append_assoc, append-nil, get_or-map, get_or_default, get_or_push}
use Rattle.std.proofs.lemmas.List.{length-map, map-append, take_more}
use Rattle.std.proofs.lemmas.List.Elements.{All-push}
use Rattle.cg_dyadic.specs.Number.{Number, whole}
use Rattle.cg_form.specs.Game.{Among, Game, node, number}
use Rattle.cg_arena.specs.Arena.{AreIndexes, IsIndex, game_of, games_of}
use Rattle.cg_arena.proofs.Slices.{games_before, games_pushed, item_among, range_behind, range_none}
use Rattle.cg_canon.specs.declared.walk.Position.{Position}
use Rattle.cg_canon.specs.Walk.{IsPlace, indexes_of, lefts_of, rights_of}
use Rattle.cg_canon.specs.Walking.{Appended, AreApart, AreMarked, HasMark, HasPlace, found_in}

-- ---- indexes and games

pub indexes_length : (ps : List Position) → length (indexes_of ps) ≡ length ps
indexes_length ps = length-map ps (λ (p : Position). p.game)

pub found_length : (gs : List Game) (ps : List Position) → length (found_in gs ps) ≡ length ps
found_length gs ps = length-map (indexes_of ps) (game_of gs) ∙ indexes_length ps

among_at : (gs : List Game) (qs : List ℕ) (g : Game) → Among g (games_of gs qs)
    → (i : ℕ) × (i < length qs) × (game_of gs (get_or qs i 0) ≡ g)
among_at gs [] g m = absurd m
among_at gs (q ∷ qs) g (inl e) = (zero, omega arith, sym e)
among_at gs (q ∷ qs) g (inr m) = let (i, l, e) = among_at gs qs g m in (suc i, omega arith, e)

pub indexes_pushed : (ps : List Position) (p : Position) → indexes_of (ps ++ (p ∷ [])) ≡ indexes_of ps ++ (p.game ∷ [])
indexes_pushed ps p = map-append (λ (p : Position). p.game) ps (p ∷ [])

pub found_pushed : (gs : List Game) (ps : List Position) (p : Position) (index : ℕ) → p.game ≡ index
    → found_in gs (ps ++ (p ∷ [])) ≡ found_in gs ps ++ (game_of gs index ∷ [])
found_pushed gs ps p index e =
    ap (games_of gs) (indexes_pushed ps p) ∙ games_pushed gs (indexes_of ps) _ p.game refl
    ∙ ap (λ z. found_in gs ps ++ (game_of gs z ∷ [])) e

-- ---- marks

module _ (gs : List Game) (marks : List ℕ) (ps : List Position) (index : ℕ) (marked : AreMarked gs marks ps) where
  -- the mark of a game that was found is its place
  pub marked_place : AreApart gs → IsIndex gs index → Among (game_of gs index) (found_in gs ps) → HasPlace ps (get_or marks index 0) index
  marked_place apart within m =
      let (i, l, e) = among_at gs (indexes_of ps) (game_of gs index) m in
      let n = indexes_length ps in
      let less : i < length ps = omega arith in
      let own : get_or (indexes_of ps) i 0 ≡ index = apart.each _ index (marked.indexes i 0 l) within e in
      let mark : get_or marks index 0 ≡ i = ap (λ z. get_or marks z 0) (sym own) ∙ marked.marked i less in
      rw mark (record { within = less; is = own })

  pub place_there : (place : ℕ) → HasPlace ps place index → Among (game_of gs index) (found_in gs ps)
  place_there place h =
      let n = indexes_length ps in
      let w = h.within in
      item_among gs (indexes_of ps) place index (omega arith) (sym h.is)

-- games that were found have marks
pub have_marks : (gs : List Game) (marks : List ℕ) (ps : List Position) (games : List ℕ) → AreMarked gs marks ps → AreApart gs
    → AreIndexes gs games → ((g : Game) → Among g (games_of gs games) → Among g (found_in gs ps)) → All (HasMark ps marks) games
have_marks gs marks ps games marked apart are found = λ k d less.
    let index = get_or games k d in
    let own : IsIndex gs index = are k d less in
    let room = marked.room in
    record {
      within = omega arith;
      place = marked_place gs marks ps index marked apart own
          (found (game_of gs index) (item_among gs games k index less (get_or_default games k d 0 less)));
    }

-- ---- options

pub appended_none : (ps : List Position) (old new indexes : List ℕ) → new ≡ old → Appended ps old new (take 0 indexes)
appended_none ps old new indexes e =
    record { places = []; is = e ∙ sym (append-nil old); below = λ k d h. absurd (omega arith); same = refl }

pub appended_next : (ps : List Position) (old mid new indexes : List ℕ) (i place : ℕ) → Appended ps old mid (take i indexes)
    → i < length indexes → HasPlace ps place (get_or indexes i 0) → new ≡ mid ++ (place ∷ [])
    → Appended ps old new (take (i + 1) indexes)
appended_next ps old mid new indexes i place a less has e =
    let at : ℕ → ℕ = λ q. get_or (indexes_of ps) q 0 in
    record {
      places = a.places ++ (place ∷ []);
      is = e ∙ ap (λ z. z ++ (place ∷ [])) a.is ∙ append_assoc old a.places (place ∷ []);
      below = All-push (λ q. q < length ps) a.places place a.below has.within;
      same = map-append at a.places (place ∷ []) ∙ ap (λ z. z ++ (at place ∷ [])) a.same ∙ ap (λ z. take i indexes ++ (z ∷ [])) has.is
          ∙ sym (take_more indexes i 0 less);
    }

-- the games at places are those of the indexes that stand there
places_games : (gs : List Game) (ps : List Position) (qs : List ℕ) → All (λ q. q < length ps) qs
    → games_of (found_in gs ps) qs ≡ games_of gs (map (λ q. get_or (indexes_of ps) q 0) qs)
places_games gs ps [] a = refl
places_games gs ps (q ∷ qs) a =
    let n = indexes_length ps in
    let l : q < length ps = a zero 0 (omega arith) in
    let own : game_of (found_in gs ps) q ≡ game_of gs (get_or (indexes_of ps) q 0) =
    get_or-map (game_of gs) (indexes_of ps) q 0 (node [] []) (omega arith) in
    ap (λ z. z ∷ games_of (found_in gs ps) qs) own
    ∙ ap (λ z. game_of gs (get_or (indexes_of ps) q 0) ∷ z) (places_games gs ps qs (λ k d h. a (suc k) d (omega arith)))

-- ---- the next position

module _ (gs : List Game) (ps : List Position) (p : Position) (g : Game) where
  abbrev fs : List Game
  fs = found_in gs ps ++ (g ∷ [])

  next_game : game_of fs (length ps) ≡ g
  next_game = get_or_push (found_in gs ps) g (node [] []) (length ps) (found_length gs ps)

  -- a number
  pub number_place : (opts : List ℕ) (x : Number) → p.lefts ≡ length opts → p.rights ≡ length opts → p.end ≡ length opts
      → p.is_number ≡ true → (p.is_zero ≡ true → x ≡ whole (pos 0)) → g ≡ number x → IsPlace opts fs (length ps) p
  number_place opts x a b c n z is =
      record {
        first = omega arith;
        second = omega arith;
        end = omega arith;
        lefts_before = rw (range_none opts p.lefts p.rights (a ∙ sym b)) (λ k d h. absurd (omega arith));
        rights_before = rw (range_none opts p.rights p.end (b ∙ sym c)) (λ k d h. absurd (omega arith));
        as_zero = λ t. next_game ∙ is ∙ ap number (z t);
        as_number = λ t. record { x = x; is = next_game ∙ is; none = a ∙ sym c };
        as_node = λ t. absurd (cc);
      }

  -- another game
  module _ (old mid new ls rs : List ℕ) (a : p.lefts ≡ length old) (b : p.rights ≡ length mid) (c : p.end ≡ length new)
      (low : Appended ps old mid ls) (high : Appended ps mid new rs) where
    left : lefts_of new p ≡ low.places
    left =
        let m = ap length low.is in
        let k = length-append old low.places in
        ap (λ z. slice_range z p.lefts p.rights) (high.is ∙ ap (λ z. z ++ high.places) low.is ∙ append_assoc old low.places high.places)
        ∙ range_behind old low.places high.places p.lefts p.rights a (omega arith)

    right : rights_of new p ≡ high.places
    right =
        let m = ap length high.is in
        let k = length-append mid high.places in
        ap (λ z. slice_range z p.rights p.end) (high.is ∙ ap (λ z. mid ++ z) (sym (append-nil high.places)))
        ∙ range_behind mid high.places [] p.rights p.end b (omega arith)

    games_there : (places indexes : List ℕ) → All (λ q. q < length ps) places → map (λ q. get_or (indexes_of ps) q 0) places ≡ indexes
        → games_of fs places ≡ games_of gs indexes
    games_there places indexes below same =
        let n = found_length gs ps in
        games_before (found_in gs ps) (g ∷ []) places (λ k d h. let l = below k d h in omega arith)
        ∙ places_games gs ps places below ∙ ap (games_of gs) same

    pub node_place : p.is_number ≡ false → p.is_zero ≡ false → g ≡ node (games_of gs ls) (games_of gs rs)
        → IsPlace new fs (length ps) p
    node_place n z is =
        let m = ap length low.is in
        let k = length-append old low.places in
        let o = ap length high.is in
        let q = length-append mid high.places in
        record {
          first = omega arith;
          second = omega arith;
          end = omega arith;
          lefts_before = rw left low.below;
          rights_before = rw right high.below;
          as_zero = λ t. absurd (cc);
          as_number = λ t. absurd (cc);
          as_node = λ t. next_game ∙ is
              ∙ ap (λ z. node z (games_of gs rs)) (sym (ap (games_of fs) left ∙ games_there low.places ls low.below low.same))
              ∙ ap (node (games_of fs (lefts_of new p))) (sym (ap (games_of fs) right ∙ games_there high.places rs high.below high.same));
        }
