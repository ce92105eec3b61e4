-- The options of a sum and of a negative, as the table has them.
use Rattle.std.proofs.Common.{◌≡◌, ◌⊎◌, ℕ, ◌+◌, ◌*◌, ◌<◌, arith, refl, ap, sym, ◌∙◌, subst, List, ◌++◌, get_or, length, map}
use Rattle.std.proofs.lemmas.List.{length-map, map-append}
use Rattle.std.proofs.lemmas.Simd.{map-map}
use Rattle.std.proofs.lemmas.List.Elements.{All-append}
use Rattle.std.specs.List.{All}
use Rattle.std.specs.Prelude.{slice_index}
use Rattle.cg_arena.specs.Arena.{AreIndexes, IsIndex, StandFor, game_of, games_of}
use Rattle.cg_arena.specs.Terms.{NoneComparableByTerm}
use Rattle.cg_canon.specs.Walk.{IsPlace, IsWalk, lefts_of, rights_of}
use Rattle.cg_canon.specs.declared.walk.Position.{Position}
use Rattle.cg_canon.specs.declared.walk.Walk.{Walk}
use Rattle.cg_form.specs.Canonical.{Canonical}
use Rattle.cg_form.specs.Game.{Game, IsNode, node}
use Rattle.cg_form.specs.Sum.{negative, sum}
use Rattle.cg_nodes.specs.Can.{can}
use Rattle.cg_sum.specs.Progress.{HoldsForms, IsReady, indexes, negative_at_place, sum_at_place}
use Rattle.cg_sum.specs.Written.{written_lefts, written_rights}
use Rattle.cg_sum.specs.declared.terms.Terms.{Terms}
use Rattle.cg_sum.proofs.Incomparable.{lefts_apart, negative_apart, rights_apart, sum_apart}
use Rattle.cg_sum.proofs.Sums.{IsNumber, can-negative_written, can-sum_written, option_forms, sum_written-canonical}
use Rattle.cg_sum.proofs.Tables.{at_place, before_row, stand_mapped, sum_placed}
use Rattle.cg_canon.proofs.WalkPositions as walks
use Rattle.cg_sum.proofs.WrittenOptions.{lefts_written, rights_written}

stand_append : (gs : List Game) (ps qs : List ℕ) (fs ks : List Game) → StandFor gs ps fs → StandFor gs qs ks
    → StandFor gs (ps ++ qs) (fs ++ ks)
stand_append gs ps qs fs ks a b = (
  All-append (λ z. IsIndex gs z) ps qs a.0 b.0,
  map-append (game_of gs) ps qs ∙ ap (λ z. z ++ games_of gs qs) a.1 ∙ ap (λ z. fs ++ z) b.1,
)

stand_as : (gs : List Game) (ps qs : List ℕ) (fs ks : List Game) → ps ≡ qs → fs ≡ ks → StandFor gs qs fs → StandFor gs ps ks
stand_as gs ps qs fs ks a b s =
    rw a (rw (← b) s)

length_of : (fs gs : List Game) (ps : List ℕ) → games_of fs ps ≡ gs → length ps ≡ length gs
length_of fs gs ps e = sym (length-map ps (game_of fs)) ∙ ap length e

-- ---- a sum

module _ (gs : List Game) (terms : Terms) (games : List Game × List Game) (row column : ℕ) (table : List ℕ)
    (ready : IsReady gs terms games row column table) where
  abbrev n : ℕ
  n = length games.1

  abbrev g : Game
  g = game_of games.0 row

  abbrev h : Game
  h = game_of games.1 column

  first_before : (p : ℕ) → p < row → p * n + column < row * n + column
  first_before p l = let e = before_row p row n column l ready.placed.within_columns in omega (arith, e)

  firsts_stand : (ps : List ℕ) → All (λ p. p < row) ps
      → StandFor gs (indexes table n column ps) (map (λ a. can (sum a h)) (games_of games.0 ps))
  firsts_stand ps all =
      stand_as gs _ _ _ _ refl (sym (map-map (λ a. can (sum a h)) (game_of games.0) ps))
      (stand_mapped gs (λ p. slice_index table (p * n + column)) (λ p. can (sum (game_of games.0 p) h)) ps
      (λ k d l. at_place gs (sum_at_place games) _ table ready.holds _ _ _ refl (first_before _ (all k d l))
      (sum_placed games _ column ready.placed.within_columns)))

  seconds_stand : (qs : List ℕ) → All (λ q. q < column) qs
      → StandFor gs (indexes table 1 (row * n) qs) (map (λ c. can (sum g c)) (games_of games.1 qs))
  seconds_stand qs all =
      stand_as gs _ _ _ _ refl (sym (map-map (λ c. can (sum g c)) (game_of games.1) qs))
      (stand_mapped gs (λ q. slice_index table (q * 1 + row * n)) (λ q. can (sum g (game_of games.1 q))) qs
      (λ k d l. let e = all k d l in let c = ready.placed.within_columns in
      at_place gs (sum_at_place games) _ table ready.holds (row * n + get_or qs k d) _ _ (omega arith) (omega (arith, e))
      (sum_placed games row _ (omega (arith, e, c)))))

  module _ (f k : Position) (isf : f ≡ get_or terms.firsts.positions.items row f) (isk : k ≡ get_or terms.seconds.positions.items column k)
      (left right : List ℕ)
      (l : left ≡ indexes table n column (lefts_of terms.firsts.options.items f) ++ indexes table 1 (row * n) (lefts_of terms.seconds.options.items k))
      (r : right ≡ indexes table n column (rights_of terms.firsts.options.items f) ++ indexes table 1 (row * n) (rights_of terms.seconds.options.items k))
    where
      first : IsPlace terms.firsts.options.items games.0 row f
      first = walks.place gs terms.firsts games.0 ready.placed.firsts row f ready.placed.within_rows isf

      second : IsPlace terms.seconds.options.items games.1 column k
      second = walks.place gs terms.seconds games.1 ready.placed.seconds column k ready.placed.within_columns isk

      first_lefts : games_of games.0 (lefts_of terms.firsts.options.items f) ≡ written_lefts g
      first_lefts = lefts_written gs terms.firsts games.0 ready.placed.firsts row f ready.placed.within_rows isf

      first_rights : games_of games.0 (rights_of terms.firsts.options.items f) ≡ written_rights g
      first_rights = rights_written gs terms.firsts games.0 ready.placed.firsts row f ready.placed.within_rows isf

      canonical_first : Canonical g
      canonical_first = walks.canonical gs terms.firsts games.0 ready.placed.firsts row f ready.placed.within_rows isf

      canonical_second : Canonical h
      canonical_second = walks.canonical gs terms.seconds games.1 ready.placed.seconds column k ready.placed.within_columns isk

      lefts_stand : StandFor gs left (option_forms g h (written_lefts g) (written_lefts h))
      lefts_stand =
          stand_as gs _ _ _ _ l (ap (λ z. option_forms g h z (games_of games.1 (lefts_of terms.seconds.options.items k))) first_lefts
          ∙ ap (option_forms g h (written_lefts g))
          (lefts_written gs terms.seconds games.1 ready.placed.seconds column k ready.placed.within_columns isk))
          (stand_append gs _ _ _ _ (firsts_stand _ first.lefts_before) (seconds_stand _ second.lefts_before))

      rights_stand : StandFor gs right (option_forms g h (written_rights g) (written_rights h))
      rights_stand =
          stand_as gs _ _ _ _ r (ap (λ z. option_forms g h z (games_of games.1 (rights_of terms.seconds.options.items k))) first_rights
          ∙ ap (option_forms g h (written_rights g))
          (rights_written gs terms.seconds games.1 ready.placed.seconds column k ready.placed.within_columns isk))
          (stand_append gs _ _ _ _ (firsts_stand _ first.rights_before) (seconds_stand _ second.rights_before))

      pub lefts_are : AreIndexes gs left
      lefts_are = lefts_stand.0

      pub rights_are : AreIndexes gs right
      rights_are = rights_stand.0

      node_forms : node (games_of gs left) (games_of gs right)
          ≡ node (option_forms g h (written_lefts g) (written_lefts h)) (option_forms g h (written_rights g) (written_rights h))
      node_forms = ap (λ z. node z (games_of gs right)) lefts_stand.1
          ∙ ap (λ z. node (option_forms g h (written_lefts g) (written_lefts h)) z) rights_stand.1

      pub summed_form : IsNode g ⊎ IsNode h → can (node (games_of gs left) (games_of gs right)) ≡ can (sum g h)
      summed_form either = ap can node_forms ∙ can-sum_written g h canonical_first canonical_second either

      -- where one of the two is a number, the sums of the options are canonical as they stand
      pub summed_canonical : IsNode g ⊎ IsNode h → IsNumber g ⊎ IsNumber h → Canonical (node (games_of gs left) (games_of gs right))
      summed_canonical either some =
          let P : Game → Type 0 = λ z. Canonical z in
          subst P (sym node_forms) (sum_written-canonical g h canonical_first canonical_second either some)

      pub lefts_apart_by : (m : ℕ) → m ≡ length (lefts_of terms.firsts.options.items f) → NoneComparableByTerm m (games_of gs left)
      lefts_apart_by m e =
          let P : List Game → Type 0 = λ z. NoneComparableByTerm m z in
          subst P (sym lefts_stand.1) (sum_apart g h _ _ m (e ∙ length_of games.0 _ _ first_lefts) (lefts_apart g canonical_first)
          (lefts_apart h canonical_second))

      pub rights_apart_by : (m : ℕ) → m ≡ length (rights_of terms.firsts.options.items f) → NoneComparableByTerm m (games_of gs right)
      rights_apart_by m e =
          rw rights_stand.1 (sum_apart g h _ _ m (e ∙ length_of games.0 _ _ first_rights) (rights_apart g canonical_first)
          (rights_apart h canonical_second))

-- ---- a negative

module _ (gs : List Game) (walk : Walk) (games : List Game) (is : IsWalk gs walk games) (place : ℕ) (within : place < length games)
    (table : List ℕ) (holds : HoldsForms gs (negative_at_place games) place table) where
  negatives_stand : (ps : List ℕ) → All (λ p. p < place) ps
      → StandFor gs (indexes table 1 0 ps) (map (λ a. can (negative a)) (games_of games ps))
  negatives_stand ps all =
      stand_as gs _ _ _ _ refl (sym (map-map (λ a. can (negative a)) (game_of games) ps))
      (stand_mapped gs (λ p. slice_index table (p * 1 + 0)) (λ p. can (negative (game_of games p))) ps
      (λ k d l. at_place gs (negative_at_place games) place table holds (get_or ps k d) _ _ (omega arith) (all k d l) refl))

  module _ (f : Position) (isf : f ≡ get_or walk.positions.items place f) (left right : List ℕ)
      (l : left ≡ indexes table 1 0 (rights_of walk.options.items f)) (r : right ≡ indexes table 1 0 (lefts_of walk.options.items f)) where
    abbrev f_at : Game
    f_at = game_of games place

    own : IsPlace walk.options.items games place f
    own = walks.place gs walk games is place f within isf

    own_rights : games_of games (rights_of walk.options.items f) ≡ written_rights f_at
    own_rights = rights_written gs walk games is place f within isf

    own_lefts : games_of games (lefts_of walk.options.items f) ≡ written_lefts f_at
    own_lefts = lefts_written gs walk games is place f within isf

    own_canonical : Canonical f_at
    own_canonical = walks.canonical gs walk games is place f within isf

    left_stands : StandFor gs left (map (λ b. can (negative b)) (written_rights f_at))
    left_stands = stand_as gs _ _ _ _ l (ap (map (λ b. can (negative b))) own_rights) (negatives_stand _ own.rights_before)

    right_stands : StandFor gs right (map (λ a. can (negative a)) (written_lefts f_at))
    right_stands = stand_as gs _ _ _ _ r (ap (map (λ a. can (negative a))) own_lefts) (negatives_stand _ own.lefts_before)

    pub negated_left : AreIndexes gs left
    negated_left = left_stands.0

    pub negated_right : AreIndexes gs right
    negated_right = right_stands.0

    pub negated_form : IsNode f_at → can (node (games_of gs left) (games_of gs right)) ≡ can (negative f_at)
    negated_form n =
        ap (λ z. can (node z (games_of gs right))) left_stands.1
        ∙ ap (λ z. can (node (map (λ b. can (negative b)) (written_rights f_at)) z)) right_stands.1
        ∙ can-negative_written f_at n

    pub negated_left_apart : (m : ℕ) → m ≡ length (rights_of walk.options.items f) → NoneComparableByTerm m (games_of gs left)
    negated_left_apart m e =
        let P : List Game → Type 0 = λ z. NoneComparableByTerm m z in
        subst P (sym left_stands.1) (negative_apart _ m (e ∙ length_of games _ _ own_rights) (rights_apart f_at own_canonical))

    pub negated_right_apart : (m : ℕ) → m ≡ length (lefts_of walk.options.items f) → NoneComparableByTerm m (games_of gs right)
    negated_right_apart m e =
        rw right_stands.1 (negative_apart _ m (e ∙ length_of games _ _ own_lefts) (lefts_apart f_at own_canonical))

-- ---- as they were gathered

pub side_is : (table : List ℕ) (n m row column : ℕ) (all own ps other qs : List ℕ) → n ≡ m → own ≡ ps → other ≡ qs
    → all ≡ indexes table n column own ++ indexes table 1 (row * n) other
    → all ≡ indexes table m column ps ++ indexes table 1 (row * m) qs
side_is table n m row column all own ps other qs a b d e =
    e ∙ ap (λ z. indexes table z column own ++ indexes table 1 (row * z) other) a
    ∙ ap (λ z. indexes table m column z ++ indexes table 1 (row * m) other) b
    ∙ ap (λ z. indexes table m column ps ++ indexes table 1 (row * m) z) d
