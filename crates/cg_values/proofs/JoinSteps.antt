-- The parts of boards joined, one board after another.
use Rattle.std.proofs.Common.{◌≡◌, refl, ℕ, zero, suc, ◌+◌, ◌≤◌, ◌<◌, true, arith, ap, sym, ◌∙◌, subst, List}
use Rattle.std.proofs.Common.{[], ◌∷◌, ◌++◌, append_assoc, drop, get_or, length, map, take, Result, Ok, Err}
use Rattle.std.specs.Prelude.{IfOk, slice_index}
use Rattle.std.specs.List.{flat_map}
use Rattle.std.proofs.lemmas.Grind.{flat_map-append}
use Rattle.std.proofs.lemmas.List.{append-nil, drop_more, length-map, map-append, take_all}
use Rattle.cg_cells.specs.Store.{State}
use Rattle.cg_canon.proofs.ItemLaws.{all_pass-none}
use Rattle.cg_canon.proofs.Keeping.{keeps_all, keeps_then}
use Rattle.cg_canon.proofs.MadeSteps.{made_as, made_then, passed, stopped}
use Rattle.cg_canon.specs.Items.{AllPass, Item}
use Rattle.cg_canon.specs.Made.{Gives, ItemsMade}
use Rattle.cg_canon.specs.Works.{Keeps}
use Rattle.cg_canon.specs.declared.fault.ValueFault.{ValueFault}
use Rattle.cg_canon.specs.declared.rest.WorkRest.{WorkRest}
use Rattle.cg_form.specs.Game.{Game}
use Rattle.cg_nodes.proofs.Later.{stand_later}
use Rattle.cg_nodes.specs.Can.{can}
use Rattle.cg_nodes.specs.Games.{StandFor, StandsFor}
use Rattle.cg_nodes.specs.Meant.{Meant}
use Rattle.cg_moves.proofs.Bounds.{follower-has}
use Rattle.cg_moves.proofs.Places.{in_read, split_read, take_next}
use Rattle.cg_moves.specs.Grid.{Grid}
use Rattle.cg_moves.specs.Raw.{raw}
use Rattle.cg_moves.specs.Lawful.{IsLawful}
use Rattle.cg_moves.specs.Rules.{GameRules, followers}
use Rattle.cg_values.specs.Items.{sum_up, sum_up_items, value_item}
use Rattle.cg_values.specs.Parts.{HoldAt, handles_at, joins, part_items, parts_of, values_of}
use Rattle.cg_values.proofs.GiveSteps.{gives_as}
use Rattle.cg_values.proofs.HandleSteps.{HeldApart, held-apart, hold-later, stand-more}
use Rattle.cg_values.proofs.PartLemmas.{parts-sum}

-- one board more in a list of lists of items
pub flat-next : (f : Grid → List Item) (qs : List Grid) (p : Grid) → flat_map f (qs ++ (p ∷ [])) ≡ flat_map f qs ++ f p
flat-next f qs p = flat_map-append f qs (p ∷ []) ∙ ap (λ z. flat_map f qs ++ z) (append-nil (f p))

-- one board more in a list of values
pub values-next : (r : GameRules) (qs : List Grid) (p : Grid) → values_of r (qs ++ (p ∷ [])) ≡ values_of r qs ++ (can (raw r p) ∷ [])
values-next r qs p = ap (map can) (map-append (raw r) qs (p ∷ [])) ∙ map-append can (map (raw r) qs) (raw r p ∷ [])

-- handles of a board's parts, added up, give the board's value
pub parts_give : {R : Type 0} (t u : State Meant (WorkRest R)) (r : GameRules) (lawful : IsLawful r) (p : Grid)
    → r.has p ≡ true → (handles places : List ℕ) → HoldAt t r handles places (parts_of r p) → (result : Result ℕ ValueFault)
    → ((gs : List Game) → StandFor t (handles_at handles places) (map can gs)
    → Gives t u (sum_up_items t.rest.limit gs) (can (sum_up gs)) result)
    → Gives t u (joins t.rest.limit r p) (can (raw r p)) result
parts_give t u r lawful p has handles places own result sums =
    let gs = map (raw r) (parts_of r p) in
    gives_as t u (joins t.rest.limit r p) (joins t.rest.limit r p) (sum_up gs) (raw r p) result refl (parts-sum r lawful p has)
    (sums gs own.values)

-- the board of the list at this place, which has so many parts
pub record Counted (parts : Grid → List Grid) (qs : List Grid) (i count : ℕ) : Type 0 where
  pub board : Grid
  pub within : i < length qs
  pub read : board ≡ get_or qs i board
  pub many : count ≡ length (parts board)

counted-at : (parts : Grid → List Grid) (qs : List Grid) (i : ℕ) → i < length qs
    → Counted parts qs i (slice_index (map (λ q. length (parts q)) qs) i)
counted-at parts [] i l = absurd (omega arith)
counted-at parts (q ∷ qs) zero l = record { board = q; within = l; read = refl; many = refl }
counted-at parts (q ∷ qs) (suc i) l =
    let rest = counted-at parts qs i (omega arith) in record {
      board = rest.board;
      within = l;
      read = rest.read;
      many = rest.many;
    }

-- so many of the boards that moves lead to have these handles, with their items made, and the places that are left hold the
-- parts of the others
pub record Joining {R : Type 0} (s t : State Meant (WorkRest R)) (r : GameRules) (p : Grid) (handles : List ℕ) (i : ℕ)
    (left options : List ℕ) : Type 0 where
  pub values : StandFor t options (values_of r (take i (followers r p)))
  pub passed : AllPass s.rest.share s.rest.spent (flat_map (joins s.rest.limit r) (take i (followers r p))) t.rest.spent
  pub keeps : Keeps s t
  pub more : s.spare ≤ t.spare
  pub others : HoldAt t r handles left (flat_map (parts_of r) (drop i (followers r p)))

-- none of the boards so far
pub joining_begun : {R : Type 0} (s : State Meant (WorkRest R)) (r : GameRules) (p : Grid) (handles places options : List ℕ)
    → options ≡ [] → HoldAt s r handles places (flat_map (parts_of r) (followers r p)) → Joining s s r p handles 0 places options
joining_begun s r p handles places options e held =
    record {
      values = rw e (tt, refl);
      passed = all_pass-none s.rest.share s.rest.spent;
      keeps = keeps_all s;
      more = omega arith;
      others = held;
    }

module _ {R : Type 0} (s : State Meant (WorkRest R)) (r : GameRules) (lawful : IsLawful r) (p : Grid) (has : r.has p ≡ true)
    (handles counts : List ℕ) (are : counts ≡ map (λ q. length (parts_of r q)) (followers r p)) where
  abbrev joins_of : List Grid → List Item
  joins_of qs = flat_map (joins s.rest.limit r) qs

  counts-many : length counts ≡ length (followers r p)
  counts-many = ap length are ∙ length-map (followers r p) (λ q. length (parts_of r q))

  module _ (i count : ℕ) (within : i < length counts) (read : count ≡ slice_index counts i) where
    pub counted : Counted (parts_of r) (followers r p) i count
    counted =
        let n = counts-many in
        rw (read ∙ ap (λ z. slice_index z i) are) (counted-at (parts_of r) (followers r p) i (omega (arith, within, n)))

    abbrev pub q : Grid
    q = counted.board

    next-has : r.has q ≡ true
    next-has = follower-has r lawful.moves p q has (in_read (followers r p) i q counted.within counted.read)

    left-split : drop i (followers r p) ≡ q ∷ drop (i + 1) (followers r p)
    left-split = drop_more (followers r p) i q counted.within ∙ ap (λ z. z ∷ drop (i + 1) (followers r p)) (sym counted.read)

    module _ (t : State Meant (WorkRest R)) (left options : List ℕ) (so_far : Joining s t r p handles i left options) where
      -- the places of the board's own parts, and those of the others
      pub parts_apart : HeldApart t r handles left (parts_of r q) (flat_map (parts_of r) (drop (i + 1) (followers r p))) count
      parts_apart =
          let P : List Grid → Type 0 = λ z. HoldAt t r handles left (flat_map (parts_of r) z) in
          held-apart t r handles left (parts_of r q) (flat_map (parts_of r) (drop (i + 1) (followers r p))) count counted.many
          (subst P left-split so_far.others)

      module _ (own : List ℕ) (is_own : own ≡ take count left) where
        pub own_held : HoldAt t r handles own (parts_of r q)
        own_held = rw is_own parts_apart.own

        module _ (u : State Meant (WorkRest R)) (result : Result ℕ ValueFault)
            (sums : (gs : List Game) → StandFor t (handles_at handles own) (map can gs)
            → Gives t u (sum_up_items t.rest.limit gs) (can (sum_up gs)) result) where
          pub own_gives : Gives t u (joins t.rest.limit r q) (can (raw r q)) result
          own_gives = parts_give t u r lawful q next-has handles own own_held result sums

          both_made : ItemsMade s u (joins_of (take i (followers r p)) ++ joins s.rest.limit r q) result
          both_made =
              made_then s t u (joins_of (take i (followers r p))) (joins s.rest.limit r q) result so_far.passed so_far.keeps
              (made_as t u (joins t.rest.limit r q) (joins s.rest.limit r q) result
              (ap (λ n. joins n r q) so_far.keeps.limit) own_gives.made)

          pub joining_more : (h : ℕ) (ks others : List ℕ) → result ≡ Ok h → ks ≡ options ++ (h ∷ []) → others ≡ drop count left
              → Joining s u r p handles (i + 1) others ks
          joining_more h ks others ok e f =
              let front = take i (followers r p) in
              let P : List ℕ → Type 0 = λ z. StandFor u z (values_of r (take (i + 1) (followers r p))) in
              let V : List Game → Type 0 = λ z. StandFor u (options ++ (h ∷ [])) z in
              let G : Result ℕ ValueFault → Type 0 = λ z. IfOk z (λ k. StandsFor u k (can (raw r q))) in
              let L : List Item → Type 0 = λ z. AllPass s.rest.share s.rest.spent z u.rest.spent in
              let H : List ℕ → Type 0 = λ z. HoldAt u r handles z (flat_map (parts_of r) (drop (i + 1) (followers r p))) in
              let next = take_next (followers r p) i q counted.within counted.read in
              let a = so_far.more in
              let b = own_gives.more in record {
                values = subst P (sym e) (subst V (sym (ap (values_of r) next ∙ values-next r front q))
                    (stand-more u options (values_of r front) h (can (raw r q))
                    (stand_later t u own_gives.made.keeps.known options (values_of r front) so_far.values) (subst G ok own_gives.game)));
                passed = subst L (sym (ap joins_of next ∙ flat-next (joins s.rest.limit r) front q))
                    (passed s u (joins_of front ++ joins s.rest.limit r q) result h ok both_made);
                keeps = keeps_then s t u so_far.keeps own_gives.made.keeps;
                more = omega (arith, a, b);
                others = subst H (sym f) (hold-later t u r handles (drop count left)
                    (flat_map (parts_of r) (drop (i + 1) (followers r p))) own_gives.made.keeps.known parts_apart.others);
              }

          all_joins : (joins_of (take i (followers r p)) ++ joins s.rest.limit r q) ++ joins_of (drop (suc i) (followers r p))
              ≡ joins_of (followers r p)
          all_joins =
              append_assoc (joins_of (take i (followers r p))) (joins s.rest.limit r q) (joins_of (drop (suc i) (followers r p)))
              ∙ sym (flat_map-append (joins s.rest.limit r) (take i (followers r p)) (q ∷ drop (suc i) (followers r p)))
              ∙ ap joins_of (sym (split_read (followers r p) i q counted.within counted.read))

          pub joining_stopped : {X : Type 0} (v : Result X ValueFault) (e : ValueFault) → result ≡ Err e → v ≡ Err e
              → ItemsMade s u (part_items s.rest.limit r p) v
          joining_stopped {X} v e a b =
              let front = joins_of (take i (followers r p)) ++ joins s.rest.limit r q in
              let back = joins_of (drop (suc i) (followers r p)) in
              made_as s u ((front ++ back) ++ (value_item r p ∷ [])) (part_items s.rest.limit r p) v
              (ap (λ z. z ++ (value_item r p ∷ [])) all_joins)
              (made_as s u (front ++ (back ++ (value_item r p ∷ []))) ((front ++ back) ++ (value_item r p ∷ [])) v
              (sym (append_assoc front back (value_item r p ∷ [])))
              (stopped s u front (back ++ (value_item r p ∷ [])) result v e a b both_made))

  module _ (t : State Meant (WorkRest R)) (i : ℕ) (end : length counts ≤ i) (left options : List ℕ)
      (done : Joining s t r p handles i left options) where
    all-taken : take i (followers r p) ≡ followers r p
    all-taken = let n = counts-many in take_all i (followers r p) (omega (arith, n, end))

    pub joining_values : StandFor t options (values_of r (followers r p))
    joining_values = rw (← all-taken) done.values

    pub joining_made : {X : Type 0} (u : State Meant (WorkRest R)) (v : Result X ValueFault)
        → ItemsMade t u (value_item r p ∷ []) v → ItemsMade s u (part_items s.rest.limit r p) v
    joining_made {X} u v item =
        made_then s t u (joins_of (followers r p)) (value_item r p ∷ []) v (rw (← all-taken) done.passed) done.keeps item
