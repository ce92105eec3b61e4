-- The values of the parts that play can come to, made one after another.
use Rattle.std.proofs.Common.{◌≡◌, ◌≢◌, ℕ, suc, ◌+◌, ◌≤◌, ◌<◌, arith, ap, sym, ◌∙◌, subst, true, ◌⊎◌, inl, inr}
use Rattle.std.proofs.Common.{List, [], ◌∷◌, ◌++◌, append_assoc, Result, Ok, Err, take, drop, get_or, length}
use Rattle.std.specs.Prelude.{All, IfErr, OnOk}
use Rattle.std.specs.List.{flat_map}
use Rattle.std.proofs.lemmas.Grind.{flat_map-append}
use Rattle.std.proofs.lemmas.List.{take_all}
use Rattle.std.proofs.lemmas.List.Elements.{All-get_or}
use Rattle.cg_cells.specs.Store.{Spends, State}
use Rattle.cg_canon.proofs.ItemLaws.{refused-front}
use Rattle.cg_canon.proofs.Keeping.{keeps_then, spends_keeps}
use Rattle.cg_canon.proofs.MadeSteps.{made_as, made_then, passed, stopped}
use Rattle.cg_canon.specs.Items.{AllPass, Item, WasRefused}
use Rattle.cg_canon.specs.Made.{ItemsMade}
use Rattle.cg_canon.specs.Works.{Keeps}
use Rattle.cg_canon.specs.declared.fault.ValueFault.{ValueFault}
use Rattle.cg_canon.specs.declared.fault.ValueFault.TheVariants.{Memory}
use Rattle.cg_canon.specs.declared.rest.WorkRest.{WorkRest}
use Rattle.cg_nodes.proofs.Later.{stand_later}
use Rattle.cg_nodes.specs.Can.{can}
use Rattle.cg_nodes.specs.Games.{StandFor, StandsFor}
use Rattle.cg_nodes.specs.Meant.{Meant}
use Rattle.cg_moves.proofs.Listed.{next-size}
use Rattle.cg_moves.proofs.Places.{split_read, take_next}
use Rattle.cg_moves.specs.Grid.{Grid}
use Rattle.cg_moves.specs.Graph.{AreNext, IsNext}
use Rattle.cg_moves.specs.Raw.{raw}
use Rattle.cg_moves.specs.Rules.{GameRules, followers}
use Rattle.cg_moves.specs.declared.graph.Adjacency.{Adjacency}
use Rattle.cg_moves.specs.declared.graph.PositionGraph.{PositionGraph}
use Rattle.cg_values.specs.Notes.{AreNoted, IsNoted}
use Rattle.cg_values.specs.Parts.{FrontsNoted, HoldAt, IsOpened, part_items, parts_of, values_of}
use Rattle.cg_values.proofs.Fronts.{front-cut, noted-front, refused-apart}
use Rattle.cg_values.proofs.HandleSteps.{held, hold-as, stand-more}
use Rattle.cg_values.proofs.JoinSteps.{flat-next, values-next}
use Rattle.cg_values.proofs.NoteSteps.{noted-later, noted-more}
use Rattle.cg_values.proofs.PartLemmas.{next-at}

-- the values of the parts were made, and the handles stand for them
pub record PartsMade {R : Type 0} (s t : State Meant (WorkRest R)) (r : GameRules) (ps : List Grid) (handles : List ℕ)
    (spare : ℕ) : Type 0 where
  pub keeps : Keeps s t
  pub passed : AllPass s.rest.share s.rest.spent (flat_map (part_items s.rest.limit r) ps) t.rest.spent
  pub values : StandFor t handles (values_of r ps)
  pub noted : AreNoted t r ps
  pub spare_kept : spare ≤ t.spare

module _ {R : Type 0} (s : State Meant (WorkRest R)) (r : GameRules) (spare : ℕ) (ps boards : List Grid) (is : ps ≡ boards)
    (counts places : List ℕ) (ns : List Adjacency) (next_are : AreNext r (parts_of r) counts places [] boards ns) where
  abbrev items_of : List Grid → List Item
  items_of qs = flat_map (part_items s.rest.limit r) qs

  pub parts_done : (t : State Meant (WorkRest R)) (handles : List ℕ) (i : ℕ) → length ps ≤ i
      → PartsMade s t r (take i ps) handles spare → PartsMade s t r boards handles spare
  parts_done t handles i l made =
      let P : List Grid → Type 0 = λ z. PartsMade s t r z handles spare in subst P (take_all i ps l ∙ is) made

  -- the store may prefetch between
  pub parts_told : (t u : State Meant (WorkRest R)) (handles : List ℕ) (i : ℕ) → PartsMade s t r (take i ps) handles spare
      → Spends 0 t u → PartsMade s u r (take i ps) handles spare
  parts_told t u handles i made told =
      let P : WorkRest R → Type 0 = λ z. AllPass s.rest.share s.rest.spent (items_of (take i ps)) z.spent in record {
        keeps = keeps_then s t u made.keeps (spends_keeps 0 t u told);
        passed = subst P (sym told.rest) made.passed;
        values = stand_later t u told.known handles (values_of r (take i ps)) made.values;
        noted = noted-later t u r told.known (take i ps) told.noted made.noted;
        spare_kept = let e = told.spare in let k = made.spare_kept in omega (arith, e, k);
      }

  are : AreNext r (parts_of r) counts places [] ps ns
  are = rw is next_are

  pub next-within : (i : ℕ) → i < length ps → i < length ns
  next-within i l = let n = next-size r (parts_of r) counts places [] ps ns are in omega (arith, l, n)

  module _ (i : ℕ) (p : Grid) (within : i < length ps) (read : p ≡ get_or ps i p) (t : State Meant (WorkRest R))
      (handles : List ℕ) (made : PartsMade s t r (take i ps) handles spare) where
    pub part-has : All (λ q. r.has q ≡ true) boards → r.has p ≡ true
    part-has all =
        let P : Grid → Type 0 = λ q. r.has q ≡ true in
        subst P (sym read) (All-get_or P ps i p within (rw is all))

    module _ (next : Adjacency) (next_read : next ≡ get_or ns i next) where
      pub part-next : IsNext r (parts_of r) counts places (take i ps) p next
      part-next = next-at r (parts_of r) counts places [] ps ns i p next are within read next_read

      pub part-held : HoldAt t r handles (take next.parts (drop next.first_place places)) (flat_map (parts_of r) (followers r p))
      part-held = held t r (take i ps) handles (take next.parts (drop next.first_place places))
          (flat_map (parts_of r) (followers r p)) part-next.places made.values

    module _ {T : Type 0} (u : State Meant (WorkRest R)) (q : Result T ValueFault)
        (item : ItemsMade t u (part_items t.rest.limit r p) q) where
      items_made : ItemsMade s u (items_of (take i ps) ++ part_items s.rest.limit r p) q
      items_made =
          made_then s t u (items_of (take i ps)) (part_items s.rest.limit r p) q made.passed made.keeps
          (made_as t u (part_items t.rest.limit r p) (part_items s.rest.limit r p) q
          (ap (λ n. part_items n r p) made.keeps.limit) item)

      all_items : (items_of (take i ps) ++ part_items s.rest.limit r p) ++ items_of (drop (suc i) ps) ≡ items_of ps
      all_items =
          append_assoc (items_of (take i ps)) (part_items s.rest.limit r p) (items_of (drop (suc i) ps))
          ∙ sym (flat_map-append (part_items s.rest.limit r) (take i ps) (p ∷ drop (suc i) ps))
          ∙ ap items_of (sym (split_read ps i p within read))

      pub parts_stopped : {U : Type 0} (v : Result U ValueFault) (e : ValueFault) → q ≡ Err e → v ≡ Err e
          → ItemsMade s u (items_of boards) v
      parts_stopped {U} v e a b =
          made_as s u ((items_of (take i ps) ++ part_items s.rest.limit r p) ++ items_of (drop (suc i) ps)) (items_of boards) v
          (all_items ∙ ap items_of is) (stopped s u (items_of (take i ps) ++ part_items s.rest.limit r p) (items_of (drop (suc i) ps)) q v e a b
          items_made)

      -- what was made before the part is noted, and no front with the part passes
      pub parts_fronts : (e : ValueFault) → q ≡ Err e → e ≢ Memory → FrontsNoted s u r boards
      parts_fronts e a other front behind cost split passes =
          by (front-cut (take i ps) p (drop (suc i) ps) front behind (sym (split_read ps i p within read) ∙ is ∙ split))
        where
          upto : List Item
          upto = items_of (take i ps) ++ part_items s.rest.limit r p

          refused : WasRefused e s.rest.share s.rest.spent upto u.rest.spent
          refused =
              let P : Result T ValueFault → Type 0 = λ z. IfErr z (λ f. WasRefused f s.rest.share s.rest.spent upto u.rest.spent) in
              subst P a items_made.refused

          by : ((m : List Grid) × (take i ps ≡ front ++ m)) ⊎ ((m : List Grid) × (front ≡ take i ps ++ p ∷ m)) → AreNoted u r front
          by (inl m) = noted-front u r (take i ps) front m.0 m.1 (noted-later t u r item.keeps.known (take i ps) item.keeps.noted made.noted)
          by (inr m) =
              let all : items_of front ≡ upto ++ items_of m.0 =
              ap items_of m.1 ∙ flat_map-append (part_items s.rest.limit r) (take i ps) (p ∷ m.0)
              ∙ sym (append_assoc (items_of (take i ps)) (part_items s.rest.limit r p) (items_of m.0)) in
              absurd (refused-apart e s.rest.share s.rest.spent (upto ++ items_of m.0) cost u.rest.spent other (rw (← all) passes)
              (refused-front e s.rest.share s.rest.spent u.rest.spent upto (items_of m.0) refused))

      pub parts_more : (ks : List ℕ) (h : ℕ) (x : T) → q ≡ Ok x → StandsFor u h (can (raw r p)) → spare ≤ u.spare
          → ks ≡ handles ++ (h ∷ []) → OnOk q (r.number ≢ 0 → IsNoted u r p) → PartsMade s u r (take (i + 1) ps) ks spare
      parts_more ks h x ok st kept_spare e note =
          let N : Result T ValueFault → Type 0 = λ z. OnOk z (r.number ≢ 0 → IsNoted u r p) in
          let L : List Item → Type 0 = λ z. AllPass s.rest.share s.rest.spent z u.rest.spent in
          let T : List Grid → Type 0 = λ z. PartsMade s u r z ks spare in
          let K : List ℕ → Type 0 = λ z. StandFor u z (values_of r (take i ps ++ (p ∷ []))) in
          let before = noted-later t u r item.keeps.known (take i ps) item.keeps.noted made.noted in
          subst T (sym (take_next ps i p within read)) (record {
            keeps = keeps_then s t u made.keeps item.keeps;
            passed = subst L (sym (flat-next (part_items s.rest.limit r) (take i ps) p))
                (passed s u (items_of (take i ps) ++ part_items s.rest.limit r p) q x ok items_made);
            values = subst K (sym e) (rw (values-next r (take i ps) p) (stand-more u handles (values_of r (take i ps)) h (can (raw r p))
                (stand_later t u item.keeps.known handles (values_of r (take i ps)) made.values) st));
            noted = noted-more u r (take i ps) p before (subst N ok note);
            spare_kept = kept_spare;
          })

-- the handles of all parts hold at the places of the board's own
pub starts_held : {R : Type 0} (t : State Meant R) (r : GameRules) (p : Grid) (graph : PositionGraph) (handles hs ns : List ℕ)
    → IsOpened r p graph → StandFor t handles (values_of r graph.boards) → hs ≡ handles → ns ≡ graph.starts.items
    → HoldAt t r hs ns (parts_of r p)
starts_held t r p graph handles hs ns are all e f =
    hold-as t r hs handles ns graph.starts.items (parts_of r p) e f
    (held t r graph.boards handles graph.starts.items (parts_of r p) are.starts all)
