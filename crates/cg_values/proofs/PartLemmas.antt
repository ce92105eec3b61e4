-- What comes next after a part, and the items of a board in parts.
use Rattle.std.proofs.Common.{◌≡◌, refl, ℕ, zero, suc, ◌≤◌, ◌<◌, arith, ap, sym, ◌∙◌, subst, inl, inr}
use Rattle.std.proofs.Common.{true, false, List, [], ◌∷◌, ◌++◌, append_assoc, get_or, length, map, take}
use Rattle.std.specs.Prelude.{All, if◌then◌else◌, nat_lt}
use Rattle.std.specs.List.{flat_map}
use Rattle.std.proofs.lemmas.Bool.{cases_Bool}
use Rattle.std.proofs.lemmas.Bool.Decides.{nat_tests}
use Rattle.std.proofs.lemmas.List.{append-nil}
use Rattle.cg_canon.specs.Items.{Item, too_many}
use Rattle.cg_nodes.specs.Can.{can}
use Rattle.cg_moves.proofs.Members.{all_from, carry}
use Rattle.cg_moves.proofs.PlayLemmas.{by-pieces, piece_reach-kept, piece_starts}
use Rattle.cg_moves.proofs.PlayOrder.{visited-known}
use Rattle.cg_moves.proofs.ReachLemmas.{reach-has}
use Rattle.cg_moves.specs.Grid.{Grid}
use Rattle.cg_moves.specs.Graph.{AreNext, IsNext, uncut}
use Rattle.cg_moves.specs.PieceReach.{piece_reach_of}
use Rattle.cg_moves.specs.Raw.{raw}
use Rattle.cg_moves.specs.Reach.{reach_of}
use Rattle.cg_moves.specs.Lawful.{IsLawful}
use Rattle.cg_moves.specs.Rules.{GameRules, In, cuts, followers, pieces}
use Rattle.cg_moves.specs.declared.graph.Adjacency.{Adjacency}
use Rattle.cg_values.specs.Items.{board_items, cut_items, joining_items, parts_reach, piece_items, sum_up, sum_up_items, value_item, value_items, whole_items}
use Rattle.cg_values.specs.Parts.{joins, part_items, parts_of}
use Rattle.cg_values.proofs.SumUp.{board-sum}

-- ---- what comes next

module _ (r : GameRules) (parts : Grid → List Grid) (counts places : List ℕ) where
  pub next-at : (before ps : List Grid) (ns : List Adjacency) (i : ℕ) (p : Grid) (next : Adjacency)
      → AreNext r parts counts places before ps ns → i < length ps → p ≡ get_or ps i p → next ≡ get_or ns i next
      → IsNext r parts counts places (before ++ take i ps) p next
  next-at before [] ns i p next all within read next_read = absurd (omega arith)
  next-at before (q ∷ ps) [] i p next all within read next_read = absurd all
  next-at before (q ∷ ps) (n ∷ ns) zero p next all within read next_read =
      let B : List Grid → Type 0 = λ z. IsNext r parts counts places z q n in
      rw read (rw next_read (subst B (sym (append-nil before)) all.0))
  next-at before (q ∷ ps) (n ∷ ns) (suc i) p next all within read next_read =
      rw (← (append_assoc before (q ∷ []) (take i ps)))
      (next-at (before ++ (q ∷ [])) ps ns i p next all.1 (omega arith) read next_read)

-- ---- whether the rules cut

module _ (r : GameRules) where
  parts-cut : cuts r ≡ true → parts_of r ≡ pieces r
  parts-cut e = ap (λ b. if b then pieces r else uncut) e

  parts-whole : cuts r ≡ false → parts_of r ≡ uncut
  parts-whole e = ap (λ b. if b then pieces r else uncut) e

  reach-cut : (p : Grid) → cuts r ≡ true → parts_reach r p ≡ piece_reach_of r p
  reach-cut p e = ap (λ b. if b then piece_reach_of r p else reach_of r p) e

  reach-whole : (p : Grid) → cuts r ≡ false → parts_reach r p ≡ reach_of r p
  reach-whole p e = ap (λ b. if b then piece_reach_of r p else reach_of r p) e

  -- a board is the sum of its parts
  pub parts-sum : IsLawful r → (p : Grid) → r.has p ≡ true → can (sum_up (map (raw r) (parts_of r p))) ≡ can (raw r p)
  parts-sum lawful p has = elim (cases_Bool (cuts r)) [
    | inl t ↦ ap (λ f. can (sum_up (map (raw r) (f p)))) (parts-cut t) ∙ board-sum r (lawful.cut t) p has
    | inr f ↦ ap (λ k. can (sum_up (map (raw r) (k p)))) (parts-whole f)
  ]

  reached-has : IsLawful r → (p : Grid) → r.has p ≡ true → (q : Grid) → In q (parts_reach r p) → r.has q ≡ true
  reached-has lawful p has q k = elim (cases_Bool (cuts r)) [
    | inl t ↦ (let each = (lawful.cut t).each in
        let known = visited-known _ (by-pieces r lawful each) (pieces r p) (piece_starts r lawful each p has) q
        (carry q (parts_reach r p) _ (reach-cut p t ∙ piece_reach-kept r lawful each p has) k) in
        known.1)
    | inr f ↦ reach-has r lawful p q has (carry q (parts_reach r p) (reach_of r p) (reach-whole p f) k)
  ]

  pub all-has : IsLawful r → (p : Grid) → r.has p ≡ true → (ps : List Grid) → ps ≡ parts_reach r p
      → All (λ q. r.has q ≡ true) ps
  all-has lawful p has ps e =
      all_from (λ q. r.has q ≡ true) ps (λ q k. reached-has lawful p has q (carry q ps (parts_reach r p) e k))

-- ---- items

module _ (limit : ℕ) (r : GameRules) where
  -- of the parts that play can come to, and of joining the board's own
  abbrev pub all_items : Grid → List Item
  all_items p = flat_map (part_items limit r) (parts_reach r p) ++ joins limit r p

  joins-none : cuts r ≡ false → (p : Grid) → joins limit r p ≡ []
  joins-none e p = ap (λ f. sum_up_items limit (map (raw r) (f p))) (parts-whole r e)

  all-none : cuts r ≡ false → (ps : List Grid) → flat_map (joins limit r) ps ≡ []
  all-none e [] = refl
  all-none e (p ∷ ps) = ap (λ z. z ++ flat_map (joins limit r) ps) (joins-none e p) ∙ all-none e ps

  all-values : cuts r ≡ false → (ps : List Grid) → flat_map (part_items limit r) ps ≡ value_items r ps
  all-values e [] = refl
  all-values e (p ∷ ps) =
      ap (λ z. (z ++ (value_item r p ∷ [])) ++ flat_map (part_items limit r) ps) (all-none e (followers r p))
      ∙ ap (λ z. value_item r p ∷ z) (all-values e ps)

  items-whole : cuts r ≡ false → (p : Grid) → all_items p ≡ value_items r (reach_of r p)
  items-whole e p =
      ap (λ z. flat_map (part_items limit r) (parts_reach r p) ++ z) (joins-none e p)
      ∙ append-nil (flat_map (part_items limit r) (parts_reach r p)) ∙ all-values e (parts_reach r p)
      ∙ ap (value_items r) (reach-whole r p e)

  abbrev items_by : (Grid → List Grid) → List Grid → Grid → List Item
  items_by parts ps p =
      flat_map (λ q. flat_map (λ s. sum_up_items limit (map (raw r) (parts s))) (followers r q) ++ (value_item r q ∷ [])) ps
      ++ sum_up_items limit (map (raw r) (parts p))

  items-cut : cuts r ≡ true → (p : Grid) → all_items p ≡ flat_map (piece_items limit r) (piece_reach_of r p) ++ joining_items limit r p
  items-cut e p = ap (λ f. items_by f (parts_reach r p) p) (parts-cut r e) ∙ ap (λ z. items_by (pieces r) z p) (reach-cut r p e)

  few : (x y : List Item) (ps : List Grid) → length ps ≤ limit → (if nat_lt limit (length ps) then x else y) ≡ y
  few x y ps h =
      let e : nat_lt limit (length ps) ≡ false = grind (arith, nat_tests) in ap (λ b. if b then x else y) e

  many : (x y : List Item) (ps : List Grid) → limit < length ps → (if nat_lt limit (length ps) then x else y) ≡ x
  many x y ps h = let e : nat_lt limit (length ps) ≡ true = grind (arith, nat_tests) in ap (λ b. if b then x else y) e

  cut-board : (p : Grid) → cuts r ≡ true → board_items limit r p ≡ cut_items limit r p
  unfolding board_items
  cut-board p e = ap (λ b. if b then cut_items limit r p else whole_items limit r p) e

  whole-board : (p : Grid) → cuts r ≡ false → board_items limit r p ≡ whole_items limit r p
  unfolding board_items
  whole-board p e = ap (λ b. if b then cut_items limit r p else whole_items limit r p) e

  pub items-within : (p : Grid) → length (parts_reach r p) ≤ limit → all_items p ≡ board_items limit r p
  items-within p h = elim (cases_Bool (cuts r)) [
    | inl t ↦ (let n = ap length (reach-cut r p t) in
        let within : length (piece_reach_of r p) ≤ limit = omega (arith, n, h) in
        items-cut t p ∙ sym (cut-board p t
        ∙ few (too_many ∷ []) (flat_map (piece_items limit r) (piece_reach_of r p) ++ joining_items limit r p) (piece_reach_of r p) within))
    | inr f ↦ (let n = ap length (reach-whole r p f) in
        let within : length (reach_of r p) ≤ limit = omega (arith, n, h) in
        items-whole f p ∙ sym (whole-board p f ∙ few (too_many ∷ []) (value_items r (reach_of r p)) (reach_of r p) within))
  ]

  pub items-many : (p : Grid) → limit < length (parts_reach r p) → board_items limit r p ≡ too_many ∷ []
  items-many p h = elim (cases_Bool (cuts r)) [
    | inl t ↦ (let n = ap length (reach-cut r p t) in
        let above : limit < length (piece_reach_of r p) = omega (arith, n, h) in
        cut-board p t
        ∙ many (too_many ∷ []) (flat_map (piece_items limit r) (piece_reach_of r p) ++ joining_items limit r p) (piece_reach_of r p) above)
    | inr f ↦ (let n = ap length (reach-whole r p f) in
        let above : limit < length (reach_of r p) = omega (arith, n, h) in
        whole-board p f ∙ many (too_many ∷ []) (value_items r (reach_of r p)) (reach_of r p) above)
  ]
