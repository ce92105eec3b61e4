-- What a step's view says of a pass as a store of cells.
use Rattle.std.proofs.Common.{◌≡◌, ℕ, zero, suc, ◌+◌, ◌<◌, ◌≤◌, List, [], ◌∷◌, ◌++◌, set, length}
use Rattle.std.proofs.Common.{false, Some, IsSome, refl, sym, ap, ◌∙◌, subst, inl, inr, arith}
use lib.ListN.{get_elem?}
use mathlib.Core.Option as option
use Rattle.atomic_table.specs.Seated.{TableId}
use Rattle.cg_cells.specs.Parts.{names_of}
use Rattle.cg_cells.specs.Meaning.{Meaning, Has, Grows, IsLawful}
use Rattle.cg_cells.specs.Store.{Spends, IsSublist}
use Rattle.cg_cells.specs.Views.{ViewOf, Action, a_split, makes, knows, after_split, split_off, after_look, after_read, after_claim, after_note, after_meet}
use Rattle.cg_cells.specs.Table.{Tells}
use Rattle.cg_cells.specs.Steps.{Table, split}
use Rattle.cg_cells.specs.Sure.{Sure}
use Rattle.cg_cells.proofs.Notes.{some_is, is_some}
use Rattle.cg_cells.proofs.Entries.{learn_has, learn_keeps, enter_has, enter_keeps, tells_left, tells_right, has_left, has_right}
use Rattle.cg_cells.proofs.Totals.{at_after}
use Rattle.cg_cells.proofs.Fitting.{sure_grows}
use Rattle.cg_cells.proofs.Runs.{sure_of, one_more}
use Rattle.cg_shared.specs.Passes.{state_by, IsStill}

module _ {X : Type 0} (m : Meaning X) (a b : TableId) (same : b ≡ a) (v w : ViewOf X) (S : Sure m w) where
  spends_by : (n : ℕ) → ((i : ℕ) (t : X) → Tells v.known i t → Tells w.known i t) → IsSublist v.noted w.noted → w.spare + n ≡ v.spare
      → w.sizes ≡ v.sizes → w.tickets ≡ v.tickets → w.heirs ≡ v.heirs → w.met ≡ v.met → Spends n (state_by a v) (state_by b w)
  spends_by n more noted spare sizes tickets heirs met = record {
    known = sure_grows m v w S more;
    noted = noted;
    spare = spare;
    rest = λ i. record { cells = record { table = same i; sizes = sizes i }; tickets = tickets i; heirs = heirs i; met = met i };
  }

  module _ (id key : ℕ) (t : X) (known : knows v id ≡ Some t) (is : w ≡ after_look m v key t) where
    pub look_spends : Spends 0 (state_by a v) (state_by b w)
    look_spends = spends_by 0 (λ i u h. subst (λ (x : ViewOf X). Tells x.known i u) (sym is) (learn_keeps v.known (names_of key) (m.part key t) i u h))
        (λ i h. subst (λ (x : ViewOf X). Has x.noted i) (sym is) h) (let e = ap (λ x. x.spare) is in omega arith)
        (ap (λ x. x.sizes) is) (ap (λ x. x.tickets) is) (ap (λ x. x.heirs) is) (ap (λ x. x.met) is)

    pub look_named : (i : ℕ) → Has (names_of key) i → IsSome (knows w i)
    look_named i h = is_some _ _ (S.one i (m.part key t i) (subst (λ (x : ViewOf X). Tells x.known i (m.part key t i)) (sym is) (learn_has v.known (names_of key) (m.part key t) i h)))

  module _ (id : ℕ) (t : X) (is : w ≡ after_claim v id t) (some : 1 ≤ v.spare) where
    pub claim_spends : Spends 1 (state_by a v) (state_by b w)
    claim_spends = spends_by 1 (λ i u h. subst (λ (x : ViewOf X). Tells x.known i u) (sym is) (inr h))
        (λ i h. subst (λ (x : ViewOf X). Has x.noted i) (sym is) h) (let e = ap (λ x. x.spare) is in omega arith)
        (ap (λ x. x.sizes) is) (ap (λ x. x.tickets) is) (ap (λ x. x.heirs) is) (ap (λ x. x.met) is)

    pub claim_stands : knows w id ≡ Some t
    claim_stands = S.one id t (subst (λ (x : ViewOf X). Tells x.known id t) (sym is) (inl (refl, refl)))

  module _ (id : ℕ) (is : w ≡ after_note v id) where
    pub note_spends : Spends 0 (state_by a v) (state_by b w)
    note_spends = spends_by 0 (λ i u h. subst (λ (x : ViewOf X). Tells x.known i u) (sym is) h)
        (λ i h. subst (λ (x : ViewOf X). Has x.noted i) (sym is) (inr h)) (let e = ap (λ x. x.spare) is in omega arith)
        (ap (λ x. x.sizes) is) (ap (λ x. x.tickets) is) (ap (λ x. x.heirs) is) (ap (λ x. x.met) is)

    pub note_has : Has w.noted id
    note_has = subst (λ (x : ViewOf X). Has x.noted id) (sym is) (inl refl)

  module _ (id : ℕ) (t : X) where
    pub read_spends : (word : ℕ) → w ≡ after_read m v id word t → Spends 0 (state_by a v) (state_by b w)
    read_spends zero is = spends_by 0 (λ i u h. subst (λ (x : ViewOf X). Tells x.known i u) (sym is) h)
        (λ i h. subst (λ (x : ViewOf X). Has x.noted i) (sym is) h) (let e = ap (λ x. x.spare) is in omega arith)
        (ap (λ x. x.sizes) is) (ap (λ x. x.tickets) is) (ap (λ x. x.heirs) is) (ap (λ x. x.met) is)
    read_spends (suc value) is = spends_by 0 (λ i u h. subst (λ (x : ViewOf X). Tells x.known i u) (sym is) (enter_keeps v.known value (m.note_of t) i u h))
        (λ i h. subst (λ (x : ViewOf X). Has x.noted i) (sym is) (inr h)) (let e = ap (λ x. x.spare) is in omega arith)
        (ap (λ x. x.sizes) is) (ap (λ x. x.tickets) is) (ap (λ x. x.heirs) is) (ap (λ x. x.met) is)

    module _ (value : ℕ) (is : w ≡ after_read m v id (suc value) t) where
      pub read_has : Has w.noted id
      read_has = subst (λ (x : ViewOf X). Has x.noted id) (sym is) (inl refl)

      pub read_stands : IsSome (m.note_of t) → knows w value ≡ m.note_of t
      read_stands some =
          let d = some_is _ some in
          S.one value d.0 (subst (λ (x : ViewOf X). Tells x.known value d.0) (sym is) (enter_has v.known value (m.note_of t) d.0 d.1)) ∙ sym d.1

module _ {X : Type 0} (m : Meaning X) (a b : TableId) (v w : ViewOf X) (key id : ℕ) where
  -- what a claim of a key tells, where it found the key's cell or made it
  pub record ClaimTells : Type 0 where
    pub stands : knows w id ≡ m.spells key (knows v)
    pub spends : Spends 1 (state_by a v) (state_by b w)
    -- what was known to be the key's thing is this cell
    pub again : (i : ℕ) → knows v i ≡ m.spells key (knows v) → id ≡ i

  pub claim_tells : b ≡ a → 1 ≤ v.spare → IsSome (m.spells key (knows v))
      → ((t : X) → m.spells key (knows v) ≡ Some t → (w ≡ after_claim (record v { made = w.made }) id t) × Sure m w) → ClaimTells
  claim_tells same some spells hit =
      let s = some_is _ spells in
      let r = hit s.0 s.1 in
      let here = claim_stands m a b same (record v { made = w.made }) w r.1 id s.0 r.0 some in
      let spends = claim_spends m a b same (record v { made = w.made }) w r.1 id s.0 r.0 some in
      record {
        stands = here ∙ sym s.1;
        spends = spends;
        again = λ i e. r.1.apart id i s.0 here (spends.known i s.0 (e ∙ s.1));
      }

-- what either knew is known after a meeting
pub meet_knows : {X : Type 0} (m : Meaning X) (v w u : ViewOf X) → Sure m u → u ≡ after_meet v w → Grows (knows v) (knows u) × Grows (knows w) (knows u)
meet_knows {X} m v w u S is = (
  sure_grows m v u S (λ i t h. subst (λ (x : ViewOf X). Tells x.known i t) (sym is) (tells_left v.known w.known i t h)),
  sure_grows m w u S (λ i t h. subst (λ (x : ViewOf X). Tells x.known i t) (sym is) (tells_right v.known w.known i t h)),
)

pub meet_noted : {X : Type 0} (v w u : ViewOf X) → u ≡ after_meet v w → IsSublist v.noted u.noted × IsSublist w.noted u.noted
meet_noted {X} v w u is = (
  (λ i h. subst (λ (x : ViewOf X). Has x.noted i) (sym is) (has_left v.noted w.noted i h)),
  (λ i h. subst (λ (x : ViewOf X). Has x.noted i) (sym is) (has_right v.noted w.noted i h)),
)

pub still_look : {X : Type 0} (m : Meaning X) (ds : List Action) (v w : ViewOf X) (key : ℕ) (t : X) → w ≡ after_look m (makes ds v) key t → IsStill v w
still_look {X} m ds v w key t is = record {
  sizes = ap (λ x. x.sizes) is;
  spare = ap (λ x. x.spare) is;
  tickets = ap (λ x. x.tickets) is;
  heirs = ap (λ x. x.heirs) is;
  met = ap (λ x. x.met) is;
  over = ap (λ x. x.over) is;
  probe = ap (λ x. x.probe) is;
  gone = ap (λ x. x.gone) is;
}

pub still_read : {X : Type 0} (m : Meaning X) (ds : List Action) (v w : ViewOf X) (id word : ℕ) (t : X) → w ≡ after_read m (makes ds v) id word t → IsStill v w
still_read {X} m ds v w id zero t is = subst (IsStill v) (sym is) (record { sizes = refl; spare = refl; tickets = refl; heirs = refl; met = refl; over = refl; probe = refl; gone = refl })
still_read {X} m ds v w id (suc value) t is = subst (IsStill v) (sym is) (record { sizes = refl; spare = refl; tickets = refl; heirs = refl; met = refl; over = refl; probe = refl; gone = refl })

-- a pass is sure of its view after a split, and so is the new one
pub split_sure : {X : Type 0} (m : Meaning X) → IsLawful m → (heirs : ℕ) (v : ViewOf X) → v.gone ≡ false → heirs < v.heirs → Sure m v
    → Sure m (after_split heirs (makes (a_split heirs ∷ []) v)) × Sure m (split_off heirs v)
split_sure {X} m L heirs v alive less S =
    let t = S.reached.0 in
    let R = S.reached.1 in
    let j = S.reached.2.0 in
    let at = S.reached.2.1 in
    let left : ViewOf X = after_split heirs (makes (a_split heirs ∷ []) v) in
    let views : List (ViewOf X) = set t.views j left in
    let u : Table X = record { words = t.words; views = views ++ split_off heirs v ∷ [] } in
    let K = one_more m v.sizes t u (split j heirs) R (v, at, (less, refl)) refl in (
      sure_of m L v.sizes u K j left (before views (split_off heirs v) j left (at_after t.views j v left at.0), alive),
      sure_of m L v.sizes u K (length views) (split_off heirs v) (last views (split_off heirs v), refl),
    )
  where
    before : {A : Type 0} (l : List A) (a : A) (i : ℕ) (b : A) → get_elem? l i ≡ option.some b → get_elem? (l ++ a ∷ []) i ≡ option.some b
    before [] a i b e = absurd (option.some-ne-none b (sym e))
    before (x ∷ xs) a zero b e = e
    before (x ∷ xs) a (suc i) b e = before xs a i b e

    last : {A : Type 0} (l : List A) (a : A) → get_elem? (l ++ a ∷ []) (length l) ≡ option.some a
    last [] a = refl
    last (x ∷ xs) a = last xs a
