-- Where an item is refused, each front of the parts all of whose items pass is noted.
use Rattle.std.proofs.Common.{◌≡◌, ◌≢◌, ℕ, ◌+◌, ◌≤◌, ◌<◌, ◌⊎◌, inl, inr, List, [], ◌∷◌, ◌++◌, length, Result, Ok, Err, refl, ap, sym, ◌∙◌, arith}
use Rattle.std.specs.Prelude.{All, IfErr}
use Rattle.std.proofs.lemmas.List.Elements.{All-cons, All-head, All-nil, All-tail}
use Rattle.cg_cells.specs.Store.{State}
use Rattle.cg_canon.specs.Items.{AllPass, IsRefusal, IsStopped, Item, Passes, WasRefused, item_cost, made, outside, too_many, total}
use Rattle.cg_canon.specs.declared.fault.ValueFault.{ValueFault}
use Rattle.cg_canon.specs.declared.fault.ValueFault.TheVariants.{Depth, Full, Memory, Positions, Range}
use Rattle.cg_canon.specs.declared.rest.WorkRest.{WorkRest}
use Rattle.cg_nodes.specs.Meant.{Meant}
use Rattle.cg_moves.specs.Grid.{Grid}
use Rattle.cg_moves.specs.Rules.{GameRules}
use Rattle.cg_values.specs.Items.{parts_reach}
use Rattle.cg_values.specs.Notes.{AreNoted, IsNoted}
use Rattle.cg_values.specs.Parts.{FrontsNoted}

-- ---- no list passes of which an item is refused

pub not_both : (fault : ValueFault) (item : Item) (sum share : ℕ) → Passes item sum share → IsRefusal fault item sum share → ⊥
not_both fault too_many sum share p r = p
not_both fault outside sum share p r = p
not_both Range (made g extra) sum share p r = r p.0
not_both (Depth d) (made g extra) sum share p r = let a = p.1 in let b = r.1 in let l = r.2 in absurd (omega arith)
not_both (Full n) (made g extra) sum share p r = let a = p.2 in let b = r.2 in let l = r.3 in absurd (omega arith)
not_both Positions (made g extra) sum share p r = r
not_both Memory (made g extra) sum share p r = r

pub verdict-apart : (fault : ValueFault) (share before : ℕ) (items : List Item) (a b : ℕ) → AllPass share before items a
    → IsStopped fault share before items b → ⊥
verdict-apart fault share before items a b p s =
    not_both fault s.item (before + total s.front + item_cost s.item) share (p.each s.front s.item s.back s.split)
    (rw (← s.passed.spent) s.refused)

pub refused-apart : (fault : ValueFault) (share before : ℕ) (items : List Item) (a b : ℕ) → fault ≢ Memory → AllPass share before items a
    → WasRefused fault share before items b → ⊥
refused-apart Memory share before items a b other p r = other refl
refused-apart Range share before items a b other p r = verdict-apart Range share before items a b p r
refused-apart (Full n) share before items a b other p r = verdict-apart (Full n) share before items a b p r
refused-apart (Depth d) share before items a b other p r = verdict-apart (Depth d) share before items a b p r
refused-apart Positions share before items a b other p r = verdict-apart Positions share before items a b p r

-- ---- fronts of lists

-- a front of a list ends before an element, or has it
pub front-cut : {A : Type 0} (xs : List A) (p : A) (ys front behind : List A) → xs ++ p ∷ ys ≡ front ++ behind
    → ((m : List A) × (xs ≡ front ++ m)) ⊎ ((m : List A) × (front ≡ xs ++ p ∷ m))
front-cut [] p ys [] behind e = inl ([], refl)
front-cut [] p ys (a ∷ front) behind e = inr (front, (let head : a ≡ p = cc in ap (λ z. z ∷ front) head))
front-cut (x ∷ xs) p ys [] behind e = inl (x ∷ xs, refl)
front-cut (x ∷ xs) p ys (a ∷ front) behind e =
    let head : x ≡ a = cc in
    let tail : xs ++ p ∷ ys ≡ front ++ behind = cc in
    elim (front-cut xs p ys front behind tail) [
      | inl m ↦ inl (m.0, ap (λ z. x ∷ z) m.1 ∙ ap (λ z. z ∷ (front ++ m.0)) head)
      | inr m ↦ inr (m.0, ap (λ z. a ∷ z) m.1 ∙ ap (λ z. z ∷ (xs ++ p ∷ m.0)) (sym head))
    ]

all-front : {A : Type 0} (P : A → Type 0) (xs ys : List A) → All P (xs ++ ys) → All P xs
all-front P [] ys all = All-nil P
all-front P (x ∷ xs) ys all = All-cons P x xs (All-head P x (xs ++ ys) all) (all-front P xs ys (All-tail P x (xs ++ ys) all))

pub noted-front : {R : Type 0} (t : State Meant R) (r : GameRules) (ps front behind : List Grid) → ps ≡ front ++ behind
    → AreNoted t r ps → AreNoted t r front
noted-front t r ps front behind e are = λ some.
    all-front (IsNoted t r) front behind (rw (← e) (are some))

-- ---- what a call says of them

pub if_err : {T : Type 0} (r : Result T ValueFault) (e : ValueFault) (P : ValueFault → Type 0) → r ≡ Err e → P e → IfErr r P
if_err {T} r e P is p = rw is p

pub if_err_any : {T : Type 0} (r : Result T ValueFault) (P : ValueFault → Type 0) → ((e : ValueFault) → P e) → IfErr r P
if_err_any (Ok x) P p = tt
if_err_any (Err e) P p = p e

-- where all parts are noted, so is each front
pub fronts-all : {R : Type 0} (s t : State Meant (WorkRest R)) (r : GameRules) (ps : List Grid) → AreNoted t r ps → FrontsNoted s t r ps
fronts-all s t r ps are = λ front behind total split passes. noted-front t r ps front behind split are

-- no front was made where there are more parts than the limit
pub fronts-none : {R : Type 0} (s t : State Meant (WorkRest R)) (r : GameRules) (p : Grid) (fault : ValueFault) (limit most : ℕ)
    → limit ≡ most → (fault ≡ Memory) ⊎ ((fault ≡ Positions) × (limit < length (parts_reach r p)))
    → fault ≢ Memory → length (parts_reach r p) ≤ most → FrontsNoted s t r (parts_reach r p)
fronts-none s t r p fault limit most is (inl memory) other within = absurd (other memory)
fronts-none s t r p fault limit most is (inr more) other within = absurd (let above = more.1 in omega (arith, is, above, within))
