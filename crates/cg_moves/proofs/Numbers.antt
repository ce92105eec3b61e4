-- Boards by their numbers, and what is left to visit.
use Rattle.std.proofs.Common.{◌≡◌, refl, ℕ, zero, suc, ◌+◌, ◌-◌, ◌*◌, ◌<◌, ◌≤◌, List, [], ◌∷◌, ◌++◌, length, length-append}
use Rattle.std.proofs.Common.{get_or, take, drop, append_assoc, ap, sym, ◌∙◌, arith}
use Rattle.std.specs.Prelude.{All}
use Rattle.std.specs.List.{flat_map}
use Rattle.std.proofs.Math.Seq.{drop-cons}
use Rattle.std.proofs.lemmas.List.{append-nil}
use Rattle.cg_form.specs.Firsts.{EachOnce}
use Rattle.cg_moves.specs.declared.walk.Open.{Open}
use Rattle.cg_moves.specs.Grid.{Grid}
use Rattle.cg_moves.specs.Graph.{IsAt, StandAt}
use Rattle.cg_moves.specs.Plays.{Play}
use Rattle.cg_moves.specs.Visiting.{board_at, boards_at, numbers_left, visits_by, visits_of, work_left}
use Rattle.cg_moves.specs.Walks.{Enters, Leaves, Visit, entered}
use Rattle.cg_moves.proofs.PlaceLemmas.{at-in}

-- ---- boards at places

pub board-at : (ps : List Grid) (n : ℕ) → n < length ps → IsAt ps n (board_at ps n)
board-at [] n l = absurd (omega arith)
board-at (p ∷ ps) zero l = refl
board-at (p ∷ ps) (suc n) l = board-at ps n (omega arith)

pub at-board : (ps : List Grid) (n : ℕ) (p : Grid) → IsAt ps n p → board_at ps n ≡ p
at-board [] n p m = absurd m
at-board (x ∷ ps) zero p m = m
at-board (x ∷ ps) (suc n) p m = at-board ps n p m

pub stand-boards : (ps : List Grid) (ns : List ℕ) (qs : List Grid) → StandAt ps ns qs → boards_at ps ns ≡ qs
stand-boards ps [] [] h = refl
stand-boards ps [] (q ∷ qs) h = absurd h
stand-boards ps (n ∷ ns) [] h = absurd h
stand-boards ps (n ∷ ns) (q ∷ qs) h =
    ap (λ z. z ∷ boards_at ps ns) (at-board ps n q h.0) ∙ ap (λ z. q ∷ z) (stand-boards ps ns qs h.1)

-- a board that is in a list once has one place
pub once-at : (ps : List Grid) → EachOnce ps → (n m : ℕ) (p : Grid) → IsAt ps n p → IsAt ps m p → n ≡ m
once-at [] h n m p a b = absurd a
once-at (x ∷ ps) h zero zero p a b = refl
once-at (x ∷ ps) h zero (suc m) p a b = absurd (h.0 (rw a (at-in ps m p b)))
once-at (x ∷ ps) h (suc n) zero p a b = absurd (h.0 (rw b (at-in ps n p a)))
once-at (x ∷ ps) h (suc n) (suc m) p a b = ap suc (once-at ps h.1 n m p a b)

-- ---- what is left to visit after a part that was entered

module _ (numbers : List ℕ) (o later : Open) (low : o.next < o.end) (inside : o.end ≤ length numbers)
    (next : later.next ≡ o.next + 1) (end : later.end ≡ o.end) (n : ℕ) (is : n ≡ get_or numbers o.next 0) where
  left-cons : numbers_left numbers o ≡ n ∷ numbers_left numbers later
  left-cons =
      let one : o.end - o.next ≡ suc (later.end - later.next) = omega (arith, low, next, end) in
      let at : suc o.next ≡ later.next = omega (arith, next) in
      let first = get_or numbers o.next 0 in
      ap (take (o.end - o.next)) (drop-cons numbers o.next 0 (omega (arith, low, inside)))
      ∙ ap (λ k. take k (first ∷ drop (suc o.next) numbers)) one
      ∙ ap (λ k. first ∷ take (later.end - later.next) (drop k numbers)) at
      ∙ ap (λ k. k ∷ numbers_left numbers later) (sym is)

  pub visits-cons : (found : List Grid) → later.number ≡ o.number
      → visits_by found numbers o ≡ visits_by found numbers later ++ (Enters (board_at found n) ∷ [])
  visits-cons found same =
      ap (λ z. Leaves (board_at found o.number) ∷ entered (boards_at found z)) left-cons
      ∙ ap (λ z. Leaves (board_at found z) ∷ (entered (boards_at found (numbers_left numbers later)) ++ (Enters (board_at found n) ∷ [])))
      (sym same)

pub visits_of-append : (found : List Grid) (numbers : List ℕ) (os : List Open) (o : Open)
    → visits_of found numbers (os ++ (o ∷ [])) ≡ visits_of found numbers os ++ visits_by found numbers o
visits_of-append found numbers [] o = append-nil (visits_by found numbers o)
visits_of-append found numbers (x ∷ os) o =
    ap (λ z. visits_by found numbers x ++ z) (visits_of-append found numbers os o)
    ∙ sym (append_assoc (visits_by found numbers x) (visits_of found numbers os) (visits_by found numbers o))

-- ---- how much is left to do

module _ (r : Play) where
  pub work-append : (us vs : List Visit) → work_left r (us ++ vs) ≡ work_left r us + work_left r vs
  work-append [] vs = omega arith
  work-append (Enters p ∷ us) vs = let e = work-append us vs in omega (arith, e)
  work-append (Leaves p ∷ us) vs = let e = work-append us vs in omega (arith, e)

  pub work-entered : (ps : List Grid) → work_left r (entered ps) ≡ 2 * length (flat_map r.all ps)
  work-entered [] = refl
  work-entered (p ∷ ps) =
      let a = work-append (entered ps) (Enters p ∷ []) in
      let b = work-entered ps in
      let c = length-append (r.all p) (flat_map r.all ps) in
      omega (arith, a, b, c)

-- ---- what holds of each of a list

pub all-front : {X : Type 0} (P : X → Type 0) (xs ys : List X) → All P (xs ++ ys) → All P xs
all-front P [] ys h k d below = absurd (omega arith)
all-front P (x ∷ xs) ys h zero d below = let l = length-append xs ys in h 0 d (omega arith)
all-front P (x ∷ xs) ys h (suc k) d below = all-front P xs ys (λ m e low. h (suc m) e (omega arith)) k d (omega arith)

pub all-last : {X : Type 0} (P : X → Type 0) (xs : List X) (x : X) → All P (xs ++ (x ∷ [])) → P x
all-last P [] x h = h 0 x (omega arith)
all-last P (y ∷ xs) x h = all-last P xs x (λ m e low. h (suc m) e (omega arith))

pub all-one : {X : Type 0} (P : X → Type 0) (x : X) → P x → All P (x ∷ [])
all-one P x h zero d below = h
all-one P x h (suc k) d below = absurd (omega arith)
