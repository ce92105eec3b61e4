-- A whole line: what it is read as, and the column of a line that is none.
use Rattle.std.proofs.Common.{◌≡◌, ℕ, suc, ◌+◌, ◌<◌, ◌≤◌, ◌⊎◌, inl, inr, Bool, true, false, leb, List, [], ◌∷◌, ◌++◌, length}
use Rattle.std.proofs.Common.{Result, Ok, Err, refl, ap, sym, subst, ◌∙◌, append_assoc, append-nil, arith, length-append}
use Rattle.std.proofs.lemmas.Bool.{leb-true, leb-false}
use Rattle.cg_reading.specs.Bytes.{Class}
use Rattle.cg_reading.specs.Pieces.{Piece}
use Rattle.cg_reading.specs.Readers.{Read, Reader, whole_of, whole_at}
use Rattle.cg_reading.specs.Column.{Begun, Stops}
use Rattle.cg_reading.proofs.Laws.{kept, stuck, past, Agree, Alive, Lawful, Outcome}
use Rattle.cg_reading.proofs.Laws.{begun_as}

abbrev fine : {A : Type 0} → A → Result A ℕ
fine a = Ok a

abbrev failed : {A : Type 0} → ℕ → Result A ℕ
failed n = Err n

done_is : {A : Type 0} (a b : A) → fine a ≡ fine b → a ≡ b
done_is a b e = cc

failed_is : {A : Type 0} (n : ℕ) (a : A) → failed n ≡ fine a → ⊥
failed_is n a e = cc

fault_is : {A : Type 0} (m n : ℕ) → failed {A = A} m ≡ failed n → m ≡ n
fault_is m n e = cc

le_or_lt : (a b : ℕ) → (a ≤ b) ⊎ (b < a)
le_or_lt a b = omega_cases (leb a b) refl
  where
    omega_cases : (t : Bool) → leb a b ≡ t → (a ≤ b) ⊎ (b < a)
    omega_cases true h = inl (leb-true a b h)
    omega_cases false h = inr (leb-false a b h)

-- ---- a whole line

abbrev pub Is_line : {A : Type 0} → Piece A → List ℕ → Type 0
Is_line {A} R line = (a : A) × R 1 a line

module _ {A : Type 0} (R : Piece A) (f : Reader A) (I : Class) (e : Bool) (F : Class) (lf : Lawful R f I e F) where
  pub whole_again : (line : List ℕ) (a : A) → R 1 a line → whole_at f line ≡ Ok a
  whole_again line a is =
      let n : 1 + length (line ++ []) ≡ suc (length line) = omega (arith, ap length (append-nil line)) in
      ap (λ z. whole_of z) (ap (f (suc (length line))) (sym (append-nil line)) ∙ lf.again (suc (length line)) 1 a line [] is tt n)

  whole_takes_of : (line : List ℕ) (x : Read A) (a : A) → Outcome R 1 line x → whole_of x ≡ Ok a → R 1 a line
  whole_takes_of line (Ok (b, [])) a o h =
      let t : line ≡ o.text = o.split ∙ append-nil o.text in
      subst (λ (z : List ℕ). R 1 a z) (sym t) (subst (λ (z : A). R 1 z o.text) (done_is b a h) o.is)
  whole_takes_of line (Ok (b, c ∷ rest)) a o h = absurd (failed_is (length (c ∷ rest)) a h)
  whole_takes_of line (Err n) a o h = absurd (failed_is n a h)

  -- what is read is a line
  pub whole_takes : (line : List ℕ) (a : A) → whole_at f line ≡ Ok a → R 1 a line
  whole_takes line a h = whole_takes_of line (f (suc (length line)) line) a (lf.sound (suc (length line)) 1 line (omega arith)) h

  -- the bytes before the fault can be completed to a line
  whole_alive_of : (line : List ℕ) (x : Read A) (n : ℕ) → Outcome R 1 line x → whole_of x ≡ Err n → Alive R 1 line n
  whole_alive_of line (Ok (b, [])) n o h = absurd (failed_is n b (sym h))
  whole_alive_of line (Ok (b, c ∷ rest)) n o h =
      begun_as o.text (c ∷ rest) [] b (subst (λ (z : List ℕ). R 1 b z) (sym (append-nil o.text)) o.is) o.split (fault_is (length (c ∷ rest)) n h)
  whole_alive_of line (Err m) n o h = subst (λ (z : ℕ). Alive R 1 line z) (fault_is m n h) o

  -- where whole reading stops at a byte, reading stops there, too
  stops_at : (c : ℕ) (q r : List ℕ) (x y : Read A) (a : A) → Agree c q r x y → whole_of x ≡ Err (suc (length q)) → y ≡ Ok (a, []) → ⊥
  stops_at c q r x y a (kept b s e g) h k = nil_is_not s (rest_is b a (s ++ c ∷ r) [] (sym g ∙ k))
    where
      rest_is : (b a : A) (u v : List ℕ) → fine {A = A × List ℕ} (b, u) ≡ fine {A = A × List ℕ} (a, v) → u ≡ v
      rest_is b a u v e = ap (λ (p : A × List ℕ). p.1) (done_is {A = A × List ℕ} (b, u) (a, v) e)

      nil_is_not : (s : List ℕ) → s ++ c ∷ r ≡ [] → ⊥
      nil_is_not [] e = cc
      nil_is_not (d ∷ s) e = cc
  stops_at c q r x y a (stuck n e g) h k = failed_is (n + suc (length r)) (a, []) (sym g ∙ k)
  stops_at c q r (Ok (b, [])) y a (past m n) h k = failed_is (suc (length q)) b (sym h)
  stops_at c q r (Ok (b, d ∷ rest)) y a (past m n) h k = let e = fault_is (length (d ∷ rest)) (suc (length q)) h in omega (arith, e, m)
  stops_at c q r (Err l) y a (past m n) h k = let e = fault_is l (suc (length q)) h in omega (arith, e, m)

  never : (p : List ℕ) (c : ℕ) (q r : List ℕ) (a : A) → whole_at f (p ++ c ∷ q) ≡ Err (suc (length q)) → R 1 a (p ++ c ∷ r) → ⊥
  never p c q r a h is =
      let end = suc (length (p ++ c ∷ q)) in
      let last = suc (length (p ++ c ∷ r)) in
      let line = p ++ c ∷ r in
      let n : 1 + length (line ++ []) ≡ last = omega (arith, ap length (append-nil line)) in
      let k : f last line ≡ Ok (a, []) = ap (f last) (sym (append-nil line)) ∙ lf.again last 1 a line [] is tt n in
      stops_at c q r (f end (p ++ c ∷ q)) (f last line) a (lf.agree end last 1 p c q r (omega arith) (omega arith)) h k

  -- a longer prefix of the line takes the byte of the fault
  beyond : (p rest x y : List ℕ) → p ++ rest ≡ x ++ y → length p < length x → (c : ℕ) × (q : List ℕ) × (z : List ℕ) × (rest ≡ c ∷ q) × (x ≡ p ++ c ∷ z)
  beyond [] rest [] y e h = absurd (omega arith)
  beyond [] rest (c ∷ x) y e h = (c, x ++ y, x, e, refl)
  beyond (b ∷ p) rest [] y e h = absurd (omega arith)
  beyond (b ∷ p) rest (d ∷ x) y e h =
      let heads : b ≡ d = cc in
      let tails : p ++ rest ≡ x ++ y = cc in
      let (c, q, z, k, l) = beyond p rest x y tails (omega arith) in
      (c, q, z, k, ap (λ (w : ℕ). w ∷ x) (sym heads) ∙ ap (λ (w : List ℕ). b ∷ w) l)

  not_longer : (line : List ℕ) (n : ℕ) (o : Alive R 1 line n) → whole_at f line ≡ Err n → (x y : List ℕ) → line ≡ x ++ y → Begun (Is_line R) x → length x ≤ length o.taken
  not_longer line n o h x y e begun = elim (le_or_lt (length x) (length o.taken)) [
    | inl k ↦ k
    | inr k ↦ absurd (refuse (beyond o.taken o.rest x y (sym o.split ∙ e) k))
  ]
    where
      refuse : (c : ℕ) × (q : List ℕ) × (z : List ℕ) × (o.rest ≡ c ∷ q) × (x ≡ o.taken ++ c ∷ z) → ⊥
      refuse (c, q, z, k, l) =
          let size : n ≡ suc (length q) = sym o.stuck ∙ ap length k in
          let whole : line ≡ o.taken ++ c ∷ q = o.split ∙ ap (λ (w : List ℕ). o.taken ++ w) k in
          let same : x ++ begun.0 ≡ o.taken ++ c ∷ (z ++ begun.0) = ap (λ (w : List ℕ). w ++ begun.0) l ∙ append_assoc o.taken (c ∷ z) begun.0 in
          never o.taken c q (z ++ begun.0) begun.1.0 (subst (λ (w : List ℕ). whole_at f w ≡ Err (suc (length q))) whole (h ∙ ap (λ (m : ℕ). Err m) size)) (subst (λ (w : List ℕ). R 1 begun.1.0 w) same begun.1.1)

  -- a line on which reading stops is none, and the column is the one where it stops
  pub whole_stops : (line : List ℕ) (n column : ℕ) → whole_at f line ≡ Err n → column + n ≡ suc (length line) → Stops (Is_line R) line column
  whole_stops line n column h k =
      let o = whole_alive_of line (f (suc (length line)) line) n (lf.sound (suc (length line)) 1 line (omega arith)) h in
      let size = ap length o.split in
      record {
        before = o.taken;
        behind = o.rest;
        split = o.split;
        at = omega (arith, k, size, length-append o.taken o.rest, o.stuck);
        begun = (o.more, (o.value, o.is));
        longest = not_longer line n o h;
        none = λ is. failed_is n is.0 (sym h ∙ whole_again line is.0 is.1);
      }

  pub whole_left : (line : List ℕ) (n : ℕ) → whole_at f line ≡ Err n → n ≤ length line
  whole_left line n h =
      let o = whole_alive_of line (f (suc (length line)) line) n (lf.sound (suc (length line)) 1 line (omega arith)) h in
      omega (arith, ap length o.split, length-append o.taken o.rest, o.stuck)

  -- no line has two values
  pub whole_once : (line : List ℕ) (a b : A) → R 1 a line → R 1 b line → a ≡ b
  whole_once line a b x y = done_is a b (sym (whole_again line a x) ∙ whole_again line b y)
