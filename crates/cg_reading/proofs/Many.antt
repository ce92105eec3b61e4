-- Any number of pieces, one after the other.
use Rattle.std.proofs.Common.{◌≡◌, ℕ, zero, suc, ◌+◌, ◌-◌, ◌<◌, ◌≤◌, Bool, true, false, cond, List, [], ◌∷◌, ◌++◌, length}
use Rattle.std.proofs.Common.{Ok, Err, refl, ap, sym, subst, ◌∙◌, arith, length-append}
use Rattle.cg_reading.specs.Bytes.{Class, has, Ends, Begins}
use Rattle.cg_reading.specs.Pieces.{Piece, Many}
use Rattle.cg_reading.specs.Readers.{Read, Reader, ◌>>=◌, many_from, many_at}
use Rattle.cg_reading.proofs.Laws.{kept, Agree, Agrees, Lawful, Outcome, Reads, Takes, behind, first_place, second_place, whole_text}
use Rattle.cg_reading.proofs.Laws.{begun_to, bind_sound, cond_agree, cond_sound, left, left_made, made_agree, outcome_left, taken_made, takes_none, then_agrees}
use Rattle.cg_reading.proofs.Sets.{apart, first_begins, next_ends, no_right}
use Rattle.cg_reading.proofs.Spelled.{then_is, then_none}

abbrev pub push_piece : {A : Type 0} → A → Read (List A) → Read (List A)
push_piece a x = x >>= λ ys. Ok (a ∷ ys.0, ys.1)

-- ---- any number of pieces

module _ {A : Type 0} (R : Piece A) (f : Reader A) (I F : Class) where
  -- what comes behind a piece
  abbrev more_at : ℕ → ℕ → A × List ℕ → Read (List A)
  more_at turns end x = push_piece x.0 (many_from I f turns end x.1)

  many_sound : Reads R f I false → (turns end i : ℕ) (bytes : List ℕ) → i + length bytes ≡ end → Outcome (Many R) i bytes (many_from I f turns end bytes)
  many_sound lf zero end i bytes n = takes_none refl
  many_sound lf (suc turns) end i [] n = takes_none refl
  many_sound lf (suc turns) end i (b ∷ bytes) n =
      cond_sound (Many R) i (b ∷ bytes) (f end (b ∷ bytes) >>= more_at turns end) (Ok ([], b ∷ bytes)) (has I b)
      (λ _. bind_sound R (Many R) i (b ∷ bytes) (f end (b ∷ bytes)) (more_at turns end) (lf.sound end i (b ∷ bytes) n)
      (λ a rest t. taken_made (Many R) t (Many R) (λ vs. a ∷ vs) (λ vs y is. then_is t.text y t.is is) (many_from I f turns end rest)
      (many_sound lf turns end (i + length t.text) rest (behind t ∙ n)))
      (λ m o. begun_to (Many R) (o.value ∷ []) o (then_none (o.taken ++ o.more) o.is refl)))
      (λ _. takes_none refl)

  pub some_length : (text : List ℕ) → Begins I false text → 0 < length text
  some_length [] b = absurd cc
  some_length (x ∷ text) b = omega arith

  -- a step of the readings of both bytes
  many_step : Reads R f I false → (turns rounds end last i : ℕ) (p : List ℕ) (c : ℕ) (q r : List ℕ) → i + length (p ++ c ∷ q) ≡ end → i + length (p ++ c ∷ r) ≡ last
      → ((j : ℕ) (s : List ℕ) → j + length (s ++ c ∷ q) ≡ end → j + length (s ++ c ∷ r) ≡ last → length s < length p
      → Agree c q r (many_from I f turns end (s ++ c ∷ q)) (many_from I f rounds last (s ++ c ∷ r)))
      → Agree c q r (f end (p ++ c ∷ q) >>= more_at turns end) (f last (p ++ c ∷ r) >>= more_at rounds last)
  many_step lf turns rounds end last i p c q r m n more =
      then_agrees lf (more_at turns) (more_at rounds) end last i p c q r m n (less turns end) (less rounds last) on
    where
      less : (k stop j : ℕ) (a : A) (s : List ℕ) → j + length s ≡ stop → left {A = List A} (more_at k stop (a, s)) ≤ length s
      less k stop j a s e =
          omega (arith, outcome_left (Many R) j s (many_from I f k stop s) (many_sound lf k stop j s e), left_made (many_from I f k stop s) (λ y. a ∷ y))

      on : (a : A) (s : List ℕ) (t : Takes R i (p ++ c ∷ q) a (s ++ c ∷ q)) → (i + length t.text) + length (s ++ c ∷ q) ≡ end
          → (i + length t.text) + length (s ++ c ∷ r) ≡ last → Agree c q r (more_at turns end (a, s ++ c ∷ q)) (more_at rounds last (a, s ++ c ∷ r))
      on a s t x y =
          let some = some_length t.text (lf.begins i a t.text t.is) in
          made_agree (λ y. a ∷ y) c q r (many_from I f turns end (s ++ c ∷ q)) (many_from I f rounds last (s ++ c ∷ r))
          (more (i + length t.text) s x y (omega (arith, behind t, some, length-append p (c ∷ q), length-append s (c ∷ q))))

  pub many_agree_from : Reads R f I false → (turns rounds end last i : ℕ) (p : List ℕ) (c : ℕ) (q r : List ℕ) → i + length (p ++ c ∷ q) ≡ end
      → i + length (p ++ c ∷ r) ≡ last → length p < turns → length p < rounds
      → Agree c q r (many_from I f turns end (p ++ c ∷ q)) (many_from I f rounds last (p ++ c ∷ r))
  many_agree_from lf zero rounds end last i p c q r m n u v = absurd (omega arith)
  many_agree_from lf (suc turns) zero end last i p c q r m n u v = absurd (omega arith)
  many_agree_from lf (suc turns) (suc rounds) end last i [] c q r m n u v =
      cond_agree c q r (f end (c ∷ q) >>= more_at turns end) (Ok ([], c ∷ q)) (f last (c ∷ r) >>= more_at rounds last) (Ok ([], c ∷ r)) (has I c)
      (many_step lf turns rounds end last i [] c q r m n (λ j s a b k. absurd (omega arith))) (kept [] [] refl refl)
  many_agree_from lf (suc turns) (suc rounds) end last i (b ∷ p) c q r m n u v =
      let x = b ∷ (p ++ c ∷ q) in
      let y = b ∷ (p ++ c ∷ r) in
      cond_agree c q r (f end x >>= more_at turns end) (Ok ([], x)) (f last y >>= more_at rounds last) (Ok ([], y)) (has I b)
      (many_step lf turns rounds end last i (b ∷ p) c q r m n (λ j s x y k. many_agree_from lf turns rounds end last j s c q r x y (omega arith) (omega arith)))
      (kept [] (b ∷ p) refl refl)

  pub many_agree : Reads R f I false → Agrees (many_at I f)
  many_agree lf end last i p c q r m n =
      many_agree_from lf (length (p ++ c ∷ q)) (length (p ++ c ∷ r)) end last i p c q r m n
      (omega (arith, length-append p (c ∷ q))) (omega (arith, length-append p (c ∷ r)))

  no_more : (turns end : ℕ) (rest : List ℕ) → Ends (F ++ I) rest → many_from I f turns end rest ≡ Ok ([], rest)
  no_more zero end rest h = refl
  no_more (suc turns) end [] h = refl
  no_more (suc turns) end (b ∷ rest) h = rw (no_right F I b h) refl

  -- what begins a text of the piece is taken as one
  pub takes_turn : (turns end : ℕ) (x rest : List ℕ) → Begins I false x → many_from I f (suc turns) end (x ++ rest) ≡ (f end (x ++ rest) >>= more_at turns end)
  takes_turn turns end [] rest b = absurd cc
  takes_turn turns end (v ∷ x) rest b = rw b refl

  pub many_begins : Reads R f I false → (i : ℕ) (vs : List A) (text : List ℕ) → Many R i vs text → Begins I true text
  many_begins lf i [] text is = subst (Begins I true) (sym is) refl
  many_begins lf i (a ∷ others) text is = subst (Begins I true) (sym is.spelled) (first_begins I is.before is.behind (lf.begins i a is.before is.first))

  many_again_from : Lawful R f I false F → apart I F ≡ true → (vs : List A) (turns end i : ℕ) (text rest : List ℕ) → Many R i vs text → Ends (F ++ I) rest
      → i + length (text ++ rest) ≡ end → length text ≤ turns → many_from I f turns end (text ++ rest) ≡ Ok (vs, rest)
  many_again_from lf a [] turns end i text rest is h n u = ap (λ (z : List ℕ). many_from I f turns end (z ++ rest)) is ∙ no_more turns end rest h
  many_again_from lf a (v ∷ others) turns end i text rest is h n u =
      let x = is.before in
      let y = is.behind in
      let b = lf.begins i v x is.first in
      let some = some_length x b in
      let size : length text ≡ length x + length y = ap length is.spelled ∙ length-append x y in
      let k : turns ≡ suc (turns - 1) = omega arith in
      let next : Ends F (y ++ rest) = next_ends I F I true y rest a (many_begins lf.reads (i + length x) others y is.second) h in
      ap (many_from I f turns end) (whole_text i end x y text rest is.spelled n)
      ∙ ap (λ (z : ℕ). many_from I f z end (x ++ (y ++ rest))) k ∙ takes_turn (turns - 1) end x (y ++ rest) b
      ∙ ap (λ z. z >>= more_at (turns - 1) end) (lf.again end i v x (y ++ rest) is.first next (first_place i end x y text rest is.spelled n))
      ∙ ap (push_piece v) (many_again_from lf a others (turns - 1) end (i + length x) y rest is.second h (second_place i end x y text rest is.spelled n) (omega arith))

  pub many_lawful : Lawful R f I false F → apart I F ≡ true → Lawful (Many R) (many_at I f) I true (F ++ I)
  many_lawful lf a = record {
    reads = record {
      sound = λ end i bytes n. many_sound lf.reads (length bytes) end i bytes n;
      agree = many_agree lf.reads;
      begins = many_begins lf.reads;
    };
    again = λ end i vs text rest is h n. many_again_from lf a vs (length (text ++ rest)) end i text rest is h n (omega (arith, length-append text rest));
  }

-- ---- pieces one after the other, by equations

module _ {A : Type 0} (R : Piece A) (f : Reader A) (I : Class) where
  -- a piece, and then what two readers of fewer bytes read the same
  same_more : Reads R f I false → (end i : ℕ) (bytes : List ℕ) (h k : List ℕ → Read (List A)) (x : Read A) → i + length bytes ≡ end → Outcome R i bytes x
      → ((j : ℕ) (rest : List ℕ) → j + length rest ≡ end → length rest < length bytes → h rest ≡ k rest)
      → (x >>= λ y. push_piece y.0 (h y.1)) ≡ (x >>= λ y. push_piece y.0 (k y.1))
  same_more lf end i bytes h k (Err m) n o same = refl
  same_more lf end i bytes h k (Ok y) n o same =
      let some = some_length R f I [] o.text (lf.begins i y.0 o.text o.is) in
      ap (push_piece y.0) (same (i + length o.text) y.1 (behind o ∙ n) (omega (arith, behind o, some)))

  many_turns : Reads R f I false → (turns rounds end i : ℕ) (bytes : List ℕ) → i + length bytes ≡ end → length bytes ≤ turns → length bytes ≤ rounds
      → many_from I f turns end bytes ≡ many_from I f rounds end bytes
  many_turns lf zero zero end i bytes n u v = refl
  many_turns lf zero (suc rounds) end i [] n u v = refl
  many_turns lf zero (suc rounds) end i (b ∷ bytes) n u v = absurd (omega arith)
  many_turns lf (suc turns) zero end i [] n u v = refl
  many_turns lf (suc turns) zero end i (b ∷ bytes) n u v = absurd (omega arith)
  many_turns lf (suc turns) (suc rounds) end i [] n u v = refl
  many_turns lf (suc turns) (suc rounds) end i (b ∷ bytes) n u v =
      ap (λ (z : Read (List A)). cond (has I b) z (Ok ([], b ∷ bytes)))
      (same_more lf end i (b ∷ bytes) (many_from I f turns end) (many_from I f rounds end) (f end (b ∷ bytes)) n (lf.sound end i (b ∷ bytes) n)
      (λ j rest m k. many_turns lf turns rounds end j rest m (omega arith) (omega arith)))

  pub many_next : Reads R f I false → (end i b : ℕ) (bytes : List ℕ) → i + length (b ∷ bytes) ≡ end → has I b ≡ true
      → many_at I f end (b ∷ bytes) ≡ (f end (b ∷ bytes) >>= λ y. push_piece y.0 (many_at I f end y.1))
  many_next lf end i b bytes n h =
      ap (λ (t : Bool). cond t (f end (b ∷ bytes) >>= λ y. push_piece y.0 (many_from I f (length bytes) end y.1)) (Ok ([], b ∷ bytes))) h
      ∙ same_more lf end i (b ∷ bytes) (many_from I f (length bytes) end) (many_at I f end) (f end (b ∷ bytes)) n (lf.sound end i (b ∷ bytes) n)
      (λ j rest m k. many_turns lf (length bytes) (length rest) end j rest m (omega arith) (omega arith))

  pub many_end : (end b : ℕ) (bytes : List ℕ) → has I b ≡ false → many_at I f end (b ∷ bytes) ≡ Ok ([], b ∷ bytes)
  many_end end b bytes h = rw h refl
