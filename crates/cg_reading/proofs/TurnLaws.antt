-- Pieces of one kind and then pieces of another are read, piece by piece.
use Rattle.std.proofs.Common.{◌≡◌, ℕ, zero, suc, ◌+◌, ◌-◌, ◌<◌, ◌≤◌, ◌⊎◌, inl, inr, true, false, List, [], ◌∷◌, ◌++◌}
use Rattle.std.proofs.Common.{length, Ok, refl, ap, sym, subst, ◌∙◌, append_assoc, arith, length-append}
use Rattle.cg_reading.specs.Bytes.{Class, has, Ends, Begins}
use Rattle.cg_reading.specs.Pieces.{Piece, Split, Then, Many}
use Rattle.cg_reading.specs.Readers.{Read, Reader, ◌>>=◌}
use Rattle.cg_reading.proofs.Laws.{kept, Agree, Lawful, Outcome, Reads, Takes, behind, first_place, second_place, whole_text}
use Rattle.cg_reading.proofs.Laws.{begun_to, bind_sound, cond_agree, cond_sound, left, left_made, made_agree, outcome_left, taken_made, takes_none, then_agrees}
use Rattle.cg_reading.proofs.Sets.{apart, first_begins, next_ends, no_right}
use Rattle.cg_reading.proofs.Spelled.{then_as, then_is, then_none}
use Rattle.cg_reading.proofs.Many.{some_length}
use Rattle.cg_reading.specs.Turns.{Either, by_kind, one_first, one_second, turns_from, turns_at}

module _ {A B : Type 0} (R : Piece A) (S : Piece B) where
  -- any number of pieces of the first kind, and then any number of the second
  abbrev pub Turned : ℕ → List A → List B → List ℕ → Type 0
  Turned i [] bs text = Many S i bs text
  Turned i (a ∷ others) bs text = Split (R i a) (λ n y. Turned (i + n) others bs y) text

  abbrev pub Turns : Piece (List A × List B)
  Turns i v text = Turned i v.0 v.1 text

module _ {A B : Type 0} (R : Piece A) (S : Piece B) (f : Reader (A ⊎ B)) (g : Reader (List B)) (I F : Class) where
  abbrev turn : ℕ → ℕ → (A ⊎ B) × List ℕ → Read (List A × List B)
  turn turns end x = by_kind (λ a. one_first a (turns_from I f g turns end x.1)) (λ s. one_second s (g end x.1)) x.0

  -- a piece that was begun is the last one
  last_of : A ⊎ B → List A × List B
  last_of (inl a) = (a ∷ [], [])
  last_of (inr b) = ([], b ∷ [])

  last_is : (i : ℕ) (v : A ⊎ B) (text : List ℕ) → Either R S i v text → Turns R S i (last_of v) text
  unfolding last_of
  last_is i (inl a) text is = then_none text is refl
  last_is i (inr b) text is = then_none text is refl

  turn_sound : Reads (Many S) g I true → (turns end i : ℕ) (bytes : List ℕ) → i + length bytes ≡ end
      → ((j : ℕ) (rest : List ℕ) → j + length rest ≡ end → Outcome (Turns R S) j rest (turns_from I f g turns end rest))
      → (v : A ⊎ B) (rest : List ℕ) → Takes (Either R S) i bytes v rest → Outcome (Turns R S) i bytes (turn turns end (v, rest))
  turn_sound lg turns end i bytes n more (inl a) rest t =
      taken_made (Turns R S) t (Turns R S) (λ v. (a ∷ v.0, v.1)) (λ v y is. then_is t.text y t.is is) (turns_from I f g turns end rest)
      (more (i + length t.text) rest (behind t ∙ n))
  turn_sound lg turns end i bytes n more (inr b) rest t =
      taken_made (Many S) t (Turns R S) (λ v. ([], b ∷ v)) (λ v y is. then_is t.text y t.is is) (g end rest)
      (lg.sound end (i + length t.text) rest (behind t ∙ n))

  turns_sound : Reads (Either R S) f I false → Reads (Many S) g I true → (turns end i : ℕ) (bytes : List ℕ) → i + length bytes ≡ end
      → Outcome (Turns R S) i bytes (turns_from I f g turns end bytes)
  turns_sound lf lg zero end i bytes n = takes_none refl
  turns_sound lf lg (suc turns) end i [] n = takes_none refl
  turns_sound lf lg (suc turns) end i (b ∷ bytes) n =
      cond_sound (Turns R S) i (b ∷ bytes) (f end (b ∷ bytes) >>= turn turns end) (Ok (([], []), b ∷ bytes)) (has I b)
      (λ _. bind_sound (Either R S) (Turns R S) i (b ∷ bytes) (f end (b ∷ bytes)) (turn turns end) (lf.sound end i (b ∷ bytes) n)
      (turn_sound lg turns end i (b ∷ bytes) n (turns_sound lf lg turns end))
      (λ m o. begun_to (Turns R S) (last_of o.value) o (last_is i o.value (o.taken ++ o.more) o.is)))
      (λ _. takes_none refl)

  -- a step of the readings of both bytes
  turns_step : Reads (Either R S) f I false → Reads (Many S) g I true → (turns rounds end last i : ℕ) (p : List ℕ) (c : ℕ) (q r : List ℕ)
      → i + length (p ++ c ∷ q) ≡ end → i + length (p ++ c ∷ r) ≡ last
      → ((j : ℕ) (s : List ℕ) → j + length (s ++ c ∷ q) ≡ end → j + length (s ++ c ∷ r) ≡ last → length s < length p
      → Agree c q r (turns_from I f g turns end (s ++ c ∷ q)) (turns_from I f g rounds last (s ++ c ∷ r)))
      → Agree c q r (f end (p ++ c ∷ q) >>= turn turns end) (f last (p ++ c ∷ r) >>= turn rounds last)
  turns_step lf lg turns rounds end last i p c q r m n more =
      then_agrees lf (turn turns) (turn rounds) end last i p c q r m n (less turns end) (less rounds last) on
    where
      less : (k stop j : ℕ) (v : A ⊎ B) (s : List ℕ) → j + length s ≡ stop → left {A = List A × List B} (turn k stop (v, s)) ≤ length s
      less k stop j (inl a) s e =
          omega (
            arith,
            outcome_left (Turns R S) j s (turns_from I f g k stop s) (turns_sound lf lg k stop j s e),
            left_made {B = List A × List B} (turns_from I f g k stop s) (λ y. (a ∷ y.0, y.1)),
          )
      less k stop j (inr b) s e =
          omega (arith, outcome_left (Many S) j s (g stop s) (lg.sound stop j s e), left_made {B = List A × List B} (g stop s) (λ y. ([], b ∷ y)))

      on : (v : A ⊎ B) (s : List ℕ) (t : Takes (Either R S) i (p ++ c ∷ q) v (s ++ c ∷ q)) → (i + length t.text) + length (s ++ c ∷ q) ≡ end
          → (i + length t.text) + length (s ++ c ∷ r) ≡ last → Agree c q r (turn turns end (v, s ++ c ∷ q)) (turn rounds last (v, s ++ c ∷ r))
      on (inl a) s t x y =
          let some = some_length (Either R S) f I F t.text (lf.begins i (inl a) t.text t.is) in
          made_agree {B = List A × List B} (λ y. (a ∷ y.0, y.1)) c q r (turns_from I f g turns end (s ++ c ∷ q)) (turns_from I f g rounds last (s ++ c ∷ r))
          (more (i + length t.text) s x y (omega (arith, behind t, some, length-append p (c ∷ q), length-append s (c ∷ q))))
      on (inr d) s t x y =
          made_agree {B = List A × List B} (λ y. ([], d ∷ y)) c q r (g end (s ++ c ∷ q)) (g last (s ++ c ∷ r))
          (lg.agree end last (i + length t.text) s c q r x y)

  turns_agree : Reads (Either R S) f I false → Reads (Many S) g I true → (turns rounds end last i : ℕ) (p : List ℕ) (c : ℕ) (q r : List ℕ)
      → i + length (p ++ c ∷ q) ≡ end → i + length (p ++ c ∷ r) ≡ last → length p < turns → length p < rounds
      → Agree c q r (turns_from I f g turns end (p ++ c ∷ q)) (turns_from I f g rounds last (p ++ c ∷ r))
  turns_agree lf lg zero rounds end last i p c q r m n u v = absurd (omega arith)
  turns_agree lf lg (suc turns) zero end last i p c q r m n u v = absurd (omega arith)
  turns_agree lf lg (suc turns) (suc rounds) end last i [] c q r m n u v =
      cond_agree c q r (f end (c ∷ q) >>= turn turns end) (Ok (([], []), c ∷ q)) (f last (c ∷ r) >>= turn rounds last) (Ok (([], []), c ∷ r)) (has I c)
      (turns_step lf lg turns rounds end last i [] c q r m n (λ j s a b k. absurd (omega arith))) (kept ([], []) [] refl refl)
  turns_agree lf lg (suc turns) (suc rounds) end last i (b ∷ p) c q r m n u v =
      let x = b ∷ (p ++ c ∷ q) in
      let y = b ∷ (p ++ c ∷ r) in
      cond_agree c q r (f end x >>= turn turns end) (Ok (([], []), x)) (f last y >>= turn rounds last) (Ok (([], []), y)) (has I b)
      (turns_step lf lg turns rounds end last i (b ∷ p) c q r m n
      (λ j s x y k. turns_agree lf lg turns rounds end last j s c q r x y (omega arith) (omega arith)))
      (kept ([], []) (b ∷ p) refl refl)

  turned_begins : Reads (Either R S) f I false → Reads (Many S) g I true → (i : ℕ) (vs : List A) (bs : List B) (text : List ℕ) → Turned R S i vs bs text → Begins I true text
  turned_begins lf lg i [] bs text is = lg.begins i bs text is
  turned_begins lf lg i (a ∷ others) bs text is = subst (Begins I true) (sym is.spelled) (first_begins I is.before is.behind (lf.begins i (inl a) is.before is.first))

  no_turn : (turns end : ℕ) (rest : List ℕ) → Ends (F ++ I) rest → turns_from I f g turns end rest ≡ Ok (([], []), rest)
  no_turn zero end rest h = refl
  no_turn (suc turns) end [] h = refl
  no_turn (suc turns) end (b ∷ rest) h = rw (no_right F I b h) refl

  takes_turn : (turns end : ℕ) (x rest : List ℕ) → Begins I false x → turns_from I f g (suc turns) end (x ++ rest) ≡ (f end (x ++ rest) >>= turn turns end)
  takes_turn turns end [] rest b = absurd cc
  takes_turn turns end (v ∷ x) rest b = rw b refl

  -- a text of either kind is read as a turn
  turn_again : Lawful (Either R S) f I false F → apart I F ≡ true → (v : A ⊎ B) (turns end i : ℕ) (x y rest : List ℕ) → Either R S i v x → Begins I true y
      → Ends (F ++ I) rest → i + length (x ++ (y ++ rest)) ≡ end → length x ≤ turns
      → turns_from I f g turns end (x ++ (y ++ rest)) ≡ turn (turns - 1) end (v, y ++ rest)
  turn_again lf a v turns end i x y rest is next h m u =
      let b = lf.begins i v x is in
      let some = some_length (Either R S) f I F x b in
      let k : turns ≡ suc (turns - 1) = omega arith in
      ap (λ (z : ℕ). turns_from I f g z end (x ++ (y ++ rest))) k ∙ takes_turn (turns - 1) end x (y ++ rest) b
      ∙ ap (λ z. z >>= turn (turns - 1) end) (lf.again end i v x (y ++ rest) is (next_ends I F I true y rest a next h) m)

  turns_again : Lawful (Either R S) f I false F → Lawful (Many S) g I true (F ++ I) → apart I F ≡ true → (vs : List A) (bs : List B) (turns end i : ℕ)
      (text rest : List ℕ) → Turned R S i vs bs text → Ends (F ++ I) rest → i + length (text ++ rest) ≡ end → length text ≤ turns
      → turns_from I f g turns end (text ++ rest) ≡ Ok ((vs, bs), rest)
  turns_again lf lg a [] [] turns end i text rest is h n u = ap (λ (z : List ℕ). turns_from I f g turns end (z ++ rest)) is ∙ no_turn turns end rest h
  turns_again lf lg a [] (d ∷ bs) turns end i text rest is h n u =
      let x = is.before in
      let y = is.behind in
      let m = first_place i end x y text rest is.spelled n in
      let size : length text ≡ length x + length y = ap length is.spelled ∙ length-append x y in
      ap (turns_from I f g turns end) (whole_text i end x y text rest is.spelled n)
      ∙ turn_again lf a (inr d) turns end i x y rest is.first (lg.begins (i + length x) bs y is.second) h m (omega arith)
      ∙ ap (one_second {A = A} d) (lg.again end (i + length x) bs y rest is.second h (second_place i end x y text rest is.spelled n))
  turns_again lf lg a (v ∷ others) bs turns end i text rest is h n u =
      let x = is.before in
      let y = is.behind in
      let m = first_place i end x y text rest is.spelled n in
      let some = some_length (Either R S) f I F x (lf.begins i (inl v) x is.first) in
      let size : length text ≡ length x + length y = ap length is.spelled ∙ length-append x y in
      let next = turned_begins lf.reads lg.reads (i + length x) others bs y is.second in
      ap (turns_from I f g turns end) (whole_text i end x y text rest is.spelled n)
      ∙ turn_again lf a (inl v) turns end i x y rest is.first next h m (omega arith)
      ∙ ap (one_first v) (turns_again lf lg a others bs (turns - 1) end (i + length x) y rest is.second h (second_place i end x y text rest is.spelled n) (omega arith))

  pub turns_lawful : Lawful (Either R S) f I false F → Lawful (Many S) g I true (F ++ I) → apart I F ≡ true → Lawful (Turns R S) (turns_at I f g) I true (F ++ I)
  turns_lawful lf lg a = record {
    reads = record {
      sound = λ end i bytes n. turns_sound lf.reads lg.reads (length bytes) end i bytes n;
      agree = λ end last i p c q r m n.
          turns_agree lf.reads lg.reads (length (p ++ c ∷ q)) (length (p ++ c ∷ r)) end last i p c q r m n
          (omega (arith, length-append p (c ∷ q))) (omega (arith, length-append p (c ∷ r)));
      begins = λ i v text is. turned_begins lf.reads lg.reads i v.0 v.1 text is;
    };
    again = λ end i v text rest is h n.
        turns_again lf lg a v.0 v.1 (length (text ++ rest)) end i text rest is h n (omega (arith, length-append text rest));
  }

-- ---- the same, as any number of pieces of the one kind and then any number of the other

module _ {A B : Type 0} (R : Piece A) (S : Piece B) where
  pub to_turned : (i : ℕ) (vs : List A) (bs : List B) (text : List ℕ) → Then (Many R) (Many S) i (vs, bs) text → Turned R S i vs bs text
  to_turned i [] bs text is =
      let none : is.before ≡ [] = is.first in
      let at : i + length is.before ≡ i = omega (arith, ap length none) in
      subst (Many S i bs) (sym (is.spelled ∙ ap (λ (z : List ℕ). z ++ is.behind) none)) (subst (λ (j : ℕ). Many S j bs is.behind) at is.second)
  to_turned i (a ∷ others) bs text is =
      let f = is.first in
      let at : i + length is.before ≡ (i + length f.before) + length f.behind = omega (arith, ap length f.spelled, length-append f.before f.behind) in
      then_as f.before (f.behind ++ is.behind) f.first
      (to_turned (i + length f.before) others bs (f.behind ++ is.behind)
      (then_is f.behind is.behind f.second (subst (λ (j : ℕ). Many S j bs is.behind) at is.second)))
      (is.spelled ∙ ap (λ (z : List ℕ). z ++ is.behind) f.spelled ∙ append_assoc f.before f.behind is.behind)

  pub from_turned : (i : ℕ) (vs : List A) (bs : List B) (text : List ℕ) → Turned R S i vs bs text → Then (Many R) (Many S) i (vs, bs) text
  from_turned i [] bs text is = then_is [] text refl (subst (λ (j : ℕ). Many S j bs text) (let e : i ≡ i + 0 = omega arith in e) is)
  from_turned i (a ∷ others) bs text is =
      let w = from_turned (i + length is.before) others bs is.behind is.second in
      let at : (i + length is.before) + length w.before ≡ i + length (is.before ++ w.before) = omega (arith, length-append is.before w.before) in
      then_as (is.before ++ w.before) w.behind (then_is is.before w.before is.first w.first) (subst (λ (j : ℕ). Many S j bs w.behind) at w.second)
      (is.spelled ∙ ap (λ (z : List ℕ). is.before ++ z) w.spelled ∙ sym (append_assoc is.before w.before w.behind))
