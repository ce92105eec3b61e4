-- One piece and then another, either of two, a function of one, nothing, and the column where a piece starts.
use Rattle.std.proofs.Common.{◌≡◌, ℕ, ◌+◌, ◌-◌, ◌≤◌, ◌⊎◌, inl, inr, Bool, true, false, ◌&&◌, cond, List, [], ◌∷◌, ◌++◌}
use Rattle.std.proofs.Common.{length, Ok, Err, refl, sym, subst, ◌∙◌, arith}
use Rattle.cg_reading.specs.Bytes.{Class, has, Begins}
use Rattle.cg_reading.specs.Pieces.{Piece, Then, Or, Made, Nothing, Placed}
use Rattle.cg_reading.specs.Readers.{Read, Reader, ◌>>=◌, then_at, or_at, made_at, nothing_at, placed_at}
use Rattle.cg_reading.proofs.Laws.{kept, Agree, Agrees, Alive, Lawful, Outcome, Reads, Some_text, Sound, Takes, behind}
use Rattle.cg_reading.proofs.Laws.{begun_on, begun_to, takes_none, takes_to, taken_made, then_agrees}
use Rattle.cg_reading.proofs.Laws.{bind_sound, cond_agree, cond_sound, left, left_made, made_agree, made_sound, outcome_left, said_sound}
use Rattle.cg_reading.proofs.Sets.{both_begin, has_left, has_right}
use Rattle.cg_reading.proofs.Spelled.{made_is, then_is}

-- ---- one piece and then another

module _ {A B : Type 0} (R : Piece A) (S : Piece B) (f : Reader A) (g : Reader B) (I J : Class) (d e : Bool) (F G : Class) where
  abbrev pub second_at : ℕ → A × List ℕ → Read (A × B)
  second_at end x = g end x.1 >>= λ y. Ok ((x.0, y.0), y.1)

  pub then_sound : Reads R f I d → Reads S g J e → ((j : ℕ) → Some_text S j) → Sound (Then R S) (then_at f g)
  then_sound lf lg w end i bytes n = bind_sound R (Then R S) i bytes (f end bytes) (second_at end) (lf.sound end i bytes n) ok err
    where
      ok : (a : A) (rest : List ℕ) → Takes R i bytes a rest → Outcome (Then R S) i bytes (second_at end (a, rest))
      ok a rest t =
          taken_made S t (Then R S) (λ b. (a, b)) (λ b y is. then_is t.text y t.is is) (g end rest)
          (lg.sound end (i + length t.text) rest (behind t ∙ n))

      err : (m : ℕ) → Alive R i bytes m → Alive (Then R S) i bytes m
      err m o =
          let v = w (i + length (o.taken ++ o.more)) in
          begun_on (Then R S) (o.value, v.value) o v.text (then_is (o.taken ++ o.more) v.text o.is v.is)

  pub then_agree : Reads R f I d → Reads S g J e → Agrees (then_at f g)
  then_agree lf lg end last i p c q r m n =
      then_agrees lf second_at second_at end last i p c q r m n (less end) (less last)
      (λ a s t x y. made_agree {B = A × B} (λ b. (a, b)) c q r (g end (s ++ c ∷ q)) (g last (s ++ c ∷ r)) (lg.agree end last (i + length t.text) s c q r x y))
    where
      less : (stop j : ℕ) (a : A) (s : List ℕ) → j + length s ≡ stop → left {A = A × B} (second_at stop (a, s)) ≤ length s
      less stop j a s n = omega (arith, outcome_left S j s (g stop s) (lg.sound stop j s n), left_made {B = A × B} (g stop s) (λ y. (a, y)))

  pub then_begins : Reads R f I d → Reads S g J e → (i : ℕ) (v : A × B) (x y text : List ℕ) → R i v.0 x → S (i + length x) v.1 y → text ≡ x ++ y
      → Begins (cond d (I ++ J) I) (d && e) text
  then_begins lf lg i v x y text first second spelled =
      subst (Begins (cond d (I ++ J) I) (d && e)) (sym spelled) (both_begin I J d e x y (lf.begins i v.0 x first) (lg.begins (i + length x) v.1 y second))

  pub then_reads : Reads R f I d → Reads S g J e → ((j : ℕ) → Some_text S j) → Reads (Then R S) (then_at f g) (cond d (I ++ J) I) (d && e)
  then_reads lf lg w = record {
    sound = then_sound lf lg w;
    agree = then_agree lf lg;
    begins = λ i v text is. then_begins lf lg i v is.before is.behind text is.first is.second is.spelled;
  }

-- ---- either piece

module _ {A : Type 0} (R S : Piece A) (f g : Reader A) (I J : Class) (e : Bool) (F G : Class) where
  pub or_sound : Reads R f I false → Reads S g J e → Sound (Or R S) (or_at I f g)
  or_sound lf lg end i [] n = said_sound S (Or R S) i [] (g end []) (λ a text is. inr is) (lg.sound end i [] n)
  or_sound lf lg end i (b ∷ bytes) n =
      cond_sound (Or R S) i (b ∷ bytes) (f end (b ∷ bytes)) (g end (b ∷ bytes)) (has I b)
      (λ _. said_sound R (Or R S) i (b ∷ bytes) (f end (b ∷ bytes)) (λ a text is. inl is) (lf.sound end i (b ∷ bytes) n))
      (λ _. said_sound S (Or R S) i (b ∷ bytes) (g end (b ∷ bytes)) (λ a text is. inr is) (lg.sound end i (b ∷ bytes) n))

  pub or_agree : Reads R f I false → Reads S g J e → Agrees (or_at I f g)
  or_agree lf lg end last i [] c q r m n =
      cond_agree c q r (f end (c ∷ q)) (g end (c ∷ q)) (f last (c ∷ r)) (g last (c ∷ r)) (has I c)
      (lf.agree end last i [] c q r m n) (lg.agree end last i [] c q r m n)
  or_agree lf lg end last i (b ∷ p) c q r m n =
      let x = b ∷ (p ++ c ∷ q) in
      let y = b ∷ (p ++ c ∷ r) in
      cond_agree c q r (f end x) (g end x) (f last y) (g last y) (has I b)
      (lf.agree end last i (b ∷ p) c q r m n) (lg.agree end last i (b ∷ p) c q r m n)

  either_begins : (text : List ℕ) → (Begins I false text) ⊎ (Begins J e text) → Begins (I ++ J) e text
  either_begins [] (inl b) = absurd cc
  either_begins [] (inr b) = b
  either_begins (x ∷ text) (inl b) = has_left I J x b
  either_begins (x ∷ text) (inr b) = has_right I J x b

  pub or_begins : Reads R f I false → Reads S g J e → (i : ℕ) (a : A) (text : List ℕ) → Or R S i a text → Begins (I ++ J) e text
  or_begins lf lg i a text (inl is) = either_begins text (inl (lf.begins i a text is))
  or_begins lf lg i a text (inr is) = either_begins text (inr (lg.begins i a text is))

  pub or_reads : Reads R f I false → Reads S g J e → Reads (Or R S) (or_at I f g) (I ++ J) e
  or_reads lf lg = record { sound = or_sound lf lg; agree = or_agree lf lg; begins = or_begins lf lg }

-- ---- a function of the value

module _ {A B : Type 0} (h : A → B) (R : Piece A) (f : Reader A) (I : Class) (e : Bool) (F : Class) where
  pub made_reads : Reads R f I e → Reads (Made h R) (made_at h f) I e
  made_reads lf = record {
    sound = λ end i bytes n. made_sound R (Made h R) h i bytes (f end bytes) (λ a text is. made_is a is) (lf.sound end i bytes n);
    agree = λ end last i p c q r m n. made_agree h c q r (f end (p ++ c ∷ q)) (f last (p ++ c ∷ r)) (lf.agree end last i p c q r m n);
    begins = λ i b text is. lf.begins i is.made_of text is.is;
  }

-- ---- nothing

pub nothing_lawful : {A : Type 0} (v : A) → Lawful (Nothing v) (nothing_at v) [] true []
nothing_lawful v = record {
  reads = record {
    sound = λ end i bytes n. takes_none (refl, refl);
    agree = λ end last i p c q r m n. kept v p refl refl;
    begins = λ i a text is. subst (Begins [] true) (sym is.1) refl;
  };
  again = λ end i a text rest is h n. rw (is.0, is.1) refl;
}

-- ---- the column where a piece starts

module _ {A : Type 0} (R : Piece A) (f : Reader A) (I : Class) (e : Bool) (F : Class) where
  placed_sound : (i j : ℕ) (bytes : List ℕ) (x : Read A) → j ≡ i → Outcome R i bytes x → Outcome (Placed R) i bytes (x >>= λ v. Ok ((j, v.0), v.1))
  placed_sound i j bytes (Ok v) h o = takes_to (Placed R) (j, v.0) o (h, o.is)
  placed_sound i j bytes (Err n) h o = begun_to (Placed R) (i, o.value) o (refl, o.is)

  placed_agree : Reads R f I e → Agrees (placed_at f)
  placed_agree lf end last i p c q r m n =
      let j : last - length (p ++ c ∷ r) ≡ i = omega arith in
      let k : end - length (p ++ c ∷ q) ≡ i = omega arith in
      let x = f end (p ++ c ∷ q) in
      let y = f last (p ++ c ∷ r) in
      subst (λ (z : ℕ). Agree {A = ℕ × A} c q r (placed_at f end (p ++ c ∷ q)) (y >>= λ v. Ok ((z, v.0), v.1))) (sym j)
      (subst (λ (z : ℕ). Agree {A = ℕ × A} c q r (x >>= λ v. Ok ((z, v.0), v.1)) (y >>= λ v. Ok ((i, v.0), v.1))) (sym k)
      (made_agree {B = ℕ × A} (λ a. (i, a)) c q r x y (lf.agree end last i p c q r m n)))

  pub placed_reads : Reads R f I e → Reads (Placed R) (placed_at f) I e
  placed_reads lf = record {
    sound = λ end i bytes n. placed_sound i (end - length bytes) bytes (f end bytes) (omega arith) (lf.sound end i bytes n);
    agree = placed_agree lf;
    begins = λ i v text is. lf.begins i v.1 text is.1;
  }
