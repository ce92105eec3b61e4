-- What holds of a reader of a piece.
use Rattle.std.proofs.Common.{◌≡◌, ℕ, suc, ◌+◌, ◌≤◌, Bool, true, false, cond, List, [], ◌∷◌, ◌++◌, length, Ok, Err}
use Rattle.std.proofs.Common.{refl, ap, sym, subst, ◌∙◌, arith, length-append, append_assoc}
use Rattle.cg_reading.specs.Bytes.{Class, Ends, Begins}
use Rattle.cg_reading.specs.Pieces.{Piece}
use Rattle.cg_reading.specs.Readers.{Read, Reader, ◌>>=◌}

-- how many bytes are left where reading stopped
abbrev pub left : {A : Type 0} → Read A → ℕ
left (Ok x) = length x.1
left (Err n) = n

-- a text of the piece was taken off the bytes
pub record Takes {A : Type 0} (R : Piece A) (i : ℕ) (bytes : List ℕ) (a : A) (rest : List ℕ) : Type 0 where
  pub text : List ℕ
  pub is : R i a text
  pub split : bytes ≡ text ++ rest

-- what was taken before the fault can be completed to a text of the piece
pub record Alive {A : Type 0} (R : Piece A) (i : ℕ) (bytes : List ℕ) (n : ℕ) : Type 0 where
  pub taken : List ℕ
  pub rest : List ℕ
  pub more : List ℕ
  pub value : A
  pub is : R i value (taken ++ more)
  pub split : bytes ≡ taken ++ rest
  pub stuck : length rest ≡ n

abbrev pub Outcome : {A : Type 0} → Piece A → ℕ → List ℕ → Read A → Type 0
Outcome R i bytes (Ok x) = Takes R i bytes x.0 x.1
Outcome R i bytes (Err n) = Alive R i bytes n

-- Two readings of bytes that are the same up to and with the byte c: both stopped before it or at it, at one place, or both went on behind it.
pub data Agree {A : Type 0} (c : ℕ) (q r : List ℕ) (x y : Read A) : Type 0 where
  kept : (a : A) (s : List ℕ) → x ≡ Ok (a, s ++ c ∷ q) → y ≡ Ok (a, s ++ c ∷ r) → Agree c q r x y
  stuck : (n : ℕ) → x ≡ Err (n + suc (length q)) → y ≡ Err (n + suc (length r)) → Agree c q r x y
  past : left x ≤ length q → left y ≤ length r → Agree c q r x y

-- the readings of bytes that are the same up to and with a byte
abbrev pub Agrees : {A : Type 0} → Reader A → Type 0
Agrees f = (end last i : ℕ) (p : List ℕ) (c : ℕ) (q r : List ℕ) → i + length (p ++ c ∷ q) ≡ end → i + length (p ++ c ∷ r) ≡ last
    → Agree c q r (f end (p ++ c ∷ q)) (f last (p ++ c ∷ r))

abbrev pub Sound : {A : Type 0} → Piece A → Reader A → Type 0
Sound R f = (end i : ℕ) (bytes : List ℕ) → i + length bytes ≡ end → Outcome R i bytes (f end bytes)

-- each text of the piece is read, where this holds of what comes behind it
abbrev pub Again : {A : Type 0} → Piece A → Reader A → (A → List ℕ → Type 0) → Type 0
Again {A} R f Q = (end i : ℕ) (a : A) (text rest : List ℕ) → R i a text → Q a rest → i + length (text ++ rest) ≡ end
    → f end (text ++ rest) ≡ Ok (a, rest)

-- A reader of a piece whose texts begin with a byte of the set, or are empty where the flag says so.
pub record Reads {A : Type 0} (R : Piece A) (f : Reader A) (begin : Class) (empty : Bool) : Type 0 where
  -- what is read is a text of the piece, and what was taken before a fault can be completed to one
  pub sound : Sound R f
  -- only the bytes up to the one at which it stops decide where it stops
  pub agree : Agrees f
  -- what a text of the piece begins with
  pub begins : (i : ℕ) (a : A) (text : List ℕ) → R i a text → Begins begin empty text

-- A text of the piece is read, where no byte of the set comes behind it.
pub record Lawful {A : Type 0} (R : Piece A) (f : Reader A) (begin : Class) (empty : Bool) (follow : Class) : Type 0 where
  pub reads : Reads R f begin empty
  pub open reads use *
  pub again : Again R f (λ _ rest. Ends follow rest)

-- some text of the piece
pub record Some_text {A : Type 0} (R : Piece A) (i : ℕ) : Type 0 where
  pub value : A
  pub text : List ℕ
  pub is : R i value text

-- ---- what was taken

module _ {A : Type 0} {R : Piece A} {i : ℕ} {bytes : List ℕ} where
  pub takes_as : {rest : List ℕ} {a : A} (text : List ℕ) → R i a text → bytes ≡ text ++ rest → Takes R i bytes a rest
  takes_as text is split = record { text = text; is = is; split = split }

  pub takes_none : {a : A} → R i a [] → Takes R i bytes a bytes
  takes_none is = takes_as [] is refl

  pub begun_as : {n : ℕ} (taken rest more : List ℕ) (a : A) → R i a (taken ++ more) → bytes ≡ taken ++ rest → length rest ≡ n → Alive R i bytes n
  begun_as taken rest more a is split size =
      record { taken = taken; rest = rest; more = more; value = a; is = is; split = split; stuck = size }

  -- nothing was taken
  pub begun_none : (more : List ℕ) (a : A) → R i a more → Alive R i bytes (length bytes)
  begun_none more a is = begun_as [] bytes more a is refl refl

-- the same text is one of another piece
module _ {A B : Type 0} {R : Piece A} {i : ℕ} {bytes : List ℕ} (T : Piece B) where
  pub takes_to : {rest : List ℕ} {a : A} (b : B) (t : Takes R i bytes a rest) → T i b t.text → Takes T i bytes b rest
  takes_to b t is = takes_as t.text is t.split

  pub begun_to : {n : ℕ} (b : B) (o : Alive R i bytes n) → T i b (o.taken ++ o.more) → Alive T i bytes n
  begun_to b o is = begun_as o.taken o.rest o.more b is o.split o.stuck

  -- more can come behind it
  pub begun_on : {n : ℕ} (b : B) (o : Alive R i bytes n) (z : List ℕ) → T i b ((o.taken ++ o.more) ++ z) → Alive T i bytes n
  begun_on b o z is = begun_as o.taken o.rest (o.more ++ z) b (subst (T i b) (append_assoc o.taken o.more z) is) o.split o.stuck

pub joined : {bytes rest : List ℕ} (x y s : List ℕ) → bytes ≡ x ++ rest → rest ≡ y ++ s → bytes ≡ (x ++ y) ++ s
joined x y s e f = e ∙ ap (λ (z : List ℕ). x ++ z) f ∙ sym (append_assoc x y s)

-- ---- readings one after the other

pub left_made : {A B : Type 0} (x : Read A) (h : A → B) → left (x >>= λ v. Ok (h v.0, v.1)) ≡ left x
left_made (Ok v) h = refl
left_made (Err n) h = refl

pub outcome_left : {A : Type 0} (R : Piece A) (i : ℕ) (bytes : List ℕ) (x : Read A) → Outcome R i bytes x → left x ≤ length bytes
outcome_left R i bytes (Ok x) t = let e = ap length t.split in omega (arith, e, length-append t.text x.1)
outcome_left R i bytes (Err n) t = let e = ap length t.split in omega (arith, e, length-append t.taken t.rest, t.stuck)

pub bind_sound : {A B : Type 0} (R : Piece A) (T : Piece B) (i : ℕ) (bytes : List ℕ) (x : Read A) (k : A × List ℕ → Read B) → Outcome R i bytes x
    → ((a : A) (rest : List ℕ) → Takes R i bytes a rest → Outcome T i bytes (k (a, rest))) → ((n : ℕ) → Alive R i bytes n → Alive T i bytes n)
    → Outcome T i bytes (x >>= k)
bind_sound R T i bytes (Ok v) k o ok err = ok v.0 v.1 o
bind_sound R T i bytes (Err n) k o ok err = err n o

pub said_sound : {A : Type 0} (R S : Piece A) (i : ℕ) (bytes : List ℕ) (x : Read A) → ((a : A) (text : List ℕ) → R i a text → S i a text)
    → Outcome R i bytes x → Outcome S i bytes x
said_sound R S i bytes (Ok v) to o = takes_to S v.0 o (to v.0 o.text o.is)
said_sound R S i bytes (Err m) to o = begun_to S o.value o (to o.value (o.taken ++ o.more) o.is)

pub made_sound : {A B : Type 0} (R : Piece A) (T : Piece B) (h : A → B) (i : ℕ) (bytes : List ℕ) (x : Read A)
    → ((a : A) (text : List ℕ) → R i a text → T i (h a) text) → Outcome R i bytes x → Outcome T i bytes (x >>= λ v. Ok (h v.0, v.1))
made_sound R T h i bytes (Ok v) turn o = takes_to T (h v.0) o (turn v.0 o.text o.is)
made_sound R T h i bytes (Err n) turn o = begun_to T (h o.value) o (turn o.value (o.taken ++ o.more) o.is)

-- one byte, and then what a reader of the bytes behind it gives
pub byte_more : {A : Type 0} (R S : Piece A) (b i : ℕ) (bytes : List ℕ) (x : Read A) → ((a : A) (text : List ℕ) → R i a text → S i a (b ∷ text))
    → Outcome R i bytes x → Outcome S i (b ∷ bytes) x
byte_more R S b i bytes (Ok v) to o = takes_as (b ∷ o.text) (to v.0 o.text o.is) (ap (λ (z : List ℕ). b ∷ z) o.split)
byte_more R S b i bytes (Err n) to o =
    begun_as (b ∷ o.taken) o.rest o.more o.value (to o.value (o.taken ++ o.more) o.is) (ap (λ (z : List ℕ). b ∷ z) o.split) o.stuck

pub byte_sound : {A B : Type 0} (R : Piece A) (T : Piece B) (h : A → B) (b i : ℕ) (bytes : List ℕ) (x : Read A)
    → ((a : A) (text : List ℕ) → R i a text → T i (h a) (b ∷ text)) → Outcome R i bytes x → Outcome T i (b ∷ bytes) (x >>= λ v. Ok (h v.0, v.1))
byte_sound R T h b i bytes x to o =
    made_sound (λ j a y. T j (h a) y) T h i (b ∷ bytes) x (λ a text is. is) (byte_more R (λ j a y. T j (h a) y) b i bytes x to o)

-- what was taken, and then what a reader of the rest gives
module _ {A B : Type 0} {R : Piece A} {i : ℕ} {bytes rest : List ℕ} {a : A} (S : Piece B) (t : Takes R i bytes a rest) where
  pub taken_then : (T : Piece B) → ((b : B) (y : List ℕ) → S (i + length t.text) b y → T i b (t.text ++ y))
      → (x : Read B) → Outcome S (i + length t.text) rest x → Outcome T i bytes x
  taken_then T both (Ok v) o = takes_as (t.text ++ o.text) (both v.0 o.text o.is) (joined t.text o.text v.1 t.split o.split)
  taken_then T both (Err m) o =
      begun_as (t.text ++ o.taken) o.rest o.more o.value
      (subst (T i o.value) (sym (append_assoc t.text o.taken o.more)) (both o.value (o.taken ++ o.more) o.is)) (joined t.text o.taken o.rest t.split o.split) o.stuck

  pub taken_made : {C : Type 0} (T : Piece C) (h : B → C) → ((b : B) (y : List ℕ) → S (i + length t.text) b y → T i (h b) (t.text ++ y))
      → (x : Read B) → Outcome S (i + length t.text) rest x → Outcome T i bytes (x >>= λ v. Ok (h v.0, v.1))
  taken_made T h both x o = made_sound (λ j b y. T j (h b) y) T h i bytes x (λ b y is. is) (taken_then (λ j b y. T j (h b) y) both x o)

-- what a choice gives
pub cond_sound : {A : Type 0} (R : Piece A) (i : ℕ) (bytes : List ℕ) (x y : Read A) (t : Bool)
    → (t ≡ true → Outcome R i bytes x) → (t ≡ false → Outcome R i bytes y) → Outcome R i bytes (cond t x y)
cond_sound R i bytes x y true o k = o refl
cond_sound R i bytes x y false o k = k refl

-- ---- readings that agree

pub made_agree : {A B : Type 0} (h : A → B) (c : ℕ) (q r : List ℕ) (x y : Read A) → Agree c q r x y
    → Agree c q r (x >>= λ v. Ok (h v.0, v.1)) (y >>= λ v. Ok (h v.0, v.1))
made_agree h c q r x y (kept a s e f) = kept (h a) s (ap (λ z. z >>= λ v. Ok (h v.0, v.1)) e) (ap (λ z. z >>= λ v. Ok (h v.0, v.1)) f)
made_agree h c q r x y (stuck n e f) = stuck n (ap (λ z. z >>= λ v. Ok (h v.0, v.1)) e) (ap (λ z. z >>= λ v. Ok (h v.0, v.1)) f)
made_agree h c q r x y (past m n) = past (omega (arith, left_made x h)) (omega (arith, left_made y h))

pub cond_agree : {A : Type 0} (c : ℕ) (q r : List ℕ) (x y u v : Read A) (t : Bool) → Agree c q r x u → Agree c q r y v
    → Agree c q r (cond t x y) (cond t u v)
cond_agree c q r x y u v true a b = a
cond_agree c q r x y u v false a b = b

bind_past : {A B : Type 0} (x : Read A) (k : A × List ℕ → Read B) (m : ℕ) → ((a : A) (s : List ℕ) → x ≡ Ok (a, s) → left (k (a, s)) ≤ length s)
    → left x ≤ m → left (x >>= k) ≤ m
bind_past (Ok v) k m shrink h = let p = shrink v.0 v.1 refl in omega (arith, p)
bind_past (Err n) k m shrink h = h

bind_agree : {A B : Type 0} (c : ℕ) (q r : List ℕ) (x y : Read A) (k l : A × List ℕ → Read B) → Agree c q r x y
    → ((a : A) (s : List ℕ) → x ≡ Ok (a, s ++ c ∷ q) → y ≡ Ok (a, s ++ c ∷ r) → Agree c q r (k (a, s ++ c ∷ q)) (l (a, s ++ c ∷ r)))
    → ((a : A) (s : List ℕ) → x ≡ Ok (a, s) → left (k (a, s)) ≤ length s) → ((a : A) (s : List ℕ) → y ≡ Ok (a, s) → left (l (a, s)) ≤ length s)
    → Agree c q r (x >>= k) (y >>= l)
bind_agree c q r x y k l (kept a s e f) on first second = rw (e, f) (on a s e f)
bind_agree c q r x y k l (stuck n e f) on first second = stuck n (ap (λ z. z >>= k) e) (ap (λ z. z >>= l) f)
bind_agree c q r x y k l (past m n) on first second = past (bind_past x k (length q) first m) (bind_past y l (length r) second n)

-- what was read is a text of the piece, where the reader is sound
at_ok : {A : Type 0} (R : Piece A) (i : ℕ) (bytes : List ℕ) (x : Read A) (a : A) (s : List ℕ) → Outcome R i bytes x → x ≡ Ok (a, s) → Takes R i bytes a s
at_ok R i bytes x a s o e = rw e at o

pub behind : {A : Type 0} {R : Piece A} {i : ℕ} {bytes s : List ℕ} {a : A} (t : Takes R i bytes a s) → (i + length t.text) + length s ≡ i + length bytes
behind {s} t = let e = ap length t.split in omega (arith, e, length-append t.text s)

-- Readings that agree, and then readings of what they leave: these leave no more than they find, and agree behind each text that was taken.
pub then_agrees : {A B : Type 0} {R : Piece A} {f : Reader A} {I : Class} {e : Bool} → Reads R f I e
    → (k : ℕ → A × List ℕ → Read B) (l : ℕ → A × List ℕ → Read B) (end last i : ℕ) (p : List ℕ) (c : ℕ) (q r : List ℕ)
    → i + length (p ++ c ∷ q) ≡ end → i + length (p ++ c ∷ r) ≡ last
    → ((j : ℕ) (a : A) (s : List ℕ) → j + length s ≡ end → left (k end (a, s)) ≤ length s)
    → ((j : ℕ) (a : A) (s : List ℕ) → j + length s ≡ last → left (l last (a, s)) ≤ length s)
    → ((a : A) (s : List ℕ) (t : Takes R i (p ++ c ∷ q) a (s ++ c ∷ q)) → (i + length t.text) + length (s ++ c ∷ q) ≡ end
    → (i + length t.text) + length (s ++ c ∷ r) ≡ last → Agree c q r (k end (a, s ++ c ∷ q)) (l last (a, s ++ c ∷ r)))
    → Agree c q r (f end (p ++ c ∷ q) >>= k end) (f last (p ++ c ∷ r) >>= l last)
then_agrees {A} {B} {R} {f} lf k l end last i p c q r m n less fewer on =
    bind_agree c q r (f end (p ++ c ∷ q)) (f last (p ++ c ∷ r)) (k end) (l last) (lf.agree end last i p c q r m n) both
    (λ a s h. let t = taken end (p ++ c ∷ q) m a s h in less (i + length t.text) a s (behind t ∙ m))
    (λ a s h. let t = taken last (p ++ c ∷ r) n a s h in fewer (i + length t.text) a s (behind t ∙ n))
  where
    taken : (stop : ℕ) (bytes : List ℕ) → i + length bytes ≡ stop → (a : A) (s : List ℕ) → f stop bytes ≡ Ok (a, s) → Takes R i bytes a s
    taken stop bytes u a s h = at_ok R i bytes (f stop bytes) a s (lf.sound stop i bytes u) h

    both : (a : A) (s : List ℕ) → f end (p ++ c ∷ q) ≡ Ok (a, s ++ c ∷ q) → f last (p ++ c ∷ r) ≡ Ok (a, s ++ c ∷ r)
        → Agree c q r (k end (a, s ++ c ∷ q)) (l last (a, s ++ c ∷ r))
    both a s h u =
        let t = taken end (p ++ c ∷ q) m a (s ++ c ∷ q) h in
        let b = behind t in
        on a s t (b ∙ m) (omega (arith, b, length-append p (c ∷ q), length-append p (c ∷ r), length-append s (c ∷ q), length-append s (c ∷ r)))

-- ---- texts one after the other

module _ (i end : ℕ) (x y text rest : List ℕ) (spelled : text ≡ x ++ y) (n : i + length (text ++ rest) ≡ end) where
  pub whole_text : text ++ rest ≡ x ++ (y ++ rest)
  whole_text = ap (λ (z : List ℕ). z ++ rest) spelled ∙ append_assoc x y rest

  pub first_place : i + length (x ++ (y ++ rest)) ≡ end
  first_place = ap (λ (z : List ℕ). i + length z) (sym whole_text) ∙ n

  pub second_place : (i + length x) + length (y ++ rest) ≡ end
  second_place = omega (arith, first_place, length-append x (y ++ rest))

  pub again_then : {A B : Type 0} (f : ℕ → List ℕ → Read A) (k : A × List ℕ → Read B) (a : A) (v : B)
      → f end (x ++ (y ++ rest)) ≡ Ok (a, y ++ rest) → k (a, y ++ rest) ≡ Ok (v, rest) → (f end (text ++ rest) >>= k) ≡ Ok (v, rest)
  again_then f k a v one two = ap (λ (z : List ℕ). f end z >>= k) whole_text ∙ ap (λ z. z >>= k) one ∙ two

-- ---- the same piece, said otherwise

pub said_lawful : {A : Type 0} (R S : Piece A) (f : Reader A) (I : Class) (e : Bool) (F : Class) → ((i : ℕ) (a : A) (text : List ℕ) → R i a text → S i a text)
    → ((i : ℕ) (a : A) (text : List ℕ) → S i a text → R i a text) → Lawful R f I e F → Lawful S f I e F
said_lawful R S f I e F to from lf = record {
  reads = record {
    sound = λ end i bytes n. said_sound R S i bytes (f end bytes) (to i) (lf.sound end i bytes n);
    agree = lf.agree;
    begins = λ i a text is. lf.begins i a text (from i a text is);
  };
  again = λ end i a text rest is h n. lf.again end i a text rest (from i a text is) h n;
}

-- ---- a reader that reads the same

pub same_reads : {A : Type 0} {R : Piece A} {f : Reader A} {I : Class} {e : Bool} (g : Reader A) → ((end : ℕ) (bytes : List ℕ) → f end bytes ≡ g end bytes)
    → Reads R f I e → Reads R g I e
same_reads {A} {R} {f} {I} {e} g h t = record {
  sound = λ end i bytes n. subst (Outcome R i bytes) (h end bytes) (t.sound end i bytes n);
  agree = λ end last i p c q r m n. rw (h end (p ++ c ∷ q), h last (p ++ c ∷ r)) at (t.agree end last i p c q r m n);
  begins = t.begins;
}

pub same_ok : {A : Type 0} {R : Piece A} {f : Reader A} {I : Class} {e : Bool} {F : Class} (g : Reader A)
    → ((end : ℕ) (bytes : List ℕ) → f end bytes ≡ g end bytes) → Lawful R f I e F → Lawful R g I e F
same_ok g h t = record {
  reads = same_reads g h t.reads;
  again = λ end i a text rest is k n. sym (h end (text ++ rest)) ∙ t.again end i a text rest is k n;
}
