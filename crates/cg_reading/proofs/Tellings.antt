-- A piece with a test of its value, and a piece whose value tells the one behind it.
use Rattle.std.proofs.Common.{◌≡◌, ℕ, ◌+◌, ◌≤◌, Bool, true, false, cond, List, ◌∷◌, ◌++◌, length, Ok}
use Rattle.std.proofs.Common.{Err, refl, ap, sym, subst, ◌∙◌, arith, length-append}
use Rattle.cg_reading.specs.Bytes.{Class, Ends, Begins}
use Rattle.cg_reading.specs.Pieces.{Piece, Such, Telling}
use Rattle.cg_reading.specs.Readers.{Read, Reader, ◌>>=◌, such_at, telling_at}
use Rattle.cg_reading.proofs.Laws.{kept, stuck, past, Again, Agree, Agrees, Alive, Lawful, Outcome, Some_text, Sound, again_then, begun_as, begun_on, begun_to}
use Rattle.cg_reading.proofs.Laws.{behind, bind_sound, cond_sound, first_place, second_place, left, outcome_left, taken_then, takes_to, then_agrees}
use Rattle.cg_reading.proofs.Longest.{Full, Token}
use Rattle.cg_reading.proofs.Sets.{apart, both_begin, next_ends}

-- ---- a test of the value

-- a text that goes on from this one, with a value of which the test holds
pub record Goes_on {A : Type 0} (test : A → Bool) (R : Piece A) (i : ℕ) (text : List ℕ) : Type 0 where
  pub more : List ℕ
  pub value : A
  pub is : R i value (text ++ more)
  pub holds : test value ≡ true

module _ {A : Type 0} (test : A → Bool) (R : Piece A) (f : Reader A) (I F : Class) (e : Bool) (K : A → Class)
    (w : (i : ℕ) (a : A) (text : List ℕ) → R i a text → test a ≡ false → Goes_on test R i text) where
  abbrev such : Read A → Read A
  such x = x >>= λ v. cond (test v.0) (Ok v) (Err (length v.1))

  such_left : (x : Read A) → left (such x) ≡ left x
  such_left (Ok v) = chosen (test v.0)
    where
      chosen : (t : Bool) → left {A = A} (cond t (Ok v) (Err (length v.1))) ≡ length v.1
      chosen true = refl
      chosen false = refl
  such_left (Err n) = refl

  such_is : {i : ℕ} {a : A} {text : List ℕ} → R i a text → test a ≡ true → Such test R i a text
  such_is is holds = record { is = is; holds = holds }

  begun_such : (i : ℕ) (bytes : List ℕ) (n : ℕ) (o : Alive R i bytes n) (t : Bool) → test o.value ≡ t → Alive (Such test R) i bytes n
  begun_such i bytes n o true h = begun_to (Such test R) o.value o (such_is o.is h)
  begun_such i bytes n o false h =
      let g = w i o.value (o.taken ++ o.more) o.is h in
      begun_on (Such test R) g.value o g.more (such_is g.is g.holds)

  such_sound : (i : ℕ) (bytes : List ℕ) (x : Read A) → Outcome R i bytes x → Outcome (Such test R) i bytes (such x)
  such_sound i bytes (Err n) o = begun_such i bytes n o (test o.value) refl
  such_sound i bytes (Ok v) o =
      cond_sound (Such test R) i bytes (Ok v) (Err (length v.1)) (test v.0) (λ h. takes_to (Such test R) v.0 o (such_is o.is h))
      (λ h. let g = w i v.0 o.text o.is h in begun_as o.text v.1 g.more g.value (such_is g.is g.holds) o.split refl)

  such_agree : (c : ℕ) (q r : List ℕ) (x y : Read A) → Agree c q r x y → Agree c q r (such x) (such y)
  such_agree c q r x y (past m n) = past (omega (arith, such_left x)) (omega (arith, such_left y))
  such_agree c q r x y (stuck n h k) = stuck n (ap such h) (ap such k)
  such_agree c q r x y (kept a s h k) = rw (h, k) (chosen (test a))
    where
      chosen : (t : Bool)
          → Agree {A = A} c q r (cond t (Ok (a, s ++ c ∷ q)) (Err (length (s ++ c ∷ q)))) (cond t (Ok (a, s ++ c ∷ r)) (Err (length (s ++ c ∷ r))))
      chosen true = kept a s refl refl
      chosen false = stuck (length s) (ap (λ (n : ℕ). Err n) (length-append s (c ∷ q))) (ap (λ (n : ℕ). Err n) (length-append s (c ∷ r)))

  such_full : (x : Read A) → Full K x → Full K (such x)
  such_full (Err n) k = tt
  such_full (Ok v) k = chosen (test v.0)
    where
      chosen : (t : Bool) → Full K (cond t (Ok v) (Err (length v.1)))
      chosen true = k
      chosen false = tt

  such_made : Token R f I e F K → Token (Such test R) (such_at test f) I e F K
  such_made t = record {
    reads = record {
      sound = λ end i bytes n. such_sound i bytes (f end bytes) (t.sound end i bytes n);
      agree = λ end last i p c q r m n. such_agree c q r (f end (p ++ c ∷ q)) (f last (p ++ c ∷ r)) (t.agree end last i p c q r m n);
      begins = λ i a text is. t.begins i a text is.is;
    };
    full = λ end bytes. such_full (f end bytes) (t.full end bytes);
    again = λ end i a text rest is h k n. ap such (t.again end i a text rest is.is h k n) ∙ rw is.holds refl;
  }

pub such_token : {A : Type 0} {R : Piece A} {f : Reader A} {I F : Class} {e : Bool} {K : A → Class} (test : A → Bool)
    → ((i : ℕ) (a : A) (text : List ℕ) → R i a text → test a ≡ false → Goes_on test R i text) → Token R f I e F K → Token (Such test R) (such_at test f) I e F K
such_token {A} {R} {f} {I} {F} {e} {K} test w t = such_made test R f I F e K w t

-- ---- a value that tells what stands behind it

module _ {A B : Type 0} (R : Piece A) (S : A → Piece B) (f : Reader A) (g : A → Reader B) (I J : Class) (F G : Class) (K : A → Class) where
  telling_as : {i : ℕ} {b : B} {text : List ℕ} (a : A) (x y : List ℕ) → R i a x → S a (i + length x) b y → text ≡ x ++ y → Telling R S i b text
  telling_as a x y first second spelled = record { told = a; before = x; behind = y; first = first; second = second; spelled = spelled }

  telling_sound : Token R f I false F K → ((a : A) → Lawful (S a) (g a) J false G) → ((a : A) (j : ℕ) → Some_text (S a) j) → Sound (Telling R S) (telling_at f g)
  telling_sound lf lg w end i bytes n = bind_sound R (Telling R S) i bytes (f end bytes) (λ x. g x.0 end x.1) (lf.sound end i bytes n)
      (λ a rest t. let l = lg a in taken_then (S a) t (Telling R S) (λ b y is. telling_as a t.text y t.is is refl) (g a end rest)
      (l.sound end (i + length t.text) rest (behind t ∙ n)))
      (λ m o. let v = w o.value (i + length (o.taken ++ o.more)) in
      begun_on (Telling R S) v.value o v.text (telling_as o.value (o.taken ++ o.more) v.text o.is v.is refl))

  telling_agree : Token R f I false F K → ((a : A) → Lawful (S a) (g a) J false G) → Agrees (telling_at f g)
  telling_agree lf lg end last i p c q r m n =
      then_agrees lf.reads (λ stop x. g x.0 stop x.1) (λ stop x. g x.0 stop x.1) end last i p c q r m n (less end) (less last)
      (λ a s t x y. let l = lg a in l.agree end last (i + length t.text) s c q r x y)
    where
      less : (stop j : ℕ) (a : A) (s : List ℕ) → j + length s ≡ stop → left (g a stop s) ≤ length s
      less stop j a s n = let l = lg a in outcome_left (S a) j s (g a stop s) (l.sound stop j s n)

  telling_again : Token R f I false F K → ((a : A) → Lawful (S a) (g a) J false G) → apart J F ≡ true → ((a : A) → apart J (K a) ≡ true)
      → Again (Telling R S) (telling_at f g) (λ _ rest. Ends G rest)
  telling_again lf lg a k end i v text rest is h n =
      let x = is.before in
      let y = is.behind in
      let l = lg is.told in
      let b = l.begins (i + length x) v y is.second in
      again_then i end x y text rest is.spelled n f (λ z. g z.0 end z.1) is.told v
      (lf.again end i is.told x (y ++ rest) is.first (next_ends J F G false y rest a b h) (next_ends J (K is.told) G false y rest (k is.told) b h)
      (first_place i end x y text rest is.spelled n))
      (l.again end (i + length x) v y rest is.second h (second_place i end x y text rest is.spelled n))

  telling_begins : Token R f I false F K → ((a : A) → Lawful (S a) (g a) J false G) → (i : ℕ) (v : B) (text : List ℕ) → Telling R S i v text → Begins I false text
  telling_begins lf lg i v text is =
      let l = lg is.told in
      subst (Begins I false) (sym is.spelled)
      (both_begin I J false false is.before is.behind (lf.begins i is.told is.before is.first) (l.begins (i + length is.before) v is.behind is.second))

  telling_lawful : Token R f I false F K → ((a : A) → Lawful (S a) (g a) J false G) → ((a : A) (j : ℕ) → Some_text (S a) j) → apart J F ≡ true
      → ((a : A) → apart J (K a) ≡ true) → Lawful (Telling R S) (telling_at f g) I false G
  telling_lawful lf lg w a k = record {
    reads = record { sound = telling_sound lf lg w; agree = telling_agree lf lg; begins = telling_begins lf lg };
    again = telling_again lf lg a k;
  }

pub telling_ok : {A B : Type 0} {R : Piece A} {S : A → Piece B} {f : Reader A} {g : A → Reader B} {I J F G : Class} {K : A → Class}
    → Token R f I false F K → ((a : A) → Lawful (S a) (g a) J false G) → ((a : A) (j : ℕ) → Some_text (S a) j) → apart J F ≡ true
    → ((a : A) → apart J (K a) ≡ true) → Lawful (Telling R S) (telling_at f g) I false G
telling_ok {A} {B} {R} {S} {f} {g} {I} {J} {F} {G} {K} lf lg w a k = telling_lawful R S f g I J F G K lf lg w a k
