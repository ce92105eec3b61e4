-- Tokens that are as long as possible.
use Rattle.std.proofs.Common.{◌≡◌, ℕ, ◌+◌, ◌-◌, inl, inr, Bool, true, false, ◌&&◌, cond, List, [], ◌∷◌, ◌++◌, length}
use Rattle.std.proofs.Common.{Ok, Err, refl, ap, sym, subst, ◌∙◌, append_assoc, arith}
use Rattle.cg_reading.specs.Bytes.{Class, has, Ends, Begins}
use Rattle.cg_reading.specs.Pieces.{Piece, Then, Or, Made, Nothing, Bytes, Placed, Longest}
use Rattle.cg_reading.specs.Readers.{Read, Reader, ◌>>=◌, then_at, or_at, made_at, nothing_at, placed_at, taken, skipped, bytes_at}
use Rattle.cg_reading.proofs.ByteRuns.{bytes_lawful}
use Rattle.cg_reading.proofs.Laws.{Again, Alive, Lawful, Outcome, Reads, Some_text, Takes, again_then, behind, begun_as, begun_on}
use Rattle.cg_reading.proofs.Laws.{first_place, second_place, takes_as, joined}
use Rattle.cg_reading.proofs.Sets.{apart, apart_has, ends_left, ends_right, inside, last_ends, next_ends, no_class, wider_begins, wider_ends}
use Rattle.cg_reading.proofs.Steps.{made_reads, nothing_lawful, or_reads, placed_reads, second_at, then_agree, then_begins, then_reads}

-- ---- tokens that are as long as possible

-- Reading that stopped did so at no byte that goes on with what was read.
abbrev pub Full : {A : Type 0} → (A → Class) → Read A → Type 0
Full K (Ok x) = Ends (K x.0) x.1
Full K (Err n) = Unit {0}

-- Each text of the piece is read, where no byte of the set comes behind it, and none that goes on with it.
abbrev pub Again_full : {A : Type 0} → Piece A → Reader A → Class → (A → Class) → Type 0
Again_full {A} R f F K = (end i : ℕ) (a : A) (text rest : List ℕ) → R i a text → Ends F rest → Ends (K a) rest → i + length (text ++ rest) ≡ end
    → f end (text ++ rest) ≡ Ok (a, rest)

pub record Token {A : Type 0} (R : Piece A) (f : Reader A) (begin : Class) (empty : Bool) (follow : Class) (K : A → Class) : Type 0 where
  pub reads : Reads R f begin empty
  pub open reads use *
  pub full : (end : ℕ) (bytes : List ℕ) → Full K (f end bytes)
  pub again : Again_full R f follow K

pub wide_token : {A : Type 0} {R : Piece A} {f : Reader A} {I : Class} {e : Bool} {F : Class} {K : A → Class} (J G : Class)
    → Token R f I e F K → inside I J ≡ true → inside F G ≡ true → Token R f J e G K
wide_token {A} {R} {f} {I} {e} {F} {K} J G lf a b = record {
  reads = record { sound = lf.sound; agree = lf.agree; begins = λ i v text is. wider_begins I J e text a (lf.begins i v text is) };
  full = lf.full;
  again = λ end i v text rest is h k n. lf.again end i v text rest is (wider_ends F G rest b h) k n;
}

full_none : {A : Type 0} (x : Read A) → Full (λ _. []) x
full_none (Ok v) = no_class v.1
full_none (Err n) = tt

pub plain_token : {A : Type 0} {R : Piece A} {f : Reader A} {I : Class} {e : Bool} {F : Class} → Lawful R f I e F → Token R f I e F (λ _. [])
plain_token {A} {R} {f} lf = record {
  reads = lf.reads;
  full = λ end bytes. full_none (f end bytes);
  again = λ end i a text rest is h k n. lf.again end i a text rest is h n;
}

pub plain_lawful : {A : Type 0} {R : Piece A} {f : Reader A} {I : Class} {e : Bool} {F : Class} → Token R f I e F (λ _. []) → Lawful R f I e F
plain_lawful t = record { reads = t.reads; again = λ end i a text rest is h n. t.again end i a text rest is h (no_class rest) n }

pub nothing_token : {A : Type 0} (v : A) (K : A → Class) → K v ≡ [] → Token (Nothing v) (nothing_at v) [] true [] K
nothing_token v K h =
    let l = nothing_lawful v in
    record {
      reads = l.reads;
      full = λ end bytes. subst (λ (c : Class). Ends c bytes) (sym h) (no_class bytes);
      again = λ end i a text rest is f k n. l.again end i a text rest is f n;
    }

-- the same with a larger set behind it
pub token_ok : {A : Type 0} {R : Piece A} {f : Reader A} {I : Class} {e : Bool} {F : Class} {K : A → Class} (C : Class)
    → Token R f I e F K → ((a : A) → inside (K a) C ≡ true) → Lawful R f I e (F ++ C)
token_ok {A} {R} {f} {I} {e} {F} {K} C t b = record {
  reads = t.reads;
  again = λ end i a text rest is h n. t.again end i a text rest is (ends_left F C rest h) (wider_ends (K a) C rest (b a) (ends_right F C rest h)) n;
}

-- the piece, with the column where it starts
full_placed : {A : Type 0} (K : A → Class) (j : ℕ) (x : Read A) → Full K x → Full {A = ℕ × A} (λ v. K v.1) (x >>= λ v. Ok ((j, v.0), v.1))
full_placed K j (Ok v) k = k
full_placed K j (Err n) k = tt

pub placed_token : {A : Type 0} {R : Piece A} {f : Reader A} {I : Class} {e : Bool} {F : Class} {K : A → Class}
    → Token R f I e F K → Token (Placed R) (placed_at f) I e F (λ v. K v.1)
placed_token {A} {R} {f} {I} {e} {F} {K} t = record {
  reads = placed_reads R f I e F t.reads;
  full = λ end bytes. full_placed K (end - length bytes) (f end bytes) (t.full end bytes);
  again = λ end i v text rest is h k n.
      let j : end - length (text ++ rest) ≡ v.0 = omega (arith, is.0) in
      ap (λ z. z >>= λ x. Ok ((end - length (text ++ rest), x.0), x.1)) (t.again end i v.1 text rest is.1 h k n) ∙ ap (λ (k : ℕ). Ok ((k, v.1), rest)) j;
}

module _ {A B : Type 0} (h : A → B) (K : B → Class) (R : Piece A) (f : Reader A) (I : Class) (e : Bool) (F : Class) where
  full_made : (x : Read A) → Full (λ a. K (h a)) x → Full K (x >>= λ v. Ok (h v.0, v.1))
  full_made (Ok v) k = k
  full_made (Err n) k = tt

  made_token : Token R f I e F (λ a. K (h a)) → Token (Made h R) (made_at h f) I e F K
  made_token t = record {
    reads = made_reads h R f I e F t.reads;
    full = λ end bytes. full_made (f end bytes) (t.full end bytes);
    again = λ end i b text rest is follow k n.
        ap (λ z. z >>= λ v. Ok (h v.0, v.1)) (t.again end i is.made_of text rest is.is follow (subst (λ (z : B). Ends (K z) rest) is.same k) n)
        ∙ ap (λ (x : B). Ok (x, rest)) (sym is.same);
  }

pub made_full : {A B : Type 0} {R : Piece A} {f : Reader A} {I : Class} {e : Bool} {F : Class} (h : A → B) (K : B → Class)
    → Token R f I e F (λ a. K (h a)) → Token (Made h R) (made_at h f) I e F K
made_full {A} {B} {R} {f} {I} {e} {F} h K t = made_token h K R f I e F t

module _ {A : Type 0} (K : A → Class) (R S : Piece A) (f g : Reader A) (I J : Class) (e : Bool) (F G : Class) where
  -- what is read first is read by the choice, and what is read second
  choose_left : (end : ℕ) (a : A) (text rest : List ℕ) → Begins I false text → f end (text ++ rest) ≡ Ok (a, rest)
      → or_at I f g end (text ++ rest) ≡ Ok (a, rest)
  choose_left end a [] rest b k = absurd cc
  choose_left end a (x ∷ text) rest b k = rw b k

  choose_none : (end : ℕ) (a : A) (rest : List ℕ) → Ends I rest → g end rest ≡ Ok (a, rest) → or_at I f g end rest ≡ Ok (a, rest)
  choose_none end a [] h k = k
  choose_none end a (x ∷ rest) h k = rw h k

  choose_right : (end : ℕ) (a : A) (text rest : List ℕ) → apart J I ≡ true → Begins J e text → Ends (cond e (I ++ (F ++ G)) (F ++ G)) rest
      → g end (text ++ rest) ≡ Ok (a, rest) → or_at I f g end (text ++ rest) ≡ Ok (a, rest)
  choose_right end a [] rest d b h k =
      let h' : Ends (I ++ (F ++ G)) rest = subst (λ (x : Bool). Ends (cond x (I ++ (F ++ G)) (F ++ G)) rest) b h in
      choose_none end a rest (ends_left I (F ++ G) rest h') k
  choose_right end a (x ∷ text) rest d b h k = rw (apart_has J I x d b) k

  cond_full : (x y : Read A) (t : Bool) → Full K x → Full K y → Full K (cond t x y)
  cond_full x y true h k = h
  cond_full x y false h k = k

  or_full : Token R f I false F K → Token S g J e G K → (end : ℕ) (bytes : List ℕ) → Full K (or_at I f g end bytes)
  or_full lf lg end [] = lg.full end []
  or_full lf lg end (b ∷ bytes) = cond_full (f end (b ∷ bytes)) (g end (b ∷ bytes)) (has I b) (lf.full end (b ∷ bytes)) (lg.full end (b ∷ bytes))

  or_token_again : Token R f I false F K → Token S g J e G K → apart J I ≡ true → Again_full (Or R S) (or_at I f g) (cond e (I ++ (F ++ G)) (F ++ G)) K
  or_token_again lf lg d end i a text rest (inl is) h k n =
      choose_left end a text rest (lf.begins i a text is)
      (lf.again end i a text rest is (ends_left F G rest (last_ends I (F ++ G) e rest h)) k n)
  or_token_again lf lg d end i a text rest (inr is) h k n =
      choose_right end a text rest d (lg.begins i a text is) h
      (lg.again end i a text rest is (ends_right F G rest (last_ends I (F ++ G) e rest h)) k n)

  or_token : Token R f I false F K → Token S g J e G K → apart J I ≡ true → Token (Or R S) (or_at I f g) (I ++ J) e (cond e (I ++ (F ++ G)) (F ++ G)) K
  or_token lf lg d = record { reads = or_reads R S f g I J e F G lf.reads lg.reads; full = or_full lf lg; again = or_token_again lf lg d }

pub or_full_ok : {A : Type 0} {K : A → Class} {R S : Piece A} {f g : Reader A} {I J : Class} {e : Bool} {F G : Class}
    → Token R f I false F K → Token S g J e G K → apart J I ≡ true → Token (Or R S) (or_at I f g) (I ++ J) e (cond e (I ++ (F ++ G)) (F ++ G)) K
or_full_ok {A} {K} {R} {S} {f} {g} {I} {J} {e} {F} {G} lf lg d = or_token K R S f g I J e F G lf lg d

module _ {A B : Type 0} (K : B → Class) (R : Piece A) (S : Piece B) (f : Reader A) (g : Reader B) (I J : Class) (d e : Bool) (F G : Class) where
  full_second : (a : A) (y : Read B) → Full K y → Full {A = A × B} (λ v. K v.1) (y >>= λ w. Ok ((a, w.0), w.1))
  full_second a (Ok w) k = k
  full_second a (Err n) k = tt

  full_then : (end : ℕ) (x : Read A) → ((rest : List ℕ) → Full K (g end rest)) → Full {A = A × B} (λ v. K v.1) (x >>= second_at R S f g I J d e F G end)
  full_then end (Ok v) k = full_second v.0 (g end v.1) (k v.1)
  full_then end (Err n) k = tt

  then_token_again : Lawful R f I d F → Token S g J e G K → apart J F ≡ true → Again_full (Then R S) (then_at f g) (cond e (F ++ G) G) (λ v. K v.1)
  then_token_again lf lg a end i v text rest is h k n =
      let x = is.before in
      let y = is.behind in
      let next : Ends F (y ++ rest) = next_ends J F G e y rest a (lg.begins (i + length x) v.1 y is.second) h in
      again_then i end x y text rest is.spelled n f (second_at R S f g I J d e F G end) v.0 v
      (lf.again end i v.0 x (y ++ rest) is.first next (first_place i end x y text rest is.spelled n))
      (ap (λ z. z >>= λ y. Ok ((v.0, y.0), y.1))
      (lg.again end (i + length x) v.1 y rest is.second (last_ends F G e rest h) k (second_place i end x y text rest is.spelled n)))

  then_token : Lawful R f I d F → Token S g J e G K → ((j : ℕ) → Some_text S j) → apart J F ≡ true
      → Token (Then R S) (then_at f g) (cond d (I ++ J) I) (d && e) (cond e (F ++ G) G) (λ v. K v.1)
  then_token lf lg w a = record {
    reads = then_reads R S f g I J d e F G lf.reads lg.reads w;
    full = λ end bytes. full_then end (f end bytes) (lg.full end);
    again = then_token_again lf lg a;
  }

pub then_full : {A B : Type 0} {K : B → Class} {R : Piece A} {S : Piece B} {f : Reader A} {g : Reader B} {I J : Class} {d e : Bool} {F G : Class}
    → Lawful R f I d F → Token S g J e G K → ((j : ℕ) → Some_text S j) → apart J F ≡ true → Token (Then R S) (then_at f g) (cond d (I ++ J) I) (d && e) (cond e (F ++ G) G) (λ v. K v.1)
then_full {A} {B} {K} {R} {S} {f} {g} {I} {J} {d} {e} {F} {G} lf lg w a = then_token K R S f g I J d e F G lf lg w a

-- bytes of a set, as many as come
bytes_full : (c : Class) (end : ℕ) (bytes : List ℕ) → Full (λ _. c) (bytes_at c end bytes)
bytes_full c end [] = tt
bytes_full c end (b ∷ bytes) = chosen (has c b) refl (bytes_full c end bytes)
  where
    chosen : (t : Bool) → has c b ≡ t → Ends c (skipped c bytes) → Ends c (cond t (skipped c bytes) (b ∷ bytes))
    chosen true h k = k
    chosen false h k = h

pub bytes_token : (c : Class) → Token (Bytes c) (bytes_at c) c true [] (λ _. c)
bytes_token c =
    let l = bytes_lawful c in
    record { reads = l.reads; full = bytes_full c; again = λ end i a text rest is h k n. l.again end i a text rest is k n }

-- a piece as long as possible, and then another that may be empty
module _ {A B : Type 0} (K : A → Class) (C : Class) (R : Piece A) (S : Piece B) (f : Reader A) (g : Reader B) (I J : Class) (d e : Bool) (F G : Class) where
  front_ends : (c : Class) (x y : List ℕ) → Ends c (x ++ y) → Ends c x
  front_ends c [] y h = tt
  front_ends c (b ∷ x) y h = h

  longest_as : {i : ℕ} {a : A} {b : B} {text : List ℕ} (x y : List ℕ) → R i a x → S (i + length x) b y → Ends (K a) y → text ≡ x ++ y
      → Longest K R S i (a, b) text
  longest_as x y first second ended spelled = record { before = x; behind = y; first = first; second = second; ended = ended; spelled = spelled }

  longest_second : (i : ℕ) (bytes : List ℕ) (a : A) (rest : List ℕ) (t : Takes R i bytes a rest) → ((j : ℕ) → (b : B) × S j b []) → Ends (K a) rest
      → (y : Read B) → Outcome S (i + length t.text) rest y → Outcome (Longest K R S) i bytes (y >>= λ v. Ok ((a, v.0), v.1))
  longest_second i bytes a rest t w k (Ok v) o =
      takes_as (t.text ++ o.text) (longest_as t.text o.text t.is o.is (front_ends (K a) o.text v.1 (subst (Ends (K a)) o.split k)) refl)
      (joined t.text o.text v.1 t.split o.split)
  longest_second i bytes a rest t w k (Err m) o = begun o.taken o.is (subst (Ends (K a)) o.split k) o.split
    where
      begun : (taken : List ℕ) → S (i + length t.text) o.value (taken ++ o.more) → Ends (K a) (taken ++ o.rest) → rest ≡ taken ++ o.rest
          → Alive (Longest K R S) i bytes m
      begun [] is h s =
          let v = w (i + length t.text) in
          begun_as t.text o.rest [] (a, v.0) (longest_as t.text [] t.is v.1 tt refl) (t.split ∙ ap (λ (x : List ℕ). t.text ++ x) s) o.stuck
      begun (b ∷ taken) is h s =
          begun_as (t.text ++ b ∷ taken) o.rest o.more (a, o.value)
          (longest_as t.text (b ∷ (taken ++ o.more)) t.is is h (append_assoc t.text (b ∷ taken) o.more))
          (joined t.text (b ∷ taken) o.rest t.split s) o.stuck

  longest_first : (end i : ℕ) (bytes : List ℕ) (x : Read A) → i + length bytes ≡ end → Reads S g J e → ((j : ℕ) → (b : B) × S j b []) → Full K x
      → Outcome R i bytes x → Outcome (Longest K R S) i bytes (x >>= second_at R S f g I J d e F G end)
  longest_first end i bytes (Ok v) n lg w k o =
      longest_second i bytes v.0 v.1 o w k (g end v.1) (lg.sound end (i + length o.text) v.1 (behind o ∙ n))
  longest_first end i bytes (Err m) n lg w k o =
      let v = w (i + length (o.taken ++ o.more)) in
      begun_on (Longest K R S) (o.value, v.0) o [] (longest_as (o.taken ++ o.more) [] o.is v.1 tt refl)

  -- nothing comes behind the first
  empty_ends : (rest : List ℕ) → e ≡ true → Ends (cond e ((F ++ C) ++ G) G) rest → Ends (F ++ C) rest
  empty_ends rest s h = ends_left (F ++ C) G rest (subst (λ (z : Bool). Ends (cond z ((F ++ C) ++ G) G) rest) s h)

  next_full : (a : A) (y rest : List ℕ) → inside (K a) C ≡ true → Begins J e y → Ends (K a) y → Ends (cond e ((F ++ C) ++ G) G) rest
      → Ends (K a) (y ++ rest)
  next_full a [] rest b s k h = wider_ends (K a) C rest b (ends_right F C rest (empty_ends rest s h))
  next_full a (x ∷ y) rest b s k h = k

  next_apart : (y rest : List ℕ) → apart J F ≡ true → Begins J e y → Ends (cond e ((F ++ C) ++ G) G) rest → Ends F (y ++ rest)
  next_apart [] rest a s h = ends_left F C rest (empty_ends rest s h)
  next_apart (x ∷ y) rest a s h = apart_has J F x a s

  longest_again : Token R f I d F K → Lawful S g J e G → ((a : A) → inside (K a) C ≡ true) → apart J F ≡ true
      → Again (Longest K R S) (then_at f g) (λ _ rest. Ends (cond e ((F ++ C) ++ G) G) rest)
  longest_again lf lg b a end i v text rest is h n =
      let x = is.before in
      let y = is.behind in
      let s = lg.begins (i + length x) v.1 y is.second in
      again_then i end x y text rest is.spelled n f (second_at R S f g I J d e F G end) v.0 v
      (lf.again end i v.0 x (y ++ rest) is.first (next_apart y rest a s h) (next_full v.0 y rest (b v.0) s is.ended h)
      (first_place i end x y text rest is.spelled n))
      (ap (λ z. z >>= λ y. Ok ((v.0, y.0), y.1))
      (lg.again end (i + length x) v.1 y rest is.second (last_ends (F ++ C) G e rest h) (second_place i end x y text rest is.spelled n)))

  longest_lawful : Token R f I d F K → Lawful S g J e G → ((j : ℕ) → (b : B) × S j b []) → ((a : A) → inside (K a) C ≡ true) → apart J F ≡ true
      → Lawful (Longest K R S) (then_at f g) (cond d (I ++ J) I) (d && e) (cond e ((F ++ C) ++ G) G)
  longest_lawful lf lg w b a = record {
    reads = record {
      sound = λ end i bytes n. longest_first end i bytes (f end bytes) n lg.reads w (lf.full end bytes) (lf.sound end i bytes n);
      agree = then_agree R S f g I J d e F G lf.reads lg.reads;
      begins = λ i v text is. then_begins R S f g I J d e F G lf.reads lg.reads i v is.before is.behind text is.first is.second is.spelled;
    };
    again = longest_again lf lg b a;
  }

pub longest_ok : {A B : Type 0} {K : A → Class} {R : Piece A} {S : Piece B} {f : Reader A} {g : Reader B} {I J : Class} {d e : Bool} {F G : Class} (C : Class)
    → Token R f I d F K → Lawful S g J e G → ((j : ℕ) → (b : B) × S j b []) → ((a : A) → inside (K a) C ≡ true) → apart J F ≡ true → Lawful (Longest K R S) (then_at f g) (cond d (I ++ J) I) (d && e) (cond e ((F ++ C) ++ G) G)
longest_ok {A} {B} {K} {R} {S} {f} {g} {I} {J} {d} {e} {F} {G} C lf lg w b a = longest_lawful K C R S f g I J d e F G lf lg w b a
