-- One byte, bytes of a set, and runs of them.
use Rattle.std.proofs.Common.{◌≡◌, ℕ, zero, suc, ◌-◌, ◌<◌, ◌≤◌, Bool, true, false, cond, List, [], ◌∷◌}
use Rattle.std.proofs.Common.{◌++◌, length, Ok, Err, refl, ap, sym, subst, arith, length-append}
use Rattle.std.specs.List.{list_all}
use Rattle.std.proofs.lemmas.Bool.{and_parts, and_from}
use Rattle.cg_reading.specs.Bytes.{Class, has, Ends, Begins}
use Rattle.cg_reading.specs.Pieces.{One, Bytes, Few, Run}
use Rattle.cg_reading.specs.Readers.{Read, Reader, ◌>>=◌, one_at, taken, skipped, bytes_at, few_at, run_at}
use Rattle.cg_reading.proofs.Laws.{kept, stuck, past, Agree, Agrees, Alive, Lawful, Outcome, Some_text, begun_none, takes_as, takes_none, Takes}
use Rattle.cg_reading.proofs.Laws.{byte_sound, cond_agree, cond_sound, left, made_agree, outcome_left, same_ok}
use Rattle.cg_reading.proofs.Spelled.{byte_is}

-- ---- one byte

pub stuck_here : {A : Type 0} (p : List ℕ) (c : ℕ) (q r : List ℕ) → Agree {A = A} c q r (Err (length (p ++ c ∷ q))) (Err (length (p ++ c ∷ r)))
stuck_here p c q r = stuck (length p) (ap (λ (n : ℕ). Err n) (length-append p (c ∷ q))) (ap (λ (n : ℕ). Err n) (length-append p (c ∷ r)))

module _ (c : Class) (w : ℕ) (known : has c w ≡ true) where
  one_stuck : (i : ℕ) (bytes : List ℕ) → Alive (One c) i bytes (length bytes)
  one_stuck i bytes = begun_none (w ∷ []) w (byte_is w known)

  one_sound : (end i : ℕ) (bytes : List ℕ) → Outcome (One c) i bytes (one_at c end bytes)
  one_sound end i [] = one_stuck i []
  one_sound end i (b ∷ bytes) =
      cond_sound (One c) i (b ∷ bytes) (Ok (b, bytes)) (Err (length (b ∷ bytes))) (has c b)
      (λ h. takes_as (b ∷ []) (byte_is b h) refl) (λ _. one_stuck i (b ∷ bytes))

  one_agree : Agrees (one_at c)
  one_agree end last i [] x q r m n =
      cond_agree x q r (Ok (x, q)) (Err (length (x ∷ q))) (Ok (x, r)) (Err (length (x ∷ r))) (has c x) (past (omega arith) (omega arith)) (stuck_here [] x q r)
  one_agree end last i (b ∷ p) x q r m n =
      let y = p ++ x ∷ q in
      let z = p ++ x ∷ r in
      cond_agree x q r (Ok (b, y)) (Err (length (b ∷ y))) (Ok (b, z)) (Err (length (b ∷ z))) (has c b) (kept b p refl refl) (stuck_here (b ∷ p) x q r)

  pub one_lawful : Lawful (One c) (one_at c) c false []
  one_lawful = record {
    reads = record {
      sound = λ end i bytes n. one_sound end i bytes;
      agree = one_agree;
      begins = λ i b text is. subst (Begins c false) (sym is.spelled) is.within;
    };
    again = λ end i b text rest is h n. rw (is.spelled, is.within) refl;
  }

  pub one_text : (j : ℕ) → Some_text (One c) j
  one_text j = record { value = w; text = w ∷ []; is = byte_is w known }

-- ---- any number of bytes

abbrev pub push_byte : ℕ → Read (List ℕ) → Read (List ℕ)
push_byte b x = x >>= λ v. Ok (b ∷ v.0, v.1)

abbrev bytes_from : Class → Reader (List ℕ)
bytes_from c end [] = Ok ([], [])
bytes_from c end (b ∷ bytes) = cond (has c b) (push_byte b (bytes_from c end bytes)) (Ok ([], b ∷ bytes))

bytes_from_is : (c : Class) (end : ℕ) (bytes : List ℕ) → bytes_from c end bytes ≡ bytes_at c end bytes
bytes_from_is c end [] = refl
bytes_from_is c end (b ∷ bytes) = chosen (has c b) (bytes_from_is c end bytes)
  where
    chosen : (t : Bool) → bytes_from c end bytes ≡ bytes_at c end bytes
        → cond t (push_byte b (bytes_from c end bytes)) (Ok ([], b ∷ bytes)) ≡ Ok (cond t (b ∷ taken c bytes) [], cond t (skipped c bytes) (b ∷ bytes))
    chosen true h = ap (push_byte b) h
    chosen false h = refl

-- a byte more of the set
pub more_within : (c : Class) (b : ℕ) (bs : List ℕ) → has c b ≡ true → list_all (has c) bs ≡ true → list_all (has c) (b ∷ bs) ≡ true
more_within c b bs h k = and_from (has c b) (list_all (has c) bs) h k

bytes_as : {c : Class} {i : ℕ} {bs text : List ℕ} → list_all (has c) bs ≡ true → text ≡ bs → Bytes c i bs text
bytes_as h e = record { within = h; spelled = e }

module _ (c : Class) where
  bytes_sound : (end i : ℕ) (bytes : List ℕ) → Outcome (Bytes c) i bytes (bytes_from c end bytes)
  bytes_sound end i [] = takes_none (bytes_as refl refl)
  bytes_sound end i (b ∷ bytes) =
      cond_sound (Bytes c) i (b ∷ bytes) (push_byte b (bytes_from c end bytes)) (Ok ([], b ∷ bytes)) (has c b)
      (λ h. byte_sound (Bytes c) (Bytes c) (λ bs. b ∷ bs) b i bytes (bytes_from c end bytes)
      (λ bs text is. bytes_as (more_within c b bs h is.within) (ap (λ (z : List ℕ). b ∷ z) is.spelled)) (bytes_sound end i bytes))
      (λ _. takes_none (bytes_as refl refl))

  bytes_again : (end : ℕ) (bs rest : List ℕ) → list_all (has c) bs ≡ true → Ends c rest
      → bytes_from c end (bs ++ rest) ≡ Ok (bs, rest)
  bytes_again end [] [] all h = refl
  bytes_again end [] (x ∷ rest) all h = rw h refl
  bytes_again end (b ∷ bs) rest all h =
      let p = and_parts (has c b) (list_all (has c) bs) all in
      rw (p.0, bytes_again end bs rest p.1 h) refl

  bytes_left : (end : ℕ) (bytes : List ℕ) → left (bytes_from c end bytes) ≤ length bytes
  bytes_left end bytes = outcome_left (Bytes c) 0 bytes (bytes_from c end bytes) (bytes_sound end 0 bytes)

  bytes_agree : (end last : ℕ) (p : List ℕ) (x : ℕ) (q r : List ℕ) → Agree x q r (bytes_from c end (p ++ x ∷ q)) (bytes_from c last (p ++ x ∷ r))
  bytes_agree end last [] x q r =
      let y = bytes_from c end q in
      let z = bytes_from c last r in
      cond_agree x q r (push_byte x y) (Ok ([], x ∷ q)) (push_byte x z) (Ok ([], x ∷ r)) (has c x)
      (made_agree (λ bs. x ∷ bs) x q r y z (past (bytes_left end q) (bytes_left last r))) (kept [] [] refl refl)
  bytes_agree end last (b ∷ p) x q r =
      let y = bytes_from c end (p ++ x ∷ q) in
      let z = bytes_from c last (p ++ x ∷ r) in
      cond_agree x q r (push_byte b y) (Ok ([], b ∷ (p ++ x ∷ q))) (push_byte b z) (Ok ([], b ∷ (p ++ x ∷ r))) (has c b)
      (made_agree (λ bs. b ∷ bs) x q r y z (bytes_agree end last p x q r)) (kept [] (b ∷ p) refl refl)

  pub all_begin : (bs : List ℕ) → list_all (has c) bs ≡ true → Begins c true bs
  all_begin [] h = refl
  all_begin (b ∷ bs) h = (and_parts (has c b) (list_all (has c) bs) h).0

  bytes_from_lawful : Lawful (Bytes c) (bytes_from c) c true c
  bytes_from_lawful = record {
    reads = record {
      sound = λ end i bytes n. bytes_sound end i bytes;
      agree = λ end last i p x q r m n. bytes_agree end last p x q r;
      begins = λ i bs text is. subst (Begins c true) (sym is.spelled) (all_begin bs is.within);
    };
    again = λ end i bs text rest is h n. rw is.spelled (bytes_again end bs rest is.within h);
  }

  pub bytes_lawful : Lawful (Bytes c) (bytes_at c) c true c
  bytes_lawful = same_ok (bytes_at c) (bytes_from_is c) bytes_from_lawful

  pub no_text : (j : ℕ) → Some_text (Bytes c) j
  no_text j = record { value = []; text = []; is = bytes_as refl refl }

-- ---- one byte or more, up to a number of them

few_as : {c : Class} {room i : ℕ} {bs text : List ℕ} → list_all (has c) bs ≡ true → length bs ≤ room → text ≡ bs → Few c room i bs text
few_as h u e = record { within = h; few = u; spelled = e }

module _ (c : Class) where
  pub few_more : (room b i : ℕ) (bytes : List ℕ) (x : Read (List ℕ)) → has c b ≡ true → Outcome (Few c room) i bytes x
      → Outcome (Few c (suc room)) i (b ∷ bytes) (x >>= λ v. Ok (b ∷ v.0, v.1))
  few_more room b i bytes x h o =
      byte_sound (Few c room) (Few c (suc room)) (λ bs. b ∷ bs) b i bytes x
      (λ bs text is. few_as (more_within c b bs h is.within) (omega (arith, is.few)) (ap (λ (z : List ℕ). b ∷ z) is.spelled)) o

  pub few_none : (room i : ℕ) (bytes : List ℕ) → Takes (Few c room) i bytes [] bytes
  few_none room i bytes = takes_none (few_as refl (omega arith) refl)

  few_sound : (room end i : ℕ) (bytes : List ℕ) → Outcome (Few c room) i bytes (few_at c room end bytes)
  few_sound zero end i [] = few_none zero i []
  few_sound (suc room) end i [] = few_none (suc room) i []
  few_sound zero end i (b ∷ bytes) =
      cond_sound (Few c zero) i (b ∷ bytes) (Err (length (b ∷ bytes))) (Ok ([], b ∷ bytes)) (has c b)
      (λ _. begun_none [] [] (few_as refl (omega arith) refl)) (λ _. few_none zero i (b ∷ bytes))
  few_sound (suc room) end i (b ∷ bytes) =
      cond_sound (Few c (suc room)) i (b ∷ bytes) (push_byte b (few_at c room end bytes)) (Ok ([], b ∷ bytes)) (has c b)
      (λ h. few_more room b i bytes (few_at c room end bytes) h (few_sound room end i bytes)) (λ _. few_none (suc room) i (b ∷ bytes))

  few_again : (room end : ℕ) (bs rest : List ℕ) → list_all (has c) bs ≡ true → length bs ≤ room → Ends c rest
      → few_at c room end (bs ++ rest) ≡ Ok (bs, rest)
  few_again zero end [] [] all u h = refl
  few_again (suc room) end [] [] all u h = refl
  few_again zero end [] (x ∷ rest) all u h = rw h refl
  few_again (suc room) end [] (x ∷ rest) all u h = rw h refl
  few_again zero end (b ∷ bs) rest all u h = absurd (omega arith)
  few_again (suc room) end (b ∷ bs) rest all u h =
      let p = and_parts (has c b) (list_all (has c) bs) all in
      rw (p.0, few_again room end bs rest p.1 (omega arith) h) refl

  pub few_left : (room end : ℕ) (bytes : List ℕ) → left (few_at c room end bytes) ≤ length bytes
  few_left room end bytes = outcome_left (Few c room) 0 bytes (few_at c room end bytes) (few_sound room end 0 bytes)

  few_agree : (room end last : ℕ) (p : List ℕ) (x : ℕ) (q r : List ℕ) → Agree x q r (few_at c room end (p ++ x ∷ q)) (few_at c room last (p ++ x ∷ r))
  few_agree zero end last [] x q r =
      cond_agree {A = List ℕ} x q r (Err (length (x ∷ q))) (Ok ([], x ∷ q)) (Err (length (x ∷ r))) (Ok ([], x ∷ r)) (has c x)
      (stuck_here [] x q r) (kept [] [] refl refl)
  few_agree zero end last (b ∷ p) x q r =
      let y = b ∷ (p ++ x ∷ q) in
      let z = b ∷ (p ++ x ∷ r) in
      cond_agree {A = List ℕ} x q r (Err (length y)) (Ok ([], y)) (Err (length z)) (Ok ([], z)) (has c b) (stuck_here (b ∷ p) x q r) (kept [] (b ∷ p) refl refl)
  few_agree (suc room) end last [] x q r =
      let y = few_at c room end q in
      let z = few_at c room last r in
      cond_agree x q r (push_byte x y) (Ok ([], x ∷ q)) (push_byte x z) (Ok ([], x ∷ r)) (has c x)
      (made_agree (λ bs. x ∷ bs) x q r y z (past (few_left room end q) (few_left room last r))) (kept [] [] refl refl)
  few_agree (suc room) end last (b ∷ p) x q r =
      let y = few_at c room end (p ++ x ∷ q) in
      let z = few_at c room last (p ++ x ∷ r) in
      cond_agree x q r (push_byte b y) (Ok ([], b ∷ (p ++ x ∷ q))) (push_byte b z) (Ok ([], b ∷ (p ++ x ∷ r))) (has c b)
      (made_agree (λ bs. b ∷ bs) x q r y z (few_agree room end last p x q r)) (kept [] (b ∷ p) refl refl)

run_as : {c : Class} {most i : ℕ} {bs text : List ℕ} → list_all (has c) bs ≡ true → 0 < length bs → length bs ≤ most → text ≡ bs → Run c most i bs text
run_as h some few e = record { within = h; some = some; few = few; spelled = e }

module _ (c : Class) (most : ℕ) (room : 0 < most) (w : ℕ) (known : has c w ≡ true) where
  run_one : (i : ℕ) → Run c most i (w ∷ []) (w ∷ [])
  run_one i = run_as (more_within c w [] known refl) (omega arith) (omega arith) refl

  run_sound : (end i : ℕ) (bytes : List ℕ) → Outcome (Run c most) i bytes (run_at c most end bytes)
  run_sound end i [] = begun_none (w ∷ []) (w ∷ []) (run_one i)
  run_sound end i (b ∷ bytes) =
      cond_sound (Run c most) i (b ∷ bytes) (push_byte b (few_at c (most - 1) end bytes)) (Err (length (b ∷ bytes))) (has c b)
      (λ h. byte_sound (Few c (most - 1)) (Run c most) (λ bs. b ∷ bs) b i bytes (few_at c (most - 1) end bytes)
      (λ bs text is. run_as (more_within c b bs h is.within) (omega arith) (omega (arith, is.few)) (ap (λ (z : List ℕ). b ∷ z) is.spelled))
      (few_sound c (most - 1) end i bytes))
      (λ _. begun_none (w ∷ []) (w ∷ []) (run_one i))

  run_again : (end : ℕ) (bs rest : List ℕ) → list_all (has c) bs ≡ true → 0 < length bs → length bs ≤ most → Ends c rest
      → run_at c most end (bs ++ rest) ≡ Ok (bs, rest)
  run_again end [] rest all some few h = absurd (omega arith)
  run_again end (b ∷ bs) rest all some few h =
      let p = and_parts (has c b) (list_all (has c) bs) all in
      rw (p.0, few_again c (most - 1) end bs rest p.1 (omega arith) h) refl

  run_agree : (end last : ℕ) (p : List ℕ) (x : ℕ) (q r : List ℕ) → Agree x q r (run_at c most end (p ++ x ∷ q)) (run_at c most last (p ++ x ∷ r))
  run_agree end last [] x q r =
      let y = few_at c (most - 1) end q in
      let z = few_at c (most - 1) last r in
      cond_agree x q r (push_byte x y) (Err (length (x ∷ q))) (push_byte x z) (Err (length (x ∷ r))) (has c x)
      (made_agree (λ bs. x ∷ bs) x q r y z (past (few_left c (most - 1) end q) (few_left c (most - 1) last r))) (stuck_here [] x q r)
  run_agree end last (b ∷ p) x q r =
      let y = few_at c (most - 1) end (p ++ x ∷ q) in
      let z = few_at c (most - 1) last (p ++ x ∷ r) in
      cond_agree x q r (push_byte b y) (Err (length (b ∷ (p ++ x ∷ q)))) (push_byte b z) (Err (length (b ∷ (p ++ x ∷ r)))) (has c b)
      (made_agree (λ bs. b ∷ bs) x q r y z (few_agree c (most - 1) end last p x q r)) (stuck_here (b ∷ p) x q r)

  some_begin : (bs : List ℕ) → list_all (has c) bs ≡ true → 0 < length bs → Begins c false bs
  some_begin [] h some = absurd (omega arith)
  some_begin (b ∷ bs) h some = (and_parts (has c b) (list_all (has c) bs) h).0

  pub run_lawful : Lawful (Run c most) (run_at c most) c false c
  run_lawful = record {
    reads = record {
      sound = λ end i bytes n. run_sound end i bytes;
      agree = λ end last i p x q r m n. run_agree end last p x q r;
      begins = λ i bs text is. subst (Begins c false) (sym is.spelled) (some_begin bs is.within is.some);
    };
    again = λ end i bs text rest is h n. rw is.spelled (run_again end bs rest is.within is.some is.few h);
  }

  pub run_text : (j : ℕ) → Some_text (Run c most) j
  run_text j = record { value = w ∷ []; text = w ∷ []; is = run_one j }

-- reading that stopped did so at no byte of the set
abbrev pub Halts : {A : Type 0} → Class → Read A → Type 0
Halts c (Ok x) = Ends c x.1
Halts c (Err n) = Unit {0}

halts_made : {A B : Type 0} (c : Class) (h : A → B) (x : Read A) → Halts c x → Halts c (x >>= λ v. Ok (h v.0, v.1))
halts_made c h (Ok v) k = k
halts_made c h (Err n) k = tt

halts_cond : {A : Type 0} (c : Class) (x y : Read A) (t : Bool) → Halts c x → (t ≡ false → Halts c y) → Halts c (cond t x y)
halts_cond c x y true h k = h
halts_cond c x y false h k = k refl

few_halts : (c : Class) (room end : ℕ) (bytes : List ℕ) → Halts c (few_at c room end bytes)
few_halts c zero end [] = tt
few_halts c (suc room) end [] = tt
few_halts c zero end (b ∷ bytes) = halts_cond {A = List ℕ} c (Err (length (b ∷ bytes))) (Ok ([], b ∷ bytes)) (has c b) tt (λ h. h)
few_halts c (suc room) end (b ∷ bytes) =
    let x = few_at c room end bytes in
    halts_cond c (push_byte b x) (Ok ([], b ∷ bytes)) (has c b) (halts_made c (λ v. b ∷ v) x (few_halts c room end bytes)) (λ h. h)

pub run_halts : (c : Class) (most end : ℕ) (bytes : List ℕ) → Halts c (run_at c most end bytes)
run_halts c most end [] = tt
run_halts c most end (b ∷ bytes) =
    let x = few_at c (most - 1) end bytes in
    halts_cond c (push_byte b x) (Err (length (b ∷ bytes))) (has c b) (halts_made c (λ v. b ∷ v) x (few_halts c (most - 1) end bytes)) (λ _. tt)
