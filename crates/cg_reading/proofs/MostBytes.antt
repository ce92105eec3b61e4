-- Bytes of a set, up to a number of them, as many as come.
use Rattle.std.proofs.Common.{◌≡◌, ℕ, zero, suc, ◌-◌, ◌≤◌, Bool, true, false, cond, List, [], ◌∷◌}
use Rattle.std.proofs.Common.{◌++◌, length, take, Ok, Err, refl, ap, sym, subst, ◌∙◌, arith}
use Rattle.std.specs.List.{list_all}
use Rattle.std.proofs.lemmas.Bool.{and_parts}
use Rattle.cg_reading.specs.Bytes.{Class, has, Ends, Begins}
use Rattle.cg_reading.specs.Pieces.{Few, more_of}
use Rattle.cg_reading.specs.Readers.{Read, ◌>>=◌, most_at, most_skipped}
use Rattle.cg_reading.proofs.Laws.{kept, past, Agree, Outcome, cond_agree, cond_sound, left, made_agree, outcome_left}
use Rattle.cg_reading.proofs.ByteRuns.{few_more, few_none, all_begin, push_byte}
use Rattle.cg_reading.proofs.Longest.{Full, Token}
use Rattle.cg_reading.proofs.Sets.{apart, inside, no_class}

module _ (c : Class) where
  most_sound : (room end i : ℕ) (bytes : List ℕ) → Outcome (Few c room) i bytes (most_at c room end bytes)
  most_sound zero end i [] = few_none c zero i []
  most_sound (suc room) end i [] = few_none c (suc room) i []
  most_sound zero end i (b ∷ bytes) = few_none c zero i (b ∷ bytes)
  most_sound (suc room) end i (b ∷ bytes) =
      cond_sound (Few c (suc room)) i (b ∷ bytes) (push_byte b (most_at c room end bytes)) (Ok ([], b ∷ bytes)) (has c b)
      (λ h. few_more c room b i bytes (most_at c room end bytes) h (most_sound room end i bytes)) (λ _. few_none c (suc room) i (b ∷ bytes))

  most_again : (room end : ℕ) (bs rest : List ℕ) → list_all (has c) bs ≡ true → length bs ≤ room → Ends (more_of c room bs) rest
      → most_at c room end (bs ++ rest) ≡ Ok (bs, rest)
  most_again zero end [] [] all u h = refl
  most_again (suc room) end [] [] all u h = refl
  most_again zero end [] (x ∷ rest) all u h = refl
  most_again (suc room) end [] (x ∷ rest) all u h = rw h refl
  most_again zero end (b ∷ bs) rest all u h = absurd (omega arith)
  most_again (suc room) end (b ∷ bs) rest all u h =
      let p = and_parts (has c b) (list_all (has c) bs) all in
      rw (p.0, most_again room end bs rest p.1 (omega arith) h) refl

  most_left : (room end : ℕ) (bytes : List ℕ) → left (most_at c room end bytes) ≤ length bytes
  most_left room end bytes = outcome_left (Few c room) 0 bytes (most_at c room end bytes) (most_sound room end 0 bytes)

  most_agree : (room end last : ℕ) (p : List ℕ) (x : ℕ) (q r : List ℕ) → Agree x q r (most_at c room end (p ++ x ∷ q)) (most_at c room last (p ++ x ∷ r))
  most_agree zero end last [] x q r = kept [] [] refl refl
  most_agree zero end last (b ∷ p) x q r = kept [] (b ∷ p) refl refl
  most_agree (suc room) end last [] x q r =
      let y = most_at c room end q in
      let z = most_at c room last r in
      cond_agree x q r (push_byte x y) (Ok ([], x ∷ q)) (push_byte x z) (Ok ([], x ∷ r)) (has c x)
      (made_agree (λ bs. x ∷ bs) x q r y z (past (most_left room end q) (most_left room last r))) (kept [] [] refl refl)
  most_agree (suc room) end last (b ∷ p) x q r =
      let y = most_at c room end (p ++ x ∷ q) in
      let z = most_at c room last (p ++ x ∷ r) in
      cond_agree x q r (push_byte b y) (Ok ([], b ∷ (p ++ x ∷ q))) (push_byte b z) (Ok ([], b ∷ (p ++ x ∷ r))) (has c b)
      (made_agree (λ bs. b ∷ bs) x q r y z (most_agree room end last p x q r)) (kept [] (b ∷ p) refl refl)

  full_more : (room b : ℕ) (x : Read (List ℕ)) → Full (more_of c room) x → Full (more_of c (suc room)) (x >>= λ v. Ok (b ∷ v.0, v.1))
  full_more room b (Ok v) k = k
  full_more room b (Err n) k = tt

  most_full : (room end : ℕ) (bytes : List ℕ) → Full (more_of c room) (most_at c room end bytes)
  most_full zero end [] = tt
  most_full (suc room) end [] = tt
  most_full zero end (b ∷ bytes) = no_class (b ∷ bytes)
  most_full (suc room) end (b ∷ bytes) = chosen (has c b) refl (most_full room end bytes)
    where
      chosen : (t : Bool) → has c b ≡ t → Full (more_of c room) (most_at c room end bytes)
          → Full (more_of c (suc room)) (cond t (push_byte b (most_at c room end bytes)) (Ok ([], b ∷ bytes)))
      chosen true h k = full_more room b (most_at c room end bytes) k
      chosen false h k = h

  pub most_token : (room : ℕ) → Token (Few c room) (most_at c room) c true [] (more_of c room)
  most_token room = record {
    reads = record {
      sound = λ end i bytes n. most_sound room end i bytes;
      agree = λ end last i p x q r m n. most_agree room end last p x q r;
      begins = λ i bs text is. subst (Begins c true) (sym is.spelled) (all_begin c bs is.within);
    };
    full = most_full room;
    again = λ end i bs text rest is h k n. rw is.spelled (most_again room end bs rest is.within is.few k);
  }

-- ---- what would still belong to them

pub more_inside : (c d : Class) → inside c d ≡ true → (most : ℕ) (bs : List ℕ) → inside (more_of c most bs) d ≡ true
more_inside c d h zero bs = refl
more_inside c d h (suc most) [] = h
more_inside c d h (suc most) (b ∷ bs) = more_inside c d h most bs

pub more_apart : (c d : Class) → apart c d ≡ true → apart c [] ≡ true → (most : ℕ) (bs : List ℕ) → apart c (more_of d most bs) ≡ true
more_apart c d h k zero bs = k
more_apart c d h k (suc most) [] = h
more_apart c d h k (suc most) (b ∷ bs) = more_apart c d h k most bs

-- ---- what is taken, by what is left behind it

skipped_within : (c : Class) (room : ℕ) (bytes : List ℕ) → length (most_skipped c room bytes) ≤ length bytes
skipped_within c zero bytes = omega arith
skipped_within c (suc room) [] = omega arith
skipped_within c (suc room) (b ∷ bytes) = chosen (has c b) (skipped_within c room bytes)
  where
    chosen : (t : Bool) → length (most_skipped c room bytes) ≤ length bytes → length (cond t (most_skipped c room bytes) (b ∷ bytes)) ≤ suc (length bytes)
    chosen true h = omega (arith, h)
    chosen false h = omega arith

none_taken : (bytes : List ℕ) → take (length bytes - length bytes) bytes ≡ []
none_taken bytes =
    let n : length bytes - length bytes ≡ 0 = omega arith in
    ap (λ (k : ℕ). take k bytes) n ∙ first bytes
  where
    first : (bs : List ℕ) → take 0 bs ≡ []
    first [] = refl
    first (b ∷ bs) = refl

one_more_taken : (b : ℕ) (bytes rest : List ℕ) → length rest ≤ length bytes → take (length (b ∷ bytes) - length rest) (b ∷ bytes) ≡ b ∷ take (length bytes - length rest) bytes
one_more_taken b bytes rest h =
    let n : length (b ∷ bytes) - length rest ≡ suc (length bytes - length rest) = omega (arith, h) in
    ap (λ (k : ℕ). take k (b ∷ bytes)) n

pub most_is : (c : Class) (room end : ℕ) (bytes : List ℕ) → most_at c room end bytes ≡ Ok (take (length bytes - length (most_skipped c room bytes)) bytes, most_skipped c room bytes)
most_is c zero end [] = refl
most_is c (suc room) end [] = refl
most_is c zero end (b ∷ bytes) = ap (λ (z : List ℕ). Ok (z, b ∷ bytes)) (sym (none_taken (b ∷ bytes)))
most_is c (suc room) end (b ∷ bytes) = chosen (has c b) (most_is c room end bytes)
  where
    chosen : (t : Bool) → most_at c room end bytes ≡ Ok (take (length bytes - length (most_skipped c room bytes)) bytes, most_skipped c room bytes)
        → cond {A = Read (List ℕ)} t (push_byte b (most_at c room end bytes)) (Ok ([], b ∷ bytes))
        ≡ Ok (take (length (b ∷ bytes) - length (cond t (most_skipped c room bytes) (b ∷ bytes))) (b ∷ bytes), cond t (most_skipped c room bytes) (b ∷ bytes))
    chosen true h = ap (push_byte b) h ∙ ap (λ (z : List ℕ). Ok (z, most_skipped c room bytes)) (sym (one_more_taken b bytes (most_skipped c room bytes) (skipped_within c room bytes)))
    chosen false h = ap (λ (z : List ℕ). Ok (z, b ∷ bytes)) (sym (none_taken (b ∷ bytes)))

-- one byte and so many more at most
pub one_and_most : (c : Class) (room b : ℕ) (bytes behind : List ℕ) → bytes ≡ b ∷ behind → take (length bytes - length (most_skipped c room behind)) bytes ≡ b ∷ take (length behind - length (most_skipped c room behind)) behind
one_and_most c room b bytes behind e = ap (λ (z : List ℕ). take (length z - length (most_skipped c room behind)) z) e ∙ one_more_taken b behind (most_skipped c room behind) (skipped_within c room behind)
