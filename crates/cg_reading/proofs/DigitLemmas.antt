-- How digits are read, one after the other, and that so many digits fit.
use Rattle.std.proofs.Common.{◌≡◌, ℕ, zero, suc, ◌+◌, ◌-◌, ◌*◌, ◌^◌, ◌<◌, ◌≤◌, Bool, true, false, cond, List, [], ◌∷◌, ◌++◌}
use Rattle.std.proofs.Common.{length, Ok, Err, refl, ap, sym, ◌∙◌, arith, append_assoc, append-nil, length-append, ◌&&◌, leb}
use Rattle.std.specs.Prelude.{ltb}
use Rattle.std.specs.List.{list_all}
use Rattle.std.specs.Char.{digit_value}
use Rattle.std.specs.Str.Parse.{AllDigits, digits_value}
use Rattle.std.proofs.Math.Nat.{pow-suc, pow-le-pow_right}
use Rattle.std.proofs.Math.Bool.{or-false}
use Rattle.std.proofs.lemmas.Bool.{and_parts, and_from, leb-true, le-ltb, lt-ltb, ltb-true, ltb-false}
use Rattle.std.proofs.lemmas.List.Folds.{list_all-append}
use Rattle.std.proofs.lemmas.Str.{digit_value_digit}
use Rattle.std.proofs.lemmas.Int.Digits.{digits_value-lt, digits_value_push}
use Rattle.cg_reading.specs.Bytes.{Class, has, Ends}
use Rattle.cg_reading.specs.Tokens.{digit}
use Rattle.cg_reading.specs.Readers.{Read, ◌>>=◌, made_at, few_at, run_at, taken, skipped}
use Rattle.cg_reading.specs.TokenReaders.{number_of, few_digits_at}
use Rattle.cg_reading.proofs.Skip.{taken_length}

-- ---- digits and their number

digit_range : (b : ℕ) → has digit b ≡ true → (48 ≤ b) × (b ≤ 57)
digit_range b h = let p = and_parts (leb 48 b) (leb b 57) (sym (or-false (leb 48 b && leb b 57)) ∙ h) in (leb-true 48 b p.0, leb-true b 57 p.1)

digit_is : (b : ℕ) → has digit b ≡ true → b - 48 ≡ digit_value b
digit_is b h = let r = digit_range b h in let e = digit_value_digit b r in omega arith

all_digits : (ds : List ℕ) → list_all (has digit) ds ≡ true → AllDigits 10 ds
all_digits [] h = tt
all_digits (d ∷ ds) h =
    let p = and_parts (has digit d) (list_all (has digit) ds) h in
    let e = digit_is d p.0 in
    let r = digit_range d p.0 in
    (omega (arith, e, r), all_digits ds p.1)

-- so many digits spell a number below that power of ten
pub digits_below : (most : ℕ) (ds : List ℕ) → list_all (has digit) ds ≡ true → length ds ≤ most → digits_value 10 ds < 10 ^ most
digits_below most ds all few =
    let below : digits_value 10 ds < 10 ^ length ds = digits_value-lt 10 ds (all_digits ds all) in
    let more : 10 ^ length ds ≤ 10 ^ most = pow-le-pow_right (omega arith) few in
    omega (arith, below, more)

-- ---- all bytes of a set that come in front

taken_all : (c : Class) (front rest : List ℕ) → list_all (has c) front ≡ true → taken c (front ++ rest) ≡ front ++ taken c rest
taken_all c [] rest all = refl
taken_all c (b ∷ front) rest all = let p = and_parts (has c b) (list_all (has c) front) all in rw p.0 (ap (λ (z : List ℕ). b ∷ z) (taken_all c front rest p.1))

skipped_all : (c : Class) (front rest : List ℕ) → list_all (has c) front ≡ true → skipped c (front ++ rest) ≡ skipped c rest
skipped_all c [] rest all = refl
skipped_all c (b ∷ front) rest all = let p = and_parts (has c b) (list_all (has c) front) all in rw p.0 (skipped_all c front rest p.1)

taken_none : (c : Class) (rest : List ℕ) → Ends c rest → taken c rest ≡ []
taken_none c [] ends = refl
taken_none c (b ∷ rest) ends = rw ends refl

skipped_none : (c : Class) (rest : List ℕ) → Ends c rest → skipped c rest ≡ rest
skipped_none c [] ends = refl
skipped_none c (b ∷ rest) ends = rw ends refl

abbrev pushed : ℕ → Read (List ℕ) → Read (List ℕ)
pushed b x = x >>= λ y. Ok (b ∷ y.0, y.1)

one_more : (room n : ℕ) → ltb room n ≡ ltb (suc room) (suc n)
one_more room n = tells (ltb room n) refl
  where
    tells : (t : Bool) → ltb room n ≡ t → ltb room n ≡ ltb (suc room) (suc n)
    tells true e = let l = ltb-true room n e in e ∙ sym (lt-ltb (suc room) (suc n) (omega (arith, l)))
    tells false e = let l = ltb-false room n e in e ∙ sym (le-ltb (suc room) (suc n) (omega (arith, l)))

-- what was read, unless there are too many bytes
abbrev unless_many : {A : Type 0} → Bool → ℕ → A × List ℕ → Read A
unless_many many left x = cond many (Err left) (Ok x)

not_many : {A : Type 0} (room left : ℕ) (x : A × List ℕ) → unless_many (ltb room 0) left x ≡ Ok x
not_many room left x = ap (λ (t : Bool). unless_many t left x) (le-ltb room 0 (omega arith))

-- how many bytes are left at the first one too many
abbrev left_of : ℕ → List ℕ → List ℕ → ℕ
left_of room bs rest = length bs - room + length rest

-- a run with room for so many bytes is all bytes in front, where they are no more
few_at_is : (c : Class) (room end : ℕ) (bytes : List ℕ)
    → few_at c room end bytes ≡ unless_many (ltb room (length (taken c bytes))) (left_of room (taken c bytes) (skipped c bytes)) (taken c bytes, skipped c bytes)
few_at_is c zero end [] = refl
few_at_is c (suc room) end [] = sym (not_many (suc room) (left_of (suc room) [] []) ([], []))
few_at_is c zero end (b ∷ bytes) = chosen (has c b)
  where
    chosen : (t : Bool) → cond t (Err (length (b ∷ bytes))) (Ok ([], b ∷ bytes))
        ≡ (let bs = cond t (b ∷ taken c bytes) [] in let rest = cond t (skipped c bytes) (b ∷ bytes) in unless_many (ltb zero (length bs)) (left_of zero bs rest) (bs, rest))
    chosen true =
        let left : suc (length bytes) ≡ left_of zero (b ∷ taken c bytes) (skipped c bytes) = omega (arith, taken_length c bytes) in
        ap (λ (n : ℕ). unless_many true n (b ∷ taken c bytes, skipped c bytes)) left
        ∙ ap (λ (t : Bool). unless_many t (left_of zero (b ∷ taken c bytes) (skipped c bytes)) (b ∷ taken c bytes, skipped c bytes)) (sym (lt-ltb zero (suc (length (taken c bytes))) (omega arith)))
    chosen false = refl
few_at_is c (suc room) end (b ∷ bytes) = chosen (has c b) (few_at_is c room end bytes)
  where
    pushed_choice : (t : Bool) (m : ℕ) (y : List ℕ × List ℕ) → pushed b (unless_many t m y) ≡ unless_many t m (b ∷ y.0, y.1)
    pushed_choice true m y = refl
    pushed_choice false m y = refl

    chosen : (t : Bool) → few_at c room end bytes ≡ unless_many (ltb room (length (taken c bytes))) (left_of room (taken c bytes) (skipped c bytes)) (taken c bytes, skipped c bytes)
        → cond t (pushed b (few_at c room end bytes)) (Ok ([], b ∷ bytes))
        ≡ (let bs = cond t (b ∷ taken c bytes) [] in let rest = cond t (skipped c bytes) (b ∷ bytes) in unless_many (ltb (suc room) (length bs)) (left_of (suc room) bs rest) (bs, rest))
    chosen true e =
        let left : left_of room (taken c bytes) (skipped c bytes) ≡ left_of (suc room) (b ∷ taken c bytes) (skipped c bytes) = omega arith in
        ap (pushed b) e ∙ pushed_choice (ltb room (length (taken c bytes))) (left_of room (taken c bytes) (skipped c bytes)) (taken c bytes, skipped c bytes)
        ∙ ap (λ (t : Bool). unless_many t (left_of room (taken c bytes) (skipped c bytes)) (b ∷ taken c bytes, skipped c bytes)) (one_more room (length (taken c bytes)))
        ∙ ap (λ (n : ℕ). unless_many (ltb (suc room) (suc (length (taken c bytes)))) n (b ∷ taken c bytes, skipped c bytes)) left
    chosen false e = sym (not_many (suc room) (left_of (suc room) [] (b ∷ bytes)) ([], b ∷ bytes))

abbrev valued : Read (List ℕ) → Read ℕ
valued x = x >>= λ y. Ok (digits_value 10 y.0, y.1)

-- a run of digits, by what it spells
pub few_digits_at_is : (most : ℕ) → 0 < most → (end : ℕ) (bytes : List ℕ) → made_at (digits_value 10) (run_at digit most) end bytes ≡ few_digits_at most end bytes
unfolding few_digits_at
few_digits_at_is most some end [] = refl
few_digits_at_is most some end (b ∷ bytes) = chosen (has digit b)
  where
    valued_choice : (t : Bool) (m : ℕ) (y : List ℕ × List ℕ) → valued (pushed b (unless_many t m y)) ≡ unless_many t m (digits_value 10 (b ∷ y.0), y.1)
    valued_choice true m y = refl
    valued_choice false m y = refl

    chosen : (t : Bool) → valued (cond t (pushed b (few_at digit (most - 1) end bytes)) (Err (length (b ∷ bytes))))
        ≡ number_of most (cond t (b ∷ taken digit bytes) []) (cond t (skipped digit bytes) (b ∷ bytes))
    chosen true =
        let k : suc (most - 1) ≡ most = omega arith in
        let left : left_of (most - 1) (taken digit bytes) (skipped digit bytes) ≡ left_of most (b ∷ taken digit bytes) (skipped digit bytes) = omega arith in
        ap (λ (z : Read (List ℕ)). valued (pushed b z)) (few_at_is digit (most - 1) end bytes)
        ∙ valued_choice (ltb (most - 1) (length (taken digit bytes))) (left_of (most - 1) (taken digit bytes) (skipped digit bytes)) (taken digit bytes, skipped digit bytes)
        ∙ ap (λ (t : Bool). unless_many t (left_of (most - 1) (taken digit bytes) (skipped digit bytes)) (digits_value 10 (b ∷ taken digit bytes), skipped digit bytes))
        (one_more (most - 1) (length (taken digit bytes)) ∙ ap (λ (n : ℕ). ltb n (suc (length (taken digit bytes)))) k)
        ∙ ap (λ (n : ℕ). unless_many (ltb most (suc (length (taken digit bytes)))) n (digits_value 10 (b ∷ taken digit bytes), skipped digit bytes)) left
    chosen false = refl

-- ---- the loop over digits

-- the digits in front of what is left spell this value, and so many more may come
pub record AreRead (most room value : ℕ) (bytes rest : List ℕ) : Type 0 where
  pub front : List ℕ
  pub spelled : bytes ≡ front ++ rest
  pub digits : list_all (has digit) front ≡ true
  pub some : 0 < length front
  pub count : length front + room ≡ most
  pub spells : value ≡ digits_value 10 front

pub first_read : (most value b : ℕ) (bytes rest : List ℕ) → bytes ≡ b ∷ rest → has digit b ≡ true → 0 < most → value ≡ b - 48 → AreRead most (most - 1) value bytes rest
first_read most value b bytes rest e d some v =
    let one : digit_value b ≡ digits_value 10 (b ∷ []) = omega arith in
    record { front = b ∷ []; spelled = e; digits = and_from (has digit b) true d refl; some = omega arith; count = omega arith; spells = v ∙ digit_is b d ∙ one }

module _ {most room value : ℕ} {bytes rest : List ℕ} (r : AreRead most room value bytes rest) where
  pub next_read : (b d : ℕ) (later : List ℕ) → rest ≡ b ∷ later → has digit b ≡ true → 0 < room → d ≡ b - 48 → AreRead most (room - 1) (value * 10 + d) bytes later
  next_read b d later e h some v = record {
    front = r.front ++ b ∷ [];
    spelled = r.spelled ∙ ap (λ (z : List ℕ). r.front ++ z) e ∙ sym (append_assoc r.front (b ∷ []) later);
    digits = list_all-append (has digit) r.front (b ∷ []) ∙ and_from (list_all (has digit) r.front) (has digit b && true) r.digits (and_from (has digit b) true h refl);
    some = omega (arith, length-append r.front (b ∷ []));
    count = omega (arith, r.count, length-append r.front (b ∷ []));
    spells = omega (arith, r.spells, v, digit_is b h, digits_value_push 10 r.front b);
  }

  pub value_below : value < 10 ^ most
  value_below = let below = digits_below most r.front r.digits (omega (arith, r.count)) in omega (arith, r.spells, below)

  -- one more digit fits
  pub next_fits : 0 < room → most ≤ 30 → value * 10 + 10 ≤ 10 ^ 30
  next_fits some few =
      let below = digits_below (length r.front) r.front r.digits (omega arith) in
      let shorter : suc (length r.front) ≤ 30 = omega (arith, r.count) in
      let more : 10 ^ suc (length r.front) ≤ 10 ^ 30 = pow-le-pow_right (omega arith) shorter in
      omega (arith, r.spells, below, pow-suc 10 (length r.front), more)

  pub shorter : length rest < length bytes
  shorter = omega (arith, ap length r.spelled, length-append r.front rest, r.some)

  -- the number, where these more digits come, and this is behind them
  known : (ds behind : List ℕ) → taken digit rest ≡ ds → skipped digit rest ≡ behind → (end : ℕ)
      → few_digits_at most end bytes ≡ unless_many (ltb most (length (r.front ++ ds))) (left_of most (r.front ++ ds) behind) (digits_value 10 (r.front ++ ds), behind)
  unfolding few_digits_at
  known ds behind e f end =
      ap (λ (z : List ℕ). number_of most (taken digit z) (skipped digit z)) r.spelled
      ∙ ap (λ (z : List ℕ). number_of most z (skipped digit (r.front ++ rest))) (taken_all digit r.front rest r.digits ∙ ap (λ (z : List ℕ). r.front ++ z) e)
      ∙ ap (λ (z : List ℕ). number_of most (r.front ++ ds) z) (skipped_all digit r.front rest r.digits ∙ f)
      ∙ by_first (r.front ++ ds) (omega (arith, r.some, length-append r.front ds))
    where
      by_first : (bs : List ℕ) → 0 < length bs → number_of most bs behind ≡ unless_many (ltb most (length bs)) (left_of most bs behind) (digits_value 10 bs, behind)
      by_first [] h = absurd (omega arith)
      by_first (b ∷ bs) h = refl

  -- no digit comes
  pub read_whole : Ends digit rest → (end : ℕ) → few_digits_at most end bytes ≡ Ok (value, rest)
  read_whole ends end =
      known [] rest (taken_none digit rest ends) (skipped_none digit rest ends) end
      ∙ ap (λ (z : List ℕ). unless_many (ltb most (length z)) (left_of most z rest) (digits_value 10 z, rest)) (append-nil r.front)
      ∙ ap (λ (t : Bool). unless_many t (left_of most r.front rest) (digits_value 10 r.front, rest)) (le-ltb most (length r.front) (omega (arith, r.count)))
      ∙ ap (λ (n : ℕ). Ok (n, rest)) (sym r.spells)

  -- one digit too many comes
  pub read_too_many : (b : ℕ) (later : List ℕ) → rest ≡ b ∷ later → has digit b ≡ true → room ≡ 0 → (end : ℕ) → few_digits_at most end bytes ≡ Err (length rest)
  read_too_many b later e h full end =
      let ds = b ∷ taken digit later in
      let more : taken digit (b ∷ later) ≡ ds = rw h refl in
      let behind : skipped digit (b ∷ later) ≡ skipped digit later = rw h refl in
      let long = length-append r.front ds in
      let left : left_of most (r.front ++ ds) (skipped digit later) ≡ length rest = omega (arith, long, r.count, full, ap length e, taken_length digit later) in
      known ds (skipped digit later) (ap (taken digit) e ∙ more) (ap (skipped digit) e ∙ behind) end
      ∙ ap (λ (t : Bool). unless_many t (left_of most (r.front ++ ds) (skipped digit later)) (digits_value 10 (r.front ++ ds), skipped digit later)) (lt-ltb most (length (r.front ++ ds)) (omega (arith, long, r.count, full)))
      ∙ ap (λ (n : ℕ). Err n) left
