-- What is taken and what is skipped.
use Rattle.std.proofs.Common.{◌≡◌, ◌≢◌, ℕ, suc, ◌+◌, ◌-◌, Bool, true, false, cond, List, [], ◌∷◌, length, take, refl, ap, ◌∙◌, arith}
use Rattle.cg_reading.specs.Bytes.{Class, has}
use Rattle.cg_reading.specs.Readers.{taken, skipped}

pub some_item : (x : ℕ) (xs : List ℕ) → x ∷ xs ≢ []
some_item x xs e = cc

pub same_head : (x y : ℕ) (xs ys : List ℕ) → x ∷ xs ≡ y ∷ ys → x ≡ y
same_head x y xs ys e = cc

pub taken_length : (c : Class) (bytes : List ℕ) → length (taken c bytes) + length (skipped c bytes) ≡ length bytes
taken_length c [] = omega arith
taken_length c (b ∷ bytes) = chosen (has c b) (taken_length c bytes)
  where
    chosen : (t : Bool) → length (taken c bytes) + length (skipped c bytes) ≡ length bytes → length (cond t (b ∷ taken c bytes) []) + length (cond t (skipped c bytes) (b ∷ bytes)) ≡ suc (length bytes)
    chosen true h = omega (arith, h)
    chosen false h = omega arith

take_taken : (c : Class) (bytes : List ℕ) → take (length (taken c bytes)) bytes ≡ taken c bytes
take_taken c [] = refl
take_taken c (b ∷ bytes) = chosen (has c b) (take_taken c bytes)
  where
    chosen : (t : Bool) → take (length (taken c bytes)) bytes ≡ taken c bytes → take (length (cond t (b ∷ taken c bytes) [])) (b ∷ bytes) ≡ cond t (b ∷ taken c bytes) []
    chosen true e = ap (λ (z : List ℕ). b ∷ z) e
    chosen false e = refl

-- what is taken is what stands before what is skipped to
pub taken_take : (c : Class) (bytes : List ℕ) → take (length bytes - length (skipped c bytes)) bytes ≡ taken c bytes
taken_take c bytes =
    let n : length bytes - length (skipped c bytes) ≡ length (taken c bytes) = omega (arith, taken_length c bytes) in
    ap (λ (k : ℕ). take k bytes) n ∙ take_taken c bytes

-- a byte and what is taken behind it
pub one_and_taken : (c : Class) (b : ℕ) (bytes rest : List ℕ) → bytes ≡ b ∷ rest → take (length bytes - length (skipped c rest)) bytes ≡ b ∷ taken c rest
one_and_taken c b bytes rest e =
    let n : length bytes - length (skipped c rest) ≡ suc (length (taken c rest)) = omega (arith, ap length e, taken_length c rest) in
    ap (λ (k : ℕ). take k bytes) n ∙ ap (take (suc (length (taken c rest)))) e ∙ ap (λ (z : List ℕ). b ∷ z) (take_taken c rest)
