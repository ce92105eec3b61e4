-- Runs of bars by what is taken.
use Rattle.std.proofs.Common.{◌≡◌, ℕ, zero, suc, ◌-◌, ◌<◌, ◌≤◌, Bool, true, false, cond, List, [], ◌∷◌, length, Ok, Err, refl, ap, ◌∙◌, arith}
use Rattle.cg_reading.specs.Bytes.{Class, has}
use Rattle.cg_reading.specs.Readers.{Read, ◌>>=◌, taken, skipped, few_at}
use Rattle.cg_grammar.specs.Grammar.{bar}
use Rattle.cg_grammar.specs.OperandReading.{bars_at}
use Rattle.cg_reading.proofs.Skip.{taken_length}

abbrev pushed : ℕ → Read (List ℕ) → Read (List ℕ)
pushed b x = x >>= λ v. Ok (b ∷ v.0, v.1)

few_short : (c : Class) (room end : ℕ) (bytes : List ℕ) → length (taken c bytes) ≤ room → few_at c room end bytes ≡ Ok (taken c bytes, skipped c bytes)
few_short c zero end [] u = refl
few_short c (suc room) end [] u = refl
few_short c zero end (b ∷ bytes) u = chosen (has c b) u
  where
    chosen : (t : Bool) → length (cond t (b ∷ taken c bytes) []) ≤ 0 → cond {A = Read (List ℕ)} t (Err (length (b ∷ bytes))) (Ok ([], b ∷ bytes))
        ≡ Ok (cond t (b ∷ taken c bytes) [], cond t (skipped c bytes) (b ∷ bytes))
    chosen true u = absurd (omega arith)
    chosen false u = refl
few_short c (suc room) end (b ∷ bytes) u = chosen (has c b) u (few_short c room end bytes)
  where
    chosen : (t : Bool) → length (cond t (b ∷ taken c bytes) []) ≤ suc room → (length (taken c bytes) ≤ room → few_at c room end bytes ≡ Ok (
      taken c bytes,
      skipped c bytes,
    )) → cond t (pushed b (few_at c room end bytes)) (Ok ([], b ∷ bytes)) ≡ Ok (
      cond t (b ∷ taken c bytes) [],
      cond t (skipped c bytes)
          (b ∷ bytes),
    )
    chosen true u more = ap (pushed b) (more (omega arith))
    chosen false u more = refl

few_long : (c : Class) (room end : ℕ) (bytes : List ℕ) → room < length (taken c bytes) → few_at c room end bytes ≡ Err (length bytes - room)
few_long c zero end [] u = absurd (omega arith)
few_long c (suc room) end [] u = absurd (omega arith)
few_long c zero end (b ∷ bytes) u = chosen (has c b) u
  where
    size : length (b ∷ bytes) ≡ length (b ∷ bytes) - 0
    size = omega arith

    chosen : (t : Bool) → 0 < length (cond t (b ∷ taken c bytes) []) → cond {A = Read (List ℕ)} t (Err (length (b ∷ bytes))) (Ok ([], b ∷ bytes))
        ≡ Err (length (b ∷ bytes) - 0)
    chosen true u = ap (λ (n : ℕ). Err n) size
    chosen false u = absurd (omega arith)
few_long c (suc room) end (b ∷ bytes) u = chosen (has c b) u (few_long c room end bytes)
  where
    size : length bytes - room ≡ length (b ∷ bytes) - suc room
    size = omega arith

    chosen : (t : Bool) → suc room < length (cond t (b ∷ taken c bytes) []) → (room < length (taken c bytes) → few_at c room end bytes
        ≡ Err (length bytes - room)) → cond t (pushed b (few_at c room end bytes)) (Ok ([], b ∷ bytes)) ≡ Err (length (b ∷ bytes) - suc room)
    chosen true u more = ap (pushed b) (more (omega arith)) ∙ ap (λ (n : ℕ). Err n) size
    chosen false u more = absurd (omega arith)

abbrev lengths : Read (List ℕ) → Read ℕ
lengths x = x >>= λ v. Ok (length v.0, v.1)

abbrev at_column : ℕ → Read ℕ → Read (ℕ × ℕ)
at_column column x = x >>= λ v. Ok ((column, v.0), v.1)

abbrev placed : ℕ → ℕ → Read (List ℕ) → Read (ℕ × ℕ)
placed end size x = at_column (end - size) (lengths x)

pub bars_none : (end : ℕ) (bytes : List ℕ) → length bytes - length (skipped bar bytes) ≡ 0 → bars_at end bytes ≡ Err (length bytes)
unfolding bars_at
bars_none end [] h = refl
bars_none end (b ∷ bytes) h = chosen (has bar b) (omega (arith, h, taken_length bar (b ∷ bytes)))
  where
    chosen : (t : Bool) → length (cond t (b ∷ taken bar bytes) []) ≡ 0 → placed end (length (b ∷ bytes)) (cond t (pushed b (few_at bar 7 end bytes))
        (Err (length (b ∷ bytes)))) ≡ Err (length (b ∷ bytes))
    chosen true h = absurd (omega arith)
    chosen false h = refl

pub bars_many : (end : ℕ) (bytes : List ℕ) → 8 < length bytes - length (skipped bar bytes) → bars_at end bytes ≡ Err (length bytes - 8)
unfolding bars_at
bars_many end [] h = absurd (omega arith)
bars_many end (b ∷ bytes) h = chosen (has bar b) (omega (arith, h, taken_length bar (b ∷ bytes)))
  where
    size : length bytes - 7 ≡ length (b ∷ bytes) - 8
    size = omega arith

    chosen : (t : Bool) → 8 < length (cond t (b ∷ taken bar bytes) []) → placed end (length (b ∷ bytes)) (cond t (pushed b (few_at bar 7 end bytes))
        (Err (length (b ∷ bytes)))) ≡ Err (length (b ∷ bytes) - 8)
    chosen true h = ap (λ z. placed end (length (b ∷ bytes)) (pushed b z)) (few_long bar 7 end bytes (omega arith)) ∙ ap (λ (n : ℕ). Err n) size
    chosen false h = absurd (omega arith)

pub bars_few : (end : ℕ) (bytes : List ℕ) → 0 < length bytes - length (skipped bar bytes) → length bytes - length (skipped bar bytes) ≤ 8 → bars_at end bytes
    ≡ Ok ((end - length bytes, length bytes - length (skipped bar bytes)), skipped bar bytes)
unfolding bars_at
bars_few end [] h u = absurd (omega arith)
bars_few end (b ∷ bytes) h u = chosen (has bar b) (omega (arith, h, taken_length bar (b ∷ bytes))) (omega (arith, u, taken_length bar (b ∷ bytes)))
    ∙ ap (λ (n : ℕ). Ok ((end - length (b ∷ bytes), n), skipped bar (b ∷ bytes))) (omega (arith, taken_length bar (b ∷ bytes)))
  where
    chosen : (t : Bool) → 0 < length (cond t (b ∷ taken bar bytes) []) → length (cond t (b ∷ taken bar bytes) []) ≤ 8 → placed end (length (b ∷ bytes))
        (cond t (pushed b (few_at bar 7 end bytes)) (Err (length (b ∷ bytes)))) ≡ Ok (
          (end - length (b ∷ bytes), length (cond t (b ∷ taken bar bytes) [])),
          cond t (skipped bar bytes) (b ∷ bytes),
        )
    chosen true h u = ap (λ z. placed end (length (b ∷ bytes)) (pushed b z)) (few_short bar 7 end bytes (omega arith))
    chosen false h u = absurd (omega arith)
