-- Bits moved apart.
use Rattle.std.proofs.Common.{◌≡◌, refl, ℕ, zero, suc, ◌+◌, ◌-◌, ◌*◌, ◌/◌, ◌%◌, ◌^◌, ◌<◌, ◌≤◌, ◌==◌, true, ap, sym, ◌∙◌, arith}
use Rattle.cg_moves.specs.declared.planes.Planes.{Planes}
use Rattle.cg_nodes.specs.Boards.{content_of}
use Rattle.cg_values.specs.Contents.{apart, places_at}
use Rattle.std.specs.Int.Bits.{bit_and, bit_or, or_zero_l, or_zero_r}
use Rattle.std.proofs.lemmas.Bool.{agree_below, agree_below_at, eqb-true}
use Rattle.std.proofs.lemmas.Nat.{and_block, or_block, and_mask, or_mod, and_le_r, field_of, mod-pow-add, or_of_16, shr-shr}
use Rattle.std.proofs.Math.Pow.{pow_mono}
use native.Mathlib.Nat as nat

-- the bits and the same further up, and of both those of a mask
abbrev pub moved : ℕ → ℕ → ℕ → ℕ
moved times mask n = bit_and (bit_or n (n * times % 4294967296)) mask

-- ---- fewer bits

apart_split : (count more n : ℕ) → apart (count + more) n ≡ apart count n + 4 ^ count * apart more (n / 2 ^ count)
apart_split zero more n =
    let whole : n / 2 ^ 0 ≡ n = omega arith in
    let same = ap (apart more) whole in
    let front : 0 + more ≡ more = omega arith in
    ap (λ k. apart k n) front ∙ omega arith
apart_split (suc count) more n =
    let front : suc count + more ≡ suc (count + more) = omega arith in
    let next : 1 + count ≡ suc count = omega arith in
    let rest = apart_split count more (n / 2) in
    let further : apart more (n / 2 / 2 ^ count) ≡ apart more (n / 2 ^ suc count) =
    ap (apart more) (shr-shr n 1 count ∙ ap (λ k. n / 2 ^ k) next) in
    let power : 4 ^ suc count ≡ 4 * 4 ^ count = omega arith in
    let times : 4 ^ suc count * apart more (n / 2 ^ suc count) ≡ 4 * (4 ^ count * apart more (n / 2 ^ suc count)) =
    ap (λ z. z * apart more (n / 2 ^ suc count)) power ∙ nat.mul_assoc 4 (4 ^ count) (apart more (n / 2 ^ suc count)) in
    let moved_on = ap (λ z. 4 ^ count * z) further in
    ap (λ k. apart k n) front ∙ omega arith

apart_cut : (count n : ℕ) → apart count (n % 2 ^ count) ≡ apart count n
apart_cut zero n = refl
apart_cut (suc count) n =
    let next : 2 ^ (count + 1) ≡ 2 ^ suc count = ap (λ k. 2 ^ k) (omega arith) in
    let half : n % 2 ^ suc count / 2 ≡ n / 2 % 2 ^ count =
    ap (λ z. n % z / 2) (sym next) ∙ field_of n count 1 in
    let whole = ap (λ z. n % z) (sym next) ∙ mod-pow-add n count 1 in
    let low : n % 2 ^ suc count % 2 ≡ n % 2 = omega arith in
    let rest = apart_cut count (n / 2) in
    ap (λ z. z + 4 * apart count (n % 2 ^ suc count / 2)) low
    ∙ ap (λ z. n % 2 + 4 * apart count z) half
    ∙ ap (λ z. n % 2 + 4 * z) rest

-- ---- a byte

abbrev byte_moved : ℕ → ℕ
byte_moved n = moved 2 21845 (moved 4 13107 (moved 16 3855 n))

-- tried on each byte
all_bytes : agree_below (λ n. byte_moved n == apart 8 n) (λ n. true) 256 ≡ true
all_bytes = refl

byte_apart : (n : ℕ) → n < 256 → byte_moved n ≡ apart 8 n
byte_apart n h = eqb-true (byte_moved n) (apart 8 n)
    (agree_below_at (λ n. byte_moved n == apart 8 n) (λ n. true) 256 n all_bytes h)

-- ---- two halves of a word

halves : (mask high low up down : ℕ) → mask < 65536 → low < 65536 → down < 65536
    → bit_and (bit_or (high * 65536 + low) (up * 65536 + down)) (mask * 65536 + mask)
    ≡ bit_and (bit_or high up) mask * 65536 + bit_and (bit_or low down) mask
halves mask high low up down m l d =
    ap (λ z. bit_and z (mask * 65536 + mask)) (or_block 16 high up low down l d)
    ∙ and_block 16 (bit_or high up) mask (bit_or low down) mask (or_of_16 low down l d) m

moved_halves : (times mask high low : ℕ) → mask < 65536 → low < 65536 → low * times < 65536 → high * times < 65536
    → (high * 65536 + low) * times ≡ high * times * 65536 + low * times
    → moved times (mask * 65536 + mask) (high * 65536 + low) ≡ moved times mask high * 65536 + moved times mask low
moved_halves times mask high low m l d u e =
    let whole : (high * 65536 + low) * times % 4294967296 ≡ high * times % 4294967296 * 65536 + low * times % 4294967296 =
    omega arith in
    ap (λ z. bit_and (bit_or (high * 65536 + low) z) (mask * 65536 + mask)) whole
    ∙ halves mask high low (high * times % 4294967296) (low * times % 4294967296) m l (omega arith)

bytes_apart : (n : ℕ) → n < 65536 → moved 256 16711935 n ≡ n / 256 * 65536 + n % 256
bytes_apart n h =
    let high : bit_and (bit_or 0 (n / 256)) 255 ≡ n / 256 =
    ap (λ z. bit_and z 255) (or_zero_l (n / 256)) ∙ and_mask (n / 256) 8 ∙ omega arith in
    let low : bit_and (bit_or n (n % 256 * 256)) 255 ≡ n % 256 =
    and_mask (bit_or n (n % 256 * 256)) 8 ∙ or_mod n (n % 256 * 256) 8
    ∙ ap (bit_or (n % 256)) (omega arith) ∙ or_zero_r (n % 256) in
    let same : n ≡ 0 * 65536 + n = omega arith in
    let up : n * 256 % 4294967296 ≡ n / 256 * 65536 + n % 256 * 256 = omega arith in
    ap (λ z. bit_and (bit_or n z) 16711935) up
    ∙ ap (λ z. bit_and (bit_or z (n / 256 * 65536 + n % 256 * 256)) 16711935) same
    ∙ halves 255 0 n (n / 256) (n % 256 * 256) (omega arith) h (omega arith)
    ∙ ap (λ z. z * 65536 + bit_and (bit_or n (n % 256 * 256)) 255) high
    ∙ ap (λ z. n / 256 * 65536 + z) low

-- ---- a word

apart_both : (n : ℕ) → apart 16 n ≡ apart 8 (n / 256) * 65536 + apart 8 (n % 256)
apart_both n = let a = apart_split 8 8 n in let b = apart_cut 8 n in omega arith

pub word_apart : (n : ℕ) → n < 65536
    → moved 2 1431655765 (moved 4 858993459 (moved 16 252645135 (moved 256 16711935 n))) ≡ apart 16 n
word_apart n h =
    let high = n / 256 in
    let low = n % 256 in
    let a = and_le_r (bit_or high (high * 16 % 4294967296)) 3855 in
    let b = and_le_r (bit_or low (low * 16 % 4294967296)) 3855 in
    let c = and_le_r (bit_or (moved 16 3855 high) (moved 16 3855 high * 4 % 4294967296)) 13107 in
    let d = and_le_r (bit_or (moved 16 3855 low) (moved 16 3855 low * 4 % 4294967296)) 13107 in
    ap (λ z. moved 2 1431655765 (moved 4 858993459 (moved 16 252645135 z))) (bytes_apart n h)
    ∙ ap (λ z. moved 2 1431655765 (moved 4 858993459 z))
    (moved_halves 16 3855 high low (omega arith) (omega arith) (omega arith) (omega arith) (omega arith))
    ∙ ap (moved 2 1431655765) (moved_halves 4 13107 (moved 16 3855 high) (moved 16 3855 low)
    (omega arith) (omega arith) (omega arith) (omega arith) (omega arith))
    ∙ moved_halves 2 21845 (moved 4 13107 (moved 16 3855 high)) (moved 4 13107 (moved 16 3855 low))
    (omega arith) (omega arith) (omega arith) (omega arith) (omega arith)
    ∙ ap (λ z. z * 65536 + byte_moved low) (byte_apart high (omega arith))
    ∙ ap (λ z. apart 8 high * 65536 + z) (byte_apart low (omega arith))
    ∙ sym (apart_both n)

-- ---- cells

apart_none : (count : ℕ) → apart count 0 ≡ 0
apart_none zero = refl
apart_none (suc count) = let rest = apart_none count in omega arith

-- as many bits as are kept
pub apart_kept : (count bits : ℕ) → count ≤ 16 → apart 16 (bits % 2 ^ count) ≡ apart count bits
apart_kept count bits few =
    let all : 16 ≡ count + (16 - count) = omega arith in
    let same : 2 ^ (0 + count) ≡ 2 ^ count = ap (λ k. 2 ^ k) (omega arith) in
    let field : bits % 2 ^ count / 2 ^ count ≡ bits / 2 ^ count % 2 ^ 0 =
    ap (λ z. bits % z / 2 ^ count) (sym same) ∙ field_of bits 0 count in
    let high : bits % 2 ^ count / 2 ^ count ≡ 0 = omega arith in
    let rest : apart (16 - count) (bits % 2 ^ count / 2 ^ count) ≡ 0 =
    ap (apart (16 - count)) high ∙ apart_none (16 - count) in
    let times : 4 ^ count * apart (16 - count) (bits % 2 ^ count / 2 ^ count) ≡ 0 =
    ap (λ z. 4 ^ count * z) rest ∙ omega arith in
    ap (λ k. apart k (bits % 2 ^ count)) all
    ∙ apart_split count (16 - count) (bits % 2 ^ count)
    ∙ ap (λ z. apart count (bits % 2 ^ count) + z) times
    ∙ omega arith
    ∙ apart_cut count bits

pub power-few : (count : ℕ) → count ≤ 16 → 2 ^ count ≤ 65536
power-few count few = let most : 2 ^ count ≤ 2 ^ 16 = pow_mono few in omega arith

-- the content of so many cells
pub content_apart : (w : Planes) (cell count : ℕ)
    → content_of (places_at w cell count) ≡ apart count (w.a / 2 ^ cell) + 2 * apart count (w.b / 2 ^ cell)
content_apart w cell zero = omega arith
content_apart w cell (suc count) =
    let rest = content_apart w (cell + 1) count in
    let low = ap (apart count) (shr-shr w.a cell 1) in
    let high = ap (apart count) (shr-shr w.b cell 1) in
    omega arith
