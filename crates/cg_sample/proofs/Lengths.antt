-- A line of the sample has at most 64 bytes.
use Rattle.std.proofs.Common.{◌≡◌, ℕ, zero, suc, ◌+◌, ◌*◌, ◌%◌, ◌<◌, ◌≤◌, ◌++◌, ◌∷◌, ◌==◌, [], Bool, true}
use Rattle.std.proofs.Common.{false, length, length-append, take, codes, if◌then◌else◌, refl, ap, lit≤, arith}
use Rattle.std.specs.Fmt.{decimal}
use Rattle.std.proofs.lemmas.Fmt.{length-decimal-le}
use Rattle.std.proofs.lemmas.List.{length-take}
use Rattle.cg_sample.specs.SampleText.{Text, dots, grid_line, line_by, line_of, sample_text}

either : (b : Bool) (x y : Text) (n : ℕ) → length x ≤ n → length y ≤ n → length (if b then x else y) ≤ n
either true x y n a b = a
either false x y n a b = b

digit : (n : ℕ) → n < 10 → length (decimal n) ≤ 1
digit n small = length-decimal-le 1 n (omega arith) (omega (arith, small)) (omega (arith, small))

dots_long : (n : ℕ) → length (dots n) ≡ n
dots_long zero = refl
dots_long (suc n) = ap suc (dots_long n)

-- each part of a line
module _ (a b : ℕ) (few : a < 10) (small : b < 10) where
  switch : length (codes "value {" ++ decimal a ++ codes "|-" ++ decimal b ++ codes "}") ≤ 63
  switch = omega (
    arith,
    digit a few,
    digit b small,
    length-append (decimal a ++ codes "|-" ++ decimal b) (codes "}"),
    length-append (decimal a ++ codes "|-") (decimal b),
    length-append (decimal a) (codes "|-"),
  )

  ups : length (codes "value ^" ++ decimal a ++ codes " + *") ≤ 63
  ups = omega (arith, digit a few, length-append (decimal a) (codes " + *"))

  nimber : length (codes "compare ^" ++ decimal a ++ codes " ; *" ++ decimal b) ≤ 63
  nimber = omega (
    arith,
    digit a few,
    digit b small,
    length-append (decimal a ++ codes " ; *") (decimal b),
    length-append (decimal a) (codes " ; *"),
  )

  hot : length (codes "temp {" ++ decimal a ++ codes "||" ++ decimal b ++ codes "|-" ++ decimal a ++ codes "}") ≤ 63
  hot = omega (
    arith,
    digit a few,
    digit b small,
    length-append (decimal a) (codes "||"),
    length-append (decimal a ++ codes "||") (decimal b),
    length-append (decimal a ++ codes "||" ++ decimal b) (codes "|-"),
    length-append (decimal a ++ codes "||" ++ decimal b ++ codes "|-") (decimal a),
    length-append (decimal a ++ codes "||" ++ decimal b ++ codes "|-" ++ decimal a) (codes "}"),
  )

  stones : length (codes "outcome Clobber(\"" ++ take (a % 3 + 2) (codes "xoxo") ++ codes "\")") ≤ 63
  stones = omega (arith, length-take (a % 3 + 2) (codes "xoxo"), length-append (take (a % 3 + 2) (codes "xoxo")) (codes "\")"))

  rows : (row : Text) → length row ≤ 3 → length (grid_line row) ≤ 63
  rows row short = omega (
    arith,
    short,
    length-append row (codes "|"),
    length-append (row ++ codes "|") row,
    length-append (row ++ codes "|" ++ row) (codes "\")"),
  )

  by_kind : (k : ℕ) → length (line_by k a b) ≤ 63
  by_kind k = either (k == 1) _ _ 63 switch (either (k == 2) _ _ 63 ups (either (k == 3) _ _ 63 nimber
      (either (k == 4) _ _ 63 hot (either (k == 5) _ _ 63 stones (rows (dots (a % 3 + 1)) (omega (arith, dots_long (a % 3 + 1))))))))

line_short : (i : ℕ) → length (line_of i) ≤ 64
line_short i =
    let h = by_kind (i % 5) (i * i % 7) (omega arith) (omega arith) (i % 6) in
    omega (arith, h, length-append (line_by (i % 6) (i % 5) (i * i % 7)) (10 ∷ []))

pub sample_short : (n : ℕ) → length (sample_text n) ≤ 64 * n
unfolding sample_text
sample_short zero = lit≤ tt
sample_short (suc n) = omega (arith, sample_short n, line_short (suc n), length-append (sample_text n) (line_of (suc n)))
