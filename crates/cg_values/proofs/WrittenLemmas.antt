-- Cells written in contents.
use Rattle.std.proofs.Common.{◌≡◌, refl, ℕ, zero, suc, ◌+◌, ◌-◌, ◌<◌, ◌≤◌, ◌⊎◌, inl, inr, List, [], ◌∷◌, ◌++◌, length, append_assoc, ap, ◌∙◌, arith}
use Rattle.std.proofs.lemmas.List.FromFn.{length-map-range_with_len}
use Rattle.cg_moves.specs.declared.planes.Planes.{Planes}
use Rattle.cg_nodes.specs.Boards.{AreWritten, content_of}
use Rattle.cg_values.specs.Contents.{place_at, places_at}

-- ---- one content

pub places-at-long : (w : Planes) (cell count : ℕ) → length (places_at w cell count) ≡ count
places-at-long w cell count = length-map-range_with_len (place_at w) cell count

-- ---- all contents

places_split : (w : Planes) (cell m n : ℕ) → places_at w cell (m + n) ≡ places_at w cell m ++ places_at w (cell + m) n
places_split w cell zero n =
    let e : 0 + n ≡ n = omega arith in
    let f : cell ≡ cell + 0 = omega arith in
    ap (places_at w cell) e ∙ ap (λ j. places_at w j n) f
places_split w cell (suc m) n =
    let e : suc m + n ≡ suc (m + n) = omega arith in
    let f : cell + 1 + m ≡ cell + suc m = omega arith in
    ap (places_at w cell) e
    ∙ ap (λ z. place_at w cell ∷ z) (places_split w (cell + 1) m n)
    ∙ ap (λ j. places_at w cell (suc m) ++ places_at w j n) f

-- the next content, of 16 cells while there are more
pub written_next : (w : Planes) (more : List ℕ) (start end size : ℕ) → start < end → end ≤ size
    → (end ≡ start + 16) ⊎ ((end ≡ size) × (end < start + 16)) → AreWritten (places_at w end (size - end)) more
    → AreWritten (places_at w start (size - start)) (content_of (places_at w start (end - start)) ∷ more)
written_next w more start end size s within which rest = (
  places_at w start (end - start),
  places_at w end (size - end),
  (let n : size - start ≡ (end - start) + (size - end) = omega arith in
      let m : start + (end - start) ≡ end = omega arith in
      ap (places_at w start) n ∙ places_split w start (end - start) (size - end)
      ∙ ap (λ j. places_at w start (end - start) ++ places_at w j (size - end)) m),
  (let k = places-at-long w start (end - start) in
      elim which [
        | inl e ↦ inl (omega (arith, k, e))
        | inr e ↦ inr (
          (let z : size - end ≡ 0 = omega (arith, e.0) in ap (places_at w end) z),
          omega (arith, k),
          omega (arith, k, e.1),
        )
      ]),
  refl,
  rest,
)

pub more_written : (w : Planes) (all pushed : List ℕ) (content start end size : ℕ)
    → ((more : List ℕ) → AreWritten (places_at w start (size - start)) more → AreWritten (places_at w 0 size) (all ++ more))
    → pushed ≡ all ++ (content ∷ []) → content ≡ content_of (places_at w start (end - start)) → start < end → end ≤ size
    → (end ≡ start + 16) ⊎ ((end ≡ size) × (end < start + 16)) → (more : List ℕ)
    → AreWritten (places_at w end (size - end)) more → AreWritten (places_at w 0 size) (pushed ++ more)
more_written w all pushed content start end size so_far e is s within which more rest =
    rw (ap (λ z. z ++ more) e ∙ append_assoc all (content ∷ []) more)
    (so_far (content ∷ more) (rw is (written_next w more start end size s within which rest)))
