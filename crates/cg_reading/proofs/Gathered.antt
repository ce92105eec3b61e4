-- Pieces that are gathered one after the other.
use Rattle.std.proofs.Common.{◌≡◌, ℕ, ◌-◌, ◌≤◌, true, false, List, [], ◌∷◌, ◌++◌, length, Ok, Err, refl, ap, sym, ◌∙◌, append_assoc, arith}
use Rattle.cg_reading.specs.Bytes.{Class, has}
use Rattle.cg_reading.specs.Pieces.{Piece}
use Rattle.cg_reading.specs.Readers.{Read, Reader, ◌>>=◌, many_at, behind_these}
use Rattle.cg_reading.proofs.Laws.{Reads}
use Rattle.cg_reading.proofs.Many.{push_piece, many_next}

abbrev with_front : {A : Type 0} → List A → Read (List A) → Read (List A)
with_front front read = read >>= λ x. Ok (front ++ x.0, x.1)

module _ {A : Type 0} (R : Piece A) (f : Reader A) (I : Class) (lf : Reads R f I false) (front : List A) (end : ℕ) where
  one_more : (v : A) (x : Read (List A)) → with_front front (push_piece v x) ≡ with_front (front ++ v ∷ []) x
  one_more v (Ok vs) = ap (λ (xs : List A). Ok (xs, vs.1)) (sym (append_assoc front (v ∷ []) vs.0))
  one_more v (Err n) = refl

  next_go : (x : Read A) → with_front front (x >>= λ y. push_piece y.0 (many_at I f end y.1)) ≡ (x >>= λ y. behind_these I f (front ++ y.0 ∷ []) end y.1)
  next_go (Ok y) = one_more y.0 (many_at I f end y.1)
  next_go (Err n) = refl

  pub gathered_next : (b : ℕ) (all bytes : List ℕ) → all ≡ b ∷ bytes → has I b ≡ true → length all ≤ end → behind_these I f front end all ≡ (f end all >>= λ y. behind_these I f (front ++ y.0 ∷ []) end y.1)
  gathered_next b all bytes s h u =
      let size = ap length s in
      ap (behind_these I f front end) s
      ∙ ap (with_front front) (many_next R f I lf end (end - length (b ∷ bytes)) b bytes (omega (arith, size)) h)
      ∙ next_go (f end (b ∷ bytes)) ∙ ap (λ (z : List ℕ). f end z >>= λ y. behind_these I f (front ++ y.0 ∷ []) end y.1) (sym s)
