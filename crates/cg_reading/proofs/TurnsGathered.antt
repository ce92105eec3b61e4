-- Pieces of one kind and then of another that are gathered one after the other.
use Rattle.std.proofs.Common.{◌≡◌, ℕ, zero, suc, ◌+◌, ◌-◌, ◌<◌, ◌≤◌, ◌⊎◌, inl, inr, Bool, true, false, cond, List}
use Rattle.std.proofs.Common.{[], ◌∷◌, ◌++◌, length, Ok, Err, refl, ap, sym, ◌∙◌, append_assoc, append-nil, arith}
use Rattle.cg_reading.specs.Bytes.{Class, has}
use Rattle.cg_reading.specs.Pieces.{Piece}
use Rattle.cg_reading.specs.Readers.{Read, Reader, ◌>>=◌}
use Rattle.cg_reading.proofs.Laws.{Outcome, Reads, behind}
use Rattle.cg_reading.proofs.Many.{some_length}
use Rattle.cg_reading.specs.Turns.{by_kind, one_first, one_second, turns_from, turns_at, turns_behind, seconds_behind}

abbrev with_front : {A B : Type 0} → List A → Read (List A × List B) → Read (List A × List B)
with_front front read = read >>= λ x. Ok ((front ++ x.0.0, x.0.1), x.1)

module _ {A B : Type 0} (E : Piece (A ⊎ B)) (f : Reader (A ⊎ B)) (g : Reader (List B)) (I : Class) (lf : Reads E f I false) where
  abbrev turn : (ℕ → List ℕ → Read (List A × List B)) → ℕ → (A ⊎ B) × List ℕ → Read (List A × List B)
  turn more end x = by_kind (λ a. one_first a (more end x.1)) (λ s. one_second s (g end x.1)) x.0

  -- a turn is decided by what more there is on fewer bytes
  same_turn : (end i : ℕ) (bytes : List ℕ) (h k : ℕ → List ℕ → Read (List A × List B)) (x : Read (A ⊎ B)) → i + length bytes ≡ end → Outcome E i bytes x
      → ((j : ℕ) (rest : List ℕ) → j + length rest ≡ end → length rest < length bytes → h end rest ≡ k end rest) → (x >>= turn h end) ≡ (x >>= turn k end)
  same_turn end i bytes h k (Err n) m o same = refl
  same_turn end i bytes h k (Ok (inr b, rest)) m o same = refl
  same_turn end i bytes h k (Ok (inl a, rest)) m o same =
      let b' = behind o in
      let some = some_length E f I [] o.text (lf.begins i (inl a) o.text o.is) in
      ap (one_first a) (same (i + length o.text) rest (b' ∙ m) (omega (arith, b', some)))

  turns_rounds : (turns rounds end i : ℕ) (bytes : List ℕ) → i + length bytes ≡ end → length bytes ≤ turns → length bytes ≤ rounds → turns_from I f g turns end bytes ≡ turns_from I f g rounds end bytes
  turns_rounds zero zero end i bytes n u v = refl
  turns_rounds zero (suc rounds) end i [] n u v = refl
  turns_rounds zero (suc rounds) end i (b ∷ bytes) n u v = absurd (omega arith)
  turns_rounds (suc turns) zero end i [] n u v = refl
  turns_rounds (suc turns) zero end i (b ∷ bytes) n u v = absurd (omega arith)
  turns_rounds (suc turns) (suc rounds) end i [] n u v = refl
  turns_rounds (suc turns) (suc rounds) end i (b ∷ bytes) n u v =
      ap (λ (z : Read (List A × List B)). cond (has I b) z (Ok (([], []), b ∷ bytes)))
      (same_turn end i (b ∷ bytes) (turns_from I f g turns) (turns_from I f g rounds) (f end (b ∷ bytes)) n (lf.sound end i (b ∷ bytes) n) (λ j rest m k. turns_rounds turns rounds end j rest m (omega arith) (omega arith)))

  turns_next : (end i b : ℕ) (bytes : List ℕ) → i + length (b ∷ bytes) ≡ end → has I b ≡ true → turns_at I f g end (b ∷ bytes) ≡ (f end (b ∷ bytes) >>= turn (turns_at I f g) end)
  turns_next end i b bytes n h =
      ap (λ (t : Bool). cond t (f end (b ∷ bytes) >>= turn (turns_from I f g (length bytes)) end) (Ok (([], []), b ∷ bytes))) h
      ∙ same_turn end i (b ∷ bytes) (turns_from I f g (length bytes)) (turns_at I f g) (f end (b ∷ bytes)) n (lf.sound end i (b ∷ bytes) n) (λ j rest m k. turns_rounds (length bytes) (length rest) end j rest m (omega arith) (omega arith))

  module _ (front : List A) (end : ℕ) where
    one_more : (v : A) (x : Read (List A × List B)) → with_front front (one_first v x) ≡ with_front (front ++ v ∷ []) x
    one_more v (Ok vs) = ap (λ (xs : List A). Ok ((xs, vs.0.1), vs.1)) (sym (append_assoc front (v ∷ []) vs.0.0))
    one_more v (Err n) = refl

    none_behind : (bytes : List ℕ) → with_front {B = B} front (Ok (([], []), bytes)) ≡ Ok ((front, []), bytes)
    none_behind bytes = ap (λ (xs : List A). Ok ((xs, []), bytes)) (append-nil front)

    last_kind : (b : B) (x : Read (List B)) → with_front front (one_second b x) ≡ (x >>= λ z. Ok ((front, b ∷ z.0), z.1))
    last_kind b (Ok z) = ap (λ (xs : List A). Ok ((xs, b ∷ z.0), z.1)) (append-nil front)
    last_kind b (Err n) = refl

    pub behind_none : (all : List ℕ) → all ≡ [] → turns_behind I f g front end all ≡ Ok ((front, []), all)
    behind_none all s = ap (turns_behind I f g front end) s ∙ none_behind [] ∙ ap (λ (z : List ℕ). Ok ((front, []), z)) (sym s)

    -- what is read behind a turn
    abbrev pub behind_turn : (A ⊎ B) × List ℕ → Read (List A × List B)
    behind_turn y = by_kind (λ a. turns_behind I f g (front ++ a ∷ []) end y.1) (λ s. seconds_behind g front s end y.1) y.0

    next_go : (x : Read (A ⊎ B)) → with_front front (x >>= turn (turns_at I f g) end) ≡ (x >>= behind_turn)
    next_go (Ok (inl a, rest)) = one_more a (turns_at I f g end rest)
    next_go (Ok (inr b, rest)) = last_kind b (g end rest)
    next_go (Err n) = refl

    pub behind_next : (b : ℕ) (all bytes : List ℕ) → all ≡ b ∷ bytes → has I b ≡ true → length all ≤ end → turns_behind I f g front end all ≡ (f end all >>= behind_turn)
    behind_next b all bytes s h u =
        let size = ap length s in
        ap (turns_behind I f g front end) s
        ∙ ap (with_front front) (turns_next end (end - length (b ∷ bytes)) b bytes (omega (arith, size)) h)
        ∙ next_go (f end (b ∷ bytes)) ∙ ap (λ (z : List ℕ). f end z >>= behind_turn) (sym s)
