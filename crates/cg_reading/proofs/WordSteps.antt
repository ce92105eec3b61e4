-- How a table of words is tried, one word after the other.
use Rattle.std.proofs.Common.{◌≡◌, ℕ, suc, ◌+◌, ◌<◌, ◌≤◌, Bool, true, false, cond, List, [], ◌∷◌, length}
use Rattle.std.proofs.Common.{get_or, drop, Bor, Ok, Err, refl, ap, sym, ◌∙◌, arith, drop-cons}
use Rattle.std.specs.Prelude.{◌==◌, min, map}
use Rattle.std.proofs.Math.Nat.{min-eq_right}
use Rattle.std.proofs.Common.{Result}
use Rattle.cg_reading.specs.declared.fault.ReadFault.{ReadFault}
use Rattle.cg_reading.specs.Gives.{Gives}
use Rattle.cg_reading.proofs.GivesLemmas.{gives_along, fails_bind}
use Rattle.cg_reading.specs.Readers.{Read, ◌>>=◌, word_at, made_at}
use Rattle.cg_reading.specs.TokenReaders.{this_word_at}
use Rattle.cg_reading.specs.Words.{Table, words_of, either_read, among_at}
use Rattle.cg_reading.proofs.Laws.{left}

module _ {A : Type 0} where
  -- a word with its value, from the word alone
  word_valued : (word : List ℕ) (v : A) (end : ℕ) (bytes : List ℕ) → word_at word v end bytes ≡ (word_at word (tt {0}) end bytes >>= λ x. Ok (v, x.1))
  word_valued [] v end bytes = refl
  word_valued (w ∷ word) v end [] = refl
  word_valued (w ∷ word) v end (b ∷ bytes) = chosen (b == w) (word_valued word v end bytes)
    where
      chosen : (t : Bool) → word_at word v end bytes ≡ (word_at word (tt {0}) end bytes >>= λ x. Ok (v, x.1))
          → cond t (word_at word v end bytes) (Err (length (b ∷ bytes))) ≡ (cond t (word_at word (tt {0}) end bytes) (Err (length (b ∷ bytes))) >>= λ x. Ok (v, x.1))
      chosen true e = e
      chosen false e = refl

  module _ (word : List ℕ) (v : A) (others : Table A) (most end : ℕ) (bytes : List ℕ) where
    -- the word stands in front
    pub word_found : (rest : List ℕ) → this_word_at word end bytes ≡ Ok (tt, rest) → either_read (Err most) (among_at ((word, v) ∷ others) end bytes) ≡ Ok (v, rest)
    unfolding this_word_at
    word_found rest h =
        ap (λ (z : Read A). either_read (Err most) (either_read z (among_at others end bytes))) (word_valued word v end bytes ∙ ap (λ (z : Read (Unit {0})). z >>= λ x. Ok (v, x.1)) h)

    -- it stands there up to where so many bytes are left
    pub word_stuck : (here n : ℕ) → n ≡ min most here → this_word_at word end bytes ≡ Err here → either_read (Err most) (among_at ((word, v) ∷ others) end bytes) ≡ either_read (Err n) (among_at others end bytes)
    unfolding this_word_at
    word_stuck here n m h =
        ap (λ (z : Read A). either_read (Err most) (either_read z (among_at others end bytes))) (word_valued word v end bytes ∙ ap (λ (z : Read (Unit {0})). z >>= λ x. Ok (v, x.1)) h)
        ∙ furthest (among_at others end bytes) ∙ ap (λ (k : ℕ). either_read (Err k) (among_at others end bytes)) (sym m)
      where
        furthest : (y : Read A) → either_read (Err most) (either_read (Err here) y) ≡ either_read (Err (min most here)) y
        furthest (Ok x) = refl
        furthest (Err n) = ap (λ (k : ℕ). Err k) (omega arith)

  -- a reading that goes no further adds nothing
  pub nothing_before : (n : ℕ) (y : Read A) → left y ≤ n → either_read (Err n) y ≡ y
  nothing_before n (Ok v) h = refl
  nothing_before n (Err l) h = ap (λ (k : ℕ). Err k) (min-eq_right h)

-- the same table with other values
pub among_valued : {A B : Type 0} (h : A → B) (table : Table A) (end : ℕ) (bytes : List ℕ) → among_at (map (λ w. (w.0, h w.1)) table) end bytes ≡ made_at h (among_at table) end bytes
among_valued h [] end bytes = refl
among_valued {A} {B} h (w ∷ ws) end bytes =
    ap (λ (z : Read B). either_read z (among_at (map (λ w. (w.0, h w.1)) ws) end bytes)) (word_valued w.0 (h w.1) end bytes)
    ∙ ap (λ (z : Read B). either_read (word_at w.0 (tt {0}) end bytes >>= λ x. Ok (h w.1, x.1)) z) (among_valued h ws end bytes)
    ∙ made_either (word_at w.0 (tt {0}) end bytes) (among_at ws end bytes)
    ∙ ap (λ (z : Read A). either_read z (among_at ws end bytes) >>= λ x. Ok (h x.0, x.1)) (sym (word_valued w.0 w.1 end bytes))
  where
    made_either : (x : Read (Unit {0})) (y : Read A) → either_read (x >>= λ u. Ok (h w.1, u.1)) (y >>= λ u. Ok (h u.0, u.1)) ≡ (either_read (x >>= λ u. Ok (w.1, u.1)) y >>= λ u. Ok (h u.0, u.1))
    made_either (Ok x) y = refl
    made_either (Err m) (Ok y) = refl
    made_either (Err m) (Err n) = refl

-- the entry at a place, and those behind it
pub words_at : {T : Type 0} (entries : List (Bor (List ℕ) × T)) (i : ℕ) (entry : Bor (List ℕ) × T) → i < length entries → entry ≡ get_or entries i entry → words_of (drop i entries) ≡ (entry.0.now, entry.1) ∷ words_of (drop (i + 1) entries)
words_at entries i entry below e =
    let next : suc i ≡ i + 1 = omega arith in
    ap words_of (drop-cons entries i entry below ∙ ap (λ x. x ∷ drop (suc i) entries) (sym e) ∙ ap (λ (k : ℕ). entry ∷ drop k entries) next)

-- what a table gives, seen by its values
pub gives_word : {X A B : Type 0} (h : A → B) (view : X → A × List ℕ) (r : Result X ReadFault) (table : Table A) (end : ℕ) (bytes : List ℕ) → Gives view r (among_at table end bytes) → Gives (λ x. (h (view x).0, (view x).1)) r (among_at (map (λ w. (w.0, h w.1)) table) end bytes)
gives_word h view r table end bytes g = gives_along (λ x. (h (view x).0, (view x).1)) r (made_at h (among_at table) end bytes) (among_at (map (λ w. (w.0, h w.1)) table) end bytes) (among_valued h table end bytes) (seen r g)
  where
    seen : (r : Result _ ReadFault) → Gives view r (among_at table end bytes) → Gives (λ x. (h (view x).0, (view x).1)) r (made_at h (among_at table) end bytes)
    seen (Ok x) e = ap (λ z. z >>= λ v. Ok (h v.0, v.1)) e
    seen (Err f) e = fails_bind f (among_at table end bytes) (λ v. Ok (h v.0, v.1)) e
