-- The words of a table are read where they stand, no other is, and reading stops where no word of the table goes on.
use Rattle.std.proofs.Common.{◌≡◌, ℕ, suc, ◌+◌, ◌≤◌, ◌⊎◌, inl, inr, Bool, true, false, not, ◌&&◌, cond, leb, List, []}
use Rattle.std.proofs.Common.{◌∷◌, ◌++◌, length, Ok, Err, refl, ap, sym, subst, ◌∙◌, arith, length-append, append_assoc}
use Rattle.std.specs.Prelude.{◌==◌, min}
use Rattle.std.proofs.lemmas.Bool.{and_parts, and_from, eqb-true, eq-eqb, leb-true, leb-false}
use Rattle.std.proofs.Math.Nat.{min-eq_left, min-eq_right, min-le_left, min-le_right}
use Rattle.cg_reading.specs.Bytes.{Class, has, Begins}
use Rattle.cg_reading.specs.Pieces.{Piece, Word}
use Rattle.cg_reading.specs.Readers.{Read, word_at}
use Rattle.cg_reading.specs.Words.{Table, is_front, is_apart, is_prefix_free, Among, either_read, among_at}
use Rattle.cg_reading.proofs.OneWord.{word_sound, word_again, word_agree}
use Rattle.cg_reading.proofs.Laws.{kept, stuck, past, Agree, Lawful, Outcome, Takes, left, outcome_left}
use Rattle.cg_reading.proofs.Laws.{takes_as, begun_as}

-- ---- fronts

not_true : (b : Bool) → not b ≡ true → b ≡ true → ⊥
not_true true e f = cc
not_true false e f = cc

-- of two fronts of one text one begins the other
fronts : (x s y t : List ℕ) → x ++ s ≡ y ++ t → (is_front x y ≡ true) ⊎ (is_front y x ≡ true)
fronts [] s y t e = inl refl
fronts (b ∷ x) s [] t e = inr refl
fronts (b ∷ x) s (c ∷ y) t e =
    let head : b ≡ c = cc in
    let tail : x ++ s ≡ y ++ t = cc in
    elim (fronts x s y t tail) [
      | inl f ↦ inl (and_from (b == c) (is_front x y) (eq-eqb b c head) f)
      | inr f ↦ inr (and_from (c == b) (is_front y x) (eq-eqb c b (sym head)) f)
    ]

front_trans : (x y z : List ℕ) → is_front x y ≡ true → is_front y z ≡ true → is_front x z ≡ true
front_trans [] y z e f = refl
front_trans (b ∷ x) [] z e f = absurd (cc)
front_trans (b ∷ x) (c ∷ y) [] e f = absurd (cc)
front_trans (b ∷ x) (c ∷ y) (d ∷ z) e f =
    let p = and_parts (b == c) (is_front x y) e in
    let q = and_parts (c == d) (is_front y z) f in
    and_from (b == d) (is_front x z) (eq-eqb b d (eqb-true b c p.0 ∙ eqb-true c d q.0)) (front_trans x y z p.1 q.1)

front_length : (x y : List ℕ) → is_front x y ≡ true → length x ≤ length y
front_length [] y e = omega arith
front_length (b ∷ x) [] e = absurd (cc)
front_length (b ∷ x) (c ∷ y) e = omega (arith, front_length x y (and_parts (b == c) (is_front x y) e).1)

min_more : (m n k : ℕ) → min (m + k) (n + k) ≡ min m n + k
min_more m n k = omega arith

-- ---- two readings

module _ {A : Type 0} where
  first_left : (n : ℕ) (x y : Read A) → left x ≤ n → ((v : A × List ℕ) → y ≡ Ok v → length v.1 ≤ n) → left (either_read x y) ≤ n
  first_left n (Ok v) y h k = h
  first_left n (Err m) (Ok v) h k = k v refl
  first_left n (Err m) (Err l) h k = omega (arith, h, min-le_left m l)

  second_left : (n m : ℕ) (y : Read A) → left y ≤ n → left (either_read (Err m) y) ≤ n
  second_left n m (Ok v) h = h
  second_left n m (Err l) h = omega (arith, h, min-le_right m l)

  either_agree : (c : ℕ) (q r : List ℕ) (x y u v : Read A) → Agree c q r x y → Agree c q r u v
      → (left x ≤ length q → (w : A × List ℕ) → u ≡ Ok w → length w.1 ≤ length q) → (left y ≤ length r → (w : A × List ℕ) → v ≡ Ok w → length w.1 ≤ length r)
      → Agree c q r (either_read x u) (either_read y v)
  either_agree c q r x y u v (kept a s e f) b far near = kept a s (ap (λ z. either_read z u) e) (ap (λ z. either_read z v) f)
  either_agree c q r x y u v (stuck n e f) (kept a s g h) far near = kept a s (rw (e, g) refl) (rw (f, h) refl)
  either_agree c q r x y u v (stuck n e f) (stuck m g h) far near = stuck (min n m) (rw (e, g) (ap (λ (k : ℕ). Err k) (min_more n m (suc (length q))))) (rw (f, h) (ap (λ (k : ℕ). Err k) (min_more n m (suc (length r)))))
  either_agree c q r x y u v (stuck n e f) (past g h) far near =
      past (rw e (second_left (length q) (n + suc (length q)) u g)) (rw f (second_left (length r) (n + suc (length r)) v h))
  either_agree c q r x y u v (past g h) b far near = past (first_left (length q) x u g (far g)) (first_left (length r) y v h (near h))

  either_sound : (R S : Piece A) (i : ℕ) (bytes : List ℕ) (x y : Read A) → Outcome R i bytes x → Outcome S i bytes y → Outcome (λ i a t. R i a t ⊎ S i a t) i bytes (either_read x y)
  either_sound R S i bytes (Ok v) y o u = takes_as o.text (inl o.is) o.split
  either_sound R S i bytes (Err m) (Ok v) o u = takes_as u.text (inr u.is) u.split
  either_sound R S i bytes (Err m) (Err n) o u = chosen (leb m n) refl
    where
      chosen : (t : Bool) → leb m n ≡ t → Outcome (λ i a t. R i a t ⊎ S i a t) i bytes (Err (min m n))
      chosen true h = begun_as o.taken o.rest o.more o.value (inl o.is) o.split (o.stuck ∙ sym (min-eq_left (leb-true m n h)))
      chosen false h = begun_as u.taken u.rest u.more u.value (inr u.is) u.split (u.stuck ∙ sym (min-eq_right (omega (arith, leb-false m n h))))

  -- ---- words

  -- a word on which reading goes past a byte begins with what stands up to it
  word_far : (word : List ℕ) (v : A) (end : ℕ) (p : List ℕ) (c : ℕ) (q : List ℕ) → left (word_at word v end (p ++ c ∷ q)) ≤ length q → is_front (p ++ c ∷ []) word ≡ true
  word_far [] v end p c q h = absurd (omega (arith, h, length-append p (c ∷ q)))
  word_far (w ∷ word) v end [] c q h = chosen (c == w) h
    where
      chosen : (t : Bool) → left (cond t (word_at word v end q) (Err (suc (length q)))) ≤ length q → (t && true) ≡ true
      chosen true h = refl
      chosen false h = absurd (omega (arith, h))
  word_far (w ∷ word) v end (b ∷ p) c q h = chosen (b == w) h (word_far word v end p c q)
    where
      chosen : (t : Bool) → left (cond t (word_at word v end (p ++ c ∷ q)) (Err (suc (length (p ++ c ∷ q))))) ≤ length q
          → (left (word_at word v end (p ++ c ∷ q)) ≤ length q → is_front (p ++ c ∷ []) word ≡ true) → (t && is_front (p ++ c ∷ []) word) ≡ true
      chosen true h f = f h
      chosen false h f = absurd (omega (arith, h, length-append p (c ∷ q)))

  -- a word of the table neither begins a word that is apart from it nor is begun by it
  apart_among : (word : List ℕ) (table : Table A) → is_apart word table ≡ true → (i : ℕ) (a : A) (text : List ℕ) → Among table i a text
      → (is_front word text ≡ true → ⊥) × (is_front text word ≡ true → ⊥)
  apart_among word [] h i a text is = elim is [ ]
  apart_among word (w ∷ ws) h i a text (inl is) =
      let p = and_parts (not (is_front word w.0) && not (is_front w.0 word)) (is_apart word ws) h in
      let both = and_parts (not (is_front word w.0)) (not (is_front w.0 word)) p.0 in
      (λ e. not_true (is_front word w.0) both.0 (ap (is_front word) (sym is.1) ∙ e), λ e. not_true (is_front w.0 word) both.1 (ap (λ (z : List ℕ). is_front z word) (sym is.1) ∙ e))
  apart_among word (w ∷ ws) h i a text (inr is) =
      apart_among word ws (and_parts (not (is_front word w.0) && not (is_front w.0 word)) (is_apart word ws) h).1 i a text is

  among_sound : (w : List ℕ × A) (ws : Table A) (end i : ℕ) (bytes : List ℕ) → Outcome (Among (w ∷ ws)) i bytes (among_at (w ∷ ws) end bytes)
  among_sound w [] end i bytes = single (word_at w.0 w.1 end bytes) (word_sound w.1 w.0 end i bytes)
    where
      single : (x : Read A) → Outcome (Word w.0 w.1) i bytes x → Outcome (Among (w ∷ [])) i bytes (either_read x (Err (length bytes)))
      single (Ok v) o = takes_as o.text (inl o.is) o.split
      single (Err m) o = begun_as o.taken o.rest o.more o.value (inl o.is) o.split (o.stuck ∙ sym (min-eq_left (outcome_left (Word w.0 w.1) i bytes (Err m) o)))
  among_sound w (v ∷ ws) end i bytes =
      either_sound (Word w.0 w.1) (Among (v ∷ ws)) i bytes (word_at w.0 w.1 end bytes) (among_at (v ∷ ws) end bytes) (word_sound w.1 w.0 end i bytes) (among_sound v ws end i bytes)

  among_takes : (table : Table A) (end i : ℕ) (bytes : List ℕ) (x : A × List ℕ) → among_at table end bytes ≡ Ok x → Takes (Among table) i bytes x.0 x.1
  among_takes [] end i bytes x e = absurd cc
  among_takes (w ∷ ws) end i bytes x e = subst (λ z. Outcome (Among (w ∷ ws)) i bytes z) e (among_sound w ws end i bytes)

  pub among_left : (table : Table A) (end : ℕ) (bytes : List ℕ) → left (among_at table end bytes) ≤ length bytes
  among_left [] end bytes = omega arith
  among_left (w ∷ ws) end bytes = outcome_left (Among (w ∷ ws)) 0 bytes (among_at (w ∷ ws) end bytes) (among_sound w ws end 0 bytes)

  among_agree : (table : Table A) → is_prefix_free table ≡ true → (end last : ℕ) (p : List ℕ) (c : ℕ) (q r : List ℕ) → Agree c q r (among_at table end (p ++ c ∷ q)) (among_at table last (p ++ c ∷ r))
  among_agree [] h end last p c q r = stuck (length p) (ap (λ (n : ℕ). Err n) (length-append p (c ∷ q))) (ap (λ (n : ℕ). Err n) (length-append p (c ∷ r)))
  among_agree (w ∷ ws) h end last p c q r =
      let k = and_parts (is_apart w.0 ws) (is_prefix_free ws) h in
      either_agree c q r (word_at w.0 w.1 end (p ++ c ∷ q)) (word_at w.0 w.1 last (p ++ c ∷ r)) (among_at ws end (p ++ c ∷ q)) (among_at ws last (p ++ c ∷ r))
      (word_agree w.1 w.0 end last p c q r) (among_agree ws k.1 end last p c q r) (far k.0 end q) (far k.0 last r)
    where
      -- where a word goes past the byte, no word that is apart from it ends before it
      far : is_apart w.0 ws ≡ true → (stop : ℕ) (z : List ℕ) → left (word_at w.0 w.1 stop (p ++ c ∷ z)) ≤ length z → (x : A × List ℕ) → among_at ws stop (p ++ c ∷ z) ≡ Ok x → length x.1 ≤ length z
      far d stop z l x e =
          let t = among_takes ws stop 0 (p ++ c ∷ z) x e in
          let here : t.text ++ x.1 ≡ (p ++ c ∷ []) ++ z = sym t.split ∙ sym (append_assoc p (c ∷ []) z) in
          elim (fronts t.text x.1 (p ++ c ∷ []) z here) [
            | inl f ↦ absurd ((apart_among w.0 ws d 0 x.0 t.text t.is).1 (front_trans t.text (p ++ c ∷ []) w.0 f (word_far w.0 w.1 stop p c z l)))
            | inr f ↦ omega (arith, front_length (p ++ c ∷ []) t.text f, ap length here, length-append t.text x.1, length-append (p ++ c ∷ []) z)
          ]

  among_again : (table : Table A) → is_prefix_free table ≡ true → (end i : ℕ) (a : A) (text rest : List ℕ) → Among table i a text → among_at table end (text ++ rest) ≡ Ok (a, rest)
  among_again [] h end i a text rest is = elim is [ ]
  among_again (w ∷ ws) h end i a text rest (inl is) =
      ap (λ (z : Read A). either_read z (among_at ws end (text ++ rest)))
      (ap (λ (z : List ℕ). word_at w.0 w.1 end (z ++ rest)) is.1 ∙ word_again w.1 w.0 end rest ∙ ap (λ (z : A). Ok (z, rest)) (sym is.0))
  among_again (w ∷ ws) h end i a text rest (inr is) =
      let k = and_parts (is_apart w.0 ws) (is_prefix_free ws) h in
      behind k.0 (word_at w.0 w.1 end (text ++ rest)) (word_sound w.1 w.0 end i (text ++ rest)) (among_again ws k.1 end i a text rest is)
    where
      behind : is_apart w.0 ws ≡ true → (x : Read A) → Outcome (Word w.0 w.1) i (text ++ rest) x → among_at ws end (text ++ rest) ≡ Ok (a, rest)
          → either_read x (among_at ws end (text ++ rest)) ≡ Ok (a, rest)
      behind d (Err m) o e = ap (λ (z : Read A). either_read (Err m) z) e
      behind d (Ok v) o e =
          let no = apart_among w.0 ws d i a text is in
          elim (fronts text rest o.text v.1 o.split) [
            | inl f ↦ absurd (no.1 (ap (is_front text) (sym o.is.1) ∙ f))
            | inr f ↦ absurd (no.0 (ap (λ (z : List ℕ). is_front z text) (sym o.is.1) ∙ f))
          ]

  -- whether each word begins with a byte of the set
  abbrev pub begin_in : Class → Table A → Bool
  begin_in c [] = true
  begin_in c (([], a) ∷ ws) = false
  begin_in c ((b ∷ bytes, a) ∷ ws) = has c b && begin_in c ws

  among_begins : (c : Class) (table : Table A) → begin_in c table ≡ true → (i : ℕ) (a : A) (text : List ℕ) → Among table i a text → Begins c false text
  among_begins c [] h i a text is = elim is [ ]
  among_begins c (([], v) ∷ ws) h i a text is = absurd cc
  among_begins c ((b ∷ bytes, v) ∷ ws) h i a text (inl is) = subst (λ (z : List ℕ). Begins c false z) (sym is.1) (and_parts (has c b) (begin_in c ws) h).0
  among_begins c ((b ∷ bytes, v) ∷ ws) h i a text (inr is) = among_begins c ws (and_parts (has c b) (begin_in c ws) h).1 i a text is

  -- The reader of a table finds the word that stands in front, finds no other, and stops behind the longest front of one.
  pub among_ok : (table : Table A) (c : Class) → (length table == 0) ≡ false → is_prefix_free table ≡ true → begin_in c table ≡ true → Lawful (Among table) (among_at table) c false []
  among_ok [] c some free starts = absurd cc
  among_ok (w ∷ ws) c some free starts = record {
    reads = record { sound = λ end i bytes n. among_sound w ws end i bytes; agree = λ end last i p x q r m n. among_agree (w ∷ ws) free end last p x q r; begins = among_begins c (w ∷ ws) starts };
    again = λ end i a text rest is h n. among_again (w ∷ ws) free end i a text rest is;
  }
