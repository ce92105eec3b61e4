-- Sets of bytes.
use Rattle.std.proofs.Common.{◌≡◌, ℕ, ◌≤◌, inl, inr, Bool, true, false, ◌&&◌, ◌||◌, cond, leb, List, [], ◌∷◌, ◌++◌, refl, ap, sym, subst, ◌∙◌, arith}
use Rattle.std.specs.Prelude.{ltb}
use Rattle.std.proofs.Math.Bool.{or-true, and-false}
use Rattle.std.proofs.lemmas.Bool.{true≢false, false_from_ne_true, and_parts, and_from, leb-true, ltb-true, le-leb, lt-leb, or_cases, or_parts}
use Rattle.cg_reading.specs.Bytes.{Class, has, Ends, Begins}

or_assoc : (a b c : Bool) → ((a || b) || c) ≡ (a || (b || c))
or_assoc true b c = refl
or_assoc false b c = refl

-- ---- sets of bytes

pub has_append : (c d : Class) (b : ℕ) → has (c ++ d) b ≡ (has c b || has d b)
has_append [] d b = refl
has_append (r ∷ rs) d b = ap (λ (x : Bool). (leb r.0 b && leb b r.1) || x) (has_append rs d b) ∙ sym (or_assoc (leb r.0 b && leb b r.1) (has rs b) (has d b))

pub has_left : (c d : Class) (b : ℕ) → has c b ≡ true → has (c ++ d) b ≡ true
has_left c d b h = has_append c d b ∙ ap (λ (x : Bool). x || has d b) h

pub has_right : (c d : Class) (b : ℕ) → has d b ≡ true → has (c ++ d) b ≡ true
has_right c d b h = has_append c d b ∙ ap (λ (x : Bool). has c b || x) h ∙ or-true (has c b)

no_left : (c d : Class) (b : ℕ) → has (c ++ d) b ≡ false → has c b ≡ false
no_left c d b h = (or_parts (has c b) (has d b) (sym (has_append c d b) ∙ h)).0

pub no_right : (c d : Class) (b : ℕ) → has (c ++ d) b ≡ false → has d b ≡ false
no_right c d b h = (or_parts (has c b) (has d b) (sym (has_append c d b) ∙ h)).1

-- no byte is in the range and in the set
abbrev pub away : ℕ → ℕ → Class → Bool
away low high [] = true
away low high (s ∷ ss) = (ltb high s.0 || ltb s.1 low) && away low high ss

-- no byte is in both sets
abbrev pub apart : Class → Class → Bool
apart [] d = true
apart (r ∷ rs) d = away r.0 r.1 d && apart rs d

not_in : (low high b : ℕ) (d : Class) → away low high d ≡ true → low ≤ b → b ≤ high → has d b ≡ false
not_in low high b [] h l u = refl
not_in low high b (s ∷ ss) h l u =
    let p = and_parts (ltb high s.0 || ltb s.1 low) (away low high ss) h in
    let out : (leb s.0 b && leb b s.1) ≡ false = elim (or_cases (ltb high s.0) (ltb s.1 low) p.0) [
      | inl q ↦ rw (lt-leb s.0 b (omega (arith, ltb-true high s.0 q))) refl
      | inr q ↦ rw (lt-leb b s.1 (omega (arith, ltb-true s.1 low q))) (and-false (leb s.0 b))
    ] in
    ap (λ (x : Bool). x || has ss b) out ∙ not_in low high b ss p.1 l u

pub apart_has : (c d : Class) (b : ℕ) → apart c d ≡ true → has c b ≡ true → has d b ≡ false
apart_has [] d b h k = absurd cc
apart_has (r ∷ rs) d b h k =
    let p = and_parts (away r.0 r.1 d) (apart rs d) h in
    elim (or_cases (leb r.0 b && leb b r.1) (has rs b) k) [
      | inl q ↦ (let t = and_parts (leb r.0 b) (leb b r.1) q in not_in r.0 r.1 b d p.0 (leb-true r.0 b t.0) (leb-true b r.1 t.1))
      | inr q ↦ apart_has rs d b p.1 q
    ]

pub ends_left : (c d : Class) (bytes : List ℕ) → Ends (c ++ d) bytes → Ends c bytes
ends_left c d [] h = tt
ends_left c d (b ∷ bytes) h = no_left c d b h

pub ends_right : (c d : Class) (bytes : List ℕ) → Ends (c ++ d) bytes → Ends d bytes
ends_right c d [] h = tt
ends_right c d (b ∷ bytes) h = no_right c d b h

-- what comes behind a piece: the next one, or what comes behind that
pub next_ends : (c F G : Class) (e : Bool) (text rest : List ℕ) → apart c F ≡ true → Begins c e text → Ends (cond e (F ++ G) G) rest → Ends F (text ++ rest)
next_ends c F G e [] rest a b h = let h' : Ends (F ++ G) rest = subst (λ (x : Bool). Ends (cond x (F ++ G) G) rest) b h in ends_left F G rest h'
next_ends c F G e (x ∷ text) rest a b h = apart_has c F x a b

pub last_ends : (F G : Class) (e : Bool) (rest : List ℕ) → Ends (cond e (F ++ G) G) rest → Ends G rest
last_ends F G true rest h = ends_right F G rest h
last_ends F G false rest h = h

pub both_begin : (I J : Class) (d e : Bool) (x y : List ℕ) → Begins I d x → Begins J e y → Begins (cond d (I ++ J) I) (d && e) (x ++ y)
both_begin I J false e [] y b k = absurd cc
both_begin I J true e [] [] b k = k
both_begin I J true e [] (v ∷ y) b k = has_right I J v k
both_begin I J true e (v ∷ x) y b k = has_left I J v b
both_begin I J false e (v ∷ x) y b k = b

-- each range lies in a range of the other set
abbrev pub covered : ℕ → ℕ → Class → Bool
covered low high [] = false
covered low high (s ∷ ss) = (leb s.0 low && leb high s.1) || covered low high ss

abbrev pub inside : Class → Class → Bool
inside [] d = true
inside (r ∷ rs) d = covered r.0 r.1 d && inside rs d

covered_has : (low high b : ℕ) (d : Class) → covered low high d ≡ true → low ≤ b → b ≤ high → has d b ≡ true
covered_has low high b [] h l u = absurd cc
covered_has low high b (s ∷ ss) h l u =
    elim (or_cases (leb s.0 low && leb high s.1) (covered low high ss) h) [
      | inl q ↦ (let t = and_parts (leb s.0 low) (leb high s.1) q in
          let both : (leb s.0 b && leb b s.1) ≡ true = and_from (leb s.0 b) (leb b s.1) (le-leb s.0 b (omega (arith, leb-true s.0 low t.0))) (le-leb b s.1 (omega (arith, leb-true high s.1 t.1))) in
          ap (λ (x : Bool). x || has ss b) both)
      | inr q ↦ ap (λ (x : Bool). (leb s.0 b && leb b s.1) || x) (covered_has low high b ss q l u) ∙ or-true (leb s.0 b && leb b s.1)
    ]

pub inside_has : (c d : Class) (b : ℕ) → inside c d ≡ true → has c b ≡ true → has d b ≡ true
inside_has [] d b h k = absurd cc
inside_has (r ∷ rs) d b h k =
    let p = and_parts (covered r.0 r.1 d) (inside rs d) h in
    elim (or_cases (leb r.0 b && leb b r.1) (has rs b) k) [
      | inl q ↦ (let t = and_parts (leb r.0 b) (leb b r.1) q in covered_has r.0 r.1 b d p.0 (leb-true r.0 b t.0) (leb-true b r.1 t.1))
      | inr q ↦ inside_has rs d b p.1 q
    ]

pub wider_begins : (c d : Class) (e : Bool) (text : List ℕ) → inside c d ≡ true → Begins c e text → Begins d e text
wider_begins c d e [] h b = b
wider_begins c d e (x ∷ text) h b = inside_has c d x h b

pub wider_ends : (c d : Class) (rest : List ℕ) → inside c d ≡ true → Ends d rest → Ends c rest
wider_ends c d [] h b = tt
wider_ends c d (x ∷ rest) h b = false_from_ne_true (has c x) (λ (k : has c x ≡ true). true≢false (sym (inside_has c d x h k) ∙ b))

pub no_class : (rest : List ℕ) → Ends [] rest
no_class [] = tt
no_class (b ∷ rest) = refl

-- what a text begins with goes on
pub first_begins : (I : Class) (x y : List ℕ) → Begins I false x → Begins I true (x ++ y)
first_begins I [] y b = absurd cc
first_begins I (v ∷ x) y b = b
