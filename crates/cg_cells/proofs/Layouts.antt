-- Parts and words: the parts of a word have that word, and parts that fit are those of their word.
use Rattle.std.proofs.Common.{◌≡◌, ℕ, ℤ, pos, negsuc, ◌+◌, ◌-◌, ◌/◌, ◌%◌, ◌<◌, ◌≤◌, ◌⊎◌, Option, Some, None, IfSome, IfNone, IsSome, ◌≢◌, unsigned_abs}
use Rattle.std.proofs.Common.{Bool, true, false, IsTrue, nat_lt, arith, rules, ap, sym, ◌∙◌, ◌==◌, ◌&&◌, ◌||◌, ◌^◌, refl, subst, if◌then◌else◌, add-one}
use Rattle.std.proofs.lemmas.Bool.Decides.{nat_tests}
use Rattle.cg_cells.specs.declared.key.KeyParts.{KeyParts}
use Rattle.cg_cells.specs.declared.key.KeyParts.TheVariants.{Number, Chunk, Cons, Game, Pair, Board, Long}
use Rattle.cg_cells.specs.Layout.{FieldsFit, TypesFit, IsLink, word_of, id_field, num_field, sign_field, NumFits}
use Rattle.cg_cells.proofs.Notes.{some_is}
use Rattle.cg_cells.specs.Parts.{num_at, link_at, fields_at, num_fits, is_link, fits, kept_at, parts_of}

pub link_small : (o : Option ℕ) → IsLink o → id_field o ≤ (2 ^ 26)
link_small None l = omega arith
link_small (Some i) l = omega arith

pub num_small : (n : ℤ) → NumFits n → num_field n < (2 ^ 53)
num_small (pos n) f = omega arith
num_small (negsuc n) f = omega arith

-- the number of the kind
abbrev pub kind_of : KeyParts → ℕ
kind_of (Number num exp) = 1
kind_of (Chunk content next) = 2
kind_of (Cons first rest) = 3
kind_of (Game lefts rights) = 4
kind_of (Pair low high) = 5
kind_of (Board number rows columns first) = 6
kind_of (Long first exp negative) = 7

pub sign_small : (b : Bool) → sign_field b ≤ 1
sign_small true = omega arith
sign_small false = omega arith

pub kind_word : (p : KeyParts) → FieldsFit p → TypesFit p → word_of p / 2 ^ 61 ≡ kind_of p
kind_word (Number num exp) f t = omega (arith, num_small num f.0)
kind_word (Chunk content next) f t = omega (arith, link_small next t.1)
kind_word (Cons first rest) f t = omega (arith, link_small rest t.1)
kind_word (Game lefts rights) f t = omega (arith, link_small lefts t.0, link_small rights t.1)
kind_word (Pair low high) f t = omega arith
kind_word (Board number rows columns first) f t = omega arith
kind_word (Long first exp negative) f t = omega (arith, sign_small negative)

-- the kind that stands in a word
pub same_kind : (p : KeyParts) (w k : ℕ) → FieldsFit p → TypesFit p → word_of p ≡ w → w / 2 ^ 61 ≡ k → kind_of p ≡ k
same_kind p w k f t e h = omega (arith, kind_word p f t, ap (λ n. n / 2 ^ 61) e)

-- the parts of a list, where they are read as they stand in its word
pub list_parts : (p : KeyParts) (w x : ℕ) (o : Option ℕ) → FieldsFit p → TypesFit p → word_of p ≡ w → kind_of p ≡ 3
    → ((i : ℕ) → i < 2 ^ 26 → i + 1 ≡ w % 2 ^ 61 % 134217728 → x ≡ i)
    → ((q : Option ℕ) → IsLink q → id_field q ≡ w % 2 ^ 61 / 134217728 → o ≡ q)
    → Cons x o ≡ p
list_parts (Number num exp) w x o f t e k hx ho = absurd (omega arith)
list_parts (Chunk content next) w x o f t e k hx ho = absurd (omega arith)
list_parts (Cons first rest) w x o f t e k hx ho =
    let small = link_small rest t.1 in
    let a : x ≡ first = hx first t.0 (omega arith) in
    let b : o ≡ rest = ho rest t.1 (omega arith) in
    cc
list_parts (Game lefts rights) w x o f t e k hx ho = absurd (omega arith)
list_parts (Pair low high) w x o f t e k hx ho = absurd (omega arith)
list_parts (Board number rows columns first) w x o f t e k hx ho = absurd (omega arith)
list_parts (Long first exp negative) w x o f t e k hx ho = absurd (omega arith)

pub sign_back : (b : Bool) (n : ℕ) → sign_field b ≡ n → (n == 1) ≡ b
sign_back true n e = rw (← e) refl
sign_back false n e = rw (← e) refl

num_back : (n : ℤ) (b : ℕ) → NumFits n → num_field n ≡ b → num_at b ≡ n
num_back (pos n) b f e = rw (← e) (grind (arith, nat_tests))
num_back (negsuc n) b f e = rw (← e) (grind (arith, nat_tests))

link_back : (o : Option ℕ) (b : ℕ) → id_field o ≡ b → link_at b ≡ o
link_back None b e = ap link_at (sym e)
link_back (Some i) b e = rw (← e, add-one) refl

pub lt_true : (a b : ℕ) → a < b → IsTrue (nat_lt a b)
lt_true a b h = grind (arith, nat_tests)

pub lt_back : (a b : ℕ) → IsTrue (nat_lt a b) → a < b
lt_back a b h = grind (arith, nat_tests)

pub both : (a b : Bool) → IsTrue a → IsTrue b → IsTrue (a && b)
both true b h k = k
both false b h k = absurd (search (rules, h))

pub both_back : (a b : Bool) → IsTrue (a && b) → IsTrue a × IsTrue b
both_back true b h = (search rules, h)
both_back false b h = absurd (search (rules, h))

link_true : (o : Option ℕ) → IsLink o → IsTrue (is_link o)
link_true None l = search rules
link_true (Some i) l = lt_true i (2 ^ 26) l

link_test : (o : Option ℕ) → IsTrue (is_link o) → IsLink o
link_test None l = tt
link_test (Some i) l = lt_back i (2 ^ 26) l

num_true : (n : ℤ) → NumFits n → IsTrue (num_fits n)
num_true n f = lt_true (unsigned_abs n) (2 ^ 52) f

num_test : (n : ℤ) → IsTrue (num_fits n) → NumFits n
num_test n f = lt_back (unsigned_abs n) (2 ^ 52) f

pub lowest_true : (e m : ℕ) → (e ≡ 0) ⊎ (m ≡ 1) → IsTrue ((e == 0) || (m == 1))
lowest_true e m h = grind (arith, nat_tests)

pub lowest_test : (e m : ℕ) → IsTrue ((e == 0) || (m == 1)) → (e ≡ 0) ⊎ (m ≡ 1)
lowest_test e m h = grind (arith, nat_tests)

fits_true : (p : KeyParts) → FieldsFit p → TypesFit p → IsTrue (fits p)
fits_true (Number num exp) f t = both _ _ (both _ _ (num_true num f.0) (lt_true exp 32 (omega arith))) (lowest_true exp _ f.2)
fits_true (Chunk content next) f t = both _ _ (lt_true content (2 ^ 32) t.0) (link_true next t.1)
fits_true (Cons first rest) f t = both _ _ (lt_true first (2 ^ 26) t.0) (link_true rest t.1)
fits_true (Game lefts rights) f t = both _ _ (both _ _ (link_true lefts t.0) (link_true rights t.1)) (lt_true 0 _ (omega arith))
fits_true (Pair low high) f t = both _ _ (lt_true low (high + 1) (omega arith)) (lt_true high (2 ^ 26) t.1)
fits_true (Board number rows columns first) f t = both _ _ (both _ _ (both _ _ (both _ _ (both _ _ (both _ _ (lt_true 0 number (omega arith)) (lt_true number 16 (omega arith))) (lt_true 0 rows (omega arith))) (lt_true rows 65 (omega arith))) (lt_true 0 columns (omega arith))) (lt_true columns 65 (omega arith))) (lt_true first (2 ^ 26) t)
fits_true (Long first exp negative) f t = both _ _ (lt_true exp 41 (omega arith)) (lt_true first (2 ^ 26) t)

fits_back : (p : KeyParts) → IsTrue (fits p) → FieldsFit p × TypesFit p
fits_back (Number num exp) h =
    let a = both_back _ _ h in
    let b = both_back _ _ a.0 in
    let s : exp < 32 = lt_back exp 32 b.1 in
    ((num_test num b.0, omega arith, lowest_test exp _ a.1), tt)
fits_back (Chunk content next) h =
    let a = both_back _ _ h in
    (tt, (lt_back content (2 ^ 32) a.0, link_test next a.1))
fits_back (Cons first rest) h =
    let a = both_back _ _ h in
    (tt, (lt_back first (2 ^ 26) a.0, link_test rest a.1))
fits_back (Game lefts rights) h =
    let a = both_back _ _ h in
    let b = both_back _ _ a.0 in
    let s : 0 < id_field lefts + id_field rights = lt_back 0 _ a.1 in
    (omega arith, (link_test lefts b.0, link_test rights b.1))
fits_back (Pair low high) h =
    let a = both_back _ _ h in
    let s : low < high + 1 = lt_back low (high + 1) a.0 in
    let t : high < (2 ^ 26) = lt_back high (2 ^ 26) a.1 in
    (omega arith, (omega arith, t))
fits_back (Board number rows columns first) h =
    let a = both_back _ _ h in
    let b = both_back _ _ a.0 in
    let c = both_back _ _ b.0 in
    let d = both_back _ _ c.0 in
    let e = both_back _ _ d.0 in
    let f = both_back _ _ e.0 in
    let s : first < (2 ^ 26) = lt_back first (2 ^ 26) a.1 in
    let s1 : columns < 65 = lt_back columns 65 b.1 in
    let s2 : 0 < columns = lt_back 0 columns c.1 in
    let s3 : rows < 65 = lt_back rows 65 d.1 in
    let s4 : 0 < rows = lt_back 0 rows e.1 in
    let s5 : number < 16 = lt_back number 16 f.1 in
    let s6 : 0 < number = lt_back 0 number f.0 in
    ((omega arith, omega arith, omega arith, omega arith, omega arith, omega arith), s)
fits_back (Long first exp negative) h =
    let a = both_back _ _ h in
    let s : exp < 41 = lt_back exp 41 a.0 in
    (omega arith, lt_back first (2 ^ 26) a.1)

fields_at_kind : (p : KeyParts) (k w : ℕ) → FieldsFit p → TypesFit p → word_of p ≡ w → kind_of p ≡ k → fields_at k (w % 2 ^ 61) ≡ Some p
fields_at_kind (Number num exp) k w f t e h =
    rw (← h) (let a = num_back num (w % 2 ^ 61 % 2 ^ 53) f.0 (omega (arith, num_small num f.0)) in
    let b : w % 2 ^ 61 / 2 ^ 53 ≡ exp = omega (arith, num_small num f.0) in cc)
fields_at_kind (Chunk content next) k w f t e h =
    rw (← h) (let a = link_back next (w % 2 ^ 61 / 2 ^ 32) (omega (arith, link_small next t.1)) in
    let b : w % 2 ^ 61 % 2 ^ 32 ≡ content = omega (arith, link_small next t.1) in cc)
fields_at_kind (Cons first rest) k w f t e h =
    rw (← h) (let a = link_back rest (w % 2 ^ 61 / 2 ^ 27) (omega (arith, link_small rest t.1)) in
    let b : w % 2 ^ 61 % 2 ^ 27 - 1 ≡ first = omega (arith, link_small rest t.1) in cc)
fields_at_kind (Game lefts rights) k w f t e h =
    rw (← h) (let a = link_back lefts (w % 2 ^ 61 % 2 ^ 27) (omega (arith, link_small lefts t.0, link_small rights t.1)) in
    let b = link_back rights (w % 2 ^ 61 / 2 ^ 27) (omega (arith, link_small lefts t.0, link_small rights t.1)) in cc)
fields_at_kind (Pair low high) k w f t e h =
    rw (← h) (let a : w % 2 ^ 61 % 2 ^ 27 - 1 ≡ low = omega arith in
    let b : w % 2 ^ 61 / 2 ^ 27 - 1 ≡ high = omega arith in cc)
fields_at_kind (Board number rows columns first) k w f t e h =
    rw (← h) (let a : w % 2 ^ 61 / 2 ^ 54 ≡ number = omega arith in
    let b : w % 2 ^ 61 / 2 ^ 47 % 2 ^ 7 ≡ rows = omega arith in
    let c : w % 2 ^ 61 / 2 ^ 40 % 2 ^ 7 ≡ columns = omega arith in
    let d : w % 2 ^ 61 % 2 ^ 40 - 1 ≡ first = omega arith in cc)
fields_at_kind (Long first exp negative) k w f t e h =
    rw (← h) (let a = sign_back negative (w % 2 ^ 61 / 2 ^ 33) (omega (arith, sign_small negative)) in
    let b : w % 2 ^ 61 / 2 ^ 27 % 2 ^ 6 ≡ exp = omega (arith, sign_small negative) in
    let c : w % 2 ^ 61 % 2 ^ 27 - 1 ≡ first = omega (arith, sign_small negative) in cc)

same_number : (a b : ℕ) → a ≡ b → (a == b) ≡ true
same_number a b e = grind (arith, nat_tests)

same_number_back : (a b : ℕ) → IsTrue (a == b) → a ≡ b
same_number_back a b h = grind (arith, nat_tests)

is_true : (b : Bool) → IsTrue b → b ≡ true
is_true true h = refl
is_true false h = absurd (search (rules, h))

pub parts_of_word : (p : KeyParts) (w : ℕ) → FieldsFit p → TypesFit p → word_of p ≡ w → parts_of w ≡ Some p
unfolding parts_of
parts_of_word p w f t e =
    rw (fields_at_kind p (w / 2 ^ 61) w f t e (omega (arith, kind_word p f t, ap (λ n. n / 2 ^ 61) e)))
    (let same : (word_of p == w) ≡ true = same_number (word_of p) w e in
    let fit : fits p ≡ true = is_true (fits p) (fits_true p f t) in
    simp (same, fit))

pub record IsPartsOf (p : KeyParts) (w : ℕ) : Type 0 where
  pub fields : FieldsFit p
  pub types : TypesFit p
  pub word : word_of p ≡ w

kept_test : (w : ℕ) (q p : KeyParts) (b : Bool) → fits q && (word_of q == w) ≡ b → (if b then Some q else None) ≡ Some p → IsPartsOf p w
kept_test w q p true h e =
    let both_true = both_back (fits q) (word_of q == w) (rw h refl) in
    let f = fits_back q both_true.0 in
    let s : q ≡ p = cc in
    let P : KeyParts → Type 0 = λ r. IsPartsOf r w in
    subst P s (record { fields = f.0; types = f.1; word = same_number_back (word_of q) w both_true.1 })
kept_test w q p false h e = cc

kept_parts : (w : ℕ) (o : Option KeyParts) (p : KeyParts) → kept_at w o ≡ Some p → IsPartsOf p w
kept_parts w None p e = cc
kept_parts w (Some q) p e = kept_test w q p (fits q && (word_of q == w)) refl e

pub parts_word : (w : ℕ) (p : KeyParts) → parts_of w ≡ Some p → IsPartsOf p w
unfolding parts_of
parts_word w p e = kept_parts w (fields_at (w / 2 ^ 61) (w % 2 ^ 61)) p e

none_or : (w : ℕ) (o : Option KeyParts) → parts_of w ≡ o → ((p : KeyParts) → FieldsFit p → TypesFit p → word_of p ≢ w) → o ≡ None
none_or w None e none = refl
none_or w (Some p) e none = let h = parts_word w p e in absurd (none p h.fields h.types h.word)

-- a word that is the word of no parts has none
pub parts_none : (w : ℕ) → ((p : KeyParts) → FieldsFit p → TypesFit p → word_of p ≢ w) → parts_of w ≡ None
parts_none w none = none_or w (parts_of w) refl none

pub parts_from : (w : ℕ) (o : Option KeyParts) → IfSome o (λ p. FieldsFit p × TypesFit p × (word_of p ≡ w)) → IfNone o ((p : KeyParts) → FieldsFit p → TypesFit p → word_of p ≢ w) → o ≡ parts_of w
parts_from w (Some p) some none = sym (parts_of_word p w some.0 some.1 some.2)
parts_from w None some none = sym (parts_none w none)

-- what is read of a word w that has parts, where it would be any parts of that word
pub parts_read : (w v : ℕ) (o q : Option KeyParts) → w ≡ v → IsSome (parts_of v) → ((p : KeyParts) → FieldsFit p → TypesFit p → word_of p ≡ w → o ≡ Some p) → o ≡ q → parts_of v ≡ q
parts_read w v o q same has reads is =
    let s = some_is (parts_of v) has in
    let p = parts_word v s.0 s.1 in
    s.1 ∙ sym (reads s.0 p.fields p.types (p.word ∙ sym same)) ∙ is
