-- The first of the places of a byte.
use Rattle.std.proofs.Common.{◌≡◌, ◌≢◌, refl, ap, sym, ◌∙◌, ℕ, ◌-◌, zero, suc, ◌+◌, ◌<◌, ◌≤◌, arith, ⊎_elim, List, [], ◌∷◌, length, get_or, nat_eq}
use Rattle.std.proofs.lemmas.Bool.{cases_Bool, cond-true, cond-false, eqb-true, eq-eqb, ne_eqb, false≢true}
use Rattle.cg_reading.proofs.Skip.{same_head, some_item}
use Rattle.memchr.specs.Find.{is_byte, places, places_from}

at_place : (a : ℕ) (hay : List ℕ) (i n : ℕ) → get_or hay i 0 ≡ a → places_from (is_byte a) hay i (suc n) ≡ i ∷ places_from (is_byte a) hay (i + 1) n
unfolding places_from
at_place a hay i n h = cond-true _ _ _ (eq-eqb (get_or hay i 0) a h)

past_place : (a : ℕ) (hay : List ℕ) (i n : ℕ) → get_or hay i 0 ≢ a → places_from (is_byte a) hay i (suc n) ≡ places_from (is_byte a) hay (i + 1) n
unfolding places_from
past_place a hay i n h = cond-false _ _ _ (ne_eqb (get_or hay i 0) a h)

nowhere_at : (a : ℕ) (hay : List ℕ) (i : ℕ) → places_from (is_byte a) hay i 0 ≡ []
unfolding places_from
nowhere_at a hay i = refl

one_further : (a : ℕ) (hay : List ℕ) (i n : ℕ) → get_or hay i 0 ≢ a → ((k : ℕ) → i + 1 ≤ k → k < n → get_or hay k 0 ≢ a)
    → (k : ℕ) → i ≤ k → k < n → get_or hay k 0 ≢ a
one_further a hay i n other behind k low high =
    ⊎_elim
    (λ t. let same : k ≡ i = eqb-true k i t in λ is. other (ap (λ (m : ℕ). get_or hay m 0) (sym same) ∙ is))
    (λ f. behind k (let later : k ≢ i = λ e. false≢true (sym f ∙ eq-eqb k i e) in omega (arith, low, later)) high)
    (cases_Bool (nat_eq k i))

-- a byte that has no place
no_place : (a : ℕ) (hay : List ℕ) (i n : ℕ) → places_from (is_byte a) hay i n ≡ [] → (k : ℕ) → i ≤ k → k < i + n → get_or hay k 0 ≢ a
no_place a hay i zero e = λ k low high is. absurd (omega (arith, low, high))
no_place a hay i (suc n) e =
    ⊎_elim
    (λ t. absurd (some_item i _ (sym (at_place a hay i n (eqb-true (get_or hay i 0) a t)) ∙ e)))
    (λ f.
    let other : get_or hay i 0 ≢ a = λ is. false≢true (sym f ∙ eq-eqb (get_or hay i 0) a is) in
    let behind = no_place a hay (i + 1) n (sym (past_place a hay i n other) ∙ e) in
    one_further a hay i (i + suc n) other (λ k low high. behind k low (omega (arith, high))))
    (cases_Bool (nat_eq (get_or hay i 0) a))

-- p is the first place from i up to n that holds the byte
pub record FirstPlace (a : ℕ) (hay : List ℕ) (i n p : ℕ) : Type 0 where
  pub within : p < n
  pub at : get_or hay p 0 ≡ a
  pub before : (k : ℕ) → i ≤ k → k < p → get_or hay k 0 ≢ a

first_place : (a : ℕ) (hay : List ℕ) (i n p : ℕ) (rest : List ℕ) → places_from (is_byte a) hay i n ≡ p ∷ rest → FirstPlace a hay i (i + n) p
first_place a hay i zero p rest e = absurd (some_item p rest (sym e ∙ nowhere_at a hay i))
first_place a hay i (suc n) p rest e =
    ⊎_elim
    (λ t.
    let is : get_or hay i 0 ≡ a = eqb-true (get_or hay i 0) a t in
    let same : i ≡ p = same_head i p _ rest (sym (at_place a hay i n is) ∙ e) in
    record {
      within = omega (arith, same);
      at = ap (λ (m : ℕ). get_or hay m 0) (sym same) ∙ is;
      before = λ k low high. absurd (omega (arith, same, low, high));
    })
    (λ f.
    let other : get_or hay i 0 ≢ a = λ is. false≢true (sym f ∙ eq-eqb (get_or hay i 0) a is) in
    let r = first_place a hay (i + 1) n p rest (sym (past_place a hay i n other) ∙ e) in
    record {
      within = omega (arith, r.within);
      at = r.at;
      before = one_further a hay i p other r.before;
    })
    (cases_Bool (nat_eq (get_or hay i 0) a))

all_places : (a : ℕ) (hay : List ℕ) → places (is_byte a) hay ≡ places_from (is_byte a) hay 0 (length hay)
all_places a hay = let e : length hay - 0 ≡ length hay = omega arith in ap (places_from (is_byte a) hay 0) e

-- the first of all places of a byte
pub first_of_places : (a : ℕ) (hay : List ℕ) (p : ℕ) (rest : List ℕ) → places (is_byte a) hay ≡ p ∷ rest → FirstPlace a hay 0 (length hay) p
first_of_places a hay p rest e =
    let first = first_place a hay 0 (length hay) p rest (sym (all_places a hay) ∙ e) in
    record { within = omega (arith, first.within); at = first.at; before = first.before }

-- a byte that has no place
pub no_places : (a : ℕ) (hay : List ℕ) → places (is_byte a) hay ≡ [] → (k : ℕ) → k < length hay → get_or hay k 0 ≢ a
no_places a hay e k high = no_place a hay 0 (length hay) (sym (all_places a hay) ∙ e) k (omega arith) (omega (arith, high))
