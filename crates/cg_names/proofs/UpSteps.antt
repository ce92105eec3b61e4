-- Ups and downs, made one after another.
use Rattle.std.proofs.Common.{◌≡◌, refl, ap, sym, ◌∙◌, subst, ℕ, zero, suc, ◌+◌, ◌-◌, ◌%◌, ◌<◌, ◌≤◌, arith, List, [], ◌∷◌, ◌++◌}
use Rattle.std.proofs.Common.{append_assoc, append-nil, map, Bool, true, false, not, ◌&&◌, nat_eq, inl, inr, Result, Ok, Err}
use Rattle.std.proofs.lemmas.Bool.Decides.{nat_tests}
use Rattle.std.specs.Result.{IsErrAnd}
use Rattle.cg_dyadic.proofs.Truth.{not_not}
use Rattle.cg_dyadic.proofs.Truth.{true_or_false}
use Rattle.cg_form.specs.Game.{Game}
use Rattle.cg_cells.specs.Store.{State}
use Rattle.cg_nodes.specs.Games.{StandsFor, game_at, games_at}
use Rattle.cg_nodes.specs.Meant.{Meant}
use Rattle.cg_nodes.proofs.Later.{stands_game, stands_later}
use Rattle.cg_canon.specs.declared.fault.ValueFault.{ValueFault}
use Rattle.cg_canon.specs.declared.rest.WorkRest.{WorkRest}
use Rattle.cg_canon.specs.Made.{Gives}
use Rattle.cg_names.specs.Lists.{plain_item}
use Rattle.cg_names.specs.Named.{mirrored_if, nimber_form, nimbers_below, star_form, ups_chain, ups_form, ups_last, ups_of, zero_form}
use Rattle.cg_canon.proofs.MadeCalls.{given_handed, given_last}
use Rattle.cg_names.proofs.Steps.{plain_split}

-- ---- which games of the chain have a star

-- whether the game with so many to come has a star: the last has none
abbrev pub odd : ℕ → Bool
odd n = nat_eq (n % 2) 1

pub odd-next : (n : ℕ) → odd (suc n) ≡ not (odd n)
odd-next n = elim (true_or_false (odd n)) [
  | inl e ↦ let f : odd (suc n) ≡ false = grind (arith, nat_tests) in f ∙ ap not (sym e)
  | inr e ↦ let f : odd (suc n) ≡ true = grind (arith, nat_tests) in f ∙ ap not (sym e)
]

pub ups_chain-next : (down starred : Bool) (n : ℕ)
    → ups_chain down starred (suc n) ≡ ups_chain down (not starred) n ++ (ups_of down starred (suc n) ∷ [])
unfolding ups_chain
ups_chain-next down starred n = refl

-- the chain up to a game is a front part of the whole chain
pub ups_chain-front : (down : Bool) (d n : ℕ) → (back : List Game) × (ups_chain down false (n + d) ≡ ups_chain down
    (odd d) n ++ back)
ups_chain-front down zero n = (
  [],
  ap (ups_chain down false) (let e : n + 0 ≡ n = omega arith in e) ∙ sym
      (append-nil (ups_chain down false n)),
)
ups_chain-front down (suc d) n =
    let (back, e) = ups_chain-front down d (suc n) in
    let next : List Game = ups_of down (odd d) (suc n) ∷ [] in
    let turned : not (odd d) ≡ odd (suc d) = sym (odd-next d) in (
      next ++ back,
      ap (ups_chain down false) (let e : n + suc d ≡ suc n + d = omega arith in e) ∙ e
          ∙ ap (λ z. z ++ back) (ups_chain-next down (odd d) n ∙ ap (λ b. ups_chain down b n ++ next) turned)
          ∙ append_assoc (ups_chain down (odd (suc d)) n) next back,
    )

-- ---- the options of the next game

-- {0,*|0}, which is ^*
pub two_are : (down starred : Bool) (level : ℕ) → (starred && nat_eq level 0) ≡ true
    → mirrored_if down (zero_form ∷ (ups_last down (not starred) level ∷ [])) (zero_form ∷ []) ≡ ups_of down starred
    (suc level)
unfolding ups_of
two_are down true zero e = refl
two_are down true (suc n) e = absurd (let f : nat_eq (suc n) 0 ≡ true = e in grind (arith, nat_tests))
two_are down false n e = absurd (cc)

-- {0|g}
pub one_is : (down starred : Bool) (level : ℕ) → (starred && nat_eq level 0) ≡ false
    → mirrored_if down (zero_form ∷ []) (ups_last down (not starred) level ∷ []) ≡ ups_of down starred (suc level)
unfolding ups_of
one_is down false zero e = refl
one_is down true zero e = absurd (cc)
one_is down starred (suc n) e = refl

module _ {R : Type 0} (v : State Meant R) where
  -- what is made of the handles
  pub two_made : (down starred : Bool) (level z last : ℕ) → StandsFor v z zero_form
      → StandsFor v last (ups_last down (not starred) level) → (starred && nat_eq level 0) ≡ true
      → mirrored_if down (games_at v (z ∷ (last ∷ []))) (games_at v (z ∷ [])) ≡ ups_of down starred (suc level)
  two_made down starred level z last a b e =
      ap (λ g. mirrored_if down (g ∷ (game_at v last ∷ [])) (g ∷ [])) (stands_game v z zero_form a)
      ∙ ap (λ g. mirrored_if down (zero_form ∷ (g ∷ [])) (zero_form ∷ []))
      (stands_game v last (ups_last down (not starred) level) b)
      ∙ two_are down starred level e

  pub one_made : (down starred : Bool) (level z last : ℕ) → StandsFor v z zero_form
      → StandsFor v last (ups_last down (not starred) level) → (starred && nat_eq level 0) ≡ false
      → mirrored_if down (games_at v (z ∷ [])) (games_at v (last ∷ [])) ≡ ups_of down starred (suc level)
  one_made down starred level z last a b e =
      ap (λ g. mirrored_if down (g ∷ []) (game_at v last ∷ [])) (stands_game v z zero_form a)
      ∙ ap (λ g. mirrored_if down (zero_form ∷ []) (g ∷ []))
      (stands_game v last (ups_last down (not starred) level) b)
      ∙ one_is down starred level e

  pub star_made : (z : ℕ) → StandsFor v z zero_form
      → mirrored_if false (games_at v (z ∷ [])) (games_at v (z ∷ [])) ≡ star_form
  star_made z a = ap (λ g. mirrored_if false (g ∷ []) (g ∷ [])) (stands_game v z zero_form a)

-- ---- the loop

-- the handles of 0 and of the game that was made last, and what was made
pub record UpsMade {R : Type 0} (w v : State Meant (WorkRest R)) (down : Bool) (count z last : ℕ) (starred : Bool)
    (level : ℕ) : Type 0 where
  pub zero_stands : StandsFor v z zero_form
  pub given : Gives w v (map plain_item (ups_chain down starred level)) (ups_last down starred level) (Ok last)
  pub parity : starred ≡ odd (count - level)

-- before the next one
next_odd : (count level : ℕ) (starred : Bool) → starred ≡ odd (count - level) → level < count → not starred ≡
    odd (count - suc level)
next_odd count level starred p l =
    let d : count - level ≡ suc (count - suc level) = omega arith in
    ap not (p ∙ ap odd d ∙ odd-next (count - suc level)) ∙ not_not (odd (count - suc level))

pub last_before : {R : Type 0} (v : State Meant R) (down starred : Bool) (last level : ℕ)
    → StandsFor v last (ups_last down starred level) → StandsFor v last (ups_last down (not (not starred)) level)
last_before v down starred last level s =
    rw (not_not starred) s

-- 0 and *, with which each chain begins
module _ {R : Type 0} (w v : State Meant (WorkRest R)) (down : Bool) (count : ℕ) where
  begins : (back : List Game) × (ups_chain down false count ≡ zero_form ∷ (star_form ∷ back))
  unfolding ups_chain
  begins =
      let (back, front) = ups_chain-front down count 0 in
      (back, ap (ups_chain down false) (let e : count ≡ 0 + count = omega arith in e) ∙ front)

  pub ups_first_refused : {q : Result ℕ ValueFault} {x : ValueFault} → Gives w v (plain_item zero_form ∷ []) zero_form (Err x)
      → IsErrAnd q (λ e. e ≡ x) → Gives w v (map plain_item (ups_chain down false count)) (ups_form down count) q
  ups_first_refused m a =
      let (back, front) = begins in
      given_handed (map plain_item (star_form ∷ back)) m a (ap (map plain_item) front)

  module _ (u : State Meant (WorkRest R)) (z : ℕ) (m : Gives w v (plain_item zero_form ∷ []) zero_form (Ok z)) where
    begun : {q : Result ℕ ValueFault} → Gives v u (plain_item star_form ∷ []) star_form q
        → Gives w u (plain_item zero_form ∷ (plain_item star_form ∷ [])) star_form q
    begun n = given_last m n refl

    pub ups_star_refused : {q : Result ℕ ValueFault} {x : ValueFault} → Gives v u (plain_item star_form ∷ []) star_form (Err x)
        → IsErrAnd q (λ e. e ≡ x) → Gives w u (map plain_item (ups_chain down false count)) (ups_form down count) q
    ups_star_refused n a =
        let (back, front) = begins in
        given_handed (map plain_item back) (begun n) a (ap (map plain_item) front)

    pub ups_start : (last : ℕ) (starred : Bool) → Gives v u (plain_item star_form ∷ []) star_form (Ok last) → starred ≡ odd count
        → UpsMade w u down count z last starred 0
    unfolding ups_chain
    ups_start last starred n p = record {
      zero_stands = stands_later v u n.made.keeps.known z zero_form m.game;
      given = begun n;
      parity = p ∙ ap odd (let e : count ≡ count - 0 = omega arith in e);
    }

-- one game more
module _ {R : Type 0} (w v u : State Meant (WorkRest R)) (down : Bool) (count z last : ℕ) (starred : Bool) (level : ℕ)
    (i : UpsMade w v down count z last starred level) (within : level < count) where
  abbrev next_form : Game
  next_form = ups_of down (not starred) (suc level)

  one_more : {r : Result ℕ ValueFault} → Gives v u (plain_item next_form ∷ []) next_form r
      → Gives w u (map plain_item (ups_chain down (not starred) (suc level))) next_form r
  one_more m =
      given_last i.given m (plain_split _ _ (ups_chain-next down (not starred) level
      ∙ ap (λ b. ups_chain down b level ++ (next_form ∷ [])) (not_not starred)))

  pub ups_next : (next after : ℕ) → Gives v u (plain_item next_form ∷ []) next_form (Ok next) → after ≡ suc level
      → UpsMade w u down count z next (not starred) after
  ups_next next after m e =
      rw e (record {
        zero_stands = stands_later v u m.made.keeps.known z zero_form i.zero_stands;
        given = one_more m;
        parity = next_odd count level starred i.parity within;
      })

  pub ups_refused : {q : Result ℕ ValueFault} {x : ValueFault} → Gives v u (plain_item next_form ∷ []) next_form (Err x)
      → IsErrAnd q (λ e. e ≡ x) → Gives w u (map plain_item (ups_chain down false count)) (ups_form down count) q
  ups_refused m a =
      let d : ℕ = count - suc level in
      let (back, front) = ups_chain-front down d (suc level) in
      given_handed (map plain_item back) (one_more m) a
      (plain_split _ back (ap (ups_chain down false) (let e : count ≡ suc level + d = omega arith in e) ∙ front
      ∙ ap (λ b. ups_chain down b (suc level) ++ back) (sym (next_odd count level starred i.parity within))))

-- the end
pub ups_done : {R : Type 0} (w v : State Meant (WorkRest R)) (down : Bool) (count z last : ℕ) (starred : Bool) (level : ℕ)
    → UpsMade w v down count z last starred level → level ≡ count → 1 ≤ count
    → Gives w v (map plain_item (ups_chain down false count)) (ups_form down count) (Ok last)
ups_done w v down zero z last starred level i e l = absurd (omega arith)
ups_done w v down (suc n) z last starred level i e l =
    let s : starred ≡ false = i.parity ∙ ap odd (let d : suc n - level ≡ 0 = omega arith in d) in
    let P : ℕ → Type 0 = λ k. Gives w v (map plain_item (ups_chain down starred k)) (ups_last down starred k) (Ok last) in
    let Q : Bool → Type 0 = λ b. Gives w v (map plain_item (ups_chain down b (suc n))) (ups_last down b (suc n)) (Ok last) in
    subst Q s (subst P e i.given)

-- with no ups the form is 0, as that of no nimber
pub none_up : (down : Bool) (count : ℕ) → count ≡ 0 → nimber_form 0 ≡ ups_form down count
unfolding nimber_form nimbers_below ups_of
none_up down count e = ap (ups_form down) (sym e)
