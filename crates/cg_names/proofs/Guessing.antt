-- The named form that a game has by its shape is the form that it is.
use Rattle.std.proofs.Common.{◌≡◌, refl, ap, sym, ◌∙◌, ℕ, zero, suc, arith, inl, inr, List, [], ◌∷◌, length}
use Rattle.std.proofs.Common.{Bool, true, false, not, cond, ◌&&◌, nat_eq, eq-eqb, Option, Some, None}
use Rattle.std.specs.Prelude.{nat_lt, if◌then◌else◌}
use Rattle.std.proofs.lemmas.Bool.Decides.{nat_tests}
use Rattle.cg_dyadic.specs.Exact.{number_negative}
use Rattle.cg_dyadic.specs.Number.{Number, NumberLe, number_le}
use Rattle.cg_dyadic.proofs.Truth.{and-both, and-split, false-from, not_true, true_or_false}
use Rattle.cg_dyadic.proofs.Values.{less-le, number_le-refl}
use Rattle.cg_form.specs.Depth.{depth_of}
use Rattle.cg_form.specs.Game.{Game, lefts, node, number, options, rights}
use Rattle.cg_form.specs.Shifted.{shifted}
use Rattle.cg_form.specs.Side.{far, near}
use Rattle.cg_form.specs.Structure.{is_same}
use Rattle.cg_form.proofs.Among.{lefts-node, rights-node}
use Rattle.cg_form.proofs.Structure.{is_same-back, is_same-refl}
use Rattle.cg_nodes.specs.Games.{IsNode}
use Rattle.cg_names.specs.Named.{mirrored_if, pair_form, switch_form, tiny_form, tiny_part, ups_of, zero_form, zero_number}
use Rattle.cg_names.specs.Readings.{stars_above}
use Rattle.cg_dyadic.specs.Exact.{number_text}
use Rattle.cg_names.specs.NamedForms.{base_text}
use Rattle.cg_names.specs.Shapes.{HasForm, checked, first_game, guess, guess_by, guess_level}
use Rattle.cg_names.specs.Shapes.{guess_steep, is_proper, is_starred, leading, named_game, named_form_of}
use Rattle.cg_names.specs.declared.named_form.NamedForm.{NamedForm}
use Rattle.cg_names.specs.declared.named_form.NamedForm.TheVariants.{Star, Arrows, Switch, Tiny}
use Rattle.cg_names.proofs.Reducing.{far-mirrored, near-mirrored}
use Rattle.cg_names.proofs.NamedFormLists.{IsStep, both_is, depth_step, length-stars, level_is, star_above, star_over, stars_first, step_is, step_node}
use Rattle.cg_dyadic.proofs.Negatives.{double_negative, negative_low}
use Rattle.cg_dyadic.proofs.Truth.{not_not}

-- ---- numbers

abbrev value_of : Game → Number
value_of (number z) = z
value_of (options ls rs) = zero_number

pub one_value : (x y : Number) → number x ≡ number y → x ≡ y
one_value x y e = ap value_of e

numbers_apart : (x y : Number) → ¬ (x ≡ y) → is_same (number x) (number y) ≡ false
numbers_apart x y n = false-from (is_same (number x) (number y))
    (λ t. n (one_value x y (is_same-back (number x) (number y) t)))

-- a number above 0 is neither 0 nor its own negative
not_zero : (x : Number) → ¬ NumberLe x zero_number → ¬ (x ≡ zero_number)
not_zero x p e = p (rw e (number_le-refl zero_number))

not_negative : (x : Number) → ¬ NumberLe x zero_number → ¬ (x ≡ number_negative x)
not_negative x p e = p (rw e (negative_low x (less-le x zero_number p)))

not_zero_negative : (x : Number) → ¬ NumberLe x zero_number → ¬ (zero_number ≡ number_negative x)
not_zero_negative x p e = not_zero x p (sym (double_negative x) ∙ sym (ap number_negative e))

proper_number : (x : Number) → not (number_le x zero_number) ≡ true → ¬ NumberLe x zero_number
proper_number x t = not_true (number_le x zero_number) t

-- ---- the guess, from the lists

guess_lists : (ls rs : List Game) (o p : Option Number) → leading ls ≡ o → leading rs ≡ p
    → guess (node ls rs) ≡ guess_by (node ls rs) o p
unfolding guess
guess_lists ls rs o p e f =
    ap (λ z. guess_by (node ls rs) (leading z) (leading (rights (node ls rs)))) (lefts-node ls rs)
    ∙ ap (λ z. guess_by (node ls rs) (leading ls) (leading z)) (rights-node ls rs)
    ∙ ap (λ z. guess_by (node ls rs) z (leading rs)) e ∙ ap (λ z. guess_by (node ls rs) o z) f

-- the same number first on both sides
level_guess : (ls rs cs ds : List Game) (x : Number) → ls ≡ number x ∷ cs → rs ≡ number x ∷ ds
    → guess (node ls rs) ≡ guess_level (length ls) (length rs) x
level_guess ls rs cs ds x e f =
    let g : Game = node ls rs in
    guess_lists ls rs (Some x) (Some x) (ap leading e) (ap leading f)
    ∙ ap (λ b. cond b (guess_level (length (lefts g)) (length (rights g)) x) (Switch x)) (is_same-refl (number x))
    ∙ ap (λ z. guess_level (length z) (length (rights g)) x) (lefts-node ls rs)
    ∙ ap (λ z. guess_level (length ls) (length z) x) (rights-node ls rs)

-- {x|h}, or its mirror image
steep_guess : (down : Bool) (x : Number) (h : Game) → IsNode h → guess (mirrored_if down (number x ∷ []) (h ∷ []))
    ≡ guess_steep down x h (leading (lefts h)) (leading (rights h)) (mirrored_if down (number x ∷ []) (h ∷ []))
unfolding guess
steep_guess down x (number y) n = absurd n
steep_guess false x (options ls rs) n = refl
steep_guess true x (options ls rs) n = refl

-- ---- x + *n

star-guess : (x : Number) (n : ℕ) → guess (named_game (Star x (suc n))) ≡ Star x (suc n)
star-guess x n =
    let L : List Game = stars_above x (suc n) in
    let (gs, e) = stars_first x n in
    ap guess (star_over x n) ∙ level_guess L L gs gs x e e
    ∙ ap (λ (k : ℕ). guess_level k k x) (length-stars x (suc n))
    ∙ ap (λ b. if b then Star x (suc n) else Arrows (nat_lt (suc n) (suc n)) true x 1) (eq-eqb (suc n) (suc n) refl)

-- ---- x + n.^ and x + n.^*

-- a game at which arrows are guessed, whatever it is the option of
abbrev IsFlat : Game → Type 0
IsFlat h = (down : Bool) (y : Number) (g : Game) → guess_steep down y h (leading (lefts h)) (leading (rights h)) g
    ≡ Arrows down (is_starred (depth_of h) down g) y (depth_of h)

flat_level : (turned : Bool) (x : Number) (ls rs : List Game)
    → IsFlat (mirrored_if turned (number x ∷ ls) (number x ∷ rs))
flat_level false x ls rs down y g = rw (is_same-refl (number x)) refl
flat_level true x ls rs down y g = rw (is_same-refl (number x)) refl

flat_steep : (turned : Bool) (x : Number) (k : Game) → IsNode k → IsFlat (mirrored_if turned (number x ∷ []) (k ∷ []))
flat_steep turned x (number z) i down y g = absurd i
flat_steep false x (options ls rs) i down y g = refl
flat_steep true x (options ls rs) i down y g = refl

-- no game of the chain is {a|b} with different numbers
flat : (turned starred : Bool) (x : Number) (n : ℕ) → IsStep starred n → IsFlat (shifted x (ups_of turned (not starred) n))
flat turned starred x n s = by starred n s
  where
    at : (g h : Game) → g ≡ h → IsFlat h → IsFlat g
    at g h e i = rw e i

    by : (t : Bool) (m : ℕ) → IsStep t m → IsFlat (shifted x (ups_of turned (not t) m))
    by true zero i = absurd i
    by false zero i = at _ _ (level_is turned x) (flat_level turned x [] [])
    by false (suc zero) i = at _ _ (both_is turned x) (flat_level turned x (star_above x ∷ []) [])
    by true (suc zero) i = at _ _ (step_is turned false x zero tt)
        (flat_steep turned x (shifted x (ups_of turned true zero)) (step_node turned false x zero tt))
    by t (suc (suc m)) i = at _ _ (step_is turned (not t) x (suc m) tt)
        (flat_steep turned x (shifted x (ups_of turned (not (not t)) (suc m)))
        (step_node turned (not t) x (suc m) tt))

-- one option, and the test of the one behind it
starred_step : (n : ℕ) (down : Bool) (x : Number) (g h : Game) → g ≡ mirrored_if down (number x ∷ []) (h ∷ [])
    → is_starred (suc n) down g ≡ not (is_starred n down h)
unfolding is_starred
starred_step n down x g h e =
    let ls : near (not down) g ≡ number x ∷ [] = ap (near (not down)) e ∙ near-mirrored down (number x ∷ []) (h ∷ []) in
    let rs : far (not down) g ≡ h ∷ [] = ap (far (not down)) e ∙ far-mirrored down (number x ∷ []) (h ∷ []) in
    ap (λ z. if nat_eq (length z) 2 then true else not (is_starred n down (first_game (far (not down) g)))) ls
    ∙ ap (λ z. not (is_starred n down (first_game z))) rs

starred_both : (n : ℕ) (down : Bool) (x : Number) (g : Game)
    → g ≡ mirrored_if down (number x ∷ (star_above x ∷ [])) (number x ∷ []) → is_starred (suc n) down g ≡ true
unfolding is_starred
starred_both n down x g e =
    let ls : near (not down) g ≡ number x ∷ (star_above x ∷ []) =
    ap (near (not down)) e ∙ near-mirrored down (number x ∷ (star_above x ∷ [])) (number x ∷ []) in
    ap (λ z. if nat_eq (length z) 2 then true else not (is_starred n down (first_game (far (not down) g)))) ls

starred_none : (down : Bool) (g : Game) → is_starred zero down g ≡ true
unfolding is_starred
starred_none down g = refl

starred_is : (down starred : Bool) (x : Number) (n : ℕ) → is_starred (suc n) down (shifted x (ups_of down starred (suc n)))
    ≡ starred
starred_is down true x zero = starred_both zero down x (shifted x (ups_of down true (suc zero))) (both_is down x)
starred_is down false x zero =
    starred_step zero down x (shifted x (ups_of down false (suc zero))) (shifted x (ups_of down true zero))
    (step_is down false x zero tt) ∙ ap not (starred_none down (shifted x (ups_of down true zero)))
starred_is down starred x (suc n) =
    starred_step (suc n) down x (shifted x (ups_of down starred (suc (suc n))))
    (shifted x (ups_of down (not starred) (suc n))) (step_is down starred x (suc n) tt)
    ∙ ap not (starred_is down (not starred) x n) ∙ not_not starred

stepped : (down starred : Bool) (x : Number) (n : ℕ) → IsStep starred n
    → guess (shifted x (ups_of down starred (suc n))) ≡ Arrows down starred x (suc n)
stepped down starred x n s =
    let g : Game = shifted x (ups_of down starred (suc n)) in
    let h : Game = shifted x (ups_of down (not starred) n) in
    let k : Game = mirrored_if down (number x ∷ []) (h ∷ []) in
    let e : g ≡ k = step_is down starred x n s in
    ap guess e ∙ steep_guess down x h (step_node down starred x n s) ∙ flat down starred x n s down x k
    ∙ ap (λ z. Arrows down (is_starred (depth_of h) down z) x (depth_of h)) (sym e)
    ∙ ap (λ (m : ℕ). Arrows down (is_starred m down g) x m) (depth_step down starred x n s)
    ∙ ap (λ b. Arrows down b x (suc n)) (starred_is down starred x n)

both_guess : (down : Bool) (x : Number) → guess (mirrored_if down (number x ∷ (star_above x ∷ [])) (number x ∷ []))
    ≡ Arrows down true x 1
both_guess false x = level_guess (number x ∷ (star_above x ∷ [])) (number x ∷ []) (star_above x ∷ []) [] x refl refl
both_guess true x = level_guess (number x ∷ []) (number x ∷ (star_above x ∷ [])) [] (star_above x ∷ []) x refl refl

arrows-guess : (down starred : Bool) (x : Number) (n : ℕ)
    → guess (named_game (Arrows down starred x (suc n))) ≡ Arrows down starred x (suc n)
arrows-guess down true x zero = ap guess (both_is down x) ∙ both_guess down x
arrows-guess down false x zero = stepped down false x zero tt
arrows-guess down starred x (suc n) = stepped down starred x (suc n) tt

-- ---- switches, tiny and miny

switch-guess : (x : Number) → ¬ NumberLe x zero_number → guess (switch_form x) ≡ Switch x
switch-guess x p =
    let y : Number = number_negative x in
    let g : Game = pair_form x y in
    guess_lists (number x ∷ []) (number y ∷ []) (Some x) (Some y) refl refl
    ∙ ap (λ b. cond b (guess_level (length (lefts g)) (length (rights g)) x) (Switch x))
    (numbers_apart x y (not_negative x p))

tiny-guess : (miny : Bool) (x : Number) → ¬ NumberLe x zero_number → guess (tiny_form miny x) ≡ Tiny miny x
tiny-guess false x p =
    let y : Number = number_negative x in
    let g : Game = tiny_form false x in
    let h : Game = tiny_part false x in
    steep_guess false zero_number h tt
    ∙ ap (λ b. cond b (Arrows false (is_starred (depth_of h) false g) zero_number (depth_of h))
    (Tiny false (number_negative y))) (numbers_apart zero_number y (not_zero_negative x p))
    ∙ ap (λ z. Tiny false z) (double_negative x)
tiny-guess true x p =
    let g : Game = tiny_form true x in
    let h : Game = tiny_part true x in
    steep_guess true zero_number h tt
    ∙ ap (λ b. cond b (Arrows true (is_starred (depth_of h) true g) zero_number (depth_of h)) (Tiny true x))
    (numbers_apart x zero_number (not_zero x p))

-- ---- the named form of a game

pub above_zero : (n : ℕ) → nat_lt 0 n ≡ true → (m : ℕ) × (n ≡ suc m)
above_zero zero e = absurd (grind (arith, nat_tests))
above_zero (suc m) e = (m, refl)

pub guess-form : (s : NamedForm) → is_proper s ≡ true → guess (named_game s) ≡ s
guess-form (Star x n) p =
    let (m, e) = above_zero n p in
    rw e (star-guess x m)
guess-form (Arrows down starred x n) p =
    let (m, e) = above_zero n p in
    rw e (arrows-guess down starred x m)
guess-form (Switch x) p = switch-guess x (proper_number x p)
guess-form (Tiny miny x) p = tiny-guess miny x (proper_number x p)

pub form_guess : (g : Game) (s : NamedForm) → HasForm g s → guess g ≡ s
form_guess g s h = ap guess h.form ∙ guess-form s h.proper

-- a game has one named form at most
pub one_form : (g : Game) (s t : NamedForm) → HasForm g s → HasForm g t → s ≡ t
one_form g s t h k = sym (form_guess g s h) ∙ form_guess g t k

pub named_form-found : (g : Game) (s : NamedForm) → HasForm g s → named_form_of g ≡ Some s
unfolding named_form_of
named_form-found g s h =
    let same : is_same g (named_game s) ≡ true = ap (λ z. is_same z (named_game s)) h.form ∙ is_same-refl (named_game s) in
    ap (checked g) (form_guess g s h)
    ∙ ap (λ b. if b then Some s else None) (and-both (is_proper s) (is_same g (named_game s)) h.proper same)

pub found-form : (g : Game) (s : NamedForm) → named_form_of g ≡ Some s → HasForm g s
unfolding named_form_of
found-form g s e = elim (true_or_false (is_proper (guess g) && is_same g (named_game (guess g)))) [
  | inl t ↦
      let (p, q) = and-split (is_proper (guess g)) (is_same g (named_game (guess g))) t in
      let f : Some s ≡ Some (guess g) = sym e ∙ ap (λ b. if b then Some (guess g) else None) t in
      let same : guess g ≡ s = cc in
      rw (← same) (record { proper = p; form = is_same-back g (named_game (guess g)) q })
  | inr f ↦
      let n : Some s ≡ None = sym e ∙ ap (λ b. if b then Some (guess g) else None) f in
      absurd (cc)
]

pub named_form-none : (g : Game) → ((s : NamedForm) → ¬ HasForm g s) → named_form_of g ≡ None
named_form-none g n = by (named_form_of g) refl
  where
    by : (o : Option NamedForm) → named_form_of g ≡ o → named_form_of g ≡ None
    by None e = e
    by (Some s) e = absurd (n s (found-form g s e))

-- ---- the number in front of a text

pub base-none : (x : Number) → x ≡ zero_number → base_text x ≡ []
base-none x e = ap (λ b. cond b [] (number_text x)) (ap (λ z. is_same (number z) zero_form) e ∙ is_same-refl zero_form)

pub base-some : (x : Number) → ¬ (x ≡ zero_number) → base_text x ≡ number_text x
base-some x n = ap (λ b. cond b [] (number_text x)) (numbers_apart x zero_number n)
