-- Lists x, x + *, x + *2 and so on, and the games over them.
use Rattle.std.proofs.Common.{◌≡◌, ap, sym, ◌∙◌, ℕ, zero, suc, ◌≤◌, arith, List, [], ◌∷◌}
use Rattle.std.proofs.Common.{◌++◌, length, Option, Some, None, false}
use Rattle.std.proofs.lemmas.List.{nil_from_length, same_from_push}
use Rattle.cg_dyadic.specs.Number.{Number}
use Rattle.cg_form.specs.Depth.{deepest, depth_of}
use Rattle.cg_form.specs.Game.{Game, node, number}
use Rattle.cg_form.specs.Shifted.{shifted}
use Rattle.cg_names.specs.Named.{nimber_form, nimbers_below}
use Rattle.cg_names.specs.Readings.{AreStars, stars_above}
use Rattle.cg_names.specs.Shapes.{named_form_of}
use Rattle.cg_names.specs.declared.named_form.NamedForm.{NamedForm}
use Rattle.cg_names.specs.declared.named_form.NamedForm.TheVariants.{Star}
use Rattle.cg_names.proofs.Guessing.{above_zero, found-form, named_form-found}
use Rattle.cg_names.proofs.NameRule.{some_is}
use Rattle.cg_names.proofs.NamedFormLists.{length-stars, mirrored-node, mirrored-others, mirrored-own}
use Rattle.cg_names.proofs.NamedFormLists.{not_number, shifted-zero, star_over, stars_first, stars_next}

-- ---- a game over such a list

pub star-lists : (ls rs : List Game) (x : Number) (n : ℕ) → node ls rs ≡ shifted x (nimber_form (suc n))
    → (ls ≡ stars_above x (suc n)) × (rs ≡ stars_above x (suc n))
star-lists ls rs x n e =
    let f = e ∙ star_over x n in
    let L : List Game = stars_above x (suc n) in
    (mirrored-own false ls rs L L f, mirrored-others false ls rs L L f)

pub star-found : (ls rs : List Game) (x : Number) (n : ℕ) → 1 ≤ n → ls ≡ stars_above x n → rs ≡ stars_above x n
    → node ls rs ≡ shifted x (nimber_form n)
star-found ls rs x zero l e f = absurd (omega arith)
star-found ls rs x (suc n) l e f = ap (λ z. node z rs) e ∙ ap (λ z. node (stars_above x (suc n)) z) f ∙ sym (star_over x n)

-- ---- what was found

pub stars_none : (gs : List Game) (o : Option Number) → o ≡ None → AreStars gs o → AreStars gs None
stars_none gs o e i = rw e at i

pub stars_some : (gs : List Game) (o : Option Number) (x : Number) → o ≡ Some x → AreStars gs o → AreStars gs (Some x)
stars_some gs o x e i = rw e at i

-- x + *n over the list of its options
pub star-is : (ls rs : List Game) (x : Number) (n : ℕ) → ls ≡ rs → length ls ≡ n → AreStars ls (Some x)
    → (1 ≤ n) × (node ls rs ≡ shifted x (nimber_form n))
star-is ls rs x n f l i =
    let stars : ls ≡ stars_above x n = i.1 ∙ ap (λ (k : ℕ). stars_above x k) l in
    let some : 1 ≤ n = let m = i.0 in omega arith in
    (some, star-found ls rs x n some stars (sym f ∙ stars))

-- ---- no star

nothing_more : (g : Game) (gs : List Game) → ¬ ([] ≡ g ∷ gs)
nothing_more g gs e = cc

pub no_stars : (x : Number) (n : ℕ) (gs : List Game) → gs ≡ [] → ¬ (gs ≡ stars_above x (suc n))
no_stars x n gs e f = let (hs, p) = stars_first x n in nothing_more (number x) hs (sym e ∙ f ∙ p)

-- ---- one more behind the others

-- the last of them and those before it
pub stars_parts : (x : Number) (n : ℕ) (gs : List Game) (g : Game) → gs ++ (g ∷ []) ≡ stars_above x (suc n)
    → (gs ≡ stars_above x n) × (g ≡ shifted x (nimber_form n))
stars_parts x n gs g e = same_from_push gs (stars_above x n) g (shifted x (nimber_form n)) (e ∙ stars_next x n)

pub stars_more : (x : Number) (n : ℕ) (gs : List Game) (g : Game) → gs ≡ stars_above x n → g ≡ shifted x (nimber_form n)
    → AreStars (gs ++ (g ∷ [])) (Some x)
stars_more x n gs g e f =
    let all : gs ++ (g ∷ []) ≡ stars_above x (suc n) =
    ap (λ z. z ++ (g ∷ [])) e ∙ ap (λ z. stars_above x n ++ (z ∷ [])) f ∙ sym (stars_next x n) in
    let size : length (gs ++ (g ∷ [])) ≡ suc n = ap length all ∙ length-stars x (suc n) in
    (omega arith, all ∙ ap (λ (k : ℕ). stars_above x k) (sym size))

-- a number at the end
pub number_alone : (x : Number) (gs : List Game) (n : ℕ) → length gs ≡ n → n ≡ 0 → AreStars (gs ++ (number x ∷ [])) (Some x)
unfolding nimber_form nimbers_below
number_alone x gs n l e = stars_more x 0 gs (number x) (nil_from_length gs (l ∙ e)) (sym (shifted-zero x))

pub number_behind : (x : Number) (gs : List Game) (n : ℕ) → length gs ≡ n → ¬ (n ≡ 0) → AreStars (gs ++ (number x ∷ [])) None
number_behind x gs n l some y m e =
    let (p, q) = stars_parts y m gs (number x) e in
    by m (sym (ap length p ∙ length-stars y m) ∙ l) q
  where
    by : (k : ℕ) → k ≡ n → ¬ (number x ≡ shifted y (nimber_form k))
    by zero z q = some (sym z)
    by (suc k) z q =
        let L : List Game = stars_above y (suc k) in
        not_number (node L L) x (mirrored-node false L L) (sym (star_over y k) ∙ sym q)

-- a game with the Left options ls at the end
module _ (ls rs hs : List Game) (o : Option NamedForm) (is : o ≡ named_form_of (node ls rs)) where
  pub star_behind : (x : Number) (n : ℕ) → o ≡ Some (Star x n) → ls ≡ hs → AreStars (hs ++ (node ls rs ∷ [])) (Some x)
  star_behind x n e f =
      let has = found-form (node ls rs) (Star x n) (sym is ∙ e) in
      let (m, p) = above_zero n has.proper in
      let form : node ls rs ≡ shifted x (nimber_form (suc m)) =
      has.form ∙ ap (λ (k : ℕ). shifted x (nimber_form k)) p in
      stars_more x (suc m) hs (node ls rs) (sym f ∙ (star-lists ls rs x m form).0) form

  -- the last one would be a star of which these are the options
  star_last : (y : Number) (n : ℕ) → hs ++ (node ls rs ∷ []) ≡ stars_above y (suc n)
      → (m : ℕ) × (hs ≡ stars_above y (suc m)) × (node ls rs ≡ shifted y (nimber_form (suc m)))
  unfolding nimber_form nimbers_below
  star_last y n e = let (p, q) = stars_parts y n hs (node ls rs) e in by n p q
    where
      by : (k : ℕ) → hs ≡ stars_above y k → node ls rs ≡ shifted y (nimber_form k)
          → (m : ℕ) × (hs ≡ stars_above y (suc m)) × (node ls rs ≡ shifted y (nimber_form (suc m)))
      by zero p q = absurd (not_number (node ls rs) y (mirrored-node false ls rs) (q ∙ shifted-zero y))
      by (suc m) p q = (m, p, q)

  pub no_star_behind : ((x : Number) (n : ℕ) → ¬ (o ≡ Some (Star x n))) → AreStars (hs ++ (node ls rs ∷ [])) None
  no_star_behind none y n e =
      let (m, p, q) = star_last y n e in
      none y (suc m) (is ∙ named_form-found (node ls rs) (Star y (suc m)) (record { proper = some_is (suc m) (omega arith); form = q }))

  pub others_behind : ¬ (ls ≡ hs) → AreStars (hs ++ (node ls rs ∷ [])) None
  others_behind other y n e = let (m, p, q) = star_last y n e in other ((star-lists ls rs y m q).0 ∙ sym p)

-- ---- the last option

-- it is no deeper than the deepest of them
pub last_depth : (gs : List Game) (g : Game) → depth_of g ≤ deepest (gs ++ (g ∷ []))
last_depth [] g = omega arith
last_depth (h ∷ gs) g = let l = last_depth gs g in omega arith
