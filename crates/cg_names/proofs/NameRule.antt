-- Which named form a game has is seen from its shape, and the name that is found by it is the one name by the rules.
use Rattle.std.proofs.Common.{◌≡◌, refl, ap, sym, ◌∙◌, ℕ, ◌≤◌, arith, inl, inr, List, ◌++◌, true, Option, Some, None}
use Rattle.std.specs.Prelude.{codes, nat_lt}
use Rattle.std.proofs.lemmas.Bool.Decides.{nat_tests}
use Rattle.cg_dyadic.specs.Number.{number_le}
use Rattle.cg_dyadic.proofs.Truth.{not_true, true_not}
use Rattle.cg_form.specs.Game.{Game, Games, more, none, number, options}
use Rattle.cg_names.specs.Name.{AreFurther, AreNames, IsName, braces_name}
use Rattle.cg_names.specs.Named.{nimber_form, ups_of, zero_number}
use Rattle.cg_names.specs.Shapes.{HasForm, named_form_of}
use Rattle.cg_names.specs.Spelled.{further_names, name_of, names_of, named_or}
use Rattle.cg_names.specs.NamedForms.{Fits}
use Rattle.cg_names.specs.declared.named_form.NamedForm.{NamedForm}
use Rattle.cg_names.specs.declared.named_form.NamedForm.TheVariants.{Star, Arrows, Switch, Tiny}
use Rattle.cg_names.proofs.Guessing.{found-form, one_form, named_form-found}
use Rattle.cg_nimbers.proofs.CanonicalNimbers.{nimber-canonical}
use Rattle.cg_form.proofs.Shifted.{form_shifted, shifted-is_form}
use Rattle.cg_names.proofs.UpForms.{ups-canonical}

-- ---- what fits is what has the form

pub some_is : (n : ℕ) → 1 ≤ n → nat_lt 0 n ≡ true
some_is n l = grind (arith, nat_tests)

is_some : (n : ℕ) → nat_lt 0 n ≡ true → 1 ≤ n
is_some n t = grind (arith, nat_tests)

pub fits-form : (s : NamedForm) (g : Game) → Fits s g → HasForm g s
fits-form (Star x n) g f = record {
  proper = some_is n f.0;
  form = form_shifted x (nimber_form n) g (nimber-canonical n) f.1;
}
fits-form (Arrows down starred x n) g f = record {
  proper = some_is n f.0;
  form = form_shifted x (ups_of down starred n) g (ups-canonical down starred n) f.1;
}
fits-form (Switch x) g f = record { proper = true_not (number_le x zero_number) f.0; form = f.1 }
fits-form (Tiny miny x) g f = record { proper = true_not (number_le x zero_number) f.0; form = f.1 }

pub form-fits : (s : NamedForm) (g : Game) → HasForm g s → Fits s g
form-fits (Star x n) g h =
    (is_some n h.proper, rw h.form (shifted-is_form x (nimber_form n) (nimber-canonical n)))
form-fits (Arrows down starred x n) g h =
    (is_some n h.proper, rw h.form (shifted-is_form x (ups_of down starred n) (ups-canonical down starred n)))
form-fits (Switch x) g h = (not_true (number_le x zero_number) h.proper, h.form)
form-fits (Tiny miny x) g h = (not_true (number_le x zero_number) h.proper, h.form)

-- at most one named form fits
pub one_named : (g : Game) (s t : NamedForm) → Fits s g → Fits t g → s ≡ t
one_named g s t a b = one_form g s t (fits-form s g a) (fits-form t g b)

pub fits_found : (g : Game) (s : NamedForm) → Fits s g → named_form_of g ≡ Some s
fits_found g s f = named_form-found g s (fits-form s g f)

pub found_fits : (g : Game) (s : NamedForm) → named_form_of g ≡ Some s → Fits s g
found_fits g s e = form-fits s g (found-form g s e)

pub no_named : (g : Game) → named_form_of g ≡ None → (s : NamedForm) → ¬ Fits s g
no_named g e s f = absurd (let q : None ≡ Some s = sym e ∙ fits_found g s f in cc)

-- ---- the name

mutual
  name-is : (g : Game) → IsName g (name_of g)
  name-is (number x) = refl
  name-is (options ls rs) = by (named_form_of (options ls rs)) refl (names-are ls) (names-are rs)
    where
      by : (o : Option NamedForm) → named_form_of (options ls rs) ≡ o → AreNames ls (names_of ls) → AreNames rs (names_of rs)
          → IsName (options ls rs) (name_of (options ls rs))
      by (Some s) e l r = inl (record {
        named_form = s;
        fits = found_fits (options ls rs) s e;
        spelled = ap (λ o. named_or o (braces_name (names_of ls) (names_of rs))) e;
      })
      by None e l r = inr (record {
        unsigned = no_named (options ls rs) e;
        left = names_of ls;
        right = names_of rs;
        lefts = l;
        rights = r;
        spelled = ap (λ o. named_or o (braces_name (names_of ls) (names_of rs))) e;
      })

  names-are : (gs : Games) → AreNames gs (names_of gs)
  names-are none = refl
  names-are (more g gs) = record {
    before = name_of g;
    behind = further_names gs;
    first = name-is g;
    second = further-are gs;
    spelled = refl;
  }

  further-are : (gs : Games) → AreFurther gs (further_names gs)
  further-are none = refl
  further-are (more g gs) = record {
    before = codes ",";
    behind = name_of g ++ further_names gs;
    first = refl;
    second = record {
      before = name_of g;
      behind = further_names gs;
      first = name-is g;
      second = further-are gs;
      spelled = refl;
    };
    spelled = refl;
  }

mutual
  one_name : (g : Game) (t : List ℕ) → IsName g t → t ≡ name_of g
  one_name (number x) t n = n
  one_name (options ls rs) t (inl n) =
      n.spelled ∙ sym (ap (λ o. named_or o (braces_name (names_of ls) (names_of rs)))
      (fits_found (options ls rs) n.named_form n.fits))
  one_name (options ls rs) t (inr b) = by (named_form_of (options ls rs)) refl (one_names ls b.left b.lefts)
      (one_names rs b.right b.rights)
    where
      by : (o : Option NamedForm) → named_form_of (options ls rs) ≡ o → b.left ≡ names_of ls → b.right ≡ names_of rs
          → t ≡ name_of (options ls rs)
      by (Some s) e l r = absurd (b.unsigned s (found_fits (options ls rs) s e))
      by None e l r = b.spelled
          ∙ ap (λ z. braces_name z b.right) l
          ∙ ap (λ z. braces_name (names_of ls) z) r
          ∙ sym (ap (λ o. named_or o (braces_name (names_of ls) (names_of rs))) e)

  one_names : (gs : Games) (t : List ℕ) → AreNames gs t → t ≡ names_of gs
  one_names none t n = n
  one_names (more g gs) t n = n.spelled ∙ ap (λ z. z ++ n.behind) (one_name g n.before n.first)
      ∙ ap (λ z. name_of g ++ z) (one_further gs n.behind n.second)

  one_further : (gs : Games) (t : List ℕ) → AreFurther gs t → t ≡ further_names gs
  one_further none t n = n
  one_further (more g gs) t n = n.spelled ∙ ap (λ z. z ++ n.behind) n.first
      ∙ ap (λ z. codes "," ++ z) (n.second.spelled ∙ ap (λ z. z ++ n.second.behind) (one_name g n.second.before n.second.first)
      ∙ ap (λ z. name_of g ++ z) (one_further gs n.second.behind n.second.second))

pub some_name : (g : Game) → (t : List ℕ) × IsName g t
some_name g = (name_of g, name-is g)

pub same_name : (g : Game) (s t : List ℕ) → IsName g s → IsName g t → s ≡ t
same_name g s t n m = one_name g s n ∙ sym (one_name g t m)

pub named-is : (g : Game) (t : List ℕ) → t ≡ name_of g → IsName g t
named-is g t e = rw e (name-is g)
