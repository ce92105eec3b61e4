-- The steps of the code that finds canonical forms.
use Rattle.std.proofs.Common.{◌≡◌, ℕ, ◌+◌, ◌<◌, arith, suc, inl, inr, ap, ◌∙◌, List, [], ◌∷◌, ◌++◌, Bool, true, false}
use Rattle.std.proofs.Common.{get_or, take, length}
use Rattle.std.specs.Prelude.{Option, Some, IsSome, is_some}
use Rattle.cg_dyadic.specs.declared.cut.Cut.{Cut}
use Rattle.cg_form.specs.declared.form.Form.{Form}
use Rattle.cg_form.specs.declared.form.Form.TheVariants.{Num, Node}
use Rattle.cg_dyadic.specs.Cut.{in_gap}
use Rattle.cg_dyadic.specs.Number.{InRange, Number}
use Rattle.cg_dyadic.specs.Simplest.{NoOptionPasses, NonePasses}
use Rattle.cg_dyadic.proofs.Strict.{gap_ends}
use Rattle.cg_form.specs.Bypass.{Taken}
use Rattle.cg_form.specs.Canonical.{IsCanonicalForm}
use Rattle.cg_form.specs.Cut.{AnyNumber, CutOf, Turned, other_cut}
use Rattle.cg_form.specs.Forms.{game_of, games_of}
use Rattle.cg_form.specs.Game.{Among, Game, node, number, of_list}
use Rattle.cg_form.specs.Known.{CopiesOf, EachLess, KnownOf}
use Rattle.cg_form.specs.Order.{Equal}
use Rattle.cg_form.specs.Range.{AnyOutside, EqualsOutside, HasOutside}
use Rattle.cg_form.specs.Simple.{NoNumber}
use Rattle.cg_form.proofs.Cut.{any-closed, cut-number}
use Rattle.cg_form.proofs.BypassSteps.{taken_replaces}
use Rattle.cg_form.proofs.CutSteps.{cut_of_none, gap_misses, gap_value}
use Rattle.cg_form.proofs.Exists.{copies_equal, copies_more, copies_no_number, lefts_less, node_settled, rights_less}
use Rattle.cg_form.proofs.FormLists.{games_of-append, games_of-take_suc}
use Rattle.cg_form.proofs.Preorder.{equal_refl, equal_trans}
use Rattle.cg_form.proofs.Simplicity.{equal-fits, one_number}

-- ---- positions out of range

pub in_range_not : (g : Game) (x : Number) → InRange x → Equal (number x) g → ¬ EqualsOutside g
in_range_not g x r e o =
    let same : o.value ≡ x = one_number o.value x g o.equal e in
    o.outside (rw same r)

pub none_not : (g : Game) → NoNumber g → ¬ EqualsOutside g
none_not g n o = n o.value o.equal

pub any_outside : (gs : List Game) (a : Game) → Among a gs → HasOutside a → AnyOutside (of_list gs)
any_outside [] a m o = absurd m
any_outside (g ∷ gs) a (inl e) o = inl (rw e at o)
any_outside (g ∷ gs) a (inr m) o = inr (any_outside gs a m o)

pub outside_more : (gs : List Game) (g : Game) → ¬ AnyOutside (of_list gs) → ¬ HasOutside g
    → ¬ AnyOutside (of_list (gs ++ (g ∷ [])))
outside_more [] g n m (inl o) = m o
outside_more [] g n m (inr o) = o
outside_more (h ∷ gs) g n m (inl o) = n (inl o)
outside_more (h ∷ gs) g n m (inr o) = outside_more gs g (λ k. n (inr k)) m o

pub node_inside : (ls rs : List Game) → ¬ EqualsOutside (node ls rs) → ¬ AnyOutside (of_list ls)
    → ¬ AnyOutside (of_list rs) → ¬ HasOutside (node ls rs)
node_inside ls rs n l r o = elim o [ inl e ↦ n e | inr (inl a) ↦ l a | inr (inr a) ↦ r a ]

-- ---- what is known

-- a game that equals a number in range
pub known_number : (s : Bool) (g : Game) (x : Number) (c : Cut) → c.at ≡ x → c.closed ≡ true → Equal (number x) g
    → ¬ HasOutside g → KnownOf s g (number x) c
known_number s g x c at shut e n =
    record { form = record { canonical = tt; equal = e }; cut = cut-number AnyNumber s c x g at shut e; inside = n }

pub known_num : (s : Bool) (f : Form) (x : Number) (c : Cut) → f ≡ Num x → c.at ≡ x → c.closed ≡ true → InRange x
    → KnownOf s (game_of f) (number x) c
known_num s f x c e at shut i =
    rw (ap game_of e) (known_number s (number x) x c at shut (equal_refl (number x))
    (in_range_not (number x) x i (equal_refl (number x))))

pub decide_number : (s : Bool) (f : Form) (ls rs : List Game) (o q : Option Cut) (x : Number) (c : Cut) → f ≡ Node ls rs
    → CutOf AnyNumber true o ls → CutOf AnyNumber false q rs
    → ¬ AnyOutside (of_list ls) → ¬ AnyOutside (of_list rs) → NoOptionPasses (in_gap o q) x → InRange x → c.at ≡ x
    → c.closed ≡ true → KnownOf s (game_of f) (number x) c
decide_number s f ls rs o q x c e low high l r k i at shut =
    let v = gap_value AnyNumber any-closed ls rs o q low high x tt k in
    rw e (known_number s (node ls rs) x c at shut v (node_inside ls rs (in_range_not (node ls rs) x i v) l r))

pub decide_outside : (f : Form) (ls rs : List Game) (o q : Option Cut) (x : Number) → f ≡ Node ls rs
    → CutOf AnyNumber true o ls → CutOf AnyNumber false q rs
    → NoOptionPasses (in_gap o q) x → ¬ InRange x → HasOutside (game_of f)
decide_outside f ls rs o q x e low high k i = rw e (inl (record {
  value = x;
  outside = i;
  equal = gap_value AnyNumber any-closed ls rs o q low high x tt k;
}))

pub decide_none : (ls rs cs ds : List Game) (o q : Option Cut) → CopiesOf ls cs → CopiesOf rs ds
    → CutOf AnyNumber true o ls → CutOf AnyNumber false q rs → NonePasses (in_gap o q) → NoNumber (node cs ds)
decide_none ls rs cs ds o q l r low high n = copies_no_number ls rs cs ds l r (λ x k.
    gap_misses AnyNumber ls rs o q low high (λ y p. n y) x tt (equal-fits x (node ls rs) k))

pub decide_reduced : (s : Bool) (f : Form) (ls rs cs ds : List Game) (k : Game) (o q : Option Cut) (low high c : Cut)
    → f ≡ Node ls rs → CopiesOf ls cs → CopiesOf rs ds → CutOf AnyNumber true o ls → CutOf AnyNumber false q rs
    → ¬ AnyOutside (of_list ls) → ¬ AnyOutside (of_list rs) → NonePasses (in_gap o q) → o ≡ Some low → q ≡ Some high
    → IsCanonicalForm (node cs ds) k → Turned (other_cut s low high) c → KnownOf s (game_of f) k c
decide_reduced s f ls rs cs ds k o q low high c e l r cl cr il ir n is_low is_high form t =
    let never = rw is_high at (rw is_low at n) in
    let kl = rw is_low at cl in
    let kh = rw is_high at cr in
    let misses = gap_misses AnyNumber ls rs (Some low) (Some high) kl kh (λ x p. never x) in
    rw e (record {
      form = record {
        canonical = form.canonical;
        equal =
            equal_trans k (node cs ds) (node ls rs) form.equal (copies_equal ls rs cs ds l r);
      };
      cut = cut_of_none AnyNumber any-closed s ls rs low high c kl kh (λ x p. never x) t;
      inside = node_inside ls rs (none_not (node ls rs) (λ x v. misses x tt (equal-fits x (node ls rs) v))) il ir;
    })

-- ---- a node by its lists

same_lists : (ls rs us vs : List Game) → Node ls rs ≡ Node us vs → (ls ≡ us) × (rs ≡ vs)
same_lists ls rs us vs e = (cc, cc)

pub own_lefts_less : (ls rs us vs : List Game) → Node ls rs ≡ Node us vs → EachLess true (node ls rs) us
own_lefts_less ls rs us vs e = rw (← (same_lists ls rs us vs e).0) (lefts_less ls rs)

pub own_rights_less : (ls rs us vs : List Game) → Node ls rs ≡ Node us vs → EachLess false (node ls rs) vs
own_rights_less ls rs us vs e = rw (← (same_lists ls rs us vs e).1) (rights_less ls rs)

pub reduced_settled : (gl gr ls rs us vs bl br al ar kl kr : List Game) → ls ≡ gl → rs ≡ gr → Node ls rs ≡ Node us vs
    → NoNumber (node gl gr) → Taken true (node ls rs) al us bl → Taken false (node ls rs) ar vs br → kl ≡ bl → kr ≡ br
    → IsCanonicalForm (node gl gr) (node kl kr)
reduced_settled gl gr ls rs us vs bl br al ar kl kr e f h never pl pr i j =
    let g : node ls rs ≡ node gl gr = ap (λ z. node z rs) e ∙ ap (λ z. node gl z) f in
    let k = node_settled ls rs bl br (rw g never)
    (rw (← (same_lists ls rs us vs h).0) at (taken_replaces true (node ls rs) al us bl pl))
    (rw (← (same_lists ls rs us vs h).1) at (taken_replaces false (node ls rs) ar vs br pr)) in
    rw i (rw j (rw g at k))

-- ---- a gap in which no number lies has two ends

pub low_some : (o q : Option Cut) → NonePasses (in_gap o q) → IsSome o
low_some o q n = ap is_some (gap_ends o q n).low_is

pub high_some : (o q : Option Cut) → NonePasses (in_gap o q) → IsSome q
high_some o q n = ap is_some (gap_ends o q n).high_is

-- ---- over a list

pub copies_next : (fs ks us : List Form) (i : ℕ) (f k : Form) → i < length fs → f ≡ get_or fs i f
    → CopiesOf (games_of (take i fs)) (games_of ks)
    → IsCanonicalForm (game_of f) (game_of k) → us ≡ ks ++ (k ∷ [])
    → CopiesOf (games_of (take (i + 1) fs)) (games_of us)
copies_next fs ks us i f k h e c form p =
    let next : i + 1 ≡ suc i = omega arith in
    rw (ap (λ n. games_of (take n fs)) next ∙ games_of-take_suc fs i f h e)
    (rw (ap games_of p ∙ games_of-append ks (k ∷ []))
    (copies_more (games_of (take i fs)) (games_of ks) (game_of f) (game_of k) c form))

pub inside_next : (fs : List Form) (i : ℕ) (f : Form) → i < length fs → f ≡ get_or fs i f
    → ¬ AnyOutside (of_list (games_of (take i fs))) → ¬ HasOutside (game_of f)
    → ¬ AnyOutside (of_list (games_of (take (i + 1) fs)))
inside_next fs i f h e n m =
    let next : i + 1 ≡ suc i = omega arith in
    rw (ap (λ n. games_of (take n fs)) next ∙ games_of-take_suc fs i f h e) (outside_more (games_of (take i fs)) (game_of f) n m)
