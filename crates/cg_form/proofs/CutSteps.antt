-- The steps of the code that finds cuts.
use Rattle.std.proofs.Common.{◌≡◌, ℕ, ◌+◌, ◌<◌, arith, suc, ap, sym, ◌∙◌, List, [], Bool, true, false, not, ◌&&◌}
use Rattle.std.proofs.Common.{get_or, take, length, pos, negsuc}
use Rattle.std.specs.Prelude.{Option, Some}
use Rattle.cg_dyadic.specs.declared.cut.Cut.{Cut}
use Rattle.cg_form.specs.declared.form.Form.{Form}
use Rattle.cg_form.specs.declared.form.Form.TheVariants.{Num, Node}
use Rattle.cg_dyadic.specs.Cut.{NoneBetween, SimplestBetween, in_gap, within_cut}
use Rattle.cg_dyadic.specs.Number.{InRange, Number, whole}
use Rattle.cg_dyadic.specs.Simplest.{NoOptionPasses}
use Rattle.cg_dyadic.proofs.Values.{le_greatest, least_le}
use Rattle.cg_form.specs.Cut.{CutIs, CutOf, Joined, Turned, other_cut}
use Rattle.cg_form.specs.Forms.{game_of, games_of}
use Rattle.cg_form.specs.Game.{Game, node, number}
use Rattle.cg_form.specs.Order.{Equal, no_one}
use Rattle.cg_form.specs.Side.{at_most}
use Rattle.cg_form.specs.Simple.{FitsIn}
use Rattle.cg_form.proofs.Among.{lefts-node, rights-node}
use Rattle.cg_form.proofs.Cut.{Closed, cut-number, cut-turned, gap-equal, gap-misses, in_range-closed, joined_more}
use Rattle.cg_form.proofs.FormLists.{no_one-more}
use Rattle.cg_form.proofs.Preorder.{equal_refl}

pub cut_step : (P : Number → Type 0) (s : Bool) (fs : List Form) (i : ℕ) (f : Form) (o : Option Cut) (c r : Cut)
    → i < length fs → f ≡ get_or fs i f
    → CutOf P s o (games_of (take i fs)) → CutIs P s c (game_of f) → Joined s o c r
    → CutOf P s (Some r) (games_of (take (i + 1) fs))
cut_step P s fs i f o c r h e all one join = record {
  tells = λ x p.
      ap (λ n. no_one (λ a. at_most s (number x) a) (games_of (take n fs))) next
      ∙ no_one-more (λ a. at_most s (number x) a) fs i f h
      ∙ ap (λ z. no_one (λ a. at_most s (number x) a) (games_of (take i fs)) && not
      (at_most s (number x) (game_of z))) (sym e)
      ∙ joined_more s x o c r (no_one (λ a. at_most s (number x) a) (games_of (take i fs)))
      (at_most s (number x) (game_of f)) (all.tells x p) (one.tells x p) join;
}
  where
    next : i + 1 ≡ suc i
    next = omega arith

-- no number in range is below the least, or above the greatest
pub smallest_low : (s : Bool) (c : Cut) → s ≡ true → c.at ≡ whole (negsuc 18446744073709551614) → c.closed ≡ false
    → CutOf InRange s (Some c) []
smallest_low s c side e f = rw side (record {
  tells = λ x p.
      ap (λ b. not (not b)) (sym (least_le x p)) ∙ ap (λ z. not (within_cut true z false x)) (sym e)
      ∙ ap (λ b. not (within_cut true c.at b x)) (sym f);
})

pub smallest_high : (s : Bool) (c : Cut) → s ≡ false → c.at ≡ whole (pos 18446744073709551615) → c.closed ≡ false
    → CutOf InRange s (Some c) []
smallest_high s c side e f = rw side (record {
  tells = λ x p.
      ap (λ b. not (not b)) (sym (le_greatest x p)) ∙ ap (λ z. not (within_cut false z false x)) (sym e)
      ∙ ap (λ b. not (within_cut false c.at b x)) (sym f);
})

-- ---- the cut of a form

-- a number
pub cut_of_number : (P : Number → Type 0) (s : Bool) (f : Form) (x : Number) (c : Cut) → f ≡ Num x → c.at ≡ x
    → c.closed ≡ true → CutIs P s c (game_of f)
cut_of_number P s f x c e at shut = rw (ap game_of e) (cut-number P s c x (number x) at shut (equal_refl (number x)))

-- a node that equals the simplest number in the gap
pub gap_value : (P : Number → Type 0) → Closed P → (ls rs : List Game) (o q : Option Cut) → CutOf P true o ls
    → CutOf P false q rs → (x : Number) → P x → NoOptionPasses (in_gap o q) x → Equal (number x) (node ls rs)
gap_value P v ls rs o q low high x p s = gap-equal P v (node ls rs) o q (rw lefts-node low) (rw rights-node high) x p s

pub cut_of_simplest : (s : Bool) (f : Form) (ls rs : List Game) (a b : Cut) (x : Number) (c : Cut) → f ≡ Node ls rs
    → CutOf InRange true (Some a) ls → CutOf InRange false (Some b) rs
    → SimplestBetween a.at a.closed b.at b.closed x → c.at ≡ x → c.closed ≡ true → CutIs InRange s c (game_of f)
cut_of_simplest s f ls rs a b x c e low high k at shut =
    rw (ap game_of e) (cut-number InRange s c x (node ls rs) at shut
    (gap_value InRange in_range-closed ls rs (Some a) (Some b) low high x k.in_range k.alone))

-- a node that equals none of the numbers in question
pub gap_misses : (P : Number → Type 0) (ls rs : List Game) (o q : Option Cut) → CutOf P true o ls
    → CutOf P false q rs → ((x : Number) → P x → in_gap o q x ≡ false) → (x : Number) → P x → ¬ FitsIn x (node ls rs)
gap_misses P ls rs o q low high never = gap-misses P (node ls rs) o q (rw lefts-node low) (rw rights-node high) never

pub cut_of_none : (P : Number → Type 0) → Closed P → (s : Bool) (ls rs : List Game) (a b c : Cut)
    → CutOf P true (Some a) ls → CutOf P false (Some b) rs
    → ((x : Number) → P x → in_gap (Some a) (Some b) x ≡ false) → Turned (other_cut s a b) c → CutIs P s c (node ls rs)
cut_of_none P v true ls rs a b c low high never t =
    cut-turned P v true (node ls rs) b c (gap_misses P ls rs (Some a) (Some b) low high never) (rw rights-node high) t
cut_of_none P v false ls rs a b c low high never t =
    cut-turned P v false (node ls rs) a c (gap_misses P ls rs (Some a) (Some b) low high never) (rw lefts-node low) t

pub cut_of_gap : (s : Bool) (f : Form) (ls rs : List Game) (a b c : Cut) → f ≡ Node ls rs
    → CutOf InRange true (Some a) ls → CutOf InRange false (Some b) rs
    → NoneBetween a.at a.closed b.at b.closed → Turned (other_cut s a b) c → CutIs InRange s c (game_of f)
cut_of_gap s f ls rs a b c e low high never t =
    rw (ap game_of e) (cut_of_none InRange in_range-closed s ls rs a b c low high never t)
