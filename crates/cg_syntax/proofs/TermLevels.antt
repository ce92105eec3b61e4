-- How many levels a term and an expression have: an expression adds four to those of an operand in it.
use Rattle.std.proofs.Common.{◌≡◌, refl, sym, subst, ℕ, suc, ◌≤◌, arith, inl, inr, ◌⊎◌, List, [], ◌∷◌, ◌++◌}
use Rattle.std.proofs.Common.{Bool, true, false, Option, Some, None}
use Rattle.std.proofs.Math.Nat.{max-le}
use Rattle.cg_reading.specs.Pieces.{Made, Many, Piece, Then}
use Rattle.cg_reading.specs.Tokens.{behind_blanks}
use Rattle.cg_query.specs.Tree.{Tree, terms_from}
use Rattle.cg_query.specs.Heights.{height, term_heights}
use Rattle.cg_grammar.specs.Found.{Found}
use Rattle.cg_grammar.specs.Grammar as grammar
use Rattle.cg_grammar.specs.Values.{Counted, Last, clean, counted_of, minus_of, one_text, some_term, sum_of, times, together, two_texts}
use Rattle.cg_grammar.specs.Values.{ups_tree, whole}
use Rattle.cg_query.specs.declared.kind.GameKind.{GameKind}
use Rattle.cg_query.specs.declared.kind.GameKind.TheVariants.{Domineering, Clobber, Amazons, Toads, Strip, Hackenbush, Col, Snort}

-- a tree of so many levels at most, with whether a run of bars repeats
abbrev pub Low : ℕ → Found → Type 0
Low n e = height e.tree ≤ n

pub low_at : (n : ℕ) (e f : Found) → e ≡ f → Low n f → Low n e
low_at n e f q w = rw q w

pub higher : (m n k : ℕ) → k ≤ m → m ≤ n → k ≤ n
higher m n k a b = omega (arith, a, b)

-- ---- what has one level

one_flat : (kind : GameKind) (text : List ℕ) → height (one_text kind text) ≡ 1
one_flat Domineering text = refl
one_flat Clobber text = refl
one_flat Amazons text = refl
one_flat Toads text = refl
one_flat Strip text = refl
one_flat Hackenbush text = refl
one_flat Col text = refl
one_flat Snort text = refl

two_flat : (kind : GameKind) (first second : List ℕ) → height (two_texts kind first second) ≡ 1
two_flat Domineering first second = refl
two_flat Clobber first second = refl
two_flat Amazons first second = refl
two_flat Toads first second = refl
two_flat Strip first second = refl
two_flat Hackenbush first second = refl
two_flat Col first second = refl
two_flat Snort first second = refl

pub flat : (n : ℕ) (e : Found) (t : Tree) → e ≡ clean t → height t ≡ 1 → Low (suc n) e
flat n e t q h = low_at (suc n) e (clean t) q (omega (arith, h))

pub board_low : (n i : ℕ) (e : Found) (text : List ℕ) → grammar.board i e text → Low (suc n) e
board_low n i e text (inl m) = flat n e _ m.same (one_flat _ _)
board_low n i e text (inr m) = flat n e _ m.same (two_flat _ _ _)

nim_flat : (i : ℕ) (t : Tree) (text : List ℕ) → grammar.nim i t text → height t ≡ 1
nim_flat i t text m = rw m.same refl

ups_flat : (i : ℕ) (t : Tree) (text : List ℕ) → Made ups_tree grammar.ups i t text → height t ≡ 1
ups_flat i t text m = rw m.same refl

nim_low : (n i : ℕ) (e : Found) (text : List ℕ) → Made clean grammar.nim i e text → Low (suc n) e
nim_low n i e text m = flat n e _ m.same (nim_flat _ _ _ m.is)

-- ---- what stands together

abbrev Flat : Option Tree → Type 0
Flat None = Unit {0}
Flat (Some t) = height t ≡ 1

together_low : (n : ℕ) (t : Tree) (o p : Option Tree) → height t ≤ suc n → Flat o → Flat p
    → height (together t (some_term o ++ some_term p)) ≤ suc (suc n)
together_low n t None None w a b = omega (arith, w)
together_low n t (Some u) None w a b =
    let z : 0 ≤ suc n = omega arith in
    let l : height u ≤ suc n = omega (arith, a) in
    let m = max-le w (max-le l z) in omega (arith, m)
together_low n t None (Some v) w a b =
    let z : 0 ≤ suc n = omega arith in
    let l : height v ≤ suc n = omega (arith, b) in
    let m = max-le w (max-le l z) in omega (arith, m)
together_low n t (Some u) (Some v) w a b =
    let z : 0 ≤ suc n = omega arith in
    let k : height u ≤ suc n = omega (arith, a) in
    let l : height v ≤ suc n = omega (arith, b) in
    let m = max-le w (max-le k (max-le l z)) in omega (arith, m)

optional_flat : (R : Piece Tree) → ((i : ℕ) (t : Tree) (text : List ℕ) → R i t text → height t ≡ 1) → (i : ℕ) (o : Option Tree)
    (text : List ℕ) → grammar.optional R i o text → Flat o
optional_flat R f i o text (inl m) = rw m.same (f _ _ _ m.is)
optional_flat R f i o text (inr m) = rw m.0 tt

tail_low : (n i : ℕ) (v : Option Tree × Option Tree) (text : List ℕ) (t : Tree) → height t ≤ suc n → grammar.tail i v text
    → height (together t (some_term v.0 ++ some_term v.1)) ≤ suc (suc n)
tail_low n i v text t w m = together_low n t v.0 v.1 w
    (optional_flat (Made ups_tree grammar.ups) ups_flat _ v.0 _ m.first) (optional_flat grammar.nim nim_flat _ v.1 _ m.second)

ups_and_nim_low : (n i : ℕ) (e : Found) (text : List ℕ) → grammar.ups_and_nim i e text → Low (suc (suc n)) e
ups_and_nim_low n i e text m =
    let h = ups_flat _ _ _ m.is.first in
    low_at _ e _ m.same (together_low n m.made_of.0 None m.made_of.1 (omega (arith, h)) tt
    (optional_flat grammar.nim nim_flat _ m.made_of.1 _ m.is.second))

-- ---- sums

abbrev pub AllLow : ℕ → List Found → Type 0
AllLow n [] = Unit {0}
AllLow n (e ∷ es) = Low n e × AllLow n es

abbrev AllTerms : ℕ → List (Bool × Found) → Type 0
AllTerms n [] = Unit {0}
AllTerms n (v ∷ vs) = Low n v.1 × AllTerms n vs

terms_low : (n : ℕ) (vs : List (Bool × Found)) → AllTerms n vs → term_heights (terms_from (minus_of vs)) ≤ n
terms_low n [] w = omega arith
terms_low n (v ∷ vs) w = max-le w.0 (terms_low n vs w.1)

sum_low : (n : ℕ) (e : Found) (vs : List (Bool × Found)) → Low n e → AllTerms n vs → Low (suc n) (sum_of e vs)
sum_low n e [] w a = omega (arith, w)
sum_low n e (v ∷ vs) w a = let m = max-le w (max-le a.0 (terms_low n vs a.1)) in omega (arith, m)

-- ---- terms and expressions

abbrev CountedLow : ℕ → Counted → Type 0
CountedLow n (whole num den) = Unit {0}
CountedLow n (times k e last) = Low (suc n) e

counted_low : (n : ℕ) (below : Bool) (c : Counted) → CountedLow n c → Low (suc (suc (suc n))) (counted_of below c)
counted_low n below (whole num den) w = omega arith
counted_low n false (times k e last) w = omega (arith, w)
counted_low n true (times k e last) w = omega (arith, w)

positive_low : (n : ℕ) (c : Counted) → CountedLow n c → Low (suc (suc n)) (counted_of false c)
positive_low n (whole num den) w = omega arith
positive_low n (times k e last) w = omega (arith, w)

module _ (S : Piece (Found × Last)) (n : ℕ) (s : (i : ℕ) (e : Found × Last) (text : List ℕ) → S i e text → Low (suc n) e.0) where
  primary_low : (i : ℕ) (v : Found × Last) (text : List ℕ) → grammar.primary S i v text → Low (suc n) v.0
  primary_low i v text (inl m) = let P : Found × Last → Type 0 = λ z. Low (suc n) z.0 in subst P (sym m.same) (omega arith)
  primary_low i v text (inr (inl m)) =
      let P : Found × Last → Type 0 = λ z. Low (suc n) z.0 in
      let h = nim_flat _ _ _ m.is in subst P (sym m.same) (omega (arith, h))
  primary_low i v text (inr (inr m)) = s i v text m

  counted_is : (i : ℕ) (c : Counted) (text : List ℕ) → grammar.counted S i c text → CountedLow n c
  counted_is i c text (inl m) = let P : Counted → Type 0 = λ z. CountedLow n z in subst P (sym m.same) tt
  counted_is i c text (inr m) =
      let k = m.is in rw m.same (rw k.same (primary_low _ k.made_of.1.1 _ k.is.second.second))

  negative_tail_low : (i : ℕ) (e : Found) (text : List ℕ) → grammar.counted_tail S true i e text → Low (suc (suc (suc (suc n)))) e
  negative_tail_low i e text m = low_at _ e _ m.same
      (tail_low (suc (suc n)) _ m.made_of.1 _ _ (counted_low n true m.made_of.0 (counted_is _ m.made_of.0 _ m.is.first)) m.is.second)

  positive_tail_low : (i : ℕ) (e : Found) (text : List ℕ) → grammar.counted_tail S false i e text → Low (suc (suc (suc n))) e
  positive_tail_low i e text m = low_at _ e _ m.same
      (tail_low (suc n) _ m.made_of.1 _ _ (positive_low n m.made_of.0 (counted_is _ m.made_of.0 _ m.is.first)) m.is.second)

  special_tail_low : (i : ℕ) (e : Found) (text : List ℕ) → grammar.special_tail S i e text → Low (suc (suc n)) e
  special_tail_low i e text m = low_at _ e _ m.same (tail_low n _ m.made_of.1 _ _ (s _ _ _ m.is.first) m.is.second)

  body_low : (i : ℕ) (e : Found) (text : List ℕ) → grammar.body S i e text → Low (suc (suc (suc n))) e
  body_low i e text (inl m) = low_at _ e _ m.same (positive_tail_low _ _ _ m.is.second)
  body_low i e text (inr m) = low_at _ e _ m.same (by _ _ _ m.is.second)
    where
      by : (j : ℕ) (f : Found) (t : List ℕ)
          → (grammar.special_tail S j f t) ⊎ ((grammar.ups_and_nim j f t) ⊎ (Made clean grammar.nim j f t)) → Low (suc (suc (suc n))) f
      by j f t (inl w) = let l = special_tail_low j f t w in omega (arith, l)
      by j f t (inr (inl w)) = let l = ups_and_nim_low n j f t w in omega (arith, l)
      by j f t (inr (inr w)) = nim_low (suc (suc n)) j f t w

  term_low : (i : ℕ) (e : Found) (text : List ℕ) → grammar.term S i e text → Low (suc (suc (suc (suc n)))) e
  term_low i e text (inl (inl m)) = low_at _ e _ m.same (negative_tail_low _ _ _ m.is.second)
  term_low i e text (inl (inr m)) = let l = positive_tail_low i e text m in omega (arith, l)
  term_low i e text (inr (inl m)) = let l = special_tail_low i e text m in omega (arith, l)
  term_low i e text (inr (inr (inl m))) = let l = ups_and_nim_low n i e text m in omega (arith, l)
  term_low i e text (inr (inr (inr (inl m)))) = nim_low (suc (suc (suc n))) i e text m
  term_low i e text (inr (inr (inr (inr m)))) =
      let l = body_low _ m.made_of.1 _ m.is.second in low_at _ e _ m.same (omega (arith, l))

  more_low : (vs : List (Bool × Found)) (i : ℕ) (text : List ℕ)
      → Many (behind_blanks (Then grammar.sign (behind_blanks (grammar.term S)))) i vs text → AllTerms (suc (suc (suc (suc n)))) vs
  more_low [] i text m = tt
  more_low (v ∷ vs) i text m =
      let k = m.first in
      let b = k.is.second in
      (rw k.same (low_at _ _ _ b.second.same (term_low _ _ _ b.second.is.second)), more_low vs _ _ m.second)

  pub expr_low : (i : ℕ) (e : Found) (text : List ℕ) → grammar.expr S i e text → Low (suc (suc (suc (suc (suc n))))) e
  expr_low i e text m = low_at _ e _ m.same (sum_low (suc (suc (suc (suc n)))) m.made_of.0 m.made_of.1 (term_low _ _ _ m.is.first)
      (more_low m.made_of.1 _ _ m.is.second))
