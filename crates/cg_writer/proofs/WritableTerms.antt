-- What tokens, boards and terms read as can be written.
use Rattle.std.proofs.Common.{◌≡◌, refl, sym, subst, ℕ, ◌^◌, ◌<◌, arith, inl, inr, ◌⊎◌, List, [], ◌∷◌, ◌++◌, Bool, true, false, Option, Some, None}
use Rattle.std.specs.Str.Parse.{digits_value}
use Rattle.cg_reading.specs.Pieces.{Made, Many, One, Piece, Then}
use Rattle.cg_reading.specs.Tokens.{behind_blanks, digits}
use Rattle.cg_reading.proofs.DigitLemmas.{digits_below}
use Rattle.cg_grammar.specs.Found.{Found}
use Rattle.cg_grammar.specs.Grammar as grammar
use Rattle.cg_query.specs.Tree.{Tree, nimber, terms_from}
use Rattle.cg_grammar.specs.Values.{Counted, Last, clean, counted_of, minus_of, one_text, some_term, sum_of, times, together, two_texts, ups_tree, whole}
use Rattle.cg_grammar.specs.Written.{AreTerms, IsPrintable, IsWritable}
use Rattle.cg_query.specs.declared.kind.GameKind.{GameKind}
use Rattle.cg_query.specs.declared.kind.GameKind.TheVariants.{Domineering, Clobber, Amazons, Toads, Strip, Hackenbush, Col, Snort}

-- ---- tokens

digits_low : (i n : ℕ) (text : List ℕ) → digits i n text → n < 10 ^ 30
digits_low i n text m =
    let low : digits_value 10 m.made_of < 10 ^ 30 = digits_below 30 m.made_of m.is.within m.is.few in
    rw m.same low

number_low : (i : ℕ) (v : ℕ × ℕ) (text : List ℕ) → grammar.number i v text → (v.0 < 10 ^ 30) × (v.1 < 10 ^ 30)
number_low i v text m = (digits_low _ v.0 _ m.first, by m.second)
  where
    by : {j : ℕ} {t : List ℕ} → (Made (λ w. w.1) (Then (One grammar.slash) digits) j v.1 t) ⊎ ((v.1 ≡ 1) × (t ≡ [])) → v.1 < 10 ^ 30
    by (inl w) = rw w.same (digits_low _ _ _ w.is.second)
    by (inr w) = omega (arith, w.0)

abbrev pub W : Found → Type 0
W e = IsWritable e.tree

at : (t u : Tree) → t ≡ u → IsWritable u → IsWritable t
at t u e w = rw e w

pub found_at : (e f : Found) → e ≡ f → W f → W e
found_at e f q w = rw q w

nim_writable : (i : ℕ) (t : Tree) (text : List ℕ) → grammar.nim i t text → IsWritable t
nim_writable i t text m = at t (nimber m.made_of.1) m.same (by m.is.second)
  where
    by : {j : ℕ} {n : ℕ} {u : List ℕ} → (digits j n u) ⊎ ((n ≡ 1) × (u ≡ [])) → n < 10 ^ 30
    by (inl w) = digits_low _ _ _ w
    by (inr w) = omega (arith, w.0)

ups_writable : (i : ℕ) (t : Tree) (text : List ℕ) → Made ups_tree grammar.ups i t text → IsWritable t
ups_writable i t text m = at t (ups_tree m.made_of) m.same tt

pub printable_is : (i : ℕ) (bs text : List ℕ) → grammar.string i bs text → IsPrintable bs
printable_is i bs text m = rw m.same m.is.second.first.within

-- ---- operands without expressions in them

pub switch_writable : (i : ℕ) (e : Found) (text : List ℕ) → grammar.switch_piece i e text → W e
switch_writable i e text m = found_at e _ m.same (number_low _ m.made_of.1.1 _ m.is.second.second)

-- what stands between parentheses
pub record Inside {A : Type 0} (R : Piece A) (a : A) : Type 0 where
  pub column : ℕ
  pub between : List ℕ
  pub is : R column a between

pub enclosed_of : {A : Type 0} (R : Piece A) (i : ℕ) (a : A) (text : List ℕ) → grammar.enclosed R i a text → Inside R a
enclosed_of {A} R i a text m = rw m.same (record { column = _; between = _; is = m.is.second.second.first })

pub tiny_writable : (i : ℕ) (e : Found) (text : List ℕ) → grammar.tiny_piece i e text → W e
tiny_writable i e text m =
    let o = enclosed_of grammar.number _ m.made_of.1 _ m.is.second in
    found_at e _ m.same (number_low o.column m.made_of.1 o.between o.is)

one_writable : (i : ℕ) (kind : GameKind) (name text : List ℕ) → grammar.name_of_one i kind name → IsPrintable text
    → IsWritable (one_text kind text)
one_writable i kind name text m p = by m
  where
    to : (known : GameKind) → kind ≡ known → IsWritable (one_text known text) → IsWritable (one_text kind text)
    to known e w = rw e w

    by : grammar.name_of_one i kind name → IsWritable (one_text kind text)
    by (inl w) = to Domineering w.0 (refl, p)
    by (inr (inl w)) = to Clobber w.0 (refl, p)
    by (inr (inr (inl w))) = to Amazons w.0 (refl, p)
    by (inr (inr (inr (inl w)))) = to Toads w.0 (refl, p)
    by (inr (inr (inr (inr w)))) = to Hackenbush w.0 (p, refl)

two_writable : (i : ℕ) (kind : GameKind) (name first second : List ℕ) → grammar.name_of_two i kind name → IsPrintable first
    → IsPrintable second → IsWritable (two_texts kind first second)
two_writable i kind name first second m p q = by m
  where
    to : (known : GameKind) → kind ≡ known → IsWritable (two_texts known first second) → IsWritable (two_texts kind first second)
    to known e w = rw e w

    by : grammar.name_of_two i kind name → IsWritable (two_texts kind first second)
    by (inl w) = to Strip w.0 (p, q)
    by (inr (inl w)) = to Col w.0 (q, p)
    by (inr (inr w)) = to Snort w.0 (q, p)

-- a string, and a piece behind a comma
record Told {A : Type 0} (R : Piece A) (v : List ℕ × A) : Type 0 where
  printable_first : IsPrintable v.0
  column : ℕ
  rest : List ℕ
  is : R column v.1 rest

told : {A : Type 0} (R : Piece A) (i : ℕ) (v : List ℕ × A) (text : List ℕ) → grammar.string_and R i v text → Told R v
told {A} R i v text m = rw m.same (record {
  printable_first = printable_is _ _ _ m.is.first;
  column = _;
  rest = _;
  is = m.is.second.second.second.second;
})

pub board_writable : (i : ℕ) (e : Found) (text : List ℕ) → grammar.board i e text → W e
board_writable i e text (inl m) =
    let o = enclosed_of grammar.string _ m.made_of.1.1 _ m.is.second.second in
    found_at e _ m.same (one_writable i m.made_of.0 m.is.before m.made_of.1.1 m.is.first (printable_is o.column m.made_of.1.1 o.between o.is))
board_writable i e text (inr m) =
    let o = enclosed_of (grammar.string_and grammar.string) _ m.made_of.1.1 _ m.is.second.second in
    let t = told grammar.string o.column m.made_of.1.1 o.between o.is in
    found_at e _ m.same (two_writable i m.made_of.0 m.is.before m.made_of.1.1.0 m.made_of.1.1.1 m.is.first t.printable_first
    (printable_is t.column m.made_of.1.1.1 t.rest t.is))

pub octal_writable : (i : ℕ) (e : Found) (text : List ℕ) → grammar.octal_piece i e text → W e
octal_writable i e text m =
    let o = enclosed_of (grammar.string_and digits) _ m.made_of.1.1 _ m.is.second.second in
    let t = told digits o.column m.made_of.1.1 o.between o.is in
    found_at e _ m.same (t.printable_first, digits_low t.column m.made_of.1.1.1 t.rest t.is)

-- ---- what stands together

abbrev Maybe : Option Tree → Type 0
Maybe None = Unit {0}
Maybe (Some t) = IsWritable t

together_writable : (t : Tree) (o p : Option Tree) → IsWritable t → Maybe o → Maybe p
    → IsWritable (together t (some_term o ++ some_term p))
together_writable t None None w a b = w
together_writable t (Some u) None w a b = (refl, w, (a, tt))
together_writable t None (Some v) w a b = (refl, w, (b, tt))
together_writable t (Some u) (Some v) w a b = (refl, w, (a, (b, tt)))

optional_writable : (R : Piece Tree) → ((i : ℕ) (t : Tree) (text : List ℕ) → R i t text → IsWritable t) → (i : ℕ) (o : Option Tree)
    (text : List ℕ) → grammar.optional R i o text → Maybe o
optional_writable R f i o text (inl m) = rw m.same (f _ _ _ m.is)
optional_writable R f i o text (inr m) = rw m.0 tt

tail_writable : (i : ℕ) (v : Option Tree × Option Tree) (text : List ℕ) (t : Tree) → IsWritable t → grammar.tail i v text
    → IsWritable (together t (some_term v.0 ++ some_term v.1))
tail_writable i v text t w m = together_writable t v.0 v.1 w
    (optional_writable (Made ups_tree grammar.ups) ups_writable _ v.0 _ m.first)
    (optional_writable grammar.nim nim_writable _ v.1 _ m.second)

ups_and_nim_writable : (i : ℕ) (e : Found) (text : List ℕ) → grammar.ups_and_nim i e text → W e
ups_and_nim_writable i e text m = found_at e _ m.same (together_writable m.made_of.0 None m.made_of.1
    (ups_writable _ _ _ m.is.first) tt (optional_writable grammar.nim nim_writable _ m.made_of.1 _ m.is.second))

-- ---- terms and expressions

abbrev IsCounted : Counted → Type 0
IsCounted (whole n d) = (n < 10 ^ 30) × (d < 10 ^ 30)
IsCounted (times n e last) = (n < 10 ^ 30) × W e

signed_writable : (below : Bool) (c : Counted) → IsCounted c → W (counted_of below c)
signed_writable below (whole n d) w = w
signed_writable false (times n e last) w = w
signed_writable true (times n e last) w = w

-- all of a list
abbrev pub AllW : List Found → Type 0
AllW [] = Unit {0}
AllW (e ∷ es) = W e × AllW es

abbrev AllTerms : List (Bool × Found) → Type 0
AllTerms [] = Unit {0}
AllTerms (v ∷ vs) = W v.1 × AllTerms vs

terms_writable : (vs : List (Bool × Found)) → AllTerms vs → AreTerms (terms_from (minus_of vs))
terms_writable [] w = tt
terms_writable (v ∷ vs) w = (w.0, terms_writable vs w.1)

sum_writable : (e : Found) (vs : List (Bool × Found)) → W e → AllTerms vs → W (sum_of e vs)
sum_writable e [] w a = w
sum_writable e (v ∷ vs) w a = (refl, w, (a.0, terms_writable vs a.1))

module _ (S : Piece (Found × Last)) (s : (i : ℕ) (e : Found × Last) (text : List ℕ) → S i e text → W e.0) where
  primary_writable : (i : ℕ) (v : Found × Last) (text : List ℕ) → grammar.primary S i v text → W v.0
  primary_writable i v text (inl m) = let P : Found × Last → Type 0 = λ z. W z.0 in subst P (sym m.same) tt
  primary_writable i v text (inr (inl m)) =
      let P : Found × Last → Type 0 = λ z. W z.0 in subst P (sym m.same) (nim_writable _ _ _ m.is)
  primary_writable i v text (inr (inr m)) = s i v text m

  counted_writable : (i : ℕ) (c : Counted) (text : List ℕ) → grammar.counted S i c text → IsCounted c
  counted_writable i c text (inl m) =
      let P : Counted → Type 0 = λ z. IsCounted z in subst P (sym m.same) (number_low _ m.made_of _ m.is)
  counted_writable i c text (inr m) =
      let n = m.is in
      rw m.same (rw n.same (digits_low _ _ _ n.is.first, primary_writable _ n.made_of.1.1 _ n.is.second.second))

  counted_tail_writable : (below : Bool) (i : ℕ) (e : Found) (text : List ℕ) → grammar.counted_tail S below i e text → W e
  counted_tail_writable below i e text m = found_at e _ m.same (tail_writable _ m.made_of.1 _ _
      (signed_writable below m.made_of.0 (counted_writable _ m.made_of.0 _ m.is.first)) m.is.second)

  special_tail_writable : (i : ℕ) (e : Found) (text : List ℕ) → grammar.special_tail S i e text → W e
  special_tail_writable i e text m = found_at e _ m.same (tail_writable _ m.made_of.1 _ _ (s _ _ _ m.is.first) m.is.second)

  body_writable : (i : ℕ) (e : Found) (text : List ℕ) → grammar.body S i e text → W e
  body_writable i e text (inl m) = found_at e _ m.same (counted_tail_writable false _ _ _ m.is.second)
  body_writable i e text (inr m) = found_at e _ m.same (by _ _ _ m.is.second)
    where
      by : (j : ℕ) (f : Found) (t : List ℕ)
          → (grammar.special_tail S j f t) ⊎ ((grammar.ups_and_nim j f t) ⊎ (Made clean grammar.nim j f t)) → W f
      by j f t (inl w) = special_tail_writable j f t w
      by j f t (inr (inl w)) = ups_and_nim_writable j f t w
      by j f t (inr (inr w)) = found_at f _ w.same (nim_writable _ _ _ w.is)

  term_writable : (i : ℕ) (e : Found) (text : List ℕ) → grammar.term S i e text → W e
  term_writable i e text (inl (inl m)) = found_at e _ m.same (counted_tail_writable true _ _ _ m.is.second)
  term_writable i e text (inl (inr m)) = counted_tail_writable false i e text m
  term_writable i e text (inr (inl m)) = special_tail_writable i e text m
  term_writable i e text (inr (inr (inl m))) = ups_and_nim_writable i e text m
  term_writable i e text (inr (inr (inr (inl m)))) = found_at e _ m.same (nim_writable _ _ _ m.is)
  term_writable i e text (inr (inr (inr (inr m)))) = found_at e _ m.same (body_writable _ m.made_of.1 _ m.is.second)

  more_writable : (vs : List (Bool × Found)) (i : ℕ) (text : List ℕ)
      → Many (behind_blanks (Then grammar.sign (behind_blanks (grammar.term S)))) i vs text → AllTerms vs
  more_writable [] i text m = tt
  more_writable (v ∷ vs) i text m =
      let n = m.first in
      let b = n.is.second in
      (rw n.same (found_at _ _ b.second.same (term_writable _ _ _ b.second.is.second)), more_writable vs _ _ m.second)

  pub expr_writable : (i : ℕ) (e : Found) (text : List ℕ) → grammar.expr S i e text → W e
  expr_writable i e text m = found_at e _ m.same (sum_writable m.made_of.0 m.made_of.1 (term_writable _ _ _ m.is.first)
      (more_writable m.made_of.1 _ _ m.is.second))
