-- More pieces behind those that were read.
use Rattle.std.proofs.Common.{◌≡◌, ℕ, ◌-◌, ◌≤◌, Bool, true, false, ◌||◌, ◌&&◌, leb, List, [], ◌∷◌, ◌++◌, length, Option}
use Rattle.std.proofs.Common.{Some, None, Ok, Err, refl, ap, sym, ◌∙◌, subst, append_assoc, append-nil, arith}
use Rattle.cg_reading.specs.Bytes.{has}
use Rattle.cg_reading.specs.Readers.{Read, Reader, ◌>>=◌, behind_these, many_at, skipped, taken}
use Rattle.cg_reading.specs.Tokens.{only, blank}
use Rattle.cg_query.specs.Tree.{Tree, sum, terms_from}
use Rattle.cg_grammar.specs.Found.{Found, first}
use Rattle.cg_grammar.specs.Values.{sum_of, minus_of, first_fault}
use Rattle.cg_query.specs.declared.format.Format.{Format}
use Rattle.cg_grammar.proofs.Factored as g
use Rattle.cg_grammar.specs.Grammar.{bar}
use Rattle.cg_grammar.specs.Reading.{plus_minus, item_list_at, next_item_at, next_term_at, row_at, row_list_at}
use Rattle.cg_grammar.specs.OperandReading.{sign_at}
use Rattle.cg_grammar.specs.Reading.{special_at, sum_at, term_at, more_terms_at, with_terms}
use Rattle.cg_reading.proofs.Many.{push_piece, many_next, many_end}
use Rattle.cg_grammar.proofs.Productions.{next_terms_ok}

first_first : (a b c : Option ℕ) → first (first a b) c ≡ first a (first b c)
first_first (Some n) b c = refl
first_first None b c = refl

first_none : (a : Option ℕ) → first a None ≡ a
first_none (Some n) = refl
first_none None = refl

abbrev sum_now : List (Bool × Tree) → Option ℕ → Found
sum_now front fault = record { tree = sum (terms_from front); fault = fault }

no_terms : (front : List (Bool × Tree)) (fault : Option ℕ) (bytes : List ℕ) → with_terms front fault (Ok ([], bytes)) ≡ Ok (sum_now front fault, bytes)
no_terms front fault bytes = ap (λ (ts : List (Bool × Tree)). Ok (record { tree = sum (terms_from ts); fault = first fault None }, bytes)) (append-nil front)
    ∙ ap (λ (o : Option ℕ). Ok (record { tree = sum (terms_from front); fault = o }, bytes)) (first_none fault)

pub terms_end : (format : Format) (k : ℕ) (front : List (Bool × Tree)) (fault : Option ℕ) (end b : ℕ) (all bytes : List ℕ) → all ≡ b ∷ bytes → has plus_minus b
    ≡ false
    → more_terms_at format k front fault end all ≡ Ok (sum_now front fault, all)
unfolding more_terms_at
terms_end format k front fault end b all bytes s h =
    subst (λ (z : List ℕ). more_terms_at format k front fault end z ≡ Ok (sum_now front fault, z)) (sym s)
    (ap (with_terms front fault) (many_end (g.next_term (g.special format k)) (next_term_at (special_at format k)) plus_minus end b bytes h) ∙ no_terms front
    fault (b ∷ bytes))

pub terms_none : (format : Format) (k : ℕ) (front : List (Bool × Tree)) (fault : Option ℕ) (end : ℕ) (all : List ℕ) → all ≡ [] → more_terms_at format k front
    fault end all ≡ Ok (sum_now front fault, all)
unfolding more_terms_at
terms_none format k front fault end all s =
    subst (λ (z : List ℕ). more_terms_at format k front fault end z ≡ Ok (sum_now front fault, z)) (sym s) (no_terms front fault [])

one_more : (front : List (Bool × Tree)) (fault : Option ℕ) (v : Bool × Found) (x : Read (List (Bool × Found))) → with_terms front fault (push_piece v x)
    ≡ with_terms (front ++ (v.0, v.1.tree) ∷ []) (first fault v.1.fault) x
one_more front fault v (Ok vs) =
    ap (λ (ts : List (Bool × Tree)). Ok (record { tree = sum (terms_from ts); fault = first fault (first v.1.fault (first_fault vs.0)) }, vs.1))
    (sym (append_assoc front ((v.0, v.1.tree) ∷ []) (minus_of vs.0)))
    ∙ ap (λ (o : Option ℕ). Ok (record { tree = sum (terms_from ((front ++ (v.0, v.1.tree) ∷ []) ++ minus_of vs.0)); fault = o }, vs.1))
    (sym (first_first fault v.1.fault (first_fault vs.0)))
one_more front fault v (Err n) = refl

-- ---- a sign and the term behind it

or_else : (a c : Bool) → (a || c) ≡ true → (a || false) ≡ false → c ≡ true
or_else true c h e = absurd cc
or_else false c h e = h

sign_is : (end b : ℕ) (bytes : List ℕ) → has plus_minus b ≡ true → sign_at end (b ∷ bytes) ≡ Ok (has (only 45) b, bytes)
unfolding sign_at
sign_is end b bytes h = chosen (has (only 45) b) refl
  where
    chosen : (t : Bool) → has (only 45) b ≡ t → sign_at end (b ∷ bytes) ≡ Ok (t, bytes)
    chosen true e = rw e refl
    chosen false e =
        let plus : has (only 43) b ≡ true = or_else (leb 45 b && leb b 45) (has (only 43) b) h e in
        rw (e, plus) refl

abbrev term_behind : ℕ → List ℕ → Format → ℕ → Read Found
term_behind end bytes format k = term_at (special_at format k) end (skipped blank bytes)

-- what comes of a sum behind one more term
abbrev further : Format → ℕ → List (Bool × Tree) → Option ℕ → ℕ → Bool → Found × List ℕ → Read Found
further format k front fault end minus y = more_terms_at format k (front ++ (minus, y.0.tree) ∷ []) (first fault y.0.fault) end (skipped blank y.1)

pushed_on : (format : Format) (k : ℕ) (front : List (Bool × Tree)) (fault : Option ℕ) (end : ℕ) (x : Read (Bool × Found))
    → with_terms front fault (x >>= λ y. push_piece y.0 (many_at plus_minus (next_term_at (special_at format k)) end y.1))
    ≡ (x >>= λ y. more_terms_at format k (front ++ (y.0.0, y.0.1.tree) ∷ []) (first fault y.0.1.fault) end y.1)
unfolding more_terms_at
pushed_on format k front fault end (Ok y) = one_more front fault y.0 (many_at plus_minus (next_term_at (special_at format k)) end y.1)
pushed_on format k front fault end (Err n) = refl

-- a sign and a term, as they are read
abbrev term_read : Bool → List ℕ → Read Found → Read (Bool × Found)
term_read minus blanks x =
    let behind = ◌>>=◌ {B = (Found × List ℕ) × List ℕ} x (λ y. Ok ((y.0, taken blank y.1), skipped blank y.1)) in
    let before = ◌>>=◌ {B = (List ℕ × (Found × List ℕ)) × List ℕ} behind (λ y. Ok ((blanks, y.0), y.1)) in
    let signed = ◌>>=◌ {B = (Bool × (List ℕ × (Found × List ℕ))) × List ℕ} before (λ y. Ok ((minus, y.0), y.1)) in
    ◌>>=◌ {B = (Bool × Found) × List ℕ} signed (λ v. Ok ((v.0.0, v.0.1.1.0), v.1))

term_go : (format : Format) (k : ℕ) (front : List (Bool × Tree)) (fault : Option ℕ) (end : ℕ) (minus : Bool) (blanks : List ℕ) (x : Read Found)
    → (term_read minus blanks x >>= λ y. more_terms_at format k (front ++ (y.0.0, y.0.1.tree) ∷ []) (first fault y.0.1.fault) end y.1) ≡ (x >>= further format k
    front fault end minus)
term_go format k front fault end minus blanks (Ok y) = refl
term_go format k front fault end minus blanks (Err n) = refl

next_go : (format : Format) (k : ℕ) (front : List (Bool × Tree)) (fault : Option ℕ) (end b : ℕ) (bytes : List ℕ) → has plus_minus b ≡ true
    → (next_term_at (special_at format k) end (b ∷ bytes) >>= λ y. more_terms_at format k (front ++ (y.0.0, y.0.1.tree) ∷ []) (first fault y.0.1.fault) end y.1)
    ≡ (term_behind end bytes format k >>= further format k front fault end (has (only 45) b))
unfolding next_term_at
next_go format k front fault end b bytes h = rw (sign_is end b bytes h) (term_go format k front fault end (has (only 45) b) (taken blank bytes) (term_behind end
    bytes format k))

next_pushed : (format : Format) (k end b : ℕ) (bytes : List ℕ) → has plus_minus b ≡ true → length (b ∷ bytes) ≤ end
    → many_at plus_minus (next_term_at (special_at format k)) end (b ∷ bytes)
    ≡ (next_term_at (special_at format k) end (b ∷ bytes) >>= λ y. push_piece y.0 (many_at plus_minus (next_term_at (special_at format k)) end y.1))
next_pushed format k end b bytes h u =
    many_next (g.next_term (g.special format k)) (next_term_at (special_at format k)) plus_minus (next_terms_ok format k).reads end (end - length (b ∷ bytes)) b
    bytes (omega arith) h

pub terms_next : (format : Format) (k : ℕ) (front : List (Bool × Tree)) (fault : Option ℕ) (end b : ℕ) (all bytes : List ℕ) → all ≡ b ∷ bytes → has plus_minus b
    ≡ true → length all ≤ end
    → more_terms_at format k front fault end all
    ≡ (term_at (special_at format k) end (skipped blank bytes) >>= λ y. more_terms_at format k (front ++ (has (only 45) b, y.0.tree) ∷ [])
    (first fault y.0.fault) end (skipped blank y.1))
unfolding more_terms_at
terms_next format k front fault end b all bytes s h u =
    ap (more_terms_at format k front fault end) s
    ∙ ap (with_terms front fault) (next_pushed format k end b bytes h (omega (arith, ap length s)))
    ∙ pushed_on format k front fault end (next_term_at (special_at format k) end (b ∷ bytes))
    ∙ next_go format k front fault end b bytes h

-- ---- a sum behind its first term

-- a term and more terms, as they are read
abbrev sum_read : Found → List ℕ → Read (List (Bool × Found)) → Read Found
sum_read e blanks x =
    let before = ◌>>=◌ {B = (List ℕ × List (Bool × Found)) × List ℕ} x (λ y. Ok ((blanks, y.0), y.1)) in
    let whole = ◌>>=◌ {B = (Found × (List ℕ × List (Bool × Found))) × List ℕ} before (λ y. Ok ((e, y.0), y.1)) in
    ◌>>=◌ {B = Found × List ℕ} whole (λ v. Ok (sum_of v.0.0 v.0.1.1, v.1))

sum_go : (e : Found) (blanks : List ℕ) (x : Read (Bool × Found)) (format : Format) (k : ℕ) (end : ℕ)
    → sum_read e blanks (x >>= λ y. push_piece y.0 (many_at plus_minus (next_term_at (special_at format k)) end y.1))
    ≡ with_terms ((false, e.tree) ∷ []) e.fault (x >>= λ y. push_piece y.0 (many_at plus_minus (next_term_at (special_at format k)) end y.1))
sum_go e blanks (Err n) format k end = refl
sum_go e blanks (Ok y) format k end = last (many_at plus_minus (next_term_at (special_at format k)) end y.1)
  where
    last : (z : Read (List (Bool × Found))) → sum_read e blanks (push_piece y.0 z) ≡ with_terms ((false, e.tree) ∷ []) e.fault (push_piece y.0 z)
    last (Ok ys) = refl
    last (Err n) = refl

-- a sum of which the first term was read, where a sign comes
pub sum_signs : (format : Format) (k end : ℕ) (bytes : List ℕ) (e : Found) (behind rest : List ℕ) (b : ℕ) (others : List ℕ) → term_at (special_at format k) end
    bytes ≡ Ok (e, behind)
    → rest ≡ skipped blank behind → rest ≡ b ∷ others → has plus_minus b ≡ true → length rest ≤ end
    → sum_at (special_at format k) end bytes ≡ more_terms_at format k ((false, e.tree) ∷ []) e.fault end rest
unfolding sum_at more_terms_at
sum_signs format k end bytes e behind rest b others read blanks s h u =
    let n = next_pushed format k end b others h (omega (arith, ap length s)) in
    rw (read, sym blanks, s, n) (sum_go e (taken blank behind) (next_term_at (special_at format k) end (b ∷ others)) format k end)

-- ---- items and rows

-- a comma and an item, as they are read
abbrev item_read : List ℕ → ℕ → Read Found → Read Found
item_read blanks b x =
    let before = ◌>>=◌ {B = (List ℕ × Found) × List ℕ} x (λ y. Ok ((blanks, y.0), y.1)) in
    let whole = ◌>>=◌ {B = (ℕ × (List ℕ × Found)) × List ℕ} before (λ y. Ok ((b, y.0), y.1)) in
    ◌>>=◌ {B = Found × List ℕ} whole (λ v. Ok (v.0.1.1, v.1))

item_go : (blanks : List ℕ) (b : ℕ) (x : Read Found) → item_read blanks b x ≡ x
item_go blanks b (Ok y) = refl
item_go blanks b (Err n) = refl

module _ (expr : Reader Found) where
  -- a comma and the item behind it
  pub item_next : (end b : ℕ) (all bytes : List ℕ) → all ≡ b ∷ bytes → has (only 44) b ≡ true → next_item_at expr end all ≡ expr end (skipped blank bytes)
  unfolding next_item_at
  item_next end b all bytes s h = ap (next_item_at expr end) s ∙ rw h (item_go (taken blank bytes) b (expr end (skipped blank bytes)))

  -- the first item, and those behind it
  pub item_first : (end : ℕ) (bytes : List ℕ) (v : Found) (rest : List ℕ) → expr end bytes ≡ Ok (v, rest) → item_list_at expr end bytes ≡ behind_these (only 44)
      (next_item_at expr) (v ∷ []) end rest
  unfolding item_list_at
  item_first end bytes v rest h = ap (λ (z : Read Found). z >>= λ x. behind_these (only 44) (next_item_at expr) (x.0 ∷ []) end x.1) h

  -- the first row, and those behind it
  pub row_first : (end : ℕ) (bytes : List ℕ) (v : (ℕ × ℕ) × List Found) (rest : List ℕ) → row_at expr end bytes ≡ Ok (v, rest) → row_list_at expr end bytes
      ≡ behind_these bar (row_at expr) (v ∷ []) end rest
  unfolding row_list_at
  row_first end bytes v rest h = ap (λ (z : Read ((ℕ × ℕ) × List Found)). z >>= λ x. behind_these bar (row_at expr) (x.0 ∷ []) end x.1) h
