-- Splitting at runs of eight bars, then seven, down to one, is splitting at the longest run.
use Rattle.std.proofs.Common.{◌≡◌, ℕ, zero, suc, ◌≤◌, ◌<◌, ◌⊎◌, inl, inr, Bool, true, false, cond, ◌||◌, List, []}
use Rattle.std.proofs.Common.{◌∷◌, ◌++◌, length, refl, ap, sym, subst, ◌∙◌, append_assoc, append-nil, arith}
use Rattle.std.specs.Prelude.{ltb, ◌==◌}
use Rattle.std.proofs.Math.Bool.{or-true}
use Rattle.std.proofs.lemmas.Bool.{true≢false, ne_eqb, eq-eqb, ltb-true, ltb-false, lt-ltb, le-ltb}
use Rattle.cg_query.specs.Tree.{Tree, braces}
use Rattle.cg_grammar.specs.Found.{Found}
use Rattle.cg_grammar.specs.Braces.{Run_side, Whole, Parts, repeats, cut_from, part_of, only_tree, row_tree}
use Rattle.cg_grammar.specs.Splitting.{AllShorter, AllWithin, IsSplit, alone, split}
use Rattle.cg_grammar.proofs.Parts.{part_here, part_none}

less_not : (a b : ℕ) → a < b → a ≡ b → ⊥
less_not a b h e = omega arith

le_split : (a b : ℕ) → a ≤ b → (a < b) ⊎ (a ≡ b)
le_split a b h = tells (ltb a b) refl
  where
    tells : (t : Bool) → ltb a b ≡ t → (a < b) ⊎ (a ≡ b)
    tells true e = inl (ltb-true a b e)
    tells false e = inr (omega (arith, ltb-false a b e))

-- ---- runs that repeat none

-- no run of these rows repeats an earlier one, behind runs of these lengths
abbrev pub Fresh : List ℕ → List Run_side → Type 0
Fresh earlier [] = Unit {0}
Fresh earlier (r ∷ rows) = (repeats r.bars false earlier ≡ false) × Fresh (earlier ++ r.bars ∷ []) rows

pub repeats-append : (n : ℕ) (seen : Bool) (xs ys : List ℕ) → repeats n seen (xs ++ ys) ≡ repeats n (repeats n seen xs) ys
repeats-append n seen [] ys = refl
repeats-append n seen (m ∷ xs) ys = repeats-append n (cond (ltb n m) false ((n == m) || seen)) xs ys

abbrev AllBelow : ℕ → List ℕ → Type 0
AllBelow n [] = Unit {0}
AllBelow n (m ∷ ms) = (m < n) × AllBelow n ms

below_push : (n : ℕ) (ms : List ℕ) (m : ℕ) → AllBelow n ms → m < n → AllBelow n (ms ++ m ∷ [])
below_push n [] m h k = (k, tt)
below_push n (x ∷ ms) m h k = (h.0, below_push n ms m h.1 k)

-- a run stays seen where no longer one comes
seen_stays : (n : ℕ) (ms : List ℕ) → AllBelow n ms → repeats n true ms ≡ true
seen_stays n [] h = refl
seen_stays n (m ∷ ms) h =
    let small : m ≤ n = omega (arith, h.0) in
    rw (le-ltb n m small, or-true (n == m)) (seen_stays n ms h.1)

pub at_equal : (n : ℕ) (seen : Bool) → repeats n seen (n ∷ []) ≡ true
at_equal n seen =
    let same : n ≤ n = omega arith in
    rw (le-ltb n n same, eq-eqb n n refl) refl

at_longer : (m n : ℕ) (seen : Bool) → m < n → repeats m seen (n ∷ []) ≡ false
at_longer m n seen h = rw (lt-ltb m n h) refl

-- ---- rows before and behind one of them

abbrev bars_of : List Run_side → List ℕ
bars_of [] = []
bars_of (r ∷ rows) = r.bars ∷ bars_of rows

fresh_front : (earlier : List ℕ) (before : List Run_side) (r : Run_side) (behind : List Run_side) → Fresh earlier (before ++ r ∷ behind) → Fresh earlier before
fresh_front earlier [] r behind f = tt
fresh_front earlier (s ∷ before) r behind f = (f.0, fresh_front (earlier ++ s.bars ∷ []) before r behind f.1)

fresh_back : (earlier : List ℕ) (before : List Run_side) (r : Run_side) (behind : List Run_side) → Fresh earlier (before ++ r ∷ behind)
    → Fresh ((earlier ++ bars_of before) ++ r.bars ∷ []) behind
fresh_back earlier [] r behind f = subst (λ (z : List ℕ). Fresh (z ++ r.bars ∷ []) behind) (sym (append-nil earlier)) f.1
fresh_back earlier (s ∷ before) r behind f =
    subst (λ (z : List ℕ). Fresh (z ++ r.bars ∷ []) behind) (append_assoc earlier (s.bars ∷ []) (bars_of before))
    (fresh_back (earlier ++ s.bars ∷ []) before r behind f.1)

within_front : (n : ℕ) (before : List Run_side) (r : Run_side) (behind : List Run_side) → AllWithin n (before ++ r ∷ behind) → AllWithin n before
within_front n [] r behind w = tt
within_front n (s ∷ before) r behind w = (w.0, w.1, within_front n before r behind w.2)

within_back : (n : ℕ) (before : List Run_side) (r : Run_side) (behind : List Run_side) → AllWithin n (before ++ r ∷ behind) → AllWithin n behind
within_back n [] r behind w = w.2
within_back n (s ∷ before) r behind w = within_back n before r behind w.2

lower : (n : ℕ) (rows : List Run_side) → AllWithin (suc n) rows → AllShorter (suc n) rows → AllWithin n rows
lower n [] w h = tt
lower n (r ∷ rows) w h = (w.0, omega (arith, h.0), lower n rows w.2 h.1)

-- Behind a longest run no run is as long, and none repeats one behind it.
behind_longest : (n : ℕ) (E L : List ℕ) (behind : List Run_side) → AllBelow n L → AllWithin n behind
    → Fresh ((E ++ n ∷ []) ++ L) behind → AllShorter n behind × Fresh L behind
behind_longest n E L [] b w f = (tt, tt)
behind_longest n E L (s ∷ rest) b w f =
    let next : Fresh ((E ++ n ∷ []) ++ (L ++ s.bars ∷ [])) rest = rw (append_assoc (E ++ n ∷ []) L (s.bars ∷ [])) at f.1 in
    by_length (le_split s.bars n w.1) (λ (h : s.bars < n). behind_longest n E (L ++ s.bars ∷ []) rest (below_push n L s.bars b h) w.2 next)
  where
    before_rest : (m : ℕ) → repeats m false ((E ++ n ∷ []) ++ L) ≡ repeats m (repeats m (repeats m false E) (n ∷ [])) L
    before_rest m = repeats-append m false (E ++ n ∷ []) L ∙ ap (λ (t : Bool). repeats m t L) (repeats-append m false E (n ∷ []))

    by_length : (s.bars < n) ⊎ (s.bars ≡ n) → (s.bars < n → AllShorter n rest × Fresh (L ++ s.bars ∷ []) rest)
        → AllShorter n (s ∷ rest) × Fresh L (s ∷ rest)
    by_length (inr e) further =
        let seen : repeats n false ((E ++ n ∷ []) ++ L) ≡ true =
        rw (before_rest n, at_equal n (repeats n false E)) (seen_stays n L b) in
        absurd (true≢false (sym seen ∙ ap (λ (m : ℕ). repeats m false ((E ++ n ∷ []) ++ L)) (sym e) ∙ f.0))
    by_length (inl h) further =
        let cleared : repeats s.bars false ((E ++ n ∷ []) ++ L) ≡ repeats s.bars false L =
        rw (before_rest s.bars, at_longer s.bars n (repeats s.bars false E) h) refl in
        let more = further h in
        ((h, more.0), (sym cleared ∙ f.0, more.1))

-- ---- cutting

-- rows cut at the first run of a length that none exceeds
record Halved (n : ℕ) (front rows : List Run_side) : Type 0 where
  before : List Run_side
  longest : Run_side
  behind : List Run_side
  spelled : rows ≡ before ++ longest ∷ behind
  bars : longest.bars ≡ n
  shorter : AllShorter n before
  cut : cut_from front n rows ≡ Parts (front ++ before) longest.side behind

-- rows without such a run
abbrev Uncut : ℕ → List Run_side → List Run_side → Type 0
Uncut n front rows = (cut_from front n rows ≡ Whole (front ++ rows)) × AllShorter n rows

cut_cases : (n : ℕ) (front rows : List Run_side) → AllWithin n rows → Uncut n front rows ⊎ Halved n front rows
cut_cases n front [] w = inl (ap (λ (z : List Run_side). Whole z) (sym (append-nil front)), tt)
cut_cases n front (r ∷ rows) w = by_length (le_split r.bars n w.1) (cut_cases n (front ++ r ∷ []) rows w.2)
  where
    by_length : (r.bars < n) ⊎ (r.bars ≡ n) → Uncut n (front ++ r ∷ []) rows ⊎ Halved n (front ++ r ∷ []) rows
        → Uncut n front (r ∷ rows) ⊎ Halved n front (r ∷ rows)
    by_length (inl h) (inl p) =
        inl (rw (ne_eqb r.bars n (less_not r.bars n h)) (p.0 ∙ ap (λ (z : List Run_side). Whole z) (append_assoc front (r ∷ []) rows)), (h, p.1))
    by_length (inl h) (inr c) = inr (record {
      before = r ∷ c.before;
      longest = c.longest;
      behind = c.behind;
      spelled = ap (λ (z : List Run_side). r ∷ z) c.spelled;
      bars = c.bars;
      shorter = (h, c.shorter);
      cut =
          rw (ne_eqb r.bars n (less_not r.bars n h))
          (c.cut ∙ ap (λ (z : List Run_side). Parts z c.longest.side c.behind) (append_assoc front (r ∷ []) c.before));
    })
    by_length (inr e) further = inr (record {
      before = [];
      longest = r;
      behind = rows;
      spelled = refl;
      bars = e;
      shorter = tt;
      cut = rw (eq-eqb r.bars n e) (ap (λ (z : List Run_side). Parts z r.side rows) (sym (append-nil front)));
    })

-- ---- splitting

halves_split : (n : ℕ) (side : List Found) (before : List Run_side) (longest : Run_side) (behind : List Run_side) → longest.bars ≡ suc n
    → AllShorter (suc n) before → AllWithin (suc n) (before ++ longest ∷ behind) → Fresh [] (before ++ longest ∷ behind)
    → ((s : List Found) (rows : List Run_side) → AllWithin n rows → Fresh [] rows → IsSplit s rows (part_of n s rows))
    → IsSplit side (before ++ longest ∷ behind) (braces (part_of n side before) (part_of n longest.side behind) ∷ [])
halves_split n side before longest behind e short w f ih =
    let here : Fresh ((bars_of before ++ suc n ∷ []) ++ []) behind =
    rw (append-nil (bars_of before ++ suc n ∷ [])) (rw e at (fresh_back [] before longest behind f)) in
    let b = behind_longest (suc n) (bars_of before) [] behind tt (within_back (suc n) before longest behind w) here in
    split side before longest behind (part_of n side before) (part_of n longest.side behind)
    (subst (λ (m : ℕ). AllShorter m before) (sym e) short) (subst (λ (m : ℕ). AllShorter m behind) (sym e) b.0)
    (ih side before (lower n before (within_front (suc n) before longest behind w) short) (fresh_front [] before longest behind f))
    (ih longest.side behind (lower n behind (within_back (suc n) before longest behind w) b.0) b.1)

pub part_splits : (n : ℕ) (side : List Found) (rows : List Run_side) → AllWithin n rows → Fresh [] rows → IsSplit side rows (part_of n side rows)
part_splits zero side [] w f = subst (λ (ts : List Tree). IsSplit side [] ts) (sym (part_none side [])) (alone side)
part_splits zero side (r ∷ rows) w f = absurd (omega (arith, w.0, w.1))
part_splits (suc n) side rows w f = by_cut (cut_cases (suc n) [] rows w) (part_splits n)
  where
    by_cut : Uncut (suc n) [] rows ⊎ Halved (suc n) [] rows
        → ((s : List Found) (rs : List Run_side) → AllWithin n rs → Fresh [] rs → IsSplit s rs (part_of n s rs))
        → IsSplit side rows (part_of (suc n) side rows)
    by_cut (inl p) shorter = rw (part_here n side rows, p.0) (shorter side rows (lower n rows w p.1) f)
    by_cut (inr c) shorter =
        rw (part_here n side rows, c.cut, c.spelled)
        (halves_split n side c.before c.longest c.behind c.bars c.shorter (rw c.spelled at w) (rw c.spelled at f) shorter)

one_option : (side : List Found) (rows : List Run_side) (ts : List Tree) → IsSplit side rows ts → 0 < length rows → ts ≡ only_tree ts ∷ []
one_option _ _ _ (alone side) some = absurd (omega arith)
one_option _ _ _ (split side before longest behind lefts rights p q l r) some = refl

-- the tree of a row in which no run repeats an earlier one
pub tree_splits : (side : List Found) (r : Run_side) (rows : List Run_side) → AllWithin 8 (r ∷ rows) → Fresh [] (r ∷ rows)
    → IsSplit side (r ∷ rows) (row_tree side (r ∷ rows) ∷ [])
tree_splits side r rows w f =
    let s = part_splits 8 side (r ∷ rows) w f in
    subst (λ (ts : List Tree). IsSplit side (r ∷ rows) ts) (one_option side (r ∷ rows) (part_of 8 side (r ∷ rows)) s (omega arith)) s
