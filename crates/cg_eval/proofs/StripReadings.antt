-- What the rules text and the row of a strip game are is one position.
use Rattle.std.proofs.Common.{◌≡◌, refl, ap, sym, ◌∙◌, subst, ℕ, suc, ◌+◌, ◌-◌, ◌<◌, ◌≤◌, ◌⊎◌, arith, inl, inr, true, Option, Some, None, Result, Ok}
use Rattle.std.proofs.Common.{Err, List, [], ◌∷◌, ◌++◌, length, cond}
use Rattle.std.specs.Prelude.{All}
use Rattle.std.proofs.lemmas.Bool.{and_parts}
use Rattle.cg_reading.specs.Column.{Stops}
use Rattle.cg_reading.specs.Readers.{whole_at}
use Rattle.cg_reading.proofs.WholeLines.{whole_again, whole_takes}
use Rattle.cg_moves.specs.declared.fault.BoardFault.{BoardFault}
use Rattle.cg_moves.specs.declared.fault.BoardFault.TheVariants.{Rules, Lowering}
use Rattle.cg_moves.specs.Grid.{Grid}
use Rattle.cg_moves.specs.Rules.{In}
use Rattle.cg_moves.specs.Texts.{read_of}
use Rattle.cg_strip.specs.Faults.{fault_of}
use Rattle.cg_strip.specs.Grammar.{Items, rules_text}
use Rattle.cg_strip.specs.Reading.{rules_text_at}
use Rattle.cg_strip.specs.RuleFaults.{IsFirstBroken, IsInGrammar, IsReadAs, IsRulesPlace, book_of}
use Rattle.cg_strip.specs.Rulebook.{IsRulebook, Rulebook, symbols_of}
use Rattle.cg_strip.specs.StripGame.{strip_game}
use Rattle.cg_strip.proofs.StripLaw.{board_parts}
use Rattle.cg_strip.specs.Weighing.{IsFirstRising, Lowers, do_all_lower, does_lower, first_rising}
use Rattle.cg_strip.proofs.WeighingLemmas.{first_rising_is, lower_is, none_rising, one_lowers}
use Rattle.cg_strip.specs.declared.rule.Rule.{Rule}
use Rattle.cg_strip.specs.declared.weight.Weight.{Weight}
use Rattle.cg_strip.proofs.BoardLemmas.{board_is}
use Rattle.cg_strip.proofs.BrokenRules.{broken_at, none_broken}
use Rattle.cg_strip.proofs.Rulebooks.{book_sound}
use Rattle.cg_strip.proofs.WholeRules.{stuck_left, stuck_place}
use Rattle.cg_strip.proofs.WholeText.{rules_text_ok}
use Rattle.cg_eval.specs.Boards.{IsStrip, Position, board, faulty, lowered, no_row, no_rules, not_lowered, strip_board, strip_of, strip_of_items}
use Rattle.cg_eval.specs.Boards.{strip_position, strip_row}
use Rattle.cg_eval.specs.declared.fault.GameFault.TheVariants as by
use Rattle.cg_eval.proofs.ReadBoards.{read-by}
use Rattle.cg_eval.proofs.Below.{below_or_not}

-- ---- the rules

again : (text : List ℕ) (t : Items) → rules_text 1 t text → whole_at rules_text_at text ≡ Ok t
again text t is = whole_again rules_text rules_text_at _ _ _ rules_text_ok text t is

takes : (text : List ℕ) (t : Items) → whole_at rules_text_at text ≡ Ok t → rules_text 1 t text
takes text t e = whole_takes rules_text rules_text_at _ _ _ rules_text_ok text t e

-- a text that reads as rules is read so
read-as : (rules : List ℕ) (book : Rulebook) → IsReadAs rules book
    → (t : Items) × (whole_at rules_text_at rules ≡ Ok t) × (fault_of t ≡ None) × (book ≡ book_of t)
read-as rules book a = (a.items, again rules a.items a.is, unbroken (fault_of a.items) refl, a.same)
  where
    unbroken : (o : Option ℕ) → fault_of a.items ≡ o → o ≡ None
    unbroken None e = refl
    unbroken (Some p) e = absurd (a.sound p (broken_at a.items rules p a.is e).broken)

-- a text leaves its grammar at one place
one-place : (text : List ℕ) (p q : ℕ) → Stops IsInGrammar text p → Stops IsInGrammar text q → p ≡ q
one-place text p q a b =
    let m = a.longest b.before b.behind b.split b.begun in
    let n = b.longest a.before a.behind a.split a.begun in
    omega (arith, m, n, a.at, b.at)

-- the first broken place is one
one-broken : (t : Items) (p q : ℕ) → IsFirstBroken t p → IsFirstBroken t q → p ≡ q
one-broken t p q a b = let m = a.least q b.broken in let n = b.least p a.broken in omega (arith, m, n)

stuck_at : (text : List ℕ) (n : ℕ) → whole_at rules_text_at text ≡ Err n → suc (length text) - n + n ≡ suc (length text)
stuck_at text n e = let h = stuck_left text n e in omega (arith, h)

-- a refused text of rules is refused so
rules-refused : (rules row : List ℕ) (p : ℕ) → IsRulesPlace rules p → strip_position rules row ≡ faulty (by.Board (Rules p))
unfolding strip_position
rules-refused rules row p (inl stops) = by_read (whole_at rules_text_at rules) refl
  where
    left : (q : ℕ) → IsRulesPlace rules q → Stops IsInGrammar rules q
    left q (inl s) = s
    left q (inr (t, is, first)) = absurd (stops.none (t, is))

    left_at : (n : ℕ) → whole_at rules_text_at rules ≡ Err n → Stops IsInGrammar rules (suc (length rules) - n)
    left_at n e = left (suc (length rules) - n) (stuck_place rules n (suc (length rules) - n) e (stuck_at rules n e))

    by_read : (r : Result Items ℕ) → whole_at rules_text_at rules ≡ r → strip_of rules row r ≡ faulty (by.Board (Rules p))
    by_read (Ok t) e = absurd (stops.none (t, takes rules t e))
    by_read (Err n) e = ap (λ z. faulty (by.Board (Rules z))) (one-place rules (suc (length rules) - n) p
        (left_at n e) stops)
rules-refused rules row p (inr (t, is, first)) =
    ap (strip_of rules row) (again rules t is) ∙ by_fault (fault_of t) refl
  where
    by_fault : (o : Option ℕ) → fault_of t ≡ o → strip_of_items t row o ≡ faulty (by.Board (Rules p))
    by_fault None e = absurd (none_broken t rules is e p first.broken)
    by_fault (Some q) e = ap (λ z. faulty (by.Board (Rules z))) (one-broken t q p (broken_at t rules q is e) first)

-- ---- the row

even_in : (rules : List Rule) (r : Rule) → All (λ r. length r.pattern ≡ length r.replacement) rules → In r rules
    → length r.pattern ≡ length r.replacement
even_in [] r h m = absurd m
even_in (v ∷ rules) r h (inl e) =
    rw e (h 0 v (omega arith))
even_in (v ∷ rules) r h (inr m) = even_in rules r (λ k d below. h (suc k) d (omega arith)) m

-- where all rules lower the sum, none is the first that doesn't
none-lowered : (weights : List Weight) (size others : ℕ) (rules : List Rule) → do_all_lower weights size rules ≡ true
    → first_rising weights size others rules ≡ None
unfolding first_rising
none-lowered weights size others [] e = refl
none-lowered weights size others (r ∷ rules) e =
    let both = and_parts (does_lower weights size r) (do_all_lower weights size rules) e in
    ap (λ b. cond b (first_rising weights size (suc others) rules) (Some (suc others))) both.0
    ∙ none-lowered weights size (suc others) rules both.1

-- what stands at a place before another stands among those before it
before_in : (P : Rule → Type 0) (xs ys rest others : List Rule) (x y : Rule) → xs ++ x ∷ rest ≡ ys ++ y ∷ others
    → length xs < length ys → All P ys → P x
before_in P xs [] rest others x y e l h = absurd (omega arith)
before_in P [] (z ∷ ys) rest others x y e l h = let same : z ≡ x = cc in subst P same (h 0 z (omega arith))
before_in P (w ∷ xs) (z ∷ ys) rest others x y e l h =
    let tails : xs ++ x ∷ rest ≡ ys ++ y ∷ others = cc in
    before_in P xs ys rest others x y tails (omega arith) (λ k d below. h (suc k) d (omega arith))

not-before : (book : Rulebook) (size j k : ℕ) (a : IsFirstRising book size j) (b : IsFirstRising book size k)
    → length a.before < length b.before → ⊥
not-before book size j k a b l =
    a.rising (before_in (Lowers book.weights size) a.before b.before a.behind b.behind a.rule b.rule
    (sym a.split ∙ b.split) l b.sound a.cell a.fits)

one-rising : (book : Rulebook) (size j k : ℕ) → IsFirstRising book size j → IsFirstRising book size k → j ≡ k
one-rising book size j k a b = by (below_or_not (length a.before) (length b.before)) (below_or_not (length b.before) (length a.before))
  where
    by : (length a.before < length b.before) ⊎ (length b.before ≤ length a.before)
        → (length b.before < length a.before) ⊎ (length a.before ≤ length b.before) → j ≡ k
    by (inl l) m = absurd (not-before book size j k a b l)
    by (inr l) (inl m) = absurd (not-before book size k j b a m)
    by (inr l) (inr m) = omega (arith, l, m, a.number, b.number)

in_list : (xs rest : List Rule) (x : Rule) → In x (xs ++ x ∷ rest)
in_list [] rest x = inl refl
in_list (y ∷ xs) rest x = inr (in_list xs rest x)

first-found : (book : Rulebook) (size k : ℕ) → All (λ r. length r.pattern ≡ length r.replacement) book.rules
    → IsFirstRising book size k → first_rising book.weights size 0 book.rules ≡ Some k
first-found book size k even a = by (first_rising book.weights size 0 book.rules) refl
  where
    there : In a.rule book.rules
    there = rw a.split (in_list a.before a.behind a.rule)

    own : length a.rule.pattern ≡ length a.rule.replacement
    own = even_in book.rules a.rule even there

    by : (o : Option ℕ) → first_rising book.weights size 0 book.rules ≡ o → o ≡ Some k
    by None e = absurd (a.rising (lower_is book.weights size a.rule own
        (one_lowers book.weights size book.rules a.rule (none_rising book.weights size 0 book.rules even e) there)
        a.cell a.fits))
    by (Some j) e = ap Some (one-rising book size j k (first_rising_is book size j even e) a)

-- ---- both texts

book-sound : (rules : List ℕ) (book : Rulebook) → IsReadAs rules book → IsRulebook book
book-sound rules book a =
    let (t, w, f, b) = read-as rules book a in
    rw b (book_sound t rules (takes rules t w) f)

even-rules : (rules : List ℕ) (book : Rulebook) → IsReadAs rules book
    → All (λ r. length r.pattern ≡ length r.replacement) book.rules
even-rules rules book a = let s = book-sound rules book a in λ k d below. (s.rules k d below).even

at-book : (rules row : List ℕ) (book : Rulebook) (q : Position) → IsReadAs rules book
    → strip_row book (read_of (symbols_of book.weights) true row) ≡ q → strip_position rules row ≡ q
unfolding strip_position
at-book rules row book q a e =
    let (t, w, f, b) = read-as rules book a in
    ap (strip_of rules row) w ∙ ap (strip_of_items t row) f
    ∙ ap (λ (z : Rulebook). strip_row z (read_of (symbols_of z.weights) true row)) (sym b) ∙ e

pub strip-only : (rules row : List ℕ) (q : Position) → IsStrip rules row q → strip_position rules row ≡ q
strip-only rules row _ (strip_board book p a b) =
    let l = (board_parts book p b.lowered).lower in
    at-book rules row book (board (strip_game book) p) a (ap (strip_row book) b.read
    ∙ ap (lowered book p) (none-lowered book.weights (length p.cells) 0 book.rules l))
strip-only rules row _ (no_rules place r) = rules-refused rules row place r
strip-only rules row _ (no_row book fault a e) = at-book rules row book (faulty (by.Board fault)) a (ap (strip_row book) e)
strip-only rules row _ (not_lowered book p k a e r) =
    at-book rules row book (faulty (by.Board (Lowering k))) a (ap (strip_row book) e
    ∙ ap (lowered book p) (first-found book (length p.cells) k (even-rules rules book a) r))

pub strip-some : (rules row : List ℕ) → IsStrip rules row (strip_position rules row)
unfolding strip_position
strip-some rules row = by_text (whole_at rules_text_at rules) refl
  where
    by_lowered : (t : Items) (p : Grid) (o : Option ℕ) → IsReadAs rules (book_of t)
        → read_of (symbols_of (book_of t).weights) true row ≡ Ok p
        → first_rising (book_of t).weights (length p.cells) 0 (book_of t).rules ≡ o
        → IsStrip rules row (lowered (book_of t) p o)
    by_lowered t p None a e f =
        strip_board (book_of t) p a (board_is (book_of t) (symbols_of (book_of t).weights) row (book_of t).weights
        (length p.cells) (book_of t).rules p (book-sound rules (book_of t) a) refl e
        (read-by (symbols_of (book_of t).weights) true row p e).symbols_are refl refl refl (sym f))
    by_lowered t p (Some k) a e f =
        not_lowered (book_of t) p k a e (first_rising_is (book_of t) (length p.cells) k
        (even-rules rules (book_of t) a) f)

    by_row : (t : Items) (r : Result Grid BoardFault) → IsReadAs rules (book_of t)
        → read_of (symbols_of (book_of t).weights) true row ≡ r → IsStrip rules row (strip_row (book_of t) r)
    by_row t (Ok p) a e =
        by_lowered t p (first_rising (book_of t).weights (length p.cells) 0 (book_of t).rules) a e refl
    by_row t (Err fault) a e = no_row (book_of t) fault a e

    by_rules : (t : Items) (o : Option ℕ) → rules_text 1 t rules → fault_of t ≡ o
        → IsStrip rules row (strip_of_items t row o)
    by_rules t None is f =
        by_row t (read_of (symbols_of (book_of t).weights) true row) (record {
          items = t;
          is = is;
          sound = none_broken t rules is f;
          same = refl;
        }) refl
    by_rules t (Some p) is f = no_rules p (inr (t, is, broken_at t rules p is f))

    by_text : (r : Result Items ℕ) → whole_at rules_text_at rules ≡ r → IsStrip rules row (strip_of rules row r)
    by_text (Ok t) e = by_rules t (fault_of t) (takes rules t e) refl
    by_text (Err n) e = no_rules (suc (length rules) - n) (stuck_place rules n (suc (length rules) - n) e
        (stuck_at rules n e))
