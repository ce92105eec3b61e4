-- Sets of joined cells, before and after a move in one of them.
use Rattle.std.proofs.lemmas.Bool.Decides.{nat_tests}
use Rattle.std.proofs.Common.{◌≡◌, refl, ℕ, true, ap, sym, ◌∙◌, subst, arith, Bool}
use Rattle.cg_moves.specs.declared.player.Player.{Player}
use Rattle.cg_moves.specs.Grid.{Grid}
use Rattle.cg_pieces.specs.Cells.{CellGame, First, IsCellGame, Joined, OneSet, Linked}
use Rattle.cg_pieces.specs.Cells.Linked.{here, step}

pub linked-trans : (is_open : ℕ → Bool) (next : ℕ → ℕ → Bool) (k l m : ℕ) → Linked is_open next k l → Linked is_open next l m → Linked is_open next k m
linked-trans is_open next k l m a (here n e) = subst (λ (z : ℕ). Linked is_open next k z) e a
linked-trans is_open next k l m a (step x n b x_open n_open t) = step x n (linked-trans is_open next k l x a b) x_open n_open t

-- where more cells are open and adjacent
pub linked-along : (is_open more : ℕ → Bool) (next also : ℕ → ℕ → Bool) → ((k : ℕ) → is_open k ≡ true → more k ≡ true)
    → ((k l : ℕ) → next k l ≡ true → also k l ≡ true) → (k l : ℕ) → Linked is_open next k l → Linked more also k l
linked-along is_open more next also f a k l (here n e) = here n e
linked-along is_open more next also f a k l (step x n b x_open n_open t) =
    step x n (linked-along is_open more next also f a k x b) (f x x_open) (f n n_open) (a x n t)

module _ (g : CellGame) (laws : IsCellGame g) where
  -- ---- to be in one set is an equivalence

  pub joined-trans : (p : Grid) (k l m : ℕ) → Joined g p k l → Joined g p l m → Joined g p k m
  joined-trans p k l m = linked-trans (g.is_open p) (g.adjacent p) k l m

  pub joined-sym : (p : Grid) (k l : ℕ) → Joined g p k l → Joined g p l k
  joined-sym p k l (here n e) = here k (sym e)
  joined-sym p k l (step x n b x_open n_open next) =
      joined-trans p n x k (step n x (here n refl) n_open x_open (laws.symmetric p x n next)) (joined-sym p k x b)

  pub open-along : (p : Grid) (k l : ℕ) → Joined g p k l → g.is_open p k ≡ true → g.is_open p l ≡ true
  open-along p k l (here n e) k_open = rw (← e) k_open
  open-along p k l (step x n b x_open n_open next) k_open = n_open

  -- the two cells of a move are in one set
  pub legal-joined : (player : Player) (p : Grid) (k one other : ℕ) → g.legal player p one other ≡ true → Joined g p k one → Joined g p k other
  legal-joined player p k one other legal j =
      let (a, b, next) = laws.legal_open player p one other legal in
      step one other j a b next

  module _ (p : Grid) (s : ℕ) (after small : Grid) (o : OneSet g p s after small) where
    -- ---- outside the set

    pub joined-before : (k l : ℕ) → Joined g after k l → Joined g p k l
    joined-before = linked-along (g.is_open after) (g.is_open p) (g.adjacent after) (g.adjacent p) o.fewer (λ x n t. sym (o.adjacent x n) ∙ t)

    pub stays-apart : (k l : ℕ) → ¬ Joined g p s k → Joined g p k l → ¬ Joined g p s l
    stays-apart k l out j in_set = out (joined-trans p s l k in_set (joined-sym p k l j))

    pub joined-apart : (k l : ℕ) → ¬ Joined g p s k → Joined g p k l → Joined g after k l
    joined-apart k l out (here n e) = here n e
    joined-apart k l out (step x n b x_open n_open next) =
        step x n (joined-apart k x out b) (o.apart_open x (stays-apart k x out b) ∙ x_open)
        (o.apart_open n (stays-apart k n out (step x n b x_open n_open next)) ∙ n_open) (o.adjacent x n ∙ next)

    pub first-apart : (k : ℕ) → ¬ Joined g p s k → First g after k → First g p k
    first-apart k out f =
        let one = joined-before k f.one f.joined in
        let other = joined-before k f.other (legal-joined f.player after k f.one f.other f.legal f.joined) in record {
          is_open = sym (o.apart_open k out) ∙ f.is_open;
          least = λ l j. f.least l (joined-apart k l out j);
          player = f.player;
          one = f.one;
          other = f.other;
          legal = sym (o.apart_legal f.player f.one f.other (stays-apart k f.one out one) (stays-apart k f.other out other)) ∙ f.legal;
          joined = one;
        }

    pub apart-first : (k : ℕ) → ¬ Joined g p s k → First g p k → First g after k
    apart-first k out f =
        let other = legal-joined f.player p k f.one f.other f.legal f.joined in record {
          is_open = o.apart_open k out ∙ f.is_open;
          least = λ l j. f.least l (joined-before k l j);
          player = f.player;
          one = f.one;
          other = f.other;
          legal = o.apart_legal f.player f.one f.other (stays-apart k f.one out f.joined) (stays-apart k f.other out other) ∙ f.legal;
          joined = joined-apart k f.one out f.joined;
        }

    pub apart-piece : (k : ℕ) → ¬ Joined g p s k → g.piece after k ≡ g.piece p k
    apart-piece k out = o.apart_piece k out (λ l. (joined-before k l, joined-apart k l out))

    -- ---- inside the set

    abbrev put : ℕ → ℕ
    put = g.place p s

    pub place-same : (k l : ℕ) → Joined g p s k → Joined g p s l → put k ≡ put l → k ≡ l
    place-same k l j_k j_l e = grind (arith, nat_tests)

    in_set : (k l : ℕ) → Joined g p s k → Joined g after k l → Joined g p s l
    in_set k l j_k j = joined-trans p s k l j_k (joined-before k l j)

    pub joined-placed : (k l : ℕ) → Joined g p s k → Joined g after k l → Joined g small (put k) (put l)
    joined-placed k l j_k (here n e) = here (put n) (ap put e)
    joined-placed k l j_k (step x n b x_open n_open next) =
        let j_x = in_set k x j_k b in
        let j_n = in_set k n j_k (step x n b x_open n_open next) in
        step (put x) (put n) (joined-placed k x j_k b) (o.place_open x j_x ∙ x_open) (o.place_open n j_n ∙ n_open)
        (o.place_adjacent x n j_x j_n ∙ next)

    -- a cell of the piece that is joined to a cell's place is a cell's place
    pub record Placed (k m : ℕ) : Type 0 where
      pub cell : ℕ
      pub joined : Joined g p s cell
      pub is : m ≡ put cell
      pub linked : Joined g after k cell

    pub placed-joined : (k m : ℕ) → Joined g p s k → Joined g small (put k) m → Placed k m
    placed-joined k m j_k (here n e) = record {
      cell = k;
      joined = j_k;
      is = sym e;
      linked = here k refl;
    }
    placed-joined k m j_k (step x n b x_open n_open next) =
        let w = placed-joined k x j_k b in
        let (l, j_l, e) = o.placed n n_open in
        record {
          cell = l;
          joined = j_l;
          is = e;
          linked = step w.cell l w.linked (sym (o.place_open w.cell w.joined) ∙ (rw w.is at x_open))
              (sym (o.place_open l j_l) ∙ (rw e at n_open))
              (sym (o.place_adjacent w.cell l w.joined j_l) ∙ (rw e at (rw w.is at next)));
        }

    pub placed-linked : (k l : ℕ) → Joined g p s k → Joined g p s l → Joined g small (put k) (put l) → Joined g after k l
    placed-linked k l j_k j_l j =
        let w = placed-joined k (put l) j_k j in
        subst (Joined g after k) (sym (place-same l w.cell j_l w.joined w.is)) w.linked

    pub first-placed : (k : ℕ) → Joined g p s k → First g after k → First g small (put k)
    first-placed k j_k f =
        let j_one = in_set k f.one j_k f.joined in
        let j_other = in_set k f.other j_k (legal-joined f.player after k f.one f.other f.legal f.joined) in record {
          is_open = o.place_open k j_k ∙ f.is_open;
          least = λ m j. let w = placed-joined k m j_k j in
              rw w.is ((o.place_order k w.cell j_k w.joined).0 (f.least w.cell w.linked));
          player = f.player;
          one = put f.one;
          other = put f.other;
          legal = o.place_legal f.player f.one f.other j_one j_other ∙ f.legal;
          joined = joined-placed k f.one j_k f.joined;
        }

    pub placed-first : (k : ℕ) → Joined g p s k → First g small (put k) → First g after k
    placed-first k j_k f =
        let w = placed-joined k f.one j_k f.joined in
        let (a, b, next) = laws.legal_open f.player small f.one f.other f.legal in
        let (l, j_l, e) = o.placed f.other b in
        record {
          is_open = sym (o.place_open k j_k) ∙ f.is_open;
          least = λ m j. let j_m = in_set k m j_k j in
              (o.place_order k m j_k j_m).1 (f.least (put m) (joined-placed k m j_k j));
          player = f.player;
          one = w.cell;
          other = l;
          legal = sym (o.place_legal f.player w.cell l w.joined j_l) ∙ (rw e at (rw w.is at f.legal));
          joined = w.linked;
        }

    pub placed-piece : (k : ℕ) → Joined g p s k → g.piece small (put k) ≡ g.piece after k
    placed-piece k j_k = o.place_piece k j_k (λ l j_l. (joined-placed k l j_k, placed-linked k l j_k j_l))
