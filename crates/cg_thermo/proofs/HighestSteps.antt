-- The greatest of the sides of some games, one after the other.
use Rattle.std.proofs.Common.{◌≡◌, refl, ℕ, zero, suc, ◌+◌, ◌<◌, ◌≤◌, arith, ap, sym, ◌∙◌, Bool, true, false}
use Rattle.std.proofs.Common.{All, List, [], ◌∷◌, ◌++◌, map, take, get_or, length, ℤ, neg_ℤ}
use Rattle.std.proofs.lemmas.Int.{ints}
use Rattle.std.proofs.lemmas.List.{get_or_default}
use Rattle.std.specs.Int.{int_max}
use Rattle.cg_arena.proofs.Slices.{games_take_all, games_take_suc, member_of}
use Rattle.cg_arena.specs.Arena.{game_of, games_of}
use Rattle.cg_dyadic.specs.Wide.{places}
use Rattle.cg_form.proofs.Among.{carry}
use Rattle.cg_form.proofs.Decide.{number-decide}
use Rattle.cg_form.proofs.Integers.{some_lefts, some_rights}
use Rattle.cg_form.specs.Canonical.{Canonical}
use Rattle.cg_form.specs.Game.{Among, Game, IsNode, lefts, number, options, rights}
use Rattle.cg_form.specs.Simple.{Decides, NoNumber}
use Rattle.cg_form.specs.Walls.{greatest, least, walls}
use Rattle.cg_walls.specs.declared.rise.Rise.{Rise}
use Rattle.cg_walls.specs.Rises.{IsWall, value_at}
use Rattle.cg_thermo.specs.declared.wall_pair.WallPair.{WallPair}
use Rattle.cg_thermo.specs.Progress.{AreWallPairs}
use Rattle.cg_thermo.specs.Smooths.{Smooth}
use Rattle.cg_thermo.specs.HighestWalls.{IsHighestWall, side_value}
use Rattle.cg_arena.proofs.Interning.{some_at}
use Rattle.cg_thermo.proofs.Drawing.{HighestWalls}

-- ---- one game more

greatest_more : (f : Game → ℤ) (gs : List Game) (g : Game) → ¬ (gs ≡ []) → greatest (map f (gs ++ (g ∷ []))) ≡ int_max (greatest (map f gs)) (f g)
greatest_more f [] g n = absurd (n refl)
greatest_more f (x ∷ []) g n = greater_max (f x) (f g)
  where
    greater_max : (a b : ℤ) → greatest (a ∷ (b ∷ [])) ≡ int_max a b
    greater_max a b = grind (arith, ints)
greatest_more f (x ∷ (y ∷ ys)) g n =
    let e = greatest_more f (y ∷ ys) g (λ k. cc) in
    joined (f x) (greatest (map f ((y ∷ ys) ++ (g ∷ [])))) (greatest (map f (y ∷ ys))) (f g) e
  where
    joined : (a b c d : ℤ) → b ≡ int_max c d → greatest (a ∷ (b ∷ [])) ≡ int_max (greatest (a ∷ (c ∷ []))) d
    joined a b c d e = grind (arith, ints)

pub highest_wall-first : (fs : List Game) (right : Bool) (ps rest : List ℕ) (p : ℕ) (r : Rise) → ps ≡ p ∷ rest
    → ((d : Decides) (t : ℕ) → value_at r t ≡ side_value d right t (game_of fs p)) → IsHighestWall right (games_of fs (take 1 ps)) r
highest_wall-first fs right ps rest p r e v =
    rw e (λ _. v)

pub highest_wall-more : (fs : List Game) (right : Bool) (ps : List ℕ) (i p : ℕ) (r q : Rise) → 1 ≤ i → i < length ps → p ≡ get_or ps i p
    → ((d : Decides) (t : ℕ) → value_at q t ≡ int_max (value_at r t) (side_value d right t (game_of fs p)))
    → IsHighestWall right (games_of fs (take i ps)) r → IsHighestWall right (games_of fs (take (i + 1) ps)) q
highest_wall-more fs right ps i p r q some lt e v highest_wall = λ _ d t.
    let one : i + 1 ≡ suc i = omega arith in
    let f : Game → ℤ = side_value d right t in
    let n : ¬ (games_of fs (take i ps) ≡ []) = not_none ps i some lt in
    let own : p ≡ get_or ps i 0 = e ∙ get_or_default ps i p 0 lt in
    v d t ∙ ap (λ z. int_max z (f (game_of fs p))) (highest_wall n d t)
    ∙ sym (greatest_more f (games_of fs (take i ps)) (game_of fs p) n)
    ∙ ap (λ z. greatest (map f (games_of fs (take i ps) ++ (game_of fs z ∷ [])))) own
    ∙ sym (ap (λ z. greatest (map f z)) (ap (λ k. games_of fs (take k ps)) one ∙ games_take_suc fs ps i 0 lt))
  where
    not_none : (xs : List ℕ) (k : ℕ) → 1 ≤ k → k < length xs → ¬ (games_of fs (take k xs) ≡ [])
    not_none [] k o l = absurd (omega arith)
    not_none (x ∷ xs) zero o l = absurd (omega arith)
    not_none (x ∷ xs) (suc k) o l = λ h. cc

pub highest_wall-all : (fs : List Game) (right : Bool) (ps : List ℕ) (i : ℕ) (r : Rise) → length ps ≤ i → IsHighestWall right (games_of fs (take i ps)) r
    → IsHighestWall right (games_of fs ps) r
highest_wall-all fs right ps i r h k = rw (← (games_take_all fs ps i h)) k

-- what stands behind the first
pub read-behind : (xs ys : List ℕ) (x i h : ℕ) → xs ≡ x ∷ ys → h ≡ get_or ys i h → h ≡ get_or xs (i + 1) h
read-behind xs ys x i h e read =
    let next : i + 1 ≡ suc i = omega arith in
    read ∙ sym (ap (λ z. get_or z (i + 1) h) e ∙ ap (λ k. get_or (x ∷ ys) k h) next)

pub all_read : (xs : List ℕ) (i x n : ℕ) → All (λ p. p < n) xs → i < length xs → x ≡ get_or xs i x → x < n
all_read xs i x n all l e = rw e (all i x l)

-- ---- the sides of a pair of walls

-- ---- both sides of a game whose options have pairs of walls

greatest_turned : (f : Game → ℤ) (gs : List Game) → greatest (map (λ a. neg_ℤ (f a)) gs) ≡ neg_ℤ (least (map f gs))
greatest_turned f [] = refl
greatest_turned f (x ∷ []) = refl
greatest_turned f (x ∷ (y ∷ ys)) =
    turned (f x) (greatest (map (λ a. neg_ℤ (f a)) (y ∷ ys))) (least (map f (y ∷ ys))) (greatest_turned f (y ∷ ys))
  where
    turned : (a b c : ℤ) → b ≡ neg_ℤ c → greatest (neg_ℤ a ∷ (b ∷ [])) ≡ neg_ℤ (least (a ∷ (c ∷ [])))
    turned a b c e = grind (arith, ints)

pub canonical-node : (g : Game) → Canonical g → IsNode g → NoNumber g
canonical-node (number x) c n = absurd n
canonical-node (options ls rs) c n = c.0.no_number

smooth_options : (fs : List Game) (cs : List WallPair) (ps : List ℕ) → AreWallPairs fs cs → All (λ p. p < length cs) ps
    → (a : Game) → Among a (games_of fs ps) → Smooth places a
smooth_options fs cs ps h within a m =
    let (p, k, e) = member_of fs ps a m in
    let l : p < length cs = (rw (← k.2) (within k.0 p k.1)) in
    let (c, is) = some_at cs p l in
    rw e (h.each p c l is).smooth

pub highest_of : (fs : List Game) (cs : List WallPair) (g : Game) (ls rs : List ℕ) (p q : Rise) → Canonical g → IsNode g
    → lefts g ≡ games_of fs ls → rights g ≡ games_of fs rs → AreWallPairs fs cs
    → All (λ p. p < length cs) ls → All (λ p. p < length cs) rs → IsWall p → IsWall q
    → IsHighestWall true (games_of fs ls) p → IsHighestWall false (games_of fs rs) q → HighestWalls places g p q
highest_of fs cs g ls rs p q can n l r h bl br wp wq tp tq =
    let never = canonical-node g can n in
    let F : ℕ → Game → ℤ = λ t b. (walls number-decide places t b).left in
    record {
      never = never;
      lefts_smooth = λ a m. smooth_options fs cs ls h bl a (carry a (lefts g) (games_of fs ls) l m);
      rights_smooth = λ b m. smooth_options fs cs rs h br b (carry b (rights g) (games_of fs rs) r m);
      p_wall = wp;
      q_wall = wq;
      p_is = λ t. tp (λ e. some_lefts g never (l ∙ e)) number-decide t
          ∙ ap (λ z. greatest (map (side_value number-decide true t) z)) (sym l);
      q_is = λ t. tq (λ e. some_rights g never (r ∙ e)) number-decide t ∙ greatest_turned (F t) (games_of fs rs)
          ∙ ap (λ z. neg_ℤ (least (map (F t) z))) (sym r);
    }
