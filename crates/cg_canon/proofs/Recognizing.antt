-- Games that are recognized in an arena, as it grows.
use Rattle.std.proofs.Common.{◌≡◌, ◌⊎◌, ◌∙◌, refl, Bool, true, false, cond, arith, ap, inl, inr, sym, subst, ℕ, zero, suc}
use Rattle.std.proofs.Common.{◌+◌, ◌<◌, ◌≤◌, pos, ◌-ℤ◌, List, [], ◌∷◌, ◌++◌, length, take, get_or, Option, Some, None, All}
use Rattle.std.specs.Prelude.{IfSome}
use Rattle.std.proofs.lemmas.Bool.Decides.{eqb_tells}
use Rattle.std.proofs.lemmas.List.{get_or_append_left, get_or_push, length_push}
use Rattle.std.proofs.lemmas.List.Elements.{All-contains, All-nil, All-push, All-same, All-weaker}
use Rattle.cg_dyadic.specs.Number.{Number, whole}
use Rattle.cg_form.specs.Canonical.{Canonical}
use Rattle.cg_form.specs.Game.{Game, node, number}
use Rattle.cg_form.specs.Order.{Equal}
use Rattle.cg_form.specs.Sum.{sum}
use Rattle.cg_form.proofs.EqualGames.{equal_comm, sum_equal}
use Rattle.cg_form.proofs.Preorder.{equal_back, equal_trans}
use Rattle.cg_nimbers.specs.Nimbers.{nimber_form, nimber_over, nimbers_below, zero_form}
use Rattle.cg_nimbers.specs.NumberUpStar.{number_up_star, up_form}
use Rattle.cg_nimbers.proofs.CanonicalNimbers.{nimber-canonical}
use Rattle.cg_nimbers.proofs.IntegerMultiples.{equal_cancel, sum_second}
use Rattle.cg_nimbers.proofs.NumberUpStars.{number_up_star-nimber, number_up_star-number, number_up_star-up}
use Rattle.cg_nodes.specs.Can.{can}
use Rattle.cg_nodes.specs.CanLaw.{can-equal, can-fixed}
use Rattle.cg_nodes.proofs.Forms.{can-same}
use Rattle.cg_arena.specs.Arena as arena
use Rattle.cg_arena.specs.Arena.{IsIndex, games_of}
use Rattle.cg_arena.proofs.Slices.{games_take_suc}
use Rattle.cg_canon.specs.declared.number_up_star.NumberUpStar.{NumberUpStar}
use Rattle.cg_canon.specs.declared.recognized.Recognized.{Recognized}
use Rattle.cg_canon.specs.Arena.{Begins, IsAt}
use Rattle.cg_canon.specs.NumberUpStars.{IsPlus, game_of}
use Rattle.cg_canon.specs.Recognized.{AreNimbers, AreRecognized, HasParts, Holds, IsKnownAt, IsListed, known_at}
use Rattle.cg_canon.proofs.InternerSteps.{begins_one, game_begins, index_begins}
use Rattle.cg_canon.proofs.KnownGames.{parts_game, plus_equal}

-- ---- games with parts

-- a game is the canonical form of what its parts equal
pub has_is : (g h : Game) (v : NumberUpStar) → HasParts g v → Equal h (game_of v) → g ≡ can h
has_is g h v k e = sym (can-same h g (equal_trans h (game_of v) g e (equal_back g (game_of v) k.equal)) ∙ can-fixed g k.canonical)

-- what has these parts
equals_parts : (g : Game) (v : NumberUpStar) (x : Number) (n m k : ℕ) → v.number ≡ x → v.ups ≡ n → v.downs ≡ k → v.star ≡ m
    → Equal g (number_up_star x (pos n -ℤ pos k) m) → Equal g (game_of v)
equals_parts g v x n m k same_x ups downs star e =
    rw (parts_game v x n k m same_x ups downs star) e

pub number_parts : (x : Number) (v : NumberUpStar) → v.number ≡ x → (v.ups ≡ 0) × (v.downs ≡ 0) → v.star ≡ 0
    → Equal (number x) (game_of v)
number_parts x v same ups star = equals_parts (number x) v x 0 0 0 same ups.0 ups.1 star (number_up_star-number x)

nimber_parts : (n : ℕ) (v : NumberUpStar) → v.number ≡ whole (pos 0) → (v.ups ≡ 0) × (v.downs ≡ 0) → v.star ≡ n
    → Equal (nimber_form n) (game_of v)
nimber_parts n v same ups star = equals_parts (nimber_form n) v (whole (pos 0)) 0 n 0 same ups.0 ups.1 star (number_up_star-nimber n)

up_parts : (v : NumberUpStar) → v.number ≡ whole (pos 0) → (v.ups ≡ 1) × (v.downs ≡ 0) → v.star ≡ 0 → Equal up_form (game_of v)
up_parts v same ups star = equals_parts up_form v (whole (pos 0)) 1 0 0 same ups.0 ups.1 star number_up_star-up

-- a game that has the parts of a nimber alone
pub has_nimber : (g : Game) (v w : NumberUpStar) (n : ℕ) → HasParts g v → v ≡ w → w.number ≡ whole (pos 0)
    → (w.ups ≡ 0) × (w.downs ≡ 0) → w.star ≡ n → g ≡ nimber_form n
has_nimber g v w n k e same ups star =
    has_is g (nimber_form n) v k (rw e (nimber_parts n w same ups star)) ∙ can-fixed (nimber_form n) (nimber-canonical n)

module _ (g h : Game) (v w u : NumberUpStar) (p : IsPlus v w u) where
  sum_parts : HasParts g v → HasParts h w → Equal (sum g h) (game_of u)
  sum_parts k l =
      equal_trans (sum g h) (sum (game_of v) (game_of w)) (game_of u) (sum_equal g h (game_of v) (game_of w) k.equal l.equal)
      (plus_equal v w u p)

  -- one of two games whose sum has parts, as the other has
  other_parts : (s : Game) → HasParts h w → HasParts s u → Equal s (sum g h) → Equal g (game_of v)
  other_parts s l k e =
      let both : Game = sum g h in
      let other : Game = sum (game_of v) h in
      equal_cancel g (game_of v) h (equal_trans both (game_of u) other
      (equal_trans both s (game_of u) (equal_back s both e) k.equal)
      (equal_back other (game_of u) (equal_trans other (sum (game_of v) (game_of w)) (game_of u)
      (sum_second h (game_of w) (game_of v) l.equal) (plus_equal v w u p))))

module _ (gs : List Game) where
  -- ---- at indexes

  -- the sum of two known games, and each of the three by the other two
  pub sum_at : (a b i : ℕ) (v w u : NumberUpStar) → IsKnownAt gs a v → IsKnownAt gs b w → IsPlus v w u → IsKnownAt gs i u
      → IsAt gs i (can (sum (arena.game_of gs a) (arena.game_of gs b)))
  sum_at a b i v w u k l p m = record {
    within = m.within;
    is = has_is (arena.game_of gs i) (sum (arena.game_of gs a) (arena.game_of gs b)) u m.parts
        (sum_parts (arena.game_of gs a) (arena.game_of gs b) v w u p k.parts l.parts);
  }

  pub at_equal : (i : ℕ) (g h : Game) → IsAt gs i (can (sum g h)) → Equal (arena.game_of gs i) (sum g h)
  at_equal i g h at = let P : Game → Type 0 = λ z. Equal z (sum g h) in subst P (sym at.is) (can-equal (sum g h))

  pub at_turned : (i : ℕ) (g h : Game) → IsAt gs i (can (sum g h)) → Equal (arena.game_of gs i) (sum h g)
  at_turned i g h at = equal_trans (arena.game_of gs i) (sum g h) (sum h g) (at_equal i g h at) (equal_comm g h)

  pub third_equal : (a b i : ℕ) (v w u : NumberUpStar) → IsKnownAt gs a v → IsKnownAt gs b w → IsPlus v w u
      → IsAt gs i (can (sum (arena.game_of gs a) (arena.game_of gs b))) → Equal (arena.game_of gs i) (game_of u)
  third_equal a b i v w u k l p at =
      let g = arena.game_of gs a in
      let h = arena.game_of gs b in
      equal_trans (arena.game_of gs i) (sum g h) (game_of u) (at_equal i g h at) (sum_parts g h v w u p k.parts l.parts)

  pub other_equal : (a b i : ℕ) (v w u : NumberUpStar) → IsKnownAt gs b w → IsKnownAt gs i u → IsPlus v w u
      → Equal (arena.game_of gs i) (sum (arena.game_of gs a) (arena.game_of gs b)) → Equal (arena.game_of gs a) (game_of v)
  other_equal a b i v w u l k p e =
      other_parts (arena.game_of gs a) (arena.game_of gs b) v w u p (arena.game_of gs i) l.parts k.parts e

  -- ---- nimbers in order

  -- the first n of them
  first_nimbers : (is : List ℕ) (n : ℕ) → AreNimbers gs is → n ≤ length is → games_of gs (take n is) ≡ nimbers_below n
  unfolding AreNimbers nimber_form nimbers_below
  first_nimbers is zero h less = refl
  first_nimbers is (suc n) h less =
      games_take_suc gs is n 0 (omega arith)
      ∙ ap (λ z. z ++ (arena.game_of gs (get_or is n 0) ∷ [])) (first_nimbers is n h (omega arith))
      ∙ ap (λ z. nimbers_below n ++ (z ∷ [])) (h n (omega arith)).is

  nimber_node : (is ls rs : List ℕ) → AreNimbers gs is → length ls ≤ length is → ls ≡ take (length ls) is → ¬ (length ls ≡ 0)
      → ls ≡ rs → node (games_of gs ls) (games_of gs rs) ≡ nimber_form (length ls)
  unfolding nimber_form
  nimber_node is [] rs h less e some same = absurd (some refl)
  nimber_node is (p ∷ ps) rs h less e some same =
      ap (λ z. node (games_of gs (p ∷ ps)) (games_of gs z)) (sym same)
      ∙ ap nimber_over (ap (games_of gs) e ∙ first_nimbers is (length (p ∷ ps)) h less)

  up_node : (is ls rs : List ℕ) → AreNimbers gs is → length ls ≡ 1 → 1 < length is → ls ≡ take (length ls) is
      → rs ≡ get_or is 1 0 ∷ [] → node (games_of gs ls) (games_of gs rs) ≡ up_form
  unfolding AreNimbers nimber_form nimbers_below
  up_node is ls rs h one two e r =
      let left : games_of gs ls ≡ zero_form ∷ [] = ap (games_of gs) (e ∙ ap (λ n. take n is) one) ∙ first_nimbers is 1 h (omega arith) in
      let right : games_of gs rs ≡ nimber_form 1 ∷ [] = ap (games_of gs) r ∙ ap (λ z. z ∷ []) (h 1 two).is in
      ap (λ z. node z (games_of gs rs)) left ∙ ap (node (zero_form ∷ [])) right

  -- one more
  pub nimbers_pushed : (old new : List ℕ) (i : ℕ) → AreNimbers gs old → (new ≡ old) ⊎ (new ≡ old ++ (i ∷ []))
      → IsAt gs i (nimber_form (length old)) → AreNimbers gs new
  unfolding AreNimbers
  nimbers_pushed old new i h (inl e) at =
      let P : List ℕ → Type 0 = λ z. (n : ℕ) → n < length z → IsAt gs (get_or z n 0) (nimber_form n) in subst P (sym e) h
  nimbers_pushed old new i h (inr e) at = λ n less.
      let P : ℕ → ℕ → Type 0 = λ z k. IsAt gs z (nimber_form k) in
      let more : length new ≡ length old + 1 = ap length e ∙ length_push old i in
      elim (eqb_tells n (length old)) [
        | inl t ↦
            let own : get_or new n 0 ≡ i = ap (λ z. get_or z n 0) e ∙ get_or_push old i 0 n (sym t.1) in
            subst (λ z. P z n) (sym own) (subst (P i) (sym t.1) at)
        | inr t ↦
            let d = t.1 in
            let below : n < length old = omega arith in
            let own : get_or new n 0 ≡ get_or old n 0 = ap (λ z. get_or z n 0) e ∙ get_or_append_left old (i ∷ []) 0 n below in
            subst (λ z. P z n) (sym own) (h n below)
      ]

  -- ---- the table

  module _ (t : Recognized) where
    pub recognized_none : gs ≡ [] → t.games.items ≡ [] → t.nimbers.items ≡ [] → AreRecognized gs t
    unfolding AreNimbers AreRecognized
    recognized_none a e n = record {
      canonical = All-same Canonical gs [] a (All-nil Canonical);
      games = All-same (Holds gs) t.games.items [] e (All-nil (Holds gs));
      nimbers = λ k less. let none : length t.nimbers.items ≡ 0 = ap length n in absurd (omega arith);
    }

    pub known_found : (i : ℕ) (v : NumberUpStar) → AreRecognized gs t → IsListed t i v → IsKnownAt gs i v
    unfolding AreRecognized
    known_found i v r at = All-contains (Holds gs) t.games.items (known_at i v) r.games at

    pub recognized_canonical : (i : ℕ) → AreRecognized gs t → IsIndex gs i → Canonical (arena.game_of gs i)
    unfolding AreRecognized
    recognized_canonical i r within = r.canonical i (node [] []) within

    pub recognized_nimbers : AreRecognized gs t → AreNimbers gs t.nimbers.items
    unfolding AreRecognized
    recognized_nimbers r = r.nimbers

    pub recognized_kept : (u : Recognized) (i : ℕ) (v : NumberUpStar) → IsKnownAt gs i v
        → (u.games.items ≡ t.games.items) ⊎ (u.games.items ≡ t.games.items ++ (known_at i v ∷ []))
        → AreNimbers gs u.nimbers.items → AreRecognized gs t → AreRecognized gs u
    unfolding AreRecognized
    recognized_kept u i v k (inl e) n r = record {
      canonical = r.canonical;
      games = All-same (Holds gs) u.games.items t.games.items e r.games;
      nimbers = n;
    }
    recognized_kept u i v k (inr e) n r = record {
      canonical = r.canonical;
      games = All-same (Holds gs) u.games.items (t.games.items ++ (known_at i v ∷ [])) e (All-push (Holds gs) t.games.items (known_at i v) r.games k);
      nimbers = n;
    }

    -- with other marks
    pub recognized_marked : (u : Recognized) → u.games.items ≡ t.games.items → u.nimbers.items ≡ t.nimbers.items
        → AreRecognized gs t → AreRecognized gs u
    unfolding AreRecognized
    recognized_marked u e n r = record {
      canonical = r.canonical;
      games = All-same (Holds gs) u.games.items t.games.items e r.games;
      nimbers = subst (AreNimbers gs) (sym n) r.nimbers;
    }

    -- games that are seen
    pub nimber_seen : (ls rs : List ℕ) (v : NumberUpStar) → AreRecognized gs t → length ls ≤ length t.nimbers.items
        → ls ≡ take (length ls) t.nimbers.items → ¬ (length ls ≡ 0) → ls ≡ rs → v.number ≡ whole (pos 0)
        → (v.ups ≡ 0) × (v.downs ≡ 0) → v.star ≡ length ls → Equal (node (games_of gs ls) (games_of gs rs)) (game_of v)
    nimber_seen ls rs v r less e some same zero_too ups star =
        let P : Game → Type 0 = λ z. Equal z (game_of v) in
        subst P (sym (nimber_node t.nimbers.items ls rs (recognized_nimbers r) less e some same))
        (nimber_parts (length ls) v zero_too ups star)

    pub up_seen : (ls rs : List ℕ) (v : NumberUpStar) → AreRecognized gs t → length ls ≡ 1 → 1 < length t.nimbers.items
        → ls ≡ take (length ls) t.nimbers.items → rs ≡ get_or t.nimbers.items 1 0 ∷ [] → v.number ≡ whole (pos 0)
        → (v.ups ≡ 1) × (v.downs ≡ 0) → v.star ≡ 0 → Equal (node (games_of gs ls) (games_of gs rs)) (game_of v)
    up_seen ls rs v r one two e is zero_too ups star =
        rw (up_node t.nimbers.items ls rs (recognized_nimbers r) one two e is) (up_parts v zero_too ups star)

-- one more of a list, where there was memory
pub pushed : {A : Type 0} (b : Bool) (new old : List A) (x : A) → new ≡ cond b (old ++ (x ∷ [])) old
    → (new ≡ old) ⊎ (new ≡ old ++ (x ∷ []))
pushed true new old x e = inr e
pushed false new old x e = inl e

-- ---- as the arena grows

recognized_begins : (gs hs : List Game) (t : Recognized) → Begins gs hs → All Canonical hs → AreRecognized gs t → AreRecognized hs t
unfolding AreNimbers AreRecognized
recognized_begins gs hs t b c r = record {
  canonical = c;
  games = All-weaker (Holds gs) (Holds hs) (λ k h.
      record {
        within = index_begins gs hs k.game b h.within;
        parts = rw (game_begins gs hs k.game b h.within) h.parts;
      }) t.games.items r.games;
  nimbers = λ n less.
      let h = r.nimbers n less in
      let i = get_or t.nimbers.items n 0 in
      record { within = index_begins gs hs i b h.within; is = game_begins gs hs i b h.within ∙ h.is };
}

-- a game more, which is known as this or as nothing
new_known : (gs hs : List Game) (g : Game) (o : Option NumberUpStar) → hs ≡ gs ++ (g ∷ []) → Canonical g
    → IfSome o (λ v. Equal g (game_of v)) → IfSome o (IsKnownAt hs (length gs))
new_known gs hs g None e c k = tt
new_known gs hs g (Some v) e c k =
    let more : length hs ≡ length gs + 1 = ap length e ∙ length_push gs g in
    let is : arena.game_of hs (length gs) ≡ g = ap (λ z. arena.game_of z (length gs)) e ∙ get_or_push gs g (node [] []) (length gs) refl in
    record { within = omega arith; parts = rw is (record { canonical = c; equal = k }) }

pub recognized_more : (gs hs : List Game) (t u : Recognized) (g : Game) (i : ℕ) (o : Option NumberUpStar) → hs ≡ gs ++ (g ∷ [])
    → i ≡ length gs → Canonical g → IfSome o (λ v. Equal g (game_of v))
    → ((fs : List Game) → IfSome o (IsKnownAt fs i) → AreRecognized fs t → AreRecognized fs u) → AreRecognized gs t → AreRecognized hs u
unfolding AreRecognized
recognized_more gs hs t u g i o e at c k f r =
    let all : All Canonical hs = All-same Canonical hs (gs ++ (g ∷ [])) e (All-push Canonical gs g r.canonical c) in
    f hs (rw at (new_known gs hs g o e c k)) (recognized_begins gs hs t (begins_one gs hs g e) all r)
