-- Reversible options may be bypassed, on both sides at once, and number options need not be.
use Rattle.std.proofs.Common.{◌≡◌, refl, ℕ, ◌<◌, arith, zero, suc, inl, inr, List, [], ◌∷◌, ◌++◌, Bool, true, false}
use Rattle.cg_dyadic.specs.Number.{Number}
use Rattle.cg_dyadic.proofs.Truth.{differ}
use Rattle.cg_form.specs.Bypass.{AllCovered, Covered, Fine, Replaces, bypassed, kept, under}
use Rattle.cg_form.specs.Canonical.{Canonical}
use Rattle.cg_form.specs.Game.{Among, Game, lefts, number, rights}
use Rattle.cg_form.specs.Known.{EachCanonical, EachLess}
use Rattle.cg_form.specs.Order.{Equal, Le}
use Rattle.cg_form.specs.Side.{AtMost, at_most, far, near}
use Rattle.cg_form.specs.Simple.{FitsIn, NoNumber}
use Rattle.cg_form.specs.Size.{size}
use Rattle.cg_form.proofs.Among.{among-append, among-append_left, among-append_right}
use Rattle.cg_form.proofs.Best.{best_there}
use Rattle.cg_form.proofs.Order.{all-or-some, le-fold}
use Rattle.cg_form.proofs.Reduced.{canonical-far, canonical-near}
use Rattle.cg_form.proofs.Sides.{far_number, not_far, not_near, side_fits, side_fold, side_refl, side_trans, side_unfold, size-far, size-near}
use Rattle.cg_form.proofs.Simplicity.{none_fits}

-- a game that is covered is no better option of h
pub covered_not : (s : Bool) (g h a : Game) → ((y : Game) → Among y (far s h) → ¬ AtMost s y g)
    → Covered s g (near s h) a → ¬ AtMost s h a
covered_not s g h a f (kept m) k = not_near s h a m k
covered_not s g h a f (under b m l) k = not_near s h b m (side_trans s h a b k l)
covered_not s g h a f (bypassed b m l c) k = (side_unfold s h a k).on_far b m (side_fold s b h (record {
  on_near = λ x w. covered_not s g h x f (c x w);
  on_far = λ y w j. f y w (side_trans s y b g j l);
}))

-- what a list covers, a list covers that has as good games
pub covered_by : (s : Bool) (g : Game) (ls ms : List Game) (a : Game)
    → ((x : Game) → Among x ls → (c : Game) × Among c ms × AtMost s x c) → Covered s g ls a → Covered s g ms a
covered_by s g ls ms a f (kept m) = let (c, i, l) = f a m in under c i l
covered_by s g ls ms a f (under b m l) = let (c, i, k) = f b m in under c i (side_trans s a b c l k)
covered_by s g ls ms a f (bypassed b m l c) = bypassed b m l (λ x w. covered_by s g ls ms x f (c x w))

pub covered_more : (s : Bool) (g : Game) (ls ms : List Game) (a : Game) → ((x : Game) → Among x ls → Among x ms)
    → Covered s g ls a → Covered s g ms a
covered_more s g ls ms a f c = covered_by s g ls ms a (λ x m. (x, f x m, side_refl s x)) c

-- options may be bypassed on both sides at once
pub covered_equal : (g h : Game)
    → ((a : Game) → Among a (lefts g) → Covered true g (lefts h) a) → ((x : Game) → Among x (lefts h) → ¬ Le g x)
    → ((b : Game) → Among b (rights g) → Covered false g (rights h) b) → ((y : Game) → Among y (rights h) → ¬ Le y g)
    → Equal g h
covered_equal g h cl nl cr nr = (
  le-fold g h (record { on_left = λ a m. covered_not true g h a nr (cl a m); on_right = nr }),
  le-fold h g (record { on_left = nl; on_right = λ b m. covered_not false g h b nl (cr b m) }),
)

-- ---- numbers among the options

-- where no number fits g, and an option a is reversible through the number x, another option is as good as x
pub through_number : (s : Bool) (g a : Game) (x : Number) → ¬ FitsIn x g → Among a (near s g)
    → Among (number x) (far s a) → AtMost s (number x) g
    → (c : Game) × Among c (near s g) × AtMost s (number x) c × (a ≡ c → ⊥)
through_number s g a x misses m w l =
    elim (all-or-some (λ c. at_most s (number x) c) (near s g)) [
      | inr (c, k, t) ↦ (
        c,
        k,
        t,
        λ e. not_far s a (number x) w (rw e t),
      )
      | inl never ↦ absurd (misses (side_fits s x g
          (λ c k t. differ (at_most s (number x) c) t (never c k))
          (λ b k t. not_far s g b k (side_trans s b (number x) g t l))))
    ]

-- a number is not reversible in a game that equals no number, among undominated options
pub number_stays : (s : Bool) (k : Game) → NoNumber k
    → ((a b : Game) → Among a (near s k) → Among b (near s k) → AtMost s a b → a ≡ b)
    → (a : Game) (x : Number) → a ≡ number x → Among a (near s k) → (b : Game) → Among b (far s a) → ¬ AtMost s b k
number_stays s k never apart a x e m b w l =
    let (y, f, j) = far_number s x b (rw e at w) in
    let (c, i, u, n) = through_number s k a y (none_fits k never y) m (rw f at w) (rw f at l) in
    n (apart a c m i (side_trans s a (number y) c (rw e j) u))

-- ---- every option has something to stand in its place

pub record InPlace (s : Bool) (g a : Game) : Type 0 where
  pub list : List Game
  pub covers_it : Covered s g list a
  pub fine : (x : Game) → Among x list → Fine s g x

pub record AllInPlace (s : Bool) (g : Game) (gs : List Game) : Type 0 where
  pub list : List Game
  pub covers_them : AllCovered s g list gs
  pub fine : (x : Game) → Among x list → Fine s g x

each_in_place : (s : Bool) (g : Game) (gs : List Game) → ((a : Game) → Among a gs → InPlace s g a) → AllInPlace s g gs
each_in_place s g [] f = record { list = []; covers_them = record { each = λ c m. absurd m }; fine = λ x m. absurd m }
each_in_place s g (a ∷ gs) f =
    let k = f a (inl refl) in
    let r = each_in_place s g gs (λ c m. f c (inr m)) in
    record {
      list = k.list ++ r.list;
      covers_them = record {
        each = λ c m. elim m [
          | inl e ↦ rw e (covered_more s g k.list (k.list ++ r.list) a
              (λ x w. among-append_left x k.list r.list w) k.covers_it)
          | inr w ↦ covered_more s g r.list (k.list ++ r.list) c (λ x v. among-append_right x k.list r.list v)
              (r.covers_them.each c w)
        ];
      };
      fine = λ x m. elim (among-append x k.list r.list m) [ inl w ↦ k.fine x w | inr w ↦ r.fine x w ];
    }

in_place : (n : ℕ) (s : Bool) (g a : Game) → size a < n → Canonical a → ¬ AtMost s g a → InPlace s g a
in_place zero s g a p c l = absurd (omega arith)
in_place (suc n) s g a p c l = elim (all-or-some (λ b. at_most s b g) (far s a)) [
  | inl never ↦ record {
    list = a ∷ [];
    covers_it = kept (inl refl);
    fine = λ x m. elim m [
      | inl e ↦ rw e (record {
        canonical = c;
        less = l;
        way =
            inr (λ b w k. differ (at_most s b g) k (never b w));
      })
      | inr w ↦ absurd w
    ];
  }
  | inr (b, m, t) ↦
      let u = size-far s a b m in
      let r = each_in_place s g (near s b) (λ d w. let v = size-near s b d w in
      in_place n s g d (omega arith) (canonical-near s b d (canonical-far s a b c m) w)
      (λ k. not_near s b d w (side_trans s b g d t k))) in
      record { list = r.list; covers_it = bypassed b m t (r.covers_them.each); fine = r.fine }
]

pub replaced : (s : Bool) (g : Game) (gs : List Game) → EachCanonical gs → EachLess s g gs
    → (l : List Game) × Replaces s g gs l
replaced s g gs c l =
    let r = each_in_place s g gs (λ a m. in_place (suc (size a)) s g a (omega arith) (c.each a m) (l.each a m)) in
    let b = best_there s r.list in
    (b.list, record { candidates = r.list; covered = r.covers_them; fine = r.fine; best = b.is })
