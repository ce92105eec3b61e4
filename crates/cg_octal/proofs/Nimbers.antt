-- A game whose options equal nimbers equals that of the least number that none of them has.
use Rattle.std.proofs.Common.{◌≡◌, refl, sym, ℕ, inl, inr, List, [], ◌∷◌, Bool, true, false}
use Rattle.cg_form.specs.Game.{Among, Game, lefts, rights}
use Rattle.cg_form.specs.Order.{Equal}
use Rattle.cg_form.specs.Side.{far, near}
use Rattle.cg_form.proofs.Among.{carry}
use Rattle.cg_nimbers.specs.Nimbers.{nimber_form}
use Rattle.cg_nimbers.proofs.LesserNimbers.{Has, mex-equal}
use Rattle.cg_octal.specs.Mex.{AreNimbers, IsLeastMissing, Listed, SameOptions}

-- ---- by the list of the numbers

-- an option has one of the numbers
pub nimber_listed : (gs : List Game) (ks : List ℕ) → AreNimbers gs ks → (a : Game) → Among a gs
    → (i : ℕ) × Listed i ks × Equal a (nimber_form i)
nimber_listed [] [] n a m = absurd m
nimber_listed [] (k ∷ ks) n a m = absurd m
nimber_listed (g ∷ gs) [] n a m = absurd n
nimber_listed (g ∷ gs) (k ∷ ks) n a (inl e) = (k, inl refl, rw e n.0)
nimber_listed (g ∷ gs) (k ∷ ks) n a (inr m) = let (i, l, e) = nimber_listed gs ks n.1 a m in (i, inr l, e)

-- and each of the numbers is that of an option
pub listed_nimber : (gs : List Game) (ks : List ℕ) → AreNimbers gs ks → (i : ℕ) → Listed i ks → Has gs i
listed_nimber [] [] n i l = absurd l
listed_nimber [] (k ∷ ks) n i l = absurd n
listed_nimber (g ∷ gs) [] n i l = absurd l
listed_nimber (g ∷ gs) (k ∷ ks) n i (inl e) = record { game = g; among = inl refl; equal = rw e n.0 }
listed_nimber (g ∷ gs) (k ∷ ks) n i (inr l) =
    let h = listed_nimber gs ks n.1 i l in record { game = h.game; among = inr h.among; equal = h.equal }

-- each side has the options
near_both : (s : Bool) (g : Game) → SameOptions g → (a : Game) → Among a (near s g) → Among a (lefts g)
near_both true g same a m = m
near_both false g same a m = (same a).1 m

both_far : (s : Bool) (g : Game) → SameOptions g → (a : Game) → Among a (lefts g) → Among a (far s g)
both_far true g same a m = (same a).0 m
both_far false g same a m = m

-- lists that are the same have the same games
pub same_lists : (g : Game) (os : List Game) → lefts g ≡ os → rights g ≡ os → SameOptions g
same_lists g os l r a = (
  λ m. carry a os (rights g) (sym r) (carry a (lefts g) os l m),
  λ m. carry a os (lefts g) (sym l) (carry a (rights g) os r m),
)

pub least_missing-equal : (g : Game) (ks : List ℕ) (k : ℕ) → SameOptions g → AreNimbers (lefts g) ks
    → IsLeastMissing ks k → Equal g (nimber_form k)
least_missing-equal g ks k same n least = mex-equal g k (λ s. record {
  others = λ a m.
      let (i, l, e) = nimber_listed (lefts g) ks n a (near_both s g same a m) in
      record { value = i; other = λ z. least.missing (rw z at l); equal = e };
  lesser = λ i w.
      let h = listed_nimber (lefts g) ks n i (least.least i w) in
      record { game = h.game; among = both_far s g same h.game h.among; equal = h.equal };
})
