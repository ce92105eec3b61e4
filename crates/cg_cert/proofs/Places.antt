-- Games in their places, and the first that passes a test.
use Rattle.std.proofs.Common.{◌≡◌, refl, ap, sym, ◌∙◌, ℕ, zero, suc, ◌⊎◌, inl, inr, List, [], ◌∷◌, Bool, false, IsTrue, Some, None, option_map, slice_get}
use Rattle.cg_dyadic.proofs.Truth.{true_or_false}
use Rattle.cg_form.specs.Game.{Among, Game}
use Rattle.cg_cert.specs.First.{first_place}

pub place_among : (gs : List Game) (i : ℕ) (a : Game) → slice_get gs i ≡ Some a → Among a gs
place_among [] i a e = absurd (cc)
place_among (g ∷ gs) zero a e = let f : g ≡ a = cc in inl (sym f)
place_among (g ∷ gs) (suc i) a e = inr (place_among gs i a e)

-- the first place whose game passes the test
pub record Found (test : Game → Bool) (gs : List Game) : Type 0 where
  pub place : ℕ
  pub is_first : first_place test gs ≡ Some place
  pub game : Game
  pub stands : slice_get gs place ≡ Some game
  pub passes : IsTrue (test game)

-- no game passes the test
pub record Missed (test : Game → Bool) (gs : List Game) : Type 0 where
  pub no_place : first_place test gs ≡ None
  pub fails : (a : Game) → Among a gs → test a ≡ false

pub first_place-cases : (test : Game → Bool) (gs : List Game) → Found test gs ⊎ Missed test gs
first_place-cases test [] = inr (record { no_place = refl; fails = λ a m. absurd m })
first_place-cases test (g ∷ gs) = elim (true_or_false (test g)) [
  | inl t ↦ inl (record { place = 0; is_first = rw t refl; game = g; stands = refl; passes = t })
  | inr f ↦ elim (first_place-cases test gs) [
    | inl found ↦ inl (record {
      place = suc found.place;
      is_first = rw f (ap (option_map suc) found.is_first);
      game = found.game;
      stands = found.stands;
      passes = found.passes;
    })
    | inr missed ↦ inr (record {
      no_place = rw f (ap (option_map suc) missed.no_place);
      fails = λ a m. elim m [ inl e ↦ ap test e ∙ f | inr n ↦ missed.fails a n ];
    })
  ]
]
