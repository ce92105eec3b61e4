-- Vertices that edges connect.
use Rattle.std.proofs.Common.{refl, ℕ, ◌&&◌, ◌||◌, Bool, true, false, IsTrue, List, [], ◌∷◌, ◌⊎◌, inl, inr, ◌∙◌, subst}
use Rattle.std.proofs.lemmas.Bool.{eqb-true, eq-eqb}
use Rattle.cg_dyadic.proofs.Truth.{and-both, and-split}
use Rattle.cg_moves.specs.Connected.{Edge, connected}
use Rattle.cg_moves.specs.Rules.{In}

pub or-cases : (a b : Bool) → IsTrue (a || b) → IsTrue a ⊎ IsTrue b
or-cases true b h = inl refl
or-cases false b h = inr h

pub or-first : (a b : Bool) → IsTrue a → IsTrue (a || b)
or-first true b h = refl
or-first false b h = absurd (cc)

pub or-second : (a b : Bool) → IsTrue b → IsTrue (a || b)
or-second true b h = refl
or-second false b h = h

-- ---- connected vertices

-- without the first edge, or over it one way or the other
record Over (e : Edge) (es : List Edge) (u v : ℕ) : Type 0 where
  way : IsTrue (connected es u v) ⊎ ((IsTrue (connected es u e.one) × IsTrue (connected es e.other v))
      ⊎ (IsTrue (connected es u e.other) × IsTrue (connected es e.one v)))

over-cases : (e : Edge) (es : List Edge) (u v : ℕ) → IsTrue (connected (e ∷ es) u v) → Over e es u v
over-cases e es u v h =
    elim (or-cases (connected es u v || (connected es u e.one && connected es e.other v)) (connected es u e.other && connected es e.one v) h) [
      | inr k ↦ record { way = inr (inr (and-split (connected es u e.other) (connected es e.one v) k)) }
      | inl k ↦ elim (or-cases (connected es u v) (connected es u e.one && connected es e.other v) k) [
        | inl l ↦ record { way = inl l }
        | inr l ↦ record { way = inr (inl (and-split (connected es u e.one) (connected es e.other v) l)) }
      ]
    ]

over-none : (e : Edge) (es : List Edge) (u v : ℕ) → IsTrue (connected es u v) → IsTrue (connected (e ∷ es) u v)
over-none e es u v h = or-first _ _ (or-first _ _ h)

over-forth : (e : Edge) (es : List Edge) (u v : ℕ) → IsTrue (connected es u e.one) → IsTrue (connected es e.other v)
    → IsTrue (connected (e ∷ es) u v)
over-forth e es u v h k = or-first _ _ (or-second _ _ (and-both (connected es u e.one) (connected es e.other v) h k))

over-back : (e : Edge) (es : List Edge) (u v : ℕ) → IsTrue (connected es u e.other) → IsTrue (connected es e.one v)
    → IsTrue (connected (e ∷ es) u v)
over-back e es u v h k = or-second _ _ (and-both (connected es u e.other) (connected es e.one v) h k)

pub connected-refl : (es : List Edge) (u : ℕ) → IsTrue (connected es u u)
connected-refl [] u = eq-eqb u u refl
connected-refl (e ∷ es) u = over-none e es u u (connected-refl es u)

pub connected-trans : (es : List Edge) (u v w : ℕ) → IsTrue (connected es u v) → IsTrue (connected es v w) → IsTrue (connected es u w)
connected-trans [] u v w h k = eq-eqb u w (eqb-true u v h ∙ eqb-true v w k)
connected-trans (e ∷ es) u v w h k = elim ((over-cases e es u v h).way) [
  | inl a ↦ elim ((over-cases e es v w k).way) [
    | inl b ↦ over-none e es u w (connected-trans es u v w a b)
    | inr (inl b) ↦ over-forth e es u w (connected-trans es u v e.one a b.0) b.1
    | inr (inr b) ↦ over-back e es u w (connected-trans es u v e.other a b.0) b.1
  ]
  | inr (inl a) ↦ elim ((over-cases e es v w k).way) [
    | inl b ↦ over-forth e es u w a.0 (connected-trans es e.other v w a.1 b)
    | inr (inl b) ↦ over-forth e es u w a.0 b.1
    | inr (inr b) ↦ over-none e es u w (connected-trans es u e.one w a.0 b.1)
  ]
  | inr (inr a) ↦ elim ((over-cases e es v w k).way) [
    | inl b ↦ over-back e es u w a.0 (connected-trans es e.one v w a.1 b)
    | inr (inl b) ↦ over-none e es u w (connected-trans es u e.other w a.0 b.1)
    | inr (inr b) ↦ over-back e es u w a.0 b.1
  ]
]

-- along an edge of the list, both ways
pub connected_along : (e : Edge) (es : List Edge) → In e es → IsTrue (connected es e.one e.other) × IsTrue (connected es e.other e.one)
connected_along e [] m = absurd m
connected_along e (f ∷ es) (inl same) =
    rw (← same) (
      over-forth e es e.one e.other (connected-refl es e.one) (connected-refl es e.other),
      over-back e es e.other e.one (connected-refl es e.other) (connected-refl es e.one),
    )
connected_along e (f ∷ es) (inr m) = let h = connected_along e es m in (
  over-none f es e.one e.other h.0,
  over-none f es e.other e.one h.1,
)

-- what holds at one end of each edge if at the other
pub connected-closed : (R : ℕ → Type 0) (es : List Edge) → ((e : Edge) → In e es → (R e.one → R e.other) × (R e.other → R e.one))
    → (u v : ℕ) → IsTrue (connected es u v) → R u → R v
connected-closed R [] closed u v h r = subst R (eqb-true u v h) r
connected-closed R (e ∷ es) closed u v h r =
    let rest = connected-closed R es (λ f m. closed f (inr m)) in
    elim ((over-cases e es u v h).way) [
      | inl a ↦ rest u v a r
      | inr (inl a) ↦ rest e.other v a.1 ((closed e (inl refl)).0 (rest u e.one a.0 r))
      | inr (inr a) ↦ rest e.one v a.1 ((closed e (inl refl)).1 (rest u e.other a.0 r))
    ]
