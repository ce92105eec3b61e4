-- Paths from the ground: what is computed is what is so, and with more edges more is reached.
use Rattle.std.proofs.Common.{◌≡◌, refl, ℕ, zero, suc, ◌==◌, Bool, true, IsTrue, Option, Some, None, List, [], ◌∷◌, ◌⊎◌, inl, inr, ap, sym}
use Rattle.std.specs.Prelude.{slice_get}
use Rattle.std.proofs.lemmas.Bool.{eqb-true, eq-eqb}
use Rattle.cg_dyadic.proofs.Truth.{false-from, true-or-not}
use Rattle.std.proofs.lemmas.Option.{none-some}
use Rattle.cg_moves.specs.Rules.{In}
use Rattle.cg_moves.proofs.ConnectedLemmas.{connected-closed, connected-refl, connected-trans, connected_along, or-cases, or-first, or-second}
use Rattle.cg_graph.specs.Paths.Reached.{along, empty}
use Rattle.cg_graph.specs.Paths.{Edge, IsJoined, IsThere, Joins, Reached, connected, gone, ground, has_end, is_joined, present}

-- ---- edges that are there

in_present : (edges : List Edge) (cells : List ℕ) (e : Edge) → In e (present edges cells)
    → (k : ℕ) × (slice_get edges k ≡ Some e) × IsThere cells k
in_present [] cells e m = absurd m
in_present (f ∷ es) [] e m = absurd m
in_present (f ∷ es) (c ∷ cs) e m = elim (true-or-not (c == gone)) [
  | inl t ↦
      let (k, g, there) = in_present es cs e (rw t at m) in
      (suc k, g, there)
  | inr n ↦
      elim (rw (false-from (c == gone) n) at m) [
        | inl same ↦ (zero, ap Some (sym same), λ e. n (eq-eqb c gone e))
        | inr l ↦ (let (k, g, there) = in_present es cs e l in (suc k, g, there))
      ]
]

some-same : (e f : Edge) → Some e ≡ Some f → e ≡ f
some-same e f h = let get : Option Edge → Edge = λ o. elim o [ None ↦ e | Some z ↦ z ] in ap get h

present_in : (edges : List Edge) (cells : List ℕ) (k : ℕ) (e : Edge) → slice_get edges k ≡ Some e → IsThere cells k
    → In e (present edges cells)
present_in [] cells k e g there = absurd (none-some e g)
present_in (f ∷ es) [] k e g there = absurd (there refl)
present_in (f ∷ es) (c ∷ cs) zero e g there =
    rw (false-from (c == gone) (λ t. there (eqb-true c gone t))) (inl (sym (some-same f e g)))
present_in (f ∷ es) (c ∷ cs) (suc k) e g there =
    let m : In e (present es cs) = present_in es cs k e g there in
    elim (true-or-not (c == gone)) [
      | inl t ↦ rw t m
      | inr n ↦ rw (false-from (c == gone) n) (inr m)
    ]

-- ---- what is computed is what is so

joins-connected : (edges : List Edge) (cells : List ℕ) (k u v : ℕ) → Joins edges k u v → IsThere cells k
    → IsTrue (connected (present edges cells) u v)
joins-connected edges cells k u v (inl g) there =
    (connected_along _ (present edges cells) (present_in edges cells k (record { one = u; other = v }) g there)).0
joins-connected edges cells k u v (inr g) there =
    (connected_along _ (present edges cells) (present_in edges cells k (record { one = v; other = u }) g there)).1

reached-connected : (edges : List Edge) (cells : List ℕ) (v : ℕ) → Reached edges cells v
    → IsTrue (connected (present edges cells) ground v)
reached-connected edges cells v (empty w e) =
    rw e (connected-refl (present edges cells) ground)
reached-connected edges cells v (along k u w r there joins) =
    connected-trans (present edges cells) ground u w (reached-connected edges cells u r)
    (joins-connected edges cells k u w joins there)

connected-reached : (edges : List Edge) (cells : List ℕ) (v : ℕ) → IsTrue (connected (present edges cells) ground v)
    → Reached edges cells v
connected-reached edges cells v h =
    connected-closed (Reached edges cells) (present edges cells)
    (λ e m. let (k, g, there) = in_present edges cells e m in (
      λ r. along k e.one e.other r there (inl g),
      λ r. along k e.other e.one r there (inr g),
    ))
    ground v h (empty ground refl)

has_end-cases : (test : ℕ → Bool) (o : Option Edge) → IsTrue (has_end test o)
    → (e : Edge) × (o ≡ Some e) × (IsTrue (test e.one) ⊎ IsTrue (test e.other))
has_end-cases test None h = absurd (cc)
has_end-cases test (Some e) h = (e, refl, or-cases (test e.one) (test e.other) h)

end-has : (test : ℕ → Bool) (o : Option Edge) (e : Edge) → o ≡ Some e → IsTrue (test e.one) ⊎ IsTrue (test e.other)
    → IsTrue (has_end test o)
end-has test o e f (inl t) =
    rw f (or-first (test e.one) (test e.other) t)
end-has test o e f (inr t) =
    rw f (or-second (test e.one) (test e.other) t)

pub joined-so : (edges : List Edge) (cells : List ℕ) (k : ℕ) → is_joined edges cells k ≡ true → IsJoined edges cells k
unfolding is_joined
joined-so edges cells k h =
    let (e, g, w) = has_end-cases (connected (present edges cells) ground) (slice_get edges k) h in
    elim w [
      | inl t ↦ record {
        end = e.one;
        away = e.other;
        joins = inl g;
        path = connected-reached edges cells e.one t;
      }
      | inr t ↦ record {
        end = e.other;
        away = e.one;
        joins = inr g;
        path = connected-reached edges cells e.other t;
      }
    ]

pub so-joined : (edges : List Edge) (cells : List ℕ) (k : ℕ) → IsJoined edges cells k → is_joined edges cells k ≡ true
unfolding is_joined
so-joined edges cells k j = go j.joins
  where
    go : Joins edges k j.end j.away → IsTrue (has_end (connected (present edges cells) ground) (slice_get edges k))
    go (inl g) = end-has (connected (present edges cells) ground) (slice_get edges k) (record { one = j.end; other = j.away })
        g (inl (reached-connected edges cells j.end j.path))
    go (inr g) = end-has (connected (present edges cells) ground) (slice_get edges k) (record { one = j.away; other = j.end })
        g (inr (reached-connected edges cells j.end j.path))

-- ---- with more edges

-- what is reached by edges all of which are there in the other row, if they are joined, is reached there
pub reached-within : (edges : List Edge) (xs ys : List ℕ)
    → ((k : ℕ) → IsThere xs k → IsJoined edges xs k → IsThere ys k) → (v : ℕ) → Reached edges xs v → Reached edges ys v
reached-within edges xs ys h v (empty w e) = empty w e
reached-within edges xs ys h v (along k u w r there joins) =
    along k u w (reached-within edges xs ys h u r)
    (h k there (record { end = u; away = w; joins = joins; path = r })) joins

pub joined-within : (edges : List Edge) (xs ys : List ℕ)
    → ((k : ℕ) → IsThere xs k → IsJoined edges xs k → IsThere ys k) → (k : ℕ) → IsJoined edges xs k → IsJoined edges ys k
joined-within edges xs ys h k j = record {
  end = j.end;
  away = j.away;
  joins = j.joins;
  path = reached-within edges xs ys h j.end j.path;
}

pub joined-more : (edges : List Edge) (xs ys : List ℕ) → ((k : ℕ) → IsThere xs k → IsThere ys k)
    → (k : ℕ) → IsJoined edges xs k → IsJoined edges ys k
joined-more edges xs ys h k j = joined-within edges xs ys (λ k there i. h k there) k j
