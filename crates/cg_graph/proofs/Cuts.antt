-- Cuts of edges in Hackenbush: what is left, that the order of two cuts doesn't matter, and that of two cuts one doesn't take
-- the other's edge away.
use Rattle.std.proofs.Common.{◌≡◌, ◌≢◌, refl, ℕ, List, ◌⊎◌, inl, inr, sym, ◌∙◌, subst}
use Rattle.std.specs.Prelude.{slice_set}
use Rattle.cg_dyadic.proofs.Truth.{false-from, true-or-not}
use Rattle.cg_moves.proofs.Counted.{same-or-not}
use Rattle.cg_graph.specs.Paths.{Edge, IsJoined, IsSettled, IsThere, Reached, colour, gone, is_joined, settled}
use Rattle.cg_graph.specs.Paths.Reached.{along, empty}
use Rattle.cg_graph.specs.Hackenbush.{cut}
use Rattle.cg_graph.proofs.Colours.{IsPart, kept-false, kept-part, kept-true, part-there, part-trans, same-parts, set-not, set-part, set-there, there-set}
use Rattle.cg_graph.proofs.PathLemmas.{joined-more, joined-so, joined-within, so-joined}

-- the cells without the edge at the place
abbrev less : List ℕ → ℕ → List ℕ
less cells k = slice_set cells k gone

module _ (edges : List Edge) where
  -- ---- one cut

  pub cut-part : (cells : List ℕ) (k : ℕ) → IsPart (cut edges cells k) cells
  unfolding cut
  cut-part cells k =
      part-trans (settled edges (less cells k)) (less cells k) cells (kept-part (is_joined edges (less cells k)) (less cells k))
      (set-part cells k)

  -- what is there after those that aren't joined are gone
  settled-there : (cells : List ℕ) (l : ℕ) → IsThere (settled edges cells) l → IsJoined edges cells l
  settled-there cells l there = elim (true-or-not (is_joined edges cells l)) [
    | inl t ↦ joined-so edges cells l t
    | inr f ↦ absurd (there (kept-false (is_joined edges cells) cells l (false-from (is_joined edges cells l) f)))
  ]

  there-settled : (cells : List ℕ) (l : ℕ) → IsThere cells l → IsJoined edges cells l → IsThere (settled edges cells) l
  there-settled cells l there j e =
      there (sym (kept-true (is_joined edges cells) cells l (so-joined edges cells l j)) ∙ e)

  pub settled-settled : (cells : List ℕ) → IsSettled edges (settled edges cells)
  settled-settled cells l there =
      joined-within edges cells (settled edges cells) (there-settled cells) l (settled-there cells l there)

  pub there-less : (cells : List ℕ) (k l : ℕ) → IsThere (cut edges cells k) l → IsThere (less cells k) l
  unfolding cut
  there-less cells k l there =
      part-there (settled edges (less cells k)) (less cells k) l (kept-part (is_joined edges (less cells k)) (less cells k)) there

  pub there-joined : (cells : List ℕ) (k l : ℕ) → IsThere (cut edges cells k) l → IsJoined edges (less cells k) l
  unfolding cut
  there-joined cells k l there = settled-there (less cells k) l there

  pub joined-there : (cells : List ℕ) (k l : ℕ) → IsThere (less cells k) l → IsJoined edges (less cells k) l
      → IsThere (cut edges cells k) l
  unfolding cut
  joined-there cells k l there j = there-settled (less cells k) l there j

  pub settled-cut : (cells : List ℕ) (k : ℕ) → IsSettled edges (cut edges cells k)
  unfolding cut
  settled-cut cells k = settled-settled (less cells k)

  -- an edge that is gone is cut in vain
  pub cut-gone : (cells : List ℕ) (k : ℕ) → IsSettled edges cells → colour cells k ≡ gone → cut edges cells k ≡ cells
  cut-gone cells k settled none =
      same-parts (cut edges cells k) cells cells (cut-part cells k) (record { long = refl; same = λ l there. refl })
      (λ l there. part-there (cut edges cells k) cells l (cut-part cells k) there)
      (λ l there. joined-there cells k l (still l there) (joined-more edges cells (less cells k) still l (settled l there)))
    where
      still : (l : ℕ) → IsThere cells l → IsThere (less cells k) l
      still l there = there-set cells k l there (λ e. there (rw e none))

  -- ---- two cuts

  -- what is there after both is there before, and isn't one of the two
  both-less : (cells : List ℕ) (k l m : ℕ) → IsThere (less (cut edges cells k) l) m → IsThere (less cells l) m
  both-less cells k l m there =
      there-set cells l m
      (part-there (cut edges cells k) cells m (cut-part cells k) (set-there (cut edges cells k) l m there))
      (set-not (cut edges cells k) l m there)

  -- what is there and joined after both cuts is so after them in the other order
  other-order : (cells : List ℕ) (k l m : ℕ) → IsThere (less (cut edges cells k) l) m
      → IsJoined edges (less (cut edges cells k) l) m → IsThere (less (cut edges cells l) k) m
  other-order cells k l m there j =
      there-set (cut edges cells l) k m
      (joined-there cells l m (both-less cells k l m there)
      (joined-more edges (less (cut edges cells k) l) (less cells l) (both-less cells k l) m j))
      (set-not cells k m (there-less cells k m (set-there (cut edges cells k) l m there)))

  swap-there : (cells : List ℕ) (k l m : ℕ) → IsThere (cut edges (cut edges cells k) l) m
      → IsThere (cut edges (cut edges cells l) k) m
  swap-there cells k l m there =
      let after = there-less (cut edges cells k) l m there in
      let j = there-joined (cut edges cells k) l m there in
      joined-there (cut edges cells l) k m (other-order cells k l m after j)
      (joined-within edges (less (cut edges cells k) l) (less (cut edges cells l) k) (other-order cells k l) m j)

  pub cut-swap : (cells : List ℕ) (k l : ℕ) → cut edges (cut edges cells k) l ≡ cut edges (cut edges cells l) k
  cut-swap cells k l = same-parts (cut edges (cut edges cells k) l) (cut edges (cut edges cells l) k) cells
      (part-trans (cut edges (cut edges cells k) l) (cut edges cells k) cells (cut-part (cut edges cells k) l)
      (cut-part cells k))
      (part-trans (cut edges (cut edges cells l) k) (cut edges cells l) cells (cut-part (cut edges cells l) k)
      (cut-part cells l))
      (swap-there cells k l) (swap-there cells l k)

  -- a path to a vertex stays without both edges, or an end of one of them is reached without both
  pub reached-less : (cells : List ℕ) (k l v : ℕ) → Reached edges cells v
      → Reached edges (less (less cells k) l) v
      ⊎ (IsJoined edges (less (less cells k) l) k ⊎ IsJoined edges (less (less cells k) l) l)
  reached-less cells k l v (empty w e) = inl (empty w e)
  reached-less cells k l v (along m u w r there joins) = elim (reached-less cells k l u r) [
    | inr j ↦ inr j
    | inl path ↦
        let j : IsJoined edges (less (less cells k) l) m = record {
          end = u;
          away = w;
          joins = joins;
          path = path;
        } in
        elim (same-or-not m k) [
          | inl e ↦ inr (inl (subst (IsJoined edges (less (less cells k) l)) e j))
          | inr n ↦ elim (same-or-not m l) [
            | inl e ↦ inr (inr (subst (IsJoined edges (less (less cells k) l)) e j))
            | inr o ↦ inl (along m u w path (there-set (less cells k) l m (there-set cells k m there n) o) joins)
          ]
        ]
  ]

  -- of two edges one is there still after the other is cut
  pub one-stays : (cells : List ℕ) (k l : ℕ) → IsSettled edges cells → IsThere cells k → IsThere cells l → k ≢ l
      → IsThere (cut edges cells l) k ⊎ IsThere (cut edges cells k) l
  one-stays cells k l settled there_k there_l apart =
      let j = settled k there_k in
      let first : IsJoined edges (less (less cells k) l) k → IsThere (cut edges cells l) k = λ i.
      joined-there cells l k (there-set cells l k there_k apart)
      (joined-more edges (less (less cells k) l) (less cells l) without_k k i) in
      elim (reached-less cells k l j.end j.path) [
        | inl path ↦ inl (first (record {
          end = j.end;
          away = j.away;
          joins = j.joins;
          path = path;
        }))
        | inr (inl i) ↦ inl (first i)
        | inr (inr i) ↦ inr (joined-there cells k l (there-set cells k l there_l (λ e. apart (sym e)))
            (joined-more edges (less (less cells k) l) (less cells k) (set-there (less cells k) l) l i))
      ]
    where
      without_k : (m : ℕ) → IsThere (less (less cells k) l) m → IsThere (less cells l) m
      without_k m there =
          there-set cells l m (set-there cells k m (set-there (less cells k) l m there)) (set-not (less cells k) l m there)
