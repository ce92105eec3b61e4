-- Vertices and pairs without a fault are a coloured graph.
use Rattle.std.proofs.Common.{◌≡◌, refl, ℕ, ◌<◌, ◌≤◌, ◌==◌, Bool, true, false, if◌then◌else◌, Option, Some, None, List, length, ap, arith}
use Rattle.std.specs.Prelude.{All, codes, nat_lt, position}
use Rattle.std.proofs.lemmas.Bool.{eq-eqb, lt-ltb}
use Rattle.cg_moves.specs.Texts.{is_foreign}
use Rattle.cg_graph.specs.ColouredGraphs.{IsColouredGraph, pairs_fault, pairs_of, vertices_fault, vertices_refused}
use Rattle.cg_graph.specs.Items.{IsLettered}
use Rattle.cg_graph.specs.declared.edge.Pair.{Pair}
use Rattle.cg_graph.specs.declared.fault.GraphFault.TheVariants as faults
use Rattle.cg_graph.specs.declared.items.PairItem.{PairItem}
use Rattle.cg_graph.proofs.PairFaults.{pairs_sound}
use Rattle.cg_graph.proofs.Symbols.{vertices_cells}

record SoundVertices (first : Option ℕ) (size : ℕ) : Type 0 where
  none : first ≡ None
  some : 1 ≤ size
  few : size ≤ 52

sound_vertices : (first : Option ℕ) (size : ℕ) → vertices_refused first size ≡ None → SoundVertices first size
sound_vertices (Some k) size e = absurd (cc)
sound_vertices None size e = go (size == 0) refl (nat_lt 52 size) refl e
  where
    go : (a : Bool) → (size == 0) ≡ a → (b : Bool) → nat_lt 52 size ≡ b
        → (if a then Some (faults.Empty 1) else (if b then Some (faults.Large 53) else None)) ≡ None → SoundVertices None size
    go true f b g h = absurd (cc)
    go false f true g h = absurd (cc)
    go false f false g h = record {
      none = refl;
      some = let k : (size ≡ 0) → ⊥ = λ z. (let t = eq-eqb size 0 z in cc) in omega (arith, k);
      few = let k : (52 < size) → ⊥ = λ z. (let t = lt-ltb 52 size z in cc) in omega (arith, k);
    }

pub coloured_graph_sound : (snort : Bool) (vertices cells : List ℕ) (items : List PairItem) (edges : List Pair)
    → vertices_fault vertices ≡ None → All IsLettered items → pairs_fault (length vertices) items ≡ None
    → cells ≡ vertices → edges ≡ pairs_of items
    → IsColouredGraph (record { snort = snort; vertices = cells; edges = edges })
coloured_graph_sound snort vertices cells items edges sound letters none same is =
    let s = sound_vertices (position (is_foreign true (codes ".xo")) vertices) (length vertices) sound in
    let size = ap length same in
    let a = s.some in
    let b = s.few in
    record {
      some = omega arith;
      few = omega arith;
      vertices = vertices_cells vertices cells same s.none;
      edges = rw size (rw is (pairs_sound (length vertices) items letters none));
    }
