-- The laws of the readers of the grammar.
use Rattle.std.proofs.Common.{refl, ℕ, true, false, [], ◌∷◌, ◌++◌}
use Rattle.cg_reading.specs.Pieces.{One, Then}
use Rattle.cg_reading.proofs.Laws.{Lawful, Some_text}
use Rattle.cg_reading.proofs.ByteRuns.{one_lawful, one_text}
use Rattle.cg_reading.proofs.Rules.{made_ok, made_text, many_ok, or_ok, placed_ok, then_ok, then_text}
use Rattle.cg_reading.proofs.Steps.{nothing_lawful}
use Rattle.cg_reading.proofs.TokenLaws.{byte_ok}
use Rattle.cg_graph.specs.Grammar as s
use Rattle.cg_graph.specs.Reading as r

-- ---- edges

end_text : (j : ℕ) → Some_text (Then (One s.colour) (One s.vertex)) j
end_text j = then_text {S = One s.vertex} j (one_text s.colour 98 refl j) (one_text s.vertex 48 refl)

pub edge_ok : Lawful s.edge r.edge_at s.vertex false []
unfolding r.edge_at r.vertex_at r.colour_at
edge_ok = made_ok s.edge_item (then_ok (placed_ok (one_lawful s.vertex 48 refl))
    (then_ok (one_lawful s.colour 98 refl) (one_lawful s.vertex 48 refl) (one_text s.vertex 48 refl) refl) end_text refl)

edge_text : (j : ℕ) → Some_text s.edge j
edge_text j =
    let t = one_text s.vertex 48 refl j in
    made_text s.edge_item j (then_text {S = Then (One s.colour) (One s.vertex)} j
    (record { value = (j, t.value); text = t.text; is = (refl, t.is) }) end_text)

pub next_edge_ok : Lawful (s.behind_comma s.edge) r.next_edge_at s.comma false []
unfolding r.next_edge_at
next_edge_ok = made_ok (λ v. v.1) (then_ok (byte_ok 44 refl) edge_ok edge_text refl)

pub edges_ok : Lawful s.edges r.edges_at s.vertex false s.comma
unfolding r.edges_at
edges_ok = made_ok (λ v. v.0 ∷ v.1) (then_ok edge_ok (many_ok next_edge_ok refl)
    (λ j. record { value = []; text = []; is = refl }) refl)

-- ---- pairs

pub pair_ok : Lawful s.pair r.pair_at s.letter false []
unfolding r.pair_at r.letter_at
pair_ok = made_ok s.pair_item (then_ok (placed_ok (one_lawful s.letter 65 refl)) (one_lawful s.letter 65 refl)
    (one_text s.letter 65 refl) refl)

pair_text : (j : ℕ) → Some_text s.pair j
pair_text j =
    let t = one_text s.letter 65 refl j in
    made_text s.pair_item j (then_text {S = One s.letter} j
    (record { value = (j, t.value); text = t.text; is = (refl, t.is) }) (one_text s.letter 65 refl))

pub next_pair_ok : Lawful (s.behind_comma s.pair) r.next_pair_at s.comma false []
unfolding r.next_pair_at
next_pair_ok = made_ok (λ v. v.1) (then_ok (byte_ok 44 refl) pair_ok pair_text refl)

some_pairs_ok : Lawful (s.listed s.pair) r.some_pairs_at s.letter false s.comma
unfolding r.some_pairs_at
some_pairs_ok = made_ok (λ v. v.0 ∷ v.1) (then_ok pair_ok (many_ok next_pair_ok refl)
    (λ j. record { value = []; text = []; is = refl }) refl)

pub pairs_ok : Lawful s.pairs r.pairs_at (s.letter ++ []) true (s.letter ++ (s.comma ++ []))
unfolding r.pairs_at
pairs_ok = or_ok some_pairs_ok (nothing_lawful []) refl
