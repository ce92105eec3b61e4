-- What holds of all boards that come after others.
use Rattle.std.proofs.Common.{◌≡◌, ℕ, zero, suc, ◌<◌, true, inl, inr, List, [], ◌∷◌, ◌++◌, sym, ◌∙◌, subst, arith, refl}
use Rattle.std.specs.List.{flat_map}
use Rattle.cg_moves.specs.Grid.{Grid}
use Rattle.cg_moves.specs.Kept.{kept}
use Rattle.cg_moves.specs.Plays.{IsPlay, Play}
use Rattle.cg_moves.specs.Rules.{In}
use Rattle.cg_moves.specs.Walks.{AreStarts}
use Rattle.cg_form.proofs.Firsts.{extended-among, in-append, in-append_left, in-append_right}
use Rattle.cg_moves.proofs.Same.{boards}
use Rattle.cg_moves.proofs.Members.{carry, in-flat_map, in_one, in_flat_mapped}

module _ (w : Play) (lawful : IsPlay w) where
  -- what holds of a board, and with each board of those that its moves lead to, holds of all that play can come to
  pub all-each : (P : Grid → Type 0) → ((q s : Grid) → w.has q ≡ true → P q → In s (w.next q) → P s) → (n : ℕ)
      (p : Grid) → w.measure p < n → w.has p ≡ true → P p → (q : Grid) → In q (w.all p) → P q
  all-each P step zero p below has base q m = absurd (omega arith)
  all-each P step (suc n) p below has base q m = elim (in-append q (flat_map w.all (w.next p)) (p ∷ [])
      (carry q (w.all p) (flat_map w.all (w.next p) ++ (p ∷ [])) (lawful.all p has)
      m)) [
        | inl k ↦ (let (s, l, o) = in-flat_map w.all q (w.next p) k in
            let low = lawful.lowers p s has l in
            all-each P step n s (omega arith) (lawful.has p s has l) (step p s has base l) q o)
        | inr k ↦ subst P (sym (in_one q p k)) base
      ]

  -- ---- all that come after some boards, each once

  abbrev visited_all : List Grid → List Grid
  visited_all starts = kept [] (flat_map w.all starts)

  visited-from : (starts : List Grid) (q : Grid) → In q (visited_all starts) → (p : Grid) × In p starts × In q (w.all p)
  visited-from starts q m = elim (extended-among boards [] (flat_map w.all starts) q m) [
    | inl nothing ↦ absurd nothing
    | inr n ↦ in-flat_map w.all q starts n
  ]

  pub visited-known : (starts : List Grid) (h : AreStarts w starts) (q : Grid) → In q (visited_all starts)
      → (q.symbols ≡ h.symbols) × (w.has q ≡ true)
  visited-known starts h q m =
      let (p, i, n) = visited-from starts q m in
      all-each (λ z. (z.symbols ≡ h.symbols) × (w.has z ≡ true))
      (λ s t has k l. (lawful.symbols s t has l ∙ k.0, lawful.has s t has l)) (suc (w.measure p)) p (omega arith)
      (h.known p i).1 (h.known p i) q n

module _ (r : Play) (lawful : IsPlay r) where
  pub own-all : (p : Grid) → r.has p ≡ true → In p (r.all p)
  own-all p has = carry p (flat_map r.all (r.next p) ++ (p ∷ [])) (r.all p) (sym (lawful.all p has))
      (in-append_right p (flat_map r.all (r.next p)) (p ∷ []) (inl refl))

  pub later-all : (p s q : Grid) → r.has p ≡ true → In s (r.next p) → In q (r.all s) → In q (r.all p)
  later-all p s q has m k = carry q (flat_map r.all (r.next p) ++ (p ∷ [])) (r.all p) (sym (lawful.all p has))
      (in-append_left q (flat_map r.all (r.next p)) (p ∷ []) (in_flat_mapped r.all q s (r.next p) m k))

  -- what comes next after a board comes after it
  pub next-all : (p q : Grid) → r.has p ≡ true → In q (r.next p) → In q (r.all p)
  next-all p q has m = later-all p q q has m (own-all q (lawful.has p q has m))

  -- a board that comes after another is such a board with the same symbols, and what comes next after it comes after the other,
  -- too
  abbrev Inside : Grid → Grid → Type 0
  Inside p q = (r.has q ≡ true) × (q.symbols ≡ p.symbols) × ((x : Grid) → In x (r.all q) → In x (r.all p))

  inside : (p q : Grid) → r.has p ≡ true → In q (r.all p) → Inside p q
  inside p q has m = all-each r lawful (Inside p)
      (λ s t has_s i k. (lawful.has s t has_s k, lawful.symbols s t has_s k ∙ i.1, (λ x n. i.2 x (later-all s t x has_s k n))))
      (suc (r.measure p)) p (omega arith) has (has, refl, (λ x n. n)) q m

  module _ (starts : List Grid) (h : AreStarts r starts) where
    pub reached-has : (q : Grid) → In q (flat_map r.all starts) → r.has q ≡ true
    reached-has q m = let (s, k, l) = in-flat_map r.all q starts m in
        (inside s q (h.known s k).1 l).0

    pub reached-symbols : (q : Grid) → In q (flat_map r.all starts) → q.symbols ≡ h.symbols
    reached-symbols q m = let (s, k, l) = in-flat_map r.all q starts m in
        (inside s q (h.known s k).1 l).1 ∙ (h.known s k).0

    pub reached-next : (q x : Grid) → In q (flat_map r.all starts) → In x (r.next q) → In x (flat_map r.all starts)
    reached-next q x m j = let (s, k, l) = in-flat_map r.all q starts m in
        let i = inside s q (h.known s k).1 l in in_flat_mapped r.all x s starts k (i.2 x (next-all q x i.0 j))

    pub start-reached : (p : Grid) → In p starts → In p (flat_map r.all starts)
    start-reached p m = in_flat_mapped r.all p p starts m (own-all p (h.known p m).1)
