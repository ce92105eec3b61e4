-- Boards that are found among those that come after the starts of a walk.
use Rattle.std.proofs.Common.{◌≡◌, refl, ◌⊎◌, ◌≤◌, true, inl, inr, List, [], ◌∷◌, ◌++◌, length, append_assoc, ap, sym, ◌∙◌, arith}
use Rattle.std.specs.List.{flat_map}
use Rattle.std.proofs.lemmas.List.{append-nil}
use Rattle.cg_moves.specs.Found.{SameSymbols}
use Rattle.cg_moves.specs.Grid.{Grid}
use Rattle.cg_moves.specs.Kept.{kept, one_more}
use Rattle.cg_moves.specs.Linked.{IsWider}
use Rattle.cg_moves.specs.Plays.{IsPlay}
use Rattle.cg_moves.specs.Rules.{In}
use Rattle.cg_moves.specs.Walking.{AreFound, Walk, play, reached}
use Rattle.cg_moves.specs.Walks.{AreStarts}
use Rattle.cg_moves.proofs.PlayOrder.{reached-has, reached-symbols}
use Rattle.cg_form.proofs.Firsts.{extended-among, extended-append, in-append, in-append_left, in-append_right}
use Rattle.cg_form.proofs.Firsts.{in_or_not, one_more-new, one_more-there}
use Rattle.cg_moves.proofs.Same.{boards}
use Rattle.cg_moves.proofs.Middles.{kept-fewer_kept}
use Rattle.cg_moves.proofs.Members.{carry, in_equal, in_one}
use Rattle.cg_moves.proofs.PlaceLemmas.{at-append}

-- ---- boards that are put behind others, unless they are there

pub kept-grows : (seen xs : List Grid) → (more : List Grid) × (kept seen xs ≡ seen ++ more)
kept-grows seen [] = ([], sym (append-nil seen))
kept-grows seen (x ∷ xs) =
    let (more, e) = kept-grows (one_more seen x) xs in
    elim (in_or_not boards seen x) [
      | inl there ↦ (more, e ∙ ap (λ z. z ++ more) (one_more-there boards seen x there))
      | inr new ↦ (x ∷ more, e ∙ ap (λ z. z ++ more) (one_more-new boards seen x new) ∙ append_assoc seen (x ∷ []) more)
    ]

pub wider-kept : (seen xs : List Grid) → IsWider seen (kept seen xs)
wider-kept seen xs n p m = let (more, e) = kept-grows seen xs in rw e (at-append seen more n p m)

-- boards that each have the symbols of one of some that all have the same
pub same_symbols-from : (old new : List Grid) → SameSymbols old
    → ((q : Grid) → In q new → (x : Grid) × In x old × (q.symbols ≡ x.symbols)) → SameSymbols new
same_symbols-from old new h from p q m n =
    let (x, i, e) = from p m in
    let (y, j, f) = from q n in e ∙ h x y i j ∙ sym f

-- so for others in the place of a board
pub same_symbols-last : (found : List Grid) (p : Grid) (qs : List Grid) → SameSymbols (found ++ (p ∷ []))
    → ((q : Grid) → In q qs → q.symbols ≡ p.symbols) → SameSymbols (found ++ qs)
same_symbols-last found p qs h like = same_symbols-from (found ++ (p ∷ [])) (found ++ qs) h (λ q m. elim (in-append q found qs m) [
  | inl o ↦ (q, in-append_left q found (p ∷ []) o, refl)
  | inr o ↦ (p, in-append_right p found (p ∷ []) (inl refl), like q o)
])

pub same_symbols-kept : (old xs all : List Grid) (p : Grid) → SameSymbols (old ++ all) → ((q : Grid) → In q xs → In q all) → In p all
    → SameSymbols (kept old xs ++ (p ∷ []))
same_symbols-kept old xs all p h among here =
    same_symbols-from (old ++ all) (kept old xs ++ (p ∷ [])) h (λ q m. (q, place q (in-append q (kept old xs) (p ∷ []) m), refl))
  where
    place : (q : Grid) → In q (kept old xs) ⊎ In q (p ∷ []) → In q (old ++ all)
    place q (inl o) = elim (extended-among boards old xs q o) [
      | inl there ↦ in-append_left q old all there
      | inr one ↦ in-append_right q old all (among q one)
    ]
    place q (inr o) = in-append_right q old all (in_equal q p all (in_one q p o) here)

-- ---- boards that come after the starts

module _ (w : Walk) where
  abbrev pub IsAmong : Grid → Type 0
  IsAmong p = In p (flat_map (play w).all w.starts)

  pub found-none : (found : List Grid) → found ≡ [] → AreFound w found
  found-none found e = record { source = []; is = e; among = λ p m. absurd m }

  module _ (found : List Grid) (x : AreFound w found) where
    pub found-among : (p : Grid) → In p found → IsAmong p
    found-among p m = elim (extended-among boards [] x.source p (carry p found (kept [] x.source) x.is m)) [
      | inl nothing ↦ absurd nothing
      | inr one ↦ x.among p one
    ]

    -- more are found
    pub found-kept : (qs more : List Grid) → more ≡ kept found qs → ((q : Grid) → In q qs → IsAmong q) → AreFound w more
    found-kept qs more e among = record {
      source = x.source ++ qs;
      is = e ∙ ap (λ z. kept z qs) x.is ∙ sym (extended-append boards [] x.source qs);
      among = λ q m. elim (in-append q x.source qs m) [ inl o ↦ x.among q o | inr o ↦ among q o ];
    }

    pub found-fewer : length found ≤ length (reached w)
    found-fewer =
        let few = kept-fewer_kept x.source (flat_map (play w).all w.starts) x.among in
        let e = ap length x.is in
        omega (arith, few, e)

    -- where all boards that come after the starts were found
    pub found-most : ((q : Grid) → IsAmong q → In q found) → length (reached w) ≤ length found
    found-most all =
        let few = kept-fewer_kept (flat_map (play w).all w.starts) x.source (λ q m. elim (extended-among boards [] x.source q
        (carry q found (kept [] x.source) x.is (all q m))) [ inl nothing ↦ absurd nothing | inr one ↦ one ]) in
        let e = ap length x.is in
        omega (arith, few, e)

    module _ (lawful : IsPlay (play w)) (h : AreStarts (play w) w.starts) where
      pub found-has : (p : Grid) → In p found → (play w).has p ≡ true
      found-has p m = reached-has (play w) lawful w.starts h p (found-among p m)

      pub found-symbols : (p : Grid) → In p found → p.symbols ≡ h.symbols
      found-symbols p m = reached-symbols (play w) lawful w.starts h p (found-among p m)

      pub among-same_symbols : (qs : List Grid) → ((q : Grid) → In q qs → IsAmong q) → SameSymbols (found ++ qs)
      among-same_symbols qs k p q m n =
          let go : (y : Grid) → In y (found ++ qs) → y.symbols ≡ h.symbols = λ y j. elim (in-append y found qs j) [
            | inl o ↦ found-symbols y o
            | inr o ↦ reached-symbols (play w) lawful w.starts h y (k y o)
          ] in
          go p m ∙ sym (go q n)
