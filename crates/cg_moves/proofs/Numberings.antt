-- The numbers of boards, and of the pieces of boards.
use Rattle.std.proofs.Common.{◌≡◌, refl, ℕ, ◌+◌, ◌<◌, ◌⊎◌, true, inl, inr, List, [], ◌∷◌, ◌++◌}
use Rattle.std.proofs.Common.{length, get_or, take, drop, append_assoc, ap, sym, ◌∙◌}
use Rattle.std.specs.List.{flat_map}
use Rattle.std.proofs.lemmas.Grind.{flat_map-append}
use Rattle.std.proofs.lemmas.List.{append-nil, take-append-drop}
use Rattle.cg_moves.specs.Found.{SameSymbols}
use Rattle.cg_moves.specs.Grid.{Grid}
use Rattle.cg_moves.specs.Graph.{IsAt}
use Rattle.cg_moves.specs.Kept.{kept, one_more}
use Rattle.cg_moves.specs.Lawful.{ArePieces}
use Rattle.cg_moves.specs.Linked.{AreUncut, IsWider, NumberedAs}
use Rattle.cg_moves.specs.Rules.{GameRules, In, pieces}
use Rattle.cg_moves.proofs.Broad.{same_symbols-from, wider-kept}
use Rattle.cg_moves.proofs.Members.{carry, in-flat_map, in_one}
use Rattle.cg_form.proofs.Firsts.{extended-among, extended-append, in-append, in-append_left, in-append_right, one_more-there}
use Rattle.cg_moves.proofs.PlaceLemmas.{at-in, stand-append, stand-wider}
use Rattle.cg_moves.proofs.Places.{take_next}
use Rattle.cg_moves.proofs.Same.{boards}

pub numbered-more : (found wider : List Grid) (before mid after : List ℕ) (ps qs : List Grid) → IsWider found wider
    → NumberedAs found before mid ps → NumberedAs wider mid after qs → NumberedAs wider before after (ps ++ qs)
numbered-more found wider before mid after ps qs w (some, e, a) (others, f, b) = (
  some ++ others,
  f ∙ ap (λ z. z ++ others) e ∙ append_assoc before some others,
  stand-append wider some ps others qs (stand-wider found wider w some ps a) b,
)

pub taken-in : (xs : List Grid) (i : ℕ) (q : Grid) → In q (take i xs) → In q xs
taken-in xs i q m = carry q (take i xs ++ drop i xs) xs (take-append-drop i xs) (in-append_left q (take i xs) (drop i xs) m)

module _ (start found new : List Grid) (before now after : List ℕ) (xs : List Grid) (i : ℕ) (p : Grid) (n : ℕ) (low : i < length xs)
    (is : p ≡ get_or xs i p) (all : found ≡ kept start (take i xs)) (are : NumberedAs found before now (take i xs))
    (e : new ≡ one_more found p) (at : IsAt new n p) (put : after ≡ now ++ (n ∷ [])) where
  pub found-next : new ≡ kept start (take (i + 1) xs)
  found-next = e ∙ ap (λ z. one_more z p) all ∙ sym (extended-append boards start (take i xs) (p ∷ []))
      ∙ ap (kept start) (sym (take_next xs i p low is))

  pub numbered-next : NumberedAs new before after (take (i + 1) xs)
  numbered-next = rw (take_next xs i p low is) (numbered-more found new before now after (take i xs) (p ∷ [])
      (λ m q k. rw e (wider-kept found (p ∷ []) m q k)) are (n ∷ [], put, (at, tt)))

module _ (cut : Grid → List Grid) (start found new : List Grid) (before now after : List ℕ) (xs : List Grid) (i : ℕ) (p : Grid)
    (low : i < length xs) (is : p ≡ get_or xs i p) (all : found ≡ kept start (flat_map cut (take i xs)))
    (are : NumberedAs found before now (flat_map cut (take i xs))) (own : List Grid) (cuts : own ≡ cut p)
    (e : new ≡ kept found own) (put : NumberedAs new now after own) where
  parts-one : flat_map cut (take (i + 1) xs) ≡ flat_map cut (take i xs) ++ own
  parts-one = ap (flat_map cut) (take_next xs i p low is) ∙ flat_map-append cut (take i xs) (p ∷ [])
      ∙ ap (λ z. flat_map cut (take i xs) ++ z) (append-nil (cut p) ∙ sym cuts)

  pub parts-found : new ≡ kept start (flat_map cut (take (i + 1) xs))
  parts-found = e ∙ ap (λ z. kept z own) all ∙ sym (extended-append boards start (flat_map cut (take i xs)) own)
      ∙ ap (kept start) (sym parts-one)

  pub parts-numbered : NumberedAs new before after (flat_map cut (take (i + 1) xs))
  parts-numbered = rw parts-one (numbered-more found new before now after (flat_map cut (take i xs)) own
      (λ m q k. rw e (wider-kept found own m q k)) are put)

-- the pieces of boards with the symbols of those that were found
pub all_pieces-same : (r : GameRules) → ArePieces r → (found xs : List Grid) → ((q : Grid) → In q xs → r.has q ≡ true)
    → SameSymbols (found ++ xs) → SameSymbols (found ++ flat_map (pieces r) xs)
all_pieces-same r each found xs has h = same_symbols-from (found ++ xs) (found ++ flat_map (pieces r) xs) h
    (λ q m. elim (in-append q found (flat_map (pieces r) xs) m) [
      | inl o ↦ (q, in-append_left q found xs o, refl)
      | inr o ↦ (let (x, k, n) = in-flat_map (pieces r) q xs o in (x, in-append_right x found xs k, each.symbols x q (has x k) n))
    ])

-- before the next of the boards is cut: what was found is the old boards and pieces of those before
module _ (r : GameRules) (each : ArePieces r) (old xs : List Grid) (has : (q : Grid) → In q xs → r.has q ≡ true) (found : List Grid)
    (i : ℕ) (all : found ≡ kept old (flat_map (pieces r) (take i xs))) where
  record FoundPiece (q : Grid) : Type 0 where
    board : Grid
    among : In board xs
    piece : In q (pieces r board)

  old_or_piece : (q : Grid) → In q found → In q old ⊎ FoundPiece q
  old_or_piece q m = elim (extended-among boards old (flat_map (pieces r) (take i xs)) q (carry q found _ all m)) [
    | inl there ↦ inl there
    | inr one ↦ (let (x, k, o) = in-flat_map (pieces r) q (take i xs) one in inr (record {
      board = x;
      among = taken-in xs i x k;
      piece = o;
    }))
  ]

  pub pieces-uncut : AreUncut (pieces r) old → AreUncut (pieces r) found
  pieces-uncut h q m = elim (old_or_piece q m) [
    | inl there ↦ h q there
    | inr one ↦ each.uncut one.board q (has one.board one.among) one.piece
  ]

  pub pieces-same : (p : Grid) → In p xs → SameSymbols (old ++ xs) → SameSymbols (found ++ (p ∷ []))
  pieces-same p here h = same_symbols-from (old ++ xs) (found ++ (p ∷ [])) h (λ q m. elim (in-append q found (p ∷ []) m) [
    | inl o ↦ elim (old_or_piece q o) [
      | inl there ↦ (q, in-append_left q old xs there, refl)
      | inr one ↦ (
        one.board,
        in-append_right one.board old xs one.among,
        each.symbols one.board q (has one.board one.among) one.piece,
      )
    ]
    | inr o ↦ (p, in-append_right p old xs here, ap (λ z. z.symbols) (in_one q p o))
  ])

-- a board that was found, and is its own only part, adds nothing
module _ (cut : Grid → List Grid) (found : List Grid) (p : Grid) (n : ℕ) (at : IsAt found n p) (alone : cut p ≡ p ∷ []) where
  pub known-found : found ≡ kept found (cut p)
  known-found = sym (ap (kept found) alone ∙ one_more-there boards found p (at-in found n p at))

  pub known-numbered : (before after : List ℕ) → after ≡ before ++ (n ∷ []) → NumberedAs found before after (cut p)
  known-numbered before after e = rw alone (n ∷ [], e, (at, tt))
