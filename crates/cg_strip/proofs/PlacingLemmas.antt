-- The listed moves are exactly the placements of the player's rules.
use Rattle.std.proofs.Common.{◌≡◌, ℕ, zero, suc, ◌+◌, ◌<◌, ◌≤◌, ◌⊎◌, inl, inr, Bool, true, false, cond, leb, List}
use Rattle.std.proofs.Common.{[], ◌∷◌, ◌++◌, length, take, drop, refl, ap, sym, subst, ◌∙◌, arith, length-append}
use Rattle.std.specs.List.{flat_map, starts_with}
use Rattle.std.specs.Prelude.{nat_eq}
use Rattle.std.proofs.lemmas.Bool.{leb-true, leb-false}
use Rattle.std.proofs.lemmas.Bool.Decides.{Decides-eqb}
use Rattle.std.proofs.lemmas.Slice.Eq.{starts_is}
use Rattle.std.proofs.lemmas.List.{length-take-le, take-append-drop}
use Rattle.std.proofs.Math.Seq.{take-append_seam, drop-append_seam, drop-drop}
use Rattle.cg_moves.specs.declared.player.Player.{Player}
use Rattle.cg_moves.specs.declared.player.Player.TheVariants.{Left, Right}
use Rattle.cg_moves.specs.Rules.{In}
use Rattle.cg_form.proofs.Firsts.{in-append, in-append_left, in-append_right}
use Rattle.cg_moves.proofs.Members.{in-flat_map, in_flat_mapped}
use Rattle.cg_moves.proofs.RisingLemmas.{rising-in, in-rising}
use Rattle.cg_strip.specs.Placing.{IsPlacedAt, IsMove, placed_at, placed_below, is_same_player, placements, moves_by}
use Rattle.cg_strip.specs.declared.rule.Rule.{Rule}

same_is : (p q : Player) → is_same_player p q ≡ true → p ≡ q
same_is Left Left e = refl
same_is Left Right e = absurd cc
same_is Right Left e = absurd cc
same_is Right Right e = refl

is_same : (p : Player) → is_same_player p p ≡ true
is_same Left = refl
is_same Right = refl

le_or_lt : (a b : ℕ) → (a ≤ b) ⊎ (b < a)
le_or_lt a b = by_test (leb a b) refl
  where
    by_test : (t : Bool) → leb a b ≡ t → (a ≤ b) ⊎ (b < a)
    by_test true h = inl (leb-true a b h)
    by_test false h = inr (leb-false a b h)

-- ---- one cell

starts_split : (s p : List ℕ) → starts_with nat_eq s p ≡ true → s ≡ p ++ drop (length p) s
starts_split s p e = (starts_is Decides-eqb s p (starts_with nat_eq s p) refl).0 e

split_starts : (s p rest : List ℕ) → s ≡ p ++ rest → starts_with nat_eq s p ≡ true
split_starts s p rest e = (starts_is Decides-eqb s p (starts_with nat_eq s p) refl).1 rest e

pub placed_is : (r : Rule) (row : List ℕ) (i : ℕ) (z : List ℕ) → i ≤ length row → In z (placed_at r.pattern r.replacement row i) → IsPlacedAt r i row z
placed_is r row i z h m = by_test (starts_with nat_eq (drop i row) r.pattern) refl m
  where
    by_test : (t : Bool) → starts_with nat_eq (drop i row) r.pattern ≡ t → In z (cond t ((take i row ++ (r.replacement ++ drop (i + length r.pattern) row))
        ∷ []) []) → IsPlacedAt r i row z
    by_test true e (inl f) = record {
      before = take i row;
      behind = drop (i + length r.pattern) row;
      at = length-take-le i row h;
      stands = sym (take-append-drop i row) ∙ ap (λ (w : List ℕ). take i row ++ w) (starts_split (drop i row) r.pattern e ∙ ap (λ (w : List ℕ). r.pattern ++ w)
          (drop-drop (length r.pattern) i row));
      written = f;
    }
    by_test true e (inr f) = absurd f
    by_test false e f = absurd f

pub placed_has : (r : Rule) (row : List ℕ) (i : ℕ) (z : List ℕ) → IsPlacedAt r i row z → In z (placed_at r.pattern r.replacement row i)
placed_has r row i z is =
    let b = is.before in
    let c = is.behind in
    let front : take i row ≡ b = ap (λ (n : ℕ). take n row) (sym is.at) ∙ ap (take (length b)) is.stands ∙ take-append_seam b (r.pattern ++ c) in
    let rest : drop i row ≡ r.pattern ++ c = ap (λ (n : ℕ). drop n row) (sym is.at) ∙ ap (drop (length b)) is.stands ∙ drop-append_seam b (r.pattern ++ c) in
    let back : drop (i + length r.pattern) row ≡ c = sym (drop-drop (length r.pattern) i row) ∙ ap (drop (length r.pattern)) rest ∙ drop-append_seam r.pattern c
    in
    let made : z ≡ take i row ++ (r.replacement ++ drop (i + length r.pattern) row) = is.written ∙ ap (λ (w : List ℕ). w ++ (r.replacement ++ c)) (sym front)
    ∙ ap (λ (w : List ℕ). take i row ++ (r.replacement ++ w)) (sym back) in
    by_test (starts_with nat_eq (drop i row) r.pattern) (split_starts (drop i row) r.pattern c rest) made
  where
    by_test : (t : Bool) → t ≡ true → z ≡ take i row ++ (r.replacement ++ drop (i + length r.pattern) row) →
        In z (cond t ((take i row ++ (r.replacement ++ drop (i + length r.pattern) row)) ∷ []) [])
    by_test true e f = inl f
    by_test false e f = absurd cc

-- ---- all cells

pub below_is : (r : Rule) (row : List ℕ) (n : ℕ) (z : List ℕ) → n ≤ length row → In z (placed_below r.pattern r.replacement row n) → (i : ℕ) × IsPlacedAt r i
    row z
below_is r row zero z h m = absurd m
below_is r row (suc n) z h m = elim (in-append z (placed_below r.pattern r.replacement row n) (placed_at r.pattern r.replacement row n) m) [
  | inl k ↦ below_is r row n z (omega arith) k
  | inr k ↦ (n, placed_is r row n z (omega arith) k)
]

pub below_has : (r : Rule) (row : List ℕ) (n i : ℕ) (z : List ℕ) → i < n → IsPlacedAt r i row z → In z (placed_below r.pattern r.replacement row n)
below_has r row zero i z h is = absurd (omega arith)
below_has r row (suc n) i z h is = elim (le_or_lt n i) [
  | inl k ↦ in-append_right z (placed_below r.pattern r.replacement row n) (placed_at r.pattern r.replacement row n)
      (subst (λ (j : ℕ). In z (placed_at r.pattern r.replacement row j)) (let e : i ≡ n = omega arith in e) (placed_has r row i z is))
  | inr k ↦ in-append_left z (placed_below r.pattern r.replacement row n) (placed_at r.pattern r.replacement row n) (below_has r row n i z k is)
]

-- a placement stands at a cell of the row
pub placed_within : (r : Rule) (i : ℕ) (row z : List ℕ) → 0 < length r.pattern → IsPlacedAt r i row z → i < length row
placed_within r i row z some is = let n = length-append is.before (r.pattern ++ is.behind) in let m = length-append r.pattern is.behind in
    omega (arith, ap length is.stands, n, m, is.at)

-- ---- all rules

pub move_is : (rules : List Rule) (player : Player) (row z : List ℕ) → In z (moves_by rules player row) → IsMove rules player row z
move_is rules player row z m =
    let (r, among, n) = in-flat_map (placements player row) z rules (rising-in (flat_map (placements player row) rules) z m) in
    by_player r among (is_same_player r.player player) refl n
  where
    by_player : (r : Rule) → In r rules → (t : Bool) → is_same_player r.player player ≡ t → In z (cond t (placed_below r.pattern r.replacement row (length row))
        []) → IsMove rules player row z
    by_player r among true e n = let (i, p) = below_is r row (length row) z (omega arith) n in record {
      rule = r;
      among = among;
      whose = same_is r.player player e;
      cell = i;
      placed = p;
    }
    by_player r among false e n = absurd n

pub move_has : (rules : List Rule) (player : Player) (row z : List ℕ) → ((r : Rule) → In r rules → 0 < length r.pattern) → IsMove rules player row z →
    In z (moves_by rules player row)
move_has rules player row z some is =
    in-rising (flat_map (placements player row) rules) z (in_flat_mapped (placements player row) z is.rule rules is.among
    (by_player (is_same_player is.rule.player player) (subst (λ (p : Player). is_same_player is.rule.player p ≡ true) is.whose (is_same is.rule.player))
    (below_has is.rule row (length row) is.cell z (placed_within is.rule is.cell row z (some is.rule is.among) is.placed) is.placed)))
  where
    by_player : (t : Bool) → t ≡ true → In z (placed_below is.rule.pattern is.rule.replacement row (length row)) → In z (cond t (placed_below is.rule.pattern
        is.rule.replacement row (length row)) [])
    by_player true e n = n
    by_player false e n = absurd cc
