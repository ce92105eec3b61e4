-- The listed moves of Toads and Frogs are those of the game, and each lowers the sum of the weights.
use Rattle.std.proofs.Common.{◌≡◌, ℕ, ◌<◌, inl, inr, true, List, length, refl, arith}
use Rattle.std.proofs.lemmas.Bool.{lt-ltb}
use Rattle.cg_moves.specs.declared.player.Player.{Player}
use Rattle.cg_moves.specs.declared.player.Player.TheVariants.{Left, Right}
use Rattle.cg_moves.specs.Lawful.{IsLawful}
use Rattle.cg_moves.specs.Rules.{In}
use Rattle.cg_form.proofs.Firsts.{in-append, in-append_left, in-append_right}
use Rattle.cg_moves.proofs.RisingLemmas.{rising-in, in-rising}
use Rattle.cg_strip.specs.Placing.{IsPlacedAt, all_placed}
use Rattle.cg_strip.specs.Weighing.{row_weight, is_lighter}
use Rattle.cg_strip.proofs.PlacingLemmas.{below_is, below_has, placed_within}
use Rattle.cg_strip.proofs.WeighingLemmas.{lighter_lowers, room_behind}
use Rattle.cg_strip.specs.Toads.{Become, IsToadsMove, hops, toads_moves, toad_weights, toads_game}
use Rattle.cg_strip.specs.declared.rule.Rule.{Rule}

-- the change as a rule of nobody's
abbrev change : List ℕ → List ℕ → Rule
change old new = record { player = Left; pattern = old; replacement = new }

become_is : (old new row after : List ℕ) → In after (all_placed old new row) → Become old new row after
become_is old new row after m = let (i, is) = below_is (change old new) row (length row) after (omega arith) m in record {
  before = is.before;
  behind = is.behind;
  stands = is.stands;
  written = is.written;
}

become_at : (old new row after : List ℕ) (b : Become old new row after) → IsPlacedAt (change old new) (length b.before) row after
become_at old new row after b = record { before = b.before; behind = b.behind; at = refl; stands = b.stands; written = b.written }

become_has : (old new row after : List ℕ) → 0 < length old → Become old new row after → In after (all_placed old new row)
become_has old new row after some b = let is = become_at old new row after b in below_has (change old new) row (length row) (length b.before) after
    (placed_within (change old new) (length b.before) row after some is) is

pub hop_is : (player : Player) (row after : List ℕ) → In after (toads_moves player row) → IsToadsMove player row after
hop_is Left row after m = elim (in-append after _ _ (rising-in (hops Left row) after m)) [
  | inl n ↦ inl (become_is _ _ row after n)
  | inr n ↦
      inr (become_is _ _ row after n)
]
hop_is Right row after m = elim (in-append after _ _ (rising-in (hops Right row) after m)) [
  | inl n ↦ inl (become_is _ _ row after n)
  | inr n ↦
      inr (become_is _ _ row after n)
]

pub hop_has : (player : Player) (row after : List ℕ) → IsToadsMove player row after → In after (toads_moves player row)
hop_has Left row after (inl b) = in-rising (hops Left row) after (in-append_left after _ _ (become_has _ _ row after (omega arith) b))
hop_has Left row after (inr b) = in-rising (hops Left row) after (in-append_right after _ _ (become_has _ _ row after (omega arith) b))
hop_has Right row after (inl b) = in-rising (hops Right row) after (in-append_left after _ _ (become_has _ _ row after (omega arith) b))
hop_has Right row after (inr b) = in-rising (hops Right row) after (in-append_right after _ _ (become_has _ _ row after (omega arith) b))

-- ---- each move lowers the sum of the weights

become_lowers : (old new row after : List ℕ) → length old ≡ length new → ((left right : ℕ) → is_lighter toad_weights (change old new) left right ≡ true) →
    Become old new row after → row_weight toad_weights after < row_weight toad_weights row
unfolding become_at
become_lowers old new row after even lighter b =
    let is = become_at old new row after b in
    lighter_lowers toad_weights (length row) (change old new) (length b.before) (length b.behind) even (room_behind (change old new) (length b.before) row after
    is) (lighter (length b.before) (length b.behind)) row after refl is

move_lowers : (player : Player) (row after : List ℕ) → IsToadsMove player row after → row_weight toad_weights after < row_weight toad_weights row
move_lowers Left row after (inl b) = become_lowers _ _ row after refl (λ left right. lt-ltb _ _ (omega arith)) b
move_lowers Left row after (inr b) = become_lowers _ _ row after refl (λ left right. lt-ltb _ _ (omega arith)) b
move_lowers Right row after (inl b) = become_lowers _ _ row after refl (λ left right. lt-ltb _ _ (omega arith)) b
move_lowers Right row after (inr b) = become_lowers _ _ row after refl (λ left right. lt-ltb _ _ (omega arith)) b

pub toads_lawful : IsLawful toads_game
toads_lawful = record {
  moves = record {
    stays = λ player p cells e m. e;
    lowers = λ player p cells e m. move_lowers player p.cells cells (hop_is player p.cells cells m);
  };
  number = omega arith;
  cut = λ e. absurd cc;
}
