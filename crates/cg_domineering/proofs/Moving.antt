-- The cells on which some player has a move, by where dominoes fit.
use Rattle.std.proofs.lemmas.Bool.Decides.{nat_tests}
use Rattle.std.proofs.Common.{◌≡◌, ℕ, ◌<◌, true, inl, inr, arith, bit_or}
use Rattle.std.specs.Int.{bit_at}
use Rattle.cg_moves.specs.declared.player.Player.{Player}
use Rattle.cg_moves.specs.declared.player.Player.TheVariants.{Left, Right}
use Rattle.cg_moves.specs.Grid.{Grid}
use Rattle.cg_moves.specs.Words.{Marks}
use Rattle.cg_moves.proofs.ConnectedLemmas.{or-cases}
use Rattle.cg_pieces.specs.Moving.{AreMoving, is_behind}
use Rattle.cg_pieces.proofs.FirstCells.{moving-by}
use Rattle.cg_pieces.proofs.GrowingSets.{or-left, or-parts, or-right}
use Rattle.cg_pieces.proofs.Lines.{below-is, beside-is}
use Rattle.cg_pieces.proofs.OpenWords.{marks-test, test-marks}
use Rattle.cg_domineering.proofs.Cuts.{dominoes-are, fits-may, may-fits}
use Rattle.cg_domineering.specs.Moves.{dominoes, fits, other_cell}
use Rattle.cg_domineering.proofs.Placing.{other-after}

module _ (p : Grid) (wide : 0 < p.columns) where
  -- the first cell of a domino isn't behind the other
  apart : (player : Player) (k l : ℕ) → is_behind p k l ≡ true → k ≡ other_cell player p l → ⊥
  apart player k l b e = grind (arith, nat_tests, other-after, or-cases, below-is, beside-is)

  module _ (below beside : ℕ) (lefts : Marks below (fits Left p)) (rights : Marks beside (fits Right p)) where
    spot : (player : Player) (k : ℕ) → fits player p k ≡ true → bit_at (bit_or below beside) k ≡ 1
    spot Left k f = or-left below beside k (test-marks below (fits Left p) lefts k f)
    spot Right k f = or-right below beside k (test-marks beside (fits Right p) rights k f)

    pub dominoes-moving : AreMoving dominoes p (bit_or below beside)
    dominoes-moving = moving-by dominoes dominoes-are p (bit_or below beside)
        (λ k t. elim (or-parts below beside k t) [
          | inl x ↦ (Left, other_cell Left p k, fits-may Left p k wide (marks-test below (fits Left p) lefts k x))
          | inr x ↦ (Right, other_cell Right p k, fits-may Right p k wide (marks-test beside (fits Right p) rights k x))
        ])
        (λ player k l b m. spot player k (may-fits player p k l wide m).fits)
        (λ player k l b m. absurd (apart player k l b (may-fits player p l k wide m).other))
