-- The law of the rules of Hackenbush. It stands here since the rules rest on it.
use Rattle.std.proofs.Common.{◌≡◌, refl, ℕ, zero, suc, ◌+◌, ◌<◌, ◌≤◌, ◌==◌, Bool, true, not, if◌then◌else◌}
use Rattle.std.proofs.Common.{List, [], ◌∷◌, length, inl, inr, ap, sym, ◌∙◌, subst, arith, length-set}
use Rattle.std.specs.Prelude.{codes, count_by, slice_set}
use Rattle.std.specs.Str.{bytes_eq}
use Rattle.std.proofs.lemmas.Bool.{and_from, and_parts, eqb-true, eq-eqb}
use Rattle.cg_dyadic.proofs.Truth.{differ, false-from, true-or-not}
use Rattle.cg_moves.specs.declared.player.Player.{Player}
use Rattle.cg_moves.specs.declared.player.Player.TheVariants.{Left, Right}
use Rattle.cg_moves.specs.Grid.{Grid, with_cells}
use Rattle.cg_moves.specs.Lawful.{IsLawful}
use Rattle.cg_moves.specs.Rules.{In}
use Rattle.cg_moves.proofs.ForGames.{count-cons, listed-where, set-lowers}
use Rattle.cg_graph.specs.Paths.{Edge, IsThere, colour, gone, kept}
use Rattle.cg_graph.specs.Hackenbush.{cut, cuts_of, hackenbush, may_cut}

pub length-kept : (test : ℕ → Bool) (cells : List ℕ) → length (kept test cells) ≡ length cells
length-kept test [] = refl
length-kept test (c ∷ cs) = let e = length-kept (λ k. test (suc k)) cs in omega arith

-- ---- the number of edges that are there

abbrev pub count : List ℕ → ℕ
count cells = count_by (λ c. not (c == gone)) cells

count-kept : (test : ℕ → Bool) (cells : List ℕ) → count (kept test cells) ≤ count cells
count-kept test [] = omega arith
count-kept test (c ∷ cs) =
    let h = count-kept (λ k. test (suc k)) cs in
    let a = count-cons (λ x. not (x == gone)) c cs in
    elim (true-or-not (test zero)) [
      | inl t ↦ let b = count-cons (λ x. not (x == gone)) c (kept (λ k. test (suc k)) cs) in
          let e : count (kept test (c ∷ cs)) ≡ count (c ∷ kept (λ k. test (suc k)) cs) =
          ap (λ z. count ((if z then c else gone) ∷ kept (λ k. test (suc k)) cs)) t in omega arith
      | inr f ↦ let b : count (gone ∷ kept (λ k. test (suc k)) cs) ≡ 0 + count (kept (λ k. test (suc k)) cs) =
          count-cons (λ x. not (x == gone)) gone (kept (λ k. test (suc k)) cs) in
          let e : count (kept test (c ∷ cs)) ≡ count (gone ∷ kept (λ k. test (suc k)) cs) =
          ap (λ z. count ((if z then c else gone) ∷ kept (λ k. test (suc k)) cs)) (false-from (test zero) f) in omega arith
    ]

-- an edge that is there is one of the cells
count-set : (cells : List ℕ) (j : ℕ) → IsThere cells j → count (slice_set cells j gone) < count cells
count-set cells j there =
    set-lowers (λ c. not (c == gone)) gone cells j gone refl refl
    (ap not (false-from (colour cells j == gone) (λ t. there (eqb-true (colour cells j) gone t))))

pub cut-lowers : (test : ℕ → Bool) (cells : List ℕ) (j : ℕ) → IsThere cells j
    → count (kept test (slice_set cells j gone)) < count cells
cut-lowers test cells j there =
    let a = count-kept test (slice_set cells j gone) in
    let b = count-set cells j there in
    omega arith

-- ---- moves

pub may-there : (player : Player) (cells : List ℕ) (k : ℕ) → may_cut player (colour cells k) ≡ true → IsThere cells k
may-there Left cells k may e =
    differ (may_cut Left gone) (let P : ℕ → Type 0 = λ z. may_cut Left z ≡ true in subst P e may) refl
may-there Right cells k may e =
    differ (may_cut Right gone) (let P : ℕ → Type 0 = λ z. may_cut Right z ≡ true in subst P e may) refl

-- a move is a cut of an edge that the player may cut
pub is_cut : (edges : List Edge) (player : Player) (cells after : List ℕ) → In after (cuts_of edges player cells)
    → (k : ℕ) × (may_cut player (colour cells k) ≡ true) × (after ≡ cut edges cells k)
is_cut edges player cells after m =
    let (k, below, may, e) = listed-where (λ k. may_cut player (colour cells k)) (cut edges cells) (length cells) after m in
    (k, may, e)

pub length-cut : (edges : List Edge) (cells : List ℕ) (k : ℕ) → length (cut edges cells k) ≡ length cells
unfolding cut
length-cut edges cells k = length-kept _ (slice_set cells k gone) ∙ length-set cells k gone

pub count-cut : (edges : List Edge) (cells : List ℕ) (k : ℕ) → IsThere cells k → count (cut edges cells k) < count cells
unfolding cut
count-cut edges cells k there = cut-lowers _ cells k there

pub has-cut : (edges : List Edge) (p : Grid) (cells : List ℕ) (k : ℕ)
    → (hackenbush edges).has (with_cells p cells) ≡ true → (hackenbush edges).has (with_cells p (cut edges cells k)) ≡ true
has-cut edges p cells k has =
    let both = and_parts (bytes_eq p.symbols (codes ".brg")) (length cells == length edges) has in
    and_from (bytes_eq p.symbols (codes ".brg")) (length (cut edges cells k) == length edges) both.0
    (eq-eqb (length (cut edges cells k)) (length edges)
    (length-cut edges cells k ∙ eqb-true (length cells) (length edges) both.1))

pub hackenbush_lawful : (edges : List Edge) → IsLawful (hackenbush edges)
hackenbush_lawful edges = record {
  moves = record {
    stays = λ player p after has m.
        let (k, may, e) = is_cut edges player p.cells after m in
        let P : List ℕ → Type 0 = λ z. (hackenbush edges).has (with_cells p z) ≡ true in
        subst P (sym e) (has-cut edges p p.cells k has);
    lowers = λ player p after has m.
        let (k, may, e) = is_cut edges player p.cells after m in
        let low = count-cut edges p.cells k (may-there player p.cells k may) in
        let s = ap count e in
        omega arith;
  };
  number = omega arith;
  cut = λ e. absurd (cc);
}
