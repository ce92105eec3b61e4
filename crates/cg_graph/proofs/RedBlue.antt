-- Hackenbush without green edges: no cut is good for the player who makes it, so each position equals a number.
use Rattle.std.proofs.Common.{◌≡◌, ◌≢◌, refl, ℕ, zero, suc, ◌<◌, ◌==◌, Bool, true, false, not, List, [], ◌∷◌, length, inl, inr, ap, sym, ◌∙◌, arith}
use Rattle.std.proofs.lemmas.Bool.{eqb-true}
use Rattle.cg_dyadic.specs.Number.{Number}
use Rattle.cg_form.specs.Game.{Among, Game, lefts, number, rights}
use Rattle.cg_form.specs.Order.{Equal, Le}
use Rattle.cg_form.specs.Side.{near}
use Rattle.cg_moves.specs.declared.player.Player.{Player}
use Rattle.cg_moves.specs.declared.player.Player.TheVariants.{Left, Right}
use Rattle.cg_moves.specs.Grid.{Grid, with_cells}
use Rattle.cg_moves.specs.Raw.{raw}
use Rattle.cg_moves.specs.Rising.{counted}
use Rattle.cg_moves.specs.Rules.{In, boards_after}
use Rattle.cg_moves.proofs.Members.{in-map, in_flat_mapped}
use Rattle.cg_moves.proofs.PieceSums.{option_raw, raw_option}
use Rattle.cg_moves.proofs.RisingLemmas.{in-rising}
use Rattle.cg_moves.proofs.Totals.{options_of}
use Rattle.cg_moves.proofs.Counted.{in_counted}
use Rattle.cg_graph.specs.Paths.{Edge, IsSettled, IsThere, colour}
use Rattle.cg_graph.specs.Hackenbush.{IsRedBlue, blue, cut, cuts_at, cuts_of, green, hackenbush, may_cut, red}
use Rattle.cg_graph.proofs.HackenbushLaw.{count, count-cut, hackenbush_lawful, has-cut, is_cut, may-there}
use Rattle.cg_graph.proofs.Colours.{there-or-gone}
use Rattle.cg_graph.proofs.Cuts.{cut-gone, cut-part, cut-swap, one-stays, settled-cut}
use Rattle.cg_moves.proofs.ConnectedLemmas.{or-cases}
use Rattle.cg_graph.proofs.Cutting.{IsCutting, equals-number, left-less, right-greater}

abbrev player_of : Bool → Player
player_of true = Left
player_of false = Right

-- ---- a cut of an edge that the player may cut is a move

there-within : (cells : List ℕ) (k : ℕ) → IsThere cells k → k < length cells
there-within [] k there = absurd (there refl)
there-within (c ∷ cs) zero there = omega arith
there-within (c ∷ cs) (suc k) there = let h = there-within cs k there in omega arith

pub cut_is : (edges : List Edge) (player : Player) (cells : List ℕ) (k : ℕ) → may_cut player (colour cells k) ≡ true
    → In (cut edges cells k) (cuts_of edges player cells)
cut_is edges player cells k may =
    in-rising _ (cut edges cells k)
    (in_flat_mapped (cuts_at edges player cells) (cut edges cells k) k (counted 0 (length cells))
    (in_counted 0 (length cells) k (omega arith) (let w = there-within cells k (may-there player cells k may) in omega (arith, w)))
    (rw may (inl refl)))

-- ---- whose edges

left-colour : (c : ℕ) → c ≢ green → may_cut Left c ≡ true → c ≡ blue
left-colour c other h = elim (or-cases (c == blue) (c == green) h) [
  | inl t ↦ eqb-true c blue t
  | inr t ↦ absurd (other (eqb-true c green t))
]

right-colour : (c : ℕ) → c ≢ green → may_cut Right c ≡ true → c ≡ red
right-colour c other h = elim (or-cases (c == red) (c == green) h) [
  | inl t ↦ eqb-true c red t
  | inr t ↦ absurd (other (eqb-true c green t))
]

-- no colour but green is cut by both
not_both : (s : Bool) (c : ℕ) → c ≢ green → may_cut (player_of s) c ≡ true → may_cut (player_of (not s)) c ≡ true → ⊥
not_both true c other h k =
    let a = left-colour c other h in let b = right-colour c other k in absurd (omega (arith, a, b))
not_both false c other h k =
    let a = right-colour c other h in let b = left-colour c other k in absurd (omega (arith, a, b))

-- ---- red-blue positions

after_cut : (edges : List Edge) (p : Grid) (cells : List ℕ) (k : ℕ) → IsRedBlue edges (with_cells p cells)
    → IsRedBlue edges (with_cells p (cut edges cells k))
after_cut edges p cells k fine = record {
  has = has-cut edges p cells k fine.has;
  settled = settled-cut edges cells k;
  no_green = λ l e. elim (there-or-gone (cut edges cells k) l) [
    | inl g ↦ absurd (omega (arith, e, g))
    | inr there ↦ fine.no_green l (sym ((cut-part edges cells k).same l there) ∙ e)
  ];
}

module _ (edges : List Edge) (p : Grid) where
  abbrev tree : List ℕ → Game
  tree cells = raw (hackenbush edges) (with_cells p cells)

  abbrev Fine : List ℕ → Type 0
  Fine cells = IsRedBlue edges (with_cells p cells)

  abbrev May : Bool → List ℕ → ℕ → Type 0
  May s cells k = may_cut (player_of s) (colour cells k) ≡ true

  option-move : (s : Bool) (cells : List ℕ) (k : ℕ) → Fine cells → May s cells k
      → Among (tree (cut edges cells k)) (near s (tree cells))
  option-move true cells k fine may =
      raw_option (hackenbush edges) (hackenbush_lawful edges).moves Left (with_cells p cells) (cut edges cells k) fine.has
      (cut_is edges Left cells k may)
  option-move false cells k fine may =
      raw_option (hackenbush edges) (hackenbush_lawful edges).moves Right (with_cells p cells) (cut edges cells k) fine.has
      (cut_is edges Right cells k may)

  of_move : (player : Player) (cells : List ℕ) (g : Game) → Fine cells → Among g (options_of player (tree cells))
      → (k : ℕ) × (may_cut player (colour cells k) ≡ true) × (g ≡ tree (cut edges cells k))
  of_move player cells g fine m =
      let (after, i, e) = option_raw (hackenbush edges) (hackenbush_lawful edges).moves player (with_cells p cells) g fine.has m in
      let (k, may, f) = is_cut edges player cells after i in
      (k, may, e ∙ ap tree f)

  move-option : (s : Bool) (cells : List ℕ) (g : Game) → Fine cells → Among g (near s (tree cells))
      → (k : ℕ) × May s cells k × (g ≡ tree (cut edges cells k))
  move-option true cells g fine m = of_move Left cells g fine m
  move-option false cells g fine m = of_move Right cells g fine m

  -- an edge keeps its colour while it is there
  may-still : (s : Bool) (cells : List ℕ) (k l : ℕ) → May s cells k → IsThere (cut edges cells l) k
      → May s (cut edges cells l) k
  may-still s cells k l may there =
      rw ((cut-part edges cells l).same k there) may

  may-before : (s : Bool) (cells : List ℕ) (k l : ℕ) → May s (cut edges cells l) k → May s cells k
  may-before s cells k l may =
      rw (← ((cut-part edges cells l).same k (may-there (player_of s) (cut edges cells l) k may))) may

  may-apart : (s : Bool) (cells : List ℕ) (k l : ℕ) → Fine cells → May s cells k → May (not s) cells l → k ≢ l
  may-apart s cells k l fine may other e =
      not_both s (colour cells k) (fine.no_green k) may (rw e other)

  cutting : IsCutting tree count Fine May (cut edges)
  cutting = record {
    fine = λ cells k fine. after_cut edges p cells k fine;
    lowers = λ s cells k fine may. count-cut edges cells k (may-there (player_of s) cells k may);
    option = option-move;
    options = move-option;
    swap = λ cells k l fine. cut-swap edges cells k l;
    stays = λ s cells k l fine may. elim (there-or-gone (cut edges cells l) k) [
      | inr there ↦ inl (may-still s cells k l may there)
      | inl none ↦ inr (cut-gone edges (cut edges cells l) k (settled-cut edges cells l) none)
    ];
    before = λ s cells k l fine may. may-before s cells k l may;
    one = λ s cells k l fine may other.
        elim (one-stays edges cells k l fine.settled (may-there (player_of s) cells k may)
        (may-there (player_of (not s)) cells l other) (may-apart s cells k l fine may other)) [
          | inl there ↦ inl (may-still s cells k l may there)
          | inr there ↦ inr (may-still (not s) cells l k other there)
        ];
  }

module _ (edges : List Edge) (p : Grid) (fine : IsRedBlue edges p) where
  pub cut-less : (a : Game) → Among a (lefts (raw (hackenbush edges) p))
      → Le a (raw (hackenbush edges) p) × (¬ Le (raw (hackenbush edges) p) a)
  cut-less a m = left-less (tree edges p) count (Fine edges p) (May edges p) (cut edges) (cutting edges p) p.cells a fine m

  pub cut-greater : (b : Game) → Among b (rights (raw (hackenbush edges) p))
      → Le (raw (hackenbush edges) p) b × (¬ Le b (raw (hackenbush edges) p))
  cut-greater b m =
      right-greater (tree edges p) count (Fine edges p) (May edges p) (cut edges) (cutting edges p) p.cells b fine m

  pub red_blue-number : (x : Number) × Equal (number x) (raw (hackenbush edges) p)
  red_blue-number = equals-number (tree edges p) count (Fine edges p) (May edges p) (cut edges) (cutting edges p) p.cells fine

-- ---- after each move

after-is : (edges : List Edge) (player : Player) (p q : Grid) → In q (boards_after (hackenbush edges) player p)
    → (k : ℕ) × (q ≡ with_cells p (cut edges p.cells k))
after-is edges player p q m =
    let (after, i, e) = in-map (with_cells p) q (cuts_of edges player p.cells) m in
    let (k, may, f) = is_cut edges player p.cells after i in
    (k, e ∙ ap (with_cells p) f)

pub moved-settled : (edges : List Edge) (player : Player) (p q : Grid) → In q (boards_after (hackenbush edges) player p)
    → IsSettled edges q.cells
moved-settled edges player p q m =
    let (k, e) = after-is edges player p q m in
    rw e (settled-cut edges p.cells k)

pub moved-red_blue : (edges : List Edge) (player : Player) (p q : Grid) → IsRedBlue edges p
    → In q (boards_after (hackenbush edges) player p) → IsRedBlue edges q
moved-red_blue edges player p q fine m =
    let (k, e) = after-is edges player p q m in
    rw e (after_cut edges p p.cells k fine)
