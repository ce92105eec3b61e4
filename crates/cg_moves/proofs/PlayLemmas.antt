-- Going over boards by moves, and from piece to piece.
use Rattle.std.proofs.Common.{◌≡◌, refl, true, inl, inr, List, [], ◌∷◌, ◌++◌, ap, sym, ◌∙◌, arith}
use Rattle.std.specs.List.{flat_map}
use Rattle.std.proofs.lemmas.Grind.{flat_map-append}
use Rattle.std.proofs.lemmas.List.{append-nil}
use Rattle.cg_moves.specs.declared.edges.Edges.{Edges}
use Rattle.cg_moves.specs.declared.edges.Edges.TheVariants.{Moves, Pieces}
use Rattle.cg_moves.specs.declared.player.Player.{Player}
use Rattle.cg_moves.specs.declared.player.Player.TheVariants.{Left, Right}
use Rattle.cg_moves.specs.Grid.{AreAlike, Grid, with_cells}
use Rattle.cg_moves.specs.Kept.{kept}
use Rattle.cg_moves.specs.Lawful.{ArePieces, IsLawful}
use Rattle.cg_moves.specs.PieceReach.{all_piece_reached, piece_reach_of}
use Rattle.cg_moves.specs.Plays.{IsPlay, MayGo, next_pieces, parts_of, pieces_after, play_of}
use Rattle.cg_moves.specs.Reach.{all_reached, reach_of}
use Rattle.cg_moves.specs.Rules.{GameRules, In, boards_after, followers, pieces}
use Rattle.cg_moves.specs.Walks.{AreStarts}
use Rattle.cg_moves.proofs.Bounds.{follower-has, follower-lowers, piece_reached-moves, reached-moves}
use Rattle.cg_form.proofs.Firsts.{in-append, once-extended}
use Rattle.cg_moves.proofs.Same.{boards}
use Rattle.cg_moves.proofs.Members.{flat_map-agree, in-flat_map, in-map, in_one}

module _ {X Y : Type 0} where
  flat_map-twice : {Z : Type 0} (f : X → List Y) (g : Z → List X) (zs : List Z)
      → flat_map f (flat_map g zs) ≡ flat_map (λ z. flat_map f (g z)) zs
  flat_map-twice {Z} f g [] = refl
  flat_map-twice {Z} f g (z ∷ zs) =
      flat_map-append f (g z) (flat_map g zs) ∙ ap (λ y. flat_map f (g z) ++ y) (flat_map-twice f g zs)

pub after-symbols : (r : GameRules) (player : Player) (p q : Grid) → In q (boards_after r player p) → q.symbols ≡ p.symbols
after-symbols r player p q m = let (cells, n, e) = in-map (with_cells p) q (r.moves player p) m in ap (λ z. z.symbols) e

pub after-alike : (r : GameRules) (player : Player) (p : Grid) → AreAlike (boards_after r player p)
after-alike r player p q s m n =
    let (some, i, e) = in-map (with_cells p) q (r.moves player p) m in
    let (others, j, f) = in-map (with_cells p) s (r.moves player p) n in rw e (rw f refl)

module _ (r : GameRules) (lawful : IsLawful r) where
  -- each part of a board is its own only part
  pub part-uncut : (edges : Edges) → MayGo r edges → (p q : Grid) → r.has p ≡ true → In q (parts_of r edges p)
      → parts_of r edges q ≡ q ∷ []
  part-uncut Moves may p q has m = refl
  part-uncut Pieces may p q has m = (lawful.cut may).each.uncut p q has m

  follower-symbols : (p q : Grid) → In q (followers r p) → q.symbols ≡ p.symbols
  follower-symbols p q m = elim (in-append q (boards_after r Left p) (boards_after r Right p) m) [
    | inl k ↦ after-symbols r Left p q k
    | inr k ↦ after-symbols r Right p q k
  ]

  pub by-moves : IsPlay (play_of r Moves)
  by-moves = record {
    has = follower-has r lawful.moves;
    symbols = λ p q has m. follower-symbols p q m;
    lowers = follower-lowers r lawful.moves;
    all = reached-moves r lawful.moves;
  }

  module _ (each : ArePieces r) where
    -- a piece of a board that a move leads to
    record NextPiece (p q : Grid) : Type 0 where
      board : Grid
      follows : In board (followers r p)
      piece : In q (pieces r board)

    next-piece : (p q : Grid) → In q (next_pieces r p) → NextPiece p q
    next-piece p q m = let (s, l, o) = in-flat_map (pieces r) q (followers r p) m in record {
      board = s;
      follows = l;
      piece = o;
    }

    pub by-pieces : IsPlay (play_of r Pieces)
    by-pieces = record {
      has = λ p q has m.
          let s = next-piece p q m in each.has s.board q (follower-has r lawful.moves p s.board has s.follows) s.piece;
      symbols = λ p q has m.
          let s = next-piece p q m in
          each.symbols s.board q (follower-has r lawful.moves p s.board has s.follows) s.piece
          ∙ follower-symbols p s.board s.follows;
      lowers = λ p q has m.
          let s = next-piece p q m in
          let a = each.measure s.board q (follower-has r lawful.moves p s.board has s.follows) s.piece in
          let b = follower-lowers r lawful.moves p s.board has s.follows in
          omega (arith, a, b);
      all = λ p has. ap (λ z. z ++ (p ∷ []))
          (flat_map-agree (all_piece_reached r) (λ s. flat_map (pieces_after r) (pieces r s)) (followers r p)
          (λ s l. piece_reached-moves r lawful.moves each s (follower-has r lawful.moves p s has l))
          ∙ sym (flat_map-twice (pieces_after r) (pieces r) (followers r p)));
    }

    pub piece_starts : (p : Grid) → r.has p ≡ true → AreStarts (play_of r Pieces) (pieces r p)
    piece_starts p has = record {
      symbols = p.symbols;
      known = λ q m. (each.symbols p q has m, each.has p q has m);
    }

    pub piece_reach-kept : (p : Grid) → r.has p ≡ true → piece_reach_of r p ≡ kept [] (flat_map (play_of r Pieces).all (pieces r p))
    unfolding piece_reach_of
    piece_reach-kept p has = once-extended boards (all_piece_reached r p) ∙ ap (kept []) (piece_reached-moves r lawful.moves each p has)

    pub piece_reach-all : (p : Grid) (starts : List Grid) → r.has p ≡ true → starts ≡ pieces r p
        → piece_reach_of r p ≡ kept [] (flat_map (play_of r Pieces).all starts)
    piece_reach-all p starts has e =
        piece_reach-kept p has ∙ ap (λ z. kept [] (flat_map (play_of r Pieces).all z)) (sym e)

  pub plays : (edges : Edges) → MayGo r edges → IsPlay (play_of r edges)
  plays Moves may = by-moves
  plays Pieces may = by-pieces (lawful.cut may).each

  pub one_start : (p : Grid) (starts : List Grid) → r.has p ≡ true → starts ≡ p ∷ [] → AreStarts (play_of r Moves) starts
  one_start p starts has e =
      rw e (record {
        symbols = p.symbols;
        known = λ q m. rw (in_one q p m) (refl, has);
      })

  pub reach-kept_all : (p : Grid) (starts : List Grid) → starts ≡ p ∷ [] → reach_of r p ≡ kept [] (flat_map (play_of r Moves).all starts)
  unfolding reach_of
  reach-kept_all p starts e =
      once-extended boards (all_reached r p)
      ∙ ap (kept []) (sym (ap (flat_map (all_reached r)) e ∙ append-nil (all_reached r p)))
