-- What a store knows is made of keys, level by level: so it is canonical, and each of its numbers is in range.
use Rattle.std.proofs.Common.{◌≡◌, ℕ, zero, suc, Option, Some, None, List, [], sym, refl, subst}
use Rattle.cg_form.specs.Game.{Game, of_list}
use Rattle.cg_form.specs.Canonical.{Canonical}
use Rattle.cg_cells.specs.declared.key.KeyParts.{KeyParts}
use Rattle.cg_cells.specs.declared.key.KeyParts.TheVariants as key
use Rattle.cg_cells.specs.Layout.{FieldsFit}
use Rattle.cg_cells.specs.Meaning.{IsReal, level}
use Rattle.cg_cells.specs.Meaning as meaning
use Rattle.cg_cells.specs.Parts.{parts_of}
use Rattle.cg_cells.specs.Store.{State, thing_at}
use Rattle.cg_cells.proofs.Layouts.{parts_word}
use Rattle.cg_nodes.specs.Games.{IsGame, game_at}
use Rattle.cg_nodes.specs.Inverse.{Inverse, inverse, list_in-back}
use Rattle.cg_nodes.specs.Meant.{Meant, board, contents, form, list, pair}
use Rattle.cg_nodes.specs.Ranges.{AllInRange, AreInRange}
use Rattle.cg_nodes.specs.Spelled.{Map, game_meaning, list_at, spelled}
use Rattle.cg_nodes.proofs.Spells.{canonical_spelled_at, ratio_in_range}

-- ---- one key

-- each number in the games of the thing is in range
abbrev HasRange : Meant → Type 0
HasRange (form g) = AllInRange g
HasRange (list gs) = AreInRange (of_list gs)
HasRange (contents cs) = Unit {0}
HasRange (pair g h) = Unit {0}
HasRange (board n r c cs) = Unit {0}

module _ (f : Map) (below : (i : ℕ) (t : Meant) → f i ≡ Some t → HasRange t) where
  list_range : (o : Option ℕ) (gs : List Game) → list_at f o ≡ Some gs → AreInRange (of_list gs)
  list_range None gs e = let s : [] ≡ gs = cc in (rw (← s) tt)
  list_range (Some i) gs e = below i (list gs) (list_in-back (f i) gs e)

  parts_range : (p : KeyParts) (t : Meant) → FieldsFit p → Inverse p f t → HasRange t
  parts_range (key.Number n e) t fit h = subst HasRange (sym h) (ratio_in_range n e fit)
  parts_range (key.Chunk c o) t fit h = subst HasRange (sym h.1) tt
  parts_range (key.Cons i o) t fit h = subst HasRange (sym h.2) (below i (form h.0) h.3, list_range o h.1 h.4)
  parts_range (key.Game l r) t fit h = subst HasRange (sym h.2) (list_range l h.0 h.3, list_range r h.1 h.4)
  parts_range (key.Pair i j) t fit h = subst HasRange (sym h.2) tt
  parts_range (key.Board n r c i) t fit h = subst HasRange (sym h.1) tt
  parts_range (key.Long i e b) t fit h = subst HasRange (sym h.2) (h.4).fraction.in_range

  spelled_range : (k : ℕ) (o : Option KeyParts) (t : Meant) → parts_of k ≡ o → spelled o f ≡ Some t → HasRange t
  spelled_range k None t at e = cc
  spelled_range k (Some p) t at e = parts_range p t (parts_word k p at).fields (inverse p f t e)

-- ---- all levels

module _ (raw : ℕ → ℕ → ℕ → List ℕ → Game) (keys : ℕ → ℕ) where
  level_range : (n i : ℕ) (t : Meant) → level (game_meaning raw) keys n i ≡ Some t → HasRange t
  level_range zero i t e = cc
  level_range (suc n) i t e = word_range (keys i) (level_range n) e
    where
      word_range : (k : ℕ) → ((j : ℕ) (u : Meant) → level (game_meaning raw) keys n j ≡ Some u → HasRange u)
          → meaning.spelled (game_meaning raw) k (level (game_meaning raw) keys n) ≡ Some t → HasRange t
      word_range zero below d = cc
      word_range (suc k) below d =
          spelled_range (level (game_meaning raw) keys n) below (suc k) (parts_of (suc k)) t refl d

  level_canonical : (n i : ℕ) (g : Game) → level (game_meaning raw) keys n i ≡ Some (form g) → Canonical g
  level_canonical zero i g e = cc
  level_canonical (suc n) i g e = word_canonical (keys i) e
    where
      word_canonical : (k : ℕ) → meaning.spelled (game_meaning raw) k (level (game_meaning raw) keys n) ≡ Some (form g)
          → Canonical g
      word_canonical zero d = cc
      word_canonical (suc k) d = canonical_spelled_at (parts_of (suc k)) (level (game_meaning raw) keys n) g d

-- ---- what is known

module _ {R : Type 0} (raw : ℕ → ℕ → ℕ → List ℕ → Game) (s : State Meant R) (h : ℕ)
    (real : IsReal (game_meaning raw) (thing_at s h)) (game : IsGame s h) where
  pub real-canonical : Canonical (game_at s h)
  real-canonical = let (keys, i, (n, e)) = real (form (game_at s h)) game in level_canonical raw keys n i (game_at s h) e

  pub real-in_range : AllInRange (game_at s h)
  real-in_range = let (keys, i, (n, e)) = real (form (game_at s h)) game in level_range raw keys n i (form (game_at s h)) e
