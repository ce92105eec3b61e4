-- What an interner has of the games of a store.
use lib.Dec.{eqb}
use Rattle.std.specs.Prelude.{◌≡◌, ℕ, ◌<◌, ◌^◌, Bool, List, false, length, slice_index_or, true}
use Rattle.std.specs.List.{IsDistinct, list_any}
use Rattle.cg_cells.specs.Store.{State}
use Rattle.cg_nodes.specs.Games.{IsGame, game_at}
use Rattle.cg_nodes.specs.Meant.{Meant}
use Rattle.cg_arena.specs.Arena.{game_of}
use Rattle.cg_arena.specs.OrderMemos.{AreRight}
use Rattle.cg_canon.specs.declared.interner.Interner.{Interner}
use Rattle.cg_canon.specs.KeptSums.{SumsStand}
use Rattle.cg_canon.specs.Recognized.{AreRecognized}

-- the handle of an index
abbrev pub handle_of : Interner → ℕ → ℕ
handle_of b index = slice_index_or b.handles.items index 0

-- the handle stands for the game at the index
pub record IsNamed {R : Type 0} (s : State Meant R) (b : Interner) (index : ℕ) : Type 0 where
  pub game : IsGame s (handle_of b index)
  pub same : game_at s (handle_of b index) ≡ game_of b.arena index

-- the index has this handle
pub record HasHandle (b : Interner) (index handle : ℕ) : Type 0 where
  pub within : index < length b.handles.items
  pub is : handle_of b index ≡ handle

-- no two of these are one, and each is a handle
pub record AreHandles (hs : List ℕ) : Type 0 where
  pub distinct : IsDistinct eqb hs
  pub below : (h : ℕ) → list_any (eqb h) hs ≡ true → h < 2 ^ 26

-- no two indexes have one handle; the hash index has the handles in their order, unless one was left out
pub record AreIndexed (hs by_id : List ℕ) (is_complete : Bool) : Type 0 where
  pub handles : AreHandles hs
  pub indexed : is_complete ≡ true → by_id ≡ hs

unfoldable pub AreApart : List ℕ → List ℕ → Bool → Type 0
AreApart hs by_id is_complete = AreIndexed hs by_id is_complete

-- the handle is none of these
pub record IsNew (hs : List ℕ) (handle : ℕ) : Type 0 where
  pub absent : list_any (eqb handle) hs ≡ false
  pub small : handle < 2 ^ 26

pub record InternerHolds {R : Type 0} (s : State Meant R) (b : Interner) : Type 0 where
  -- each index has a handle
  pub count : length b.handles.items ≡ length b.arena
  pub each : (index : ℕ) → index < length b.handles.items → IsNamed s b index
  pub right : AreRight b.arena b.answers
  -- each sum of a pair is that of its two games
  pub pairs : SumsStand b.arena b.pairs
  pub apart : AreApart b.handles.items b.by_id b.is_complete
  -- what its games are known as
  pub recognized : AreRecognized b.arena b.recognized
