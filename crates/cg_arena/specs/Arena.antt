-- What the arena has: games, by their indexes.
use Rattle.std.specs.Prelude.{◌≡◌, ℕ, ◌<◌, ◌≤◌, ◌^◌, ◌++◌, cond, List, [], ◌∷◌, length, map, slice_index_or, All, zip}
use Rattle.std.specs.List.{slice_range}
use Rattle.cg_form.specs.Canonical.{Canonical}
use Rattle.cg_form.specs.Game as tree
use Rattle.cg_form.specs.Game.{node, number}
use Rattle.cg_arena.specs.declared.arena.Entry.{Entry}
use Rattle.cg_arena.specs.declared.arena.Read.{Read}
use Rattle.cg_arena.specs.declared.arena.Read.TheVariants.{Number, Options}
use Rattle.cg_arena.specs.declared.summary.Summary.{Summary}
use Rattle.cg_arena.specs.Keys.{AreKeys}
use Rattle.cg_arena.specs.Summaries.{IsSummary}

-- the game at the index
abbrev pub game_of : List tree.Game → ℕ → tree.Game
game_of gs p = slice_index_or gs p (node [] [])

abbrev pub games_of : List tree.Game → List ℕ → List tree.Game
games_of gs ps = map (game_of gs) ps

abbrev pub IsIndex : List tree.Game → ℕ → Type 0
IsIndex gs p = p < length gs

abbrev pub AreIndexes : List tree.Game → List ℕ → Type 0
AreIndexes gs ps = All (IsIndex gs) ps

-- the indexes are those of the games, in their order
abbrev pub StandFor : List tree.Game → List ℕ → List tree.Game → Type 0
StandFor gs ps hs = AreIndexes gs ps × (games_of gs ps ≡ hs)

-- what was read of the game at an index
abbrev pub IsRead : List tree.Game → Read → tree.Game → Type 0
IsRead gs (Number x) g = g ≡ number x
IsRead gs (Options ls rs) g = AreIndexes gs ls.now × AreIndexes gs rs.now × (g ≡ node (games_of gs ls.now) (games_of gs rs.now))

-- ---- how the arena has them

abbrev pub left_indexes : List ℕ → Entry → List ℕ
left_indexes opts p = slice_range opts p.lefts p.rights

abbrev pub right_indexes : List ℕ → Entry → List ℕ
right_indexes opts p = slice_range opts p.rights p.end

-- the game that an entry says beside its summary, where those of the entries before it are known
abbrev pub said : List ℕ → List tree.Game → Entry → Summary → tree.Game
said opts gs p summary =
    cond p.is_number (number summary.low.at) (node (games_of gs (left_indexes opts p)) (games_of gs (right_indexes opts p)))

-- the games, and those that the entries say, each beside its summary, one after the other
abbrev pub said_by : List ℕ → List tree.Game → List (Entry × Summary) → List tree.Game
said_by opts gs [] = gs
said_by opts gs ((p, summary) ∷ ps) = said_by opts (gs ++ (said opts gs p summary ∷ [])) ps

-- an entry, beside its summary, of a canonical game, all of whose options have indexes among these
pub record IsWritten (opts : List ℕ) (gs : List tree.Game) (p : Entry) (summary : Summary) : Type 0 where
  pub lefts : AreIndexes gs (left_indexes opts p)
  pub rights : AreIndexes gs (right_indexes opts p)
  pub first : p.lefts ≤ p.rights
  pub second : p.rights ≤ p.end
  pub end : p.end ≤ length opts
  pub canonical : Canonical (said opts gs p summary)
  pub is_summary : IsSummary (said opts gs p summary) summary
  pub keys : AreKeys summary p.keys

abbrev pub AreWritten : List ℕ → List tree.Game → List (Entry × Summary) → Type 0
AreWritten opts gs [] = length gs ≤ 2 ^ 32
AreWritten opts gs ((p, summary) ∷ ps) = IsWritten opts gs p summary × AreWritten opts (gs ++ (said opts gs p summary ∷ [])) ps

-- the entries and their summaries, in two lists
pub record IsArena (opts : List ℕ) (ps : List Entry) (summaries : List Summary) : Type 0 where
  -- each entry has one summary
  pub one_each : length summaries ≡ length ps
  pub written : AreWritten opts [] (zip ps summaries)
