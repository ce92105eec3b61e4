-- What a session keeps: the answers, and the table over which they were made.
use Rattle.std.specs.Prelude.{◌≡◌, ◌<◌, ℕ, List, length}
use Rattle.cg_cells.specs.Table.{HasAllTickets}
use Rattle.cg_nodes.specs.Meant.{Meant}
use Rattle.cg_shared.specs.Passes.{CellsOf, PassOf, IsPassOf, pass_state}
use Rattle.cg_words.specs.declared.settings.Settings.{Settings}
use Rattle.cg_eval.specs.declared.answered.Answered.{Answered}
use Rattle.cg_session.specs.Settings.{share_of}
use Rattle.cg_session.specs.Good.{AreGood}
use Rattle.cg_syntax.specs.Session.{IsSession, Resolved}

-- The session has an answered line, the table is one for these answered lines and their share, the pass is one of that table
-- and has all its tickets, and each answered line has its answer, in order, which is good under what the pass knows.
pub record KeepsAnswers (s : Settings) (lines : List (ℕ × Resolved)) (answers : List Answered) (cells : CellsOf) (pass : PassOf Meant) : Type 0 where
  pub some : 0 < length lines
  pub table : cells.sizes ≡ record { lines = length lines; share = share_of s.cells (length lines); passes = s.workers }
  pub own : IsPassOf cells pass
  pub tickets : HasAllTickets pass.sees
  pub long : length answers ≡ length lines
  pub good : AreGood (share_of s.cells (length lines)) s.positions lines answers (pass_state pass).known

-- the same of the lines of a text
abbrev pub KeepsSession : Settings → List ℕ → List Answered → CellsOf → PassOf Meant → Type 0
KeepsSession s text answers cells pass = (lines : List (ℕ × Resolved)) × IsSession text lines × KeepsAnswers s lines answers cells pass
