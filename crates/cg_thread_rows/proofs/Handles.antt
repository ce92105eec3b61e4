-- The handles of answers that a session keeps.
use Rattle.std.proofs.Common.{◌≡◌, ℕ, zero, suc, ◌<◌, Bool, true, false, List, [], ◌∷◌, Option, Some, None, IfSome, length, refl, sym, ap, ◌∙◌, subst, arith}
use Rattle.std.specs.Prelude.{slice_get, MatchOption}
use Rattle.cg_cells.specs.Store.{State, thing_at}
use Rattle.cg_nodes.specs.Meant.{Meant, form}
use Rattle.cg_nodes.specs.Games.{IsGame, game_in}
use Rattle.cg_canon.specs.Cache.{knowing}
use Rattle.cg_syntax.specs.Session.{Resolved, Asked_of, Syntax_at, Too_large, Unknown_at, answered_lines}
use Rattle.cg_query.specs.Tree.{Question}
use Rattle.cg_eval.specs.declared.answered.Answered.{Answered}
use Rattle.cg_eval.specs.Shown.{HandleIs}
use Rattle.cg_shared.specs.Passes.{CellsOf, PassOf, pass_state}
use Rattle.cg_words.specs.declared.settings.Settings.{Settings}
use Rattle.cg_session.specs.Good.{IsGood}
use Rattle.cg_session.specs.Kept.{KeepsSession}
use Rattle.cg_session.specs.Replies.{HandleFor}
use Rattle.cg_session.specs.Settings.{share_of, text_by}
use Rattle.cg_thread_rows.specs.Kept.{HaveGames}

module _ {R : Type 0} (s : State Meant R) where
  handle-game : (q : Question) (refused : Bool) (handle : Option ℕ) → HandleIs (knowing s.known) q refused handle
      → IfSome handle (IsGame s)
  handle-game q true handle h = subst (λ o. IfSome o (IsGame s)) (sym h) tt
  handle-game q false None h = absurd h
  handle-game q false (Some id) h = h ∙ sym (ap (λ o. Some (form (game_in o))) h)

  line-game : (line : Resolved) (refused : Bool) (handle : Option ℕ) → HandleFor (knowing s.known) line refused handle
      → IfSome handle (IsGame s)
  line-game (Asked_of q) refused handle h = handle-game q refused handle h
  line-game (Syntax_at column) refused handle h = subst (λ o. IfSome o (IsGame s)) (sym h) tt
  line-game (Unknown_at column) refused handle h = subst (λ o. IfSome o (IsGame s)) (sym h) tt
  line-game Too_large refused handle h = subst (λ o. IfSome o (IsGame s)) (sym h) tt

-- a list that is as long as another has an item where that one has
same_place : {V W : Type 0} (vs : List V) (ws : List W) (n : ℕ) (v : V) → length vs ≡ length ws → slice_get vs n ≡ Some v
    → (w : W) × (slice_get ws n ≡ Some w)
same_place [] ws n v long e = absurd cc
same_place (x ∷ vs) [] n v long e = absurd cc
same_place (x ∷ vs) (y ∷ ws) zero v long e = (y, refl)
same_place (x ∷ vs) (y ∷ ws) (suc n) v long e = same_place vs ws n v (omega arith) e

pub kept_games : (s : Settings) (text : List ℕ) (answers : List Answered) (cells : CellsOf) (pass : PassOf Meant)
    → KeepsSession s text answers cells pass → HaveGames answers (pass_state pass)
kept_games s text answers cells pass (lines, is, keeps) n a at =
    let (line, here) = same_place answers lines n a keeps.long at in
    line-game (pass_state pass) line.1 a.refused a.handle (keeps.good n line a here at).handle

pub game_of : {R : Type 0} (s : State Meant R) (answers : List Answered) (n : ℕ) (a : Answered) (h : ℕ) → HaveGames answers s
    → slice_get answers n ≡ Some a → a.handle ≡ Some h → IsGame s h
game_of s answers n a h games at e = subst (λ o. IfSome o (IsGame s)) e (games n a at)

-- what a source tells, or what a sample makes of it, is a text
text_given : (n : ℕ) (bytes : List ℕ) (P : List ℕ → Type 0) → IfSome (text_by n (Some bytes)) P → (text : List ℕ) × P text
text_given zero bytes P h = (bytes, h)
text_given (suc n) bytes P h = (_, h)

pub whole_games : {K : Type 0} → (answers : K → List Answered) (cells : K → CellsOf) (pass : K → PassOf Meant)
    → (s : Settings) (bytes : List ℕ) (kept : Option K)
    → IfSome (text_by s.sample (Some bytes)) (λ text. MatchOption kept (answered_lines text ≡ []) (λ k.
    KeepsSession s text (answers k) (cells k) (pass k)))
    → IfSome kept (λ k. HaveGames (answers k) (pass_state (pass k)))
whole_games answers cells pass s bytes None h = tt
whole_games answers cells pass s bytes (Some k) h =
    let (text, keeps) = text_given s.sample bytes (λ t. KeepsSession s t (answers k) (cells k) (pass k)) h in
    kept_games s text (answers k) (cells k) (pass k) keeps
