-- What a session writes.
use Rattle.std.specs.Prelude.{ℕ, zero, suc, ◌+◌, cond, ◌≡◌, List, [], ◌∷◌, ◌++◌, length, decimal, codes}
use Rattle.cg_words.specs.declared.settings.Settings.{Settings}
use Rattle.cg_eval.specs.Reply.{Piece}
use Rattle.cg_syntax.specs.Session.{IsSession, Resolved}
use Rattle.cg_session.specs.Replies.{IsReplyFor}
use Rattle.cg_session.specs.Settings.{share_of}

-- a text to be written, and how many lines were refused
pub record Output : Type 0 where
  pub text : List ℕ
  pub refused : ℕ

abbrev pub nothing : Output
nothing = record { text = []; refused = 0 }

-- one after the other
abbrev pub joined : Output → Output → Output
joined a b = record { text = a.text ++ b.text; refused = a.refused + b.refused }

-- the line of a reply: its number in decimal, a colon, a space, the reply, LF
abbrev pub numbered : ℕ → Piece → Output
numbered n reply = record { text = decimal n ++ codes ": " ++ reply.text ++ (10 ∷ []); refused = cond reply.refused 1 0 }

-- where each line has this share of the cells, and one list of items at most so many positions
module _ (share positions : ℕ) where
  -- the output of these lines, each with its number and what is made of it: the lines of their replies
  unfoldable pub IsOutputOf : List (ℕ × Resolved) → Output → Type 0
  IsOutputOf [] out = out ≡ nothing
  IsOutputOf (line ∷ lines) out =
      (reply : Piece) × (rest : Output) × IsReplyFor share positions line.1 reply × IsOutputOf lines rest
      × (out ≡ joined (numbered line.0 reply) rest)

-- the output of a session with these lines, each on its share of the cells
abbrev pub IsOutput : Settings → List (ℕ × Resolved) → Output → Type 0
IsOutput s lines out = IsOutputOf (share_of s.cells (length lines)) s.positions lines out

-- the line that tells of an output of a sample how many lines the sample has, how many of them are refused, and how many
-- bytes the output has
abbrev pub summary : ℕ → Output → Output
summary lines out = record {
  text = codes "lines " ++ decimal lines ++ codes " refused " ++ decimal out.refused ++ codes " bytes "
      ++ decimal (length out.text) ++ (10 ∷ []);
  refused = out.refused;
}

-- what is written of an output: the output, and where there is a sample of so many lines its summary alone
abbrev pub written_of : ℕ → Output → Output
written_of zero out = out
written_of (suc n) out = summary (suc n) out

-- what a session with this text writes
pub record IsWritten (s : Settings) (text : List ℕ) (written : Output) : Type 0 where
  pub lines : List (ℕ × Resolved)
  pub is_session : IsSession text lines
  pub output : Output
  pub is_output : IsOutput s lines output
  pub same : written ≡ written_of s.sample output
