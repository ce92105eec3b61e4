-- How a session ends.
use Rattle.std.specs.Prelude.{ℕ, ◌≡◌, ◌<◌, ◌^◌, ◌⊎◌, ◌↔◌, List, [], Option, Some, IfSome, length}
use Rattle.std.specs.Io.KnownBytes.{Keeps, Appends}
use Rattle.cg_io.specs.Counts.{CountsMore}
use Rattle.cg_words.specs.declared.settings.Settings.{Settings}
use Rattle.cg_words.specs.Accepted.{IsAccepted, settings_of}
use Rattle.cg_session.specs.declared.status.Status.{Status}
use Rattle.cg_session.specs.declared.status.Status.TheVariants as status
use Rattle.cg_session.specs.Output.{Output, IsWritten}
use Rattle.cg_session.specs.Input.{ReadsOut, TakesAtMost}
use Rattle.cg_session.specs.Settings.{session_text, IsWithinLimits}
use Rattle.cg_session.specs.Words.{usage_line}
use Rattle.cg_session.specs.Written.{AppendsFront}

-- The session is within the limits, its input was read to its end where there is no sample, and the whole of what it writes
-- was appended. So many of its lines are refused.
pub record WritesWhole (refused : ℕ) (s : Settings) (text : List ℕ) (left before now : Option (List ℕ)) : Type 0 where
  pub within : IsWithinLimits s text
  pub read : s.sample ≡ 0 → left ≡ Some []
  pub written : List ℕ
  pub is_written : IsWritten s text (record { text = written; refused = refused })
  pub appended : Appends before now written

-- The session is within the limits, its input was read to its end where there is no sample, and a front of what it writes
-- was appended.
pub record WritesFront (s : Settings) (text : List ℕ) (left before now : Option (List ℕ)) : Type 0 where
  pub within : IsWithinLimits s text
  pub read : s.sample ≡ 0 → left ≡ Some []
  pub whole : Output
  pub is_written : IsWritten s text whole
  pub appended : AppendsFront whole.text before now

-- The session is past a limit, its input was read as far as it may be where there is no sample, and nothing was appended.
pub record StopsPastLimits (s : Settings) (input left before now : Option (List ℕ)) : Type 0 where
  pub past : IfSome (session_text s input) (λ text. ¬ IsWithinLimits s text)
  pub read : s.sample ≡ 0 → ReadsOut input left
  pub kept : Keeps before now

-- What was read and written at each end of a session with these settings. The source had `input` and has `left`; the sink
-- had taken `before` and has taken `now`.
abbrev pub WritesSession : Status → Settings → Option (List ℕ) → Option (List ℕ) → Option (List ℕ) → Option (List ℕ) → Type 0
WritesSession status.Done s input left before now =
    IfSome (session_text s input) (λ text. WritesWhole 0 s text left before now)
WritesSession status.Refused s input left before now =
    IfSome (session_text s input) (λ text. (n : ℕ) × (0 < n) × WritesWhole n s text left before now)
WritesSession status.Usage s input left before now = ⊥
WritesSession status.Read s input left before now = (s.sample ≡ 0) × TakesAtMost (2 ^ 20) input left × Keeps before now
WritesSession status.Write s input left before now =
    IfSome (session_text s input) (λ text. WritesFront s text left before now)
WritesSession status.Memory s input left before now = Keeps before now
WritesSession status.TooLong s input left before now = StopsPastLimits s input left before now

-- what was written at each end where the words aren't accepted
abbrev pub WritesUsage : Status → Option (List ℕ) → Option (List ℕ) → Type 0
WritesUsage status.Done before now = ⊥
WritesUsage status.Refused before now = ⊥
WritesUsage status.Usage before now = Appends before now usage_line
WritesUsage status.Read before now = ⊥
WritesUsage status.Write before now = AppendsFront usage_line before now
WritesUsage status.Memory before now = Keeps before now
WritesUsage status.TooLong before now = ⊥

-- What was read and written at each end, by the bytes of the words.
abbrev pub Writes : Status → List (List ℕ) → Option (List ℕ) → Option (List ℕ) → Option (List ℕ) → Option (List ℕ) → Type 0
Writes end words input left before now =
    (IsAccepted words × WritesSession end (settings_of words) input left before now)
    ⊎ ((¬ IsAccepted words) × WritesUsage end before now)

-- the ends at which the whole of what a session writes was written
abbrev pub IsWhole : Status → Type 0
IsWhole end = (end ≡ status.Done) ⊎ (end ≡ status.Refused)

-- the fact, at these ends
abbrev pub AtWhole : Status → Type 0 → Type 0
AtWhole status.Done P = P
AtWhole status.Refused P = P
AtWhole _ P = Unit {0}

-- At such an end, whatever the source and the sink tell: the text is a session within the limits, it is the sample or what the source
-- told, if it told anything; the end says whether a line of it is refused; and the whole of what it writes was appended, and counted.
-- The sink had counted `fewer` bytes and has counted `more`.
pub record IsSessionOf (end : Status) (s : Settings) (input before now : Option (List ℕ)) (fewer more : Option ℕ) (text : List ℕ)
    : Type 0 where
  pub within : IsWithinLimits s text
  pub told : IfSome (session_text s input) (λ all. text ≡ all)
  pub output : Output
  pub is_written : IsWritten s text output
  pub end_is : (end ≡ status.Done) ↔ (output.refused ≡ 0)
  pub appended : Appends before now output.text
  pub counted : CountsMore (length output.text) fewer more

-- how a session may end where neither count of faults rose and the session is within the limits
abbrev pub AnswersOrLacksMemory : Status → Type 0
AnswersOrLacksMemory end = IsWhole end ⊎ (end ≡ status.Memory)

-- how a session may end where it is past a limit
abbrev pub EndsBeforeAnswers : Status → Type 0
EndsBeforeAnswers end = (end ≡ status.TooLong) ⊎ ((end ≡ status.Read) ⊎ (end ≡ status.Memory))

-- how it may end where the words aren't accepted and the sink's count of faults didn't rise
abbrev pub UsageOrLacksMemory : Status → Type 0
UsageOrLacksMemory end = (end ≡ status.Usage) ⊎ (end ≡ status.Memory)
