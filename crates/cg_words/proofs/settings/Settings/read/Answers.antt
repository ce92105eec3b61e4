use Rattle.std.proofs.Common.{◌≡◌, ◌∙◌, lit≤, sym}
use Rattle.cg_words.specs.declared.settings.SettingsFault.TheVariants.{Memory, Usage}
use Rattle.cg_words.proofs.NumberReads.{accepted_settings, any_number, cells_read, positions_read, range_of, refused_words, sample_read, workers_read}
use Rattle.cg_words.proofs.settings.Settings.read.Goals as goal
use Rattle.cg_words.proofs.settings.Settings.read.Goals.{in-OutOfMemory, in_default}

pub number-requires : goal.number-requires
number-requires c = any_number _ _ 64 (lit≤ tt) (workers_read _ _ c.in-Ok-try_get_matches_from.ensures.parsed c.in-Ok.ensures.options)

pub number-requires-2 : goal.number-requires-2
number-requires-2 c = any_number _ _ 67108864 (lit≤ tt) (cells_read _ _ c.in-Ok-try_get_matches_from.ensures.parsed c.in-Ok.ensures.options)

pub number-requires-3 : goal.number-requires-3
number-requires-3 c = any_number _ _ 1048576 (lit≤ tt) (positions_read _ _ c.in-Ok-try_get_matches_from.ensures.parsed c.in-Ok.ensures.options)

pub number-requires-4 : goal.number-requires-4
number-requires-4 c = any_number _ _ 4096 (lit≤ tt) (sample_read _ _ c.in-Ok-try_get_matches_from.ensures.parsed c.in-Ok.ensures.options)

pub returns-clause-accepted : goal.returns-clause-accepted
returns-clause-accepted c = accepted_settings _ c.in-Ok-try_get_matches_from.matches _ _ _ _ _ c.in-Ok.ensures.shape
    c.in-Ok-try_get_matches_from.ensures.matches c.in-Ok-try_get_matches_from.ensures.kinds
    c.number.ensures c.number-2.ensures c.number-3.ensures c.number-4.ensures

pub returns-clause-range : goal.returns-clause-range
returns-clause-range c = range_of _ c.in-Ok-try_get_matches_from.matches c.in-Ok-try_get_matches_from.ensures.parsed c.in-Ok.ensures.options _ _ _ _
    c.number.ensures c.number-2.ensures c.number-3.ensures c.number-4.ensures

pub returns-in-Err-try_get_matches_from-clause-refused : goal.returns-in-Err-try_get_matches_from-clause-refused
returns-in-Err-try_get_matches_from-clause-refused c = λ usage taken. elim c.match-kind.branch [
  | in-OutOfMemory w ↦ let bad : Memory ≡ Usage = sym w.result-is ∙ usage in cc
  | in_default w ↦ refused_words _ c.in-Err-try_get_matches_from.error c.kind.result _ c.in-Ok.ensures.shape c.kind.ensures
      c.in-Err-try_get_matches_from.ensures.kinds w.in_default.not-OutOfMemory taken
]
