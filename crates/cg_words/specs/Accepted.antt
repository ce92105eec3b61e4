-- The words that the program accepts, and the settings that they give, in clap's own words for a simple command.
use Rattle.std.specs.Prelude.{◌≡◌, ◌≤◌, ℕ, true, List, [], ◌∷◌, Some, codes}
use Rattle.std.specs.Option.{option_map_or}
use Rattle.std.specs.Str.Parse.{digits_value, without_leading_plus}
use Rattle.clap.specs.Words.{App, Rule, Text, takes, matches_of, new_app, new_rule, one_of, with_rule}
use Rattle.clap.specs.declared.builder.action.ArgAction.TheVariants.{Set}
use Rattle.clap.specs.declared.builder.value_parser.ValueParser.TheVariants as vp
use Rattle.cg_words.specs.declared.settings.Settings.{Settings}

-- an option that takes one number from 1 to `most`
abbrev pub number_option : Text → ℕ → Rule
number_option name most = record (new_rule name) {
  long = Some name;
  action = Some Set;
  parser = Some (vp.Unsigned 1 most);
}

-- the same, with the value that it has where it isn't given
abbrev pub number_option_or : Text → ℕ → Text → Rule
number_option_or name most default = record (number_option name most) { defaults = default ∷ [] }

-- the command without its options; its words begin after the program's name
abbrev pub bare_command : App
bare_command = record (new_app (codes "cg")) {
  top = record ((new_app (codes "cg")).top) { no_binary_name = true };
}

-- the command with its four options
unfoldable pub cg_command : App
cg_command = with_rule (with_rule (with_rule (with_rule bare_command
    (number_option_or (codes "workers") 64 (codes "4")))
    (number_option_or (codes "cells") 67108864 (codes "4194304")))
    (number_option_or (codes "positions") 1048576 (codes "65536")))
    (number_option (codes "sample") 4096)

-- the command takes the words
unfoldable pub IsAccepted : List Text → Type 0
IsAccepted words = takes cg_command words ≡ true

-- the number that `u64` reads from the first value of the option, or 0 where it has none
unfoldable pub number_at : Text → List Text → ℕ
number_at id words = option_map_or (λ text. digits_value 10 (without_leading_plus text))
    (one_of id (matches_of cg_command words)) 0

-- the settings that the words give, where they are accepted
unfoldable pub settings_of : List Text → Settings
settings_of words = record {
  workers = number_at (codes "workers") words;
  cells = number_at (codes "cells") words;
  positions = number_at (codes "positions") words;
  sample = number_at (codes "sample") words;
}

-- the words are accepted, and give these settings
pub record Accepted (words : List Text) (settings : Settings) : Type 0 where
  pub taken : IsAccepted words
  pub values : settings ≡ settings_of words

-- settings in their ranges
pub record InRange (s : Settings) : Type 0 where
  pub workers : (1 ≤ s.workers) × (s.workers ≤ 64)
  pub cells : (1 ≤ s.cells) × (s.cells ≤ 67108864)
  pub positions : (1 ≤ s.positions) × (s.positions ≤ 1048576)
  pub sample : s.sample ≤ 4096
