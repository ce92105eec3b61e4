-- What the private contracts need of the options of the command that the code builds.
use Rattle.std.specs.Prelude.{◌≡◌, ◌≤◌, ◌<◌, ℕ, false, [], ◌∷◌, Some, None, codes, length}
use Rattle.std.specs.Option.{option_map_or}
use Rattle.std.specs.Str.Parse.{digits_value, without_leading_plus}
use Rattle.clap.specs.Texts.{items_of}
use Rattle.clap.specs.Words.{Text, IsPlainArg, args_of, groups_of, one_text}
use Rattle.clap.specs.Facts.{least_values}
use Rattle.clap.specs.declared.builder.action.ArgAction.TheVariants.{Set}
use Rattle.clap.specs.declared.builder.arg.Arg.{Arg}
use Rattle.clap.specs.declared.builder.command.Command.{Command}
use Rattle.clap.specs.declared.builder.command.Command.TheViews.{out-Command as fields_of}
use Rattle.clap.specs.declared.builder.value_parser.ValueParser.TheVariants as vp
use Rattle.clap.specs.declared.parser.matches.Found.{Found}

-- the number that `u64` reads from the first value that a parse found of the option, or 0 where it found none
abbrev pub number_in : Found → Text → ℕ
number_in f id = option_map_or (λ text. digits_value 10 (without_leading_plus text)) (one_text f id) 0

-- an option that takes one number from 1 to `most`
pub record IsOption (id : Text) (most : ℕ) (a : Arg) : Type 0 where
  pub named : a.id.now ≡ id
  pub plain : IsPlainArg a
  pub set : a.action ≡ Some Set
  pub delimiter : a.val_delim ≡ None
  pub least : 1 ≤ least_values a
  pub parser : a.value_parser ≡ Some (vp.Unsigned 1 most)
  pub local : a.global ≡ false
  pub unconditional : a.default_vals_ifs.items ≡ []

-- one that has a default
pub record IsOptionOr (id : Text) (most : ℕ) (a : Arg) : Type 0 where
  pub option : IsOption id most a
  pub default : 0 < length (items_of a.default_vals)

-- a command with the four options, and nothing else
pub record HasOptions (c : Command) : Type 0 where
  pub workers : Arg
  pub cells : Arg
  pub positions : Arg
  pub sample : Arg
  pub all : args_of c ≡ workers ∷ cells ∷ positions ∷ sample ∷ []
  pub is_workers : IsOptionOr (codes "workers") 64 workers
  pub is_cells : IsOptionOr (codes "cells") 67108864 cells
  pub is_positions : IsOptionOr (codes "positions") 1048576 positions
  pub is_sample : IsOption (codes "sample") 4096 sample
  pub groups : groups_of c ≡ []
  pub globals : (fields_of c).has_globals ≡ false
  pub negates : (fields_of c).subcommand_negates_reqs ≡ false
