use Rattle.std.proofs.Common.{◌≡◌, ◌∙◌, ap, [], true, false}
use Rattle.std.proofs.lemmas.Result.{IfOk-weaker}
use Rattle.clap.specs.Words.{App, app_of, args_of, groups_of}
use Rattle.clap.specs.Simple.{app_of_fields}
use Rattle.clap.specs.declared.builder.command.Command.{Command}
use Rattle.clap.specs.declared.builder.command.Command.TheOpen.{Command-F}
use Rattle.clap.specs.declared.builder.command.Command.TheViews.{out-Command as fields_of}
use Rattle.cg_words.specs.Accepted.{bare_command}
use Rattle.cg_words.proofs.Options.{has_options, is_cg_command}
use Rattle.cg_words.proofs.command.command.Goals as goal

pub returns-clause-shape : goal.returns-clause-shape
returns-clause-shape c =
    let start : app_of c.no_binary_name.result ≡ bare_command =
    ap app_of_fields c.no_binary_name.ensures ∙ ap (λ (a : App). record a { top = record a.top { no_binary_name = true } }) c.new.ensures.app in
    IfOk-weaker c.arg-4.result _ _ (λ m h. is_cg_command _ _ _ _ m _ _ _ _ start
    c.number_option_or-workers.ensures.option.option.local c.number_option_or-cells.ensures.option.option.local
    c.number_option_or-positions.ensures.option.option.local c.number_option-sample.ensures.option.local
    c.number_option_or-workers.ensures.rule c.number_option_or-cells.ensures.rule
    c.number_option_or-positions.ensures.rule c.number_option-sample.ensures.rule
    c.in_ok-arg.ensures c.in_ok-arg-2.ensures c.in_ok-arg-3.ensures h) c.arg-4.ensures

pub returns-clause-options : goal.returns-clause-options
returns-clause-options c =
    let same = c.no_binary_name.ensures in
    let args : args_of c.no_binary_name.result ≡ [] = ap (λ (f : Command-F Command). f.args.items) same ∙ c.new.ensures.empty.0 in
    let groups : groups_of c.no_binary_name.result ≡ [] = ap (λ (f : Command-F Command). f.groups.items) same ∙ c.new.ensures.empty.1 in
    let globals : (fields_of c.no_binary_name.result).has_globals ≡ false = ap (λ (f : Command-F Command). f.has_globals) same ∙ c.new.ensures.local in
    let negates : (fields_of c.no_binary_name.result).subcommand_negates_reqs ≡ false = ap (λ (f : Command-F Command). f.subcommand_negates_reqs)
    same ∙ c.new.ensures.negates in
    IfOk-weaker c.arg-4.result _ _ (λ m h. has_options _ _ _ _ m _ _ _ _ args groups globals negates
    c.number_option_or-workers.ensures.option c.number_option_or-cells.ensures.option
    c.number_option_or-positions.ensures.option c.number_option-sample.ensures.option
    c.in_ok-arg.ensures c.in_ok-arg-2.ensures c.in_ok-arg-3.ensures h) c.arg-4.ensures
