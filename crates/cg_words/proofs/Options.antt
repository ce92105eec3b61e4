-- How the command comes to have its options.
use Rattle.std.proofs.Common.{◌≡◌, ◌∙◌, ◌<◌, ◌∷◌, ◌++◌, ◌||◌, [], ℕ, Bool, List, ap, ap₂, sym, subst, codes, length, false}
use Rattle.clap.specs.Words.{AddsArg, SameRules, Text, app_of, args_of, groups_of, rule_of, with_rule}
use Rattle.clap.specs.declared.builder.action.ArgAction.TheVariants.{Set}
use Rattle.clap.specs.declared.builder.arg.Arg.{Arg}
use Rattle.clap.specs.declared.builder.command.Command.{Command}
use Rattle.clap.specs.declared.builder.command.Command.TheViews.{out-Command as fields_of}
use Rattle.clap.proofs.BuiltLemmas.{plain_same}
use Rattle.cg_words.specs.Accepted.{bare_command, cg_command, number_option, number_option_or}
use Rattle.cg_words.specs.Options.{HasOptions, IsOption, IsOptionOr}

same_option : (id : Text) (most : ℕ) (a b : Arg) → SameRules a b → IsOption id most a → IsOption id most b
same_option id most a b r h = record {
  named = ap (λ x. x.now) r.id ∙ h.named;
  plain = plain_same a b r h.plain;
  set = r.action Set h.set;
  delimiter = r.val_delim ∙ h.delimiter;
  least = r.least h.set h.least;
  parser = r.parser _ h.parser;
  local = r.global ∙ h.local;
  unconditional = r.ifs ∙ h.unconditional;
}

same_option_or : (id : Text) (most : ℕ) (a b : Arg) → SameRules a b → IsOptionOr id most a → IsOptionOr id most b
same_option_or id most a b r h = record {
  option = same_option id most a b r h.option;
  default = subst (λ (l : List _). 0 < length l) (sym (r.defaults h.default)) h.default;
}

pub has_options : (c0 c1 c2 c3 c4 : Command) (w n p s : Arg) → args_of c0 ≡ [] → groups_of c0 ≡ []
    → (fields_of c0).has_globals ≡ false → (fields_of c0).subcommand_negates_reqs ≡ false
    → IsOptionOr (codes "workers") 64 w → IsOptionOr (codes "cells") 67108864 n → IsOptionOr (codes "positions") 1048576 p
    → IsOption (codes "sample") 4096 s
    → AddsArg c0 w c1 → AddsArg c1 n c2 → AddsArg c2 p c3 → AddsArg c3 s c4 → HasOptions c4
has_options c0 c1 c2 c3 c4 w n p s args groups globals negates hw hn hp hs a1 a2 a3 a4 =
    let l1 : args_of c1 ≡ a1.arg ∷ [] = a1.args ∙ ap (λ (l : List Arg). l ++ a1.arg ∷ []) args in
    let l2 : args_of c2 ≡ a1.arg ∷ a2.arg ∷ [] = a2.args ∙ ap (λ (l : List Arg). l ++ a2.arg ∷ []) l1 in
    let l3 : args_of c3 ≡ a1.arg ∷ a2.arg ∷ a3.arg ∷ [] = a3.args ∙ ap (λ (l : List Arg). l ++ a3.arg ∷ []) l2 in
    let l4 : args_of c4 ≡ a1.arg ∷ a2.arg ∷ a3.arg ∷ a4.arg ∷ [] = a4.args ∙ ap (λ (l : List Arg). l ++ a4.arg ∷ []) l3 in
    let both : (x y : Bool) → x ≡ false → y ≡ false → (x || y) ≡ false = λ x y h k. ap₂ (λ (u v : Bool). u || v) h k in
    let g1 : (fields_of c1).has_globals ≡ false = a1.globals ∙ both _ _ globals hw.option.local in
    let g2 : (fields_of c2).has_globals ≡ false = a2.globals ∙ both _ _ g1 hn.option.local in
    let g3 : (fields_of c3).has_globals ≡ false = a3.globals ∙ both _ _ g2 hp.option.local in
    let g4 : (fields_of c4).has_globals ≡ false = a4.globals ∙ both _ _ g3 hs.local in record {
      workers = a1.arg;
      cells = a2.arg;
      positions = a3.arg;
      sample = a4.arg;
      all = l4;
      is_workers = same_option_or _ _ w a1.arg a1.rules hw;
      is_cells = same_option_or _ _ n a2.arg a2.rules hn;
      is_positions = same_option_or _ _ p a3.arg a3.rules hp;
      is_sample = same_option _ _ s a4.arg a4.rules hs;
      groups = a4.groups ∙ (a3.groups ∙ (a2.groups ∙ (a1.groups ∙ groups)));
      globals = g4;
      negates = a4.negates ∙ (a3.negates ∙ (a2.negates ∙ (a1.negates ∙ negates)));
    }

pub is_cg_command : (c0 c1 c2 c3 c4 : Command) (w n p s : Arg) → app_of c0 ≡ bare_command
    → (w.global ≡ false) → (n.global ≡ false) → (p.global ≡ false) → (s.global ≡ false)
    → rule_of w ≡ number_option_or (codes "workers") 64 (codes "4")
    → rule_of n ≡ number_option_or (codes "cells") 67108864 (codes "4194304")
    → rule_of p ≡ number_option_or (codes "positions") 1048576 (codes "65536")
    → rule_of s ≡ number_option (codes "sample") 4096
    → AddsArg c0 w c1 → AddsArg c1 n c2 → AddsArg c2 p c3 → AddsArg c3 s c4 → app_of c4 ≡ cg_command
unfolding cg_command
is_cg_command c0 c1 c2 c3 c4 w n p s start lw ln lp ls rw_ rn rp rs a1 a2 a3 a4 =
    let s1 = a1.shape lw ∙ ap₂ with_rule start rw_ in
    let s2 = a2.shape ln ∙ ap₂ with_rule s1 rn in
    let s3 = a3.shape lp ∙ ap₂ with_rule s2 rp in
    a4.shape ls ∙ ap₂ with_rule s3 rs
