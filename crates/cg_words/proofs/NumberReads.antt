-- What the program's options read as after a parse.
use Rattle.std.proofs.Common.{zero, suc, ◌≡◌, ◌∙◌, ◌<◌, ◌≤◌, ap, ℕ, true, false, List, [], ◌∷◌, length, is_some, Option, Some, None, refl, sym, subst}
use Rattle.std.proofs.Common.{inl, inr, arith, codes, ◌==◌, eqb-true}
use Rattle.std.specs.List.{All, slice_index_or}
use Rattle.std.specs.Str.{bytes_eq}
use Rattle.std.specs.Option.{option_map_or}
use Rattle.std.specs.Str.Parse.{digits_value, without_leading_plus}
use Rattle.std.proofs.lemmas.List.{get_or_default}
use Rattle.std.proofs.lemmas.Slice.Eq.{bytes_eq-Decides}
use Rattle.clap.specs.Texts.{items_of}
use Rattle.clap.specs.declared.builder.arg.Arg.{Arg}
use Rattle.clap.specs.declared.builder.command.Command.{Command}
use Rattle.clap.specs.declared.builder.value_parser.ValueParser.TheVariants as vp
use Rattle.clap.specs.declared.parser.matches.ArgMatches.{ArgMatches}
use Rattle.clap.specs.Facts.{args_of}
use Rattle.clap.specs.Built.{IsParsedFrom, IsPlain, IsPlainArg}
use Rattle.clap.specs.Matches.{found_of, matched_of, one_text}
use Rattle.clap.specs.Values.{IsUnsignedIn}
use Rattle.clap.specs.Words.{App, HasKind, HasMatchesOf, IsAmong, Kinds, Text, fault_of, is_simple, is_simple_and_free, kind_of, matches_of, one_of, rows_of}
use Rattle.clap.specs.declared.error.Error.{Error}
use Rattle.clap.specs.declared.error.kind.ErrorKind.{ErrorKind}
use Rattle.clap.specs.declared.error.kind.ErrorKind.TheVariants.{OutOfMemory}
use Rattle.clap.specs.declared.parser.matches.MatchedArg.{MatchedArg}
use Rattle.clap.proofs.CallerLemmas.{default_present}
use Rattle.clap.proofs.WalkLemmas.{one_text-rows}
use Rattle.cg_words.specs.Accepted.{Accepted, InRange, IsAccepted, cg_command, number_at, settings_of}
use Rattle.cg_words.specs.Options.{HasOptions, IsOption, number_in}
use Rattle.cg_words.proofs.TakesWords.{faultless_of_taken, taken_of_faultless}
use Rattle.cg_words.proofs.OptionReads.{entry_reads, found_in}

apart : (s t : Text) → bytes_eq s t ≡ false → s ≡ t → ⊥
apart s t differ e = let yes : bytes_eq s t ≡ true = (bytes_eq-Decides s t).1 e in cc

all_four : (P : Arg → Type 0) (a b c d : Arg) → P a → P b → P c → P d → All P (a ∷ b ∷ c ∷ d ∷ [])
all_four P a b c d pa pb pc pd zero e lt = pa
all_four P a b c d pa pb pc pd (suc zero) e lt = pb
all_four P a b c d pa pb pc pd (suc (suc zero)) e lt = pc
all_four P a b c d pa pb pc pd (suc (suc (suc zero))) e lt = pd
all_four P a b c d pa pb pc pd (suc (suc (suc (suc k)))) e lt = absurd (omega arith)

-- an option's place in the command, and that no other has its name
pub record IsPlace (c : Command) (id : Text) (most : ℕ) (k : ℕ) : Type 0 where
  pub a : Arg
  pub at : slice_index_or (args_of c) k a ≡ a
  pub within : k < length (args_of c)
  pub option : IsOption id most a
  pub unique : (j : ℕ) (e : Arg) → j < length (args_of c) → bytes_eq (slice_index_or (args_of c) j e).id.now id ≡ true → j ≡ k

plain_command : (c : Command) → HasOptions c → IsPlain c
plain_command c o = (
  subst (All IsPlainArg) (sym o.all) (all_four IsPlainArg _ _ _ _ o.is_workers.option.plain o.is_cells.option.plain o.is_positions.option.plain
      o.is_sample.plain),
  o.groups,
)

option_reads : (c : Command) (m : ArgMatches) → IsParsedFrom c m → HasOptions c → (id : Text) (most k : ℕ) → IsPlace c id most k
    → bytes_eq id [] ≡ false → bytes_eq id (codes "help") ≡ false → bytes_eq id (codes "version") ≡ false
    → is_some (matched_of (found_of m) id) ≡ true
    → (t : Text) × (one_text (found_of m) id ≡ Some t) × IsUnsignedIn 1 most t
option_reads c m p o id most k place named help version some =
    let same : (slice_index_or (args_of c) k place.a).id.now ≡ id = ap (λ (x : Arg). x.id.now) place.at ∙ place.option.named in
    let of : IsOption id most (slice_index_or (args_of c) k place.a) = subst (IsOption id most) (sym place.at) place.option in
    let got = entry_reads c m p (plain_command c o) o.globals k place.a place.within of.set of.delimiter of.least
    (λ j e lt h. place.unique j e lt (rw same at h))
    (λ e. apart _ _ named (sym same ∙ e))
    (λ auto. elim auto [ inl h ↦ apart _ _ help (sym same ∙ h) | inr h ↦ apart _ _ version (sym same ∙ h) ])
    (vp.Unsigned 1 most) of.parser (rw same some) in
    (got.0, subst (λ (x : Text). one_text (found_of m) x ≡ Some got.0) same got.1, got.2)

-- where the ids of the list tell apart the one at place k, it is the only one with the id
only_place : (id : Text) (k : ℕ) (w n p s : Arg) → (bytes_eq w.id.now id ≡ (0 == k)) → (bytes_eq n.id.now id ≡ (1 == k)) → (bytes_eq p.id.now id ≡ (2 == k))
    → (bytes_eq s.id.now id ≡ (3 == k))
    → (j : ℕ) (e : Arg) → j < length (w ∷ n ∷ p ∷ s ∷ []) → bytes_eq (slice_index_or (w ∷ n ∷ p ∷ s ∷ []) j e).id.now id ≡ true → j ≡ k
only_place id k w n p s hw hn hp hs zero e lt h = eqb-true 0 k (sym hw ∙ h)
only_place id k w n p s hw hn hp hs (suc zero) e lt h = eqb-true 1 k (sym hn ∙ h)
only_place id k w n p s hw hn hp hs (suc (suc zero)) e lt h = eqb-true 2 k (sym hp ∙ h)
only_place id k w n p s hw hn hp hs (suc (suc (suc zero))) e lt h = eqb-true 3 k (sym hs ∙ h)
only_place id k w n p s hw hn hp hs (suc (suc (suc (suc j)))) e lt h = absurd (omega arith)

unfoldable IsOnly : List Arg → Text → ℕ → Type 0
IsOnly l id k = (j : ℕ) (e : Arg) → j < length l → bytes_eq (slice_index_or l j e).id.now id ≡ true → j ≡ k

only_in : (c : Command) (o : HasOptions c) (id : Text) (k : ℕ) → (bytes_eq (codes "workers") id ≡ (0 == k)) → (bytes_eq (codes "cells") id ≡ (1 == k))
    → (bytes_eq (codes "positions") id ≡ (2 == k)) → (bytes_eq (codes "sample") id ≡ (3 == k)) → IsOnly (args_of c) id k
unfolding IsOnly
only_in c o id k tw tn tp ts = subst (λ (l : List Arg). IsOnly l id k) (sym o.all)
    (only_place id k o.workers o.cells o.positions o.sample (rw o.is_workers.option.named tw) (rw o.is_cells.option.named tn)
    (rw o.is_positions.option.named tp) (rw o.is_sample.named ts))

four_long : (c : Command) (o : HasOptions c) (k : ℕ) → k < 4 → k < length (args_of c)
four_long c o k lt = rw o.all lt

workers_place : (c : Command) (o : HasOptions c) → IsPlace c (codes "workers") 64 0
unfolding IsOnly
workers_place c o = record {
  a = o.workers;
  at = ap (λ (l : List Arg). slice_index_or l 0 o.workers) o.all;
  within = four_long c o 0 (omega arith);
  option = o.is_workers.option;
  unique = only_in c o (codes "workers") 0 refl refl refl refl;
}

cells_place : (c : Command) (o : HasOptions c) → IsPlace c (codes "cells") 67108864 1
unfolding IsOnly
cells_place c o = record {
  a = o.cells;
  at = ap (λ (l : List Arg). slice_index_or l 1 o.cells) o.all;
  within = four_long c o 1 (omega arith);
  option = o.is_cells.option;
  unique = only_in c o (codes "cells") 1 refl refl refl refl;
}

positions_place : (c : Command) (o : HasOptions c) → IsPlace c (codes "positions") 1048576 2
unfolding IsOnly
positions_place c o = record {
  a = o.positions;
  at = ap (λ (l : List Arg). slice_index_or l 2 o.positions) o.all;
  within = four_long c o 2 (omega arith);
  option = o.is_positions.option;
  unique = only_in c o (codes "positions") 2 refl refl refl refl;
}

sample_place : (c : Command) (o : HasOptions c) → IsPlace c (codes "sample") 4096 3
unfolding IsOnly
sample_place c o = record {
  a = o.sample;
  at = ap (λ (l : List Arg). slice_index_or l 3 o.sample) o.all;
  within = four_long c o 3 (omega arith);
  option = o.is_sample;
  unique = only_in c o (codes "sample") 3 refl refl refl refl;
}

-- ---- what is read, where it is there, and that it is there where it has a default

-- a text that is read of an option is a number in its range
unfoldable pub Reads : ArgMatches → Text → ℕ → Type 0
Reads m id most = (t : Text) → one_text (found_of m) id ≡ Some t → IsUnsignedIn 1 most t

some_entry : (m : ArgMatches) (id t : Text) → one_text (found_of m) id ≡ Some t → is_some (matched_of (found_of m) id) ≡ true
some_entry m id t e = go (matched_of (found_of m) id) refl
  where
    go : (o : Option MatchedArg) → matched_of (found_of m) id ≡ o → is_some (matched_of (found_of m) id) ≡ true
    go None n =
        let bad : None ≡ Some t = rw n at e in
        cc
    go (Some x) n = rw n refl

some_injective : (s t : Text) → Some s ≡ Some t → s ≡ t
some_injective s t e = cc

reads_of : (c : Command) (m : ArgMatches) → IsParsedFrom c m → HasOptions c → (id : Text) (most k : ℕ) → IsPlace c id most k
    → bytes_eq id [] ≡ false → bytes_eq id (codes "help") ≡ false → bytes_eq id (codes "version") ≡ false → Reads m id most
unfolding Reads
reads_of c m p o id most k place named help version t e =
    let got = option_reads c m p o id most k place named help version (some_entry m id t e) in
    subst (IsUnsignedIn 1 most) (some_injective got.0 t (sym got.1 ∙ e)) got.2

-- the number read of an option with a default
default_number : (c : Command) (m : ArgMatches) → IsParsedFrom c m → HasOptions c → (id : Text) (most k : ℕ) → IsPlace c id most k
    → bytes_eq id [] ≡ false → bytes_eq id (codes "help") ≡ false → bytes_eq id (codes "version") ≡ false
    → ((a : Arg) → slice_index_or (args_of c) k a ≡ a → 0 < length (items_of a.default_vals))
    → (1 ≤ number_in (found_of m) id) × (number_in (found_of m) id ≤ most)
default_number c m p o id most k place named help version has =
    let same : (slice_index_or (args_of c) k place.a).id.now ≡ id = ap (λ (x : Arg). x.id.now) place.at ∙ place.option.named in
    let there = default_present c m p o.globals k place.a place.within (
      ap (λ (x : Arg). x.default_vals_ifs.items) place.at ∙
          place.option.unconditional,
      rw place.at (has place.a place.at),
    ) in
    let found : is_some (matched_of (found_of m) id) ≡ true = rw same at (found_in (found_of m).entries.items (slice_index_or (args_of c) k
    place.a).id.now there) in
    let got = option_reads c m p o id most k place named help version found in
    (rw got.1 got.2.2, rw got.1 got.2.3)

number_bound : (m : ArgMatches) (id : Text) (most : ℕ) → Reads m id most → number_in (found_of m) id ≤ most
unfolding Reads
number_bound m id most reads = go (one_text (found_of m) id) refl
  where
    go : (o : Option Text) → one_text (found_of m) id ≡ o → number_in (found_of m) id ≤ most
    go None e = rw e (omega arith)
    go (Some t) e = rw e (reads t e).3

pub workers_read : (c : Command) (m : ArgMatches) → IsParsedFrom c m → HasOptions c → Reads m (codes "workers") 64
workers_read c m p o = reads_of c m p o (codes "workers") 64 0 (workers_place c o) refl refl refl

pub cells_read : (c : Command) (m : ArgMatches) → IsParsedFrom c m → HasOptions c → Reads m (codes "cells") 67108864
cells_read c m p o = reads_of c m p o (codes "cells") 67108864 1 (cells_place c o) refl refl refl

pub positions_read : (c : Command) (m : ArgMatches) → IsParsedFrom c m → HasOptions c → Reads m (codes "positions") 1048576
positions_read c m p o = reads_of c m p o (codes "positions") 1048576 2 (positions_place c o) refl refl refl

pub sample_read : (c : Command) (m : ArgMatches) → IsParsedFrom c m → HasOptions c → Reads m (codes "sample") 4096
sample_read c m p o = reads_of c m p o (codes "sample") 4096 3 (sample_place c o) refl refl refl

-- a text in a range lies in a larger one
pub any_number : (m : ArgMatches) (id : Text) (most : ℕ) → most ≤ 67108864 → Reads m id most
    → (t : Text) → one_text (found_of m) id ≡ Some t → IsUnsignedIn 1 67108864 t
unfolding Reads
any_number m id most le reads t e = let h = reads t e in (h.0, h.1, h.2, omega (arith, h.3))

same_arg : (c : Command) (k : ℕ) (x y : Arg) → k < length (args_of c) → slice_index_or (args_of c) k x ≡ x → slice_index_or (args_of c) k y ≡ y → x ≡ y
same_arg c k x y lt hx hy = sym hx ∙ (get_or_default (args_of c) k x y lt ∙ hy)

pub range_of : (c : Command) (m : ArgMatches) → IsParsedFrom c m → HasOptions c → (w n p s : ℕ)
    → w ≡ number_in (found_of m) (codes "workers") → n ≡ number_in (found_of m) (codes "cells")
    → p ≡ number_in (found_of m) (codes "positions") → s ≡ number_in (found_of m) (codes "sample")
    → InRange (record { workers = w; cells = n; positions = p; sample = s })
unfolding workers_place cells_place positions_place
range_of c m h o w n p s ew en ep es =
    let a = workers_place c o in
    let b = cells_place c o in
    let d = positions_place c o in record {
      workers = rw ew (default_number c m h o (codes "workers") 64 0 a refl refl refl
          (λ x e. rw (same_arg c 0 x o.workers a.within e a.at) o.is_workers.default));
      cells = rw en (default_number c m h o (codes "cells") 67108864 1 b refl refl refl
          (λ x e. rw (same_arg c 1 x o.cells b.within e b.at) o.is_cells.default));
      positions = rw ep (default_number c m h o (codes "positions") 1048576 2 d refl refl refl
          (λ x e. rw (same_arg c 2 x o.positions d.within e d.at) o.is_positions.default));
      sample = rw es (number_bound m (codes "sample") 4096 (sample_read c m h o));
    }

-- ---- the meaning of the words

pub is_simple_command : is_simple cg_command ≡ true
unfolding cg_command
is_simple_command = refl

pub is_free_command : is_simple_and_free cg_command ≡ true
unfolding cg_command
is_free_command = refl

pub number_at_words : (m : ArgMatches) (id : Text) (words : List Text) → rows_of (found_of m) ≡ matches_of cg_command words
    → number_in (found_of m) id ≡ number_at id words
unfolding number_at
number_at_words m id words rows =
    let f = λ (o : Option Text). option_map_or (λ t. digits_value 10 (without_leading_plus t)) o 0 in
    ap f (one_text-rows (found_of m) id ∙ ap (one_of id) rows)

pub accepted_settings : (a : App) (m : ArgMatches) (words : List Text) (w n p s : ℕ) → a ≡ cg_command
    → HasMatchesOf a words m → (is_simple_and_free a ≡ true → fault_of a words ≡ [])
    → w ≡ number_in (found_of m) (codes "workers") → n ≡ number_in (found_of m) (codes "cells")
    → p ≡ number_in (found_of m) (codes "positions") → s ≡ number_in (found_of m) (codes "sample")
    → Accepted words (record { workers = w; cells = n; positions = p; sample = s })
unfolding IsAccepted settings_of
accepted_settings a m words w n p s is has none ew en ep es =
    let rows : rows_of (found_of m) ≡ matches_of cg_command words = (has (ap is_simple is ∙ is_simple_command)).0 ∙ ap (λ (x : App). matches_of x words) is in
    let w2 = ew ∙ number_at_words m (codes "workers") words rows in
    let n2 = en ∙ number_at_words m (codes "cells") words rows in
    let p2 = ep ∙ number_at_words m (codes "positions") words rows in
    let s2 = es ∙ number_at_words m (codes "sample") words rows in record {
      taken = taken_of_faultless words (ap (λ (x : App). fault_of x words) (sym is) ∙ none (ap is_simple_and_free is ∙ is_free_command));
      values = rw (w2, n2, p2, s2) refl;
    }

pub refused_words : (a : App) (e : Error) (kind : ErrorKind) (words : List Text) → a ≡ cg_command → kind ≡ kind_of e
    → (is_simple_and_free a ≡ true → HasKind (fault_of a words) e) → (kind ≡ OutOfMemory → ⊥) → IsAccepted words → ⊥
unfolding IsAccepted
refused_words a e kind words is same fails not_memory taken = elim (fails (ap is_simple_and_free is ∙ is_free_command)) [
  | inl memory ↦ not_memory (same ∙ memory)
  | inr among ↦ subst (λ (k : Kinds). IsAmong (kind_of e) k) (ap (λ (x : App). fault_of x words) is ∙ faultless_of_taken words taken) among
]
