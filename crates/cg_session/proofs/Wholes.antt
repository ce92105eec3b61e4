-- What is said at an end at which the whole of a session was written.
use Rattle.std.proofs.Common.{◌≡◌, ◌∙◌, ℕ, ◌<◌, List, [], length, Option, Some, None, Result, Ok, Err, false, refl, subst}
use Rattle.std.specs.Prelude.{◌↔◌, IfSome, OnOk, OnSome, is_err}
use Rattle.std.specs.Io.KnownBytes.{Appends}
use Rattle.cg_io.specs.Counts.{CountsMore}
use Rattle.cg_words.specs.declared.settings.Settings.{Settings}
use Rattle.cg_session.specs.declared.status.Status.{Status}
use Rattle.cg_session.specs.declared.status.Status.TheVariants as status
use Rattle.cg_session.specs.Ends.{IsSessionOf, WritesWhole}
use Rattle.cg_session.specs.Input.{ReadsAll}
use Rattle.cg_session.specs.Output.{IsWritten, Output}
use Rattle.cg_session.specs.Settings.{IsWithinLimits, session_text, text_by}

pub on_ok : {T E : Type 0} (r : Result T E) (P : Type 0) → is_err r ≡ false → OnOk r P → P
on_ok (Ok x) P e h = h
on_ok (Err x) P e h = absurd cc

if_some : (o : Option (List ℕ)) (P : List ℕ → Type 0) → ((x : List ℕ) → o ≡ Some x → P x) → IfSome o P
if_some None P h = tt
if_some (Some x) P h = h x refl

told_is : (o : Option (List ℕ)) (text x : List ℕ) → IfSome o (λ all. text ≡ all) → o ≡ Some x → text ≡ x
told_is o text x h e = subst (λ (p : Option (List ℕ)). IfSome p (λ all. text ≡ all)) e h

on_some : (o : Option (List ℕ)) (x : List ℕ) (P : Type 0) → OnSome o P → o ≡ Some x → P
on_some o x P h e = subst (λ (p : Option (List ℕ)). OnSome p P) e h

-- s are the settings that were read, and t those that the words give; `read` is the text that was answered, and `sent` what was written
module _ (s t : Settings) (input before now : Option (List ℕ)) (text read sent : List ℕ) (out : Output) (e : s ≡ t) (f : read ≡ text)
    (h : sent ≡ out.text) (told : IfSome (session_text s input) (λ all. text ≡ all)) (within : IsWithinLimits s read)
    (written : IsWritten s read out) (appended : Appends before now sent) where
  pub whole_refused : (left : Option (List ℕ)) → (s.sample ≡ 0 → ReadsAll input left) → 0 < out.refused
      → IfSome (session_text t input) (λ x. (n : ℕ) × (0 < n) × WritesWhole n t x left before now)
  whole_refused left all some =
      subst (λ (z : Settings). IfSome (session_text z input) (λ x. (n : ℕ) × (0 < n) × WritesWhole n z x left before now)) e
      (if_some (session_text s input) (λ x. (n : ℕ) × (0 < n) × WritesWhole n s x left before now) (λ x is.
      let same : read ≡ x = f ∙ told_is (session_text s input) text x told is in (
        out.refused,
        some,
        record {
          within = subst (IsWithinLimits s) same within;
          read = λ z. on_some input x (left ≡ Some []) (all z) (subst (λ (k : ℕ). text_by k input ≡ Some x) z is);
          written = out.text;
          is_written = subst (λ (l : List ℕ). IsWritten s l out) same written;
          appended = subst (Appends before now) h appended;
        },
      )))

  pub session_of : (end : Status) (fewer more : Option ℕ) → CountsMore (length sent) fewer more
      → ((end ≡ status.Done) ↔ (out.refused ≡ 0)) → IsSessionOf end t input before now fewer more text
  session_of end fewer more counted is =
      subst (λ (z : Settings). IsSessionOf end z input before now fewer more text) e (record {
        within = subst (IsWithinLimits s) f within;
        told = told;
        output = out;
        is_written = subst (λ (l : List ℕ). IsWritten s l out) f written;
        end_is = is;
        appended = subst (Appends before now) h appended;
        counted = subst (λ (l : List ℕ). CountsMore (length l) fewer more) h counted;
      })
