-- What reading a rules text says of it.
use Rattle.std.proofs.Common.{◌≡◌, ℕ, suc, ◌+◌, ◌^◌, ◌<◌, ◌≤◌, inl, inr, List, length, None, Result, Ok, Err, ap, sym, ◌∙◌}
use Rattle.std.specs.Prelude.{All, IfOk, IfErr}
use Rattle.cg_reading.specs.Readers.{whole_at}
use Rattle.cg_reading.proofs.WholeLines.{whole_takes, whole_once, whole_stops, whole_left}
use Rattle.cg_moves.specs.declared.fault.BoardFault.{BoardFault}
use Rattle.cg_moves.specs.declared.fault.BoardFault.TheVariants as faults
use Rattle.cg_strip.specs.Grammar.{Items, rules_text}
use Rattle.cg_strip.specs.Reading.{rules_text_at}
use Rattle.cg_strip.specs.Rulebook.{Rulebook, IsRulebook}
use Rattle.cg_strip.specs.RuleFaults.{HasPlaces, IsReadAs, IsRefused, IsRulesPlace, book_of}
use Rattle.cg_strip.specs.Faults.{fault_of, IsStripOf}
use Rattle.cg_strip.proofs.WholeText.{rules_text_ok}
use Rattle.cg_strip.proofs.BrokenRules.{none_broken, broken_at}
use Rattle.cg_strip.proofs.Rulebooks.{text_places, book_sound}

takes : (text : List ℕ) (t : Items) → whole_at rules_text_at text ≡ Ok t → rules_text 1 t text
takes text t h = whole_takes rules_text rules_text_at _ _ _ rules_text_ok text t h

pub read_places : (text : List ℕ) (t : Items) → whole_at rules_text_at text ≡ Ok t → length text + 1 < 2 ^ 64 → All HasPlaces t.rules
read_places text t h n = text_places t text (takes text t h) n

pub read_book : (text : List ℕ) (t : Items) → whole_at rules_text_at text ≡ Ok t → fault_of t ≡ None → IsRulebook (book_of t)
read_book text t h e = book_sound t text (takes text t h) e

pub read_ok : (text : List ℕ) (t : Items) (r : Result Rulebook BoardFault) → whole_at rules_text_at text ≡ Ok t → IsStripOf t (fault_of t) r →
    IfOk r (IsReadAs text)
read_ok text t (Ok book) h o = let is = takes text t h in record { items = t; is = is; sound = none_broken t text is o.0; same = o.1 }
read_ok text t (Err f) h o = tt

pub read_err : (text : List ℕ) (t : Items) (r : Result Rulebook BoardFault) → whole_at rules_text_at text ≡ Ok t → IsStripOf t (fault_of t) r →
    IfErr r (IsRefused text)
read_err text t (Ok book) h o = tt
read_err text t (Err faults.Memory) h o = tt
read_err text t (Err (faults.Rules p)) h o = let is = takes text t h in inr (t, is, broken_at t text p is o)
read_err text t (Err (faults.Symbol p)) h o = o
read_err text t (Err (faults.Empty p)) h o = o
read_err text t (Err (faults.Ragged p)) h o = o
read_err text t (Err (faults.Large p)) h o = o
read_err text t (Err (faults.Lowering p)) h o = o

pub stuck_left : (text : List ℕ) (n : ℕ) → whole_at rules_text_at text ≡ Err n → n ≤ length text
stuck_left text n h = whole_left rules_text rules_text_at _ _ _ rules_text_ok text n h

pub stuck_place : (text : List ℕ) (n p : ℕ) → whole_at rules_text_at text ≡ Err n → p + n ≡ suc (length text) → IsRulesPlace text p
stuck_place text n p h e = inl (whole_stops rules_text rules_text_at _ _ _ rules_text_ok text n p h e)

-- no text reads as two games
pub one_reading : (text : List ℕ) (book other : Rulebook) → IsReadAs text book → IsReadAs text other → book ≡ other
one_reading text book other a b = a.same ∙ ap book_of (whole_once rules_text rules_text_at _ _ _ rules_text_ok text a.items b.items a.is b.is) ∙ sym b.same
