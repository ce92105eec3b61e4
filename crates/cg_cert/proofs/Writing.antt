-- The pieces of a proof, put one behind another.
use Rattle.std.proofs.Common.{◌≡◌, refl, ap, sym, ◌∙◌, append_assoc, append-nil, ℕ, ◌≤◌, arith, length, length-append, List}
use Rattle.std.proofs.Common.{[], ◌∷◌, ◌++◌, Option, Some, None, Result, Ok, Err, Bool, false, true, cond, if◌then◌else◌}
use Rattle.std.specs.Prelude.{codes, decimal}
use Rattle.cg_form.specs.Game.{Game}
use Rattle.cg_cert.specs.declared.fault.CertFault.{CertFault}
use Rattle.cg_cert.specs.declared.fault.CertFault.TheVariants.{Long, Memory}
use Rattle.cg_cert.specs.declared.stage.Stage.{Stage}
use Rattle.cg_cert.specs.Certificate.{Answer, Answers, Certificate, answer_in, answer_text, answered, answers_text, certificate_text, no_answers, settled}
use Rattle.cg_cert.specs.First.{first_answer, first_answers, first_proof, with_first, with_led}
use Rattle.cg_cert.specs.Pairs.{Pair, both_numbers, led, moves}
use Rattle.cg_cert.specs.Positions.{AreStages, stage_at, stages_at}
use Rattle.cg_cert.specs.Written.{Wrote}
use Rattle.cg_cert.proofs.FirstProof.{first_proof-options}
use Rattle.cg_cert.proofs.Walking.{Walk, walk_all, walk_more}

-- ---- pieces

-- a further piece behind one that was put
pub wrote_then : (r : Result (Unit {0}) CertFault) (limit : ℕ) (old mid new p q : List ℕ) → mid ≡ old ++ p
    → Wrote r limit mid new q → Wrote r limit old new (p ++ q)
wrote_then (Ok u) limit old mid new p q e w = (w.0 ∙ ap (λ z. z ++ q) e ∙ append_assoc old p q, w.1)
wrote_then (Err Long) limit old mid new p q e w =
    rw (e, append_assoc old p q) at w
wrote_then (Err Memory) limit old mid new p q e w = tt

-- a piece that wasn't put, in front of others
pub wrote_fault : (e : CertFault) (limit : ℕ) (old new now p q : List ℕ) → Wrote (Err e) limit old new p
    → Wrote (Err e) limit old now (p ++ q)
wrote_fault Long limit old new now p q w =
    let e = length-append old p in
    let f = length-append old (p ++ q) in
    let g = length-append p q in
    omega arith
wrote_fault Memory limit old new now p q w = tt

pub wrote_along : (r : Result (Unit {0}) CertFault) (limit : ℕ) (old new p q : List ℕ) → p ≡ q → Wrote r limit old new p
    → Wrote r limit old new q
wrote_along r limit old new p q e w = rw (sym e) w

pub wrote_nothing : (limit : ℕ) (old new piece : List ℕ) → new ≡ old → piece ≡ [] → length old ≤ limit
    → Wrote (Ok tt) limit old new piece
wrote_nothing limit old new piece e n l = (e ∙ sym (append-nil old) ∙ ap (λ z. old ++ z) (sym n), rw e l)

-- the same limit, text and piece
pub wrote_from : (r : Result (Unit {0}) CertFault) (limit bound : ℕ) (old word new p q : List ℕ) → limit ≡ bound
    → old ≡ word → p ≡ q → Wrote r limit old new p → Wrote r bound word new q
wrote_from r limit bound old word new p q l e f w = rw (← l, ← e, ← f) w

-- at the exit of a `?`
pub wrote_exit : (r : Result (Unit {0}) CertFault) (x fault : CertFault) (limit : ℕ) (old new piece : List ℕ) → r ≡ Err x
    → x ≡ fault → Wrote (Err fault) limit old new piece → Wrote r limit old new piece
wrote_exit r x fault limit old new piece e f w = rw (e, f) w

-- ---- the answers

with_led-cons : (proof : Pair → Certificate) (a : Answer) (o : Option Pair) (rest : Answers)
    → answers_text (with_led proof a o rest) ≡ answers_text (with_led proof a o no_answers) ++ answers_text rest
with_led-cons proof a None rest = refl
with_led-cons proof a (Some k) rest =
    let t : List ℕ = answer_text a in
    let c : List ℕ = certificate_text (proof k) in
    ap (λ z. t ++ (z ++ answers_text rest)) (sym (append-nil c)) ∙ sym (append_assoc t (c ++ []) (answers_text rest))

with_first-cons : (proof : Pair → Certificate) (m : Pair) (o : Option Answer) (rest : Answers)
    → answers_text (with_first proof m o rest) ≡ answers_text (with_first proof m o no_answers) ++ answers_text rest
with_first-cons proof m None rest = refl
with_first-cons proof m (Some a) rest = with_led-cons proof a (led a m) rest

pub first_text-cons : (m : Pair) (ms : List Pair) → answers_text (first_answers first_proof (m ∷ ms))
    ≡ answers_text (first_answers first_proof (m ∷ [])) ++ answers_text (first_answers first_proof ms)
first_text-cons m ms = with_first-cons first_proof m (first_answer m) (first_answers first_proof ms)

-- the one answer that serves, and the proof of what it leads to
pub reply_text : (m k : Pair) (a : Answer) (letter : List ℕ) (i : ℕ) → first_answer m ≡ Some a → led a m ≡ Some k
    → answer_text a ≡ letter ++ decimal i
    → (letter ++ decimal i) ++ certificate_text (first_proof k) ≡ answers_text (first_answers first_proof (m ∷ []))
reply_text m k a letter i f l t =
    ap (λ z. z ++ certificate_text (first_proof k)) (sym t)
    ∙ ap (λ z. answer_text a ++ z) (sym (append-nil (certificate_text (first_proof k))))
    ∙ ap (λ o. answers_text (with_led first_proof a o no_answers)) (sym l)
    ∙ ap (λ o. answers_text (with_first first_proof m o no_answers)) (sym f)

pub answer_text-letter : (b : Bool) (i : ℕ) → answer_text (answer_in b i) ≡ cond b (codes "g") (codes "h") ++ decimal i
answer_text-letter true i = refl
answer_text-letter false i = refl

-- ---- the proof of a pair

pub settled-text : (m : Pair) → both_numbers m ≡ true → codes "." ≡ certificate_text (first_proof m)
settled-text m b =
    sym (ap certificate_text (first_proof-options m
    ∙ ap (λ z. if z then settled else answered (first_answers first_proof (moves m))) b))

pub answered-text : (m : Pair) → both_numbers m ≡ false
    → codes "(" ++ (answers_text (first_answers first_proof (moves m)) ++ codes ")") ≡ certificate_text (first_proof m)
answered-text m b =
    sym (ap certificate_text (first_proof-options m
    ∙ ap (λ z. if z then settled else answered (first_answers first_proof (moves m))) b))

-- what is left to put: the answers to these moves, and the closing bracket
abbrev pub left_text : List Pair → List ℕ
left_text ms = answers_text (first_answers first_proof ms) ++ codes ")"

left_text-cons : (m : Pair) (ms : List Pair)
    → answers_text (first_answers first_proof (m ∷ [])) ++ left_text ms ≡ left_text (m ∷ ms)
left_text-cons m ms =
    sym (append_assoc (answers_text (first_answers first_proof (m ∷ []))) (answers_text (first_answers first_proof ms))
    (codes ")")) ∙ ap (λ z. z ++ codes ")") (sym (first_text-cons m ms))

-- with what is left to put, the text is that of the proof
pub record Putting (arena : List Game) (m : Pair) (limit : ℕ) (before now : List ℕ) (rest : List Stage) : Type 0 where
  pub walk : Walk arena m rest
  pub within : length now ≤ limit
  pub onward : (r : Result (Unit {0}) CertFault) (new : List ℕ) → Wrote r limit now new (left_text (stages_at arena rest))
      → Wrote r limit before new (certificate_text (first_proof m))

module _ (arena : List Game) (m : Pair) (limit : ℕ) (before now : List ℕ) where
  pub putting_all : (all : List Stage) → both_numbers m ≡ false → AreStages arena all → stages_at arena all ≡ moves m
      → Wrote (Ok tt) limit before now (codes "(") → Putting arena m limit before now all
  putting_all all b a e w = record {
    walk = walk_all arena m all b a e;
    within = w.1;
    onward = rw e (λ r new v. wrote_along r limit before new (codes "(" ++ left_text (moves m))
        (certificate_text (first_proof m)) (answered-text m b)
        (wrote_then r limit before now new (codes "(") (left_text (moves m)) w.0 v));
  }

  module _ (others : List Stage) (p : Stage) (h : Putting arena m limit before now (p ∷ others)) where
    abbrev pub reply : List ℕ
    reply = answers_text (first_answers first_proof (stage_at arena p ∷ []))

    -- the answer, and what is left behind it
    onward_by : (r : Result (Unit {0}) CertFault) (new : List ℕ)
        → Wrote r limit now new (reply ++ left_text (stages_at arena others))
        → Wrote r limit before new (certificate_text (first_proof m))
    onward_by r new v = h.onward r new (wrote_along r limit now new (reply ++ left_text (stages_at arena others)) _
        (left_text-cons (stage_at arena p) (stages_at arena others)) v)

    pub putting_more : (next : List ℕ) → Wrote (Ok tt) limit now next reply → Putting arena m limit before next others
    putting_more next w = record {
      walk = walk_more arena m others p h.walk;
      within = w.1;
      onward = λ r new v. onward_by r new
          (wrote_then r limit now next new reply (left_text (stages_at arena others)) w.0 v);
    }

    pub putting_fault : (f : CertFault) (next new : List ℕ) → Wrote (Err f) limit now next reply
        → Wrote (Err f) limit before new (certificate_text (first_proof m))
    putting_fault f next new w = onward_by (Err f) new
        (wrote_fault f limit now next new reply (left_text (stages_at arena others)) w)
