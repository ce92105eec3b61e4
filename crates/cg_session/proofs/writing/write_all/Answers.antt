use Rattle.std.proofs.Common.{◌≡◌, ℕ, ◌-◌, ◌≤◌, List, ◌++◌, length, take, drop, Result, Ok, Err, OnErr}
use Rattle.std.proofs.Common.{sym, ap, ◌∙◌, append_assoc, take-append-drop, arith, rules}
use Rattle.std.proofs.lemmas.List.{take_rest}
use Rattle.std.proofs.KnownBytes.{Appends-trans, Appends-kept}
use Rattle.cg_session.proofs.Counting.{counts_front}
use Rattle.cg_session.proofs.writing.write_all.Goals as goal

on_err : {T E : Type 0} (r : Result T E) (P : Type 0) → P → OnErr r P
on_err (Ok x) P h = tt
on_err (Err e) P h = h

moves_front : (all done rest : List ℕ) (n : ℕ) → all ≡ done ++ rest → all ≡ (done ++ take n rest) ++ take (length rest - n) (drop n rest)
moves_front all done rest n e =
    e ∙ ap (λ l. done ++ l) (sym (take-append-drop n rest)) ∙ sym (append_assoc done (take n rest) (drop n rest)) ∙ ap (λ l. (done ++ take n rest) ++
    l) (sym (take_rest rest n))

pub loop-rest-preserved : goal.loop-rest-preserved
loop-rest-preserved g c =
    let (done, split, appended, counted) = c.loop-rest.invariant.written in
    let rest = c.loop-rest.rest.now in
    let n = c.in_ok-count.count in
    let low : n ≤ length rest = search rules in
    record {
      never_falls = omega (arith, c.in_ok-count.ensures.cause.never_falls, c.loop-rest.invariant.never_falls);
      written = (
        done ++ take n rest,
        moves_front _ done rest n split,
        Appends-trans _ _ _ _ _ appended c.in_ok-count.ensures.bytes,
        counts_front _ done rest n _ _ _ low counted c.in_ok-count.ensures.counts,
      );
    }

pub returns-in_err-count-clause-front : goal.returns-in_err-count-clause-front
returns-in_err-count-clause-front g c =
    let (done, split, appended, counted) = c.loop-rest.invariant.written in
    on_err c.from_residual.result _ (record {
      front = done;
      rest = c.loop-rest.rest.now;
      split = split;
      some_left = search rules;
      appended =
          Appends-kept _ _ _ _ appended c.in_err-count.ensures.bytes;
    })
