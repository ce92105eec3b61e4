use Rattle.std.proofs.Common.{rules, ◌≡◌, ℕ, ◌-◌, Bool, false, List, [], ◌∷◌, ◌++◌, length, Option, Ok, map, ap, sym, subst, ◌∙◌, arith}
use Rattle.std.proofs.lemmas.List.{nil_from_length, map_push}
use Rattle.std.proofs.lemmas.Result.{err_from_is_err_and}
use Rattle.cg_reading.specs.Bytes.{has}
use Rattle.cg_reading.specs.Gives.{Fails}
use Rattle.cg_reading.specs.Readers.{Read, ◌>>=◌, behind_these, skipped}
use Rattle.cg_reading.specs.Tokens.{only, blank}
use Rattle.cg_reading.proofs.GivesLemmas.{gives_along, fails_on, fails_bind}
use Rattle.cg_reading.proofs.Gathered.{gathered_next}
use Rattle.cg_grammar.specs.Grammar.{bar}
use Rattle.cg_grammar.specs.Found as found
use Rattle.cg_grammar.proofs.Productions.{items_reads, rows_reads}
use Rattle.cg_grammar.specs.Reading.{special_at, bare_special_at, bracket_at, sum_at, term_at, more_terms_at, next_item_at, row_at}
use Rattle.cg_query.specs.Tree as tree
use Rattle.cg_query.specs.Trees.{tree_of, terms_of}
use Rattle.cg_query.proofs.TreeOf.{term_tree}
use Rattle.cg_reader.specs.Views.{found_of, row_of, side_found}
use Rattle.cg_reader.proofs.More.{sum_signs, terms_next, terms_end, terms_none, item_first, item_next, row_first}
use Rattle.cg_reader.proofs.Special.{special_paren, special_none}
use Rattle.cg_reader.proofs.line_reader.LineReader.+items.Goals as goal
use Rattle.cg_reader.proofs.line_reader.LineReader.+items.Goals.{bare_special-in_default-via-in-Some+else-begins_plain, bare_special-in_default-via-in_default}
use Rattle.cg_reader.proofs.line_reader.LineReader.+items.Goals.{more_terms-in-Some+then-not-is_sign, more_terms-in_default}

pub bare_special-returns-in_default-clause-read : goal.bare_special-returns-in_default-clause-read
bare_special-returns-in_default-clause-read t c = gives_along (λ x. (found_of x.0, x.1.now)) c.bracket.result _ _ equal c.bracket.ensures.read
  where
    equal : bare_special_at c.args.self.format c.args.brackets c.args.self.line_end c.args.bytes.now ≡ bracket_at (sum_at (special_at c.args.self.format
        (c.args.brackets - 1))) c.args.self.line_end c.args.bytes.now
    equal = elim c.in_default.branch [
      | bare_special-in_default-via-in-Some+else-begins_plain w ↦ special_paren c.args.self.format c.args.brackets c.args.self.line_end w.in-Some.first.now
          c.args.bytes.now w.in-Some.field-0-1.now w.in-Some.ensures.cases.0 (omega arith) (sym w.begins_plain.ensures ∙ w.if-begins_plain.false)
      | bare_special-in_default-via-in_default w ↦ special_none c.args.self.format c.args.brackets c.args.self.line_end c.args.bytes.now (nil_from_length
          c.args.bytes.now w.in_default.ensures.cases) (omega arith)
    ]

-- ---- sums

pub sum-returns-in_ok-push-in-Some-clause-read : goal.sum-returns-in_ok-push-in-Some-clause-read
sum-returns-in_ok-push-in-Some-clause-read t c =
    let k = c.args.brackets in
    let first = c.in_ok-first.first in
    let rest = c.after_blanks-rest.result.now in
    let e = sum_signs c.args.self.format k c.args.self.line_end c.args.bytes.now (found_of first) c.in_ok-first.rest.now rest c.in-Some.sign.now
    c.in-Some.field-0-1.now
    c.in_ok-first.ensures.read c.after_blanks-rest.ensures.rest c.in-Some.ensures.cases.0 (sym c.is_sign.ensures ∙ c.if-is_sign.true)
    (omega (arith, c.in_ok-first.ensures.shorter, c.after_blanks-rest.ensures.shorter, c.requires)) in
    let pushed : terms_of c.push.new.self.items ≡ (false, tree_of first.expr) ∷ [] = rw (c.in_ok-push-in-Some.ensures.items, c.new-terms.ensures.items)
    (ap (λ (x : Bool × tree.Tree). x ∷ []) (term_tree false first.expr)) in
    gives_along (λ x. (found_of x.0, x.1.now)) c.more_terms.result _ _
    (e ∙ ap (λ (ts : List (Bool × tree.Tree)). more_terms_at c.args.self.format k ts first.fault c.args.self.line_end rest) (sym pushed))
    c.more_terms.ensures.read

pub more_terms-returns-in_err-found-clause-read : goal.more_terms-returns-in_err-found-clause-read
more_terms-returns-in_err-found-clause-read t c =
    let p = err_from_is_err_and c.from_residual.result c.from_residual.ensures.1 in
    let S = special_at c.args.self.format c.args.brackets in
    let end = c.args.self.line_end in
    let behind = c.in-Some.behind.now in
    let e = terms_next c.args.self.format c.args.brackets (terms_of c.loop-sign.terms.items) c.loop-sign.fault end c.in-Some.sign.now c.loop-sign.rest.now
    behind c.in-Some.ensures.cases.0 (sym c.is_sign.ensures ∙ c.if-not-is_sign.false) (omega (arith, c.loop-sign.invariant.shorter, c.requires)) in
    let fails = subst (λ (z : List ℕ). Fails c.in_err-found.field-0.0 (term_at S end z)) c.after_blanks.ensures.rest c.in_err-found.ensures.read in
    rw (p.1, p.2) (fails_on c.in_err-found.field-0.0 _ _ (sym c.loop-sign.invariant.same ∙ e) (fails_bind c.in_err-found.field-0.0 (term_at S end (skipped blank
    behind)) _ fails))

pub more_terms-loop-sign-preserved : goal.more_terms-loop-sign-preserved
more_terms-loop-sign-preserved t c =
    let f = c.args.self.format in
    let k = c.args.brackets in
    let front = terms_of c.loop-sign.terms.items in
    let fault = c.loop-sign.fault in
    let end = c.args.self.line_end in
    let minus = c.is_byte-minus.result in
    let operand = c.in_ok-found.found in
    let after = c.in_ok-found.after.now in
    let behind = c.in-Some.behind.now in
    let rest = c.after_blanks-rest.result.now in
    let read = ap (term_at (special_at f k) end) (sym c.after_blanks.ensures.rest) ∙ c.in_ok-found.ensures.read in
    let e = terms_next f k front fault end c.in-Some.sign.now c.loop-sign.rest.now behind c.in-Some.ensures.cases.0 (sym c.is_sign.ensures
    ∙ c.if-not-is_sign.false) (omega (arith, c.loop-sign.invariant.shorter, c.requires)) in
    let next = ap (λ (z : Read found.Found). z >>= λ y. more_terms_at f k (front ++ (has (only 45) c.in-Some.sign.now, y.0.tree) ∷ []) (found.first fault
    y.0.fault) end (skipped blank y.1)) read in
    let pushed : terms_of c.push.new.self.items ≡ front ++ (minus, tree_of operand.expr) ∷ [] = rw c.in_ok-push.ensures.items
    (map_push _ c.loop-sign.terms.items (record { minus = minus; expr = operand.expr }) ∙ ap (λ (x : Bool × tree.Tree). front ++ x ∷ []) (term_tree minus
    operand.expr)) in
    record {
      shorter = omega (
        arith,
        ap length c.in-Some.ensures.cases.0,
        c.in_ok-found.ensures.shorter,
        c.after_blanks.ensures.shorter,
        c.after_blanks-rest.ensures.shorter,
        c.loop-sign.invariant.shorter,
      );
      same = ap (λ (ts : List (Bool × tree.Tree)). more_terms_at f k ts c.earlier-merged.result end rest) pushed
          ∙ ap (λ (o : Option ℕ). more_terms_at f k (front ++ (minus, tree_of operand.expr) ∷ []) o end rest) c.earlier-merged.ensures
          ∙ ap (λ (m : Bool). more_terms_at f k (front ++ (m, tree_of operand.expr) ∷ []) (found.first fault operand.fault) end rest) c.is_byte-minus.ensures
          ∙ ap (λ (z : List ℕ). more_terms_at f k (front ++ (has (only 45) c.in-Some.sign.now, tree_of operand.expr) ∷ []) (found.first fault operand.fault) end
          z) c.after_blanks-rest.ensures.rest
          ∙ sym (e ∙ next) ∙ c.loop-sign.invariant.same;
    }

pub more_terms-returns-clause-read : goal.more_terms-returns-clause-read
more_terms-returns-clause-read t c =
    sym c.loop-sign.invariant.same ∙ read_out ∙ ap (λ (u : tree.Tree). Ok (record { tree = u; fault = c.loop-sign.fault }, c.loop-sign.rest.now))
    (sym c.sum_of_terms-expr.ensures)
  where
    read_out : more_terms_at c.args.self.format c.args.brackets (terms_of c.loop-sign.terms.items) c.loop-sign.fault c.args.self.line_end c.loop-sign.rest.now
        ≡ Ok (record { tree = tree.sum (tree.terms_from (terms_of c.loop-sign.terms.items)); fault = c.loop-sign.fault }, c.loop-sign.rest.now)
    read_out = elim c.match-split_first.branch [
      | more_terms-in-Some+then-not-is_sign w ↦ terms_end c.args.self.format c.args.brackets (terms_of c.loop-sign.terms.items) c.loop-sign.fault
          c.args.self.line_end w.in-Some.sign.now c.loop-sign.rest.now w.in-Some.behind.now w.in-Some.ensures.cases.0 (sym w.is_sign.ensures
          ∙ w.if-not-is_sign.true)
      | more_terms-in_default w ↦ terms_none c.args.self.format c.args.brackets (terms_of c.loop-sign.terms.items) c.loop-sign.fault c.args.self.line_end
          c.loop-sign.rest.now (nil_from_length c.loop-sign.rest.now w.in_default.ensures.cases)
    ]

-- ---- items and rows

pub items-loop-comma-init : goal.items-loop-comma-init
items-loop-comma-init t c =
    let S = sum_at (special_at c.args.self.format c.args.brackets) in
    let pushed : side_found c.in_ok-front.front ≡ found_of c.in_ok-first.first ∷ [] = search (rules, c.in_ok-front.ensures) in
    record {
      shorter = c.in_ok-first.ensures.shorter;
      same = ap (λ (ts : List found.Found). behind_these (only 44) (next_item_at S) ts c.args.self.line_end c.in_ok-first.after.now) pushed
          ∙ sym (item_first S c.args.self.line_end c.args.bytes.now (found_of c.in_ok-first.first) c.in_ok-first.after.now c.in_ok-first.ensures.read);
    }

pub items-returns-in_err-found-clause-read : goal.items-returns-in_err-found-clause-read
items-returns-in_err-found-clause-read t c =
    let p = err_from_is_err_and c.from_residual-in_err-found.result c.from_residual-in_err-found.ensures.1 in
    let S = sum_at (special_at c.args.self.format c.args.brackets) in
    let front = side_found c.loop-comma.items in
    let end = c.args.self.line_end in
    let behind = c.in-Some.behind.now in
    let comma = sym c.is_byte.ensures ∙ c.if-not-is_byte.false in
    let e = gathered_next _ (next_item_at S) (only 44) (items_reads c.args.self.format c.args.brackets) front end c.in-Some.comma.now c.loop-comma.rest.now
    behind c.in-Some.ensures.cases.0 comma (omega (arith, c.loop-comma.invariant.shorter, c.requires))
    ∙ ap (λ (z : Read found.Found). z >>= λ y. behind_these (only 44) (next_item_at S) (front ++ y.0 ∷ []) end y.1) (item_next S end c.in-Some.comma.now
    c.loop-comma.rest.now behind c.in-Some.ensures.cases.0 comma) in
    let fails = subst (λ (z : List ℕ). Fails c.in_err-found.field-0.0 (S end z)) c.after_blanks.ensures.rest c.in_err-found.ensures.read in
    rw (p.1, p.2) (fails_on c.in_err-found.field-0.0 _ _ (sym c.loop-comma.invariant.same ∙ e) (fails_bind c.in_err-found.field-0.0
    (S end (skipped blank behind)) _ fails))

pub items-loop-comma-preserved : goal.items-loop-comma-preserved
items-loop-comma-preserved t c =
    let S = sum_at (special_at c.args.self.format c.args.brackets) in
    let front = side_found c.loop-comma.items in
    let end = c.args.self.line_end in
    let after = c.in_ok-found.after.now in
    let behind = c.in-Some.behind.now in
    let comma = sym c.is_byte.ensures ∙ c.if-not-is_byte.false in
    let e = gathered_next _ (next_item_at S) (only 44) (items_reads c.args.self.format c.args.brackets) front end c.in-Some.comma.now c.loop-comma.rest.now
    behind c.in-Some.ensures.cases.0 comma (omega (arith, c.loop-comma.invariant.shorter, c.requires)) in
    let read = item_next S end c.in-Some.comma.now c.loop-comma.rest.now behind c.in-Some.ensures.cases.0 comma ∙ ap (S end) (sym c.after_blanks.ensures.rest)
    ∙ c.in_ok-found.ensures.read in
    let pushed : side_found c.in_ok-items.items ≡ front ++ found_of c.in_ok-found.found ∷ [] = search (rules, c.in_ok-items.ensures) in
    let next = ap (λ (z : Read found.Found). z >>= λ y. behind_these (only 44) (next_item_at S) (front ++ y.0 ∷ []) end y.1) read in
    record {
      shorter = omega (
        arith,
        ap length c.in-Some.ensures.cases.0,
        c.in_ok-found.ensures.shorter,
        c.after_blanks.ensures.shorter,
        c.loop-comma.invariant.shorter,
      );
      same = ap (λ (ts : List found.Found). behind_these (only 44) (next_item_at S) ts end after) pushed ∙ sym (e ∙ next) ∙ c.loop-comma.invariant.same;
    }

pub rows-loop-bar-init : goal.rows-loop-bar-init
rows-loop-bar-init t c =
    let S = sum_at (special_at c.args.self.format c.args.brackets) in
    record {
      shorter = c.in_ok-first.ensures.shorter;
      same = rw c.new-more.ensures.items (sym (row_first S c.args.self.line_end c.args.bytes.now (row_of c.in_ok-first.first) c.in_ok-first.after.now
          c.in_ok-first.ensures.read));
    }

pub rows-loop-bar-preserved : goal.rows-loop-bar-preserved
rows-loop-bar-preserved t c =
    let f = row_at (sum_at (special_at c.args.self.format c.args.brackets)) in
    let first = row_of c.in_ok-first.first in
    let front = first ∷ map row_of c.loop-bar.more.items in
    let end = c.args.self.line_end in
    let after = c.in_ok-next.after.now in
    let e = gathered_next _ f bar (rows_reads c.args.self.format c.args.brackets) front end c.in-Some.bar.now c.loop-bar.rest.now c.in-Some.field-0-1.now
    c.in-Some.ensures.cases.0 (sym c.is_byte.ensures ∙ c.if-not-is_byte.false) (omega (arith, c.loop-bar.invariant.shorter, c.requires)) in
    let pushed : first ∷ map row_of c.push.new.self.items ≡ front ++ row_of c.in_ok-next.next ∷ [] = rw c.in_ok-push.ensures.items
    (ap (λ (z : List ((ℕ × ℕ) × List found.Found)). first ∷ z) (map_push _ c.loop-bar.more.items c.in_ok-next.next)) in
    let next = ap (λ (z : Read ((ℕ × ℕ) × List found.Found)). z >>= λ y. behind_these bar f (front ++ y.0 ∷ []) end y.1) c.in_ok-next.ensures.read in
    record {
      shorter = omega (arith, c.in_ok-next.ensures.shorter, c.loop-bar.invariant.shorter);
      same = ap (λ (ts : List ((ℕ × ℕ) × List found.Found)). behind_these bar f ts end after) pushed ∙ sym (e ∙ next) ∙ c.loop-bar.invariant.same;
    }
