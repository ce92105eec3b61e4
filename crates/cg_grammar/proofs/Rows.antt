-- Rows of sides with runs of bars between them.
use Rattle.std.proofs.Common.{◌≡◌, ℕ, zero, suc, ◌+◌, ◌-◌, ◌≤◌, true, false, List, [], ◌∷◌, ◌++◌, length}
use Rattle.std.proofs.Common.{Ok, Err, refl, ap, sym, subst, ◌∙◌, append_assoc, append-nil, arith, length-append}
use Rattle.cg_reading.specs.Bytes.{Class, has, Ends, Begins}
use Rattle.cg_reading.specs.Pieces.{Piece, Run, Then}
use Rattle.cg_reading.specs.Readers.{Read, Reader, ◌>>=◌, many_from, many_at, made_at, run_at}
use Rattle.cg_reading.proofs.Sets.{apart, apart_has, ends_left, ends_right}
use Rattle.cg_reading.proofs.Laws.{Again, Takes, Outcome, Reads, Lawful, Some_text, begun_to, behind, cond_sound, made_sound, taken_made, taken_then}
use Rattle.cg_reading.proofs.Laws.{takes_as, takes_none}
use Rattle.cg_reading.proofs.Steps.{then_agree}
use Rattle.cg_reading.proofs.ByteRuns.{Halts, run_lawful, run_halts}
use Rattle.cg_reading.proofs.Many.{many_agree, some_length, takes_turn}
use Rattle.cg_reading.proofs.Longest.{Full}
use Rattle.cg_reading.proofs.Rules.{placed_ok, made_ok, then_ok}
use Rattle.cg_grammar.specs.Found.{Found}
use Rattle.cg_grammar.specs.Grammar.{bar, bars, Bars_side, Rows, Some_rows}
use Rattle.cg_grammar.specs.OperandReading.{bars_at}
use Rattle.cg_grammar.specs.Reading.{row_at, some_rows_at}
use Rattle.cg_grammar.specs.Reading as reading
use Rattle.cg_grammar.proofs.Factored.{side}
use Rattle.cg_reading.proofs.Spelled.{made_is}

bars_ok : Lawful bars bars_at bar false bar
unfolding bars_at
bars_ok = placed_ok (made_ok (λ bs. length bs) (run_lawful bar 8 (omega arith) 124 refl))

bars_text : (j : ℕ) → Some_text bars j
bars_text j =
    let one : Run bar 8 j (124 ∷ []) (124 ∷ []) = record { within = refl; some = omega arith; few = omega arith; spelled = refl } in
    record { value = (j, 1); text = 124 ∷ []; is = (refl, made_is (124 ∷ []) one) }

full_placed : (j : ℕ) (x : Read ℕ) → Full (λ _. bar) x → Full {A = ℕ × ℕ} (λ _. bar) (x >>= λ v. Ok ((j, v.0), v.1))
full_placed j (Ok v) k = k
full_placed j (Err n) k = tt

full_length : (x : Read (List ℕ)) → Halts bar x → Full {A = ℕ} (λ _. bar) (x >>= λ v. Ok (length v.0, v.1))
full_length (Ok v) k = k
full_length (Err n) k = tt

bars_full : (end : ℕ) (bytes : List ℕ) → Full (λ _. bar) (bars_at end bytes)
unfolding bars_at
bars_full end bytes = full_placed _ (made_at (λ bs. length bs) (run_at bar 8) end bytes) (full_length (run_at bar 8 end bytes) (run_halts bar 8 end bytes))

abbrev Row : Type 0
Row = (ℕ × ℕ) × List Found

abbrev with_first : {A B : Type 0} → A → Read B → Read (A × B)
with_first a y = y >>= λ w. Ok ((a, w.0), w.1)

abbrev with_row : Row → Read (List Row) → Read (List Row)
with_row x y = y >>= λ xs. Ok (x ∷ xs.0, xs.1)

abbrev as_rows : Read (Row × List Row) → Read (List Row)
as_rows x = x >>= λ v. Ok (v.0.0 ∷ v.0.1, v.1)

-- a run of bars, a side, and what follows
row_as : {S : Piece (List Found)} {Q : ℕ → List ℕ → Type 0} {i : ℕ} {r : Row} {text : List ℕ} (run middle more : List ℕ) → bars i r.0 run
    → S (i + length run) r.1 middle → Q (i + length run + length middle) more → Ends bar (middle ++ more) → text ≡ run ++ (middle ++ more)
    → Bars_side S Q i r text
row_as run middle more a b c d e = record {
  run = run;
  middle = middle;
  more = more;
  is_run = a;
  is_side = b;
  is_more = c;
  no_bar = d;
  spelled = e;
}

module _ (E : Piece Found) (e : Reader Found) (I F : Class) (ls : Lawful (side E) (reading.side_at e) I true F) (empty : (j : ℕ) → side E j [] [])
    (away : apart I bar ≡ true) (part : apart bar F ≡ true) where
  -- what comes behind the runs: no bar, nothing that goes on with a side
  pub row_reads : Reads (Then bars (side E)) (row_at e) bar false
  row_reads = (then_ok bars_ok ls (λ j. record { value = []; text = []; is = empty j }) away).reads

  ends_nothing : (z : List ℕ) → Begins I true z → Ends bar (z ++ [])
  ends_nothing [] b = tt
  ends_nothing (c ∷ z) b = apart_has I bar c away b

  -- this side, and then rows
  abbrev Side_rows : List Found → Piece (List Row)
  Side_rows v j rows y =
      (m : List ℕ) × (w : List ℕ) × side E j v m × Rows (side E) (j + length m) rows w × Ends bar (m ++ w) × (y ≡ m ++ w)

  module _ (end : ℕ) (k : List ℕ → Read (List Row))
      (ks : (j : ℕ) (rest : List ℕ) → j + length rest ≡ end → Outcome (Rows (side E)) j rest (k rest))
      (kn : (rest : List ℕ) → Ends bar rest → k rest ≡ Ok ([], rest)) where
    rows_then : (i : ℕ) (bytes : List ℕ) (x : ℕ × ℕ) (rest : List ℕ) (t : Takes bars i bytes x rest) → i + length bytes ≡ end → Ends bar rest
        → (v : List Found) (middle rest2 : List ℕ) → side E (i + length t.text) v middle → rest ≡ middle ++ rest2
        → Outcome (Some_rows (side E)) i bytes (with_first (x, v) (k rest2))
    rows_then i bytes x rest t n full v [] rest2 is split =
        let none : k rest2 ≡ Ok ([], rest2) = kn rest2 (subst (Ends bar) split full) in
        rw none (takes_as t.text (row_as t.text [] [] t.is is refl tt (sym (append-nil t.text))) (t.split ∙ ap (λ (u : List ℕ). t.text ++ u) split))
    rows_then i bytes x rest t n full v (c ∷ mid) rest2 is split =
        let u : Takes (side E) (i + length t.text) rest v rest2 = record { text = c ∷ mid; is = is; split = split } in
        let no_bar = apart_has I bar c away (ls.begins (i + length t.text) v (c ∷ mid) is) in
        let place : i + length t.text + length (c ∷ mid) + length rest2 ≡ end = omega (arith, n, behind t, ap length split, length-append (c ∷ mid) rest2) in
        taken_made (Side_rows v) t (Some_rows (side E)) (λ rows. ((x, v), rows))
        (λ rows y s. row_as t.text s.0 s.1 t.is s.2 s.3 s.4 (ap (λ (z : List ℕ). t.text ++ z) s.5)) (k rest2)
        (taken_then (Rows (side E)) u (Side_rows v) (λ rows w m. (c ∷ mid, w, is, m, no_bar, refl)) (k rest2)
        (ks (i + length t.text + length (c ∷ mid)) rest2 place))

    side_then : (i : ℕ) (bytes : List ℕ) (x : ℕ × ℕ) (rest : List ℕ) (t : Takes bars i bytes x rest) → i + length bytes ≡ end → Ends bar rest
        → (y : Read (List Found)) → Outcome (side E) (i + length t.text) rest y
        → Outcome (Some_rows (side E)) i bytes (with_first x y >>= λ r. with_first r.0 (k r.1))
    side_then i bytes x rest t n full (Ok w) o = rows_then i bytes x rest t n full w.0 o.text w.1 o.is o.split
    side_then i bytes x rest t n full (Err m) o =
        taken_made (side E) t (Some_rows (side E)) (λ v. ((x, v), []))
        (λ v y is. row_as t.text y [] t.is is refl (ends_nothing y (ls.begins (i + length t.text) v y is))
        (ap (λ (z : List ℕ). t.text ++ z) (sym (append-nil y)))) (Err m) o

    bars_then : (i : ℕ) (bytes : List ℕ) → i + length bytes ≡ end → (x : Read (ℕ × ℕ)) → Full (λ _. bar) x → Outcome bars i bytes x
        → Outcome (Some_rows (side E)) i bytes ((x >>= λ v. with_first v.0 (reading.side_at e end v.1)) >>= λ r. with_first r.0 (k r.1))
    bars_then i bytes n (Ok v) full o =
        side_then i bytes v.0 v.1 o n full (reading.side_at e end v.1) (ls.sound end (i + length o.text) v.1 (behind o ∙ n))
    bars_then i bytes n (Err m) full o =
        let z = o.taken ++ o.more in
        begun_to (Some_rows (side E)) ((o.value, []), []) o (row_as z [] [] o.is (empty (i + length z)) refl tt (sym (append-nil z)))

    step_sound : (i : ℕ) (bytes : List ℕ) → i + length bytes ≡ end → Outcome (Some_rows (side E)) i bytes (row_at e end bytes >>= λ r. with_first r.0 (k r.1))
    step_sound i bytes n = bars_then i bytes n (bars_at end bytes) (bars_full end bytes) (bars_ok.sound end i bytes n)

    joined_last : (x : Row) (y : Read (List Row)) → with_row x y ≡ as_rows (with_first x y)
    joined_last x (Ok v) = refl
    joined_last x (Err m) = refl

    joined : (x : Read Row) → (x >>= λ v. with_row v.0 (k v.1)) ≡ as_rows (x >>= λ v. with_first v.0 (k v.1))
    joined (Ok v) = joined_last v.0 (k v.1)
    joined (Err m) = refl

    rows_step : (i : ℕ) (bytes : List ℕ) → i + length bytes ≡ end
        → Outcome (Rows (side E)) i bytes (row_at e end bytes >>= λ v. with_row v.0 (k v.1))
    rows_step i bytes n =
        subst (Outcome (Rows (side E)) i bytes) (sym (joined (row_at e end bytes)))
        (made_sound (Some_rows (side E)) (Rows (side E)) (λ v. v.0 ∷ v.1) i bytes (row_at e end bytes >>= λ r. with_first r.0 (k r.1)) (λ a text is. is)
        (step_sound i bytes n))

  none_left : (turns end : ℕ) (rest : List ℕ) → Ends bar rest → many_from bar (row_at e) turns end rest ≡ Ok ([], rest)
  none_left zero end rest h = refl
  none_left (suc turns) end [] h = refl
  none_left (suc turns) end (b ∷ rest) h = rw h refl

  rows_sound : (turns end i : ℕ) (bytes : List ℕ) → i + length bytes ≡ end → Outcome (Rows (side E)) i bytes (many_from bar (row_at e) turns end bytes)
  rows_sound zero end i bytes n = takes_none refl
  rows_sound (suc turns) end i [] n = takes_none refl
  rows_sound (suc turns) end i (b ∷ bytes) n =
      let more = many_from bar (row_at e) turns end in
      cond_sound (Rows (side E)) i (b ∷ bytes) (row_at e end (b ∷ bytes) >>= λ v. with_row v.0 (more v.1)) (Ok ([], b ∷ bytes)) (has bar b)
      (λ _. rows_step end more (λ j rest m. rows_sound turns end j rest m) (none_left turns end) i (b ∷ bytes) n) (λ _. takes_none refl)

  row_begins : (Q : ℕ → List ℕ → Type 0) (i : ℕ) (r : Row) (text : List ℕ) → Bars_side (side E) Q i r text → Begins bar false text
  row_begins Q i r text is = subst (Begins bar false) (sym is.spelled) (first is.run (bars_ok.begins i r.0 is.run is.is_run))
    where
      first : (x : List ℕ) → Begins bar false x → Begins bar false (x ++ (is.middle ++ is.more))
      first [] b = absurd cc
      first (c ∷ x) b = b

  empty_or : (text : List ℕ) → Begins bar false text → Begins bar true text
  empty_or [] b = absurd cc
  empty_or (c ∷ text) b = b

  rows_begins : (i : ℕ) (vs : List Row) (text : List ℕ) → Rows (side E) i vs text → Begins bar true text
  rows_begins i [] text is = subst (Begins bar true) (sym is) refl
  rows_begins i (v ∷ vs) text is = empty_or text (row_begins (λ j y. Rows (side E) j vs y) i v text is)

  ends_over : (x y rest : List ℕ) → Ends bar (x ++ y) → Ends bar rest → Ends bar (x ++ (y ++ rest))
  ends_over [] [] rest h k = k
  ends_over [] (c ∷ y) rest h k = h
  ends_over (c ∷ x) y rest h k = h

  next_side : (y rest : List ℕ) → Begins bar true y → Ends (F ++ bar) rest → Ends F (y ++ rest)
  next_side [] rest b h = ends_left F bar rest h
  next_side (c ∷ y) rest b h = apart_has bar F c part b

  module _ (end i : ℕ) (r : Row) (Q : ℕ → List ℕ → Type 0) (text rest : List ℕ) (is : Bars_side (side E) Q i r text) (n : i + length (text ++ rest) ≡ end) where
    abbrev behind_side : List ℕ
    behind_side = is.more ++ rest

    whole_row : text ++ rest ≡ is.run ++ (is.middle ++ behind_side)
    whole_row =
        ap (λ (z : List ℕ). z ++ rest) is.spelled ∙ append_assoc is.run (is.middle ++ is.more) rest
        ∙ ap (λ (z : List ℕ). is.run ++ z) (append_assoc is.middle is.more rest)

    row_place : i + length (is.run ++ (is.middle ++ behind_side)) ≡ end
    row_place = ap (λ (z : List ℕ). i + length z) (sym whole_row) ∙ n

    side_place : (i + length is.run) + length (is.middle ++ behind_side) ≡ end
    side_place = omega (arith, row_place, length-append is.run (is.middle ++ behind_side))

    more_place : (i + length is.run + length is.middle) + length behind_side ≡ end
    more_place = omega (arith, side_place, length-append is.middle behind_side)

  row_again : (vs : List Row) (end i : ℕ) (r : Row) (text rest : List ℕ) (is : Bars_side (side E) (λ j y. Rows (side E) j vs y) i r text)
      → Ends (F ++ bar) rest → i + length (text ++ rest) ≡ end → row_at e end (text ++ rest) ≡ Ok (r, is.more ++ rest)
  row_again vs end i r text rest is h n =
      let mid = is.middle in
      let Q : ℕ → List ℕ → Type 0 = λ j y. Rows (side E) j vs y in
      let more = is.more ++ rest in
      let next = next_side is.more rest (rows_begins (i + length is.run + length mid) vs is.more is.is_more) h in
      let one : bars_at end (is.run ++ (mid ++ more)) ≡ Ok (r.0, mid ++ more) =
      bars_ok.again end i r.0 is.run (mid ++ more) is.is_run (ends_over mid is.more rest is.no_bar (ends_right F bar rest h))
      (row_place end i r Q text rest is n) in
      let two : reading.side_at e end (mid ++ more) ≡ Ok (r.1, more) =
      ls.again end (i + length is.run) r.1 mid more is.is_side next (side_place end i r Q text rest is n) in
      ap (row_at e end) (whole_row end i r Q text rest is n)
      ∙ ap (λ z. z >>= λ x. with_first x.0 (reading.side_at e end x.1)) one ∙ ap (with_first r.0) two

  rows_again : (vs : List Row) (turns end i : ℕ) (text rest : List ℕ) → Rows (side E) i vs text → Ends (F ++ bar) rest → i + length (text ++ rest) ≡ end
      → length text ≤ turns → many_from bar (row_at e) turns end (text ++ rest) ≡ Ok (vs, rest)
  rows_again [] turns end i text rest is h n u =
      ap (λ (z : List ℕ). many_from bar (row_at e) turns end (z ++ rest)) is ∙ none_left turns end rest (ends_right F bar rest h)
  rows_again (v ∷ vs) turns end i text rest is h n u =
      let b = row_begins (λ j y. Rows (side E) j vs y) i v text is in
      let some = some_length (Then bars (side E)) (row_at e) bar [] text b in
      let k : turns ≡ suc (turns - 1) = omega arith in
      let first = some_length (Then bars (side E)) (row_at e) bar [] is.run (bars_ok.reads.begins i v.0 is.run is.is_run) in
      let m = more_place end i v (λ j y. Rows (side E) j vs y) text rest is n in
      let shorter : length is.more ≤ turns - 1 = omega (arith, m, n, length-append text rest, length-append is.more rest, first, u) in
      ap (λ (z : ℕ). many_from bar (row_at e) z end (text ++ rest)) k
      ∙ takes_turn (Then bars (side E)) (row_at e) bar [] (turns - 1) end text rest b
      ∙ ap (λ z. z >>= λ v. with_row v.0 (many_from bar (row_at e) (turns - 1) end v.1)) (row_again vs end i v text rest is h n)
      ∙ ap (with_row v) (rows_again vs (turns - 1) end (i + length is.run + length is.middle) is.more rest is.is_more h m shorter)

  rows_reads : Reads (Rows (side E)) (many_at bar (row_at e)) bar true
  rows_reads = record {
    sound = λ end i bytes n. rows_sound (length bytes) end i bytes n;
    agree = many_agree (Then bars (side E)) (row_at e) bar [] row_reads;
    begins = rows_begins;
  }

  some_again : Again (Some_rows (side E)) (some_rows_at e) (λ _ rest. Ends (F ++ bar) rest)
  some_again end i v text rest is h n =
      let m = more_place end i v.0 (λ j y. Rows (side E) j v.1 y) text rest is n in
      ap (λ z. z >>= λ r. with_first r.0 (many_at bar (row_at e) end r.1)) (row_again v.1 end i v.0 text rest is h n)
      ∙ ap (with_first v.0)
      (rows_again v.1 (length (is.more ++ rest)) end (i + length is.run + length is.middle) is.more rest is.is_more h m
      (omega (arith, length-append is.more rest)))

  pub some_rows_ok : Lawful (Some_rows (side E)) (some_rows_at e) bar false (F ++ bar)
  some_rows_ok = record {
    reads = record {
      sound = λ end i bytes n.
          step_sound end (λ rest. many_at bar (row_at e) end rest) (λ j rest m. rows_sound (length rest) end j rest m)
          (λ rest h. none_left (length rest) end rest h) i bytes n;
      agree = then_agree (Then bars (side E)) (Rows (side E)) (row_at e) (many_at bar (row_at e)) bar bar false true F F row_reads rows_reads;
      begins = λ i v text is. row_begins (λ j y. Rows (side E) j v.1 y) i v.0 text is;
    };
    again = some_again;
  }

  pub some_rows_text : (j : ℕ) → Some_text (Some_rows (side E)) j
  some_rows_text j =
      let b = bars_text j in
      record {
        value = ((b.value, []), []);
        text = b.text;
        is = row_as b.text [] [] b.is (empty (j + length b.text)) refl tt (sym (append-nil b.text));
      }
