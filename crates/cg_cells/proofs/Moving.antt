-- The table at its start, draws, and passes that are split off and met keep the rule.
use Rattle.std.proofs.Common.{◌≡◌, ◌≢◌, ℕ, zero, suc, ◌+◌, ◌-◌, ◌*◌, ◌^◌, ◌<◌, ◌≤◌, min, List, [], ◌∷◌, ◌++◌, set, replicate, Bool, true}
use Rattle.std.proofs.Common.{false, refl, sym, ap, ◌∙◌, subst, ⊎_elim, arith, true≢false, get_or-set_same, lt-ltb, le-ltb, length-set}
use Rattle.std.specs.Prelude.{slice_index, if◌then◌else◌, nat_lt, ◌||◌}
use Rattle.std.proofs.lemmas.List.{length-replicate}
use Rattle.std.proofs.lemmas.Bool.Decides.{nat_tests}
use native.Mathlib.Nat.{mul-suc, mul-zero, min-eq_left, min-eq_right}
use mathlib.Core.Logic.{dite}
use mathlib.Core.Option.{some-injective, some-ne-none}
use native.Mathlib.Decide.{dec_lt}
use Rattle.cg_cells.specs.Meaning.{Meaning, IsLawful, Sound}
use Rattle.cg_cells.specs.Words.{filled}
use Rattle.cg_cells.specs.Views.{Sizes, ViewOf, cells_of, first_view, after_draw, after_split, split_off, after_meet, ended}
use Rattle.cg_cells.specs.Table.{IsAllowed, Fits, Whole, IsLive, IsPlaced, key_at, value_at, total, times, passes_of, may_draw}
use Rattle.cg_cells.proofs.Levels.{None_not, stands_key}
use Rattle.cg_cells.proofs.Claims.{zeros, none_filled}
use Rattle.cg_cells.proofs.Entries.{tells_both, has_both}
use Rattle.cg_cells.proofs.Rows.{keys_else, values_else, no_keys, no_values}
use Rattle.cg_cells.proofs.Totals.{each_set, each_snoc, at_else, total_set, total_end, total_at, total_snoc, times_append, times_snoc}

-- a table has no more lines than cells
pub lines_few : (z : Sizes) → IsAllowed z → z.lines ≤ 2 ^ 26
lines_few z allowed = by_share z.share refl
  where
    by_share : (s : ℕ) → z.share ≡ s → z.lines ≤ 2 ^ 26
    by_share zero e = let a = allowed.cells.0 in let b : z.lines * z.share ≡ 0 = ap (λ x. z.lines * x) e ∙ mul-zero z.lines in absurd (omega arith)
    by_share (suc s) e =
        let a = allowed.cells.1 in
        let b : z.lines * z.share ≡ z.lines * suc s = ap (λ x. z.lines * x) e in
        let c = mul-suc z.lines s in
        omega arith

module _ {X : Type 0} (m : Meaning X) (z : Sizes) (words : List ℕ) (views : List (ViewOf X)) (W : Whole m z words views) (j : ℕ) (v : ViewOf X) (at : IsLive views j v) where
  abbrev keys : ℕ → ℕ
  keys = key_at (cells_of z) words

  abbrev values : ℕ → ℕ
  values = value_at (cells_of z) words

  abbrev n : ℕ
  n = slice_index words 0

  abbrev F : Fits m z (slice_index words 0) (key_at (cells_of z) words) (value_at (cells_of z) words) v
  F = W.each j v at

  module _ (more : v.over ≡ false) where
    counts_one : may_draw v ≡ v.heirs + 1
    counts_one = ap (λ b. v.heirs + (if b then 0 else 1)) more

    -- the counter stays far below the end of its word
    pub draw_room : n < z.lines + 65536
    draw_room = let a = total_at may_draw views j v at in let b = counts_one in let c = W.excess in let p = W.allowed.passes in omega arith

    -- the counter rises by 1, and the view becomes w
    drawn_by : (w : ViewOf X) → w.gone ≡ false → Fits m z (n + 1) keys values w
        → filled keys (cells_of z) + total (λ u. u.spare) (set views j w) ≤ z.share * min (n + 1) z.lines
        → passes_of w ≡ passes_of v
        → ((n + 1) - z.lines) + total may_draw (set views j w) ≤ z.passes
        → ((k : ℕ) → total (λ u. times k u.tickets) (set views j w) ≡ (if nat_lt k (min (n + 1) z.lines) then 1 else 0))
        → Whole m z (set words 0 (n + 1)) (set views j w)
    drawn_by w alive fits enough same excess drawn =
        let long = W.long in
        let is : n + 1 ≡ slice_index (set words 0 (n + 1)) 0 = sym (get_or-set_same words 0 (n + 1) 0 (omega arith)) in
        let kk = sym (keys_else (cells_of z) words 0 (n + 1) (λ i lt e. absurd (omega arith))) in
        let vv = sym (values_else (cells_of z) words 0 (n + 1) (λ i lt e. absurd (omega arith))) in
        let older : (i : ℕ) (u : ViewOf X) → IsLive views i u → Fits m z (n + 1) keys values u =
        λ i u e. let G = W.each i u e in record { sized = G.sized; stands = G.stands; over = λ is. let a = G.over is in omega arith; probes = G.probes; noted = G.noted } in
        record {
          allowed = W.allowed;
          long = length-set words 0 (n + 1) ∙ long;
          cells = record {
            sound = subst (λ k. Sound m k (value_at (cells_of z) (set words 0 (n + 1)))) kk (subst (λ h. Sound m keys h) vv W.cells.sound);
            placed = subst (λ k. (i : ℕ) → k i ≢ 0 → IsPlaced (cells_of z) k (m.home (k i) (cells_of z)) i) kk W.cells.placed;
          };
          each = subst (λ c. (i : ℕ) (u : ViewOf X) → IsLive (set views j w) i u → Fits m z c (key_at (cells_of z) (set words 0 (n + 1))) (value_at (cells_of z) (set words 0 (n + 1))) u) is
              (subst (λ k. (i : ℕ) (u : ViewOf X) → IsLive (set views j w) i u → Fits m z (n + 1) k (value_at (cells_of z) (set words 0 (n + 1))) u) kk
              (subst (λ h. (i : ℕ) (u : ViewOf X) → IsLive (set views j w) i u → Fits m z (n + 1) keys h u) vv
              (each_set (Fits m z (n + 1) keys values) views j w older (λ _. fits))));
          enough = subst (λ c. filled (key_at (cells_of z) (set words 0 (n + 1))) (cells_of z) + total (λ u. u.spare) (set views j w) ≤ z.share * min c z.lines) is
              (subst (λ k. filled k (cells_of z) + total (λ u. u.spare) (set views j w) ≤ z.share * min (n + 1) z.lines) kk enough);
          counted = let t = total_set passes_of views j v w at alive in let e = W.counted in omega arith;
          excess = subst (λ c. (c - z.lines) + total may_draw (set views j w) ≤ z.passes) is excess;
          drawn = λ k. subst (λ c. total (λ u. times k u.tickets) (set views j w) ≡ (if nat_lt k (min c z.lines) then 1 else 0)) is (drawn k);
        }

    abbrev drew : ViewOf X
    drew = record v { spare = v.spare + v.sizes.share; tickets = v.tickets ++ n ∷ [] }

    abbrev done : ViewOf X
    done = record v { over = true }

    one_more : (k : ℕ) → n < z.lines → total (λ u. times k u.tickets) (set views j drew) ≡ (if nat_lt k (n + 1) then 1 else 0)
    one_more k lt =
        let t = total_set (λ u. times k u.tickets) views j v drew at at.1 in
        let s = times_snoc k n v.tickets in
        let e : min n z.lines ≡ n = min-eq_left (omega arith) in
        let d : total (λ u. times k u.tickets) views ≡ (if nat_lt k n then 1 else 0) = W.drawn k ∙ ap (λ c. if nat_lt k c then 1 else 0) e in
        grind (arith, nat_tests)

    below : n < z.lines → Whole m z (set words 0 (n + 1)) (set views j drew)
    below lt =
        let a : min n z.lines ≡ n = min-eq_left (omega arith) in
        let b : min (n + 1) z.lines ≡ n + 1 = min-eq_left (omega arith) in
        drawn_by drew at.1
        (record { sized = F.sized; stands = F.stands; over = λ is. let c = F.over is in omega arith; probes = F.probes; noted = F.noted })
        (let t = total_set (λ u. u.spare) views j v drew at at.1 in
        let share : v.sizes.share ≡ z.share = ap (λ y. y.share) F.sized in
        let e = subst (λ c. filled keys (cells_of z) + total (λ u. u.spare) views ≤ z.share * c) a W.enough in
        subst (λ c. filled keys (cells_of z) + total (λ u. u.spare) (set views j drew) ≤ z.share * c) (sym b) (omega (arith, mul-suc z.share n)))
        refl
        (let t = total_set may_draw views j v drew at at.1 in let e = W.excess in omega arith)
        (λ k. one_more k lt ∙ ap (λ c. if nat_lt k c then 1 else 0) (sym b))

    past : ¬ (n < z.lines) → Whole m z (set words 0 (n + 1)) (set views j done)
    past ge =
        let a : min n z.lines ≡ z.lines = min-eq_right (omega arith) in
        let b : min (n + 1) z.lines ≡ z.lines = min-eq_right (omega arith) in
        drawn_by done at.1
        (record { sized = F.sized; stands = F.stands; over = λ is. omega arith; probes = F.probes; noted = F.noted })
        (let t = total_set (λ u. u.spare) views j v done at at.1 in
        let e = subst (λ c. filled keys (cells_of z) + total (λ u. u.spare) views ≤ z.share * c) a W.enough in
        subst (λ c. filled keys (cells_of z) + total (λ u. u.spare) (set views j done) ≤ z.share * c) (sym b) (omega arith))
        refl
        (let t = total_set may_draw views j v done at at.1 in let e = W.excess in let c = counts_one in omega arith)
        (λ k.
        let t = total_set (λ u. times k u.tickets) views j v done at at.1 in
        let d : total (λ u. times k u.tickets) (set views j done) ≡ total (λ u. times k u.tickets) views = omega arith in
        d ∙ W.drawn k ∙ ap (λ c. if nat_lt k c then 1 else 0) (a ∙ sym b))

    pub draws : Whole m z (set words 0 (n + 1)) (set views j (after_draw v n))
    draws = dite (dec_lt n z.lines)
        (λ lt. subst (λ w. Whole m z (set words 0 (n + 1)) (set views j w))
        (sym (ap (λ b. if b then drew else done) (lt-ltb n v.sizes.lines (subst (λ y. n < y.lines) (sym F.sized) lt)))) (below lt))
        (λ ge. subst (λ w. Whole m z (set words 0 (n + 1)) (set views j w))
        (sym (ap (λ b. if b then drew else done) (le-ltb n v.sizes.lines (subst (λ y. y.lines ≤ n) (sym F.sized) (let le : z.lines ≤ n = omega arith in le))))) (past ge))

  module _ (heirs : ℕ) (few : heirs < v.heirs) where
    abbrev old : ViewOf X
    old = after_split heirs v

    abbrev new : ViewOf X
    new = split_off heirs v

    cut : (f : ViewOf X → ℕ) → total f (set views j old ++ new ∷ []) + f v ≡ total f views + (f old + f new)
    cut f = let s = total_set f views j v old at at.1 in let t = total_snoc f (set views j old) new refl in omega arith

    pub splits : Whole m z words (set views j (after_split heirs v) ++ split_off heirs v ∷ [])
    splits = record {
      allowed = W.allowed;
      long = W.long;
      cells = W.cells;
      each = each_snoc (Fits m z n keys values) (set views j old) new
          (each_set (Fits m z n keys values) views j old W.each (λ _. record { sized = F.sized; stands = F.stands; over = F.over; probes = F.probes; noted = F.noted }))
          (record { sized = F.sized; stands = F.stands; over = λ is. absurd (true≢false (sym is)); probes = λ k s e. absurd (None_not e); noted = F.noted });
      enough = let t = cut (λ u. u.spare) in let e = W.enough in omega arith;
      drawn = λ k.
          let t = cut (λ u. times k u.tickets) in
          let d : total (λ u. times k u.tickets) (set views j old ++ new ∷ []) ≡ total (λ u. times k u.tickets) views = omega arith in
          d ∙ W.drawn k;
      counted = let t = cut passes_of in let e = W.counted in omega arith;
      excess = let t = cut may_draw in let e = W.excess in omega arith;
    }

  module _ (other : ℕ) (w : ViewOf X) (far : other ≢ j) (there : IsLive views other w) where
    abbrev both : ViewOf X
    both = after_meet v w

    G : Fits m z n keys values w
    G = W.each other w there

    after_join : (f : ViewOf X → ℕ) → total f (set (set views j both) other ended) + (f v + f w) ≡ total f views + f both
    after_join f =
        let s = total_set f views j v both at at.1 in
        let t = total_end f (set views j both) other w ended (at_else views j other both far ∙ there.0, there.1) refl in
        omega arith

    either : (a b : Bool) → (if a || b then 0 else 1) ≤ (if a then 0 else 1) + (if b then 0 else 1)
    either true b = omega arith
    either false b = omega arith

    over_both : (a b : Bool) → v.over ≡ a → w.over ≡ b → (a || b) ≡ true → z.lines ≤ n
    over_both true b e h is = F.over e
    over_both false true e h is = G.over h
    over_both false false e h is = absurd (true≢false (sym is))

    pub joins : Whole m z words (set (set views j (after_meet v w)) other ended)
    joins = record {
      allowed = W.allowed;
      long = W.long;
      cells = W.cells;
      each = each_set (Fits m z n keys values) (set views j both) other ended
          (each_set (Fits m z n keys values) views j both W.each (λ _. record {
            sized = F.sized;
            stands = λ i t e. ⊎_elim (λ a. F.stands i t a) (λ b. G.stands i t b) (tells_both v.known w.known i t e);
            over = over_both v.over w.over refl refl;
            probes = F.probes;
            noted = λ i h. ⊎_elim (λ a. F.noted i a) (λ b. G.noted i b) (has_both v.noted w.noted i h);
          }))
          (λ alive. absurd (true≢false alive));
      enough = let t = after_join (λ u. u.spare) in let e = W.enough in omega arith;
      drawn = λ k.
          let t = after_join (λ u. times k u.tickets) in
          let a = times_append k v.tickets w.tickets in
          let d : total (λ u. times k u.tickets) (set (set views j both) other ended) ≡ total (λ u. times k u.tickets) views = omega arith in
          d ∙ W.drawn k;
      counted = let t = after_join passes_of in let e = W.counted in omega arith;
      excess = let t = after_join may_draw in let e = W.excess in let b = either v.over w.over in omega arith;
    }

module _ {X : Type 0} (m : Meaning X) (L : IsLawful m) (z : Sizes) (allowed : IsAllowed z) where
  abbrev all_zero : List ℕ
  all_zero = replicate (1 + cells_of z + cells_of z) 0

  abbrev keys0 : ℕ → ℕ
  keys0 = key_at (cells_of z) (replicate (1 + cells_of z + cells_of z) 0)

  zero_key : (i : ℕ) → keys0 i ≡ 0
  zero_key = no_keys (cells_of z) (1 + cells_of z + cells_of z)

  zero_value : (i : ℕ) → value_at (cells_of z) all_zero i ≡ 0
  zero_value = no_values (cells_of z) (1 + cells_of z + cells_of z)

  only : (i : ℕ) (v : ViewOf X) → IsLive (first_view z ∷ []) i v → Fits m z (slice_index all_zero 0) keys0 (value_at (cells_of z) all_zero) v
  only zero v e = subst (Fits m z (slice_index all_zero 0) keys0 (value_at (cells_of z) all_zero)) (some-injective _ _ e.0)
      (record { sized = refl; stands = λ i t h. absurd h; over = λ is. absurd (true≢false (sym is)); probes = λ k n e'. absurd (None_not e'); noted = λ i h. absurd h })
  only (suc i) v e = absurd (some-ne-none v (sym e.0))

  pub opens : Whole m z (replicate (1 + cells_of z + cells_of z) 0) (first_view z ∷ [])
  opens =
      let zero_count : slice_index all_zero 0 ≡ 0 = zeros (1 + cells_of z + cells_of z) 0 in
      let p = allowed.passes in
      record {
        allowed = allowed;
        long = length-replicate (1 + cells_of z + cells_of z) 0;
        cells = record {
          sound = record {
            once = λ i k has. absurd (has (zero_key i));
            stand = λ i has. absurd (has (zero_key i));
            notes = λ i has. absurd (has (zero_value i));
            apart = λ i k t a. absurd (stands_key m L keys0 i t a (zero_key i));
          };
          placed = λ i has. absurd (has (zero_key i));
        };
        each = only;
        enough = subst (λ c. filled keys0 (cells_of z) + (0 + 0) ≤ z.share * min c z.lines) (sym zero_count) (let f = none_filled keys0 (cells_of z) zero_key in omega arith);
        drawn = λ k.
            let a : min (slice_index all_zero 0) z.lines ≡ 0 = omega (arith, zero_count) in
            ap (λ b. if b then 1 else 0) (sym (le-ltb k 0 (omega arith))) ∙ ap (λ c. if nat_lt k c then 1 else 0) (sym a);
        counted = omega arith;
        excess = subst (λ c. (c - z.lines) + (((z.passes - 1) + 1) + 0) ≤ z.passes) (sym zero_count) (omega arith);
      }
