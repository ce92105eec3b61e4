-- A run repeats an earlier one exactly where the test on the lengths says so.
use Rattle.std.proofs.Common.{◌≡◌, ℕ, ◌⊎◌, inl, inr, Bool, true, false, cond, ◌||◌, List, [], ◌∷◌, ◌++◌, refl, ap, sym, ◌∙◌}
use Rattle.std.specs.Prelude.{ltb, ◌==◌, ◌↔◌}
use Rattle.std.proofs.Math.Bool.{or-true}
use Rattle.std.proofs.lemmas.Bool.{false≢true, eqb-true, ltb-false, le-ltb, false_from_ne_true}
use Rattle.cg_grammar.specs.Braces.{Run_side, repeats}
use Rattle.cg_grammar.specs.Splitting.{AllAtMost, NoneRepeats, Repeats}
use Rattle.cg_grammar.proofs.LongestRun.{Fresh, at_equal, repeats-append}

-- the test of a flag and these lengths is true: the flag is and no length is greater, or one of them is repeated
found : (n : ℕ) (seen : Bool) (earlier : List ℕ) → repeats n seen earlier ≡ true → ((seen ≡ true) × AllAtMost n earlier) ⊎ Repeats n earlier
found n seen [] h = inl (h, tt)
found n seen (m ∷ later) h = by_order (ltb n m) refl (n == m) refl seen (found n (cond (ltb n m) false ((n == m) || seen)) later h)
  where
    by_order : (longer : Bool) → ltb n m ≡ longer → (same : Bool) → (n == m) ≡ same → (flag : Bool) → ((cond longer false (same || flag) ≡ true) × AllAtMost n later) ⊎ Repeats n later → ((flag ≡ true) × AllAtMost n (m ∷ later)) ⊎ Repeats n (m ∷ later)
    by_order longer e same f flag (inr r) = inr (record { before = m ∷ r.before; between = r.between; spelled = ap (λ (z : List ℕ). m ∷ z) r.spelled; none_longer = r.none_longer })
    by_order true e same f flag (inl p) = absurd (false≢true p.0)
    by_order false e true f flag (inl p) = inr (record { before = []; between = later; spelled = ap (λ (k : ℕ). k ∷ later) (sym (eqb-true n m f)); none_longer = p.1 })
    by_order false e false f flag (inl p) = inl (p.0, (ltb-false n m e, p.1))

-- a run stays seen where no longer one comes
stays : (n : ℕ) (ms : List ℕ) → AllAtMost n ms → repeats n true ms ≡ true
stays n [] h = refl
stays n (m ∷ ms) h = ap (λ (b : Bool). repeats n (cond b false ((n == m) || true)) ms) (le-ltb n m h.0) ∙ ap (λ (b : Bool). repeats n b ms) (or-true (n == m)) ∙ stays n ms h.1

holds : (n : ℕ) (earlier : List ℕ) → Repeats n earlier → repeats n false earlier ≡ true
holds n earlier r =
    ap (repeats n false) r.spelled ∙ repeats-append n false r.before (n ∷ r.between)
    ∙ ap (λ (b : Bool). repeats n b r.between) (at_equal n (repeats n false r.before)) ∙ stays n r.between r.none_longer

pub repeats_exactly : (n : ℕ) (earlier : List ℕ) → (repeats n false earlier ≡ true) ↔ Repeats n earlier
repeats_exactly n earlier = (λ h. by_case (found n false earlier h), holds n earlier)
  where
    by_case : ((false ≡ true) × AllAtMost n earlier) ⊎ Repeats n earlier → Repeats n earlier
    by_case (inl p) = absurd (false≢true p.0)
    by_case (inr r) = r

pub fresh_of : (earlier : List ℕ) (rows : List Run_side) → NoneRepeats earlier rows → Fresh earlier rows
fresh_of earlier [] h = tt
fresh_of earlier (r ∷ rows) h = (false_from_ne_true (repeats r.bars false earlier) (λ (e : repeats r.bars false earlier ≡ true). h.0 ((repeats_exactly r.bars earlier).0 e)), fresh_of (earlier ++ r.bars ∷ []) rows h.1)
