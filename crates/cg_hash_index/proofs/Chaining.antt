-- Entries in chains.
use Rattle.std.proofs.Common.{◌≡◌, refl, ℕ, suc, ◌+◌, ◌*◌, ◌%◌, ◌^◌, ◌<◌, ◌≤◌, ◌++◌, inl, inr, List, [], ◌∷◌, length, get_or, ap, sym, ◌∙◌, subst, arith}
use Rattle.std.specs.Prelude.{slice_set, take}
use Rattle.std.proofs.lemmas.Bool.Decides.{eqb_tells}
use Rattle.std.proofs.Math.Nat.{mul-lt-mul_of_pos_right}
use Rattle.std.proofs.lemmas.List.{get_or_append_left, get_or_push, get_or_read_under, get_or-set_other}
use Rattle.std.proofs.lemmas.List.{get_or-set_same, length-append, length-set, length-take-le}
use Rattle.cg_hash_index.specs.Chains.{AreChained, IsLast, chain_at, chain_in, nothing}
use Rattle.cg_hash_index.specs.declared.hash_index.Entry.{Entry}

pub chain-below : (number chains : ℕ) → 0 < chains → chain_at number chains < chains
chain-below number chains some =
    let mixed = number * 2654435761 % 2 ^ 32 in
    let low : mixed * chains < 4294967296 * chains = mul-lt-mul_of_pos_right (omega arith) some in
    omega arith

-- ---- one entry more

-- the last of the first entries stays so
last_before : (entries more : List Entry) (chains count chain up_to : ℕ) → count ≤ length entries → IsLast entries chains count chain up_to
    → IsLast (entries ++ more) chains count chain up_to
last_before entries more chains count chain up_to few last =
    let low = last.inside in
    let same : (entry : ℕ) → entry < count → chain_in (entries ++ more) chains entry ≡ chain_in entries chains entry =
    λ entry h. ap (λ z. chain_at z.number chains) (get_or_append_left entries more nothing entry (omega arith)) in
    record {
      inside = low;
      own = λ entry e. same entry (omega arith) ∙ last.own entry e;
      behind = λ entry l h e. last.behind entry l h (sym (same entry h) ∙ e);
    }

module _ (entries : List Entry) (heads : List ℕ) (l : Entry) (chained : AreChained entries heads) (some : 0 < length heads) (chain : ℕ)
    (its : chain ≡ chain_at l.number (length heads)) (before : l.before ≡ get_or heads chain 0) where
  abbrev pub all : List Entry
  all = entries ++ (l ∷ [])

  longer : length all ≡ suc (length entries)
  longer = length-append entries (l ∷ []) ∙ omega arith

  own_chain : (entry : ℕ) → entry ≡ length entries → chain_in all (length heads) entry ≡ chain
  own_chain entry e = ap (λ z. chain_at z.number (length heads)) (get_or_push entries l nothing entry (sym e)) ∙ sym its

  inside : chain < length heads
  inside = let b = chain-below l.number (length heads) some in omega (arith, its)

  old_last : (other : ℕ) → other < length heads → IsLast all (length heads) (length entries) other (get_or heads other 0)
  old_last other low = last_before entries (l ∷ []) (length heads) (length entries) other (get_or heads other 0) (omega arith) (chained.lasts other low)

  -- the last entry of each chain
  new_last : (other : ℕ) → other < length heads
      → IsLast all (length heads) (length all) other (get_or (slice_set heads chain (suc (length entries))) other 0)
  new_last other low = elim (eqb_tells other chain) [
    | inl p ↦
        let P : ℕ → Type 0 = λ c. IsLast all (length heads) (length all) c (get_or (slice_set heads chain (suc (length entries))) c 0) in
        let Q : ℕ → Type 0 = λ u. IsLast all (length heads) (length all) chain u in
        subst P (sym p.1) (subst Q (sym (get_or-set_same heads chain (suc (length entries)) 0 inside)) (record {
          inside = omega (arith, longer);
          own = λ entry e. own_chain entry (omega arith);
          behind = λ entry l h. absurd (omega (arith, longer));
        }))
    | inr q ↦
        let Q : ℕ → Type 0 = λ u. IsLast all (length heads) (length all) other u in
        let last = old_last other low in
        let few = last.inside in
        subst Q (sym (get_or-set_other heads chain other (suc (length entries)) 0 q.1)) (record {
          inside = omega (arith, longer);
          own = last.own;
          behind = λ entry l h e. elim (eqb_tells entry (length entries)) [
            | inl s ↦ q.1 (sym e ∙ own_chain entry s.1)
            | inr t ↦ (let n = t.1 in last.behind entry l (omega (arith, longer)) e)
          ];
        })
  ]

  new_before : (entry : ℕ) → entry < length all
      → IsLast all (length heads) entry (chain_in all (length heads) entry) (get_or all entry nothing).before
  new_before entry low = elim (eqb_tells entry (length entries)) [
    | inl s ↦
        let P : ℕ → Type 0 = λ c. IsLast all (length heads) entry c (get_or all entry nothing).before in
        let Q : ℕ → Type 0 = λ u. IsLast all (length heads) entry chain u in
        let V : ℕ → Type 0 = λ n. IsLast all (length heads) n chain (get_or heads chain 0) in
        let is = ap (λ z. z.before) (get_or_push entries l nothing entry (sym s.1)) ∙ before in
        subst P (sym (own_chain entry s.1)) (subst Q (sym is) (subst V (sym s.1) (old_last chain inside)))
    | inr t ↦
        let n = t.1 in
        let less : entry < length entries = omega (arith, longer) in
        let P : Entry → Type 0 = λ z. IsLast all (length heads) entry (chain_at z.number (length heads)) z.before in
        subst P (sym (get_or_append_left entries (l ∷ []) nothing entry less))
        (last_before entries (l ∷ []) (length heads) entry _ _ (omega arith) (chained.befores entry less))
  ]

  pub added : (more : List Entry) (count : ℕ) → more ≡ all → count ≡ length more → AreChained more (slice_set heads chain count)
  added more count is whole =
      let P : List Entry → Type 0 = λ z. AreChained z (slice_set heads chain count) in
      let Q : ℕ → Type 0 = λ z. AreChained all (slice_set heads chain z) in
      let size = length-set heads chain (suc (length entries)) in
      let V : ℕ → Type 0 = λ n. (other : ℕ) → other < n → IsLast all n (length all) other (get_or (slice_set heads chain (suc (length entries))) other 0) in
      let W : ℕ → Type 0 = λ n. (entry : ℕ) → entry < length all → IsLast all n entry (chain_in all n entry) (get_or all entry nothing).before in
      subst P (sym is) (subst Q (sym (whole ∙ ap length is ∙ longer)) (record {
        none = λ z. absurd (omega (arith, size));
        lasts = subst V (sym size) new_last;
        befores = subst W (sym size) new_before;
      }))

-- so many are the first of them, where the last of these was replaced
pub first_count : (entries : List Entry) (entry : ℕ) (l : Entry) → entry < length entries
    → entry + 1 ≡ length (take (entry + 1) (slice_set entries entry l))
first_count entries entry l less = let e = length-set entries entry l in sym (length-take-le (entry + 1) (slice_set entries entry l) (omega arith))

-- ---- an entry is looked for

module _ (entries : List Entry) (heads : List ℕ) (chained : AreChained entries heads) (number : ℕ) where
  -- where the search begins
  pub starts : (u chain : ℕ) → u ≡ get_or heads chain u → chain < length heads → chain ≡ chain_at number (length heads)
      → IsLast entries (length heads) (length entries) (chain_at number (length heads)) u
  starts u chain e inside its =
      let P : ℕ → Type 0 = λ c. IsLast entries (length heads) (length entries) c u in
      let Q : ℕ → Type 0 = λ z. IsLast entries (length heads) (length entries) chain z in
      subst P its (subst Q (sym (get_or_read_under heads chain (length heads) u 0 e inside refl)) (chained.lasts chain inside))

  -- where it goes on
  pub goes_on : (entry : ℕ) (l : Entry) → chain_in entries (length heads) entry ≡ chain_at number (length heads) → entry < length entries
      → l ≡ get_or entries entry l → IsLast entries (length heads) entry (chain_at number (length heads)) l.before
  goes_on entry l own less e =
      let P : ℕ → Type 0 = λ c. IsLast entries (length heads) entry c l.before in
      let Q : Entry → Type 0 = λ z. IsLast entries (length heads) entry (chain_in entries (length heads) entry) z.before in
      subst P own (subst Q (sym (get_or_read_under entries entry (length entries) l nothing e less refl)) (chained.befores entry less))
