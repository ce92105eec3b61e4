-- What cells stand for, by levels: it is one thing, it stays when keys are added, and it is found at one level for any finite number of cells.
use Rattle.std.proofs.Common.{◌≡◌, ◌≢◌, ℕ, zero, suc, ◌+◌, ◌≤◌, List, [], ◌∷◌, Option, Some, None, refl, sym, ap, ◌∙◌, subst, inl, inr, ⊎_elim, arith}
use mathlib.Core.Logic.{dite}
use native.Mathlib.Decide.{dec_le}
use Rattle.cg_cells.specs.Parts.{names_of}
use Rattle.cg_cells.specs.Meaning.{Has, Meaning, Grows, IsLawful, spelled, level, Stands}

module _ {X : Type 0} where
  or_else : X → Option X → X
  or_else y None = y
  or_else y (Some x) = x

  pub same_Some : {x y : X} → Some x ≡ Some y → x ≡ y
  unfolding or_else
  same_Some {x} {y} e = ap (or_else x) e

  is_some? : Option X → Type 0
  is_some? None = ⊥
  is_some? (Some x) = Unit {0}

  pub None_not : {x : X} → None ≡ Some x → ⊥
  unfolding is_some?
  None_not e = subst is_some? (sym e) tt

-- a cell with a key keeps it
abbrev pub KeepsKeys : (ℕ → ℕ) → (ℕ → ℕ) → Type 0
KeepsKeys k k' = (i : ℕ) → k i ≢ 0 → k' i ≡ k i

pub suc_not : {n : ℕ} → suc n ≢ 0
suc_not e = absurd (omega arith)

module _ {X : Type 0} (m : Meaning X) where
  pub spelled_is : (k : ℕ) (f : ℕ → Option X) (t : X) → spelled m k f ≡ Some t → (k ≢ 0) × (m.spells k f ≡ Some t)
  spelled_is zero f t e = absurd (None_not e)
  spelled_is (suc k) f t e = (suc_not, e)

  pub is_spelled : (k : ℕ) (f : ℕ → Option X) (t : X) → k ≢ 0 → m.spells k f ≡ Some t → spelled m k f ≡ Some t
  is_spelled zero f t n e = absurd (n refl)
  is_spelled (suc k) f t n e = e

  module _ (L : IsLawful m) where
    pub spells_grows : (k : ℕ) (f g : ℕ → Option X) (t : X) → Grows f g → m.spells k f ≡ Some t → m.spells k g ≡ Some t
    spells_grows k f g t grows e = L.reads_parts k f g t e (λ id h. let p = L.names_parts k f t e id h in grows id _ p ∙ sym p)

    pub spelled_grows : (k : ℕ) (f g : ℕ → Option X) (t : X) → Grows f g → spelled m k f ≡ Some t → spelled m k g ≡ Some t
    spelled_grows k f g t grows e = let p = spelled_is k f t e in is_spelled k g t p.0 (spells_grows k f g t grows p.1)

    pub level_keeps : (keys keys' : ℕ → ℕ) → KeepsKeys keys keys' → (n : ℕ) → Grows (level m keys n) (level m keys' n)
    level_keeps keys keys' keeps zero i t e = absurd (None_not e)
    level_keeps keys keys' keeps (suc n) i t e =
        let p = spelled_is (keys i) _ t e in
        let q = spelled_grows (keys i) (level m keys n) (level m keys' n) t (level_keeps keys keys' keeps n) e in
        subst (λ k. spelled m k (level m keys' n) ≡ Some t) (sym (keeps i p.0)) q

    pub level_suc : (keys : ℕ → ℕ) (n : ℕ) → Grows (level m keys n) (level m keys (suc n))
    level_suc keys zero i t e = absurd (None_not e)
    level_suc keys (suc n) i t e = spelled_grows (keys i) _ _ t (level_suc keys n) e

    pub level_le : (keys : ℕ → ℕ) (n k : ℕ) → n ≤ k → Grows (level m keys n) (level m keys k)
    level_le keys n zero h i t e = subst (λ z. level m keys z i ≡ Some t) (let z : n ≡ 0 = omega arith in z) e
    level_le keys n (suc k) h i t e = dite (dec_le n k)
        (λ le. level_suc keys k i t (level_le keys n k le i t e))
        (λ gt. let z : n ≡ suc k = omega arith in subst (λ z. level m keys z i ≡ Some t) z e)

    pub up_left : (keys : ℕ → ℕ) (n k i : ℕ) (t : X) → level m keys n i ≡ Some t → level m keys (n + k) i ≡ Some t
    up_left keys n k i t e = level_le keys n (n + k) (omega arith) i t e

    pub up_right : (keys : ℕ → ℕ) (n k i : ℕ) (t : X) → level m keys k i ≡ Some t → level m keys (n + k) i ≡ Some t
    up_right keys n k i t e = level_le keys k (n + k) (omega arith) i t e

    -- a cell stands for one thing
    pub stands_one : (keys : ℕ → ℕ) (i : ℕ) (t u : X) → Stands m keys i t → Stands m keys i u → t ≡ u
    stands_one keys i t u a b = same_Some (sym (up_left keys a.0 b.0 i t a.1) ∙ up_right keys a.0 b.0 i u b.1)

    pub stands_keeps : (keys keys' : ℕ → ℕ) → KeepsKeys keys keys' → (i : ℕ) (t : X) → Stands m keys i t → Stands m keys' i t
    stands_keeps keys keys' keeps i t a = (a.0, level_keeps keys keys' keeps a.0 i t a.1)

    pub stands_key : (keys : ℕ → ℕ) (i : ℕ) (t : X) → Stands m keys i t → keys i ≢ 0
    stands_key keys i t (zero, e) = absurd (None_not e)
    stands_key keys i t (suc n, e) = (spelled_is (keys i) _ t e).0

    pub stands_spells : (keys : ℕ → ℕ) (i : ℕ) (t : X) → Stands m keys i t → (n : ℕ) × (m.spells (keys i) (level m keys n) ≡ Some t)
    stands_spells keys i t (zero, e) = absurd (None_not e)
    stands_spells keys i t (suc n, e) = (n, (spelled_is (keys i) _ t e).1)

    -- one level serves all the ids of a list
    pub one_level : (keys : ℕ → ℕ) (f : ℕ → Option X) (ids : List ℕ) → ((i : ℕ) → Has ids i → (t : X) × (f i ≡ Some t) × Stands m keys i t)
        → (n : ℕ) × ((i : ℕ) → Has ids i → (t : X) × (f i ≡ Some t) × (level m keys n i ≡ Some t))
    one_level keys f [] all = (0, λ i h. absurd h)
    one_level keys f (x ∷ xs) all =
        let first = all x (inl refl) in
        let rest = one_level keys f xs (λ i h. all i (inr h)) in
        let a = first.2.0 in (
          a + rest.0,
          λ i h. ⊎_elim
              (λ (is : x ≡ i). subst (λ y. (t : X) × (f y ≡ Some t) × (level m keys (a + rest.0) y ≡ Some t)) is (first.0, first.1, up_left keys a rest.0 x first.0 first.2.1))
              (λ there. let r = rest.1 i there in (r.0, r.1, up_right keys a rest.0 i r.0 r.2))
              h,
        )

    -- a key that spells a thing under what is known spells it at some level
    pub spells_level : (keys : ℕ → ℕ) (f : ℕ → Option X) → ((i : ℕ) (t : X) → f i ≡ Some t → Stands m keys i t) → (k : ℕ) (t : X) → m.spells k f ≡ Some t → (n : ℕ) × (m.spells k (level m keys n) ≡ Some t)
    spells_level keys f knows k t e =
        let named = one_level keys f (names_of k) (λ i h. let p = L.names_parts k f t e i h in (m.part k t i, p, knows i _ p)) in
        (named.0, L.reads_parts k f (level m keys named.0) t e (λ i h. let r = named.1 i h in r.2 ∙ sym r.1))

    pub spells_stands : (keys : ℕ → ℕ) (f : ℕ → Option X) → ((i : ℕ) (t : X) → f i ≡ Some t → Stands m keys i t) → (i : ℕ) (t : X) → keys i ≢ 0 → m.spells (keys i) f ≡ Some t → Stands m keys i t
    spells_stands keys f knows i t has e = let r = spells_level keys f knows (keys i) t e in (suc r.0, is_spelled (keys i) _ t has r.1)

    -- each id that a standing cell names stands for its part
    pub part_stands : (keys : ℕ → ℕ) (i : ℕ) (t : X) → Stands m keys i t → (j : ℕ) → Has (names_of (keys i)) j → Stands m keys j (m.part (keys i) t j)
    part_stands keys i t a j h = let r = stands_spells keys i t a in (r.0, L.names_parts (keys i) (level m keys r.0) t r.1 j h)
