-- A new key in an empty cell, where the key spells a thing and stands nowhere yet.
use Rattle.std.proofs.Common.{◌≡◌, ◌≢◌, ℕ, zero, suc, ◌+◌, ◌-◌, ◌<◌, ◌≤◌, replicate, Option, Some, refl, sym, ap, ◌∙◌, subst, arith}
use Rattle.std.specs.Prelude.{slice_index}
use mathlib.Core.Logic.{dite}
use native.Mathlib.Decide.{ℕ_discrete}
use Rattle.cg_cells.specs.Meaning.{Meaning, IsInjective, IsLawful, spelled, level, Stands, Sound}
use Rattle.cg_cells.specs.Words.{one_if, filled}
use Rattle.cg_cells.proofs.Levels.{KeepsKeys, up_left, up_right, stands_one, stands_keeps, stands_key}
use Rattle.cg_cells.proofs.Levels.{stands_spells, spells_level, is_spelled, spells_grows, level_le}

pub one_if-some : (k : ℕ) → k ≢ 0 → one_if k ≡ 1
one_if-some zero n = absurd (n refl)
one_if-some (suc k) n = refl

pub filled-same : (f g : ℕ → ℕ) (n : ℕ) → ((i : ℕ) → i < n → g i ≡ f i) → filled g n ≡ filled f n
filled-same f g zero same = refl
filled-same f g (suc n) same = let a = filled-same f g n (λ i h. same i (omega arith)) in let b : one_if (g n) ≡ one_if (f n) = ap one_if (same n (omega arith)) in omega arith

pub filled-new : (f g : ℕ → ℕ) (c n : ℕ) → c < n → f c ≡ 0 → g c ≢ 0 → ((i : ℕ) → i ≢ c → g i ≡ f i) → filled g n ≡ filled f n + 1
filled-new f g c zero h e n same = absurd (omega arith)
filled-new f g c (suc n) h e new same = dite (ℕ_discrete n c)
    (λ is.
    let a = filled-same f g n (λ i h. same i (λ z. absurd (omega arith))) in
    let b : one_if (g n) ≡ 1 = subst (λ z. one_if (g z) ≡ 1) (sym is) (one_if-some (g c) new) in
    let d : one_if (f n) ≡ 0 = subst (λ z. one_if (f z) ≡ 0) (sym is) (ap one_if e) in
    omega arith)
    (λ not_it.
    let a = filled-new f g c n (omega arith) e new same in
    let b : one_if (g n) ≡ one_if (f n) = ap one_if (same n not_it) in
    omega arith)

pub filled-all : (f : ℕ → ℕ) (n : ℕ) → ((i : ℕ) → i < n → f i ≢ 0) → filled f n ≡ n
filled-all f zero all = refl
filled-all f (suc n) all = let a = filled-all f n (λ i h. all i (omega arith)) in let b = one_if-some (f n) (all n (omega arith)) in omega arith

pub filled-most : (f : ℕ → ℕ) (n : ℕ) → filled f n ≤ n
filled-most f zero = omega arith
filled-most f (suc n) = let a = filled-most f n in let b = most (f n) in omega arith
  where
    most : (k : ℕ) → one_if k ≤ 1
    most zero = omega arith
    most (suc k) = omega arith

pub zeros : (n i : ℕ) → slice_index (replicate n 0) i ≡ 0
zeros zero i = refl
zeros (suc n) zero = refl
zeros (suc n) (suc i) = zeros n i

pub none_filled : (f : ℕ → ℕ) (n : ℕ) → ((i : ℕ) → f i ≡ 0) → filled f n ≡ 0
none_filled f zero h = refl
none_filled f (suc n) h = rw (none_filled f n h, h n) refl

module _ {X : Type 0} (m : Meaning X) (L : IsLawful m) where
  pub level_apart : (keys : ℕ → ℕ) → ((i j : ℕ) (t : X) → Stands m keys i t → Stands m keys j t → i ≡ j) → (n : ℕ) → IsInjective (level m keys n)
  level_apart keys apart n i j t a b = apart i j t (n, a) (n, b)

  -- two keys that spell one thing, at any levels, are one key
  pub one_key_at : (keys : ℕ → ℕ) → ((i j : ℕ) (t : X) → Stands m keys i t → Stands m keys j t → i ≡ j) → (k l a b : ℕ) (t : X) → m.spells k (level m keys a) ≡ Some t → m.spells l (level m keys b) ≡ Some t → k ≡ l
  one_key_at keys apart k l a b t p q =
      L.one_key k l (level m keys (a + b)) t (level_apart keys apart (a + b)) (spells_grows m L k _ _ t (level_le m L keys a (a + b) (omega arith)) p) (spells_grows m L l _ _ t (level_le m L keys b (a + b) (omega arith)) q)

  module _ (keys keys' values : ℕ → ℕ) (c k : ℕ) (t : X) (S : Sound m keys values)
      (room : keys c ≡ 0) (here : keys' c ≡ k) (others : (i : ℕ) → i ≢ c → keys' i ≡ keys i) (is_key : k ≢ 0) where
    pub keeps : KeepsKeys keys keys'
    keeps i has = others i (λ is. has (ap keys is ∙ room))

    back_key : (i : ℕ) → i ≢ c → keys' i ≢ 0 → keys i ≢ 0
    back_key i far has e = has (others i far ∙ e)

    -- what stands after and isn't the new cell stood before
    pub stood : (i : ℕ) (u : X) → i ≢ c → Stands m keys' i u → Stands m keys i u
    stood i u far a =
        let was = S.stand i (back_key i far (stands_key m L keys' i u a)) in
        subst (λ v. Stands m keys i v) (stands_one m L keys' i was.0 u (stands_keeps m L keys keys' keeps i was.0 was.1) a) was.1

    module _ (f : ℕ → Option X) (knows : (i : ℕ) (u : X) → f i ≡ Some u → Stands m keys i u) (spells : m.spells k f ≡ Some t)
        (absent : (i : ℕ) → keys i ≢ k) where
      spelled_low : (n : ℕ) × (m.spells k (level m keys n) ≡ Some t)
      spelled_low = spells_level m L keys f knows k t spells

      pub new_stands : Stands m keys' c t
      new_stands =
          let r = spelled_low in
          let e = spells_grows m L k (level m keys r.0) (level m keys' r.0) t (Rattle.cg_cells.proofs.Levels.level_keeps m L keys keys' keeps r.0) r.1 in
          (suc r.0, subst (λ z. spelled m z (level m keys' r.0) ≡ Some t) (sym here) (is_spelled m k _ t is_key e))

      only_new : (i : ℕ) → i ≢ c → Stands m keys' i t → ⊥
      only_new i far a =
          let b = stands_spells m L keys i t (stood i t far a) in
          let r = spelled_low in
          absent i (sym (one_key_at keys S.apart k (keys i) r.0 b.0 t r.1 b.1))

      pub claimed_sound : Sound m keys' values
      claimed_sound = record {
        once = λ i j has same. dite (ℕ_discrete i c)
            (λ is. dite (ℕ_discrete j c) (λ js. is ∙ sym js) (λ far. absurd (absent j (sym (others j far) ∙ sym same ∙ ap keys' is ∙ here))))
            (λ far. dite (ℕ_discrete j c) (λ js. absurd (absent i (sym (others i far) ∙ same ∙ ap keys' js ∙ here))) (λ far'. S.once i j (back_key i far has) (sym (others i far) ∙ same ∙ others j far')));
        stand = λ i has. dite (ℕ_discrete i c) (λ is. (t, subst (λ z. Stands m keys' z t) (sym is) new_stands)) (λ far. let a = S.stand i (back_key i far has) in (a.0, stands_keeps m L keys keys' keeps i a.0 a.1));
        notes = λ i has. let a = S.notes i has in (a.0, a.1, stands_keeps m L keys keys' keeps i a.0 a.2, a.3, stands_keeps m L keys keys' keeps (values i - 1) a.1 a.4);
        apart = λ i j u a b. dite (ℕ_discrete i c)
            (λ is. dite (ℕ_discrete j c) (λ js. is ∙ sym js) (λ far. absurd (only_new j far (subst (λ z. Stands m keys' j z) (new_is i u is a) b))))
            (λ far. dite (ℕ_discrete j c) (λ js. absurd (only_new i far (subst (λ z. Stands m keys' i z) (new_is j u js b) a))) (λ far'. S.apart i j u (stood i u far a) (stood j u far' b)));
      }
        where
          new_is : (i : ℕ) (u : X) → i ≡ c → Stands m keys' i u → u ≡ t
          new_is i u is a = stands_one m L keys' c u t (subst (λ z. Stands m keys' z u) is a) new_stands
