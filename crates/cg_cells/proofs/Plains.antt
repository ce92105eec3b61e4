-- Calls on a store of words in plain memory.
use Rattle.std.proofs.Common.{◌≡◌, ◌≢◌, ◌↔◌, ℕ, zero, suc, ◌+◌, ◌-◌, ◌^◌, ◌<◌, ◌≤◌, IsSome, List, [], ◌∷◌, length, set, get_or, Some, refl}
use Rattle.std.proofs.Common.{sym, ap, ◌∙◌, subst, inl, inr, arith, get_or-set_same, get_or-set_other, length-set, zero-add, replicate}
use Rattle.std.proofs.lemmas.List.{length-replicate}
use Rattle.std.specs.Prelude.{slice_index}
use Rattle.std.specs.FinMap as map
use mathlib.Core.Logic.{dite}
use native.Mathlib.Decide.{ℕ_discrete}
use Rattle.cg_cells.specs.Parts.{names_of}
use Rattle.cg_cells.specs.Meaning.{note_for, Has, Meaning, Grows, IsLawful, IsReal, level, spelled}
use Rattle.cg_cells.specs.Words.{Words, IsStore, things_of, marked, filled, empty_words}
use Rattle.cg_cells.specs.Index.{IsKept}
use Rattle.cg_cells.proofs.Levels.{stands_key, stands_keeps, stands_spells, spells_stands, spells_grows}
use Rattle.cg_cells.proofs.Claims.{zeros, none_filled, filled-new, filled-all, claimed_sound, keeps, new_stands}
use Rattle.cg_cells.proofs.Notes.{noted_sound, some_is, is_some, noted_thing}
use Rattle.cg_cells.proofs.Saturates.{known_stands, stands_known}

pub any_default : (l : List ℕ) (i d : ℕ) → i < length l → get_or l i d ≡ slice_index l i
any_default [] i d h = absurd (omega arith)
any_default (x ∷ l) zero d h = refl
any_default (x ∷ l) (suc i) d h = any_default l i d (omega arith)

pub nowhere : (l : List ℕ) (k : ℕ) → k ≢ 0 → ((i : ℕ) → i < length l → slice_index l i ≢ k) → (i : ℕ) → slice_index l i ≢ k
nowhere [] k n h i e = n (sym e)
nowhere (x ∷ l) k n h zero e = h 0 (omega arith) e
nowhere (x ∷ l) k n h (suc i) e = nowhere l k n (λ j lt. h (suc j) (omega arith)) i e

pub marked_in : (n : ℕ) (ws : List ℕ) (k : ℕ) → slice_index ws k ≢ 0 → Has (marked n ws) (n + k)
marked_in n [] k h = absurd (h refl)
marked_in n (zero ∷ ws) zero h = absurd (h refl)
marked_in n (zero ∷ ws) (suc k) h =
    let e : suc n + k ≡ n + suc k = omega arith in
    subst (λ z. Has (marked (suc n) ws) z) e (marked_in (suc n) ws k h)
marked_in n (suc w ∷ ws) zero h = inl (omega arith)
marked_in n (suc w ∷ ws) (suc k) h =
    let e : suc n + k ≡ n + suc k = omega arith in
    inr (subst (λ z. Has (marked (suc n) ws) z) e (marked_in (suc n) ws k h))

pub marked_out : (n : ℕ) (ws : List ℕ) (x : ℕ) → Has (marked n ws) x → (k : ℕ) × (x ≡ n + k) × (slice_index ws k ≢ 0)
marked_out n [] x h = absurd h
marked_out n (zero ∷ ws) x h = let r = marked_out (suc n) ws x h in let e = r.1 in (suc r.0, omega arith, r.2)
marked_out n (suc w ∷ ws) x (inl h) = (0, omega arith, λ z. cc)
marked_out n (suc w ∷ ws) x (inr h) = let r = marked_out (suc n) ws x h in let e = r.1 in (suc r.0, omega arith, r.2)

-- exactly the words that aren't 0 are marked
pub marked_has : (ws : List ℕ) (i : ℕ) → Has (marked 0 ws) i ↔ (slice_index ws i ≢ 0)
marked_has ws i = (
  λ h z. let r = marked_out 0 ws i h in let a : i ≡ r.0 = let b = r.1 in omega arith in r.2 (subst (λ y. slice_index ws y ≡ 0) a z),
  λ has. subst (λ y. Has (marked 0 ws) y) (zero-add i) (marked_in 0 ws i has),
)

module _ {X : Type 0} (m : Meaning X) (L : IsLawful m) (w : Words) (P : IsStore m w) where
  abbrev keys : ℕ → ℕ
  keys = slice_index w.keys

  inside_list : (l : List ℕ) (i : ℕ) → slice_index l i ≢ 0 → i < length l
  inside_list [] i has = absurd (has refl)
  inside_list (x ∷ l) zero has = omega arith
  inside_list (x ∷ l) (suc i) has = let r = inside_list l i has in omega arith

  pub plain_inside : (i : ℕ) (t : X) → map.get (things_of m w.keys) i ≡ Some t → i < length w.keys
  plain_inside i t e = inside_list w.keys i (stands_key m L keys i t (known_stands m L w i t e))

  pub plain_look : (i : ℕ) (t : X) → map.get (things_of m w.keys) i ≡ Some t → m.spells (slice_index w.keys i) (map.get (things_of m w.keys)) ≡ Some t
  plain_look i t e =
      let r = stands_spells m L keys i t (known_stands m L w i t e) in
      spells_grows m L (keys i) (level m keys r.0) (map.get (things_of m w.keys)) t (λ j u h. stands_known m L w j u (r.0, h)) r.1

  pub plain_key : (i : ℕ) (t : X) → map.get (things_of m w.keys) i ≡ Some t → slice_index w.keys i ≢ 0
  plain_key i t e = stands_key m L keys i t (known_stands m L w i t e)

  pub plain_apart : (a b : ℕ) (t : X) → map.get (things_of m w.keys) a ≡ Some t → map.get (things_of m w.keys) b ≡ Some t → a ≡ b
  plain_apart a b t e h = P.sound.apart a b t (known_stands m L w a t e) (known_stands m L w b t h)

  pub plain_real : (i : ℕ) → IsReal m (map.get (things_of m w.keys) i)
  plain_real i t e = (keys, i, known_stands m L w i t e)

  module _ (key : ℕ) (t : X) (is_key : key ≢ 0) (spells : m.spells key (map.get (things_of m w.keys)) ≡ Some t) where
    pub plain_found : (c : ℕ) → slice_index w.keys c ≡ key → map.get (things_of m w.keys) c ≡ Some t
    plain_found c is = stands_known m L w c t (spells_stands m L keys (map.get (things_of m w.keys)) (known_stands m L w) c t (λ e. is_key (sym is ∙ e)) (subst (λ k. m.spells k (map.get (things_of m w.keys)) ≡ Some t) (sym is) spells))

    -- some cell is empty
    pub plain_room : 1 ≤ w.spare → ¬ ((i : ℕ) → i < length w.keys → slice_index w.keys i ≢ 0)
    plain_room some full = let f = filled-all keys (length w.keys) full in let e = P.enough in absurd (omega arith)

    module _ (c : ℕ) (lt : c < length w.keys) (room : slice_index w.keys c ≡ 0) (absent : (i : ℕ) → slice_index w.keys i ≢ key) where
      abbrev w' : Words
      w' = record { keys = set w.keys c key; values = w.values; spare = w.spare - 1 }

      abbrev keys' : ℕ → ℕ
      keys' = slice_index (set w.keys c key)

      here : keys' c ≡ key
      here = get_or-set_same w.keys c key 0 lt

      others : (i : ℕ) → i ≢ c → keys' i ≡ keys i
      others i far = get_or-set_other w.keys c i key 0 far

      pub plain_sound : 1 ≤ w.spare → IsStore m w'
      plain_sound some = record {
        same_length = let a = P.same_length in a ∙ sym (length-set w.keys c key);
        size = subst (λ n. (1 ≤ n) × (n ≤ 2 ^ 26)) (sym (length-set w.keys c key)) P.size;
        sound = claimed_sound m L keys keys' (slice_index w.values) c key t P.sound room here others is_key (map.get (things_of m w.keys)) (known_stands m L w) spells absent;
        enough = subst (λ n. filled keys' n + (w.spare - 1) ≤ n) (sym (length-set w.keys c key)) (let f = filled-new keys keys' c (length w.keys) lt room (λ e. is_key (sym here ∙ e)) others in let e = P.enough in omega arith);
      }

      pub plain_new : map.get (things_of m w'.keys) c ≡ Some t
      plain_new = stands_known m L w' c t (new_stands m L keys keys' (slice_index w.values) c key t P.sound room here others is_key (map.get (things_of m w.keys)) (known_stands m L w) spells absent)

      pub plain_grows : Grows (map.get (things_of m w.keys)) (map.get (things_of m w'.keys))
      plain_grows i u e = stands_known m L w' i u (stands_keeps m L keys keys' (keeps m L keys keys' (slice_index w.values) c key t P.sound room here others is_key) i u (known_stands m L w i u e))

  -- what a claim, a look or a note on a known id needs
  pub known_inside : (i : ℕ) → IsSome (map.get (things_of m w.keys) i) → i < length w.keys
  known_inside i h = let s = some_is _ h in plain_inside i s.0 s.1

  pub known_key : (i : ℕ) → IsSome (map.get (things_of m w.keys) i) → slice_index w.keys i ≢ 0
  known_key i h = let s = some_is _ h in plain_key i s.0 s.1

  pub look_spells : (i : ℕ) → IsSome (map.get (things_of m w.keys) i) → m.spells (slice_index w.keys i) (map.get (things_of m w.keys)) ≡ map.get (things_of m w.keys) i
  look_spells i h = let s = some_is _ h in plain_look i s.0 s.1 ∙ sym s.1

  pub look_named : (i : ℕ) → IsSome (map.get (things_of m w.keys) i) → (j : ℕ) → Has (names_of (slice_index w.keys i)) j → IsSome (map.get (things_of m w.keys) j)
  look_named i h j n = let s = some_is _ h in is_some _ _ (L.names_parts (keys i) (map.get (things_of m w.keys)) s.0 (plain_look i s.0 s.1) j n)

  -- two known ids are one exactly where their things are
  pub same_things : (a b : ℕ) → IsSome (map.get (things_of m w.keys) a) → (a ≡ b) ↔ (map.get (things_of m w.keys) a ≡ map.get (things_of m w.keys) b)
  same_things a b h = let s = some_is _ h in (λ e. ap (map.get (things_of m w.keys)) e, λ e. plain_apart a b s.0 s.1 (sym e ∙ s.1))

  -- a value word tells what is noted
  pub record IsNote (i : ℕ) : Type 0 where
    pub in_range : slice_index w.values i - 1 < 2 ^ 26
    pub noted : Has (marked 0 w.values) i
    pub known : IsSome (map.get (things_of m w.keys) (slice_index w.values i - 1))
    pub due : map.get (things_of m w.keys) (slice_index w.values i - 1) ≡ note_for m (map.get (things_of m w.keys) i)

  pub value_note : (i : ℕ) → slice_index w.values i ≢ 0 → IsNote i
  value_note i has =
      let r = P.sound.notes i has in
      let here = stands_known m L w i r.0 r.2 in
      let there = stands_known m L w (slice_index w.values i - 1) r.1 r.4 in
      let lt = plain_inside (slice_index w.values i - 1) r.1 there in
      let most = P.size.1 in
      record {
        in_range = omega arith;
        noted = (marked_has w.values i).1 has;
        known = is_some _ _ there;
        due = there ∙ sym (ap (note_for m) here ∙ r.3);
      }

  pub values_small : (i : ℕ) → slice_index w.values i ≤ 2 ^ 26
  values_small i = dite (ℕ_discrete (slice_index w.values i) 0)
      (λ is. omega arith)
      (λ has. let a = (value_note i has).in_range in omega arith)

  -- each cell with a key is known
  pub keys_known : (i : ℕ) → slice_index w.keys i ≢ 0 → IsSome (map.get (things_of m w.keys) i)
  keys_known i has = let r = P.sound.stand i has in is_some _ _ (stands_known m L w i r.0 r.1)

  pub no_note : (i : ℕ) → slice_index w.values i ≡ 0 → ¬ Has (marked 0 w.values) i
  no_note i e h = (marked_has w.values i).0 h e

  module _ (i value : ℕ) (known : IsSome (map.get (things_of m w.keys) value)) (due : map.get (things_of m w.keys) value ≡ note_for m (map.get (things_of m w.keys) i)) where
    -- both have a thing, and the one is the note of the other
    pub record IsDue : Type 0 where
      pub thing : X
      pub note : X
      pub here : map.get (things_of m w.keys) i ≡ Some thing
      pub there : map.get (things_of m w.keys) value ≡ Some note
      pub must : m.note_of thing ≡ Some note

    pub note_due : IsDue
    note_due =
        let v = some_is _ known in
        let t = noted_thing m (map.get (things_of m w.keys) i) v.0 (sym due ∙ v.1) in
        record { thing = t.0; note = v.0; here = t.1; there = v.1; must = t.2 }

  module _ (i value : ℕ) (t v : X) (here : map.get (things_of m w.keys) i ≡ Some t) (there : map.get (things_of m w.keys) value ≡ Some v) (must : m.note_of t ≡ Some v) where
    in_values : i < length w.values
    in_values = let a = plain_inside i t here in let b = P.same_length in omega arith

    pub note_sound : IsStore m (record w { values = set w.values i (value + 1) })
    note_sound = record {
      same_length = length-set w.values i (value + 1) ∙ P.same_length;
      size = P.size;
      sound = noted_sound m keys (slice_index w.values) (slice_index (set w.values i (value + 1))) i value t v P.sound (known_stands m L w i t here) must (known_stands m L w value v there)
          (get_or-set_same w.values i (value + 1) 0 in_values) (λ j far. get_or-set_other w.values i j (value + 1) 0 far);
      enough = P.enough;
    }

    pub note_marks : Has (marked 0 (set w.values i (value + 1))) i
    note_marks =
        let a = get_or-set_same w.values i (value + 1) 0 in_values in
        subst (λ z. Has (marked 0 (set w.values i (value + 1))) z) (zero-add i) (marked_in 0 (set w.values i (value + 1)) i (λ z. let b = sym a ∙ z in absurd (omega arith)))

    pub note_keeps : (x : ℕ) → Has (marked 0 w.values) x → Has (marked 0 (set w.values i (value + 1))) x
    note_keeps x h =
        let r = marked_out 0 w.values x h in
        dite (ℕ_discrete r.0 i)
        (λ is. subst (λ z. Has (marked 0 (set w.values i (value + 1))) z) (let a = r.1 in omega arith) note_marks)
        (λ far. subst (λ z. Has (marked 0 (set w.values i (value + 1))) z) (sym r.1) (marked_in 0 (set w.values i (value + 1)) r.0 (λ z. r.2 (sym (get_or-set_other w.values i r.0 (value + 1) 0 far) ∙ z))))

unknown : {X : Type 0} (m : Meaning X) (keys : ℕ → ℕ) → ((i : ℕ) → keys i ≡ 0) → (i n : ℕ) (t : X) → level m keys n i ≡ Some t → ⊥
unknown m keys h i zero t e = cc
unknown m keys h i (suc n) t e = let f = ap (λ k. spelled m k (level m keys n)) (sym (h i)) ∙ e in cc

pub empty_sound : {X : Type 0} (m : Meaning X) (n : ℕ) → 1 ≤ n → n ≤ 2 ^ 26 → IsStore m (empty_words n)
empty_sound m n some few = let e : length (replicate {A = ℕ} n 0) ≡ n = length-replicate n 0 in record {
  same_length = refl;
  size = (omega arith, omega arith);
  sound = record {
    once = λ i j has e. absurd (has (zeros n i));
    stand = λ i has. absurd (has (zeros n i));
    notes = λ i has. absurd (has (zeros n i));
    apart = λ i j t a b. absurd (unknown m (slice_index (replicate n 0)) (zeros n) i a.0 t a.1);
  };
  enough = let f : filled (slice_index (replicate {A = ℕ} n 0)) (length (replicate {A = ℕ} n 0)) ≡ 0 = none_filled (slice_index (replicate n 0)) (length (replicate n 0)) (zeros n) in omega arith;
}

pub empty_kept : {X : Type 0} (m : Meaning X) (n : ℕ) → 1 ≤ n → n ≤ 2 ^ 26 → IsKept m (empty_words n) (replicate n 0) 0
empty_kept m n some few = record {
  store = empty_sound m n some few;
  same_length = refl;
  indexed = record {
    inside = λ s. let z = zeros n s in omega arith;
    reached = λ i lt has. absurd (has (zeros n i));
    few = let f = none_filled (slice_index (replicate n 0)) (length (replicate {A = ℕ} n 0)) (zeros n) in omega arith;
  };
  full = λ i lt. absurd (omega arith);
}
