-- Ids for look-ups beside a list of handles.
use Rattle.std.proofs.Common.{◌≡◌, ℕ, Bool, true, ◌||◌, IsTrue, ◌↔◌, List, [], ◌∷◌, ◌++◌, cond, ap, sym, ◌∙◌, inl, inr}
use Rattle.std.proofs.lemmas.Bool.Decides.{eqb_tells}
use Rattle.std.specs.Bool.{◌==◌}
use Rattle.std.specs.List.{list_any}
use Rattle.cg_cells.specs.Meaning.{Has}
use Rattle.cg_cells.proofs.Entries.{has_both, has_left, has_right}

-- what a search through the handles tells
any-has : (hs : List ℕ) (h : ℕ) → IsTrue (list_any (λ k. k == h) hs) ↔ Has hs h
any-has [] h = (λ t. cc, λ m. absurd m)
any-has (k ∷ hs) h = elim (eqb_tells k h) [
  | inl there ↦ (λ t. inl there.1, λ m. ap (λ b. b || list_any (λ k. k == h) hs) there.0)
  | inr other ↦ (
      let off : (k == h || list_any (λ k. k == h) hs) ≡ list_any (λ k. k == h) hs = ap (λ b. b || list_any (λ k. k == h) hs) other.0 in (
        λ t. inr ((any-has hs h).0 (sym off ∙ t)),
        λ m. elim m [ inl e ↦ absurd (other.1 e) | inr n ↦ off ∙ (any-has hs h).1 n ],
      ))
]

pub searched : (hs now : List ℕ) (h : ℕ) (r : Bool) → r ≡ list_any (λ k. k == h) hs → hs ≡ now → IsTrue r ↔ Has now h
searched hs now h r e same = (
  λ t. (rw same at ((any-has hs h).0 (sym e ∙ t))),
  λ m. e ∙ (any-has hs h).1 (rw same m),
)

-- what the test of the ids tells of the handles
pub looked_up : (test : ℕ → Bool) (handles now : List ℕ) (n h : ℕ) (r : Bool) → r ≡ test n → n ≡ h → handles ≡ now
    → ((k : ℕ) → IsTrue (test k) ↔ Has handles k) → IsTrue r ↔ Has now h
looked_up test handles now n h r e at same told =
    let s : r ≡ test h = e ∙ ap test at in (
      λ t. rw same at ((told h).0 (sym s ∙ t)),
      λ m. s ∙ (told h).1 (rw same m),
    )

-- with one more handle and its id
pub looked_up-more : (test more : ℕ → Bool) (handles longer : List ℕ) (n h : ℕ) → n ≡ h → longer ≡ handles ++ (h ∷ [])
    → ((k : ℕ) → more k ≡ cond (n == k) true (test k)) → ((k : ℕ) → IsTrue (test k) ↔ Has handles k)
    → (k : ℕ) → IsTrue (more k) ↔ Has longer k
looked_up-more test more handles longer n h at same updates told k =
    elim (eqb_tells n k) [
      | inl there ↦ (
          let on : cond (n == k) true (test k) ≡ true = ap (λ b. cond b true (test k)) there.0 in
          (λ t. (rw same (has_right handles (h ∷ []) k (inl (sym at ∙ there.1)))), λ m. updates k ∙ on))
      | inr other ↦ (
          let off : cond (n == k) true (test k) ≡ test k = ap (λ b. cond b true (test k)) other.0 in (
            λ t. (rw same (has_left handles (h ∷ []) k ((told k).0 (sym off ∙ sym (updates k) ∙ t)))),
            λ m. elim (has_both handles (h ∷ []) k (rw same at m)) [
              | inl n ↦ updates k ∙ off ∙ (told k).1 n
              | inr n ↦ elim n [ inl e ↦ absurd (other.1 (at ∙ e)) | inr nothing ↦ absurd nothing ]
            ],
          ))
    ]
