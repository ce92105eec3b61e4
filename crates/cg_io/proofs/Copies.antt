-- What a read copies to the front of its buffer was the front of the bytes left.
use Rattle.std.proofs.Common.{◌≡◌, ℕ, ◌+◌, ◌-◌, ◌<◌, ◌≤◌, List, [], ◌++◌, length, take, drop, ap, sym, ◌∙◌, take-append-drop, length-take}
use Rattle.std.proofs.Common.{length-append, length-drop, arith}
use Rattle.std.proofs.lemmas.List.{take_rest, take_at, drop-drop, nil_from_length}

-- The read copied k bytes from the place `at` on: they are gone from what is left, and there are none only where none
-- was left or the buffer has no room.
pub copied_front : (xs ys now buf copied : List ℕ) (at k : ℕ) → drop at xs ≡ now → ys ≡ xs
    → copied ≡ take k (take (length ys - at) (drop at ys))
    → k ≤ length (take (length ys - at) (drop at ys)) → k ≤ length buf
    → (k ≡ 0 → 0 < length buf → length (take (length ys - at) (drop at ys)) ≡ 0)
    → (now ≡ take k (copied ++ drop k buf) ++ drop (at + k) xs)
    × (k ≡ 0 → 0 < length (copied ++ drop k buf) → drop (at + k) xs ≡ [])
copied_front xs ys now buf copied at k view same copy within room none_left =
    let part : take (length ys - at) (drop at ys) ≡ now = take_rest ys at ∙ ap (drop at) same ∙ view in
    let copied-is : copied ≡ take k now = copy ∙ ap (take k) part in
    let part-len : length (take (length ys - at) (drop at ys)) ≡ length now = ap length part in
    let len : length copied ≡ k = ap length copied-is ∙ omega (arith, length-take k now) in
    let rest : drop (at + k) xs ≡ drop k now = sym (drop-drop k at xs) ∙ ap (drop k) view in (
      sym (ap (λ (l : List ℕ). l ++ drop (at + k) xs) (take_at copied (drop k buf) k len ∙ copied-is) ∙ ap (λ (l : List ℕ). take k now ++ l) rest ∙
          take-append-drop k now),
      λ none some.
          let has_room : 0 < length buf = omega (arith, length-append copied (drop k buf), length-drop k buf) in
          let nothing : length (take (length ys - at) (drop at ys)) ≡ 0 = none_left none has_room in
          rest ∙ nil_from_length (drop k now) (omega (arith, length-drop k now)),
    )
