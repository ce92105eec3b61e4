-- The item of a number that is out of range, and that of a number that is not given.
use Rattle.std.proofs.Common.{◌≡◌, ℕ, ◌+◌, arith, refl, sym, ◌∙◌, subst, List, [], ◌∷◌, ◌++◌, Result, Ok, Err}
use Rattle.std.specs.Prelude.{IfErr, OnOk}
use Rattle.cg_canon.proofs.ItemLaws.{refused-one}
use Rattle.cg_canon.specs.Items.{AllPass, IsRefusal, IsStopped, Item, WasRefused, item_cost, made, outside}
use Rattle.cg_canon.specs.declared.fault.ValueFault.{ValueFault}
use Rattle.cg_canon.specs.declared.fault.ValueFault.TheVariants.{Depth, Full, Memory, Positions, Range}
use Rattle.cg_form.specs.Game.{Game}
use Rattle.cg_nodes.specs.Games.{IsInRange}

outside_first : (front : List Item) (item : Item) (back : List Item) → outside ∷ [] ≡ front ++ item ∷ back
    → (front ≡ []) × (outside ≡ item)
outside_first [] item back e = (refl, cc)
outside_first (f ∷ []) item back e = absurd cc
outside_first (f ∷ (k ∷ front)) item back e = absurd cc

-- only for being out of range, before anything was spent
outside_refused : (fault : ValueFault) (share before after : ℕ) → IsStopped fault share before (outside ∷ []) after
    → IsRefusal fault outside (after + 0) share × (after ≡ before)
outside_refused fault share before after s =
    let (f, i) = outside_first s.front s.item s.back s.split in
    let P : Item → Type 0 = λ z. IsRefusal fault z (after + item_cost z) share in
    let Q : List Item → Type 0 = λ z. AllPass share before z after in
    let p : AllPass share before [] after = subst Q f s.passed in
    (subst P (sym i) s.refused, p.spent ∙ omega arith)

number_refused : (fault : ValueFault) (share before after : ℕ) (g : Game) (extra : ℕ) → ¬ IsInRange g
    → WasRefused fault share before (outside ∷ []) after → WasRefused fault share before (made g extra ∷ []) after
number_refused Memory share before after g extra n w = tt
number_refused Range share before after g extra n w =
    let (r, e) = outside_refused Range share before after w in
    rw e (refused-one Range share before (made g extra) [] n)
number_refused (Full t) share before after g extra n w = absurd ((outside_refused (Full t) share before after w).0)
number_refused (Depth d) share before after g extra n w = absurd ((outside_refused (Depth d) share before after w).0)
number_refused Positions share before after g extra n w = absurd ((outside_refused Positions share before after w).0)

outside_passes : (share before after : ℕ) → AllPass share before (outside ∷ []) after → ⊥
outside_passes share before after p = p.each [] outside [] refl

pub number_charged : {T : Type 0} (r : Result T ValueFault) (share before after : ℕ) (items : List Item)
    → OnOk r (AllPass share before (outside ∷ []) after) → OnOk r (AllPass share before items after)
number_charged (Ok h) share before after items p = absurd (outside_passes share before after p)
number_charged (Err e) share before after items p = tt

pub refused_number : {T : Type 0} (r : Result T ValueFault) (share before after : ℕ) (g : Game) (extra : ℕ) → ¬ IsInRange g
    → IfErr r (λ fault. WasRefused fault share before (outside ∷ []) after)
    → IfErr r (λ fault. WasRefused fault share before (made g extra ∷ []) after)
refused_number (Ok h) share before after g extra n p = tt
refused_number (Err e) share before after g extra n p = number_refused e share before after g extra n p
