use Rattle.std.proofs.Common.{rules, ◌≡◌, ◌<◌, refl, ap, sym, subst, ◌∙◌, ℕ, List, true, length, map, get_or, Some, Option}
use Rattle.std.specs.Prelude.{slice_get, option_map}
use Rattle.std.proofs.lemmas.List.{length-map}
use Rattle.std.proofs.lemmas.Option.{slice_get_read}
use Rattle.cg_syntax.specs.Bound.{has_name, number_of}
use Rattle.cg_query.specs.Trees.{tree_of}
use Rattle.cg_syntax.specs.declared.sheet.Bound.{Bound}
use Rattle.cg_syntax.proofs.Sheets.{bound_at, found_last, found_nowhere, other_number}
use Rattle.cg_syntax.proofs.sheet.Sheet.get.Goals as goal

pub returns-in_err-place-clause-bound : goal.returns-in_err-place-clause-bound
returns-in_err-place-clause-bound c =
    let sheet = c.args.self.now in
    let name = c.args.name.now in
    ap (option_map (λ f. tree_of f.0.now)) c.from_residual.ensures
    ∙ sym (found_nowhere sheet.lines.items sheet.bound.items name (λ m low.
    other_number sheet.bound.items sheet.places m name c.requires.places low (λ e.
    let long = ap length c.requires.places ∙ length-map sheet.bound.items (λ b. number_of b.name) in
    let other = c.in_err-place.ensures.none m (subst (λ n. m < n) (sym long) low) (e ∙ sym c.number_of.ensures) in search rules)))

-- the binding that is found stands at its place
stands : (bs all : List Bound) (n : ℕ) (b : Bound) (numbers : List ℕ) → all ≡ bs → numbers ≡ map (λ b. number_of b.name) bs
    → n < length numbers → b ≡ get_or all n b → slice_get bs n ≡ Some b
stands bs all n b numbers same is inside at =
    slice_get_read bs (length bs) n b refl
    (subst (λ m. n < m) (ap length is ∙ length-map bs (λ b. number_of b.name)) inside) (at ∙ ap (λ (z : List Bound). get_or z n b) same)

pub value_of-requires : goal.value_of-requires
value_of-requires c =
    let sheet = c.args.self.now in
    let b = c.index-bound-place.result in
    let at = stands sheet.bound.items c.as_slice-bound.result.now c.in_ok-place.place b sheet.places c.as_slice-bound.ensures.value c.requires.places
    c.in_ok-place.ensures.inside c.index-bound-place.is in
    bound_at sheet.lines.items sheet.bound.items c.in_ok-place.place b at c.requires.bound

pub returns-clause-bound : goal.returns-clause-bound
returns-clause-bound c =
    let sheet = c.args.self.now in
    let name = c.args.name.now in
    let b = c.index-bound-place.result in
    let at = stands sheet.bound.items c.as_slice-bound.result.now c.in_ok-place.place b sheet.places c.as_slice-bound.ensures.value c.requires.places
    c.in_ok-place.ensures.inside c.index-bound-place.is in
    let found : has_name (slice_get sheet.bound.items c.in_ok-place.place) name ≡ true = (let f = c.in_ok-place.ensures.found in search rules) in
    c.value_of.ensures.bound
    ∙ sym (found_last sheet.lines.items sheet.bound.items c.in_ok-place.place b name at (ap (λ (o : Option Bound). has_name o name) (sym at) ∙ found)
    (λ m behind low. other_number sheet.bound.items sheet.places m name c.requires.places low (λ e.
    let long = ap length c.requires.places ∙ length-map sheet.bound.items (λ b. number_of b.name) in
    let other = c.in_ok-place.ensures.last m behind (subst (λ n. m < n) (sym long) low) (e ∙ sym c.number_of.ensures) in search rules)))
