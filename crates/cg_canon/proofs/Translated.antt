-- A number and a canonical game: the form of their sum has the sums of the number and the options, as they stand.
use Rattle.std.proofs.Common.{◌≡◌, refl, ap, sym, ◌∙◌, List, ◌∷◌, map}
use Rattle.cg_dyadic.specs.Number.{Number}
use Rattle.cg_form.specs.Canonical.{AllCanonical, Canonical}
use Rattle.cg_form.specs.Game.{Game, Games, more, node, none, number, of_list, options, to_list}
use Rattle.cg_form.specs.Shifted.{shifted, shifted_all}
use Rattle.cg_form.specs.Sum.{sum}
use Rattle.cg_nodes.specs.Can.{can}
use Rattle.cg_nodes.specs.CanLaw.{can-canonical, can-equal}
use Rattle.cg_form.proofs.Shifted.{form_shifted}

-- a canonical game with a number added throughout is the canonical form of the sum
pub can-shifted : (x : Number) (g : Game) → Canonical g → can (sum (number x) g) ≡ shifted x g
can-shifted x g c = form_shifted x g (can (sum (number x) g)) c
    (record { canonical = can-canonical (sum (number x) g); equal = can-equal (sum (number x) g) })

shifted_list : (x : Number) (gs : Games) → shifted_all x gs ≡ of_list (map (shifted x) (to_list gs))
shifted_list x none = refl
shifted_list x (more g gs) = ap (λ z. more (shifted x g) z) (shifted_list x gs)

-- the forms of the sums of x and each of the list
abbrev pub forms_above : Number → List Game → List Game
forms_above x gs = map (λ a. can (sum (number x) a)) gs

forms_shifted : (x : Number) (gs : Games) → AllCanonical gs → forms_above x (to_list gs) ≡ map (shifted x) (to_list gs)
forms_shifted x none c = refl
forms_shifted x (more g gs) c =
    ap (λ z. z ∷ forms_above x (to_list gs)) (can-shifted x g c.0)
    ∙ ap (λ z. shifted x g ∷ z) (forms_shifted x gs c.1)

forms_list : (x : Number) (gs : Games) → AllCanonical gs → of_list (forms_above x (to_list gs)) ≡ shifted_all x gs
forms_list x gs c = ap of_list (forms_shifted x gs c) ∙ sym (shifted_list x gs)

pub node_shifted : (x : Number) (ls rs : Games) → Canonical (options ls rs)
    → node (forms_above x (to_list ls)) (forms_above x (to_list rs)) ≡ shifted x (options ls rs)
node_shifted x ls rs c =
    ap (λ z. options z (of_list (forms_above x (to_list rs)))) (forms_list x ls c.1)
    ∙ ap (λ z. options (shifted_all x ls) z) (forms_list x rs c.2)
