-- The named form of a game, from what is found of its shape.
use Rattle.std.proofs.Common.{◌≡◌, sym, [], ◌∷◌, Option, Some, Bool}
use Rattle.cg_dyadic.specs.Number.{Number, number_le}
use Rattle.cg_dyadic.proofs.Truth.{true_not}
use Rattle.cg_form.specs.Game.{Game, number}
use Rattle.cg_names.specs.Named.{mirrored_if, zero_number}
use Rattle.cg_names.specs.Readings.{IsStar, IsTiny}
use Rattle.cg_names.specs.Shapes.{named_form_of}
use Rattle.cg_names.specs.declared.look_star.StarFound.{StarFound}
use Rattle.cg_names.specs.declared.named_form.NamedForm.TheVariants.{Star, Tiny}
use Rattle.cg_names.proofs.Guessing.{named_form-found}
use Rattle.cg_names.proofs.NameRule.{some_is}

pub named_star : (g : Game) (o : Option StarFound) (a : StarFound) → o ≡ Some a → IsStar g o → Some (Star a.base a.count) ≡ named_form_of g
named_star g o a e i =
    let p = rw e at i in
    sym (named_form-found g (Star a.base a.count) (record { proper = some_is a.count p.0; form = p.1 }))

pub named_tiny : (miny : Bool) (g : Game) (o : Option Number) (x : Number) → o ≡ Some x → IsTiny miny g o
    → Some (Tiny miny x) ≡ named_form_of g
named_tiny miny g o x e i =
    let p = rw e at i in
    sym (named_form-found g (Tiny miny x) (record { proper = true_not (number_le x zero_number) p.0; form = p.1 }))

pub tiny_at : (miny : Bool) (x : Number) (g h : Game) (o : Option Number) → g ≡ h
    → IsTiny miny (mirrored_if miny (number x ∷ []) (h ∷ [])) o → IsTiny miny (mirrored_if miny (number x ∷ []) (g ∷ [])) o
tiny_at miny x g h o e i =
    rw e i
