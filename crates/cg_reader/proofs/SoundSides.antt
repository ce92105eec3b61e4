-- Sides of braces.
use Rattle.std.proofs.Common.{◌≡◌, List, [], ◌∷◌, ◌++◌, map, None, refl, ap, sym, ◌∙◌}
use Rattle.std.proofs.lemmas.List.{map_push}
use Rattle.cg_query.specs.Tree.{Tree}
use Rattle.cg_query.specs.Trees.{tree_of}
use Rattle.cg_grammar.specs.Found.{Found}
use Rattle.cg_grammar.specs.Braces.{side_fault, side_trees}
use Rattle.cg_reader.specs.Views.{found_of, sound}
use Rattle.cg_query.specs.declared.expr.Expr.{Expr}
use Rattle.cg_reader.specs.declared.found.Found as code

-- ---- expressions without a fault

pub sound_trees : (es : List Expr) → map tree_of es ≡ side_trees (map sound es)
sound_trees [] = refl
sound_trees (e ∷ es) = ap (λ (z : List Tree). tree_of e ∷ z) (sound_trees es)

pub sound_fault : (es : List Expr) → None ≡ side_fault (map sound es)
sound_fault [] = refl
sound_fault (e ∷ es) = sound_fault es

pub sound_push : (fs : List code.Found) (es : List Expr) (e : Expr) → map found_of fs ≡ map sound es → map found_of (fs ++ record {
  expr = e;
  fault = None;
} ∷ []) ≡ map sound (es ++ e ∷ [])
sound_push fs es e h = map_push _ fs (record { expr = e; fault = None }) ∙ ap (λ (z : List Found). z ++ sound e ∷ []) h ∙ sym (map_push _ es e)

-- ---- the trees of what was found

side_push : (fs : List code.Found) (f : code.Found) → side_trees (map found_of (fs ++ f ∷ [])) ≡ side_trees (map found_of fs) ++ tree_of f.expr ∷ []
side_push [] f = refl
side_push (g ∷ fs) f = ap (λ (z : List Tree). tree_of g.expr ∷ z) (side_push fs f)

-- one expression more
pub exprs_push : (es : List Expr) (fs : List code.Found) (f : code.Found) → map tree_of es ≡ side_trees (map found_of fs) → map tree_of (es ++ f.expr ∷ [])
    ≡ side_trees (map found_of (fs ++ f ∷ []))
exprs_push es fs f h = map_push _ es f.expr ∙ ap (λ (z : List Tree). z ++ tree_of f.expr ∷ []) h ∙ sym (side_push fs f)
