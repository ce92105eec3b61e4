-- A word is free exactly where it tells that a line defines a name.
use Rattle.std.proofs.Common.{◌≡◌, ℕ, Bool, true, false, not, ◌||◌, cond, List, [], ◌∷◌, map, refl, sym, ap, ◌∙◌}
use Rattle.std.proofs.lemmas.Bool.{or_parts}
use Rattle.std.specs.List.{list_any}
use Rattle.std.specs.Str.{bytes_eq}
use Rattle.cg_reading.specs.Words.{Table}
use Rattle.cg_grammar.specs.Grammar.{is_free}
use Rattle.cg_grammar.specs.Reading.{Kind, Of_name, kinds, kind_among, kind_of}

abbrev is_name : Kind → Bool
is_name Of_name = true
is_name _ = false

abbrev has_name : Table Kind → Bool
has_name [] = false
has_name (k ∷ ks) = is_name k.1 || has_name ks

free_among : (w : List ℕ) (ks : Table Kind) → has_name ks ≡ false → not (list_any (bytes_eq w) (map (λ k. k.0) ks)) ≡ is_name (kind_among ks w)
free_among w [] h = refl
free_among w (k ∷ ks) h = let p = or_parts (is_name k.1) (has_name ks) h in by p.0 (bytes_eq w k.0) (free_among w ks p.1)
  where
    by : is_name k.1 ≡ false → (t : Bool) → not (list_any (bytes_eq w) (map (λ k. k.0) ks)) ≡ is_name (kind_among ks w)
        → not (t || list_any (bytes_eq w) (map (λ k. k.0) ks)) ≡ is_name (cond t k.1 (kind_among ks w))
    by n true e = sym n
    by n false e = e

pub name_is : (w : List ℕ) (k : Kind) → k ≡ kind_of w → is_free w ≡ is_name k
name_is w k e = free_among w kinds refl ∙ ap is_name (sym e)
