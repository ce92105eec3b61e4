-- The names of a list in a store, one game after another.
use Rattle.std.proofs.Common.{◌≡◌, ap, sym, ◌∙◌, ℕ, ◌≤◌, arith, Option, Some, None, List, ◌∷◌, ◌++◌, append_assoc, Result, Ok, Err, OnOk}
use Rattle.std.proofs.lemmas.List.Elements.{All-tail}
use Rattle.std.specs.Prelude.{codes, is_ok, if◌then◌else◌}
use Rattle.cg_form.specs.Depth.{deepest}
use Rattle.cg_form.specs.Game.{Game, node, of_list}
use Rattle.cg_arena.specs.Arena.{AreIndexes, IsIndex, game_of, games_of}
use Rattle.cg_names.specs.Name.{braces_name}
use Rattle.cg_names.specs.Reading.{AreNamesInRange, IsNameInRange, IsNamedInRange}
use Rattle.cg_names.specs.Shapes.{named_form_of}
use Rattle.cg_names.specs.Spelled.{further_names, name_of}
use Rattle.cg_names.specs.declared.named_form.NamedForm.{NamedForm}
use Rattle.cg_names.proofs.NameRule.{found_fits, no_named, one_named}

-- ---- ranges

-- of a game that has a named form, and of one that has none
pub signed-in_range : {A E : Type 0} (r : Result A E) (g : Game) (ls rs : List Game) (o : Option NamedForm) (s : NamedForm)
    → g ≡ node ls rs → o ≡ named_form_of g → o ≡ Some s → OnOk r (IsNamedInRange s) → OnOk r (IsNameInRange g)
signed-in_range (Err e) g ls rs o s is named_form found q = tt
signed-in_range (Ok x) g ls rs o s is named_form found q =
    let k : Game = node ls rs in
    let f = found_fits k s (ap named_form_of (sym is) ∙ sym named_form ∙ found) in
    rw is ((λ t h. rw (← (one_named k s t f h)) q), (λ n. absurd (n s f)))

pub braced-in_range : {A E : Type 0} (r : Result A E) (g : Game) (ls rs : List Game) (o : Option NamedForm)
    → g ≡ node ls rs → o ≡ named_form_of g → o ≡ None → OnOk r (AreNamesInRange (of_list ls))
    → OnOk r (AreNamesInRange (of_list rs)) → OnOk r (IsNameInRange g)
braced-in_range (Err e) g ls rs o is named_form found p q = tt
braced-in_range (Ok x) g ls rs o is named_form found p q =
    let k : Game = node ls rs in
    rw is ((λ t h. absurd (no_named k (ap named_form_of (sym is) ∙ sym named_form ∙ found) t h)), (λ n. (p, q)))

-- ---- a list, name by name

-- the further names of the games are those that were written since, and those of what is left
pub record Written (arena : List Game) (before now : List ℕ) (all left : List ℕ) : Type 0 where
  pub are : AreIndexes arena left
  pub names : now ++ further_names (of_list (games_of arena left)) ≡ before ++ further_names (of_list (games_of arena all))
  pub no_deeper : deepest (games_of arena left) ≤ deepest (games_of arena all)
  pub in_range : AreNamesInRange (of_list (games_of arena left)) → AreNamesInRange (of_list (games_of arena all))

-- a comma and the name of the next game
pub written_more : (arena : List Game) (before now comma more : List ℕ) (all rest : List ℕ) (first : ℕ)
    → Written arena before now all (first ∷ rest) → comma ≡ now ++ codes ","
    → more ≡ comma ++ name_of (game_of arena first) → IsNameInRange (game_of arena first)
    → Written arena before more all rest
written_more arena before now comma more all rest first w c m q =
    let g : Game = game_of arena first in
    let further : List ℕ = further_names (of_list (games_of arena rest)) in
    let depth = w.no_deeper in
    record {
      are = All-tail (IsIndex arena) first rest w.are;
      names = ap (λ z. z ++ further) (m ∙ ap (λ z. z ++ name_of g) c)
          ∙ append_assoc (now ++ codes ",") (name_of g) further ∙ append_assoc now (codes ",") (name_of g ++ further)
          ∙ w.names;
      no_deeper = omega arith;
      in_range = λ r. w.in_range (q, r);
    }

-- braces round the names of two lists, part by part
pub braces-spelled : (left right : List ℕ) (t0 t1 t2 t3 t4 : List ℕ) → t1 ≡ t0 ++ codes "{" → t2 ≡ t1 ++ left
    → t3 ≡ t2 ++ codes "|" → t4 ≡ t3 ++ right → t4 ++ codes "}" ≡ t0 ++ braces_name left right
braces-spelled left right t0 t1 t2 t3 t4 a b c d =
    ap (λ z. z ++ codes "}") (d ∙ ap (λ z. z ++ right)
    (c ∙ ap (λ z. z ++ codes "|") (b ∙ ap (λ z. z ++ left) a)))
    ∙ append_assoc (((t0 ++ codes "{") ++ left) ++ codes "|") right (codes "}")
    ∙ append_assoc ((t0 ++ codes "{") ++ left) (codes "|") (right ++ codes "}")
    ∙ append_assoc (t0 ++ codes "{") left (codes "|" ++ (right ++ codes "}"))
    ∙ append_assoc t0 (codes "{") (left ++ (codes "|" ++ (right ++ codes "}")))

-- what was written where the call succeeds
pub on_ok_written : {A E : Type 0} (r : Result A E) (now old grown whole : List ℕ) → now ≡
    (if is_ok r then grown else old)
    → grown ≡ whole → OnOk r (now ≡ whole)
on_ok_written (Ok x) now old grown whole e f = e ∙ f
on_ok_written (Err e) now old grown whole f w = tt
