-- Canonical forms of equal games, and of games whose options are canonical forms.
use Rattle.std.proofs.Common.{◌≡◌, List, map, sym, subst}
use Rattle.cg_form.specs.Canonical.{Canonical}
use Rattle.cg_form.specs.Game.{Game, node}
use Rattle.cg_form.specs.Known.{CopiesOf}
use Rattle.cg_form.specs.Order.{Equal}
use Rattle.cg_form.proofs.Among.{among_map, among_mapped}
use Rattle.cg_nodes.specs.Can.{can}
use Rattle.cg_nodes.specs.CanLaw.{can-canonical, can-equal, can-unique}
use Rattle.cg_form.proofs.Exists.{copies_equal}
use Rattle.cg_form.proofs.Preorder.{equal_trans}

-- equal games have one canonical form
pub can-same : (g h : Game) → Equal g h → can g ≡ can h
can-same g h e =
    let (f, b) = can-equal h in
    can-unique g (can h) (can-canonical h) (equal_trans (can g) g (can h) (can-equal g) (equal_trans g h (can h) e
    (b, f)))

-- the canonical forms of the games of a list are copies of them
copies : (gs : List Game) → CopiesOf gs (map can gs)
copies gs = record {
  canonical = λ c m. let (a, k, e) = among_map can c gs m in
      let P : Game → Type 0 = λ z. Canonical z in subst P (sym e) (can-canonical a);
  there = λ a m. (can a, among_mapped can a gs m, can-equal a);
  back = λ c m. let (a, k, e) = among_map can c gs m in
      let P : Game → Type 0 = λ z. Equal z a in (a, k, subst P (sym e) (can-equal a));
}

-- options may be replaced by their canonical forms
pub can-node : (ls rs : List Game) → can (node (map can ls) (map can rs)) ≡ can (node ls rs)
can-node ls rs =
    can-same (node (map can ls) (map can rs)) (node ls rs)
    (copies_equal ls rs (map can ls) (map can rs) (copies ls) (copies rs))
