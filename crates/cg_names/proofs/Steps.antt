-- Forms that are made one after another.
use Rattle.std.proofs.Common.{◌≡◌, refl, ap, ◌∙◌, ℕ, ◌<◌, ◌≤◌, arith, List, [], ◌∷◌, ◌++◌, map, Result, Err, Bool, true, false}
use Rattle.std.specs.Prelude.{length, nat_lt, if◌then◌else◌}
use Rattle.std.proofs.lemmas.Bool.Decides.{nat_tests}
use Rattle.std.proofs.lemmas.List.{map-append}
use Rattle.cg_dyadic.proofs.Truth.{less-nat_lt}
use Rattle.cg_form.specs.Game.{Game, node}
use Rattle.cg_cells.specs.Store.{State}
use Rattle.cg_nodes.specs.Meant.{Meant}
use Rattle.cg_form.specs.Positions.{positions_of}
use Rattle.cg_canon.specs.declared.fault.ValueFault.{ValueFault}
use Rattle.cg_canon.specs.declared.fault.ValueFault.TheVariants.{Positions}
use Rattle.cg_canon.specs.Items.{IsStopped, Item, too_many}
use Rattle.cg_canon.specs.Made.{Gives}
use Rattle.cg_canon.specs.declared.rest.WorkRest.{WorkRest}
use Rattle.cg_canon.proofs.ItemLaws.{stopped-one}
use Rattle.cg_canon.proofs.Keeping.{keeps_all}
use Rattle.cg_names.specs.Lists.{form_items, plain_item}
use Rattle.cg_names.specs.Named.{mirrored_if}

-- ---- one call after another

-- the items of forms that are those of two lists
pub plain_split : (gs hs : List Game) {all : List Game} → all ≡ gs ++ hs → map plain_item all ≡ map plain_item gs ++ map plain_item hs
plain_split gs hs is = ap (map plain_item) is ∙ map-append plain_item gs hs

-- the canonical form of the game that is made
pub mirrored_is : (mirrored : Bool) (ls rs : List Game) → mirrored ≡ true → node rs ls ≡ mirrored_if mirrored ls rs
mirrored_is true ls rs e = refl
mirrored_is false ls rs e = absurd (cc)

pub plain_is : (mirrored : Bool) (ls rs : List Game) → mirrored ≡ false → node ls rs ≡ mirrored_if mirrored ls rs
plain_is true ls rs e = absurd (cc)
plain_is false ls rs e = refl

-- ---- the items of a form

not_below : (m n : ℕ) → n ≤ m → nat_lt m n ≡ false
not_below m n l = grind (arith, nat_tests)

form_items-within : (limit : ℕ) (f : Game) (forms : List Game) → positions_of f ≡ forms → length forms ≤ limit
    → form_items limit f ≡ map plain_item forms
unfolding form_items
form_items-within limit f forms e l =
    let n : length (positions_of f) ≤ limit = let s : length (positions_of f) ≡ length forms = ap length e in omega
    arith in
    ap (λ b. if b then (too_many ∷ []) else map plain_item (positions_of f))
    (not_below limit (length (positions_of f)) n)
    ∙ ap (map plain_item) e

form_items-above : (limit : ℕ) (f : Game) → limit < length (positions_of f) → form_items limit f ≡ too_many ∷ []
unfolding form_items
form_items-above limit f l =
    ap (λ b. if b then (too_many ∷ []) else map plain_item (positions_of f))
    (less-nat_lt limit (length (positions_of f)) l)

-- a list that is longer than the limit is refused, and nothing spent
refused_positions : (share spent limit : ℕ) (f : Game) (forms : List Game) → positions_of f ≡ forms → limit <
    length forms
    → IsStopped Positions share spent (form_items limit f) spent
refused_positions share spent limit f forms e l =
    let n : limit < length (positions_of f) = let s : length (positions_of f) ≡ length forms = ap length e in omega
    arith in
    rw (form_items-above limit f n) (stopped-one Positions share spent too_many [] tt)

pub given_positions : {R : Type 0} (s : State Meant (WorkRest R)) (f : Game) (forms : List Game) → positions_of f ≡ forms
    → s.rest.limit < length forms → Gives s s (form_items s.rest.limit f) f (Err Positions)
given_positions s f forms e l = record {
  game = tt;
  made = record {
    charged = tt;
    refused = refused_positions s.rest.share s.rest.spent s.rest.limit f forms e l;
    keeps = keeps_all s;
  };
  more = omega arith;
}

-- a list within the limit is made
pub given_from : {R : Type 0} (s t : State Meant (WorkRest R)) (r : Result ℕ ValueFault) (k f : Game) (forms : List Game)
    → k ≡ f → positions_of f ≡ forms → length forms ≤ s.rest.limit → Gives s t (map plain_item forms) k r
    → Gives s t (form_items s.rest.limit f) f r
given_from s t r k f forms e p l m =
    rw (form_items-within s.rest.limit f forms p l) (rw (← e) m)
