-- Calls that make the items of games, one after another.
use Rattle.std.proofs.Common.{◌≡◌, refl, ℕ, ◌≤◌, ◌<◌, ◌⊎◌, inl, inr, arith, ap, sym, ◌∙◌, subst, List, [], ◌∷◌, ◌++◌, map, length, Result, Ok, Err}
use Rattle.std.specs.Prelude.{IfOk}
use Rattle.std.specs.List.{flat_map}
use Rattle.cg_cells.specs.Store.{State}
use Rattle.cg_canon.proofs.ItemLaws.{refused-one}
use Rattle.cg_canon.proofs.Keeping.{keeps_all}
use Rattle.cg_canon.proofs.MadeSteps.{made_as, made_then, passed, stopped}
use Rattle.cg_canon.specs.Items.{Item, WasRefused, made as made_item, too_many}
use Rattle.cg_canon.specs.Made.{Gives, ItemsMade}
use Rattle.cg_canon.specs.declared.fault.ValueFault.{ValueFault}
use Rattle.cg_canon.specs.declared.fault.ValueFault.TheVariants.{Memory, Positions}
use Rattle.cg_canon.specs.declared.rest.WorkRest.{WorkRest}
use Rattle.cg_nodes.specs.Can.{can}
use Rattle.cg_form.proofs.SumLaws.{sum-le_second}
use Rattle.cg_form.proofs.SumOrder.{sum-le}
use Rattle.cg_form.specs.Game.{Game}
use Rattle.cg_form.specs.Sum.{nothing, sum}
use Rattle.cg_nodes.proofs.Forms.{can-same}
use Rattle.cg_nodes.specs.CanLaw.{can-equal}
use Rattle.cg_nodes.specs.Games.{StandFor, StandsFor, games_at}
use Rattle.cg_nodes.specs.Meant.{Meant}
use Rattle.cg_moves.specs.Grid.{Grid}
use Rattle.cg_moves.specs.Raw.{raw}
use Rattle.cg_moves.specs.Rules.{GameRules}
use Rattle.cg_values.specs.Items.{added, added_items, board_items, parts_reach, sum_up, sum_up_items}
use Rattle.cg_values.specs.Parts.{joins, part_items}
use Rattle.cg_values.proofs.HandleSteps.{stand-first, stand-rest}
use Rattle.cg_values.proofs.PartLemmas.{items-many, items-within}

-- the forms of two games may stand for them in a sum
pub can-sum_forms : (g h : Game) → can (sum (can g) (can h)) ≡ can (sum g h)
can-sum_forms g h =
    let d = can-equal g in
    let e = can-equal h in
    can-same (sum (can g) (can h)) (sum g (can h)) (sum-le (can g) g (can h) d.0, sum-le g (can g) (can h) d.1)
    ∙ can-same (sum g (can h)) (sum g h) (sum-le_second (can h) h g e.0, sum-le_second h (can h) g e.1)

module _ {R : Type 0} where
  pub gives_as : (s t : State Meant (WorkRest R)) (xs ys : List Item) (g h : Game) (r : Result ℕ ValueFault) → xs ≡ ys
      → can g ≡ can h → Gives s t xs (can g) r → Gives s t ys (can h) r
  gives_as s t xs ys g h r e f v =
      record {
        game = rw (← f) v.game;
        made = made_as s t xs ys r e v.made;
        more = v.more;
      }

  -- items that were made, and then those of a game
  pub gives_then : {T : Type 0} (s t u : State Meant (WorkRest R)) (xs ys : List Item) (g : Game) (q : Result T ValueFault) (x : T)
      (r : Result ℕ ValueFault) → q ≡ Ok x → ItemsMade s t xs q → s.spare ≤ t.spare → Gives t u ys (can g) r
      → Gives s u (xs ++ ys) (can g) r
  gives_then s t u xs ys g q x r ok first more v =
      let after = v.more in record {
        game = v.game;
        made = made_then s t u xs ys r (passed s t xs q x ok first) first.keeps v.made;
        more = omega (arith, more, after);
      }

  -- an item before those of a game was refused
  pub gives_stopped : {T : Type 0} (s t : State Meant (WorkRest R)) (xs ys : List Item) (g : Game) (q : Result T ValueFault)
      (r : Result ℕ ValueFault) (e : ValueFault) → q ≡ Err e → r ≡ Err e → ItemsMade s t xs q → s.spare ≤ t.spare
      → Gives s t (xs ++ ys) (can g) r
  gives_stopped s t xs ys g q r e a b first more =
      record {
        game = rw b tt;
        made = stopped s t xs ys q r e a b first;
        more = more;
      }

  -- ---- games that are added

  -- of the other games the first, and the rest
  pub record First (s : State Meant (WorkRest R)) (other : ℕ) (rest : List ℕ) (hs : List Game) : Type 0 where
    pub game : Game
    pub games : List Game
    pub split : hs ≡ game ∷ games
    pub stands : StandsFor s other (can game)
    pub others : StandFor s rest (map can games)

  pub first-of : (s : State Meant (WorkRest R)) (others : List ℕ) (other : ℕ) (rest : List ℕ) (hs : List Game)
      → others ≡ other ∷ rest → StandFor s others (map can hs) → First s other rest hs
  first-of s others other rest [] is all =
      let P : List ℕ → Type 0 = λ z. StandFor s z [] in
      let both = subst P is all in let e = both.1 in absurd (cc)
  first-of s others other rest (h ∷ hs) is all =
      let P : List ℕ → Type 0 = λ z. StandFor s z (can h ∷ map can hs) in
      let both = subst P is all in record {
        game = h;
        games = hs;
        split = refl;
        stands = stand-first s other rest (can h) (map can hs) both;
        others = stand-rest s other rest (can h) (map can hs) both;
      }

  -- ---- games that are added up

  pub up_none : (s t : State Meant (WorkRest R)) (handles : List ℕ) (gs : List Game) (r : Result ℕ ValueFault) → handles ≡ []
      → StandFor s handles (map can gs) → Gives s t (made_item (can nothing) 0 ∷ []) (can nothing) r
      → Gives s t (sum_up_items s.rest.limit gs) (can (sum_up gs)) r
  up_none s t handles [] r none all gives = gives
  up_none s t handles (g ∷ gs) r none all gives =
      let e = all.1 in let f = ap (games_at s) none in absurd (let z : [] ≡ map can (g ∷ gs) = sym f ∙ e in cc)

  pub up_some : (s t : State Meant (WorkRest R)) (handles : List ℕ) (first : ℕ) (others : List ℕ) (gs : List Game)
      (r : Result ℕ ValueFault) → handles ≡ first ∷ others → StandFor s handles (map can gs)
      → ((g : Game) (hs : List Game) → StandsFor s first (can g) → StandFor s others (map can hs)
      → Gives s t (added_items s.rest.limit g hs) (can (added g hs)) r)
      → Gives s t (sum_up_items s.rest.limit gs) (can (sum_up gs)) r
  up_some s t handles first others gs r is all add =
      let f = first-of s handles first others gs is all in
      rw f.split (add f.game f.games f.stands f.others)

-- ---- more parts than the limit, and want of memory

fault-refused : (fault : ValueFault) (share spent limit : ℕ) (r : GameRules) (p : Grid)
    → (fault ≡ Memory) ⊎ ((fault ≡ Positions) × (limit < length (parts_reach r p)))
    → WasRefused fault share spent (board_items limit r p) spent
fault-refused fault share spent limit r p (inl memory) =
    rw memory tt
fault-refused fault share spent limit r p (inr (positions, above)) =
    rw positions (rw (items-many limit r p above) (refused-one Positions share spent too_many [] tt))

pub board_refused : {R : Type 0} (s : State Meant (WorkRest R)) (r : GameRules) (p : Grid) (fault : ValueFault) (limit : ℕ)
    (result : Result ℕ ValueFault) → limit ≡ s.rest.limit → result ≡ Err fault
    → (fault ≡ Memory) ⊎ ((fault ≡ Positions) × (limit < length (parts_reach r p)))
    → Gives s s (board_items s.rest.limit r p) (can (raw r p)) result
board_refused s r p fault limit result is e cause =
    rw e (record {
      game = tt;
      made = record {
        charged = tt;
        refused = fault-refused fault s.rest.share s.rest.spent s.rest.limit r p (rw (← is) cause);
        keeps = keeps_all s;
      };
      more = omega arith;
    })

-- ---- the parts, and then the board's own joined

module _ {R X : Type 0} (s t : State Meant (WorkRest R)) (r : GameRules) (p : Grid) (ps : List Grid) (limit : ℕ)
    (is : limit ≡ s.rest.limit) (all : ps ≡ parts_reach r p) (within : length (parts_reach r p) ≤ limit)
    (q : Result X ValueFault) (first : ItemsMade s t (flat_map (part_items s.rest.limit r) ps) q) (more : s.spare ≤ t.spare) where
  items_are : flat_map (part_items s.rest.limit r) ps ++ joins s.rest.limit r p ≡ board_items s.rest.limit r p
  items_are =
      let w : length (parts_reach r p) ≤ s.rest.limit = omega (arith, within, is) in
      ap (λ z. flat_map (part_items s.rest.limit r) z ++ joins s.rest.limit r p) all ∙ items-within s.rest.limit r p w

  pub board_stopped : (v : Result ℕ ValueFault) (e : ValueFault) → q ≡ Err e → v ≡ Err e
      → Gives s t (board_items s.rest.limit r p) (can (raw r p)) v
  board_stopped v e a b =
      gives_as s t (flat_map (part_items s.rest.limit r) ps ++ joins s.rest.limit r p) (board_items s.rest.limit r p)
      (raw r p) (raw r p) v items_are refl
      (gives_stopped s t (flat_map (part_items s.rest.limit r) ps) (joins s.rest.limit r p) (raw r p) q v e a b first more)

  pub board_gives : (u : State Meant (WorkRest R)) (x : X) → q ≡ Ok x → (v : Result ℕ ValueFault)
      → Gives t u (joins t.rest.limit r p) (can (raw r p)) v → Gives s u (board_items s.rest.limit r p) (can (raw r p)) v
  board_gives u x ok v last =
      gives_as s u (flat_map (part_items s.rest.limit r) ps ++ joins s.rest.limit r p) (board_items s.rest.limit r p)
      (raw r p) (raw r p) v items_are refl
      (gives_then s t u (flat_map (part_items s.rest.limit r) ps) (joins s.rest.limit r p) (raw r p) q x v ok first more
      (rw (← first.keeps.limit) last))
