-- What the steps of each kind of expression come to.
use Rattle.std.proofs.Common.{◌≡◌, refl, ap, sym, ◌∙◌, subst, ℕ, Bool, true, false, List, [], ◌∷◌, ◌++◌, map, Result, Ok, Err, Option, Some, None}
use Rattle.std.specs.Option.{ForSome}
use Rattle.std.specs.Prelude.{IfOk, IsSomeAnd, ◌≤◌}
use Rattle.cg_dyadic.specs.Number.{Number, NumberLe}
use Rattle.cg_form.specs.Canonical.{Canonical}
use Rattle.cg_form.specs.Game.{Game, number as plain_number, node, options, of_list, to_list}
use Rattle.cg_form.specs.Multiple.{multiple as many}
use Rattle.cg_form.specs.Sum.{sum as plus, negative as minus}
use Rattle.cg_form.proofs.Among.{of_list-to_list}
use Rattle.cg_nodes.specs.Can.{can}
use Rattle.cg_cells.specs.Store.{State}
use Rattle.cg_nodes.specs.CanLaw.{can-fixed}
use Rattle.cg_nodes.specs.Games.{IsGame, StandFor, StandsFor, game_at, games_at}
use Rattle.cg_nodes.specs.Meant.{Meant}
use Rattle.cg_nodes.proofs.Later.{stands_game, game_later, stand_later}
use Rattle.cg_canon.specs.declared.fault.ValueFault.{ValueFault}
use Rattle.cg_canon.specs.declared.rest.WorkRest.{WorkRest}
use Rattle.cg_canon.specs.Items.{Item, made}
use Rattle.cg_canon.specs.NumberItems.{IsForm, number_made}
use Rattle.cg_canon.proofs.ItemLaws.{passes-first}
use Rattle.cg_canon.specs.SumItems.{sum_items}
use Rattle.cg_sum.specs.Lists.{negative_items, multiple_items}
use Rattle.cg_canon.specs.Made.{Gives, ItemsMade}
use Rattle.cg_nodes.proofs.Forms.{can-node}
use Rattle.cg_sum.proofs.Sums.{can-sum_form, can-sum_comm}
use Rattle.cg_names.specs.Lists.{form_items, number_items}
use Rattle.cg_names.specs.Meaning.{fraction, literal, or_zero, signed}
use Rattle.cg_names.specs.Meaning.{meaning as meaning_by}
use Rattle.cg_eval.specs.Meaning.{meaning, meanings}
use Rattle.cg_names.specs.Named.{nimber_form, ups_form, switch_form, tiny_form, zero_number}
use Rattle.cg_query.specs.Tree.{Tree, Trees, number, ups, nimber, switch, tiny, sides, negative, multiple, used}
use Rattle.cg_eval.specs.Faults.{fault_in, fault_in_all, first_of_two}
use Rattle.cg_eval.specs.Items.{items, all_items, signed_items, term_part}
use Rattle.cg_eval.specs.Parts.{widened}
use Rattle.cg_eval.specs.Progress.{Evaluates, Finds, Lacks, Makes}
use Rattle.cg_eval.specs.declared.fault.GameFault.{GameFault}
use Rattle.cg_eval.specs.declared.fault.NoValue.{NoValue}
use Rattle.cg_eval.specs.Zero.{zero_form, zero_items}
use Rattle.cg_names.proofs.Literals.{literal-fraction, literal_not_negative}
use Rattle.cg_names.proofs.SwitchForms.{switch-canonical, tiny-canonical}
use Rattle.cg_eval.proofs.LastItems.{can-negative_form, can-multiple_form}
use Rattle.cg_eval.proofs.Lasts.{append_none}
use Rattle.cg_eval.proofs.Steps.{finds, finds_game, finds_items, finds_then, first_none, first_some, gives_from, lacks_fault, lacks_front}
use Rattle.cg_eval.proofs.Steps.{lacks_then, makes_then}

module _ {R : Type 0} (s t : State Meant (WorkRest R)) where
  -- ---- numbers and named games

  pub ups_gives : (down : Bool) (n : ℕ) (given : Result ℕ ValueFault) (result : Result ℕ NoValue) → result ≡ widened given
      → Gives s t (form_items s.rest.limit (ups_form down n)) (can (ups_form down n)) given
      → Evaluates s t (ups down n) result
  unfolding items meaning_by
  ups_gives down n given result w r = finds s t (form_items s.rest.limit (ups_form down n)) (ups_form down n) given result w r

  pub nimber_gives : (n : ℕ) (given : Result ℕ ValueFault) (result : Result ℕ NoValue) → result ≡ widened given
      → Gives s t (form_items s.rest.limit (nimber_form n)) (can (nimber_form n)) given → Evaluates s t (nimber n) result
  unfolding items meaning_by
  nimber_gives n given result w r = finds s t (form_items s.rest.limit (nimber_form n)) (nimber_form n) given result w r

  -- 0
  pub zero_gives : (x : Number) (given : Result ℕ ValueFault) (result : Result ℕ NoValue) → result ≡ widened given
      → x ≡ zero_number → Gives s t (made (plain_number x) 0 ∷ []) (plain_number x) given → Finds s t None zero_items zero_form result
  zero_gives x given result w is gives =
      let r = gives_from s t (made (plain_number x) 0 ∷ []) (plain_number x) (plain_number x) given
      (sym (can-fixed (plain_number x) tt)) gives in
      rw (← is) (finds s t (made (plain_number x) 0 ∷ []) (plain_number x) given result w r)

  pub used_gives : (word : List ℕ) (column : ℕ) (result : Result ℕ NoValue) → Finds s t None zero_items zero_form result
      → Evaluates s t (used word column) result
  unfolding items meaning_by
  used_gives word column result r = r

  -- the number that is given, or one out of range
  number_of : (o all : Option Number) (result : Result ℕ ValueFault) → ((x : Number) → o ≡ Some x → all ≡ Some x)
      → IfOk result (λ h. IsForm o (StandsFor t h)) → ItemsMade s t (number_made o 0 ∷ []) result → s.spare ≤ t.spare
      → Gives s t (number_made o 0 ∷ []) (can (plain_number (or_zero all))) result
  number_of None all (Ok h) e game done m = absurd game
  number_of (Some x) all (Ok h) e game done m =
      let k : plain_number x ≡ can (plain_number (or_zero all)) =
      ap (λ z. plain_number (or_zero z)) (sym (e x refl)) ∙ sym (can-fixed (plain_number (or_zero all)) tt) in
      gives_from s t (made (plain_number x) 0 ∷ []) (plain_number x) (plain_number (or_zero all)) (Ok h) k
      (record { game = game; made = done; more = m })
  number_of o all (Err fault) e game done m = record { game = tt; made = done; more = m }

  pub literal_gives : (below : Bool) (num den : ℕ) (o : Option Number) (given : Result ℕ ValueFault)
      (result : Result ℕ NoValue) → result ≡ widened given → o ≡ literal below num den
      → IfOk given (λ h. IsForm o (StandsFor t h)) → ItemsMade s t (number_made o 0 ∷ []) given → s.spare ≤ t.spare
      → Evaluates s t (number below num den) result
  unfolding items meaning_by
  literal_gives below num den o given result w e game done m =
      let r = number_of o (fraction below num den) given (λ x f. literal-fraction below num den x (sym e
      ∙ f)) game done m in
      finds_items s t None (number_made o 0 ∷ []) (number_made (literal below num den) 0 ∷ []) (plain_number (or_zero
      (fraction below num den))) result (ap (λ z. number_made z 0 ∷ []) e)
      (finds s t (number_made o 0 ∷ []) (plain_number (or_zero (fraction below num den))) given result w r)

  -- the game of the number that is given, or a number out of range
  game_of_number : (form : Number → Game) (o all : Option Number) (result : Result ℕ ValueFault)
      → ((x : Number) → o ≡ Some x → (all ≡ Some x) × Canonical (form x))
      → IfOk result (λ h. IsSomeAnd o (λ y. StandsFor t h (form y)))
      → ItemsMade s t (number_items s.rest.limit form o) result → s.spare ≤ t.spare
      → Gives s t (number_items s.rest.limit form o) (can (form (or_zero all))) result
  game_of_number form None all (Ok h) e game done m =
      absurd (passes-first s.rest.share s.rest.spent t.rest.spent _ [] done.charged)
  game_of_number form (Some x) all (Ok h) e game done m =
      let (same, canonical) = e x refl in
      let k : form x ≡ can (form (or_zero all)) =
      sym (can-fixed (form x) canonical) ∙ ap (λ z. can (form (or_zero z))) (sym same) in
      gives_from s t (form_items s.rest.limit (form x)) (form x) (form (or_zero all)) (Ok h) k
      (record { game = game; made = done; more = m })
  game_of_number form o all (Err fault) e game done m = record { game = tt; made = done; more = m }

  pub switch_gives : (num den : ℕ) (o : Option Number) (given : Result ℕ ValueFault) (result : Result ℕ NoValue)
      → result ≡ widened given → o ≡ literal false num den
      → IfOk given (λ h. IsSomeAnd o (λ y. StandsFor t h (switch_form y)))
      → ItemsMade s t (number_items s.rest.limit switch_form o) given → s.spare ≤ t.spare → Evaluates s t (switch num den) result
  unfolding items meaning_by
  switch_gives num den o given result w e game done m =
      let r = game_of_number switch_form o (fraction false num den) given
      (λ x f. (
        literal-fraction false num den x (sym e ∙ f),
        switch-canonical x (literal_not_negative num den x
            (sym e ∙ f)),
      )) game done m in
      finds_items s t None (number_items s.rest.limit switch_form o) (number_items s.rest.limit switch_form
      (literal false num den)) (switch_form (or_zero (fraction false num den))) result
      (ap (λ z. number_items s.rest.limit switch_form z) e)
      (finds s t (number_items s.rest.limit switch_form o) (switch_form (or_zero (fraction false num den))) given result w r)

  pub tiny_gives : (miny : Bool) (num den : ℕ) (o : Option Number) (given : Result ℕ ValueFault)
      (result : Result ℕ NoValue) → result ≡ widened given → o ≡ literal false num den
      → IfOk given (λ h. IsSomeAnd o (λ y. StandsFor t h (tiny_form miny y)))
      → ItemsMade s t (number_items s.rest.limit (tiny_form miny) o) given → s.spare ≤ t.spare → Evaluates s t (tiny miny num den) result
  unfolding items meaning_by
  tiny_gives miny num den o given result w e game done m =
      let r = game_of_number (tiny_form miny) o (fraction false num den) given
      (λ x f. (
        literal-fraction false num den x (sym e ∙ f),
        tiny-canonical miny x (literal_not_negative num den x
            (sym e ∙ f)),
      )) game done m in
      finds_items s t None (number_items s.rest.limit (tiny_form miny) o) (number_items s.rest.limit (tiny_form miny)
      (literal false num den)) (tiny_form miny (or_zero (fraction false num den))) result
      (ap (λ z. number_items s.rest.limit (tiny_form miny) z) e)
      (finds s t (number_items s.rest.limit (tiny_form miny) o) (tiny_form miny (or_zero (fraction false num den))) given
      result w r)

-- the number that a call with a literal is given isn't negative
pub given_not_negative : (num den : ℕ) (o : Option Number) → o ≡ literal false num den
    → ForSome o (λ y. NumberLe zero_number y)
given_not_negative num den o e = λ x f. literal_not_negative num den x (sym e ∙ f)

-- ---- expressions with parts

module _ {R : Type 0} (s t u : State Meant (WorkRest R)) where
  -- the step after an expression's value, which is told of the value's game at the later state
  stepped : (step : ℕ → Game → List Item) (last : Game → Game) (fault : Option GameFault) (is : List Item) (m : Game) (v : ℕ)
      (given : Result ℕ ValueFault) (result : Result ℕ NoValue) → result ≡ widened given
      → can (last (can m)) ≡ can (last m) → (fault ≡ None) × (StandsFor t v (can m) × Makes s t is)
      → Gives t u (step t.rest.limit (game_at t v)) (can (last (game_at t v))) given
      → Finds s u fault (is ++ step s.rest.limit (can m)) (last m) result
  stepped step last fault is m v given result w e (none, (game, makes)) r =
      let P : Game → Type 0 = λ z. Gives t u (step t.rest.limit z) (can (last z)) given in
      let k : Gives t u (step s.rest.limit (can m)) (can (last (can m))) given = rw (← makes.keeps.limit) (subst P
      (stands_game t v (can m) game) r) in
      finds_then s t u fault None is (step s.rest.limit (can m)) (last m) result none makes
      (finds_game t u None (step s.rest.limit (can m)) (last (can m)) (last m) result e
      (finds t u (step s.rest.limit (can m)) (last (can m)) given result w k))

  pub negative_gives : (e : Tree) (v : ℕ) (given : Result ℕ ValueFault) (result : Result ℕ NoValue) → result ≡ widened given
      → Evaluates s t e (Ok v) → Gives t u (negative_items t.rest.limit (game_at t v)) (can (minus (game_at t v))) given
      → Evaluates s u (negative e) result
  unfolding items meaning_by
  negative_gives e v given result w a r =
      stepped negative_items minus (fault_in e) (items s.rest.limit e) (meaning e) v given result w
      (can-negative_form (meaning e)) a r

  pub multiple_gives : (n : ℕ) (e : Tree) (v : ℕ) (given : Result ℕ ValueFault) (result : Result ℕ NoValue)
      → result ≡ widened given → Evaluates s t e (Ok v)
      → Gives t u (multiple_items t.rest.limit n (game_at t v)) (can (many n (game_at t v))) given
      → Evaluates s u (multiple n e) result
  unfolding items meaning_by
  multiple_gives n e v given result w a r =
      stepped (λ limit g. multiple_items limit n g) (many n) (fault_in e) (items s.rest.limit e) (meaning e) v given result w
      (can-multiple_form n (meaning e)) a r

  pub subtracted_gives : (e : Tree) (v : ℕ) (given : Result ℕ ValueFault) (result : Result ℕ NoValue) → result ≡ widened given
      → Evaluates s t e (Ok v) → Gives t u (negative_items t.rest.limit (game_at t v)) (can (minus (game_at t v))) given
      → Finds s u (fault_in e) (term_part s.rest.limit true e) (signed true (meaning e)) result
  subtracted_gives e v given result w a r =
      stepped negative_items minus (fault_in e) (items s.rest.limit e) (meaning e) v given result w
      (can-negative_form (meaning e)) a r

  -- a term that is added to the game of a handle
  pub sum_gives : (m : Game) (fault : Option GameFault) (is : List Item) (so_far v : ℕ) (given : Result ℕ ValueFault)
      (result : Result ℕ NoValue) → result ≡ widened given → IsGame s so_far
      → (fault ≡ None) × (StandsFor t v (can m) × Makes s t is)
      → Gives t u (sum_items t.rest.limit (game_at t so_far) (game_at t v)) (can (plus (game_at t so_far) (game_at t v))) given
      → Finds s u fault (is ++ sum_items s.rest.limit (game_at s so_far) (can m)) (plus (game_at s so_far) m) result
  sum_gives m fault is so_far v given result w known (none, (game, makes)) r =
      let g = game_at s so_far in
      stepped (λ limit h. sum_items limit g h) (λ h. plus g h) fault is m v given result w
      (can-sum_comm g (can m) ∙ can-sum_form m g ∙ can-sum_comm m g)
      (none, (game, makes)) (rw (← (game_later s t makes.keeps.known so_far known)) r)

-- ---- where a part has no value

module _ {R : Type 0} (s t : State Meant (WorkRest R)) where
  pub negative_stopped : (e : Tree) (cause : NoValue) → Evaluates s t e (Err cause) → Evaluates s t (negative e) (Err cause)
  unfolding items meaning_by
  negative_stopped e cause r = lacks_front s t (fault_in e) (fault_in e) (items s.rest.limit e)
      (negative_items s.rest.limit (can (meaning e))) cause (λ x f. f) r

  pub multiple_stopped : (n : ℕ) (e : Tree) (cause : NoValue) → Evaluates s t e (Err cause)
      → Evaluates s t (multiple n e) (Err cause)
  unfolding items meaning_by
  multiple_stopped n e cause r = lacks_front s t (fault_in e) (fault_in e) (items s.rest.limit e)
      (multiple_items s.rest.limit n (can (meaning e))) cause (λ x f. f) r

  pub signed_stopped : (subtracted : Bool) (e : Tree) (cause : NoValue) → Evaluates s t e (Err cause)
      → Lacks s t (fault_in e) (term_part s.rest.limit subtracted e) cause
  signed_stopped subtracted e cause r = lacks_front s t (fault_in e) (fault_in e) (items s.rest.limit e)
      (signed_items s.rest.limit subtracted (can (meaning e))) cause (λ x f. f) r

  pub left_stopped : (lefts rights : Trees) (cause : NoValue)
      → Lacks s t (fault_in_all lefts) (all_items s.rest.limit lefts) cause → Evaluates s t (sides lefts rights) (Err cause)
  unfolding items meaning_by
  left_stopped lefts rights cause r =
      let ls = all_items s.rest.limit lefts in
      let rs = all_items s.rest.limit rights in
      let both = first_of_two (fault_in_all lefts) (fault_in_all rights) in
      lacks_front s t both both (ls ++ rs) (made (can (options (meanings lefts) (meanings rights))) 0 ∷ []) cause (λ x f. f)
      (lacks_front s t (fault_in_all lefts) both ls rs cause
      (λ x f. first_some (fault_in_all lefts) (fault_in_all rights) x f) r)

pub right_stopped : {R : Type 0} (s t u : State Meant (WorkRest R)) (lefts rights : Trees) (cause : NoValue)
    → fault_in_all lefts ≡ None → Makes s t (all_items s.rest.limit lefts)
    → Lacks t u (fault_in_all rights) (all_items t.rest.limit rights) cause
    → Evaluates s u (sides lefts rights) (Err cause)
unfolding items meaning_by
right_stopped s t u lefts rights cause none made_lefts r =
    let ls = all_items s.rest.limit lefts in
    let rs = all_items s.rest.limit rights in
    let both = first_of_two (fault_in_all lefts) (fault_in_all rights) in
    lacks_front s u both both (ls ++ rs) (made (can (options (meanings lefts) (meanings rights))) 0 ∷ []) cause (λ x f. f)
    (lacks_fault s u (fault_in_all rights) both (ls ++ rs) cause
    (sym (first_none (fault_in_all lefts) (fault_in_all rights) none))
    (lacks_then s t u (fault_in_all rights) ls rs cause made_lefts (rw (← made_lefts.keeps.limit) r)))

pub added_gives : {R : Type 0} (s t : State Meant (WorkRest R)) (e : Tree) (v : ℕ) → Evaluates s t e (Ok v)
    → Finds s t (fault_in e) (term_part s.rest.limit false e) (signed false (meaning e)) (Ok v)
added_gives s t e v r =
    (r.0, (r.1.0, rw (append_none (items s.rest.limit e)) r.1.1))

-- ---- braces

module _ {R : Type 0} (s t u w : State Meant (WorkRest R)) where
  pub braces_gives : (lefts rights : Trees) (ls hs rs ks : List ℕ) (given : Result ℕ ValueFault) (result : Result ℕ NoValue)
      → result ≡ widened given
      → (fault_in_all lefts ≡ None) × (StandFor t ls (map can (to_list (meanings lefts))) × Makes s t
      (all_items s.rest.limit lefts))
      → (fault_in_all rights ≡ None) × (StandFor u rs (map can (to_list (meanings rights))) × Makes t u
      (all_items t.rest.limit rights))
      → hs ≡ ls → ks ≡ rs
      → Gives u w (made (can (node (games_at u hs) (games_at u ks))) 0 ∷ []) (can (node (games_at u hs) (games_at u ks))) given
      → Evaluates s w (sides lefts rights) result
  unfolding items meaning_by
  braces_gives lefts rights ls hs rs ks given result v (left_sound, (left_games, left_made))
      (right_sound, (right_games, right_made)) e f r =
      let later = stand_later t u right_made.keeps.known ls (map can (to_list (meanings lefts))) left_games in
      let l : games_at u hs ≡ map can (to_list (meanings lefts)) = ap (λ z. games_at u z) e ∙ later.1 in
      let k : games_at u ks ≡ map can (to_list (meanings rights)) = ap (λ z. games_at u z) f ∙ right_games.1 in
      let whole = options (meanings lefts) (meanings rights) in
      let whole_game : node (to_list (meanings lefts)) (to_list (meanings rights)) ≡ whole =
      ap (λ z. options z (of_list (to_list (meanings rights)))) (of_list-to_list (meanings lefts))
      ∙ ap (λ z. options (meanings lefts) z) (of_list-to_list (meanings rights)) in
      let form : can (node (games_at u hs) (games_at u ks)) ≡ can whole =
      ap (λ z. can (node z (games_at u ks))) l ∙ ap (λ z. can (node (map can (to_list (meanings lefts))) z)) k
      ∙ can-node (to_list (meanings lefts)) (to_list (meanings rights)) ∙ ap can whole_game in
      let own = made (can (node (games_at u hs) (games_at u ks))) 0 ∷ [] in
      let one = made (can whole) 0 ∷ [] in
      let both : Makes s u (all_items s.rest.limit lefts ++ all_items s.rest.limit rights) =
      makes_then s t u (all_items s.rest.limit lefts) (all_items s.rest.limit rights) left_made
      (rw (← left_made.keeps.limit) right_made) in
      let both_sound = first_none (fault_in_all lefts) (fault_in_all rights) left_sound ∙ right_sound in
      finds_then s u w (first_of_two (fault_in_all lefts) (fault_in_all rights)) None
      (all_items s.rest.limit lefts ++ all_items s.rest.limit rights) one whole result both_sound both
      (finds_game u w None one (node (games_at u hs) (games_at u ks)) whole result form
      (finds_items u w None own one (node (games_at u hs) (games_at u ks)) result (ap (λ z. made z 0 ∷ []) form)
      (finds u w own (node (games_at u hs) (games_at u ks)) given result v r)))
