-- Items that are made beside an interner, and what they leave of a work.
use Rattle.std.proofs.Common.{◌≡◌, refl, ℕ, ◌+◌, ◌≤◌, arith, ap, ◌∙◌, List, [], ◌∷◌, Result, Ok, Err}
use Rattle.std.specs.Borrow.{MutBor}
use Rattle.cg_form.specs.Game.{Game}
use Rattle.cg_cells.specs.Store.{Spends, State}
use Rattle.cg_nodes.specs.Games.{StandsFor}
use Rattle.cg_nodes.specs.Meant.{Meant}
use Rattle.cg_canon.specs.declared.fault.ValueFault.{ValueFault}
use Rattle.cg_canon.specs.declared.cache.Cache.{Cache}
use Rattle.cg_canon.specs.declared.memo.Memo.{Memo}
use Rattle.cg_canon.specs.declared.meter.Meter.{Meter}
use Rattle.cg_canon.specs.declared.rest.WorkRest.{WorkRest}
use Rattle.cg_canon.specs.Interners.{InternerHolds}
use Rattle.cg_canon.specs.Cache.{CacheHolds}
use Rattle.cg_canon.specs.Items.{AllPass, WasRefused, made}
use Rattle.cg_canon.specs.Made.{FormGiven}
use Rattle.cg_canon.specs.Paid.{IsPaid, metered}
use Rattle.cg_canon.specs.Works.{MeterHolds, work_state}
use Rattle.cg_canon.proofs.Holding.{cache_interner, cache_later}
use Rattle.cg_canon.proofs.Keeping.{spends_keeps}
use Rattle.cg_canon.proofs.MadeSteps.{read_then}
use Rattle.cg_arena.proofs.Results.{on_err, on_ok}

-- nothing was made, and then an item
pub form_later : {R : Type 0} (s t u : State Meant (WorkRest R)) (form : Game) (extra : ℕ) (r : Result ℕ ValueFault) → Spends 0 s t
    → FormGiven t u form extra r → FormGiven s u form extra r
form_later {R} s t u form extra r k f =
    let spare = k.spare in
    let more = f.gives.more in record {
      gives = record { game = f.gives.game; made = read_then 0 s t u (made form extra ∷ []) r k f.gives.made; more = omega arith };
      same = on_err r _ _ f.same (λ e. let a = e.spare in record {
        spent = e.spent ∙ ap (λ (z : WorkRest R). z.spent) k.rest;
        spare = omega arith;
      });
      spare = on_ok r _ _ f.spare (λ a. omega arith);
    }

-- ---- a store and its meter

module _ {R : Type 0} (s t : State Meant R) (m : Meter) (k : Spends 0 s t) where
  looked : Spends 0 (metered s m) (metered t m)
  looked =
      let spare = k.spare in record {
        known = k.known;
        noted = k.noted;
        spare = omega arith;
        rest = ap (λ (z : R). (metered (record s { rest = z }) m).rest) k.rest;
      }

  -- after a search of the store
  pub paid_later : (u : State Meant R) (n : Meter) (g form : Game) (extra : ℕ) (r : Result ℕ ValueFault) → g ≡ form
      → IsPaid t u m n form extra r → IsPaid s u m n g extra r
  paid_later u n g form extra r e p =
      let spare = k.spare in
      let fallen = p.fallen in
      rw e (record {
        given = form_later (metered s m) (metered t m) (metered u n) form extra r looked p.given;
        within = p.within;
        fallen = omega arith;
      })

  -- an item that is refused after it
  pub none_paid : (form : Game) (extra : ℕ) (fault : ValueFault) → m.spent ≤ m.share
      → WasRefused fault m.share m.spent (made form extra ∷ []) m.spent → IsPaid s t m m form extra (Err fault)
  none_paid form extra fault within refused =
      let spare = k.spare in record {
        given = record {
          gives = record {
            game = tt;
            made = record { charged = tt; refused = refused; keeps = spends_keeps 0 (metered s m) (metered t m) looked };
            more = omega arith;
          };
          same = record { spent = refl; spare = omega arith };
          spare = tt;
        };
        within = within;
        fallen = omega arith;
      }

-- an item that was made and charged, for no more cells than were charged
pub made_paid : {R : Type 0} (s t : State Meant R) (m n : Meter) (form : Game) (extra h cells cost : ℕ) → cells ≤ cost → Spends cells s t
    → n ≡ record m { spent = m.spent + (cost + extra) } → m.spent + (cost + extra) ≤ m.share → StandsFor t h form
    → AllPass m.share m.spent (made form extra ∷ []) n.spent → IsPaid s t m n form extra (Ok h)
made_paid s t m n form extra h cells cost fewer k same within game charged =
    let spare : t.spare + cells ≡ s.spare = k.spare in
    let spent : n.spent ≡ m.spent + (cost + extra) = ap (λ (z : Meter). z.spent) same in
    let share : n.share ≡ m.share = ap (λ (z : Meter). z.share) same in record {
      given = record {
        gives = record {
          game = game;
          made = record {
            charged = charged;
            refused = tt;
            keeps = record {
              known = k.known;
              noted = k.noted;
              of_store = k.rest;
              name = refl;
              share = share;
              start = refl;
              limit = refl;
            };
          };
          more = omega arith;
        };
        same = tt;
        spare = omega arith;
      };
      within = omega arith;
      fallen = omega arith;
    }

-- ---- a work

-- what it keeps: its memo has the new interner and the same sums
pub paid_holds : {R : Type 0} (s t : State Meant R) (a b : Meter) (start : ℕ) (h : Cache) (n : Memo) (form : Game) (extra : ℕ)
    (r : Result ℕ ValueFault) → MeterHolds s a.spent a.share start × CacheHolds s h → IsPaid s t a b form extra r
    → InternerHolds t n.interner → n.sums.items ≡ h.memo.sums.items
    → MeterHolds t b.spent b.share start × CacheHolds t (record h { memo = n })
paid_holds s t a b start h n form extra r w p interner same =
    let keeps = p.given.gives.made.keeps in
    let share : b.share ≡ a.share = keeps.share in
    let more : s.spare + a.spent ≤ t.spare + b.spent = p.given.gives.more in
    let below = p.fallen in
    let within = p.within in
    let room = w.0.room in
    let small = w.0.small in
    let fallen = w.0.fallen in
    let enough = w.0.enough in (
      record { within = p.within; room = omega arith; small = omega arith; fallen = omega arith; enough = omega arith },
      cache_interner t h n (cache_later s t h keeps.known w.1) interner same,
    )

-- what is seen of it, before and after
pub paid_item : {S R : Type 0} (state : S → State Meant R) (a b : MutBor S) (m n : Meter) (start limit : ℕ) (gs hs : List Game)
    (form : Game) (extra : ℕ) (r : Result ℕ ValueFault) → FormGiven (metered (state a.now) m) (metered (state b.now) n) form extra r → b.ghost_name
    ≡ a.ghost_name
    → start ≤ (state a.now).spare + m.spent
    → FormGiven (work_state state (record { store = a; spent = m.spent; share = m.share; start = start; limit = limit; arena = gs }))
    (work_state state (record { store = b; spent = n.spent; share = n.share; start = start; limit = limit; arena = hs })) form extra r
paid_item state a b m n start limit gs hs form extra r f name room =
    let keeps = f.gives.made.keeps in
    let more : (state a.now).spare + m.spent ≤ (state b.now).spare + n.spent = f.gives.more in record {
      gives = record {
        game = f.gives.game;
        made = record {
          charged = f.gives.made.charged;
          refused = f.gives.made.refused;
          keeps = record {
            known = keeps.known;
            noted = keeps.noted;
            of_store = keeps.of_store;
            name = name;
            share = keeps.share;
            start = refl;
            limit = refl;
          };
        };
        more = omega arith;
      };
      same = on_err r _ _ f.same (λ e.
          let spare : (state b.now).spare + n.spent ≡ (state a.now).spare + m.spent = e.spare in
          record { spent = e.spent; spare = omega arith });
      spare = on_ok r _ _ f.spare (λ e.
          let paid : (state a.now).spare + m.spent + extra ≤ (state b.now).spare + n.spent = e in omega arith);
    }
