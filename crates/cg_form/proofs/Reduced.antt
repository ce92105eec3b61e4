-- Positions of canonical games, and reduced games as either side sees them.
use Rattle.std.proofs.Common.{◌≡◌, refl, ◌⊎◌, inl, inr, sym, List, [], ◌∷◌, Bool, true, false}
use Rattle.std.specs.declared.cmp.Ordering.{Ordering}
use Rattle.std.specs.declared.cmp.Ordering.TheVariants.{Less, Equal as Same, Greater}
use Rattle.cg_dyadic.specs.Number.{number_lefts, number_rights}
use Rattle.cg_form.specs.Canonical.{AllCanonical, Canonical, Reduced}
use Rattle.cg_form.specs.Game.{Among, Game, Games, lefts, more, none, number, of_list, options, rights, to_list}
use Rattle.cg_form.specs.Side.{AtMost, far, near}
use Rattle.cg_form.specs.Structure.{Rises, game_cmp}
use Rattle.cg_form.proofs.Among.{among-map}
use Rattle.cg_form.proofs.Structure.{before_not_same, game_cmp-same, game_cmp-turned}

all_canonical-each : (gs : Games) (a : Game) → AllCanonical gs → Among a (to_list gs) → Canonical a
all_canonical-each none a c m = absurd m
all_canonical-each (more g gs) a c (inl e) = rw e c.0
all_canonical-each (more g gs) a c (inr m) = all_canonical-each gs a c.1 m

pub canonical-left : (g a : Game) → Canonical g → Among a (lefts g) → Canonical a
canonical-left (number x) a c m = let (z, e, w) = among-map (number_lefts x) number a m in rw e tt
canonical-left (options ls rs) a c m = all_canonical-each ls a c.1 m

pub canonical-right : (g a : Game) → Canonical g → Among a (rights g) → Canonical a
canonical-right (number x) a c m = let (z, e, w) = among-map (number_rights x) number a m in rw e tt
canonical-right (options ls rs) a c m = all_canonical-each rs a c.2 m

pub canonical-near : (s : Bool) (g a : Game) → Canonical g → Among a (near s g) → Canonical a
canonical-near true g a c m = canonical-left g a c m
canonical-near false g a c m = canonical-right g a c m

pub canonical-far : (s : Bool) (g a : Game) → Canonical g → Among a (far s g) → Canonical a
canonical-far true g a c m = canonical-right g a c m
canonical-far false g a c m = canonical-left g a c m

pub all_canonical : (gs : List Game) → ((c : Game) → Among c gs → Canonical c) → AllCanonical (of_list gs)
all_canonical [] f = tt
all_canonical (g ∷ gs) f = (f g (inl refl), all_canonical gs (λ c m. f c (inr m)))

-- ---- reduced games, as either side sees them

same_or_not : (g h : Game) → (g ≡ h) ⊎ (¬ (g ≡ h))
same_or_not g h = by (game_cmp g h) refl
  where
    by : (o : Ordering) → game_cmp g h ≡ o → (g ≡ h) ⊎ (¬ (g ≡ h))
    by Less e = inr (before_not_same g h e)
    by Same e = inl (game_cmp-same g h e)
    by Greater e = inr (λ q. before_not_same h g (game_cmp-turned g h e) (sym q))

pub reduced-apart : (s : Bool) (g : Game) → Reduced g → (a b : Game) → Among a (near s g) → Among b (near s g)
    → AtMost s a b → a ≡ b
reduced-apart true g r a b m w l = elim (same_or_not a b) [
  | inl e ↦ e
  | inr n ↦ absurd (r.left_undominated a m (record { by = b; option = w; other = n; worse = l }))
]
reduced-apart false g r a b m w l = elim (same_or_not a b) [
  | inl e ↦ e
  | inr n ↦ absurd (r.right_undominated a m (record { by = b; option = w; other = n; worse = l }))
]

pub reduced-stays : (s : Bool) (g : Game) → Reduced g → (a b : Game) → Among a (near s g) → Among b (far s a)
    → ¬ AtMost s b g
reduced-stays true g r a b m w l = r.left_irreversible a m (record { through = b; answer = w; back = l })
reduced-stays false g r a b m w l = r.right_irreversible a m (record { through = b; answer = w; back = l })

pub reduced-rises : (s : Bool) (g : Game) → Reduced g → Rises (near s g)
reduced-rises true g r = r.lefts_rise
reduced-rises false g r = r.rights_rise
