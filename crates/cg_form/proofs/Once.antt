-- Lists of games of which each is kept only where it comes first.
use Rattle.std.proofs.Common.{◌≡◌, refl, inl, inr, ap, sym, ◌∙◌, List, [], ◌∷◌, ◌++◌, append_assoc}
use Rattle.cg_form.specs.Extended.{extended}
use Rattle.cg_form.specs.Game.{Among, Game}
use Rattle.cg_form.proofs.Among.{among-append, carry}
use Rattle.cg_form.specs.Positions.{once}
use Rattle.cg_form.proofs.Firsts.{extended-among, extended-append, extended-has, extended-there, once-extended, one_more-new, one_more-there}
use Rattle.cg_form.proofs.Structure.{games}

-- what is kept is of the list
pub among_once : (x : Game) (gs : List Game) → Among x (once gs) → Among x gs
among_once x gs m = elim (extended-among games [] gs x (carry x (once gs) (extended [] gs) (once-extended games gs) m)) [
  | inl nothing ↦ absurd nothing
  | inr n ↦ n
]

-- and what is of the list is kept
pub once_among : (x : Game) (gs : List Game) → Among x gs → Among x (once gs)
once_among x gs m = carry x (extended [] gs) (once gs) (sym (once-extended games gs)) (extended-has games [] gs x m)

pub once-append : (gs hs : List Game) → once (gs ++ hs) ≡ extended (once gs) hs
once-append gs hs = once-extended games (gs ++ hs) ∙ extended-append games [] gs hs
    ∙ ap (λ z. extended z hs) (sym (once-extended games gs))

-- games that are known already add nothing
pub once-known : (gs hs : List Game) → ((h : Game) → Among h hs → Among h gs) → once (gs ++ hs) ≡ once gs
once-known gs hs f = once-append gs hs ∙ extended-there games (once gs) hs (λ h m. once_among h gs (f h m))

-- a new game is added at the end
pub once-new : (gs : List Game) (g : Game) → ¬ Among g gs → once (gs ++ (g ∷ [])) ≡ once gs ++ (g ∷ [])
once-new gs g n = once-append gs (g ∷ []) ∙ one_more-new games (once gs) g (λ m. n (among_once g gs m))

-- known games, and then a new one
pub once-known_new : (gs hs : List Game) (g : Game) → ((h : Game) → Among h hs → Among h gs) → ¬ Among g gs
    → once (gs ++ (hs ++ (g ∷ []))) ≡ once gs ++ (g ∷ [])
once-known_new gs hs g f n =
    ap once (sym (append_assoc gs hs (g ∷ [])))
    ∙ once-new (gs ++ hs) g (λ m. elim (among-append g gs hs m) [ inl k ↦ n k | inr k ↦ n (f g k) ])
    ∙ ap (λ z. z ++ (g ∷ [])) (once-known gs hs f)

-- a game before a list that it begins is known already
pub once-first : (g : Game) (gs : List Game) → once (g ∷ (g ∷ gs)) ≡ once (g ∷ gs)
once-first g gs =
    once-extended games (g ∷ (g ∷ gs)) ∙ ap (λ z. extended z gs) (one_more-there games (g ∷ []) g (inl refl))
    ∙ sym (once-extended games (g ∷ gs))
