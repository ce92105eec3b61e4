-- The games of a desk, as its work goes on.
use Rattle.std.proofs.Common.{◌≡◌, ℕ, zero, suc, ◌<◌, arith, sym, subst, List, [], ◌∷◌, ◌++◌, get_or, length}
use Rattle.cg_cells.specs.Store.{Spends, State}
use Rattle.cg_nodes.specs.Games.{AreGames, IsGame}
use Rattle.cg_nodes.specs.Meant.{Meant}
use Rattle.cg_nodes.proofs.Later.{are_games_later}
use Rattle.cg_nodes.proofs.Lists.{are_games-append}
use Rattle.cg_canon.specs.Works.{Keeps}
use Rattle.cg_canon.specs.declared.rest.WorkRest.{WorkRest}

pub kept : {R : Type 0} (s t : State Meant (WorkRest R)) (hs : List ℕ) → Keeps s t → AreGames s hs → AreGames t hs
kept s t hs k a = are_games_later s t k.known hs a

pub spent : {R : Type 0} (s t : State Meant R) (hs : List ℕ) → Spends 0 s t → AreGames s hs → AreGames t hs
spent s t hs k a = are_games_later s t k.known hs a

pub one_more : {R : Type 0} (s : State Meant R) (hs more : List ℕ) (h : ℕ) → AreGames s hs → IsGame s h → more ≡ hs ++ h ∷ []
    → AreGames s more
one_more s hs more h a g same = let P : List ℕ → Type 0 = λ z. AreGames s z in
    subst P (sym same) (are_games-append s hs (h ∷ []) a (g, tt))

pub one_of : {R : Type 0} (s : State Meant R) (hs : List ℕ) (i h : ℕ) → AreGames s hs → i < length hs → h ≡ get_or hs i h → IsGame s h
one_of s [] i h a l e = absurd (omega arith)
one_of s (k ∷ hs) zero h a l e = let P : ℕ → Type 0 = λ z. IsGame s z in subst P (sym e) a.0
one_of s (k ∷ hs) (suc i) h a l e = one_of s hs i h a.1 (omega arith) e
