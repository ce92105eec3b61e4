-- An entry that is added to those of an arena, behind options of its own.
use Rattle.std.proofs.Common.{◌≡◌, refl, ℕ, ◌<◌, ◌^◌, arith, ap, sym, ◌∙◌, List}
use Rattle.std.proofs.Common.{[], ◌∷◌, ◌++◌, length, length-append, zip, true, false, cond}
use Rattle.std.proofs.lemmas.List.{append_assoc, append-nil}
use Rattle.std.specs.List.{slice_range}
use Rattle.cg_dyadic.specs.Number.{Number}
use Rattle.cg_form.specs.Canonical.{Canonical}
use Rattle.cg_form.specs.Game.{Game, node, number}
use Rattle.cg_arena.specs.declared.arena.Entry.{Entry}
use Rattle.cg_arena.specs.declared.summary.Summary.{Summary}
use Rattle.cg_arena.specs.Keys.{AreKeys}
use Rattle.cg_arena.specs.Arena.{AreWritten, AreIndexes, IsArena, IsWritten, games_of, left_indexes, right_indexes, said, said_by}
use Rattle.cg_arena.specs.Summaries.{IsSummary}
use Rattle.cg_arena.proofs.Slices.{range_before, range_behind, range_none}

-- ---- an index more

pub said_one_more : (opts : List ℕ) (gs : List Game) (ps : List (Entry × Summary)) (p : Entry) (f : Summary)
    → said_by opts gs (ps ++ ((p, f) ∷ [])) ≡ said_by opts gs ps ++ (said opts (said_by opts gs ps) p f ∷ [])
said_one_more opts gs [] p f = refl
said_one_more opts gs ((q, r) ∷ ps) p f = said_one_more opts (gs ++ (said opts gs q r ∷ [])) ps p f

pub written_one_more : (opts : List ℕ) (gs : List Game) (ps : List (Entry × Summary)) (p : Entry) (f : Summary) → AreWritten opts gs ps
    → IsWritten opts (said_by opts gs ps) p f → length (said_by opts gs ps) < 2 ^ 32 → AreWritten opts gs (ps ++ ((p, f) ∷ []))
written_one_more opts gs [] p f w h n = let e = length-append gs (said opts gs p f ∷ []) in (h, omega arith)
written_one_more opts gs ((q, r) ∷ ps) p f w h n = (w.0, written_one_more opts (gs ++ (said opts gs q r ∷ [])) ps p f w.1 h n)

-- ---- options more

written_longer_entry : (opts more : List ℕ) (gs : List Game) (p : Entry) (f : Summary) → IsWritten opts gs p f
    → (said (opts ++ more) gs p f ≡ said opts gs p f) × IsWritten (opts ++ more) gs p f
written_longer_entry opts more gs p f w =
    let l : left_indexes (opts ++ more) p ≡ left_indexes opts p = range_before opts more p.lefts p.rights w.first (let a = w.second in let b = w.end in
    omega arith) in
    let r : right_indexes (opts ++ more) p ≡ right_indexes opts p = range_before opts more p.rights p.end w.second w.end in
    let e : said (opts ++ more) gs p f ≡ said opts gs p f =
    ap (λ z. cond p.is_number (number f.low.at) (node (games_of gs z) (games_of gs (right_indexes (opts ++ more) p)))) l
    ∙ ap (λ z. cond p.is_number (number f.low.at) (node (games_of gs (left_indexes opts p)) (games_of gs z))) r in
    let n = length-append opts more in (
      e,
      record {
        lefts = rw l w.lefts;
        rights = rw r w.rights;
        first = w.first;
        second = w.second;
        end = (let a = w.end in omega arith);
        canonical = rw e w.canonical;
        is_summary = rw e w.is_summary;
        keys = w.keys;
      },
    )

pub said_longer : (opts more : List ℕ) (gs : List Game) (ps : List (Entry × Summary)) → AreWritten opts gs ps
    → (said_by (opts ++ more) gs ps ≡ said_by opts gs ps) × AreWritten (opts ++ more) gs ps
said_longer opts more gs [] w = (refl, w)
said_longer opts more gs ((p, f) ∷ ps) w =
    let one = written_longer_entry opts more gs p f w.0 in
    let rest = said_longer opts more (gs ++ (said opts gs p f ∷ [])) ps w.1 in
    let e : gs ++ (said (opts ++ more) gs p f ∷ []) ≡ gs ++ (said opts gs p f ∷ []) = ap (λ z. gs ++ (z ∷ [])) one.0 in
    (ap (λ z. said_by (opts ++ more) z ps) e ∙ rest.0, (one.1, rw e rest.1))

-- ---- the entry that is added

pub record Adds (opts : List ℕ) (gs : List Game) (p : Entry) (f : Summary) (g : Game) : Type 0 where
  pub written : IsWritten opts gs p f
  pub says : said opts gs p f ≡ g

no_entries : (gs : List Game) → AreIndexes gs []
no_entries gs = λ k d h. absurd (omega arith)

pub adds_number : (opts : List ℕ) (gs : List Game) (p : Entry) (f : Summary) (x : Number) → p.is_number ≡ true → f.low.at ≡ x
    → p.lefts ≡ length opts → p.rights ≡ length opts → p.end ≡ length opts → IsSummary (number x) f
    → AreKeys f p.keys → Adds opts gs p f (number x)
adds_number opts gs p f x e at l r n summary keys =
    let says : said opts gs p f ≡ number x =
    ap (λ z. cond z (number f.low.at) (node (games_of gs (left_indexes opts p)) (games_of gs (right_indexes opts p)))) e
    ∙ ap number at in
    record {
      written = record {
        lefts = rw (range_none opts p.lefts p.rights (l ∙ sym r)) (no_entries gs);
        rights = rw (range_none opts p.rights p.end (r ∙ sym n)) (no_entries gs);
        first = omega arith;
        second = omega arith;
        end = omega arith;
        canonical = rw says tt;
        is_summary = rw says summary;
        keys = keys;
      };
      says = says;
    }

pub adds_game : (opts ls rs : List ℕ) (gs : List Game) (p : Entry) (f : Summary) → p.is_number ≡ false
    → p.lefts ≡ length opts → p.rights ≡ length (opts ++ ls) → p.end ≡ length ((opts ++ ls) ++ rs)
    → AreIndexes gs ls → AreIndexes gs rs → Canonical (node (games_of gs ls) (games_of gs rs))
    → IsSummary (node (games_of gs ls) (games_of gs rs)) f → AreKeys f p.keys
    → Adds ((opts ++ ls) ++ rs) gs p f (node (games_of gs ls) (games_of gs rs))
adds_game opts ls rs gs p f e l r n al ar canonical summary keys =
    let all = (opts ++ ls) ++ rs in
    let a = length-append opts ls in
    let b = length-append (opts ++ ls) rs in
    let left : left_indexes all p ≡ ls = ap (λ z. slice_range z p.lefts p.rights) (append_assoc opts ls rs)
    ∙ range_behind opts ls rs p.lefts p.rights l (omega arith) in
    let right : right_indexes all p ≡ rs = ap (λ z. slice_range ((opts ++ ls) ++ z) p.rights p.end) (sym (append-nil rs))
    ∙ range_behind (opts ++ ls) rs [] p.rights p.end r (omega arith) in
    let says : said all gs p f ≡ node (games_of gs ls) (games_of gs rs) =
    ap (λ z. cond z (number f.low.at) (node (games_of gs (left_indexes all p)) (games_of gs (right_indexes all p)))) e
    ∙ ap (λ z. node (games_of gs z) (games_of gs (right_indexes all p))) left
    ∙ ap (λ z. node (games_of gs ls) (games_of gs z)) right in
    record {
      written = record {
        lefts = rw left al;
        rights = rw right ar;
        first = omega arith;
        second = omega arith;
        end = omega arith;
        canonical = rw says canonical;
        is_summary = rw says summary;
        keys = keys;
      };
      says = says;
    }

zip_one_more : (ps : List Entry) (fs : List Summary) (p : Entry) (f : Summary) → length fs ≡ length ps
    → zip (ps ++ (p ∷ [])) (fs ++ (f ∷ [])) ≡ zip ps fs ++ ((p, f) ∷ [])
zip_one_more [] [] p f o = refl
zip_one_more [] (g ∷ fs) p f o = absurd (omega arith)
zip_one_more (q ∷ ps) [] p f o = absurd (omega arith)
zip_one_more (q ∷ ps) (g ∷ fs) p f o = ap (λ z. (q, g) ∷ z) (zip_one_more ps fs p f (omega arith))

pub one_entry : (opts : List ℕ) (ps qs : List Entry) (fs hs : List Summary) (gs : List Game) (p : Entry) (f : Summary) (g : Game) → IsArena opts ps fs
    → said_by opts [] (zip ps fs) ≡ gs → Adds opts gs p f g → qs ≡ ps ++ (p ∷ []) → hs ≡ fs ++ (f ∷ []) → length gs < 2 ^ 32
    → IsArena opts qs hs × (said_by opts [] (zip qs hs) ≡ gs ++ (g ∷ []))
one_entry opts ps qs fs hs gs p f g b e a q h n =
    let all = zip ps fs in
    let z : zip qs hs ≡ all ++ ((p, f) ∷ []) = ap (λ k. zip k hs) q ∙ ap (zip (ps ++ (p ∷ []))) h ∙ zip_one_more ps fs p f b.one_each in
    let u = ap length q in
    let v = ap length h in
    let x = length-append ps (p ∷ []) in
    let y = length-append fs (f ∷ []) in
    let o = b.one_each in (
      record {
        one_each = omega arith;
        written = rw z (written_one_more opts [] all p f b.written (rw e a.written) (rw e n));
      },
      ap (said_by opts []) z ∙ said_one_more opts [] all p f ∙ ap (λ k. k ++ (said opts k p f ∷ [])) e ∙ ap (λ k. gs ++ (k ∷ [])) a.says,
    )

-- the options of entries to come change nothing
pub same_indexes : (opts more new : List ℕ) (ps : List Entry) (fs : List Summary) (gs : List Game) → new ≡ opts ++ more → IsArena opts ps fs
    → said_by opts [] (zip ps fs) ≡ gs → IsArena new ps fs × (said_by new [] (zip ps fs) ≡ gs)
same_indexes opts more new ps fs gs n b e =
    let l = said_longer opts more [] (zip ps fs) b.written in
    (record { one_each = b.one_each; written = rw n l.1 }, ap (λ z. said_by z [] (zip ps fs)) n ∙ l.0 ∙ e)
