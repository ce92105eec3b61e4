-- Parts by numbers, with what comes next after each.
use Rattle.std.proofs.Common.{◌≡◌, refl, ℕ, zero, suc, ◌-◌, ◌<◌, ◌≤◌, inl, inr, List, [], ◌∷◌, ◌++◌}
use Rattle.std.proofs.Common.{length, length-append, map, get_or, take, drop, append_assoc, ap, sym, ◌∙◌, subst, arith}
use Rattle.std.specs.Prelude.{All, IfOk, Result}
use Rattle.std.specs.List.{flat_map}
use Rattle.std.proofs.Math.Seq.{drop-append_seam}
use Rattle.std.proofs.lemmas.Grind.{flat_map-append}
use Rattle.std.proofs.lemmas.List.{length-map, map-append, take_all}
use Rattle.cg_moves.specs.declared.graph.Adjacency.{Adjacency}
use Rattle.cg_moves.specs.declared.player.Player.TheVariants.{Left, Right}
use Rattle.cg_moves.specs.Found.{SameSymbols}
use Rattle.cg_moves.specs.Grid.{Grid}
use Rattle.cg_moves.specs.Graph.{IsAt, IsNext, StandAt}
use Rattle.cg_moves.specs.Kept.{kept}
use Rattle.cg_moves.specs.Linked.{AreLinked, AreUncut, CanLink, IsLinked, IsWider, MayLink, NumberedAs}
use Rattle.cg_moves.specs.Plays.{IsPlay}
use Rattle.cg_moves.specs.Rules.{GameRules, In, boards_after, followers}
use Rattle.cg_moves.specs.Walking.{AreFound, Walk, parts, play}
use Rattle.cg_moves.proofs.Bounds.{follower-has}
use Rattle.cg_moves.proofs.Broad.{IsAmong, among-same_symbols, found-among, found-has, found-kept, found-none, kept-grows}
use Rattle.cg_moves.proofs.Broad.{wider-kept}
use Rattle.cg_moves.proofs.Carried.{if_ok}
use Rattle.cg_moves.proofs.Listed.{next-more}
use Rattle.cg_moves.proofs.Members.{carry, in-flat_map, in_equal, in_one}
use Rattle.cg_moves.proofs.Numberings.{numbered-more}
use Rattle.cg_moves.proofs.OnWalk.{next-parts}
use Rattle.cg_form.proofs.Firsts.{in-append_left, in-append_right}
use Rattle.cg_moves.proofs.PlaceLemmas.{at-append, at-in, stand-wider}
use Rattle.cg_moves.proofs.PlayLemmas.{part-uncut, plays}
use Rattle.cg_moves.proofs.PlayOrder.{all-each, reached-next, start-reached}

-- ---- what comes next after the first of some boards

module _ (r : GameRules) (cut : Grid → List Grid) where
  module _ (counts numbers cs ks : List ℕ) (found wider : List Grid) (w : IsWider found wider) where
    link-more : (p : Grid) (n : Adjacency) → IsNext r cut counts numbers found p n → IsNext r cut (counts ++ cs) (numbers ++ ks) wider p n
    link-more p n h = let m = next-more r cut counts numbers cs ks found p n h in record {
      counted = m.counted;
      inside = m.inside;
      places = stand-wider found wider w _ _ m.places;
    }

    pub links-more : (ps more : List Grid) (ns : List Adjacency) → AreLinked r cut counts numbers found ps ns
        → AreLinked r cut (counts ++ cs) (numbers ++ ks) wider (ps ++ more) ns
    links-more ps more [] h = tt
    links-more [] more (n ∷ ns) h = absurd h
    links-more (p ∷ ps) more (n ∷ ns) h = (link-more p n h.0, links-more ps more ns h.1)

  module _ (counts numbers : List ℕ) (found : List Grid) where
    pub links-last : (ps : List Grid) (ns : List Adjacency) (p : Grid) (n : Adjacency) → AreLinked r cut counts numbers found ps ns
        → IsAt ps (length ns) p → IsNext r cut counts numbers found p n → AreLinked r cut counts numbers found ps (ns ++ (n ∷ []))
    links-last [] [] p n h at i = absurd at
    links-last (q ∷ ps) [] p n h at i = (rw at i, tt)
    links-last [] (m ∷ ns) p n h at i = absurd h
    links-last (q ∷ ps) (m ∷ ns) p n h at i = (h.0, links-last ps ns p n h.1 at i)

    pub links-at : (ps : List Grid) (ns : List Adjacency) (k : ℕ) (p : Grid) (n : Adjacency) → AreLinked r cut counts numbers found ps ns
        → IsAt ps k p → k < length ns → n ≡ get_or ns k n → IsNext r cut counts numbers found p n
    links-at ps [] k p n h at below e = absurd (omega arith)
    links-at [] (m ∷ ns) k p n h at below e = absurd h
    links-at (q ∷ ps) (m ∷ ns) zero p n h at below e = rw e (rw (← at) h.0)
    links-at (q ∷ ps) (m ∷ ns) (suc k) p n h at below e = links-at ps ns k p n h.1 at (omega arith) e

    pub links-some : (ps : List Grid) (ns : List Adjacency) (k : ℕ) (p : Grid) → AreLinked r cut counts numbers found ps ns
        → IsAt ps k p → k < length ns → (n : Adjacency) × IsNext r cut counts numbers found p n
    links-some ps [] k p h at below = absurd (omega arith)
    links-some [] (m ∷ ns) k p h at below = absurd h
    links-some (q ∷ ps) (m ∷ ns) zero p h at below = (m, rw (← at) h.0)
    links-some (q ∷ ps) (m ∷ ns) (suc k) p h at below = links-some ps ns k p h.1 at (omega arith)

pub at-below : (ps : List Grid) (n : ℕ) (p : Grid) → IsAt ps n p → n < length ps
at-below [] n p m = absurd m
at-below (x ∷ ps) zero p m = omega arith
at-below (x ∷ ps) (suc n) p m = let l = at-below ps n p m in omega arith

pub stand-in : (list : List Grid) (ns : List ℕ) (qs : List Grid) (q : Grid) → StandAt list ns qs → In q qs → In q list
stand-in list [] [] q h m = absurd m
stand-in list [] (p ∷ qs) q h m = absurd h
stand-in list (n ∷ ns) [] q h m = absurd m
stand-in list (n ∷ ns) (p ∷ qs) q h (inl e) = rw e (at-in list n p h.0)
stand-in list (n ∷ ns) (p ∷ qs) q h (inr m) = stand-in list ns qs q h.1 m

pub stand-below : (list : List Grid) (ns : List ℕ) (qs : List Grid) → StandAt list ns qs → All (λ n. n < length list) ns
stand-below list [] qs h k d below = absurd (omega arith)
stand-below list (n ∷ ns) [] h k d below = absurd h
stand-below list (n ∷ ns) (q ∷ qs) h zero d below = at-below list n q h.0
stand-below list (n ∷ ns) (q ∷ qs) h (suc k) d below = stand-below list ns qs h.1 k d (omega arith)

pub all-append : {X : Type 0} (P : X → Type 0) (xs ys : List X) → All P xs → All P ys → All P (xs ++ ys)
all-append P [] ys h k n d below = k n d below
all-append P (x ∷ xs) ys h k zero d below = h 0 d (omega arith)
all-append P (x ∷ xs) ys h k (suc n) d below =
    all-append P xs ys (λ m e low. h (suc m) e (omega arith)) k n d (omega arith)

pub wider-twice : (found mid end ps qs : List Grid) → mid ≡ kept found ps → end ≡ kept mid qs → IsWider found end
wider-twice found mid end ps qs e f n q m = rw f (wider-kept mid qs n q (rw e (wider-kept found ps n q m)))

pub links-fewer : (r : GameRules) (cut : Grid → List Grid) (counts numbers : List ℕ) (found ps : List Grid) (ns : List Adjacency)
    → AreLinked r cut counts numbers found ps ns → length ns ≤ length ps
links-fewer r cut counts numbers found ps [] h = omega arith
links-fewer r cut counts numbers found [] (n ∷ ns) h = absurd h
links-fewer r cut counts numbers found (p ∷ ps) (n ∷ ns) h =
    let l = links-fewer r cut counts numbers found ps ns h.1 in omega arith

pub number-at : (found : List Grid) (nexts : List Adjacency) (n : ℕ) (p q : Grid) → n ≡ length nexts → p ≡ q → IsAt found n q
    → IsAt found (length nexts) p
number-at found nexts n p q e same at = rw (← e) (rw same at)

-- ---- where nothing is listed yet

pub linked-none : (w : Walk) (found : List Grid) (nexts : List Adjacency) (counts numbers : List ℕ) → AreFound w found → nexts ≡ []
    → counts ≡ [] → numbers ≡ [] → IsLinked w found nexts counts numbers
linked-none w found nexts counts numbers among n c k = record {
  among = among;
  linked = rw n tt;
  inside = rw k (λ i d below. absurd (omega arith));
}

pub starts-found : (w : Walk) → CanLink w → (none found starts : List Grid) → none ≡ [] → found ≡ kept none starts → starts ≡ w.starts
    → AreFound w found
starts-found w can none found starts empty e same =
    found-kept w none (found-none w none empty) starts found e
    (λ q m. start-reached (play w) (plays w.game can.lawful w.edges can.may) w.starts can.starts q (carry q starts w.starts same m))

-- ---- one board more is listed

module _ (w : Walk) (can : CanLink w) (found : List Grid) (nexts : List Adjacency) (counts numbers : List ℕ)
    (x : IsLinked w found nexts counts numbers) (p : Grid) (at : IsAt found (length nexts) p) where
  pub link-lawful : IsPlay (play w)
  link-lawful = plays w.game can.lawful w.edges can.may

  all-uncut : (mid : List Grid) → AreFound w mid → AreUncut (parts w) mid
  all-uncut mid y q m =
      let (s, k, l) = in-flat_map (play w).all q w.starts (found-among w mid y q m) in
      all-each (play w) link-lawful (λ z. parts w z ≡ z ∷ []) (λ b z has own i.
      let (f, j, part) = in-flat_map (parts w) z (followers w.game b) (carry z _ _ (next-parts w.game w.edges b) i) in
      part-uncut w.game can.lawful w.edges can.may f z (follower-has w.game can.lawful.moves b f has j) part)
      (suc ((play w).measure s)) s (omega arith) (can.starts.known s k).1 (can.uncut s k) q l

  all-same : (mid : List Grid) → AreFound w mid → SameSymbols (mid ++ (p ∷ []))
  all-same mid y = among-same_symbols w mid y link-lawful can.starts (p ∷ [])
      (λ q m. in_equal q p _ (in_one q p m) (found-among w found x.among p (at-in found (length nexts) p at)))

  -- what moves on the board lead to may be linked, where these are found
  pub may-link : (mid : List Grid) → AreFound w mid → MayLink w.game w.edges mid p
  may-link mid y = record {
    lawful = can.lawful;
    may = can.may;
    has = found-has w found x.among link-lawful can.starts p (at-in found (length nexts) p at);
    uncut = all-uncut mid y;
    same_symbols = all-same mid y;
  }

  abbrev pub lefts : List Grid
  lefts = flat_map (parts w) (boards_after w.game Left p)

  abbrev pub rights : List Grid
  rights = flat_map (parts w) (boards_after w.game Right p)

  abbrev counted : Grid → ℕ
  counted q = length (parts w q)

  both : flat_map (parts w) (followers w.game p) ≡ lefts ++ rights
  both = flat_map-append (parts w) (boards_after w.game Left p) (boards_after w.game Right p)

  both-among : (q : Grid) → In q (lefts ++ rights) → IsAmong w q
  both-among q m = reached-next (play w) link-lawful w.starts can.starts p q
      (found-among w found x.among p (at-in found (length nexts) p at)) (carry q _ _ (sym (next-parts w.game w.edges p ∙ both)) m)

  pub lefts-among : (q : Grid) → In q lefts → IsAmong w q
  lefts-among q m = both-among q (in-append_left q lefts rights m)

  pub rights-among : (q : Grid) → In q rights → IsAmong w q
  rights-among q m = both-among q (in-append_right q lefts rights m)

  module _ (mid end : List Grid) (n1 n2 c1 c2 : List ℕ) (next : Adjacency) (e1 : mid ≡ kept found lefts) (e2 : end ≡ kept mid rights)
      (k1 : NumberedAs mid numbers n1 lefts) (k2 : NumberedAs end n1 n2 rights)
      (g1 : c1 ≡ counts ++ map counted (boards_after w.game Left p)) (g2 : c2 ≡ c1 ++ map counted (boards_after w.game Right p))
      (count : next.lefts ≡ length c1 - length counts) (first : next.first_count ≡ length counts)
      (moves : next.moves ≡ length c2 - length counts) (begin : next.first_place ≡ length numbers)
      (size : next.parts ≡ length n2 - length numbers) where
    first-wider : IsWider found mid
    first-wider n q m = rw e1 (wider-kept found lefts n q m)

    second-wider : IsWider mid end
    second-wider n q m = rw e2 (wider-kept mid rights n q m)

    pub linked-wider : IsWider found end
    linked-wider n q m = second-wider n q (first-wider n q m)

    grown : (more : List Grid) × (end ≡ found ++ more)
    grown =
        let (some, e) = kept-grows found lefts in
        let (others, f) = kept-grows mid rights in
        (some ++ others, e2 ∙ f ∙ ap (λ z. z ++ others) (e1 ∙ e) ∙ append_assoc found some others)

    counts-are : c2 ≡ counts ++ map counted (followers w.game p)
    counts-are =
        let l = map counted (boards_after w.game Left p) in
        let r = map counted (boards_after w.game Right p) in
        g2 ∙ ap (λ z. z ++ r) g1 ∙ append_assoc counts l r
        ∙ ap (λ z. counts ++ z) (sym (map-append counted (boards_after w.game Left p) (boards_after w.game Right p)))

    numbers-are : NumberedAs end numbers n2 (lefts ++ rights)
    numbers-are = numbered-more mid end numbers n1 n2 lefts rights second-wider k1 k2

    is-next : IsNext w.game (parts w) c2 n2 end p next
    is-next =
        let (some, e, stand) = numbers-are in
        let m = map counted (followers w.game p) in
        let a = length-append counts m ∙ refl in
        let b = length-append numbers some in
        let c = length-append counts (map counted (boards_after w.game Left p)) in
        let d = length-map (boards_after w.game Left p) counted in
        let f = ap length counts-are in
        let g = ap length e in
        let h = ap length g1 in
        record {
          counted = record {
            lefts = omega (arith, c, d, h, count);
            inside = omega (arith, first, moves, a, f);
            counts = ap (take next.moves) (ap (λ z. drop z c2) first ∙ ap (drop (length counts)) counts-are ∙ drop-append_seam counts m)
                ∙ take_all next.moves m (omega (arith, a, f, moves));
          };
          inside = omega (arith, begin, size, b, g);
          places = rw (ap (take next.parts) (ap (λ z. drop z n2) begin ∙ ap (drop (length numbers)) e ∙ drop-append_seam numbers some)
              ∙ take_all next.parts some (omega (arith, b, g, size))) (rw both stand);
        }

    pub linked-done : IsLinked w end (nexts ++ (next ∷ [])) c2 n2
    linked-done =
        let (some, e, stand) = numbers-are in
        let (more, g) = grown in
        let m = map counted (followers w.game p) in
        let r = w.game in
        let cut = parts w in
        let wide : IsWider found (found ++ more) = at-append found more in
        let base : AreLinked r cut (counts ++ m) (numbers ++ some) (found ++ more) (found ++ more) nexts =
        links-more r cut counts numbers m some found (found ++ more) wide found more nexts x.linked in
        let P : List Grid → Type 0 = λ z. AreLinked r cut (counts ++ m) (numbers ++ some) z z nexts in
        let Q : List ℕ → Type 0 = λ z. AreLinked r cut (counts ++ m) z end end nexts in
        let S : List ℕ → Type 0 = λ z. AreLinked r cut z n2 end end nexts in
        let links : AreLinked r cut c2 n2 end end nexts = subst S (sym counts-are) (subst Q (sym e) (subst P (sym g) base)) in
        let long = ap length g ∙ length-append found more in
        record {
          among = found-kept w mid (found-kept w found x.among lefts mid e1 lefts-among) rights end e2 rights-among;
          linked = links-last w.game (parts w) c2 n2 end end nexts p next links (linked-wider (length nexts) p at) is-next;
          inside = rw e (all-append (λ n. n < length end) numbers some
              (λ k d below. let i = x.inside k d below in omega (arith, i, long)) (stand-below end some (lefts ++ rights) stand));
        }

    pub linking-done : {A E : Type 0} (pushed before : List Adjacency) (result : Result A E)
        → before ≡ nexts → IfOk result (λ _. pushed ≡ before ++ (next ∷ [])) → IfOk result (λ _. IsLinked w end pushed c2 n2)
    linking-done {A} {E} pushed before result same put =
        let P : List Adjacency → Type 0 = λ z. IsLinked w end z c2 n2 in
        if_ok (λ _. pushed ≡ before ++ (next ∷ [])) (λ _. P pushed) result
        (λ _ e. subst P (sym (e ∙ ap (λ z. z ++ (next ∷ [])) same)) linked-done) put
