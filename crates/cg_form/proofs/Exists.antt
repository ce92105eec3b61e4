-- Every game has a canonical form.
use Rattle.std.proofs.Common.{◌≡◌, refl, ℕ, ◌<◌, arith, zero, suc, inl, inr, sym, List, [], ◌∷◌, ◌++◌, Bool, true, false}
use Rattle.cg_form.specs.Bypass.{Fine, Replaces}
use Rattle.cg_form.specs.Canonical.{IsCanonicalForm}
use Rattle.cg_form.specs.Game.{Among, Game, lefts, node, number, rights}
use Rattle.cg_form.specs.Known.{CopiesOf, EachLess}
use Rattle.cg_form.specs.Order.{Equal, Le}
use Rattle.cg_form.specs.Side.{AtMost, far, near}
use Rattle.cg_form.specs.Simple.{NoNumber}
use Rattle.cg_form.specs.Size.{size}
use Rattle.cg_form.proofs.Among.{among-append, among-append_left, among-append_right, carry, lefts-node, rights-node}
use Rattle.cg_form.proofs.Bypass.{covered_by, covered_equal, number_stays, replaced}
use Rattle.cg_form.proofs.Decide.{number-decide}
use Rattle.cg_form.proofs.Preorder.{equal_trans, le-cofinal, le_refl, not_le-left, not_le-right}
use Rattle.cg_form.proofs.Reduced.{all_canonical}
use Rattle.cg_form.proofs.Sides.{side_equal, side_trans}
use Rattle.cg_form.proofs.Size.{size-lefts, size-rights}

-- what stands in the place of an option is irreversible too, in a game equal to g
fine_stays : (s : Bool) (g k : Game) → Equal g k → NoNumber k
    → ((a b : Game) → Among a (near s k) → Among b (near s k) → AtMost s a b → a ≡ b)
    → (a : Game) → Among a (near s k) → Fine s g a → (b : Game) → Among b (far s a) → ¬ AtMost s b k
fine_stays s g k e never apart a m f b w l = elim f.way [
  | inl (x, q) ↦ number_stays s k never apart a x q m b w l
  | inr stays ↦ stays b w (side_trans s b k g l (side_equal s k g (e.1, e.0)))
]

-- the best of what stands in the place of g's options make its canonical form
pub settled : (g : Game) (l r : List Game) → NoNumber g → Replaces true g (lefts g) l → Replaces false g (rights g) r
    → IsCanonicalForm g (node l r)
settled g l r never pl pr =
    let k : Game = node l r in
    let lk : lefts k ≡ l = lefts-node l r in
    let rk : rights k ≡ r = rights-node l r in
    let il : (x : Game) → Among x (lefts k) → Fine true g x =
    λ x m. pl.fine x (pl.best.inside x (carry x (lefts k) l lk m)) in
    let ir : (x : Game) → Among x (rights k) → Fine false g x =
    λ x m. pr.fine x (pr.best.inside x (carry x (rights k) r rk m)) in
    let e : Equal g k = covered_equal g k
    (λ a m. covered_by true g pl.candidates (lefts k) a (λ x w. let (c, i, j) = pl.best.top x w in
    (c, carry c l (lefts k) (sym lk) i, j)) (pl.covered.each a m))
    (λ x m. (il x m).less)
    (λ b m. covered_by false g pr.candidates (rights k) b (λ x w. let (c, i, j) = pr.best.top x w in
    (c, carry c r (rights k) (sym rk) i, j)) (pr.covered.each b m))
    (λ x m. (ir x m).less) in
    let nk : NoNumber k = λ x q. never x (equal_trans (number x) k g q (e.1, e.0)) in
    let al : (a b : Game) → Among a (lefts k) → Among b (lefts k) → Le a b → a ≡ b =
    λ a b i j p. pl.best.apart a b (carry a (lefts k) l lk i) (carry b (lefts k) l lk j) p in
    let ar : (a b : Game) → Among a (rights k) → Among b (rights k) → Le b a → a ≡ b =
    λ a b i j p. pr.best.apart a b (carry a (rights k) r rk i) (carry b (rights k) r rk j) p in
    record {
      canonical = (
        record {
          left_undominated = λ a m d. d.other (al a d.by m d.option d.worse);
          right_undominated = λ a m d. d.other (ar a d.by m d.option d.worse);
          left_irreversible = λ a m v. fine_stays true g k e nk al a m (il a m) v.through v.answer v.back;
          right_irreversible = λ a m v. fine_stays false g k e nk ar a m (ir a m) v.through v.answer v.back;
          lefts_rise = rw lk pl.best.rises;
          rights_rise = rw rk pr.best.rises;
          no_number = nk;
        },
        all_canonical l (λ c m. (pl.fine c (pl.best.inside c m)).canonical),
        all_canonical r (λ c m. (pr.fine c (pr.best.inside c m)).canonical),
      );
      equal = (e.1, e.0);
    }

-- ---- canonical games in place of the options

pub record HasCopies (gs : List Game) : Type 0 where
  pub list : List Game
  pub are : CopiesOf gs list

pub copies_none : CopiesOf [] []
copies_none = record { canonical = λ c m. absurd m; there = λ a m. absurd m; back = λ c m. absurd m }

pub copies_more : (gs cs : List Game) (g c : Game) → CopiesOf gs cs → IsCanonicalForm g c
    → CopiesOf (gs ++ (g ∷ [])) (cs ++ (c ∷ []))
copies_more gs cs g c h f = record {
  canonical = λ x m. elim (among-append x cs (c ∷ []) m) [
    | inl k ↦ h.canonical x k
    | inr k ↦ elim k [
      | inl e ↦ rw e f.canonical
      | inr j ↦ absurd j
    ]
  ];
  there = λ x m. elim (among-append x gs (g ∷ []) m) [
    | inl k ↦ (let (y, i, e) = h.there x k in (y, among-append_left y cs (c ∷ []) i, e))
    | inr k ↦ elim k [
      | inl e ↦ (c, among-append_right c cs (c ∷ []) (inl refl), rw e f.equal)
      | inr j ↦ absurd j
    ]
  ];
  back = λ x m. elim (among-append x cs (c ∷ []) m) [
    | inl k ↦ (let (y, i, e) = h.back x k in (y, among-append_left y gs (g ∷ []) i, e))
    | inr k ↦ elim k [
      | inl e ↦ (g, among-append_right g gs (g ∷ []) (inl refl), rw e f.equal)
      | inr j ↦ absurd j
    ]
  ];
}

copies_before : (gs cs : List Game) (g c : Game) → CopiesOf gs cs → IsCanonicalForm g c → CopiesOf (g ∷ gs) (c ∷ cs)
copies_before gs cs g c h f = record {
  canonical = λ x m. elim m [
    | inl e ↦ rw e f.canonical
    | inr k ↦ h.canonical x k
  ];
  there = λ x m. elim m [
    | inl e ↦ (c, inl refl, rw e f.equal)
    | inr k ↦ (let (y, i, e) = h.there x k in (y, inr i, e))
  ];
  back = λ x m. elim m [
    | inl e ↦ (g, inl refl, rw e f.equal)
    | inr k ↦ (let (y, i, e) = h.back x k in (y, inr i, e))
  ];
}

copies_of : (gs : List Game) → ((a : Game) → Among a gs → (k : Game) × IsCanonicalForm a k) → HasCopies gs
copies_of [] f = record { list = []; are = copies_none }
copies_of (g ∷ gs) f =
    let (k, c) = f g (inl refl) in
    let r = copies_of gs (λ a m. f a (inr m)) in
    record { list = k ∷ r.list; are = copies_before gs r.list g k r.are c }

pub copies_equal : (ls rs cs ds : List Game) → CopiesOf ls cs → CopiesOf rs ds → Equal (node cs ds) (node ls rs)
copies_equal ls rs cs ds l r =
    let g : Game = node cs ds in let h : Game = node ls rs in (
      le-cofinal g h
          (λ a m. let (c, i, e) = l.back a (carry a (lefts g) cs (lefts-node cs ds) m) in
          (c, carry c ls (lefts h) (sym (lefts-node ls rs)) i, e.0))
          (λ b m. let (d, i, e) = r.there b (carry b (rights h) rs (rights-node ls rs) m) in
          (d, carry d ds (rights g) (sym (rights-node cs ds)) i, e.0)),
      le-cofinal h g
          (λ a m. let (c, i, e) = l.there a (carry a (lefts h) ls (lefts-node ls rs) m) in
          (c, carry c cs (lefts g) (sym (lefts-node cs ds)) i, e.1))
          (λ b m. let (d, i, e) = r.back b (carry b (rights g) ds (rights-node cs ds) m) in
          (d, carry d rs (rights h) (sym (rights-node ls rs)) i, e.1)),
    )

pub copies_no_number : (ls rs cs ds : List Game) → CopiesOf ls cs → CopiesOf rs ds → NoNumber (node ls rs)
    → NoNumber (node cs ds)
copies_no_number ls rs cs ds l r n x e =
    n x (equal_trans (number x) (node cs ds) (node ls rs) e (copies_equal ls rs cs ds l r))

-- the options of a node are never on the wrong side of it
pub lefts_less : (ls rs : List Game) → EachLess true (node ls rs) ls
lefts_less ls rs =
    record { each = λ c m. not_le-left (node ls rs) c (carry c ls (lefts (node ls rs)) (sym (lefts-node ls rs)) m) }

pub rights_less : (ls rs : List Game) → EachLess false (node ls rs) rs
rights_less ls rs =
    record {
      each =
          λ c m. not_le-right (node ls rs) c (carry c rs (rights (node ls rs)) (sym (rights-node ls rs)) m);
    }

pub node_settled : (ls rs l r : List Game) → NoNumber (node ls rs) → Replaces true (node ls rs) ls l
    → Replaces false (node ls rs) rs r → IsCanonicalForm (node ls rs) (node l r)
node_settled ls rs l r never pl pr =
    settled (node ls rs) l r never (rw (lefts-node ls rs) pl) (rw (rights-node ls rs) pr)

-- ---- the canonical form

listed : (g : Game) → Equal (node (lefts g) (rights g)) g
listed g = (
  le-cofinal (node (lefts g) (rights g)) g
      (λ a m. (a, carry a (lefts (node (lefts g) (rights g))) (lefts g) (lefts-node (lefts g) (rights g)) m, le_refl a))
      (λ b m. (
        b,
        carry b (rights g) (rights (node (lefts g) (rights g))) (sym (rights-node (lefts g) (rights g))) m,
        le_refl b,
      )),
  le-cofinal g (node (lefts g) (rights g))
      (λ a m. (
        a,
        carry a (lefts g) (lefts (node (lefts g) (rights g))) (sym (lefts-node (lefts g) (rights g))) m,
        le_refl a,
      ))
      (λ b m. (
        b,
        carry b (rights (node (lefts g) (rights g))) (rights g) (rights-node (lefts g) (rights g)) m,
        le_refl b,
      )),
)

form_of : (g : Game) → HasCopies (lefts g) → HasCopies (rights g) → NoNumber g → (k : Game) × IsCanonicalForm g k
form_of g l r never =
    let h : Game = node l.list r.list in
    let e : Equal h g =
    equal_trans h (node (lefts g) (rights g)) g (copies_equal (lefts g) (rights g) l.list r.list l.are r.are)
    (listed g) in
    let nh : NoNumber h = λ x q. never x (equal_trans (number x) h g q e) in
    let (bl, pl) = replaced true h l.list (record { each = l.are.canonical }) (lefts_less l.list r.list) in
    let (br, pr) = replaced false h r.list (record { each = r.are.canonical }) (rights_less l.list r.list) in
    let f = node_settled l.list r.list bl br nh pl pr in
    (node bl br, record { canonical = f.canonical; equal = equal_trans (node bl br) h g f.equal e })

canonical_exists_within : (n : ℕ) (g : Game) → size g < n → (k : Game) × IsCanonicalForm g k
canonical_exists_within zero g s = absurd (omega arith)
canonical_exists_within (suc n) g s = elim (number-decide g) [
  | inl (x, e) ↦ (number x, record { canonical = tt; equal = e })
  | inr never ↦ form_of g
      (copies_of (lefts g) (λ a m. let t = size-lefts g a m in canonical_exists_within n a (omega arith)))
      (copies_of (rights g) (λ b m. let t = size-rights g b m in canonical_exists_within n b (omega arith))) never
]

pub canonical_exists : (g : Game) → (k : Game) × IsCanonicalForm g k
canonical_exists g = canonical_exists_within (suc (size g)) g (omega arith)
