-- The laws of what keys mean. The facts state them, so they stand here.
use Rattle.std.proofs.Common.{◌≡◌, ℕ, ◌+◌, ◌*◌, ◌^◌, ◌==◌, Bool, if◌then◌else◌, inl, inr, Option, Some, None, List, [], ◌∷◌, true, arith, ap, sym, refl, ◌∙◌}
use Rattle.std.proofs.lemmas.Bool.Decides.{nat_tests, eqb_tells}
use Rattle.cg_dyadic.specs.Number.{ratio, num_of, exp_of, is_long}
use Rattle.cg_dyadic.proofs.Fractions.{ratio-lowest}
use Rattle.cg_form.specs.Game.{Game, number, options, node, lefts, rights}
use Rattle.cg_form.proofs.Among.{lefts-node, rights-node}
use Rattle.cg_cells.specs.declared.key.KeyParts.{KeyParts}
use Rattle.cg_cells.specs.declared.key.KeyParts.TheVariants as key
use Rattle.cg_cells.specs.Layout.{FieldsFit, word_of}
use Rattle.cg_cells.specs.Parts.{parts_of, named_in}
use Rattle.cg_cells.specs.Meaning.{Has, IsInjective, IsLawful}
use Rattle.cg_cells.proofs.Layouts.{kind_of, parts_word}
use Rattle.cg_nodes.specs.Meant.{Meant, form, list, contents, pair, board}
use Rattle.cg_nodes.specs.Spelled.{Map, list_at, contents_at, spelled, part_of, game_meaning}
use Rattle.cg_nodes.specs.LongKeysLaw.{IsLongWritten, chunks_back, narrow_key, sign_back}
use Rattle.cg_nodes.specs.Longs.{chunks_of, is_negative, num_in}
use Rattle.cg_nodes.specs.Inverse.{Inverse, inverse, list_in-back, list_in-none, contents_in-back, contents_in-none}

abbrev kind_meant : Meant → ℕ
kind_meant (form (number x)) = if is_long x then 7 else 1
kind_meant (form (options ls rs)) = 4
kind_meant (contents cs) = 2
kind_meant (list gs) = 3
kind_meant (pair g h) = 5
kind_meant (board n r c cs) = 6

inverse-kind : (p : KeyParts) (f : Map) (t : Meant) → FieldsFit p → Inverse p f t → kind_of p ≡ kind_meant t
inverse-kind (key.Number num exp) f t u h = sym (ap kind_meant h ∙ ap (λ (b : Bool). if b then 7 else 1) (narrow_key num exp u))
inverse-kind (key.Long first exp negative) f t u h =
    sym (ap kind_meant h.2 ∙ ap (λ (b : Bool). if b then 7 else 1) (h.4).fraction.long)
inverse-kind (key.Chunk c next) f t u h = sym (ap kind_meant h.1)
inverse-kind (key.Cons first rest) f t u h = sym (ap kind_meant h.2)
inverse-kind (key.Game l r) f t u h = sym (ap kind_meant h.2)
inverse-kind (key.Pair low high) f t u h = sym (ap kind_meant h.2)
inverse-kind (key.Board n r c first) f t u h = sym (ap kind_meant h.1)

list_at-same : (f : Map) → IsInjective f → (o p : Option ℕ) (gs : List Game) → list_at f o ≡ Some gs
    → list_at f p ≡ Some gs → o ≡ p
list_at-same f one None None gs a b = refl
list_at-same f one None (Some j) gs a b = absurd (list_in-none (f j) (b ∙ sym a))
list_at-same f one (Some i) None gs a b = absurd (list_in-none (f i) (a ∙ sym b))
list_at-same f one (Some i) (Some j) gs a b = ap Some (one i j (list gs) (list_in-back (f i) gs a) (list_in-back (f
    j) gs b))

contents_at-same : (f : Map) → IsInjective f → (o p : Option ℕ) (gs : List ℕ) → contents_at f o ≡ Some gs
    → contents_at f p ≡ Some gs → o ≡ p
contents_at-same f one None None gs a b = refl
contents_at-same f one None (Some j) gs a b = absurd (contents_in-none (f j) (b ∙ sym a))
contents_at-same f one (Some i) None gs a b = absurd (contents_in-none (f i) (a ∙ sym b))
contents_at-same f one (Some i) (Some j) gs a b = ap Some (one i j (contents gs) (contents_in-back (f i) gs a)
    (contents_in-back (f j) gs b))

module _ (s r : Bool) (e d low high less more : ℕ) (a : IsLongWritten s e low high) (b : IsLongWritten r d less more)
    (same : ratio (num_in s (low + 2 ^ 32 * high)) e ≡ ratio (num_in r (less + 2 ^ 32 * more)) d) where
  same_nums : num_in s (low + 2 ^ 32 * high) ≡ num_in r (less + 2 ^ 32 * more)
  same_nums = sym a.fraction.num ∙ (ap num_of same ∙ b.fraction.num)

  same_exps : e ≡ d
  same_exps = sym a.fraction.exp ∙ (ap exp_of same ∙ b.fraction.exp)

one_parts : (p q : KeyParts) (f : Map) (t : Meant) → FieldsFit p → FieldsFit q → IsInjective f → Inverse p f t
    → Inverse q f t → kind_of p ≡ kind_of q → p ≡ q
one_parts (key.Number n e) (key.Number m d) f t u v one a b k =
    let s : ratio n e ≡ ratio m d = cc in
    let x : n ≡ m = sym ((ratio-lowest n e u.2).0) ∙ (ap num_of s ∙ (ratio-lowest m d v.2).0) in
    let y : e ≡ d = sym ((ratio-lowest n e u.2).1) ∙ (ap exp_of s ∙ (ratio-lowest m d v.2).1) in
    cc
one_parts (key.Chunk c o) (key.Chunk d p) f t u v one a b k =
    let s : a.0 ≡ b.0 = cc in
    let x : c ≡ d = cc in
    let y : o ≡ p = contents_at-same f one o p b.0 (a.2 ∙ ap Some s) b.2 in
    cc
one_parts (key.Cons i o) (key.Cons j p) f t u v one a b k =
    let s : a.0 ≡ b.0 = cc in
    let r : a.1 ≡ b.1 = cc in
    let x : i ≡ j = one i j (form b.0) (a.3 ∙ ap (λ g. Some (form g)) s) b.3 in
    let y : o ≡ p = list_at-same f one o p b.1 (a.4 ∙ ap Some r) b.4 in
    cc
one_parts (key.Game l r) (key.Game m s) f t u v one a b k =
    let e : node a.0 a.1 ≡ node b.0 b.1 = cc in
    let x : a.0 ≡ b.0 = sym (lefts-node a.0 a.1) ∙ (ap lefts e ∙ lefts-node b.0 b.1) in
    let y : a.1 ≡ b.1 = sym (rights-node a.0 a.1) ∙ (ap rights e ∙ rights-node b.0 b.1) in
    let z : l ≡ m = list_at-same f one l m b.0 (a.3 ∙ ap Some x) b.3 in
    let w : r ≡ s = list_at-same f one r s b.1 (a.4 ∙ ap Some y) b.4 in
    cc
one_parts (key.Pair i j) (key.Pair k l) f t u v one a b e =
    let s : a.0 ≡ b.0 = cc in
    let r : a.1 ≡ b.1 = cc in
    let x : i ≡ k = one i k (form b.0) (a.3 ∙ ap (λ g. Some (form g)) s) b.3 in
    let y : j ≡ l = one j l (form b.1) (a.4 ∙ ap (λ g. Some (form g)) r) b.4 in
    cc
one_parts (key.Board n r c i) (key.Board m s d j) f t u v one a b k =
    let w : a.0 ≡ b.0 = cc in
    let x : i ≡ j = one i j (contents b.0) (a.2 ∙ ap (λ g. Some (contents g)) w) b.2 in
    cc
one_parts (key.Long i e s) (key.Long j d r) f t u v one a b k =
    let p : num_in s (a.0 + 2 ^ 32 * a.1) ≡ num_in r (b.0 + 2 ^ 32 * b.1) = same_nums s r e d a.0 a.1 b.0 b.1 a.4 b.4 (cc) in
    let y : e ≡ d = same_exps s r e d a.0 a.1 b.0 b.1 a.4 b.4 (cc) in
    let z : s ≡ r = sym (sign_back s (a.0 + 2 ^ 32 * a.1)) ∙ (ap is_negative p ∙ sign_back r (b.0 + 2 ^ 32 * b.1)) in
    let c : a.0 ∷ a.1 ∷ [] ≡ b.0 ∷ b.1 ∷ [] = sym (chunks_back s a.0 a.1 (a.4).low_fits (a.4).high_fits)
    ∙ (ap chunks_of p ∙ chunks_back r b.0 b.1 (b.4).low_fits (b.4).high_fits) in
    let x : i ≡ j = one i j (contents (b.0 ∷ b.1 ∷ [])) (a.3 ∙ ap (λ g. Some (contents g)) c) b.3 in
    cc
one_parts _ _ f t u v one a b k = absurd (omega arith)

one_word : (o q : Option KeyParts) (k l : ℕ) (f : Map) (t : Meant) → parts_of k ≡ o → parts_of l ≡ q
    → IsInjective f → spelled o f ≡ Some t → spelled q f ≡ Some t → k ≡ l
one_word None q k l f t a b one e d = cc
one_word (Some p) None k l f t a b one e d = cc
one_word (Some p) (Some q) k l f t a b one e d =
    let x = parts_word k p a in
    let y = parts_word l q b in
    let i = inverse p f t e in
    let j = inverse q f t d in
    let s : p ≡ q = one_parts p q f t x.fields y.fields one i j (inverse-kind p f t x.fields i ∙ sym (inverse-kind q f t y.fields j)) in
    sym x.word ∙ (ap word_of s ∙ y.word)

same_true : (a : ℕ) → (a == a) ≡ true
same_true a = grind (arith, nat_tests)

names_parts : (o : Option KeyParts) (f : Map) (t : Meant) → spelled o f ≡ Some t → (id : ℕ) → Has (named_in o) id
    → f id ≡ Some (part_of o t id)
names_parts None f t e id m = absurd m
names_parts (Some (key.Number n x)) f t e id m = absurd m
names_parts (Some (key.Chunk c None)) f t e id m = absurd m
names_parts (Some (key.Chunk c (Some i))) f t e id (inl m) =
    let h = inverse (key.Chunk c (Some i)) f t e in
    rw (h.1, ← m) (contents_in-back (f i) h.0 h.2)
names_parts (Some (key.Chunk c (Some i))) f t e id (inr m) = absurd m
names_parts (Some (key.Cons a o)) f t e id (inl m) =
    let h = inverse (key.Cons a o) f t e in
    rw (h.2, ← m, same_true a) h.3
names_parts (Some (key.Cons a None)) f t e id (inr m) = absurd m
names_parts (Some (key.Cons a (Some i))) f t e id (inr (inl m)) =
    let h = inverse (key.Cons a (Some i)) f t e in
    let l = list_in-back (f i) h.1 h.4 in
    rw (h.2, ← m) (elim (eqb_tells a i) [ inl s ↦ absurd (let d = sym h.3 ∙ (ap f s.1 ∙ l) in cc) | inr s ↦ rw s.0 l ])
names_parts (Some (key.Cons a (Some i))) f t e id (inr (inr m)) = absurd m
names_parts (Some (key.Game None None)) f t e id m = absurd m
names_parts (Some (key.Game None (Some r))) f t e id (inl m) =
    let h = inverse (key.Game None (Some r)) f t e in
    rw (h.2, ← m, rights-node h.0 h.1) (list_in-back (f r) h.1 h.4)
names_parts (Some (key.Game None (Some r))) f t e id (inr m) = absurd m
names_parts (Some (key.Game (Some l) o)) f t e id (inl m) =
    let h = inverse (key.Game (Some l) o) f t e in
    rw (h.2, ← m, same_true l, lefts-node h.0 h.1) (list_in-back (f l) h.0 h.3)
names_parts (Some (key.Game (Some l) None)) f t e id (inr m) = absurd m
names_parts (Some (key.Game (Some l) (Some r))) f t e id (inr (inl m)) =
    let h = inverse (key.Game (Some l) (Some r)) f t e in
    let x = list_in-back (f l) h.0 h.3 in
    let y = list_in-back (f r) h.1 h.4 in
    rw (h.2, ← m) (elim (eqb_tells l r) [
      | inl s ↦ rw (s.0, lefts-node h.0 h.1) (ap f (sym s.1)
          ∙ x)
      | inr s ↦ rw (s.0, rights-node h.0 h.1) y
    ])
names_parts (Some (key.Game (Some l) (Some r))) f t e id (inr (inr m)) = absurd m
names_parts (Some (key.Pair a b)) f t e id (inl m) =
    let h = inverse (key.Pair a b) f t e in
    rw (h.2, ← m, same_true a) h.3
names_parts (Some (key.Pair a b)) f t e id (inr (inl m)) =
    let h = inverse (key.Pair a b) f t e in
    rw (h.2, ← m) (elim (eqb_tells a b) [ inl s ↦ rw s.0 (ap f (sym s.1) ∙ h.3) | inr s ↦ rw s.0 h.4 ])
names_parts (Some (key.Pair a b)) f t e id (inr (inr m)) = absurd m
names_parts (Some (key.Board n r c i)) f t e id (inl m) =
    let h = inverse (key.Board n r c i) f t e in
    rw (h.1, ← m) h.2
names_parts (Some (key.Board n r c i)) f t e id (inr m) = absurd m
names_parts (Some (key.Long i x s)) f t e id (inl m) =
    let h = inverse (key.Long i x s) f t e in
    let n : num_of (ratio (num_in s (h.0 + 2 ^ 32 * h.1)) x) ≡ num_in s (h.0 + 2 ^ 32 * h.1) = (h.4).fraction.num in
    let c = chunks_back s h.0 h.1 (h.4).low_fits (h.4).high_fits in
    rw (h.2, ← m) (h.3 ∙ ap (λ g. Some (contents g)) (sym (ap chunks_of n ∙ c)))
names_parts (Some (key.Long i x s)) f t e id (inr m) = absurd m

reads_parts : (o : Option KeyParts) (f g : Map) (t : Meant) → spelled o f ≡ Some t → ((id : ℕ)
    → Has (named_in o) id → g id ≡ f id) → spelled o g ≡ Some t
reads_parts None f g t e a = e
reads_parts (Some (key.Number n x)) f g t e a = e
reads_parts (Some (key.Chunk c None)) f g t e a = e
reads_parts (Some (key.Chunk c (Some i))) f g t e a = rw (a i (inl refl)) e
reads_parts (Some (key.Cons i None)) f g t e a = rw (a i (inl refl)) e
reads_parts (Some (key.Cons i (Some j))) f g t e a = rw (a i (inl refl), a j (inr (inl refl))) e
reads_parts (Some (key.Game None None)) f g t e a = e
reads_parts (Some (key.Game None (Some r))) f g t e a = rw (a r (inl refl)) e
reads_parts (Some (key.Game (Some l) None)) f g t e a = rw (a l (inl refl)) e
reads_parts (Some (key.Game (Some l) (Some r))) f g t e a = rw (a l (inl refl), a r (inr (inl refl))) e
reads_parts (Some (key.Pair i j)) f g t e a = rw (a i (inl refl), a j (inr (inl refl))) e
reads_parts (Some (key.Board n r c i)) f g t e a = rw (a i (inl refl)) e
reads_parts (Some (key.Long i x s)) f g t e a = rw (a i (inl refl)) e

pub lawful : (raw : ℕ → ℕ → ℕ → List ℕ → Game) → IsLawful (game_meaning raw)
lawful raw = record {
  names_parts = λ key f t e id m. names_parts (parts_of key) f t e id m;
  reads_parts = λ key f g t e a. reads_parts (parts_of key) f g t e a;
  one_key = λ k l f t one a b. one_word (parts_of k) (parts_of l) k l f t refl refl one a b;
  home_below = λ key size h. omega arith;
}
