-- What is written reads: terms of one part.
use Rattle.std.proofs.Common.{◌≡◌, Option, refl, sym, ℕ, ◌+◌, ◌^◌, ◌<◌, inl, inr, List, [], ◌∷◌, ◌++◌, append-nil, length, Bool, true, false, cond, None}
use Rattle.std.specs.Prelude.{codes, decimal}
use Rattle.cg_reading.specs.Pieces.{Piece}
use Rattle.cg_reading.proofs.Sets.{no_class}
use Rattle.cg_grammar.specs.Found.{Found}
use Rattle.cg_grammar.specs.Grammar as grammar
use Rattle.cg_query.specs.Tree.{Tree, multiple, negative, nimber, number, ups}
use Rattle.cg_grammar.specs.Values.{Last, In_none, clean, times, whole, with_tail}
use Rattle.cg_grammar.specs.Written.{fraction_text, ups_text}
use Rattle.cg_grammar.proofs.WrittenTokens.{arrow_of, fraction_is, nim_is, ups_is}
use Rattle.cg_reading.proofs.Spelled.{byte_then, longest_none, made_is, no_bytes_then, then_is, then_none}
use Rattle.cg_reading.proofs.Texts.{digits_are}

pub expr_is : (s : Piece (Found × Last)) (i : ℕ) (t : Tree) (text : List ℕ) → grammar.term s i (clean t) text
    → grammar.expr s i (clean t) text
expr_is s i t text m = made_is (clean t, []) (then_none text m refl)

pub no_tail_is : (j : ℕ) → grammar.tail j (None, None) []
no_tail_is j = then_is [] [] (inr (refl, refl)) (inr (refl, refl))

pub special_tail_is : (s : Piece (Found × Last)) (i : ℕ) (t : Tree) (text : List ℕ) → s i (clean t, In_none) text
    → grammar.special_tail s i (clean t) text
special_tail_is s i t text m = made_is ((clean t, In_none), (None, None)) (longest_none text m (no_tail_is _))

pub special_is : (s : Piece (Found × Last)) (i : ℕ) (t : Tree) (text : List ℕ) → s i (clean t, In_none) text → grammar.term s i (clean t) text
special_is s i t text m = inr (inl (special_tail_is s i t text m))

-- a number, and what may stand behind it
pub counted_is : (s : Piece (Found × Last)) (i : ℕ) (below : Bool) (num den : ℕ) (v : Option Tree × Option Tree) (x y text : List ℕ)
    → grammar.number i (num, den) x → ((j : ℕ) → grammar.tail j v y) → text ≡ x ++ y
    → grammar.counted_tail s below i (with_tail (clean (number below num den)) v) text
counted_is s i below num den v x y text n t e = made_is (whole num den, v) (record {
  before = x;
  behind = y;
  first = inl (made_is (num, den) n);
  second = t (i + length x);
  ended = no_class y;
  spelled = e;
})

-- the same behind a minus
pub below_is : (s : Piece (Found × Last)) (i num den : ℕ) (v : Option Tree × Option Tree) (x y text : List ℕ)
    → ((j : ℕ) → grammar.number j (num, den) x) → ((j : ℕ) → grammar.tail j v y) → text ≡ x ++ y
    → grammar.term s i (with_tail (clean (number true num den)) v) (45 ∷ text)
below_is s i num den v x y text n t e = inl (inl (made_is (45, with_tail (clean (number true num den)) v)
    (byte_then 45 text refl (counted_is s (i + 1) true num den v x y text (n (i + 1)) t e))))

pub number_term : (s : Piece (Found × Last)) (i : ℕ) (below : Bool) (num den : ℕ) → num < 10 ^ 30 → den < 10 ^ 30
    → grammar.term s i (clean (number below num den)) (cond below (codes "-") [] ++ fraction_text num den)
number_term s i below num den l r = by below
  where
    by : (b : Bool) → grammar.term s i (clean (number b num den)) (cond b (codes "-") [] ++ fraction_text num den)
    by false = inl (inr (counted_is s i false num den (None, None) (fraction_text num den) [] (fraction_text num den) (fraction_is i num den l r) no_tail_is (sym (append-nil (fraction_text num den)))))
    by true = below_is s i num den (None, None) (fraction_text num den) [] (fraction_text num den) (λ j. fraction_is j num den l r) no_tail_is (sym (append-nil (fraction_text num den)))

pub ups_term : (s : Piece (Found × Last)) (i : ℕ) (down : Bool) (n : ℕ) → grammar.term s i (clean (ups down n)) (ups_text (arrow_of down) n)
ups_term s i down n = inr (inr (inl (made_is (ups down n, None) (then_none (ups_text (arrow_of down) n) (ups_is i down n) (inr (refl, refl))))))

pub nimber_term : (s : Piece (Found × Last)) (i n : ℕ) → n < 10 ^ 30 → grammar.term s i (clean (nimber n)) (42 ∷ decimal n)
nimber_term s i n l = inr (inr (inr (inl (made_is (nimber n) (nim_is i n l)))))

pub negative_term : (s : Piece (Found × Last)) (i : ℕ) (t : Tree) (text : List ℕ) → ((j : ℕ) → s j (clean t, In_none) text)
    → grammar.term s i (clean (negative t)) (45 ∷ text)
negative_term s i t text m = inr (inr (inr (inr (made_is (45, clean t) (byte_then 45 text refl
    (inr (made_is ([], clean t) (no_bytes_then text (inl (special_tail_is s _ t text (m _)))))))))))

pub multiple_term : (s : Piece (Found × Last)) (i n : ℕ) (t : Tree) (text : List ℕ) → n < 10 ^ 30 → ((j : ℕ) → s j (clean t, In_none) text)
    → grammar.term s i (clean (multiple n t)) (decimal n ++ (46 ∷ text))
multiple_term s i n t text l m = inl (inr (made_is (times n (clean t) In_none, (None, None)) (longest_none (decimal n ++ (46 ∷ text))
    (inr (made_is (n, (clean t, In_none)) (made_is (n, (46, (clean t, In_none)))
    (then_is (decimal n) (46 ∷ text) (digits_are i n l) (byte_then 46 text refl (inr (inr (m _))))))))
    (no_tail_is _))))
