-- Names as terms of the grammar, and what they mean: nimbers and arrows.
use Rattle.std.proofs.Common.{◌≡◌, refl, ℕ, ◌^◌, ◌<◌, ◌≤◌, inl, inr, List, ◌++◌, Bool, true, false, cond, Some, None}
use Rattle.cg_dyadic.specs.Exact.{number_text}
use Rattle.cg_dyadic.specs.Number.{InRange, Number}
use Rattle.cg_form.specs.Game.{Game}
use Rattle.cg_form.specs.Game as tree
use Rattle.cg_form.specs.Order.{Equal}
use Rattle.cg_form.specs.Sum.{sum}
use Rattle.cg_form.proofs.Preorder.{equal_refl, equal_trans, equal_back}
use Rattle.cg_query.specs.declared.format.Format.TheVariants as formats
use Rattle.cg_grammar.specs.Grammar as grammar
use Rattle.cg_grammar.specs.Grammar.{special}
use Rattle.cg_query.specs.Tree.{Tree, nimber, ups}
use Rattle.cg_reading.proofs.Spelled.{made_is, then_is}
use Rattle.cg_grammar.proofs.WrittenTokens.{arrow_of}
use Rattle.cg_grammar.specs.Values.{clean}
use Rattle.cg_names.specs.Meaning.{PositionForms, meaning}
use Rattle.cg_names.specs.Named.{nimber_form, nimbers_below, star_form, ups_form, ups_of}
use Rattle.cg_names.specs.NamedForms.{arrows_text, base_text, star_text}
use Rattle.cg_names.proofs.StarredUps.{ups-plus_star}
use Rattle.cg_form.proofs.EqualGames.{equal_assoc}
use Rattle.cg_nimbers.proofs.IntegerMultiples.{sum_second}
use Rattle.cg_names.proofs.Tokens.{other_append, star_is, ups_are, ups_other}
use Rattle.cg_names.proofs.Terms.{alone, arrows_tail, base_gone, base_there, joined, nim_tail, number_other, number_term}
use Rattle.cg_names.proofs.Terms.{number_tree, optional_nim, starred_text, starred_tree, tree-number, zero_or_not, Reading}

pub star-reads : (k : ℕ) (x : Number) (n : ℕ) (g : Game) → InRange x → n < 10 ^ 30
    → Equal g (sum (tree.number x) (nimber_form n)) → Reading k g (base_text x ++ star_text n)
unfolding meaning
star-reads k x n g r l e = elim (zero_or_not x) [
  | inl z ↦
      rw (base_gone x z) (record {
        tree = nimber n;
        is = λ i. inr (inr (inr (inl (made_is (nimber n) (star_is i n l)))));
        means = λ forms. equal_back g (nimber_form n) (alone x (nimber_form n) (nimber_form n) g z e (equal_refl (nimber_form n)));
        other = refl;
      })
  | inr z ↦
      rw (base_there x z) (record {
        tree = joined (number_tree x) (None, Some (nimber n));
        is = λ i. number_term (grammar.special formats.One k) i x (None, Some (nimber n)) (star_text n) r (nim_tail n l);
        means = λ forms. rw (tree-number forms x) (equal_back g (sum (tree.number x) (nimber_form n)) e);
        other = other_append (number_text x) (star_text n) (number_other x r);
      })
]

-- ---- arrows

nimber_one : nimber_form 1 ≡ star_form
unfolding nimber_form nimbers_below
nimber_one = refl

-- arrows, and * behind them
abbrev chain : Bool → Bool → ℕ → Game
chain down starred n = cond starred (sum (ups_form down n) (nimber_form 1)) (ups_form down n)

chain_means : (down starred : Bool) (n : ℕ) → Equal (chain down starred n) (ups_of down starred n)
chain_means down false n = equal_refl (ups_of down false n)
chain_means down true n =
    rw nimber_one (ups-plus_star down n)

alone_tree : Bool → Bool → ℕ → Tree
alone_tree down starred n = joined (ups down n) (None, starred_tree starred)

alone_means : (forms : PositionForms) (down starred : Bool) (n : ℕ)
    → meaning forms (alone_tree down starred n) ≡ chain down starred n
unfolding meaning alone_tree
alone_means forms down false n = refl
alone_means forms down true n = refl

alone_is : (k i : ℕ) (down starred : Bool) (n : ℕ) → 1 ≤ n → n < 10 ^ 30
    → grammar.term (grammar.special formats.One k) i (clean (alone_tree down starred n))
    (arrows_text (arrow_of down) n ++ starred_text starred)
unfolding alone_tree
alone_is k i down starred n s l = inr (inr (inl (made_is (ups down n, starred_tree starred)
    (then_is (arrows_text (arrow_of down) n) (starred_text starred) (ups_are i down n s l) (optional_nim _ starred)))))

behind_means : (forms : PositionForms) (x : Number) (down starred : Bool) (n : ℕ)
    → Equal (meaning forms (joined (number_tree x) (Some (ups down n), starred_tree starred)))
    (sum (tree.number x) (chain down starred n))
unfolding meaning
behind_means forms x down false n =
    rw (tree-number forms x) (equal_refl (sum (tree.number x) (ups_form down n)))
behind_means forms x down true n =
    rw (tree-number forms x) (equal_assoc (tree.number x) (ups_form down n) (nimber_form 1))

pub arrows-read : (k : ℕ) (down starred : Bool) (x : Number) (n : ℕ) (g : Game) → InRange x → 1 ≤ n → n < 10 ^ 30
    → Equal g (sum (tree.number x) (ups_of down starred n))
    → Reading k g (base_text x ++ (arrows_text (arrow_of down) n ++ starred_text starred))
arrows-read k down starred x n g r s l e =
    let text : List ℕ = arrows_text (arrow_of down) n ++ starred_text starred in
    let U : Game = ups_of down starred n in
    let C : Game = chain down starred n in
    elim (zero_or_not x) [
      | inl z ↦
          rw (base_gone x z) (record {
            tree = alone_tree down starred n;
            is = λ i. alone_is k i down starred n s l;
            means = λ forms. rw (alone_means forms down starred n) (equal_back g C
                (alone x U C g z e (equal_back C U (chain_means down starred n))));
            other = other_append (arrows_text (arrow_of down) n) (starred_text starred) (ups_other down n);
          })
      | inr z ↦
          let t : Tree = joined (number_tree x) (Some (ups down n), starred_tree starred) in
          rw (base_there x z) (record {
            tree = t;
            is = λ i. number_term (grammar.special formats.One k) i x (Some (ups down n), starred_tree starred) text r
                (arrows_tail down starred n s l);
            means = λ forms. equal_trans (meaning forms t) (sum (tree.number x) C) g (behind_means forms x down starred n)
                (equal_trans (sum (tree.number x) C) (sum (tree.number x) U) g
                (sum_second C U (tree.number x) (chain_means down starred n))
                (equal_back g (sum (tree.number x) U) e));
            other = other_append (number_text x) text (number_other x r);
          })
    ]
