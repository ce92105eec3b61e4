-- Operands that begin with a word, as the grammar has them and as they are read.
use Rattle.std.proofs.Common.{◌≡◌, ℕ, ◌+◌, inl, inr, Bool, true, false, List, length, refl, ap, subst}
use Rattle.std.specs.Prelude.{codes}
use Rattle.cg_reading.specs.Pieces.{Piece, Or, Word}
use Rattle.cg_reading.specs.Words.{Among}
use Rattle.cg_reading.proofs.Same.{Same, same_self, or_same}
use Rattle.cg_grammar.specs.Found.{Found}
use Rattle.cg_grammar.specs.OperandReading.{Named, Of_tiny, Of_one_text, Of_two_texts, Of_octal, named_words}
use Rattle.cg_grammar.specs.Grammar as s
use Rattle.cg_query.specs.declared.kind.GameKind.{GameKind}
use Rattle.cg_query.specs.declared.kind.GameKind.TheVariants.{Domineering, Clobber, Amazons, Toads, Strip, Hackenbush, Col, Snort}
use Rattle.cg_grammar.proofs.Factored as g
use Rattle.cg_reading.proofs.Spelled.{then_as, made_as}

-- tiny, boards and octal games, as the grammar has them
abbrev pub named : Piece Found
named = Or s.tiny_piece (Or s.board s.octal_piece)

tiny_word : (i : ℕ) (miny : Bool) (x : List ℕ) → Or (Word (codes "Tiny") false) (Word (codes "Miny") true) i miny x → Among named_words i (Of_tiny miny) x
tiny_word i miny x (inl w) = inl (ap Of_tiny w.0, w.1)
tiny_word i miny x (inr w) = inr (inl (ap Of_tiny w.0, w.1))

one_word : (i : ℕ) (kind : GameKind) (x : List ℕ) → s.name_of_one i kind x → Among named_words i (Of_one_text kind) x
one_word i kind x (inl w) = inr (inr (inl (ap Of_one_text w.0, w.1)))
one_word i kind x (inr (inl w)) = inr (inr (inr (inl (ap Of_one_text w.0, w.1))))
one_word i kind x (inr (inr (inl w))) = inr (inr (inr (inr (inl (ap Of_one_text w.0, w.1)))))
one_word i kind x (inr (inr (inr (inl w)))) = inr (inr (inr (inr (inr (inl (ap Of_one_text w.0, w.1))))))
one_word i kind x (inr (inr (inr (inr w)))) = inr (inr (inr (inr (inr (inr (inl (ap Of_one_text w.0, w.1)))))))

two_word : (i : ℕ) (kind : GameKind) (x : List ℕ) → s.name_of_two i kind x → Among named_words i (Of_two_texts kind) x
two_word i kind x (inl w) = inr (inr (inr (inr (inr (inr (inr (inl (ap Of_two_texts w.0, w.1))))))))
two_word i kind x (inr (inl w)) = inr (inr (inr (inr (inr (inr (inr (inr (inl (ap Of_two_texts w.0, w.1)))))))))
two_word i kind x (inr (inr w)) = inr (inr (inr (inr (inr (inr (inr (inr (inr (inl (ap Of_two_texts w.0, w.1))))))))))

to_named : (i : ℕ) (a : Found) (text : List ℕ) → named i a text → g.named i a text
to_named i a text (inl m) = record { told = Of_tiny m.made_of.0; before = m.is.before; behind = m.is.behind; first = tiny_word i m.made_of.0 m.is.before m.is.first; second = made_as m.made_of.1 m.is.second m.same; spelled = m.is.spelled }
to_named i a text (inr (inl (inl m))) = record { told = Of_one_text m.made_of.0; before = m.is.before; behind = m.is.behind; first = one_word i m.made_of.0 m.is.before m.is.first; second = made_as m.made_of.1 m.is.second m.same; spelled = m.is.spelled }
to_named i a text (inr (inl (inr m))) = record { told = Of_two_texts m.made_of.0; before = m.is.before; behind = m.is.behind; first = two_word i m.made_of.0 m.is.before m.is.first; second = made_as m.made_of.1 m.is.second m.same; spelled = m.is.spelled }
to_named i a text (inr (inr m)) = record { told = Of_octal; before = m.is.before; behind = m.is.behind; first = inr (inr (inr (inr (inr (inr (inr (inr (inr (inr (inl (refl, m.is.first.1))))))))))); second = made_as m.made_of.1 m.is.second m.same; spelled = m.is.spelled }

module _ (i : ℕ) (a : Found) (text : List ℕ) (t : g.named i a text) where
  tells : (n : Named) → t.told ≡ n → g.behind_named n (i + length t.before) a t.behind
  tells n e = subst (λ (z : Named). g.behind_named z (i + length t.before) a t.behind) e t.second

  from_tiny : (miny : Bool) → Or (Word (codes "Tiny") false) (Word (codes "Miny") true) i miny t.before → t.told ≡ Of_tiny miny → named i a text
  from_tiny miny w e =
      let m = tells (Of_tiny miny) e in
      inl (made_as (miny, m.made_of) (then_as t.before t.behind w m.is t.spelled) m.same)

  from_one : (kind : GameKind) → s.name_of_one i kind t.before → t.told ≡ Of_one_text kind → named i a text
  from_one kind w e =
      let m = tells (Of_one_text kind) e in
      inr (inl (inl (made_as (kind, m.made_of) (then_as t.before t.behind w m.is t.spelled) m.same)))

  from_two : (kind : GameKind) → s.name_of_two i kind t.before → t.told ≡ Of_two_texts kind → named i a text
  from_two kind w e =
      let m = tells (Of_two_texts kind) e in
      inr (inl (inr (made_as (kind, m.made_of) (then_as t.before t.behind w m.is t.spelled) m.same)))

  from_octal : t.before ≡ codes "Octal" → t.told ≡ Of_octal → named i a text
  from_octal w e =
      let m = tells Of_octal e in
      inr (inr (made_as (tt {0}, m.made_of) (then_as t.before t.behind (refl, w) m.is t.spelled) m.same))

  from_named : Among named_words i t.told t.before → named i a text
  from_named (inl w) = from_tiny false (inl (refl, w.1)) w.0
  from_named (inr (inl w)) = from_tiny true (inr (refl, w.1)) w.0
  from_named (inr (inr (inl w))) = from_one Domineering (inl (refl, w.1)) w.0
  from_named (inr (inr (inr (inl w)))) = from_one Clobber (inr (inl (refl, w.1))) w.0
  from_named (inr (inr (inr (inr (inl w))))) = from_one Amazons (inr (inr (inl (refl, w.1)))) w.0
  from_named (inr (inr (inr (inr (inr (inl w)))))) = from_one Toads (inr (inr (inr (inl (refl, w.1))))) w.0
  from_named (inr (inr (inr (inr (inr (inr (inl w))))))) = from_one Hackenbush (inr (inr (inr (inr (refl, w.1))))) w.0
  from_named (inr (inr (inr (inr (inr (inr (inr (inl w)))))))) = from_two Strip (inl (refl, w.1)) w.0
  from_named (inr (inr (inr (inr (inr (inr (inr (inr (inl w))))))))) = from_two Col (inr (inl (refl, w.1))) w.0
  from_named (inr (inr (inr (inr (inr (inr (inr (inr (inr (inl w)))))))))) = from_two Snort (inr (inr (refl, w.1))) w.0
  from_named (inr (inr (inr (inr (inr (inr (inr (inr (inr (inr (inl w))))))))))) = from_octal w.1 w.0
  from_named (inr (inr (inr (inr (inr (inr (inr (inr (inr (inr (inr w))))))))))) = elim w [ ]

pub plain_same : Same g.plain_special (Or s.switch_piece named)
plain_same = or_same (same_self s.switch_piece) (record { to = λ i a text t. from_named i a text t t.first; from = to_named })
