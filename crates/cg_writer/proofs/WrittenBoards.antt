-- What is written reads: boards and octal games.
use Rattle.std.proofs.Common.{refl, ℕ, ◌^◌, ◌<◌, inl, inr, List, [], ◌∷◌, ◌++◌}
use Rattle.std.specs.Prelude.{codes, decimal}
use Rattle.cg_reading.specs.Pieces.{Piece, Then}
use Rattle.cg_reading.specs.Tokens.{blanks, digits}
use Rattle.cg_reading.proofs.Spelled.{byte_then, made_is, no_bytes_then, then_is}
use Rattle.cg_reading.proofs.Texts.{digits_are}
use Rattle.cg_grammar.specs.Grammar as grammar
use Rattle.cg_query.specs.Tree.{game, octal}
use Rattle.cg_grammar.specs.Values.{clean, one_text, two_texts}
use Rattle.cg_grammar.specs.Written.{AreTexts, IsPrintable, kind_text, quoted, texts_of_game, two_quoted}
use Rattle.cg_query.specs.declared.kind.GameKind.{GameKind}
use Rattle.cg_query.specs.declared.kind.GameKind.TheVariants.{Domineering, Clobber, Amazons, Toads, Strip, Hackenbush, Col, Snort}
use Rattle.cg_grammar.proofs.WrittenTokens.{enclosed_is, quoted_is}

-- what stands between parentheses, with no blank before them
spaced_is : {A : Type 0} (R : Piece A) (i : ℕ) (a : A) (text : List ℕ) → ((j : ℕ) → R j a text)
    → Then blanks (grammar.enclosed R) i ([], a) (40 ∷ (text ++ (41 ∷ [])))
spaced_is R i a text m = no_bytes_then (40 ∷ (text ++ (41 ∷ []))) (enclosed_is R _ a text m)

-- a string and a piece, with a comma between them
string_and_is : {A : Type 0} (R : Piece A) (j : ℕ) (string : List ℕ) (a : A) (text : List ℕ) → IsPrintable string → ((k : ℕ) → R k a text)
    → grammar.string_and R j (string, a) (quoted string ++ (44 ∷ text))
string_and_is R j string a text p m = made_is (string, ([], (44, ([], a)))) (then_is (quoted string) (44 ∷ text) (quoted_is j string p)
    (no_bytes_then (44 ∷ text) (byte_then 44 text refl (no_bytes_then text (m _)))))

one_is : (i : ℕ) (kind : GameKind) (text : List ℕ) → ((j : ℕ) → grammar.name_of_one j kind (kind_text kind)) → IsPrintable text
    → grammar.board i (clean (one_text kind text)) (kind_text kind ++ (40 ∷ (quoted text ++ (41 ∷ []))))
one_is i kind text m p = inl (made_is (kind, ([], text)) (then_is (kind_text kind) (40 ∷ (quoted text ++ (41 ∷ []))) (m i)
    (spaced_is grammar.string _ text (quoted text) (λ j. quoted_is j text p))))

two_is : (i : ℕ) (kind : GameKind) (first second : List ℕ) → ((j : ℕ) → grammar.name_of_two j kind (kind_text kind)) → IsPrintable first
    → IsPrintable second → grammar.board i (clean (two_texts kind first second)) (kind_text kind ++ (40 ∷ (two_quoted first second ++ (41 ∷ []))))
two_is i kind first second m p q = inr (made_is (kind, ([], (first, second))) (then_is (kind_text kind) (40 ∷ (two_quoted first second ++ (41 ∷ []))) (m i)
    (spaced_is (grammar.string_and grammar.string) _ (first, second) (two_quoted first second)
    (λ j. string_and_is grammar.string j first second (quoted second) p (λ k. quoted_is k second q)))))

pub board_is : (i : ℕ) (kind : GameKind) (rules board : List ℕ) → AreTexts kind rules board
    → grammar.board i (clean (game kind rules board)) (kind_text kind ++ (40 ∷ (texts_of_game kind rules board ++ (41 ∷ []))))
board_is i Domineering rules board a = rw a.0 (one_is i Domineering board (λ j. inl (refl, refl)) a.1)
board_is i Clobber rules board a = rw a.0 (one_is i Clobber board (λ j. inr (inl (refl, refl))) a.1)
board_is i Amazons rules board a = rw a.0 (one_is i Amazons board (λ j. inr (inr (inl (refl, refl)))) a.1)
board_is i Toads rules board a = rw a.0 (one_is i Toads board (λ j. inr (inr (inr (inl (refl, refl))))) a.1)
board_is i Hackenbush rules board a = rw a.1 (one_is i Hackenbush rules (λ j. inr (inr (inr (inr (refl, refl))))) a.0)
board_is i Strip rules board a = two_is i Strip rules board (λ j. inl (refl, refl)) a.0 a.1
board_is i Col rules board a = two_is i Col board rules (λ j. inr (inl (refl, refl))) a.1 a.0
board_is i Snort rules board a = two_is i Snort board rules (λ j. inr (inr (refl, refl))) a.1 a.0

pub octal_is : (i : ℕ) (code : List ℕ) (heap : ℕ) → IsPrintable code → heap < 10 ^ 30
    → grammar.octal_piece i (clean (octal code heap)) (codes "Octal" ++ (40 ∷ ((quoted code ++ (44 ∷ decimal heap)) ++ (41 ∷ []))))
octal_is i code heap p l = made_is (tt, ([], (code, heap)))
    (then_is (codes "Octal") (40 ∷ ((quoted code ++ (44 ∷ decimal heap)) ++ (41 ∷ []))) (refl, refl)
    (spaced_is (grammar.string_and digits) _ (code, heap) (quoted code ++ (44 ∷ decimal heap))
    (λ j. string_and_is digits j code heap (decimal heap) p (λ k. digits_are k heap l))))
