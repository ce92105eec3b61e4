-- Texts of stops, corners and thermographs from their parts.
use Rattle.std.proofs.Common.{◌≡◌, refl, ap, sym, ◌∙◌, ℕ, zero, suc, ◌+◌, ◌<◌, ◌≤◌, arith, List, [], ◌∷◌, ◌++◌, append_assoc, length, get_or, take}
use Rattle.std.specs.Prelude.{codes}
use Rattle.cg_dyadic.specs.Exact.{number_text}
use Rattle.cg_dyadic.specs.Number.{Number}
use Rattle.cg_thermo.specs.declared.corners.Corner.{Corner}
use Rattle.cg_thermo.specs.declared.thermo.Walls.{Walls}
use Rattle.cg_eval.specs.Pictures.{corner_text, corners_text, stops_text, thermograph_text}

-- the stops, with their texts between words
pub stops-from : (x y : List ℕ) (left right : Number) → x ≡ number_text left → y ≡ number_text right
    → codes "left " ++ (x ++ (codes " right " ++ y)) ≡ stops_text left right
stops-from x y left right a b =
    ap (λ z. codes "left " ++ (z ++ (codes " right " ++ y))) a
    ∙ ap (λ z. codes "left " ++ (number_text left ++ (codes " right " ++ z))) b
    ∙ sym (append_assoc (codes "left ") (number_text left) (codes " right " ++ number_text right))
    ∙ sym (append_assoc (codes "left " ++ number_text left) (codes " right ") (number_text right))

-- ---- corners

pub corners-one_more : (cs : List Corner) (i : ℕ) (c : Corner) (all text : List ℕ) (d : Corner) → i < length cs → c ≡ get_or cs i d
    → all ≡ corners_text (take i cs) → text ≡ corner_text c
    → (all ++ codes " ") ++ text ≡ corners_text (take (i + 1) cs)
corners-one_more cs i c all text d below at a t =
    let one : i + 1 ≡ suc i = omega arith in
    ap (λ z. (z ++ codes " ") ++ text) a ∙ ap (λ z. (corners_text (take i cs) ++ codes " ") ++ z) t
    ∙ last d cs i below at ∙ ap (λ n. corners_text (take n cs)) (sym one)
  where
    first : (d : Corner) → d ≡ c → ([] ++ codes " ") ++ corner_text c ≡ codes " " ++ corner_text d ++ corners_text []
    first d e = ap (λ z. codes " " ++ z) (ap corner_text (sym e) ∙ sym (none (corner_text d)))
      where
        none : (xs : List ℕ) → xs ++ [] ≡ xs
        none [] = refl
        none (x ∷ xs) = ap (λ z. x ∷ z) (none xs)

    last : (e : Corner) (cs : List Corner) (i : ℕ) → i < length cs → c ≡ get_or cs i e
        → (corners_text (take i cs) ++ codes " ") ++ corner_text c ≡ corners_text (take (suc i) cs)
    last e [] i below at = absurd (omega arith)
    last e (d ∷ cs) zero below at = first d (sym at)
    last e (d ∷ cs) (suc i) below at =
        let own = codes " " ++ corner_text d in
        let front = corners_text (take i cs) in
        append_assoc (own ++ front) (codes " ") (corner_text c)
        ∙ append_assoc own front (codes " " ++ corner_text c)
        ∙ ap (λ z. own ++ z) (sym (append_assoc front (codes " ") (corner_text c)) ∙ last e cs i (omega arith) at)

-- ---- thermographs

pub thermograph-from : (p : Walls) (m t l r : List ℕ) → m ≡ number_text p.mean → t ≡ number_text p.temp
    → l ≡ corners_text p.left → r ≡ corners_text p.right
    → codes "mean " ++ (m ++ (codes " temp " ++ (t ++ (codes " left" ++ (l ++ (codes " right" ++ r))))))
    ≡ thermograph_text p
thermograph-from p m t l r a b c d =
    ap (λ z. codes "mean " ++ (z ++ (codes " temp " ++ (t ++ (codes " left" ++ (l ++ (codes " right" ++ r))))))) a
    ∙ ap (λ z. codes "mean " ++ (number_text p.mean ++ (codes " temp " ++ (z ++ (codes " left" ++ (l ++ (codes " right" ++ r))))))) b
    ∙ ap (λ z. codes "mean " ++ (number_text p.mean ++ (codes " temp " ++ (number_text p.temp ++ (codes " left" ++ (z ++ (codes " right" ++ r))))))) c
    ∙ ap (λ z. codes "mean " ++ (number_text p.mean ++ (codes " temp " ++ (number_text p.temp ++ (codes " left" ++ (corners_text p.left ++ (codes
    " right" ++ z))))))) d
    ∙ sym (grouped (codes "mean ") (number_text p.mean) (codes " temp ") (number_text p.temp) (codes " left")
    (corners_text p.left) (codes " right") (corners_text p.right))
  where
    grouped : (a b c d e f g h : List ℕ) → a ++ b ++ c ++ d ++ e ++ f ++ g ++ h ≡ a ++ (b ++ (c ++ (d ++ (e ++ (f ++ (g ++ h))))))
    grouped a b c d e f g h =
        append_assoc (a ++ b ++ c ++ d ++ e ++ f) g h ∙ append_assoc (a ++ b ++ c ++ d ++ e) f (g ++ h)
        ∙ append_assoc (a ++ b ++ c ++ d) e (f ++ (g ++ h)) ∙ append_assoc (a ++ b ++ c) d (e ++ (f ++ (g ++ h)))
        ∙ append_assoc (a ++ b) c (d ++ (e ++ (f ++ (g ++ h)))) ∙ append_assoc a b (c ++ (d ++ (e ++ (f ++ (g ++ h)))))
