-- The laws of the combinators, with the pieces found by antt.
use Rattle.std.proofs.Common.{[], ◌≡◌, ℕ, ◌+◌, inl, inr, Bool, true, false, ◌&&◌, cond, ◌++◌, length}
use Rattle.cg_reading.specs.Bytes.{Class}
use Rattle.cg_reading.specs.Pieces.{Piece, Then, Or, Many, Made, Placed}
use Rattle.cg_reading.specs.Readers.{Reader, then_at, or_at, many_at, made_at, placed_at}
use Rattle.cg_reading.proofs.Laws.{Lawful, Some_text}
use Rattle.cg_reading.proofs.Many.{many_lawful}
use Rattle.cg_reading.proofs.Sets.{apart, inside, wider_begins, wider_ends}
use Rattle.cg_reading.proofs.Longest.{made_full, or_full_ok, placed_token, plain_lawful, plain_token, then_full}
use Rattle.cg_reading.proofs.Spelled.{then_is, made_is}

-- ---- the same, with the pieces found by antt

pub then_ok : {A B : Type 0} {R : Piece A} {S : Piece B} {f : Reader A} {g : Reader B} {I J : Class} {d e : Bool} {F G : Class} → Lawful R f I d F → Lawful S g J e G → ((j : ℕ) → Some_text S j) → apart J F ≡ true → Lawful (Then R S) (then_at f g) (cond d (I ++ J) I) (d && e) (cond e (F ++ G) G)
then_ok lf lg w a = plain_lawful (then_full lf (plain_token lg) w a)

pub or_ok : {A : Type 0} {R S : Piece A} {f g : Reader A} {I J : Class} {e : Bool} {F G : Class} → Lawful R f I false F → Lawful S g J e G → apart J I ≡ true → Lawful (Or R S) (or_at I f g) (I ++ J) e (cond e (I ++ (F ++ G)) (F ++ G))
or_ok lf lg d = plain_lawful (or_full_ok (plain_token lf) (plain_token lg) d)

pub made_ok : {A B : Type 0} {R : Piece A} {f : Reader A} {I : Class} {e : Bool} {F : Class} (h : A → B) → Lawful R f I e F → Lawful (Made h R) (made_at h f) I e F
made_ok h lf = plain_lawful (made_full h (λ _. []) (plain_token lf))

pub many_ok : {A : Type 0} {R : Piece A} {f : Reader A} {I F : Class} → Lawful R f I false F → apart I F ≡ true → Lawful (Many R) (many_at I f) I true (F ++ I)
many_ok {A} {R} {f} {I} {F} lf a = many_lawful R f I F lf a

pub placed_ok : {A : Type 0} {R : Piece A} {f : Reader A} {I : Class} {e : Bool} {F : Class} → Lawful R f I e F → Lawful (Placed R) (placed_at f) I e F
placed_ok lf = plain_lawful (placed_token (plain_token lf))

pub then_text : {A B : Type 0} {R : Piece A} {S : Piece B} (j : ℕ) → Some_text R j → ((k : ℕ) → Some_text S k) → Some_text (Then R S) j
then_text j r s = let t = s (j + length r.text) in record { value = (r.value, t.value); text = r.text ++ t.text; is = then_is r.text t.text r.is t.is }

pub made_text : {A B : Type 0} {R : Piece A} (h : A → B) (j : ℕ) → Some_text R j → Some_text (Made h R) j
made_text h j r = record { value = h r.value; text = r.text; is = made_is r.value r.is }

pub left_text : {A : Type 0} {R S : Piece A} (j : ℕ) → Some_text R j → Some_text (Or R S) j
left_text j r = record { value = r.value; text = r.text; is = inl r.is }

pub right_text : {A : Type 0} {R S : Piece A} (j : ℕ) → Some_text S j → Some_text (Or R S) j
right_text j r = record { value = r.value; text = r.text; is = inr r.is }

pub wide_ok : {A : Type 0} {R : Piece A} {f : Reader A} {I : Class} {e : Bool} {F : Class} (J G : Class) → Lawful R f I e F → inside I J ≡ true → inside F G ≡ true → Lawful R f J e G
wide_ok {A} {R} {f} {I} {e} {F} J G lf a b = record {
  reads = record { sound = lf.sound; agree = lf.agree; begins = λ i v text is. wider_begins I J e text a (lf.begins i v text is) };
  again = λ end i v text rest is h n. lf.again end i v text rest is (wider_ends F G rest b h) n;
}
