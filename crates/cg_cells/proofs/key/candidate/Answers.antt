use Rattle.std.proofs.Common.{◌≡◌, ℕ, ◌+◌, ◌<◌, Some, ◌/◌, ◌%◌, ◌^◌, ◌==◌, arith, ap}
use Rattle.cg_cells.specs.declared.key.KeyParts.{KeyParts}
use Rattle.cg_cells.specs.declared.key.KeyParts.TheVariants.{Pair, Board, Long}
use Rattle.cg_cells.specs.Layout.{FieldsFit, TypesFit, word_of}
use Rattle.cg_cells.proofs.Layouts.{list_parts, same_kind, kind_of, sign_small, sign_back}
use Rattle.cg_cells.proofs.key.candidate.Goals as goal

pair : (p : KeyParts) (w x y : ℕ) → FieldsFit p → TypesFit p → word_of p ≡ w → kind_of p ≡ 5
    → ((i : ℕ) → i < 2 ^ 26 → i + 1 ≡ w % 2 ^ 61 % 134217728 → x ≡ i)
    → ((i : ℕ) → i < 2 ^ 26 → i + 1 ≡ w % 2 ^ 61 / 134217728 → y ≡ i)
    → Pair x y ≡ p
pair (Pair low high) w x y f t e k hx hy =
    let a : x ≡ low = hx low t.0 (omega arith) in
    let b : y ≡ high = hy high t.1 (omega arith) in
    cc
pair _ w x y f t e k hx hy = absurd (omega arith)

board : (p : KeyParts) (w x : ℕ) → FieldsFit p → TypesFit p → word_of p ≡ w → kind_of p ≡ 6
    → ((i : ℕ) → i < 2 ^ 26 → i + 1 ≡ w % 2 ^ 61 % 1099511627776 → x ≡ i)
    → Board (w % 2 ^ 61 / 18014398509481984 % 16) (w % 2 ^ 61 / 140737488355328 % 128) (w % 2 ^ 61 / 1099511627776 % 128) x ≡ p
board (Board number rows columns first) w x f t e k hx =
    let a : x ≡ first = hx first t (omega arith) in
    let n : w % 2 ^ 61 / 18014398509481984 % 16 ≡ number = omega arith in
    let r : w % 2 ^ 61 / 140737488355328 % 128 ≡ rows = omega arith in
    let s : w % 2 ^ 61 / 1099511627776 % 128 ≡ columns = omega arith in
    cc
board _ w x f t e k hx = absurd (omega arith)

long : (p : KeyParts) (w x : ℕ) → FieldsFit p → TypesFit p → word_of p ≡ w → kind_of p ≡ 7
    → ((i : ℕ) → i < 2 ^ 26 → i + 1 ≡ w % 2 ^ 61 % 134217728 → x ≡ i)
    → Long x (w % 2 ^ 61 / 134217728 % 64) (w % 2 ^ 61 / 8589934592 == 1) ≡ p
long (Long first exp negative) w x f t e k hx =
    let small = sign_small negative in
    let a : x ≡ first = hx first t (omega arith) in
    let b : w % 2 ^ 61 / 134217728 % 64 ≡ exp = omega arith in
    let d = sign_back negative (w % 2 ^ 61 / 8589934592) (omega arith) in
    cc
long _ w x f t e k hx = absurd (omega arith)

pub returns-in-3 : goal.returns-in-3
returns-in-3 c = λ p f t e. ap Some (list_parts p c.args.word _ _ f t e (same_kind p c.args.word 3 f t e c.in-3.is) c.id_in.ensures c.link_in-in-3.ensures)

pub returns-in-5 : goal.returns-in-5
returns-in-5 c = λ p f t e. ap Some (pair p c.args.word _ _ f t e (same_kind p c.args.word 5 f t e c.in-5.is) c.id_in-in-5.ensures c.id_in-in-5-2.ensures)

pub returns-in-6 : goal.returns-in-6
returns-in-6 c = λ p f t e. ap Some (board p c.args.word _ f t e (same_kind p c.args.word 6 f t e c.in-6.is) c.id_in-in-6.ensures)

pub returns-in-7 : goal.returns-in-7
returns-in-7 c = λ p f t e. ap Some (long p c.args.word _ f t e (same_kind p c.args.word 7 f t e c.in-7.is) c.id_in-in-7.ensures)
