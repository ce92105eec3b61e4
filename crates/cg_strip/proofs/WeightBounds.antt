-- Bounds of weights.
use Rattle.std.proofs.Common.{ℕ, ◌*◌, ◌^◌, ◌<◌, ◌≤◌, arith}
use Rattle.std.proofs.lemmas.Nat.{mul-le}

pub product_bound : (a b : ℕ) → a < 2 ^ 16 → b ≤ 64 → a * b ≤ 65535 * 64
product_bound a b h k = mul-le a b 65535 64 (omega arith) k
