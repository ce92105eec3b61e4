-- Chains of entries, the newest first.
use Rattle.std.specs.Prelude.{ℕ, suc, ◌≡◌, ◌≢◌, ◌<◌, ◌≤◌, ◌*◌, ◌/◌, ◌%◌, ◌^◌, List, [], get_or, length, map}
use Rattle.cg_hash_index.specs.declared.hash_index.Entry.{Entry}

-- the chain of entries of this number, of so many
abbrev pub chain_at : ℕ → ℕ → ℕ
chain_at number chains = number * 2654435761 % 2 ^ 32 * chains / 2 ^ 32

abbrev pub nothing : Entry
nothing = record { number = 0; before = 0 }

abbrev pub number_in : List Entry → ℕ → ℕ
number_in entries entry = (get_or entries entry nothing).number

-- the chain that the entry is of, of so many
abbrev pub chain_in : List Entry → ℕ → ℕ → ℕ
chain_in entries chains entry = chain_at (number_in entries entry) chains

-- the numbers of the entries
abbrev pub numbers : List Entry → List ℕ
numbers entries = map (λ l. l.number) entries

-- so many entries stand up to the chain's last one of the first so many, and with it; 0 where none of them is of the chain
pub record IsLast (entries : List Entry) (chains count chain up_to : ℕ) : Type 0 where
  pub inside : up_to ≤ count
  pub own : (entry : ℕ) → up_to ≡ suc entry → chain_in entries chains entry ≡ chain
  pub behind : (entry : ℕ) → up_to ≤ entry → entry < count → chain_in entries chains entry ≢ chain

-- for each chain it is known where its last entry stands, and for each entry where the one before it in its chain stands
pub record AreChained (entries : List Entry) (chains : List ℕ) : Type 0 where
  pub none : length chains ≡ 0 → entries ≡ []
  pub lasts : (chain : ℕ) → chain < length chains → IsLast entries (length chains) (length entries) chain (get_or chains chain 0)
  pub befores : (entry : ℕ) → entry < length entries
      → IsLast entries (length chains) entry (chain_in entries (length chains) entry) (get_or entries entry nothing).before
