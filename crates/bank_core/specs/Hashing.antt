-- Hashes. That there is one number for each entry is all that matters.
use Rattle.std.specs.Prelude.{ℕ, ◌*◌, ◌/◌, ◌%◌, ◌^◌, List, [], ◌∷◌, bit_xor}

-- a hash with one more number
unfoldable pub stirred_by : ℕ → ℕ → ℕ
stirred_by hash word = bit_xor hash word * 0x9e3779b97f4a7c15 % 2 ^ 64

-- a hash with some more parts, each taken in by itself
abbrev pub stirred_all : {A : Type 0} → (ℕ → A → ℕ) → ℕ → List A → ℕ
stirred_all stirred hash [] = hash
stirred_all stirred hash (x ∷ xs) = stirred_all stirred (stirred hash x) xs

-- the hash of a head and its arguments
unfoldable pub hash_by : {H A : Type 0} → (ℕ → H → ℕ) → (ℕ → A → ℕ) → H → List A → ℕ
hash_by head arg h xs = stirred_all arg (head 0 h) xs / 2 ^ 32
