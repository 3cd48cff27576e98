-- Names, as lists of characters.
use Rattle.std.specs.Prelude.{◌≡◌, ℕ, ◌+◌, List, [], ◌∷◌, ◌++◌, ◌==◌, ◌||◌, Bool, IsTrue}
use Rattle.std.specs.Char.{len_utf8}
use Rattle.std.specs.List.{AllByRecursion}
use Rattle.unicode_ident.specs.Ident.{is_xid_start, is_xid_continue}

-- a name may begin with the character
abbrev pub starts : ℕ → Bool
starts c = is_xid_start c || (c == 95)

-- the characters are a name: the first begins one, and each other one goes on with it
abbrev pub IsName : List ℕ → Type 0
IsName [] = ⊥
IsName (c ∷ cs) = IsTrue (starts c) × AllByRecursion (λ d. IsTrue (is_xid_continue d)) cs

-- the bytes of the characters in UTF-8
abbrev pub size : List ℕ → ℕ
size [] = 0
size (c ∷ cs) = len_utf8 c + size cs

-- no name begins the characters
abbrev pub NoName : List ℕ → Type 0
NoName cs = (name rest : List ℕ) → cs ≡ name ++ rest → IsName name → ⊥

-- The longest name that begins the characters takes n bytes.
pub record LongestName (cs : List ℕ) (n : ℕ) : Type 0 where
  pub name : List ℕ
  pub rest : List ℕ
  pub whole : cs ≡ name ++ rest
  pub is_name : IsName name
  pub longest : (more others : List ℕ) → rest ≡ more ++ others → IsName (name ++ more) → more ≡ []
  pub bytes : n ≡ size name
