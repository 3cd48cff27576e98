-- Well formed HTML.
use Rattle.std.specs.Prelude.{◌≡◌, ℕ, List, [], ◌∷◌, ◌++◌, Bool, false, ◌&&◌, ◌||◌, nat_le, IsTrue, codes}
use Rattle.std.specs.List.{AllByRecursion, list_all}
use Rattle.page_core.specs.Html.{is_special, entity}

-- no special character is in it
abbrev pub IsPlain : List ℕ → Type 0
IsPlain text = AllByRecursion (λ c. is_special c ≡ false) text

-- a lowercase letter or a digit
abbrev pub is_name_byte : ℕ → Bool
is_name_byte c = (nat_le 97 c && nat_le c 122) || (nat_le 48 c && nat_le c 57)

-- such bytes, and at least one
abbrev pub is_name : List ℕ → Bool
is_name [] = false
is_name (c ∷ name) = is_name_byte c && list_all is_name_byte name

-- attributes, each with a blank before it, and with or without a value
pub data AreAttributes : List ℕ → Type 0 where
  nothing : AreAttributes []
  lone : (name : List ℕ) → IsTrue (is_name name) → AreAttributes (codes " " ++ name)
  valued : (name value : List ℕ) → IsTrue (is_name name) → IsPlain value
      → AreAttributes (codes " " ++ (name ++ (codes "=\"" ++ (value ++ codes "\""))))
  joined : {text more : List ℕ} → AreAttributes text → AreAttributes more → AreAttributes (text ++ more)

abbrev pub opening_tag : List ℕ → List ℕ → List ℕ
opening_tag name attributes = codes "<" ++ (name ++ (attributes ++ codes ">"))

abbrev pub closing_tag : List ℕ → List ℕ
closing_tag name = codes "</" ++ (name ++ codes ">")

-- plain text, entities, and elements with markup between the two tags of one name, one after the other
pub data IsMarkup : List ℕ → Type 0 where
  plain : (text : List ℕ) → IsPlain text → IsMarkup text
  an_entity : (c : ℕ) → IsTrue (is_special c) → IsMarkup (entity c)
  element : (name attributes inner : List ℕ) → IsTrue (is_name name) → AreAttributes attributes → IsMarkup inner
      → IsMarkup (opening_tag name attributes ++ (inner ++ closing_tag name))
  joined : {text more : List ℕ} → IsMarkup text → IsMarkup more → IsMarkup (text ++ more)
