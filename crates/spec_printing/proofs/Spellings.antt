-- How the tokens that the grammar speaks of are spelled.
use Rattle.std.proofs.Common.{◌≡◌, ◌∙◌, ℕ, List, Bool, true, false, Option, Some, None, ap, refl}
use Rattle.std.specs.Prelude.{codes, if◌then◌else◌}
use Rattle.std.specs.Fmt.{decimal}
use Rattle.std.specs.Str.{bytes_eq}
use Rattle.std.proofs.lemmas.Slice.Eq.{bytes_eq-Decides}
use Rattle.spec_text.specs.declared.tokens.TokenKind.{TokenKind}
use Rattle.spec_text.specs.declared.tokens.TokenKind.TheVariants as kinds
use Rattle.spec_grammar.specs.declared.keys.Key.{Key}
use Rattle.spec_grammar.specs.declared.keys.Key.TheVariants.{Spike, Sort, Fun, Rule, Goal, If, Unless, Equal, Status}
use Rattle.spec_grammar.specs.declared.keys.Key.TheVariants.{Order, LeftPar, RightPar, Comma, Colon, Equals, Bar}
use Rattle.spec_grammar.specs.declared.keys.Key.TheVariants.{Arrow, Stray}
use Rattle.spec_grammar.specs.Items.{Item, Word, Sign, Number, reserved}

-- how a key is written
abbrev pub key_kind : Key → TokenKind
key_kind LeftPar = kinds.LeftPar
key_kind RightPar = kinds.RightPar
key_kind Comma = kinds.Comma
key_kind Colon = kinds.Colon
key_kind Equals = kinds.Equals
key_kind Bar = kinds.Bar
key_kind Arrow = kinds.Arrow
key_kind Spike = kinds.Word
key_kind Sort = kinds.Word
key_kind Fun = kinds.Word
key_kind Rule = kinds.Word
key_kind Goal = kinds.Word
key_kind If = kinds.Word
key_kind Unless = kinds.Word
key_kind Equal = kinds.Word
key_kind Status = kinds.Word
key_kind Order = kinds.Word
key_kind Stray = kinds.Word

abbrev pub key_text : Key → List ℕ
key_text Spike = codes "spike"
key_text Sort = codes "sort"
key_text Fun = codes "fun"
key_text Rule = codes "rule"
key_text Goal = codes "goal"
key_text If = codes "if"
key_text Unless = codes "unless"
key_text Equal = codes "equal"
key_text Status = codes "status"
key_text Order = codes "order"
key_text LeftPar = codes "("
key_text RightPar = codes ")"
key_text Comma = codes ","
key_text Colon = codes ":"
key_text Equals = codes "="
key_text Bar = codes "|"
key_text Arrow = codes "=>"
key_text Stray = codes "_"

abbrev pub item_kind : Item → TokenKind
item_kind (Word name at) = kinds.Word
item_kind (Sign key) = key_kind key
item_kind (Number n) = kinds.Number n

abbrev pub item_text : Item → List ℕ
item_text (Word name at) = name
item_text (Sign key) = key_text key
item_text (Number n) = decimal n

-- a reserved word is the spelling of its key
module _ (w : List ℕ) (key : Key) where
  either : (text : List ℕ) (k : Key) (other : Option Key) → text ≡ key_text k → (other ≡ Some key → w ≡ key_text key) →
      (if bytes_eq w text then Some k else other) ≡ Some key → w ≡ key_text key
  either text k other spelled later e = go (bytes_eq w text) (λ same. (bytes_eq-Decides w text).0 same) e
    where
      go : (b : Bool) → (b ≡ true → w ≡ text) → (if b then Some k else other) ≡ Some key → w ≡ key_text key
      go true is h = let same : k ≡ key = cc in is refl ∙ spelled ∙ ap key_text same
      go false is h = later h

  pub reserved_spelled : reserved w ≡ Some key → w ≡ key_text key
  reserved_spelled e =
      either (codes "spike") Spike _ refl
      (either (codes "sort") Sort _ refl
      (either (codes "fun") Fun _ refl
      (either (codes "rule") Rule _ refl
      (either (codes "goal") Goal _ refl
      (either (codes "if") If _ refl
      (either (codes "unless") Unless _ refl
      (either (codes "order") Order _ refl
      (either (codes "status") Status _ refl
      (either (codes "equal") Equal _ refl
      (either (codes "_") Stray None refl (λ none. cc))))))))))) e
