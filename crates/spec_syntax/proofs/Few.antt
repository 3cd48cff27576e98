-- A text has at least as many bytes as each of its terms has words.
use Rattle.std.proofs.Common.{◌≡◌, ℕ, ◌≤◌, List, [], ◌∷◌, Result, Ok, Err, None, length, refl, ap, arith}
use Rattle.std.specs.Prelude.{IfOk}
use Rattle.spec_text.specs.Tokens.{AreTokens}
use Rattle.spec_text.specs.declared.tokens.Token.{Token}
use Rattle.spec_text.proofs.SpanLemmas.{spans_hold}
use Rattle.spec_grammar.specs.Items.{Item, items_of}
use Rattle.spec_grammar.specs.Derives.{clean, TextDerives}
use Rattle.spec_grammar.specs.Grammar.{Marked, IsSpecText, IsTermText}
use Rattle.spec_grammar.specs.RawTree.{RawTree}
use Rattle.spec_grammar.specs.Sizes.{words, HasFewWords}
use Rattle.spec_grammar.specs.declared.raw.RawSpec.{RawSpec}
use Rattle.spec_grammar.proofs.ItemLemmas.{length-items_of}
use Rattle.spec_grammar.proofs.SizeLemmas.{spec_words, term_words, few_more}
use Rattle.spec_syntax.specs.declared.fault.SyntaxFault.{SyntaxFault}

length-clean : (items : List Item) → length (clean items) ≡ length items
length-clean [] = refl
length-clean (x ∷ items) = cc (length-clean items)

few_tokens : (bytes : List ℕ) (tokens : List Token) → AreTokens bytes tokens →
    length (clean (items_of bytes tokens)) ≤ length bytes
few_tokens bytes tokens h = omega (
  arith,
  length-clean (items_of bytes tokens),
  length-items_of bytes tokens,
  (spans_hold bytes tokens h).few,
)

spec_few : (bytes : List ℕ) (raw : RawSpec) → TextDerives IsSpecText bytes raw → HasFewWords (length bytes) raw
spec_few bytes raw d = few_more _ _ raw (few_tokens bytes d.0 d.1) (spec_words raw (clean (items_of bytes d.0)) d.2)

term_few : (bytes : List ℕ) (term : RawTree) → TextDerives IsTermText bytes term → words term ≤ length bytes
term_few bytes term d = omega (
  arith,
  few_tokens bytes d.0 d.1,
  term_words 0 None term,
  ap (λ (w : List Marked). length w) d.2,
)

pub is_few : (bytes : List ℕ) (result : Result RawSpec SyntaxFault) →
    IfOk result (TextDerives IsSpecText bytes) → IfOk result (HasFewWords (length bytes))
is_few bytes (Ok raw) d = spec_few bytes raw d
is_few bytes (Err fault) d = tt

pub is_few_of_term : (bytes : List ℕ) (result : Result RawTree SyntaxFault) →
    IfOk result (TextDerives IsTermText bytes) → IfOk result (λ term. words term ≤ length bytes)
is_few_of_term bytes (Ok term) d = term_few bytes term d
is_few_of_term bytes (Err fault) d = tt
