-- A text of some kind has one fault at most, and none if it derives something.
use Rattle.std.proofs.Common.{◌≡◌, ℕ, List, [], ◌++◌, Option, Some, None, ap, ◌∙◌}
use Rattle.spec_text.specs.Tokens.{IsTextFault}
use Rattle.spec_text.proofs.TokenLemmas.{one_fault, tokens_or_fault}
use Rattle.spec_grammar.specs.declared.limits.LimitKind.{LimitKind}
use Rattle.spec_grammar.specs.Derives.{TextDerives, TextHasFault}
use Rattle.spec_grammar.specs.Grammar.{Marked}
use Rattle.spec_grammar.specs.Symbols.{Symbol}
use Rattle.spec_grammar.proofs.Means.{MeansTo}
use Rattle.spec_grammar.proofs.Readings.{derived_or_fault, one_place}
use Rattle.spec_grammar.proofs.Stacks.{Agrees, limit_none, none_limit, limit_is}
use Rattle.spec_syntax.specs.Faults.{HasFault}
use Rattle.spec_syntax.specs.declared.fault.SyntaxFault.{SyntaxFault}
use Rattle.spec_syntax.specs.declared.fault.SyntaxFault.TheVariants.{Text, Syntax, Limit, OutOfMemory}

module _ {R : Type 0} (start : List Symbol) (IsText : R → List Marked →
    Type 0) (agrees : (r : R) (w : List Marked) → IsText r w → Agrees start w) (means : (w : List Marked) →
    MeansTo start w [] → (r : R) × IsText r w) (one : (r q : R) (w : List Marked) → IsText r w → IsText q w →
    r ≡ q) (bytes : List ℕ) where
  pub no_fault : (r : R) (fault : SyntaxFault) → TextDerives IsText bytes r → HasFault IsText bytes fault → ⊥
  no_fault r (Text at) d h = tokens_or_fault bytes d.0 at d.1 h
  no_fault r (Syntax at) d h = derived_or_fault start IsText agrees means one bytes r at None d h
  no_fault r (Limit at what) d h = derived_or_fault start IsText agrees means one bytes r at (Some what) d h
  no_fault r OutOfMemory d h = h

  places : (at place : ℕ) (why what : Option LimitKind) → TextHasFault IsText bytes at why →
      TextHasFault IsText bytes place what → (at ≡ place) × (why ≡ what)
  places at place why what h k = one_place start IsText agrees means one bytes at place why what h k

  text_or_other : (at place : ℕ) (why : Option LimitKind) → IsTextFault bytes at →
      TextHasFault IsText bytes place why → ⊥
  text_or_other at place why h k = tokens_or_fault bytes (k.0 ++ k.1) at k.2 h

  pub same_fault : (fault other : SyntaxFault) → HasFault IsText bytes fault → HasFault IsText bytes other →
      fault ≡ other
  same_fault (Text at) (Text place) h k = ap Text (one_fault bytes at place h k)
  same_fault (Text at) (Syntax place) h k = absurd (text_or_other at place None h k)
  same_fault (Text at) (Limit place what) h k = absurd (text_or_other at place (Some what) h k)
  same_fault (Syntax at) (Text place) h k = absurd (text_or_other place at None k h)
  same_fault (Syntax at) (Syntax place) h k = ap Syntax (places at place None None h k).0
  same_fault (Syntax at) (Limit place what) h k = absurd (none_limit (places at place None (Some what) h k).1)
  same_fault (Limit at why) (Text place) h k = absurd (text_or_other place at (Some why) k h)
  same_fault (Limit at why) (Syntax place) h k = absurd (limit_none (places at place (Some why) None h k).1)
  same_fault (Limit at why) (Limit place what) h k =
      let p = places at place (Some why) (Some what) h k in
      ap (λ (n : ℕ). Limit n why) p.0 ∙ ap (Limit place) (limit_is p.1)
  same_fault OutOfMemory other h k = absurd h
  same_fault (Text at) OutOfMemory h k = absurd k
  same_fault (Syntax at) OutOfMemory h k = absurd k
  same_fault (Limit at why) OutOfMemory h k = absurd k
