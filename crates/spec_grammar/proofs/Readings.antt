-- A text has one reading.
use Rattle.std.proofs.Common.{◌≡◌, ℕ, List, [], ◌∷◌, ◌++◌, Option, Some, length, ap, sym, subst, ◌∙◌, arith}
use Rattle.std.proofs.Common.{length-append}
use Rattle.spec_text.specs.Tokens.{AreTokens}
use Rattle.spec_text.specs.declared.tokens.Token.{Token}
use Rattle.spec_text.proofs.TokenLemmas.{one_list}
use Rattle.spec_grammar.specs.declared.limits.LimitKind.{LimitKind}
use Rattle.spec_grammar.specs.Items.{items_of}
use Rattle.spec_grammar.specs.Grammar.{Marked}
use Rattle.spec_grammar.specs.Derives.{clean, place_of, TextDerives, TextHasFault}
use Rattle.spec_grammar.specs.Symbols.{Symbol, Fault, run}
use Rattle.spec_grammar.proofs.ItemLemmas.{length-items_of, items_of-append}
use Rattle.spec_grammar.proofs.Stacks.{Agrees, some_is, none_some}
use Rattle.spec_grammar.proofs.Means.{MeansTo}
use Rattle.spec_grammar.proofs.Whole.{fault_run, derived_run}

-- the rest of a list that falls apart at the same number of tokens
same_rest : (before before' after after' : List Token) → before ++ after ≡ before' ++ after' →
    length after ≡ length after' → after ≡ after'
same_rest [] [] after after' e n = e
same_rest [] (x ∷ xs) after after' e n = absurd (let l = ap (λ (ts : List Token). length ts) e in
    omega (arith, l, length-append xs after'))
same_rest (x ∷ xs) [] after after' e n = absurd (let l = ap (λ (ts : List Token). length ts) e in
    omega (arith, l, length-append xs after))
same_rest (x ∷ xs) (y ∷ ys) after after' e n = same_rest xs ys after after' (tails e) n
  where
    tails : {x y : Token} {xs ys : List Token} → x ∷ xs ≡ y ∷ ys → xs ≡ ys
    tails e = cc

module _ {R : Type 0} (start : List Symbol) (IsText : R → List Marked →
    Type 0) (agrees : (r : R) (w : List Marked) → IsText r w → Agrees start w) (means : (w : List Marked) →
    MeansTo start w [] → (r : R) × IsText r w) (one : (r q : R) (w : List Marked) → IsText r w → IsText q w →
    r ≡ q) (bytes : List ℕ) where
  -- the tokens of a text with a fault stop the symbols there
  pub fault_stops : (at : ℕ) (why : Option LimitKind) (tokens : List Token)
      (h : TextHasFault IsText bytes at why) → AreTokens bytes tokens →
      (tokens ≡ h.0 ++ h.1) × (run start (items_of bytes tokens) ≡ Some (length h.1, why))
  fault_stops at why tokens h a =
      let same = one_list bytes tokens (h.0 ++ h.1) a h.2 in (
        same,
        ap (λ (ts : List Token). run start (items_of bytes ts)) same
            ∙ ap (run start) (items_of-append bytes h.0 h.1)
            ∙ fault_run start IsText agrees means (items_of bytes h.0) (items_of bytes h.1) why h.4
            ∙ ap (λ (n : ℕ). Some (n, why)) (length-items_of bytes h.1),
      )

  pub derived_or_fault : (r : R) (at : ℕ) (why : Option LimitKind) → TextDerives IsText bytes r →
      TextHasFault IsText bytes at why → ⊥
  derived_or_fault r at why d h = none_some
      (sym (derived_run start IsText agrees means (items_of bytes d.0) r d.2) ∙ (fault_stops at why d.0 h d.1).1)

  pub one_derived : (r q : R) → TextDerives IsText bytes r → TextDerives IsText bytes q → r ≡ q
  one_derived r q a b =
      let same = one_list bytes a.0 b.0 a.1 b.1 in
      one r q (clean (items_of bytes a.0)) a.2
      (subst (λ (ts : List Token). IsText q (clean (items_of bytes ts))) (sym same) b.2)

  pub one_place : (at place : ℕ) (why what : Option LimitKind) → TextHasFault IsText bytes at why →
      TextHasFault IsText bytes place what → (at ≡ place) × (why ≡ what)
  one_place at place why what h k =
      let tokens = h.0 ++ h.1 in
      let first = fault_stops at why tokens h h.2 in
      let second = fault_stops place what tokens k h.2 in
      let f = some_is (sym first.1 ∙ second.1) in
      let rest = same_rest h.0 k.0 h.1 k.1 second.0 (ap (λ (g : Fault). g.0) f) in
      (h.3 ∙ ap (λ (ts : List Token). place_of ts (length bytes)) rest ∙ sym k.3, ap (λ (g : Fault). g.1) f)
