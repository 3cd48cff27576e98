-- What a table of calls says, and that it is right.
use Rattle.std.proofs.Common.{◌≡◌, ℕ, suc, ◌<◌, ◌-◌, List, [], ◌∷◌, ◌++◌, Some, None, inl, inr, refl, ap, sym, ◌∙◌}
use Rattle.std.proofs.Common.{subst, arith, length, set}
use Rattle.std.specs.Prelude.{slice_get, IfSome, Option}
use Rattle.term_core.proofs.Numbers.{same_or_not}
use Rattle.spec_core.specs.declared.records.Spec.{Spec}
use Rattle.value_bank.specs.Cells.{Cell, AddsCells}
use Rattle.value_bank.proofs.Terms.{term_kept, terms_kept}
use Rattle.rule_code.specs.declared.instructions.Kind.{Kind}
use Rattle.rule_code.specs.declared.instructions.Kind.TheVariants.{Call}
use Rattle.rule_code.specs.Code.{call}
use Rattle.rule_code.specs.Instructions.{Instruction, instruction, does}
use Rattle.rule_code.proofs.Matches.{some_same}
use Rattle.rule_code.proofs.ListItems.{set_same, set_other, at_end}
use Rattle.bank_machine.specs.declared.kept_calls.Known.{Known}
use Rattle.bank_machine.specs.declared.kept_calls.KeptCall.{KeptCall}
use Rattle.bank_machine.specs.declared.kept_calls.KeptCalls.{KeptCalls}
use Rattle.bank_machine.specs.KeptCalls.{IsKept, Says, SaysNoMore, SaysAlso, HaveNoValues, IsRight, AreRight}

-- places without values

pub no_values : (calls : List KeptCall) → calls ≡ [] → HaveNoValues calls
no_values calls e i one known at value = absurd
    (let q : None ≡ Some one = subst (λ xs. slice_get xs i ≡ Some one) e at in cc)

pub no_values_more : (calls new : List KeptCall) (one : KeptCall) → HaveNoValues calls →
    new ≡ calls ++ one ∷ [] → one.known ≡ None → HaveNoValues new
no_values_more calls new one h e none i other known at value =
    elim (at_end calls one other i (subst (λ xs. slice_get xs i ≡ Some other) e at)) [
      | inl before ↦ h i other known before value
      | inr same ↦ let q : None ≡ Some known = sym none ∙ ap (λ (c : KeptCall). c.known) same ∙ value in
          absurd (let r : None ≡ Some known = q in cc)
    ]

pub says_nothing : (old new : KeptCalls) → HaveNoValues new.calls.items → SaysNoMore old new
says_nothing old new h f ps known (i, one, at, is) = absurd (h i one known at is.value)

-- what is known of a call that is in a place
pub says_known : (kept : KeptCalls) (i : ℕ) (one : KeptCall) (f : ℕ) (ps : List ℕ) →
    slice_get kept.calls.items i ≡ Some one → one.sym ≡ f → one.args.items ≡ ps → IfSome one.known (Says kept f ps)
says_known kept i one f ps at a b = by one.known refl
  where
    by : (o : Option Known) → one.known ≡ o → IfSome o (Says kept f ps)
    by None e = tt
    by (Some known) e = (i, one, at, record { function = a; args = b; value = e })

-- a call takes the place of another one
pub says_also : (old mid new : KeptCalls) (place : ℕ) (one : KeptCall) (f : ℕ) (ps : List ℕ) (known : Known) →
    SaysNoMore old mid → place < length mid.calls.items → new.calls.items ≡ set mid.calls.items place one →
    IsKept one f ps known → SaysAlso old new f ps known
says_also old mid new place one f ps known before lt e is g qs other (i, two, at, k) =
    let there : slice_get (set mid.calls.items place one) i ≡ Some two = subst (λ xs. slice_get xs i ≡ Some two) e at in
    elim (same_or_not i place) [
      | inl same ↦
          let q : one ≡ two = some_same (slice_get (set mid.calls.items place one) place) one two
          (set_same mid.calls.items place one lt)
          (subst (λ j. slice_get (set mid.calls.items place one) j ≡ Some two) same there) in
          let v : Some other ≡ Some known = sym k.value ∙ ap (λ (c : KeptCall). c.known) (sym q) ∙ is.value in
          let w : other ≡ known = cc in
          inr (
            sym k.function ∙ ap (λ (c : KeptCall). c.sym) (sym q) ∙ is.function,
            sym k.args ∙ ap (λ (c : KeptCall). c.args.items) (sym q) ∙ is.args,
            w,
          )
      | inr apart ↦ inl (before g qs other (i, two, sym (set_other mid.calls.items place i one apart) ∙ there, k))
    ]

-- what was known of the call in a place is forgotten
pub says_less : (old mid new : KeptCalls) (place : ℕ) (one : KeptCall) → SaysNoMore old mid →
    place < length mid.calls.items → new.calls.items ≡ set mid.calls.items place one → one.known ≡ None →
    SaysNoMore old new
says_less old mid new place one before lt e none g qs other (i, two, at, k) =
    let there : slice_get (set mid.calls.items place one) i ≡ Some two = subst (λ xs. slice_get xs i ≡ Some two) e at in
    elim (same_or_not i place) [
      | inl same ↦
          let q : one ≡ two = some_same (slice_get (set mid.calls.items place one) place) one two
          (set_same mid.calls.items place one lt)
          (subst (λ j. slice_get (set mid.calls.items place one) j ≡ Some two) same there) in
          let v : None ≡ Some other = sym none ∙ ap (λ (c : KeptCall). c.known) q ∙ k.value in
          absurd (let w : None ≡ Some other = v in cc)
      | inr apart ↦ before g qs other (i, two, sym (set_other mid.calls.items place i one apart) ∙ there, k)
    ]

-- nothing is known but what was known before
pub says_before : (old new : KeptCalls) (f : ℕ) (ps : List ℕ) (known : Known) → SaysNoMore old new →
    SaysAlso old new f ps known
says_before old new f ps known before g qs other says = inl (before g qs other says)

-- what is right

module _ (spec : Spec) where
  pub right_kept : (old new : List Cell) (kept : KeptCalls) → AddsCells old new → AreRight spec old kept →
      AreRight spec new kept
  right_kept old new kept adds all f ps known says =
      let r = all f ps known says in
      record {
        args = r.args;
        value = r.value;
        stand = terms_kept old new ps r.args adds r.stand;
        there = term_kept old new known.place r.value adds r.there;
        gives = r.gives;
      }

  pub right_also : (cells : List Cell) (old new : KeptCalls) (f : ℕ) (ps : List ℕ) (known : Known) →
      AreRight spec cells old → IsRight spec cells f ps known → SaysAlso old new f ps known → AreRight spec cells new
  right_also cells old new f ps known all one also g qs other says =
      elim (also g qs other says) [
        | inl before ↦ all g qs other before
        | inr (a, b, c) ↦ subst (λ k. IsRight spec cells g qs k) (sym c)
            (subst (λ xs. IsRight spec cells g xs known) (sym b)
            (subst (λ h. IsRight spec cells h ps known) (sym a) one))
      ]

-- the step before the next one is this call
pub step_before : (code : List Instruction) (place next f g : ℕ) (ss us : List ℕ) (kind : Kind) →
    next ≡ suc place → slice_get code place ≡ Some (does (call f ss)) →
    slice_get code (next - 1) ≡ Some (instruction kind us) → kind ≡ Call g → (g ≡ f) × (us ≡ ss)
step_before code place next f g ss us kind e there at is =
    let one : next - 1 ≡ place = omega (arith, e) in
    let q : does (call g us) ≡ does (call f ss) = some_same (slice_get code place) (does (call g us))
    (does (call f ss)) (subst (λ k. slice_get code place ≡ Some (instruction k us)) is
    (subst (λ n. slice_get code n ≡ Some (instruction kind us)) one at)) there in
    let a : g ≡ f = cc in
    let b : us ≡ ss = cc in
    (a, b)
