-- What is so of the goal that is read is so of the specification's goal with its number.
use Rattle.std.proofs.Common.{◌≡◌, ◌∙◌, ◌<◌, List, ℕ, Some, refl, sym, subst, length, get_or}
use Rattle.std.specs.Prelude.{Result, IfOk, Ok, Err, slice_get}
use Rattle.std.proofs.lemmas.Option.{slice_get_read}
use Rattle.spec_core.specs.declared.records.Goal.{Goal}

-- the goal that is read, as one of the specification's
pub listed :
    (goals items : List Goal) (i : ℕ) (one : Goal) → items ≡ goals → i < length items →
    one ≡ get_or items i one → slice_get goals i ≡ Some one
listed goals items i one same h is =
    subst (λ gs. slice_get gs i ≡ Some one) same (slice_get_read items _ i one refl h is)

pub of_listed :
    {A E : Type 0} (goals : List Goal) (i : ℕ) (one : Goal) (Holds : Goal → A → Type 0) →
    slice_get goals i ≡ Some one → (result : Result A E) → IfOk result (Holds one) →
    IfOk result (λ found. (it : Goal) → slice_get goals i ≡ Some it → Holds it found)
of_listed goals i one Holds at (Ok found) h = λ it at_too.
    let q : Some one ≡ Some it = sym at ∙ at_too in
    let same : one ≡ it = cc in
    subst (λ g. Holds g found) same h
of_listed goals i one Holds at (Err error) h = h
