-- The variables of a rule or goal with their sorts.
use Rattle.std.proofs.Common.{◌≡◌, ◌≤◌, ◌<◌, ℕ, zero, suc, ◌+◌, List, [], ◌∷◌, ◌++◌, Option, Some, None, inl, inr}
use Rattle.std.proofs.Common.{refl, ap, sym, ◌∙◌, subst, arith, length, take, get_or, Err, Ok}
use Rattle.std.specs.Prelude.{slice_get, unwrap_or, Result}
use Rattle.std.proofs.lemmas.List.{take_all}
use Rattle.term_core.specs.declared.ids.SortId.{SortId}
use Rattle.spec_core.specs.declared.records.VarInfo.{VarInfo}
use Rattle.spec_core.specs.Declarations.{bool_sort}
use Rattle.spec_core.specs.Findings.{Search, nothing, Clean, First}
use Rattle.spec_core.specs.TermText.{variable_names}
use Rattle.spec_core.specs.WellSorted.{sorts_of}
use Rattle.spec_core.proofs.Findings.{not_both}
use Rattle.sort_check.specs.Answers.{Tells, Answers}
use Rattle.sort_check.specs.Entries.{entry_names, known_sorts, sort_at}
use Rattle.sort_check.specs.GoalTests.{inferred_tests}
use Rattle.sort_check.specs.Over.{variable_of, variables_of}
use Rattle.sort_check.specs.Parts.{AreSorted}
use Rattle.sort_check.specs.declared.entries.Entry.{Entry}
use Rattle.sort_check.specs.declared.faults.SortFault.{SortFault}
use Rattle.sort_check.specs.declared.faults.SortFault.TheVariants.{Sort, OutOfMemory}
use Rattle.sort_check.specs.declared.faults.SortKind.TheVariants.{SortNotInferred}

plus_one : (i : ℕ) → suc i ≡ i + 1
plus_one i = omega arith

-- variables one by one
inferred_after : (es : List Entry) (known : List (Option SortId)) (i : ℕ) → i < length es →
    length known ≡ length es → Clean (inferred_tests (take i es) (take i known)) →
    (sort_at known i ≡ None → ⊥) → Clean (inferred_tests (take (suc i) es) (take (suc i) known))
inferred_after [] known i lt n c d = absurd (omega arith)
inferred_after (e ∷ es) [] i lt n c d = absurd (omega arith)
inferred_after (e ∷ es) (o ∷ os) zero lt n c d = (d, tt)
inferred_after (e ∷ es) (o ∷ os) (suc i) lt n c d = (c.0, inferred_after es os i (omega arith) (omega arith) c.1 d)

pub inferred_next : (es : List Entry) (known : List (Option SortId)) (i : ℕ) → i < length es →
    length known ≡ length es → Clean (inferred_tests (take i es) (take i known)) → (s : SortId) →
    sort_at known i ≡ Some s → Clean (inferred_tests (take (i + 1) es) (take (i + 1) known))
inferred_next es known i lt n c s k = subst (λ m. Clean (inferred_tests (take m es) (take m known)))
    (plus_one i) (inferred_after es known i lt n c (λ none. let z : None ≡ Some s = sym none ∙ k in cc))

pub inferred_stops : (es : List Entry) (known : List (Option SortId)) (i : ℕ) (e : Entry) → i < length es →
    length known ≡ length es → e ≡ get_or es i e → Clean (inferred_tests (take i es) (take i known)) →
    sort_at known i ≡ None → First (inferred_tests es known) (Sort e.at SortNotInferred)
inferred_stops [] known i e lt n is c d = absurd (omega arith)
inferred_stops (f ∷ es) [] i e lt n is c d = absurd (omega arith)
inferred_stops (f ∷ es) (o ∷ os) zero e lt n is c d = inl (d, ap (λ (x : Entry). Sort x.at SortNotInferred) is)
inferred_stops (f ∷ es) (o ∷ os) (suc i) e lt n is c d = inr (
  c.0,
  inferred_stops es os i e (omega arith) (omega arith) is c.1 d,
)

pub inferred_end : (es : List Entry) (known : List (Option SortId)) (i : ℕ) → length es ≤ i →
    length known ≡ length es → (P : List Entry → List (Option SortId) → Type 0) → P (take i es) (take i known) →
    P es known
inferred_end es known i end n P h = subst (λ xs. P xs known) (take_all i es end)
    (subst (λ ks. P (take i es) ks) (take_all i known (omega (arith, n))) h)

variables_after : (es : List Entry) (known : List (Option SortId)) (i : ℕ) (e : Entry) (s : SortId) →
    i < length es → length known ≡ length es → e ≡ get_or es i e → sort_at known i ≡ Some s →
    variables_of (take (suc i) es) (take (suc i) known) ≡ variables_of (take i es) (take i known)
    ++ record { name = e.name; sort = s } ∷ []
variables_after [] known i e s lt n is k = absurd (omega arith)
variables_after (f ∷ es) [] i e s lt n is k = absurd (omega arith)
variables_after (f ∷ es) (o ∷ os) zero e s lt n is k = λ i.
    record { name = (sym is i).name; sort = unwrap_or (k i) bool_sort } ∷ []
variables_after (f ∷ es) (o ∷ os) (suc i) e s lt n is k = ap (λ vs. variable_of f o ∷ vs)
    (variables_after es os i e s (omega arith) (omega arith) is k)

pub variables_next : (es : List Entry) (known : List (Option SortId)) (i : ℕ) (e : Entry) (s : SortId)
    (old new : List VarInfo) → i < length es → length known ≡ length es → e ≡ get_or es i e →
    sort_at known i ≡ Some s → old ≡ variables_of (take i es) (take i known) →
    new ≡ old ++ record { name = e.name; sort = s } ∷ [] → new ≡ variables_of (take (i + 1) es) (take (i + 1) known)
variables_next es known i e s old new lt n is k made more = more
    ∙ ap (λ vs. vs ++ record { name = e.name; sort = s } ∷ []) made
    ∙ sym (variables_after es known i e s lt n is k) ∙ ap (λ m. variables_of (take m es) (take m known)) (plus_one i)

-- if each variable has a sort, none is found without one
pub sorted_clean : (es : List Entry) (known : List (Option SortId)) →
    ((n : ℕ) → n < length es → (s : SortId) × (sort_at known n ≡ Some s)) → Clean (inferred_tests es known)
sorted_clean [] known h = tt
sorted_clean (e ∷ es) [] h = tt
sorted_clean (e ∷ es) (o ∷ os) h =
    let first = h 0 (omega arith) in (
      (λ none. let z : None ≡ Some first.0 = sym none ∙ first.1 in cc),
      sorted_clean es os (λ n lt. h (suc n) (omega arith)),
    )

-- and the other way
pub clean_sorted : (es : List Entry) (known : List (Option SortId)) → length known ≡ length es →
    Clean (inferred_tests es known) → (n : ℕ) → n < length es → (s : SortId) × (sort_at known n ≡ Some s)
clean_sorted [] known l c n lt = absurd (omega arith)
clean_sorted (e ∷ es) [] l c n lt = absurd (omega arith)
clean_sorted (e ∷ es) (None ∷ os) l c zero lt = absurd (c.0 refl)
clean_sorted (e ∷ es) (Some s ∷ os) l c zero lt = (s, refl)
clean_sorted (e ∷ es) (o ∷ os) l c (suc n) lt = clean_sorted es os (omega arith) c.1 n (omega arith)

-- a search that finds nothing tells nothing but want of memory
pub only_memory : (s t : Search SortFault) (e : SortFault) → Clean s → Tells s e → Tells t e
only_memory s t (Sort at kind) c f = absurd (not_both s (Sort at kind) c f)
only_memory s t OutOfMemory c f = tt

pub names_are : (es : List Entry) (known : List (Option SortId)) → length known ≡ length es →
    variable_names (variables_of es known) ≡ entry_names es
names_are [] known l = refl
names_are (e ∷ es) [] l = absurd (omega arith)
names_are (e ∷ es) (o ∷ os) l = ap (λ ns. e.name ∷ ns) (names_are es os (omega arith))

pub variables_long : (es : List Entry) (known : List (Option SortId)) → length known ≡ length es →
    length (variables_of es known) ≡ length es
variables_long [] known l = refl
variables_long (e ∷ es) [] l = absurd (omega arith)
variables_long (e ∷ es) (o ∷ os) l = ap suc (variables_long es os (omega arith))

pub sorts_are : (es : List Entry) (known : List (Option SortId)) → length known ≡ length es →
    (n : ℕ) (s : SortId) → sort_at known n ≡ Some s → slice_get (sorts_of (variables_of es known)) n ≡ Some s
sorts_are [] [] l n s h = absurd (let z : None ≡ Some s = h in cc)
sorts_are [] (o ∷ os) l n s h = absurd (omega arith)
sorts_are (e ∷ es) [] l n s h = absurd (omega arith)
sorts_are (e ∷ es) (o ∷ os) l zero s h = ap (λ x. Some (unwrap_or x bool_sort)) h
sorts_are (e ∷ es) (o ∷ os) l (suc n) s h = sorts_are es os (omega arith) n s h

-- what is answered of variables that all have sorts
pub rule_answers : (es : List Entry) (known : List (Option SortId)) (r : Result (List VarInfo) SortFault) →
    AreSorted es → known ≡ known_sorts es →
    Answers (inferred_tests es known) (λ vars. vars ≡ variables_of es known) r →
    Answers nothing (λ vars. vars ≡ variables_of es (known_sorts es)) r
rule_answers es known (Ok vars) h e a = (tt, a.1 ∙ ap (λ ks. variables_of es ks) e)
rule_answers es known (Err fault) h e a = only_memory (inferred_tests es known) nothing fault
    (sorted_clean es known (λ n lt. subst (λ ks. (s : SortId) × (sort_at ks n ≡ Some s)) (sym e) (h n lt))) a
