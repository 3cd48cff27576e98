-- Bindings one by one.
use Rattle.std.proofs.Common.{◌≡◌, ◌≤◌, ◌<◌, ℕ, zero, suc, ◌+◌, List, [], ◌∷◌, ◌++◌, Some, None, inr, ap, sym, ◌∙◌}
use Rattle.std.proofs.Common.{subst, arith, length, take, drop, get_or, map}
use Rattle.std.specs.Prelude.{slice_get}
use Rattle.std.proofs.lemmas.List.{map-append, take_more, take_all, length-map}
use Rattle.spec_core.specs.Findings.{Clean, First, each_after}
use Rattle.spec_core.specs.Sig.{Sig}
use Rattle.spec_grammar.specs.declared.raw.RawBind.{RawBind}
use Rattle.sort_check.specs.Answers.{Tells}
use Rattle.sort_check.specs.GoalTests.{bind_tests, binds_tests, bound, seventeenth_test}
use Rattle.sort_check.specs.declared.entries.Entry.{Entry}
use Rattle.sort_check.specs.declared.faults.SortFault.{SortFault}
use Rattle.sort_check.specs.declared.faults.SortFault.TheVariants.{Sort}
use Rattle.sort_check.specs.declared.faults.SortKind.TheVariants.{TooManyVariables}
use Rattle.sort_check.proofs.Telling.{tells_first, after_tells}

-- the elements of a list, each made into another
pub made_next : {A B : Type 0} (f : A → B) (xs : List A) (i : ℕ) (x : A) (old new : List B) → i < length xs →
    x ≡ get_or xs i x → old ≡ map f (take i xs) → new ≡ old ++ f x ∷ [] → new ≡ map f (take (i + 1) xs)
made_next f xs i x old new lt is e h = h ∙ ap (λ ys. ys ++ f x ∷ []) e ∙ sym (map-append f (take i xs) (x ∷ []))
    ∙ ap (λ ys. map f ys) (ap (λ y. take i xs ++ y ∷ []) is ∙ sym (take_more xs i x lt))

drop_some : (bs : List RawBind) (n : ℕ) (b : RawBind) → slice_get bs n ≡ Some b →
    First (seventeenth_test (drop n bs)) (Sort b.name.at TooManyVariables)
drop_some [] n b e = absurd (let z : None ≡ Some b = e in cc)
drop_some (c ∷ bs) zero b e =
    let z : Some c ≡ Some b = e in
    let k : b ≡ c = cc in
    (tt, ap (λ (d : RawBind). Sort d.name.at TooManyVariables) k)
drop_some (c ∷ bs) (suc n) b e = drop_some bs n b e

drop_none : (bs : List RawBind) (n : ℕ) → slice_get bs n ≡ None → Clean (seventeenth_test (drop n bs)) × (length bs ≤ n)
drop_none [] zero e = (tt, omega arith)
drop_none [] (suc n) e = (tt, omega arith)
drop_none (c ∷ bs) zero e = absurd (let z : Some c ≡ None = e in cc)
drop_none (c ∷ bs) (suc n) e = let r = drop_none bs n e in (r.0, omega (arith, r.1))

module _ (sig : Sig) (bs : List RawBind) where
  pub bind_fault : (i : ℕ) (b : RawBind) (e : SortFault) → i < length bs → b ≡ get_or bs i b →
      Clean (each_after (bind_tests sig) [] (take i bs)) → Tells (bind_tests sig (take i bs) b) e →
      Tells (binds_tests sig bs) e
  bind_fault i b e lt is c h = tells_first (each_after (bind_tests sig) [] bs) (seventeenth_test (drop 16 bs)) e
      (after_tells (bind_tests sig) bs i b e lt is c h)

  module _ (i : ℕ) (end : length bs ≤ i) (clean : Clean (each_after (bind_tests sig) [] (take i bs))) where
    all_clean : Clean (each_after (bind_tests sig) [] bs)
    all_clean = subst (λ xs. Clean (each_after (bind_tests sig) [] xs)) (take_all i bs end) clean

    pub many_fault : (b : RawBind) → slice_get bs 16 ≡ Some b →
        First (binds_tests sig bs) (Sort b.name.at TooManyVariables)
    many_fault b e = inr (all_clean, drop_some bs 16 b e)

    pub binds_made : (es : List Entry) → es ≡ map (bound sig) (take i bs) → slice_get bs 16 ≡ None →
        Clean (binds_tests sig bs) × (es ≡ map (bound sig) bs)
    binds_made es made e = (
      (all_clean, (drop_none bs 16 e).0),
      made ∙ ap (λ xs. map (bound sig) xs) (take_all i bs end),
    )

    pub few_made : (es : List Entry) → es ≡ map (bound sig) (take i bs) → slice_get bs 16 ≡ None → length es ≤ 16
    few_made es made e = omega (
      arith,
      ap (λ xs. length xs) (made ∙ ap (λ xs. map (bound sig) xs) (take_all i bs end)),
      length-map bs (bound sig),
      (drop_none bs 16 e).1,
    )
