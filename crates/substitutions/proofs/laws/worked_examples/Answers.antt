use Rattle.std.proofs.Common.{◌≡◌, ◌≢◌, ℕ, zero, suc, List, [], ◌∷◌, Option, Some, None, refl, ap, subst, ◌∙◌, arith}
use Rattle.term_core.specs.Tree.{Tree, var, app, none}
use Rattle.term_core.specs.declared.ids.SortId.{SortId}
use Rattle.spec_core.specs.declared.records.SymInfo.{SymInfo}
use Rattle.spec_core.specs.Sorts.{Sorted}
use Rattle.spec_core.specs.Naturals.{nat, naturals_sig, zero_term, succ_term}
use Rattle.substitutions.specs.Substitution.{entry, image, apply, IsComposed}
use Rattle.substitutions.specs.Fitting.{Fits}
use Rattle.substitutions.proofs.Instances.{composed_from_images}
use Rattle.substitutions.proofs.laws.worked_examples.Goals as goal

abbrev for_x : List (Option Tree)
for_x = Some (succ_term (var 1)) ∷ []

abbrev for_y : List (Option Tree)
for_y = None ∷ Some zero_term ∷ []

composed_images : (n : ℕ) → image (Some (succ_term zero_term) ∷ Some zero_term ∷ []) n ≡ apply for_y (image for_x n)
composed_images zero = refl
composed_images (suc zero) = refl
composed_images (suc (suc n)) = refl

other_images : (n : ℕ) → image (Some (succ_term (var 1)) ∷ Some zero_term ∷ []) n ≡ apply for_x (image for_y n)
other_images zero = refl
other_images (suc zero) = refl
other_images (suc (suc n)) = refl

not_composed : IsComposed for_x for_y (Some (succ_term (var 1)) ∷ Some zero_term ∷ []) → ⊥
not_composed h =
    let e : succ_term (var 1) ≡ succ_term zero_term = h (var 0) in
    let k : var 1 ≡ zero_term = cc in
    cc

same_sort : (s r : SortId) → Some s ≡ Some r → s ≡ r
same_sort s r e = cc

fitting : Fits naturals_sig (nat ∷ []) (nat ∷ nat ∷ []) for_x
fitting zero s e = (succ_term (var 1), refl, (_, refl, same_sort nat s e, (refl, tt)))
fitting (suc n) s e = absurd (let q : None ≡ Some s = e in cc)

missing : Fits naturals_sig (nat ∷ []) (nat ∷ nat ∷ []) [] → ⊥
missing h =
    let w = h 0 nat refl in
    let e : None ≡ Some w.0 = w.1 in
    cc

wrong_sort : Fits naturals_sig (nat ∷ []) (nat ∷ nat ∷ []) (Some (app 0 none) ∷ []) → ⊥
wrong_sort h =
    let w = h 0 nat refl in
    let e : Some (app 0 none) ≡ Some w.0 = w.1 in
    let same : w.0 ≡ app 0 none = cc in
    let p : Sorted naturals_sig (nat ∷ nat ∷ []) (app 0 none) nat = subst
    (λ t. Sorted naturals_sig (nat ∷ nat ∷ []) t nat) same w.2 in
    let q : ◌≡◌ {A = SymInfo} (record { args = []; result = record { 0 = 0 } }) p.0 = let a : Some
    (record { args = []; result = record { 0 = 0 } }) ≡ Some p.0 = p.1 in cc in
    let k : ◌≡◌ {A = ℕ} 0 1 = ap (λ (i : SymInfo). i.result.0) q ∙ ap (λ (s : SortId). s.0) p.2 in
    omega arith

others : (m : ℕ) → m ≢ 1 → entry for_y m ≡ entry [] m
others zero other = refl
others (suc zero) other = absurd (other refl)
others (suc (suc m)) other = refl

pub returns : goal.returns
returns c = record {
  first = refl;
  second = refl;
  exchanged = refl;
  composed = composed_from_images for_x for_y _ composed_images;
  other_order = composed_from_images for_y for_x _ other_images;
  not_composed = not_composed;
  fitting = fitting;
  missing = missing;
  wrong_sort = wrong_sort;
  set = (refl, others);
}
