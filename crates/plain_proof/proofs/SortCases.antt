-- The cases of a sort's constructors, one after the other.
use Rattle.std.proofs.Common.{◌≡◌, ℕ, suc, ◌+◌, ◌-◌, ◌<◌, ◌≤◌, List, [], ◌∷◌, ◌++◌, Option, Some, None, map, length}
use Rattle.std.proofs.Common.{take, drop, get_or, refl, ap, sym, ◌∙◌, subst, arith}
use Rattle.std.proofs.lemmas.List.{length-map, get_or-map, get_or_default}
use Rattle.std.proofs.lemmas.Option.{slice_get_within}
use Rattle.term_core.specs.declared.ids.SortId.{SortId}
use Rattle.term_core.specs.declared.ids.SymId.{SymId}
use Rattle.term_core.proofs.Items.{parted_at, taken_next}
use Rattle.spec_core.specs.declared.records.Equation.{Equation}
use Rattle.spec_core.specs.declared.records.Spec.{Spec}
use Rattle.spec_core.specs.declared.records.SymInfo.{SymInfo}
use Rattle.spec_core.specs.Order.{constructors_of, symbol_number, constructor_numbers}
use Rattle.spec_core.specs.Sig.{Sig, info_of}
use Rattle.spec_core.specs.WellSorted.{IsWellSorted}
use Rattle.spec_core.proofs.Constructors.{info_parts}
use Rattle.test_sets.proofs.ChildrenOfPatterns.{all_at}
use Rattle.test_sets.proofs.SortConstructors.{IsOneOf, each_of_sort}
use Rattle.plain_proof.specs.PlainProofs.{CaseCloses, CasesClose}
use Rattle.plain_proof.specs.CaseAnswers.{IsCase, HasCases}
use Rattle.plain_proof.proofs.OneSum.{one_sum}

-- the constructor of the symbol at a place
pub record At (sig : Sig) (s : SortId) (k : ℕ) (f : SymId) : Type 0 where
  pub constructor : ℕ × List SortId
  pub there : constructor ≡ get_or (constructors_of sig s) k constructor
  pub within : k < length (constructors_of sig s)
  pub number : f.0 ≡ constructor.0
  pub is : IsOneOf sig s constructor

module _ (sig : Sig) (s : SortId) (syms : List SymId) (numbers : map symbol_number syms ≡ constructor_numbers
    sig s) where
  pub as_many : length syms ≡ length (constructors_of sig s)
  as_many =
      sym (length-map syms symbol_number)
      ∙ ap (λ (ns : List ℕ). length ns) numbers
      ∙ length-map (constructors_of sig s) (λ (c : ℕ × List SortId). c.0)

  pub constructor_at : (k : ℕ) (f : SymId) → k < length syms → f ≡ get_or syms k f → At sig s k f
  constructor_at k f lt at =
      let cs : List (ℕ × List SortId) = constructors_of sig s in
      let d : ℕ × List SortId = (0, []) in
      let c : ℕ × List SortId = get_or cs k d in
      let below : k < length cs = omega (arith, lt, as_many) in
      let there : c ≡ get_or cs k c = get_or_default cs k d c below in
      let number : f.0 ≡ c.0 =
      ap (λ (x : SymId). x.0) at
      ∙ sym (get_or-map symbol_number syms k f 0 lt)
      ∙ ap (λ (ns : List ℕ). get_or ns k 0) numbers
      ∙ get_or-map (λ (x : ℕ × List SortId). x.0) cs k d 0 below in
      record {
        constructor = c;
        there = there;
        within = below;
        number = number;
        is = all_at (IsOneOf sig s) cs k c below there (each_of_sort sig s);
      }

-- the symbol is declared
pub symbol_within : (sig : Sig) (s : SortId) (k : ℕ) (f : SymId) → At sig s k f → f.0 < length sig.table
symbol_within sig s k f h =
    let e = info_parts sig.table h.constructor.0 h.is.info h.is.at in
    omega (arith, h.number, slice_get_within sig.table h.constructor.0 e.0 e.1)

module _ (spec : Spec) (fine : IsWellSorted spec) (ctx : List SortId) (e : Equation) (x : ℕ) where
  -- the constructor at a place is the symbol with the sorts of its arguments
  pub case_at : (s : SortId) (k budget : ℕ) (f : SymId) (found : Option ℕ) → (a : At spec.sig s k f) →
      ((i : SymInfo) → info_of spec.sig f.0 ≡ Some i → IsCase spec ctx e x (f.0, i.args) budget found) →
      IsCase spec ctx e x a.constructor budget found
  case_at s k budget f found a h =
      let i = a.is.info in
      let h2 = h i (ap (λ n. info_of spec.sig n) a.number ∙ a.is.at) in
      subst (λ (c : ℕ × List SortId). IsCase spec ctx e x c budget found) (λ j. (a.number j, a.is.args j)) h2

  sum_more : (cs : List (ℕ × List SortId)) (c : ℕ × List SortId) (m n : ℕ) → CasesClose spec ctx e x cs m →
      CaseCloses spec ctx e x c n → CasesClose spec ctx e x (cs ++ c ∷ []) (m + n)
  sum_more [] c m n h k = (n, 0, k, refl, omega (arith, h))
  sum_more (d ∷ cs) c m n h k = (h.0, h.1 + n, h.2, sum_more cs c h.1 n h.3 k, omega (arith, h.4))

  -- a sum over all cases is one over the first ones, one case and a rest
  sum_parts : (before : List (ℕ × List SortId)) (c : ℕ × List SortId) (rest : List (ℕ × List SortId)) (n : ℕ) →
      CasesClose spec ctx e x (before ++ c ∷ rest) n → (m : ℕ) × (k : ℕ) × CasesClose spec ctx e x before m
      × CaseCloses spec ctx e x c k × (m + k ≤ n)
  sum_parts [] c rest n h = (0, h.0, refl, h.2, omega (arith, h.4))
  sum_parts (d ∷ before) c rest n h =
      let r = sum_parts before c rest h.1 h.3 in
      (h.0 + r.0, r.1, (h.0, r.0, h.2, r.2, refl), r.3, omega (arith, h.4, r.4))

  pub next_case : (cs : List (ℕ × List SortId)) (k most left used : ℕ) (c : ℕ × List SortId) → k < length cs →
      c ≡ get_or cs k c → left ≤ most → CasesClose spec ctx e x (take k cs) (most - left) →
      IsCase spec ctx e x c left (Some used) → CasesClose spec ctx e x (take (k + 1) cs) (most - (left - used))
  next_case cs k most left used c lt at fits sum is =
      let n : most - left + used ≡ most - (left - used) = omega (arith, fits, is.1) in
      subst (λ (ds : List (ℕ × List SortId)). CasesClose spec ctx e x ds (most - (left - used)))
      (sym (taken_next cs k c lt at)) (subst (λ j. CasesClose spec ctx e x (take k cs ++ c ∷ []) j) n
      (sum_more (take k cs) c (most - left) used sum is.0))

  pub no_cases : (s : SortId) (k most left : ℕ) (c : ℕ × List SortId) →
      k < length (constructors_of spec.sig s) → c ≡ get_or (constructors_of spec.sig s) k c → left ≤ most →
      CasesClose spec ctx e x (take k (constructors_of spec.sig s)) (most - left) →
      IsCase spec ctx e x c left None → HasCases spec ctx e most s x → ⊥
  no_cases s k most left c lt at fits sum none all =
      let cs = constructors_of spec.sig s in
      let parts = sum_parts (take k cs) c (drop (suc k) cs) all.0
      (subst (λ (ds : List (ℕ × List SortId)). CasesClose spec ctx e x ds all.0)
      (sym (parted_at cs k c lt at)) all.1) in
      let one = one_sum spec ctx e x (take k cs) parts.0 (most - left) fine parts.2 sum in
      none parts.1 parts.3 (omega (arith, one, parts.4, all.2, fits))
