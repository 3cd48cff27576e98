-- Looks over some rows, one after the other.
use Rattle.std.proofs.Common.{◌≡◌, ℕ, zero, suc, ◌+◌, ◌<◌, ◌≤◌, List, [], ◌∷◌, ◌++◌, Some, None, inl, inr, refl, ap}
use Rattle.std.proofs.Common.{sym, ◌∙◌, subst, arith, append_assoc, length, length-append, take}
use Rattle.std.specs.Prelude.{slice_get}
use Rattle.std.specs.List.{AllByRecursion}
use Rattle.std.proofs.lemmas.List.{append-nil}
use Rattle.term_core.specs.Tree.{Tree}
use Rattle.term_core.proofs.Items.{all_append, all_at}
use Rattle.spec_core.specs.declared.records.Spec.{Spec}
use Rattle.spec_core.specs.declared.records.Goal.{Goal}
use Rattle.spec_core.specs.declared.records.Verdict.TheVariants.{Fails, Spent}
use Rattle.spec_core.specs.Overlap.{NoOverlap}
use Rattle.spec_core.specs.Groups.{GroupsAreWhole}
use Rattle.spec_core.specs.Verdict.{IsVerdict}
use Rattle.refuter.specs.Finds.{SpentRows, NoneFails, Finds, IsFalse}
use Rattle.refuter.specs.Looks.{Passes, Ends, LooksOver, IsTally, IsAnswerOf}
use Rattle.refuter.specs.declared.parts.Look.{Look}
use Rattle.refuter.specs.declared.parts.Look.TheVariants.{Whole, Cut, Found}
use Rattle.refuter.specs.declared.parts.Tally.{Tally}
use Rattle.refuter.specs.declared.answers.Search.{Search}
use Rattle.refuter.proofs.Numbers.{lt_true, lt_false}

module _ (spec : Spec) (goal : Goal) (budget : ℕ) where
  spent_append : (xs ys : List (List Tree)) (k j : ℕ) → SpentRows spec goal budget xs k →
      SpentRows spec goal budget ys j → SpentRows spec goal budget (xs ++ ys) (k + j)
  spent_append [] ys k j h r = let e : k + j ≡ j = omega (arith, h) in
      subst (λ n. SpentRows spec goal budget ys n) (sym e) r
  spent_append (x ∷ xs) ys k j (inl w) r =
      let e : k + j ≡ (w.1.0 + j) + 1 = omega (arith, w.1.1) in
      inl (w.0, (w.1.0 + j, e, spent_append xs ys w.1.0 j w.1.2 r))
  spent_append (x ∷ xs) ys k j (inr w) r = inr (w.0, spent_append xs ys k j w.1 r)

  pub all_spent : (rows : List (List Tree)) →
      AllByRecursion (λ row. IsVerdict spec row budget goal Spent) rows → SpentRows spec goal budget rows (length rows)
  all_spent [] a = refl
  all_spent (row ∷ rows) a = inl (a.0, (length rows, omega arith, all_spent rows a.1))

  pub none_spent : (rows : List (List Tree)) → AllByRecursion (λ row. IsVerdict spec row budget goal Spent →
      ⊥) rows → SpentRows spec goal budget rows 0
  none_spent [] a = refl
  none_spent (row ∷ rows) a = inr (a.0, none_spent rows a.1)

  passes_append : (xs ys : List (List Tree)) (k j : ℕ) → Passes spec goal budget xs k →
      Passes spec goal budget ys j → Passes spec goal budget (xs ++ ys) (k + j)
  passes_append xs ys k j h r apart all =
      let a = h apart all in
      let b = r apart all in
      (all_append (λ row. IsVerdict spec row budget goal Fails → ⊥) xs ys a.0 b.0, spent_append xs ys k j a.1 b.1)

  passes_none : Passes spec goal budget [] 0
  passes_none apart all = (tt, refl)

  module _ (tries : ℕ) where
    -- nothing was looked at yet
    pub looks_none : (tally : Tally) → tally.tried ≤ tries → LooksOver spec goal budget tries [] tally tally Whole
    looks_none tally h = record {
      passed = [];
      left = [];
      spent = 0;
      parted = refl;
      tried = omega arith;
      skipped = omega arith;
      few = omega arith;
      within = h;
      passes = passes_none;
      ends = refl;
    }

    -- the tries are used up
    pub looks_cut : (rows : List (List Tree)) (tally : Tally) → tally.tried ≡ tries → 0 < length rows →
        LooksOver spec goal budget tries rows tally tally Cut
    looks_cut rows tally e h = record {
      passed = [];
      left = rows;
      spent = 0;
      parted = refl;
      tried = omega arith;
      skipped = omega arith;
      few = omega arith;
      within = omega arith;
      passes = passes_none;
      ends = (e, h);
    }

    -- a look at further rows, after others that were all looked at
    pub looks_more : (xs ys : List (List Tree)) (a b c : Tally) (look : Look) →
        LooksOver spec goal budget tries xs a b Whole → LooksOver spec goal budget tries ys b c look →
        LooksOver spec goal budget tries (xs ++ ys) a c look
    looks_more xs ys a b c look h r =
        let e : xs ≡ h.passed = h.parted ∙ ap (λ zs. h.passed ++ zs) h.ends ∙ append-nil h.passed in
        record {
          passed = h.passed ++ r.passed;
          left = r.left;
          spent = h.spent + r.spent;
          parted = ap (λ zs. zs ++ ys) e ∙ ap (λ zs. h.passed ++ zs) r.parted
              ∙ sym (append_assoc h.passed r.passed r.left);
          tried = let k = length-append h.passed r.passed in omega (arith, h.tried, r.tried);
          skipped = omega (arith, h.skipped, r.skipped);
          few = let k = length-append h.passed r.passed in omega (arith, h.few, r.few);
          within = r.within;
          passes = passes_append h.passed r.passed h.spent r.spent h.passes r.passes;
          ends = r.ends;
        }

    ends_before : (tried : ℕ) (left ys : List (List Tree)) (look : Look) → (look ≡ Whole → ⊥) →
        Ends spec goal budget tries tried left look → Ends spec goal budget tries tried (left ++ ys) look
    ends_before tried left ys Whole n h = absurd (n refl)
    ends_before tried left ys Cut n h = let k = length-append left ys in (h.0, omega (arith, h.1))
    ends_before tried [] ys (Found row) n h = absurd (let q : None ≡ Some row = h.1 in cc)
    ends_before tried (x ∷ left) ys (Found row) n h = h

    -- a look that ended early, before further rows
    pub looks_before : (xs ys : List (List Tree)) (a b : Tally) (look : Look) → (look ≡ Whole → ⊥) →
        LooksOver spec goal budget tries xs a b look → LooksOver spec goal budget tries (xs ++ ys) a b look
    looks_before xs ys a b look n h =
        record {
          passed = h.passed;
          left = h.left ++ ys;
          spent = h.spent;
          parted = ap (λ zs. zs ++ ys) h.parted ∙ append_assoc h.passed h.left ys;
          tried = h.tried;
          skipped = h.skipped;
          few = h.few;
          within = h.within;
          passes = h.passes;
          ends = ends_before b.tried h.left ys look n h.ends;
        }

    pub looks_tally : (rows : List (List Tree)) (a b : Tally) (look : Look) → IsTally tries a →
        LooksOver spec goal budget tries rows a b look → IsTally tries b
    looks_tally rows a b look t h = (omega (arith, t.0, h.tried, h.skipped, h.few), h.within)

    -- a look over some rows tries one more
    pub looks_on : (rows : List (List Tree)) (a b : Tally) → 0 < length rows →
        LooksOver spec goal budget tries rows a b Whole → a.tried < b.tried
    looks_on rows a b some h =
        let e : rows ≡ h.passed = h.parted ∙ ap (λ zs. h.passed ++ zs) h.ends ∙ append-nil h.passed in
        let k : length rows ≡ length h.passed = ap (λ xs. length xs) e in
        omega (arith, h.tried)

    none_fails : (passed left : List (List Tree)) →
        AllByRecursion (λ row. IsVerdict spec row budget goal Fails → ⊥) passed →
        NoneFails spec goal budget (length passed) (passed ++ left)
    none_fails passed left a k row lt at = all_at (λ r. IsVerdict spec r budget goal Fails → ⊥) passed a k row
        (below passed left k row lt at)
      where
        below : (xs ys : List (List Tree)) (k : ℕ) (row : List Tree) → k < length xs →
            slice_get (xs ++ ys) k ≡ Some row → slice_get xs k ≡ Some row
        below [] ys k row lt at = absurd (omega arith)
        below (x ∷ xs) ys zero row lt at = at
        below (x ∷ xs) ys (suc k) row lt at = below xs ys k row (omega arith) at

    behind : (xs ys : List (List Tree)) (row : List Tree) → slice_get ys 0 ≡ Some row →
        slice_get (xs ++ ys) (length xs) ≡ Some row
    behind [] ys row e = e
    behind (x ∷ xs) ys row e = behind xs ys row e

    taken : (xs ys : List (List Tree)) → take (length xs) (xs ++ ys) ≡ xs
    taken [] ys = refl
    taken (x ∷ xs) ys = ap (λ zs. x ∷ zs) (taken xs ys)

    -- a look over the whole list is a search
    pub finds_by : (rows : List (List Tree)) (a b : Tally) (look : Look) (search : Search) → a.tried ≡ 0 →
        a.skipped ≡ 0 → LooksOver spec goal budget tries rows a b look → IsAnswerOf look b search →
        NoOverlap spec → GroupsAreWhole spec → Finds spec goal budget tries rows search
    finds_by rows a b Whole search z y h e apart all =
        let w = h.passes apart all in
        let r : rows ≡ h.passed = h.parted ∙ ap (λ zs. h.passed ++ zs) h.ends ∙ append-nil h.passed in
        let t : b.tried ≡ length h.passed = omega (arith, h.tried) in
        let s : b.skipped ≡ h.spent = omega (arith, h.skipped) in
        let n : length rows ≡ length h.passed = ap (λ xs. length xs) r in
        subst (λ x. Finds spec goal budget tries rows x) (sym e) (
          omega (arith, h.within),
          sym (lt_false tries (length rows) (omega (arith, h.within))),
          subst (λ k. NoneFails spec goal budget k rows) (sym t)
              (subst (λ xs. NoneFails spec goal budget (length h.passed) xs) (sym h.parted)
              (none_fails h.passed h.left w.0)),
          subst (λ k. SpentRows spec goal budget (take k rows) b.skipped) (sym t)
              (subst (λ xs. SpentRows spec goal budget (take (length h.passed) xs) b.skipped) (sym h.parted)
              (subst (λ xs. SpentRows spec goal budget xs b.skipped) (sym (taken h.passed h.left))
              (subst (λ k. SpentRows spec goal budget h.passed k) (sym s) w.1))),
        )
    finds_by rows a b Cut search z y h e apart all =
        let w = h.passes apart all in
        let t : b.tried ≡ length h.passed = omega (arith, h.tried) in
        let s : b.skipped ≡ h.spent = omega (arith, h.skipped) in
        let n : length rows ≡ length h.passed + length h.left = ap (λ xs. length xs) h.parted
        ∙ length-append h.passed h.left in
        subst (λ x. Finds spec goal budget tries rows x) (sym e) (
          omega (arith, h.ends.0, h.ends.1),
          sym (lt_true tries (length rows) (omega (arith, h.ends.0, h.ends.1))),
          subst (λ k. NoneFails spec goal budget k rows) (sym t)
              (subst (λ xs. NoneFails spec goal budget (length h.passed) xs) (sym h.parted)
              (none_fails h.passed h.left w.0)),
          subst (λ k. SpentRows spec goal budget (take k rows) b.skipped) (sym t)
              (subst (λ xs. SpentRows spec goal budget (take (length h.passed) xs) b.skipped) (sym h.parted)
              (subst (λ xs. SpentRows spec goal budget xs b.skipped) (sym (taken h.passed h.left))
              (subst (λ k. SpentRows spec goal budget h.passed k) (sym s) w.1))),
        )
    finds_by rows a b (Found row) search z y h e apart all =
        let w = h.passes apart all in
        let t : b.tried ≡ length h.passed = omega (arith, h.tried) in
        let at : slice_get rows b.tried ≡ Some row = ap (λ k. slice_get rows k) t
        ∙ ap (λ xs. slice_get xs (length h.passed)) h.parted ∙ behind h.passed h.left row h.ends.1 in
        subst (λ x. Finds spec goal budget tries rows x) (sym e) (
          h.ends.0,
          at,
          h.ends.2,
          subst (λ k. NoneFails spec goal budget k rows) (sym t)
              (subst (λ xs. NoneFails spec goal budget (length h.passed) xs) (sym h.parted)
              (none_fails h.passed h.left w.0)),
        )

    pub false_by : (rows : List (List Tree)) (a b : Tally) (look : Look) (search : Search) → a.tried ≡ 0 →
        LooksOver spec goal budget tries rows a b look → IsAnswerOf look b search → IsFalse spec goal tries rows search
    false_by rows a b Whole search z h e = subst (λ x. IsFalse spec goal tries rows x) (sym e) tt
    false_by rows a b Cut search z h e = subst (λ x. IsFalse spec goal tries rows x) (sym e) tt
    false_by rows a b (Found row) search z h e =
        let t : b.tried ≡ length h.passed = omega (arith, h.tried) in
        let at : slice_get rows b.tried ≡ Some row = ap (λ k. slice_get rows k) t
        ∙ ap (λ xs. slice_get xs (length h.passed)) h.parted ∙ behind h.passed h.left row h.ends.1 in
        subst (λ x. IsFalse spec goal tries rows x) (sym e) (h.ends.0, at, h.ends.3, h.ends.4)
