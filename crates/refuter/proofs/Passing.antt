-- A block of which all members have one verdict.
use Rattle.std.proofs.Common.{◌≡◌, ℕ, zero, suc, ◌+◌, ◌-◌, ◌<◌, ◌≤◌, min, List, [], ◌∷◌, ◌++◌, Some, refl, sym, subst}
use Rattle.std.proofs.Common.{arith, length, take, drop, length-drop}
use Rattle.std.specs.Prelude.{map, slice_get}
use Rattle.std.specs.List.{AllByRecursion}
use Rattle.term_core.specs.Tree.{Tree}
use Rattle.term_core.specs.declared.ids.SortId.{SortId}
use Rattle.term_core.proofs.Members.{In}
use Rattle.term_core.proofs.Items.{all_at, drop_past}
use Rattle.std.proofs.lemmas.List.{take-append-drop, length-take-le}
use Rattle.spec_core.specs.declared.records.Spec.{Spec}
use Rattle.spec_core.specs.declared.records.Goal.{Goal}
use Rattle.spec_core.specs.declared.records.Verdict.{Verdict}
use Rattle.spec_core.specs.declared.records.Verdict.TheVariants.{Holds, Fails, Spent}
use Rattle.spec_core.specs.WellSorted.{IsWellSorted, sorts_of}
use Rattle.spec_core.specs.Truth.{AreValuesOf}
use Rattle.spec_core.specs.Verdict.{IsVerdict}
use Rattle.ground_eval.specs.Sides.{IsDecided}
use Rattle.ground_eval.proofs.GoalSides.{goal_verdict-unique}
use Rattle.refuter.specs.declared.parts.Look.TheVariants.{Whole, Cut, Found}
use Rattle.refuter.specs.declared.parts.Tally.{Tally}
use Rattle.ground_eval.specs.Opened.{AllHaveVerdict}
use Rattle.refuter.specs.Blocks.{rows_of, block}
use Rattle.refuter.specs.Looks.{Passes, LooksOver}
use Rattle.refuter.proofs.Blocks.{all_of_block}
use Rattle.refuter.proofs.Looks.{all_spent, none_spent}
use Rattle.refuter.proofs.Members.{rows_are}

all_both : {X : Type 0} (P Q : X → Type 0) (xs : List X) → ((x : X) → P x → Q x) → AllByRecursion P xs →
    AllByRecursion Q xs
all_both P Q [] f a = tt
all_both P Q (x ∷ xs) f a = (f x a.0, all_both P Q xs f a.1)

all_take : {X : Type 0} (P : X → Type 0) (xs : List X) (n : ℕ) → AllByRecursion P xs → AllByRecursion P (take n xs)
all_take P xs zero a = tt
all_take P [] (suc n) a = tt
all_take P (x ∷ xs) (suc n) a = (a.0, all_take P xs n a.1)

module _ (spec : Spec) (goal : Goal) (budget : ℕ) where
  -- the row has values of the variables' sorts, and the verdict under them
  pub record Has (verdict : Verdict) (row : List Tree) : Type 0 where
    pub values : AreValuesOf spec (sorts_of goal.vars) row
    pub decided : IsDecided spec row budget goal verdict

  -- each row of the block has the verdict
  pub block_has : (depth : ℕ) (sorts others : List SortId) (firsts : List Tree) (verdict : Verdict) →
      sorts ++ others ≡ sorts_of goal.vars → In firsts (rows_of spec.sig depth sorts) →
      AllHaveVerdict spec goal firsts budget verdict → AllByRecursion (Has verdict) (block spec.sig depth firsts others)
  block_has depth sorts others firsts verdict e a decided =
      let are : AllByRecursion (AreValuesOf spec (sorts_of goal.vars))
      (rows_of spec.sig depth (sorts ++ others)) = subst
      (λ ss. AllByRecursion (AreValuesOf spec ss) (rows_of spec.sig depth (sorts ++ others))) e
      (rows_are spec depth (sorts ++ others)) in
      both (rows_of spec.sig depth others) (all_of_block spec.sig depth (AreValuesOf spec (sorts_of goal.vars))
      sorts others firsts are a)
    where
      both : (rows : List (List Tree)) →
          AllByRecursion (AreValuesOf spec (sorts_of goal.vars)) (map (λ r. firsts ++ r) rows) →
          AllByRecursion (Has verdict) (map (λ r. firsts ++ r) rows)
      both [] w = tt
      both (r ∷ rows) w = (record { values = w.0; decided = decided r w.0 }, both rows w.1)

  -- the first of them is found
  pub looks_found : (tries : ℕ) (rows : List (List Tree)) (tally : Tally) (row : List Tree) →
      AllByRecursion (Has Fails) rows → slice_get rows 0 ≡ Some row → tally.tried < tries →
      LooksOver spec goal budget tries rows tally tally (Found row)
  looks_found tries rows tally row a at lt =
      let h = all_at (Has Fails) rows a 0 row at in
      record {
        passed = [];
        left = rows;
        spent = 0;
        parted = refl;
        tried = omega arith;
        skipped = omega arith;
        few = omega arith;
        within = omega arith;
        passes = λ apart all. (tt, refl);
        ends = (
          lt,
          at,
          h.decided.0,
          h.values,
          h.decided.1,
        );
      }

  module _ (fine : IsWellSorted spec) (k : ℕ) (at : slice_get spec.goals k ≡ Some goal) where
    passes_spent : (rows : List (List Tree)) → AllByRecursion (Has Spent) rows →
        Passes spec goal budget rows (length rows)
    passes_spent rows a apart all = (
      all_both (Has Spent) (λ row. IsVerdict spec row budget goal Fails →
          ⊥) rows (λ row h f. let e : Spent ≡ Fails = goal_verdict-unique spec fine apart all row budget goal k
          at h.values Spent Fails (h.decided apart all) f in cc) a,
      all_spent spec goal budget rows (all_both (Has Spent) (λ row. IsVerdict spec row budget goal Spent) rows
          (λ row h. h.decided apart all) a),
    )

    passes_holds : (rows : List (List Tree)) → AllByRecursion (Has Holds) rows → Passes spec goal budget rows 0
    passes_holds rows a apart all = (
      all_both (Has Holds) (λ row. IsVerdict spec row budget goal Fails →
          ⊥) rows (λ row h f. let e : Holds ≡ Fails = goal_verdict-unique spec fine apart all row budget goal k
          at h.values Holds Fails h.decided f in cc) a,
      none_spent spec goal budget rows (all_both (Has Holds) (λ row. IsVerdict spec row budget goal Spent →
          ⊥) rows (λ row h f. let e : Holds ≡ Spent = goal_verdict-unique spec fine apart all row budget goal k
          at h.values Holds Spent h.decided f in cc) a),
    )

    module _ (tries : ℕ) (rows : List (List Tree)) (old new : Tally) (taken spent : ℕ)
        (size : taken ≡ min (length rows) (tries - old.tried)) (few : old.tried ≤ tries)
        (tried : new.tried ≡ old.tried + taken) (skipped : new.skipped ≡ old.skipped + spent)
        (some : spent ≤ taken) (passes : Passes spec goal budget (take taken rows) spent) where
      -- all of them are passed over
      pub looks_whole : length rows ≤ taken → LooksOver spec goal budget tries rows old new Whole
      looks_whole h =
          let k = length-take-le taken rows (omega arith) in
          record {
            passed = take taken rows;
            left = drop taken rows;
            spent = spent;
            parted = sym
                (take-append-drop taken rows);
            tried = omega arith;
            skipped = skipped;
            few = omega arith;
            within = omega arith;
            passes = passes;
            ends = drop_past rows taken h;
          }

      -- the tries are used up among them
      pub looks_short : taken < length rows → LooksOver spec goal budget tries rows old new Cut
      looks_short h =
          let k = length-take-le taken rows (omega arith) in
          let d = length-drop taken rows in
          record {
            passed = take taken rows;
            left = drop taken rows;
            spent = spent;
            parted = sym
                (take-append-drop taken rows);
            tried = omega arith;
            skipped = skipped;
            few = omega arith;
            within = omega arith;
            passes = passes;
            ends = (omega arith, omega arith);
          }

    pub taken_spent : (rows : List (List Tree)) (n : ℕ) → AllByRecursion (Has Spent) rows → n ≤ length rows →
        Passes spec goal budget (take n rows) n
    taken_spent rows n a h = subst (λ m. Passes spec goal budget (take n rows) m) (length-take-le n rows h)
        (passes_spent (take n rows) (all_take (Has Spent) rows n a))

    pub taken_holds : (rows : List (List Tree)) (n : ℕ) → AllByRecursion (Has Holds) rows →
        Passes spec goal budget (take n rows) 0
    taken_holds rows n a = passes_holds (take n rows) (all_take (Has Holds) rows n a)
