-- Whether values are missing, by the values that begin with each constructor.
use Rattle.std.proofs.Common.{◌≡◌, ℕ, zero, suc, ◌+◌, ◌<◌, ◌≤◌, List, [], ◌∷◌, ◌++◌, Bool, true, false, cond, Option}
use Rattle.std.proofs.Common.{Some, None, Result, Ok, Err, inl, inr, map, length, refl, ap, sym, ◌∙◌, subst, arith}
use Rattle.std.specs.Prelude.{◌==◌, IfOk, MatchOption, is_some}
use Rattle.std.specs.List.{AllByRecursion, AllZip, Any}
use Rattle.std.proofs.lemmas.Bool.Decides.{nat_tests}
use Rattle.term_core.specs.Tree.{Tree, Trees, var, app, none, some, trees_of, list_of}
use Rattle.term_core.specs.declared.ids.SortId.{SortId}
use Rattle.term_core.specs.declared.ids.SymId.{SymId}
use Rattle.term_core.specs.declared.memory.OutOfMemory.{OutOfMemory}
use Rattle.spec_core.specs.declared.records.SymInfo.{SymInfo}
use Rattle.spec_core.specs.Sig.{Sig, info_of, IsConstructor, IsSort, SortsAreInRange}
use Rattle.spec_core.specs.Sorts.{Sorted, SortedAll, IsValue}
use Rattle.spec_core.specs.WellSorted.{IsPattern, ArePatterns}
use Rattle.spec_core.specs.Declarations.{IsDeclared}
use Rattle.spec_core.proofs.Ranges.{sorts_in_range}
use Rattle.coverage_check.specs.Values.{AreValues}
use Rattle.coverage_check.specs.Rows.{IsRow}
use Rattle.coverage_check.specs.Admits.{Admits, AdmitAll, SomeAdmits}
use Rattle.coverage_check.specs.Opened.{opened}
use Rattle.coverage_check.specs.Columns.{IsVariable, has_symbol_at, symbols_at, HasNoSymbols, fronted, behind_first}
use Rattle.coverage_check.specs.Named.{IsSettled}
use Rattle.coverage_check.specs.Decisions.{IsPatternOf, ArePatternsOf, HasSorts, SomeMissing, NoneMissing, IsDecision}
use Rattle.coverage_check.specs.Decisions.{IsDecisionUnder, IsFirstMissing, BeginsOtherwise, IsOf}
use Rattle.coverage_check.proofs.Joined.{values_join, values_parts, sorted_length}
use Rattle.coverage_check.proofs.OpenedRows.{opened_admits, admits_opened}
use Rattle.coverage_check.proofs.Fronts.{front_pairs, pairs_back, moved_back}

module _ (sig : Sig) where
  pub in_range : IsDeclared sig → SortsAreInRange sig
  in_range d = sorts_in_range sig d

  mutual
    pattern_of : (ctx : List SortId) (t : Tree) (s : SortId) → Sorted sig ctx t s → IsPattern sig t →
        IsPatternOf sig t s
    pattern_of ctx (var n) s p q = tt
    pattern_of ctx (app f ts) s p q = (q.0, (p.0, p.1, p.2, patterns_of ctx ts p.0.args p.3 q.1))

    patterns_of : (ctx : List SortId) (ts : Trees) (ss : List SortId) → SortedAll sig ctx ts ss →
        ArePatterns sig ts → ArePatternsOf sig ts ss
    patterns_of ctx none [] p q = tt
    patterns_of ctx none (s ∷ ss) p q = absurd p
    patterns_of ctx (some t ts) [] p q = absurd p
    patterns_of ctx (some t ts) (s ∷ ss) p q = (pattern_of ctx t s p.0 q.0, patterns_of ctx ts ss p.1 q.1)

  pub rows_have_sorts : (sorts : List SortId) (rows : List (List Tree)) →
      AllByRecursion (IsRow sig sorts) rows → AllByRecursion (HasSorts sig sorts) rows
  rows_have_sorts sorts [] h = tt
  rows_have_sorts sorts (row ∷ rows) h = (
    patterns_of h.0.sorted.0 (trees_of row) sorts h.0.sorted.1
        h.0.patterns,
    rows_have_sorts sorts rows h.1,
  )

  pub all_joined : (P : SortId → Type 0) (ss rs : List SortId) → AllByRecursion P ss → AllByRecursion P rs →
      AllByRecursion P (ss ++ rs)
  all_joined P [] rs a b = b
  all_joined P (s ∷ ss) rs a b = (a.0, all_joined P ss rs a.1 b)

  -- each sort of the signature has a value
  pub have_values : IsDeclared sig → (ss : List SortId) → AllByRecursion (IsSort sig) ss →
      (vs : List Tree) × AreValues sig ss vs
  have_values d [] h = ([], (tt, tt))
  have_values d (s ∷ ss) h =
      let one = d.small s.0 h.0 in
      let more = have_values d ss h.1 in
      (one.0 ∷ more.0, ((one.1.0, more.1.0), (one.1.1, more.1.1)))

  pub row_length : (row : List Tree) (ss : List SortId) → HasSorts sig ss row → length row ≡ length ss
  row_length [] [] h = refl
  row_length [] (s ∷ ss) h = absurd h
  row_length (t ∷ ts) [] h = absurd h
  row_length (t ∷ ts) (s ∷ ss) h = ap suc (row_length ts ss h.1)

  pub values_length : (vs : List Tree) (ss : List SortId) → AreValues sig ss vs → length vs ≡ length ss
  values_length [] [] h = refl
  values_length [] (s ∷ ss) h = absurd h.0
  values_length (v ∷ vs) [] h = absurd h.0
  values_length (v ∷ vs) (s ∷ ss) h = ap suc (values_length vs ss (h.0.1, h.1.1))

  -- under one constructor
  module _ (c : ℕ) (i : SymInfo) (s : SortId) (ss : List SortId) (rows : List (List Tree))
      (constructor : IsConstructor sig c) (at : info_of sig c ≡ Some i) (result : i.result ≡ s)
      (sorted : AllByRecursion (HasSorts sig (s ∷ ss)) rows) where
    under_missing : SomeMissing sig (opened c (length i.args) rows) (i.args ++ ss) →
        IsDecisionUnder sig c rows (s ∷ ss) true
    under_missing (ws, u) =
        let p = values_parts sig ws i.args ss u.0 in
        let ts = p.0 in
        let us = p.1 in (
          ts,
          us,
          (
            (((i, at, result, p.3), p.5.0), ((constructor, p.4), p.5.1)),
            λ a. u.1 (subst (λ vs. SomeAdmits (opened c (length i.args) rows) vs) (sym p.2)
                (opened_admits c (length i.args) ts us rows (sorted_length sig ts i.args p.3) a)),
          ),
        )

    under_none : NoneMissing sig (opened c (length i.args) rows) (i.args ++ ss) →
        IsDecisionUnder sig c rows (s ∷ ss) false
    under_none h args vs v =
        let k : Some v.0.0.0 ≡ Some i = sym v.0.0.1 ∙ at in
        let j : v.0.0.0 ≡ i = cc in
        let p : SortedAll sig [] args i.args = subst (λ (x : SymInfo). SortedAll sig [] args x.args) j v.0.0.3 in
        admits_opened sig c i at s ss args vs rows sorted (sorted_length sig args i.args p)
        (h (list_of args ++ vs) (values_join sig args vs i.args ss p v.1.0.1 (v.0.1, v.1.1)))

    pub under_decided : (found : Result Bool OutOfMemory) (orows : List (List Tree)) (osorts : List SortId) →
        orows ≡ opened c (length i.args) rows → osorts ≡ i.args ++ ss →
        IfOk found (IsDecision sig orows osorts) → IfOk found (IsDecisionUnder sig c rows (s ∷ ss))
    under_decided (Err e) orows osorts p q h = tt
    under_decided (Ok true) orows osorts p q h = under_missing
        (subst (λ rs. SomeMissing sig rs (i.args ++ ss)) p (subst (λ us. SomeMissing sig orows us) q h))
    under_decided (Ok false) orows osorts p q h = under_none
        (subst (λ rs. NoneMissing sig rs (i.args ++ ss)) p (subst (λ us. NoneMissing sig orows us) q h))

  -- values that some row admits, which begin with a constructor with which no row begins, are admitted whatever they begin with
  otherwise_admits : (c : ℕ) (ts : Trees) (v : Tree) (us : List Tree) (rows : List (List Tree)) →
      AllByRecursion (BeginsOtherwise c) rows → SomeAdmits rows (app c ts ∷ us) → SomeAdmits rows (v ∷ us)
  otherwise_admits c ts v us [] h a = absurd a
  otherwise_admits c ts v us ([] ∷ rows) h (inl a) = absurd a
  otherwise_admits c ts v us ((var n ∷ ps) ∷ rows) h (inl a) = inl (tt, a.1)
  otherwise_admits c ts v us ((app f qs ∷ ps) ∷ rows) h (inl a) = absurd (h.0 a.0.0)
  otherwise_admits c ts v us (row ∷ rows) h (inr a) = inr (otherwise_admits c ts v us rows h.1 a)

  module _ (declared : IsDeclared sig) (c : ℕ) (s : SortId) (ss : List SortId) (rows : List (List Tree))
      (of : IsOf sig s c) (unused : AllByRecursion (BeginsOtherwise c) rows) where
    unused_none : IsSettled sig rows (s ∷ ss) c → NoneMissing sig rows (s ∷ ss)
    unused_none h [] v = absurd v.0
    unused_none h (u ∷ us) v =
        let i = of.1.0 in
        let args = have_values declared i.args (in_range declared c i of.1.1).1 in
        let ts = trees_of args.0 in
        otherwise_admits c ts u us rows unused (h ts us (
          ((i, of.1.1, of.1.2, args.1.0), v.0.1),
          ((of.0, args.1.1), v.1.1),
        ))

    pub unused_decided : (found : Result Bool OutOfMemory) → IfOk found (IsDecisionUnder sig c rows (s ∷ ss)) →
        IfOk found (IsDecision sig rows (s ∷ ss))
    unused_decided (Err e) h = tt
    unused_decided (Ok true) (args, vs, u) = (app c args ∷ vs, u)
    unused_decided (Ok false) h = unused_none h

  -- if all constructors are settled, nothing is missing
  pub all_settled : (n : ℕ) (s : SortId) (ss : List SortId) (rows : List (List Tree)) → sig.constructors ≤ n →
      ((d : ℕ) → d < n → IsSettled sig rows (s ∷ ss) d) → NoneMissing sig rows (s ∷ ss)
  all_settled n s ss rows h settled [] v = absurd v.0
  all_settled n s ss rows h settled (var k ∷ us) v = absurd v.1.0
  all_settled n s ss rows h settled (app d args ∷ us) v = settled d (omega (arith, v.1.0.0)) args us v

  -- values are missing if a first constructor is found that leaves some
  pub found_decided : (rows : List (List Tree)) (sorts : List SortId) (found : Option SymId) (b : Bool) →
      b ≡ is_some found → MatchOption found (NoneMissing sig rows sorts)
      (λ sym. IsFirstMissing sig rows sorts sym.0) → IsDecision sig rows sorts b
  found_decided rows sorts None b e settled = subst (λ x. IsDecision sig rows sorts x) (sym e) settled
  found_decided rows sorts (Some sym_found) b e first =
      let values = first.missing in
      subst (λ x. IsDecision sig rows sorts x) (sym e) (app sym_found.0 values.0 ∷ values.1, values.2)

  -- a row of variables admits all values
  variables_admit : (row vs : List Tree) → AllByRecursion IsVariable row → length row ≡ length vs →
      AdmitAll (trees_of row) (trees_of vs)
  variables_admit [] [] h n = tt
  variables_admit [] (v ∷ vs) h n = absurd (omega arith)
  variables_admit (p ∷ ps) [] h n = absurd (omega arith)
  variables_admit (var m ∷ ps) (v ∷ vs) h n = (tt, variables_admit ps vs h.1 (omega arith))
  variables_admit (app f ts ∷ ps) (v ∷ vs) h n = absurd h.0

  pub variables_cover : (sorts : List SortId) (rows : List (List Tree)) →
      AllByRecursion (HasSorts sig sorts) rows → Any (AllByRecursion IsVariable) rows → NoneMissing sig rows sorts
  variables_cover sorts [] h a vs v = absurd (let l : a.0 < 0 = a.2 in omega arith)
  variables_cover sorts (row ∷ rows) h (zero, x, l, e, a) vs v =
      let free : AllByRecursion IsVariable row = subst (λ r. AllByRecursion IsVariable r) (sym e) a in
      inl (variables_admit row vs free (row_length row sorts h.0 ∙ sym (values_length vs sorts v)))
  variables_cover sorts (row ∷ rows) h (suc k, x, l, e, a) vs v = inr
      (variables_cover sorts rows h.1 (k, x, omega arith, e, a) vs v)

  each_variable : (row : List Tree) → ((k : ℕ) → k < length row → has_symbol_at k row ≡ false) →
      AllByRecursion IsVariable row
  each_variable [] h = tt
  each_variable (var n ∷ ps) h = (tt, each_variable ps (λ k b. h (suc k) (omega arith)))
  each_variable (app f ts ∷ ps) h = absurd (let e : true ≡ false = h 0 (omega arith) in cc)

  not_counted : (b : Bool) (n : ℕ) → cond b (1 + n) n ≡ 0 → b ≡ false
  not_counted true n e = absurd (omega arith)
  not_counted false n e = refl

  -- rows without symbols leave values missing if there are none
  pub no_symbols : IsDeclared sig → (sorts : List SortId) (rows : List (List Tree)) (b : Bool) →
      AllByRecursion (IsSort sig) sorts → AllByRecursion (HasSorts sig sorts) rows →
      HasNoSymbols rows (length sorts) → b ≡ (length rows == 0) → IsDecision sig rows sorts b
  no_symbols d sorts [] b range h free_of e =
      let values = have_values d sorts range in
      subst (λ x. IsDecision sig [] sorts x) (sym e) (values.0, (values.1, λ a. a))
  no_symbols d sorts (row ∷ rows) b range h free_of e =
      let k : (suc (length rows) == 0) ≡ false = grind (arith, nat_tests) in
      let n = row_length row sorts h.0 in
      let free : AllByRecursion IsVariable row = each_variable row
      (λ j l. not_counted (has_symbol_at j row) (symbols_at j rows) (free_of j (omega arith))) in
      subst (λ x. IsDecision sig (row ∷ rows) sorts x) (sym (e ∙ k)) (variables_cover sorts (row ∷ rows) h (
        0,
        row,
        omega arith,
        refl,
        free,
      ))

  -- pairs of values and sorts, of patterns and sorts, and of patterns and terms
  pair_values : (vs : List Tree) (ss : List SortId) → AreValues sig ss vs → AllZip (λ v s. IsValue sig s v) vs ss
  pair_values [] [] h = tt
  pair_values [] (s ∷ ss) h = absurd h.0
  pair_values (v ∷ vs) [] h = absurd h.0
  pair_values (v ∷ vs) (s ∷ ss) h = ((h.0.0, h.1.0), pair_values vs ss (h.0.1, h.1.1))

  paired_values : (vs : List Tree) (ss : List SortId) → AllZip (λ v s. IsValue sig s v) vs ss → AreValues sig ss vs
  paired_values [] [] h = (tt, tt)
  paired_values [] (s ∷ ss) h = absurd h
  paired_values (v ∷ vs) [] h = absurd h
  paired_values (v ∷ vs) (s ∷ ss) h =
      let r = paired_values vs ss h.1 in
      ((h.0.0, r.0), (h.0.1, r.1))

  pair_patterns : (ts : List Tree) (ss : List SortId) → HasSorts sig ss ts → AllZip (λ t s. IsPatternOf sig t s) ts ss
  pair_patterns [] [] h = tt
  pair_patterns [] (s ∷ ss) h = absurd h
  pair_patterns (t ∷ ts) [] h = absurd h
  pair_patterns (t ∷ ts) (s ∷ ss) h = (h.0, pair_patterns ts ss h.1)

  paired_patterns : (ts : List Tree) (ss : List SortId) → AllZip (λ t s. IsPatternOf sig t s) ts ss → HasSorts sig ss ts
  paired_patterns [] [] h = tt
  paired_patterns [] (s ∷ ss) h = absurd h
  paired_patterns (t ∷ ts) [] h = absurd h
  paired_patterns (t ∷ ts) (s ∷ ss) h = (h.0, paired_patterns ts ss h.1)

  pair_admits : (ps vs : List Tree) → AdmitAll (trees_of ps) (trees_of vs) → AllZip Admits ps vs
  pair_admits [] [] h = tt
  pair_admits [] (v ∷ vs) h = absurd h
  pair_admits (p ∷ ps) [] h = absurd h
  pair_admits (p ∷ ps) (v ∷ vs) h = (h.0, pair_admits ps vs h.1)

  paired_admits : (ps vs : List Tree) → AllZip Admits ps vs → AdmitAll (trees_of ps) (trees_of vs)
  paired_admits [] [] h = tt
  paired_admits [] (v ∷ vs) h = absurd h
  paired_admits (p ∷ ps) [] h = absurd h
  paired_admits (p ∷ ps) (v ∷ vs) h = (h.0, paired_admits ps vs h.1)

  pub rows_fronted : (k : ℕ) (sorts : List SortId) (rows : List (List Tree)) →
      AllByRecursion (HasSorts sig sorts) rows → AllByRecursion (HasSorts sig (fronted k sorts)) (map (fronted k) rows)
  rows_fronted k sorts [] h = tt
  rows_fronted k sorts (row ∷ rows) h = (
    paired_patterns (fronted k row) (fronted k sorts)
        (front_pairs (λ t s. IsPatternOf sig t s) k row sorts (pair_patterns row sorts h.0)),
    rows_fronted k sorts rows h.1,
  )

  all_behind_first : (P : SortId → Type 0) (s : SortId) (ss : List SortId) → P s → AllByRecursion P ss →
      AllByRecursion P (behind_first s ss)
  all_behind_first P s [] a b = (a, tt)
  all_behind_first P s (r ∷ rs) a b = (b.0, (a, b.1))

  pub sorts_fronted : (P : SortId → Type 0) (k : ℕ) (ss : List SortId) → AllByRecursion P ss →
      AllByRecursion P (fronted k ss)
  sorts_fronted P zero ss h = h
  sorts_fronted P (suc k) [] h = h
  sorts_fronted P (suc k) (s ∷ ss) h = all_behind_first P s (fronted k ss) h.0 (sorts_fronted P k ss h.1)

  pub rows_within : (k : ℕ) (sorts : List SortId) (rows : List (List Tree)) → k < length sorts →
      AllByRecursion (HasSorts sig sorts) rows → AllByRecursion (λ (row : List Tree). k < length row) rows
  rows_within k sorts [] l h = tt
  rows_within k sorts (row ∷ rows) l h = (omega (arith, row_length row sorts h.0), rows_within k sorts rows l h.1)

  admits_fronted : (k : ℕ) (vs : List Tree) (rows : List (List Tree)) → SomeAdmits rows vs →
      SomeAdmits (map (fronted k) rows) (fronted k vs)
  admits_fronted k vs [] a = absurd a
  admits_fronted k vs (row ∷ rows) (inl a) = inl
      (paired_admits (fronted k row) (fronted k vs) (front_pairs Admits k row vs (pair_admits row vs a)))
  admits_fronted k vs (row ∷ rows) (inr a) = inr (admits_fronted k vs rows a)

  fronted_admits : (k : ℕ) (vs : List Tree) (rows : List (List Tree)) →
      SomeAdmits (map (fronted k) rows) (fronted k vs) → SomeAdmits rows vs
  fronted_admits k vs [] a = absurd a
  fronted_admits k vs (row ∷ rows) (inl a) = inl
      (paired_admits row vs (pairs_back Admits k row vs (pair_admits (fronted k row) (fronted k vs) a)))
  fronted_admits k vs (row ∷ rows) (inr a) = inr (fronted_admits k vs rows a)

  -- whether values are missing doesn't depend on the order of the columns
  fronted_decision : (k : ℕ) (sorts : List SortId) (rows : List (List Tree)) (b : Bool) →
      IsDecision sig (map (fronted k) rows) (fronted k sorts) b → IsDecision sig rows sorts b
  fronted_decision k sorts rows true (ws, u) =
      let r = moved_back (λ v s. IsValue sig s v) k sorts ws (pair_values ws (fronted k sorts) u.0) in (
        r.0,
        (
          paired_values r.0 sorts r.2,
          λ a. u.1 (subst (λ vs. SomeAdmits (map (fronted k) rows) vs) (sym r.1) (admits_fronted k r.0 rows a)),
        ),
      )
  fronted_decision k sorts rows false h = λ vs v.
      fronted_admits k vs rows
      (h (fronted k vs) (paired_values (fronted k vs) (fronted k sorts)
      (front_pairs (λ v s. IsValue sig s v) k vs sorts (pair_values vs sorts v))))

  pub fronted_decided : (k : ℕ) (sorts : List SortId) (rows : List (List Tree)) (moved : List (List Tree))
      (moved_sorts : List SortId) (found : Result Bool OutOfMemory) → moved ≡ map (fronted k) rows →
      moved_sorts ≡ fronted k sorts → IfOk found (IsDecision sig moved moved_sorts) →
      IfOk found (IsDecision sig rows sorts)
  fronted_decided k sorts rows moved moved_sorts (Err e) p q h = tt
  fronted_decided k sorts rows moved moved_sorts (Ok b) p q h =
      fronted_decision k sorts rows b (subst (λ rs. IsDecision sig rs (fronted k sorts) b) p
      (subst (λ ss. IsDecision sig moved ss b) q h))

  pub no_columns : (rows : List (List Tree)) → AllByRecursion (HasSorts sig []) rows →
      AllByRecursion (λ (row : List Tree). row ≡ []) rows
  no_columns [] h = tt
  no_columns ([] ∷ rows) h = (refl, no_columns rows h.1)
  no_columns ((p ∷ ps) ∷ rows) h = absurd h.0

  -- the sort of a constructor is the one that it is declared with
  pub its_sort : (c : ℕ) (i : SymInfo) (s : SortId) → info_of sig c ≡ Some i → IsOf sig s c → i.result ≡ s
  its_sort c i s at of =
      let k : Some of.1.0 ≡ Some i = sym of.1.1 ∙ at in
      let j : of.1.0 ≡ i = cc in
      ap (λ (x : SymInfo). x.result) (sym j) ∙ of.1.2

  pub declared_sort : (c : ℕ) (i : SymInfo) (s : SortId) → info_of sig c ≡ Some i → IsOf sig s c → i.result.0 ≡ s.0
  declared_sort c i s at of = ap (λ (x : SortId). x.0) (its_sort c i s at of)
