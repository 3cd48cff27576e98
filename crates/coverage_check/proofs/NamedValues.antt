-- Naming the missing values.
use Rattle.std.proofs.Common.{◌≡◌, ℕ, zero, suc, ◌+◌, ◌*◌, ◌<◌, ◌≤◌, List, [], ◌∷◌, ◌++◌, true, Some, None, Result, Ok}
use Rattle.std.proofs.Common.{Err, inl, inr, length, take, drop, refl, ap, sym, ◌∙◌, subst, arith}
use Rattle.std.specs.Prelude.{IfOk, slice_get, option_map}
use Rattle.std.specs.List.{AllByRecursion}
use Rattle.std.proofs.Math.Nat.{mul-le-mul_left}
use Rattle.std.proofs.lemmas.List.{take-append-drop, length-take-le, length-append}
use Rattle.term_core.specs.Tree.{Tree, var, app, trees_of, list_of}
use Rattle.term_core.specs.declared.ids.SortId.{SortId}
use Rattle.term_core.specs.declared.memory.OutOfMemory.{OutOfMemory}
use Rattle.spec_core.specs.declared.records.SymInfo.{SymInfo}
use Rattle.spec_core.specs.Sig.{Sig, info_of}
use Rattle.spec_core.specs.Sorts.{SortedAll}
use Rattle.spec_core.specs.Small.{IsSmall, AreSmall}
use Rattle.coverage_check.specs.Admits.{SomeAdmits}
use Rattle.coverage_check.specs.Opened.{BeginsWithVariable, rests, opened}
use Rattle.coverage_check.specs.Columns.{symbols_at}
use Rattle.coverage_check.specs.Named.{IsFirstOpen, IsNamed, no_sorts, no_rows, all_variables, first_constructor}
use Rattle.coverage_check.specs.Decisions.{HasSorts, SomeMissing, IsDecisionUnder, IsFirstMissing}
use Rattle.coverage_check.proofs.Joined.{values_join, sorted_length}
use Rattle.coverage_check.proofs.OpenedRows.{admits_opened}
use Rattle.coverage_check.proofs.Namings.{named_unadmitted}
use Rattle.coverage_check.proofs.Deciding.{values_length, its_sort}
use Rattle.term_core.proofs.Trees.{list_of-trees_of}

-- the number of arguments of all symbols, which bounds how many columns an opening adds
abbrev pub all_arguments : List (List ℕ × SymInfo) → ℕ
all_arguments [] = 0
all_arguments (e ∷ es) = length e.1.args + all_arguments es

abbrev pub room : Sig → ℕ
room sig = 1 + all_arguments sig.table

args_within : (es : List (List ℕ × SymInfo)) (f : ℕ) (i : SymInfo) →
    option_map (λ (e : List ℕ × SymInfo). e.1) (slice_get es f) ≡ Some i → length i.args ≤ all_arguments es
args_within [] f i h = absurd (let q : None ≡ Some i = h in cc)
args_within (e ∷ es) zero i h =
    let q : Some e.1 ≡ Some i = h in
    let k : i ≡ e.1 = cc in
    omega (arith, ap (λ (x : SymInfo). length x.args) k)
args_within (e ∷ es) (suc f) i h = omega (arith, args_within es f i h)

-- what falls: the symbols, and then the columns
abbrev pub work : Sig → ℕ → ℕ → ℕ
work sig symbols columns = room sig * symbols + columns

module _ (sig : Sig) where
  -- opening takes one symbol at least, and adds fewer columns than there is room for
  pub work_opened : (c : ℕ) (i : SymInfo) (before after columns others : ℕ) → info_of sig c ≡ Some i →
      after + 1 ≤ before → columns ≡ others + 1 → work sig after (length i.args + others) < work sig before columns
  work_opened c i before after columns others at h n =
      let fits : length i.args ≤ all_arguments sig.table = args_within sig.table c i at in
      let more = mul-le-mul_left (room sig) h in
      omega (arith, fits, more, n)

  pub work_rests : (before after columns others : ℕ) → after ≤ before → columns ≡ others + 1 →
      work sig after others < work sig before columns
  work_rests before after columns others h n = omega (arith, mul-le-mul_left (room sig) h, n)

  pub named_small : (sorts : List SortId) (vs : List Tree) → AreSmall sig sorts (trees_of vs) → IsNamed sig [] sorts vs
  named_small [] [] h = no_sorts
  named_small [] (v ∷ vs) h = absurd h
  named_small (s ∷ ss) vs h = no_rows h

  pub smalls_named : (rows : List (List Tree)) (sorts : List SortId) (made : Result (List Tree) OutOfMemory) →
      rows ≡ [] → IfOk made (λ vs. AreSmall sig sorts (trees_of vs)) → IfOk made (IsNamed sig rows sorts)
  smalls_named rows sorts (Err e) h n = tt
  smalls_named rows sorts (Ok vs) h n = subst (λ rs. IsNamed sig rs sorts vs) (sym h) (named_small sorts vs n)

  -- a row without patterns admits the empty list
  pub no_sorts_missing : (rows : List (List Tree)) → (rows ≡ [] → ⊥) → AllByRecursion (HasSorts sig []) rows →
      SomeMissing sig rows [] → ⊥
  no_sorts_missing [] some_row h m = some_row refl
  no_sorts_missing ((p ∷ ps) ∷ rows) some_row h m = h.0
  no_sorts_missing ([] ∷ rows) some_row h ([], u) = u.1 (inl tt)
  no_sorts_missing ([] ∷ rows) some_row h (v ∷ vs, u) = u.0.0

  pub rests_sorts : (s : SortId) (ss : List SortId) (rows : List (List Tree)) →
      AllByRecursion (HasSorts sig (s ∷ ss)) rows → AllByRecursion (HasSorts sig ss) (rests rows)
  rests_sorts s ss [] h = tt
  rests_sorts s ss ([] ∷ rows) h = absurd h.0
  rests_sorts s ss ((p ∷ ps) ∷ rows) h = (h.0.1, rests_sorts s ss rows h.1)

  admits_rests : (v : Tree) (us : List Tree) (rows : List (List Tree)) →
      AllByRecursion BeginsWithVariable rows → SomeAdmits (rests rows) us → SomeAdmits rows (v ∷ us)
  admits_rests v us [] h a = absurd a
  admits_rests v us ([] ∷ rows) h a = absurd h.0
  admits_rests v us ((var n ∷ ps) ∷ rows) h (inl a) = inl (tt, a)
  admits_rests v us ((var n ∷ ps) ∷ rows) h (inr a) = inr (admits_rests v us rows h.1 a)
  admits_rests v us ((app f ts ∷ ps) ∷ rows) h a = absurd h.0

  pub rests_missing : (s : SortId) (ss : List SortId) (rows : List (List Tree)) →
      AllByRecursion BeginsWithVariable rows → SomeMissing sig rows (s ∷ ss) → SomeMissing sig (rests rows) ss
  rests_missing s ss rows h ([], u) = absurd u.0.0
  rests_missing s ss rows h (v ∷ us, u) = (us, ((u.0.0.1, u.0.1.1), λ a. u.1 (admits_rests v us rows h a)))

  pub rests_named : (rows : List (List Tree)) (s : SortId) (ss : List SortId) (value : Tree) (rest : List Tree)
      (made : Result (List Tree) OutOfMemory) → (rows ≡ [] → ⊥) → AllByRecursion BeginsWithVariable rows →
      IsSmall sig s value → IsNamed sig (rests rows) ss rest → IfOk made (λ vs. vs ≡ value ∷ rest) →
      IfOk made (IsNamed sig rows (s ∷ ss))
  rests_named rows s ss value rest (Err e) some_row h small named m = tt
  rests_named rows s ss value rest (Ok vs) some_row h small named m = subst (λ us. IsNamed sig rows (s ∷ ss) us)
      (sym m) (all_variables some_row h small named)

  pub named_along : {rows moved : List (List Tree)} {sorts others : List SortId} {values : List Tree} →
      moved ≡ rows → others ≡ sorts → IsNamed sig moved others values → IsNamed sig rows sorts values
  named_along {rows} {moved} {sorts} {others} {values} p q n = subst (λ ss. IsNamed sig rows ss values) q
      (subst (λ rs. IsNamed sig rs others values) p n)

  -- if not all rows begin with a variable, some begin with a symbol
  pub some_begin : (s : SortId) (ss : List SortId) (rows : List (List Tree)) →
      AllByRecursion (HasSorts sig (s ∷ ss)) rows → (AllByRecursion BeginsWithVariable rows → ⊥) → 0 < symbols_at 0 rows
  some_begin s ss [] h d = absurd (d tt)
  some_begin s ss ([] ∷ rows) h d = absurd h.0
  some_begin s ss ((var n ∷ ps) ∷ rows) h d = some_begin s ss rows h.1 (λ a. d (tt, a))
  some_begin s ss ((app f ts ∷ ps) ∷ rows) h d = omega arith

  -- values that are missing under the constructor are, without it, missing in the opened rows
  module _ (c : ℕ) (i : SymInfo) (s : SortId) (ss : List SortId) (rows : List (List Tree))
      (at : info_of sig c ≡ Some i) (sorted : AllByRecursion (HasSorts sig (s ∷ ss)) rows) where
    pub under_opened : IsDecisionUnder sig c rows (s ∷ ss) true →
        SomeMissing sig (opened c (length i.args) rows) (i.args ++ ss)
    under_opened (args, vs, u) =
        let v = u.0 in
        let k : Some v.0.0.0 ≡ Some i = sym v.0.0.1 ∙ at in
        let j : v.0.0.0 ≡ i = cc in
        let p : SortedAll sig [] args i.args = subst (λ (x : SymInfo). SortedAll sig [] args x.args) j v.0.0.3 in (
          list_of args ++ vs,
          (
            values_join sig args vs i.args ss p v.1.0.1 (v.0.1, v.1.1),
            λ a. u.1 (admits_opened sig c i at s ss args vs rows sorted (sorted_length sig args i.args p) a),
          ),
        )

    pub first_open : (AllByRecursion BeginsWithVariable rows → ⊥) → IsFirstMissing sig rows (s ∷ ss) c →
        IsFirstOpen sig rows s ss c i
    first_open decides first = record {
      decides = decides;
      constructor = first.of_first.0;
      info = at;
      result = its_sort sig c i s at first.of_first;
      before = first.before;
    }

    pub named_length : (values : List Tree) →
        IsNamed sig (opened c (length i.args) rows) (i.args ++ ss) values → length i.args ≤ length values
    named_length values n = omega (
      arith,
      values_length sig values (i.args ++ ss) (named_unadmitted sig n).0,
      length-append i.args ss,
    )

    pub first_named : (values : List Tree) (made : Result (List Tree) OutOfMemory) →
        IsFirstOpen sig rows s ss c i → IsNamed sig (opened c (length i.args) rows) (i.args ++ ss) values →
        IfOk made (λ vs. vs ≡ app c (trees_of (take (length i.args) values)) ∷ drop (length i.args) values) →
        IfOk made (IsNamed sig rows (s ∷ ss))
    first_named values (Err e) first n m = tt
    first_named values (Ok vs) first n m =
        let count = length i.args in
        let firsts = take count values in
        let rest = drop count values in
        let parts : list_of (trees_of firsts) ++ rest ≡ values = ap (λ us. us ++ rest) (list_of-trees_of firsts)
        ∙ take-append-drop count values in
        let long : length (list_of (trees_of firsts)) ≡ count = ap (λ us. length us) (list_of-trees_of firsts)
        ∙ length-take-le count values (named_length values n) in
        let back : IsNamed sig (opened c count rows) (i.args ++ ss) (list_of (trees_of firsts) ++ rest) = subst
        (λ us. IsNamed sig (opened c count rows) (i.args ++ ss) us) (sym parts) n in
        subst (λ us. IsNamed sig rows (s ∷ ss) us) (sym m) (first_constructor c i first long back)
