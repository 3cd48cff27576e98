-- What a specification with further constants declares, and the sorts of its terms.
use Rattle.std.proofs.Common.{◌≡◌, ◌≤◌, ◌<◌, ◌+◌, ◌-◌, ℕ, zero, suc, List, [], ◌∷◌, ◌++◌, Some, None, ◌⊎◌, inl, inr}
use Rattle.std.proofs.Common.{refl, ap, sym, ◌∙◌, subst, take, drop, length, length-append, arith}
use Rattle.std.specs.Prelude.{slice_get, option_map}
use Rattle.std.proofs.lemmas.Option.{slice_get_within}
use Rattle.term_core.specs.Tree.{Tree, Trees, var, app, none, some}
use Rattle.term_core.specs.declared.ids.SortId.{SortId}
use Rattle.term_core.proofs.Numbers.{below_or_not}
use Rattle.spec_core.specs.declared.records.SymInfo.{SymInfo}
use Rattle.spec_core.specs.declared.records.Spec.{Spec}
use Rattle.spec_core.specs.Sig.{Sig, info_of, IsConstructor, IsSort}
use Rattle.spec_core.specs.Sorts.{Sorted, SortedAll, IsBuilt, AreBuilt, IsValue}
use Rattle.spec_core.specs.Declarations.{IsDeclared}
use Rattle.spec_core.specs.WellSorted.{HasFewArguments}
use Rattle.open_evaluation.specs.Shifted.{shifted_number, shifted, shifted_all, constant, closed, closed_all}
use Rattle.open_evaluation.specs.Shifted.{constants_of, IsExtended}
use Rattle.open_evaluation.proofs.Numbers.{number_kept, number_moved, number_below, below_number}
use Rattle.open_evaluation.proofs.Inserted.{inserted_before, inserted_at, inserted_behind}

pub constants_long : (ns : List (List ℕ)) (ss : List SortId) → length ns ≡ length ss →
    length (constants_of ns ss) ≡ length ss
constants_long [] [] e = refl
constants_long [] (s ∷ ss) e = absurd (omega arith)
constants_long (n ∷ ns) [] e = absurd (omega arith)
constants_long (n ∷ ns) (s ∷ ss) e = ap suc (constants_long ns ss (omega arith))

-- a constant of this sort
abbrev pub constant_info : SortId → SymInfo
constant_info s = record { args = []; result = s }

constant_at : (ns : List (List ℕ)) (ss : List SortId) (n : ℕ) (s : SortId) → length ns ≡ length ss →
    slice_get ss n ≡ Some s →
    option_map (λ (e : List ℕ × SymInfo). e.1) (slice_get (constants_of ns ss) n) ≡ Some (constant_info s)
constant_at [] [] n s e at = absurd (let q : None ≡ Some s = at in cc)
constant_at [] (t ∷ ss) n s e at = absurd (omega arith)
constant_at (m ∷ ns) [] n s e at = absurd (omega arith)
constant_at (m ∷ ns) (t ∷ ss) zero s e at = let q : Some t ≡ Some s = at in let k : t ≡ s = cc in
    ap (λ x. Some (constant_info x)) k
constant_at (m ∷ ns) (t ∷ ss) (suc n) s e at = constant_at ns ss n s (omega arith) at

-- there are no more constructors than symbols
pub constructors_within : (sig : Sig) → IsDeclared sig → sig.constructors ≤ length sig.table
constructors_within sig d =
    let long : length sig.table ≡ 2 + length (d.constructors ++ d.functions) = ap (λ (x : Sig). length x.table)
    d.is ∙ omega arith in
    let count : sig.constructors ≡ 2 + length d.constructors = ap (λ (x : Sig). x.constructors) d.is in
    omega (arith, long, count, length-append d.constructors d.functions)

sort_at : (ss : List SortId) (n : ℕ) → n < length ss → (s : SortId) × (slice_get ss n ≡ Some s)
sort_at [] n h = absurd (omega arith)
sort_at (s ∷ ss) zero h = (s, refl)
sort_at (s ∷ ss) (suc n) h = sort_at ss n (omega arith)

module _ (old new : Spec) (sorts : List SortId) (more : IsExtended old new sorts) (declared : IsDeclared old.sig) where
  abbrev c : ℕ
  c = old.sig.constructors

  abbrev u : ℕ
  u = length sorts

  many : length (constants_of more.names sorts) ≡ u
  many = constants_long more.names sorts more.each

  from_table : (f : ℕ) →
      info_of new.sig f ≡ option_map (λ (e : List ℕ × SymInfo). e.1)
      (slice_get (take c old.sig.table ++ (constants_of more.names sorts ++ drop c old.sig.table)) f)
  from_table f = ap (λ es. option_map (λ (e : List ℕ × SymInfo). e.1) (slice_get es f)) more.table

  info_before : (f : ℕ) → f < c → info_of new.sig f ≡ info_of old.sig f
  info_before f h = from_table f ∙ ap (λ o. option_map (λ (e : List ℕ × SymInfo). e.1) o)
      (inserted_before old.sig.table (constants_of more.names sorts) c f (constructors_within old.sig declared) h)

  info_behind : (f : ℕ) → c ≤ f → info_of new.sig (f + u) ≡ info_of old.sig f
  info_behind f h = from_table (f + u) ∙ ap (λ o. option_map (λ (e : List ℕ × SymInfo). e.1) o)
      (inserted_behind old.sig.table (constants_of more.names sorts) c (f + u) f
      (constructors_within old.sig declared) h (omega (arith, many)))

  -- a symbol is declared as it was
  pub info_shifted : (f : ℕ) → info_of new.sig (shifted_number c u f) ≡ info_of old.sig f
  info_shifted f =
      elim (below_or_not f c) [
        | inl h ↦ ap (λ g. info_of new.sig g) (number_kept c u f h) ∙ info_before f h
        | inr h ↦ ap (λ g. info_of new.sig g) (number_moved c u f h) ∙ info_behind f h
      ]

  -- a constant has no arguments and its sort
  pub info_constant : (n : ℕ) (s : SortId) → slice_get sorts n ≡ Some s →
      info_of new.sig (c + n) ≡ Some (constant_info s)
  info_constant n s at =
      from_table (c + n)
      ∙ ap (λ o. option_map (λ (e : List ℕ × SymInfo). e.1) o)
      (inserted_at old.sig.table (constants_of more.names sorts) c (c + n) n
      (constructors_within old.sig declared) (omega (arith, many, slice_get_within sorts n s at)) refl)
      ∙ constant_at more.names sorts n s more.each at

  -- each symbol is one of before or a constant
  pub new_symbol : (f : ℕ) → ((g : ℕ) × (f ≡ shifted_number c u g))
      ⊎ ((n : ℕ) × (s : SortId) × (f ≡ c + n) × (slice_get sorts n ≡ Some s))
  new_symbol f =
      elim (below_or_not f c) [
        | inl h ↦ inl (f, sym (number_kept c u f h))
        | inr h ↦ elim (below_or_not f (c + u)) [
          | inl k ↦
              let at = sort_at sorts (f - c) (omega arith) in
              inr (f - c, at.0, omega arith, at.1)
          | inr k ↦ inl (f - u, omega (arith, number_moved c u (f - u) (omega arith)))
        ]
      ]

  pub constructor_shifted : (f : ℕ) → IsConstructor old.sig f → IsConstructor new.sig (shifted_number c u f)
  constructor_shifted f h = omega (arith, more.constructors, number_below c u f h)

  pub shifted_constructor : (f : ℕ) → IsConstructor new.sig (shifted_number c u f) → IsConstructor old.sig f
  shifted_constructor f h = below_number c u f (omega (arith, more.constructors, h))

  pub few_arguments : HasFewArguments old.sig → HasFewArguments new.sig
  few_arguments few f i at =
      elim (new_symbol f) [
        | inl g ↦ few g.0 i (sym (info_shifted g.0) ∙ ap (λ k. info_of new.sig k) (sym g.1) ∙ at)
        | inr n ↦
            let e : Some (constant_info n.1) ≡ Some i = sym (info_constant n.0 n.1 n.3)
            ∙ ap (λ k. info_of new.sig k) (sym n.2) ∙ at in
            let k : constant_info n.1 ≡ i = cc in
            let l : length i.args ≡ 0 = ap (λ (x : SymInfo). length x.args) (sym k) in
            omega arith
      ]

  pub sort_kept : (s : SortId) → IsSort old.sig s → IsSort new.sig s
  sort_kept s h = omega (arith, h, more.as_many_sorts)

  mutual
    pub shifted_sorted : (ctx : List SortId) (t : Tree) (s : SortId) → Sorted old.sig ctx t s →
        Sorted new.sig ctx (shifted c u t) s
    shifted_sorted ctx (var n) s h = h
    shifted_sorted ctx (app f ts) s h = (h.0, info_shifted f ∙ h.1, h.2, shifted_all_sorted ctx ts h.0.args h.3)

    pub shifted_all_sorted : (ctx : List SortId) (ts : Trees) (ss : List SortId) → SortedAll old.sig ctx ts ss →
        SortedAll new.sig ctx (shifted_all c u ts) ss
    shifted_all_sorted ctx none [] h = h
    shifted_all_sorted ctx none (s ∷ ss) h = h
    shifted_all_sorted ctx (some t ts) [] h = h
    shifted_all_sorted ctx (some t ts) (s ∷ ss) h = (shifted_sorted ctx t s h.0, shifted_all_sorted ctx ts ss h.1)

  -- a constant has the sort of its variable
  mutual
    pub closed_sorted : (t : Tree) (s : SortId) → Sorted old.sig sorts t s → Sorted new.sig [] (closed c u t) s
    closed_sorted (var n) s h = (constant_info s, info_constant n s h, refl, tt)
    closed_sorted (app f ts) s h = (h.0, info_shifted f ∙ h.1, h.2, closed_all_sorted ts h.0.args h.3)

    pub closed_all_sorted : (ts : Trees) (ss : List SortId) → SortedAll old.sig sorts ts ss →
        SortedAll new.sig [] (closed_all c u ts) ss
    closed_all_sorted none [] h = h
    closed_all_sorted none (s ∷ ss) h = h
    closed_all_sorted (some t ts) [] h = h
    closed_all_sorted (some t ts) (s ∷ ss) h = (closed_sorted t s h.0, closed_all_sorted ts ss h.1)

  -- what is built of constructors stays as it is
  mutual
    pub built_kept : (t : Tree) → IsBuilt old.sig t → shifted c u t ≡ t
    built_kept (var n) b = absurd b
    built_kept (app f ts) b =
        let p = number_kept c u f b.0 in
        let q = built_all_kept ts b.1 in
        cc

    pub built_all_kept : (ts : Trees) → AreBuilt old.sig ts → shifted_all c u ts ≡ ts
    built_all_kept none b = refl
    built_all_kept (some t ts) b =
        let p = built_kept t b.0 in
        let q = built_all_kept ts b.1 in
        cc

  mutual
    pub shifted_built : (t : Tree) → IsBuilt old.sig t → IsBuilt new.sig (shifted c u t)
    shifted_built (var n) b = b
    shifted_built (app f ts) b = (constructor_shifted f b.0, shifted_all_built ts b.1)

    pub shifted_all_built : (ts : Trees) → AreBuilt old.sig ts → AreBuilt new.sig (shifted_all c u ts)
    shifted_all_built none b = b
    shifted_all_built (some t ts) b = (shifted_built t b.0, shifted_all_built ts b.1)

  -- a value stays a value of its sort
  pub value_kept : (s : SortId) (v : Tree) → IsValue old.sig s v → IsValue new.sig s v × (shifted c u v ≡ v)
  value_kept s v h =
      let e = built_kept v h.1 in
      (subst (λ t. IsValue new.sig s t) e (shifted_sorted [] v s h.0, shifted_built v h.1), e)

  -- with a constant for each variable too
  mutual
    pub built_closed : (t : Tree) → IsBuilt old.sig t → closed c u t ≡ t
    built_closed (var n) b = absurd b
    built_closed (app f ts) b =
        let p = number_kept c u f b.0 in
        let q = built_all_closed ts b.1 in
        cc

    pub built_all_closed : (ts : Trees) → AreBuilt old.sig ts → closed_all c u ts ≡ ts
    built_all_closed none b = refl
    built_all_closed (some t ts) b =
        let p = built_closed t b.0 in
        let q = built_all_closed ts b.1 in
        cc

  -- a constant is a value of its sort
  pub constant_is_value : (n : ℕ) (s : SortId) → slice_get sorts n ≡ Some s → IsValue new.sig s (constant c u n)
  constant_is_value n s at =
      let h : c + n < new.sig.constructors = omega (arith, more.constructors, slice_get_within sorts n s at) in
      ((constant_info s, info_constant n s at, refl, tt), (h, tt))
