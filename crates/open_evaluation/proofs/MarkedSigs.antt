-- The signature with constants under names of question marks.
use Rattle.std.proofs.Common.{◌≡◌, ◌<◌, ◌+◌, ◌-◌, ℕ, suc, List, [], ◌∷◌, ◌++◌, refl, ap, sym, ◌∙◌, subst, length, take}
use Rattle.std.proofs.Common.{drop, length-append, append_assoc, arith}
use Rattle.std.specs.Prelude.{codes, map}
use Rattle.std.specs.List.{AllByRecursion}
use Rattle.std.proofs.Math.Seq.{take-append_seam, drop-append_seam}
use Rattle.term_core.specs.declared.ids.SortId.{SortId}
use Rattle.term_core.proofs.Items.{all_append}
use Rattle.spec_core.specs.declared.records.SymInfo.{SymInfo}
use Rattle.spec_core.specs.declared.records.Spec.{Spec}
use Rattle.spec_core.specs.Orders.{order_by_number}
use Rattle.spec_core.specs.Sig.{Sig, IsSort}
use Rattle.spec_core.specs.Small.{AllHaveSmallValues, sort_of_number}
use Rattle.spec_core.specs.Declarations.{IsDeclared, declared_by, bool_symbols, all_symbols, IsBelow, IsNotBool}
use Rattle.spec_core.specs.Declarations.{AreDistinct}
use Rattle.spec_core.proofs.Fresh.{made_is}
use Rattle.open_evaluation.specs.Shifted.{shifted_rule, IsNoBoolean, IsExtended}
use Rattle.open_evaluation.specs.Marks.{marks_from, marked_constants, marked_sig, AreWithin}
use Rattle.open_evaluation.proofs.Marked.{marks_from_long, marked_are}
use Rattle.open_evaluation.proofs.Distinct.{sorts_distinct, symbols_distinct, symbols_within}
use Rattle.open_evaluation.proofs.Extended.{value_kept}

-- what is declared, in parts
module _ (sig : Sig) (d : IsDeclared sig) where
  count : sig.constructors ≡ length (bool_symbols ++ d.constructors)
  count = ap (λ (x : Sig). x.constructors) d.is ∙ omega arith

  table : sig.table ≡ (bool_symbols ++ d.constructors) ++ d.functions
  table = ap (λ (x : Sig). x.table) d.is

  pub front_is : take sig.constructors sig.table ≡ bool_symbols ++ d.constructors
  front_is = ap (λ es. take sig.constructors es) table
      ∙ ap (λ k. take k ((bool_symbols ++ d.constructors) ++ d.functions)) count
      ∙ take-append_seam (bool_symbols ++ d.constructors) d.functions

  pub back_is : drop sig.constructors sig.table ≡ d.functions
  back_is = ap (λ es. drop sig.constructors es) table
      ∙ ap (λ k. drop k ((bool_symbols ++ d.constructors) ++ d.functions)) count
      ∙ drop-append_seam (bool_symbols ++ d.constructors) d.functions

  pub middle_is : drop 2 (take sig.constructors sig.table) ≡ d.constructors
  middle_is = ap (λ es. drop 2 es) front_is

  pub sorts_count : length sig.sorts ≡ 1 + length d.sorts
  sorts_count = ap (λ (x : Sig). length x.sorts) d.is ∙ omega arith

  pub symbols_count : length sig.table ≡ 2 + (length d.constructors + length d.functions)
  symbols_count = ap (λ (x : Sig). length x.table) d.is ∙ omega (arith, length-append d.constructors d.functions)

  pub constructors_count : sig.constructors ≡ 2 + length d.constructors
  constructors_count = ap (λ (x : Sig). x.constructors) d.is

constants_below : (m n : ℕ) (ss : List SortId) → AllByRecursion (λ (s : SortId). s.0 < m) ss →
    AllByRecursion (IsBelow m) (marked_constants n ss)
constants_below m n [] a = tt
constants_below m n (s ∷ ss) a = ((a.0, tt), constants_below m (suc n) ss a.1)

constants_other : (n : ℕ) (ss : List SortId) → AllByRecursion IsNoBoolean ss →
    AllByRecursion IsNotBool (marked_constants n ss)
constants_other n [] a = tt
constants_other n (s ∷ ss) a = (a.0, constants_other (suc n) ss a.1)

marked_long : (n : ℕ) (ss : List SortId) → length (marked_constants n ss) ≡ length ss
marked_long n [] = refl
marked_long n (s ∷ ss) = ap suc (marked_long (suc n) ss)

-- the specification of a signature alone
abbrev pub bare : Sig → Spec
bare sig = record { sig = sig; order = order_by_number sig; rules = []; goals = [] }

-- a specification with such a signature is extended
pub is_extended : (old new : Spec) (sorts : List SortId) (n : ℕ) → IsDeclared old.sig →
    new.sig ≡ marked_sig n old.sig sorts →
    new.rules ≡ map (shifted_rule old.sig.constructors (length sorts)) old.rules → new.goals ≡ [] →
    IsExtended old new sorts
is_extended old new sorts n d e rules goals =
    let c = old.sig.constructors in
    let back = drop c old.sig.table in
    record {
      names = marks_from n (length sorts);
      each = marks_from_long n (length sorts);
      as_many_sorts = ap (λ (x : Sig). length x.sorts) e
          ∙ omega (arith, marks_from_long 5 (length old.sig.sorts - 1), sorts_count old.sig d);
      constructors = ap (λ (x : Sig). x.constructors) e;
      table = ap (λ (x : Sig). x.table) e ∙ ap (λ es. take c old.sig.table ++ (es ++ back)) (marked_are n sorts);
      rules = rules;
      goals = goals;
    }

module _ (sig : Sig) (d : IsDeclared sig) (n : ℕ) (sorts : List SortId) where
  abbrev pub new_names : List (List ℕ)
  new_names = marks_from 5 (length sig.sorts - 1)

  abbrev pub new_constructors : List (List ℕ × SymInfo)
  new_constructors = d.constructors ++ marked_constants n sorts

  pub constructors_long : length new_constructors ≡ length d.constructors + length sorts
  constructors_long = omega (arith, length-append d.constructors (marked_constants n sorts), marked_long n sorts)

  -- the declarations make the signature
  pub declared_is : declared_by new_names new_constructors d.functions ≡ marked_sig n sig sorts
  declared_is =
      let ks = marked_constants n sorts in
      let whole : all_symbols (d.constructors ++ ks) d.functions ≡ (bool_symbols ++ d.constructors)
      ++ (ks ++ d.functions) = ap (λ es. bool_symbols ++ es) (append_assoc d.constructors ks d.functions) in
      let parts : take sig.constructors sig.table ++ (ks ++ drop sig.constructors sig.table) ≡ (bool_symbols
      ++ d.constructors) ++ (ks ++ d.functions) = ap (λ es. es ++ (ks ++ drop sig.constructors sig.table))
      (front_is sig d) ∙ ap (λ es. (bool_symbols ++ d.constructors) ++ (ks ++ es)) (back_is sig d) in
      let names = codes "Bool" ∷ new_names in
      made_is names names (all_symbols new_constructors d.functions) _ (2 + length new_constructors)
      (sig.constructors + length sorts) refl (whole ∙ sym parts)
      (omega (arith, constructors_long, constructors_count sig d))

  names_count : 1 + length new_names ≡ 1 + length d.sorts
  names_count = omega (arith, marks_from_long 5 (length sig.sorts - 1), sorts_count sig d)

  pub constructors_below : AllByRecursion (IsSort sig) sorts →
      AllByRecursion (IsBelow (1 + length new_names)) new_constructors
  constructors_below a =
      let m : 1 + length new_names ≡ length sig.sorts = omega (arith, names_count, sorts_count sig d) in
      all_append (IsBelow (1 + length new_names)) d.constructors (marked_constants n sorts)
      (subst (λ k. AllByRecursion (IsBelow k) d.constructors) (sym names_count) d.constructors_in_range)
      (constants_below (1 + length new_names) n sorts
      (subst (λ k. AllByRecursion (λ (s : SortId). s.0 < k) sorts) (sym m) a))

  pub functions_below : AllByRecursion (IsBelow (1 + length new_names)) d.functions
  functions_below = subst (λ k. AllByRecursion (IsBelow k) d.functions) (sym names_count) d.functions_in_range

  pub constructors_other : AllByRecursion IsNoBoolean sorts → AllByRecursion IsNotBool new_constructors
  constructors_other a = all_append IsNotBool d.constructors (marked_constants n sorts) d.no_more_booleans
      (constants_other n sorts a)

  -- no name occurs twice if the constants' names are longer than all others
  pub still_distinct : (k : ℕ) → n ≡ k + 1 → AreWithin k (map (λ (e : List ℕ × SymInfo). e.0) sig.table) →
      AreDistinct new_names new_constructors d.functions
  still_distinct k e within =
      let names : AreWithin k
      (map (λ (e : List ℕ × SymInfo). e.0) (all_symbols d.constructors d.functions)) = subst
      (λ (x : Sig). AreWithin k (map (λ (e : List ℕ × SymInfo). e.0) x.table)) d.is within in
      let short = symbols_within k (all_symbols d.constructors d.functions) names in (
        sorts_distinct (length sig.sorts - 1),
        symbols_distinct n d.constructors d.functions sorts
            (subst (λ m. AllByRecursion (λ (e : List ℕ × SymInfo). length e.0 < m)
            (all_symbols d.constructors d.functions)) (sym e) short) d.distinct.1,
      )

  -- each sort has a small value, as before
  pub still_small : AllHaveSmallValues (marked_sig n sig sorts)
  still_small k h =
      let more = is_extended (bare sig) (bare (marked_sig n sig sorts)) sorts n d refl refl refl in
      let long : length (marked_sig n sig sorts).sorts ≡ length sig.sorts = more.as_many_sorts in
      let v = d.small k (omega (arith, long)) in
      (v.0, (value_kept (bare sig) (bare (marked_sig n sig sorts)) sorts more d (sort_of_number k) v.0 v.1).0, v.2)
