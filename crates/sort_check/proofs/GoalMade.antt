-- The goal that the parts make, if nothing is found.
use Rattle.std.proofs.Common.{◌≡◌, ◌≤◌, ℕ, List, [], ◌∷◌, ◌++◌, Option, Some, None, inl, inr, refl, ap, sym, ◌∙◌}
use Rattle.std.proofs.Common.{subst, arith, length, map}
use Rattle.std.specs.List.{AllByRecursion, AllZip}
use Rattle.std.specs.Prelude.{slice_get, unwrap_or, option_map}
use Rattle.std.specs.Str.{bytes_eq}
use Rattle.std.proofs.lemmas.List.{length-map}
use Rattle.std.proofs.lemmas.Option.{slice_get_within}
use Rattle.term_core.specs.Tree.{Tree, var, app}
use Rattle.term_core.specs.declared.ids.SortId.{SortId}
use Rattle.spec_core.specs.declared.records.VarInfo.{VarInfo}
use Rattle.spec_core.specs.declared.records.Equation.{Equation}
use Rattle.spec_core.specs.Sig.{Sig, IsSort, SortsAreInRange, names_of}
use Rattle.spec_core.specs.Declarations.{IsDeclared, AreNewNames}
use Rattle.spec_core.specs.TermText.{variable_names}
use Rattle.spec_core.specs.WellSorted.{sorts_of}
use Rattle.spec_core.specs.Findings.{Clean}
use Rattle.spec_core.proofs.Names.{position-map}
use Rattle.spec_core.proofs.Ranges.{sorts_in_range}
use Rattle.spec_grammar.specs.RawTree.{RawTree, RawTrees, word, none as no_raws, some as more_raws}
use Rattle.spec_grammar.specs.declared.raw.RawEq.{RawEq}
use Rattle.spec_grammar.specs.declared.raw.RawGoal.{RawGoal}
use Rattle.sort_check.specs.Entries.{entry_names, known_sorts, sort_at, sort_so_far}
use Rattle.sort_check.specs.Words.{info_at}
use Rattle.sort_check.specs.Terms.{EquationStands}
use Rattle.sort_check.specs.GoalTests.{bound as bound_entry, bind_names, number_of, own_sort, in_turn, left_by}
use Rattle.sort_check.specs.GoalTests.{sides_tests, after_sides, opposed_by, inferred, rounds, pairs_in, sorts_tests}
use Rattle.sort_check.specs.GoalTests.{binds_tests, equations_of, clause_tests}
use Rattle.sort_check.specs.Goals.{goal_names, GoalStands}
use Rattle.sort_check.specs.Inference.{IsTaken, IsAnyTaken, IsBareVariable, Gets, bound, left_argument, right_argument}
use Rattle.sort_check.specs.Inference.{left_side, right_side, as_right, as_left}
use Rattle.sort_check.specs.Over.{IsOver, IsEquationOver, variables_of}
use Rattle.sort_check.specs.Parts.{root_name, AreFound}
use Rattle.sort_check.specs.declared.entries.Entry.{Entry}
use Rattle.sort_check.specs.declared.entries.Pair.{Pair}
use Rattle.sort_check.proofs.Names.{place_is, no_place}
use Rattle.sort_check.proofs.Growth.{KeepsNames, extends_both}
use Rattle.sort_check.proofs.ClauseLists.{all_extend}
use Rattle.sort_check.proofs.Facts.{over_stands}
use Rattle.sort_check.proofs.SortedVariables.{names_are, variables_long}
use Rattle.sort_check.proofs.Sides.{equations_more}
use Rattle.sort_check.proofs.RoundLaws.{rounds_keep, rounds_known}
use Rattle.sort_check.proofs.PairFacts.{opposed_extends, opposed_keeps, found_more, pairs_within, pair_from}
use Rattle.sort_check.proofs.GoalSorts.{HasOneSort, all_found, all_keep, equations_sorted, known_long, all_known}
use Rattle.sort_check.proofs.GoalGets.{Holds, Got, binds_hold, sides_hold, opposites_hold, all_get}
use Rattle.sort_check.proofs.GoalNames.{bind_entry_names, walked_names, opposed_names, fresh_sides, binds_fresh}
use Rattle.sort_check.proofs.GoalNames.{bound_first}
use Rattle.term_core.proofs.Items.{all_at}
use Rattle.term_core.proofs.Members.{In, contained_in}

-- pairs of two lists, one after the other, taken apart
pairs_split : {X Y : Type 0} (R : X → Y → Type 0) (xs us : List X) (ys vs : List Y) → length ys ≡ length xs →
    AllZip R (xs ++ us) (ys ++ vs) → AllZip R xs ys × AllZip R us vs
pairs_split R [] us [] vs l p = (tt, p)
pairs_split R (x ∷ xs) us [] vs l p = absurd (omega arith)
pairs_split R [] us (y ∷ ys) vs l p = absurd (omega arith)
pairs_split R (x ∷ xs) us (y ∷ ys) vs l p = let r = pairs_split R xs us ys vs (omega arith) p.1 in ((p.0, r.0), r.1)

all_split : {X : Type 0} (P : X → Type 0) (xs ys : List X) → AllByRecursion P (xs ++ ys) →
    AllByRecursion P xs × AllByRecursion P ys
all_split P [] ys a = (tt, a)
all_split P (x ∷ xs) ys a = let r = all_split P xs ys a.1 in ((a.0, r.0), r.1)

all_map : {X : Type 0} (P Q : X → Type 0) → ((x : X) → P x → Q x) → (xs : List X) → AllByRecursion P xs →
    AllByRecursion Q xs
all_map P Q f [] a = tt
all_map P Q f (x ∷ xs) a = (f x a.0, all_map P Q f xs a.1)

equations_stand : (sig : Sig) (es : List Entry) (raws : List RawEq) (ts : List Equation) →
    AllZip (IsEquationOver sig es) raws ts → AllZip (EquationStands sig (entry_names es)) raws ts
equations_stand sig es [] [] p = tt
equations_stand sig es (r ∷ rs) [] p = absurd p
equations_stand sig es [] (t ∷ ts) p = absurd p
equations_stand sig es (r ∷ rs) (t ∷ ts) p = (
  (
    over_stands sig es r.left t.left p.0.0,
    over_stands sig es r.right t.right p.0.1,
  ),
  equations_stand sig es rs ts p.1,
)

module _ (sig : Sig) (declared : IsDeclared sig) where
  in_range : SortsAreInRange sig
  in_range = sorts_in_range sig declared

  mutual
    taken_in_range : (x : List ℕ) (s : SortId) (r : RawTree) → IsTaken sig x s r → IsSort sig s
    taken_in_range x s (word name at args) t = any_in_range x s args t.0.args (in_range t.1.0 t.0 t.1.2).1 t.2

    any_in_range : (x : List ℕ) (s : SortId) (rs : RawTrees) (us : List SortId) →
        AllByRecursion (IsSort sig) us → IsAnyTaken sig x s rs us → IsSort sig s
    any_in_range x s no_raws us all t = absurd t
    any_in_range x s (more_raws r rs) [] all t = absurd t
    any_in_range x s (more_raws r rs) (u ∷ us) all (inl h) = subst (λ v. IsSort sig v) h.1 all.0
    any_in_range x s (more_raws r rs) (u ∷ us) all (inr (inl a)) = taken_in_range x s r a
    any_in_range x s (more_raws r rs) (u ∷ us) all (inr (inr a)) = any_in_range x s rs us all.1 a

  result_in_range : (r : RawTree) (s : SortId) → Rattle.sort_check.specs.Inference.HasResult sig r s → IsSort sig s
  result_in_range (word name at args) s h = subst (λ v. IsSort sig v) h.2 (in_range h.1.0 h.0 h.1.2).0

  gets_in_range : (raw : RawGoal) {x : List ℕ} {s : SortId} → Gets sig raw x s → IsSort sig s
  gets_in_range raw (bound {x} {s} b i name stands) = slice_get_within sig.sorts s.0 b.sort.name stands
  gets_in_range raw (left_argument {x} {s} e i t) = taken_in_range x s e.left t
  gets_in_range raw (right_argument {x} {s} e i t) = taken_in_range x s e.right t
  gets_in_range raw (left_side {x} {s} e i v h) = result_in_range e.right s h
  gets_in_range raw (right_side {x} {s} e i v h) = result_in_range e.left s h
  gets_in_range raw (as_right e i v w g) = gets_in_range raw g
  gets_in_range raw (as_left e i v w g) = gets_in_range raw g

  module _ (raw : RawGoal) where
    abbrev binds : List Entry
    binds = map (bound_entry sig) raw.binds

    abbrev eqs : List RawEq
    eqs = equations_of raw

    abbrev walked : List Entry
    walked = left_by (after_sides sig) binds eqs

    abbrev opposed : List Entry
    opposed = opposed_by sig walked eqs

    abbrev known : List (Option SortId)
    known = inferred sig opposed eqs

    module _ (ps cs : List Equation) (bound_clean : Clean (binds_tests sig raw.binds))
        (sides : Clean (in_turn (sides_tests sig) (after_sides sig) binds eqs))
        (over : AllZip (IsEquationOver sig walked) eqs (ps ++ cs)) (long : length ps ≡ length raw.premises)
        (sorts : Clean (sorts_tests sig walked eqs)) (few : length walked ≤ 16) where
      found_walked : AllByRecursion (AreFound sig walked) eqs
      found_walked = all_found sig walked eqs (ps ++ cs) over

      found : AllByRecursion (AreFound sig opposed) eqs
      found = found_more sig walked opposed (opposed_extends sig walked eqs) eqs found_walked

      over_opposed : AllZip (IsEquationOver sig opposed) eqs (ps ++ cs)
      over_opposed = equations_more sig walked opposed (opposed_extends sig walked eqs) eqs (ps ++ cs) over

      same_names : entry_names opposed ≡ entry_names walked
      same_names = opposed_names sig walked eqs found_walked

      names : entry_names opposed ≡ goal_names sig raw
      names = same_names ∙ walked_names sig binds eqs sides
          ∙ ap (λ ns. Rattle.sort_check.specs.Occurrence.names_after_sides sig ns eqs) (bind_entry_names sig raw.binds)

      abbrev vars : List VarInfo
      vars = variables_of opposed known

      same_long : length known ≡ length opposed
      same_long = known_long sig binds eqs sides sorts found

      vars_names : variable_names vars ≡ entry_names opposed
      vars_names = names_are opposed known same_long

      opposed_long : length opposed ≡ length walked
      opposed_long = sym (length-map opposed (λ (e : Entry). e.name)) ∙ ap (λ ns. length ns) same_names
          ∙ length-map walked (λ (e : Entry). e.name)

      -- each sort that is known at the end is one that its variable gets
      holds : Holds (Got sig raw) opposed
      holds = opposites_hold sig raw walked eqs (contained_in eqs) sorts.0
          (sides_hold sig raw binds eqs (contained_in eqs) sides
          (binds_hold sig raw raw.binds (contained_in raw.binds)))

      -- a side that is a variable has its name at its number
      abbrev IsAtItsNumber : RawTree → Type 0
      IsAtItsNumber r = own_sort sig r ≡ None → IsBareVariable sig (root_name r) r
          × (slice_get (entry_names opposed) (number_of opposed r) ≡ Some (root_name r))

      side_named : (r : RawTree) (t : Tree) → IsOver sig opposed r t → IsAtItsNumber r
      side_named (word name at args) (var m) h o =
          let at_number : slice_get (entry_names opposed) m ≡ Some name = place_is name (entry_names opposed) m
          (position-map (bytes_eq name) (λ (e : Entry). e.name) opposed ∙ h.2) in (
            (refl, h.0, no_place name (names_of sig) h.1),
            ap (λ q. slice_get (entry_names opposed) (unwrap_or q 0)) h.2 ∙ at_number,
          )
      side_named (word name at args) (app f ts) h o = absurd
          (let z : Some (info_at sig f).result ≡ None = ap (λ x. option_map (λ g. (info_at sig g).result) x)
          (sym h.0) ∙ o in cc)

      sides_named : (ds : List RawEq) (ts : List Equation) → AllZip (IsEquationOver sig opposed) ds ts →
          (e : RawEq) → In e ds → IsAtItsNumber e.left × IsAtItsNumber e.right
      sides_named [] ts p e i = absurd i
      sides_named (d ∷ ds) [] p e i = absurd p
      sides_named (d ∷ ds) (t ∷ ts) p e (inl is) = subst (λ (x : RawEq). IsAtItsNumber x.left
          × IsAtItsNumber x.right) (sym is) (side_named d.left t.left p.0.0, side_named d.right t.right p.0.1)
      sides_named (d ∷ ds) (t ∷ ts) p e (inr i) = sides_named ds ts p.1 e i

      abbrev Known : ℕ → SortId → Type 0
      Known n s = (x : List ℕ) → slice_get (entry_names opposed) n ≡ Some x → Gets sig raw x s

      to_right : (p : Pair) (s : SortId) → In p (pairs_in sig opposed eqs) → Known p.left s → Known p.right s
      to_right p s i h x k =
          let d = pair_from sig opposed eqs p i in
          let n = sides_named eqs (ps ++ cs) over_opposed d.0 d.1 in
          let l = n.0 d.2 in
          let r = n.1 d.3 in
          let z : Some (root_name d.0.right) ≡ Some x = sym r.1 ∙ ap (λ m. slice_get (entry_names opposed) m)
          (sym d.5) ∙ k in
          let q : root_name d.0.right ≡ x = cc in
          subst (λ y. Gets sig raw y s) q
          (as_left d.0 (contained_in eqs d.0 d.1) l.0 r.0
          (h (root_name d.0.left) (ap (λ m. slice_get (entry_names opposed) m) d.4 ∙ l.1)))

      to_left : (p : Pair) (s : SortId) → In p (pairs_in sig opposed eqs) → Known p.right s → Known p.left s
      to_left p s i h x k =
          let d = pair_from sig opposed eqs p i in
          let n = sides_named eqs (ps ++ cs) over_opposed d.0 d.1 in
          let l = n.0 d.2 in
          let r = n.1 d.3 in
          let z : Some (root_name d.0.left) ≡ Some x = sym l.1 ∙ ap (λ m. slice_get (entry_names opposed) m)
          (sym d.4) ∙ k in
          let q : root_name d.0.left ≡ x = cc in
          subst (λ y. Gets sig raw y s) q
          (as_right d.0 (contained_in eqs d.0 d.1) l.0 r.0
          (h (root_name d.0.right) (ap (λ m. slice_get (entry_names opposed) m) d.5 ∙ r.1)))

      known_gets : (n : ℕ) (s : SortId) (x : List ℕ) → sort_at known n ≡ Some s →
          slice_get (entry_names opposed) n ≡ Some x → Gets sig raw x s
      known_gets n s x k e = rounds_known Known (pairs_in sig opposed eqs) to_right to_left (rounds opposed)
          (known_sorts opposed) (pairs_within sig opposed eqs found) (λ m u h y j. holds m u y h j) n s k x e

      -- what the bindings say stays
      kept : (n : ℕ) (s : SortId) → sort_so_far binds n ≡ Some s → sort_at known n ≡ Some s
      kept n s h = rounds_keep (rounds opposed) (known_sorts opposed) (pairs_in sig opposed eqs) n s
          (opposed_keeps sig walked eqs n s (all_keep sig binds eqs n s h))

      extended : KeepsNames binds opposed
      extended = extends_both binds walked opposed (all_extend sig binds eqs) (opposed_extends sig walked eqs)

      all_got : AllByRecursion (λ (v : VarInfo). Gets sig raw v.name v.sort) vars
      all_got = all_get (Got sig raw) opposed known known_gets (all_known sig binds eqs sides sorts found)

      sorted : AllByRecursion (HasOneSort sig (sorts_of vars)) (ps ++ cs)
      sorted = equations_sorted sig binds eqs sides sorts found (ps ++ cs) over

      pub goal_made : (name : List ℕ) (made : List VarInfo) → name ≡ raw.head.name → made ≡ vars →
          Clean (clause_tests sig raw)
          × GoalStands sig raw (record { name = name; vars = made; premises = ps; conclusions = cs })
      goal_made name made named_so is =
          let apart = pairs_split (EquationStands sig (entry_names opposed)) raw.premises raw.conclusions ps cs
          long (equations_stand sig opposed eqs (ps ++ cs) over_opposed) in
          let both = all_split (HasOneSort sig (sorts_of vars)) ps cs sorted in
          let stands : GoalStands sig raw
          (record { name = name; vars = vars; premises = ps; conclusions = cs }) = record {
            name = named_so;
            variables = vars_names ∙ names;
            names = subst (λ ns. AreNewNames (names_of sig) ns) (sym (vars_names ∙ names))
                (fresh_sides sig (bind_names raw.binds) eqs (binds_fresh sig raw.binds bound_clean.0));
            bound = bound_first sig [] raw.binds opposed known extended.0 bound_clean.0 same_long (extended.1
                ∙ ap (λ ns. ns ++ extended.0) (bind_entry_names sig raw.binds)) kept;
            sorts = all_got;
            premises = subst (λ ns. AllZip (EquationStands sig ns) raw.premises ps) (sym vars_names) apart.0;
            conclusions = subst (λ ns. AllZip (EquationStands sig ns) raw.conclusions cs) (sym vars_names) apart.1;
            sorted = record {
              premises = all_at (HasOneSort sig (sorts_of vars)) ps both.0;
              conclusions = all_at (HasOneSort sig (sorts_of vars)) cs both.1;
              variables = all_map (λ (v : VarInfo). Gets sig raw v.name v.sort)
                  (λ (v : VarInfo). IsSort sig v.sort) (λ v g. gets_in_range raw g) vars all_got;
              few_variables = omega (arith, few, opposed_long, variables_long opposed known same_long);
            };
          } in (
            (bound_clean, (sides, sorts)),
            subst (λ vs. GoalStands sig raw
                (record { name = name; vars = vs; premises = ps; conclusions = cs })) (sym is) stands,
          )
