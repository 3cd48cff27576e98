-- What a walk knows of the goal that it is about.
use Rattle.std.proofs.Common.{◌≡◌, ℕ, ◌+◌, ◌*◌, ◌<◌, ◌≤◌, List, [], ◌∷◌, ◌++◌, Bool, true, false, Some, refl, ap, sym}
use Rattle.std.proofs.Common.{◌∙◌, subst, arith, length, length-append, take}
use Rattle.std.specs.Prelude.{slice_get}
use Rattle.std.specs.List.{AllByRecursion}
use Rattle.std.proofs.Math.Seq.{take-append_seam}
use Rattle.std.proofs.lemmas.List.{length-map}
use Rattle.std.proofs.lemmas.Option.{slice_get_within}
use Rattle.term_core.specs.Tree.{Tree, trees_of}
use Rattle.term_core.specs.declared.ids.SortId.{SortId}
use Rattle.term_core.proofs.Members.{In, all_in, in_contained, contained_in}
use Rattle.spec_core.specs.declared.records.Spec.{Spec}
use Rattle.spec_core.specs.declared.records.Goal.{Goal}
use Rattle.spec_core.specs.declared.records.VarInfo.{VarInfo}
use Rattle.spec_core.specs.Sig.{Sig, IsSort}
use Rattle.spec_core.specs.WellSorted.{sorts_of}
use Rattle.spec_core.specs.Truth.{AreValuesOf}
use Rattle.value_bank.specs.Cells.{Cell, AreTerms}
use Rattle.rule_code.proofs.Joined.{joined}
use Rattle.rule_code.proofs.Testing.{terms_count}
use Rattle.refuter.specs.Bounded.{rows_within}
use Rattle.ground_eval.specs.Opened.{AreFirstValues}
use Rattle.refuter.specs.Blocks.{rows_of, block, IsBegun}
use Rattle.refuter.specs.Moves.{GoesOn}
use Rattle.refuter.specs.Sizes.{CanRead}
use Rattle.refuter.specs.Walk.{IsReady}
use Rattle.refuter.proofs.Blocks.{joined_in, first_of_block}
use Rattle.refuter.proofs.InLists.{first_in}
use Rattle.refuter.proofs.Members.{rows_are}
use Rattle.refuter.proofs.Steps.{goes_true, goes_false, no_first}
use Rattle.refuter.proofs.Progress.{whole, row_small, as_many, variables_are}

all_front : {X : Type 0} (P : X → Type 0) (xs ys : List X) → AllByRecursion P (xs ++ ys) → AllByRecursion P xs
all_front P [] ys a = tt
all_front P (x ∷ xs) ys a = (a.0, all_front P xs ys a.1)

all_behind : {X : Type 0} (P : X → Type 0) (xs ys : List X) → AllByRecursion P (xs ++ ys) → AllByRecursion P ys
all_behind P [] ys a = a
all_behind P (x ∷ xs) ys a = all_behind P xs ys a.1

pub sorts_long : (vars : List VarInfo) → length (sorts_of vars) ≡ length vars
sorts_long vars = length-map vars (λ (v : VarInfo). v.sort)

module _ (spec : Spec) (goal : Goal) (depth : ℕ) (sig : Sig) (bound : ℕ) (sizes : List ℕ)
    (w : IsReady spec goal depth sig bound sizes) where
  pub few_variables : length goal.vars ≤ 16
  few_variables = (w.fine.goals w.listed.0 goal w.listed.1).few_variables

  pub few_symbols : bound < 4096
  few_symbols =
      let a = sorts_long goal.vars in
      let b = few_variables in
      let r : bound ≡ 255 * length (sorts_of goal.vars) = w.room in
      omega arith

  all_are : AllByRecursion (IsSort sig) (sorts_of goal.vars)
  all_are = subst (λ (g : Sig). AllByRecursion (IsSort g) (sorts_of goal.vars)) (sym w.walks)
      (variables_are spec.sig goal.vars (w.fine.goals w.listed.0 goal w.listed.1).variables)

  pub last_sorts : (before ss : List SortId) → before ++ ss ≡ sorts_of goal.vars → AllByRecursion (IsSort sig) ss
  last_sorts before ss e = all_behind (IsSort sig) before ss
      (subst (λ xs. AllByRecursion (IsSort sig) xs) (sym e) all_are)

  pub next_sorts : (before ss after : List SortId) → before ++ (ss ++ after) ≡ sorts_of goal.vars →
      AllByRecursion (IsSort sig) ss
  next_sorts before ss after e = all_front (IsSort sig) ss after (last_sorts before (ss ++ after) e)

  module _ (cells : List Cell) (places : List ℕ) (others : List SortId) (firsts : List Tree)
      (b : IsBegun spec.sig depth (sorts_of goal.vars) cells places others firsts) where
    pub can_read : CanRead cells places
    can_read = (firsts, b.stand, row_small spec.sig depth b.sorts firsts (in_contained _ _ b.listed))

    pub values_are_first : AreValuesOf spec b.sorts firsts
    values_are_first = all_in (AreValuesOf spec b.sorts) (rows_of spec.sig depth b.sorts) firsts
        (rows_are spec depth b.sorts) (in_contained _ _ b.listed)

    pub first_values : AreFirstValues spec goal firsts
    first_values =
        let m = as_many spec b.sorts firsts values_are_first in
        let seam = take-append_seam b.sorts others in
        let front : take (length firsts) (sorts_of goal.vars) ≡ b.sorts = ap (λ n. take n (sorts_of goal.vars))
        m ∙ ap (λ ss. take (length b.sorts) ss) (sym b.parted) ∙ seam in
        subst (λ ss. AreValuesOf spec ss firsts) (sym front) values_are_first

    pub variables_long : length places + length others ≡ length goal.vars
    variables_long =
        let n = terms_count cells places firsts b.stand in
        let m = as_many spec b.sorts firsts values_are_first in
        let k : length b.sorts + length others ≡ length (sorts_of goal.vars) = sym
        (length-append b.sorts others) ∙ ap (λ xs. length xs) b.parted in
        let l = sorts_long goal.vars in
        omega arith

    pub few_places : length places ≤ 16
    few_places =
        let n = variables_long in
        let m = few_variables in
        omega arith

    -- the same values at other places, or in another bank
    pub begun_again : (now : List Cell) (there : List ℕ) → AreTerms now there (trees_of firsts) →
        IsBegun spec.sig depth (sorts_of goal.vars) now there others firsts
    begun_again now there h = record { sorts = b.sorts; parted = b.parted; listed = b.listed; stand = h }

    -- if the row goes on with the first values of the others
    pub record FirstRow (now : List Cell) (row : List ℕ) : Type 0 where
      pub rest : List Tree
      pub first : slice_get (block spec.sig depth firsts others) 0 ≡ Some (firsts ++ rest)
      pub stand : AreTerms now row (trees_of (firsts ++ rest))
      pub small : CanRead now row

    pub first_row_of : (now : List Cell) (row : List ℕ) (more : Bool) →
        0 < length (rows_of spec.sig depth others) → AreTerms now places (trees_of firsts) →
        GoesOn now places (slice_get (rows_within sig depth others bound) 0) row more → FirstRow now row
    first_row_of now row more some kept goes =
        let fits : rows_within spec.sig depth others bound ≡ rows_of spec.sig depth others = whole spec.sig
        depth others bound room in
        let g : GoesOn now places (slice_get (rows_of spec.sig depth others) 0) row more = subst
        (λ rows. GoesOn now places (slice_get rows 0) row more) fits
        (subst (λ (s : Sig). GoesOn now places (slice_get (rows_within s depth others bound) 0) row more)
        w.walks goes) in
        of_first (rows_of spec.sig depth others) refl some g
      where
        room : 255 * length others ≤ bound
        room =
            let k : length b.sorts + length others ≡ length (sorts_of goal.vars) = sym
            (length-append b.sorts others) ∙ ap (λ xs. length xs) b.parted in
            let r : bound ≡ 255 * length (sorts_of goal.vars) = w.room in
            omega arith

        of_first : (rows : List (List Tree)) → rows ≡ rows_of spec.sig depth others → 0 < length rows →
            GoesOn now places (slice_get rows 0) row more → FirstRow now row
        of_first [] e lt g = absurd (omega arith)
        of_first (r ∷ rows) e lt g =
            let at : slice_get (rows_of spec.sig depth others) 0 ≡ Some r = ap (λ xs. slice_get xs 0) (sym e) in
            let stand : AreTerms now row (trees_of (firsts ++ r)) = subst
            (λ ps. AreTerms now ps (trees_of (firsts ++ r))) (sym g.1.1)
            (joined now places g.1.0 firsts r kept g.1.2) in
            let a : In (firsts ++ r) (rows_of spec.sig depth (b.sorts ++ others)) = joined_in spec.sig depth
            b.sorts others firsts r (in_contained _ _ b.listed) (first_in _ r at) in
            record {
              rest = r;
              first = first_of_block spec.sig depth firsts r others at;
              stand = stand;
              small = (firsts ++ r, stand, row_small spec.sig depth (b.sorts ++ others) (firsts ++ r) a);
            }

  -- a search begins with no values
  pub begun_none : (cells : List Cell) (places : List ℕ) (ss : List SortId) → ss ≡ sorts_of goal.vars →
      places ≡ [] → IsBegun spec.sig depth (sorts_of goal.vars) cells places ss []
  begun_none cells places ss e z = record {
    sorts = [];
    parted = e;
    listed = contained_in
        (rows_of spec.sig depth []) [] (first_in (rows_of spec.sig depth []) [] refl);
    stand = subst
        (λ ps. AreTerms cells ps (trees_of [])) (sym z) tt;
  }

  all_fit : (ss : List SortId) → ss ≡ sorts_of goal.vars → rows_within sig depth ss bound ≡ rows_of spec.sig depth ss
  all_fit ss e =
      let r : bound ≡ 255 * length (sorts_of goal.vars) = w.room in
      let l : length ss ≡ length (sorts_of goal.vars) = ap (λ xs. length xs) e in
      ap (λ (s : Sig). rows_within s depth ss bound) w.walks ∙ whole spec.sig depth ss bound (omega arith)

  -- if it finds a first row there are rows, and else none
  pub rows_some : (cells : List Cell) (kept row : List ℕ) (more : Bool) (ss : List SortId) →
      ss ≡ sorts_of goal.vars → more ≡ true →
      GoesOn cells kept (slice_get (rows_within sig depth ss bound) 0) row more → 0 < length (rows_of spec.sig depth ss)
  rows_some cells kept row more ss e m g =
      let h = goes_true cells kept (slice_get (rows_within sig depth ss bound) 0) row more g m in
      slice_get_within (rows_of spec.sig depth ss) 0 h.values
      (ap (λ rows. slice_get rows 0) (sym (all_fit ss e)) ∙ h.is)

  pub rows_none : (cells : List Cell) (kept row : List ℕ) (more : Bool) (ss : List SortId) →
      ss ≡ sorts_of goal.vars → more ≡ false →
      GoesOn cells kept (slice_get (rows_within sig depth ss bound) 0) row more →
      rows_of spec.sig depth (sorts_of goal.vars) ≡ []
  rows_none cells kept row more ss e m g =
      let h = goes_false cells kept (slice_get (rows_within sig depth ss bound) 0) row more g m in
      ap (λ xs. rows_of spec.sig depth xs) (sym e) ∙ sym (all_fit ss e) ∙ no_first (rows_within sig depth ss bound) h.0
