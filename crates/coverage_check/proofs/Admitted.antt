-- Linear patterns admit the terms that are instances of them.
use Rattle.std.proofs.Common.{◌≡◌, ◌↔◌, ℕ, List, [], ◌∷◌, inl, inr, refl, ◌∙◌}
use Rattle.std.specs.List.{AllByRecursion}
use Rattle.term_core.specs.declared.ids.SortId.{SortId}
use Rattle.spec_core.specs.Sig.{Sig}
use Rattle.term_core.specs.Tree.{Tree, Trees, var, app, none, some, instance, instances, trees_of}
use Rattle.term_core.specs.Variables.{Occurs, OccursAny}
use Rattle.spec_core.specs.Linear.{OccursTwice, OccurTwice}
use Rattle.term_core.proofs.Instances.{same_instance}
use Rattle.coverage_check.specs.Admits.{Admits, AdmitAll, SomeAdmits}
use Rattle.coverage_check.specs.Rows.{IsRow}
use Rattle.coverage_check.specs.Values.{MatchesRow, MatchesSome}
use Rattle.coverage_check.proofs.Assigned.{assigned, assigned_here, assigned_elsewhere}

mutual
  -- a pattern admits its instances
  pub admits : (p t : Tree) (xs : List Tree) → instance xs p ≡ t → Admits p t
  admits (var n) t xs e = tt
  admits (app f ps) (var n) xs e = absurd (let q : app f (instances xs ps) ≡ var n = e in cc)
  admits (app f ps) (app g ts) xs e =
      let q : app f (instances xs ps) ≡ app g ts = e in
      let s : f ≡ g = cc in
      let more : instances xs ps ≡ ts = cc in
      (s, admit_all ps ts xs more)

  pub admit_all : (ps ts : Trees) (xs : List Tree) → instances xs ps ≡ ts → AdmitAll ps ts
  admit_all none none xs e = tt
  admit_all none (some t ts) xs e = absurd (let q : none ≡ some t ts = e in cc)
  admit_all (some p ps) none xs e = absurd (let q : some (instance xs p) (instances xs ps) ≡ none = e in cc)
  admit_all (some p ps) (some t ts) xs e =
      let q : some (instance xs p) (instances xs ps) ≡ some t ts = e in
      let one : instance xs p ≡ t = cc in
      let more : instances xs ps ≡ ts = cc in
      (admits p t xs one, admit_all ps ts xs more)

-- a substitution that makes the term of the pattern and else leaves what was
pub record Made (p t : Tree) (old : List Tree) : Type 0 where
  pub new : List Tree
  pub makes : instance new p ≡ t
  pub keeps : (n : ℕ) → (Occurs n p → ⊥) → instance new (var n) ≡ instance old (var n)

pub record AllMade (ps ts : Trees) (old : List Tree) : Type 0 where
  pub new : List Tree
  pub makes : instances new ps ≡ ts
  pub keeps : (n : ℕ) → (OccursAny n ps → ⊥) → instance new (var n) ≡ instance old (var n)

mutual
  pub made : (p t : Tree) (old : List Tree) → ((n : ℕ) → OccursTwice n p → ⊥) → Admits p t → Made p t old
  made (var n) t old once a =
      record {
        new = assigned old n t;
        makes = assigned_here old n t;
        keeps = λ m h. assigned_elsewhere old n m t h;
      }
  made (app f ps) (var n) old once a = absurd a
  made (app f ps) (app g ts) old once a =
      let all = all_made ps ts old once a.1 in
      let s : f ≡ g = a.0 in
      let more : instances all.new ps ≡ ts = all.makes in
      record {
        new = all.new;
        makes = cc;
        keeps = all.keeps;
      }

  pub all_made : (ps ts : Trees) (old : List Tree) → ((n : ℕ) → OccurTwice n ps → ⊥) → AdmitAll ps ts →
      AllMade ps ts old
  all_made none none old once a = record { new = old; makes = refl; keeps = λ n h. refl }
  all_made none (some t ts) old once a = absurd a
  all_made (some p ps) none old once a = absurd a
  all_made (some p ps) (some t ts) old once a =
      let one = made p t old (λ n h. once n (inl h)) a.0 in
      let all = all_made ps ts one.new (λ n h. once n (inr (inr h))) a.1 in
      let first : instance all.new p ≡ t = same_instance p all.new one.new
      (λ n o. all.keeps n (λ q. once n (inr (inl (o, q))))) ∙ one.makes in
      let more : instances all.new ps ≡ ts = all.makes in
      record {
        new = all.new;
        makes = cc;
        keeps = λ n h. all.keeps n (λ q. h (inr q)) ∙ one.keeps n (λ q. h (inl q));
      }

pub row_admits : (row vs : List Tree) → ((n : ℕ) → OccurTwice n (trees_of row) → ⊥) →
    AdmitAll (trees_of row) (trees_of vs) ↔ MatchesRow row vs
row_admits row vs once = (
  λ a. let all = all_made (trees_of row) (trees_of vs) [] once a in (all.new, all.makes),
  λ m. admit_all (trees_of row) (trees_of vs) m.0 m.1,
)

-- what matches some row is admitted by it
pub some_admits : (rows : List (List Tree)) (vs : List Tree) → MatchesSome rows vs → SomeAdmits rows vs
some_admits [] vs m = absurd m
some_admits (row ∷ rows) vs (inl m) = inl (admit_all (trees_of row) (trees_of vs) m.0 m.1)
some_admits (row ∷ rows) vs (inr m) = inr (some_admits rows vs m)

-- what some row of linear patterns admits matches it
pub some_matches : (sig : Sig) (sorts : List SortId) (rows : List (List Tree)) (vs : List Tree) →
    AllByRecursion (IsRow sig sorts) rows → SomeAdmits rows vs → MatchesSome rows vs
some_matches sig sorts [] vs h a = absurd a
some_matches sig sorts (row ∷ rows) vs h (inl a) = inl ((row_admits row vs h.0.linear).0 a)
some_matches sig sorts (row ∷ rows) vs h (inr a) = inr (some_matches sig sorts rows vs h.1 a)
