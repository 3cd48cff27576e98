-- Pairs of nodes that are to be joined.
use Rattle.std.proofs.Common.{◌≡◌, ℕ, ◌≤◌, List, [], ◌∷◌, ◌++◌, refl, arith, length}
use Rattle.std.specs.List.{zip}
use Rattle.term_core.specs.Tree.{Tree, some}
use Rattle.unifier.specs.Graph.{trees_by, AllBelow}
use Rattle.unifier.specs.Markings.{Joins}
use Rattle.unifier.specs.Classes.{AreWithin}

module _ (mark : ℕ → Tree) where
  pub joins_parts : (ps qs : List (ℕ × ℕ)) → Joins mark (ps ++ qs) → Joins mark ps × Joins mark qs
  joins_parts [] qs j = (tt, j)
  joins_parts (p ∷ ps) qs j =
      let r = joins_parts ps qs j.1 in
      ((j.0, r.0), r.1)

  pub joins_all : (ps qs : List (ℕ × ℕ)) → Joins mark ps → Joins mark qs → Joins mark (ps ++ qs)
  joins_all [] qs a b = b
  joins_all (p ∷ ps) qs a b = (a.0, joins_all ps qs a.1 b)

  -- the pairs of two lists are joined if the lists' trees are the same
  pub joins_zip : (cs ds : List ℕ) → length cs ≡ length ds → Joins mark (zip cs ds) →
      trees_by mark cs ≡ trees_by mark ds
  joins_zip [] [] l j = refl
  joins_zip [] (d ∷ ds) l j = absurd (omega arith)
  joins_zip (c ∷ cs) [] l j = absurd (omega arith)
  joins_zip (c ∷ cs) (d ∷ ds) l j =
      let p : mark c ≡ mark d = j.0 in
      let q : trees_by mark cs ≡ trees_by mark ds = joins_zip cs ds (omega arith) j.1 in
      cc

  pub zip_joins : (cs ds : List ℕ) → trees_by mark cs ≡ trees_by mark ds → Joins mark (zip cs ds)
  zip_joins [] ds e = tt
  zip_joins (c ∷ cs) [] e = tt
  zip_joins (c ∷ cs) (d ∷ ds) e =
      let q : some (mark c) (trees_by mark cs) ≡ some (mark d) (trees_by mark ds) = e in
      (cc, zip_joins cs ds (cc))

pub within_parts : (n : ℕ) (ps qs : List (ℕ × ℕ)) → AreWithin n (ps ++ qs) → AreWithin n ps × AreWithin n qs
within_parts n [] qs w = (tt, w)
within_parts n (p ∷ ps) qs w =
    let r = within_parts n ps qs w.2 in
    ((w.0, w.1, r.0), r.1)

pub within_all : (n : ℕ) (ps qs : List (ℕ × ℕ)) → AreWithin n ps → AreWithin n qs → AreWithin n (ps ++ qs)
within_all n [] qs a b = b
within_all n (p ∷ ps) qs a b = (a.0, a.1, within_all n ps qs a.2 b)

pub within_zip : (n : ℕ) (cs ds : List ℕ) → AllBelow n cs → AllBelow n ds → AreWithin n (zip cs ds)
within_zip n [] ds a b = tt
within_zip n (c ∷ cs) [] a b = tt
within_zip n (c ∷ cs) (d ∷ ds) a b = (a.0, b.0, within_zip n cs ds a.1 b.1)

pub length_zip_le : (cs ds : List ℕ) → length (zip cs ds) ≤ length cs
length_zip_le [] ds = omega arith
length_zip_le (c ∷ cs) [] = omega arith
length_zip_le (c ∷ cs) (d ∷ ds) = omega (arith, length_zip_le cs ds)
