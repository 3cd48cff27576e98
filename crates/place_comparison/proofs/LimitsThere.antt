-- A clause within the limits stays so when a place holds another term, if there is room for the
-- term's symbols and levels.
use Rattle.std.proofs.Common.{◌≡◌, ℕ, ◌+◌, ◌-◌, ◌≤◌, List, [], ◌∷◌, ◌++◌, Bool, true, false, length, min, ap, ◌∙◌}
use Rattle.std.proofs.Common.{arith}
use Rattle.term_core.specs.Tree.{Tree, trees_of, tree_size, sizes, tree_depth, depths}
use Rattle.term_core.specs.Contexts.{plug}
use Rattle.spec_core.specs.declared.records.Equation.{Equation}
use Rattle.clause_core.specs.declared.clauses.Clause.{Clause}
use Rattle.clause_core.specs.declared.steps.Place.{Place}
use Rattle.clause_core.specs.Clauses.{sides_of}
use Rattle.clause_core.specs.Limits.{IsWithin, clause_size, clause_depth}
use Rattle.clause_core.specs.NumberedEquations.{EquationAt, equations, exchanged}
use Rattle.clause_core.specs.Places.{TermAt, path_of, with_side, holding}
use Rattle.place_comparison.proofs.SidesRound.{holds_own, sides_round}
use Rattle.place_comparison.proofs.SizesRound.{sizes_append, sizes_round, depths_round, part_size, plug_size}
use Rattle.place_comparison.proofs.SizesRound.{plug_levels, plug_depth}

pub size_of_clause : (c : Clause) →
    clause_size c ≡ sizes (trees_of (sides_of c.premises)) + sizes (trees_of (sides_of c.conclusions))
size_of_clause c = sizes_append (sides_of c.premises) (sides_of c.conclusions)

-- how many equations a clause has
many : Clause → ℕ
many c = length c.premises + length c.conclusions

as_many : (first rest : List Equation) (d e : Equation) → length (first ++ d ∷ rest) ≡ length (first ++ e ∷ rest)
as_many [] rest d e = omega arith
as_many (x ∷ first) rest d e = omega (arith, as_many first rest d e)

exchanged_many :
    (kind : Bool) (c : Clause) (n : ℕ) (p : EquationAt (equations kind c) n) (d e : Equation) →
    many (exchanged kind c p (d ∷ [])) ≡ many (exchanged kind c p (e ∷ []))
unfolding many
exchanged_many true c n p d e = omega (arith, as_many p.before p.after d e)
exchanged_many false c n p d e = omega (arith, as_many p.before p.after d e)

module _ (c : Clause) (place : Place) (at : TermAt c place) (u : Tree) where
  as_many_there : many (holding at u) ≡ many c
  as_many_there =
      exchanged_many place.conclusion c place.number at.at
      (with_side place.left at.at.equation (plug at.round u))
      (with_side place.left at.at.equation (plug at.round at.term))
      ∙ ap many (holds_own c place at)

  -- the size changes by that of the term
  pub size_there : clause_size (holding at u) + tree_size at.term ≡ clause_size c + tree_size u
  size_there =
      let r = sides_round c place at in
      let new = ap (λ ts. sizes (trees_of ts)) (r.2 u) ∙ sizes_round r.0 r.1 (plug at.round u) in
      let old = ap (λ ts. sizes (trees_of ts)) r.3 ∙ sizes_round r.0 r.1 (plug at.round at.term) in
      omega (arith, new, old, plug_size at.round at.term u)

  path_length : length place.path ≡ length (path_of at.round)
  path_length = ap (λ (ns : List ℕ). length ns) at.path

  -- the term's levels are below those of the path
  pub levels_there : length place.path + tree_depth u ≤ clause_depth (holding at u)
  levels_there =
      let r = sides_round c place at in
      let new = ap (λ ts. depths (trees_of ts)) (r.2 u) ∙ depths_round r.0 r.1 (plug at.round u) in
      omega (arith, new, path_length, plug_levels at.round u)

  depth_there : (n : ℕ) → clause_depth c ≤ n → length place.path + tree_depth u ≤ n → clause_depth (holding at u) ≤ n
  depth_there n h l =
      let r = sides_round c place at in
      let new = ap (λ ts. depths (trees_of ts)) (r.2 u) ∙ depths_round r.0 r.1 (plug at.round u) in
      let old = ap (λ ts. depths (trees_of ts)) r.3 ∙ depths_round r.0 r.1 (plug at.round at.term) in
      let below = plug_depth at.round at.term u n (omega (arith, h, old)) (omega (arith, l, path_length)) in
      omega (arith, h, old, new, below)

  pub stays_within : IsWithin c → clause_size (holding at u) ≤ 4000 → length place.path + tree_depth u ≤ 100 →
      IsWithin (holding at u)
  unfolding many
  stays_within w small low = record {
    equations = omega (arith, w.equations, as_many_there);
    depth = depth_there 100 w.depth low;
    size = small;
  }

module _ (c : Clause) (place : Place) (at : TermAt c place) where
  -- the term at the place is no larger than the clause, and is within its levels
  pub own_size : tree_size at.term ≤ clause_size c
  own_size =
      let r = sides_round c place at in
      let old = ap (λ ts. sizes (trees_of ts)) r.3 ∙ sizes_round r.0 r.1 (plug at.round at.term) in
      omega (arith, old, part_size at.round at.term)

  pub own_levels : length place.path + tree_depth at.term ≤ clause_depth c
  own_levels = omega (arith, levels_there c place at at.term, ap clause_depth (holds_own c place at))

  module _ (w : IsWithin c) where
    pub few_levels : length place.path ≤ 100
    few_levels = omega (arith, own_levels, w.depth)

    -- the test of the levels below the path
    pub levels_test :
        (u : Tree) (levels depth : ℕ) → levels ≡ length place.path →
        depth ≡ min (tree_depth u) (100 - levels + 1) → clause_size (holding at u) ≤ 4000 →
        (depth ≤ 100 - levels → IsWithin (holding at u)) × (IsWithin (holding at u) → depth ≤ 100 - levels)
    levels_test u levels depth l e small = (
      λ low. stays_within c place at u w small (omega (arith, low, e, l, few_levels)),
      λ v. omega (arith, e, l, few_levels, levels_there c place at u, v.depth),
    )

-- how much room there is for another term
module _ (c : Clause) (w : IsWithin c) (place : Place) (at : TermAt c place) (old : Tree) (is : at.term ≡ old)
    (first second part : ℕ) where
  abbrev pub AreSizes : Type 0
  AreSizes =
      (first ≡ min (sizes (trees_of (sides_of c.premises))) 4000)
      × (second ≡ min (sizes (trees_of (sides_of c.conclusions))) 4000)
      × (part ≡ min (tree_size old) 4000)

  sizes_are : AreSizes → (first + second ≡ clause_size c) × (part ≡ tree_size at.term) × (part ≤ first + second)
      × (first + second ≤ 4000)
  sizes_are s =
      let whole : first + second ≡ clause_size c = omega (arith, s.0, s.1, w.size, size_of_clause c) in
      let own : part ≡ tree_size at.term = omega (arith, s.2, ap tree_size is, own_size c place at, w.size) in
      (whole, own, omega (arith, whole, own, own_size c place at), omega (arith, whole, w.size))

  pub no_more : AreSizes → part ≤ first + second
  no_more s = (sizes_are s).2

  pub some_room : AreSizes → first + second - part ≤ 4000
  some_room s = omega (arith, (sizes_are s).3)

  -- the test of the room
  pub room_test :
      AreSizes → (u : Tree) (n : ℕ) → n ≡ min (tree_size u) (4000 - (first + second - part) + 1) →
      (n ≤ 4000 - (first + second - part) → clause_size (holding at u) ≤ 4000)
      × (clause_size (holding at u) ≤ 4000 → n ≤ 4000 - (first + second - part))
  room_test s u n e =
      let f = sizes_are s in
      let there = size_there c place at u in (
        λ small. omega (arith, e, small, f.0, f.1, f.2, f.3, there),
        λ v. omega (arith, e, f.0, f.1, f.2, f.3, there, v),
      )

-- a term that isn't larger than the one at the place has room
pub no_larger :
    (c : Clause) (place : Place) (at : TermAt c place) (old : Tree) → at.term ≡ old → (u : Tree) →
    IsWithin c → (part n : ℕ) → part ≡ min (tree_size old) 4000 →
    n ≡ min (tree_size u) (part + 1) → n ≤ part → clause_size (holding at u) ≤ 4000
no_larger c place at old is u w part n p e small =
    omega (
      arith,
      p,
      e,
      small,
      ap tree_size is,
      own_size c place at,
      w.size,
      size_there c place at u,
    )
