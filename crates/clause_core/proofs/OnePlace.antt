-- An equation has one place of its number in a list, and a term one place of its path in a clause.
use Rattle.std.proofs.Common.{◌≡◌, ℕ, ◌+◌, List, [], ◌∷◌, ◌++◌, Bool, true, false, refl, ap, sym, ◌∙◌, arith, length}
use Rattle.term_core.specs.Tree.{Tree, Trees, app, none, some, list_of}
use Rattle.spec_core.specs.declared.records.Equation.{Equation}
use Rattle.term_core.specs.Contexts.{Context, hole, under, around, plug}
use Rattle.clause_core.specs.declared.clauses.Clause.{Clause}
use Rattle.clause_core.specs.declared.steps.Place.{Place}
use Rattle.clause_core.specs.NumberedEquations.{EquationAt, equations, exchanged}
use Rattle.clause_core.specs.Places.{TermAt, side, with_side, path_of, holding}

cut_one : {X : Type 0} (as_ bs cs ds : List X) (x y : X) → as_ ++ (x ∷ cs) ≡ bs ++ (y ∷ ds) →
    length as_ ≡ length bs → (as_ ≡ bs) × (x ≡ y) × (cs ≡ ds)
cut_one [] [] cs ds x y e l = (
  refl,
  let q : x ∷ cs ≡ y ∷ ds = e in let h : x ≡ y = cc in h,
  let q : x ∷ cs ≡ y ∷ ds = e in let h : cs ≡ ds = cc in h,
)
cut_one [] (b ∷ bs) cs ds x y e l = absurd (omega arith)
cut_one (a ∷ as_) [] cs ds x y e l = absurd (omega arith)
cut_one (a ∷ as_) (b ∷ bs) cs ds x y e l =
    let q : a ∷ (as_ ++ (x ∷ cs)) ≡ b ∷ (bs ++ (y ∷ ds)) = e in
    let h : a ≡ b = cc in
    let k : as_ ++ (x ∷ cs) ≡ bs ++ (y ∷ ds) = cc in
    let r = cut_one as_ bs cs ds x y k (omega arith) in
    (λ i. h i ∷ r.0 i, r.1, r.2)

around_one : (as_ bs cs ds : Trees) (x y : Tree) → around as_ x cs ≡ around bs y ds →
    length (list_of as_) ≡ length (list_of bs) → (as_ ≡ bs) × (x ≡ y) × (cs ≡ ds)
around_one none none cs ds x y e l = (
  refl,
  let q : some x cs ≡ some y ds = e in let h : x ≡ y = cc in h,
  let q : some x cs ≡ some y ds = e in let h : cs ≡ ds = cc in h,
)
around_one none (some b bs) cs ds x y e l = absurd (omega arith)
around_one (some a as_) none cs ds x y e l = absurd (omega arith)
around_one (some a as_) (some b bs) cs ds x y e l =
    let q : some a (around as_ x cs) ≡ some b (around bs y ds) = e in
    let h : a ≡ b = cc in
    let k : around as_ x cs ≡ around bs y ds = cc in
    let r = around_one as_ bs cs ds x y k (omega arith) in
    (λ i. some (h i) (r.0 i), r.1, r.2)

-- one context round a term, by its path
pub plug_one : (c d : Context) (t u : Tree) → plug c t ≡ plug d u → path_of c ≡ path_of d → (c ≡ d) × (t ≡ u)
plug_one hole hole t u e p = (refl, e)
plug_one hole (under f before d after) t u e p = absurd
    (let q : [] ≡ (length (list_of before) + 1) ∷ path_of d = p in cc)
plug_one (under f before c after) hole t u e p = absurd
    (let q : (length (list_of before) + 1) ∷ path_of c ≡ [] = p in cc)
plug_one (under f before c after) (under g left d right) t u e p =
    let q : app f (around before (plug c t) after) ≡ app g (around left (plug d u) right) = e in
    let heads : f ≡ g = cc in
    let args : around before (plug c t) after ≡ around left (plug d u) right = cc in
    let w : (length (list_of before) + 1) ∷ path_of c ≡ (length (list_of left) + 1) ∷ path_of d = p in
    let n : length (list_of before) + 1 ≡ length (list_of left) + 1 = cc in
    let m : path_of c ≡ path_of d = cc in
    let r = around_one before left after right (plug c t) (plug d u) args (omega arith) in
    let s = plug_one c d t u r.1 m in
    (λ i. under (heads i) (r.0 i) (s.0 i) (r.2 i), s.1)

-- one equation of a number
pub equation_one : (own : List Equation) (n : ℕ) (a b : EquationAt own n) →
    (a.before ≡ b.before) × (a.equation ≡ b.equation) × (a.after ≡ b.after)
equation_one own n a b = cut_one a.before b.before a.after b.after a.equation b.equation (sym a.is ∙ b.is)
    (omega (arith, a.place, b.place))

pub exchanged_one : (kind : Bool) (c : Clause) (n : ℕ) (a b : EquationAt (equations kind c) n)
    (es : List Equation) → exchanged kind c a es ≡ exchanged kind c b es
exchanged_one true c n a b es = let p = equation_one c.conclusions n a b in
    λ i. record { ctx = c.ctx; premises = c.premises; conclusions = p.0 i ++ (es ++ p.2 i) }
exchanged_one false c n a b es = let p = equation_one c.premises n a b in
    λ i. record { ctx = c.ctx; premises = p.0 i ++ (es ++ p.2 i); conclusions = c.conclusions }

-- one term at a place, and one clause that holds another term there
pub term_one : (c : Clause) (place : Place) (a b : TermAt c place) →
    (a.term ≡ b.term) × ((t u : Tree) → t ≡ u → holding a t ≡ holding b u)
term_one c place a b =
    let p = equation_one (equations place.conclusion c) place.number a.at b.at in
    let r = plug_one a.round b.round a.term b.term (sym a.is ∙ ap (λ e. side place.left e) p.1 ∙ b.is)
    (sym a.path ∙ b.path) in (
      r.1,
      λ t u q. exchanged_one place.conclusion c place.number a.at b.at
          (with_side place.left a.at.equation (plug a.round t) ∷ [])
          ∙ (λ i. exchanged place.conclusion c b.at (with_side place.left (p.1 i) (plug (r.0 i) (q i)) ∷ [])),
    )
