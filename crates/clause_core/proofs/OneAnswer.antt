-- Rows that agree say one thing.
use Rattle.std.proofs.Common.{◌≡◌, ℕ, List, [], ◌∷◌, inl, inr, refl, ap, sym, ◌∙◌, subst}
use Rattle.std.specs.Prelude.{Result, Ok, Err}
use Rattle.std.specs.List.{AllZip}
use Rattle.term_core.specs.Tree.{Tree}
use Rattle.clause_core.specs.declared.clauses.Clause.{Clause}
use Rattle.clause_core.specs.declared.answers.Child.{Child}
use Rattle.clause_core.specs.declared.answers.Children.{Children}
use Rattle.clause_core.specs.declared.answers.Reference.{Reference}
use Rattle.clause_core.specs.declared.answers.Why.{Why}
use Rattle.clause_core.specs.ClauseLaws.{OneRelation}
use Rattle.clause_core.specs.Rows.{Made, Row, child, compared_child, needs, makes}
use Rattle.clause_core.specs.Says.{AreWithin, AnswersWithin, IsChild, IsReference, Says}

-- the same conditions are met, and then the same is made, whichever witnesses there are
abbrev pub Agree : Row → Row → Type 0
Agree (needs P why rest) (needs Q other next) = (P → Q) × (Q → P) × (why ≡ other)
    × ((p : P) (q : Q) → Agree (rest p) (next q))
Agree (makes cs rs) (makes ds ss) = (cs ≡ ds) × (rs ≡ ss)
Agree (needs P why rest) (makes ds ss) = ⊥
Agree (makes cs rs) (needs Q other next) = ⊥

-- a condition that speaks of things that are the same
pub forth : {A : Type 0} (P : A → Type 0) {x y : A} → x ≡ y → P x → P y
forth P e p = subst P e p

pub back : {A : Type 0} (P : A → Type 0) {x y : A} → x ≡ y → P y → P x
back P e p = subst P (sym e) p

module _ (above : Tree → Tree → Type 0) (one_relation : OneRelation above) (c : Clause) where
  one_child : (m : Made) (a b : Child) → IsChild above c m a → IsChild above c m b → a ≡ b
  one_child (child r d) a b p q = let e : a.clause ≡ b.clause = p.0 ∙ sym q.0 in
      let f : a.relation ≡ b.relation = p.1 ∙ sym q.1 in λ i. record { clause = e i; relation = f i }
  one_child (compared_child d) a b p q = let e : a.clause ≡ b.clause = p.0 ∙ sym q.0 in
      let f : a.relation ≡ b.relation = one_relation c d a.relation b.relation p.1 q.1 in
      λ i. record { clause = e i; relation = f i }

  one_reference : (r : ℕ × Clause) (a b : Reference) → IsReference above c r a → IsReference above c r b → a ≡ b
  one_reference r a b p q = let e : a.node ≡ b.node = p.0 ∙ sym q.0 in
      let f : a.relation ≡ b.relation = one_relation c r.1 a.relation b.relation p.1 q.1 in
      λ i. record { node = e i; relation = f i }

  pairwise_one : {X Y : Type 0} (R : X → Y → Type 0) → ((x : X) (y z : Y) → R x y → R x z → y ≡ z) →
      (xs : List X) (ys zs : List Y) → AllZip R xs ys → AllZip R xs zs → ys ≡ zs
  pairwise_one R one [] [] [] p q = refl
  pairwise_one R one [] [] (z ∷ zs) p q = absurd q
  pairwise_one R one [] (y ∷ ys) zs p q = absurd p
  pairwise_one R one (x ∷ xs) [] zs p q = absurd p
  pairwise_one R one (x ∷ xs) (y ∷ ys) [] p q = absurd q
  pairwise_one R one (x ∷ xs) (y ∷ ys) (z ∷ zs) p q =
      let h : y ≡ z = one x y z p.0 q.0 in
      let k : ys ≡ zs = pairwise_one R one xs ys zs p.1 q.1 in
      λ i. h i ∷ k i

  -- what is made, or that it passes a limit
  pub within_one : (nodes : List Clause) (m n : Children) (a b : Result Children Why) → m ≡ n →
      AnswersWithin nodes m a → AnswersWithin nodes n b → a ≡ b
  within_one nodes m n a b e (inl p) (inl q) = p.1 ∙ ap (λ x. Ok x) e ∙ sym q.1
  within_one nodes m n a b e (inl p) (inr q) = absurd (q.0 (subst (λ (x : Children). AreWithin nodes x.clauses) e p.0))
  within_one nodes m n a b e (inr p) (inl q) = absurd
      (p.0 (subst (λ (x : Children). AreWithin nodes x.clauses) (sym e) q.0))
  within_one nodes m n a b e (inr p) (inr q) = p.1 ∙ sym q.1

  pub says_one : (nodes : List Clause) (r s : Row) → Agree r s → (a b : Result Children Why) →
      Says above c nodes r a → Says above c nodes s b → a ≡ b
  says_one nodes (needs P why rest) (needs Q other next) h a b (inl p) (inl q) = says_one nodes (rest p.0)
      (next q.0) (h.3 p.0 q.0) a b p.1 q.1
  says_one nodes (needs P why rest) (needs Q other next) h a b (inl p) (inr q) = absurd (q.0 (h.0 p.0))
  says_one nodes (needs P why rest) (needs Q other next) h a b (inr p) (inl q) = absurd (p.0 (h.1 q.0))
  says_one nodes (needs P why rest) (needs Q other next) h a b (inr p) (inr q) = p.1 ∙ ap (λ w. Err w) h.2 ∙ sym q.1
  says_one nodes (needs P why rest) (makes ds ss) h a b p q = absurd h
  says_one nodes (makes cs rs) (needs Q other next) h a b p q = absurd h
  says_one nodes (makes cs rs) (makes ds ss) h a b (m, mc, mr, x) (n, nc, nr, y) =
      let e : m.clauses ≡ n.clauses = pairwise_one (IsChild above c) one_child cs m.clauses n.clauses mc
      (subst (λ z. AllZip (IsChild above c) z n.clauses) (sym h.0) nc) in
      let f : m.refs ≡ n.refs = pairwise_one (IsReference above c) one_reference rs m.refs n.refs mr
      (subst (λ z. AllZip (IsReference above c) z n.refs) (sym h.1) nr) in
      within_one nodes m n a b (λ i. record { clauses = e i; refs = f i }) x y
