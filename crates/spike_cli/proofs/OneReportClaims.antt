-- Claims on the goals of one specification, with the same bounds: what is seen of them is one list,
-- if the same is seen of any two proofs of a goal.
use Rattle.std.proofs.Common.{◌≡◌, ◌∙◌, ℕ, ◌+◌, List, [], ◌∷◌, ◌++◌, Bool, Some, inl, inr, refl, ap, map, sym, subst}
use Rattle.std.proofs.Common.{take, length, length-append, append-nil, arith}
use Rattle.std.specs.Prelude.{slice_get}
use Rattle.std.proofs.lemmas.Bool.{cases_order}
use Rattle.std.proofs.lemmas.List.{length-map}
use Rattle.std.proofs.lemmas.Option.{slice_get_within}
use Rattle.std.proofs.Math.Seq.{take-length}
use Rattle.term_core.specs.Tree.{Tree}
use Rattle.spec_core.specs.declared.records.Goal.{Goal}
use Rattle.spec_core.specs.declared.records.Spec.{Spec}
use Rattle.spec_core.specs.Order.{substitutions}
use Rattle.refuter.specs.declared.answers.Search.{Search}
use Rattle.refuter.specs.declared.answers.Search.TheVariants.{Found, NotFound}
use Rattle.refuter.specs.Finds.{Finds, SpentRows}
use Rattle.clause_core.specs.declared.reports.Budget.{Budget}
use Rattle.clause_core.specs.declared.reports.Claim.{Claim}
use Rattle.clause_core.specs.declared.reports.Outcome.{Outcome}
use Rattle.clause_core.specs.declared.reports.Outcome.TheVariants.{Proved, Refuted, Open}
use Rattle.clause_core.specs.declared.steps.Block.{Block}
use Rattle.command_line.specs.declared.bounds.ProofBounds.{ProofBounds}
use Rattle.search_claims.specs.Claims.{AreClaims, AreFirstClaims}
use Rattle.search_claims.proofs.FirstClaims.{first_claims}
use Rattle.spike_cli.specs.Claims.{IsClaimOn, IsNextClaim, IsOutcomeOf, IsUnrefuted, budget_of, number_proved}
use Rattle.spike_cli.specs.Claims.{proved_goals}
use Rattle.spike_cli.proofs.ProvedGoals.{has_first, has_none, proved-append}
use Rattle.spike_cli.proofs.ReportedClaims.{as_many}

-- a search has one answer
module _ (spec : Spec) (goal : Goal) (budget : ℕ) where
  one_count :
      (rows : List (List Tree)) (m n : ℕ) → SpentRows spec goal budget rows m →
      SpentRows spec goal budget rows n → m ≡ n
  one_count [] m n a b = a ∙ sym b
  one_count (row ∷ rows) m n (inl a) (inl b) =
      omega (arith, a.1.1, b.1.1, one_count rows a.1.0 b.1.0 a.1.2 b.1.2)
  one_count (row ∷ rows) m n (inl a) (inr b) = absurd (b.0 a.0)
  one_count (row ∷ rows) m n (inr a) (inl b) = absurd (a.0 b.0)
  one_count (row ∷ rows) m n (inr a) (inr b) = one_count rows m n a.1 b.1

  module _ (tries : ℕ) (rows : List (List Tree)) where
    -- if a row is found, no search answers that there is none
    found_or_not :
        (index : ℕ) (row : List Tree) (tried skipped : ℕ) (cut : Bool) →
        Finds spec goal budget tries rows (Found index row) →
        Finds spec goal budget tries rows (NotFound tried skipped cut) → ⊥
    found_or_not index row tried skipped cut a b =
        let within = slice_get_within rows index row a.1 in
        b.2 index row (omega (arith, a.0, b.0, within)) a.1 a.2

    one_search :
        (s t : Search) → Finds spec goal budget tries rows s →
        Finds spec goal budget tries rows t → s ≡ t
    one_search (Found i row) (Found j other) a b =
        elim (cases_order i j) [
          | inl e ↦ (
              let at : slice_get rows i ≡ Some other =
              subst (λ k. slice_get rows k ≡ Some other) (sym e) b.1 in
              let q : Some row ≡ Some other = sym a.1 ∙ at in
              let same : row ≡ other = cc in
              λ k. Found (e k) (same k)
              )
          | inr (inl below) ↦ absurd (b.3 i row below a.1 a.2)
          | inr (inr above) ↦ absurd (a.3 j other above b.1 b.2)
        ]
    one_search (Found i row) (NotFound tried skipped cut) a b =
        absurd (found_or_not i row tried skipped cut a b)
    one_search (NotFound tried skipped cut) (Found i row) a b =
        absurd (found_or_not i row tried skipped cut b a)
    one_search (NotFound tried skipped cut) (NotFound t s c) a b =
        let tries_same : tried ≡ t = a.0 ∙ sym b.0 in
        let cut_same : cut ≡ c = a.1 ∙ sym b.1 in
        let moved = subst (λ n. SpentRows spec goal budget (take n rows) s) (sym tries_same) b.3 in
        let skipped_same = one_count (take tried rows) skipped s a.3 moved in
        λ k. NotFound (tries_same k) (skipped_same k) (cut_same k)

-- a goal isn't both proved and left open
proved_or_open :
    (bounds : ProofBounds) (spec : Spec) (lemmas : List ℕ) (goal : Goal) (tried : Budget)
    (block : Block) (budget : Budget) →
    IsUnrefuted bounds spec lemmas goal tried (Proved block) →
    IsUnrefuted bounds spec lemmas goal tried (Open budget) → ⊥
proved_or_open bounds spec lemmas goal tried block budget (inl is) left_open =
    left_open.0 is.variable.0 is.first.0
proved_or_open bounds spec lemmas goal tried block budget (inr is) left_open =
    has_none bounds spec lemmas goal left_open.1
    (has_first bounds spec lemmas goal block.steps is.1)

module _ {X : Type 0} (seen : Claim → X) (bounds : ProofBounds) (spec : Spec) where
  -- the same is seen of two proofs of a goal with the same lemmas
  abbrev pub SeesOneProof : Type 0
  SeesOneProof =
      (lemmas : List ℕ) (goal : Goal) (tried : Budget) (name : List ℕ) (a b : Block) →
      IsUnrefuted bounds spec lemmas goal tried (Proved a) →
      IsUnrefuted bounds spec lemmas goal tried (Proved b) →
      seen (record { goal = name; outcome = Proved a })
      ≡ seen (record { goal = name; outcome = Proved b })

  -- if the same is seen, the same goals are proved
  abbrev pub SeesProved : Type 0
  SeesProved =
      (number : ℕ) (c d : Claim) → seen c ≡ seen d →
      number_proved number c.outcome ≡ number_proved number d.outcome

  module _ (proofs : SeesOneProof) (proved : SeesProved) where
    -- two claims on a goal with the same lemmas
    module _ (lemmas : List ℕ) (goal : Goal) where
      unrefuted :
          (tried : Budget) (name : List ℕ) (o p : Outcome) →
          IsUnrefuted bounds spec lemmas goal tried o →
          IsUnrefuted bounds spec lemmas goal tried p →
          seen (record { goal = name; outcome = o }) ≡ seen (record { goal = name; outcome = p })
      unrefuted tried name (Proved block) (Proved other) a b =
          proofs lemmas goal tried name block other a b
      unrefuted tried name (Proved block) (Refuted index values) a b = absurd b
      unrefuted tried name (Proved block) (Open budget) a b =
          absurd (proved_or_open bounds spec lemmas goal tried block budget a b)
      unrefuted tried name (Refuted index values) p a b = absurd a
      unrefuted tried name (Open budget) (Proved block) a b =
          absurd (proved_or_open bounds spec lemmas goal tried block budget b a)
      unrefuted tried name (Open budget) (Refuted index values) a b = absurd b
      unrefuted tried name (Open budget) (Open other) a b =
          ap (λ n. seen (record { goal = name; outcome = Open n })) (a.2 ∙ sym b.2)

      outcomes :
          (search : Search) (name : List ℕ) (o p : Outcome) →
          IsOutcomeOf bounds spec lemmas goal search o →
          IsOutcomeOf bounds spec lemmas goal search p →
          seen (record { goal = name; outcome = o }) ≡ seen (record { goal = name; outcome = p })
      outcomes (Found index values) name o p a b =
          ap (λ x. seen (record { goal = name; outcome = x })) (a ∙ sym b)
      outcomes (NotFound tried skipped cut) name o p a b =
          unrefuted (budget_of bounds tried skipped cut) name o p a b

      one_claim :
          (c d : Claim) → IsClaimOn bounds spec lemmas goal c →
          IsClaimOn bounds spec lemmas goal d → seen c ≡ seen d
      one_claim c d a b =
          let rows = substitutions spec goal bounds.search.depth in
          let same : b.search ≡ a.search =
          one_search spec goal bounds.search.steps bounds.search.tries rows
          b.search a.search b.exact a.exact in
          let moved = subst (λ s. IsOutcomeOf bounds spec lemmas goal s d.outcome) same b.outcome in
          let name : c.goal ≡ d.goal = a.name ∙ sym b.name in
          ap (λ n. seen (record { goal = n; outcome = c.outcome })) name
          ∙ outcomes a.search d.goal c.outcome d.outcome a.outcome moved

    -- claims on the first goals are seen first among claims on all goals, if before them as many
    -- goals have claims and the same are proved
    first_seen :
        (before others : List Claim) (goals : List Goal) (cs ds : List Claim) →
        length before ≡ length others → proved_goals before ≡ proved_goals others →
        AreFirstClaims (IsNextClaim bounds spec) before goals cs →
        AreClaims (IsNextClaim bounds spec) others goals ds →
        (rest : List X) × (map seen ds ≡ map seen cs ++ rest)
    first_seen before others goals [] ds long same a b = (map seen ds, refl)
    first_seen before others [] (c ∷ cs) ds long same a b = absurd a
    first_seen before others (g ∷ goals) (c ∷ cs) [] long same a b = absurd b
    first_seen before others (g ∷ goals) (c ∷ cs) (d ∷ ds) long same a b =
        let moved : IsClaimOn bounds spec (proved_goals before) g d =
        subst (λ ns. IsClaimOn bounds spec ns g d) (sym same) b.0 in
        let here : seen d ≡ seen c = one_claim (proved_goals before) g d c moved a.0 in
        let longer : length (before ++ c ∷ []) ≡ length (others ++ d ∷ []) =
        omega (arith, long, length-append before (c ∷ []), length-append others (d ∷ [])) in
        let n = 0 + length before in
        let more : proved_goals (before ++ c ∷ []) ≡ proved_goals (others ++ d ∷ []) =
        proved-append 0 before c
        ∙ ap (λ ns. proved_goals before ++ ns) (proved n c d (sym here))
        ∙ ap (λ ns. ns ++ number_proved n d.outcome) same
        ∙ ap (λ k. proved_goals others ++ number_proved (0 + k) d.outcome) long
        ∙ sym (proved-append 0 others d) in
        let r = first_seen (before ++ c ∷ []) (others ++ d ∷ []) goals cs ds longer more a.1 b.1 in
        (r.0, λ k. here k ∷ r.1 k)

    pub begun_seen :
        (goals : List Goal) (cs ds : List Claim) →
        AreFirstClaims (IsNextClaim bounds spec) [] goals cs →
        AreClaims (IsNextClaim bounds spec) [] goals ds →
        (rest : List X) × (map seen ds ≡ map seen cs ++ rest)
    begun_seen goals cs ds a b = first_seen [] [] goals cs ds refl refl a b

    pub whole_seen :
        (goals : List Goal) (cs ds : List Claim) →
        AreClaims (IsNextClaim bounds spec) [] goals cs →
        AreClaims (IsNextClaim bounds spec) [] goals ds → map seen cs ≡ map seen ds
    whole_seen goals cs ds a b =
        let Next = IsNextClaim bounds spec in
        let all : AreClaims Next [] (take (length goals) goals) cs =
        subst (λ gs. AreClaims Next [] gs cs) (sym (take-length goals)) a in
        let r = begun_seen goals cs ds (first_claims Next goals (length goals) [] cs all) b in
        let none : length r.0 ≡ 0 =
        omega (
          arith,
          ap length r.1,
          length-append (map seen cs) r.0,
          length-map cs seen,
          length-map ds seen,
          as_many Next [] goals cs a,
          as_many Next [] goals ds b,
        ) in
        sym (r.1 ∙ ap (λ xs. map seen cs ++ xs) (empty r.0 none) ∙ append-nil (map seen cs))
      where
        empty : (xs : List X) → length xs ≡ 0 → xs ≡ []
        empty [] e = refl
        empty (x ∷ xs) e = absurd (omega (arith, e))
