-- The code of sorted terms is fit, and moves keep states sound.
use Rattle.std.proofs.Common.{◌≡◌, inl, inr, ℕ, suc, ◌<◌, List, [], ◌∷◌, ◌++◌, Some, refl, ap, sym, ◌∙◌, subst, arith}
use Rattle.std.proofs.Common.{length, length-append, append_assoc}
use Rattle.std.specs.Prelude.{slice_get}
use Rattle.std.proofs.lemmas.List.{append-nil}
use Rattle.term_core.specs.Tree.{Tree, Trees, var, app, none, some, instance, instances}
use Rattle.term_core.specs.declared.ids.SortId.{SortId}
use Rattle.spec_core.specs.declared.records.SymInfo.{SymInfo}
use Rattle.spec_core.specs.declared.records.Rule.{Rule}
use Rattle.spec_core.specs.declared.records.Guard.{Guard}
use Rattle.spec_core.specs.declared.records.Spec.{Spec}
use Rattle.spec_core.specs.Sig.{info_of}
use Rattle.std.specs.List.{AllByRecursion}
use Rattle.spec_core.specs.Sorts.{Sorted, SortedAll, IsBuilt, AreBuilt, IsValue}
use Rattle.spec_core.specs.Declarations.{bool_sort}
use Rattle.spec_core.specs.WellSorted.{IsWellSorted, sorts_of}
use Rattle.spec_core.proofs.Keeps.{right_sorted, keeps}
use Rattle.spec_core.proofs.Determined.{sorted_by_left, one_rule}
use Rattle.term_core.proofs.Items.{all_at}
use Rattle.rule_code.specs.Code.{Step, build, call, End, slot, last, decide, slots, entries}
use Rattle.rule_code.specs.Compiled.{IsStep, Codes, CodesAll, IsBody, Holds, Fills, IsNext}
use Rattle.rule_code.proofs.Slots.{AreSlots, slot_kept, slot_next, holds_kept}
use Rattle.bank_machine.specs.States.{builds, enters, enters_last, returns, decides, recalls, CallsIn}
use Rattle.bank_machine.specs.Sound.{IsReady, IsFit}
use Rattle.bank_machine.specs.SoundLaws.{StartIsSound, MovesKeepSound, SoundIsReady}
use Rattle.bank_machine.proofs.Pending.{entries_kept}

module _ (spec : Spec) where
  -- a step whose slots have sorted values
  step_fit : (f : ℕ) (i : SymInfo) (u : SortId) (ss : List ℕ) (step : Step) (env : List Tree) (rest : List Step)
      (end : End) (w : SortId) → IsStep spec.sig f ss step → info_of spec.sig f ≡ Some i → i.result ≡ u →
      SortedAll spec.sig [] (slots env ss) i.args → AreBuilt spec.sig (slots env ss) →
      ((v : Tree) → IsValue spec.sig u v → IsFit spec (env ++ v ∷ []) rest end w) → IsFit spec env (step ∷ rest) end w
  step_fit f i u ss (build g us) env rest end w (c, ge, ue) known result sorted all go =
      let e : app f (slots env ss) ≡ app g (slots env us) = subst
      (λ x. app f (slots env ss) ≡ app x (slots env us)) (sym ge) (ap (λ x. app f (slots env x)) (sym ue)) in
      subst (λ x. IsFit spec (env ++ x ∷ []) rest end w) e
      (go (app f (slots env ss)) ((i, known, result, sorted), (c, all)))
  step_fit f i u ss (call g us) env rest end w (c, ge, ue) known result sorted all go =
      let r : IsReady spec f (slots env ss) u = record {
        function = c;
        built = all;
        sorted = (
          i,
          known,
          result,
          sorted,
        );
      } in (
        u,
        subst (λ x. IsReady spec x (slots env us) u) (sym ge)
            (subst (λ x. IsReady spec f (slots env x) u) (sym ue) r),
        go,
      )

  module _ (homes : List ℕ) (xs : List Tree) where
    mutual
      pub codes_fit : (t : Tree) (env : List Tree) (steps rest : List Step) (end : End) (w u : SortId)
          (s next : ℕ) → Codes spec.sig homes t (length env) steps s next → Holds spec.sig homes env xs →
          Sorted spec.sig [] (instance xs t) u → ((more : List Tree) → length (env ++ more) ≡ next → s < next →
          IsValue spec.sig u (instance (env ++ more) (var s)) → IsFit spec (env ++ more) rest end w) →
          IsFit spec env (steps ++ rest) end w
      codes_fit (var k) env steps rest end w u s next (empty, at, e) h p go =
          let q = h k s at in
          let nil = append-nil env in
          let v : IsValue spec.sig u (instance env (var s)) = (subst (λ t. Sorted spec.sig [] t u) q.1 p, q.2) in
          let d = go [] (ap length nil ∙ sym e) (omega (arith, q.0, e))
          (subst (λ es. IsValue spec.sig u (instance es (var s))) (sym nil) v) in
          subst (λ zs. IsFit spec env (zs ++ rest) end w) (sym empty) (subst (λ es. IsFit spec es rest end w) nil d)
      codes_fit (app f ts) env steps rest end w u s next (inner, ss, step, all, is, e, z) h (
        i,
        known,
        result,
        sorted,
      ) go =
          let front : steps ++ rest ≡ inner ++ (step ∷ rest) = ap (λ zs. zs ++ rest) e
          ∙ append_assoc inner (step ∷ []) rest in
          subst (λ zs. IsFit spec env zs end w) (sym front)
          (codes_all_fit ts env inner (step ∷ rest) end w i.args ss s all h sorted
          (λ more len low sorted₂ built₂.
          step_fit f i u ss step (env ++ more) rest end w is known result sorted₂ built₂
          (λ v value.
          let q = append_assoc env more (v ∷ []) in
          let here : instance (env ++ (more ++ v ∷ [])) (var s) ≡ v = ap (λ es. instance es (var s)) (sym q)
          ∙ slot_next (env ++ more) v s (sym len) in
          subst (λ es. IsFit spec es rest end w) (sym q)
          (go (more ++ v ∷ []) (omega (arith, ap length q, length-append (env ++ more) (v ∷ []), len, z))
          (omega (arith, z)) (subst (λ t. IsValue spec.sig u t) (sym here) value)))))

      pub codes_all_fit : (ts : Trees) (env : List Tree) (steps rest : List Step) (end : End) (w : SortId)
          (sorts : List SortId) (ss : List ℕ) (next : ℕ) →
          CodesAll spec.sig homes ts (length env) steps ss next → Holds spec.sig homes env xs →
          SortedAll spec.sig [] (instances xs ts) sorts →
          ((more : List Tree) → length (env ++ more) ≡ next → AreSlots next ss →
          SortedAll spec.sig [] (slots (env ++ more) ss) sorts → AreBuilt spec.sig (slots (env ++ more) ss) →
          IsFit spec (env ++ more) rest end w) → IsFit spec env (steps ++ rest) end w
      codes_all_fit none env steps rest end w [] ss next (e, u, z) h p go =
          let nil = append-nil env in
          let d = go [] (ap length nil ∙ sym z) (subst (λ x. AreSlots next x) (sym u) tt)
          (subst (λ x. SortedAll spec.sig [] (slots (env ++ []) x) []) (sym u) tt)
          (subst (λ x. AreBuilt spec.sig (slots (env ++ []) x)) (sym u) tt) in
          subst (λ zs. IsFit spec env (zs ++ rest) end w) (sym e) (subst (λ es. IsFit spec es rest end w) nil d)
      codes_all_fit none env steps rest end w (x ∷ sorts) ss next (e, u, z) h p go = absurd p
      codes_all_fit (some t ts) env steps rest end w [] ss next (a, b, s, us, mid, one, all, e, u) h p go = absurd p
      codes_all_fit (some t ts) env steps rest end w (x ∷ sorts) ss next (
        a,
        b,
        s,
        us,
        mid,
        one,
        all,
        e,
        u,
      ) h (p, ps) go =
          let front : steps ++ rest ≡ a ++ (b ++ rest) = ap (λ zs. zs ++ rest) e ∙ append_assoc a b rest in
          subst (λ zs. IsFit spec env zs end w) (sym front)
          (codes_fit t env a (b ++ rest) end w x s mid one h p
          (λ more len low value.
          codes_all_fit ts (env ++ more) b rest end w sorts us next
          (subst (λ n. CodesAll spec.sig homes ts n b us next) (sym len) all)
          (holds_kept spec.sig homes env more xs h) ps
          (λ more₂ len₂ lows sorted built₂.
          let q = append_assoc env more more₂ in
          let k : instance ((env ++ more) ++ more₂) (var s) ≡ instance (env ++ more) (var s) = slot_kept
          (env ++ more) more₂ s (omega (arith, low, len)) in
          let value₂ : IsValue spec.sig x (instance ((env ++ more) ++ more₂) (var s)) = subst
          (λ v. IsValue spec.sig x v) (sym k) value in
          let sorted₂ : SortedAll spec.sig [] (slots (env ++ (more ++ more₂)) ss) (x ∷ sorts) = subst
          (λ es. SortedAll spec.sig [] (slots es ss) (x ∷ sorts)) q
          (subst (λ zs. SortedAll spec.sig [] (slots ((env ++ more) ++ more₂) zs) (x ∷ sorts)) (sym u)
          (value₂.0, sorted)) in
          let built₃ : AreBuilt spec.sig (slots (env ++ (more ++ more₂)) ss) = subst
          (λ es. AreBuilt spec.sig (slots es ss)) q
          (subst (λ zs. AreBuilt spec.sig (slots ((env ++ more) ++ more₂) zs)) (sym u) (value₂.1, built₂)) in
          subst (λ es. IsFit spec es rest end w) (sym q)
          (go (more ++ more₂) (ap length (sym q) ∙ len₂)
          (subst (λ zs. AreSlots next zs) (sym u)
          (omega (arith, low, len, len₂, length-append (env ++ more) more₂), lows)) sorted₂ built₃))))

    pub body_fit : (t : Tree) (env : List Tree) (steps : List Step) (end : End) (w : SortId) →
        IsBody spec.sig homes t (length env) steps end → Holds spec.sig homes env xs →
        Sorted spec.sig [] (instance xs t) w → IsFit spec env steps end w
    body_fit t env steps (slot s) w (next, c) h p = subst (λ zs. IsFit spec env zs (slot s) w)
        (append-nil steps) (codes_fit t env steps [] (slot s) w w s next c h p (λ more len low value. value))
    body_fit t env steps (decide s number k hs) w c h p = absurd c
    body_fit t env steps (last f ss) w (ts, next, is, other, c) h p =
        let q : Sorted spec.sig [] (app f (instances xs ts)) w = subst
        (λ z. Sorted spec.sig [] (instance xs z) w) is p in
        subst (λ zs. IsFit spec env zs (last f ss) w) (append-nil steps)
        (codes_all_fit ts env steps [] (last f ss) w q.0.args ss next c h q.3
        (λ more len lows sorted built₂. record { function = other; built = built₂; sorted = (q.0, q.1, q.2, sorted) }))

pub start_sound : StartIsSound
start_sound spec homes env xs t steps end s fine body holds p = (
  s,
  body_fit spec homes xs t env steps end s body holds p,
  refl,
)

-- values of slots
built_entries : (spec : Spec) (env : List Tree) (homes : List ℕ) →
    ((n h : ℕ) → slice_get homes n ≡ Some h → IsBuilt spec.sig (instance env (var h))) →
    AllByRecursion (λ (t : Tree). IsBuilt spec.sig t) (entries env homes)
built_entries spec env [] h = tt
built_entries spec env (x ∷ homes) h = (h 0 x refl, built_entries spec env homes (λ n y e. h (suc n) y e))

module _ (spec : Spec) (fine : IsWellSorted spec) where
  -- the code that follows if some guards hold
  next_fit : (homes : List ℕ) (number k : ℕ) (rule : Rule) (env xs : List Tree) (steps : List Step) (end : End)
      (s : SortId) → slice_get spec.rules number ≡ Some rule → Fills spec.sig homes env xs →
      IsNext spec.sig homes number rule k (length env) steps end →
      Sorted spec.sig [] (instance xs rule.left) s → IsFit spec env steps end s
  next_fit homes number k rule env xs steps end s listed fills (inl (e, body)) p = body_fit spec homes xs
      rule.right env steps end s body fills.holds (right_sorted spec.sig rule s xs (fine.rules number rule listed) p)
  next_fit homes number k rule env xs steps end s listed fills (inr (g, i, taken, at, codes, e)) p =
      let here = fine.rules number rule listed in
      let test : Sorted spec.sig (sorts_of rule.vars) g.test bool_sort = all_at
      (λ (y : Guard). Sorted spec.sig (sorts_of rule.vars) y.test bool_sort) rule.guards here.guards k g at in
      let q = sorted_by_left spec.sig rule s xs here p g.test bool_sort test in
      subst (λ z. IsFit spec env steps z s) (sym e)
      (subst (λ zs. IsFit spec env zs (decide i number k homes) s) (append-nil steps)
      (codes_fit spec homes xs g.test env steps [] (decide i number k homes) s bool_sort i taken codes fills.holds q
      (λ more len low value.
      let es : entries (env ++ more) homes ≡ xs = entries_kept env more homes fills.below ∙ fills.are in
      let built : AllByRecursion (λ (t : Tree). IsBuilt spec.sig t) (entries env homes) = built_entries spec env
      homes (λ n h at. (fills.holds n h at).2) in (
        rule,
        listed,
        subst (λ ys. Sorted spec.sig [] (instance ys rule.left) s) (sym es) p,
        subst (λ ys. AllByRecursion (λ (t : Tree). IsBuilt spec.sig t) ys) (fills.are ∙ sym es) built,
      ))))

pub moves_sound : MovesKeepSound
moves_sound spec now next c s fine (builds) h = h
moves_sound spec now next c s fine (enters {env} {f} {ss} {steps} {end} entered e) (u, (m, ready, go), rest) =
    let p : Sorted spec.sig [] (instance e.xs e.rule.left) m = subst (λ t. Sorted spec.sig [] t m)
    (sym e.matches) ready.sorted in (
      m,
      next_fit spec fine e.homes e.number 0 e.rule entered.env e.xs entered.steps entered.end m e.listed
          e.fills e.code p,
      (u, go, rest),
    )
moves_sound spec now next c s fine (enters_last {env} {f} {ss} entered e) (u, ready, rest) =
    let p : Sorted spec.sig [] (instance e.xs e.rule.left) u = subst (λ t. Sorted spec.sig [] t u)
    (sym e.matches) ready.sorted in (
      u,
      next_fit spec fine e.homes e.number 0 e.rule entered.env e.xs entered.steps entered.end u e.listed
          e.fills e.code p,
      rest,
    )
moves_sound spec now next c s fine (returns {env} {s = i} back) (u, value, (m, go, rest)) = (
  m,
  go (instance env (var i)) value,
  rest,
)
moves_sound spec now next c s fine (decides {env} {s = i} {number} {k} {homes} entered f) (
  u,
  (rule, at, p, all),
  rest,
) =
    let same : rule ≡ f.rule = one_rule spec.rules number number rule f.rule at f.listed refl in
    let q : Sorted spec.sig [] (instance (entries env homes) f.next.left) u = subst
    (λ t. Sorted spec.sig [] (instance (entries env homes) t) u) (ap (λ (x : Rule). x.left) same ∙ sym f.left) p in (
      u,
      next_fit spec fine homes f.other (suc k) f.next entered.env (entries env homes) entered.steps
          entered.end u f.there f.fills f.code q,
      rest,
    )
moves_sound spec now next c s fine (recalls v a so p g) (u, (m, ready, go), rest) = (
  u,
  go v (keeps spec fine g m ready.sorted),
  rest,
)

ready_in : (spec : Spec) (env : List Tree) (steps : List Step) (end : End) (u : SortId) (f : ℕ) (vs : Trees) →
    IsFit spec env steps end u → CallsIn spec env steps end f vs → (m : SortId) × IsReady spec f vs m
ready_in spec env [] (slot s) u f vs h c = absurd c
ready_in spec env [] (decide s number k homes) u f vs h c = absurd c
ready_in spec env [] (last g ss) u f vs h c = (
  u,
  subst (λ z. IsReady spec f z u) c.1 (subst (λ z. IsReady spec z (slots env ss) u) c.0 h),
)
ready_in spec env (build g ss ∷ steps) end u f vs h c = absurd c
ready_in spec env (call g ss ∷ steps) end u f vs h c = (
  h.0,
  subst (λ z. IsReady spec f z h.0) c.1 (subst (λ z. IsReady spec z (slots env ss) h.0) c.0 h.1),
)

pub sound_ready : SoundIsReady
sound_ready spec now s f vs h c = ready_in spec now.top.env now.top.steps now.top.end h.0 f vs h.1 c
